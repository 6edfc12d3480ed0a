use Rattle.std.proofs.Common.{◌≡◌, ◌∙◌, ◌<◌, ◌^◌, ℕ, List, [], ◌∷◌, ◌++◌, length, drop, ap, rules, arith, length-drop}
use Rattle.gate_journal.specs.Storing.{entry_bytes}
use Rattle.gate_journal.proofs.Entries.{ended_entry, of_entry, kept_entry}
use Rattle.gate_journal.proofs.entry.Entry.ended.Goals as goal

pub invariant_of-result : goal.invariant_of-result
invariant_of-result c =
    let buffer = c.args.buffer.items in
    let all : length buffer < 2 ^ 64 = search rules in
    let few : length (drop 8 buffer) < 2 ^ 64 = omega (arith, all, length-drop 8 buffer) in
    let is : c.push_reserved.new.self.items ≡ entry_bytes (drop 8 buffer) = c.push_reserved.ensures.items ∙ ap (λ (l : List ℕ). l ++ 0 ∷ []) c.with_length-bytes.ensures.items ∙ ended_entry buffer in
    kept_entry c.push_reserved.new.self.items (drop 8 buffer) few is

pub returns : goal.returns
returns c =
    let buffer = c.args.buffer.items in
    let all : length buffer < 2 ^ 64 = search rules in
    let few : length (drop 8 buffer) < 2 ^ 64 = omega (arith, all, length-drop 8 buffer) in
    let is : c.push_reserved.new.self.items ≡ entry_bytes (drop 8 buffer) = c.push_reserved.ensures.items ∙ ap (λ (l : List ℕ). l ++ 0 ∷ []) c.with_length-bytes.ensures.items ∙ ended_entry buffer in
    of_entry c.push_reserved.new.self.items (drop 8 buffer) few is
