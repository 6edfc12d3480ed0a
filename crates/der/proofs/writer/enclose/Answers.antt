use Rattle.std.proofs.Common.{◌≡◌, ◌-◌, ◌∷◌, ◌++◌, ◌∙◌, ℕ, List, length, take, drop, ap, arith}
use Rattle.std.proofs.lemmas.List.{length-drop, take_at, drop_at}
use Rattle.der.specs.Spelling.{length_bytes, spelled}
use Rattle.der.proofs.Moves.{moved}
use Rattle.der.proofs.writer.enclose.Goals as goal

pub returns-clause-ok : goal.returns-clause-ok
unfolding spelled
returns-clause-ok c =
    let old = c.args.out.now.items in
    let items = c.header.new.out.items in
    let from = c.args.from in
    let same : c.deref_mut.result.now ≡ items = c.deref_mut.ensures.value in
    let before : c.len-len.result ≡ length old = omega (arith, c.len-len.ensures) in
    let size : c.header.new.out.len ≡ length items = omega (arith, c.deref_mut.ensures.len, ap length same) in
    let count : c.len.result - c.len-len.result ≡ length items - length old = omega (arith, c.len.ensures) in
    let content : length (drop from old) ≡ c.len-len.result - from = omega (arith, length-drop from old) in
    let brought = c.bring.ensures ∙ ap (λ (n : ℕ). take from c.deref_mut.result.now ++ (drop (length c.deref_mut.result.now - n) c.deref_mut.result.now ++ drop from (take (length c.deref_mut.result.now - n) c.deref_mut.result.now))) count ∙ ap (λ (l : List ℕ). take from l ++ (drop (length l - (length items - length old)) l ++ drop from (take (length l - (length items - length old)) l))) same in
    rw content (moved c.bring.new.bytes items old (c.args.tag ∷ length_bytes (c.len-len.result - from)) c.header.new.out.len from size c.in_ok-header.ensures.ok c.requires brought)

pub returns-clause-behind : goal.returns-clause-behind
returns-clause-behind c front content e size =
    let old : List ℕ = c.args.out.now.items in
    let before : take c.args.from old ≡ front = ap (take c.args.from) e ∙ take_at front content c.args.from size in
    let after : drop c.args.from old ≡ content = ap (drop c.args.from) e ∙ drop_at front content c.args.from size in
    returns-clause-ok c ∙ ap (λ (l : List ℕ). l ++ spelled c.args.tag (drop c.args.from old)) before ∙ ap (λ (l : List ℕ). front ++ spelled c.args.tag l) after
