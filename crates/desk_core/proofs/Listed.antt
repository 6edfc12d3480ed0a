-- The commands that payloads record, from one on.
use Rattle.std.proofs.Common.{◌≡◌, ◌<◌, ◌+◌, ℕ, zero, suc, Some, List, [], ◌∷◌, ◌++◌, map, take, drop, length, refl, sym, ◌∙◌, ap, arith, get_or, length-drop}
use Rattle.std.specs.List.{slice_get, AllByRecursion}
use Rattle.std.proofs.lemmas.List.{take_more, get_or-drop}
use Rattle.std.proofs.lemmas.List.Elements.{recursion_from_All}
use Rattle.std.proofs.lemmas.Option.{slice_get_within, get_or_from_slice_get}
use Rattle.authority_book.specs.declared.commands.Command.{Command}
use Rattle.cmd_codec.specs.Spelling.{spelling, IsRecordable}
use Rattle.desk_core.specs.Commands.{Records}

-- the command that a payload records, and its place
pub record CommandAt (commands : List Command) (at : ℕ) (payload : List ℕ) : Type 0 where
  pub command : Command
  pub recordable : IsRecordable command
  pub spelled : payload ≡ spelling command
  pub there : slice_get commands at ≡ Some command

nth : (commands : List Command) → AllByRecursion IsRecordable commands → (at : ℕ) (payload : List ℕ) → slice_get (map spelling commands) at ≡ Some payload → CommandAt commands at payload
nth [] p at payload e = cc
nth (x ∷ commands) p zero payload e = record { command = x; recordable = p.0; spelled = cc; there = refl }
nth (x ∷ commands) p (suc at) payload e = let rest = nth commands p.1 at payload e in record { command = rest.command; recordable = rest.recordable; spelled = rest.spelled; there = rest.there }

pub command_at : (number : ℕ) (records : List (List ℕ)) (commands : List Command) (at : ℕ) (payload : List ℕ) → Records number records commands → slice_get records at ≡ Some payload → CommandAt commands at payload
command_at number records commands at payload recorded e =
    nth commands (recursion_from_All IsRecordable commands recorded.recordable) at payload (ap (λ (r : List (List ℕ)). slice_get r at) (sym recorded.spelled) ∙ e)

-- one command more
pub listed_more : (commands found : List Command) (from i : ℕ) (payload : List ℕ) (command : Command) → CommandAt commands (from + i) payload →
    ((other : Command) → IsRecordable other → payload ≡ spelling other → command ≡ other) → found ≡ take i (drop from commands) → found ++ command ∷ [] ≡ take (i + 1) (drop from commands)
listed_more commands found from i payload command at only so_far =
    let same : command ≡ at.command = only at.command at.recordable at.spelled in
    let there : get_or commands (from + i) command ≡ at.command = get_or_from_slice_get commands (from + i) at.command command at.there in
    let below : from + i < length commands = slice_get_within commands (from + i) at.command at.there in
    let more = take_more (drop from commands) i command (omega (arith, below, length-drop from commands)) in
    let one : get_or (drop from commands) i command ≡ command = get_or-drop from commands i command ∙ (there ∙ sym same) in
    let back = sym one in
    (λ k. so_far k ++ back k ∷ []) ∙ sym more
