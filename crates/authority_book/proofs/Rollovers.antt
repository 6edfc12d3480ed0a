-- Rollovers are begun and activated in turn.
use Rattle.std.proofs.Common.{◌≡◌, ◌≢◌, ◌≤◌, ◌+◌, ◌-◌, ◌^◌, ℕ, Bool, true, false, refl, arith, List, [], ◌∷◌}
use Rattle.std.specs.Prelude.{◌==◌, min, not, nat_lt, is_some}
use Rattle.std.proofs.Math.Nat.{le-min, min-le_left, min-le_right}
use Rattle.std.proofs.lemmas.Bool.{eqb-false, ltb-false}
use Rattle.authority_book.specs.declared.commands.Command.{Command}
use Rattle.authority_book.specs.declared.commands.Command.TheVariants.{Add, Delete, AddParent, AddChild, UpdateChild, RemoveChild, SuspendChild, UnsuspendChild, UpdateRoas, InitRoll, ActivateRoll}
use Rattle.authority_book.specs.declared.refusals.Refusal.TheVariants.{NoParent, RollGoing, NoRoll, NotForAnchor}
use Rattle.authority_book.specs.Settings.{Settings}
use Rattle.authority_book.specs.Verdict.{refused_if, is_anchor, IsAccepted}
use Rattle.authority_book.specs.Fold.{rolled, after, after_all, empty_settings, fold_of, AcceptedInTurn, Taken}
use Rattle.authority_book.proofs.Changes.{none_first}
use Rattle.authority_book.proofs.Limits.{in_force, not_refused}

-- As many are activated as begun, or one fewer, and their number has 32 bits.
abbrev InTurn : ℕ → ℕ → Type 0
InTurn inits activates = (activates ≤ inits) × (inits ≤ activates + 1) × (inits ≤ 2 ^ 32 - 1)

-- ---- one more, up to a limit

one_begun : (limit inits activates : ℕ) → activates ≤ inits → inits ≤ limit → inits ≤ activates
    → (activates ≤ min (inits + 1) limit) × (min (inits + 1) limit ≤ activates + 1) × (min (inits + 1) limit ≤ limit)
one_begun limit inits activates behind bounded idle =
    let left = min-le_left (inits + 1) limit in
    (le-min (omega (arith, behind)) (omega (arith, behind, bounded)), omega (arith, left, idle), min-le_right (inits + 1) limit)

one_activated : (limit inits activates : ℕ) → activates ≤ inits → inits ≤ activates + 1 → inits ≤ limit → inits ≢ activates
    → (min (activates + 1) limit ≤ inits) × (inits ≤ min (activates + 1) limit + 1)
one_activated limit inits activates behind close bounded going =
    let left = min-le_left (activates + 1) limit in
    let whole : activates + 1 ≤ min (activates + 1) limit = le-min (omega arith) (omega (arith, behind, bounded, going)) in
    (omega (arith, left, behind, going), omega (arith, whole, close))

-- ---- accepted commands

-- A rollover begins where none is going.
none_going : (s : Settings) → IsAccepted s InitRoll → s.inits ≤ s.activates
none_going s accepted =
    let free = none_first (refused_if (is_anchor s) NotForAnchor) _ (in_force s InitRoll accepted) in
    let parent = none_first (refused_if (not (is_some s.parent)) NoParent) _ free.1 in
    ltb-false s.activates s.inits (not_refused (nat_lt s.activates s.inits) RollGoing parent.1)

-- One is activated where one is going.
one_going : (s : Settings) → IsAccepted s ActivateRoll → s.inits ≢ s.activates
one_going s accepted =
    let free = none_first (refused_if (is_anchor s) NotForAnchor) _ (in_force s ActivateRoll accepted) in
    eqb-false s.inits s.activates (not_refused (s.inits == s.activates) NoRoll free.1)

turn_after : (s : Settings) (command : Command) → InTurn s.inits s.activates → IsAccepted s command
    → InTurn (after s command).inits (after s command).activates
turn_after s (Add name signer) turn accepted = turn
turn_after s Delete turn accepted = turn
turn_after s (AddParent parent) turn accepted = turn
turn_after s (AddChild child grant) turn accepted = turn
turn_after s (UpdateChild child grant) turn accepted = turn
turn_after s (RemoveChild child) turn accepted = turn
turn_after s (SuspendChild child) turn accepted = turn
turn_after s (UnsuspendChild child) turn accepted = turn
turn_after s (UpdateRoas added removed) turn accepted = turn
turn_after s InitRoll (behind, close, bounded) accepted =
    one_begun (2 ^ 32 - 1) s.inits s.activates behind bounded (none_going s accepted)
turn_after s ActivateRoll (behind, close, bounded) accepted =
    let both = one_activated (2 ^ 32 - 1) s.inits s.activates behind close bounded (one_going s accepted) in
    (both.0, both.1, bounded)

turn_all : (s : Settings) (commands : List Command) → InTurn s.inits s.activates → AcceptedInTurn s commands
    → InTurn (after_all s commands).inits (after_all s commands).activates
turn_all s [] turn accepted = turn
turn_all s (command ∷ commands) turn accepted =
    turn_all (after s command) commands (turn_after s command turn accepted.0) accepted.1

pub in_turn : (desk : ℕ) (commands : List Command) → Taken desk commands
    → ((fold_of desk commands).activates ≤ (fold_of desk commands).inits)
    × ((fold_of desk commands).inits ≤ (fold_of desk commands).activates + 1)
in_turn desk commands taken =
    let turn = turn_all (empty_settings desk) commands (omega arith, omega arith, omega arith) taken in
    (turn.0, turn.1)
