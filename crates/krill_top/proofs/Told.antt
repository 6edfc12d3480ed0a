-- What was acknowledged in a history is what its store holds.
use Rattle.std.proofs.Common.{◌≡◌, ℕ, ◌+◌, zero, suc, refl, ◌∙◌, ap, List, [], ◌∷◌, ◌++◌, map, replicate}
use Rattle.std.specs.Prelude.{Option}
use Rattle.authority_book.specs.declared.commands.Command.{Command}
use Rattle.authority_book.specs.Verdict.{most_authorities}
use Rattle.histories.specs.Devices.{Device, Store, opened, with_one, failed, changed_at, stopped_from, lists_of, new_store}
use Rattle.histories.specs.Events.{Event, History, after, after_one, after_all, signing}
use Rattle.histories.specs.Events.Event.{Commit, Publish, DeskFault, PressFault, Stop, Reopen}
use Rattle.histories.specs.Acknowledged.{Acknowledged, acknowledging, acknowledging_all, acknowledged}
use Rattle.histories.specs.Found.{store_after}

abbrev held : Store → Acknowledged
held store = record { commands = lists_of store.desks; editions = store.press.list }

abbrev with_commands : Store → List (List Command) → Acknowledged
with_commands store commands = record { commands = commands; editions = store.press.list }

desks_with : (n : ℕ) (command : Command) (desks : List (Device Command)) → lists_of (changed_at n (with_one command) desks) ≡ changed_at n (λ list. list ++ command ∷ []) (lists_of desks)
desks_with n command [] = refl
desks_with zero command (d ∷ desks) = refl
desks_with (suc n) command (d ∷ desks) = ap (λ (rest : List (List Command)). d.list ∷ rest) (desks_with n command desks)

desks_failed : (n : ℕ) (command : Command) (desks : List (Device Command)) → lists_of (changed_at n (failed command) desks) ≡ lists_of desks
desks_failed n command [] = refl
desks_failed zero command (d ∷ desks) = refl
desks_failed (suc n) command (d ∷ desks) = ap (λ (rest : List (List Command)). d.list ∷ rest) (desks_failed n command desks)

lists_stopped : (n : ℕ) (doubts : List (Option Command)) (desks : List (Device Command)) → lists_of (stopped_from n doubts desks) ≡ lists_of desks
lists_stopped n doubts [] = refl
lists_stopped n doubts (d ∷ desks) = ap (λ (rest : List (List Command)). d.list ∷ rest) (lists_stopped (n + 1) doubts desks)

lists_opened : (lists : List (List Command)) → lists_of (map opened lists) ≡ lists
lists_opened [] = refl
lists_opened (list ∷ lists) = ap (λ (rest : List (List Command)). list ∷ rest) (lists_opened lists)

lists_new : (n : ℕ) → lists_of (replicate n (opened [])) ≡ replicate n []
lists_new zero = refl
lists_new (suc n) = ap (λ (rest : List (List Command)). [] ∷ rest) (lists_new n)

held_after : (store : Store) (e : Event) → held (after store e) ≡ acknowledging (held store) e
held_after store (Commit desk command) = ap (with_commands store) (desks_with desk command store.desks)
held_after store (Publish edition) = refl
held_after store (DeskFault desk command) = ap (with_commands store) (desks_failed desk command store.desks)
held_after store (PressFault edition) = refl
held_after store (Stop commands edition) = ap (with_commands store) (lists_stopped 0 commands store.desks)
held_after store (Reopen lists editions) = ap (λ (l : List (List Command)). record { commands = l; editions = editions }) (lists_opened lists)

held_through : (store : Store) (history : History) → held (after_all store history) ≡ acknowledging_all (held store) history
held_through store [] = refl
held_through store (h ∷ rest) = held_through (after_one store h) rest ∙ ap (λ (told : Acknowledged). acknowledging_all told rest) (held_after (signing store h.signed) h.event)

held_is : (history : History) → held (store_after history) ≡ acknowledged history
held_is history = held_through new_store history ∙ ap (λ (l : List (List Command)). acknowledging_all (record { commands = l; editions = [] }) history) (lists_new most_authorities)

pub commands_are : (history : History) → lists_of (store_after history).desks ≡ (acknowledged history).commands
commands_are history = ap (λ (told : Acknowledged). told.commands) (held_is history)

pub editions_are : (history : History) → (store_after history).press.list ≡ (acknowledged history).editions
editions_are history = ap (λ (told : Acknowledged). told.editions) (held_is history)
