-- What was acknowledged is what the store holds, and what was signed is what is vouched.
use Rattle.std.proofs.Common.{◌≡◌, ℕ, zero, suc, refl, sym, ◌∙◌, ap, List, [], ◌∷◌, ◌++◌, append_assoc}
use Rattle.std.proofs.lemmas.List.{append-nil}
use Rattle.authority_book.specs.declared.commands.Command.{Command}
use Rattle.authority_book.specs.Verdict.{most_authorities}
use Rattle.key_ids.specs.Uris.{Bases}
use Rattle.editions.specs.Step.{Premises}
use Rattle.histories.specs.Devices.{Device, Signature, Store, are_vouched, with_one, failed, changed_at, lists_of, new_store}
use Rattle.histories.specs.Events.{Event, History, after, after_one, after_all, signing}
use Rattle.histories.specs.Events.Event.{Commit, Publish, DeskFault, PressFault, Stop, Reopen}
use Rattle.histories.specs.Legal.{ground_of}
use Rattle.histories.specs.Acknowledged.{Acknowledged, acknowledging, acknowledging_all, acknowledged, signatures_of, ground_after}
use Rattle.histories.specs.Found.{store_after}
use Rattle.histories.proofs.Growing.{lists_stopped, lists_opened, lists_new}

abbrev held : Store → Acknowledged
held store = record { commands = lists_of store.desks; editions = store.press.list }

abbrev with_commands : Store → List (List Command) → Acknowledged
with_commands store commands = record { commands = commands; editions = store.press.list }

desks_with : (n : ℕ) (command : Command) (desks : List (Device Command))
    → lists_of (changed_at n (with_one command) desks) ≡ changed_at n (λ list. list ++ command ∷ []) (lists_of desks)
desks_with n command [] = refl
desks_with zero command (d ∷ desks) = refl
desks_with (suc n) command (d ∷ desks) = ap (λ (rest : List (List Command)). d.list ∷ rest) (desks_with n command desks)

desks_failed : (n : ℕ) (command : Command) (desks : List (Device Command))
    → lists_of (changed_at n (failed command) desks) ≡ lists_of desks
desks_failed n command [] = refl
desks_failed zero command (d ∷ desks) = refl
desks_failed (suc n) command (d ∷ desks) = ap (λ (rest : List (List Command)). d.list ∷ rest) (desks_failed n command desks)

held_after : (store : Store) (e : Event) → held (after store e) ≡ acknowledging (held store) e
held_after store (Commit desk command) = ap (with_commands store) (desks_with desk command store.desks)
held_after store (Publish edition) = refl
held_after store (DeskFault desk command) = ap (with_commands store) (desks_failed desk command store.desks)
held_after store (PressFault edition) = refl
held_after store (Stop commands edition) = ap (with_commands store) (lists_stopped 0 commands store.desks)
held_after store (Reopen lists editions) =
    ap (λ (l : List (List Command)). record { commands = l; editions = editions }) (lists_opened lists)

held_through : (store : Store) (history : History) → held (after_all store history) ≡ acknowledging_all (held store) history
held_through store [] = refl
held_through store (h ∷ rest) = held_through (after_one store h) rest
    ∙ ap (λ (told : Acknowledged). acknowledging_all told rest) (held_after (signing store h.signed) h.event)

held_is : (history : History) → held (store_after history) ≡ acknowledged history
held_is history = held_through new_store history
    ∙ ap (λ (l : List (List Command)). acknowledging_all (record { commands = l; editions = [] }) history) (lists_new most_authorities)

pub commands_are : (history : History) → lists_of (store_after history).desks ≡ (acknowledged history).commands
commands_are history = ap (λ (told : Acknowledged). told.commands) (held_is history)

pub editions_are : (history : History) → (store_after history).press.list ≡ (acknowledged history).editions
editions_are history = ap (λ (told : Acknowledged). told.editions) (held_is history)

-- ---- signatures

same_vouched : (store : Store) (e : Event) → (after store e).vouched ≡ store.vouched
same_vouched store (Commit desk command) = refl
same_vouched store (Publish edition) = refl
same_vouched store (DeskFault desk command) = refl
same_vouched store (PressFault edition) = refl
same_vouched store (Stop commands edition) = refl
same_vouched store (Reopen lists editions) = refl

pub vouched_through : (store : Store) (history : History) → (after_all store history).vouched ≡ store.vouched ++ signatures_of history
vouched_through store [] = sym (append-nil store.vouched)
vouched_through store (h ∷ rest) = vouched_through (after_one store h) rest
    ∙ (ap (λ (v : List Signature). v ++ signatures_of rest) (same_vouched (signing store h.signed) h.event)
    ∙ append_assoc store.vouched h.signed (signatures_of rest))

-- ---- what editions are made over

pub ground_is : (site : Bases) (history : History) → ground_of site (store_after history) ≡ ground_after site history
ground_is site history =
    let over : List (List Command) → List Signature → Premises =
    λ lists signed. record { lists = lists; site = site; vouched = are_vouched signed } in
    ap (λ (lists : List (List Command)). over lists (store_after history).vouched) (commands_are history)
    ∙ ap (λ (signed : List Signature). over (acknowledged history).commands signed) (vouched_through new_store history)
