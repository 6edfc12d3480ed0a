-- The lists of a store only grow.
use Rattle.std.proofs.Common.{◌≡◌, ℕ, ◌+◌, zero, suc, refl, sym, subst, ◌∙◌, ap, ⊎_elim, List, [], ◌∷◌, ◌++◌, length, map, replicate, get_or, Some, append_assoc, arith, inl}
use Rattle.std.specs.Prelude.{Option, slice_get}
use Rattle.std.proofs.lemmas.List.{append-nil}
use Rattle.authority_book.specs.declared.commands.Command.{Command}
use Rattle.key_ids.specs.Uris.{Bases}
use Rattle.editions.specs.Step.{AreMore}
use Rattle.histories.specs.Devices.{Device, Store, opened, with_one, failed, changed_at, stopped_from, lists_of, doubt_at}
use Rattle.histories.specs.Events.{Event, History, after, after_one, after_all, signing}
use Rattle.histories.specs.Events.Event.{Commit, Publish, DeskFault, PressFault, Stop, Reopen}
use Rattle.histories.specs.Legal.{IsFound, AreFound, IsAllowed, AreAllowed}

-- A list that begins with another.
abbrev pub Begins : {X : Type 0} → List X → List X → Type 0
Begins {X} list more = (rest : List X) × (more ≡ list ++ rest)

pub begins_same : {X : Type 0} (list : List X) → Begins list list
begins_same list = ([], sym (append-nil list))

begins_on : {X : Type 0} (a b c : List X) → Begins a b → Begins b c → Begins a c
begins_on {X} a b c first second = (
  first.0 ++ second.0,
  second.1 ∙ (ap (λ (l : List X). l ++ second.0) first.1 ∙ append_assoc a first.0 second.0),
)

pub more_same : (lists : List (List Command)) → AreMore lists lists
more_same [] = tt
more_same (list ∷ lists) = (begins_same list, more_same lists)

pub more_on : (a b c : List (List Command)) → AreMore a b → AreMore b c → AreMore a c
more_on [] [] [] first second = tt
more_on [] [] (z ∷ c) first second = absurd second
more_on [] (y ∷ b) c first second = absurd first
more_on (x ∷ a) [] c first second = absurd first
more_on (x ∷ a) (y ∷ b) [] first second = absurd second
more_on (x ∷ a) (y ∷ b) (z ∷ c) first second =
    (begins_on x y z first.0 second.0, more_on a b c first.1 second.1)

-- A change that leaves or lengthens a list leaves no list shorter.
pub more_changed : (f : Device Command → Device Command) → ((d : Device Command) → Begins d.list (f d).list)
    → (n : ℕ) (desks : List (Device Command)) → AreMore (lists_of desks) (lists_of (changed_at n f desks))
more_changed f longer n [] = tt
more_changed f longer zero (d ∷ desks) = (longer d, more_same (lists_of desks))
more_changed f longer (suc n) (d ∷ desks) = (begins_same d.list, more_changed f longer n desks)

pub lists_stopped : (n : ℕ) (doubts : List (Option Command)) (desks : List (Device Command))
    → lists_of (stopped_from n doubts desks) ≡ lists_of desks
lists_stopped n doubts [] = refl
lists_stopped n doubts (d ∷ desks) = ap (λ (rest : List (List Command)). d.list ∷ rest) (lists_stopped (n + 1) doubts desks)

pub lists_opened : (lists : List (List Command)) → lists_of (map opened lists) ≡ lists
lists_opened [] = refl
lists_opened (list ∷ lists) = ap (λ (rest : List (List Command)). list ∷ rest) (lists_opened lists)

pub lists_new : (n : ℕ) → lists_of (replicate n (opened [])) ≡ replicate n []
lists_new zero = refl
lists_new (suc n) = ap (λ (rest : List (List Command)). [] ∷ rest) (lists_new n)

-- ---- what is found

pub found_more : {X : Type 0} (list : List X) (doubt : Option X) (found : List X) → IsFound list doubt found → Begins list found
found_more list doubt found = ⊎_elim
    (λ same. ([], same ∙ sym (append-nil list)))
    (λ more. (more.0 ∷ [], more.2))

pub all_found_more : (desks : List (Device Command)) (lists : List (List Command)) → AreFound desks lists → AreMore (lists_of desks) lists
all_found_more [] [] found = tt
all_found_more [] (list ∷ lists) found = absurd found
all_found_more (d ∷ desks) [] found = absurd found
all_found_more (d ∷ desks) (list ∷ lists) found = (found_more d.list d.doubt list found.0, all_found_more desks lists found.1)

pub count_found : (desks : List (Device Command)) (lists : List (List Command)) → AreFound desks lists → length lists ≡ length desks
count_found [] [] found = refl
count_found [] (list ∷ lists) found = absurd found
count_found (d ∷ desks) [] found = absurd found
count_found (d ∷ desks) (list ∷ lists) found = ap suc (count_found desks lists found.1)

pub found_at : (desks : List (Device Command)) (lists : List (List Command)) → AreFound desks lists → (desk : ℕ)
    → IsFound (get_or (lists_of desks) desk []) (doubt_at desks desk) (get_or lists desk [])
found_at [] [] found desk = inl refl
found_at [] (list ∷ lists) found desk = absurd found
found_at (d ∷ desks) [] found desk = absurd found
found_at (d ∷ desks) (list ∷ lists) found zero = found.0
found_at (d ∷ desks) (list ∷ lists) found (suc desk) = found_at desks lists found.1 desk

pub each_found : (desks : List (Device Command)) (lists : List (List Command)) → length lists ≡ length desks
    → ((desk : ℕ) → IsFound (get_or (lists_of desks) desk []) (doubt_at desks desk) (get_or lists desk [])) → AreFound desks lists
each_found [] [] same each = tt
each_found [] (list ∷ lists) same each = absurd (omega (arith, same))
each_found (d ∷ desks) [] same each = absurd (omega (arith, same))
each_found (d ∷ desks) (list ∷ lists) same each =
    (each 0, each_found desks lists (omega (arith, same)) (λ (desk : ℕ). each (suc desk)))

-- What holds of no commands, and of the list of each desk, holds of the list at any place.
pub at_desk : (P : List Command → Type 0) (desks : List (Device Command)) (desk : ℕ) → P []
    → ((device : Device Command) → slice_get desks desk ≡ Some device → P device.list) → P (get_or (lists_of desks) desk [])
at_desk P [] desk none each = none
at_desk P (d ∷ desks) zero none each = each d refl
at_desk P (d ∷ desks) (suc desk) none each = at_desk P desks desk none each

-- ---- events

module _ (site : Bases) where
  more_after_event : (store : Store) (e : Event) → IsAllowed site store e → AreMore (lists_of store.desks) (lists_of (after store e).desks)
  more_after_event store (Commit desk command) may =
      more_changed (with_one command) (λ d. (command ∷ [], refl)) desk store.desks
  more_after_event store (Publish edition) may = more_same (lists_of store.desks)
  more_after_event store (DeskFault desk command) may =
      more_changed (failed command) (λ d. begins_same d.list) desk store.desks
  more_after_event store (PressFault edition) may = more_same (lists_of store.desks)
  more_after_event store (Stop commands edition) may =
      subst (AreMore (lists_of store.desks)) (sym (lists_stopped 0 commands store.desks)) (more_same (lists_of store.desks))
  more_after_event store (Reopen lists editions) may =
      subst (AreMore (lists_of store.desks)) (sym (lists_opened lists)) (all_found_more store.desks lists may.desks)

  pub more_after : (store : Store) (later : History) → AreAllowed site store later
      → AreMore (lists_of store.desks) (lists_of (after_all store later).desks)
  more_after store [] legal = more_same (lists_of store.desks)
  more_after store (h ∷ later) legal =
      more_on (lists_of store.desks) (lists_of (after_one store h).desks) (lists_of (after_all store (h ∷ later)).desks)
      (more_after_event (signing store h.signed) h.event legal.0) (more_after (after_one store h) later legal.1)

  begins_after_event : (store : Store) (e : Event) → IsAllowed site store e → Begins store.press.list (after store e).press.list
  begins_after_event store (Commit desk command) may = begins_same store.press.list
  begins_after_event store (Publish edition) may = (edition ∷ [], refl)
  begins_after_event store (DeskFault desk command) may = begins_same store.press.list
  begins_after_event store (PressFault edition) may = begins_same store.press.list
  begins_after_event store (Stop commands edition) may = begins_same store.press.list
  begins_after_event store (Reopen lists editions) may = found_more store.press.list store.press.doubt editions may.press

  pub begins_after : (store : Store) (later : History) → AreAllowed site store later
      → Begins store.press.list (after_all store later).press.list
  begins_after store [] legal = begins_same store.press.list
  begins_after store (h ∷ later) legal =
      begins_on store.press.list (after_one store h).press.list (after_all store (h ∷ later)).press.list
      (begins_after_event (signing store h.signed) h.event legal.0) (begins_after (after_one store h) later legal.1)

  -- ---- a history in two

  pub ends_legal : (store : Store) (history more : History) → AreAllowed site store (history ++ more)
      → AreAllowed site (after_all store history) more
  ends_legal store [] more legal = legal
  ends_legal store (h ∷ rest) more legal = ends_legal (after_one store h) rest more legal.1

  pub starts_legal : (store : Store) (history more : History) → AreAllowed site store (history ++ more)
      → AreAllowed site store history
  starts_legal store [] more legal = tt
  starts_legal store (h ∷ rest) more legal = (legal.0, starts_legal (after_one store h) rest more legal.1)

  pub joins_legal : (store : Store) (history more : History) → AreAllowed site store history
      → AreAllowed site (after_all store history) more → AreAllowed site store (history ++ more)
  joins_legal store [] more legal next = next
  joins_legal store (h ∷ rest) more legal next = (legal.0, joins_legal (after_one store h) rest more legal.1 next)

pub after_on : (store : Store) (history more : History) → after_all store (history ++ more) ≡ after_all (after_all store history) more
after_on store [] more = refl
after_on store (h ∷ rest) more = after_on (after_one store h) rest more
