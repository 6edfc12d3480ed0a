-- What may not come behind a fault or a stop, and what a reopening leaves.
use Rattle.std.proofs.Common.{◌≡◌, ℕ, ◌+◌, zero, suc, refl, subst, ◌∙◌, ap, arith, append_assoc, true, false, Bool, List, [], ◌∷◌, ◌++◌, map, Some, None}
use Rattle.std.specs.Prelude.{Option, slice_get, if◌then◌else◌}
use Rattle.std.proofs.lemmas.Option.{none-some}
use Rattle.authority_book.specs.declared.commands.Command.{Command}
use Rattle.key_ids.specs.Uris.{Bases}
use Rattle.editions.specs.Edition.{Edition}
use Rattle.histories.specs.Devices.{Device, Signature, Store, opened, stopped_from, for_desk, doubt_at, new_store}
use Rattle.histories.specs.Events.{Event, Happening, History, after, after_one, after_all, signing}
use Rattle.histories.specs.Events.Event.{Commit, Publish, DeskFault, PressFault, Stop, Reopen}
use Rattle.histories.specs.Legal.{IsAllowed, IsLegal}
use Rattle.histories.specs.Found.{store_after}
use Rattle.histories.specs.Refused.{IsReopening, AreNoReopenings}
use Rattle.histories.proofs.Lists.{same_one}
use Rattle.histories.proofs.Growing.{ends_legal, starts_legal, after_on}
use Rattle.histories.proofs.Shut.{not_both, IsInDoubt, IsDeskInDoubt, told_doubt, desk_shut, press_shut, desk_failed, press_failed, desk_until, press_until}

pub none_opened : (lists : List (List Command)) (desk : ℕ) → doubt_at (map opened lists) desk ≡ None
none_opened [] desk = refl
none_opened (list ∷ lists) zero = refl
none_opened (list ∷ lists) (suc desk) = none_opened lists desk

module _ (site : Bases) where
  -- The last of a history's events is allowed after all of the others.
  pub last_allowed : (history between : History) (one other : Happening) → IsLegal site (history ++ one ∷ between ++ other ∷ [])
      → IsAllowed site (signing (after_all (after_one (store_after history) one) between) other.signed) other.event
  last_allowed history between one other legal =
      (ends_legal site (after_one (store_after history) one) between (other ∷ [])
      (ends_legal site new_store history (one ∷ (between ++ other ∷ []))
      (subst (λ (all : History). IsLegal site all) (append_assoc history (one ∷ between) (other ∷ [])) legal)).1).0

  pub starts : (history between : History) (one other : Happening) → IsLegal site (history ++ one ∷ between ++ other ∷ [])
      → IsLegal site (history ++ one ∷ between)
  starts history between one other legal = starts_legal site new_store (history ++ one ∷ between) (other ∷ []) legal

  -- ---- behind a fault

  pub in_doubt_at : (history between : History) (signed : List Signature) (desk : ℕ) (command : Command) → AreNoReopenings between
      → IsLegal site (history ++ record { signed = signed; event = DeskFault desk command } ∷ between)
      → IsDeskInDoubt desk command (after_all (after_one (store_after history) (record { signed = signed; event = DeskFault desk command })) between)
  in_doubt_at history between signed desk command never legal =
      let fault : Happening = record { signed = signed; event = DeskFault desk command } in
      let both = ends_legal site new_store history (fault ∷ between) legal in
      desk_until site (after_one (store_after history) fault) desk command between both.1 never
      (desk_failed site (signing (store_after history) signed) desk command both.0)

  pub in_doubt : (history between : History) (signed : List Signature) (edition : Edition) → AreNoReopenings between
      → IsLegal site (history ++ record { signed = signed; event = PressFault edition } ∷ between)
      → IsInDoubt edition (after_all (after_one (store_after history) (record { signed = signed; event = PressFault edition })) between).press
  in_doubt history between signed edition never legal =
      let fault : Happening = record { signed = signed; event = PressFault edition } in
      let both = ends_legal site new_store history (fault ∷ between) legal in
      press_until site (after_one (store_after history) fault) edition between both.1 never
      (press_failed site (signing (store_after history) signed) edition)

  pub desk_doubts : (history between : History) (signed : List Signature) (desk : ℕ) (command : Command) → AreNoReopenings between
      → let whole = history ++ record { signed = signed; event = DeskFault desk command } ∷ between in
      IsLegal site whole → doubt_at (store_after whole).desks desk ≡ Some command
  desk_doubts history between signed desk command never legal =
      let fault : Happening = record { signed = signed; event = DeskFault desk command } in
      ap (λ (store : Store). doubt_at store.desks desk) (after_on new_store history (fault ∷ between))
      ∙ told_doubt desk command (after_all (after_one (store_after history) fault) between)
      (in_doubt_at history between signed desk command never legal)

  pub press_doubts : (history between : History) (signed : List Signature) (edition : Edition) → AreNoReopenings between
      → let whole = history ++ record { signed = signed; event = PressFault edition } ∷ between in
      IsLegal site whole → (store_after whole).press.doubt ≡ Some edition
  press_doubts history between signed edition never legal =
      ap (λ (store : Store). store.press.doubt)
      (after_on new_store history (record { signed = signed; event = PressFault edition } ∷ between))
      ∙ (in_doubt history between signed edition never legal).doubt

  pub commit_refused : (history between : History) (signed later : List Signature) (desk : ℕ) (command other : Command) → AreNoReopenings between
      → IsLegal site (history ++ record { signed = signed; event = DeskFault desk command } ∷ between ++ record { signed = later; event = Commit desk other } ∷ []) → ⊥
  commit_refused history between signed later desk command other never legal =
      let fault : Happening = record { signed = signed; event = DeskFault desk command } in
      let next : Happening = record { signed = later; event = Commit desk other } in
      desk_shut site (signing (after_all (after_one (store_after history) fault) between) later) desk command other
      (in_doubt_at history between signed desk command never (starts history between fault next legal))
      (last_allowed history between fault next legal)

  pub fault_refused : (history between : History) (signed later : List Signature) (desk : ℕ) (command other : Command) → AreNoReopenings between
      → IsLegal site (history ++ record { signed = signed; event = DeskFault desk command } ∷ between ++ record { signed = later; event = DeskFault desk other } ∷ []) → ⊥
  fault_refused history between signed later desk command other never legal =
      let fault : Happening = record { signed = signed; event = DeskFault desk command } in
      let next : Happening = record { signed = later; event = DeskFault desk other } in
      desk_shut site (signing (after_all (after_one (store_after history) fault) between) later) desk command other
      (in_doubt_at history between signed desk command never (starts history between fault next legal))
      (last_allowed history between fault next legal)

  pub publish_refused : (history between : History) (signed later : List Signature) (edition other : Edition) → AreNoReopenings between
      → IsLegal site (history ++ record { signed = signed; event = PressFault edition } ∷ between ++ record { signed = later; event = Publish other } ∷ []) → ⊥
  publish_refused history between signed later edition other never legal =
      let fault : Happening = record { signed = signed; event = PressFault edition } in
      let next : Happening = record { signed = later; event = Publish other } in
      press_shut site (signing (after_all (after_one (store_after history) fault) between) later) edition other
      (in_doubt history between signed edition never (starts history between fault next legal))
      (last_allowed history between fault next legal)

  pub press_fault_refused : (history between : History) (signed later : List Signature) (edition other : Edition) → AreNoReopenings between
      → IsLegal site (history ++ record { signed = signed; event = PressFault edition } ∷ between ++ record { signed = later; event = PressFault other } ∷ []) → ⊥
  press_fault_refused history between signed later edition other never legal =
      let fault : Happening = record { signed = signed; event = PressFault edition } in
      let next : Happening = record { signed = later; event = PressFault other } in
      press_shut site (signing (after_all (after_one (store_after history) fault) between) later) edition other
      (in_doubt history between signed edition never (starts history between fault next legal))
      (last_allowed history between fault next legal)

  -- ---- behind a stop

  only_reopens : (store : Store) (event : Event) → store.stopped ≡ true → IsAllowed site store event → IsReopening event
  only_reopens store (Commit desk command) stops may = absurd (not_both store.stopped stops may.running)
  only_reopens store (Publish edition) stops may = absurd (not_both store.stopped stops may.running)
  only_reopens store (DeskFault desk command) stops may = absurd (not_both store.stopped stops may.running)
  only_reopens store (PressFault edition) stops may = absurd (not_both store.stopped stops may.running)
  only_reopens store (Stop commands edition) stops may = absurd (not_both store.stopped stops may.running)
  only_reopens store (Reopen lists editions) stops may = tt

  pub stop_ends : (history : History) (signed later : List Signature) (doubts : List (Option Command)) (doubt : Option Edition) (event : Event)
      → IsLegal site (history ++ record { signed = signed; event = Stop doubts doubt } ∷ record { signed = later; event = event } ∷ []) → IsReopening event
  stop_ends history signed later doubts doubt event legal =
      only_reopens (signing (after (signing (store_after history) signed) (Stop doubts doubt)) later) event refl
      (ends_legal site new_store history
      (record { signed = signed; event = Stop doubts doubt } ∷ record { signed = later; event = event } ∷ []) legal).1.0

pub settled : (history : History) (signed : List Signature) (lists : List (List Command)) (editions : List Edition) (desk : ℕ)
    → let store = store_after (history ++ record { signed = signed; event = Reopen lists editions } ∷ []) in
    (doubt_at store.desks desk ≡ None) × (store.press.doubt ≡ None)
settled history signed lists editions desk =
    let reopened : Happening = record { signed = signed; event = Reopen lists editions } in
    let same = after_on new_store history (reopened ∷ []) in (
      ap (λ (store : Store). doubt_at store.desks desk) same ∙ none_opened lists desk,
      ap (λ (store : Store). store.press.doubt) same,
    )

-- What a stop leaves in doubt at a desk whose journal was open.
stopped_at : (n : ℕ) (doubts : List (Option Command)) (desks : List (Device Command)) (m : ℕ) (device : Device Command)
    → slice_get desks m ≡ Some device → device.shut ≡ false → doubt_at (stopped_from n doubts desks) m ≡ for_desk doubts (n + m)
stopped_at n doubts [] m device there unshut = absurd (none-some device there)
stopped_at n doubts (first ∷ desks) zero device there unshut =
    let is_open : first.shut ≡ false = ap (λ (d : Device Command). d.shut) (same_one first device there) ∙ unshut in
    let same : n ≡ n + zero = omega arith in
    ap (λ (b : Bool). if b then first.doubt else for_desk doubts n) is_open ∙ ap (for_desk doubts) same
stopped_at n doubts (first ∷ desks) (suc m) device there unshut =
    let same : (n + 1) + m ≡ n + suc m = omega arith in
    stopped_at (n + 1) doubts desks m device there unshut ∙ ap (for_desk doubts) same

pub stop_doubts : (history : History) (signed : List Signature) (commands : List (Option Command)) (edition : Option Edition) (desk : ℕ) (device : Device Command)
    → slice_get (store_after history).desks desk ≡ Some device → device.shut ≡ false
    → let store = store_after (history ++ record { signed = signed; event = Stop commands edition } ∷ []) in
    doubt_at store.desks desk ≡ for_desk commands desk
stop_doubts history signed commands edition desk device there unshut =
    let stop : Happening = record { signed = signed; event = Stop commands edition } in
    let same : zero + desk ≡ desk = omega arith in
    ap (λ (store : Store). doubt_at store.desks desk) (after_on new_store history (stop ∷ []))
    ∙ (stopped_at zero commands (store_after history).desks desk device there unshut ∙ ap (for_desk commands) same)

pub stop_press_doubts : (history : History) (signed : List Signature) (commands : List (Option Command)) (edition : Option Edition)
    → (store_after history).press.shut ≡ false
    → let store = store_after (history ++ record { signed = signed; event = Stop commands edition } ∷ []) in
    store.press.doubt ≡ edition
stop_press_doubts history signed commands edition unshut =
    let stop : Happening = record { signed = signed; event = Stop commands edition } in
    ap (λ (store : Store). store.press.doubt) (after_on new_store history (stop ∷ []))
    ∙ ap (λ (b : Bool). if b then (store_after history).press.doubt else edition) unshut
