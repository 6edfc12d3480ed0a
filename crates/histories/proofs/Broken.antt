-- Lists of events that break one rule each.
use Rattle.std.proofs.Common.{◌≡◌, ◌≢◌, ℕ, ◌+◌, ◌<◌, zero, suc, refl, sym, subst, ◌∙◌, ap, arith, append_assoc, ⊎_elim, true, false, List, [], ◌∷◌, ◌++◌, length, map, get_or, Some, None, Ok}
use Rattle.std.specs.Prelude.{Option, IfSome, Result, Err, slice_get}
use Rattle.std.proofs.lemmas.Option.{none-some}
use Rattle.authority_book.specs.declared.commands.Command.{Command}
use Rattle.key_ids.specs.Uris.{Bases}
use Rattle.pub_set.specs.declared.objects.Object.{Object}
use Rattle.editions.specs.Edition.{Edition, cut_at}
use Rattle.editions.specs.Step.{AreMore, BeginsWith}
use Rattle.press_core.specs.JournalRecords.{press_limit}
use Rattle.histories.specs.Devices.{Device, Signature, Store, are_vouched, opened, for_desk, lists_of, doubt_at, new_store}
use Rattle.histories.specs.Events.{Happening, History, after, after_one, after_all, signing}
use Rattle.histories.specs.Events.Event.{Commit, Publish, DeskFault, PressFault, Stop, Reopen}
use Rattle.histories.specs.Legal.{CanBeWritten, MayBePublished, MayReopen, IsFound, IsAllowed, IsLegal, bytes_for, most_bytes, press_bytes_for}
use Rattle.histories.specs.Acknowledged.{Acknowledged, acknowledging, acknowledging_all, acknowledged, commands_of, editions_of, signatures_of, ground_after}
use Rattle.histories.specs.Found.{store_after, latest}
use Rattle.histories.specs.Refused.{AreNoReopenings}
use Rattle.histories.proofs.Lists.{same_one, placed}
use Rattle.histories.proofs.Growing.{ends_legal, found_at, lists_opened}
use Rattle.histories.proofs.Told.{commands_are, editions_are}
use Rattle.histories.proofs.Kept.{vouches_more}
use Rattle.histories.proofs.Shut.{not_both, desk_shut, press_shut}
use Rattle.histories.proofs.Holds.{commands_stand}
use Rattle.histories.proofs.Ended.{none_opened, last_allowed, starts, in_doubt_at, in_doubt}

-- ---- what was acknowledged and signed, in two parts

told_on : (told : Acknowledged) (history more : History)
    → acknowledging_all told (history ++ more) ≡ acknowledging_all (acknowledging_all told history) more
told_on told [] more = refl
told_on told (h ∷ rest) more = told_on (acknowledging told h.event) rest more

signed_on : (history more : History) → signatures_of (history ++ more) ≡ signatures_of history ++ signatures_of more
signed_on [] more = refl
signed_on (h ∷ rest) more =
    ap (λ (s : List Signature). h.signed ++ s) (signed_on rest more)
    ∙ sym (append_assoc h.signed (signatures_of rest) (signatures_of more))

more_at : (lists mores : List (List Command)) → AreMore lists mores → (desk : ℕ)
    → BeginsWith (get_or lists desk []) (get_or mores desk [])
more_at [] [] more desk = ([], refl)
more_at [] (m ∷ mores) more desk = absurd more
more_at (l ∷ lists) [] more desk = absurd more
more_at (l ∷ lists) (m ∷ mores) more zero = more.0
more_at (l ∷ lists) (m ∷ mores) more (suc desk) = more_at lists mores more.1 desk

list_there : (desks : List (Device Command)) (desk : ℕ) (device : Device Command) → slice_get desks desk ≡ Some device
    → get_or (lists_of desks) desk [] ≡ device.list
list_there [] desk device there = absurd (none-some device there)
list_there (d ∷ desks) zero device there = ap (λ (x : Device Command). x.list) (same_one d device there)
list_there (d ∷ desks) (suc desk) device there = list_there desks desk device there

none_found : {X : Type 0} (list : List X) (doubt : Option X) (found : List X) → doubt ≡ None → IsFound list doubt found → found ≡ list
none_found list doubt found none = ⊎_elim (λ same. same) (λ more. absurd (none-some more.0 (sym none ∙ more.1)))

abbrev serial_of : Result ((List ℕ × ℕ) × List Object) ℕ → ℕ
serial_of (Ok x) = x.0.1
serial_of (Err e) = 0

module _ (site : Bases) where
  -- The event behind a history is allowed.
  last : (history : History) (one : Happening) → IsLegal site (history ++ one ∷ [])
      → IsAllowed site (signing (store_after history) one.signed) one.event
  last history one legal = (ends_legal site new_store history (one ∷ []) legal).0

  pub lost_commands : (history later : History) (signed : List Signature) (lists : List (List Command)) (editions : List Edition) (desk : ℕ)
      → ¬ BeginsWith (commands_of history desk) (get_or lists desk [])
      → IsLegal site (history ++ later ++ record { signed = signed; event = Reopen lists editions } ∷ []) → ⊥
  lost_commands history later signed lists editions desk lost legal =
      let reopened : Happening = record { signed = signed; event = Reopen lists editions } in
      let whole = append_assoc history later (reopened ∷ []) in
      let found : (acknowledged (history ++ (later ++ reopened ∷ []))).commands ≡ lists =
      ap (λ (h : History). (acknowledged h).commands) (sym whole)
      ∙ ap (λ (told : Acknowledged). told.commands) (told_on (acknowledged []) (history ++ later) (reopened ∷ [])) in
      lost (more_at (acknowledged history).commands lists
      (subst (AreMore (acknowledged history).commands) found
      (commands_stand site history (later ++ reopened ∷ []) (subst (λ (h : History). IsLegal site h) whole legal))) desk)

  pub two_commands_in_doubt : (history between : History) (signed later : List Signature) (desk : ℕ) (command other : Command)
      (commands : List (Option Command)) (edition : Option Edition) → AreNoReopenings between → for_desk commands desk ≡ Some other
      → IsLegal site (history ++ record { signed = signed; event = DeskFault desk command } ∷ between ++ record { signed = later; event = Stop commands edition } ∷ []) → ⊥
  two_commands_in_doubt history between signed later desk command other commands edition never named legal =
      let fault : Happening = record { signed = signed; event = DeskFault desk command } in
      let stop : Happening = record { signed = later; event = Stop commands edition } in
      let store : Store = signing (after_all (after_one (store_after history) fault) between) later in
      desk_shut site store desk command other
      (in_doubt_at site history between signed desk command never (starts site history between fault stop legal))
      (subst (λ (o : Option Command). IfSome o (CanBeWritten site store desk)) named ((last_allowed site history between fault stop legal).desks desk))

  pub two_editions_in_doubt : (history between : History) (signed later : List Signature) (edition other : Edition)
      (commands : List (Option Command)) → AreNoReopenings between
      → IsLegal site (history ++ record { signed = signed; event = PressFault edition } ∷ between ++ record { signed = later; event = Stop commands (Some other) } ∷ []) → ⊥
  two_editions_in_doubt history between signed later edition other commands never legal =
      let fault : Happening = record { signed = signed; event = PressFault edition } in
      let stop : Happening = record { signed = later; event = Stop commands (Some other) } in
      press_shut site (signing (after_all (after_one (store_after history) fault) between) later) edition other
      (in_doubt site history between signed edition never (starts site history between fault stop legal))
      (last_allowed site history between fault stop legal).press

  -- What the second of two reopenings may find.
  second : (history : History) (signed later : List Signature) (lists others : List (List Command)) (editions more : List Edition)
      → IsLegal site (history ++ record { signed = signed; event = Reopen lists editions } ∷ record { signed = later; event = Reopen others more } ∷ [])
      → MayReopen site (signing (after (signing (store_after history) signed) (Reopen lists editions)) later) others more
  second history signed later lists others editions more legal =
      (ends_legal site new_store history
      (record { signed = signed; event = Reopen lists editions } ∷ record { signed = later; event = Reopen others more } ∷ []) legal).1.0

  pub commands_found_later : (history : History) (signed later : List Signature) (lists others : List (List Command)) (editions more : List Edition) (desk : ℕ)
      → get_or others desk [] ≢ get_or lists desk []
      → IsLegal site (history ++ record { signed = signed; event = Reopen lists editions } ∷ record { signed = later; event = Reopen others more } ∷ []) → ⊥
  commands_found_later history signed later lists others editions more desk other legal =
      let found = found_at (map opened lists) others (second history signed later lists others editions more legal).desks desk in
      let was : get_or (lists_of (map opened lists)) desk [] ≡ get_or lists desk [] =
      ap (λ (all : List (List Command)). get_or all desk []) (lists_opened lists) in
      other (none_found (get_or (lists_of (map opened lists)) desk []) (doubt_at (map opened lists) desk) (get_or others desk [])
      (none_opened lists desk) found ∙ was)

  pub editions_found_later : (history : History) (signed later : List Signature) (lists others : List (List Command)) (editions more : List Edition)
      → more ≢ editions
      → IsLegal site (history ++ record { signed = signed; event = Reopen lists editions } ∷ record { signed = later; event = Reopen others more } ∷ []) → ⊥
  editions_found_later history signed later lists others editions more other legal =
      other (none_found editions None more refl (second history signed later lists others editions more legal).press)

  pub doubted_cuts : (history : History) (signed : List Signature) (edition : Edition) (desk : ℕ)
      → length (commands_of history desk) < cut_at edition.cut desk
      → IsLegal site (history ++ record { signed = signed; event = Publish edition } ∷ []) → ⊥
  doubted_cuts history signed edition desk past legal =
      let may : MayBePublished site (signing (store_after history) signed) edition =
      last history (record { signed = signed; event = Publish edition }) legal in
      let held = may.next.step.cut.held desk in
      let same = ap (λ (all : List (List Command)). length (get_or all desk [])) (commands_are history) in
      absurd (omega (arith, past, held, same))

  pub strange_editions : (history : History) (signed : List Signature) (lists : List (List Command)) (editions : List Edition) (place : ℕ) (edition : Edition)
      → slice_get editions place ≡ Some edition → slice_get (editions_of history) place ≢ Some edition
      → (store_after history).press.doubt ≢ Some edition
      → IsLegal site (history ++ record { signed = signed; event = Reopen lists editions } ∷ []) → ⊥
  strange_editions history signed lists editions place edition there not_told not_doubted legal =
      let may : MayReopen site (signing (store_after history) signed) lists editions =
      last history (record { signed = signed; event = Reopen lists editions }) legal in
      let store = store_after history in
      let told : slice_get store.press.list place ≡ Some edition → ⊥ =
      λ at. not_told (ap (λ (es : List Edition). slice_get es place) (sym (editions_are history)) ∙ at) in
      ⊎_elim
      (λ (same : editions ≡ store.press.list). told (ap (λ (es : List Edition). slice_get es place) (sym same) ∙ there))
      (λ (more : (x : Edition) × (store.press.doubt ≡ Some x) × (editions ≡ store.press.list ++ x ∷ [])). ⊎_elim
      (λ (old : slice_get store.press.list place ≡ Some edition). told old)
      (λ (new : (place ≡ length store.press.list) × (more.0 ≡ edition)). not_doubted (more.1 ∙ ap (λ (e : Edition). Some e) new.1))
      (placed store.press.list more.0 place edition (ap (λ (es : List Edition). slice_get es place) (sym more.2) ∙ there)))
      may.press

  pub shut_press : (history : History) (signed : List Signature) (edition : Edition) → (store_after history).press.shut ≡ true
      → IsLegal site (history ++ record { signed = signed; event = Publish edition } ∷ []) → ⊥
  shut_press history signed edition shut legal =
      let may : MayBePublished site (signing (store_after history) signed) edition =
      last history (record { signed = signed; event = Publish edition }) legal in
      not_both (store_after history).press.shut shut may.is_open

  pub shut_desks : (history : History) (signed : List Signature) (desk : ℕ) (command : Command) (device : Device Command)
      → slice_get (store_after history).desks desk ≡ Some device → device.shut ≡ true
      → IsLegal site (history ++ record { signed = signed; event = Commit desk command } ∷ []) → ⊥
  shut_desks history signed desk command device there shut legal =
      let may : CanBeWritten site (signing (store_after history) signed) desk command =
      last history (record { signed = signed; event = Commit desk command }) legal in
      let same : may.device ≡ device = same_one may.device device (sym may.there ∙ there) in
      not_both device.shut shut (ap (λ (d : Device Command). d.shut) (sym same) ∙ may.is_open)

  pub vouched_no_more : (history later : History) (key digest bytes : List ℕ)
      → (ground_after site history).vouched key digest bytes ≡ true
      → (ground_after site (history ++ later)).vouched key digest bytes ≡ false → ⊥
  vouched_no_more history later key digest bytes is isnt =
      let whole : are_vouched (signatures_of (history ++ later)) key digest bytes ≡ true =
      ap (λ (signed : List Signature). are_vouched signed key digest bytes) (signed_on history later)
      ∙ vouches_more (signatures_of history) (signatures_of later) key digest bytes is in
      not_both (are_vouched (signatures_of (history ++ later)) key digest bytes) whole isnt

  pub other_serials : (history : History) (signed : List Signature) (edition : Edition) → edition.serial ≢ latest (editions_of history) + 1
      → IsLegal site (history ++ record { signed = signed; event = Publish edition } ∷ []) → ⊥
  other_serials history signed edition other legal =
      let may : MayBePublished site (signing (store_after history) signed) edition =
      last history (record { signed = signed; event = Publish edition }) legal in
      other (may.next.step.serial ∙ ap (λ (es : List Edition). latest es + 1) (editions_are history))

  pub too_many_bytes : (history : History) (signed : List Signature) (desk : ℕ) (command : Command)
      → most_bytes < bytes_for (commands_of history desk ++ command ∷ [])
      → IsLegal site (history ++ record { signed = signed; event = Commit desk command } ∷ []) → ⊥
  too_many_bytes history signed desk command past legal =
      let may : CanBeWritten site (signing (store_after history) signed) desk command =
      last history (record { signed = signed; event = Commit desk command }) legal in
      let list : commands_of history desk ≡ may.device.list =
      ap (λ (all : List (List Command)). get_or all desk []) (sym (commands_are history))
      ∙ list_there (store_after history).desks desk may.device may.there in
      let over : most_bytes < bytes_for (may.device.list ++ command ∷ []) =
      subst (λ (l : List Command). most_bytes < bytes_for (l ++ command ∷ [])) list past in
      let fits = may.next.fits in
      absurd (omega (arith, over, fits))

  pub too_large_editions : (history : History) (signed : List Signature) (edition : Edition)
      → press_limit < press_bytes_for site (editions_of history ++ edition ∷ [])
      → IsLegal site (history ++ record { signed = signed; event = Publish edition } ∷ []) → ⊥
  too_large_editions history signed edition past legal =
      let may : MayBePublished site (signing (store_after history) signed) edition =
      last history (record { signed = signed; event = Publish edition }) legal in
      let over : press_limit < press_bytes_for site ((store_after history).press.list ++ edition ∷ []) =
      subst (λ (es : List Edition). press_limit < press_bytes_for site (es ++ edition ∷ [])) (sym (editions_are history)) past in
      let fits = may.next.fits in
      absurd (omega (arith, over, fits))

pub other_text : (text : Result ((List ℕ × ℕ) × List Object) ℕ) (session named : List ℕ) (serial other : ℕ) (objects found : List Object)
    → text ≡ Ok ((session, serial), objects) → text ≡ Ok ((named, other), found) → other ≢ serial → ⊥
other_text text session named serial other objects found one two apart = apart (ap serial_of (sym two ∙ one))
