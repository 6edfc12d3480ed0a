-- How a legal history may go on.
use Rattle.std.proofs.Common.{◌≡◌, ◌≤◌, ℕ, ◌+◌, refl, sym, subst, ◌∙◌, inl, inr, true, false, List, [], ◌∷◌, ◌++◌, get_or, Some, None}
use Rattle.std.specs.Prelude.{Bool, All, Option}
use Rattle.authority_book.specs.declared.commands.Command.{Command}
use Rattle.key_ids.specs.Uris.{Bases}
use Rattle.signer_api.specs.State.{SignerState}
use Rattle.pub_set.specs.declared.steps.Change.{Change}
use Rattle.pub_set.specs.declared.steps.Change.TheVariants.{Put, Withdraw}
use Rattle.editions.specs.Edition.{Edition}
use Rattle.editions.specs.PlannedAndMade.{CanBeRead, IsPlannedAndMade}
use Rattle.editions.specs.Step.{Premises, IsStep, AreSteps}
use Rattle.press_core.specs.JournalRecords.{press_limit}
use Rattle.histories.specs.Devices.{Device, Signature, Store, doubt_at, new_store}
use Rattle.histories.specs.Events.{Happening, History, signing}
use Rattle.histories.specs.Events.Event.{Reopen}
use Rattle.histories.specs.Legal.{IsOfBytes, IsFound, AreFound, MayBePublished, IsAllowed, IsLegal, ground_of, press_bytes_for}
use Rattle.histories.specs.Found.{store_after, AreFoundAfter, found_by, found_from, reopening_by}
use Rattle.histories.proofs.Growing.{each_found, joins_legal}
use Rattle.histories.proofs.Kept.{Stay, IsKept, kept_signing, kept_through, new_kept}
use Rattle.histories.proofs.Holds.{steps_of}
use Rattle.histories.proofs.Told.{commands_are, editions_are}

-- A planned and made edition is a step.
abbrev pub Plan : Type 0
Plan = (premises : Premises) (clock : ℕ) (editions : List Edition) (edition : Edition) (old new : List SignerState)
    → AreSteps premises editions → IsPlannedAndMade premises clock editions edition old new → IsStep premises clock editions edition

of_bytes : (change : Change) → CanBeRead change → IsOfBytes change
of_bytes (Put uri bytes replaces) can = can.bytes
of_bytes (Withdraw uri hash) can = tt

by_found : {X : Type 0} (found : Bool) (list : List X) (doubt : Option X) → IsFound list doubt (found_by found list doubt)
by_found false list doubt = inl refl
by_found true list None = inl refl
by_found true list (Some x) = inr (x, refl, refl)

from_found : (desk : ℕ) (found : ℕ → Bool) (desks : List (Device Command)) → AreFound desks (found_from desk found desks)
from_found desk found [] = tt
from_found desk found (d ∷ desks) = (by_found (found desk) d.list d.doubt, from_found (desk + 1) found desks)

module _ (site : Bases) (history : History) (legal : IsLegal site history) where
  pub with_next : (next : Happening) → IsAllowed site (signing (store_after history) next.signed) next.event
      → IsLegal site (history ++ next ∷ [])
  with_next next may = joins_legal site new_store history (next ∷ []) legal (may, tt)

  pub choices : (signed : List Signature) (desks : ℕ → Bool) (press : Bool)
      → IsLegal site (history ++ record { signed = signed; event = reopening_by desks press (store_after history) } ∷ [])
  choices signed desks press = with_next (record { signed = signed; event = reopening_by desks press (store_after history) })
      (record {
        desks = from_found 0 desks (store_after history).desks;
        press = by_found press (store_after history).press.list (store_after history).press.doubt;
      })

  module _ (stay : Stay) where
    kept : IsKept site (store_after history)
    kept = kept_through stay site new_store history (new_kept stay site) legal

    pub reopenings : (signed : List Signature) (lists : List (List Command)) (editions : List Edition) → AreFoundAfter history lists editions
        → IsLegal site (history ++ record { signed = signed; event = Reopen lists editions } ∷ [])
    reopenings signed lists editions found = with_next (record { signed = signed; event = Reopen lists editions })
        (record {
          desks = each_found (store_after history).desks lists (found.desks ∙ sym kept.count)
              (λ (desk : ℕ). subst (λ (all : List (List Command)).
              IsFound (get_or all desk []) (doubt_at (store_after history).desks desk) (get_or lists desk []))
              (sym (commands_are history)) (found.commands desk));
          press = subst (λ (es : List Edition). IsFound es (store_after history).press.doubt editions)
              (sym (editions_are history)) found.press;
        })

    pub editions : Plan → (signed : List Signature) (clock : ℕ) (edition : Edition) (old new : List SignerState)
        → let store = signing (store_after history) signed in
        store.stopped ≡ false → store.press.shut ≡ false
        → IsPlannedAndMade (ground_of site store) clock store.press.list edition old new
        → press_bytes_for site (store.press.list ++ edition ∷ []) ≤ press_limit → MayBePublished site store edition
    editions plan signed clock edition old new running is_open planned fits =
        let store : Store = signing (store_after history) signed in
        let ground = ground_of site store in
        let turns = (kept_signing stay site (store_after history) signed kept).press.turns in
        let readable = planned.made.readable in
        record {
          running = running;
          is_open = is_open;
          next = record {
            held = subst (λ (changes : List Change). All IsOfBytes changes) (sym planned.made.changes)
                (λ k d within. of_bytes (get_or planned.made.made.changes k d) (readable k d within));
            clock = clock;
            step = plan ground clock store.press.list edition old new (steps_of ground store.press.list turns) planned;
            fits = fits;
          };
        }
