-- A press that was opened goes on behind what was loaded, as it is asked of one that is put behind a lock.
use Rattle.std.proofs.Common.{◌≡◌, ◌+◌, ◌≤◌, ◌<◌, ℕ, suc, List, [], ◌∷◌, length, get_or, refl, sym, subst, arith}
use Rattle.std.specs.Prelude.{None, All, slice_get}
use Rattle.std.proofs.lemmas.List.Elements.{All-nil, All-cons, All-head, All-tail}
use Rattle.disk_api.specs.declared.disk.Disk.{Ghosts as DiskGhosts}
use Rattle.authority_book.specs.declared.commands.Command.{Command}
use Rattle.authority_book.specs.declared.rows.NameRow.{NameRow}
use Rattle.authority_book.specs.Fold.{fold_of}
use Rattle.key_roll.specs.declared.rows.KeyRow.{KeyRow}
use Rattle.signer_api.specs.State.{SignerState}
use Rattle.desk_core.specs.View.{View}
use Rattle.press_core.specs.Resuming.{GoesOn}
use Rattle.press_core.specs.Stored.{StoredValue}
use Rattle.manager.specs.Resumed.{AreDesksOf, HaveSigners, IsResumed}
use Rattle.krill_top.specs.declared.summary.Summary.{Summary}
use Rattle.krill_top.specs.DeskStates.{DeskStates, most_desks, names_in, commands_at}
use Rattle.krill_top.specs.DesksInStates.{IsIn, InAt, AreIn}
use Rattle.krill_top.specs.InstanceState.{lists_of}
use Rattle.krill_top.specs.PressDisk.{Given}
use Rattle.krill_top.specs.Run.{signers_needed}
use Rattle.krill_top.specs.inner.Opened.{AreOpened}
use Rattle.krill_top.specs.inner.PressOpened.{IsOpenedPress}
use Rattle.krill_top.proofs.Lists.{from_first}
use Rattle.krill_top.proofs.PressFound.{names_below, opened_long}

pub desks_from : {D : Type 0} (from : ℕ) (desks : List (View D)) (states : DeskStates) → ((k : ℕ) → InAt (from + k) (slice_get desks k) (slice_get states k)) → All (λ (desk : View D). desk.shut ≡ None) desks → AreDesksOf from (lists_of states) desks
desks_from from [] [] are open_all = tt
desks_from from [] (state ∷ states) are open_all = absurd (are 0)
desks_from from (desk ∷ desks) [] are open_all = absurd (are 0)
desks_from {D} from (desk ∷ desks) (state ∷ states) are open_all =
    let same : from + 0 ≡ from = omega arith in
    let here : IsIn from desk state = subst (λ (n : ℕ). IsIn n desk state) same (are 0) in (
      record { number_is = here.number_is; has = here.commands; is_open = All-head (λ (d : View D). d.shut ≡ None) desk desks open_all },
      desks_from (suc from) desks states (λ k.
          let next : from + suc k ≡ suc from + k = omega arith in
          subst (λ (n : ℕ). InAt n (slice_get desks k) (slice_get states k)) next (are (suc k)))
          (All-tail (λ (d : View D). d.shut ≡ None) desk desks open_all),
    )

-- opened desks are open
pub opened_open : {D : Type 0} (disk_of : DiskGhosts D) (number : ℕ) (disks : List D) (desks : List (View D)) → AreOpened disk_of number disks desks → All (λ (desk : View D). desk.shut ≡ None) desks
opened_open {D} disk_of number [] [] opened = All-nil (λ (desk : View D). desk.shut ≡ None)
opened_open {D} disk_of number [] (desk ∷ desks) opened = absurd opened
opened_open {D} disk_of number (disk ∷ disks) [] opened = absurd opened
opened_open {D} disk_of number (disk ∷ disks) (desk ∷ desks) opened =
    All-cons (λ (desk : View D). desk.shut ≡ None) desk desks opened.0.is_open (opened_open disk_of (suc number) disks desks opened.1)

pub first_list : (states : DeskStates) → commands_at states 0 ≡ get_or (lists_of states) 0 []
first_list [] = refl
first_list (state ∷ states) = refl

module _ {D : Type 0} (disk_of : DiskGhosts D) (given : Given) (old : D) (press : StoredValue D) (told : Summary) (opened : IsOpenedPress disk_of given old press told) where
  unfoldable pub resumed_of : (desks : List (View D)) → AreIn desks given.found → All (λ (desk : View D). desk.shut ≡ None) desks → length desks ≡ most_desks → signers_needed (names_in given.found) ≤ length given.signers → IsResumed desks press
  resumed_of desks all open_all one_each needed =
      let on = opened.behind.goes_on in
      let ring : press.press.ring ≡ given.signers = on.ring in
      record {
        loaded = opened.loaded;
        editions = opened.editions;
        left = opened.left;
        records = opened.records;
        order = opened.order;
        firsts = opened.behind.firsts;
        goes_on = subst (λ (r : List SignerState). GoesOn opened.loaded opened.behind.firsts r press) (sym ring) on;
        one_each = opened.behind.consistent.cut;
        live_signers = subst (λ (r : List SignerState). All (λ (row : KeyRow). row.signer < length r) opened.loaded.rows) (sym ring) opened.signers;
        lists = lists_of given.found;
        are = desks_from 0 desks given.found (from_first desks given.found all) open_all;
        names = subst (λ (r : List SignerState). HaveSigners (length r) (lists_of given.found)) (sym ring)
            (subst (λ (list : List Command). All (λ (name : NameRow). name.signer < length given.signers) (fold_of 0 list).names) (first_list given.found)
            (names_below (names_in given.found) (length given.signers) needed));
        long = opened_long disk_of given old press told opened desks all one_each;
        of_desks = opened.behind.of_desks;
      }
