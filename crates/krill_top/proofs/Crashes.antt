-- What a crash on return leaves, and what a reopening finds there.
use Rattle.std.proofs.Common.{◌≡◌, ℕ, zero, suc, ◌<◌, List, [], ◌∷◌, ◌++◌, map, length, get_or, refl, sym, ap, ◌∙◌, subst, arith, inl, inr}
use Rattle.std.specs.Prelude.{Option, None, Some, IfSome, IsSome, slice_get}
use Rattle.std.specs.Option.{option_map}
use Rattle.std.proofs.lemmas.Bool.{false≢true}
use Rattle.std.proofs.lemmas.List.{length-map, ext_get_or}
use Rattle.std.proofs.lemmas.Option.{none-some}
use Rattle.disk_api.specs.declared.disk.Disk.{Ghosts as DiskGhosts}
use Rattle.authority_book.specs.declared.commands.Command.{Command}
use Rattle.cmd_codec.specs.Spelling.{spelling}
use Rattle.gate_journal.specs.Format.{recovered}
use Rattle.desk_core.specs.Commands.{Records}
use Rattle.desk_core.specs.Images.{RecoversTo}
use Rattle.key_ids.specs.Uris.{Bases}
use Rattle.editions.specs.Edition.{Edition}
use Rattle.press_records.specs.Store.{Store}
use Rattle.press_core.specs.JournalRecords.{AreRecords, Finds}
use Rattle.histories.specs.Devices.{Device, Store as HistoryStore, doubt_at, new_store, lists_of as device_lists}
use Rattle.histories.specs.Events.{History, after_all, after_one}
use Rattle.histories.specs.Events.Event.{Reopen}
use Rattle.histories.specs.Acknowledged.{Acknowledged}
use Rattle.histories.specs.Found.{store_after}
use Rattle.histories.specs.Legal.{IsFound, AreFound, AreAllowed, IsLegal}
use Rattle.histories.specs.Work.{GoesOnAs, with_work}
use Rattle.krill_top.specs.Crashes.{MayBeLeft, IsReopened}
use Rattle.krill_top.specs.DeskStates.{DeskState, DeskStates, most_desks, commands_of, commands_at}
use Rattle.krill_top.specs.Histories.{doubt_of, desk_doubt, signatures, work_of}
use Rattle.krill_top.specs.InstanceState.{InstanceState, lists_of, store_in}
use Rattle.krill_top.specs.PressDisk.{Holds, IsPressServed}
use Rattle.krill_top.specs.Run.{IsKeptAt, IsServedAt, AreKept, AreServed}
use Rattle.krill_top.specs.RunDisks.{RecoveredTo}
use Rattle.krill_top.specs.inner.RunLaws.{RunLaws}
use Rattle.krill_top.proofs.Lists.{list_at}
use Rattle.krill_top.proofs.Told.{commands_are, editions_are}

-- ---- one disk

known_so : {Q : Type 0} (content : Option (List ℕ)) → IsSome content → IfSome content (λ file. Q) → Q
known_so None some is = absurd (false≢true some)
known_so (Some file) some is = is

spelled_with : (list : List Command) (command : Command) → map spelling (list ++ command ∷ []) ≡ map spelling list ++ spelling command ∷ []
spelled_with [] command = refl
spelled_with (first ∷ list) command = ap (λ (l : List (List ℕ)). spelling first ∷ l) (spelled_with list command)

recovered_desk : (number : ℕ) (list : List Command) (doubt : Option Command) (image : List ℕ) → Records number (map spelling list) list
    → IfSome doubt (λ command. Records number (map spelling (list ++ command ∷ [])) (list ++ command ∷ [])) → RecoversTo (map spelling list) (option_map spelling doubt) image
    → (found : List Command) × RecoveredTo (Some image) number found × IsFound list doubt found
recovered_desk number list None image recorded next is = (list, (is.whole, subst (λ (r : List (List ℕ)). Records number r list) (sym is.found) recorded), inl refl)
recovered_desk number list (Some command) image recorded next (inl is) = (list, (is.whole, subst (λ (r : List (List ℕ)). Records number r list) (sym is.found) recorded), inl refl)
recovered_desk number list (Some command) image recorded next (inr is) = (
  list ++ command ∷ [],
  (is.whole, subst (λ (r : List (List ℕ)). Records number r (list ++ command ∷ [])) (spelled_with list command ∙ sym is.found) next),
  inr (command, refl, refl),
)

recovered_press : (store : Store) (editions : List Edition) (doubt : Option Edition) (image : List ℕ) → Holds store editions doubt image
    → (found : List Edition) × Finds store found image × IsFound editions doubt found
recovered_press store editions None image is = (editions, is, inl refl)
recovered_press store editions (Some edition) image (inl is) = (editions, is, inl refl)
recovered_press store editions (Some edition) image (inr is) = (editions ++ edition ∷ [], is, inr (edition, refl, refl))

-- ---- a list for each number

each_of : (n : ℕ) (P : ℕ → List Command → Type 0) (first : List Command) (rest : List (List Command)) → P 0 first → ((k : ℕ) → k < n → P (suc k) (get_or rest k []))
    → (k : ℕ) → k < suc n → P k (get_or (first ∷ rest) k [])
each_of n P first rest here later zero within = here
each_of n P first rest here later (suc k) within = later k (omega (arith, within))

list_each : (n : ℕ) (P : ℕ → List Command → Type 0) → ((k : ℕ) → k < n → (list : List Command) × P k list)
    → (lists : List (List Command)) × (length lists ≡ n) × ((k : ℕ) → k < n → P k (get_or lists k []))
list_each zero P each = ([], refl, λ k within. absurd (omega (arith, within)))
list_each (suc n) P each =
    let first = each 0 (omega arith) in
    let rest = list_each n (λ k list. P (suc k) list) (λ k within. each (suc k) (omega (arith, within))) in
    (first.0 ∷ rest.0, ap suc rest.1, each_of n P first.0 rest.0 first.1 rest.2)

there : {X : Type 0} (xs : List X) (n : ℕ) → n < length xs → (x : X) × (slice_get xs n ≡ Some x)
there [] n within = absurd (omega (arith, within))
there (x ∷ xs) zero within = (x, refl)
there (x ∷ xs) (suc n) within = there xs n (omega (arith, within))

-- ---- behind a history

each_found : (desks : List (Device Command)) (lists : List (List Command)) → length lists ≡ length desks
    → ((desk : ℕ) → desk < length lists → IsFound (get_or (device_lists desks) desk []) (doubt_at desks desk) (get_or lists desk [])) → AreFound desks lists
each_found [] [] same each = tt
each_found [] (list ∷ lists) same each = absurd (omega (arith, same))
each_found (d ∷ desks) [] same each = absurd (omega (arith, same))
each_found (d ∷ desks) (list ∷ lists) same each = (each 0 (omega arith), each_found desks lists (omega (arith, same)) (λ desk within. each (suc desk) (omega (arith, within))))

joins : (site : Bases) (store : HistoryStore) (history later : History) → AreAllowed site store history → AreAllowed site (after_all store history) later → AreAllowed site store (history ++ later)
joins site store [] later first second = second
joins site store (h ∷ history) later first second = (first.0, joins site (after_one store h) history later first.1 second)

abbrev doubt_in : DeskState → Option Command
doubt_in desk = desk.doubt

doubt_there : (states : DeskStates) (desk : ℕ) → get_or (map doubt_in states) desk None ≡ desk_doubt states desk
doubt_there [] desk = refl
doubt_there (state ∷ states) zero = refl
doubt_there (state ∷ states) (suc desk) = doubt_there states desk

reopening_legal : (begun ended : InstanceState) (lists : List (List Command)) (editions : List Edition) → length lists ≡ most_desks → length ended.desk_states ≡ most_desks
    → ((desk : ℕ) → desk < most_desks → IsFound (commands_at ended.desk_states desk) (desk_doubt ended.desk_states desk) (get_or lists desk []))
    → IsFound ended.editions ended.in_doubt editions
    → (history : History) (run : GoesOnAs begun.site history (signatures ended.calls) (work_of begun ended))
    → IsLegal begun.site (with_work history (work_of begun ended) run.more ++ record { signed = []; event = Reopen lists editions } ∷ [])
reopening_legal begun ended lists editions count many desks press history run =
    let whole : History = with_work history (work_of begun ended) run.more in
    let store : HistoryStore = store_after whole in
    let stands : device_lists store.desks ≡ lists_of ended.desk_states = commands_are whole ∙ ap (λ (told : Acknowledged). told.commands) run.acknowledges in
    let shown : store.press.list ≡ ended.editions = editions_are whole ∙ ap (λ (told : Acknowledged). told.editions) run.acknowledges in
    let long : length lists ≡ length store.desks =
    count ∙ sym many ∙ sym (length-map ended.desk_states (λ (desk : DeskState). desk.commands)) ∙ sym (ap length stands) ∙ length-map store.desks (λ (device : Device Command). device.list) in
    joins begun.site new_store whole (record { signed = []; event = Reopen lists editions } ∷ []) run.legal (
      record {
        desks = each_found store.desks lists long (λ desk within.
            let list : get_or (device_lists store.desks) desk [] ≡ commands_at ended.desk_states desk = ap (λ (l : List (List Command)). get_or l desk []) stands ∙ list_at ended.desk_states desk in
            let doubt : doubt_at store.desks desk ≡ desk_doubt ended.desk_states desk = run.doubts desk ∙ doubt_there ended.desk_states desk in
            subst (λ (l : List Command). IsFound l (doubt_at store.desks desk) (get_or lists desk [])) (sym list)
            (subst (λ (d : Option Command). IsFound (commands_at ended.desk_states desk) d (get_or lists desk [])) (sym doubt) (desks desk (omega (arith, within, count)))));
        press = subst (λ (l : List Edition). IsFound l store.press.doubt editions) (sym shown)
            (subst (λ (d : Option Edition). IsFound ended.editions d editions) (sym run.doubt) press);
      },
      tt,
    )

-- ---- the run's disks

-- What is known of bytes isn't asked for.
kept_served : {D : Type 0} (disk_of : DiskGhosts D) (number : ℕ) (old new : Option D) (was is : Option DeskState) → IsServedAt disk_of number old new was is → IsKeptAt disk_of number old new was is
kept_served disk_of number None None None None served = tt
kept_served disk_of number (Some old) (Some new) (Some was) (Some is) served = served.kept
kept_served disk_of number None None None (Some is) served = absurd served
kept_served disk_of number None None (Some was) is served = absurd served
kept_served disk_of number None (Some new) was is served = absurd served
kept_served disk_of number (Some old) None was is served = absurd served
kept_served disk_of number (Some old) (Some new) None is served = absurd served
kept_served disk_of number (Some old) (Some new) (Some was) None served = absurd served

pub all_kept : {D : Type 0} (disk_of : DiskGhosts D) (olds news : List D) (begun ended : DeskStates) → AreServed disk_of olds news begun ended → AreKept disk_of olds news begun ended
all_kept disk_of olds news begun ended served = λ n. kept_served disk_of n (slice_get olds n) (slice_get news n) (slice_get begun n) (slice_get ended n) (served n)

module _ (laws : RunLaws) {D : Type 0} (disk_of : DiskGhosts D) (olds news : List D) (session : List ℕ) (old new : D) (begun ended : InstanceState)
    (desks : AreKept disk_of olds news begun.desk_states ended.desk_states) (press : IsPressServed disk_of session old new begun ended) (many : length ended.desk_states ≡ most_desks)
    (images : ℕ → List ℕ) (image : List ℕ) (left : MayBeLeft disk_of news new images image) where
  found_at : (number : ℕ) (was : Option DeskState) (is : Option DeskState) (before after : Option D) → IsKeptAt disk_of number before after was is → (state : DeskState) → is ≡ Some state
      → ((disk : D) → after ≡ Some disk → IsSome (disk_of.content disk) × disk_of.may_leave disk (images number))
      → (found : List Command) × RecoveredTo (Some (images number)) number found × IsFound (commands_of is) (doubt_of is) found
  found_at number was None before after kept state same may = absurd (none-some state same)
  found_at number (Some was) (Some is) (Some before) (Some after) kept state same may =
      let here = may after refl in
      recovered_desk number is.commands is.doubt (images number) kept.recorded kept.next (known_so (disk_of.content after) here.0 (kept.left.images (images number) here.1))
  found_at number None (Some is) None None kept state same may = absurd kept
  found_at number None (Some is) None (Some after) kept state same may = absurd kept
  found_at number None (Some is) (Some before) None kept state same may = absurd kept
  found_at number None (Some is) (Some before) (Some after) kept state same may = absurd kept
  found_at number (Some was) (Some is) None None kept state same may = absurd kept
  found_at number (Some was) (Some is) None (Some after) kept state same may = absurd kept
  found_at number (Some was) (Some is) (Some before) None kept state same may = absurd kept

  abbrev IsOfDesk : ℕ → List Command → Type 0
  IsOfDesk number list = RecoveredTo (Some (images number)) number list × IsFound (commands_at ended.desk_states number) (desk_doubt ended.desk_states number) list

  of_desk : (number : ℕ) → number < most_desks → (list : List Command) × IsOfDesk number list
  of_desk number within =
      let state = there ended.desk_states number (omega (arith, within, many)) in
      let is = found_at number (slice_get begun.desk_states number) (slice_get ended.desk_states number) (slice_get olds number) (slice_get news number) (desks number) state.0 state.1
      (λ disk here. (left.desks_known number disk here, left.desks_left number disk here)) in
      (is.0, (is.1, is.2))

  of_desks : (lists : List (List Command)) × (length lists ≡ most_desks) × ((number : ℕ) → number < most_desks → IsOfDesk number (get_or lists number []))
  of_desks = list_each most_desks IsOfDesk of_desk

  of_press : (found : List Edition) × Finds (store_in ended) found image × IsFound ended.editions ended.in_doubt found
  of_press = recovered_press (store_in ended) ended.editions ended.in_doubt image (known_so (disk_of.content new) left.press_known (press.images image left.press_left))

  same_lists : (lists others : List (List Command)) → length lists ≡ most_desks → length others ≡ most_desks
      → ((number : ℕ) → number < most_desks → RecoveredTo (Some (images number)) number (get_or lists number []))
      → ((number : ℕ) → number < most_desks → RecoveredTo (Some (images number)) number (get_or others number [])) → others ≡ lists
  same_lists lists others count other_count each every = ext_get_or [] others lists (other_count ∙ sym count) (λ number within.
      let inside : number < most_desks = omega (arith, within, other_count) in
      laws.commands number (recovered (images number)) (get_or others number []) (get_or lists number []) (every number inside).1 (each number inside).1)

  same_editions : (store other : Store) (editions more : List Edition) → Finds store editions image → Finds other more image → (other ≡ store) × (more ≡ editions)
  same_editions store other editions more is also =
      let records : also.records ≡ is.records = sym also.whole.found ∙ is.whole.found in
      let one = laws.editions other store more editions is.records (subst (λ (r : List (List ℕ)). AreRecords other more r) records also.are) is.are in
      (one.0, one.1)

  pub reopened : IsReopened begun ended images image
  reopened = record {
    lists = of_desks.0;
    editions = of_press.0;
    found = record { count = of_desks.1; desks = λ number within. (of_desks.2 number within).0; press = of_press.1 };
    only = λ store others more are.
        let one = same_editions (store_in ended) store of_press.0 more of_press.1 are.press in
        (one.0, same_lists of_desks.0 others of_desks.1 are.count (λ number within. (of_desks.2 number within).0) are.desks, one.1);
    legal = reopening_legal begun ended of_desks.0 of_press.0 of_desks.1 many (λ number within. (of_desks.2 number within).1) of_press.2;
  }
