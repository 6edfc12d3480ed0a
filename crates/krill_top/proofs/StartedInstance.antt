-- An instance over opened desks and press, and what is handed back where there is none.
use Rattle.std.proofs.Common.{◌≡◌, ◌≢◌, ◌≤◌, ◌<◌, ℕ, Bool, true, false, not, List, [], length, map, refl, sym, ◌∙◌, ap, subst, arith, inl, inr}
use Rattle.std.proofs.lemmas.Bool.{true≢false}
use Rattle.std.specs.Prelude.{Option, None, Some, IfSome, All, Ok, Err, vec_capacity}
use Rattle.disk_api.specs.declared.disk.Disk.{Ghosts as DiskGhosts}
use Rattle.outlet_api.specs.declared.outlet.Outlet.{Ghosts as OutletGhosts}
use Rattle.outlet_api.specs.declared.exports.ExportFault.{ExportFault}
use Rattle.outlet_api.specs.declared.exports.ExportFault.TheVariants as export
use Rattle.gate_journal.specs.View.{View as JournalView, IsSafe}
use Rattle.key_ids.specs.Uris.{Bases}
use Rattle.key_roll.specs.declared.rows.KeyRow.{KeyRow}
use Rattle.signer_api.specs.State.{SignerState}
use Rattle.desk_core.specs.View.{View}
use Rattle.notice_board.specs.declared.sheets.Sheet.{Sheet}
use Rattle.editions.specs.Edition.{Edition, state_after}
use Rattle.editions.specs.PublishedState.{PublishedStateValue}
use Rattle.editions.specs.Sheets.{sheet_of}
use Rattle.press_core.specs.Exports.{IsCoherent, ShowsEdition, ShowsLast}
use Rattle.press_core.specs.declared.last_export.LastExport.{LastExport}
use Rattle.press_core.specs.JournalRecords.{AreRecords}
use Rattle.press_core.specs.Loading.{LoadedValue, loaded_store}
use Rattle.press_core.specs.Stored.{StoredValue}
use Rattle.press_core.specs.declared.last_export.LastExport.TheVariants.{NoExport}
use Rattle.krill_top.specs.declared.ends.Ends.{Ends}
use Rattle.krill_top.specs.declared.faults.OpenFault.{OpenFault}
use Rattle.krill_top.specs.declared.faults.OpenFault.TheVariants.{WrongCount, Memory}
use Rattle.krill_top.specs.declared.starting.Started.{Started}
use Rattle.krill_top.specs.declared.summary.Summary.{Summary}
use Rattle.krill_top.specs.DeskStates.{DeskStates, most_desks, names_in}
use Rattle.krill_top.specs.InstanceState.{InstanceState, OutletState, outlet_state, is_exported_at, is_exported, repository_in}
use Rattle.krill_top.specs.DesksInStates.{AreIn}
use Rattle.krill_top.specs.Exports.{Exports, Repeats}
use Rattle.krill_top.specs.PressDisk.{Given, opened_state, AreAsked, IsStopCause, IsOutletLeft, IsLoadedAndStopped, StaysCoherent}
use Rattle.krill_top.specs.Statuses.{first_export_fault}
use Rattle.krill_top.specs.Run.{Opens, given_with, signers_needed, IsBehind, IsClosedAgain}
use Rattle.krill_top.specs.inner.Instances.{InstanceValue, IsInState, Arrives, Moves, HasInDoubt, stored_in}
use Rattle.krill_top.specs.inner.Opened.{AreOpened, AreClosed}
use Rattle.krill_top.specs.inner.PressOpened.{IsGiven, IsOpenedPress, IsUnopened}
use Rattle.krill_top.specs.inner.Started.{IsPressFound, AreEndsOf, IsReadyFor, IsResumedIn, IsStartedIn, IsStarted}
use Rattle.manager.specs.Pressing.{exported_as}
use Rattle.manager.specs.Ready.{ShowsItsLast}
use Rattle.krill_top.proofs.Closing.{repeats_same}
use Rattle.krill_top.proofs.Resumed.{opened_open, resumed_of}
use Rattle.krill_top.proofs.PressFound.{HasEditions, finds_now, finds_later, found_state, has_editions, stands_opened, summary_is, agrees, press_found}
use Rattle.krill_top.proofs.Served.{desks_closed_again}

-- ---- an export that is repeated

repeats_told : (O : Type 0) (again : Bool) (before after : InstanceState) → Repeats {O = O} (Ok again) before after → Repeats {O = O} (Ok (not (is_exported before))) before after
repeats_told O true before after step = subst (λ (e : Bool). Repeats {O = O} (Ok (not e)) before after) (sym step.0) step
repeats_told O false before after step = subst (λ (e : Bool). Repeats {O = O} (Ok (not e)) before after) (sym step.0) step

-- ---- desks that are closed again

module _ {D G O : Type 0} (disk_of : DiskGhosts D) (state_of : G → SignerState) (outlet_of : OutletGhosts O) where
  pub closed_again : (site : Bases) (session : List ℕ) (fault : OpenFault) (old new : Ends D G O) (desks : List (View D)) → AreOpened disk_of 0 old.desks.items desks → AreClosed disk_of desks new.desks.items
      → ((found : DeskStates) → AreIn desks found → AreAsked fault (map state_of old.signers.items) (map state_of new.signers.items))
      → ((found : DeskStates) → AreIn desks found → IsBehind disk_of (given_with state_of outlet_of site session found old.signers.items old.outlet) fault old.press new.press (map state_of new.signers.items) (outlet_state outlet_of new.outlet))
      → IsClosedAgain disk_of state_of outlet_of site session fault old new
  closed_again site session fault old new desks opened closed asked behind =
      let found = desks_closed_again disk_of old.desks.items desks new.desks.items opened closed in
      record { found = found.0; desks = found.2; asked = asked found.0 found.1; behind = behind found.0 found.1 }

-- ---- what was loaded in vain

module _ {D : Type 0} (disk_of : DiskGhosts D) (given : Given) (old : D) (press : StoredValue D) (told : Summary) (opened : IsOpenedPress disk_of given old press told) where
  pub stopped_by : (fault : OpenFault) (journal : JournalView D) (signers : List SignerState) (outlet : OutletState) → IsStopCause given opened.loaded signers outlet fault
      → IsOutletLeft given opened.loaded opened.editions outlet fault → StaysCoherent opened.loaded opened.editions given.outlet outlet → HasEditions disk_of (loaded_store opened.loaded) opened.editions journal → IsSafe disk_of journal
      → disk_of.fault_count press.journal.disk ≤ disk_of.fault_count journal.disk → IsLoadedAndStopped disk_of given fault old journal.disk signers outlet
  stopped_by fault journal signers outlet cause outlet_left coherent has safe later = record {
    loaded = opened.loaded;
    editions = opened.editions;
    left = opened.left;
    known = opened.known;
    cause = cause;
    outlet_left = outlet_left;
    coherent = coherent;
    holds = finds_now disk_of (loaded_store opened.loaded) opened.editions journal has safe;
    images = finds_later disk_of (loaded_store opened.loaded) opened.editions journal has safe;
    later = omega (arith, opened.later, later);
  }

  -- memory was wanting for the instance
  pub unmade : (signers : List SignerState) → IsSafe disk_of press.journal → IsLoadedAndStopped disk_of given Memory old press.journal.disk signers given.outlet
  unmade signers safe = stopped_by Memory press.journal signers given.outlet tt (inl refl) (λ was. was) (has_editions disk_of given old press told opened) safe (omega arith)

-- ---- what an instance is made of

module _ {D G O : Type 0} (disk_of : DiskGhosts D) (state_of : G → SignerState) (outlet_of : OutletGhosts O) (site : Bases) (session : List ℕ) (ends : Ends D G O) where
  pub ready_so : (desks more : List (View D)) (outlet other : O) (press with : StoredValue D) (told : Summary) (signers count : ℕ) → more ≡ desks → other ≡ outlet → with ≡ press → count ≡ signers
      → IsReadyFor disk_of state_of outlet_of site session ends desks outlet press told signers → IsReadyFor disk_of state_of outlet_of site session ends more other with told count
  ready_so desks more outlet other press with told signers count same_desks same_outlet same_press same_signers ready =
      subst (λ (l : List (View D)). IsReadyFor disk_of state_of outlet_of site session ends l other with told count) (sym same_desks)
      (subst (λ (o : O). IsReadyFor disk_of state_of outlet_of site session ends desks o with told count) (sym same_outlet)
      (subst (λ (p : StoredValue D). IsReadyFor disk_of state_of outlet_of site session ends desks outlet p told count) (sym same_press)
      (subst (λ (n : ℕ). IsReadyFor disk_of state_of outlet_of site session ends desks outlet press told n) (sym same_signers) ready)))

  -- memory was wanting for it
  pub unmade_behind : (desks : List (View D)) (outlet : O) (press : StoredValue D) (told : Summary) (signers : ℕ) → IsReadyFor disk_of state_of outlet_of site session ends desks outlet press told signers
      → (back : Ends D G O) → IsSafe disk_of press.journal → back.press ≡ press.journal.disk → back.outlet ≡ outlet → (found : DeskStates) → AreIn desks found
      → IsBehind disk_of (given_with state_of outlet_of site session found ends.signers.items ends.outlet) Memory ends.press back.press (map state_of back.signers.items) (outlet_state outlet_of back.outlet)
  unmade_behind desks outlet press told signers ready back safe same_press same_outlet found all =
      let given : Given = given_with state_of outlet_of site session found ends.signers.items ends.outlet in
      let there = ready.there found all in
      let here : outlet_state outlet_of back.outlet ≡ given.outlet = ap (outlet_state outlet_of) (same_outlet ∙ sym ready.ends_of.outlet_is) in
      inr (inr (record {
        there = omega (arith, there, ready.counted);
        stopped = subst (λ (d : D). IsLoadedAndStopped disk_of given Memory ends.press d (map state_of back.signers.items) (outlet_state outlet_of back.outlet)) (sym same_press)
            (subst (λ (o : OutletState). IsLoadedAndStopped disk_of given Memory ends.press press.journal.disk (map state_of back.signers.items) o) (sym here)
            (unmade disk_of given ends.press press told (ready.opened found all) (map state_of back.signers.items) safe));
      }))

-- ---- the first export

no_doubt : (at : PublishedStateValue) (doubt : Option (List ℕ)) → HasInDoubt at None doubt → doubt ≡ None
no_doubt at None has = refl
no_doubt at (Some entry) has = absurd has

-- what isn't exported is an edition
some_unexported : (serial last : ℕ) → serial ≡ last → is_exported_at NoExport last ≡ false → serial ≢ 0
some_unexported serial last same unexported none = true≢false (subst (λ (n : ℕ). is_exported_at NoExport n ≡ false) (sym same ∙ none) unexported)

exported_left : {D O : Type 0} (fault : ExportFault O) (given : Given) (loaded : LoadedValue D) (editions : List Edition) (after : InstanceState) → Exports (opened_state given loaded editions) after
    → IsOutletLeft given loaded editions after.outlet (first_export_fault fault)
exported_left (export.OutletFault rose) given loaded editions after exports = inr (after, exports, refl)
exported_left export.Memory given loaded editions after exports = inr (after, exports, refl)

export_asked : {O : Type 0} (fault : ExportFault O) (old new : List SignerState) → new ≡ old → AreAsked (first_export_fault fault) old new
export_asked (export.OutletFault rose) old new same = same
export_asked export.Memory old new same = same

module _ {D G O : Type 0} (disk_of : DiskGhosts D) (state_of : G → SignerState) (outlet_of : OutletGhosts O) (site : Bases) (session : List ℕ) (ends : Ends D G O)
    (instance : InstanceValue D O) (told : Summary) (sheet : instance.sheet ≡ sheet_of instance.press.at)
    (ready : IsReadyFor disk_of state_of outlet_of site session ends instance.desks instance.outlet (stored_in instance) told instance.signers) where
  abbrev given : DeskStates → Given
  given found = given_with state_of outlet_of site session found ends.signers.items ends.outlet

  -- the state in which the instance is before the export
  abbrev before : (found : DeskStates) → AreIn instance.desks found → InstanceState
  before found all = found_state disk_of (given found) ends.press (stored_in instance) told (ready.opened found all)

  needed : (found : DeskStates) → AreIn instance.desks found → signers_needed (names_in found) ≤ length (map state_of ends.signers.items)
  needed found all = let there = ready.there found all in omega (arith, there, ready.counted)

  pub in_before : (found : DeskStates) (all : AreIn instance.desks found) → IsInState outlet_of instance (before found all)
  in_before found all =
      subst (λ (s : Sheet). IsInState outlet_of (record instance { sheet = s }) (before found all)) (sym sheet)
      (stands_opened disk_of (given found) ends.press (stored_in instance) told (ready.opened found all) outlet_of instance.desks instance.signers instance.outlet all ready.one_each
      (needed found all) ready.counted (ap (outlet_state outlet_of) (sym ready.ends_of.outlet_is)))

  -- of the press before the export
  shows_first : (found : DeskStates) → AreIn instance.desks found → ShowsItsLast outlet_of (stored_in instance) instance.outlet
  shows_first found all = λ lists editions count left files.
      subst (λ (last : LastExport). ShowsLast (ShowsEdition instance.press.rrdp.session instance.press.site) editions last (outlet_of.files instance.outlet)) (sym (ready.opened found all).behind.goes_on.last_export) tt

  module _ (new : InstanceValue D O) (same_desks : new.desks ≡ instance.desks) (same_press : stored_in new ≡ exported_as new.press.last_export (stored_in instance))
      (shows : ShowsItsLast outlet_of (stored_in instance) instance.outlet → ShowsItsLast outlet_of (stored_in new) new.outlet) where
    resumed_in : (found : DeskStates) (all : AreIn instance.desks found) (begun : InstanceState) → begun.editions ≡ (before found all).editions → IsResumedIn outlet_of new begun
    unfolding resumed_of
    resumed_in found all begun same = record {
      first = stored_in instance;
      is = resumed_of disk_of (given found) ends.press (stored_in instance) told (ready.opened found all) new.desks
          (subst (λ (l : List (View D)). AreIn l found) (sym same_desks) all)
          (subst (λ (l : List (View D)). All (λ (desk : View D). desk.shut ≡ None) l) (sym same_desks) (opened_open disk_of 0 ends.desks.items instance.desks ready.ends_of.desks_are))
          (ap length same_desks ∙ ready.one_each) (needed found all);
      editions = sym same;
      press = same_press;
      shows = shows (shows_first found all);
    }

    -- the last edition is exported, if there is one
    opens : (again : Bool) (found : DeskStates) (all : AreIn instance.desks found) (arrives : Arrives disk_of outlet_of (Repeats {O = O} (Ok again)) instance new (before found all))
        → Opens disk_of state_of outlet_of site ends (before found all) arrives.after told
    opens again found all arrives =
        let opened = ready.opened found all in
        record {
          just = record { lists = refl; editions = refl; settled = refl; calls = refl; exported = refl };
          signers = refl;
          outlet = refl;
          site_is = opened.bases;
          signers_there = needed found all;
          keys_there = subst (λ (rows : List KeyRow). All (λ (row : KeyRow). row.signer < length (map state_of ends.signers.items)) rows) opened.left.rows opened.signers;
          summary_is = summary_is disk_of (given found) ends.press (stored_in instance) told opened outlet_of instance.desks instance.signers instance.outlet all ready.one_each;
          exported = repeats_told O again (before found all) arrives.after arrives.step;
        }

    started_in : (again : Bool) (made : Started D G O) → made.instance ≡ new → made.summary ≡ told → (found : DeskStates) (all : AreIn instance.desks found)
        → Arrives disk_of outlet_of (Repeats {O = O} (Ok again)) instance new (before found all) → IsStartedIn disk_of state_of outlet_of site session ends made found
    started_in again made same_instance same_told found all arrives =
        let same : arrives.after ≡ record (before found all) { exported = arrives.after.exported; outlet = arrives.after.outlet } = repeats_same {O = O} (Ok again) (before found all) arrives.after arrives.step in
        record {
          opened = before found all;
          begun = arrives.after;
          same = ap (λ (s : InstanceState). s.desk_states) same;
          opens = subst (λ (t : Summary). Opens disk_of state_of outlet_of site ends (before found all) arrives.after t) (sym same_told) (opens again found all arrives);
          stands = subst (λ (i : InstanceValue D O). IsInState outlet_of i arrives.after) (sym same_instance) arrives.stands;
          resumed = subst (λ (i : InstanceValue D O). IsResumedIn outlet_of i arrives.after) (sym same_instance) (resumed_in found all arrives.after (ap (λ (s : InstanceState). s.editions) same));
          press = subst (λ (i : InstanceValue D O). IsPressFound disk_of session ends.press i.journal.disk arrives.after) (sym same_instance)
              (press_found disk_of (given found) ends.press (stored_in instance) told (ready.opened found all) new.journal.disk arrives.after
              arrives.same_session arrives.same_site (ap (λ (s : InstanceState). s.editions) same) (ap (λ (s : InstanceState). s.records) same) (ap (λ (s : InstanceState). s.in_doubt) same) arrives.press.later);
          coherent = arrives.coherent;
        }

    pub started_with : (again : Bool) (made : Started D G O) → made.instance ≡ new → made.summary ≡ told → made.disks.items ≡ [] → most_desks ≤ vec_capacity made.disks
        → Moves disk_of outlet_of (Repeats {O = O} (Ok again)) instance new → IsStarted disk_of state_of outlet_of site session ends made
    started_with again made same_instance same_told empty room moves = record {
      desks = subst (λ (l : List (View D)). AreOpened disk_of 0 ends.desks.items l) (sym same_desks ∙ ap (λ (i : InstanceValue D O). i.desks) (sym same_instance)) ready.ends_of.desks_are;
      each = λ found all.
          let here : AreIn instance.desks found = subst (λ (l : List (View D)). AreIn l found) (ap (λ (i : InstanceValue D O). i.desks) same_instance ∙ same_desks) all in
          started_in again made same_instance same_told found here (moves (before found here) (in_before found here));
      empty = empty;
      room = room;
    }

    -- the export failed
    stop_cause : (fault : ExportFault O) (found : DeskStates) (all : AreIn instance.desks found) (arrives : Arrives disk_of outlet_of (Repeats {O = O} (Err fault)) instance new (before found all)) (signers : List SignerState)
        → IsStopCause (given found) (ready.opened found all).loaded signers arrives.after.outlet (first_export_fault fault)
    stop_cause (export.OutletFault rose) found all arrives signers =
        let opened = ready.opened found all in (
          arrives.step.1.cause.1,
          agrees disk_of (given found) ends.press (stored_in instance) told opened (some_unexported opened.loaded.serial (state_after opened.editions).serial opened.left.serial arrives.step.0),
        )
    stop_cause export.Memory found all arrives signers = tt

    pub stopped_with : (fault : ExportFault O) (back : Ends D G O) → IsSafe disk_of new.journal → AreClosed disk_of new.desks back.desks.items → back.press ≡ new.journal.disk → map state_of back.signers.items ≡ new.press.ring
        → back.outlet ≡ new.outlet → Moves disk_of outlet_of (Repeats {O = O} (Err fault)) instance new → (found : DeskStates) (all : AreIn instance.desks found)
        → IsBehind disk_of (given found) (first_export_fault fault) ends.press back.press (map state_of back.signers.items) (outlet_state outlet_of back.outlet)
    stopped_with fault back safe closed press signers outlet moves found all =
        let was : InstanceState = before found all in
        let arrives = moves was (in_before found all) in
        let after : InstanceState = arrives.after in
        let opened = ready.opened found all in
        let same : after ≡ record was { exported = after.exported; outlet = after.outlet } = repeats_same {O = O} (Err fault) was after arrives.step in
        let has : HasEditions disk_of (loaded_store opened.loaded) opened.editions new.journal = record {
          limit = arrives.stands.journal.limit;
          settled = no_doubt new.press.at new.journal.doubt (subst (λ (d : Option Edition). HasInDoubt new.press.at d new.journal.doubt) (ap (λ (s : InstanceState). s.in_doubt) same) arrives.stands.journal.doubt);
          are = subst (λ (r : Option (List (List ℕ))). IfSome r (AreRecords (loaded_store opened.loaded) opened.editions)) (sym (arrives.stands.journal.records ∙ ap (λ (s : InstanceState). s.records) same)) opened.records;
        } in
        let coherent : StaysCoherent opened.loaded opened.editions (given found).outlet after.outlet = λ is.
        subst (λ (s : InstanceState). IfSome after.outlet.files (IsCoherent (repository_in s) s.editions)) same (arrives.coherent is) in
        let stopped : IsLoadedAndStopped disk_of (given found) (first_export_fault fault) ends.press new.journal.disk (map state_of back.signers.items) after.outlet =
        stopped_by disk_of (given found) ends.press (stored_in instance) told opened (first_export_fault fault) new.journal (map state_of back.signers.items) after.outlet
        (stop_cause fault found all arrives (map state_of back.signers.items))
        (exported_left fault (given found) opened.loaded opened.editions after arrives.step.1.exports) coherent has safe arrives.press.later in
        let there : outlet_state outlet_of back.outlet ≡ after.outlet = ap (outlet_state outlet_of) outlet ∙ arrives.stands.outlet in
        inr (inr (record {
          there = needed found all;
          stopped = subst (λ (d : D). IsLoadedAndStopped disk_of (given found) (first_export_fault fault) ends.press d (map state_of back.signers.items) (outlet_state outlet_of back.outlet)) (sym press)
              (subst (λ (o : OutletState). IsLoadedAndStopped disk_of (given found) (first_export_fault fault) ends.press new.journal.disk (map state_of back.signers.items) o) (sym there) stopped);
        }))

    -- no signer was asked
    pub signers_kept : (fault : ExportFault O) (back : Ends D G O) → map state_of back.signers.items ≡ new.press.ring → Moves disk_of outlet_of (Repeats {O = O} (Err fault)) instance new
        → (found : DeskStates) → AreIn instance.desks found → AreAsked (first_export_fault fault) (map state_of ends.signers.items) (map state_of back.signers.items)
    signers_kept fault back signers moves found all =
        let was : InstanceState = before found all in
        let arrives = moves was (in_before found all) in
        export_asked fault (map state_of ends.signers.items) (map state_of back.signers.items)
        (signers ∙ arrives.stands.ring ∙ ap (λ (s : InstanceState). s.signers) (repeats_same {O = O} (Err fault) was arrives.after arrives.step))

-- ---- a press that was opened behind the desks

module _ {D G O : Type 0} (disk_of : DiskGhosts D) (state_of : G → SignerState) (outlet_of : OutletGhosts O) (site : Bases) (session : List ℕ) (ends : Ends D G O)
    (desks : List (View D)) (ring : List SignerState) (outlet : O) (of : AreEndsOf disk_of state_of ends desks ring outlet) where
  is_given : (found : DeskStates) → AreIn desks found → IsGiven site session desks ring (given_with state_of outlet_of site session found ends.signers.items ends.outlet)
  is_given found all = record { site_is = refl; session_is = refl; are = record { found = all; signers_are = of.signers_are } }

  same_count : length (map state_of ends.signers.items) ≡ length ring
  same_count = ap length of.signers_are

  pub ready_with : (disk : D) (press : StoredValue D) (told : Summary) (signers : ℕ) → ends.press ≡ disk → length desks ≡ most_desks → signers ≡ length ring
      → ((found : DeskStates) → AreIn desks found → signers_needed (names_in found) ≤ signers) → (found : DeskStates) → AreIn desks found
      → ((given : Given) → IsGiven site session desks ring given → IsOpenedPress disk_of given disk press told)
      → IsReadyFor disk_of state_of outlet_of site session ends desks outlet press told signers
  ready_with disk press told signers same one_each counted there found all opened =
      let kept : press.press.ring ≡ map state_of ends.signers.items = (opened (given_with state_of outlet_of site session found ends.signers.items ends.outlet) (is_given found all)).behind.goes_on.ring in
      record {
        ends_of = record { desks_are = of.desks_are; signers_are = sym kept; outlet_is = of.outlet_is };
        one_each = one_each;
        counted = counted ∙ sym same_count;
        there = there;
        opened = λ in_desks are. subst (λ (d : D). IsOpenedPress disk_of (given_with state_of outlet_of site session in_desks ends.signers.items ends.outlet) d press told) (sym same)
            (opened (given_with state_of outlet_of site session in_desks ends.signers.items ends.outlet) (is_given in_desks are));
      }

  -- it isn't opened
  pub unopened_behind : (disk : D) (fault : OpenFault) (back : Ends D G O) (new : D) (signers : List SignerState) → ends.press ≡ disk → back.press ≡ new → map state_of back.signers.items ≡ signers → back.outlet ≡ outlet
      → ((found : DeskStates) → AreIn desks found → signers_needed (names_in found) ≤ length ring)
      → ((given : Given) → IsGiven site session desks ring given → IsUnopened disk_of given fault disk new signers) → (found : DeskStates) → AreIn desks found
      → IsBehind disk_of (given_with state_of outlet_of site session found ends.signers.items ends.outlet) fault ends.press back.press (map state_of back.signers.items) (outlet_state outlet_of back.outlet)
  unopened_behind disk fault back new signers same_old same_new same_signers same_outlet there unopened found all =
      let given : Given = given_with state_of outlet_of site session found ends.signers.items ends.outlet in
      let here : outlet_state outlet_of back.outlet ≡ given.outlet = ap (outlet_state outlet_of) (same_outlet ∙ sym of.outlet_is) in
      let enough = there found all in
      let needed : signers_needed (names_in found) ≤ length (map state_of ends.signers.items) = omega (arith, enough, same_count) in
      subst (λ (d : D). IsBehind disk_of given fault d back.press (map state_of back.signers.items) (outlet_state outlet_of back.outlet)) (sym same_old)
      (subst (λ (d : D). IsBehind disk_of given fault disk d (map state_of back.signers.items) (outlet_state outlet_of back.outlet)) (sym same_new)
      (subst (λ (s : List SignerState). IsBehind disk_of given fault disk new s (outlet_state outlet_of back.outlet)) (sym same_signers)
      (subst (λ (o : OutletState). IsBehind disk_of given fault disk new signers o) (sym here)
      (elim (unopened given (is_given found all)) [
        | inl unloaded ↦ inr (inl (record { there = needed; unloaded = unloaded; outlet_untouched = refl }))
        | inr stopped ↦ inr (inr (record { there = needed; stopped = stopped }))
      ]))))

  -- the names use signers that aren't there
  pub lacks_behind : (disk : D) (back : Ends D G O) (count : ℕ) (needed : ℕ) → ends.press ≡ disk → back.press ≡ disk → back.outlet ≡ outlet → count ≡ length ring → count < needed
      → ((found : DeskStates) → AreIn desks found → needed ≡ signers_needed (names_in found)) → (found : DeskStates) → AreIn desks found
      → IsBehind disk_of (given_with state_of outlet_of site session found ends.signers.items ends.outlet) (WrongCount 1 needed count) ends.press back.press (map state_of back.signers.items) (outlet_state outlet_of back.outlet)
  lacks_behind disk back count needed same_old same_new same_outlet counted less named found all =
      let is = named found all in
      let long : count ≡ length (map state_of ends.signers.items) = counted ∙ sym same_count in
      inl (record {
        lacks = (omega (arith, less, is, long), (λ i. WrongCount 1 (is i) (long i)));
        press_untouched = same_new ∙ sym same_old;
        outlet_untouched = ap (outlet_state outlet_of) (same_outlet ∙ sym of.outlet_is);
      })
