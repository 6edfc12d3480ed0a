-- What the instance's calls make of it.
use Rattle.std.proofs.Common.{◌≡◌, ◌≢◌, ℕ, suc, ◌+◌, ◌≤◌, ◌<◌, List, [], ◌∷◌, ◌++◌, length, get_or, map, refl, sym, ◌∙◌, ap, subst, arith, inl, inr}
use Rattle.std.specs.Prelude.{All, Option, None, Some, IfSome, IsSome, Ok, Err, slice_get}
use Rattle.std.proofs.lemmas.List.{length-map, length-append}
use Rattle.disk_api.specs.declared.disk.Disk.{Ghosts as DiskGhosts}
use Rattle.outlet_api.specs.declared.outlet.Outlet.{Ghosts as OutletGhosts}
use Rattle.authority_book.specs.declared.commands.Command.{Command}
use Rattle.authority_book.specs.declared.rows.NameRow.{NameRow}
use Rattle.authority_book.specs.Settings.{Settings}
use Rattle.entitle.specs.Certified.{names_of}
use Rattle.entitle.specs.Owed.{AreOwed}
use Rattle.cmd_codec.specs.Spelling.{spelling}
use Rattle.desk_core.specs.View.{View}
use Rattle.signer_api.specs.State.{SignerState}
use Rattle.signer_ring.specs.Ring.{Keeps}
use Rattle.signer_ring.specs.Calls.{Call}
use Rattle.editions.specs.VouchedCalls.{IsVouchedBy}
use Rattle.rp_rules.specs.Certificates.{Vouched}
use Rattle.pub_set.specs.Changes.{Contents}
use Rattle.pub_set.specs.Objects.{content_at}
use Rattle.editions.specs.Edition.{Edition, cut_at, set_after}
use Rattle.editions.specs.Step.{Premises, AreMore, IsMore, configs_from, configs_at}
use Rattle.editions.specs.Published.{IsPublished}
use Rattle.key_roll.specs.declared.rows.KeyRow.{KeyRow}
use Rattle.editions.specs.declared.gathered.Gathered.{Gathered}
use Rattle.editions.specs.declared.ended.EndedKey.{EndedKey}
use Rattle.editions.specs.declared.published_state.PublishedNumbers.{PublishedNumbers}
use Rattle.editions.specs.PublishedState.{PublishedStateValue, IsConsistentState}
use Rattle.editions.specs.Sheets.{sheet_of}
use Rattle.editions.specs.Ended.{ended_keys}
use Rattle.editions.specs.Gathering.{configs_with, cut_with, AreNextCommands, AreGathered, AreAccepted}
use Rattle.press_core.specs.declared.fault.PressFault.{PressFault}
use Rattle.press_core.specs.declared.fault.PressFault.TheVariants as press_fault
use Rattle.press_core.specs.declared.stored_fault.PrepareFault.{PrepareFault}
use Rattle.press_core.specs.declared.stored_fault.PrepareFault.TheVariants as prepare
use Rattle.press_core.specs.declared.stored_fault.CommitFault.{CommitFault}
use Rattle.press_core.specs.StoredAnswers.{IsPrepareFault, rose_of}
use Rattle.press_core.specs.Stored.{StoredValue, store_of, HasRecordsOf}
use Rattle.press_core.specs.JournalRecords.{AreRecords, store_for}
use Rattle.press_records.specs.Store.{Store}
use Rattle.gate_journal.specs.Format.{held_for, held_by}
use Rattle.gate_journal.specs.View.{View as JournalView, IsSameButRoom, HasSizes}
use Rattle.krill_top.specs.declared.publish_fault.PublishFault.{PublishFault}
use Rattle.krill_top.specs.declared.publish_fault.PublishFault.TheVariants.{Unprepared, Uncommitted}
use Rattle.press_core.specs.Press.{PressValue, DropsEach}
use Rattle.press_core.specs.Signers.{HasAllVouched, HoldKeys}
use Rattle.press_core.specs.PrepareInput.{PrepareInput, start_of}
use Rattle.press_core.specs.Planned.{IsPrepared, calls_for}
use Rattle.press_core.specs.Next.{NextValue}
use Rattle.press_core.specs.Stands.{IsLeftBy, StandsFor}
use Rattle.press_core.specs.Follows.{AreBehind, Follows, edition_of}
use Rattle.press_core.specs.Faults.{IsPressFault}
use Rattle.krill_top.specs.DeskStates.{most_desks, commands_of, names_in}
use Rattle.krill_top.specs.InstanceState.{InstanceState, lists_of, premises_of, store_in, repository_in, AreVouchedIn, VouchForCalls, IsCoherentIn}
use Rattle.key_ids.specs.Uris.{Bases}
use Rattle.outlet_api.specs.Calls.{Files}
use Rattle.rrdp_state.specs.Exported.{Repository}
use Rattle.press_core.specs.declared.last_export.LastExport.{LastExport}
use Rattle.press_core.specs.Exports.{IsCoherent, ShowsEdition, ShowsLast}
use Rattle.krill_top.specs.Outcomes.{Outcome, Commanded}
use Rattle.notice_board.specs.declared.sheets.Sheet.{Sheet}
use Rattle.krill_top.specs.inner.Gathered.{AreSince}
use Rattle.krill_top.specs.inner.Pressing.{IsPressed, IsUncommitted, IsNotPressed}
use Rattle.krill_top.specs.Publishing.{TakesAll, IsAtPress, Publishes, IsSameButSigners, IsUnpublished, IsInDoubt, IsNotMade, MakesOrNot, unprepared_by, unmade_of}
use Rattle.krill_top.specs.Replies.{CommandedIn}
use Rattle.krill_top.specs.DesksInStates.{Leads}
use Rattle.krill_top.specs.inner.Instances.{InstanceValue, IsInState, IsInstance, IsJournalOf, HasInDoubt, PressGoesOn, Moves, stored_in}
use Rattle.krill_top.specs.Histories.{HasRoomFor, and_doubt}
use Rattle.krill_top.specs.inner.Room.{IsEditionOfBytes}
use Rattle.krill_top.proofs.Cuts.{cuts_commanded, cuts_doubted, cuts_published}
use Rattle.krill_top.proofs.Fitting.{bytes_push, known_itself, prepared_bytes, room_then}
use Rattle.krill_top.proofs.Standing.{At, at_place, go_on_same}
use Rattle.krill_top.proofs.PressStanding.{press_kept, grow_same}
use Rattle.std.proofs.lemmas.Option.{none-some, IfSome_then}
use Rattle.krill_top.proofs.Vouching.{telling_vouched, has_before, keeps_same, keeps_then, front_of, rest_of}
use Rattle.std.proofs.lemmas.List.Elements.{All-append}
use Rattle.krill_top.proofs.Lists.{as_many, list_at, lists_long, lists_grow, names_now}
use Rattle.krill_top.proofs.Since.{Sound, are_gathered, they_go_on, they_take_all, they_are_accepted}
use Rattle.krill_top.proofs.Named.{commanded_names}

-- more of a list at a desk than what is taken in
abbrev MoreStand : Type 0
MoreStand = (less more : Premises) (editions : List Edition) (published_state : PublishedStateValue) → IsMore less more → StandsFor less editions published_state → StandsFor more editions published_state

abbrev MoreLeft : Type 0
MoreLeft = (less more : List (List Command)) (editions : List Edition) (published_state : PublishedStateValue) → AreMore less more → IsLeftBy less editions published_state → IsLeftBy more editions published_state

abbrev CutsGoOn : Type 0
CutsGoOn = (lists : List (List Command)) (cut : List ℕ) (gathered : List Gathered) → length cut ≡ length lists → AreNextCommands lists cut gathered
    → configs_with (configs_at lists cut) gathered ≡ configs_at lists (cut_with cut gathered)

-- What was signed for an edition is vouched where all that the signers vouch for is.
abbrev pub VouchLaw : Type 0
VouchLaw = (start : PrepareInput) (ring : List SignerState) (prepared : NextValue) (is : IsPrepared start ring prepared) (vouched : Vouched)
    → HasAllVouched vouched ring → All (IsVouchedBy vouched) (calls_for start ring prepared is)

-- What an outlet shows it still shows when there are more editions.
abbrev pub CoherentLaw : Type 0
CoherentLaw = (repository : Repository) (editions : List Edition) (edition : Edition) (files : Files)
    → IsCoherent repository editions files → IsCoherent repository (editions ++ edition ∷ []) files

abbrev pub ShownLaw : Type 0
ShownLaw = (session : List ℕ) (site : Bases) (editions : List Edition) (edition : Edition) (last : LastExport) (files : Option Files)
    → ShowsLast (ShowsEdition session site) editions last files → ShowsLast (ShowsEdition session site) (editions ++ edition ∷ []) last files

pub hold_same : (signers : List SignerState) → HoldKeys signers signers
hold_same signers number before key there among = (before, there, among)

-- nothing is in doubt
none_in_doubt : (at : PublishedStateValue) (edition : Option Edition) (entry : Option (List ℕ)) → edition ≡ None → entry ≡ None → HasInDoubt at edition entry
none_in_doubt at None None no_edition no_entry = tt
none_in_doubt at None (Some entry) no_edition no_entry = absurd (none-some entry (sym no_entry))
none_in_doubt at (Some edition) entry no_edition no_entry = absurd (none-some edition (sym no_edition))

-- how many bytes the records take, where they are known
held_of : {D : Type 0} (journal : JournalView D) (records : Option (List (List ℕ))) (held : ℕ) → held ≡ held_for journal.sizes → journal.records ≡ records → HasSizes journal
    → IfSome records (λ (all : List (List ℕ)). held ≡ held_by all)
held_of journal None held is same sizes = tt
held_of journal (Some all) held is same sizes =
    is ∙ ap held_for (subst (λ (r : Option (List (List ℕ))). IfSome r (λ (l : List (List ℕ)). journal.sizes ≡ map length l)) same sizes)

configs_long : (desk : ℕ) (lists : List (List Command)) (cut : List ℕ) → length (configs_from desk lists cut) ≡ length lists
configs_long desk [] cut = refl
configs_long desk (list ∷ lists) [] = ap suc (configs_long (desk + 1) lists [])
configs_long desk (list ∷ lists) (n ∷ cut) = ap suc (configs_long (desk + 1) lists cut)

module _ {D O : Type 0} (outlet_of : OutletGhosts O) where
  -- the instance stays one
  pub instance_on : (disk_of : DiskGhosts D) (P : InstanceState → InstanceState → Type 0) (old new : InstanceValue D O) → Moves disk_of outlet_of P old new → IsInstance outlet_of old → IsInstance outlet_of new
  instance_on disk_of P old new moves is =
      let arrived = moves is.state is.stands in
      record { state = arrived.after; stands = arrived.stands }

  -- ---- what stands in a state

  pub sound_in : (instance : InstanceValue D O) (state : InstanceState) → IsInState outlet_of instance state → Sound instance.desks state.desk_states instance.press.at.cut
  sound_in instance state stands = record {
    all = stands.desks;
    one_each = as_many instance.desks state.desk_states stands.desks ∙ sym (lists_long state.desk_states) ∙ stands.left.desks;
    within = stands.left.taken_in;
  }

  -- the cut is within what the desks have
  pub within_records : (instance : InstanceValue D O) (state : InstanceState) → IsInState outlet_of instance state → (number : ℕ) (desk : View D) → slice_get instance.desks number ≡ Some desk
      → get_or instance.press.at.cut number 0 ≤ length desk.records
  within_records instance state stands number desk here =
      let at : At state.desk_states number desk = at_place instance.desks state.desk_states number desk stands.desks here in
      let list : length (get_or (lists_of state.desk_states) number []) ≡ length at.state.commands = ap length (list_at state.desk_states number ∙ ap commands_of at.there) in
      let records : length desk.records ≡ length at.state.commands = ap length at.stands.commands.recorded.spelled ∙ length-map at.state.commands spelling in
      omega (arith, list, records, stands.left.taken_in number)

  -- the journal has the records of the editions
  has_records : (old : InstanceValue D O) (before : InstanceState) → IsInState outlet_of old before → HasRecordsOf before.editions (stored_in old)
  has_records old before stands =
      subst (λ (r : Option (List (List ℕ))). IfSome r (AreRecords (store_of (stored_in old)) before.editions)) (sym stands.journal.records)
      (subst (λ (s : Store). IfSome before.records (AreRecords s before.editions)) (λ i. store_for (sym stands.session i) (sym stands.site i)) stands.journal.are)

  -- ---- nothing is published

  abbrev asked : InstanceValue D O → List SignerState → JournalView D → InstanceValue D O
  asked instance ring journal = record instance { press = record instance.press { ring = ring }; journal = journal }

  same_count : (instance : InstanceValue D O) (ring : List SignerState) (before : InstanceState) → Keeps instance.press.ring ring → IsInState outlet_of instance before → length before.signers ≡ length ring
  same_count instance ring before kept stands = ap length (sym stands.ring) ∙ sym kept.count

  -- the journal of another press with what stands, and with another room
  journal_asked : (instance : InstanceValue D O) (ring : List SignerState) (journal : JournalView D) (before : InstanceState) → IsSameButRoom instance.journal journal → IsJournalOf (stored_in instance) before
      → IsJournalOf (stored_in (asked instance ring journal)) (record before { signers = ring })
  journal_asked instance ring journal before room is =
      subst (λ (j : JournalView D). IsJournalOf (stored_in (asked instance ring j)) (record before { signers = ring })) (sym room)
      (record { limit = is.limit; records = is.records; are = is.are; shut = is.shut; doubt = is.doubt; room = is.room; bytes = is.bytes })

  stands_asked : (instance : InstanceValue D O) (ring : List SignerState) (journal : JournalView D) (before : InstanceState) → Keeps instance.press.ring ring → IsSameButRoom instance.journal journal
      → IsInState outlet_of instance before → IsInState outlet_of (asked instance ring journal) (record before { signers = ring })
  stands_asked instance ring journal before kept room stands =
      let count = same_count instance ring before kept stands in
      record {
        desks = stands.desks;
        left = stands.left;
        stands = λ vouched all. stands.stands vouched (record { calls = all.calls; found = all.found });
        in_doubt = λ vouched all. stands.in_doubt vouched (record { calls = all.calls; found = all.found });
        serial = stands.serial;
        files = record { kept = stands.files.kept; set = stands.files.set };
        site = stands.site;
        session = stands.session;
        journal = journal_asked instance ring journal before room stands.journal;
        cuts = record { made = stands.cuts.made; grows = stands.cuts.grows; within = stands.cuts.within };
        exported = stands.exported;
        outlet = stands.outlet;
        shows = stands.shows;
        ring = refl;
        kept = stands.kept;
        one_each = stands.one_each;
        sheet = stands.sheet;
        counted = stands.counted ∙ count;
        live_signers = subst (λ (n : ℕ). All (λ (row : KeyRow). row.signer < n) instance.press.at.rows) count stands.live_signers;
        name_signers = subst (λ (n : ℕ). All (λ (name : NameRow). name.signer < n) (names_in before.desk_states)) count stands.name_signers;
      }

  pub not_published : (disk_of : DiskGhosts D) (clock : ℕ) (fault : PublishFault D) (old new : InstanceValue D O) (ring : List SignerState) (journal : JournalView D) → new ≡ asked old ring journal
      → Keeps old.press.ring ring → IsSameButRoom old.journal journal
      → ((before : InstanceState) → IsInState outlet_of old before → IsNotMade clock (unmade_of fault) before (record before { signers = ring }))
      → Moves disk_of outlet_of (λ b a. MakesOrNot clock (Err fault) b a) old new
  not_published disk_of clock fault old new ring journal same kept room cause =
      subst (λ (o : InstanceValue D O). Moves disk_of outlet_of (λ b a. MakesOrNot clock (Err fault) b a) old o) (sym same) (λ before stands.
      let keeps : Keeps before.signers ring = subst (λ (s : List SignerState). Keeps s ring) stands.ring kept in
      record {
        after = record before { signers = ring };
        same_site = refl;
        same_session = refl;
        same_found = refl;
        step = cause before stands;
        stands = stands_asked old ring journal before kept room stands;
        disks = go_on_same disk_of old.desks before.desk_states stands.desks;
        press = subst (λ (d : D). PressGoesOn disk_of old.journal.disk d before (record before { signers = ring })) (sym (ap (λ (j : JournalView D). j.disk) room))
            (press_kept disk_of old.journal.disk before (record before { signers = ring }) refl);
        grown = grow_same before (record before { signers = ring }) refl;
        kept = keeps;
        vouch = λ tell vouched has all. record { calls = all.calls; found = all.found };
        coherent = λ is. is;
      })

  -- the press as it stands in the state
  pub at_press : (old : InstanceValue D O) (groups : List Gathered) (before : InstanceState) → AreSince 0 old.desks old.press.at.cut groups → IsInState outlet_of old before
      → IsAtPress old.press groups before
  at_press old groups before since stands =
      let sound = sound_in old before stands in
      record {
        site = stands.site;
        ring = stands.ring;
        left = stands.left;
        table = λ vouched all. (stands.stands vouched all).table;
        go_on = they_go_on old.desks before.desk_states old.press.at.cut groups sound since;
        takes_all = they_take_all old.desks before.desk_states old.press.at.cut groups sound since;
      }

  -- the signers kept what they had
  same_but_signers : (old : InstanceValue D O) (ring : List SignerState) (before : InstanceState) → Keeps old.press.ring ring → HoldKeys old.press.ring ring → IsInState outlet_of old before
      → IsSameButSigners before (record before { signers = ring })
  same_but_signers old ring before kept held stands = record {
    same = refl;
    kept = subst (λ (s : List SignerState). Keeps s ring) stands.ring kept;
    held = subst (λ (s : List SignerState). HoldKeys s ring) stands.ring held;
  }

  -- a press met why
  met_by : (clock : ℕ) (fault : PressFault) (old : InstanceValue D O) (groups : List Gathered) (ring : List SignerState) (before : InstanceState)
      → Keeps old.press.ring ring → HoldKeys old.press.ring ring → AreSince 0 old.desks old.press.at.cut groups → old.journal.shut ≡ None
      → IsPressFault (start_of old.press clock groups) ring fault → IsInState outlet_of old before
      → IsUnpublished clock fault before (record before { signers = ring })
  met_by clock fault old groups ring before kept held since is_open met stands = record {
    same = same_but_signers old ring before kept held stands;
    cause = inr (record {
      is_open = stands.journal.shut.0 is_open;
      press = old.press;
      gathered = groups;
      at = at_press old groups before since stands;
      met = met;
    });
  }

  -- why a press over its journal prepared none
  unprepared_met : (clock : ℕ) (fault : PrepareFault D) (old : InstanceValue D O) (groups : List Gathered) (ring : List SignerState) (before : InstanceState)
      → Keeps old.press.ring ring → HoldKeys old.press.ring ring → AreSince 0 old.desks old.press.at.cut groups → HasSizes old.journal
      → IsPrepareFault (start_of old.press clock groups) ring old.journal fault → IsInState outlet_of old before
      → IsNotMade clock (unprepared_by fault) before (record before { signers = ring })
  unprepared_met clock (prepare.Shut rose) old groups ring before kept held since sizes met stands =
      let same : ring ≡ before.signers = met.asked ∙ stands.ring in
      record {
        shut = λ none. none-some rose (sym (stands.journal.shut.1 none) ∙ met.shut);
        same = λ i. record before { signers = same i };
      }
  unprepared_met clock (prepare.ClockRange now m) old groups ring before kept held since sizes met stands = met_by clock (press_fault.ClockRange now m) old groups ring before kept held since met.0 met.1 stands
  unprepared_met clock (prepare.SerialEnd value m) old groups ring before kept held since sizes met stands = met_by clock (press_fault.SerialEnd value m) old groups ring before kept held since met.0 met.1 stands
  unprepared_met clock (prepare.Nothing serial m) old groups ring before kept held since sizes met stands = met_by clock (press_fault.Nothing serial m) old groups ring before kept held since met.0 met.1 stands
  unprepared_met clock (prepare.SignerFault signer m) old groups ring before kept held since sizes met stands = met_by clock (press_fault.SignerFault signer m) old groups ring before kept held since met.0 met.1 stands
  unprepared_met clock (prepare.KeyClash id m) old groups ring before kept held since sizes met stands = met_by clock (press_fault.KeyClash id m) old groups ring before kept held since met.0 met.1 stands
  unprepared_met clock (prepare.JournalFull long needed m) old groups ring before kept held since sizes met stands =
      let full = met.1 in
      record {
        is_open = stands.journal.shut.0 met.0;
        same = same_but_signers old ring before kept held stands;
        press = old.press;
        gathered = groups;
        at = at_press old groups before since stands;
        prepared = full.edition;
        is_prepared = full.is_prepared;
        held_is = held_of old.journal before.records long full.full.held_is stands.journal.records sizes;
        needed_is = full.full.needed_is;
        past = full.full.past;
        is_met = met.2;
      }
  unprepared_met clock prepare.Memory old groups ring before kept held since sizes met stands = met_by clock press_fault.Memory old groups ring before kept held since met.0 met.1 stands

  -- ---- what a press asks for

  pub gathered_right : (old : InstanceValue D O) (groups : List Gathered) → AreSince 0 old.desks old.press.at.cut groups → AreGathered old.press.at.cut groups
  gathered_right old groups since = are_gathered old.desks old.press.at.cut groups since

  pub accepted_right : (old : InstanceValue D O) (groups : List Gathered) → IsInstance outlet_of old → AreSince 0 old.desks old.press.at.cut groups → AreAccepted old.press.at.configs groups
  accepted_right old groups is since =
      let stands = is.stands in
      let sound = sound_in old is.state stands in
      they_are_accepted old.desks is.state.desk_states old.press.at.cut groups old.press.at.configs sound since stands.left.configs
      (ap length stands.left.configs ∙ configs_long 0 (lists_of is.state.desk_states) old.press.at.cut ∙ stands.left.desks)

  pub live_signers_right : (old : InstanceValue D O) → IsInstance outlet_of old → All (λ (row : KeyRow). row.signer < length old.press.ring) old.press.at.rows
  live_signers_right old is =
      subst (λ (s : List SignerState). All (λ (row : KeyRow). row.signer < length s) old.press.at.rows) (sym is.stands.ring) is.stands.live_signers

  names_at_cut : (old : InstanceValue D O) (groups : List Gathered) (state : InstanceState) → CutsGoOn → IsInState outlet_of old state → AreSince 0 old.desks old.press.at.cut groups
      → 0 < length old.desks → names_of (configs_with old.press.at.configs groups) ≡ names_in state.desk_states
  names_at_cut old groups state go stands since some =
      let sound = sound_in old state stands in
      let on = they_go_on old.desks state.desk_states old.press.at.cut groups sound since in
      let takes = they_take_all old.desks state.desk_states old.press.at.cut groups sound since in
      ap (λ (c : List Settings). names_of (configs_with c groups)) stands.left.configs
      ∙ ap names_of (go (lists_of state.desk_states) old.press.at.cut groups (sym stands.left.desks) on)
      ∙ names_now state.desk_states (cut_with old.press.at.cut groups) takes (omega (arith, some, as_many old.desks state.desk_states stands.desks))

  pub cut_long : (old : InstanceValue D O) → IsInstance outlet_of old → length old.press.at.cut ≡ most_desks
  cut_long old is = is.stands.one_each

  pub some_desks : (old : InstanceValue D O) (state : InstanceState) → IsInState outlet_of old state → 0 < length old.desks
  some_desks old state stands = omega (arith, (sound_in old state stands).one_each, stands.one_each)

  pub within_right : (old : InstanceValue D O) → IsInstance outlet_of old → (number : ℕ) (desk : View D) → slice_get old.desks number ≡ Some desk → get_or old.press.at.cut number 0 ≤ length desk.records
  within_right old is = within_records old is.state is.stands

  pub name_signers_right : (old : InstanceValue D O) (groups : List Gathered) → CutsGoOn → IsInstance outlet_of old → AreSince 0 old.desks old.press.at.cut groups
      → All (λ (name : NameRow). name.signer < length old.press.ring) (names_of (configs_with old.press.at.configs groups))
  name_signers_right old groups go is since =
      subst (λ (names : List NameRow). All (λ (name : NameRow). name.signer < length old.press.ring) names) (sym (names_at_cut old groups is.state go is.stands since (some_desks old is.state is.stands)))
      (subst (λ (s : List SignerState). All (λ (name : NameRow). name.signer < length s) (names_in is.state.desk_states)) (sym is.stands.ring) is.stands.name_signers)

  -- ---- an edition

  -- The instance once an edition was pressed.
  abbrev pressed : InstanceValue D O → StoredValue D → Sheet → InstanceValue D O
  pressed old press sheet = record old { press = press.press; journal = press.journal; sheet = sheet }

  module _ (disk_of : DiskGhosts D) (law : VouchLaw) (still_coherent : CoherentLaw) (still_shown : ShownLaw) (clock : ℕ) (old : InstanceValue D O) (press : StoredValue D) (told : PublishedNumbers) (sheet : Sheet) (done : IsPressed disk_of clock old.desks (stored_in old) press told sheet)
      (before : InstanceState) (stands : IsInState outlet_of old before) where
    abbrev groups : List Gathered
    groups = done.groups

    abbrev made : List SignerState
    made = done.made

    abbrev prepared : NextValue
    prepared = done.prepared

    abbrev new : InstanceValue D O
    new = pressed old press sheet

    abbrev edition : Edition
    edition = edition_of prepared

    abbrev calls : List Call
    calls = calls_for (start_of old.press clock groups) made prepared done.edition.is_prepared

    abbrev after : InstanceState
    after = record before {
      editions = before.editions ++ edition ∷ [];
      calls = before.calls ++ calls;
      records = new.journal.records;
      signers = new.press.ring;
    }

    sound : Sound old.desks before.desk_states old.press.at.cut
    sound = sound_in old before stands

    go_on : AreNextCommands (lists_of before.desk_states) old.press.at.cut groups
    go_on = they_go_on old.desks before.desk_states old.press.at.cut groups sound done.since

    left_then : IsLeftBy (lists_of before.desk_states) (before.editions ++ edition ∷ []) prepared.next
    left_then = done.edition.left (lists_of before.desk_states) before.editions stands.left go_on

    behind : (vouched : Vouched) → AreVouchedIn vouched after → AreBehind (start_of old.press clock groups) calls (premises_of vouched before) before.editions
    behind vouched all = record {
      stands = stands.stands vouched (record { calls = front_of (IsVouchedBy vouched) before.calls calls all.calls; found = all.found });
      gathered = go_on;
      site = sym stands.site;
      vouched = rest_of (IsVouchedBy vouched) before.calls calls all.calls;
    }

    follows : (vouched : Vouched) → AreVouchedIn vouched after → Follows (premises_of vouched before) clock before.editions prepared
    follows vouched all = done.edition.follows (premises_of vouched before) before.editions (behind vouched all)

    takes : TakesAll before.desk_states edition.cut
    takes desk = ap (λ (c : List ℕ). cut_at c desk) done.edition.is_prepared.cut ∙ they_take_all old.desks before.desk_states old.press.at.cut groups sound done.since desk

    set_is : content_at prepared.next.set ≡ set_after (before.editions ++ edition ∷ [])
    set_is = λ i uri. left_then.set uri i

    -- its record stands behind those before it
    journal_then : IsJournalOf (stored_in new) after
    journal_then = record {
      limit = done.limit ∙ stands.journal.limit;
      records = refl;
      are = subst (λ (s : Store). IfSome new.journal.records (AreRecords s (before.editions ++ edition ∷ []))) store_then
          (done.records (lists_of before.desk_states) before.editions stands.left (has_records old before stands));
      shut = (λ shut. stands.journal.shut.0 done.was_open, λ none. done.is_open);
      doubt = none_in_doubt new.press.at before.in_doubt new.journal.doubt settled done.settled;
      room = λ small. subst (λ (d : Option Edition). IfSome new.journal.records (λ (_ : List (List ℕ)). HasRoomFor before.site (and_doubt (before.editions ++ edition ∷ []) d))) (sym settled)
          (room_then old.press.site before.site (before.editions ++ edition ∷ []) old.journal.records new.journal.records stands.site done.known_before
          (done.room stands.journal.limit (lists_of before.desk_states) before.editions stands.left (has_records old before stands)));
      bytes = λ found. subst (λ (d : Option Edition). All IsEditionOfBytes (and_doubt (before.editions ++ edition ∷ []) d)) (sym settled)
          (bytes_push before.editions before.in_doubt edition settled (stands.journal.bytes found)
          (prepared_bytes (start_of old.press clock groups) made prepared done.edition.is_prepared));
    }
      where
        settled : before.in_doubt ≡ None
        settled = stands.journal.shut.0 done.was_open

        store_then : store_of press ≡ store_in after
        store_then = λ i. store_for ((done.session ∙ stands.session) i) ((done.site ∙ stands.site) i)

    publishes : Publishes clock told before after
    publishes = record {
      press = old.press;
      gathered = groups;
      at = at_press old groups before done.since stands;
      made = made;
      prepared = prepared;
      is_prepared = done.edition.is_prepared;
      is_open = stands.journal.shut.0 done.was_open;
      one_more = refl;
      takes_all = takes;
      numbers = record {
        serial = ap (λ (p : PublishedNumbers). p.serial) done.told_is;
        moment = ap (λ (p : PublishedNumbers). p.moment) done.told_is;
        objects = prepared.next.set;
        ascending = done.edition.is_prepared.next.ascending;
        stand = left_then.set;
        as_many = ap (λ (p : PublishedNumbers). p.objects) done.told_is;
        owed = prepared.next.owed;
        owes = subst (λ (c : List Settings). AreOwed c prepared.next.owed) left_then.configs done.edition.is_prepared.next.kept.owes;
        as_many_owed = ap (λ (p : PublishedNumbers). p.origins) done.told_is;
      };
      signers = record {
        kept = subst (λ (s : List SignerState). Keeps s made) stands.ring done.kept;
        held = subst (λ (s : List SignerState). HoldKeys s made) stands.ring done.held;
        dropped = subst (λ (e : List EndedKey). DropsEach e made new.press.ring)
            (done.edition.is_prepared.next.ended ∙ ap (λ (r : List KeyRow). ended_keys r prepared.next.rows) stands.left.rows) done.dropped;
      };
      known = λ some. done.known (subst IsSome (sym stands.journal.records) some);
      recorded = journal_then.are;
      sound = λ vouched all.
          let follow = follows vouched all in
          record {
            step = follow.step;
            called = follow.called;
            published = subst (λ (s : Contents). IsPublished (premises_of vouched before) edition s) set_is
                (done.edition.published (premises_of vouched before) before.editions (behind vouched all));
            profile = follow.profile;
          };
    }

    all_kept : Keeps old.press.ring new.press.ring
    all_kept = keeps_then old.press.ring made new.press.ring done.kept done.still

    -- from one state to the next
    kept_then : Keeps before.signers after.signers
    kept_then = subst (λ (s : List SignerState). Keeps s new.press.ring) stands.ring all_kept

    coherent_then : IsCoherentIn before → IsCoherentIn after
    coherent_then is = IfSome_then before.outlet.files {P = IsCoherent (repository_in before) before.editions} {Q = IsCoherent (repository_in before) (before.editions ++ edition ∷ [])} is
        (λ files was. still_coherent (repository_in before) before.editions edition files was)

    vouch : VouchForCalls before after
    vouch tell vouched has all =
        let kept : Keeps before.signers made = subst (λ (s : List SignerState). Keeps s made) stands.ring done.kept in
        record {
          calls = All-append (IsVouchedBy vouched) before.calls calls all.calls
              (law (start_of old.press clock groups) made prepared done.edition.is_prepared vouched
              (telling_vouched vouched made (kept.told tell) (has_before vouched made new.press.ring done.still has)));
          found = all.found;
        }

    stands_then : IsInState outlet_of new after
    stands_then =
        let count : length before.signers ≡ length new.press.ring = same_count old new.press.ring before all_kept stands in
        record {
          desks = stands.desks;
          left = subst (λ (s : PublishedStateValue). IsLeftBy (lists_of before.desk_states) (before.editions ++ edition ∷ []) s) (sym done.at) left_then;
          stands = λ vouched all. subst (λ (s : PublishedStateValue). StandsFor (premises_of vouched before) (before.editions ++ edition ∷ []) s) (sym done.at) (follows vouched all).stands;
          in_doubt = λ vouched all.
              subst (λ (d : Option Edition). IfSome d (λ (e : Edition). (at : PublishedStateValue) × StandsFor (premises_of vouched before) ((before.editions ++ edition ∷ []) ++ e ∷ []) at)) (sym (stands.journal.shut.0 done.was_open)) tt;
          serial =
              let long : length (before.editions ++ edition ∷ []) ≡ length before.editions + 1 = length-append before.editions (edition ∷ []) in
              let at : new.press.at.serial ≡ prepared.next.serial = ap (λ (s : PublishedStateValue). s.serial) done.at in
              omega (arith, long, at, done.edition.is_prepared.next.serial, stands.serial);
          files = done.files (lists_of before.desk_states) before.editions stands.left stands.files;
          site = done.site ∙ stands.site;
          session = done.session ∙ stands.session;
          journal = journal_then;
          cuts =
              let cuts = cuts_published before edition (stands.journal.shut.0 done.was_open) takes stands.cuts in
              record { made = cuts.made; grows = cuts.grows; within = cuts.within };
          exported = done.last_export ∙ stands.exported;
          outlet = stands.outlet;
          shows = still_shown before.session before.site before.editions edition before.exported before.outlet.files stands.shows;
          ring = refl;
          kept = λ some. subst IsConsistentState (sym done.at) done.edition.is_prepared.next.kept;
          one_each = ap (λ (s : PublishedStateValue). length s.cut) done.at ∙ done.edition.is_prepared.next.kept.cut;
          sheet = done.sheet_is ∙ ap sheet_of (sym done.at);
          counted = stands.counted ∙ count;
          live_signers = subst (λ (n : ℕ). All (λ (row : KeyRow). row.signer < n) new.press.at.rows) (sym all_kept.count)
              (subst (λ (s : PublishedStateValue). All (λ (row : KeyRow). row.signer < length old.press.ring) s.rows) (sym done.at) done.edition.is_prepared.signers);
          name_signers = subst (λ (n : ℕ). All (λ (name : NameRow). name.signer < n) (names_in before.desk_states)) count stands.name_signers;
        }

  pub published : VouchLaw → CoherentLaw → ShownLaw → (disk_of : DiskGhosts D) (clock : ℕ) (old : InstanceValue D O) (press : StoredValue D) (told : PublishedNumbers) (sheet : Sheet)
      → IsPressed disk_of clock old.desks (stored_in old) press told sheet → Moves disk_of outlet_of (λ b a. MakesOrNot {D = D} clock (Ok told) b a) old (pressed old press sheet)
  published law still_coherent still_shown disk_of clock old press told sheet done before stands = record {
    after = after disk_of law still_coherent still_shown clock old press told sheet done before stands;
    same_site = refl;
    same_session = refl;
    same_found = refl;
    step = publishes disk_of law still_coherent still_shown clock old press told sheet done before stands;
    stands = stands_then disk_of law still_coherent still_shown clock old press told sheet done before stands;
    disks = go_on_same disk_of old.desks before.desk_states stands.desks;
    press = record {
      cause = λ was_open shut. absurd (shut was_open);
      stays = λ shut. refl;
      later = done.later;
    };
    grown = (edition disk_of law still_coherent still_shown clock old press told sheet done before stands ∷ [], refl);
    kept = kept_then disk_of law still_coherent still_shown clock old press told sheet done before stands;
    vouch = vouch disk_of law still_coherent still_shown clock old press told sheet done before stands;
    coherent = coherent_then disk_of law still_coherent still_shown clock old press told sheet done before stands;
  }

  -- the serial of what was pressed
  pub pressed_serial : (disk_of : DiskGhosts D) (clock : ℕ) (old : InstanceValue D O) (press : StoredValue D) (told : PublishedNumbers) (sheet : Sheet) → IsPressed disk_of clock old.desks (stored_in old) press told sheet
      → (told.serial ≡ press.press.at.serial) × (press.press.at.serial ≢ 0)
  pressed_serial disk_of clock old press told sheet done =
      let at : press.press.at.serial ≡ done.prepared.next.serial = ap (λ (s : PublishedStateValue). s.serial) done.at in
      let next = done.edition.is_prepared.next.serial in (
        ap (λ (p : PublishedNumbers). p.serial) done.told_is ∙ sym at,
        λ none. absurd (omega (arith, at, next, none)),
      )

  -- ---- an edition in doubt

  module _ (disk_of : DiskGhosts D) (clock : ℕ) (old : InstanceValue D O) (press : StoredValue D) (rose : ℕ × ℕ) (done : IsUncommitted disk_of clock old.desks (stored_in old) press rose)
      (before : InstanceState) (stands : IsInState outlet_of old before) where
    abbrev doubted : Edition
    doubted = edition_of done.prepared

    abbrev doubt_calls : List Call
    doubt_calls = calls_for (start_of old.press clock done.groups) press.press.ring done.prepared done.edition.is_prepared

    abbrev in_doubt : InstanceState
    in_doubt = record before { in_doubt = Some doubted; calls = before.calls ++ doubt_calls; signers = press.press.ring }

    doubt_sound : Sound old.desks before.desk_states old.press.at.cut
    doubt_sound = sound_in old before stands

    doubt_go_on : AreNextCommands (lists_of before.desk_states) old.press.at.cut done.groups
    doubt_go_on = they_go_on old.desks before.desk_states old.press.at.cut done.groups doubt_sound done.since

    doubt_left : IsLeftBy (lists_of before.desk_states) (before.editions ++ doubted ∷ []) done.prepared.next
    doubt_left = done.edition.left (lists_of before.desk_states) before.editions stands.left doubt_go_on

    doubt_set : content_at done.prepared.next.set ≡ set_after (before.editions ++ doubted ∷ [])
    doubt_set = λ i uri. doubt_left.set uri i

    doubt_before : (vouched : Vouched) → AreVouchedIn vouched in_doubt → AreVouchedIn vouched before
    doubt_before vouched all = record { calls = front_of (IsVouchedBy vouched) before.calls doubt_calls all.calls; found = all.found }

    doubt_behind : (vouched : Vouched) → AreVouchedIn vouched in_doubt → AreBehind (start_of old.press clock done.groups) doubt_calls (premises_of vouched before) before.editions
    doubt_behind vouched all = record {
      stands = stands.stands vouched (doubt_before vouched all);
      gathered = doubt_go_on;
      site = sym stands.site;
      vouched = rest_of (IsVouchedBy vouched) before.calls doubt_calls all.calls;
    }

    doubt_follows : (vouched : Vouched) → AreVouchedIn vouched in_doubt → Follows (premises_of vouched before) clock before.editions done.prepared
    doubt_follows vouched all = done.edition.follows (premises_of vouched before) before.editions (doubt_behind vouched all)

    doubt_takes : TakesAll before.desk_states doubted.cut
    doubt_takes desk = ap (λ (c : List ℕ). cut_at c desk) done.edition.is_prepared.cut ∙ they_take_all old.desks before.desk_states old.press.at.cut done.groups doubt_sound done.since desk

    doubts : IsInDoubt clock before in_doubt
    doubts = record {
      is_open = stands.journal.shut.0 done.was_open;
      press = old.press;
      gathered = done.groups;
      at = at_press old done.groups before done.since stands;
      prepared = done.prepared;
      is_prepared = done.edition.is_prepared;
      doubted = refl;
      takes_all = doubt_takes;
      kept = subst (λ (s : List SignerState). Keeps s press.press.ring) stands.ring done.kept;
      held = subst (λ (s : List SignerState). HoldKeys s press.press.ring) stands.ring done.held;
      sound = λ vouched all.
          let follow = doubt_follows vouched all in
          record {
            step = follow.step;
            called = follow.called;
            published = subst (λ (s : Contents). IsPublished (premises_of vouched before) doubted s) doubt_set
                (done.edition.published (premises_of vouched before) before.editions (doubt_behind vouched all));
            profile = follow.profile;
          };
    }

    -- the press as it was, and its journal shut
    abbrev shut_in : InstanceValue D O
    shut_in = record old { press = record old.press { ring = press.press.ring }; journal = press.journal }

    doubt_journal : IsJournalOf (stored_in shut_in) in_doubt
    doubt_journal = record {
      limit = done.limit ∙ stands.journal.limit;
      records = done.records ∙ stands.journal.records;
      are = stands.journal.are;
      shut = (λ none. absurd (none-some rose (sym none ∙ done.shut)), λ none. absurd (none-some doubted (sym none)));
      doubt = subst (λ (d : Option (List ℕ)). HasInDoubt old.press.at (Some doubted) d) (sym done.doubt) (record { prepared = done.prepared; edition_is = refl; recorded = done.recorded });
      room = λ small. room_then old.press.site before.site (before.editions ++ doubted ∷ []) old.journal.records before.records stands.site
          (subst (λ (r : Option (List (List ℕ))). IfSome before.records (λ (_ : List (List ℕ)). IsSome r)) (sym stands.journal.records) (known_itself before.records))
          (done.room stands.journal.limit (lists_of before.desk_states) before.editions stands.left (has_records old before stands));
      bytes = λ found. bytes_push before.editions before.in_doubt doubted (stands.journal.shut.0 done.was_open) (stands.journal.bytes found)
          (prepared_bytes (start_of old.press clock done.groups) press.press.ring done.prepared done.edition.is_prepared);
    }

    doubt_stands : IsInState outlet_of shut_in in_doubt
    doubt_stands =
        let count = same_count old press.press.ring before done.kept stands in
        record {
          desks = stands.desks;
          left = stands.left;
          stands = λ vouched all. stands.stands vouched (doubt_before vouched all);
          in_doubt = λ vouched all. (done.prepared.next, (doubt_follows vouched all).stands);
          serial = stands.serial;
          files = record { kept = stands.files.kept; set = stands.files.set };
          site = stands.site;
          session = stands.session;
          journal = doubt_journal;
          cuts =
              let cuts = cuts_doubted before doubted (stands.journal.shut.0 done.was_open) doubt_takes stands.cuts in
              record { made = cuts.made; grows = cuts.grows; within = cuts.within };
          exported = stands.exported;
          outlet = stands.outlet;
          shows = stands.shows;
          ring = refl;
          kept = stands.kept;
          one_each = stands.one_each;
          sheet = stands.sheet;
          counted = stands.counted ∙ count;
          live_signers = subst (λ (n : ℕ). All (λ (row : KeyRow). row.signer < n) old.press.at.rows) count stands.live_signers;
          name_signers = subst (λ (n : ℕ). All (λ (name : NameRow). name.signer < n) (names_in before.desk_states)) count stands.name_signers;
        }

    doubt_press : PressGoesOn disk_of old.journal.disk press.journal.disk before in_doubt
    doubt_press = record {
      cause = λ was_open shut. record { from = disk_of.fault_count old.journal.disk; to = disk_of.fault_count press.journal.disk; begins = omega arith; risen = done.risen; ends = omega arith };
      stays = λ shut. absurd (shut (stands.journal.shut.0 done.was_open));
      later = done.later;
    }

  uncommitted : VouchLaw → (disk_of : DiskGhosts D) (clock : ℕ) (old : InstanceValue D O) (press : StoredValue D) (fault : CommitFault D) → IsUncommitted disk_of clock old.desks (stored_in old) press (rose_of fault)
      → Moves disk_of outlet_of (λ b a. MakesOrNot clock (Err (Uncommitted fault)) b a) old (record old { press = press.press; journal = press.journal })
  uncommitted law disk_of clock old press fault done =
      subst (λ (p : PressValue). Moves disk_of outlet_of (λ b a. MakesOrNot clock (Err (Uncommitted fault)) b a) old (record old { press = p; journal = press.journal })) (sym done.same) (λ before stands. record {
        after = in_doubt disk_of clock old press (rose_of fault) done before stands;
        same_site = refl;
        same_session = refl;
        same_found = refl;
        step = doubts disk_of clock old press (rose_of fault) done before stands;
        stands = doubt_stands disk_of clock old press (rose_of fault) done before stands;
        disks = go_on_same disk_of old.desks before.desk_states stands.desks;
        press = doubt_press disk_of clock old press (rose_of fault) done before stands;
        grown = grow_same before (in_doubt disk_of clock old press (rose_of fault) done before stands) refl;
        kept = subst (λ (s : List SignerState). Keeps s press.press.ring) stands.ring done.kept;
        vouch = λ tell vouched has all.
            let kept : Keeps before.signers press.press.ring = subst (λ (s : List SignerState). Keeps s press.press.ring) stands.ring done.kept in
            record {
              calls = All-append (IsVouchedBy vouched) before.calls (doubt_calls disk_of clock old press (rose_of fault) done before stands) all.calls
                  (law (start_of old.press clock done.groups) press.press.ring done.prepared done.edition.is_prepared vouched (telling_vouched vouched press.press.ring (kept.told tell) has));
              found = all.found;
            };
        coherent = λ is. is;
      })

  pub unpublished : VouchLaw → (disk_of : DiskGhosts D) (clock : ℕ) (old : InstanceValue D O) (press : StoredValue D) (fault : PublishFault D) → IsNotPressed disk_of clock old.desks (stored_in old) press fault
      → Moves disk_of outlet_of (λ b a. MakesOrNot clock (Err fault) b a) old (record old { press = press.press; journal = press.journal })
  unpublished law disk_of clock old press (Uncommitted fault) is = uncommitted law disk_of clock old press fault is
  unpublished law disk_of clock old press (Unprepared fault) is =
      not_published disk_of clock (Unprepared fault) old (record old { press = press.press; journal = press.journal }) press.press.ring press.journal
      (ap (λ (p : PressValue). record old { press = p; journal = press.journal }) is.same) is.kept is.journal
      (λ before stands. elim is.cause [
        | inl memory ↦ subst (λ (f : PrepareFault D). IsNotMade clock (unprepared_by f) before (record before { signers = press.press.ring })) (sym memory.0)
            (record {
              same = same_but_signers old press.press.ring before is.kept is.held stands;
              cause = inl (record { memory = refl; same_signers = memory.1 ∙ stands.ring });
            })
        | inr met ↦ unprepared_met clock fault old met.groups press.press.ring before is.kept is.held met.since is.sizes met.met stands
      ])

  -- ---- a command

  pub commanded_moves : (disk_of : DiskGhosts D) (name : List ℕ) (command : Command) (outcome : Outcome) (old : InstanceValue D O) (desks : List (View D)) → MoreLeft → MoreStand
      → Leads disk_of (λ b a. Commanded name command old.signers outcome b a) old.desks desks
      → Moves disk_of outlet_of (λ b a. CommandedIn name command outcome b a) old (record old { desks = desks })
  commanded_moves disk_of name command outcome old desks more_left more leads before stands =
      let goes = leads before.desk_states stands.desks in
      let step : Commanded name command (length before.signers) outcome before.desk_states goes.after = subst (λ (n : ℕ). Commanded name command n outcome before.desk_states goes.after) stands.counted goes.step in
      let grow : AreMore (lists_of before.desk_states) (lists_of goes.after) = lists_grow disk_of old.desks desks before.desk_states goes.after goes.disks in
      record {
        after = record before { desk_states = goes.after };
        same_site = refl;
        same_session = refl;
        same_found = refl;
        step = record { commanded = step; same = refl };
        stands = record {
          desks = goes.stands;
          left = more_left (lists_of before.desk_states) (lists_of goes.after) before.editions old.press.at grow stands.left;
          stands = λ vouched all. more (premises_of vouched before) (premises_of vouched (record before { desk_states = goes.after })) before.editions old.press.at (record {
            lists = grow;
            site = refl;
            vouched = λ key digest signature is. is;
          }) (stands.stands vouched (record { calls = all.calls; found = all.found }));
          in_doubt = λ vouched all. IfSome_then before.in_doubt (stands.in_doubt vouched (record { calls = all.calls; found = all.found }))
              (λ edition is. (
                is.0,
                more (premises_of vouched before) (premises_of vouched (record before { desk_states = goes.after })) (before.editions ++ edition ∷ []) is.0 (record {
                  lists = grow;
                  site = refl;
                  vouched = λ key digest signature is. is;
                }) is.1,
              ));
          serial = stands.serial;
          files = stands.files;
          site = stands.site;
          session = stands.session;
          journal = record { limit = stands.journal.limit; records = stands.journal.records; are = stands.journal.are; shut = stands.journal.shut; doubt = stands.journal.doubt; room = stands.journal.room; bytes = stands.journal.bytes };
          cuts =
              let cuts = cuts_commanded before goes.after grow stands.cuts in
              record { made = cuts.made; grows = cuts.grows; within = cuts.within };
          exported = stands.exported;
          outlet = stands.outlet;
          shows = stands.shows;
          ring = stands.ring;
          kept = stands.kept;
          one_each = stands.one_each;
          sheet = stands.sheet;
          counted = stands.counted;
          live_signers = stands.live_signers;
          name_signers = commanded_names name command (length before.signers) outcome before.desk_states goes.after step stands.name_signers;
        };
        disks = goes.disks;
        press = press_kept disk_of old.journal.disk before (record before { desk_states = goes.after }) refl;
        grown = grow_same before (record before { desk_states = goes.after }) refl;
        kept = keeps_same before.signers;
        vouch = λ tell vouched has all. record { calls = all.calls; found = all.found };
        coherent = λ is. is;
      }
