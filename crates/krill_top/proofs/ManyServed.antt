-- A run over several sessions, from what opening found and what comes out of the locks.
use Rattle.std.proofs.Common.{◌≡◌, ◌+◌, ◌==◌, ◌||◌, ℕ, Bool, true, false, List, [], ◌∷◌, ◌++◌, map, length, refl, sym, ap, ◌∙◌, subst, inl, inr}
use Rattle.std.specs.Prelude.{◌⊎◌, Option, None, Some, Result, Ok, Err, IfErr, IfSome, All}
use Rattle.std.proofs.lemmas.Bool.{eqb-true}
use Rattle.std.proofs.lemmas.List.{nil_from_length}
use Rattle.std.proofs.lemmas.List.Elements.{All-nil, All-append}
use Rattle.disk_api.specs.declared.disk.Disk.{Ghosts as DiskGhosts}
use Rattle.outlet_api.specs.declared.outlet.Outlet.{Ghosts as OutletGhosts}
use Rattle.outlet_api.specs.declared.outlet.OutletStop.TheVariants as stop
use Rattle.outlet_api.specs.declared.exports.ExportFault.{ExportFault}
use Rattle.authority_book.specs.declared.commands.Command.{Command}
use Rattle.desk_core.specs.View.{View}
use Rattle.desk_core.specs.Counted.{CountedView}
use Rattle.key_ids.specs.Uris.{Bases}
use Rattle.signer_api.specs.State.{SignerState}
use Rattle.signer_ring.specs.Ring.{AllTell, Keeps}
use Rattle.signer_ring.specs.Calls.{Call}
use Rattle.rp_rules.specs.Certificates.{Vouched}
use Rattle.rrdp_state.specs.Exported.{Repository}
use Rattle.notice_board.specs.Seats.{BoardSeat}
use Rattle.notice_board.specs.declared.shown.ShownEdition.{ShownEdition}
use Rattle.editions.specs.Edition.{Edition}
use Rattle.editions.specs.Step.{Premises, AreMore, IsMore, AreSteps}
use Rattle.editions.specs.PublishedState.{PublishedStateValue}
use Rattle.editions.specs.VouchedCalls.{IsVouchedBy}
use Rattle.press_core.specs.Stands.{IsLeftBy, StandsFor}
use Rattle.press_core.specs.Files.{repository_at}
use Rattle.press_core.specs.Exports.{IsCoherent, ShowsEdition, ShowsLast}
use Rattle.press_core.specs.Stored.{StoredValue}
use Rattle.press_core.specs.declared.last_export.LastExport.{LastExport}
use Rattle.press_core.specs.declared.last_export.LastExport.TheVariants.{NoExport, Failed, Done}
use Rattle.manager.specs.Answers as manager
use Rattle.manager.specs.Closing.{doubted_edition}
use Rattle.manager.specs.Ends.{AreEnds}
use Rattle.manager.specs.Found.{AreFound}
use Rattle.manager.specs.Locked.{LockedValue, AreFoundSteps as AreFoundStepsOf, IsInDoubt, IsLocked, IsLockedOver, all_of, premises_of as premises_named}
use Rattle.manager.specs.Named.{Named}
use Rattle.manager.specs.Pressing.{exported_as}
use Rattle.manager.specs.Ready.{desk_in, named_of}
use Rattle.manager.specs.Resumed.{IsResumed}
use Rattle.manager.specs.Run.{Stood}
use Rattle.krill_top.specs.DeskStates.{most_desks}
use Rattle.krill_top.specs.DesksInStates.{AreIn, RoseWithin}
use Rattle.krill_top.specs.Exports.{stop_of}
use Rattle.krill_top.specs.InstanceState.{InstanceState, OutletState, outlet_state, lists_of, premises_of, AreVouchedIn, AreFoundSteps, VouchForCalls, HasAllOf}
use Rattle.krill_top.specs.InstanceState.{last_serial, is_of, is_exported, is_exported_at, repository_in, IsCoherentIn, ShowsLastIn}
use Rattle.krill_top.specs.SharedRuns.{Closes}
use Rattle.krill_top.specs.inner.Instances.{InstanceValue, IsInState, stored_in}
use Rattle.krill_top.specs.inner.RunLaws.{RunLaws}
use Rattle.krill_top.specs.inner.Started.{IsResumedIn}
use Rattle.krill_top.proofs.Closing.{done_exported}
use Rattle.krill_top.proofs.Exporting.{newest_shown, or_parts, export_serial}
use Rattle.krill_top.proofs.KeptDesks.{more_lists, same_found}
use Rattle.krill_top.proofs.Lists.{as_many, from_first}
use Rattle.krill_top.proofs.OutOfLocks.{ComesOut}
use Rattle.krill_top.proofs.Vouching.{front_of, rest_of}

-- ---- laws

abbrev pub MoreLeft : Type 0
MoreLeft = (less more : List (List Command)) (editions : List Edition) (published_state : PublishedStateValue) → AreMore less more → IsLeftBy less editions published_state → IsLeftBy more editions published_state

abbrev pub MoreStand : Type 0
MoreStand = (less more : Premises) (editions : List Edition) (published_state : PublishedStateValue) → IsMore less more → StandsFor less editions published_state → StandsFor more editions published_state

abbrev pub FoundLaw : {D O : Type 0} → DiskGhosts D → OutletGhosts O → Type 0
FoundLaw {D} {O} disk_of outlet_of = (opened : List (CountedView D)) (first : StoredValue D) (last : LastExport) (board : BoardSeat) (outlet : O)
    → (is : IsResumed (map desk_in opened) first) → AreFound (named_of disk_of outlet_of opened (exported_as last first) board outlet) is.editions

pub record Laws {D O : Type 0} (disk_of : DiskGhosts D) (outlet_of : OutletGhosts O) : Type 0 where
  pub run : RunLaws
  pub left : MoreLeft
  pub stand : MoreStand
  pub found : FoundLaw disk_of outlet_of

-- what the instance's parts are called
abbrev pub named_in : {D O : Type 0} → DiskGhosts D → OutletGhosts O → InstanceValue D O → List (CountedView D) → BoardSeat → Named
named_in disk_of outlet_of instance opened board = named_of disk_of outlet_of opened (stored_in instance) board instance.outlet

-- the calls by which the edition in doubt was made, if one is
abbrev pub doubted_calls : (named : Named) (editions : List Edition) (lists : List (List Command)) (run : List Stood) (calls : List Call) (ring : List SignerState) (at : PublishedStateValue)
    (doubt : Option (List ℕ)) → IfSome doubt (IsInDoubt named editions lists run calls ring at) → List Call
doubted_calls named editions lists run calls ring at None is = []
doubted_calls named editions lists run calls ring at (Some entry) is = is.made

exported_alike : (last : LastExport) (serial : ℕ) → manager.is_of last serial ≡ is_of last serial
exported_alike NoExport serial = refl
exported_alike Failed serial = refl
exported_alike (Done exported) serial = refl

module _ {D O : Type 0} (disk_of : DiskGhosts D) (outlet_of : OutletGhosts O) (laws : Laws disk_of outlet_of)
    (instance : InstanceValue D O) (begun : InstanceState) (stands : IsInState outlet_of instance begun) (resumed : IsResumedIn outlet_of instance begun)
    (just : begun.found.lists ≡ lists_of begun.desk_states) (just_editions : begun.found.editions ≡ begun.editions)
    (opened : List (CountedView D)) (same_desks : map desk_in opened ≡ instance.desks) (board : BoardSeat)
    (viewed : List ShownEdition) (desks : List (View D)) (many : length desks ≡ most_desks) (disk : D) (ring : List SignerState) (outlet : O) (repeated : Result Bool (ExportFault O))
    (are : AreEnds disk_of outlet_of (named_in disk_of outlet_of instance opened board) viewed desks disk ring outlet repeated)
    (out : ComesOut disk_of outlet_of (named_in disk_of outlet_of instance opened board) instance.desks instance.journal.disk instance.outlet viewed desks disk ring outlet repeated are) where
  abbrev pub named : Named
  named = named_in disk_of outlet_of instance opened board

  abbrev pub on : IsLocked outlet_of named are.locked
  on = are.closed.is

  abbrev pub locked : LockedValue D O
  locked = are.locked

  -- the editions of the state are those that were found
  pub found : AreFound named begun.editions
  found = subst (λ (e : List Edition). AreFound named e) resumed.editions
      (subst (λ (s : StoredValue D). AreFound (named_of disk_of outlet_of opened s board instance.outlet) resumed.is.editions) (sym resumed.press)
      (subst (λ (v : List (View D)). (is : IsResumed v resumed.first) → AreFound (named_of disk_of outlet_of opened (exported_as instance.press.last_export resumed.first) board instance.outlet) is.editions) same_desks
      (λ is. laws.found opened resumed.first instance.press.last_export board instance.outlet is) resumed.is))

  abbrev pub over : IsLockedOver outlet_of named begun.editions on.lists on.run on.calls locked
  over = on.each begun.editions found

  abbrev pub doubt_edition : (doubt : Option (List ℕ)) → IfSome doubt (IsInDoubt named begun.editions on.lists on.run on.calls locked.press.press.ring locked.press.press.at) → Option Edition
  doubt_edition = doubted_edition named begun.editions on.lists on.run on.calls locked.press.press.ring locked.press.press.at

  abbrev pub doubt_calls : (doubt : Option (List ℕ)) → IfSome doubt (IsInDoubt named begun.editions on.lists on.run on.calls locked.press.press.ring locked.press.press.at) → List Call
  doubt_calls = doubted_calls named begun.editions on.lists on.run on.calls locked.press.press.ring locked.press.press.at

  -- what stands in the end
  abbrev pub ended : InstanceState
  ended = record {
    site = named.site;
    session = named.session;
    desk_states = out.states;
    found = begun.found;
    editions = all_of begun.editions on.run;
    in_doubt = doubt_edition locked.press.journal.doubt over.doubt;
    records = locked.press.journal.records;
    calls = on.calls ++ doubt_calls locked.press.journal.doubt over.doubt;
    exported = locked.press.press.last_export;
    signers = locked.press.press.ring;
    outlet = outlet_state outlet_of locked.outlet;
  }

  long : length on.lists ≡ length out.states
  long = over.made.left.desks ∙ over.made.one_each ∙ sym many ∙ as_many desks out.states out.are

  pub more : AreMore on.lists (lists_of out.states)
  more = more_lists laws.run.commands (length named.signers) 0 on.lists locked.seats desks out.states long over.seen are.seen (from_first desks out.states out.are)

  pub more_vouched : (vouched : Vouched) → IsMore (premises_named named on.lists vouched) (premises_of vouched ended)
  more_vouched vouched = record { lists = more; site = refl; vouched = λ key digest signature is. is }

  -- ---- steps

  pub found_steps : (vouched : Vouched) → AreFoundSteps vouched ended → AreFoundStepsOf named begun.editions vouched
  found_steps vouched steps lists records =
      let same : lists ≡ lists_of begun.desk_states = same_found laws.run.commands (length named.signers) 0 lists opened begun.desk_states records
      (from_first (map desk_in opened) begun.desk_states (subst (λ (v : List (View D)). AreIn v begun.desk_states) (sym same_desks) stands.desks)) in
      subst (λ (l : List (List Command)). AreSteps (premises_named named l vouched) begun.editions) (just ∙ sym same)
      (subst (λ (e : List Edition). AreSteps (premises_named named begun.found.lists vouched) e) just_editions steps)

  pub run_calls : (vouched : Vouched) → AreVouchedIn vouched ended → All (IsVouchedBy vouched) on.calls
  run_calls vouched all = front_of (IsVouchedBy vouched) on.calls (doubt_calls locked.press.journal.doubt over.doubt) all.calls

  pub steps : (vouched : Vouched) → AreVouchedIn vouched ended → AreSteps (premises_of vouched ended) ended.editions
  steps vouched all =
      let sound = over.made.sound vouched (run_calls vouched all) (found_steps vouched all.found) in
      (laws.stand (premises_named named on.lists vouched) (premises_of vouched ended) ended.editions locked.press.press.at (more_vouched vouched) sound.stands).steps

  doubted_steps : (vouched : Vouched) (doubt : Option (List ℕ)) (is : IfSome doubt (IsInDoubt named begun.editions on.lists on.run on.calls locked.press.press.ring locked.press.press.at))
      → All (IsVouchedBy vouched) on.calls → All (IsVouchedBy vouched) (doubt_calls doubt is) → AreFoundStepsOf named begun.editions vouched
      → IfSome (doubt_edition doubt is) (λ edition. AreSteps (premises_of vouched ended) (ended.editions ++ edition ∷ []))
  doubted_steps vouched None is calls made steps = tt
  doubted_steps vouched (Some entry) is calls made steps =
      (laws.stand (premises_named named on.lists vouched) (premises_of vouched ended) _ is.prepared.next (more_vouched vouched) (is.sound vouched calls made steps).0).steps

  pub doubt : (vouched : Vouched) → AreVouchedIn vouched ended → IfSome ended.in_doubt (λ edition. AreSteps (premises_of vouched ended) (ended.editions ++ edition ∷ []))
  doubt vouched all = doubted_steps vouched locked.press.journal.doubt over.doubt (run_calls vouched all)
      (rest_of (IsVouchedBy vouched) on.calls (doubt_calls locked.press.journal.doubt over.doubt) all.calls) (found_steps vouched all.found)

  doubt_told : (doubt : Option (List ℕ)) (is : IfSome doubt (IsInDoubt named begun.editions on.lists on.run on.calls locked.press.press.ring locked.press.press.at))
      → AllTell named.signers → (vouched : Vouched) → HasAllOf vouched locked.press.press.ring → All (IsVouchedBy vouched) (doubt_calls doubt is)
  doubt_told None is tell vouched has = All-nil (IsVouchedBy vouched)
  doubt_told (Some entry) is tell vouched has = is.told tell vouched has

  pub vouch : VouchForCalls begun ended
  vouch tell vouched has was =
      let telling : AllTell named.signers = subst AllTell (sym stands.ring) tell in
      record {
        calls = All-append (IsVouchedBy vouched) on.calls (doubt_calls locked.press.journal.doubt over.doubt) (over.made.told telling vouched has)
            (doubt_told locked.press.journal.doubt over.doubt telling vouched has);
        found = subst (λ (s : Bases). AreSteps (record { lists = begun.found.lists; site = s; vouched = vouched }) begun.found.editions) (sym stands.site) was.found;
      }

  pub keeps : Keeps begun.signers ended.signers
  keeps = subst (λ (s : List SignerState). Keeps s locked.press.press.ring) stands.ring over.made.kept

  -- ---- the outlet

  pub same_repository : repository_at named.session named.site ≡ repository_in begun
  same_repository = λ i. repository_at (stands.session i) (stands.site i)

  pub coherent : IsCoherentIn begun → IsCoherentIn ended
  coherent was =
      over.coherent
      (subst (λ (r : Repository). IfSome (outlet_of.files instance.outlet) (IsCoherent r begun.editions)) (sym same_repository)
      (subst (λ (o : OutletState). IfSome o.files (IsCoherent (repository_in begun) begun.editions)) (sym stands.outlet) was))

  serial_is : locked.press.press.at.serial ≡ last_serial ended
  serial_is = over.made.left.serial

  pub shown : is_exported ended ≡ true → (ended.editions ≡ []) ⊎ ShowsLastIn ended
  shown is =
      let count : last_serial ended ≡ length ended.editions = sym serial_is ∙ over.made.counted in
      elim (or_parts (last_serial ended == 0) (is_of ended.exported (last_serial ended)) is) [
        | inl none ↦ inl (nil_from_length ended.editions (sym count ∙ eqb-true (last_serial ended) 0 none))
        | inr done ↦ inr (newest_shown laws.run.newest ended.session ended.site ended.editions ended.outlet.files
            (subst (λ (l : LastExport). ShowsLast (ShowsEdition ended.session ended.site) ended.editions l ended.outlet.files)
            (export_serial ended.exported (last_serial ended) done ∙ ap Done count) over.shows))
      ]

  closes_so : (result : Result Bool (ExportFault O)) → manager.IsRepeated locked.press.press.last_export locked.press.press.at.serial result
      → IfErr result (λ fault. stop_of fault ≡ stop.Fault → RoseWithin (outlet_of.fault_count instance.outlet) (outlet_of.fault_count outlet)) → Closes result begun ended
  closes_so (Ok true) is blamed = ap (λ (l : LastExport). is_exported_at l (last_serial ended)) (is ∙ ap Done serial_is) ∙ done_exported (last_serial ended)
  closes_so (Ok false) is blamed =
      ap (λ (b : Bool). (last_serial ended == 0) || b) (sym (exported_alike ended.exported (last_serial ended)))
      ∙ subst (λ (n : ℕ). manager.is_exported ended.exported n ≡ true) serial_is is
  closes_so (Err fault) is blamed = record {
    failed = is;
    cause = λ same.
        subst (λ (o : OutletState). RoseWithin o.faults (outlet_of.fault_count locked.outlet)) stands.outlet
        (subst (λ (o : O). RoseWithin (outlet_of.fault_count instance.outlet) (outlet_of.fault_count o)) are.outlet_is (blamed same));
  }

  pub closes : Closes repeated begun ended
  closes = closes_so repeated are.exported out.blamed
