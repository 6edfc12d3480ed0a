-- What an export of the last edition makes of the instance.
use Rattle.std.proofs.Common.{◌≡◌, ℕ, ◌≤◌, ◌==◌, ◌||◌, Bool, true, false, List, [], length, take, refl, sym, ◌∙◌, ap, subst, arith, inl, inr}
use Rattle.std.proofs.Math.Seq.{take-length}
use Rattle.std.proofs.lemmas.Bool.{eqb-true}
use Rattle.std.proofs.lemmas.List.{nil_from_length}
use Rattle.std.specs.Prelude.{◌⊎◌, Option, None, Some, Result, Ok, Err, OnOk, IfErr, IfSome, option_map}
use Rattle.disk_api.specs.declared.disk.Disk.{Ghosts as DiskGhosts}
use Rattle.outlet_api.specs.declared.outlet.Outlet.{Ghosts as OutletGhosts}
use Rattle.authority_book.specs.declared.commands.Command.{Command}
use Rattle.key_ids.specs.Uris.{Bases}
use Rattle.editions.specs.Edition.{Edition}
use Rattle.outlet_api.specs.Calls.{Files, after_all, IsFront}
use Rattle.outlet_api.specs.Faults.{IsCauseOf}
use Rattle.outlet_api.specs.declared.exports.ExportFault.{ExportFault}
use Rattle.outlet_api.specs.declared.exports.ExportFault.TheVariants.{OutletFault, Memory}
use Rattle.rrdp_state.specs.Exported.{Repository}
use Rattle.press_core.specs.Press.{PressValue}
use Rattle.press_core.specs.Stands.{IsLeftBy}
use Rattle.press_core.specs.Files.{HasFilesOf, repository_at, repository_of}
use Rattle.press_core.specs.Exports.{export_of, ended_by, IsCoherent, ShowsFiles, ShowsEdition, ShowsLast}
use Rattle.press_core.specs.declared.last_export.LastExport.{LastExport}
use Rattle.press_core.specs.declared.last_export.LastExport.TheVariants.{NoExport, Failed, Done}
use Rattle.krill_top.specs.InstanceState.{InstanceState, OutletState, outlet_state, lists_of, last_serial, is_of, is_exported, repository_in, IsCoherentIn, ShowsLastIn}
use Rattle.krill_top.specs.Exports.{Exports, ExportsOrStops, IsStoppedBetween, stopped_of}
use Rattle.krill_top.specs.inner.RunLaws.{NewestLaw}
use Rattle.krill_top.specs.inner.Instances.{InstanceValue, IsInState, Arrives, Moves, stored_in}
use Rattle.manager.specs.Pressing.{exported_as}
use Rattle.manager.specs.Ready.{ShowsItsLast}
use Rattle.krill_top.proofs.Standing.{go_on_same}
use Rattle.krill_top.proofs.PressStanding.{press_kept, grow_same}
use Rattle.krill_top.proofs.Vouching.{keeps_same}

-- ---- what was shown last

abbrev pub FilesLaw : Type 0
FilesLaw = (session : List ℕ) (site : Bases) (editions : List Edition) (last : LastExport) (files : Option Files)
    → ShowsLast (ShowsEdition session site) editions last files → ShowsLast (ShowsFiles (repository_at session site)) editions last files

shows_newest : (session : List ℕ) (site : Bases) (editions : List Edition) (serial : ℕ) (files : Option Files) → serial ≡ length editions → IfSome files (ShowsEdition session site editions)
    → ShowsLast (ShowsEdition session site) editions (Done serial) files
shows_newest session site editions serial None is shown = tt
shows_newest session site editions serial (Some files) is shown = record {
  within = omega (arith, is);
  shown = subst (λ (e : List Edition). ShowsEdition session site e files) (sym (ap (λ (n : ℕ). take n editions) is ∙ take-length editions)) shown;
}

pub newest_shown : NewestLaw → (session : List ℕ) (site : Bases) (editions : List Edition) (files : Option Files) → ShowsLast (ShowsEdition session site) editions (Done (length editions)) files
    → IfSome files (ShowsEdition session site editions)
newest_shown law session site editions None shows = tt
newest_shown law session site editions (Some files) shows = law session site editions files shows

pub or_parts : (a b : Bool) → (a || b) ≡ true → (a ≡ true) ⊎ (b ≡ true)
or_parts true b is = inl refl
or_parts false b is = inr is

pub export_serial : (last : LastExport) (serial : ℕ) → is_of last serial ≡ true → last ≡ Done serial
export_serial NoExport serial is = absurd (cc)
export_serial Failed serial is = absurd (cc)
export_serial (Done exported) serial is = ap Done (eqb-true exported serial is)

-- ---- the calls of an export

-- what the press says of an export
pub record IsExportOf {T O : Type 0} (result : Result T (ExportFault O)) (press : PressValue) (was is : OutletState) : Type 0 where
  pub done : OnOk result ((editions : List Edition) → HasFilesOf editions press → is.files ≡ option_map (after_all (export_of press editions)) was.files)
  pub front : (editions : List Edition) → HasFilesOf editions press → IsFront (export_of press editions) was.files is.files
  pub coherent : (editions : List Edition) → HasFilesOf editions press → ShowsLast (ShowsFiles (repository_of press)) editions press.last_export was.files
      → IfSome was.files (IsCoherent (repository_of press) editions) → IfSome is.files (IsCoherent (repository_of press) editions)
  pub shown : OnOk result ((lists : List (List Command)) (editions : List Edition) → IsLeftBy lists editions press.at → HasFilesOf editions press
      → ShowsLast (ShowsFiles (repository_of press)) editions press.last_export was.files → IfSome is.files (ShowsEdition press.rrdp.session press.site editions))
  pub counts : was.faults ≤ is.faults
  pub cause : IfErr result (IsCauseOf was.faults is.faults)

cause_of : {O : Type 0} (fault : ExportFault O) (was is : ℕ) → IsCauseOf was is fault → IsStoppedBetween was is (stopped_of fault)
cause_of (OutletFault rose) was is cause = cause
cause_of Memory was is cause = tt

module _ {D O : Type 0} (disk_of : DiskGhosts D) (outlet_of : OutletGhosts O) where
  -- the instance once the last edition was exported, as far as it went
  abbrev pub exported : InstanceValue D O → LastExport → O → InstanceValue D O
  exported old ended outlet = record old { press = record old.press { last_export = ended }; outlet = outlet }

  module _ (files_law : FilesLaw) (old : InstanceValue D O) (before : InstanceState) (stands : IsInState outlet_of old before) where
    same_repository : repository_of old.press ≡ repository_in before
    same_repository = λ i. record { session = stands.session i; base = (stands.site i).rrdp }

    shows_files : ShowsLast (ShowsFiles (repository_of old.press)) before.editions old.press.last_export (outlet_state outlet_of old.outlet).files
    shows_files =
        subst (λ (r : Repository). ShowsLast (ShowsFiles r) before.editions old.press.last_export (outlet_state outlet_of old.outlet).files) (sym same_repository)
        (subst (λ (l : LastExport). ShowsLast (ShowsFiles (repository_in before)) before.editions l (outlet_state outlet_of old.outlet).files) (sym stands.exported)
        (subst (λ (o : OutletState). ShowsLast (ShowsFiles (repository_in before)) before.editions before.exported o.files) (sym stands.outlet)
        (files_law before.session before.site before.editions before.exported before.outlet.files stands.shows)))

    serial_is : old.press.at.serial ≡ last_serial before
    serial_is = stands.left.serial

    module _ {T : Type 0} (result : Result T (ExportFault O)) (new : O) (is : IsExportOf result old.press (outlet_state outlet_of old.outlet) (outlet_state outlet_of new)) where
      abbrev outlet : OutletState
      outlet = outlet_state outlet_of new

      abbrev ended : LastExport
      ended = ended_by result old.press.at.serial

      abbrev after : InstanceState
      after = record before { exported = ended; outlet = outlet }

      coherent_then : IsCoherentIn before → IsCoherentIn after
      coherent_then was =
          subst (λ (r : Repository). IfSome outlet.files (IsCoherent r before.editions)) same_repository
          (is.coherent before.editions stands.files shows_files
          (subst (λ (r : Repository). IfSome (outlet_state outlet_of old.outlet).files (IsCoherent r before.editions)) (sym same_repository)
          (subst (λ (o : OutletState). IfSome o.files (IsCoherent (repository_in before) before.editions)) (sym stands.outlet) was)))

      abbrev exports : Exports before after
      exports = record {
        press = old.press;
        exporter = record { site = stands.site; session = stands.session; left = stands.left; files = stands.files; exported = stands.exported };
        same = refl;
        front = subst (λ (o : OutletState). IsFront (export_of old.press before.editions) o.files outlet.files) stands.outlet (is.front before.editions stands.files);
        coherent = coherent_then;
        later = subst (λ (o : OutletState). o.faults ≤ outlet.faults) stands.outlet is.counts;
      }

      arrived : (P : InstanceState → InstanceState → Type 0) → P before after → ShowsLast (ShowsEdition before.session before.site) before.editions ended outlet.files
          → Arrives disk_of outlet_of P old (exported old ended new) before
      arrived P step shows = record {
        after = after;
        same_site = refl;
        same_session = refl;
        same_found = refl;
        step = step;
        stands = record {
          desks = stands.desks;
          left = stands.left;
          stands = λ vouched all. stands.stands vouched (record { calls = all.calls; found = all.found });
          in_doubt = λ vouched all. stands.in_doubt vouched (record { calls = all.calls; found = all.found });
          serial = stands.serial;
          files = record { kept = stands.files.kept; set = stands.files.set };
          site = stands.site;
          session = stands.session;
          journal = record { limit = stands.journal.limit; records = stands.journal.records; are = stands.journal.are; shut = stands.journal.shut; doubt = stands.journal.doubt; room = stands.journal.room; bytes = stands.journal.bytes };
          cuts = record { made = stands.cuts.made; grows = stands.cuts.grows; within = stands.cuts.within };
          exported = refl;
          outlet = refl;
          shows = shows;
          ring = stands.ring;
          kept = stands.kept;
          one_each = stands.one_each;
          sheet = stands.sheet;
          counted = stands.counted;
          live_signers = stands.live_signers;
          name_signers = stands.name_signers;
        };
        disks = go_on_same disk_of old.desks before.desk_states stands.desks;
        press = press_kept disk_of old.journal.disk before after refl;
        grown = grow_same before after refl;
        kept = keeps_same before.signers;
        vouch = λ tell vouched has all. record { calls = all.calls; found = all.found };
        coherent = coherent_then;
      }

  pub exported_moves : {T : Type 0} → FilesLaw → (old : InstanceValue D O) (result : Result T (ExportFault O)) (new : O) → IsExportOf result old.press (outlet_state outlet_of old.outlet) (outlet_state outlet_of new)
      → Moves disk_of outlet_of (ExportsOrStops result) old (exported old (ended_by result old.press.at.serial) new)
  exported_moves {T} files_law old (Ok done) new is before stands =
      let outlet : OutletState = outlet_state outlet_of new in
      let shown : IfSome outlet.files (ShowsEdition before.session before.site before.editions) =
      subst (λ (session : List ℕ). IfSome outlet.files (ShowsEdition session before.site before.editions)) stands.session
      (subst (λ (site : Bases). IfSome outlet.files (ShowsEdition old.press.rrdp.session site before.editions)) stands.site
      (is.shown (lists_of before.desk_states) before.editions stands.left stands.files (shows_files files_law old before stands))) in
      arrived files_law old before stands (Ok done) new is (ExportsOrStops {T = T} {O = O} (Ok done))
      (record {
        exports = exports files_law old before stands (Ok done) new is;
        all = subst (λ (o : OutletState). outlet.files ≡ option_map (after_all (export_of old.press before.editions)) o.files) stands.outlet (is.done before.editions stands.files);
        ended = ap Done (serial_is files_law old before stands);
        shown = shown;
      })
      (shows_newest before.session before.site before.editions old.press.at.serial outlet.files stands.serial shown)
  exported_moves {T} files_law old (Err fault) new is before stands =
      let outlet : OutletState = outlet_state outlet_of new in
      let was : OutletState = outlet_state outlet_of old.outlet in
      arrived files_law old before stands (Err fault) new is (ExportsOrStops {T = T} {O = O} (Err fault))
      (record {
        exports = exports files_law old before stands (Err fault) new is;
        cause = subst (λ (o : OutletState). IsStoppedBetween o.faults outlet.faults (stopped_of fault)) stands.outlet (cause_of fault was.faults outlet.faults is.cause);
        ended = refl;
      })
      tt

  -- what an exported edition shows
  pub exported_shown : NewestLaw → (instance : InstanceValue D O) (state : InstanceState) → IsInState outlet_of instance state → is_exported state ≡ true → (state.editions ≡ []) ⊎ ShowsLastIn state
  exported_shown law instance state stands is =
      let long : last_serial state ≡ length state.editions = sym stands.left.serial ∙ stands.serial in
      elim (or_parts (last_serial state == 0) (is_of state.exported (last_serial state)) is) [
        | inl none ↦ inl (nil_from_length state.editions (sym long ∙ eqb-true (last_serial state) 0 none))
        | inr done ↦ inr (newest_shown law state.session state.site state.editions state.outlet.files
            (subst (λ (l : LastExport). ShowsLast (ShowsEdition state.session state.site) state.editions l state.outlet.files)
            (export_serial state.exported (last_serial state) done ∙ ap Done long) stands.shows))
      ]

  -- whichever editions left what stands, the outlet shows the last one once it was exported
  pub shows_itself : {T : Type 0} → FilesLaw → (old : InstanceValue D O) (result : Result T (ExportFault O)) (new : O) → IsExportOf result old.press (outlet_state outlet_of old.outlet) (outlet_state outlet_of new)
      → ShowsItsLast outlet_of (stored_in old) old.outlet → ShowsItsLast outlet_of (exported_as (ended_by result old.press.at.serial) (stored_in old)) new
  shows_itself files_law old (Ok done) new is was = λ lists editions count left files.
      let session = old.press.rrdp.session in
      let site = old.press.site in
      let has : HasFilesOf editions old.press = record { kept = files.kept; set = files.set } in
      shows_newest session site editions old.press.at.serial (outlet_of.files new) count
      (is.shown lists editions left has (files_law session site editions old.press.last_export (outlet_of.files old.outlet) (was lists editions count left has)))
  shows_itself files_law old (Err fault) new is was = λ lists editions count left files. tt
