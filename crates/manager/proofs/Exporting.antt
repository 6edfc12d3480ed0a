-- What an export of the last edition makes of a locked press.
use Rattle.std.proofs.Common.{◌≡◌, ℕ, List, length, take, sym, ◌∙◌, ap, subst, arith}
use Rattle.std.proofs.Math.Seq.{take-length}
use Rattle.std.specs.Prelude.{Option, None, Some, Result, Ok, Err, OnOk, IfSome}
use Rattle.outlet_api.specs.declared.outlet.Outlet.{Ghosts as OutletGhosts}
use Rattle.outlet_api.specs.declared.exports.ExportFault.{ExportFault}
use Rattle.outlet_api.specs.Calls.{Files}
use Rattle.authority_book.specs.declared.commands.Command.{Command}
use Rattle.commit_word.specs.Seats.{FollowerSeat}
use Rattle.key_ids.specs.Uris.{Bases}
use Rattle.signer_ring.specs.Calls.{Call}
use Rattle.rrdp_state.specs.Exported.{Repository}
use Rattle.notice_board.specs.Seats.{BoardSeat}
use Rattle.editions.specs.Edition.{Edition}
use Rattle.press_core.specs.Press.{PressValue}
use Rattle.press_core.specs.Stands.{IsLeftBy}
use Rattle.press_core.specs.Files.{HasFilesOf, repository_at, repository_of}
use Rattle.press_core.specs.Exports.{ended_by, IsCoherent, ShowsFiles, ShowsEdition, ShowsLast}
use Rattle.press_core.specs.declared.last_export.LastExport.{LastExport}
use Rattle.press_core.specs.declared.last_export.LastExport.TheVariants.{Failed, Done}
use Rattle.press_core.specs.Stored.{StoredValue}
use Rattle.manager.specs.Named.{Named}
use Rattle.manager.specs.Pressing.{exported_as}
use Rattle.manager.specs.Run.{Stood}
use Rattle.manager.specs.Locked.{all_of, repository_in, WasCoherent, IsLockedOver}
use Rattle.manager.proofs.Kept.{lock}

abbrev pub FilesLaw : Type 0
FilesLaw = (session : List ℕ) (site : Bases) (editions : List Edition) (last : LastExport) (files : Option Files)
    → ShowsLast (ShowsEdition session site) editions last files → ShowsLast (ShowsFiles (repository_at session site)) editions last files

pub shows_newest : (session : List ℕ) (site : Bases) (editions : List Edition) (serial : ℕ) (files : Option Files) → serial ≡ length editions → IfSome files (ShowsEdition session site editions)
    → ShowsLast (ShowsEdition session site) editions (Done serial) files
shows_newest session site editions serial None is shown = tt
shows_newest session site editions serial (Some files) is shown = record {
  within = omega (arith, is);
  shown = subst (λ (e : List Edition). ShowsEdition session site e files) (sym (ap (λ (n : ℕ). take n editions) is ∙ take-length editions)) shown;
}

-- what the press says of an export
pub record IsExportOf {T O : Type 0} (result : Result T (ExportFault O)) (press : PressValue) (was is : Option Files) : Type 0 where
  pub coherent : (editions : List Edition) → HasFilesOf editions press → ShowsLast (ShowsFiles (repository_of press)) editions press.last_export was
      → IfSome was (IsCoherent (repository_of press) editions) → IfSome is (IsCoherent (repository_of press) editions)
  pub shown : OnOk result ((lists : List (List Command)) (editions : List Edition) → IsLeftBy lists editions press.at → HasFilesOf editions press
      → ShowsLast (ShowsFiles (repository_of press)) editions press.last_export was → IfSome is (ShowsEdition press.rrdp.session press.site editions))

module _ {D O : Type 0} (outlet_of : OutletGhosts O) (named : Named) (editions : List Edition) (files_law : FilesLaw) (lists : List (List Command)) (run : List Stood) (calls : List Call)
    (press : StoredValue D) (seats : List FollowerSeat) (board : BoardSeat) (old new : O) (is : IsLockedOver outlet_of named editions lists run calls (lock press seats board old)) where
  same_repository : repository_of press.press ≡ repository_in named
  same_repository = λ i. record { session = is.session i; base = (is.site i).rrdp }

  shows_files : ShowsLast (ShowsFiles (repository_of press.press)) (all_of editions run) press.press.last_export (outlet_of.files old)
  shows_files =
      subst (λ (r : Repository). ShowsLast (ShowsFiles r) (all_of editions run) press.press.last_export (outlet_of.files old)) (sym same_repository)
      (files_law named.session named.site (all_of editions run) press.press.last_export (outlet_of.files old) is.shows)

  -- the press once its last edition was exported, as far as it went
  abbrev pub ended : LastExport → StoredValue D
  ended last = record press { press = record press.press { last_export = last } }

  coherent_then : {T : Type 0} (result : Result T (ExportFault O)) → IsExportOf result press.press (outlet_of.files old) (outlet_of.files new) → WasCoherent named editions
      → IfSome (outlet_of.files new) (IsCoherent (repository_in named) (all_of editions run))
  coherent_then result export was =
      subst (λ (r : Repository). IfSome (outlet_of.files new) (IsCoherent r (all_of editions run))) same_repository
      (export.coherent (all_of editions run) is.files shows_files
      (subst (λ (r : Repository). IfSome (outlet_of.files old) (IsCoherent r (all_of editions run))) (sym same_repository) (is.coherent was)))

  ended_over : (last : LastExport) → ShowsLast (ShowsEdition named.session named.site) (all_of editions run) last (outlet_of.files new)
      → (WasCoherent named editions → IfSome (outlet_of.files new) (IsCoherent (repository_in named) (all_of editions run)))
      → IsLockedOver outlet_of named editions lists run calls (lock (ended last) seats board new)
  ended_over last shows coherent = record {
    seen = is.seen;
    site = is.site;
    session = is.session;
    made = is.made;
    list = is.list;
    shown = is.shown;
    files = record { kept = is.files.kept; set = is.files.set };
    shows = shows;
    coherent = coherent;
    limit = is.limit;
    records = is.records;
    room = is.room;
    doubt_room = is.doubt_room;
    settled = is.settled;
    doubt = is.doubt;
  }

  pub locked_exported : {T : Type 0} (result : Result T (ExportFault O)) → IsExportOf result press.press (outlet_of.files old) (outlet_of.files new)
      → IsLockedOver outlet_of named editions lists run calls (lock (ended (ended_by result press.press.at.serial)) seats board new)
  locked_exported (Ok done) export =
      let shown : IfSome (outlet_of.files new) (ShowsEdition named.session named.site (all_of editions run)) =
      subst (λ (session : List ℕ). IfSome (outlet_of.files new) (ShowsEdition session named.site (all_of editions run))) is.session
      (subst (λ (site : Bases). IfSome (outlet_of.files new) (ShowsEdition press.press.rrdp.session site (all_of editions run))) is.site
      (export.shown lists (all_of editions run) is.made.left is.files shows_files)) in
      ended_over (Done press.press.at.serial) (shows_newest named.session named.site (all_of editions run) press.press.at.serial (outlet_of.files new) is.made.counted shown)
      (coherent_then (Ok done) export)
  locked_exported (Err fault) export = ended_over Failed tt (coherent_then (Err fault) export)

-- the press is as it was, but for how its last export ended
pub exported_then : {D : Type 0} (old new : StoredValue D) (last : LastExport) → new.press ≡ record old.press { last_export = last } → new.journal ≡ old.journal → new ≡ exported_as last old
exported_then old new last press journal = λ i. record { press = press i; journal = journal i }

pub ended_as : {D : Type 0} (old new : StoredValue D) (last : LastExport) → new ≡ exported_as last old → new ≡ exported_as new.press.last_export old
ended_as old new last same = same ∙ ap (λ (l : LastExport). exported_as l old) (sym (ap (λ (s : StoredValue _). s.press.last_export) same))
