use Rattle.std.proofs.Common.{◌≡◌, ◌++◌, ◌∙◌, ◌^◌, ◌-◌, ◌<◌, [], ◌∷◌, ℕ, List, Option, None, length, sym, ap, subst, arith}
use Rattle.disk_api.specs.Runs.{LeavesOnly}
use Rattle.authority_book.specs.declared.commands.Command.{Command}
use Rattle.authority_book.specs.Settings.{Settings}
use Rattle.authority_book.specs.Fold.{fold_of}
use Rattle.cmd_codec.specs.Spelling.{spelling}
use Rattle.gate_journal.specs.Format as format
use Rattle.std.specs.Option.{option_map}
use Rattle.gate_journal.specs.Storing.{stored, entry_bytes}
use Rattle.gate_journal.specs.View as journal
use Rattle.gate_journal.specs.View.{stake_of}
use Rattle.desk_core.specs.View.{View}
use Rattle.desk_core.specs.Answers.{CanCommit, IsDeskFault, fault_of}
use Rattle.desk_core.specs.declared.faults.DeskFault.{DeskFault}
use Rattle.desk_core.specs.Images.{RecoversToKnown, IsSafe}
use Rattle.desk_core.specs.Commands.{HasCommands}
use Rattle.desk_core.proofs.Recorded.{loaded_push}
use Rattle.disk_api.specs.laws.RunLaws.{started}
use Rattle.desk_core.proofs.Committed.{desk_of, safe_of, kept_again, held_before, records_more, kept_sizes, fewer_than_bytes, has_push, kept_push, moments, stake_holds, refused_of, counts_records}
use Rattle.desk_core.proofs.desk.Desk.commit.Goals as goal

pub invariant_of-self-in-Ok-append : goal.invariant_of-self-in-Ok-append
invariant_of-self-in-Ok-append g c =
    let inside = c.self.inside in
    let payload = c.as_slice-record.result.now in
    let spelled : payload ≡ spelling c.args.command = c.as_slice-record.ensures.value ∙ c.in-Ok.ensures.payload.0 in
    let was : c.prepare.new.config.settings ≡ inside.config.settings = c.prepare.ensures.config in
    let records = format.payloads inside.journal.sizes inside.body.items in
    let body : c.add_to_body.new.body.items ≡ inside.body.items ++ format.spelled (payload ∷ []) = c.add_to_body.ensures ∙ ap (λ (l : List ℕ). l ++ format.spelled (payload ∷ [])) c.prepare.ensures.body in
    let loaded = loaded_push inside.number inside.config.settings c.apply.new.self.settings records payload c.args.command c.in-Ok.ensures.recordable spelled
    (λ desk commands is. c.apply.ensures.fold desk commands (subst (λ (s : Settings). s ≡ fold_of desk commands) (sym was) is))
    (λ desk commands is taken. c.apply.ensures.taken desk commands (subst (λ (s : Settings). s ≡ fold_of desk commands) (sym was) is) taken) c.self.invariant.loaded in
    kept_push g.D.Disk inside.number inside.config.settings c.apply.new.self.settings inside.body.items c.add_to_body.new.body.items payload
    inside.journal c.prepare.new.journal c.append.new.self c.self.invariant c.prepare.ensures.journal c.in-Ok-append.ensures.appended c.append.ensures.limit c.in-Ok-append.ensures.sizes c.append.ensures.safe body loaded

pub returns-in-Ok-append-clause-recorded : goal.returns-in-Ok-append-clause-recorded
returns-in-Ok-append-clause-recorded g c =
    let inside = c.self.inside in
    let payload = c.as_slice-record.result.now in
    let spelled : payload ≡ spelling c.args.command = c.as_slice-record.ensures.value ∙ c.in-Ok.ensures.payload.0 in
    let was : c.prepare.new.config.settings ≡ inside.config.settings = c.prepare.ensures.config in
    let records = format.payloads inside.journal.sizes inside.body.items in
    let body : c.add_to_body.new.body.items ≡ inside.body.items ++ format.spelled (payload ∷ []) = c.add_to_body.ensures ∙ ap (λ (l : List ℕ). l ++ format.spelled (payload ∷ [])) c.prepare.ensures.body in
    records_more inside.body.items c.add_to_body.new.body.items payload inside.journal c.prepare.new.journal c.append.new.self c.self.invariant.size c.prepare.ensures.journal c.in-Ok-append.ensures.sizes body
    ∙ ap (λ (l : List ℕ). records ++ l ∷ []) spelled
    ∙ ap (λ (v : View _). v.records ++ spelling c.args.command ∷ []) c.self.view_is

pub returns-in-Ok-append-clause-commands : goal.returns-in-Ok-append-clause-commands
returns-in-Ok-append-clause-commands g c =
    let inside = c.self.inside in
    let payload = c.as_slice-record.result.now in
    let spelled : payload ≡ spelling c.args.command = c.as_slice-record.ensures.value ∙ c.in-Ok.ensures.payload.0 in
    let was : c.prepare.new.config.settings ≡ inside.config.settings = c.prepare.ensures.config in
    let records = format.payloads inside.journal.sizes inside.body.items in
    let body : c.add_to_body.new.body.items ≡ inside.body.items ++ format.spelled (payload ∷ []) = c.add_to_body.ensures ∙ ap (λ (l : List ℕ). l ++ format.spelled (payload ∷ [])) c.prepare.ensures.body in
    let more = format.payloads c.append.new.self.sizes c.add_to_body.new.body.items in
    let pushed : more ≡ records ++ payload ∷ [] = records_more inside.body.items c.add_to_body.new.body.items payload inside.journal c.prepare.new.journal c.append.new.self c.self.invariant.size c.prepare.ensures.journal c.in-Ok-append.ensures.sizes body in
    subst (λ (old : View _). (commands : List Command) → HasCommands old commands → HasCommands (desk_of inside.number c.apply.new.self.settings more c.append.new.self) (commands ++ c.args.command ∷ []))
    c.self.view_is
    (has_push inside.number inside.config.settings c.apply.new.self.settings records more payload c.args.command inside.journal c.append.new.self c.in-Ok.ensures.recordable spelled pushed
    (λ desk commands is. c.apply.ensures.fold desk commands (subst (λ (s : Settings). s ≡ fold_of desk commands) (sym was) is))
    (λ desk commands is taken. c.apply.ensures.taken desk commands (subst (λ (s : Settings). s ≡ fold_of desk commands) (sym was) is) taken))

pub returns-in-Ok-append-clause-counted : goal.returns-in-Ok-append-clause-counted
returns-in-Ok-append-clause-counted g c =
    let kept = invariant_of-self-in-Ok-append g c in
    let body = c.add_to_body.new.body in
    let records = format.payloads c.append.new.self.sizes body.items in
    let small : length records < 2 ^ 64 - 1 = omega (arith, body.small, body.ok, fewer_than_bytes c.append.new.self.sizes body.items kept.size) in
    let count : c.apply.new.self.settings.count ≡ length records = counts_records c.self.inside.number c.apply.new.self.settings records kept.loaded small in
    (c.count.ensures ∙ count, c.count.ensures)

pub returns-in-Ok-append-clause-any_moment : goal.returns-in-Ok-append-clause-any_moment
returns-in-Ok-append-clause-any_moment g c =
    let inside = c.self.inside in
    let payload = c.as_slice-record.result.now in
    let spelled : payload ≡ spelling c.args.command = c.as_slice-record.ensures.value ∙ c.in-Ok.ensures.payload.0 in
    subst (λ (old : View _). LeavesOnly g.D.Disk old.disk c.append.new.self.disk (RecoversToKnown (g.D.Disk.content old.disk) old.records (stake_of old.shut old.doubt (spelling c.args.command))))
    c.self.view_is
    (moments g.D.Disk inside.number inside.config.settings inside.body.items c.args.command payload
    inside.journal c.prepare.new.journal c.append.new.self c.self.invariant c.prepare.ensures.journal spelled c.append.ensures.any_moment)

pub returns-in-Err-clause-refused : goal.returns-in-Err-clause-refused
returns-in-Err-clause-refused g c =
    let inside = c.self.inside in
    let payload = c.as_slice-record.result.now in
    let spelled : payload ≡ spelling c.args.command = c.as_slice-record.ensures.value ∙ c.in-Ok.ensures.payload.0 in
    let records = format.payloads inside.journal.sizes inside.body.items in
    let more = format.payloads c.append.new.self.sizes c.prepare.new.body.items in
    let same_records : more ≡ records =
    ap (λ (l : List ℕ). format.payloads l c.prepare.new.body.items) (c.in-Err.ensures.kept.1 ∙ ap (λ (j : journal.View _). j.sizes) c.prepare.ensures.journal) ∙ ap (λ (l : List ℕ). format.payloads inside.journal.sizes l) c.prepare.ensures.body in
    let new = desk_of inside.number c.prepare.new.config.settings more c.append.new.self in
    let same : c.match-command-7.self ≡ new = elim c.match-command-7.branch [
      | goal.in-AddChild-3 w ↦ w.self-is
      | goal.in-UpdateChild-3 w ↦ w.self-is
      | goal.in-UpdateRoas+in-Some-3 w ↦ w.self-is
      | goal.in-UpdateRoas+in-None-3 w ↦ w.self-is
      | goal.in-Add-3 w ↦ w.self-is
    ] in
    let old = desk_of inside.number inside.config.settings records inside.journal in
    let place : CanCommit old c.args.command c.args.signers = subst (λ (v : View _). CanCommit v c.args.command c.args.signers) (sym c.self.view_is) c.in_default.ensures.answer in
    let sizes = kept_sizes g.D.Disk inside.number inside.config.settings inside.body.items inside.journal c.self.invariant in
    let refused = refused_of g.D.Disk c.in-Err.fault payload c.args.command c.args.signers inside.number inside.config.settings c.prepare.new.config.settings records more
    inside.journal c.prepare.new.journal c.append.new.self c.self.invariant.limit sizes c.prepare.ensures.journal c.prepare.ensures.config same_records
    spelled place c.in-Err.ensures.refused c.in-Ok.ensures.recordable in
    let mine = subst (λ (v : View _). IsDeskFault g.D.Disk (fault_of inside.number c.in-Err.fault) c.args.command c.args.signers v new) c.self.view_is refused in
    let there = subst (λ (v : View _). IsDeskFault g.D.Disk (fault_of inside.number c.in-Err.fault) c.args.command c.args.signers c.args.self.now v) (sym same) mine in
    subst (λ (f : DeskFault _). IsDeskFault g.D.Disk f c.args.command c.args.signers c.args.self.now c.match-command-7.self) (sym c.fault_of.ensures) there

pub returns-in-Err-clause-any_moment : goal.returns-in-Err-clause-any_moment
returns-in-Err-clause-any_moment g c =
    let inside = c.self.inside in
    let payload = c.as_slice-record.result.now in
    let spelled : payload ≡ spelling c.args.command = c.as_slice-record.ensures.value ∙ c.in-Ok.ensures.payload.0 in
    let records = format.payloads inside.journal.sizes inside.body.items in
    let more = format.payloads c.append.new.self.sizes c.prepare.new.body.items in
    let same_records : more ≡ records =
    ap (λ (l : List ℕ). format.payloads l c.prepare.new.body.items) (c.in-Err.ensures.kept.1 ∙ ap (λ (j : journal.View _). j.sizes) c.prepare.ensures.journal) ∙ ap (λ (l : List ℕ). format.payloads inside.journal.sizes l) c.prepare.ensures.body in
    let new = desk_of inside.number c.prepare.new.config.settings more c.append.new.self in
    let same : c.match-command-7.self ≡ new = elim c.match-command-7.branch [
      | goal.in-AddChild-3 w ↦ w.self-is
      | goal.in-UpdateChild-3 w ↦ w.self-is
      | goal.in-UpdateRoas+in-Some-3 w ↦ w.self-is
      | goal.in-UpdateRoas+in-None-3 w ↦ w.self-is
      | goal.in-Add-3 w ↦ w.self-is
    ] in
    let any = moments g.D.Disk inside.number inside.config.settings inside.body.items c.args.command payload
    inside.journal c.prepare.new.journal c.append.new.self c.self.invariant c.prepare.ensures.journal spelled c.append.ensures.any_moment in
    let mine = subst (λ (old : View _). LeavesOnly g.D.Disk old.disk c.append.new.self.disk (RecoversToKnown (g.D.Disk.content old.disk) old.records (stake_of old.shut old.doubt (spelling c.args.command)))) c.self.view_is any in
    subst (λ (v : View _). LeavesOnly g.D.Disk c.args.self.now.disk v.disk (RecoversToKnown (g.D.Disk.content c.args.self.now.disk) c.args.self.now.records (stake_of c.args.self.now.shut c.args.self.now.doubt (spelling c.args.command)))) (sym same) mine

pub returns-in-Some-clause-any_moment : goal.returns-in-Some-clause-any_moment
returns-in-Some-clause-any_moment g c =
    let desk = c.args.self.now in
    let safe = c.refusal.ensures.safe in
    started g.D.Disk desk.disk (RecoversToKnown (g.D.Disk.content desk.disk) desk.records (stake_of desk.shut desk.doubt (spelling c.args.command))) g.met.D.Disk.only_now
    (λ image left. stake_holds (g.D.Disk.content desk.disk) desk.records desk.shut desk.doubt (spelling c.args.command) image safe.settled (safe.images image left))

pub returns-in-Ok-append-clause-safe : goal.returns-in-Ok-append-clause-safe
returns-in-Ok-append-clause-safe g c =
    safe_of g.D.Disk c.self.inside.number c.apply.new.self.settings c.add_to_body.new.body.items c.append.new.self (invariant_of-self-in-Ok-append g c)

pub returns-in-Ok-append-clause-bytes : goal.returns-in-Ok-append-clause-bytes
returns-in-Ok-append-clause-bytes g c =
    let inside = c.self.inside in
    let payload = c.as_slice-record.result.now in
    let spelled : payload ≡ spelling c.args.command = c.as_slice-record.ensures.value ∙ c.in-Ok.ensures.payload.0 in
    let sizes = kept_sizes g.D.Disk inside.number inside.config.settings inside.body.items inside.journal c.self.invariant in
    c.in-Ok-append.ensures.bytes
    ∙ ap (λ (j : journal.View _). option_map (stored (format.held_for j.sizes) (entry_bytes payload)) (g.D.Disk.content j.disk)) c.prepare.ensures.journal
    ∙ ap (λ (p : List ℕ). option_map (stored (format.held_for inside.journal.sizes) (entry_bytes p)) (g.D.Disk.content inside.journal.disk)) spelled
    ∙ ap (λ (l : List ℕ). option_map (stored (format.held_for l) (entry_bytes (spelling c.args.command))) (g.D.Disk.content inside.journal.disk)) sizes
    ∙ ap (λ (v : View _). option_map (stored (format.held_by v.records) (entry_bytes (spelling c.args.command))) (g.D.Disk.content v.disk)) c.self.view_is

pub returns-in-Ok-append-clause-durable : goal.returns-in-Ok-append-clause-durable
returns-in-Ok-append-clause-durable g c image left =
    let safe = returns-in-Ok-append-clause-safe g c in
    let records = format.payloads c.append.new.self.sizes c.add_to_body.new.body.items in
    held_before (g.D.Disk.content c.args.self.now.disk) (g.D.Disk.content c.append.new.self.disk) _ records None image (returns-in-Ok-append-clause-bytes g c)
    (subst (λ (d : Option (List ℕ)). RecoversToKnown (g.D.Disk.content c.append.new.self.disk) records d image) (safe.settled c.in-Ok-append.ensures.place.1) (safe.images image left))

pub returns-in-Err-clause-safe : goal.returns-in-Err-clause-safe
returns-in-Err-clause-safe g c =
    let inside = c.self.inside in
    let more = format.payloads c.append.new.self.sizes c.prepare.new.body.items in
    let new = desk_of inside.number c.prepare.new.config.settings more c.append.new.self in
    let same : c.match-command-7.self ≡ new = elim c.match-command-7.branch [
      | goal.in-AddChild-3 w ↦ w.self-is
      | goal.in-UpdateChild-3 w ↦ w.self-is
      | goal.in-UpdateRoas+in-Some-3 w ↦ w.self-is
      | goal.in-UpdateRoas+in-None-3 w ↦ w.self-is
      | goal.in-Add-3 w ↦ w.self-is
    ] in
    let kept = kept_again g.D.Disk inside.number inside.config.settings c.prepare.new.config.settings inside.body.items c.prepare.new.body.items
    inside.journal c.prepare.new.journal c.append.new.self c.self.invariant c.prepare.ensures.journal c.prepare.ensures.config c.prepare.ensures.body
    c.in-Err.ensures.kept.0 c.in-Err.ensures.kept.1 c.in-Err.ensures.limit c.in-Err.ensures.safe in
    subst (λ (v : View _). IsSafe g.D.Disk v) (sym same)
    (safe_of g.D.Disk inside.number c.prepare.new.config.settings c.prepare.new.body.items c.append.new.self kept)
