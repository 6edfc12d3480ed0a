use Rattle.std.proofs.Common.{List, [], ◌++◌, length, map, sym, ap, subst, ◌∙◌}
use Rattle.std.specs.List.{All}
use Rattle.std.proofs.lemmas.List.{length-map}
use Rattle.std.proofs.lemmas.Result.{err_from_is_err_and}
use Rattle.issue_drafts.specs.IssueInput.{input_of}
use Rattle.issue_drafts.specs.declared.draft.Draft as code
use Rattle.issue_drafts.specs.declared.draft.ManifestDraft as manifests
use Rattle.issue_drafts.specs.Views.{draft_of, manifest_of}
use Rattle.issue_drafts.specs.Files.{AreListable}
use Rattle.issue_drafts.specs.Touching.{AreTouched}
use Rattle.issue_sign.specs.Made.{signed, answers_of, of_drafts, of_manifests, AreMade}
use Rattle.issue_sign.specs.declared.object.Object.{Object}
use Rattle.issue_make.specs.ObjectPlan.{puts}
use Rattle.issue_make.specs.inner.Signing.{sign_input_of}
use Rattle.issue_make.proofs.PlanStops.{drafts-stop, drafts-short, manifests-stop}
use Rattle.issue_make.proofs.Signed.{is-basis, are-drafts, are-manifests, as-many, as-many-made, lists-of}
use Rattle.issue_make.proofs.objects.sign_objects.Goals as goal

pub returns-in_err-drafted-clause-stopped : goal.returns-in_err-drafted-clause-stopped
returns-in_err-drafted-clause-stopped g c =
    let p = err_from_is_err_and c.from_residual.result c.from_residual.ensures.1 in
    rw (p.1, p.2)
    (λ keys rows entries plan is.
    let s = input_of c.args.input.now in
    let b = sign_input_of s keys rows entries (λ key. []) in
    drafts-stop s keys rows entries c.args.plan.now c.deref-3.result.now c.args.ring.now c.sign_drafts.new.ring c.in_err-drafted.field-0.0
    c.deref-3.ensures.value
    (c.in_err-drafted.ensures.stopped b
    (is-basis _ keys rows entries (λ key. []) c.args.plan.now c.deref.ensures.value c.deref-2.ensures.value plan is)
    (are-drafts s keys rows entries (λ key. []) c.args.plan.now c.deref-3.result.now c.deref-4.result.now c.deref-3.ensures.value c.deref-4.ensures.value plan)))

pub returns-in_err-hashes-clause-stopped : goal.returns-in_err-hashes-clause-stopped
returns-in_err-hashes-clause-stopped g c =
    let p = err_from_is_err_and c.from_residual-in_err-hashes.result c.from_residual-in_err-hashes.ensures.1 in
    rw (p.1, p.2)
    (λ keys rows entries plan is.
    let s = input_of c.args.input.now in
    let b = sign_input_of s keys rows entries (λ key. []) in
    drafts-short s keys rows entries c.args.plan.now c.deref-3.result.now c.args.ring.now c.sign_drafts.new.ring c.in_ok-drafted.drafted.items
    (signed (map draft_of c.deref-3.result.now) (map answers_of c.in_ok-drafted.drafted.items)) c.deref-3.ensures.value
    (c.in_ok-drafted.ensures.made b
    (is-basis _ keys rows entries (λ key. []) c.args.plan.now c.deref.ensures.value c.deref-2.ensures.value plan is)
    (are-drafts s keys rows entries (λ key. []) c.args.plan.now c.deref-3.result.now c.deref-4.result.now c.deref-3.ensures.value c.deref-4.ensures.value plan)))

pub files-requires-clause-each : goal.files-requires-clause-each
files-requires-clause-each g c =
    let s = input_of c.args.input.now in
    let r = c.requires in
    let b = sign_input_of s r.keys r.rows r.entries (λ key. []) in
    let made = as-many-made s b (of_drafts s b) (map draft_of c.deref-3.result.now) c.args.ring.now c.sign_drafts.new.ring
    c.in_ok-drafted.drafted.items (signed (map draft_of c.deref-3.result.now) (map answers_of c.in_ok-drafted.drafted.items))
    (c.in_ok-drafted.ensures.made b
    (is-basis _ r.keys r.rows r.entries (λ key. []) c.args.plan.now c.deref.ensures.value c.deref-2.ensures.value r.is_plan r.are_entries)
    (are-drafts s r.keys r.rows r.entries (λ key. []) c.args.plan.now c.deref-3.result.now c.deref-4.result.now c.deref-3.ensures.value c.deref-4.ensures.value r.is_plan)) in
    ap length (c.deref-7.ensures.value ∙ c.in_ok-hashes.ensures)
    ∙ (length-map c.deref-5.result.now (λ (o : Object). o.hash)
    ∙ (ap length c.deref-5.ensures.value
    ∙ (made ∙ (length-map c.deref-3.result.now draft_of ∙ ap length (c.deref-3.ensures.value ∙ sym c.deref-6.ensures.value)))))

pub files-requires-clause-touched : goal.files-requires-clause-touched
files-requires-clause-touched g c =
    let s = input_of c.args.input.now in
    subst (λ (l : List code.Draft). AreTouched s (map draft_of l ++ map manifest_of c.deref-8.result.now) c.args.plan.now.touched) (sym c.deref-6.ensures.value)
    (subst (λ (l : List manifests.ManifestDraft). AreTouched s (map draft_of c.args.plan.now.drafts.items ++ map manifest_of l) c.args.plan.now.touched) (sym c.deref-8.ensures.value)
    c.requires.touched)

pub files-requires-clause-listable : goal.files-requires-clause-listable
files-requires-clause-listable g c =
    let s = input_of c.args.input.now in
    let ds = c.args.plan.now.drafts.items in
    subst (λ (l : List code.Draft). All (λ m. AreListable s (map draft_of l ++ map manifest_of c.deref-8.result.now) (map draft_of l) m.issuer.row.now) c.deref-8.result.now)
    (sym c.deref-6.ensures.value)
    (subst (λ (l : List manifests.ManifestDraft). All (λ m. AreListable s (map draft_of ds ++ map manifest_of l) (map draft_of ds) m.issuer.row.now) l)
    (sym c.deref-8.ensures.value) c.requires.listable)

pub returns-in_err-files-clause-stopped : goal.returns-in_err-files-clause-stopped
returns-in_err-files-clause-stopped g c =
    let p = err_from_is_err_and c.from_residual-in_err-files.result c.from_residual-in_err-files.ensures.1 in
    rw (p.1, p.2)
    (λ keys rows entries plan is.
    let s = input_of c.args.input.now in
    let b = sign_input_of s keys rows entries (λ key. []) in
    drafts-short s keys rows entries c.args.plan.now c.deref-3.result.now c.args.ring.now c.sign_drafts.new.ring c.in_ok-drafted.drafted.items
    (signed (map draft_of c.deref-3.result.now) (map answers_of c.in_ok-drafted.drafted.items)) c.deref-3.ensures.value
    (c.in_ok-drafted.ensures.made b
    (is-basis _ keys rows entries (λ key. []) c.args.plan.now c.deref.ensures.value c.deref-2.ensures.value plan is)
    (are-drafts s keys rows entries (λ key. []) c.args.plan.now c.deref-3.result.now c.deref-4.result.now c.deref-3.ensures.value c.deref-4.ensures.value plan)))

pub sign_manifests-requires-clause-each : goal.sign_manifests-requires-clause-each
sign_manifests-requires-clause-each g c = λ lifetimes lives.
    let s = input_of c.args.input.now in
    let r = c.requires in
    let table = c.in_ok-files.ensures.lists (puts s r.keys) r.is_plan.touched in
    as-many table.of c.deref-8.result.now c.in_ok-files.files.items table.is
    ∙ ap length (c.deref-8.ensures.value ∙ sym c.deref-9.ensures.value)

pub returns-in_err-listed-clause-stopped : goal.returns-in_err-listed-clause-stopped
returns-in_err-listed-clause-stopped g c =
    let p = err_from_is_err_and c.from_residual-in_err-listed.result c.from_residual-in_err-listed.ensures.1 in
    rw (p.1, p.2)
    (λ keys rows entries plan is.
    let s = input_of c.args.input.now in
    let table = c.in_ok-files.ensures.lists (puts s keys) plan.touched in
    let b = sign_input_of s keys rows entries table.of in
    let made = signed (map draft_of c.deref-3.result.now) (map answers_of c.in_ok-drafted.drafted.items) in
    let objects = c.in_ok-drafted.drafted.items in
    manifests-stop s keys rows entries table.of c.args.plan.now c.deref-3.result.now c.deref-9.result.now
    c.args.ring.now c.sign_drafts.new.ring c.sign_manifests.new.ring objects made c.in_err-listed.field-0.0
    c.deref-3.ensures.value c.deref-9.ensures.value
    (c.in_ok-drafted.ensures.made b
    (is-basis _ keys rows entries table.of c.args.plan.now c.deref.ensures.value c.deref-2.ensures.value plan is)
    (are-drafts s keys rows entries table.of c.args.plan.now c.deref-3.result.now c.deref-4.result.now c.deref-3.ensures.value c.deref-4.ensures.value plan))
    (lists-of s (puts s keys) c.deref-3.result.now c.deref-6.result.now c.deref-9.result.now c.deref-8.result.now
    (map (λ (o : Object). o.hash) objects) c.deref-7.result.now _ (c.deref-6.ensures.value ∙ sym c.deref-3.ensures.value)
    (c.deref-8.ensures.value ∙ sym c.deref-9.ensures.value)
    (c.deref-7.ensures.value ∙ (c.in_ok-hashes.ensures ∙ ap (map (λ (o : Object). o.hash)) c.deref-5.ensures.value)) table)
    (c.in_err-listed.ensures.stopped b
    (is-basis _ keys rows entries table.of c.args.plan.now c.deref.ensures.value c.deref-2.ensures.value plan is)
    (are-manifests s keys rows entries c.args.plan.now _ c.deref-9.result.now c.deref-8.result.now c.deref-10.result.now c.in_ok-files.files.items
    c.deref-9.ensures.value c.deref-8.ensures.value c.deref-10.ensures.value plan table)))

pub returns-clause-made : goal.returns-clause-made
returns-clause-made g c = λ keys rows entries plan is.
    let s = input_of c.args.input.now in
    let table = c.in_ok-files.ensures.lists (puts s keys) plan.touched in
    let b = sign_input_of s keys rows entries table.of in
    let objects = c.in_ok-drafted.drafted.items in
    let listed = c.in_ok-listed.listed.items in record {
      files = table.of;
      between = c.sign_drafts.new.ring;
      lists = lists-of s (puts s keys) c.args.plan.now.drafts.items c.deref-6.result.now c.args.plan.now.manifests.items c.deref-8.result.now
          (map (λ (o : Object). o.hash) objects) c.deref-7.result.now _ c.deref-6.ensures.value c.deref-8.ensures.value
          (c.deref-7.ensures.value ∙ (c.in_ok-hashes.ensures ∙ ap (map (λ (o : Object). o.hash)) c.deref-5.ensures.value)) table;
      drafted = subst (λ (l : List code.Draft). AreMade s b (of_drafts s b) (map draft_of l) c.args.ring.now c.sign_drafts.new.ring objects
          (signed (map draft_of l) (map answers_of objects))) c.deref-3.ensures.value
          (c.in_ok-drafted.ensures.made b
          (is-basis _ keys rows entries table.of c.args.plan.now c.deref.ensures.value c.deref-2.ensures.value plan is)
          (are-drafts s keys rows entries table.of c.args.plan.now c.deref-3.result.now c.deref-4.result.now c.deref-3.ensures.value c.deref-4.ensures.value plan));
      listed = subst (λ (l : List manifests.ManifestDraft). AreMade s b (of_manifests s b) (map manifest_of l) c.sign_drafts.new.ring c.sign_manifests.new.ring listed
          (signed (map manifest_of l) (map answers_of listed))) c.deref-9.ensures.value
          (c.in_ok-listed.ensures.made b
          (is-basis _ keys rows entries table.of c.args.plan.now c.deref.ensures.value c.deref-2.ensures.value plan is)
          (are-manifests s keys rows entries c.args.plan.now _ c.deref-9.result.now c.deref-8.result.now c.deref-10.result.now c.in_ok-files.files.items
          c.deref-9.ensures.value c.deref-8.ensures.value c.deref-10.ensures.value plan table));
    }
