use Rattle.std.proofs.Common.{◌≤◌, inl, List, [], map, drop, length, refl, sym, subst}
use Rattle.std.specs.List.Sorted.{IsNonDecreasing}
use Rattle.std.proofs.lemmas.Result.{err_from_is_err_and}
use Rattle.key_roll.specs.declared.rows.KeyRow.{KeyRow}
use Rattle.issue_keys.specs.declared.fault.MakeFault.TheVariants.{Memory}
use Rattle.issue_drafts.specs.WorkKeys.{keys_at}
use Rattle.issue_drafts.specs.IssueInput.{input_of}
use Rattle.issue_make.specs.inner.Finished.{IsFinished}
use Rattle.issue_make.specs.inner.Signing.{IsObjectsStop}
use Rattle.issue_make.proofs.Conditions.{desks-of}
use Rattle.issue_make.proofs.Found.{can-plan-at, ready-at}
use Rattle.issue_make.proofs.Signable.{can-be-signed}
use Rattle.issue_make.proofs.ComesOut.{can-come-out}
use Rattle.issue_make.proofs.Traced.{is-finished, plan-stop, stop-made}
use Rattle.issue_make.proofs.making.make_objects.Goals as goal

pub new-requires-clause-inside : goal.new-requires-clause-inside
new-requires-clause-inside g c =
    subst (λ (l : List KeyRow). c.args.keys.now.first_fresh ≤ length l) (sym c.as_slice-rows.ensures.value) c.requires.ready.inside

pub new-requires-clause-rising : goal.new-requires-clause-rising
new-requires-clause-rising g c =
    let keys = c.args.keys.now in
    subst (λ (l : List KeyRow). IsNonDecreasing (map (λ row. row.desk) (drop keys.first_fresh l))) (sym c.as_slice-rows.ensures.value)
    (desks-of (input_of c.args.input.now) c.requires.live keys.rows.items keys.first_fresh c.requires.ready.are)

pub plan_objects-requires : goal.plan_objects-requires
plan_objects-requires g c =
    let keys = c.args.keys.now in
    can-plan-at (input_of c.args.input.now) c.requires.live keys.rows.items c.as_slice-rows.result.now keys.first_fresh
    (length c.args.ring.now) c.in_ok-finder.finder c.requires.ready c.as_slice-rows.ensures.value c.in_ok-finder.ensures

pub sign_objects-requires : goal.sign_objects-requires
sign_objects-requires g c =
    let s = input_of c.args.input.now in
    let keys = c.args.keys.now in
    let rows = c.as_slice-rows.result.now in
    let plan = c.in_ok-plan.plan in
    let signers = length c.args.ring.now in
    let ready = ready-at s c.requires.live keys.rows.items rows keys.first_fresh signers c.in_ok-finder.finder plan c.requires.ready
    c.as_slice-rows.ensures.value c.in_ok-finder.ensures c.in_ok-plan.ensures in
    (c.type_bounds.send-S, (c.type_bounds.sync-R, can-be-signed s c.requires.live rows keys.first_fresh signers plan ready))

pub outcome-requires : goal.outcome-requires
outcome-requires g c =
    let s = input_of c.args.input.now in
    let keys = c.args.keys.now in
    let rows = c.as_slice-rows.result.now in
    let plan = c.in_ok-plan.plan in
    let signers = length c.args.ring.now in
    let ready = ready-at s c.requires.live keys.rows.items rows keys.first_fresh signers c.in_ok-finder.finder plan c.requires.ready
    c.as_slice-rows.ensures.value c.in_ok-finder.ensures c.in_ok-plan.ensures in
    let p = ready.is_plan in
    can-come-out s c.requires.live rows keys.first_fresh signers ready.ready.work ready.ready.are plan p p.entries.of p.entries.is
    c.args.ring.now c.sign_objects.new.ring c.in_ok-objects.objects
    (c.in_ok-objects.ensures.made (keys_at rows keys.first_fresh) rows p.entries.of p p.entries.is)

pub returns-clause-made : goal.returns-clause-made
returns-clause-made g c = λ live are.
    let s = input_of c.args.input.now in
    let keys = c.args.keys.now in
    let rows = c.as_slice-rows.result.now in
    let plan = c.in_ok-plan.plan in
    let signers = length c.args.ring.now in
    let ready = ready-at s live keys.rows.items rows keys.first_fresh signers c.in_ok-finder.finder plan are
    c.as_slice-rows.ensures.value c.in_ok-finder.ensures c.in_ok-plan.ensures in
    let p = ready.is_plan in
    subst (λ (l : List KeyRow). IsFinished s live l (keys_at l keys.first_fresh) c.args.ring.now c.sign_objects.new.ring c.in_ok-made.made)
    c.as_slice-rows.ensures.value
    (is-finished s live rows keys.first_fresh signers plan ready c.args.ring.now c.sign_objects.new.ring c.in_ok-objects.objects
    (c.in_ok-objects.ensures.made (keys_at rows keys.first_fresh) rows p.entries.of p p.entries.is)
    c.in_ok-made.made c.vouched_stays.ensures c.in_ok-made.ensures)

pub returns-in_err-finder-clause-stopped : goal.returns-in_err-finder-clause-stopped
returns-in_err-finder-clause-stopped g c =
    let was = err_from_is_err_and c.from_residual.result c.from_residual.ensures.1 in
    rw (was.1, was.2) (λ live are. ([], inl refl, refl))

pub returns-in_err-plan-clause-stopped : goal.returns-in_err-plan-clause-stopped
returns-in_err-plan-clause-stopped g c =
    let was = err_from_is_err_and c.from_residual-in_err-plan.result c.from_residual-in_err-plan.ensures.1 in
    rw (was.1, was.2) (λ live are. ([], inl refl, refl))

pub returns-in_err-objects-clause-stopped : goal.returns-in_err-objects-clause-stopped
returns-in_err-objects-clause-stopped g c =
    let was = err_from_is_err_and c.from_residual-in_err-objects.result c.from_residual-in_err-objects.ensures.1 in
    rw (was.1, was.2)
    (λ live are.
    let s = input_of c.args.input.now in
    let keys = c.args.keys.now in
    let rows = c.as_slice-rows.result.now in
    let ready = ready-at s live keys.rows.items rows keys.first_fresh (length c.args.ring.now) c.in_ok-finder.finder c.in_ok-plan.plan
    are c.as_slice-rows.ensures.value c.in_ok-finder.ensures c.in_ok-plan.ensures in
    let p = ready.is_plan in
    subst (λ (l : List KeyRow). IsObjectsStop s live (drop keys.first_fresh l) c.args.ring.now c.sign_objects.new.ring c.in_err-objects.field-0.0)
    c.as_slice-rows.ensures.value
    (plan-stop s live rows keys.first_fresh (length c.args.ring.now) c.in_ok-plan.plan ready c.args.ring.now c.sign_objects.new.ring
    c.in_err-objects.field-0.0
    (c.in_err-objects.ensures.stopped (keys_at rows keys.first_fresh) rows p.entries.of p p.entries.is)))

pub returns-in_err-made-clause-stopped : goal.returns-in_err-made-clause-stopped
returns-in_err-made-clause-stopped g c =
    let was = err_from_is_err_and c.from_residual-in_err-made.result c.from_residual-in_err-made.ensures.1 in
    rw (was.1, was.2)
    (λ live are.
    let s = input_of c.args.input.now in
    let keys = c.args.keys.now in
    let rows = c.as_slice-rows.result.now in
    let plan = c.in_ok-plan.plan in
    let signers = length c.args.ring.now in
    let ready = ready-at s live keys.rows.items rows keys.first_fresh signers c.in_ok-finder.finder plan are
    c.as_slice-rows.ensures.value c.in_ok-finder.ensures c.in_ok-plan.ensures in
    let p = ready.is_plan in
    subst (λ (l : List KeyRow). IsObjectsStop s live (drop keys.first_fresh l) c.args.ring.now c.sign_objects.new.ring Memory)
    c.as_slice-rows.ensures.value
    (stop-made s live rows keys.first_fresh signers plan ready c.args.ring.now c.sign_objects.new.ring c.in_ok-objects.objects
    (c.in_ok-objects.ensures.made (keys_at rows keys.first_fresh) rows p.entries.of p p.entries.is)))
