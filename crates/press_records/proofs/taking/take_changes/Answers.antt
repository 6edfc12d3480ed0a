use Rattle.std.proofs.Common.{◌≡◌, ℕ, ◌+◌, ◌-◌, Bool, true, false, List, [], ◌∷◌, ◌++◌, sym, ap, subst, ◌∙◌, arith}
use Rattle.std.proofs.lemmas.Result.{err_from_is_err_and}
use Rattle.pub_set.specs.declared.steps.Change.{Change}
use Rattle.pub_set.specs.declared.objects.Object.{Object}
use Rattle.pub_set.specs.Objects.{content_at}
use Rattle.press_records.specs.Changes.{uris_rise}
use Rattle.press_records.specs.declared.taking.Batch.{Batch}
use Rattle.press_records.proofs.Carrying.{AreSoFar, one-further, stopped-by, unrisen, carried, all-taken}
use Rattle.press_records.proofs.taking.take_changes.Goals as goal
use Rattle.press_records.proofs.taking.take_changes.Goals.{then-batch-most+in_ok-flush, else-batch-most}

-- What `rises_behind` told of a slice, it told of the list.
tested : (told slice : List Change) (change : Change) (answer is : Bool) → slice ≡ told → answer ≡ uris_rise (slice ++ change ∷ [])
    → answer ≡ is → uris_rise (told ++ change ∷ []) ≡ is
tested told slice change answer is same ensures e = ap (λ (t : List Change). uris_rise (t ++ change ∷ [])) (sym same) ∙ sym ensures ∙ e

pushed : (told then_told : List Change) (copy change : Change) → then_told ≡ told ++ copy ∷ [] → copy ≡ change → then_told ≡ told ++ change ∷ []
pushed told then_told copy change items same = items ∙ ap (λ (c : Change). told ++ c ∷ []) same

pub returns-in_err-change-clause-none : goal.returns-in_err-change-clause-none
returns-in_err-change-clause-none c =
    let p = err_from_is_err_and c.from_residual-in_err-change.result c.from_residual-in_err-change.ensures.1 in
    rw (p.1, p.2)
    (stopped-by {X = Change × List ℕ} (λ x. x) (content_at c.args.set.now) c.args.count c.args.bytes.now c.loop.taken.items (c.args.count - c.loop.counter)
    (c.args.count - (c.loop.counter + 1)) c.loop.left.now c.loop.batch.changes.items (content_at c.loop.set) c.in_err-change.field-0.0
    (omega (arith, c.loop-test.true)) c.loop.invariant c.in_err-change.ensures)

pub returns-then-not-rises_behind-clause-none : goal.returns-then-not-rises_behind-clause-none
returns-then-not-rises_behind-clause-none c =
    let change = c.in_ok-change.change in
    unrisen (content_at c.args.set.now) c.args.count c.args.bytes.now c.loop.taken.items (c.args.count - c.loop.counter)
    (c.args.count - (c.loop.counter + 1)) c.loop.left.now c.loop.batch.changes.items (content_at c.loop.set) change c.in_ok-change.rest.now
    (omega (arith, c.loop-test.true)) c.loop.invariant c.in_ok-change.ensures
    (tested c.loop.taken.items c.deref.result.now change c.rises_behind.result false c.deref.ensures.value c.rises_behind.ensures c.if-not-rises_behind.true)

pub loop-preserved : goal.loop-preserved
loop-preserved c =
    let held = content_at c.args.set.now in
    let count = c.args.count in
    let start = c.args.bytes.now in
    let told = c.loop.taken.items in
    let batch = c.loop.batch.changes.items in
    let now = content_at c.loop.set in
    let n = c.args.count - (c.loop.counter + 1) in
    let change = c.in_ok-change.change in
    let rest = c.in_ok-change.rest.now in
    let told_then = c.push.new.self.items in
    let batch_then = c.push-in-loop.new.self.items in
    let more = one-further held count start told told_then (c.args.count - c.loop.counter) n c.loop.left.now
    batch batch_then now change rest (omega (arith, c.loop-test.true)) c.loop.invariant c.in_ok-change.ensures
    (tested told c.deref.result.now change c.rises_behind.result true c.deref.ensures.value c.rises_behind.ensures c.if-not-rises_behind.false)
    (pushed told told_then c.in_ok-copy.field-0 change c.in_ok-push.ensures.items c.in_ok-copy.ensures) c.in_ok-push-2.ensures.items in
    elim c.if-batch-most.branch [
      | then-batch-most+in_ok-flush w ↦ (
          let new = content_at w.flush.new.set in
          let items = ap (λ (b : Batch). b.changes.items) w.batch-is ∙ w.in_ok-flush.ensures.empty in
          subst (λ (s : List Object). AreSoFar held count start told_then n rest c.if-batch-most.batch.changes.items (content_at s)) (sym w.set-is)
          (subst (λ (b : List Change). AreSoFar held count start told_then n rest b new) (sym items)
          (carried held count start told_then n rest batch_then now new more w.in_ok-flush.ensures.led))
          )
      | else-batch-most w ↦ (
          let items = ap (λ (b : Batch). b.changes.items) w.batch-is in
          subst (λ (s : List Object). AreSoFar held count start told_then n rest c.if-batch-most.batch.changes.items (content_at s)) (sym w.set-is)
          (subst (λ (b : List Change). AreSoFar held count start told_then n rest b now) (sym items) more)
          )
    ]

pub returns-clause-taken : goal.returns-clause-taken
returns-clause-taken c =
    all-taken (content_at c.args.set.now) c.args.count c.args.bytes.now c.loop.taken.items (c.args.count - c.loop.counter) c.loop.left.now
    c.loop.batch.changes.items (content_at c.loop.set) (content_at c.flush-2.new.set) (omega (arith, c.loop-test.false)) c.loop.invariant
    c.in_ok-flush-2.ensures.led
