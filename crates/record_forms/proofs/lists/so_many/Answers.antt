use Rattle.std.proofs.Common.{◌≡◌, ◌+◌, ℕ, List, [], ◌∷◌, map, Some, sym, ap, subst, ◌∙◌, arith}
use Rattle.std.proofs.lemmas.List.{map-append}
use Rattle.std.proofs.lemmas.Result.{err_from_is_err_and}
use Rattle.record_forms.specs.Forms.{so_many}
use Rattle.record_forms.proofs.Further.{ReadsFurther, at-first, one-more, at-last, stopped-by}
use Rattle.record_forms.proofs.lists.so_many.Goals as goal

pub loop-init : goal.loop-init
loop-init g c =
    let f = g.R.ItemReader.form c.args.reader.now in
    subst (λ (xs : List g.R.ItemReader.Meaning). ReadsFurther f.read c.args.bytes.now xs 0 c.args.bytes.now)
    (sym (ap (map g.R.ItemReader.view) c.new-items.ensures.items)) (at-first f.read c.args.bytes.now)

pub returns-in_err-item : goal.returns-in_err-item
returns-in_err-item g c =
    let f = g.R.ItemReader.form c.args.reader.now in
    let p = err_from_is_err_and c.from_residual.result c.from_residual.ensures.1 in
    rw (p.1, p.2) (stopped-by f.read c.args.bytes.now (map g.R.ItemReader.view c.loop.items.items) c.loop.counter c.args.count c.loop.left.now c.in_err-item.field-0.0 c.loop.invariant (omega arith) c.in_err-item.ensures)

pub loop-preserved : goal.loop-preserved
loop-preserved g c =
    let f = g.R.ItemReader.form c.args.reader.now in
    let pushed = ap (map g.R.ItemReader.view) c.in_ok-push.ensures.items ∙ map-append g.R.ItemReader.view c.loop.items.items (c.in_ok-item.item ∷ []) in
    let more = one-more f.read c.args.bytes.now (map g.R.ItemReader.view c.loop.items.items) c.loop.counter c.loop.left.now c.in_ok-item.rest.now (g.R.ItemReader.view c.in_ok-item.item) c.loop.invariant c.in_ok-item.ensures in
    subst (λ (xs : List g.R.ItemReader.Meaning). ReadsFurther f.read c.args.bytes.now xs (c.loop.counter + 1) c.in_ok-item.rest.now) (sym pushed) more

pub returns : goal.returns
returns g c =
    let f = g.R.ItemReader.form c.args.reader.now in
    let all : c.loop.counter ≡ c.args.count = omega arith in
    let done = at-last f.read c.args.bytes.now (map g.R.ItemReader.view c.loop.items.items) c.loop.counter c.loop.left.now c.loop.invariant in
    subst (λ (n : ℕ). so_many f.read n c.args.bytes.now ≡ Some (map g.R.ItemReader.view c.loop.items.items, c.loop.left.now)) all done
