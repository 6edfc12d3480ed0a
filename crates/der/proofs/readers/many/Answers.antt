use Rattle.std.proofs.Common.{List, [], ◌∷◌, map, sym, ap, subst, ◌∙◌}
use Rattle.std.proofs.lemmas.List.{map-append}
use Rattle.std.proofs.lemmas.Result.{err_from_is_err_and}
use Rattle.der.specs.Part.{place}
use Rattle.der.proofs.Lists.{ReadsFurther, at-first, one-more, at-last, stopped, fewer-left}
use Rattle.der.specs.laws.PlaceLaws.{part-place}
use Rattle.der.proofs.readers.many.Goals as goal

pub loop-left-init : goal.loop-left-init
loop-left-init g c =
    let f = g.R.FrontReader.format c.args.reader.now in
    let p = place c.args.part in
    subst (λ (xs : List g.R.FrontReader.Meaning). ReadsFurther f p xs p) (sym (ap (map g.R.FrontReader.view) c.new-items.ensures.items)) (at-first f p)

pub returns-in_err-item : goal.returns-in_err-item
returns-in_err-item g c =
    let p = err_from_is_err_and c.from_residual.result c.from_residual.ensures.1 in
    let f = g.R.FrontReader.format c.args.reader.now in
    rw (p.1, p.2) (λ h. stopped f (g.met.R.FrontReader.moves c.args.reader.now) (place c.args.part) _ (place c.loop-left.left) _ c.loop-left.invariant (part-place c.loop-left.left) (sym c.loop-left-test.ensures) (c.in_err-item.ensures h))

pub loop-left-smaller : goal.loop-left-smaller
loop-left-smaller g c =
    fewer-left (g.R.FrontReader.format c.args.reader.now) (g.met.R.FrontReader.moves c.args.reader.now) (place c.loop-left.left) (place c.in_ok-item.rest) _ (part-place c.loop-left.left) c.in_ok-item.ensures

pub loop-left-preserved : goal.loop-left-preserved
loop-left-preserved g c =
    let f = g.R.FrontReader.format c.args.reader.now in
    let p = place c.args.part in
    let q = place c.in_ok-item.rest in
    let pushed = ap (map g.R.FrontReader.view) c.in_ok-push.ensures.items ∙ map-append g.R.FrontReader.view c.loop-left.items.items (c.in_ok-item.item ∷ []) in
    let more = one-more f (g.met.R.FrontReader.moves c.args.reader.now) p (map g.R.FrontReader.view c.loop-left.items.items) (place c.loop-left.left) q _ c.loop-left.invariant (part-place c.loop-left.left) (sym c.loop-left-test.ensures) c.in_ok-item.ensures in
    subst (λ (xs : List g.R.FrontReader.Meaning). ReadsFurther f p xs q) (sym pushed) more

pub returns : goal.returns
returns g c = at-last (g.R.FrontReader.format c.args.reader.now) (place c.args.part) _ (place c.loop-left.left) c.loop-left.invariant (sym c.loop-left-test.ensures)
