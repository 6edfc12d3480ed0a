use Rattle.std.proofs.Common.{◌≡◌, ◌∙◌, ◌<◌, ◌+◌, ◌-◌, ℕ, Some, length, take, drop, sym, ap, subst, arith}
use Rattle.std.specs.Prelude.{slice_get}
use Rattle.gate_journal.specs.Format.{taken_by, payloads}
use Rattle.gate_journal.specs.inner.Kept.{sizes_of}
use Rattle.gate_journal.specs.View.{View}
use Rattle.gate_journal.proofs.Placed.{below_count}
use Rattle.gate_journal.proofs.Bodies.{in_body}
use Rattle.gate_journal.proofs.journal.Journal.payload.Goals as goal

pub overflow_sub-start : goal.overflow_sub-start
overflow_sub-start g c =
    let j = c.self.inside in
    let place = c.index.result.now in
    let lt : c.args.index < j.count = below_count j.count j.places.items c.args.index c.self.invariant.0.measured.counted (subst (λ (v : View _). c.args.index < length v.sizes) (sym c.self.view_is) c.requires.index) in
    let found = in_body j.count j.held j.places.items c.args.body.now c.args.index place c.self.invariant.0.measured lt c.index.ensures in
    omega (arith, found.above)

pub slice_bounds-result-end : goal.slice_bounds-result-end
slice_bounds-result-end g c =
    let j = c.self.inside in
    let place = c.index.result.now in
    let lt : c.args.index < j.count = below_count j.count j.places.items c.args.index c.self.invariant.0.measured.counted (subst (λ (v : View _). c.args.index < length v.sizes) (sym c.self.view_is) c.requires.index) in
    let found = in_body j.count j.held j.places.items c.args.body.now c.args.index place c.self.invariant.0.measured lt c.index.ensures in
    let sizes : taken_by (sizes_of j.count j.places.items) ≡ length c.args.body.now = ap (λ (v : View _). taken_by v.sizes) c.self.view_is ∙ sym c.requires.body in
    omega (arith, found.within, found.above, sizes)

pub returns : goal.returns
returns g c =
    let j = c.self.inside in
    let place = c.index.result.now in
    let lt : c.args.index < j.count = below_count j.count j.places.items c.args.index c.self.invariant.0.measured.counted (subst (λ (v : View _). c.args.index < length v.sizes) (sym c.self.view_is) c.requires.index) in
    let found = in_body j.count j.held j.places.items c.args.body.now c.args.index place c.self.invariant.0.measured lt c.index.ensures in
    let start = place.at - 16 in
    subst (λ (v : View _). slice_get (payloads v.sizes c.args.body.now) c.args.index ≡ Some (take (start + place.size - start) (drop start c.args.body.now))) c.self.view_is
    (found.there ∙ ap (λ (n : ℕ). Some (take n (drop start c.args.body.now))) (omega arith))
