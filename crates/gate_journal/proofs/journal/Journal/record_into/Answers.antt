use Rattle.std.proofs.Common.{◌≡◌, ◌∙◌, ◌<◌, ℕ, List, Option, Some, IfSome, length, take, drop, sym, ap, subst}
use Rattle.std.specs.Prelude.{slice_get}
use Rattle.std.proofs.lemmas.Result.{on_ok_weaker}
use Rattle.gate_journal.specs.View.{View}
use Rattle.gate_journal.proofs.Placed.{below_count, read_place, size_there}
use Rattle.gate_journal.proofs.journal.Journal.record_into.Goals as goal

pub returns-clause-size : goal.returns-clause-size
returns-clause-size g c =
    let j = c.self.inside in
    let place = c.index-place.result.now in
    let lt : c.args.index < j.count = below_count j.count j.places.items c.args.index c.self.invariant.0.measured.counted (subst (λ (v : View _). c.args.index < length v.sizes) (sym c.self.view_is) c.requires) in
    let there = subst (λ (v : View _). slice_get v.sizes c.args.index ≡ Some place.size) c.self.view_is (size_there j.count j.places.items c.args.index place c.self.invariant.0.measured.counted lt c.index-place.ensures) in
    on_ok_weaker c.read_over.result (λ size. there ∙ ap (λ (n : ℕ). Some n) (sym size)) c.read_over.ensures.size

pub returns-clause-payload : goal.returns-clause-payload
returns-clause-payload g c =
    let j = c.self.inside in
    let place = c.index-place.result.now in
    let part = c.read_over.new.part.items in
    let lt : c.args.index < j.count = below_count j.count j.places.items c.args.index c.self.invariant.0.measured.counted (subst (λ (v : View _). c.args.index < length v.sizes) (sym c.self.view_is) c.requires) in
    on_ok_weaker c.read_over.result
    (λ read. subst (λ (o : Option (List (List ℕ))). IfSome o (λ all. slice_get all c.args.index ≡ Some part)) (ap (λ (v : View _). v.records) c.self.view_is)
    (read_place (g.D.Disk.content j.disk) (g.D.Disk.may_leave j.disk) j.count j.held j.places.items j.shut c.args.index place part c.self.invariant.0 lt c.index-place.ensures
    (subst (λ (v : View _). IfSome (g.D.Disk.content v.disk) (λ bytes. part ≡ take place.size (drop place.at bytes))) (sym c.self.view_is) read)))
    c.read_over.ensures.part
