use Rattle.std.proofs.Common.{◌≡◌, ◌≤◌, ◌<◌, ◌++◌, ℕ, List, Option, Some, IfSome, length, take, drop, sym, ap, subst, rules, arith}
use Rattle.std.proofs.lemmas.List.{length-take}
use Rattle.std.specs.Prelude.{slice_get}
use Rattle.gate_journal.specs.View.{View}
use Rattle.gate_journal.proofs.Placed.{below_count, front_read}
use Rattle.gate_journal.proofs.journal.Journal.front.Goals as goal

pub returns-in-Ok-clause-front : goal.returns-in-Ok-clause-front
returns-in-Ok-clause-front g c =
    let j = c.self.inside in
    let place = c.index-place.result.now in
    let want = c.min-want.result in
    let into = c.args.into.now in
    let new = c.read_into-2.new.into in
    let fits : want ≤ length into = search rules in
    let short : want ≤ place.size = search rules in
    let room : length (take want into) ≡ want = omega (arith, length-take want into, fits) in
    let long : length new ≡ want = omega (arith, c.read_into-2.auto.into, room) in
    let lt : c.args.index < j.count = below_count j.count j.places.items c.args.index c.self.invariant.0.measured.counted (subst (λ (v : View _). c.args.index < length v.sizes) (sym c.self.view_is) c.requires) in
    subst (λ (o : Option (List (List ℕ))). IfSome o (λ all. IfSome (slice_get all c.args.index) (λ payload. take want (new ++ drop want into) ≡ take want payload))) (ap (λ (v : View _). v.records) c.self.view_is)
    (front_read (g.D.Disk.content j.disk) (g.D.Disk.may_leave j.disk) j.count j.held j.places.items j.shut c.args.index want place (take want into) new (drop want into) c.self.invariant.0 lt c.index-place.ensures short room long
    (subst (λ (v : View _). IfSome (g.D.Disk.content v.disk) (λ bytes. new ≡ take (length (take want into)) (drop place.at bytes))) (sym c.self.view_is) c.in-Ok.ensures.part))
