use Rattle.std.proofs.Common.{◌≡◌, rules}
use Rattle.std.specs.Prelude.{Some}
use Rattle.entitle.specs.Certified.{Grant, settings_of, names_of, grant_of, passed_on}
use Rattle.entitle.specs.inner.Steps.{has_at}
use Rattle.entitle.proofs.Arriving.{from_meet, from_parent_at}
use Rattle.entitle.proofs.certifying.set_from_parent.Goals as goal

pub returns : goal.returns
returns c =
    let configs = settings_of c.args.configs.now in
    let name = c.args.name.now in
    let sets = c.args.sets.now in
    let grant : Grant = record { parent = c.in-Some.link.parent; resources = c.in-Some.link.grant.now } in
    let is : grant_of configs name ≡ Some grant = search rules in
    let place = c.in-Some-place_of.place in
    from_meet c.meet.result c.index-sets-place.result grant.resources (passed_on (has_at (names_of configs) sets) (grant_of configs name))
    c.meet.ensures (λ family number. from_parent_at configs name sets grant place c.index-sets-place.result family number is
    (search rules) c.requires c.index-sets-place.is)
