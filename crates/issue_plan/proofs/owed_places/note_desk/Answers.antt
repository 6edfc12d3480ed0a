use Rattle.std.proofs.Common.{ℕ, ◌<◌, length, get_or, refl, sym, subst, arith}
use Rattle.std.proofs.lemmas.Option.{slice_get-get_or}
use Rattle.issue_plan.specs.inner.OwedPlaces.{IsPlaceIn}
use Rattle.issue_plan.proofs.PlaceLemmas.{own-position, group-place}
use Rattle.issue_plan.proofs.owed_places.note_desk.Goals as goal

pub loop-position-preserved : goal.loop-position-preserved
loop-position-preserved c =
    let s = c.args.standing.now in
    let row = c.index-standing-position.result in
    let group = c.in_ok-group.group in
    let position = c.loop-position.position in
    let before = c.loop-position-test.true in
    let within = c.in_ok-group.ensures.within in
    let inside : position < length s.issued.now = omega (arith, before, within) in
    let place = group-place s c.args.desk group.first group.end position row c.requires.stand c.in_ok-group.ensures
    c.loop-position.auto.position before in
    let here = subst (λ (n : ℕ). IsPlaceIn s n (get_or s.issued.now position row)) (sym c.issuer_at-issuer.ensures.desk) place in
    let at = own-position s.issued.now position row c.requires.rising inside in
    record {
      positions = c.note_named.ensures.positions s here at c.loop-position.invariant.positions;
      stay = c.note_named.ensures.stay s c.args.keys.now c.args.settled.now refl c.issuer_at-issuer.ensures.issuer here at
          (slice_get-get_or s.issued.now position row inside) c.loop-position.invariant.stay;
    }
