use Rattle.std.proofs.Common.{◌≡◌, ◌≤◌, arith, length, eqb-true, sym}
use Rattle.origins.proofs.Begun.{origin_begins}
use Rattle.origins.proofs.quick.read_quickly.Goals as goal

pub returns : goal.returns
returns c =
    let l = c.in_ok-length.ensures in
    let none : length c.in_ok-asn.rest.now ≡ 0 = eqb-true _ 0 (sym c.if-not-is_empty.ensures) in
    let short : c.in_ok-length.length ≤ 32 = omega (arith, c.if-length-gt32.false) in (
      l.maximum,
      l.maximum_told,
      rw c.from.ensures (origin_begins _ _ _ _ _ c.in_ok-address.address c.in_ok-length.length c.in_ok-asn.asn c.in_ok-length.maximum c.in_ok-address.ensures l c.in_ok-behind_arrow.ensures c.in_ok-asn.ensures none short),
    )
