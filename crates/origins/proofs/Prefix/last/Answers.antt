use Rattle.std.proofs.Common.{◌≡◌, ◌+◌, ◌-◌, ◌^◌, arith}
use Rattle.std.proofs.lemmas.Nat.{pow_pos}
use Rattle.origins.specs.Prefix.{address_bits}
use Rattle.origins.proofs.RangeLemmas.{IsLast, last_is, shifted, bits_fit}
use Rattle.origins.specs.laws.RangeLaws.{fits_size}
use Rattle.origins.proofs.Prefix.last.Goals as goal

sized : (c : goal.In-Some) → c.in-Some.size ≡ 2 ^ (address_bits c.args.self.now.v6 - c.args.self.now.length)
sized c = shifted c.from.result _ _ _ (omega (arith, c.from.ensures, c.address_bits.ensures)) c.in-Some.ensures.0 c.in-Some.ensures.1

found : (c : goal.In-Some) → IsLast c.args.self.now.v6 c.args.self.now.address c.args.self.now.length (c.args.self.now.address + (c.in-Some.size - 1))
found c =
    let p = c.args.self.now.prefix in
    let is = sized c in
    let pos = pow_pos (address_bits c.args.self.now.v6 - c.args.self.now.length) in
    last_is _ _ _ _ p (omega arith)

pub overflow_add-result : goal.overflow_add-result
overflow_add-result c =
    let p = c.args.self.now.prefix in
    let is = sized c in
    let pos = pow_pos (address_bits c.args.self.now.v6 - c.args.self.now.length) in
    let room = fits_size _ _ _ p.short p.fits p.no_host_bits in
    let wide = bits_fit c.args.self.now.v6 in
    omega arith

pub returns-in-Some-clause-member : goal.returns-in-Some-clause-member
returns-in-Some-clause-member c = (found c).member

pub returns-in-Some-clause-between : goal.returns-in-Some-clause-between
returns-in-Some-clause-between c = (found c).between
