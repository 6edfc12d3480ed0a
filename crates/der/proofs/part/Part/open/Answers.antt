use Rattle.std.proofs.Common.{arith}
use Rattle.der.specs.laws.PlaceLaws.{AreParts, element-parts}
use Rattle.der.proofs.part.Part.open.Goals as goal

parts : (c : goal.In-Ok) → AreParts c.args.self.bytes.now c.in-Ok.content.now c.in-Ok.rest.now
parts c = element-parts c.args.self.at c.args.tag c.args.self.bytes.now c.in-Ok.content.now c.in-Ok.rest.now c.args.self.are_bytes (c.in-Ok.ensures)

pub overflow_sub-end : goal.overflow_sub-end
overflow_sub-end c = omega (arith, (parts c).total)

pub overflow_add-end : goal.overflow_add-end
overflow_add-end c = omega (arith, (parts c).total, c.args.self.ends, c.args.self.fits)

pub overflow_sub-inside : goal.overflow_sub-inside
overflow_sub-inside c = omega (arith, (parts c).total)

pub overflow_sub-inside-2 : goal.overflow_sub-inside-2
overflow_sub-inside-2 c = omega (arith, (parts c).total)

pub invariant_of-inside : goal.invariant_of-inside
invariant_of-inside c =
    let p = parts c in
    record { ends = omega arith; fits = omega (arith, c.args.self.ends, c.args.self.fits); short = p.small; are_bytes = p.content_bytes }

pub invariant_of-behind : goal.invariant_of-behind
invariant_of-behind c =
    let p = element-parts c.args.self.at c.args.tag c.args.self.bytes.now c.in-Ok.content.now c.in-Ok.rest.now c.args.self.are_bytes (c.in-Ok.ensures) in
    record { ends = omega (arith, c.args.self.ends); fits = c.args.self.fits; short = omega (arith, c.args.self.short); are_bytes = p.rest_bytes }
