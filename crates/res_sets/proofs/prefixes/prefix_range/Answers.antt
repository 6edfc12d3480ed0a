use Rattle.std.proofs.Common.{◌-◌, refl, sym, ◌∙◌, arith}
use Rattle.std.proofs.Math.Nat.{pow-le-pow_right}
use Rattle.res_sets.proofs.Masks.{masked, room_above, IsPrefixRange-from}
use Rattle.res_sets.proofs.prefixes.prefix_range.Goals as goal

pub returns-then-address-host-ne0 : goal.returns-then-address-host-ne0
returns-then-address-host-ne0 c =
    (c.args.address, (c.args.length, (refl, refl, (omega (arith, c.if-length-from.false, c.from.ensures)), λ none. c.if-address-host-ne0.true (masked c.args.address c.ones-host.result (c.args.bits - c.args.length) c.ones-host.ensures ∙ none))))

pub overflow_add-result : goal.overflow_add-result
overflow_add-result c =
    let none = sym (masked c.args.address c.ones-host.result (c.args.bits - c.args.length) c.ones-host.ensures) ∙ c.if-address-host-ne0.false in
    let room = room_above c.args.address (c.args.bits - c.args.length) c.args.bits (omega arith) c.requires.fits none in
    let top = pow-le-pow_right {n = 2} (omega arith) {i = c.args.bits} {j = 128} c.requires.short in
    omega (arith, room, top, c.ones-host.ensures)

pub returns : goal.returns
returns c =
    (refl, (c.args.length, (refl, IsPrefixRange-from c.args.bits c.args.length c.args.address c.ones-host.result _ refl refl (omega (arith, c.if-length-from.false, c.from.ensures)) c.ones-host.ensures c.if-address-host-ne0.false)))
