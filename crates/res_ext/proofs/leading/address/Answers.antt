use Rattle.std.proofs.Common.{◌∙◌, ◌-◌, ◌*◌, ◌%◌, ◌^◌, ◌<◌, ℕ, ap, length, subst, arith}
use Rattle.std.proofs.lemmas.Int.Digits.{number_lt}
use Rattle.std.proofs.lemmas.Nat.{shl_whole}
use Rattle.res_ext.specs.laws.ByteLaws.{number, below}
use Rattle.res_ext.specs.laws.LeadingLaws.{pow256}
use Rattle.res_ext.proofs.leading.address.Goals as goal

pub returns-in_default : goal.returns-in_default
returns-in_default c =
    let bytes = c.args.bytes.now in
    let k = length bytes in
    let e = c.args.bits - 8 * k in
    let small : number bytes < 2 ^ (8 * k) = subst (λ (x : ℕ). number bytes < x) (pow256 k) (number_lt 256 bytes (below bytes (λ i. omega (arith, c.type_inv.bytes i)))) in
    ap (λ (n : ℕ). n * 2 ^ e % 2 ^ 128) c.number.ensures ∙ shl_whole (number bytes) (8 * k) e 128 small (omega (arith, c.requires.fits, c.requires.short))
