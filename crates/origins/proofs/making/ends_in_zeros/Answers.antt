use Rattle.std.proofs.Common.{◌≡◌, ℕ, ◌^◌, ◌<◌, ◌≤◌, ◌-◌, ◌*◌, ◌%◌, rules, inl, inr, ap, sym, arith}
use Rattle.std.proofs.Math.Nat.{mod-eq_of_lt}
use Rattle.std.proofs.Math.Pow.{pow_mono}
use Rattle.std.proofs.lemmas.Bool.{cases_lt}
use Rattle.std.proofs.lemmas.Nat.{and_mask}
use Rattle.std.specs.Int.Bits.{bit_and}
use Rattle.std.proofs.lemmas.Grind.{common_steps}
use Rattle.origins.proofs.making.ends_in_zeros.Goals as goal

-- An address is below a power of two that has more bits.
below_power : (address k r : ℕ) → r ≡ k → address < 2 ^ 128 → (r < 128 → ⊥) → address < 2 ^ k
below_power address k r e lt big =
    elim (cases_lt r 128) [
      | inl small ↦ absurd (big small)
      | inr le ↦ let all : 2 ^ 128 ≤ 2 ^ r = pow_mono le in omega (arith, ap (λ (n : ℕ). 2 ^ n) e)
    ]

-- One, shifted by fewer places than there are.
power : (k block : ℕ) → k < 128 → block ≡ (1 * 2 ^ k) % 2 ^ 128 → block ≡ 2 ^ k
power k block small is = grind (arith, common_steps)

-- What is masked is the remainder.
masked : (address block k : ℕ) → block ≡ 2 ^ k → bit_and address (block - 1) ≡ address % 2 ^ k
masked address block k e = rw e (and_mask address k)

pub returns-in-None : goal.returns-in-None
returns-in-None c =
    let same : c.args.address % 2 ^ c.args.count ≡ c.args.address =
    mod-eq_of_lt (below_power c.args.address c.args.count c.from.result c.from.ensures (omega arith) c.in-None.ensures) in
    rw same (search rules)

pub returns-in-Some : goal.returns-in-Some
returns-in-Some c =
    let size : c.in-Some.block ≡ 2 ^ c.from.result = power c.from.result c.in-Some.block c.in-Some.ensures.0 c.in-Some.ensures.1 in
    let block : c.in-Some.block ≡ 2 ^ c.args.count = rw (sym c.from.ensures) size in
    rw (masked c.args.address c.in-Some.block c.args.count block) (search rules)
