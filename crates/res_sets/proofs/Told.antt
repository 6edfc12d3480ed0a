-- What a prefix's length says is known of it as 64 bits tell it.
use Rattle.std.proofs.Common.{◌≡◌, ℕ, ◌-◌, ◌%◌, ◌^◌, ◌≤◌, List, Option, Some, None, MatchOption, Result, Ok, Err, refl, sym, ap, subst, ◌∙◌, arith}
use Rattle.std.specs.Option.{IsSomeAnd, ok_or}
use Rattle.ip_text.specs.Reader.{Reads}
use Rattle.ip_text.specs.laws.NumberLaws.{saturated_text}
use Rattle.ip_text.specs.Number.{IsDecimalText, IsSaturatedText}
use Rattle.res_sets.specs.declared.numbers.Range.{Range}
use Rattle.res_sets.specs.declared.prefixes.BlockFault.{BlockFault}
use Rattle.res_sets.specs.declared.prefixes.BlockFault.TheVariants.{BadNumber, BadRange, HostBits}
use Rattle.res_sets.specs.Prefixes.{IsPrefixRange, ReadsPrefix}

pub prefix_told : (Address : ℕ → Type 0) (bits address told : ℕ) (text : List ℕ) (r : Result Range BlockFault) → bits ≤ 128 → Address address → IsSaturatedText text told
    → ReadsPrefix bits (λ m. m ≡ address) (λ len. len ≡ told) r → ReadsPrefix bits Address (IsDecimalText text) r
prefix_told Address bits address told text (Ok range) small is is_told (first, (len, (length, prefix))) =
    let same : len ≡ is_told.number = omega (arith, prefix.short, length, is_told.value) in
    (subst Address (sym first) is, (is_told.number, (is_told.written, subst (λ k. IsPrefixRange bits k range) same prefix)))
prefix_told Address bits address told text (Err BadNumber) small is saturated none = absurd (none address told refl refl)
prefix_told Address bits address told text (Err BadRange) small is is_told (m, (len, (same, length, long))) =
    (address, (is_told.number, (is, is_told.written, omega (arith, long, length, is_told.value))))
prefix_told Address bits address told text (Err HostBits) small is is_told (m, (len, (same, length, short, host))) =
    let exact : len ≡ is_told.number = omega (arith, short, length, is_told.value) in (
      address,
      (
        is_told.number,
        (
          is,
          is_told.written,
          omega (arith, short, exact),
          λ none.
              host (ap (λ k. k % 2 ^ (bits - len)) same ∙ (ap (λ k. address % 2 ^ (bits - k)) exact ∙ none)),
        ),
      ),
    )

-- where no length is told there is no number
pub untold : (Address : ℕ → Type 0) (bits : ℕ) (text : List ℕ) (told : Option ℕ) (fault : BlockFault) → Reads (IsSaturatedText text) told → Err fault ≡ ok_or told BadNumber
    → ReadsPrefix bits Address (IsDecimalText text) (Err fault)
untold Address bits text None fault reads is =
    let same : fault ≡ BadNumber = cc in
    subst (λ f. ReadsPrefix bits Address (IsDecimalText text) (Err f)) (sym same) (λ m len _ written. reads _ (saturated_text text len written))
untold Address bits text (Some told) fault reads is = absurd cc

-- what a reader answered
pub reads_some : (Spells : ℕ → Type 0) (r : Option ℕ) (n : ℕ) → r ≡ Some n → Reads Spells r → Spells n
reads_some Spells r n is reads = subst (Reads Spells) is reads

-- a number that is carried over as it is
pub reads_mapped : (Spells : ℕ → Type 0) (r s : Option ℕ) → MatchOption r (s ≡ None) (λ m. IsSomeAnd s (λ n. n ≡ m)) → Reads Spells r → Reads Spells s
reads_mapped Spells None s is reads = subst (Reads Spells) (sym is) reads
reads_mapped Spells (Some m) None is reads = absurd is
reads_mapped Spells (Some m) (Some n) is reads = subst Spells (sym is) reads
