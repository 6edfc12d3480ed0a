-- The prefix that a range is.
use Rattle.std.proofs.Common.{◌≡◌, ℕ, zero, suc, ◌+◌, ◌-◌, ◌%◌, ◌^◌, ◌<◌, ◌≤◌, Bool, true, cond, eqb, Option, Some, None, refl, sym, ap, subst, ◌∙◌, arith, inl, inr, ◌⊎◌}
use Rattle.std.specs.Prelude.{MatchOption}
use Rattle.std.proofs.lemmas.Bool.{cases_lt, cases_Bool, eqb-true, eq-eqb, and_parts, and_from}
use Rattle.std.proofs.lemmas.Nat.{pow_below}
use Rattle.res_sets.specs.declared.numbers.Range.{Range}
use Rattle.res_sets.specs.Prefixes.{IsPrefixRange, is_prefix, prefix_up_to, span_length, prefix_of}

is_prefix-true : (bits len : ℕ) (r : Range) → IsPrefixRange bits len r → is_prefix bits len (r.first, r.last) ≡ true
is_prefix-true bits len r prefix = and_from _ _ (eq-eqb _ 0 prefix.no_host_bits) (eq-eqb _ _ prefix.size)

is_prefix-found : (bits len : ℕ) (r : Range) → len ≤ bits → is_prefix bits len (r.first, r.last) ≡ true → IsPrefixRange bits len r
is_prefix-found bits len r short e =
    let p = and_parts (eqb (r.first % 2 ^ (bits - len)) 0) (eqb (r.last + 1) (r.first + 2 ^ (bits - len))) e in
    record { short = short; no_host_bits = eqb-true _ 0 p.0; size = eqb-true _ _ p.1 }

-- a range is a prefix of one length
pub one_length : (bits a b : ℕ) (r : Range) → IsPrefixRange bits a r → IsPrefixRange bits b r → a ≡ b
one_length bits a b r p q =
    let size_p = p.size in
    let size_q = q.size in
    let short_p = p.short in
    let short_q = q.short in
    let not_less : (x y : ℕ) → 2 ^ x ≡ 2 ^ y → (x < y) → ⊥ = λ x y same less. let more = pow_below x y less in omega (arith, same, more) in
    let powers : 2 ^ (bits - a) ≡ 2 ^ (bits - b) = omega (arith, size_p, size_q) in
    elim (cases_lt (bits - a) (bits - b)) [
      | inl less ↦ absurd (not_less (bits - a) (bits - b) powers less)
      | inr ge ↦ elim (cases_lt (bits - b) (bits - a)) [
        | inl less ↦ absurd (not_less (bits - b) (bits - a) (sym powers) less)
        | inr le ↦ omega (arith, ge, le, short_p, short_q)
      ]
    ]

up_to_some : (bits k len : ℕ) (r : Range) → k ≤ bits → len ≤ k → IsPrefixRange bits len r → prefix_up_to bits k (r.first, r.last) ≡ Some len
up_to_some bits zero len r within le prefix =
    let same : zero ≡ len = omega (arith, le) in
    let test : is_prefix bits zero (r.first, r.last) ≡ true = is_prefix-true bits zero r (subst (λ (x : ℕ). IsPrefixRange bits x r) (sym same) prefix) in
    ap (λ (b : Bool). cond b (Some zero) None) test ∙ ap (λ (x : ℕ). Some x) same
up_to_some bits (suc k) len r within le prefix =
    elim (cases_Bool (is_prefix bits (suc k) (r.first, r.last))) [
      | inl test ↦ ap (λ (b : Bool). cond b (Some (suc k)) (prefix_up_to bits k (r.first, r.last))) test ∙ ap (λ (x : ℕ). Some x) (one_length bits (suc k) len r (is_prefix-found bits (suc k) r within test) prefix)
      | inr none ↦
          let less : len ≤ k = elim (cases_lt k len) [
            | inl more ↦
                let same : len ≡ suc k = omega (arith, more, le) in
                let test : is_prefix bits (suc k) (r.first, r.last) ≡ true = is_prefix-true bits (suc k) r (subst (λ (x : ℕ). IsPrefixRange bits x r) same prefix) in
                absurd cc
            | inr le ↦ le
          ] in
          ap (λ (b : Bool). cond b (Some (suc k)) (prefix_up_to bits k (r.first, r.last))) none ∙ up_to_some bits k len r (omega arith) less prefix
    ]

-- what the search came to
record Found (bits k : ℕ) (r : Range) (found : Option ℕ) : Type 0 where
  some : (len : ℕ) → found ≡ Some len → IsPrefixRange bits len r
  none : found ≡ None → (len : ℕ) → len ≤ k → IsPrefixRange bits len r → ⊥

some_apart : (len : ℕ) → Some len ≡ None → ⊥
some_apart len e = cc

some_same : (x y : ℕ) → Some x ≡ Some y → x ≡ y
some_same x y e = cc

none_apart : (len : ℕ) → None ≡ Some len → ⊥
none_apart len e = cc

up_to_found : (bits k : ℕ) (r : Range) → k ≤ bits → Found bits k r (prefix_up_to bits k (r.first, r.last))
up_to_found bits zero r within =
    elim (cases_Bool (is_prefix bits zero (r.first, r.last))) [
      | inl test ↦ subst (λ (b : Bool). Found bits zero r (cond b (Some zero) None)) (sym test) (record {
        some = λ len e. subst (λ (x : ℕ). IsPrefixRange bits x r) (some_same zero len e) (is_prefix-found bits zero r within test);
        none = λ e. absurd (some_apart zero e);
      })
      | inr lacks ↦ subst (λ (b : Bool). Found bits zero r (cond b (Some zero) None)) (sym lacks) (record {
        some = λ len e. absurd (none_apart len e);
        none = λ e len le prefix.
            let same : len ≡ zero = omega (arith, le) in
            let test : is_prefix bits zero (r.first, r.last) ≡ true = is_prefix-true bits zero r (subst (λ (x : ℕ). IsPrefixRange bits x r) same prefix) in
            cc;
      })
    ]
up_to_found bits (suc k) r within =
    let rest = up_to_found bits k r (omega arith) in
    elim (cases_Bool (is_prefix bits (suc k) (r.first, r.last))) [
      | inl test ↦ subst (λ (b : Bool). Found bits (suc k) r (cond b (Some (suc k)) (prefix_up_to bits k (r.first, r.last)))) (sym test) (record {
        some = λ len e. subst (λ (x : ℕ). IsPrefixRange bits x r) (some_same (suc k) len e) (is_prefix-found bits (suc k) r within test);
        none = λ e. absurd (some_apart (suc k) e);
      })
      | inr lacks ↦ subst (λ (b : Bool). Found bits (suc k) r (cond b (Some (suc k)) (prefix_up_to bits k (r.first, r.last)))) (sym lacks) (record {
        some = λ len e. rest.some len e;
        none = λ e len le prefix.
            elim (cases_lt k len) [
              | inl more ↦
                  let same : len ≡ suc k = omega (arith, more, le) in
                  let test : is_prefix bits (suc k) (r.first, r.last) ≡ true = is_prefix-true bits (suc k) r (subst (λ (x : ℕ). IsPrefixRange bits x r) same prefix) in
                  cc
              | inr less ↦ rest.none e len less prefix
            ];
      })
    ]

pub prefix_of-some : (bits len : ℕ) (r : Range) → IsPrefixRange bits len r → prefix_of bits r ≡ Some len
unfolding span_length
prefix_of-some bits len r prefix = up_to_some bits bits len r (omega arith) prefix.short prefix

pub prefix_of-found : (bits len : ℕ) (r : Range) → prefix_of bits r ≡ Some len → IsPrefixRange bits len r
unfolding span_length
prefix_of-found bits len r e = (up_to_found bits bits r (omega arith)).some len e

pub prefix_of-none : (bits : ℕ) (r : Range) → prefix_of bits r ≡ None → (len : ℕ) → IsPrefixRange bits len r → ⊥
unfolding span_length
prefix_of-none bits r e len prefix = (up_to_found bits bits r (omega arith)).none e len prefix.short prefix

-- It is a prefix, or not.
pub prefix_cases : (bits : ℕ) (r : Range) → ((len : ℕ) × (prefix_of bits r ≡ Some len)) ⊎ (prefix_of bits r ≡ None)
prefix_cases bits r = cases (prefix_of bits r)
  where
    cases : (o : Option ℕ) → ((len : ℕ) × (o ≡ Some len)) ⊎ (o ≡ None)
    cases (Some len) = inl (len, refl)
    cases None = inr refl

pub none-prefix_of : (bits : ℕ) (r : Range) → ((len : ℕ) → IsPrefixRange bits len r → ⊥) → prefix_of bits r ≡ None
none-prefix_of bits r none = elim (prefix_cases bits r) [ inl found ↦ absurd (none found.0 (prefix_of-found bits found.0 r found.1)) | inr e ↦ e ]

pub no_range : (r : Range) → None ≡ Some r → ⊥
no_range r e = cc

pub same_some : (r s : Range) → Some r ≡ Some s → r ≡ s
same_some r s e = cc

-- ---- the same of the ends of a range

abbrev pub range_of : (span : ℕ × ℕ) → span.0 ≤ span.1 → Range
range_of span ordered = record { first = span.0; last = span.1; ordered = ordered }

pub span_length-some : (bits len : ℕ) (span : ℕ × ℕ) (ordered : span.0 ≤ span.1) → IsPrefixRange bits len (range_of span ordered) → span_length bits span ≡ Some len
span_length-some bits len span ordered prefix = prefix_of-some bits len (range_of span ordered) prefix

pub span_length-found : (bits len : ℕ) (span : ℕ × ℕ) (ordered : span.0 ≤ span.1) → span_length bits span ≡ Some len → IsPrefixRange bits len (range_of span ordered)
span_length-found bits len span ordered e = prefix_of-found bits len (range_of span ordered) e

-- What a search for a prefix's length came to.
pub length_told : (bits : ℕ) (r : Range) (o : Option ℕ) → MatchOption o ((len : ℕ) → IsPrefixRange bits len r → ⊥) (λ len. IsPrefixRange bits len r) → o ≡ span_length bits (r.first, r.last)
length_told bits r None none = sym (none-prefix_of bits r none)
length_told bits r (Some len) prefix = sym (prefix_of-some bits len r prefix)
