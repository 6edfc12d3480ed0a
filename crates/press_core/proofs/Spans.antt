-- The addresses of a prefix, and what holds them alone.
use Rattle.std.proofs.Common.{◌≡◌, ℕ, ◌+◌, ◌-◌, ◌^◌, ◌<◌, ◌≤◌, ◌==◌, ◌&&◌, Bool, true, false, cond, List, [], ◌∷◌, map, length, get_or, Option, Some, None, refl, sym, ap, ◌∙◌, arith, eqb-true}
use Rattle.std.proofs.lemmas.Bool.{and_parts, and_from, false≢true, eq-eqb}
use Rattle.std.proofs.lemmas.Nat.{pow_pos}
use Rattle.origins.specs.Prefix.{address_bits, IsPrefix, IsAddressOf}
use Rattle.origins.specs.declared.Prefix.{Prefix}
use Rattle.origins.specs.laws.RangeLaws.{shares, within, fits_size}
use Rattle.res_sets.specs.declared.numbers.Range.{Range}
use Rattle.cert_obj.specs.Values.{Sets}
use Rattle.issue_values.specs.Certificates.{prefix_span, prefix_sets}
use Rattle.press_core.specs.inner.Rows.{is_span, is_none, are_just, holds_just}

-- The greatest address of a prefix.
last-is : (v6 : Bool) (address len last : ℕ) → IsPrefix v6 address len → IsAddressOf v6 address len last → ((a : ℕ) → IsAddressOf v6 address len a → a ≤ last)
    → last ≡ address + (2 ^ (address_bits v6 - len) - 1)
last-is v6 address len last prefix member greatest =
    let s = 2 ^ (address_bits v6 - len) in
    let pos : 0 < s = pow_pos (address_bits v6 - len) in
    let fits = fits_size (address_bits v6) len address prefix.short prefix.fits prefix.no_host_bits in
    let below : last < address + s = within s address last pos prefix.no_host_bits member.shares in
    let top : IsAddressOf v6 address len (address + (s - 1)) = record {
      fits = omega arith;
      shares = shares s address (address + (s - 1)) pos prefix.no_host_bits (omega arith) (omega arith);
    } in
    let high : address + (s - 1) ≤ last = greatest (address + (s - 1)) top in
    omega arith

abbrev pair : ℕ → ℕ → ℕ × ℕ
pair a b = (a, b)

-- Its two ends.
pub span-is : (p : Prefix) (first last : ℕ) → IsPrefix p.v6 p.address p.length → first ≡ p.address → IsAddressOf p.v6 p.address p.length last
    → ((a : ℕ) → IsAddressOf p.v6 p.address p.length a → a ≤ last) → pair first last ≡ prefix_span p
span-is p first last prefix begins member greatest =
    ap (λ (a : ℕ). pair a last) begins ∙ ap (pair p.address) (last-is p.v6 p.address p.length last prefix member greatest)

-- ---- lists of ranges

pub one-span : (rs : List Range) (d : Range) (span : ℕ × ℕ) → length rs ≡ 1 → is_span (map (λ (r : Range). pair r.first r.last) rs) span ≡ (((get_or rs 0 d).first == span.0) && ((get_or rs 0 d).last == span.1))
one-span [] d span long = absurd (omega (arith, long))
one-span (r ∷ []) d span long = refl
one-span (r ∷ s ∷ rs) d span long = absurd (omega (arith, long))

pub other-span : (rs : List Range) (span : ℕ × ℕ) → (length rs == 1) ≡ false → is_span (map (λ (r : Range). pair r.first r.last) rs) span ≡ false
other-span [] span other = refl
other-span (r ∷ []) span other = absurd (false≢true (sym other))
other-span (r ∷ s ∷ rs) span other = refl

span-same : (spans : List (ℕ × ℕ)) (span : ℕ × ℕ) → is_span spans span ≡ true → spans ≡ span ∷ []
span-same [] span e = absurd cc
span-same (s ∷ []) span e =
    let two = and_parts (s.0 == span.0) (s.1 == span.1) e in
    let first : s.0 ≡ span.0 = eqb-true s.0 span.0 two.0 in
    let last : s.1 ≡ span.1 = eqb-true s.1 span.1 two.1 in
    λ i. (first i, last i) ∷ []
span-same (s ∷ t ∷ rest) span e = absurd cc

same-span : (spans : List (ℕ × ℕ)) (span : ℕ × ℕ) → spans ≡ span ∷ [] → is_span spans span ≡ true
same-span spans span e = ap (λ (l : List (ℕ × ℕ)). is_span l span) e ∙ and_from (span.0 == span.0) (span.1 == span.1) (eq-eqb span.0 span.0 refl) (eq-eqb span.1 span.1 refl)

none-same : (spans : List (ℕ × ℕ)) → is_none spans ≡ true → spans ≡ []
none-same [] e = refl
none-same (s ∷ rest) e = absurd cc

-- ---- what a certificate holds

just-same : (s : Sets) (p : Prefix) → are_just s p ≡ true → s ≡ prefix_sets p
just-same s p e = by p.v6 refl e
  where
    by : (b : Bool) → p.v6 ≡ b
        → (is_none s.asn && cond b (is_none s.v4) (is_span s.v4 (prefix_span p)) && cond b (is_span s.v6 (prefix_span p)) (is_none s.v6)) ≡ true
        → s ≡ prefix_sets p
    by true is h =
        let one = and_parts (is_none s.asn && is_none s.v4) (is_span s.v6 (prefix_span p)) h in
        let two = and_parts (is_none s.asn) (is_none s.v4) one.0 in
        let asn = none-same s.asn two.0 in
        let v4 = none-same s.v4 two.1 ∙ sym (ap (λ (b : Bool). cond b [] (prefix_span p ∷ [])) is) in
        let v6 = span-same s.v6 (prefix_span p) one.1 ∙ sym (ap (λ (b : Bool). cond b (prefix_span p ∷ []) []) is) in
        λ i. record { asn = asn i; v4 = v4 i; v6 = v6 i }
    by false is h =
        let one = and_parts (is_none s.asn && is_span s.v4 (prefix_span p)) (is_none s.v6) h in
        let two = and_parts (is_none s.asn) (is_span s.v4 (prefix_span p)) one.0 in
        let asn = none-same s.asn two.0 in
        let v4 = span-same s.v4 (prefix_span p) two.1 ∙ sym (ap (λ (b : Bool). cond b [] (prefix_span p ∷ [])) is) in
        let v6 = none-same s.v6 one.1 ∙ sym (ap (λ (b : Bool). cond b (prefix_span p ∷ []) []) is) in
        λ i. record { asn = asn i; v4 = v4 i; v6 = v6 i }

prefix-just : (p : Prefix) → are_just (prefix_sets p) p ≡ true
prefix-just p = by p.v6
  where
    by : (b : Bool) → (cond b (is_none (cond b [] (prefix_span p ∷ []))) (is_span (cond b [] (prefix_span p ∷ [])) (prefix_span p))
        && cond b (is_span (cond b (prefix_span p ∷ []) []) (prefix_span p)) (is_none (cond b (prefix_span p ∷ []) []))) ≡ true
    by true = same-span (prefix_span p ∷ []) (prefix_span p) refl
    by false = and_from _ true (same-span (prefix_span p ∷ []) (prefix_span p) refl) refl

pub held-just : (o : Option Sets) (p : Prefix) → holds_just o p ≡ true → o ≡ Some (prefix_sets p)
held-just None p e = absurd (false≢true e)
held-just (Some s) p e = ap (λ (x : Sets). Some x) (just-same s p e)

pub just-held : (o : Option Sets) (p : Prefix) → o ≡ Some (prefix_sets p) → holds_just o p ≡ true
just-held o p e = ap (λ (x : Option Sets). holds_just x p) e ∙ prefix-just p
