-- Resources inside others, by their numbers.
use Rattle.std.proofs.Common.{◌≡◌, ℕ, ◌+◌, ◌-◌, ◌/◌, ◌%◌, ◌^◌, ◌<◌, ◌≤◌, Bool, true, false, cond, ◌&&◌, ◌||◌, Some, List, [], ◌∷◌, map, refl, sym, ap, subst, ◌∙◌, arith}
use Rattle.std.specs.Prelude.{◌↔◌, nat_le}
use Rattle.std.proofs.lemmas.Bool.{and_from, le-leb}
use Rattle.std.proofs.lemmas.Nat.{pow_pos}
use Rattle.origins.specs.declared.Prefix.{Prefix}
use Rattle.origins.specs.declared.Origin.{Origin}
use Rattle.origins.specs.Prefix.{address_bits}
use Rattle.res_sets.specs.declared.numbers.Family.{Family}
use Rattle.res_sets.specs.declared.numbers.Family.TheVariants.{Asn, V4, V6}
use Rattle.res_sets.specs.declared.numbers.Range.{Range}
use Rattle.res_sets.specs.declared.holdings.Resources.{Resources}
use Rattle.res_sets.specs.Numbers.{any_spans}
use Rattle.res_sets.specs.Triples.{has}
use Rattle.res_sets.specs.laws.SetLaws.{room_above}
use Rattle.res_ext.specs.Formats.{span_of}
use Rattle.entitle.specs.Owed.{family_of, HasEach}
use Rattle.cert_obj.specs.Values.{IsListOf, sets_of}
use Rattle.rp_rules.specs.Holdings.{Span, has_span, has_number, is_inside, are_inside, have_prefixes}
use Rattle.rp_rules.specs.Certificates.{is_held_under}
use Rattle.issue_values.specs.Certificates.{prefix_sets, prefix_span}
use Rattle.issue_values.specs.Bodies.{roa_entry}
use Rattle.editions.proofs.WalkLemmas.Canonical.{AreListed}
use Rattle.origins.specs.laws.RangeLaws.{shares}

-- What rp_rules says of spans and numbers, and of sets.
abbrev pub HaveSpans : Type 0
HaveSpans = (family : Family) (set : List Span) (span : Span) → IsListOf family set
    → span.0 ≤ span.1
    → (has_span set span ≡ true)
    ↔ ((n : ℕ) → span.0 ≤ n → n ≤ span.1 → has_number set n ≡ true)

abbrev pub AreInsides : Type 0
AreInsides = (family : Family) (set other : List Span) → IsListOf family set → IsListOf family other
    → (is_inside set other ≡ true)
    ↔ ((n : ℕ) → has_number set n ≡ true → has_number other n ≡ true)

number-in : (ranges : List Range) (n : ℕ) → has_number (map span_of ranges) n ≡ any_spans ranges n
number-in [] n = refl
number-in (range ∷ ranges) n =
    ap (λ (b : Bool). (nat_le range.first n && nat_le n range.last) || b) (number-in ranges n)

-- ---- a set inside another

pub set-inside : AreInsides → (one other : Resources) → AreListed (Some (sets_of one))
    → AreListed (Some (sets_of other))
    → ((family : Family) (n : ℕ) → has one family n ≡ true → has other family n ≡ true)
    → is_held_under (sets_of other) (Some (sets_of one)) ≡ true
set-inside insides one other lists others follows =
    and_from (is_inside (sets_of one).asn (sets_of other).asn && is_inside (sets_of one).v4 (sets_of other).v4)
    (is_inside (sets_of one).v6 (sets_of other).v6)
    (and_from (is_inside (sets_of one).asn (sets_of other).asn)
    (is_inside (sets_of one).v4 (sets_of other).v4)
    ((insides Asn (sets_of one).asn (sets_of other).asn lists.0 others.0).1 (λ n h.
    number-in other.asn.ranges n ∙ follows Asn n (sym (number-in one.asn.ranges n) ∙ h)))
    ((insides V4 (sets_of one).v4 (sets_of other).v4 lists.1.0 others.1.0).1 (λ n h.
    number-in other.v4.ranges n ∙ follows V4 n (sym (number-in one.v4.ranges n) ∙ h))))
    ((insides V6 (sets_of one).v6 (sets_of other).v6 lists.1.1 others.1.1).1 (λ n h.
    number-in other.v6.ranges n ∙ follows V6 n (sym (number-in one.v6.ranges n) ∙ h)))

-- ---- the prefix of an origin

-- A number of the prefix's range is one of its addresses.
address-of : (bits len address n : ℕ) → len ≤ bits → address < 2 ^ bits → address % 2 ^ (bits - len) ≡ 0
    → address ≤ n → n ≤ address + (2 ^ (bits - len) - 1)
    → (n < 2 ^ bits) × (n / 2 ^ (bits - len) ≡ address / 2 ^ (bits - len))
address-of bits len address n short fits bare low high =
    let pos : 0 < 2 ^ (bits - len) = pow_pos (bits - len) in
    let room : address + 2 ^ (bits - len) ≤ 2 ^ bits =
    room_above address (bits - len) bits (omega arith) fits bare in
    let less : n < address + 2 ^ (bits - len) = omega (arith, pos, high) in
    (omega (arith, room, less), shares (2 ^ (bits - len)) address n pos bare low less)

in-order : (p : Prefix) → (prefix_span p).0 ≤ (prefix_span p).1
in-order p = omega arith

module _ (spans : HaveSpans) (set : Resources) (lists : AreListed (Some (sets_of set)))
    (p : Prefix) (each : HasEach (has set) p) where
  held : (n : ℕ) → (prefix_span p).0 ≤ n → n ≤ (prefix_span p).1 → has set (family_of p) n ≡ true
  held n low high =
      let a = address-of (address_bits p.v6) p.length p.address n p.prefix.short p.prefix.fits
      p.prefix.no_host_bits low high in
      each n (record { fits = a.0; shares = a.1 })

  of-four : p.v6 ≡ false → has_span (sets_of set).v4 (prefix_span p) ≡ true
  of-four four =
      (spans V4 (sets_of set).v4 (prefix_span p) lists.1.0 (in-order p)).1 (λ n low high.
      number-in set.v4.ranges n
      ∙ subst (λ (b : Bool). has set (cond b V6 V4) n ≡ true) four (held n low high))

  of-six : p.v6 ≡ true → has_span (sets_of set).v6 (prefix_span p) ≡ true
  of-six six =
      (spans V6 (sets_of set).v6 (prefix_span p) lists.1.1 (in-order p)).1 (λ n low high.
      number-in set.v6.ranges n
      ∙ subst (λ (b : Bool). has set (cond b V6 V4) n ≡ true) six (held n low high))

  inside-by : (b : Bool) (span : Span) → (b ≡ false → has_span (sets_of set).v4 span ≡ true)
      → (b ≡ true → has_span (sets_of set).v6 span ≡ true)
      → are_inside (record {
        asn = [];
        v4 = cond b [] (span ∷ []);
        v6 = cond b (span ∷ []) [];
      }) (sets_of set) ≡ true
  inside-by true span four six = and_from (has_span (sets_of set).v6 span) true (six refl) refl
  inside-by false span four six =
      and_from (has_span (sets_of set).v4 span && true) true
      (and_from (has_span (sets_of set).v4 span) true (four refl) refl) refl

  -- Its addresses are inside the set.
  pub prefix-inside : is_held_under (sets_of set) (Some (prefix_sets p)) ≡ true
  prefix-inside = inside-by p.v6 (prefix_span p) of-four of-six

own-span : (span : Span) → has_span (span ∷ []) span ≡ true
own-span span =
    let low : nat_le span.0 span.0 ≡ true = le-leb span.0 span.0 (omega arith) in
    let high : nat_le span.1 span.1 ≡ true = le-leb span.1 span.1 (omega arith) in
    ap (λ (b : Bool). b || false) (and_from (nat_le span.0 span.0) (nat_le span.1 span.1) low high)

own-by : (b : Bool) (span : Span)
    → has_span (cond b (cond b (span ∷ []) []) (cond b [] (span ∷ []))) span ≡ true
own-by true span = own-span span
own-by false span = own-span span

-- The addresses of the ROA's certificate have the prefix of its one entry.
pub has-prefix : (origin : Origin)
    → have_prefixes (prefix_sets origin.prefix) (roa_entry origin ∷ []) ≡ true
has-prefix origin =
    and_from _ true (own-by origin.prefix.v6 (prefix_span origin.prefix)) refl
