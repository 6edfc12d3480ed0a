-- What is printed of an origin is in the grammar.
use Rattle.std.proofs.Common.{◌≡◌, ℕ, ◌^◌, ◌<◌, ◌≤◌, Bool, true, false, cond, ◌==◌, List, [], ◌∷◌, ◌++◌, Some, None, unwrap_or, decimal, refl, sym, subst, inl, arith, eqb-true, append-nil, append_assoc}
use Rattle.ip_text.specs.Number.{IsDecimalText}
use Rattle.ip_text.specs.laws.NumberLaws.{decimal_text}
use Rattle.ip_text.specs.laws.Ipv6Laws.{own_ipv6_text}
use Rattle.origins.specs.Prefix.{address_bits}
use Rattle.origins.specs.Text.{Parts, IsAddressText, IsLengthsText, IsOriginText}
use Rattle.origins.specs.Origin.{SpellsOrigin, address_text, maximum_text, origin_text}
use Rattle.origins.specs.declared.Origin.{Origin}

printed_lengths : (len max : ℕ) (b : Bool) → len < 2 ^ 32 → max < 2 ^ 32
    → IsLengthsText (decimal len ++ cond b [] ((45 ∷ []) ++ decimal max)) len (cond b None (Some max))
printed_lengths len max true fits fits' = subst (λ t. IsDecimalText t len) (sym (append-nil (decimal len))) (decimal_text len (omega arith))
printed_lengths len max false fits fits' =
    (decimal len, decimal max, sym (append_assoc (decimal len) (45 ∷ []) (decimal max)), decimal_text len (omega arith), decimal_text max (omega arith))

kept_maximum : (len max : ℕ) (b : Bool) → (max == len) ≡ b → unwrap_or (cond b None (Some max)) len ≡ max
kept_maximum len max true e = sym (eqb-true max len e)
kept_maximum len max false e = refl

address_fits : (v6 : Bool) (address : ℕ) → address < 2 ^ address_bits v6 → IsAddressText (address_text v6 address) v6 address
address_fits false address fits = (fits, refl)
address_fits true address fits = own_ipv6_text address fits

short_fits : (v6 : Bool) (n : ℕ) → n ≤ address_bits v6 → n < 2 ^ 32
short_fits false n h = omega arith
short_fits true n h = omega arith

-- what a text says of an origin
parts_of_origin : Origin → Parts
parts_of_origin o = record {
  v6 = o.prefix.v6;
  address = o.prefix.address;
  len = o.prefix.length;
  maximum = cond (o.max == o.prefix.length) None (Some o.max);
  asn = o.asn;
}

respelled : (a l m n : List ℕ) → a ++ (47 ∷ []) ++ l ++ m ++ (32 ∷ 61 ∷ 62 ∷ 32 ∷ []) ++ n
    ≡ (a ++ (47 ∷ []) ++ (l ++ m)) ++ (32 ∷ []) ++ (61 ∷ 62 ∷ []) ++ (32 ∷ []) ++ n
respelled a l m n = simp append_assoc

printed_text : (o : Origin) → o.asn < 2 ^ 32 → IsOriginText (origin_text o) (parts_of_origin o)
unfolding parts_of_origin
printed_text o fits =
    let address = address_text o.prefix.v6 o.prefix.address in
    let maximum = maximum_text o.prefix.length o.max in
    record {
      prefix_text = address ++ (47 ∷ []) ++ (decimal o.prefix.length ++ maximum);
      blanks_before = 32 ∷ [];
      blanks_after = 32 ∷ [];
      asn_text = decimal o.asn;
      spelled = respelled address (decimal o.prefix.length) maximum (decimal o.asn);
      prefix_is = record {
        address_text = address;
        lengths_text = decimal o.prefix.length ++ maximum;
        spelled = refl;
        address_is = address_fits _ _ o.prefix.prefix.fits;
        lengths_are = printed_lengths _ _ _ (short_fits o.prefix.v6 _ o.prefix.prefix.short) (short_fits o.prefix.v6 _ o.maximum.at_most);
        short = o.prefix.prefix.short;
      };
      before = (inl refl, tt);
      after = (inl refl, tt);
      asn_is = record { fits = fits; spelled = inl (decimal_text o.asn (omega arith)) };
    }

pub spells_own_text : (o : Origin) → o.asn < 2 ^ 32 → SpellsOrigin (origin_text o) o
unfolding parts_of_origin
spells_own_text o fits =
    let kept = kept_maximum o.prefix.length o.max (o.max == o.prefix.length) refl in (
      parts_of_origin o,
      printed_text o fits,
      (
        o.prefix.prefix.no_host_bits,
        rw kept o.maximum,
        record { v6 = refl; address = refl; len = refl; max = sym kept; asn = refl },
      ),
    )
