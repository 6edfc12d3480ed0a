-- The law of prefixes.
use Rattle.std.proofs.Common.{◌≡◌, ℕ, ◌≤◌, Bool, true, false, cond, Some, None, List, ◌++◌, length, Ok, Err, refl, sym, ap, subst, ◌∙◌, arith}
use Rattle.origins.specs.Prefix.{address_bits, IsPrefix}
use Rattle.der.specs.declared.shape_fault.ShapeFault.{ShapeFault}
use Rattle.der.specs.Part.{Place, IsPlace}
use Rattle.der.specs.Form.{Begins, IsTold, IsBehind, IsFront}
use Rattle.der.specs.laws.FormLaws.{told-fewer}
use Rattle.der.specs.laws.ValueLaws.{IsBijection, mapped_front-law}
use Rattle.res_ext.specs.Prefixes.{IsAddressSize}
use Rattle.res_ext.specs.Formats.{leading_good, leading}
use Rattle.res_ext.specs.laws.FormatLaws.{leading-law, v4-size, v6-size}
use Rattle.payloads.specs.Prefixes.{prefix_from, leading_of, IsPrefixOf, leading_prefix, prefix}

pub address_size : (v6 : Bool) → IsAddressSize (address_bits v6)
address_size true = v6-size
address_size false = v4-size

-- What a test has let through.
pub let_through : {A : Type 0} (b : Bool) (x y : A) → cond b (Some x) None ≡ Some y
    → (b ≡ true) × (x ≡ y)
let_through true x y e = (refl, cc)
let_through false x y e = absurd cc

prefix_kinds : (v6 : Bool)
    → IsBijection (leading_good (address_bits v6)) (prefix_from v6) leading_of (IsPrefixOf v6)
prefix_kinds v6 = record { back = back; there = there }
  where
    good_bits : (v6 : Bool) (address len : ℕ) → IsPrefix v6 address len
        → leading_good (address_bits v6) (len, address)
    good_bits v6 address len is = (is.short, is.fits, is.no_host_bits)

    back : (y : Bool × ℕ × ℕ) → IsPrefixOf v6 y
        → leading_good (address_bits v6) (leading_of y) × (prefix_from v6 (leading_of y) ≡ y)
    back y good = (
      subst (λ (b : Bool). leading_good (address_bits b) (y.2, y.1)) good.0
          (good_bits y.0 y.1 y.2 good.1),
      λ i. (sym good.0 i, y.1, y.2),
    )

    there : (x : ℕ × ℕ) → leading_good (address_bits v6) x
        → IsPrefixOf v6 (prefix_from v6 x) × (leading_of (prefix_from v6 x) ≡ x)
    there x good = ((refl, record { fits = good.1; short = good.0; no_host_bits = good.2 }), refl)

leading_prefix-law : (v6 : Bool) → IsFront (leading_prefix v6)
leading_prefix-law v6 =
    mapped_front-law (leading (address_bits v6)) (prefix_from v6) leading_of (IsPrefixOf v6)
    (leading-law (address_bits v6) (address_size v6)) (prefix_kinds v6)

one_spelling : (v6 : Bool) (x : Bool × ℕ × ℕ) → IsPrefixOf v6 x
    → (prefix v6).spelling x ≡ (leading_prefix v6).spelling x
one_spelling v6 x good = ap (λ (b : Bool). (leading (address_bits b)).spelling (leading_of x))
    good.0

pub prefix-law : (v6 : Bool) → IsFront (prefix v6)
prefix-law v6 = record { again = again; taken = taken; fault = fault; some = some }
  where
    again : (x : Bool × ℕ × ℕ) (p q : Place) → IsPrefixOf v6 x → IsPlace p
        → IsBehind ((prefix v6).spelling x) p q
        → (prefix v6).read p ≡ Ok (x, q)
    again x p q good is b =
        (leading_prefix-law v6).again x p q good is
        (subst (λ (l : List ℕ). IsBehind l p q) (one_spelling v6 x good) b)

    taken : (x : Bool × ℕ × ℕ) (p q : Place) → IsPlace p → (prefix v6).read p ≡ Ok (x, q)
        → IsPrefixOf v6 x × IsBehind ((prefix v6).spelling x) p q
    taken x p q is e =
        let t = (leading_prefix-law v6).taken x p q is e in
        (t.0, subst (λ (l : List ℕ). IsBehind l p q) (sym (one_spelling v6 x t.0)) t.1)

    begun : (bytes : List ℕ) → Begins (prefix v6) bytes → Begins (leading_prefix v6) bytes
    begun bytes w = record {
      value = w.value;
      rest = w.rest;
      good = w.good;
      spelled = w.spelled ∙ ap (λ (l : List ℕ). l ++ w.rest) (one_spelling v6 w.value w.good);
    }

    fault : (e : ShapeFault) (p : Place) → IsPlace p → (prefix v6).read p ≡ Err e
        → IsTold (Begins (prefix v6)) p e
    fault e p is h = told-fewer p e (λ bytes input w. begun bytes w)
        ((leading_prefix-law v6).fault e p is h)

    some : (x : Bool × ℕ × ℕ) → IsPrefixOf v6 x → 1 ≤ length ((prefix v6).spelling x)
    some x good =
        subst (λ (l : List ℕ). 1 ≤ length l) (sym (one_spelling v6 x good))
        ((leading_prefix-law v6).some x good)
