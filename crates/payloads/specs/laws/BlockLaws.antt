-- The laws of the lists of families, and of bodies of ROAs.
use Rattle.std.proofs.Common.{◌≡◌, ℕ, zero, suc, ◌^◌, ◌≤◌, Bool, true, false, cond, ◌&&◌, ◌||◌, Option, Some, None, List, [], ◌∷◌, ◌++◌, length, take, drop, refl, sym, ap, subst, ◌∙◌, arith}
use Rattle.std.proofs.lemmas.Bool.{lt-ltb, ltb-true, and_parts}
use Rattle.std.proofs.lemmas.List.{append-nil, take-append-drop}
use Rattle.der.specs.Tags as tag
use Rattle.der.specs.Form.{IsWhole}
use Rattle.der.specs.Forms.{sole, both, only, maybe, OnSomeOf, AreAll}
use Rattle.der.specs.Leaves.{short_number}
use Rattle.der.specs.laws.LeafLaws.{short_number-law}
use Rattle.der.specs.laws.FrameLaws.{sole-law}
use Rattle.der.specs.laws.SequenceLaws.{both-law, only-law}
use Rattle.der.specs.laws.ChoiceLaws.{maybe-law}
use Rattle.der.specs.laws.ValueLaws.{IsInverse, through-law}
use Rattle.payloads.specs.laws.EntryLaws.{entry-law, family-law}
use Rattle.payloads.specs.Order.{rises, rises_above}
use Rattle.payloads.specs.RoaFormats.{Entry, IsEntry, IsEntryOf, entry, has_some, family, joined, leading_v4, families_of, parted, blocks, body, AreEntries, unordered_roa, is_below, is_below_within, IsRoa}

-- ---- values of which all are such

all-append : {A : Type 0} (P : A → Type 0) (xs ys : List A) → AreAll P xs → AreAll P ys
    → AreAll P (xs ++ ys)
all-append P [] ys a b = b
all-append P (x ∷ xs) ys a b = (a.0, all-append P xs ys a.1 b)

all-drop : {A : Type 0} (P : A → Type 0) (n : ℕ) (xs : List A) → AreAll P xs → AreAll P (drop n xs)
all-drop P zero xs a = a
all-drop P (suc n) [] a = tt
all-drop P (suc n) (x ∷ xs) a = all-drop P n xs a.1

all-map : {A : Type 0} {P Q : A → Type 0} (to : (x : A) → P x → Q x) (xs : List A) → AreAll P xs
    → AreAll Q xs
all-map to [] a = tt
all-map to (x ∷ xs) a = (to x a.0, all-map to xs a.1)

all-with : {A : Type 0} (P Q : A → Type 0) (xs : List A) → AreAll P xs → AreAll Q xs
    → AreAll (λ x. P x × Q x) xs
all-with P Q [] a b = tt
all-with P Q (x ∷ xs) a b = ((a.0, b.0), all-with P Q xs a.1 b.1)

-- ---- families and the list of both

abbrev IsV6 : Entry → Type 0
IsV6 e = e.v6 ≡ true

abbrev is_v6 : Entry → Bool
is_v6 e = e.v6

abbrev v4s : List Entry → List Entry
v4s es = take (leading_v4 is_v6 es) es

abbrev v6s : List Entry → List Entry
v6s es = drop (leading_v4 is_v6 es) es

one-leading : (e : Entry) (n : ℕ) (es : List Entry) (b : Bool) → e.v6 ≡ b → IsEntry e
    → AreAll (IsEntryOf false) (take n es)
    → AreAll (IsEntryOf false) (take (cond b zero (suc n)) (e ∷ es))
one-leading e n es true v is rest = tt
one-leading e n es false v is rest = ((v, is), rest)

all-leading : (es : List Entry) → AreAll IsEntry es → AreAll (IsEntryOf false) (v4s es)
all-leading [] each = tt
all-leading (e ∷ es) each = one-leading e (leading_v4 is_v6 es) es e.v6 refl each.0
    (all-leading es each.1)

-- Entries of IPv4 and then of IPv6 are parted as they were.
v4-parted : (xs zs : List Entry) → AreAll (IsEntryOf false) xs → AreAll (IsEntryOf true) zs
    → v4s (xs ++ zs) ≡ xs
v4-parted [] [] a b = refl
v4-parted [] (z ∷ zs) a b =
    ap (λ (t : Bool). take (cond t zero (suc (leading_v4 is_v6 zs))) (z ∷ zs)) b.0.0
v4-parted (x ∷ xs) zs a b =
    ap (λ (t : Bool). take (cond t zero (suc (leading_v4 is_v6 (xs ++ zs)))) (x ∷ (xs ++ zs)))
    a.0.0 ∙ ap (λ (l : List Entry). x ∷ l) (v4-parted xs zs a.1 b)

v6-parted : (xs zs : List Entry) → AreAll (IsEntryOf false) xs → AreAll (IsEntryOf true) zs
    → v6s (xs ++ zs) ≡ zs
v6-parted [] [] a b = refl
v6-parted [] (z ∷ zs) a b =
    ap (λ (t : Bool). drop (cond t zero (suc (leading_v4 is_v6 zs))) (z ∷ zs)) b.0.0
v6-parted (x ∷ xs) zs a b =
    ap (λ (t : Bool). drop (cond t zero (suc (leading_v4 is_v6 (xs ++ zs)))) (x ∷ (xs ++ zs)))
    a.0.0 ∙ v6-parted xs zs a.1 b

made : (xs zs : List Entry) → AreAll (IsEntryOf false) xs → AreAll (IsEntryOf true) zs
    → 1 ≤ length (xs ++ zs)
    → AreEntries (xs ++ zs) × (parted is_v6 (xs ++ zs) ≡ families_of xs zs)
made xs zs a b some = (
  record {
    some = some;
    each = all-append IsEntry xs zs (all-map (λ e is. is.1) xs a) (all-map (λ e is. is.1) zs b);
    apart = subst (AreAll (λ e. e.v6 ≡ true)) (sym (v6-parted xs zs a b))
        (all-map (λ e is. is.0) zs b);
  },
  λ i. families_of (v4-parted xs zs a b i) (v6-parted xs zs a b i),
)

-- What the lists of families are.
abbrev AreOf : Bool × List Entry → Type 0
AreOf x = Unit {0} × (AreAll (IsEntryOf x.0) x.1 × (has_some x.1 ≡ true))

abbrev AreFamilies : (Bool × List Entry) × Option (Bool × List Entry) → Type 0
AreFamilies x = AreOf x.0 × OnSomeOf AreOf x.1

same : {A : Type 0} {x y : A} → Some x ≡ Some y → x ≡ y
same e = cc

none-of-some : has_some {A = Entry} [] ≡ true → ⊥
none-of-some e = cc

families-there : (x : Bool × List Entry) (o : Option (Bool × List Entry)) (y : List Entry)
    → AreOf x → OnSomeOf AreOf o → joined x o ≡ Some y → AreEntries y × (parted is_v6 y ≡ (x, o))
families-there (b, []) o y good more h = absurd (none-of-some good.1.1)
families-there (true, x ∷ xs) None y good more h =
    subst (λ (l : List Entry). AreEntries l × (parted is_v6 l ≡ ((true, x ∷ xs), None))) (same h)
    (made [] (x ∷ xs) tt good.1.0 (omega arith))
families-there (false, x ∷ xs) None y good more h =
    subst (λ (l : List Entry). AreEntries l × (parted is_v6 l ≡ ((false, x ∷ xs), None)))
    (append-nil (x ∷ xs) ∙ same h) (made (x ∷ xs) [] good.1.0 tt (omega arith))
families-there (true, x ∷ xs) (Some z) y good more h = absurd cc
families-there (false, x ∷ xs) (Some (false, zs)) y good more h = absurd cc
families-there (false, x ∷ xs) (Some (true, [])) y good more h = absurd (none-of-some more.1.1)
families-there (false, x ∷ xs) (Some (true, z ∷ zs)) y good more h =
    subst (λ (l : List Entry). AreEntries l
    × (parted is_v6 l ≡ ((false, x ∷ xs), Some (true, z ∷ zs)))) (same h)
    (made (x ∷ xs) (z ∷ zs) good.1.0 more.1.0 (omega arith))

families-back : (xs zs : List Entry) → AreAll (IsEntryOf false) xs → AreAll (IsEntryOf true) zs
    → 1 ≤ length (xs ++ zs) → AreFamilies (families_of xs zs)
    × (joined (families_of xs zs).0 (families_of xs zs).1 ≡ Some (xs ++ zs))
families-back [] [] a b some = absurd (omega arith)
families-back (x ∷ xs) [] a b some =
    (((tt, (a, refl)), tt), ap (λ (l : List Entry). Some l) (sym (append-nil (x ∷ xs))))
families-back [] (z ∷ zs) a b some = (((tt, (b, refl)), tt), refl)
families-back (x ∷ xs) (z ∷ zs) a b some = (((tt, (a, refl)), (tt, (b, refl))), refl)

blocks-inverse : IsInverse AreFamilies (λ x. joined x.0 x.1) (parted is_v6) AreEntries
blocks-inverse = record {
  back = λ y good. back y good;
  there = λ x y good h. families-there x.0 x.1 y good.0 good.1 h;
}
  where
    back : (y : List Entry) → AreEntries y → AreFamilies (parted is_v6 y)
        × (joined (parted is_v6 y).0 (parted is_v6 y).1 ≡ Some y)
    back y good =
        let whole : v4s y ++ v6s y ≡ y = take-append-drop (leading_v4 is_v6 y) y in
        let some : 1 ≤ length (v4s y ++ v6s y) =
        subst (λ (l : List Entry). 1 ≤ length l) (sym whole) good.some in
        let b = families-back (v4s y) (v6s y) (all-leading y good.each)
        (all-with IsV6 IsEntry (v6s y) good.apart
        (all-drop IsEntry (leading_v4 is_v6 y) y good.each)) some in
        (b.0, b.1 ∙ ap (λ (l : List Entry). Some l) whole)

blocks-law : IsWhole (blocks entry is_v6 AreEntries)
unfolding blocks family
blocks-law = through-law (both (family entry) (maybe (only (family entry)))) (λ x. joined x.0 x.1)
    (parted is_v6) AreEntries
    (both-law (family entry) (maybe (only (family entry))) (family-law entry entry-law)
    (maybe-law (only (family entry)) (only-law (family entry) (family-law entry entry-law))
    (λ x good. (family-law entry entry-law).some x good)))
    blocks-inverse

pub unordered_roa-law : IsWhole unordered_roa
unfolding body
unordered_roa-law =
    sole-law tag.sequence (both short_number (sole tag.sequence (blocks entry is_v6 AreEntries)))
    (both-law short_number (sole tag.sequence (blocks entry is_v6 AreEntries)) short_number-law
    (sole-law tag.sequence (blocks entry is_v6 AreEntries) blocks-law))

-- ---- entries that rise

above-v6 : (e f : Entry) → e.v6 ≡ true → is_below e f ≡ true → f.v6 ≡ true
above-v6 e f v below =
    (and_parts f.v6 (is_below_within e f)
    (ap (λ (b : Bool). cond b (f.v6 && is_below_within e f) (f.v6 || is_below_within e f)) (sym v)
    ∙ below)).0

all-above-v6 : (e : Entry) (es : List Entry) → e.v6 ≡ true → rises_above is_below e es ≡ true
    → AreAll IsV6 es
all-above-v6 e [] v up = tt
all-above-v6 e (f ∷ es) v up =
    let p = and_parts (is_below e f) (rises_above is_below f es) up in
    let six = above-v6 e f v p.0 in
    (six, all-above-v6 f es six p.1)

rest-rises : (e : Entry) (es : List Entry) → rises_above is_below e es ≡ true
    → rises is_below es ≡ true
rest-rises e [] up = refl
rest-rises e (f ∷ es) up = (and_parts (is_below e f) (rises_above is_below f es) up).1

one-apart : (e : Entry) (n : ℕ) (es : List Entry) (b : Bool) → e.v6 ≡ b
    → rises_above is_below e es ≡ true → AreAll IsV6 (drop n es)
    → AreAll IsV6 (drop (cond b zero (suc n)) (e ∷ es))
one-apart e n es true v up rest = (v, all-above-v6 e es v up)
one-apart e n es false v up rest = rest

rising-apart : (es : List Entry) → rises is_below es ≡ true → AreAll IsV6 (v6s es)
rising-apart [] up = tt
rising-apart (e ∷ es) up = one-apart e (leading_v4 is_v6 es) es e.v6 refl up
    (rising-apart es (rest-rises e es up))

-- The values of an ordered body are those of an unordered one whose entries rise.
pub roa-unordered : (value : ℕ × List Entry) → IsRoa value → unordered_roa.good value
unfolding body blocks
roa-unordered value is = (
  (omega (arith, is.asn), lt-ltb value.0 (2 ^ 32) is.asn),
  record { some = is.some; each = is.each; apart = rising-apart value.1 is.rises },
)

pub unordered-roa : (value : ℕ × List Entry) → unordered_roa.good value
    → rises is_below value.1 ≡ true → IsRoa value
unfolding body blocks
unordered-roa value good up = record {
  asn = ltb-true value.0 (2 ^ 32) good.0.1;
  some = good.1.some;
  each = good.1.each;
  rises = up;
}
