-- Names that rise are apart.
use Rattle.std.proofs.Common.{◌≡◌, ◌≢◌, ℕ, true, false, not, List, [], ◌∷◌, All, AllPairs, refl, sym, ap, ◌∙◌, arith}
use Rattle.std.specs.Ordering.{nat_cmp, is_lt}
use Rattle.std.specs.Cmp.Lexicographic.{slice_cmp}
use Rattle.std.specs.Str.{bytes_eq}
use Rattle.std.specs.declared.cmp.Ordering.TheVariants.{Less, Equal}
use Rattle.std.proofs.lemmas.Bool.{and_parts, and_from, false_from_ne_true, not_from_false}
use Rattle.std.proofs.lemmas.Cmp.{nat_list_cmp_total, tied_itself}
use Rattle.std.proofs.lemmas.List.Elements.{All-nil, All-cons, All-weaker}
use Rattle.std.proofs.lemmas.List.Folds.{list_any_none}
use Rattle.std.proofs.lemmas.List.Kept.{AllPairs-cons}
use Rattle.std.proofs.lemmas.Slice.Eq.{bytes_eq-Decides}
use Rattle.payloads.specs.Order.{rises, rises_above}
use Rattle.payloads.specs.ManifestFormats.{is_name_below}
use Rattle.rp_rules.specs.Certificates.{is_among}
use Rattle.rp_rules.specs.Points.{are_distinct}
use Rattle.editions.proofs.ObjectLemmas.Given.{is-less}

below-trans : (a b c : List ℕ) → is_name_below a b ≡ true → is_name_below b c ≡ true → is_name_below a c ≡ true
below-trans a b c first second =
    ap is_lt (nat_list_cmp_total.trans a b c (is-less (slice_cmp nat_cmp a b) first)
    (is-less (slice_cmp nat_cmp b c) second))

below-apart : (a b : List ℕ) → is_name_below a b ≡ true → a ≢ b
below-apart a b first same =
    let tied : slice_cmp nat_cmp a a ≡ Equal = tied_itself nat_list_cmp_total a in
    let less : slice_cmp nat_cmp a a ≡ Less =
    ap (slice_cmp nat_cmp a) same ∙ is-less (slice_cmp nat_cmp a b) first in
    let both : Equal ≡ Less = sym tied ∙ less in
    absurd cc

-- What is above a name is above each one below that.
above-all : (x : List ℕ) (ys : List (List ℕ)) → rises_above is_name_below x ys ≡ true
    → All (λ y. is_name_below x y ≡ true) ys
above-all x [] up = All-nil (λ y. is_name_below x y ≡ true)
above-all x (y ∷ ys) up =
    let parts = and_parts (is_name_below x y) (rises_above is_name_below y ys) up in
    All-cons (λ z. is_name_below x z ≡ true) y ys parts.0
    (All-weaker (λ z. is_name_below y z ≡ true) (λ z. is_name_below x z ≡ true)
    (λ z more. below-trans x y z parts.0 more) ys (above-all y ys parts.1))

rest-rises : (x : List ℕ) (xs : List (List ℕ)) → rises_above is_name_below x xs ≡ true → rises is_name_below xs ≡ true
rest-rises x [] up = refl
rest-rises x (y ∷ ys) up = (and_parts (is_name_below x y) (rises_above is_name_below y ys) up).1

pub rising-apart : (names : List (List ℕ)) → rises is_name_below names ≡ true → AllPairs (λ a b. a ≢ b) names
rising-apart [] up = λ i j d less inside. absurd (omega (arith, less, inside))
rising-apart (x ∷ xs) up =
    AllPairs-cons (λ a b. a ≢ b) x xs
    (All-weaker (λ y. is_name_below x y ≡ true) (λ y. x ≢ y) (λ y less. below-apart x y less) xs
    (above-all x xs up))
    (rising-apart xs (rest-rises x xs up))

pub other-bytes : (a b : List ℕ) → a ≢ b → bytes_eq a b ≡ false
other-bytes a b apart =
    false_from_ne_true (bytes_eq a b) (λ e. apart ((bytes_eq-Decides a b).0 e))

pub not-among : (uris : List (List ℕ)) (uri : List ℕ) → All (λ other. other ≢ uri) uris
    → is_among uris uri ≡ false
not-among uris uri apart =
    list_any_none (λ other. bytes_eq other uri) uris
    (All-weaker (λ other. other ≢ uri) (λ other. bytes_eq other uri ≡ false)
    (λ other is. other-bytes other uri is) uris apart)

pub rising-distinct : (names : List (List ℕ)) → rises is_name_below names ≡ true → are_distinct names ≡ true
rising-distinct [] up = refl
rising-distinct (x ∷ xs) up =
    and_from (not (is_among xs x)) (are_distinct xs)
    (not_from_false (is_among xs x) (not-among xs x
    (All-weaker (λ y. is_name_below x y ≡ true) (λ y. y ≢ x)
    (λ y less same. below-apart x y less (sym same)) xs (above-all x xs up))))
    (rising-distinct xs (rest-rises x xs up))
