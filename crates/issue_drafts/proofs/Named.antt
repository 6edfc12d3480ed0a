-- Names of files in a folder, and files by their names.
use Rattle.std.proofs.Common.{◌≡◌, ℕ, ◌+◌, ◌<◌, zero, suc, inl, inr, Bool, true, false, List}
use Rattle.std.proofs.Common.{[], ◌∷◌, ◌++◌, length, get_or, map, refl, sym, ap, subst, ◌∙◌, arith}
use Rattle.std.specs.List.{All, AllByRecursion, Contains, IsDistinct, slice_index_or}
use Rattle.std.specs.List.Sorted.{IsPermutation, IsSortedBy}
use Rattle.std.specs.Cmp.{IsStrictWeakOrder}
use Rattle.std.specs.Cmp.Lexicographic.{slice_cmp}
use Rattle.std.specs.Ordering.{nat_cmp, is_lt, is_eq, ordering_reverse}
use Rattle.std.specs.Str.{bytes_eq}
use Rattle.std.specs.declared.cmp.Ordering.{Ordering}
use Rattle.std.specs.declared.cmp.Ordering.TheVariants.{Less, Equal, Greater}
use Rattle.std.proofs.lemmas.Bool.{and_from, and_parts, false_from_ne_true}
use Rattle.std.proofs.lemmas.Bool.Decides.{Decides-eqb}
use Rattle.std.proofs.lemmas.Cmp.{nat_list_cmp_total}
use Rattle.std.proofs.lemmas.List.Elements.{All-head, All-tail}
use Rattle.std.proofs.lemmas.List.MinMax.{ranks_by}
use Rattle.std.proofs.lemmas.List.Sorted.{Contains-permutation, IsPermutation-map, IsPermutation-sym}
use Rattle.std.proofs.lemmas.Map.Keys.{IsDistinct-head, IsDistinct-tail, IsDistinct-IsPermutation}
use Rattle.std.proofs.lemmas.Map.Text.{is_eq-slice_cmp}
use Rattle.std.proofs.lemmas.Slice.Eq.{bytes_eq-Decides, starts_is}
use Rattle.payloads.specs.Order.{rises, rises_above}
use Rattle.payloads.specs.ManifestFormats.{is_name_below}
use Rattle.issue_drafts.specs.Files.{name_in, names_of, AreMerged, IsListable}
use Rattle.issue_drafts.proofs.OrderedFiles.{In, Up, Steps, never, up-steps, unique, arranged}
use Rattle.issue_drafts.proofs.OrderedFiles.{up-arranged, arranged-in, in-arranged, AllApart}

abbrev pub File : Type 0
File = List ℕ × List ℕ

abbrev pub before : File → File → Bool
before a b = is_name_below a.0 b.0

pub by_name : IsStrictWeakOrder before
by_name = ranks_by nat_list_cmp_total (λ (f : File). f.0)

-- ---- names apart

pub eq-flips : (a b : List ℕ) → bytes_eq a b ≡ bytes_eq b a
eq-flips a b = by (bytes_eq a b) (bytes_eq b a) refl refl
  where
    by : (p q : Bool) → bytes_eq a b ≡ p → bytes_eq b a ≡ q → p ≡ q
    by true true e f = refl
    by false false e f = refl
    by true false e f = sym ((bytes_eq-Decides b a).1 (sym ((bytes_eq-Decides a b).0 e))) ∙ f
    by false true e f = sym e ∙ (bytes_eq-Decides a b).1 (sym ((bytes_eq-Decides b a).0 f))

pub not-same : (a b : List ℕ) → (a ≡ b → ⊥) → bytes_eq a b ≡ false
not-same a b differ = false_from_ne_true (bytes_eq a b) (λ t. differ ((bytes_eq-Decides a b).0 t))

strict : (a b : List ℕ) → is_name_below b a ≡ false → bytes_eq a b ≡ false → is_name_below a b ≡ true
strict a b level other =
    by (slice_cmp nat_cmp a b) (sym (ap is_lt (nat_list_cmp_total.antisymm b a)) ∙ level)
    (is_eq-slice_cmp a b ∙ other)
  where
    by : (o : Ordering) → is_lt (ordering_reverse o) ≡ false → is_eq o ≡ false → is_lt o ≡ true
    by Less e f = refl
    by Equal e f = absurd cc
    by Greater e f = absurd cc

by-recursion-in : (P : List ℕ → Type 0) (files : List File) (z : File) → AllByRecursion P (names_of files)
    → In z files → P z.0
by-recursion-in P [] z h k = absurd k
by-recursion-in P (x ∷ xs) z h (inl e) = subst (λ (f : File). P f.0) (sym e) h.0
by-recursion-in P (x ∷ xs) z h (inr k) = by-recursion-in P xs z h.1 k

pub apart-from : (files : List File) → IsDistinct bytes_eq (names_of files) → AllApart before files
apart-from [] h = tt
apart-from (x ∷ xs) h = (
  λ z k low high.
      never (before x z)
      (strict x.0 z.0 high (by-recursion-in (λ (n : List ℕ). bytes_eq x.0 n ≡ false) xs z
      (IsDistinct-head bytes_eq x.0 (names_of xs) h) k)) low,
  apart-from xs (IsDistinct-tail bytes_eq x.0 (names_of xs) h),
)

-- ---- by rising name

sorted-tail : (x : File) (xs : List File) → IsSortedBy before (x ∷ xs) → IsSortedBy before xs
sorted-tail x xs h k d low high =
    let e : suc k + 1 ≡ suc (k + 1) = omega arith in
    subst (λ (n : ℕ). before (get_or (x ∷ xs) n d) (get_or xs k d) ≡ false) e
    (h (suc k) d (omega arith) (omega arith))

rise-above : (x : File) (xs : List File) → IsSortedBy before (x ∷ xs)
    → IsDistinct bytes_eq (names_of (x ∷ xs)) → rises_above is_name_below x.0 (names_of xs) ≡ true
rise-above x [] h apart = refl
rise-above x (y ∷ ys) h apart =
    and_from (is_name_below x.0 y.0) (rises_above is_name_below y.0 (names_of ys))
    (strict x.0 y.0 (h 0 x (omega arith) (omega arith)) (IsDistinct-head bytes_eq x.0 (names_of (y ∷ ys)) apart).0)
    (rise-above y ys (sorted-tail x (y ∷ ys) h) (IsDistinct-tail bytes_eq x.0 (names_of (y ∷ ys)) apart))

pub rise-from : (files : List File) → IsSortedBy before files → IsDistinct bytes_eq (names_of files)
    → rises is_name_below (names_of files) ≡ true
rise-from [] h apart = refl
rise-from (x ∷ xs) h apart = rise-above x xs h apart

rises-steps : (x : File) (xs : List File) → rises_above is_name_below x.0 (names_of xs) ≡ true → Steps before x xs
rises-steps x [] e = tt
rises-steps x (y ∷ ys) e =
    let both = and_parts (is_name_below x.0 y.0) (rises_above is_name_below y.0 (names_of ys)) e in
    (both.0, rises-steps y ys both.1)

rises-up : (files : List File) → rises is_name_below (names_of files) ≡ true → Up before files
rises-up [] e = tt
rises-up (x ∷ xs) e = up-steps before by_name x xs (rises-steps x xs e)

pub distinct-moved : (files others : List File) → IsPermutation files others
    → IsDistinct bytes_eq (names_of files) → IsDistinct bytes_eq (names_of others)
distinct-moved files others moved h =
    IsDistinct-IsPermutation bytes_eq eq-flips (names_of files) (names_of others)
    (IsPermutation-map (λ (f : File). f.0) files others moved) h

-- ---- one list of files for what is listed

in-contains : {X : Type 0} (z : X) (xs : List X) → In z xs → Contains xs z
in-contains z [] h = absurd h
in-contains z (x ∷ xs) (inl e) = (0, omega arith, sym e)
in-contains z (x ∷ xs) (inr h) =
    let c = in-contains z xs h in
    (suc (c.0), omega arith, c.2)

contains-at : {X : Type 0} (z : X) (xs : List X) (k : ℕ) → k < length xs → slice_index_or xs k z ≡ z → In z xs
contains-at z [] k lt e = absurd (omega arith)
contains-at z (x ∷ xs) zero lt e = inl (sym e)
contains-at z (x ∷ xs) (suc k) lt e = inr (contains-at z xs k (omega arith) e)

pub in-moved : {X : Type 0} (xs ys : List X) (z : X) → IsPermutation xs ys → In z xs → In z ys
in-moved xs ys z moved h =
    let c = Contains-permutation xs ys z moved (in-contains z xs h) in
    contains-at z ys c.0 c.1 c.2

pub merged-same : (kept made files : List File) → AreMerged kept made files
    → IsDistinct bytes_eq (names_of (kept ++ made)) → files ≡ arranged before (kept ++ made)
merged-same kept made files m apart =
    let all = kept ++ made in
    unique before by_name files (arranged before all) (rises-up files m.rising) (up-arranged before by_name all)
    (λ z h. in-arranged before z all (apart-from all apart) (in-moved files all z
    (IsPermutation-sym all files m.permutation) h))
    (λ z h. in-moved all files z m.permutation (arranged-in before z all h))

-- ---- names in a folder

pub whole-uri : (folder uri : List ℕ) → IsListable folder uri → uri ≡ folder ++ name_in folder uri
whole-uri folder uri h = (starts_is Decides-eqb uri folder true (sym h.inside)).0 refl

pub names-differ : (folder a b : List ℕ) → IsListable folder a → IsListable folder b → bytes_eq a b ≡ false
    → bytes_eq (name_in folder a) (name_in folder b) ≡ false
names-differ folder a b la lb other =
    not-same (name_in folder a) (name_in folder b) (λ e.
    never (bytes_eq a b)
    ((bytes_eq-Decides a b).1 (whole-uri folder a la ∙ (ap (λ (n : List ℕ). folder ++ n) e ∙ sym
    (whole-uri folder b lb)))) other)

names-apart : (folder a : List ℕ) (uris : List (List ℕ)) → IsListable folder a → All (IsListable folder) uris
    → AllByRecursion (λ (u : List ℕ). bytes_eq a u ≡ false) uris
    → AllByRecursion (λ (n : List ℕ). bytes_eq (name_in folder a) n ≡ false) (map (name_in folder) uris)
names-apart folder a [] la all h = tt
names-apart folder a (u ∷ us) la all h = (
  names-differ folder a u la (All-head (IsListable folder) u us all) h.0,
  names-apart folder a us la (All-tail (IsListable folder) u us all) h.1,
)

pub names-distinct : (folder : List ℕ) (uris : List (List ℕ)) → All (IsListable folder) uris
    → IsDistinct bytes_eq uris → IsDistinct bytes_eq (map (name_in folder) uris)
unfolding IsDistinct
names-distinct folder [] all h = tt
names-distinct folder (u ∷ us) all h = (
  names-apart folder u us (All-head (IsListable folder) u us all) (All-tail (IsListable folder) u us all)
      (IsDistinct-head bytes_eq u us h),
  names-distinct folder us (All-tail (IsListable folder) u us all) (IsDistinct-tail bytes_eq u us h),
)
