-- Of two lists with the same elements the same files come.
use Rattle.std.proofs.Common.{◌≡◌, ◌≢◌, ℕ, ◌+◌, ◌<◌, Bool, true, false, cond, ◌&&◌, Option, None, Some, List, [], ◌∷◌, map, remove, refl, sym, ap, ap₂, subst, ◌∙◌, arith, inl, inr}
use Rattle.std.specs.Prelude.{Contains, IsPermutation, filter, sum_by}
use Rattle.std.specs.List.{filter_map, cons_option}
use Rattle.std.specs.Option.{option_map_or}
use Rattle.std.specs.Str.{bytes_eq}
use Rattle.std.proofs.lemmas.Bool.{and_parts, and_from}
use Rattle.std.proofs.lemmas.List.Sums.{sum_by-cons}
use Rattle.std.proofs.lemmas.List.Sorted.{IsPermutation-refl, IsPermutation-cons, IsPermutation-trans, IsPermutation-sym, IsPermutation-remove, Contains-permutation, sum_by-IsPermutation}
use Rattle.std.proofs.lemmas.Slice.Eq.{bytes_eq-Decides}
use Rattle.issue_drafts.specs.laws.UriOrder.{apart-permuted}
use Rattle.items.specs.laws.ElementLaws.{none, here, there, first-or-rest, into-map}
use Rattle.items.specs.laws.PairLaws.{Twos, each-at, twos-from, twos-pairs}

-- A file by its name, and its hash.
abbrev pub File : Type 0
File = List ℕ × List ℕ

-- Whether two files are one, as a number.
abbrev same : File → File → ℕ
same a b = cond (bytes_eq a.0 b.0 && bytes_eq a.1 b.1) 1 0

same-self : (a : File) → same a a ≡ 1
same-self a =
    ap (λ (b : Bool). cond b 1 0)
    (and_from (bytes_eq a.0 a.0) (bytes_eq a.1 a.1) ((bytes_eq-Decides a.0 a.0).1 refl)
    ((bytes_eq-Decides a.1 a.1).1 refl))

is-same : (a b : File) → bytes_eq a.0 b.0 && bytes_eq a.1 b.1 ≡ true → a ≡ b
is-same a b e =
    let parts = and_parts (bytes_eq a.0 b.0) (bytes_eq a.1 b.1) e in
    let of : List ℕ → List ℕ → File = λ name hash. (name, hash) in
    ap₂ of ((bytes_eq-Decides a.0 b.0).0 parts.0) ((bytes_eq-Decides a.1 b.1).0 parts.1)

-- How often a file is among files.
abbrev times : File → List File → ℕ
times a files = sum_by (same a) files

is-among : (a : File) (files : List File) → 0 < times a files → Contains files a
is-among a [] some = absurd (omega (arith, some))
is-among a (b ∷ files) some =
    by (bytes_eq a.0 b.0 && bytes_eq a.1 b.1) refl (is-among a files)
  where
    by : (t : Bool) → bytes_eq a.0 b.0 && bytes_eq a.1 b.1 ≡ t
        → (0 < times a files → Contains files a) → Contains (b ∷ files) a
    by true is rest = subst (Contains (b ∷ files)) (sym (is-same a b is)) (here b files)
    by false is rest =
        let none : same a b ≡ 0 = ap (λ (t : Bool). cond t 1 0) is in
        let parts : times a (b ∷ files) ≡ same a b + times a files = sum_by-cons (same a) b files in
        there b files a (rest (omega (arith, some, none, parts)))

from-times : (xs ys : List File) → ((a : File) → times a xs ≡ times a ys) → IsPermutation xs ys
from-times [] [] all = IsPermutation-refl []
from-times [] (y ∷ ys) all =
    let none = all y in
    let parts : times y (y ∷ ys) ≡ same y y + times y ys = sum_by-cons (same y) y ys in
    let one = same-self y in
    absurd (omega (arith, none, parts, one))
from-times (x ∷ xs) ys all =
    let first = all x in
    let parts : times x (x ∷ xs) ≡ same x x + times x xs = sum_by-cons (same x) x xs in
    let one = same-self x in
    let at = is-among x ys (omega (arith, first, parts, one)) in
    let moved : IsPermutation ys (x ∷ remove ys at.0) =
    IsPermutation-remove ys at.0 x at.1 (sym at.2) in
    IsPermutation-trans (x ∷ xs) (x ∷ remove ys at.0) ys
    (IsPermutation-cons x xs (remove ys at.0)
    (from-times xs (remove ys at.0) (λ a.
    let left : times a (x ∷ xs) ≡ same a x + times a xs = sum_by-cons (same a) x xs in
    let right : times a (x ∷ remove ys at.0) ≡ same a x + times a (remove ys at.0) =
    sum_by-cons (same a) x (remove ys at.0) in
    let kept : times a (x ∷ remove ys at.0) ≡ times a ys =
    sum_by-IsPermutation (same a) ys (x ∷ remove ys at.0) moved in
    let whole = all a in
    omega (arith, left, right, kept, whole))))
    (IsPermutation-sym ys (x ∷ remove ys at.0) moved)

module _ {X : Type 0} (f : X → Option File) where
  -- How often a file comes of one element.
  abbrev given : File → X → ℕ
  given a x = option_map_or (same a) (f x) 0

  times-given : (a : File) (xs : List X) → times a (filter_map f xs) ≡ sum_by (given a) xs
  times-given a [] = refl
  times-given a (x ∷ xs) = by (f x) refl (times-given a xs)
    where
      by : (o : Option File) → f x ≡ o → times a (filter_map f xs) ≡ sum_by (given a) xs
          → times a (cons_option o (filter_map f xs)) ≡ sum_by (given a) (x ∷ xs)
      by None is rest =
          let first : given a x ≡ 0 = ap (λ (o : Option File). option_map_or (same a) o 0) is in
          let right : sum_by (given a) (x ∷ xs) ≡ given a x + sum_by (given a) xs =
          sum_by-cons (given a) x xs in
          omega (arith, first, right, rest)
      by (Some b) is rest =
          let first : given a x ≡ same a b =
          ap (λ (o : Option File). option_map_or (same a) o 0) is in
          let left : times a (b ∷ filter_map f xs) ≡ same a b + times a (filter_map f xs) =
          sum_by-cons (same a) b (filter_map f xs) in
          let right : sum_by (given a) (x ∷ xs) ≡ given a x + sum_by (given a) xs =
          sum_by-cons (given a) x xs in
          omega (arith, first, left, right, rest)

  pub files-moved : (xs ys : List X) → IsPermutation xs ys
      → IsPermutation (filter_map f xs) (filter_map f ys)
  files-moved xs ys moved =
      from-times (filter_map f xs) (filter_map f ys) (λ a.
      times-given a xs
      ∙ (sym (sum_by-IsPermutation (given a) xs ys moved) ∙ sym (times-given a ys)))

-- What comes of those that pass a test.
pub passed-on : {X Y : Type 0} (p : X → Bool) (f : X → Option Y) (xs : List X)
    → filter_map f (filter p xs) ≡ filter_map (λ x. cond (p x) (f x) None) xs
passed-on p f [] = refl
passed-on {X} {Y} p f (x ∷ xs) = by (p x) (passed-on p f xs)
  where
    by : (b : Bool)
        → filter_map f (filter p xs) ≡ filter_map (λ z. cond (p z) (f z) None) xs
        → filter_map f (cond b (x ∷ filter p xs) (filter p xs))
        ≡ cons_option (cond b (f x) None) (filter_map (λ z. cond (p z) (f z) None) xs)
    by true rest = ap (λ (l : List Y). cons_option (f x) l) rest
    by false rest = rest

-- ---- lists of the same elements

-- Two lists of the same elements, each with keys of their own.
pub same-members : {X : Type 0} (key : X → List ℕ) (xs ys : List X) → Twos (λ a b. a ≢ b) (map key xs)
    → Twos (λ a b. a ≢ b) (map key ys) → ((x : X) → Contains xs x → Contains ys x)
    → ((x : X) → Contains ys x → Contains xs x) → IsPermutation xs ys
same-members key [] [] first second to from = IsPermutation-refl []
same-members key [] (y ∷ ys) first second to from = absurd (none y (from y (here y ys)))
same-members {X} key (x ∷ xs) ys first second to from =
    let c = to x (here x xs) in
    let rest : List X = remove ys c.0 in
    let out : IsPermutation ys (x ∷ rest) = IsPermutation-remove ys c.0 x c.1 (sym c.2) in
    let apart : Twos (λ a b. a ≢ b) (map key (x ∷ rest)) =
    twos-from (λ (a b : List ℕ). a ≢ b) (map key (x ∷ rest))
    (apart-permuted key ys (x ∷ rest) out (twos-pairs (λ (a b : List ℕ). a ≢ b) (map key ys) second)) in
    let more : IsPermutation xs rest = same-members key xs rest first.1 apart.1
    (λ z d. elim (first-or-rest x rest z (Contains-permutation ys (x ∷ rest) z out (to z (there x xs z d)))) [
      | inl same ↦ absurd (each-at (λ (b : List ℕ). key x ≢ b) (map key xs) (key z) first.0 (into-map key xs z d)
          (ap key same))
      | inr later ↦ later
    ])
    (λ z d. elim (first-or-rest x xs z (from z (Contains-permutation (x ∷ rest) ys z
    (IsPermutation-sym ys (x ∷ rest) out) (there x rest z d)))) [
      | inl same ↦ absurd (each-at (λ (b : List ℕ). key x ≢ b) (map key rest) (key z) apart.0 (into-map key rest z d)
          (ap key same))
      | inr later ↦ later
    ]) in
    IsPermutation-trans (x ∷ xs) (x ∷ rest) ys (IsPermutation-cons x xs rest more)
    (IsPermutation-sym ys (x ∷ rest) out)
