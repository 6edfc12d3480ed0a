-- The rows of an edition's keys, by desk and role, are in the order of the next keys.
use Rattle.std.proofs.Common.{◌≡◌, ◌≢◌, ℕ, ◌<◌, ◌≤◌, ◌==◌, ◌&&◌, nat_lt, true, false, List, [], ◌∷◌, length, get_or, map, refl, sym, ap, subst, ◌∙◌, arith, ◌⊎◌, inl, inr}
use Rattle.std.specs.Prelude.{AllPairs, Contains, IsPermutation}
use Rattle.std.specs.List.Sorted.{IsSortedBy}
use Rattle.std.specs.Cmp.{IsStrictWeakOrder}
use Rattle.std.proofs.lemmas.Bool.{and_parts, and_from, or_cases, or_left, or_right, lt-ltb, ltb-true, eq-eqb, eqb-true, false≢true, false_from_ne_true, cases_order, cases_lt}
use Rattle.std.proofs.lemmas.List.{get_or-map, length-map}
use Rattle.std.proofs.lemmas.List.Elements.{Contains-get_or}
use Rattle.std.proofs.lemmas.List.Sorted.{sorted_far, Contains-permutation, IsPermutation-sym}
use Rattle.key_roll.specs.declared.rows.KeyRow.{KeyRow}
use Rattle.key_roll.specs.declared.rows.Role.{Role}
use Rattle.issue_keys.specs.Keys.{id_of}
use Rattle.issue_drafts.specs.laws.UriOrder.{apart-permuted}
use Rattle.issue_make.specs.Trace.{rank, is_before}
use Rattle.editions.specs.inner.PlanAndTable.{KeepsUri}
use Rattle.items.specs.laws.ElementLaws.{none, here, there, first-or-rest, from-map, into-map}
use Rattle.items.specs.laws.PairLaws.{Twos, each-at, twos-map, twos-from, twos-cases, twos-pairs}

-- ---- lists in one order

-- Of two lists in which each element stands before the later ones, with the same elements, each is
-- the other.
pub same-order : {X : Type 0} (R : X → X → Type 0) (xs ys : List X)
    → ((x y : X) → R x y → R y x → ⊥) → Twos R xs → Twos R ys
    → ((x : X) → Contains xs x → Contains ys x) → ((x : X) → Contains ys x → Contains xs x)
    → xs ≡ ys
same-order R [] [] strict first second to back = refl
same-order R [] (y ∷ ys) strict first second to back = absurd (none y (back y (here y ys)))
same-order R (x ∷ xs) [] strict first second to back = absurd (none x (to x (here x xs)))
same-order {X} R (x ∷ xs) (y ∷ ys) strict first second to back =
    let heads : x ≡ y = elim (first-or-rest y ys x (to x (here x xs))) [
      | inl same ↦ sym same
      | inr later ↦ elim (first-or-rest x xs y (back y (here y ys))) [
        | inl same ↦ same
        | inr behind ↦ absurd (strict x y (each-at (R x) xs y first.0 behind)
            (each-at (R y) ys x second.0 later))
      ]
    ] in
    let tails : xs ≡ ys = same-order R xs ys strict first.1 second.1
    (λ z c. elim (first-or-rest y ys z (to z (there x xs z c))) [
      | inl same ↦
          let before = each-at (R x) xs z first.0 c in
          let own : R x x = subst (R x) (sym (heads ∙ same)) before in
          absurd (strict x x own own)
      | inr later ↦ later
    ])
    (λ z c. elim (first-or-rest x xs z (back z (there y ys z c))) [
      | inl same ↦
          let before = each-at (R y) ys z second.0 c in
          let own : R y y = subst (R y) (sym (sym heads ∙ same)) before in
          absurd (strict y y own own)
      | inr later ↦ later
    ]) in
    ap (λ (z : X). z ∷ xs) heads ∙ ap (λ (rest : List X). y ∷ rest) tails

-- ---- rows by desk and role

pub record IsFirst (a b : KeyRow) : Type 0 where
  pub order : (a.desk < b.desk) ⊎ ((a.desk ≡ b.desk) × (rank a.role < rank b.role))

pub never-both : (a b : KeyRow) → IsFirst a b → IsFirst b a → ⊥
never-both a b one two = elim one.order [
  | inl less ↦ elim two.order [
    | inl more ↦ omega (arith, less, more)
    | inr more ↦ let same = more.0 in omega (arith, less, same)
  ]
  | inr less ↦ elim two.order [
    | inl more ↦ let same = less.0 in omega (arith, same, more)
    | inr more ↦ let first = less.1 in let second = more.1 in omega (arith, first, second)
  ]
]

pub from-test : (a b : KeyRow) → is_before a b ≡ true → IsFirst a b
from-test a b e = elim (or_cases (nat_lt a.desk b.desk)
    ((a.desk == b.desk) && nat_lt (rank a.role) (rank b.role)) e) [
      | inl less ↦ record { order = inl (ltb-true a.desk b.desk less) }
      | inr same ↦
          let p = and_parts (a.desk == b.desk) (nat_lt (rank a.role) (rank b.role)) same in
          record { order = inr (eqb-true a.desk b.desk p.0, ltb-true (rank a.role) (rank b.role) p.1) }
    ]

pub into-test : (a b : KeyRow) → IsFirst a b → is_before a b ≡ true
into-test a b is = elim is.order [
  | inl less ↦ or_left (nat_lt a.desk b.desk)
      ((a.desk == b.desk) && nat_lt (rank a.role) (rank b.role)) (lt-ltb a.desk b.desk less)
  | inr same ↦ or_right (nat_lt a.desk b.desk)
      ((a.desk == b.desk) && nat_lt (rank a.role) (rank b.role))
      (and_from (a.desk == b.desk) (nat_lt (rank a.role) (rank b.role))
      (eq-eqb a.desk b.desk same.0) (lt-ltb (rank a.role) (rank b.role) same.1))
]

-- ---- a weak order

not-first : (a b : KeyRow) → is_before a b ≡ false
    → (b.desk < a.desk) ⊎ ((a.desk ≡ b.desk) × (rank b.role ≤ rank a.role))
not-first a b e = elim (cases_order a.desk b.desk) [
  | inl same ↦ elim (cases_lt (rank a.role) (rank b.role)) [
    | inl less ↦ absurd (false≢true (sym e
        ∙ into-test a b (record { order = inr (same, less) })))
    | inr more ↦ inr (same, more)
  ]
  | inr other ↦ elim other [
    | inl less ↦ absurd (false≢true (sym e ∙ into-test a b (record { order = inl less })))
    | inr more ↦ inl more
  ]
]

chained : (x y z : KeyRow)
    → (y.desk < x.desk) ⊎ ((x.desk ≡ y.desk) × (rank y.role ≤ rank x.role))
    → (z.desk < y.desk) ⊎ ((y.desk ≡ z.desk) × (rank z.role ≤ rank y.role))
    → IsFirst x z → ⊥
chained x y z one two is = elim is.order [
  | inl less ↦ elim one [
    | inl a ↦ elim two [
      | inl b ↦ omega (arith, less, a, b)
      | inr b ↦ let s = b.0 in omega (arith, less, a, s)
    ]
    | inr a ↦ let r = a.0 in elim two [
      | inl b ↦ omega (arith, less, r, b)
      | inr b ↦ let s = b.0 in omega (arith, less, r, s)
    ]
  ]
  | inr same ↦ let d = same.0 in let k = same.1 in elim one [
    | inl a ↦ elim two [
      | inl b ↦ omega (arith, d, a, b)
      | inr b ↦ let s = b.0 in omega (arith, d, a, s)
    ]
    | inr a ↦ let r = a.0 in let l = a.1 in elim two [
      | inl b ↦ omega (arith, d, r, b)
      | inr b ↦ let s = b.1 in omega (arith, k, l, s)
    ]
  ]
]

weak : IsStrictWeakOrder is_before
weak = record {
  one_way = λ x y e. false_from_ne_true (is_before y x) (λ back.
      never-both x y (from-test x y e) (from-test y x back));
  chain = λ x y z one two. false_from_ne_true (is_before x z) (λ e.
      chained x y z (not-first x y one) (not-first y z two) (from-test x z e));
}

-- ---- sorted rows

module _ (all keys : List KeyRow) (apart : AllPairs (λ k l. id_of k ≢ id_of l) all)
    (only : (k : KeyRow) → Contains keys k → Contains all k)
    (covered : (k : KeyRow) → Contains all k → Contains keys k) (order : Twos IsFirst keys)
    (after : KeyRow → KeyRow) (keeps : KeepsUri after) (rows : List KeyRow)
    (moved : IsPermutation (map after all) rows) (sorted : IsSortedBy is_before rows) where
  ordered-after : Twos IsFirst (map after keys)
  ordered-after = twos-map after IsFirst IsFirst keys (λ x y is. elim is.order [
    | inl less ↦
        let a = keeps.desk x in
        let b = keeps.desk y in
        record { order = inl (omega (arith, less, a, b)) }
    | inr same ↦ record {
      order = inr (
        keeps.desk x ∙ (same.0 ∙ sym (keeps.desk y)),
        subst (λ (r : Role). rank r < rank (after y).role) (sym (keeps.role x))
            (subst (λ (r : Role). rank x.role < rank r) (sym (keeps.role y)) same.1),
      );
    }
  ]) order

  ids-apart : AllPairs (λ a b. a ≢ b) (map id_of rows)
  ids-apart =
      apart-permuted id_of (map after all) rows moved
      (twos-pairs (λ (a b : List ℕ). a ≢ b) (map id_of (map after all))
      (twos-map id_of (λ (x y : KeyRow). id_of x ≢ id_of y) (λ (a b : List ℕ). a ≢ b) (map after all)
      (λ x y other. other)
      (twos-map after (λ (x y : KeyRow). id_of x ≢ id_of y) (λ (x y : KeyRow). id_of x ≢ id_of y) all
      (λ x y other same. other (sym (keeps.key x) ∙ (same ∙ keeps.key y)))
      (twos-from (λ (x y : KeyRow). id_of x ≢ id_of y) all apart))))

  into-keys : (r : KeyRow) → Contains rows r → Contains (map after keys) r
  into-keys r c =
      let m = from-map after all r
      (Contains-permutation rows (map after all) r (IsPermutation-sym (map after all) rows moved) c) in
      subst (λ (x : KeyRow). Contains (map after keys) x) m.2
      (into-map after keys m.0 (covered m.0 m.1))

  from-keys : (r : KeyRow) → Contains (map after keys) r → Contains rows r
  from-keys r c =
      let m = from-map after keys r c in
      Contains-permutation (map after all) rows r moved
      (subst (λ (x : KeyRow). Contains (map after all) x) m.2 (into-map after all m.0 (only m.0 m.1)))

  rows-pairs : AllPairs IsFirst rows
  rows-pairs i j d less inside =
      let x : KeyRow = get_or rows i d in
      let y : KeyRow = get_or rows j d in
      let early : i < length rows = omega (arith, less, inside) in
      let far : is_before y x ≡ false =
      sorted_far is_before weak rows sorted i j d (omega (arith, less)) inside in
      let long : length (map id_of rows) ≡ length rows = length-map rows id_of in
      elim (twos-cases IsFirst (map after keys) x y ordered-after
      (into-keys x (Contains-get_or rows i d early)) (into-keys y (Contains-get_or rows j d inside))) [
        | inl same ↦
            let one : get_or (map id_of rows) i (id_of d) ≡ id_of x =
            get_or-map id_of rows i d (id_of d) early in
            let two : get_or (map id_of rows) j (id_of d) ≡ id_of y =
            get_or-map id_of rows j d (id_of d) inside in
            absurd (ids-apart i j (id_of d) less (omega (arith, inside, long))
            (one ∙ (ap id_of same ∙ sym two)))
        | inr other ↦ elim other [
          | inl is ↦ is
          | inr back ↦ absurd (false≢true (sym far ∙ into-test y x back))
        ]
      ]

  pub in-order : rows ≡ map after keys
  in-order = same-order IsFirst rows (map after keys) never-both
      (twos-from IsFirst rows rows-pairs) ordered-after into-keys from-keys
