-- Lists with the same elements in another order.
use Rattle.std.proofs.Common.{◌≡◌, ℕ, zero, suc, ◌<◌, Bool, true, false, cond, ◌||◌, List, [], ◌∷◌, ◌++◌, map, filter, length, get_or, set, swap, refl, sym, ap, subst, ◌∙◌, arith, append_assoc, IsPermutation, inl, inr}
use Rattle.std.specs.List.{flat_map, list_any}
use Rattle.std.proofs.lemmas.Bool.{true≢false}
use Rattle.std.proofs.lemmas.List.Sorted.{IsPermutation-refl, IsPermutation-keeps, IsPermutation-trans, IsPermutation-append, IsPermutation-append_left, IsPermutation-append_right, IsPermutation-append_comm, IsPermutation-cons, IsPermutation-middle, length_permutation}
use Rattle.items.specs.laws.AmongLaws.{In, in-permuted}
use Rattle.items.specs.laws.PairLaws.{Each, Twos}
use Rattle.editions.proofs.WalkLemmas.Elements.{each-in, each-from}

-- What is reflexive and transitive, and goes under a head and over an exchange of two heads, holds of
-- a list and each order of it.
module _ {X : Type 0} (R : List X → List X → Type 0) (same : (xs : List X) → R xs xs)
    (skip : (x : X) (xs ys : List X) → R xs ys → R (x ∷ xs) (x ∷ ys))
    (turn : (x y : X) (xs : List X) → R (x ∷ y ∷ xs) (y ∷ x ∷ xs))
    (chain : (xs ys zs : List X) → R xs ys → R ys zs → R xs zs) where
  to-head : (l : List X) (j : ℕ) (x d : X) → j < length l → R (x ∷ l) (get_or l j d ∷ set l j x)
  to-head [] j x d h = absurd (omega arith)
  to-head (y ∷ l) zero x d h = turn x y l
  to-head (y ∷ l) (suc j) x d h =
      chain _ _ _ (turn x y l)
      (chain _ _ _ (skip y _ _ (to-head l j x d (omega arith))) (turn y (get_or l j d) (set l j x)))

  exchanged : (l : List X) (i j : ℕ) (d : X) → i < length l → j < length l
      → R l (set (set l i (get_or l j d)) j (get_or l i d))
  exchanged [] i j d p q = absurd (omega arith)
  exchanged (x ∷ l) zero zero d p q = same (x ∷ l)
  exchanged (x ∷ l) zero (suc j) d p q = to-head l j x d (omega arith)
  exchanged (x ∷ l) (suc i) zero d p q = to-head l i x d (omega arith)
  exchanged (x ∷ l) (suc i) (suc j) d p q =
      skip x _ _ (exchanged l i j d (omega arith) (omega arith))

  swapped : (l : List X) (i j : ℕ) → i < length l → j < length l → R l (swap l i j)
  swapped [] i j p q = same []
  swapped (x ∷ l) i j p q = exchanged (x ∷ l) i j x p q

  pub along : (xs ys : List X) → IsPermutation xs ys → R xs ys
  along xs = IsPermutation-keeps xs (R xs) (same xs) (λ l i j p q h. chain xs l _ h (swapped l i j p q))

pub moved-same : {X : Type 0} (xs ys : List X) → xs ≡ ys → IsPermutation xs ys
moved-same xs ys e = subst (IsPermutation xs) e (IsPermutation-refl xs)

pub flat-moved : {X Y : Type 0} (f : X → List Y) (xs ys : List X) → IsPermutation xs ys
    → IsPermutation (flat_map f xs) (flat_map f ys)
flat-moved f = along (λ xs ys. IsPermutation (flat_map f xs) (flat_map f ys))
    (λ xs. IsPermutation-refl _)
    (λ x xs ys h. IsPermutation-append_right (f x) _ _ h)
    (λ x y xs. rw (← append_assoc (f x), ← append_assoc (f y))
    (IsPermutation-append_left (flat_map f xs) _ _ (IsPermutation-append_comm (f x) (f y))))
    (λ xs ys zs. IsPermutation-trans _ _ _)

pub flat-each : {X Y : Type 0} (f g : X → List Y) (xs : List X)
    → ((x : X) → In x xs → IsPermutation (f x) (g x)) → IsPermutation (flat_map f xs) (flat_map g xs)
flat-each f g [] each = IsPermutation-refl []
flat-each f g (x ∷ xs) each =
    IsPermutation-append _ _ _ _ (each x (inl refl)) (flat-each f g xs (λ y at. each y (inr at)))

pub flat-same : {X Y : Type 0} (f g : X → List Y) (xs : List X)
    → ((x : X) → In x xs → f x ≡ g x) → flat_map f xs ≡ flat_map g xs
flat-same f g [] each = refl
flat-same {X} {Y} f g (x ∷ xs) each =
    ap (λ (l : List Y). l ++ flat_map f xs) (each x (inl refl))
    ∙ ap (λ (l : List Y). g x ++ l) (flat-same f g xs (λ y at. each y (inr at)))

pub flat-flat : {X Y Z : Type 0} (f : X → List Y) (g : Y → List Z) (xs : List X)
    → flat_map g (flat_map f xs) ≡ flat_map (λ x. flat_map g (f x)) xs
flat-flat f g [] = refl
flat-flat {X} {Y} {Z} f g (x ∷ xs) =
    over (f x) (flat_map f xs) ∙ ap (λ (l : List Z). flat_map g (f x) ++ l) (flat-flat f g xs)
  where
    over : (ys zs : List Y) → flat_map g (ys ++ zs) ≡ flat_map g ys ++ flat_map g zs
    over [] zs = refl
    over (y ∷ ys) zs =
        ap (λ (l : List Z). g y ++ l) (over ys zs)
        ∙ sym (append_assoc (g y) (flat_map g ys) (flat_map g zs))

-- Two parts of each.
pub flat-parts : {X Y : Type 0} (f g : X → List Y) (xs : List X)
    → IsPermutation (flat_map (λ x. f x ++ g x) xs) (flat_map f xs ++ flat_map g xs)
flat-parts f g [] = IsPermutation-refl []
flat-parts {X} {Y} f g (x ∷ xs) =
    let fs : List Y = flat_map f xs in
    let gs : List Y = flat_map g xs in
    IsPermutation-trans ((f x ++ g x) ++ flat_map (λ y. f y ++ g y) xs) ((f x ++ g x) ++ (fs ++ gs)) ((f x ++ fs) ++ (g x ++ gs))
    (IsPermutation-append_right (f x ++ g x) _ _ (flat-parts f g xs))
    (rw (append_assoc (f x) (g x), append_assoc (f x) fs)
    (IsPermutation-append_right (f x) (g x ++ (fs ++ gs)) (fs ++ (g x ++ gs))
    (rw (← append_assoc (g x) fs, ← append_assoc fs (g x))
    (IsPermutation-append_left gs (g x ++ fs) (fs ++ g x) (IsPermutation-append_comm (g x) fs)))))

-- ---- classes

pub filter-same : {X : Type 0} (p q : X → Bool) (xs : List X) → ((x : X) → In x xs → p x ≡ q x)
    → filter p xs ≡ filter q xs
filter-same p q [] same = refl
filter-same {X} p q (x ∷ xs) same =
    ap (λ (b : Bool). cond b (x ∷ filter p xs) (filter p xs)) (same x (inl refl))
    ∙ ap (λ (l : List X). cond (q x) (x ∷ l) l) (filter-same p q xs (λ y at. same y (inr at)))

pub filter-all : {X : Type 0} (p : X → Bool) (xs : List X) → ((x : X) → In x xs → p x ≡ true)
    → filter p xs ≡ xs
filter-all p [] all = refl
filter-all {X} p (x ∷ xs) all =
    ap (λ (b : Bool). cond b (x ∷ filter p xs) (filter p xs)) (all x (inl refl))
    ∙ ap (λ (l : List X). x ∷ l) (filter-all p xs (λ y at. all y (inr at)))

pub filter-none : {X : Type 0} (p : X → Bool) (xs : List X) → ((x : X) → In x xs → p x ≡ false)
    → filter p xs ≡ []
filter-none p [] none = refl
filter-none {X} p (x ∷ xs) none =
    ap (λ (b : Bool). cond b (x ∷ filter p xs) (filter p xs)) (none x (inl refl))
    ∙ filter-none p xs (λ y at. none y (inr at))

filter-flat : {X : Type 0} (p : X → Bool) (xs : List X)
    → filter p xs ≡ flat_map (λ x. cond (p x) (x ∷ []) []) xs
filter-flat p [] = refl
filter-flat {X} p (x ∷ xs) =
    ap (λ (l : List X). cond (p x) (x ∷ l) l) (filter-flat p xs)
    ∙ by (p x) (flat_map (λ y. cond (p y) (y ∷ []) []) xs)
  where
    by : (b : Bool) (l : List X) → cond b (x ∷ l) l ≡ cond b (x ∷ []) [] ++ l
    by true l = refl
    by false l = refl

-- Of two lists with the same elements a test keeps the same ones.
pub filter-moved : {X : Type 0} (p : X → Bool) (xs ys : List X) → IsPermutation xs ys
    → IsPermutation (filter p xs) (filter p ys)
filter-moved {X} p xs ys moved =
    subst (λ (l : List X). IsPermutation l (filter p ys)) (sym (filter-flat p xs))
    (subst (IsPermutation (flat_map (λ x. cond (p x) (x ∷ []) []) xs)) (sym (filter-flat p ys))
    (flat-moved (λ x. cond (p x) (x ∷ []) []) xs ys moved))

pub alone-moved : {X : Type 0} (x : X) (ys : List X) → IsPermutation (x ∷ []) ys → ys ≡ x ∷ []
alone-moved {X} x ys moved = by ys (length_permutation (x ∷ []) ys moved) (in-permuted x (x ∷ []) ys moved (inl refl))
  where
    by : (l : List X) → length l ≡ 1 → In x l → l ≡ x ∷ []
    by [] long at = absurd at
    by (y ∷ []) long (inl same) = ap (λ (z : X). z ∷ []) same
    by (y ∷ []) long (inr none) = absurd none
    by (y ∷ z ∷ l) long at = absurd (omega (arith, long))

-- What passes one test and what passes another that no element passes too.
pub either-kept : {X : Type 0} (p q : X → Bool) (xs : List X)
    → ((x : X) → In x xs → p x ≡ true → q x ≡ false)
    → IsPermutation (filter p xs ++ filter q xs) (filter (λ x. p x || q x) xs)
either-kept p q [] apart = IsPermutation-refl []
either-kept {X} p q (x ∷ xs) apart =
    by (p x) (q x) refl refl (either-kept p q xs (λ y at. apart y (inr at)))
  where
    both : List X
    both = filter (λ y. p y || q y) xs

    by : (b c : Bool) → p x ≡ b → q x ≡ c → IsPermutation (filter p xs ++ filter q xs) both
        → IsPermutation (cond b (x ∷ filter p xs) (filter p xs) ++ cond c (x ∷ filter q xs) (filter q xs))
        (cond (b || c) (x ∷ both) both)
    by true true e f rest = absurd (true≢false (sym f ∙ apart x (inl refl) e))
    by true false e f rest = IsPermutation-cons x _ _ rest
    by false true e f rest =
        IsPermutation-trans (filter p xs ++ x ∷ filter q xs) (x ∷ (filter p xs ++ filter q xs)) (x ∷ both)
        (IsPermutation-middle (filter p xs) x (filter q xs)) (IsPermutation-cons x _ _ rest)
    by false false e f rest = rest

none-of : {K X : Type 0} (is : K → X → Bool) (x : X) (ks : List K)
    → Each (λ k. is k x ≡ false) ks → list_any (λ k. is k x) ks ≡ false
none-of is x [] none = refl
none-of is x (k ∷ ks) none =
    ap (λ (b : Bool). b || list_any (λ k. is k x) ks) none.0 ∙ none-of is x ks none.1

each-is : {K : Type 0} (P Q : K → Type 0) (ks : List K) → ((k : K) → P k → Q k) → Each P ks → Each Q ks
each-is P Q [] follows all = tt
each-is P Q (k ∷ ks) follows all = (follows k all.0, each-is P Q ks follows all.1)

-- The classes of some keys, no element in two of them, have together what is in one of them.
pub classes : {K X : Type 0} (is : K → X → Bool) (ks : List K) (xs : List X)
    → Twos (λ k l. (x : X) → In x xs → is k x ≡ true → is l x ≡ false) ks
    → IsPermutation (flat_map (λ k. filter (is k) xs) ks) (filter (λ x. list_any (λ k. is k x) ks) xs)
classes is [] xs apart = moved-same [] _ (sym (filter-none (λ x. false) xs (λ x at. refl)))
classes {K} {X} is (k ∷ ks) xs apart =
    IsPermutation-trans (filter (is k) xs ++ flat_map (λ l. filter (is l) xs) ks)
    (filter (is k) xs ++ filter (λ x. list_any (λ l. is l x) ks) xs)
    (filter (λ x. is k x || list_any (λ l. is l x) ks) xs)
    (IsPermutation-append_right (filter (is k) xs) _ _ (classes is ks xs apart.1))
    (either-kept (is k) (λ x. list_any (λ l. is l x) ks) xs (λ x at yes.
    none-of is x ks (each-is (λ (l : K). (y : X) → In y xs → is k y ≡ true → is l y ≡ false)
    (λ (l : K). is l x ≡ false) ks (λ l no. no x at yes) apart.0)))

-- ---- lists of which each two are apart

record Follows {X : Type 0} (R : X → X → Type 0) (xs ys : List X) : Type 0 where
  twos : Twos R xs → Twos R ys
  among : (x : X) → In x ys → In x xs

-- Another order of a list of which each two are apart is such a list.
pub twos-moved : {X : Type 0} (R : X → X → Type 0) → ((x y : X) → R x y → R y x) → (xs ys : List X)
    → IsPermutation xs ys → Twos R xs → Twos R ys
twos-moved {X} R flips xs ys moved = (along (Follows R) same skip turn chain xs ys moved).twos
  where
    same : (zs : List X) → Follows R zs zs
    same zs = record { twos = λ t. t; among = λ x at. at }

    skip : (x : X) (ls ms : List X) → Follows R ls ms → Follows R (x ∷ ls) (x ∷ ms)
    skip x ls ms f = record {
      twos = λ t. (each-from (R x) ms (λ z at. each-in (R x) z ls t.0 (f.among z at)), f.twos t.1);
      among = under x ls ms f;
    }
      where
        under : (x : X) (ls ms : List X) → Follows R ls ms → (z : X) → In z (x ∷ ms) → In z (x ∷ ls)
        under x ls ms f z (inl e) = inl e
        under x ls ms f z (inr at) = inr (f.among z at)

    turn : (x y : X) (zs : List X) → Follows R (x ∷ y ∷ zs) (y ∷ x ∷ zs)
    turn x y zs = record {
      twos = λ t. ((flips x y t.0.0, t.1.0), (t.0.1, t.1.1));
      among = over x y zs;
    }
      where
        over : (x y : X) (zs : List X) → (z : X) → In z (y ∷ x ∷ zs) → In z (x ∷ y ∷ zs)
        over x y zs z (inl e) = inr (inl e)
        over x y zs z (inr (inl e)) = inl e
        over x y zs z (inr (inr at)) = inr (inr at)

    chain : (ls ms cs : List X) → Follows R ls ms → Follows R ms cs → Follows R ls cs
    chain ls ms cs f g = record {
      twos = λ t. g.twos (f.twos t);
      among = λ x at. f.among x (g.among x at);
    }

-- ---- another order of what is told

record Lifts {X Y : Type 0} (f : X → Y) (us ys : List Y) : Type 0 where
  lift : (xs : List X) → map f xs ≡ us → (zs : List X) × IsPermutation xs zs × (map f zs ≡ ys)

-- An order of what is told of some things is what is told of an order of these.
pub lifted : {X Y : Type 0} (f : X → Y) (xs : List X) (ys : List Y) → IsPermutation (map f xs) ys
    → (zs : List X) × IsPermutation xs zs × (map f zs ≡ ys)
lifted {X} {Y} f xs ys moved = (along (Lifts f) same skip turn chain (map f xs) ys moved).lift xs refl
  where
    head-is : (x y : Y) (us vs : List Y) → x ∷ us ≡ y ∷ vs → x ≡ y
    head-is x y us vs e = cc

    tail-is : (x y : Y) (us vs : List Y) → x ∷ us ≡ y ∷ vs → us ≡ vs
    tail-is x y us vs e = cc

    same : (us : List Y) → Lifts f us us
    same us = record { lift = λ zs e. (zs, IsPermutation-refl zs, e) }

    skip : (x : Y) (us vs : List Y) → Lifts f us vs → Lifts f (x ∷ us) (x ∷ vs)
    skip x us vs l = record { lift = by x us vs l }
      where
        by : (x : Y) (us vs : List Y) → Lifts f us vs → (zs : List X) → map f zs ≡ x ∷ us
            → (ws : List X) × IsPermutation zs ws × (map f ws ≡ x ∷ vs)
        by x us vs l [] e = absurd cc
        by x us vs l (z ∷ zs) e =
            let w = l.lift zs (tail-is (f z) x (map f zs) us e) in (
              z ∷ w.0,
              IsPermutation-cons z zs w.0 w.1,
              ap (λ (y : Y). y ∷ map f w.0) (head-is (f z) x (map f zs) us e) ∙ ap (λ (l : List Y). x ∷ l) w.2,
            )

    turn : (x y : Y) (us : List Y) → Lifts f (x ∷ y ∷ us) (y ∷ x ∷ us)
    turn x y us = record { lift = by x y us }
      where
        by : (x y : Y) (us : List Y) → (zs : List X) → map f zs ≡ x ∷ y ∷ us
            → (ws : List X) × IsPermutation zs ws × (map f ws ≡ y ∷ x ∷ us)
        by x y us [] e = absurd cc
        by x y us (a ∷ []) e = absurd cc
        by x y us (a ∷ b ∷ zs) e =
            let rest = tail-is (f a) x (f b ∷ map f zs) (y ∷ us) e in (
              b ∷ a ∷ zs,
              IsPermutation-append_left zs (a ∷ b ∷ []) (b ∷ a ∷ []) (IsPermutation-append_comm (a ∷ []) (b ∷ [])),
              ap (λ (v : Y). v ∷ f a ∷ map f zs) (head-is (f b) y (map f zs) us rest)
                  ∙ (ap (λ (v : Y). y ∷ v ∷ map f zs) (head-is (f a) x (f b ∷ map f zs) (y ∷ us) e)
                  ∙ ap (λ (l : List Y). y ∷ x ∷ l) (tail-is (f b) y (map f zs) us rest)),
            )

    chain : (us vs ws : List Y) → Lifts f us vs → Lifts f vs ws → Lifts f us ws
    chain us vs ws l k = record { lift = by us vs ws l k }
      where
        by : (us vs ws : List Y) → Lifts f us vs → Lifts f vs ws → (zs : List X) → map f zs ≡ us
            → (qs : List X) × IsPermutation zs qs × (map f qs ≡ ws)
        by us vs ws l k zs e =
            let one = l.lift zs e in
            let two = k.lift one.0 one.2 in
            (two.0, IsPermutation-trans zs one.0 two.0 one.1 two.1, two.2)

-- ---- lists in parts

pub twos-front : {X : Type 0} (R : X → X → Type 0) (xs ys : List X) → Twos R (xs ++ ys) → Twos R xs
twos-front R [] ys twos = tt
twos-front {X} R (x ∷ xs) ys twos = (front xs twos.0, twos-front R xs ys twos.1)
  where
    front : (zs : List X) → Each (R x) (zs ++ ys) → Each (R x) zs
    front [] each = tt
    front (z ∷ zs) each = (each.0, front zs each.1)

pub twos-across : {X : Type 0} (R : X → X → Type 0) (xs ys : List X) → Twos R (xs ++ ys)
    → (x y : X) → In x xs → In y ys → R x y
twos-across R [] ys twos x y at there = absurd at
twos-across {X} R (z ∷ xs) ys twos x y (inl same) there =
    subst (λ (w : X). R w y) same (behind xs twos.0)
  where
    behind : (zs : List X) → Each (R z) (zs ++ ys) → R z y
    behind [] each = each-in (R z) y ys each there
    behind (w ∷ zs) each = behind zs each.1
twos-across R (z ∷ xs) ys twos x y (inr at) there = twos-across R xs ys twos.1 x y at there

each-append : {X : Type 0} (P : X → Type 0) (xs ys : List X) → Each P xs → Each P ys → Each P (xs ++ ys)
each-append P [] ys one two = two
each-append P (x ∷ xs) ys one two = (one.0, each-append P xs ys one.1 two)

pub twos-flat : {K X : Type 0} (R : X → X → Type 0) (f : K → List X) (ks : List K)
    → ((k : K) → In k ks → Twos R (f k))
    → Twos (λ k l. (x y : X) → In x (f k) → In y (f l) → R x y) ks → Twos R (flat_map f ks)
twos-flat R f [] own across = tt
twos-flat {K} {X} R f (k ∷ ks) own across =
    both (f k) (own k (inl refl)) (λ x at. x-all x at ks across.0)
    (twos-flat R f ks (λ l at. own l (inr at)) across.1)
  where
    x-all : (x : X) → In x (f k) → (ls : List K)
        → Each (λ l. (x y : X) → In x (f k) → In y (f l) → R x y) ls → Each (R x) (flat_map f ls)
    x-all x at [] each = tt
    x-all x at (l ∷ ls) each =
        each-append (R x) (f l) (flat_map f ls)
        (each-from (R x) (f l) (λ y there. each.0 x y at there)) (x-all x at ls each.1)

    both : (xs : List X) → Twos R xs → ((x : X) → In x xs → Each (R x) (flat_map f ks))
        → Twos R (flat_map f ks) → Twos R (xs ++ flat_map f ks)
    both [] one all two = two
    both (x ∷ xs) one all two =
        (each-append (R x) xs (flat_map f ks) one.0 (all x (inl refl)), both xs one.1 (λ y at. all y (inr at)) two)
