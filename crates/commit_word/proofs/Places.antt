-- Entries with their places: what stands in a list that was made of others, and that it rises.
use Rattle.std.proofs.Common.{◌≡◌, ◌≢◌, ◌⊎◌, ℕ, ◌+◌, ◌<◌, ◌≤◌, Bool, true, false, cond, nat_lt, List, [], ◌∷◌, ◌++◌, length, inl, inr, ⊎_elim, refl, ap, sym, ◌∙◌, subst, arith}
use Rattle.std.proofs.lemmas.Bool.Decides.{nat_tests}
use mathlib.Core.Logic.{dite}
use native.Mathlib.Decide.{ℕ_discrete}
use Rattle.commit_word.specs.Entries.{Has, Rises, ShareNoPlace, put_in, joined}

pub has_append : (xs ys : List (ℕ × List ℕ)) (place : ℕ) (entry : List ℕ) → Has (xs ++ ys) place entry → Has xs place entry ⊎ Has ys place entry
has_append [] ys place entry h = inr h
has_append (x ∷ xs) ys place entry h = ⊎_elim (λ t. inl (inl t)) (λ t. ⊎_elim (λ u. inl (inr u)) (λ u. inr u) (has_append xs ys place entry t)) h

pub has_front : (xs ys : List (ℕ × List ℕ)) (place : ℕ) (entry : List ℕ) → Has xs place entry → Has (xs ++ ys) place entry
has_front [] ys place entry h = absurd h
has_front (x ∷ xs) ys place entry h = ⊎_elim (λ t. inl t) (λ t. inr (has_front xs ys place entry t)) h

pub has_end : (xs : List (ℕ × List ℕ)) (place : ℕ) (entry : List ℕ) → Has (xs ++ (place, entry) ∷ []) place entry
has_end [] place entry = inl refl
has_end (x ∷ xs) place entry = inr (has_end xs place entry)

-- the one entry of a list of one
pub has_one : (place p : ℕ) (entry e : List ℕ) → Has ((place, entry) ∷ []) p e → (place ≡ p) × (entry ≡ e)
has_one place p entry e h = ⊎_elim (λ (t : (place, entry) ≡ (p, e)). (ap (λ x. x.0) t, ap (λ x. x.1) t)) (λ t. absurd t) h

-- an entry put in is the new one, or stood there
pub has_put_in : (x : ℕ × List ℕ) (ys : List (ℕ × List ℕ)) (place : ℕ) (entry : List ℕ) → Has (put_in x ys) place entry → (x ≡ (place, entry)) ⊎ Has ys place entry
has_put_in x [] place entry h = h
has_put_in x (y ∷ ys) place entry h = go (nat_lt x.0 y.0) (has_put_in x ys place entry) h
  where
    go : (b : Bool) → (Has (put_in x ys) place entry → (x ≡ (place, entry)) ⊎ Has ys place entry) → Has (cond b (x ∷ y ∷ ys) (y ∷ put_in x ys)) place entry → (x ≡ (place, entry)) ⊎ Has (y ∷ ys) place entry
    go true rest t = t
    go false rest t = ⊎_elim (λ u. inr (inl u)) (λ u. ⊎_elim (λ w. inl w) (λ w. inr (inr w)) (rest u)) t

pub put_in_has : (x : ℕ × List ℕ) (ys : List (ℕ × List ℕ)) (place : ℕ) (entry : List ℕ) → (x ≡ (place, entry)) ⊎ Has ys place entry → Has (put_in x ys) place entry
put_in_has x [] place entry h = h
put_in_has x (y ∷ ys) place entry h = go (nat_lt x.0 y.0) (put_in_has x ys place entry) h
  where
    go : (b : Bool) → ((x ≡ (place, entry)) ⊎ Has ys place entry → Has (put_in x ys) place entry) → (x ≡ (place, entry)) ⊎ Has (y ∷ ys) place entry → Has (cond b (x ∷ y ∷ ys) (y ∷ put_in x ys)) place entry
    go true rest t = t
    go false rest t = ⊎_elim (λ u. inr (rest (inl u))) (λ u. ⊎_elim (λ w. inl w) (λ w. inr (rest (inr w))) u) t

pub has_joined : (xs ys : List (ℕ × List ℕ)) (place : ℕ) (entry : List ℕ) → Has (joined xs ys) place entry → Has xs place entry ⊎ Has ys place entry
has_joined xs [] place entry h = inl h
has_joined xs (y ∷ ys) place entry h = ⊎_elim (λ t. inr (inl t)) (λ t. ⊎_elim (λ u. inl u) (λ u. inr (inr u)) (has_joined xs ys place entry t)) (has_put_in y (joined xs ys) place entry h)

pub joined_left : (xs ys : List (ℕ × List ℕ)) (place : ℕ) (entry : List ℕ) → Has xs place entry → Has (joined xs ys) place entry
joined_left xs [] place entry h = h
joined_left xs (y ∷ ys) place entry h = put_in_has y (joined xs ys) place entry (inr (joined_left xs ys place entry h))

pub joined_right : (xs ys : List (ℕ × List ℕ)) (place : ℕ) (entry : List ℕ) → Has ys place entry → Has (joined xs ys) place entry
joined_right xs [] place entry h = absurd h
joined_right xs (y ∷ ys) place entry h = put_in_has y (joined xs ys) place entry (⊎_elim (λ t. inl t) (λ t. inr (joined_right xs ys place entry t)) h)

length-put_in : (x : ℕ × List ℕ) (ys : List (ℕ × List ℕ)) → length (put_in x ys) ≡ length ys + 1
length-put_in x [] = refl
length-put_in x (y ∷ ys) = go (nat_lt x.0 y.0) (length-put_in x ys)
  where
    go : (b : Bool) → length (put_in x ys) ≡ length ys + 1 → length (cond b (x ∷ y ∷ ys) (y ∷ put_in x ys)) ≡ length (y ∷ ys) + 1
    go true rest = omega arith
    go false rest = omega arith

pub length-joined : (xs ys : List (ℕ × List ℕ)) → length (joined xs ys) ≡ length xs + length ys
length-joined xs [] = omega arith
length-joined xs (y ∷ ys) = omega (arith, length-put_in y (joined xs ys), length-joined xs ys)

-- put in at a place that stood nowhere, the list rises as before
pub rises_put_in : (x : ℕ × List ℕ) (ys : List (ℕ × List ℕ)) → Rises ys → ((entry : List ℕ) → Has ys x.0 entry → ⊥) → Rises (put_in x ys)
rises_put_in x [] up new = ((λ p e h. absurd h), tt)
rises_put_in x (y ∷ ys) up new = go (nat_lt x.0 y.0) refl (rises_put_in x ys up.1 (λ e h. new e (inr h)))
  where
    first : nat_lt x.0 y.0 ≡ true → (place : ℕ) (entry : List ℕ) → Has (y ∷ ys) place entry → x.0 < place
    first is place entry h =
        let below : x.0 < y.0 = grind (arith, nat_tests) in
        ⊎_elim (λ (t : y ≡ (place, entry)). subst (λ (n : ℕ). x.0 < n) (ap (λ z. z.0) t) below) (λ t. let far = up.0 place entry t in omega arith) h

    apart : x.0 ≡ y.0 → ⊥
    apart same = new y.1 (inl (λ i. (sym same i, y.1)))

    go : (b : Bool) → nat_lt x.0 y.0 ≡ b → Rises (put_in x ys) → Rises (cond b (x ∷ y ∷ ys) (y ∷ put_in x ys))
    go true is rest = (first is, up)
    go false is rest =
        let above : y.0 < x.0 = grind (arith, nat_tests, apart) in
        ((λ p e h. ⊎_elim (λ (t : x ≡ (p, e)). subst (λ (n : ℕ). y.0 < n) (ap (λ z. z.0) t) above) (λ t. up.0 p e t) (has_put_in x ys p e h)), rest)

-- where the list rises after an entry was put in, its place is new, and the list rose before
pub put_in_rises : (x : ℕ × List ℕ) (ys : List (ℕ × List ℕ)) → Rises (put_in x ys) → Rises ys × ((entry : List ℕ) → Has ys x.0 entry → ⊥)
put_in_rises x [] up = (tt, λ e h. h)
put_in_rises x (y ∷ ys) up = go (nat_lt x.0 y.0) refl (put_in_rises x ys) up
  where
    go : (b : Bool) → nat_lt x.0 y.0 ≡ b → (Rises (put_in x ys) → Rises ys × ((entry : List ℕ) → Has ys x.0 entry → ⊥)) → Rises (cond b (x ∷ y ∷ ys) (y ∷ put_in x ys)) → Rises (y ∷ ys) × ((entry : List ℕ) → Has (y ∷ ys) x.0 entry → ⊥)
    go true is rest t = (t.1, λ e h. let self = t.0 x.0 e h in omega arith)
    go false is rest t =
        let below = rest t.1 in
        let here : y.0 < x.0 = t.0 x.0 x.1 (put_in_has x ys x.0 x.1 (inl refl)) in (
          ((λ p e h. t.0 p e (put_in_has x ys p e (inr h))), below.0),
          λ e h. ⊎_elim (λ (w : y ≡ (x.0, e)). let same : y.0 ≡ x.0 = ap (λ z. z.0) w in absurd (omega arith)) (λ w. below.1 e w) h,
        )

pub rises_joined : (xs ys : List (ℕ × List ℕ)) → Rises xs → Rises ys → ShareNoPlace xs ys → Rises (joined xs ys)
rises_joined xs [] up down apart = up
rises_joined xs (y ∷ ys) up down apart =
    rises_put_in y (joined xs ys) (rises_joined xs ys up down.1 (λ p d e h k. apart p d e h (inr k)))
    (λ e h. ⊎_elim (λ t. apart y.0 e y.1 t (inl refl)) (λ t. let self = down.0 y.0 e t in absurd (omega arith)) (has_joined xs ys y.0 e h))

-- where the joined list rises, no place stands in both
pub joined_apart : (xs ys : List (ℕ × List ℕ)) → Rises (joined xs ys) → ShareNoPlace xs ys
joined_apart xs [] up p d e h k = k
joined_apart xs (y ∷ ys) up p d e h k =
    let both = put_in_rises y (joined xs ys) up in
    ⊎_elim
    (λ (t : y ≡ (p, e)). both.1 d (subst (λ (n : ℕ). Has (joined xs ys) n d) (sym (ap (λ z. z.0) t)) (joined_left xs ys p d h)))
    (λ t. joined_apart xs ys both.0 p d e h t)
    k

-- the same of the lists that contracts see
pub apart_as : (xs ys mine theirs : List (ℕ × List ℕ)) → Rises (joined xs ys) → xs ≡ mine → ys ≡ theirs → ShareNoPlace mine theirs
apart_as xs ys mine theirs up one other = subst (λ zs. ShareNoPlace zs theirs) one (subst (λ zs. ShareNoPlace xs zs) other (joined_apart xs ys up))

-- an entry past all others at the end
pub rises_snoc : (xs : List (ℕ × List ℕ)) (place : ℕ) (entry : List ℕ) → Rises xs → ((p : ℕ) (e : List ℕ) → Has xs p e → p < place) → Rises (xs ++ (place, entry) ∷ [])
rises_snoc [] place entry up below = ((λ p e h. absurd h), tt)
rises_snoc (x ∷ xs) place entry up below = (
  (λ p e h. ⊎_elim (λ t. up.0 p e t) (λ t. let one = has_one place p entry e t in subst (λ (n : ℕ). x.0 < n) one.0 (below x.0 x.1 (inl refl))) (has_append xs ((place, entry) ∷ []) p e h)),
  rises_snoc xs place entry up.1 (λ p e h. below p e (inr h)),
)

-- one entry past all others comes last
pub joined_end : (xs : List (ℕ × List ℕ)) (place : ℕ) (entry : List ℕ) → ((p : ℕ) (e : List ℕ) → Has xs p e → p < place) → joined xs ((place, entry) ∷ []) ≡ xs ++ (place, entry) ∷ []
joined_end xs place entry below = go xs below
  where
    go : (ys : List (ℕ × List ℕ)) → ((p : ℕ) (e : List ℕ) → Has ys p e → p < place) → put_in (place, entry) ys ≡ ys ++ (place, entry) ∷ []
    go [] low = refl
    go (y ∷ ys) low =
        let far : y.0 < place = low y.0 y.1 (inl refl) in
        let not_before : nat_lt place y.0 ≡ false = grind (arith, nat_tests) in
        rw not_before (ap (λ zs. y ∷ zs) (go ys (λ p e h. low p e (inr h))))

-- what rises from a place on has at most as many entries as there are places
pub rising_count : (xs : List (ℕ × List ℕ)) (low high : ℕ) → Rises xs → ((p : ℕ) (e : List ℕ) → Has xs p e → low ≤ p) → ((p : ℕ) (e : List ℕ) → Has xs p e → p < high) → length xs + low ≤ high ⊎ (xs ≡ [])
rising_count [] low high up past below = inr refl
rising_count (x ∷ xs) low high up past below =
    let first : low ≤ x.0 = past x.0 x.1 (inl refl) in
    let last : x.0 < high = below x.0 x.1 (inl refl) in
    ⊎_elim
    (λ (t : length xs + (x.0 + 1) ≤ high). inl (omega arith))
    (λ (t : xs ≡ []). let none : length xs ≡ 0 = ap length t in inl (omega arith))
    (rising_count xs (x.0 + 1) high up.1 (λ p e h. let after = up.0 p e h in omega arith) (λ p e h. below p e (inr h)))

-- where there are as many, each place is there
pub rising_covers : (xs : List (ℕ × List ℕ)) (low high : ℕ) → Rises xs → ((p : ℕ) (e : List ℕ) → Has xs p e → low ≤ p) → ((p : ℕ) (e : List ℕ) → Has xs p e → p < high) → length xs + low ≡ high
    → (place : ℕ) → low ≤ place → place < high → (entry : List ℕ) × Has xs place entry
rising_covers [] low high up past below all place from to = absurd (omega arith)
rising_covers (x ∷ xs) low high up past below all place from to =
    let first : low ≤ x.0 = past x.0 x.1 (inl refl) in
    let last : x.0 < high = below x.0 x.1 (inl refl) in
    let here : x.0 ≡ low =
    ⊎_elim
    (λ (t : length xs + (x.0 + 1) ≤ high). omega arith)
    (λ (t : xs ≡ []). let none : length xs ≡ 0 = ap length t in omega arith)
    (rising_count xs (x.0 + 1) high up.1 (λ p e h. let after = up.0 p e h in omega arith) (λ p e h. below p e (inr h))) in
    dite (ℕ_discrete place low)
    (λ (same : place ≡ low). (x.1, inl (λ i. ((here ∙ sym same) i, x.1))))
    (λ (far : place ≢ low).
    let rest = rising_covers xs (low + 1) high up.1 (λ p e h. let after = up.0 p e h in omega arith) (λ p e h. below p e (inr h)) (omega arith) place (omega arith) to in
    (rest.0, inr rest.1))
