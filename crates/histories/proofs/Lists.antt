-- Lists that grow, and lists of which one is changed.
use Rattle.std.proofs.Common.{◌≡◌, ◌⊎◌, ℕ, ◌<◌, zero, suc, refl, sym, subst, ◌∙◌, ap, arith, inl, inr, ⊎_elim, List, [], ◌∷◌, ◌++◌, length, take, Some, None}
use Rattle.std.specs.Prelude.{Option, IfSome, slice_get}
use Rattle.std.proofs.lemmas.List.{take-append-le, take-take}
use Rattle.std.proofs.lemmas.Option.{none-some, slice_get_within}
use Rattle.std.proofs.Math.Seq.{take-append_seam}
use Rattle.histories.specs.Devices.{changed_at}
use Rattle.histories.specs.Legal.{InTurn}

pub same_one : {X : Type 0} (one other : X) → Some one ≡ Some other → one ≡ other
same_one one other same = cc

pub weaker : {X : Type 0} (o : Option X) (P Q : X → Type 0) → ((x : X) → P x → Q x) → IfSome o P → IfSome o Q
weaker None P Q f h = tt
weaker (Some x) P Q f h = f x h

-- ---- each in turn

-- What stands at a place of a list with one more behind: one of them, or that one.
pub placed : {X : Type 0} (xs : List X) (x : X) (place : ℕ) (y : X) → slice_get (xs ++ x ∷ []) place ≡ Some y
    → (slice_get xs place ≡ Some y) ⊎ ((place ≡ length xs) × (x ≡ y))
placed [] x zero y there = inr (refl, same_one x y there)
placed [] x (suc place) y there = absurd (none-some y there)
placed (first ∷ xs) x zero y there = inl there
placed (first ∷ xs) x (suc place) y there =
    ⊎_elim (λ t. inl t) (λ t. inr (ap suc t.0, t.1)) (placed xs x place y there)

pub one_more : {X : Type 0} (May : List X → X → Type 0) (xs : List X) (x : X)
    → InTurn May xs → May xs x → InTurn May (xs ++ x ∷ [])
one_more {X} May xs x turns next = λ place y there. ⊎_elim
    (λ (old : slice_get xs place ≡ Some y).
    let within = slice_get_within xs place y old in
    let same : take place (xs ++ x ∷ []) ≡ take place xs = take-append-le place xs (x ∷ []) (omega (arith, within)) in
    subst (λ (taken : List X). May taken y) (sym same) (turns place y old))
    (λ (new : (place ≡ length xs) × (x ≡ y)).
    let taken : take place (xs ++ x ∷ []) ≡ xs = ap (λ (n : ℕ). take n (xs ++ x ∷ [])) new.0 ∙ take-append_seam xs (x ∷ []) in
    subst (λ (all : List X). May all y) (sym taken) (subst (λ (one : X). May xs one) new.1 next))
    (placed xs x place y there)

pub turns_weaker : {X : Type 0} (May More : List X → X → Type 0) (xs : List X)
    → ((before : List X) (x : X) → May before x → More before x) → InTurn May xs → InTurn More xs
turns_weaker May More xs f turns = λ place x there. f (take place xs) x (turns place x there)

-- What stands in the first so many of a list.
in_front : {X : Type 0} (n : ℕ) (xs : List X) (place : ℕ) (y : X) → slice_get (take n xs) place ≡ Some y
    → (slice_get xs place ≡ Some y) × (place < n)
in_front zero xs place y there = absurd (none-some y there)
in_front (suc n) [] place y there = absurd (none-some y there)
in_front (suc n) (x ∷ xs) zero y there = (there, omega arith)
in_front (suc n) (x ∷ xs) (suc place) y there = let rest = in_front n xs place y there in (rest.0, omega (arith, rest.1))

pub short : {X : Type 0} (May : List X → X → Type 0) (xs : List X) (n : ℕ) → InTurn May xs → InTurn May (take n xs)
short {X} May xs n turns = λ place y there.
    let whole = in_front n xs place y there in
    subst (λ (taken : List X). May taken y) (sym (take-take place n xs (omega (arith, whole.1)))) (turns place y whole.0)

-- The first so many of a list in turn, and the next one.
pub front : {X : Type 0} (May : List X → X → Type 0) (xs : List X) (place : ℕ) (x : X) → slice_get xs place ≡ Some x
    → InTurn May xs → InTurn May (take place xs ++ x ∷ [])
front May xs place x there turns =
    one_more May (take place xs) x (short May xs place turns) (turns place x there)

-- The first so many and the next one are the first so many and one.
pub taken_with : {X : Type 0} (xs : List X) (place : ℕ) (x : X) → slice_get xs place ≡ Some x
    → take (suc place) xs ≡ take place xs ++ x ∷ []
taken_with [] place x there = absurd (none-some x there)
taken_with {X} (first ∷ xs) zero x there = ap (λ (one : X). one ∷ []) (same_one first x there)
taken_with {X} (first ∷ xs) (suc place) x there = ap (λ (rest : List X). first ∷ rest) (taken_with xs place x there)

-- What stands at the seam of two lists.
pub seam : {X : Type 0} (before : List X) (x : X) (later : List X) → slice_get (before ++ x ∷ later) (length before) ≡ Some x
seam [] x later = refl
seam (first ∷ before) x later = seam before x later

-- ---- one of a list changed

pub count_changed : {X : Type 0} (n : ℕ) (f : X → X) (xs : List X) → length (changed_at n f xs) ≡ length xs
count_changed n f [] = refl
count_changed zero f (x ∷ xs) = refl
count_changed (suc n) f (x ∷ xs) = ap suc (count_changed n f xs)

-- What stands there then: what stood there, or the change of it.
pub at_changed : {X : Type 0} (n : ℕ) (f : X → X) (xs : List X) (m : ℕ) (y : X) → slice_get (changed_at n f xs) m ≡ Some y
    → (slice_get xs m ≡ Some y) ⊎ ((m ≡ n) × (x : X) × (slice_get xs n ≡ Some x) × (f x ≡ y))
at_changed n f [] m y there = inl there
at_changed zero f (x ∷ xs) zero y there = inr (refl, x, refl, same_one (f x) y there)
at_changed zero f (x ∷ xs) (suc m) y there = inl there
at_changed (suc n) f (x ∷ xs) zero y there = inl there
at_changed (suc n) f (x ∷ xs) (suc m) y there =
    ⊎_elim (λ t. inl t) (λ t. inr (ap suc t.0, t.1, t.2, t.3)) (at_changed n f xs m y there)

-- The changed one.
pub changed_there : {X : Type 0} (n : ℕ) (f : X → X) (xs : List X) (x : X) → slice_get xs n ≡ Some x
    → slice_get (changed_at n f xs) n ≡ Some (f x)
changed_there n f [] x there = absurd (none-some x there)
changed_there zero f (first ∷ xs) x there = ap (λ one. Some (f one)) (same_one first x there)
changed_there (suc n) f (first ∷ xs) x there = changed_there n f xs x there

-- What holds of what stands at a place, and of the change of it if that is changed, holds of what stands there then.
pub changed_still : {X : Type 0} (P : X → Type 0) (n : ℕ) (f : X → X) (xs : List X) (m : ℕ) (x : X) → slice_get xs m ≡ Some x
    → P x → (n ≡ m → P (f x)) → (y : X) × (slice_get (changed_at n f xs) m ≡ Some y) × P y
changed_still P n f [] m x there holds changed = absurd (none-some x there)
changed_still P zero f (first ∷ xs) zero x there holds changed = (f x, ap (λ one. Some (f one)) (same_one first x there), changed refl)
changed_still P zero f (first ∷ xs) (suc m) x there holds changed = (x, there, holds)
changed_still P (suc n) f (first ∷ xs) zero x there holds changed = (x, there, holds)
changed_still P (suc n) f (first ∷ xs) (suc m) x there holds changed =
    changed_still P n f xs m x there holds (λ same. changed (ap suc same))
