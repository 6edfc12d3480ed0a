-- Positions of keys, of one item after the other.
use Rattle.std.proofs.Common.{◌≡◌, ℕ, ◌+◌, ◌<◌, ◌≤◌, zero, suc, Option, None, Some, List, [], ◌∷◌}
use Rattle.std.proofs.Common.{◌++◌, length, get_or, drop, map, refl, sym, ap, ◌∙◌, arith}
use Rattle.std.proofs.lemmas.List.{append_assoc, append-nil, drop_all, drop_more}
use Rattle.key_ids.specs.declared.identifier.KeyId.{KeyId}
use Rattle.issue_keys.specs.declared.key_index.KeyPosition.{KeyPosition}
use Rattle.issue_keys.specs.Indexes.{key_positions}

pub cons-positions : (n : ℕ) (key : Option KeyId) (keys : List (Option KeyId))
    → key_positions n (key ∷ keys) ≡ key_positions n (key ∷ []) ++ key_positions (n + 1) keys
cons-positions n None keys = refl
cons-positions n (Some key) keys = refl

-- Items without a key are passed over.
pub passed : {A : Type 0} (f : A → Option KeyId) (n m : ℕ) (xs : List A)
    → ((k : ℕ) (d : A) → k < m → f (get_or xs k d) ≡ None) → m ≤ length xs
    → key_positions n (map f xs) ≡ key_positions (n + m) (map f (drop m xs))
passed f n zero xs none within =
    let same : n ≡ n + 0 = omega arith in
    ap (λ (k : ℕ). key_positions k (map f xs)) same
passed f n (suc m) [] none within = absurd (omega (arith, within))
passed f n (suc m) (x ∷ xs) none within =
    let same : (n + 1) + m ≡ n + suc m = omega arith in
    ap (λ (o : Option KeyId). key_positions n (o ∷ map f xs)) (none 0 x (omega arith))
    ∙ (passed f (n + 1) m xs (λ k d lt. none (suc k) d (omega (arith, lt))) (omega (arith, within))
    ∙ ap (λ (k : ℕ). key_positions k (map f (drop m xs))) same)

pub no-positions : {A : Type 0} (f : A → Option KeyId) (n : ℕ) (xs : List A)
    → ((k : ℕ) (d : A) → k < length xs → f (get_or xs k d) ≡ None) → key_positions n (map f xs) ≡ []
no-positions f n [] none = refl
no-positions f n (x ∷ xs) none =
    ap (λ (o : Option KeyId). key_positions n (o ∷ map f xs)) (none 0 x (omega arith))
    ∙ no-positions f (n + 1) xs (λ k d lt. none (suc k) d (omega (arith, lt)))

-- ---- a loop that appends them

pub positions-none : {A : Type 0} (f : A → Option KeyId) (xs : List A) (now : List KeyPosition) → now ≡ []
    → key_positions 0 (map f xs) ≡ now ++ key_positions 0 (map f (drop 0 xs))
positions-none f xs now is = ap (λ (l : List KeyPosition). l ++ key_positions 0 (map f xs)) (sym is)

pub positions-more : {A : Type 0} (f : A → Option KeyId) (xs : List A) (i : ℕ) (x : A)
    (whole before after : List KeyPosition)
    → i < length xs → x ≡ get_or xs i x → whole ≡ before ++ key_positions i (map f (drop i xs))
    → after ≡ before ++ key_positions i (f x ∷ [])
    → whole ≡ after ++ key_positions (i + 1) (map f (drop (i + 1) xs))
positions-more {A} f xs i x whole before after lt is was adds =
    let rest = map f (drop (i + 1) xs) in
    let one = key_positions i (f x ∷ []) in
    let more : key_positions i (map f (drop i xs)) ≡ one ++ key_positions (i + 1) rest =
    ap (λ (l : List A). key_positions i (map f l)) (drop_more xs i x lt)
    ∙ (ap (λ (y : A). key_positions i (f y ∷ rest)) (sym is) ∙ cons-positions i (f x) rest) in
    was ∙ (ap (λ (l : List KeyPosition). before ++ l) more
    ∙ (sym (append_assoc before one (key_positions (i + 1) rest))
    ∙ ap (λ (l : List KeyPosition). l ++ key_positions (i + 1) rest) (sym adds)))

pub positions-all : {A : Type 0} (f : A → Option KeyId) (xs : List A) (i : ℕ) (whole now : List KeyPosition)
    → length xs ≤ i → whole ≡ now ++ key_positions i (map f (drop i xs)) → whole ≡ now
positions-all {A} f xs i whole now end was =
    was ∙ (ap (λ (l : List A). now ++ key_positions i (map f l)) (drop_all i xs end) ∙ append-nil now)
