-- The first position of a key in a list: what an index finds is what stands first in the list.
use Rattle.std.proofs.Common.{◌≡◌, ℕ, ◌+◌, ◌-◌, ◌<◌, ◌≤◌, suc, Bool, true, false, cond, ◌||◌}
use Rattle.std.proofs.Common.{Option, None, Some, List, [], ◌∷◌, length, map, find}
use Rattle.std.proofs.Common.{refl, sym, ap, subst, ◌∙◌, arith}
use Rattle.std.specs.List.{slice_get, list_any, position_from}
use Rattle.std.specs.Option.{option_map, is_some}
use Rattle.std.specs.Str.{bytes_eq}
use Rattle.key_ids.specs.declared.identifier.KeyId.{KeyId}
use Rattle.issue_keys.specs.declared.key_index.KeyPosition.{KeyPosition}
use Rattle.issue_keys.specs.Under.{positions_under}
use Rattle.issue_keys.specs.Indexes.{key_positions, IsIndex, has_id, first_at}

abbrev pub first_of : List KeyPosition → Option ℕ
first_of positions = option_map (λ entry. entry.position) (slice_get positions 0)

first-positioned : (keys : List (Option KeyId)) (n : ℕ) (id : List ℕ)
    → first_of (positions_under id (key_positions n keys)) ≡ position_from (has_id id) n keys
first-positioned [] n id = refl
first-positioned (None ∷ keys) n id = first-positioned keys (n + 1) id
first-positioned (Some k ∷ keys) n id = by (bytes_eq k.bytes id) (first-positioned keys (n + 1) id)
  where
    by : (b : Bool)
        → first_of (positions_under id (key_positions (n + 1) keys))
        ≡ position_from (has_id id) (n + 1) keys
        → first_of (cond b
        (record { key = k; position = n } ∷ positions_under id (key_positions (n + 1) keys))
        (positions_under id (key_positions (n + 1) keys)))
        ≡ cond b (Some n) (position_from (has_id id) (n + 1) keys)
    by true rest = refl
    by false rest = rest

-- What an index finds first.
pub first-is : (keys : List (Option KeyId)) (index : List KeyPosition) (id : List ℕ)
    → IsIndex keys index → first_of (positions_under id index) ≡ first_at id keys
first-is keys index id h = ap first_of (h id) ∙ first-positioned keys 0 id

-- The index of a list is that of an equal one.
pub index-moved : (keys others : List (Option KeyId)) (index : List KeyPosition)
    → keys ≡ others → IsIndex keys index → IsIndex others index
index-moved keys others index e h = subst (λ (l : List (Option KeyId)). IsIndex l index) e h

-- ---- the first item that passes a test

pub position-map : {A B : Type 0} (p : B → Bool) (f : A → B) (n : ℕ) (xs : List A)
    → position_from p n (map f xs) ≡ position_from (λ x. p (f x)) n xs
position-map p f n [] = refl
position-map p f n (x ∷ xs) =
    ap (λ (o : Option ℕ). cond (p (f x)) (Some n) o) (position-map p f (n + 1) xs)

past : {A : Type 0} (x : A) (xs : List A) (n k : ℕ)
    → n + 1 ≤ k → slice_get xs (k - (n + 1)) ≡ slice_get (x ∷ xs) (k - n)
past x xs n k le =
    let e : k - n ≡ suc (k - (n + 1)) = omega arith in
    sym (ap (slice_get (x ∷ xs)) e)

pub found : {A : Type 0} (p : A → Bool) (n : ℕ) (xs : List A) (k : ℕ)
    → position_from p n xs ≡ Some k
    → (n ≤ k) × (k < n + length xs) × (find p xs ≡ slice_get xs (k - n))
found p n [] k e = absurd cc
found {A} p n (x ∷ xs) k e = by (p x) (found p (n + 1) xs k) e
  where
    by : (b : Bool)
        → (position_from p (n + 1) xs ≡ Some k
        → (n + 1 ≤ k) × (k < (n + 1) + length xs) × (find p xs ≡ slice_get xs (k - (n + 1))))
        → cond b (Some n) (position_from p (n + 1) xs) ≡ Some k
        → (n ≤ k) × (k < n + length (x ∷ xs))
        × (cond b (Some x) (find p xs) ≡ slice_get (x ∷ xs) (k - n))
    by true rest e =
        let same : n ≡ k = cc in
        let none : k - n ≡ 0 = omega arith in
        (omega arith, omega arith, sym (ap (slice_get (x ∷ xs)) none))
    by false rest e =
        let r = rest e in
        (omega arith, omega arith, r.2 ∙ past x xs n k r.0)

pub missing : {A : Type 0} (p : A → Bool) (n : ℕ) (xs : List A)
    → position_from p n xs ≡ None → find p xs ≡ None
missing p n [] e = refl
missing {A} p n (x ∷ xs) e = by (p x) (missing p (n + 1) xs) e
  where
    by : (b : Bool)
        → (position_from p (n + 1) xs ≡ None → find p xs ≡ None)
        → cond b (Some n) (position_from p (n + 1) xs) ≡ None
        → cond b (Some x) (find p xs) ≡ None
    by true rest e = absurd cc
    by false rest e = rest e

pub any-found : {A : Type 0} (p : A → Bool) (n : ℕ) (xs : List A)
    → is_some (position_from p n xs) ≡ list_any p xs
any-found p n [] = refl
any-found {A} p n (x ∷ xs) = by (p x) (any-found p (n + 1) xs)
  where
    by : (b : Bool)
        → is_some (position_from p (n + 1) xs) ≡ list_any p xs
        → is_some (cond b (Some n) (position_from p (n + 1) xs)) ≡ (b || list_any p xs)
    by true rest = refl
    by false rest = rest

-- ---- what stands at a position that was found

abbrev pub At : {A : Type 0} → (A → Bool) → List A → Option ℕ → Type 0
At p xs None = find p xs ≡ None
At p xs (Some k) = (find p xs ≡ slice_get xs k) × (k < length xs)

pub at-found : {A : Type 0} (p : A → Bool) (xs : List A) (o : Option ℕ)
    → position_from p 0 xs ≡ o → At p xs o
at-found p xs None e = missing p 0 xs e
at-found p xs (Some k) e =
    let r = found p 0 xs k e in
    let same : k - 0 ≡ k = omega arith in
    (r.2 ∙ ap (slice_get xs) same, omega arith)

-- The same of an index over a list's keys.
pub at-index : {A : Type 0} (f : A → Option KeyId) (xs : List A) (index : List KeyPosition)
    (id : List ℕ) (o : Option ℕ)
    → IsIndex (map f xs) index → o ≡ first_of (positions_under id index)
    → At (λ (x : A). has_id id (f x)) xs o
at-index {A} f xs index id o h is =
    at-found (λ (x : A). has_id id (f x)) xs o
    (sym (is ∙ (first-is (map f xs) index id h ∙ position-map (has_id id) f 0 xs)))
