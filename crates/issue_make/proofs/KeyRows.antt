-- What holds of an edition's keys, those that stay and those that were made.
use Rattle.std.proofs.Common.{◌≡◌, ◌≢◌, ℕ, ◌≤◌, suc, Bool, true, false, not, ◌||◌, cond, Option, List, [], ◌∷◌, ◌++◌, length, get_or, map, filter, refl, sym, ap, subst, ◌∙◌, arith}
use Rattle.std.specs.List.{All, AllPairs}
use Rattle.std.specs.List.Sorted.{IsNonDecreasing, IsNonDecreasingBy}
use Rattle.std.specs.Str.{bytes_eq}
use Rattle.std.proofs.lemmas.List.{get_or-map, length-map}
use Rattle.std.proofs.lemmas.List.Elements.{All-append, All-cons}
use Rattle.std.proofs.lemmas.List.Kept.{AllPairs-filter, AllPairs-cons}
use Rattle.std.proofs.lemmas.List.Sorted.{All-permutation, IsNonDecreasingBy-from_sort}
use Rattle.std.proofs.lemmas.Slice.Eq.{bytes_eq-Decides}
use Rattle.signer_api.specs.declared.values.PublicKey.{PublicKey}
use Rattle.key_roll.specs.declared.rows.KeyRow.{KeyRow}
use Rattle.key_roll.specs.declared.work.Work.{Work}
use Rattle.key_roll.specs.declared.work.NewKey.{NewKey}
use Rattle.key_roll.specs.declared.work.RoleWork.{RoleWork}
use Rattle.issue_keys.specs.Keys.{id_of, is_dropped, with_role, role_of, kept_rows, fresh_row, fresh_rows, AreFresh}
use Rattle.issue_keys.specs.Making.{AreApart, clashes}
use Rattle.issue_make.proofs.Parts.{all-of-map}
use Rattle.issue_keys.specs.laws.KeyLaws.{same-id}

-- ---- each of them

all-filter : {X : Type 0} (P : X → Type 0) (p : X → Bool) (xs : List X) → All P xs → All P (filter p xs)
all-filter P p [] all = all
all-filter {X} P p (x ∷ xs) all =
    by (p x) (all-filter P p xs (λ k d lt. all (suc k) d (omega arith)))
  where
    by : (b : Bool) → All P (filter p xs) → All P (cond b (x ∷ filter p xs) (filter p xs))
    by true rest = All-cons P x (filter p xs) (all 0 x (omega arith)) rest
    by false rest = rest

all-map : {X Y : Type 0} (P : X → Type 0) (Q : Y → Type 0) (f : X → Y) (xs : List X) → ((x : X) → P x → Q (f x)) → All P xs
    → All Q (map f xs)
all-map P Q f [] goes all = λ k d lt. absurd (omega arith)
all-map P Q f (x ∷ xs) goes all =
    All-cons Q (f x) (map f xs) (goes x (all 0 x (omega arith)))
    (all-map P Q f xs goes (λ k d lt. all (suc k) d (omega arith)))

-- What a row keeps whatever the work says of its role.
pub all-kept : (P : KeyRow → Type 0) (work : Work) (rows : List KeyRow)
    → ((row : KeyRow) (r : Option RoleWork) → P row → P (with_role row r)) → All P rows → All P (kept_rows work rows)
all-kept P work rows stays all =
    all-map P P (λ row. with_role row (role_of work.roles row)) (filter (λ row. not (is_dropped work.dropped row)) rows)
    (λ row. stays row (role_of work.roles row)) (all-filter P (λ row. not (is_dropped work.dropped row)) rows all)

all-made : (P : KeyRow → Type 0) (Q : NewKey → Type 0) (news : List NewKey) (keys : List PublicKey)
    → ((new : NewKey) (key : PublicKey) → Q new → P (fresh_row new key)) → All Q news → All P (fresh_rows news keys)
all-made P Q [] keys makes all = λ k d lt. absurd (omega arith)
all-made P Q (new ∷ news) [] makes all = λ k d lt. absurd (omega arith)
all-made P Q (new ∷ news) (key ∷ keys) makes all =
    All-cons P (fresh_row new key) (fresh_rows news keys) (makes new key (all 0 new (omega arith)))
    (all-made P Q news keys makes (λ k d lt. all (suc k) d (omega arith)))

-- What a row has for what is asked for it.
pub all-fresh : (P : KeyRow → Type 0) (Q : NewKey → Type 0) (new_keys : List NewKey) (fresh : List KeyRow)
    → ((new : NewKey) (key : PublicKey) → Q new → P (fresh_row new key)) → AreFresh new_keys fresh → All Q new_keys → All P fresh
all-fresh P Q new_keys fresh makes are all =
    subst (All P) (sym are.rows)
    (all-made P Q are.news are.keys makes (All-permutation Q new_keys are.news are.by_desk.permutation all))

-- ---- the desks of those that were made rise

desks-of : (news : List NewKey) (keys : List PublicKey) → length keys ≡ length news
    → map (λ row. row.desk) (fresh_rows news keys) ≡ map (λ new. new.desk) news
desks-of [] keys e = refl
desks-of (new ∷ news) [] e = absurd (omega arith)
desks-of (new ∷ news) (key ∷ keys) e = ap (λ (l : List ℕ). new.desk ∷ l) (desks-of news keys (omega arith))

numbers-rise : {X : Type 0} (n : X → ℕ) (xs : List X) → IsNonDecreasingBy n xs → IsNonDecreasing (map n xs)
numbers-rise n [] up i j d le inside = absurd (omega arith)
numbers-rise {X} n (x ∷ xs) up i j d le inside =
    let long : length (map n (x ∷ xs)) ≡ length (x ∷ xs) = length-map (x ∷ xs) n in
    let first : get_or (map n (x ∷ xs)) i d ≡ n (get_or (x ∷ xs) i x) = get_or-map n (x ∷ xs) i x d (omega arith) in
    let second : get_or (map n (x ∷ xs)) j d ≡ n (get_or (x ∷ xs) j x) = get_or-map n (x ∷ xs) j x d (omega arith) in
    let rises : n (get_or (x ∷ xs) i x) ≤ n (get_or (x ∷ xs) j x) = up i j x le (omega arith) in
    omega arith

pub desks-rise : (new_keys : List NewKey) (fresh : List KeyRow) → AreFresh new_keys fresh
    → IsNonDecreasing (map (λ row. row.desk) fresh)
desks-rise new_keys fresh are =
    subst IsNonDecreasing
    (sym (desks-of are.news are.keys are.each) ∙ ap (map (λ (row : KeyRow). row.desk)) (sym are.rows))
    (numbers-rise (λ (new : NewKey). new.desk) are.news
    (IsNonDecreasingBy-from_sort (λ (new : NewKey). new.desk) are.news are.by_desk.sorted))

-- ---- no two have one identifier

abbrev Differ : KeyRow → KeyRow → Type 0
Differ a b = id_of a ≢ id_of b

not-one : (ids : List (List ℕ)) (id : List ℕ) → clashes ids id ≡ false → All (λ other. other ≢ id) ids
not-one [] id none = λ k d lt. absurd (omega arith)
not-one (other ∷ ids) id none = by (bytes_eq other id) refl none (not-one ids id)
  where
    by : (b : Bool) → bytes_eq other id ≡ b → (b || clashes ids id) ≡ false → (clashes ids id ≡ false → All (λ o. o ≢ id) ids)
        → All (λ o. o ≢ id) (other ∷ ids)
    by true e h rest = absurd cc
    by false e h rest =
        All-cons (λ o. o ≢ id) other ids
        (λ same. let yes = (bytes_eq-Decides other id).1 same in absurd cc)
        (rest h)

pairs-behind : (xs ys : List KeyRow) → AllPairs Differ xs → All (λ y. All (λ x. Differ x y) xs) ys → AllPairs Differ ys
    → AllPairs Differ (xs ++ ys)
pairs-behind [] ys first between second = second
pairs-behind (x ∷ xs) ys first between second =
    AllPairs-cons Differ x (xs ++ ys)
    (All-append (Differ x) xs ys (λ k d lt. first 0 (suc k) d (omega arith) (omega arith))
    (λ k d lt. between k d lt 0 x (omega arith)))
    (pairs-behind xs ys (λ i j d low high. first (suc i) (suc j) d (omega arith) (omega arith))
    (λ k d lt m e low. between k d lt (suc m) e (omega arith)) second)

-- Keys that were made, none with one of the identifiers or that of another.
fresh-pairs : (ids : List (List ℕ)) (fresh : List KeyRow) → AreApart ids fresh
    → (All (λ row. All (λ id. id ≢ id_of row) ids) fresh) × AllPairs Differ fresh
fresh-pairs ids [] apart = (λ k d lt. absurd (omega arith), λ i j d low high. absurd (omega arith))
fresh-pairs ids (row ∷ fresh) apart =
    let rest = fresh-pairs (ids ++ id_of row ∷ []) fresh apart.1 in (
      All-cons (λ row. All (λ id. id ≢ id_of row) ids) row fresh (not-one ids (id_of row) apart.0)
          (λ k d lt m e low. front ids (id_of row) (id_of (get_or fresh k d)) (rest.0 k d lt) m e low),
      AllPairs-cons Differ row fresh (λ k d lt. last ids (id_of row) (id_of (get_or fresh k d)) (rest.0 k d lt)) rest.1,
    )
  where
    front : (xs : List (List ℕ)) (x y : List ℕ) → All (λ id. id ≢ y) (xs ++ x ∷ []) → All (λ id. id ≢ y) xs
    front [] x y all = λ k d lt. absurd (omega arith)
    front (z ∷ xs) x y all =
        All-cons (λ id. id ≢ y) z xs (all 0 z (omega arith)) (front xs x y (λ k d lt. all (suc k) d (omega arith)))

    last : (xs : List (List ℕ)) (x y : List ℕ) → All (λ id. id ≢ y) (xs ++ x ∷ []) → x ≢ y
    last [] x y all = all 0 x (omega arith)
    last (z ∷ xs) x y all = last xs x y (λ k d lt. all (suc k) d (omega arith))

map-pairs : (f : KeyRow → KeyRow) (rows : List KeyRow) → ((row : KeyRow) → id_of (f row) ≡ id_of row) → AllPairs Differ rows
    → AllPairs Differ (map f rows)
map-pairs f [] same pairs = λ i j d low high. absurd (omega arith)
map-pairs f (row ∷ rows) same pairs =
    AllPairs-cons Differ (f row) (map f rows)
    (all-map (Differ row) (Differ (f row)) f rows (λ other apart e. apart (sym (same row) ∙ (e ∙ same other)))
    (λ k d lt. pairs 0 (suc k) d (omega arith) (omega arith)))
    (map-pairs f rows same (λ i j d low high. pairs (suc i) (suc j) d (omega arith) (omega arith)))

pub keys-apart : (work : Work) (rows fresh : List KeyRow) → AllPairs (λ a b. id_of a ≢ id_of b) rows
    → AreApart (map id_of rows) fresh → AllPairs (λ a b. id_of a ≢ id_of b) (kept_rows work rows ++ fresh)
keys-apart work rows fresh apart new =
    let made = fresh-pairs (map id_of rows) fresh new in
    pairs-behind (kept_rows work rows) fresh
    (map-pairs (λ row. with_role row (role_of work.roles row)) (filter (λ row. not (is_dropped work.dropped row)) rows)
    (λ row. same-id row (role_of work.roles row))
    (AllPairs-filter Differ (λ row. not (is_dropped work.dropped row)) rows apart))
    (λ k d lt. all-kept (λ row. Differ row (get_or fresh k d)) work rows
    (λ row r other e. other (sym (same-id row r) ∙ e))
    (all-of-map (λ id. id ≢ id_of (get_or fresh k d)) id_of rows (made.0 k d lt)))
    made.1
