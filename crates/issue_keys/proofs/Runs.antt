-- Of positions by the identifiers of their keys, those of a key are one run.
use Rattle.std.proofs.Common.{◌≡◌, ℕ, ◌+◌, ◌-◌, ◌<◌, ◌≤◌, zero, suc, Bool, true, false, not, ◌&&◌, List, [], ◌∷◌, ◌++◌, length, get_or, take, drop, filter, refl, sym, ap, subst, ◌∙◌, arith}
use Rattle.std.specs.List.{AllWithin}
use Rattle.std.specs.List.Sorted.{IsPartitionedBy, IsPartitionPoint, IsNonDecreasingBy, ties}
use Rattle.std.specs.Cmp.{IsTotalOrder, IsStrictWeakOrder}
use Rattle.std.specs.Cmp.Lexicographic.{nat_list_cmp_total}
use Rattle.std.specs.Str.{bytes_eq}
use Rattle.std.specs.Ordering.{is_lt, is_eq, ordering_index, ordering_reverse}
use Rattle.std.specs.declared.cmp.Ordering.{Ordering}
use Rattle.std.specs.declared.cmp.Ordering.TheVariants.{Less, Equal, Greater}
use denote.Param.Members.{Mut}
use denote.Ref.{Bor}
use Rattle.std.specs.Fn.{Called, ComparesAs}
use Rattle.std.proofs.lemmas.Fn.{always_returns_same}
use Rattle.std.proofs.lemmas.List.{take-append-drop, append-nil, get_or-drop, length-drop, length-take, get_or-take, take_rest}
use Rattle.std.proofs.lemmas.List.Elements.{filter-append, filter_agree}
use Rattle.std.proofs.lemmas.List.MinMax.{ranks_by}
use Rattle.std.proofs.lemmas.List.Sorted.{searchable_from_sorted}
use Rattle.std.proofs.lemmas.Map.Text.{is_eq-slice_cmp}
use Rattle.issue_keys.specs.declared.key_index.KeyPosition.{KeyPosition}
use Rattle.issue_keys.specs.Under.{id_cmp, is_under, positions_under, AreByKey}

pub id_total : IsTotalOrder id_cmp
id_total = nat_list_cmp_total

-- ---- what a stable sort keeps

pub by_key : IsStrictWeakOrder (λ (a b : KeyPosition). is_lt (id_cmp a.key.bytes b.key.bytes))
by_key = ranks_by id_total (λ (e : KeyPosition). e.key.bytes)

tied : (o : Ordering) → (not (is_lt (ordering_reverse o)) && not (is_lt o)) ≡ is_eq o
tied Less = refl
tied Equal = refl
tied Greater = refl

-- Those that tie with a position of that key are the positions under it.
tied-under : (x y : KeyPosition) → ties (λ (a b : KeyPosition). is_lt (id_cmp a.key.bytes b.key.bytes)) x y ≡ is_under x.key.bytes y
tied-under x y =
    ap (λ (o : Ordering). not (is_lt o) && not (is_lt (id_cmp y.key.bytes x.key.bytes))) (id_total.antisymm x.key.bytes y.key.bytes)
    ∙ (tied (id_cmp y.key.bytes x.key.bytes) ∙ is_eq-slice_cmp y.key.bytes x.key.bytes)

pub kept-under : (xs ys : List KeyPosition) → ((x : KeyPosition) → filter (ties (λ (a b : KeyPosition). is_lt (id_cmp a.key.bytes b.key.bytes)) x) ys ≡ filter (ties (λ (a b : KeyPosition). is_lt (id_cmp a.key.bytes b.key.bytes)) x) xs) → (id : List ℕ) → positions_under id ys ≡ positions_under id xs
kept-under xs ys stable id =
    let x : KeyPosition = record { key = record { bytes = id }; position = 0 } in
    sym (filter_agree (ties (λ (a b : KeyPosition). is_lt (id_cmp a.key.bytes b.key.bytes)) x) (is_under id) (tied-under x) ys)
    ∙ (stable x ∙ filter_agree (ties (λ (a b : KeyPosition). is_lt (id_cmp a.key.bytes b.key.bytes)) x) (is_under id) (tied-under x) xs)

-- ---- the run of a key

filter-none : {X : Type 0} (p : X → Bool) (xs : List X) → ((k : ℕ) (d : X) → k < length xs → p (get_or xs k d) ≡ false) → filter p xs ≡ []
filter-none p [] none = refl
filter-none p (x ∷ xs) none = rw (none 0 x (omega arith)) (filter-none p xs (λ k d lt. none (suc k) d (omega arith)))

filter-all : {X : Type 0} (p : X → Bool) (xs : List X) → ((k : ℕ) (d : X) → k < length xs → p (get_or xs k d) ≡ true) → filter p xs ≡ xs
filter-all p [] all = refl
filter-all p (x ∷ xs) all = rw (all 0 x (omega arith)) (ap (λ t. x ∷ t) (filter-all p xs (λ k d lt. all (suc k) d (omega arith))))

below : (a b : Ordering) → ordering_index a ≤ ordering_index b → is_lt b ≡ true → is_lt a ≡ true
below Less b le is = refl
below Equal Less le is = absurd (omega arith)
below Equal Equal le is = is
below Equal Greater le is = is
below Greater Less le is = absurd (omega arith)
below Greater Equal le is = is
below Greater Greater le is = is

level : (a b : Ordering) → ordering_index a ≤ ordering_index b → is_lt a ≡ false → is_eq b ≡ true → is_eq a ≡ true
level Less b le not is = absurd cc
level Equal b le not is = refl
level Greater Less le not is = is
level Greater Equal le not is = absurd (omega arith)
level Greater Greater le not is = is

not-below : (o : Ordering) → is_lt o ≡ true → is_eq o ≡ false
not-below Less is = refl
not-below Equal is = absurd cc
not-below Greater is = refl

-- The identifiers don't fall.
rising : (xs : List KeyPosition) (id : List ℕ) → AreByKey xs → IsNonDecreasingBy (λ (e : KeyPosition). ordering_index (id_cmp e.key.bytes id)) xs
rising xs id sorted = searchable_from_sorted id_total (λ (e : KeyPosition). e.key.bytes) xs id sorted

pub below-first : (xs : List KeyPosition) (id : List ℕ) → AreByKey xs → IsPartitionedBy (λ (e : KeyPosition). is_lt (id_cmp e.key.bytes id)) xs
below-first xs id sorted i j d le inside ends =
    below (id_cmp (get_or xs i d).key.bytes id) (id_cmp (get_or xs j d).key.bytes id) (rising xs id sorted i j d le inside) ends

under : (e : KeyPosition) (id : List ℕ) → is_eq (id_cmp e.key.bytes id) ≡ is_under id e
under e id = is_eq-slice_cmp e.key.bytes id

-- Behind those below the key come those of the key.
pub under-first : (xs : List KeyPosition) (id : List ℕ) (n : ℕ) → AreByKey xs → AllWithin (λ (e : KeyPosition). is_lt (id_cmp e.key.bytes id) ≡ false) xs n (length xs) → IsPartitionedBy (is_under id) (drop n xs)
under-first xs id n sorted behind i j d le inside ends =
    let long = length-drop n xs in
    let at_i = get_or-drop n xs i d in
    let at_j = get_or-drop n xs j d in
    let there : is_under id (get_or xs (n + j) d) ≡ true = rw at_j at ends in
    let rises = rising xs id sorted (n + i) (n + j) d (omega arith) (omega arith) in
    let same : is_eq (id_cmp (get_or xs (n + i) d).key.bytes id) ≡ true =
    level (id_cmp (get_or xs (n + i) d).key.bytes id) (id_cmp (get_or xs (n + j) d).key.bytes id) rises
    (behind (n + i) d (omega arith) (omega arith)) (under (get_or xs (n + j) d) id ∙ there) in
    rw at_i (sym (under (get_or xs (n + i) d) id) ∙ same)

-- So they are what stands between the two positions.
pub run-is : (xs : List KeyPosition) (id : List ℕ) (n m : ℕ) → n ≤ length xs → AllWithin (λ (e : KeyPosition). is_lt (id_cmp e.key.bytes id) ≡ true) xs 0 n → IsPartitionPoint (λ e. is_under id e ≡ true) (λ e. is_under id e ≡ false) (drop n xs) m → m ≤ length (drop n xs) → take m (drop n xs) ≡ positions_under id xs
run-is xs id n m within before point short =
    let p = is_under id in
    let rest = drop n xs in
    let front : filter p (take n xs) ≡ [] =
    filter-none p (take n xs) (λ k d lt.
    let long = length-take n xs in
    let here = before k d (omega arith) (omega arith) in
    rw (get_or-take n xs k d (omega arith))
    (sym (under (get_or xs k d) id) ∙ not-below (id_cmp (get_or xs k d).key.bytes id) here)) in
    let middle : filter p (take m rest) ≡ take m rest =
    filter-all p (take m rest) (λ k d lt.
    let long = length-take m rest in
    rw (get_or-take m rest k d (omega arith)) (point.0 k d (omega arith) (omega arith))) in
    let behind : filter p (drop m rest) ≡ [] =
    filter-none p (drop m rest) (λ k d lt.
    let long = length-drop m rest in
    rw (get_or-drop m rest k d) (point.1 (m + k) d (omega arith) (omega arith))) in
    let second : filter p rest ≡ take m rest =
    ap (filter p) (sym (take-append-drop m rest)) ∙ (filter-append p (take m rest) (drop m rest)
    ∙ (ap (λ t. t ++ filter p (drop m rest)) middle ∙ (ap (λ t. take m rest ++ t) behind ∙ append-nil (take m rest)))) in
    sym (ap (filter p) (sym (take-append-drop n xs)) ∙ (filter-append p (take n xs) rest
    ∙ (ap (λ t. t ++ filter p rest) front ∙ second)))

-- The same of the list behind two looks at it.
pub run-found : (items xs ys self : List KeyPosition) (id : List ℕ) (n m : ℕ) → xs ≡ items → ys ≡ items → self ≡ items → n ≤ length xs → IsPartitionPoint (λ e. is_lt (id_cmp e.key.bytes id) ≡ true) (λ e. is_lt (id_cmp e.key.bytes id) ≡ false) xs n → m ≤ length (take (length ys - n) (drop n ys)) → IsPartitionPoint (λ e. is_under id e ≡ true) (λ e. is_under id e ≡ false) (take (length ys - n) (drop n ys)) m → take m (take (length ys - n) (drop n ys)) ≡ positions_under id self
run-found items xs ys self id n m ex ey es within first short second =
    let rest = take_rest ys n in
    let same = ex ∙ sym ey in
    let inside = subst (λ (l : List KeyPosition). n ≤ length l) same within in
    let before = subst (λ (l : List KeyPosition). AllWithin (λ (e : KeyPosition). is_lt (id_cmp e.key.bytes id) ≡ true) l 0 n) same first.0 in
    let point = subst (λ (l : List KeyPosition). IsPartitionPoint (λ e. is_under id e ≡ true) (λ e. is_under id e ≡ false) l m) rest second in
    let few = subst (λ (l : List KeyPosition). m ≤ length l) rest short in
    ap (take m) rest ∙ (run-is ys id n m inside before point few ∙ ap (positions_under id) (ey ∙ sym es))

-- What the second look asks.
pub under-rest : (items xs ys : List KeyPosition) (id : List ℕ) (n : ℕ) → xs ≡ items → ys ≡ items → AreByKey items → IsPartitionPoint (λ e. is_lt (id_cmp e.key.bytes id) ≡ true) (λ e. is_lt (id_cmp e.key.bytes id) ≡ false) xs n → IsPartitionedBy (is_under id) (take (length ys - n) (drop n ys))
under-rest items xs ys id n ex ey sorted first =
    let behind = subst (λ (l : List KeyPosition). AllWithin (λ (e : KeyPosition). is_lt (id_cmp e.key.bytes id) ≡ false) l n (length l)) (ex ∙ sym ey) first.1 in
    subst (λ (l : List KeyPosition). IsPartitionedBy (is_under id) l) (sym (take_rest ys n))
    (under-first ys id n (subst AreByKey (sym ey) sorted) behind)

-- A closure that compares identifiers compares by them.
pub compares-from : {F : Type 0} {g : Mut F (Bor KeyPosition × (Bor KeyPosition × Unit {0})) Ordering} {f : F} → ((a : Bor KeyPosition × (Bor KeyPosition × Unit {0})) (r : Ordering) (f' : F) → Called g f a r f' → (r ≡ id_cmp a.0.now.key.bytes a.1.0.now.key.bytes) × (f' ≡ f)) → ComparesAs g (λ a b. is_lt (id_cmp a.key.bytes b.key.bytes)) f
compares-from {F} {g} {f} says =
    always_returns_same g (λ a r. is_lt r ≡ is_lt (id_cmp a.0.now.key.bytes a.1.0.now.key.bytes)) f
    (λ a r f' called. let q = says a r f' called in (ap is_lt q.0, q.1))
