-- Of rows by rising URI those of a folder stand one behind the other.
use Rattle.std.proofs.Common.{◌≡◌, ℕ, ◌+◌, ◌-◌, ◌<◌, ◌≤◌, suc, Bool, true, false, cond}
use Rattle.std.proofs.Common.{◌&&◌, List, [], ◌∷◌, ◌++◌, length, get_or, take, drop, filter, refl}
use Rattle.std.proofs.Common.{sym, ap, subst, ◌∙◌, arith}
use Rattle.std.specs.Prelude.{nat_eq}
use Rattle.std.specs.FinMap.{nat_cmp-IsAntisymmetric}
use Rattle.std.specs.List.{All, AllWithin, starts_with}
use Rattle.std.specs.List.Sorted.{IsPartitionedBy, IsPartitionPoint, IsNonDecreasingBy}
use Rattle.std.specs.Ordering.{is_lt, nat_cmp, ordering_index, ordering_reverse, ordering_then}
use Rattle.std.specs.declared.cmp.Ordering.{Ordering}
use Rattle.std.specs.declared.cmp.Ordering.TheVariants.{Less, Equal, Greater}
use Rattle.std.proofs.lemmas.Bool.{and_parts}
use Rattle.std.proofs.lemmas.Bool.Decides.{Decides-eqb}
use Rattle.std.proofs.lemmas.Cmp.{tied_itself, nat_cmp_total}
use Rattle.std.proofs.lemmas.List.{take-append-drop, append-nil, get_or-drop, length-drop}
use Rattle.std.proofs.lemmas.List.{length-take, get_or-take, take_rest}
use Rattle.std.proofs.lemmas.List.Elements.{All-head, All-tail, filter-append}
use Rattle.std.proofs.lemmas.List.Sorted.{sorted_far, ranks_by, searchable_from_sorted}
use Rattle.key_roll.specs.declared.issued.IssuedRow.{IssuedRow}
use Rattle.pub_set.specs.Objects.{uri_cmp, Rise}
use Rattle.pub_set.specs.laws.UriLaws.{uri_total}
use Rattle.issue_drafts.specs.laws.UriOrder.{sorted-from-rise}
use Rattle.issue_drafts.specs.inner.Holdings.{is_inside}
use Rattle.issue_drafts.proofs.OrderedFiles.{never}

abbrev begins : List ℕ → List ℕ → Bool
begins folder uri = starts_with nat_eq uri folder

-- ---- what begins with the folder

and-both : (a b : Bool) → a ≡ true → b ≡ true → (a && b) ≡ true
and-both true b e f = f
and-both false b e f = absurd cc

-- It doesn't come before the folder.
not-before : (folder uri : List ℕ) → begins folder uri ≡ true → is_lt (uri_cmp uri folder) ≡ false
not-before [] [] e = refl
not-before [] (b ∷ uri) e = refl
not-before (a ∷ folder) [] e = absurd cc
not-before (a ∷ folder) (b ∷ uri) e =
    let both = and_parts (nat_eq a b) (begins folder uri) e in
    let same : a ≡ b = (Decides-eqb a b).0 both.0 in
    let tied : nat_cmp b a ≡ Equal = ap (λ (n : ℕ). nat_cmp b n) same ∙ tied_itself nat_cmp_total b in
    ap (λ (o : Ordering). is_lt (ordering_then o (uri_cmp uri folder))) tied ∙ not-before folder uri both.1

outside : (folder uri : List ℕ) → is_lt (uri_cmp uri folder) ≡ true → begins folder uri ≡ false
outside folder uri low = by (begins folder uri) refl
  where
    by : (b : Bool) → begins folder uri ≡ b → b ≡ false
    by true e = never (is_lt (uri_cmp uri folder)) low (not-before folder uri e)
    by false e = refl

-- What stands between the folder and something in it lies in it.
between : (folder uri far : List ℕ) → is_lt (uri_cmp uri folder) ≡ false → is_lt (uri_cmp far uri) ≡ false
    → begins folder far ≡ true → begins folder uri ≡ true
between [] uri far low up e = refl
between (a ∷ folder) uri [] low up e = absurd cc
between (a ∷ folder) [] (c ∷ far) low up e = absurd cc
between (a ∷ folder) (b ∷ uri) (c ∷ far) low up e =
    let both = and_parts (nat_eq a c) (begins folder far) e in
    by (nat_cmp b a) refl ((Decides-eqb a c).0 both.0) both.1 (between folder uri far)
  where
    by : (o : Ordering) → nat_cmp b a ≡ o → a ≡ c → begins folder far ≡ true
        → (is_lt (uri_cmp uri folder) ≡ false → is_lt (uri_cmp far uri) ≡ false → begins folder far ≡ true
        → begins folder uri ≡ true)
        → (nat_eq a b && begins folder uri) ≡ true
    by Less is first more rest =
        let wrong : true ≡ false = sym (ap (λ (o : Ordering). is_lt (ordering_then o (uri_cmp uri folder))) is) ∙ low in
        absurd cc
    by Equal is first more rest =
        let same : b ≡ a = nat_cmp-IsAntisymmetric b a is in
        let tied : nat_cmp c b ≡ Equal =
        ap (λ (n : ℕ). nat_cmp c n) (same ∙ first) ∙ tied_itself nat_cmp_total c in
        and-both (nat_eq a b) (begins folder uri) ((Decides-eqb a b).1 (sym same))
        (rest (sym (ap (λ (o : Ordering). is_lt (ordering_then o (uri_cmp uri folder))) is) ∙ low)
        (sym (ap (λ (o : Ordering). is_lt (ordering_then o (uri_cmp far uri))) tied) ∙ up) more)
    by Greater is first more rest =
        let below : nat_cmp c b ≡ Less =
        ap (λ (n : ℕ). nat_cmp n b) (sym first) ∙ (nat_cmp_total.antisymm a b ∙ ap ordering_reverse is) in
        let wrong : true ≡ false = sym (ap (λ (o : Ordering). is_lt (ordering_then o (uri_cmp far uri))) below) ∙ up in
        absurd cc

-- ---- the rows of the folder

abbrev row_uri : IssuedRow → List ℕ
row_uri row = row.uri

abbrev is_before : List ℕ → IssuedRow → Bool
is_before folder row = is_lt (uri_cmp row.uri folder)

filter-none : {X : Type 0} (p : X → Bool) (xs : List X)
    → ((k : ℕ) (d : X) → k < length xs → p (get_or xs k d) ≡ false) → filter p xs ≡ []
filter-none p [] none = refl
filter-none p (x ∷ xs) none = rw (none 0 x (omega arith)) (filter-none p xs (λ k d lt. none (suc k) d (omega arith)))

filter-all : {X : Type 0} (p : X → Bool) (xs : List X)
    → ((k : ℕ) (d : X) → k < length xs → p (get_or xs k d) ≡ true) → filter p xs ≡ xs
filter-all p [] all = refl
filter-all p (x ∷ xs) all =
    rw (all 0 x (omega arith)) (ap (λ t. x ∷ t) (filter-all p xs (λ k d lt. all (suc k) d (omega arith))))

below : (a b : Ordering) → ordering_index a ≤ ordering_index b → is_lt b ≡ true → is_lt a ≡ true
below Less b le is = refl
below Equal Less le is = absurd (omega arith)
below Equal Equal le is = is
below Equal Greater le is = is
below Greater Less le is = absurd (omega arith)
below Greater Equal le is = is
below Greater Greater le is = is

-- What the first look asks.
pub before-first : (rows : List IssuedRow) (folder : List ℕ) → Rise row_uri rows
    → IsPartitionedBy (is_before folder) rows
before-first rows folder up i j d le inside ends =
    let rising : IsNonDecreasingBy (λ (r : IssuedRow). ordering_index (uri_cmp r.uri folder)) rows =
    searchable_from_sorted uri_total row_uri rows folder (sorted-from-rise row_uri rows up) in
    below (uri_cmp (get_or rows i d).uri folder) (uri_cmp (get_or rows j d).uri folder)
    (rising i j d le inside) ends

inside-first : (rows : List IssuedRow) (folder : List ℕ) (n : ℕ) → Rise row_uri rows
    → AllWithin (λ (r : IssuedRow). is_before folder r ≡ false) rows n (length rows)
    → IsPartitionedBy (is_inside folder) (drop n rows)
inside-first rows folder n up behind i j d le inside ends =
    let long = length-drop n rows in
    let at_i = get_or-drop n rows i d in
    let at_j = get_or-drop n rows j d in
    let there : is_inside folder (get_or rows (n + j) d) ≡ true = ap (is_inside folder) (sym at_j) ∙ ends in
    let level : is_lt (uri_cmp (get_or rows (n + j) d).uri (get_or rows (n + i) d).uri) ≡ false =
    sorted_far (λ (a b : IssuedRow). is_lt (uri_cmp a.uri b.uri)) (ranks_by uri_total row_uri) rows
    (sorted-from-rise row_uri rows up) (n + i) (n + j) d (omega arith) (omega arith) in
    ap (is_inside folder) at_i
    ∙ between folder (get_or rows (n + i) d).uri (get_or rows (n + j) d).uri
    (behind (n + i) d (omega arith) (omega arith)) level there

-- What the second look asks.
pub inside-rest : (rows : List IssuedRow) (folder : List ℕ) (n : ℕ) → Rise row_uri rows
    → IsPartitionPoint (λ (r : IssuedRow). is_before folder r ≡ true) (λ (r : IssuedRow). is_before folder r ≡ false) rows n
    → IsPartitionedBy (is_inside folder) (take (length rows - n) (drop n rows))
inside-rest rows folder n up point =
    subst (λ (l : List IssuedRow). IsPartitionedBy (is_inside folder) l) (sym (take_rest rows n))
    (inside-first rows folder n up point.1)

-- They are what stands between the two positions.
folder-is : (rows : List IssuedRow) (folder : List ℕ) (n m : ℕ) → n ≤ length rows
    → AllWithin (λ (r : IssuedRow). is_before folder r ≡ true) rows 0 n
    → IsPartitionPoint (λ (r : IssuedRow). is_inside folder r ≡ true) (λ (r : IssuedRow). is_inside folder r ≡ false) (drop n rows) m
    → m ≤ length (drop n rows) → take m (drop n rows) ≡ filter (is_inside folder) rows
folder-is rows folder n m within before point short =
    let p = is_inside folder in
    let rest = drop n rows in
    let front : filter p (take n rows) ≡ [] =
    filter-none p (take n rows) (λ k d lt.
    let long = length-take n rows in
    let here = before k d (omega arith) (omega arith) in
    rw (get_or-take n rows k d (omega arith)) (outside folder (get_or rows k d).uri here)) in
    let middle : filter p (take m rest) ≡ take m rest =
    filter-all p (take m rest) (λ k d lt.
    let long = length-take m rest in
    rw (get_or-take m rest k d (omega arith)) (point.0 k d (omega arith) (omega arith))) in
    let last : filter p (drop m rest) ≡ [] =
    filter-none p (drop m rest) (λ k d lt.
    let long = length-drop m rest in
    rw (get_or-drop m rest k d) (point.1 (m + k) d (omega arith) (omega arith))) in
    let second : filter p rest ≡ take m rest =
    ap (filter p) (sym (take-append-drop m rest)) ∙ (filter-append p (take m rest) (drop m rest)
    ∙ (ap (λ t. t ++ filter p (drop m rest)) middle
    ∙ (ap (λ t. take m rest ++ t) last ∙ append-nil (take m rest)))) in
    sym (ap (filter p) (sym (take-append-drop n rows)) ∙ (filter-append p (take n rows) rest
    ∙ (ap (λ t. t ++ filter p rest) front ∙ second)))

pub folder-found : (rows : List IssuedRow) (folder : List ℕ) (n m : ℕ) → n ≤ length rows
    → IsPartitionPoint (λ (r : IssuedRow). is_before folder r ≡ true) (λ (r : IssuedRow). is_before folder r ≡ false) rows n
    → m ≤ length (take (length rows - n) (drop n rows))
    → IsPartitionPoint (λ (r : IssuedRow). is_inside folder r ≡ true) (λ (r : IssuedRow). is_inside folder r ≡ false)
    (take (length rows - n) (drop n rows)) m
    → take m (take (length rows - n) (drop n rows)) ≡ filter (is_inside folder) rows
folder-found rows folder n m within first short second =
    let rest = take_rest rows n in
    let point =
    subst (λ (l : List IssuedRow). IsPartitionPoint (λ (r : IssuedRow). is_inside folder r ≡ true)
    (λ (r : IssuedRow). is_inside folder r ≡ false) l m) rest second in
    let few = subst (λ (l : List IssuedRow). m ≤ length l) rest short in
    ap (take m) rest ∙ folder-is rows folder n m within first.0 point few

-- ---- a test that holds within another

pub filter-within : {X : Type 0} (p q : X → Bool) (xs : List X) → All (λ x. p x ≡ true → q x ≡ true) xs
    → filter p (filter q xs) ≡ filter p xs
filter-within p q [] h = refl
filter-within {X} p q (x ∷ xs) h =
    by (q x) (p x) refl refl (filter-within p q xs (All-tail (λ y. p y ≡ true → q y ≡ true) x xs h))
  where
    by : (b a : Bool) → q x ≡ b → p x ≡ a → filter p (filter q xs) ≡ filter p xs
        → filter p (cond b (x ∷ filter q xs) (filter q xs)) ≡ cond a (x ∷ filter p xs) (filter p xs)
    by true true eq ep more =
        ap (λ (t : Bool). cond t (x ∷ filter p (filter q xs)) (filter p (filter q xs))) ep
        ∙ ap (λ (l : List X). x ∷ l) more
    by true false eq ep more =
        ap (λ (t : Bool). cond t (x ∷ filter p (filter q xs)) (filter p (filter q xs))) ep ∙ more
    by false true eq ep more =
        let wrong : true ≡ false = sym (All-head (λ y. p y ≡ true → q y ≡ true) x xs h ep) ∙ eq in
        absurd cc
    by false false eq ep more = more
