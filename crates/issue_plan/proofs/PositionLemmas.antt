-- What stands at a place, by its position in the table.
use Rattle.std.proofs.Common.{◌≡◌, ℕ, ◌+◌, ◌<◌, ◌≤◌, ◌⊎◌, inl, inr, zero, suc, Bool, true, false, ◌&&◌, ◌||◌, not, cond}
use Rattle.std.proofs.Common.{Option, None, Some, List, [], ◌∷◌, ◌++◌, length, get_or, set, map, take, ◌∙◌, refl, sym, ap, ap₂, subst, arith}
use Rattle.std.specs.Prelude.{◌==◌, Ok, Err, is_some, option_map, option_and_then, slice_get, filter}
use Rattle.std.specs.Option.{option_map_or}
use Rattle.std.specs.List.{list_any, filter_map, cons_option}
use Rattle.std.specs.List.Sorted.{IsSortedBy, IsBinarySearchResult}
use Rattle.std.specs.Str.{bytes_eq}
use Rattle.std.specs.Ordering.{is_lt, is_eq, on, ordering_reverse}
use Rattle.std.specs.declared.cmp.Ordering.{Ordering}
use Rattle.std.specs.declared.cmp.Ordering.TheVariants.{Less, Equal, Greater}
use Rattle.std.proofs.Math.Dec.{eqb-suc-zero, eqb-zero-suc, eqb-suc-suc}
use Rattle.std.proofs.lemmas.Bool.{cases_lt, cases_eq, eq-eqb, ne_eqb}
use Rattle.std.proofs.lemmas.Bool.Decides.{same_from_decides, Decides-like}
use Rattle.std.proofs.lemmas.List.Sorted.{searchable_from_sorted}
use Rattle.std.proofs.lemmas.List.{append_assoc, append-nil, take_more, length-take, length-set, get_or-set_same, get_or-set_other}
use Rattle.std.proofs.lemmas.List.Elements.{filter_map-append}
use Rattle.std.proofs.lemmas.Map.Keys.{Less-from_sorted}
use Rattle.std.proofs.lemmas.Slice.Eq.{bytes_eq-Decides}
use Rattle.key_roll.specs.declared.issued.IssuedRow.{IssuedRow}
use Rattle.pub_set.specs.Objects.{uri_cmp, is_same, Rise}
use Rattle.pub_set.specs.laws.UriLaws.{uri_total, tied_is, same_is, same_self, other_above, other_below}
use Rattle.pub_set.specs.laws.LookupLaws.{all_at, rise-nil, rise-one, rise-cons, rise-head, rise-tail, above_further}
use Rattle.issue_plan.specs.Fits.{row_at, is_place}
use Rattle.issue_plan.specs.Uris.{is_among, withdrawn}
use Rattle.issue_plan.specs.inner.Positions.{position_in, serving_at, kept_at, AreMarks, unmarked}

-- ---- a row and its position

pub row-position : (issued : List IssuedRow) (uri : List ℕ)
    → option_and_then (slice_get issued) (position_in issued uri) ≡ row_at issued uri
row-position [] uri = refl
row-position (row ∷ rows) uri =
    elim (is_same row.uri uri) as (λ b.
    option_and_then (slice_get (row ∷ rows)) (cond b (Some 0) (option_map suc (position_in rows uri)))
    ≡ cond b (Some row) (row_at rows uri)) [
      | true ↦ refl
      | false ↦ behind (position_in rows uri) ∙ row-position rows uri
    ]
  where
    behind : (position : Option ℕ) → option_and_then (slice_get (row ∷ rows)) (option_map suc position)
        ≡ option_and_then (slice_get rows) position
    behind None = refl
    behind (Some n) = refl

at_row : (serves : IssuedRow → Bool) (n : ℕ) (row : Option IssuedRow)
    → is_some (serving_at serves n row) ≡ option_map_or serves row false
at_row serves n None = refl
at_row serves n (Some row) =
    elim (serves row) as (λ b. is_some (cond b (Some n) None) ≡ b) [ true ↦ refl | false ↦ refl ]

at_position : (issued : List IssuedRow) (serves : IssuedRow → Bool) (position : Option ℕ)
    → is_some (option_and_then (λ n. serving_at serves n (slice_get issued n)) position)
    ≡ option_map_or serves (option_and_then (slice_get issued) position) false
at_position issued serves None = refl
at_position issued serves (Some n) = at_row serves n (slice_get issued n)

-- Something has a position that serves where what stands at the place does.
pub kept-serves : (issued : List IssuedRow) (serves : IssuedRow → Bool) (place : Option (List ℕ))
    → is_some (kept_at issued serves place) ≡ option_map_or serves (option_and_then (row_at issued) place) false
kept-serves issued serves None = refl
kept-serves issued serves (Some uri) =
    at_position issued serves (position_in issued uri)
    ∙ ap (λ row. option_map_or serves row false) (row-position issued uri)

-- ---- whether a row is the one at that position

abbrev pub hits : ℕ → Option ℕ → Bool
hits i None = false
hits i (Some n) = n == i

any-more : {X : Type 0} (f : X → Option ℕ) (i : ℕ) (xs : List X) (position : Option ℕ)
    → list_any (λ n. n == i) (filter_map f xs) ≡ list_any (λ x. hits i (f x)) xs
    → list_any (λ n. n == i) (cons_option position (filter_map f xs))
    ≡ (hits i position || list_any (λ x. hits i (f x)) xs)
any-more f i xs None rest = rest
any-more f i xs (Some n) rest = ap (λ b. (n == i) || b) rest

pub hits-any : {X : Type 0} (f : X → Option ℕ) (i : ℕ) (xs : List X)
    → list_any (λ n. n == i) (filter_map f xs) ≡ list_any (λ x. hits i (f x)) xs
hits-any f i [] = refl
hits-any f i (x ∷ xs) = any-more f i xs (f x) (hits-any f i xs)

bytes-same : (uri other : List ℕ) → is_same other uri ≡ bytes_eq uri other
bytes-same uri other =
    same_from_decides (is_same other uri) (bytes_eq uri other)
    (same_is other uri, λ e. ap (λ u. is_same other u) (sym e) ∙ same_self other)
    (Decides-like (bytes_eq uri other) (λ (e : uri ≡ other). sym e) (λ (e : other ≡ uri). sym e)
    (bytes_eq-Decides uri other))

-- The first of a rising list is no later one.
first-other : (row : IssuedRow) (rows : List IssuedRow) (i : ℕ) (d : IssuedRow) (uri : List ℕ)
    → Rise (λ r. r.uri) (row ∷ rows) → i < length rows → is_same row.uri uri ≡ true
    → false ≡ bytes_eq uri (get_or rows i d).uri
first-other row rows i d uri up inside same =
    let less : uri_cmp row.uri (get_or rows i d).uri ≡ Less =
    all_at (λ (r : IssuedRow). uri_cmp row.uri r.uri ≡ Less) rows i d (rise-head (λ (r : IssuedRow). r.uri) row rows up) inside in
    sym (other_above (get_or rows i d).uri row.uri less)
    ∙ (bytes-same row.uri (get_or rows i d).uri ∙ ap (λ u. bytes_eq u (get_or rows i d).uri) (same_is row.uri uri same))

pub hits-position : (issued : List IssuedRow) (uri : List ℕ) (i : ℕ) (d : IssuedRow)
    → Rise (λ row. row.uri) issued → i < length issued
    → hits i (position_in issued uri) ≡ bytes_eq uri (get_or issued i d).uri
hits-position [] uri i d up inside = absurd (omega arith)
hits-position (row ∷ rows) uri zero d up inside =
    elim (is_same row.uri uri) as (λ b. is_same row.uri uri ≡ b
    → hits 0 (cond b (Some 0) (option_map suc (position_in rows uri))) ≡ bytes_eq uri row.uri) [
      | true ↦ λ e. sym e ∙ bytes-same uri row.uri
      | false ↦ λ e. later (position_in rows uri) ∙ (sym e ∙ bytes-same uri row.uri)
    ] refl
  where
    later : (position : Option ℕ) → hits 0 (option_map suc position) ≡ false
    later None = refl
    later (Some n) = eqb-suc-zero n
hits-position (row ∷ rows) uri (suc i) d up inside =
    elim (is_same row.uri uri) as (λ b. is_same row.uri uri ≡ b
    → hits (suc i) (cond b (Some 0) (option_map suc (position_in rows uri))) ≡ bytes_eq uri (get_or rows i d).uri) [
      | true ↦ λ e. eqb-zero-suc i ∙ first-other row rows i d uri up (omega arith) e
      | false ↦ λ e. later (position_in rows uri)
          ∙ hits-position rows uri i d (rise-tail (λ (r : IssuedRow). r.uri) row rows up) (omega arith)
    ] refl
  where
    later : (position : Option ℕ) → hits (suc i) (option_map suc position) ≡ hits i position
    later None = refl
    later (Some n) = eqb-suc-suc n i

hits-row : (serves : IssuedRow → Bool) (i n : ℕ) (row : Option IssuedRow)
    → hits i (serving_at serves n row) ≡ (option_map_or serves row false && (n == i))
hits-row serves i n None = refl
hits-row serves i n (Some row) =
    elim (serves row) as (λ b. hits i (cond b (Some n) None) ≡ (b && (n == i))) [ true ↦ refl | false ↦ refl ]

hits-served : (issued : List IssuedRow) (serves : IssuedRow → Bool) (i : ℕ) (position : Option ℕ)
    → hits i (option_and_then (λ n. serving_at serves n (slice_get issued n)) position)
    ≡ (option_map_or serves (option_and_then (slice_get issued) position) false && hits i position)
hits-served issued serves i None = refl
hits-served issued serves i (Some n) = hits-row serves i n (slice_get issued n)

-- What fits has the position of the row at its place.
pub hits-kept : (issued : List IssuedRow) (serves : IssuedRow → Bool) (place : Option (List ℕ)) (i : ℕ) (d : IssuedRow)
    → Rise (λ row. row.uri) issued → i < length issued
    → hits i (kept_at issued serves place)
    ≡ (option_map_or serves (option_and_then (row_at issued) place) false && is_place place (get_or issued i d).uri)
hits-kept issued serves None i d up inside = refl
hits-kept issued serves (Some uri) i d up inside =
    hits-served issued serves i (position_in issued uri)
    ∙ (ap (λ row. option_map_or serves row false && hits i (position_in issued uri)) (row-position issued uri)
    ∙ ap (λ b. option_map_or serves (row_at issued uri) false && b) (hits-position issued uri i d up inside))

-- ---- rows without a mark

pub unmarked-filter : (stays : IssuedRow → Bool) (marks : List Bool) (rows : List IssuedRow)
    → length marks ≡ length rows
    → ((i : ℕ) (d : IssuedRow) → i < length rows → get_or marks i false ≡ stays (get_or rows i d))
    → unmarked marks rows ≡ filter (λ row. not (stays row)) rows
unmarked-filter stays [] [] long each = refl
unmarked-filter stays [] (row ∷ rows) long each = absurd (omega (arith, long))
unmarked-filter stays (mark ∷ marks) [] long each = absurd (omega (arith, long))
unmarked-filter stays (mark ∷ marks) (row ∷ rows) long each =
    let same : mark ≡ stays row = each 0 row (omega arith) in
    let rest : unmarked marks rows ≡ filter (λ r. not (stays r)) rows =
    unmarked-filter stays marks rows (omega (arith, long)) (λ i d inside. each (suc i) d (omega (arith, inside))) in
    ap (λ b. cond b (unmarked marks rows) (row ∷ unmarked marks rows)) same
    ∙ elim (stays row) as (λ b. cond b (unmarked marks rows) (row ∷ unmarked marks rows)
    ≡ cond (not b) (row ∷ filter (λ r. not (stays r)) rows) (filter (λ r. not (stays r)) rows)) [
      | true ↦ rest
      | false ↦ ap (λ l. row ∷ l) rest
    ]

-- ---- rows by rising URI

pub less-from : (a b : List ℕ) → is_lt (uri_cmp a b) ≡ true → uri_cmp a b ≡ Less
less-from a b lower = by (uri_cmp a b) refl
  where
    by : (o : Ordering) → uri_cmp a b ≡ o → uri_cmp a b ≡ Less
    by Less e = e
    by Equal e = let no : is_lt Equal ≡ true = ap is_lt (sym e) ∙ lower in absurd cc
    by Greater e = let no : is_lt Greater ≡ true = ap is_lt (sym e) ∙ lower in absurd cc

-- Rows rise where each is below the next one.
pub rise-adjacent : (rows : List IssuedRow)
    → ((k : ℕ) (d : IssuedRow) → suc k < length rows
    → uri_cmp (get_or rows k d).uri (get_or rows (suc k) d).uri ≡ Less)
    → Rise (λ row. row.uri) rows
rise-adjacent [] each = rise-nil (λ (row : IssuedRow). row.uri)
rise-adjacent (x ∷ []) each = rise-one (λ (row : IssuedRow). row.uri) x
rise-adjacent (x ∷ y ∷ rows) each =
    let key : IssuedRow → List ℕ = λ row. row.uri in
    let rest : Rise key (y ∷ rows) = rise-adjacent (y ∷ rows) (λ k d inside. each (suc k) d (omega (arith, inside))) in
    let less : uri_cmp x.uri y.uri ≡ Less = each 0 x (omega arith) in
    rise-cons key x (y ∷ rows) (less, above_further key x.uri y.uri rows less (rise-head key y rows rest)) rest

pub adjacent-rise : (rows : List IssuedRow) (k : ℕ) (d : IssuedRow) → Rise (λ row. row.uri) rows → k + 1 < length rows
    → uri_cmp (get_or rows k d).uri (get_or rows (k + 1) d).uri ≡ Less
adjacent-rise rows k d up inside =
    Less-from_sorted (on (λ (row : IssuedRow). row.uri) uri_cmp) rows k (k + 1) d up (omega arith) inside

-- ---- what a binary search answers

sorted-from-rise : (rows : List IssuedRow) → Rise (λ row. row.uri) rows
    → IsSortedBy (λ a b. is_lt (uri_cmp a.uri b.uri)) rows
sorted-from-rise rows up k d low high =
    ap is_lt (uri_total.antisymm (get_or rows (k + 1) d).uri (get_or rows k d).uri
    ∙ ap ordering_reverse (adjacent-rise rows k d up high))

none-there : (rows : List IssuedRow) (uri : List ℕ)
    → ((k : ℕ) (d : IssuedRow) → k < length rows → is_same (get_or rows k d).uri uri ≡ false)
    → position_in rows uri ≡ None
none-there [] uri none = refl
none-there (row ∷ rows) uri none =
    ap (λ b. cond b (Some 0) (option_map suc (position_in rows uri))) (none 0 row (omega arith))
    ∙ ap (option_map suc) (none-there rows uri (λ k d inside. none (suc k) d (omega (arith, inside))))

pub first-there : (rows : List IssuedRow) (uri : List ℕ) (i : ℕ) (d : IssuedRow)
    → i < length rows → is_same (get_or rows i d).uri uri ≡ true
    → ((k : ℕ) (d : IssuedRow) → k < i → is_same (get_or rows k d).uri uri ≡ false)
    → position_in rows uri ≡ Some i
first-there [] uri i d inside here before = absurd (omega arith)
first-there (row ∷ rows) uri zero d inside here before =
    ap (λ b. cond b (Some 0) (option_map suc (position_in rows uri))) here
first-there (row ∷ rows) uri (suc i) d inside here before =
    ap (λ b. cond b (Some 0) (option_map suc (position_in rows uri))) (before 0 row (omega arith))
    ∙ ap (option_map suc) (first-there rows uri i d (omega arith) here (λ k e less. before (suc k) e (omega (arith, less))))

pub search-found : (rows : List IssuedRow) (uri : List ℕ) (i : ℕ)
    → Rise (λ row. row.uri) rows → i < length rows
    → IsBinarySearchResult (λ row. uri_cmp row.uri uri) rows (Ok i)
    → Some i ≡ position_in rows uri
search-found [] uri i up inside at = absurd (omega arith)
search-found (row ∷ rows) uri i up inside at =
    sym (first-there (row ∷ rows) uri i row inside (ap is_eq (at row)) (λ k d less.
    let below : uri_cmp (get_or (row ∷ rows) k d).uri (get_or (row ∷ rows) i d).uri ≡ Less =
    Less-from_sorted (on (λ (r : IssuedRow). r.uri) uri_cmp) (row ∷ rows) k i d up less inside in
    let same : (get_or (row ∷ rows) i d).uri ≡ uri = tied_is (get_or (row ∷ rows) i d).uri uri (at d) in
    other_below (get_or (row ∷ rows) k d).uri uri (ap (uri_cmp (get_or (row ∷ rows) k d).uri) (sym same) ∙ below)))

pub search-missing : (rows : List IssuedRow) (uri : List ℕ) (i : ℕ)
    → Rise (λ row. row.uri) rows → IsBinarySearchResult (λ row. uri_cmp row.uri uri) rows (Err i)
    → None ≡ position_in rows uri
search-missing rows uri i up at =
    let parts = at (searchable_from_sorted uri_total (λ (row : IssuedRow). row.uri) rows uri (sorted-from-rise rows up)) in
    sym (none-there rows uri (λ k d inside. apart k d inside (cases_lt k i) parts.0 parts.1))
  where
    apart : (k : ℕ) (d : IssuedRow) → k < length rows → (k < i) ⊎ (i ≤ k)
        → ((k : ℕ) (d : IssuedRow) → 0 ≤ k → k < i → uri_cmp (get_or rows k d).uri uri ≡ Less)
        → ((k : ℕ) (d : IssuedRow) → i ≤ k → k < length rows → uri_cmp (get_or rows k d).uri uri ≡ Greater)
        → is_same (get_or rows k d).uri uri ≡ false
    apart k d inside (inl low) below above = ap is_eq (below k d (omega arith) low)
    apart k d inside (inr high) below above = ap is_eq (above k d high inside)

-- ---- one row more

unmarked-split : (marks : List Bool) (rows : List IssuedRow) (mark : Bool) (row : IssuedRow) → length marks ≡ length rows
    → unmarked (marks ++ mark ∷ []) (rows ++ row ∷ []) ≡ unmarked marks rows ++ unmarked (mark ∷ []) (row ∷ [])
unmarked-split [] [] mark row long = refl
unmarked-split [] (r ∷ rows) mark row long = absurd (omega (arith, long))
unmarked-split (m ∷ marks) [] mark row long = absurd (omega (arith, long))
unmarked-split (m ∷ marks) (r ∷ rows) mark row long =
    let rest = unmarked-split marks rows mark row (omega (arith, long)) in
    elim m as (λ b. cond b (unmarked (marks ++ mark ∷ []) (rows ++ row ∷ [])) (r ∷ unmarked (marks ++ mark ∷ []) (rows ++ row ∷ []))
    ≡ cond b (unmarked marks rows) (r ∷ unmarked marks rows) ++ unmarked (mark ∷ []) (row ∷ [])) [
      | true ↦ rest
      | false ↦ ap (λ l. r ∷ l) rest
    ]

-- The rows without a mark, as many rows as are looked at and one more.
pub unmarked-more : (marks : List Bool) (rows : List IssuedRow) (i : ℕ) (mark : Bool) (row : IssuedRow)
    → length marks ≡ length rows → i < length rows → mark ≡ get_or marks i mark → row ≡ get_or rows i row
    → unmarked (take (i + 1) marks) (take (i + 1) rows)
    ≡ unmarked (take i marks) (take i rows) ++ unmarked (mark ∷ []) (row ∷ [])
unmarked-more marks rows i mark row long inside is-mark is-row =
    let more-marks : take (i + 1) marks ≡ take i marks ++ mark ∷ [] =
    take_more marks i mark (omega (arith, long)) ∙ ap (λ (m : Bool). take i marks ++ m ∷ []) (sym is-mark) in
    let more-rows : take (i + 1) rows ≡ take i rows ++ row ∷ [] =
    take_more rows i row inside ∙ ap (λ (r : IssuedRow). take i rows ++ r ∷ []) (sym is-row) in
    let same : length (take i marks) ≡ length (take i rows) =
    omega (arith, length-take i marks, length-take i rows, long) in
    ap₂ unmarked more-marks more-rows ∙ unmarked-split (take i marks) (take i rows) mark row same

-- The same, as a loop puts what it makes of them behind what was there.
pub unmarked-next : {X : Type 0} (f : List IssuedRow → List X)
    → ((a b : List IssuedRow) → f (a ++ b) ≡ f a ++ f b)
    → (marks : List Bool) (rows : List IssuedRow) (i : ℕ) (mark : Bool) (row : IssuedRow) (first old new : List X)
    → length marks ≡ length rows → i < length rows → mark ≡ get_or marks i mark → row ≡ get_or rows i row
    → old ≡ first ++ f (unmarked (take i marks) (take i rows))
    → new ≡ old ++ f (unmarked (mark ∷ []) (row ∷ []))
    → new ≡ first ++ f (unmarked (take (i + 1) marks) (take (i + 1) rows))
unmarked-next {X} f both marks rows i mark row first old new long inside is-mark is-row was put =
    put
    ∙ (ap (λ (l : List X). l ++ f (unmarked (mark ∷ []) (row ∷ []))) was
    ∙ (append_assoc first (f (unmarked (take i marks) (take i rows))) (f (unmarked (mark ∷ []) (row ∷ [])))
    ∙ ap (λ (l : List X). first ++ l)
    (sym (both (unmarked (take i marks) (take i rows)) (unmarked (mark ∷ []) (row ∷ [])))
    ∙ ap f (sym (unmarked-more marks rows i mark row long inside is-mark is-row)))))

-- ---- what isn't wanted

-- The rows without a mark are those at whose URI nothing is wanted.
pub withdrawn-are : (issued : List IssuedRow) (wanted : List (List ℕ)) (count : ℕ) (positions : List ℕ) (marks : List Bool)
    (uris : List (List ℕ))
    → Rise (λ row. row.uri) issued → count ≡ length issued → positions ≡ filter_map (position_in issued) wanted
    → AreMarks count positions marks → uris ≡ map (λ row. row.uri) (unmarked marks issued)
    → uris ≡ withdrawn wanted issued
withdrawn-are issued wanted count positions marks uris up counted are marked all =
    all ∙ ap (map (λ (row : IssuedRow). row.uri))
    (unmarked-filter (λ row. is_among wanted row.uri) marks issued (marked.long ∙ counted) (λ i d inside.
    marked.each i (omega (arith, inside, counted))
    ∙ (ap (list_any (λ n. n == i)) are
    ∙ (hits-any (position_in issued) i wanted
    ∙ ap (λ p. list_any p wanted) (λ j uri. hits-position issued uri i d up inside j)))))

-- ---- marks of positions that there may be

-- None more.
pub no-mark : (count : ℕ) (positions : List ℕ) (marks : List Bool)
    → AreMarks count positions marks → AreMarks count (positions ++ []) marks
no-mark count positions marks are =
    subst (λ (l : List ℕ). AreMarks count l marks) (sym (append-nil positions)) are

any-one-more : (positions : List ℕ) (position i : ℕ)
    → list_any (λ other. other == i) (positions ++ position ∷ []) ≡ (list_any (λ other. other == i) positions || (position == i))
any-one-more [] position i = or-false (position == i)
  where
    or-false : (b : Bool) → (b || false) ≡ b
    or-false true = refl
    or-false false = refl
any-one-more (p ∷ positions) position i =
    ap (λ b. (p == i) || b) (any-one-more positions position i)
    ∙ assoc (p == i) (list_any (λ other. other == i) positions) (position == i)
  where
    assoc : (a b c : Bool) → (a || (b || c)) ≡ ((a || b) || c)
    assoc true b c = refl
    assoc false b c = refl

-- One more that is marked, or that is past the marks.
pub one-mark : (count : ℕ) (positions : List ℕ) (marks : List Bool) (position : ℕ) → position < length marks
    → AreMarks count positions marks → AreMarks count (positions ++ position ∷ []) (set marks position true)
one-mark count positions marks position inside are = record {
  long = length-set marks position true ∙ are.long;
  each = λ i within. by i within (cases_eq i position);
}
  where
    or-true : (b : Bool) → true ≡ (b || true)
    or-true true = refl
    or-true false = refl

    or-false : (b : Bool) → b ≡ (b || false)
    or-false true = refl
    or-false false = refl

    by : (i : ℕ) → i < count → (i ≡ position) ⊎ (i ≡ position → ⊥)
        → get_or (set marks position true) i false ≡ list_any (λ other. other == i) (positions ++ position ∷ [])
    by i within (inl same) =
        ap (λ k. get_or (set marks position true) k false) same
        ∙ (get_or-set_same marks position true false inside
        ∙ (or-true (list_any (λ other. other == i) positions)
        ∙ (ap (λ b. list_any (λ other. other == i) positions || b) (sym (eq-eqb position i (sym same)))
        ∙ sym (any-one-more positions position i))))
    by i within (inr other) =
        get_or-set_other marks position i true false other
        ∙ (are.each i within
        ∙ (or-false (list_any (λ other. other == i) positions)
        ∙ (ap (λ b. list_any (λ other. other == i) positions || b) (sym (ne_eqb position i (λ same. other (sym same))))
        ∙ sym (any-one-more positions position i))))

pub past-mark : (count : ℕ) (positions : List ℕ) (marks : List Bool) (position : ℕ) → length marks ≤ position
    → AreMarks count positions marks → AreMarks count (positions ++ position ∷ []) marks
past-mark count positions marks position past are = record {
  long = are.long;
  each = λ i within.
      are.each i within
      ∙ (or-false (list_any (λ other. other == i) positions)
      ∙ (ap (λ b. list_any (λ other. other == i) positions || b)
      (sym (ne_eqb position i (λ same. absurd (let long = are.long in omega (arith, within, past, same, long)))))
      ∙ sym (any-one-more positions position i)));
}
  where
    or-false : (b : Bool) → b ≡ (b || false)
    or-false true = refl
    or-false false = refl

-- One of those that there may be more.
pub more-found : (positions : List ℕ) (found : List (Option ℕ)) (i : ℕ) (d : Option ℕ) → i < length found
    → (positions ++ filter_map (λ p. p) (take i found)) ++ cons_option (get_or found i d) []
    ≡ positions ++ filter_map (λ p. p) (take (i + 1) found)
more-found positions found i d inside =
    append_assoc positions (filter_map (λ p. p) (take i found)) (cons_option (get_or found i d) [])
    ∙ ap (λ (l : List ℕ). positions ++ l)
    (sym (ap (filter_map (λ p. p)) (take_more found i d inside)
    ∙ filter_map-append (λ p. p) (take i found) (get_or found i d ∷ [])))

pub all-taken : (found : List (Option ℕ)) (i : ℕ) → length found ≤ i → take i found ≡ found
all-taken [] zero past = refl
all-taken [] (suc i) past = refl
all-taken (each ∷ found) zero past = absurd (omega (arith, past))
all-taken (each ∷ found) (suc i) past = ap (λ (l : List (Option ℕ)). each ∷ l) (all-taken found i (omega (arith, past)))
