-- The order of keys, and the rows of keys as those of a trace.
use Rattle.std.proofs.Common.{◌≡◌, ℕ, ◌+◌, ◌*◌, ◌<◌, ◌==◌, ltb, nat_lt, Bool, false, ◌&&◌, ◌||◌}
use Rattle.std.proofs.Common.{List, [], ◌∷◌, length, get_or, map, refl, sym, ap, subst, ◌∙◌, arith}
use Rattle.std.specs.Cmp.{IsStrictWeakOrder}
use Rattle.std.specs.Ordering.{is_lt, nat_cmp, ordering_then}
use Rattle.std.specs.declared.cmp.Ordering.{Ordering}
use Rattle.std.specs.List.Sorted.{IsPermutation, IsStableBy}
use Rattle.std.specs.Simd.Lanes.{zip2}
use Rattle.std.proofs.lemmas.Bool.Decides.{nat_tests}
use Rattle.std.proofs.lemmas.List.MinMax.{IsStrictWeakOrder-by_number}
use Rattle.std.proofs.lemmas.Simd.{zip2-map, length-zip2}
use Rattle.key_roll.specs.declared.rows.KeyRow.{KeyRow}
use Rattle.key_roll.specs.declared.rows.RevokedRow.{RevokedRow}
use Rattle.key_roll.specs.declared.rows.Role.{Role}
use Rattle.key_roll.specs.declared.rows.Role.TheVariants.{New, Current, Old}
use Rattle.issue_drafts.specs.IssueInput.{IssueInput}
use Rattle.issue_drafts.specs.Drafts.{serial_behind}
use Rattle.issue_drafts.specs.Revoking.{has_point}
use Rattle.issue_make.specs.Trace.{IssuingTrace, all_of, row_after, rank, is_before}
use Rattle.issue_make.specs.inner.Keys.{row_with, with_points, with_next, rows_with, AreAfter}
use Rattle.issue_make.proofs.Lists.{get_or-zip2}

-- ---- the order

low-rank : (r : Role) → rank r < 3
low-rank New = omega arith
low-rank Current = omega arith
low-rank Old = omega arith

abbrev position : KeyRow → ℕ
position row = row.desk * 3 + rank row.role

before-numbers : (a b r t : ℕ) → r < 3 → t < 3
    → (nat_lt a b || ((a == b) && nat_lt r t)) ≡ ltb (a * 3 + r) (b * 3 + t)
before-numbers a b r t low other = grind (arith, nat_tests)

before-is : (a b : KeyRow) → is_before a b ≡ ltb (position a) (position b)
before-is a b = before-numbers a.desk b.desk (rank a.role) (rank b.role) (low-rank a.role) (low-rank b.role)

pub before-order : IsStrictWeakOrder is_before
before-order =
    let by : IsStrictWeakOrder (λ (a b : KeyRow). ltb (position a) (position b)) = IsStrictWeakOrder-by_number position in
    record {
      one_way = λ a b less. before-is b a ∙ by.one_way a b (sym (before-is a b) ∙ less);
      chain = λ a b c first second.
          before-is a c ∙ by.chain a b c (sym (before-is a b) ∙ first) (sym (before-is b c) ∙ second);
    }

pub then-is : (a b r t : ℕ)
    → is_lt (ordering_then (nat_cmp a b) (nat_cmp r t)) ≡ (nat_lt a b || ((a == b) && nat_lt r t))
then-is a b r t = grind (arith, nat_tests)

pub ranks-compare : (o : Ordering) (r t first second : ℕ) → o ≡ nat_cmp r t → r ≡ first → t ≡ second
    → o ≡ nat_cmp first second
ranks-compare o r t first second is one two =
    is ∙ (ap (λ (n : ℕ). nat_cmp n t) one ∙ ap (λ (n : ℕ). nat_cmp first n) two)

-- ---- rows

pub rows-long : (moment : ℕ) (keys : List KeyRow) (points : List Bool) (next : List ℕ)
    (revoked : List (List RevokedRow))
    → length points ≡ length keys → length next ≡ length keys → length revoked ≡ length keys
    → length (rows_with moment keys points next revoked) ≡ length keys
rows-long moment keys points next revoked first second third =
    let one : length (with_points keys points) ≡ length keys =
    length-zip2 (λ (k : KeyRow) (p : Bool). (k, p)) keys points (sym first) in
    let two : length (with_next keys points next) ≡ length (with_points keys points) =
    length-zip2 (λ (k : KeyRow × Bool) (n : ℕ). (k, n)) (with_points keys points) next (one ∙ sym second) in
    length-zip2 (λ (k : (KeyRow × Bool) × ℕ) (r : List RevokedRow). row_with moment k.0.0 k.0.1 k.1 r)
    (with_next keys points next) revoked (two ∙ (one ∙ sym third)) ∙ (two ∙ one)

pub row-at : (moment : ℕ) (keys : List KeyRow) (points : List Bool) (next : List ℕ)
    (revoked : List (List RevokedRow)) (i : ℕ) (key row : KeyRow) (entries : List RevokedRow)
    → length points ≡ length keys → length next ≡ length keys → length revoked ≡ length keys → i < length keys
    → key ≡ get_or keys i key → entries ≡ get_or revoked i entries
    → row ≡ row_with moment key (get_or points i false) (get_or next i 0) entries
    → row ≡ get_or (rows_with moment keys points next revoked) i row
row-at moment keys points next revoked i key row entries first second third inside here told is =
    let one : length (with_points keys points) ≡ length keys =
    length-zip2 (λ (k : KeyRow) (p : Bool). (k, p)) keys points (sym first) in
    let two : length (with_next keys points next) ≡ length (with_points keys points) =
    length-zip2 (λ (k : KeyRow × Bool) (n : ℕ). (k, n)) (with_points keys points) next (one ∙ sym second) in
    let pair : get_or (with_points keys points) i (key, false) ≡ (get_or keys i key, get_or points i false) =
    get_or-zip2 (λ (k : KeyRow) (p : Bool). (k, p)) keys points i key false (key, false) inside (omega arith) in
    let triple : get_or (with_next keys points next) i ((key, false), 0)
    ≡ (get_or (with_points keys points) i (key, false), get_or next i 0) =
    get_or-zip2 (λ (k : KeyRow × Bool) (n : ℕ). (k, n)) (with_points keys points) next i (key, false) 0 ((key, false), 0)
    (omega arith) (omega arith) in
    let at : get_or (rows_with moment keys points next revoked) i row
    ≡ row_with moment (get_or (with_next keys points next) i ((key, false), 0)).0.0
    (get_or (with_next keys points next) i ((key, false), 0)).0.1
    (get_or (with_next keys points next) i ((key, false), 0)).1 (get_or revoked i entries) =
    get_or-zip2 (λ (k : (KeyRow × Bool) × ℕ) (r : List RevokedRow). row_with moment k.0.0 k.0.1 k.1 r)
    (with_next keys points next) revoked i ((key, false), 0) entries row (omega arith) (omega arith) in
    is
    ∙ (ap (λ (k : KeyRow). row_with moment k (get_or points i false) (get_or next i 0) entries) here
    ∙ (ap (λ (r : List RevokedRow). row_with moment (get_or keys i key) (get_or points i false) (get_or next i 0) r) told
    ∙ (ap (λ (p : KeyRow × Bool). row_with moment p.0 p.1 (get_or next i 0) (get_or revoked i entries)) (sym pair)
    ∙ (ap (λ (p : (KeyRow × Bool) × ℕ). row_with moment p.0.0 p.0.1 p.1 (get_or revoked i entries)) (sym triple)
    ∙ sym at))))

map-self : {A : Type 0} (xs : List A) → map (λ x. x) xs ≡ xs
map-self [] = refl
map-self {A} (x ∷ xs) = ap (λ (l : List A). x ∷ l) (map-self xs)

-- The rows of a trace.
rows-are : (s : IssueInput) (trace : IssuingTrace) (moment : ℕ) (keys : List KeyRow) (points : List Bool) (next : List ℕ)
    (revoked : List (List RevokedRow))
    → AreAfter s trace moment keys points next revoked
    → rows_with moment keys points next revoked ≡ map (row_after s trace) keys
rows-are s trace moment keys points next revoked h =
    let hp : KeyRow → Bool = has_point s trace.keys in
    let sb : KeyRow → ℕ = serial_behind (all_of s trace) in
    let one : with_points keys points ≡ map (λ k. (k, hp k)) keys =
    ap (λ (l : List KeyRow). with_points l points) (sym (map-self keys))
    ∙ (ap (λ (l : List Bool). with_points (map (λ (k : KeyRow). k) keys) l) h.pointed
    ∙ zip2-map (λ (k : KeyRow) (p : Bool). (k, p)) (λ (k : KeyRow). k) hp keys) in
    let two : with_next keys points next ≡ map (λ k. ((k, hp k), sb k)) keys =
    ap (λ (l : List (KeyRow × Bool)). zip2 (λ (k : KeyRow × Bool) (n : ℕ). (k, n)) l next) one
    ∙ (ap (λ (l : List ℕ). zip2 (λ (k : KeyRow × Bool) (n : ℕ). (k, n)) (map (λ (k : KeyRow). (k, hp k)) keys) l) h.behind
    ∙ zip2-map (λ (k : KeyRow × Bool) (n : ℕ). (k, n)) (λ (k : KeyRow). (k, hp k)) sb keys) in
    ap (λ (l : List ((KeyRow × Bool) × ℕ)).
    zip2 (λ (k : (KeyRow × Bool) × ℕ) (r : List RevokedRow). row_with moment k.0.0 k.0.1 k.1 r) l revoked) two
    ∙ (ap (λ (l : List (List RevokedRow)).
    zip2 (λ (k : (KeyRow × Bool) × ℕ) (r : List RevokedRow). row_with moment k.0.0 k.0.1 k.1 r)
    (map (λ (k : KeyRow). ((k, hp k), sb k)) keys) l) h.entries
    ∙ (zip2-map (λ (k : (KeyRow × Bool) × ℕ) (r : List RevokedRow). row_with moment k.0.0 k.0.1 k.1 r)
    (λ (k : KeyRow). ((k, hp k), sb k)) trace.entries keys
    ∙ ap (λ (m : ℕ). map (λ (k : KeyRow). row_with m k (hp k) (sb k) (trace.entries k)) keys) h.at))

pub rows-after-are : (s : IssueInput) (trace : IssuingTrace) (moment : ℕ) (keys : List KeyRow) (points : List Bool)
    (next : List ℕ) (revoked : List (List RevokedRow)) (rows ordered : List KeyRow)
    → AreAfter s trace moment keys points next revoked
    → rows ≡ rows_with moment keys points next revoked → IsPermutation rows ordered
    → IsPermutation (map (row_after s trace) keys) ordered
rows-after-are s trace moment keys points next revoked rows ordered h is moved =
    subst (λ (l : List KeyRow). IsPermutation l ordered)
    (is ∙ rows-are s trace moment keys points next revoked h) moved

pub rows-after-stand : (s : IssueInput) (trace : IssuingTrace) (moment : ℕ) (keys : List KeyRow) (points : List Bool)
    (next : List ℕ) (revoked : List (List RevokedRow)) (rows ordered : List KeyRow)
    → AreAfter s trace moment keys points next revoked
    → rows ≡ rows_with moment keys points next revoked → IsStableBy is_before rows ordered
    → IsStableBy is_before (map (row_after s trace) keys) ordered
rows-after-stand s trace moment keys points next revoked rows ordered h is stands =
    subst (λ (l : List KeyRow). IsStableBy is_before l ordered)
    (is ∙ rows-are s trace moment keys points next revoked h) stands
