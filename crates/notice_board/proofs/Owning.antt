-- Each step keeps the rule of the list, and who has the pen knows the list whole.
use Rattle.std.proofs.Common.{◌≡◌, ◌≢◌, ℕ, zero, suc, ◌<◌, ◌+◌, ◌==◌, Bool, true, false, List, [], ◌∷◌, ◌++◌, length, set, get_or, None, inl, refl, sym, ap, ◌∙◌, subst, arith, length-append}
use Rattle.std.proofs.lemmas.List.{append-nil}
use mathlib.Core.List.{IsPrefix}
use prog.Atomic.{either}
use Rattle.logbook.specs.Pages.{Book, Cell, cell, Nib, nib, no_nib, may_make, may_write, keeps, gives, adds, step, Moves, Goes, Away}
use Rattle.notice_board.specs.declared.lists.Entry.{Entry}
use Rattle.notice_board.specs.declared.shown.ListId.{ListId}
use Rattle.notice_board.specs.inner.Known.{id_of}
use Rattle.notice_board.specs.Rule.{IsHome, AreHomeFrom, AreHome, word_of, KeepsListRule, last_key, EndsAt}
use Rattle.notice_board.proofs.Editions.{prefix_trans}
use Rattle.notice_board.specs.inner.Steps.{BeginsList, CutsPen, AddsEntry, FindsWhole}

-- what clients see of the list, and how an update moves it
abbrev pub shown : List Entry → List Entry
shown log = []

abbrev pub moved : List Entry → List Entry → ℕ → Type 0
moved xs ys n = Unit {0}

-- ---- cells

cell_here : (cells : List Cell) (k : ℕ) (c : Cell) → k < length cells → cell (set cells k c) k ≡ c
cell_here [] k c h = absurd (omega arith)
cell_here (x ∷ xs) zero c h = refl
cell_here (x ∷ xs) (suc k) c h = cell_here xs k c (omega arith)

cell_else : (cells : List Cell) (i k : ℕ) (c : Cell) → i ≢ k → cell (set cells i c) k ≡ cell cells k
cell_else [] i k c ne = refl
cell_else (x ∷ xs) zero zero c ne = absurd (ne refl)
cell_else (x ∷ xs) zero (suc k) c ne = refl
cell_else (x ∷ xs) (suc i) zero c ne = refl
cell_else (x ∷ xs) (suc i) (suc k) c ne = cell_else xs i k c (λ e. ne (ap suc e))

long_set : (cells : List Cell) (i : ℕ) (c : Cell) → length (set cells i c) ≡ length cells
long_set [] i c = refl
long_set (x ∷ xs) zero c = refl
long_set (x ∷ xs) (suc i) c = ap suc (long_set xs i c)

set_again : (cells : List Cell) (n : ℕ) → 0 < length cells → cell cells 0 ≡ (n, true) → set cells 0 (n, true) ≡ cells
set_again [] n h is = absurd (omega arith)
set_again (x ∷ xs) n h is = ap (λ (c : Cell). c ∷ xs) (sym is)

home_set : (cells : List Cell) (i k n : ℕ) → IsHome cells k → IsHome (set cells i (n, true)) k
home_set [] i k n h = h
home_set (x ∷ xs) zero zero n h = refl
home_set (x ∷ xs) zero (suc k) n h = h
home_set (x ∷ xs) (suc i) zero n h = h
home_set (x ∷ xs) (suc i) (suc k) n h = home_set xs i k n h

home_snoc : (cells : List Cell) (c : Cell) (k : ℕ) → IsHome cells k → IsHome (cells ++ c ∷ []) k
home_snoc [] c k h = absurd (cc h)
home_snoc (x ∷ xs) c zero h = h
home_snoc (x ∷ xs) c (suc k) h = home_snoc xs c k h

cell_snoc : (cells : List Cell) (c : Cell) → 0 < length cells → cell (cells ++ c ∷ []) 0 ≡ cell cells 0
cell_snoc [] c h = absurd (omega arith)
cell_snoc (x ∷ xs) c h = refl

-- ---- the cells that entries name

all_set : (cells : List Cell) (i n : ℕ) (x : Entry) (xs : List Entry) → AreHomeFrom cells x xs → AreHomeFrom (set cells i (n, true)) x xs
all_set cells i n x [] h = tt
all_set cells i n x (y ∷ ys) h = (home_set cells i x.next n h.0, all_set cells i n y ys h.1)

all_snoc : (cells : List Cell) (c : Cell) (x : Entry) (xs : List Entry) → AreHomeFrom cells x xs → AreHomeFrom (cells ++ c ∷ []) x xs
all_snoc cells c x [] h = tt
all_snoc cells c x (y ∷ ys) h = (home_snoc cells c x.next h.0, all_snoc cells c y ys h.1)

all_push : (cells : List Cell) (x : Entry) (xs : List Entry) (e : Entry) → AreHomeFrom cells x xs → IsHome cells (last_key x xs) → AreHomeFrom cells x (xs ++ e ∷ [])
all_push cells x [] e h last = (last, tt)
all_push cells x (y ∷ ys) e h last = (h.0, all_push cells y ys e h.1 last)

nothing_behind : (cells : List Cell) (x : Entry) (xs rest : List Entry) → AreHomeFrom cells x (xs ++ rest) → (cell cells (last_key x xs)).1 ≡ false → rest ≡ []
nothing_behind cells x [] [] h away = refl
nothing_behind cells x [] (y ∷ ys) h away = absurd (cc (sym h.0 ∙ away))
nothing_behind cells x (y ∷ ys) rest h away = nothing_behind cells y ys rest h.1 away

-- where the cell that the last known entry names is away, the list is known whole
pub known_whole : (cells : List Cell) (known log : List Entry) (key : ℕ) → AreHome cells log → IsPrefix known log → EndsAt key known → (cell cells key).1 ≡ false → log ≡ known
known_whole cells [] log key h p ends away = absurd ends
known_whole cells (x ∷ xs) log key h p ends away =
    let rest = nothing_behind cells x xs p.0 (subst (AreHome cells) (sym p.1) h) (ap (λ (k : ℕ). (cell cells k).1) ends ∙ away) in
    sym p.1 ∙ (ap (λ (r : List Entry). (x ∷ xs) ++ r) rest ∙ append-nil (x ∷ xs))

not_empty : (known log : List Entry) (key : ℕ) → EndsAt key known → IsPrefix known log → log ≢ []
not_empty [] log key ends p is = ends
not_empty (x ∷ xs) log key ends p is = absurd (cc (p.1 ∙ is))

word_one : (log : List Entry) → log ≢ [] → word_of log ≡ 1
word_one [] ne = absurd (ne refl)
word_one (x ∷ xs) ne = refl

-- ---- steps

abbrev as_found : ℕ → ℕ
as_found n = either (n == 1) 1 n

-- an exchange of 1 for 1 leaves the cells as they were
same_cells : (cells : List Cell) (log : List Entry) → KeepsListRule cells log → log ≢ [] → set cells 0 (as_found (cell cells 0).0, true) ≡ cells
same_cells cells log kept some =
    let one : cell cells 0 ≡ (1, true) = kept.word ∙ ap (λ (n : ℕ). (n, true)) (word_one log some) in
    ap (λ (c : Cell). set cells 0 (as_found c.0, true)) one ∙ set_again cells 1 kept.wide one

head_home : (cells : List Cell) (log : List Entry) → KeepsListRule cells log → (cell cells 0).1 ≡ true
head_home cells log kept = ap (λ (c : Cell). c.1) kept.word

no_more : (cells : List Cell) (log : List Entry) → KeepsListRule cells log → KeepsListRule cells (log ++ [])
no_more cells log kept = subst (KeepsListRule cells) (sym (append-nil log)) kept

-- a list that was only opened
pub opened : KeepsListRule ((0, true) ∷ []) []
opened = record { wide = omega arith; word = refl; new = λ h. refl; home = tt }

-- the first step of a list
abbrev Begun : Entry → List Cell → List Entry → Type 0
Begun e cells log =
    (0 < length cells) × ((cell cells 0).1 ≡ true)
    × Goes KeepsListRule shown moved 0 ([], (no_nib, None)) (λ n. either (n == 0) 1 n) (BeginsList (step 0 0 1 e) ([], (no_nib, None))) cells log

begun : (e : Entry) → e.next ≡ 1 → (cells : List Cell) (log : List Entry) → KeepsListRule cells log → Begun e cells log
begun e is [] log kept = absurd (let h = kept.wide in omega arith)
begun e is (c ∷ []) [] kept =
    subst (λ (d : Cell). Begun e (d ∷ []) []) (sym kept.word) (
      omega arith,
      refl,
      (
        adds,
        e ∷ [],
        None,
        tt,
        record { wide = omega arith; word = refl; new = λ h. absurd (cc h); home = tt },
        inl (refl, refl),
        λ h. (refl, refl),
      ),
    )
begun e is (c ∷ d ∷ rest) [] kept = absurd (let h = kept.new refl in omega arith)
begun e is (c ∷ rest) (x ∷ xs) kept =
    let word : c ≡ (1, true) = kept.word in
    let one : c.0 ≡ 1 = ap (λ (d : Cell). d.0) word in
    let same : set (c ∷ rest) 0 (either (c.0 == 0) 1 c.0, true) ≡ c ∷ rest = ap (λ (d : Cell). (either (d.0 == 0) 1 d.0, true) ∷ rest) word ∙ ap (λ (d : Cell). d ∷ rest) (sym word) in (
      omega arith,
      ap (λ (d : Cell). d.1) word,
      (
        keeps,
        [],
        None,
        tt,
        subst (λ (cs : List Cell). KeepsListRule cs ((x ∷ xs) ++ [])) (sym same) (no_more (c ∷ rest) (x ∷ xs) kept),
        inl (refl, refl),
        λ h. absurd (omega (arith, one, h)),
      ),
    )

pub begins : (e : Entry) → e.next ≡ 1 → Moves KeepsListRule shown moved 0 ([], (no_nib, None)) (λ n. either (n == 0) 1 n) (BeginsList (step 0 0 1 e) ([], (no_nib, None)))
begins e is cells log kept pre away = begun e is cells log kept

cut_kept : (cells : List Cell) (log : List Entry) → log ≢ [] → KeepsListRule cells log → KeepsListRule (cells ++ (0, false) ∷ []) log
cut_kept cells [] some kept = absurd (some refl)
cut_kept cells (x ∷ xs) some kept = record {
  wide = omega (arith, kept.wide, length-append cells ((0, false) ∷ []));
  word = cell_snoc cells (0, false) kept.wide ∙ kept.word;
  new = λ h. absurd (some h);
  home = all_snoc cells (0, false) x xs kept.home;
}

-- anybody may have a new pen
pub cuts : (known : List Entry) (key : ℕ) (e : Entry) → EndsAt key known → Moves KeepsListRule shown moved 0 (known, (no_nib, None)) as_found (CutsPen (step 0 1 1 e) (known, (no_nib, None)))
cuts known key e ends cells log kept pre away =
    let some = not_empty known log key ends pre in
    let same = same_cells cells log kept some in (
      kept.wide,
      head_home cells log kept,
      (
        adds,
        [],
        None,
        tt,
        subst (λ (cs : List Cell). KeepsListRule (cs ++ (0, false) ∷ []) (log ++ [])) (sym same) (no_more (cells ++ (0, false) ∷ []) log (cut_kept cells log some kept)),
        inl (refl, refl),
        refl,
      ),
    )

add_kept : (cells : List Cell) (known : List Entry) (key n : ℕ) (e : Entry) → KeepsListRule cells known → EndsAt key known → key < length cells → (cell cells key).1 ≡ false → KeepsListRule (set cells key (n, true)) (known ++ e ∷ [])
add_kept cells [] key n e kept ends h away = absurd ends
add_kept cells (x ∷ xs) key n e kept ends h away =
    let ne : key ≢ 0 = λ is. absurd (cc (sym (ap (λ (c : Cell). c.1) kept.word) ∙ (ap (λ (k : ℕ). (cell cells k).1) (sym is) ∙ away))) in
    record {
      wide = omega (arith, kept.wide, long_set cells key (n, true));
      word = cell_else cells key 0 (n, true) ne ∙ kept.word;
      new = λ is. absurd (cc is);
      home = all_push (set cells key (n, true)) x xs e (all_set cells key n x xs kept.home)
          (subst (IsHome (set cells key (n, true))) (sym ends) (ap (λ (c : Cell). c.1) (cell_here cells key (n, true) h)));
    }

-- who has the pen adds an entry
pub adds_entry : (known : List Entry) (p : Nib) (e : Entry) → p.right ≡ may_write → EndsAt p.key known → Moves KeepsListRule shown moved 0 (known, (p, None)) as_found (AddsEntry (step 0 1 1 e) (known, (p, None)))
adds_entry known p e right ends cells log kept pre away =
    let there = away right in
    let whole = known_whole cells known log p.key kept.home pre ends there.1 in
    let same = same_cells cells log kept (not_empty known log p.key ends pre) in (
      kept.wide,
      head_home cells log kept,
      (
        gives,
        e ∷ [],
        None,
        right,
        subst (λ (l : List Entry). KeepsListRule (set (set cells 0 (as_found (cell cells 0).0, true)) p.key (p.value, true)) (l ++ e ∷ [])) (sym whole)
            (subst (λ (cs : List Cell). KeepsListRule (set cs p.key (p.value, true)) (known ++ e ∷ [])) (sym same)
            (add_kept cells known p.key p.value e (subst (KeepsListRule cells) whole kept) ends there.0 there.1)),
        inl (refl, refl),
        ap (λ (l : List Entry). l ++ e ∷ []) whole,
      ),
    )

-- who has the pen finds the list whole
pub finds : (seen : List Entry) (p : Nib) (known : List Entry) (e : Entry) → p.right ≡ may_write → EndsAt p.key known → IsPrefix known seen → Moves KeepsListRule shown moved 0 (seen, (p, None)) as_found (FindsWhole (step 0 1 1 e) (seen, (p, None)))
finds seen p known e right ends more cells log kept pre away =
    let there = away right in
    let whole = prefix_trans known seen log more pre in
    let same = same_cells cells log kept (not_empty known log p.key ends whole) in (
      kept.wide,
      head_home cells log kept,
      (
        keeps,
        [],
        None,
        tt,
        subst (λ (cs : List Cell). KeepsListRule cs (log ++ [])) (sym same) (no_more cells log kept),
        inl (refl, refl),
        (refl, λ u q at. append-nil log ∙ known_whole cells u log p.key kept.home (prefix_trans u seen log q pre) at there.1),
      ),
    )

-- ---- seats

ends_from : (x : Entry) (xs : List Entry) (e : Entry) → last_key x (xs ++ e ∷ []) ≡ e.next
ends_from x [] e = refl
ends_from x (y ∷ ys) e = ends_from y ys e

pub ends_push : (log : List Entry) (e : Entry) → EndsAt e.next (log ++ e ∷ [])
ends_push [] e = refl
ends_push (x ∷ xs) e = ends_from x xs e

pub same_book : (b c : Book) → id_of b ≡ id_of c → b ≡ c
same_book b c is = ap (λ (i : ListId). record { number = i.number; log_name = i.log_name; cells_name = i.cells_name }) is
