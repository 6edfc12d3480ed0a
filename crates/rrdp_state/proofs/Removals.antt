-- What is left, found one serial after another.
use Rattle.std.proofs.Common.{◌≡◌, ℕ, zero, suc, ◌+◌, ◌-◌, ◌<◌, ◌≤◌, true, false, cond, refl, sym, ◌∙◌, ap, arith, map, List, [], ◌∷◌, ◌++◌, Bool}
use Rattle.std.specs.Prelude.{not, nat_eq, nat_lt, ◌&&◌, ◌||◌, filter}
use Rattle.std.specs.List.{list_any}
use Rattle.std.proofs.lemmas.Bool.Decides.{nat_tests}
use Rattle.std.proofs.lemmas.List.{map-append}
use Rattle.std.proofs.lemmas.List.Elements.{filter-append}
use Rattle.outlet_api.specs.Calls.{Call, removal}
use Rattle.rrdp_state.specs.Named.{FileName, is_same_file}
use Rattle.rrdp_state.specs.Named.FileName.{SnapshotOf, DeltaOf}
use Rattle.rrdp_state.specs.Paths.{path_of}
use Rattle.rrdp_state.specs.Exported.{is_named, left_by}
use Rattle.rrdp_state.specs.Kept.{down_from, run_files, is_in_run, is_left, left_runs}

abbrev pub removals_so_far : List ℕ → ℕ → ℕ → ℕ → ℕ → ℕ → List Call
removals_so_far session serial named previous oldest k =
    map (λ file. removal (path_of session file)) (SnapshotOf oldest ∷ filter (is_left serial named previous) (map DeltaOf (down_from oldest k)))

-- ---- runs

-- The tests of a run's first number and of the others come to that of the run.
in_one_more : (n m d : ℕ) → (nat_eq d n || is_in_run (n - 1) m d) ≡ is_in_run n (suc m) d
in_one_more n m d = grind (arith, nat_tests)

among : (d n m : ℕ) → list_any (is_same_file (DeltaOf d)) (map DeltaOf (down_from n m)) ≡ is_in_run n m d
among d n zero = grind (arith, nat_tests)
among d n (suc m) = ap (λ b. nat_eq d n || b) (among d (n - 1) m) ∙ in_one_more n m d

pub delta_among : (d n m : ℕ) → is_named (DeltaOf d) (run_files n m) ≡ is_in_run n m d
delta_among d n m = among d n m

no_delta : (s n m : ℕ) → list_any (is_same_file (SnapshotOf s)) (map DeltaOf (down_from n m)) ≡ false
no_delta s n zero = refl
no_delta s n (suc m) = no_delta s (n - 1) m

snapshot_apart : (s n m : ℕ) → s < n → is_named (SnapshotOf s) (run_files n m) ≡ false
snapshot_apart s n m less =
    let other : nat_eq s n ≡ false = grind (arith, nat_tests) in
    λ i. (other i) || (no_delta s n m i)

left_is : (serial named previous : ℕ) (file : FileName) (one two : Bool) → is_named file (run_files (serial - 1) previous) ≡ one → is_named file (run_files serial named) ≡ two
    → is_left serial named previous file ≡ (not one && not two)
left_is serial named previous file one two first second = λ i. not (first i) && not (second i)

-- The snapshot of the notification before the previous one is left.
snapshot_left : (serial named previous : ℕ) → 3 ≤ serial → is_left serial named previous (SnapshotOf (serial - 2)) ≡ true
snapshot_left serial named previous third =
    left_is serial named previous (SnapshotOf (serial - 2)) false false
    (snapshot_apart (serial - 2) (serial - 1) previous (omega arith)) (snapshot_apart (serial - 2) serial named (omega arith))

down_more : (n k : ℕ) → down_from n (suc k) ≡ down_from n k ++ (n - k) ∷ []
down_more n zero = let e : n - 0 ≡ n = omega arith in rw e refl
down_more n (suc k) =
    let e : n - 1 - k ≡ n - suc k = omega arith in
    ap (λ (l : List ℕ). n ∷ l) (down_more (n - 1) k ∙ ap (λ m. down_from (n - 1) k ++ m ∷ []) e)

-- ---- one serial more

so_far_more : (session : List ℕ) (serial named previous oldest k : ℕ) → removals_so_far session serial named previous oldest (k + 1)
    ≡ removals_so_far session serial named previous oldest k
    ++ map (λ file. removal (path_of session file)) (filter (is_left serial named previous) (DeltaOf (oldest - k) ∷ []))
so_far_more session serial named previous oldest k =
    let e : k + 1 ≡ suc k = omega arith in
    let call : FileName → Call = λ file. removal (path_of session file) in
    let test : FileName → Bool = is_left serial named previous in
    ap (λ m. removals_so_far session serial named previous oldest m) e
    ∙ (ap (λ (l : List ℕ). call (SnapshotOf oldest) ∷ map call (filter test (map DeltaOf l))) (down_more oldest k)
    ∙ (ap (λ (l : List FileName). call (SnapshotOf oldest) ∷ map call (filter test l)) (map-append DeltaOf (down_from oldest k) ((oldest - k) ∷ []))
    ∙ (ap (λ (l : List FileName). call (SnapshotOf oldest) ∷ map call l) (filter-append test (map DeltaOf (down_from oldest k)) (DeltaOf (oldest - k) ∷ []))
    ∙ ap (λ (l : List Call). call (SnapshotOf oldest) ∷ l) (map-append call (filter test (map DeltaOf (down_from oldest k))) (filter test (DeltaOf (oldest - k) ∷ []))))))

pub so_far_next : (session : List ℕ) (serial named previous oldest k delta : ℕ) (old new : List Call) → old ≡ removals_so_far session serial named previous oldest k
    → new ≡ old ++ map (λ file. removal (path_of session file)) (filter (is_left serial named previous) (DeltaOf delta ∷ [])) → delta ≡ oldest - k
    → new ≡ removals_so_far session serial named previous oldest (k + 1)
so_far_next session serial named previous oldest k delta old new so_far is here =
    is
    ∙ (ap (λ (l : List Call). l ++ map (λ file. removal (path_of session file)) (filter (is_left serial named previous) (DeltaOf delta ∷ []))) so_far
    ∙ (ap (λ d. removals_so_far session serial named previous oldest k ++ map (λ file. removal (path_of session file)) (filter (is_left serial named previous) (DeltaOf d ∷ []))) here
    ∙ sym (so_far_more session serial named previous oldest k)))

-- ---- a delta is left

pub delta_left : (serial named previous d : ℕ) → is_left serial named previous (DeltaOf d) ≡ (not (is_in_run (serial - 1) previous d) && not (is_in_run serial named d))
delta_left serial named previous d =
    left_is serial named previous (DeltaOf d) (is_in_run (serial - 1) previous d) (is_in_run serial named d) (delta_among d (serial - 1) previous) (delta_among d serial named)

-- ---- all of them

all_left : (session : List ℕ) (serial named previous before : ℕ) → 3 ≤ serial
    → map (λ file. removal (path_of session file)) (left_runs serial named previous before) ≡ removals_so_far session serial named previous (serial - 2) before
all_left session serial named previous before third =
    let late : nat_lt serial 3 ≡ false = grind (arith, nat_tests) in
    let call : FileName → Call = λ file. removal (path_of session file) in
    let others : List FileName = filter (is_left serial named previous) (map DeltaOf (down_from (serial - 2) before)) in
    ap (λ b. map call (cond b [] (left_by (run_files (serial - 2) before) (run_files (serial - 1) previous) (run_files serial named)))) late
    ∙ ap (λ b. map call (cond b (SnapshotOf (serial - 2) ∷ others) others)) (snapshot_left serial named previous third)

pub none_left : (session : List ℕ) (serial named previous before : ℕ) → serial < 3
    → map (λ file. removal (path_of session file)) (left_runs serial named previous before) ≡ []
none_left session serial named previous before early =
    let late : nat_lt serial 3 ≡ true = grind (arith, nat_tests) in
    ap (λ b. map (λ file. removal (path_of session file)) (cond b [] (left_by (run_files (serial - 2) before) (run_files (serial - 1) previous) (run_files serial named)))) late

pub so_far_end : (session : List ℕ) (serial named previous before k : ℕ) (old : List Call) → 3 ≤ serial → k ≡ before → old ≡ removals_so_far session serial named previous (serial - 2) k
    → old ≡ map (λ file. removal (path_of session file)) (left_runs serial named previous before)
so_far_end session serial named previous before k old third end so_far =
    so_far ∙ (ap (λ n. removals_so_far session serial named previous (serial - 2) n) end ∙ sym (all_left session serial named previous before third))
