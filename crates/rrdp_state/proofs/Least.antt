-- How long a snapshot is at least, and which deltas are named beside one that is longer.
use Rattle.std.proofs.Common.{◌≡◌, ℕ, ◌+◌, ◌-◌, ◌≤◌, ◌<◌, zero, suc, Bool, true, false, cond, refl, sym, ◌∙◌, ap, arith, length, get_or, take, List, [], ◌∷◌, ◌++◌, length-append, inl, inr}
use Rattle.std.specs.Prelude.{nat_le, nat_lt, ◌&&◌, ◌⊎◌}
use Rattle.std.specs.List.{flat_map}
use Rattle.std.proofs.lemmas.Bool.Decides.{nat_tests}
use Rattle.std.proofs.lemmas.List.{take_more, flat_map_more}
use Rattle.pub_set.specs.declared.objects.Object.{Object}
use Rattle.rrdp_text.specs.Texts.{object_text, snapshot_text}
use Rattle.rrdp_state.specs.declared.delta.Delta.{Delta}
use Rattle.rrdp_state.specs.Named.{fitting}

-- A line is longer than its URI.
pub least_line : (object : Object) → length object.uri ≤ length (object_text object)
unfolding object_text
least_line object = simp length-append (omega arith)

-- One object more.
pub least_more : (os : List Object) (i n m : ℕ) (o : Object) → i < length os → o ≡ get_or os i o →
    n ≤ length (flat_map object_text (take i os)) → m ≤ n + length o.uri → m ≤ length (flat_map object_text (take (i + 1) os))
least_more os i n m o inside is was now =
    let longer : take (i + 1) os ≡ take i os ++ o ∷ [] = take_more os i o inside ∙ ap (λ (x : Object). take i os ++ x ∷ []) (sym is) in
    let lines : length (flat_map object_text (take (i + 1) os)) ≡ length (flat_map object_text (take i os)) + length (object_text o) =
    ap (λ (l : List Object). length (flat_map object_text l)) longer
    ∙ (ap length (sym (flat_map_more object_text [] (take i os) o)) ∙ length-append (flat_map object_text (take i os)) (object_text o)) in
    let line = least_line o in
    omega (arith, lines, line)

-- A snapshot is longer than its lines.
pub least_snapshot : (session : List ℕ) (serial : ℕ) (os : List Object) → length (flat_map object_text os) ≤ length (snapshot_text session serial os)
unfolding snapshot_text
least_snapshot session serial os = simp length-append (omega arith)

tail_same : (d : Delta) (xs ys : List Delta) → d ∷ xs ≡ d ∷ ys → xs ≡ ys
tail_same d xs ys h = cc

cons_nil : (d : Delta) (xs : List Delta) → ◌≡◌ {A = List Delta} (d ∷ xs) [] → ⊥
cons_nil d xs h = cc

nearer : (n most : ℕ) (ds : List Delta) → (suc (length ds) ≤ suc n) ⊎ (most ≤ suc n) → (length ds ≤ n) ⊎ (most - 1 ≤ n)
nearer n most ds (inl far) = inl (omega (arith, far))
nearer n most ds (inr far) = inr (omega (arith, far))

none_left : (most : ℕ) → most ≤ 0 → nat_lt 0 most ≡ false
none_left most none = grind (arith, nat_tests)

fits_wider : (len less more : ℕ) → less ≤ more → nat_le len less ≡ true → nat_le len more ≡ true
fits_wider len less more within fits = grind (arith, nat_tests)

-- Where all that may be named are named beside so many bytes, these are named beside more.
all_fit : (most less more n : ℕ) (ds : List Delta) → less ≤ more → (length ds ≤ n) ⊎ (most ≤ n) → take n ds ≡ fitting most less ds → take n ds ≡ fitting most more ds
all_fit most less more n [] within far named = named
all_fit most less more zero (d ∷ ds) within (inl far) named = absurd (omega (arith, far))
all_fit most less more zero (d ∷ ds) within (inr far) named =
    sym (ap (λ (b : Bool). cond (b && nat_le (length d.text) more) (d ∷ fitting (most - 1) (more - length d.text) ds) []) (none_left most far))
all_fit most less more (suc n) (d ∷ ds) within far named =
    elim (nat_lt 0 most) as (λ a. d ∷ take n ds ≡ cond (a && nat_le (length d.text) less) (d ∷ fitting (most - 1) (less - length d.text) ds) []
    → d ∷ take n ds ≡ cond (a && nat_le (length d.text) more) (d ∷ fitting (most - 1) (more - length d.text) ds) []) [
      | true ↦ elim (nat_le (length d.text) less) as (λ b. nat_le (length d.text) less ≡ b → d ∷ take n ds ≡ cond b (d ∷ fitting (most - 1) (less - length d.text) ds) []
          → d ∷ take n ds ≡ cond (nat_le (length d.text) more) (d ∷ fitting (most - 1) (more - length d.text) ds) []) [
            | true ↦ λ fits here.
                let rest = all_fit (most - 1) (less - length d.text) (more - length d.text) n ds (omega (arith, within)) (nearer n most ds far)
                (tail_same d (take n ds) (fitting (most - 1) (less - length d.text) ds) here) in
                ap (λ (l : List Delta). d ∷ l) rest
                ∙ sym (ap (λ (b : Bool). cond b (d ∷ fitting (most - 1) (more - length d.text) ds) []) (fits_wider (length d.text) less more within fits))
            | false ↦ λ other here. absurd (cons_nil d (take n ds) here)
          ] refl
      | false ↦ λ here. absurd (cons_nil d (take n ds) here)
    ] named

pub all_fit_few : (most less more n : ℕ) (ds : List Delta) → less ≤ more → n ≡ length ds → take n ds ≡ fitting most less ds → take n ds ≡ fitting most more ds
all_fit_few most less more n ds within is named = all_fit most less more n ds within (inl (omega (arith, is))) named

pub all_fit_most : (most less more n : ℕ) (ds : List Delta) → less ≤ more → n ≡ most → take n ds ≡ fitting most less ds → take n ds ≡ fitting most more ds
all_fit_most most less more n ds within is named = all_fit most less more n ds within (inr (omega (arith, is))) named
