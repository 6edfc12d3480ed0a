-- The deltas that are named: the longest run, and that none comes back.
use Rattle.std.proofs.Common.{◌≡◌, ℕ, zero, suc, ◌+◌, ◌-◌, ◌<◌, ◌≤◌, true, false, cond, refl, sym, ap, arith, subst, length, take, List, [], ◌∷◌, ◌++◌, Some, None, Bool}
use Rattle.std.specs.Prelude.{◌&&◌, nat_lt, nat_le, nat_eq}
use Rattle.std.proofs.lemmas.Bool.Decides.{nat_tests}
use Rattle.rrdp_text.specs.Texts.{delta_text}
use Rattle.rrdp_state.specs.declared.delta.Delta.{Delta}
use Rattle.rrdp_state.specs.Editions.{Edition, FollowEachOther, edition_texts, delta_in, new_delta, deltas_of, delta_of}
use Rattle.rrdp_state.specs.Named.{fitting, bytes_in, most_named, named_deltas}
use Rattle.rrdp_state.proofs.Sizes.{snapshot_grows}

-- whether the delta is taken where so many, and so many bytes, may come
abbrev fits : ℕ → ℕ → Delta → Bool
fits most room delta = nat_lt 0 most && nat_le (length delta.text) room

fits_means : (most room : ℕ) (delta : Delta) → fits most room delta ≡ true → (0 < most) × (length delta.text ≤ room)
fits_means most room delta h = grind (arith, nat_tests)

means_fits : (most room : ℕ) (delta : Delta) → 0 < most → length delta.text ≤ room → fits most room delta ≡ true
means_fits most room delta some small = grind (arith, nat_tests)

fits_more : (m n r s : ℕ) (delta : Delta) → m ≤ n → r ≤ s → fits m r delta ≡ true → fits n s delta ≡ true
fits_more m n r s delta more larger h =
    let p = fits_means m r delta h in
    let some : 0 < m = p.0 in
    let small : length delta.text ≤ r = p.1 in
    means_fits n s delta (omega arith) (omega arith)

-- A run is found in a longer run as it is in all.
pub fitting_within : (m n r s : ℕ) (ds : List Delta) → m ≤ n → r ≤ s → fitting m r (fitting n s ds) ≡ fitting m r ds
fitting_within m n r s [] more larger = refl
fitting_within m n r s (d ∷ ds) more larger =
    elim (fits n s d) as (λ b. fits n s d ≡ b →
    fitting m r (cond b (d ∷ fitting (n - 1) (s - length d.text) ds) []) ≡ cond (fits m r d) (d ∷ fitting (m - 1) (r - length d.text) ds) []) [
      | true ↦ λ outer.
          ap (λ (l : List Delta). cond (fits m r d) (d ∷ l) []) (fitting_within (m - 1) (n - 1) (r - length d.text) (s - length d.text) ds (omega arith) (omega arith))
      | false ↦ λ outer.
          elim (fits m r d) as (λ b. fits m r d ≡ b → ◌≡◌ {A = List Delta} [] (cond b (d ∷ fitting (m - 1) (r - length d.text) ds) [])) [
            | true ↦ λ inner. let e = fits_more m n r s d more larger inner in cc
            | false ↦ λ inner. refl
          ] refl
    ] refl

-- ---- the longest run

pub run_is : (most room : ℕ) (ds : List Delta) → (count : ℕ) × (count ≤ most) × (fitting most room ds ≡ take count ds)
run_is most room [] = (0, omega arith, refl)
run_is most room (d ∷ ds) =
    elim (fits most room d) as (λ b. fits most room d ≡ b → (count : ℕ) × (count ≤ most) × (cond b (d ∷ fitting (most - 1) (room - length d.text) ds) [] ≡ take count (d ∷ ds))) [
      | true ↦ λ h.
          let p = fits_means most room d h in
          let rest = run_is (most - 1) (room - length d.text) ds in
          let some : 0 < most = p.0 in
          let few : rest.0 ≤ most - 1 = rest.1 in
          (suc rest.0, omega arith, ap (λ (l : List Delta). d ∷ l) rest.2)
      | false ↦ λ h. (0, omega arith, refl)
    ] refl

pub run_fits : (most room : ℕ) (ds : List Delta) → bytes_in (fitting most room ds) ≤ room
run_fits most room [] = omega arith
run_fits most room (d ∷ ds) =
    elim (fits most room d) as (λ b. fits most room d ≡ b → bytes_in (cond b (d ∷ fitting (most - 1) (room - length d.text) ds) []) ≤ room) [
      | true ↦ λ h.
          let p = fits_means most room d h in
          let rest = run_fits (most - 1) (room - length d.text) ds in
          let small : length d.text ≤ room = p.1 in
          omega arith
      | false ↦ λ h. omega arith
    ] refl

pub run_longest : (most room count : ℕ) (ds : List Delta) → count ≤ most → count ≤ length ds → bytes_in (take count ds) ≤ room → count ≤ length (fitting most room ds)
run_longest most room zero ds few there small = omega arith
run_longest most room (suc count) [] few there small = absurd (omega arith)
run_longest most room (suc count) (d ∷ ds) few there small =
    let here : fits most room d ≡ true = means_fits most room d (omega arith) (omega arith) in
    let rest = run_longest (most - 1) (room - length d.text) count ds (omega arith) (omega arith) (omega arith) in
    rw here (omega arith)

-- A run is a front.
pub run_taken : (most room : ℕ) (ds : List Delta) → fitting most room ds ≡ take (length (fitting most room ds)) ds
run_taken most room [] = refl
run_taken most room (d ∷ ds) =
    elim (fits most room d) as (λ b. cond b (d ∷ fitting (most - 1) (room - length d.text) ds) [] ≡ take (length (cond b (d ∷ fitting (most - 1) (room - length d.text) ds) [])) (d ∷ ds)) [
      | true ↦ ap (λ (l : List Delta). d ∷ l) (run_taken (most - 1) (room - length d.text) ds)
      | false ↦ refl
    ]

-- ---- none comes back

pub later_serial : (n : ℕ) → nat_eq (suc n + 1) 1 ≡ false
later_serial n = grind (arith, nat_tests)

-- Each edition but the first has a delta.
pub later_delta : (session : List ℕ) (last edition : Edition) (older : List Edition)
    → new_delta (edition_texts session (last ∷ older) edition) ≡ delta_of session (last ∷ older) edition ∷ []
later_delta session last edition older =
    ap (λ b. delta_in (suc (length older) + 1) (cond b None (Some (delta_text session (suc (length older) + 1) edition.changes)))) (later_serial (length older))

-- With a new delta in front, a run of the deltas that were named is one of all.
fitting_behind : (room before : ℕ) (d : Delta) (ds : List Delta) → room ≤ before + length d.text
    → fitting most_named room (d ∷ fitting most_named before ds) ≡ fitting most_named room (d ∷ ds)
fitting_behind room before d ds small =
    ap (λ (l : List Delta). cond (fits most_named room d) (d ∷ l) []) (fitting_within 15 16 (room - length d.text) before ds (omega arith) (omega arith))

-- The deltas that are named after an edition are found among its own and those that were named before it.
pub named_next : (session : List ℕ) (older : List Edition) (edition : Edition) → FollowEachOther (edition ∷ older)
    → fitting most_named (length (edition_texts session older edition).snapshot) (new_delta (edition_texts session older edition) ++ named_deltas session older)
    ≡ named_deltas session (edition ∷ older)
named_next session [] edition follow = refl
named_next session (last ∷ older) edition follow =
    let room = length (edition_texts session (last ∷ older) edition).snapshot in
    subst (λ (ds : List Delta). fitting most_named room (ds ++ named_deltas session (last ∷ older)) ≡ fitting most_named room (ds ++ deltas_of session (last ∷ older)))
    (sym (later_delta session last edition older))
    (fitting_behind room (length (edition_texts session older last).snapshot)
    (delta_of session (last ∷ older) edition) (deltas_of session (last ∷ older))
    (snapshot_grows session (length older + 1) (length (last ∷ older) + 1) last.objects edition.objects edition.changes follow.0 follow.1))
