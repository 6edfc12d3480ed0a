-- What the newest editions tell is what is kept of all.
use Rattle.std.proofs.Common.{◌≡◌, ℕ, zero, suc, ◌+◌, ◌-◌, ◌<◌, ◌≤◌, ◌⊎◌, inl, inr, true, false, cond, refl, sym, ◌∙◌, ap, arith, length, take, drop, List, [], ◌∷◌, ◌++◌}
use Rattle.std.specs.Prelude.{nat_lt, nat_le, nat_eq, ◌&&◌}
use Rattle.std.proofs.Math.Numerals.{add-one, suc-eq-add-one}
use Rattle.std.proofs.Math.Seq.{take-nil}
use Rattle.std.proofs.lemmas.Bool.{cases_lt}
use Rattle.std.proofs.lemmas.List.{take_all, length-take, length-drop}
use Rattle.pub_set.specs.declared.objects.Object.{Object}
use Rattle.rrdp_text.specs.Texts.{snapshot_text, delta_text}
use Rattle.rrdp_state.specs.declared.delta.Delta.{Delta}
use Rattle.rrdp_state.specs.Editions.{Edition, FollowEachOther, edition_texts, edition_delta, new_delta, deltas_of, delta_of}
use Rattle.rrdp_state.specs.Named.{fitting, most_named, named_deltas}
use Rattle.rrdp_state.specs.Exported.{Repository}
use Rattle.rrdp_state.specs.Kept.{Kept, advanced}
use Rattle.rrdp_state.specs.State.{kept_of, StandsFor}
use Rattle.rrdp_state.specs.declared.next.NextDelta.{NextDelta}
use Rattle.rrdp_state.specs.Resuming.{kept_by, IsEnough, IsToldBy}
use Rattle.rrdp_state.proofs.Runs.{run_is, later_delta, named_next}
use Rattle.rrdp_state.proofs.Lasts.{few_named}
use Rattle.rrdp_state.proofs.Keeping.{named_with_is, first_none}

-- ---- one edition more

-- A run in front is found in the front.
fitting_taken : (most room k : ℕ) (ds : List Delta) → fitting most room (take k ds) ≡ take k (fitting most room ds)
fitting_taken most room zero ds = refl
fitting_taken most room (suc k) [] = refl
fitting_taken most room (suc k) (d ∷ ds) =
    elim (nat_lt 0 most && nat_le (length d.text) room) as (λ b. cond b (d ∷ fitting (most - 1) (room - length d.text) (take k ds)) []
    ≡ take (suc k) (cond b (d ∷ fitting (most - 1) (room - length d.text) ds) [])) [
      | true ↦ ap (λ (l : List Delta). d ∷ l) (fitting_taken (most - 1) (room - length d.text) k ds)
      | false ↦ refl
    ]

told_next : (session : List ℕ) (told : ℕ) (older : List Edition) (edition : Edition) → FollowEachOther (edition ∷ older)
    → fitting most_named (length (edition_texts session older edition).snapshot) (new_delta (edition_texts session older edition) ++ take told (named_deltas session older))
    ≡ take (suc told) (named_deltas session (edition ∷ older))
told_next session told [] edition follow =
    ap (λ (ds : List Delta). fitting most_named (length (edition_texts session [] edition).snapshot) ds) (take-nil told)
told_next session told (last ∷ older) edition follow =
    let room = length (edition_texts session (last ∷ older) edition).snapshot in
    let named = named_deltas session (last ∷ older) in
    let d = delta_of session (last ∷ older) edition in
    let new = later_delta session last edition older in
    ap (λ (ds : List Delta). fitting most_named room (ds ++ take told named)) new
    ∙ (fitting_taken most_named room (suc told) (d ∷ named)
    ∙ ap (λ (ds : List Delta). take (suc told) ds)
    (sym (ap (λ (ds : List Delta). fitting most_named room (ds ++ named)) new) ∙ named_next session (last ∷ older) edition follow))

advanced_is : (repository : Repository) (told : ℕ) (older : List Edition) (edition : Edition) → FollowEachOther (edition ∷ older)
    → advanced (kept_by repository told older) (length older + 1) (length (edition_texts repository.session older edition).snapshot)
    (edition_delta repository.session older edition).delta
    ≡ kept_by repository (suc told) (edition ∷ older)
advanced_is repository told older edition follow =
    let one : told ≡ suc told - 1 = omega arith in
    let two : told - 1 ≡ suc told - 2 = omega arith in
    let named = named_deltas repository.session older in
    let deltas = named_with_is (length (edition_texts repository.session older edition).snapshot) (length older + 1)
    (delta_text repository.session (length older + 1) edition.changes) (nat_eq (length older + 1) 1) (take told named)
    (λ first. ap (λ (ds : List Delta). take told ds) (first_none repository.session older first) ∙ take-nil told)
    ∙ told_next repository.session told older edition follow in
    λ i. record {
      session = repository.session;
      base = repository.base;
      serial = add-one (length older) i;
      deltas = deltas i;
      previous = length (take (one i) (named_deltas repository.session older));
      before = length (take (two i) (named_deltas repository.session (drop 1 older)));
    }

pub told_by_next : (repository : Repository) (told : ℕ) (older : List Edition) (edition : Edition) (old new : Kept) (next : NextDelta) (objects : List Object)
    → IsToldBy repository told older old → FollowEachOther (edition ∷ older) → objects ≡ edition.objects → next ≡ edition_delta repository.session older edition
    → new ≡ advanced old next.serial (length (snapshot_text old.session next.serial objects)) next.delta → IsToldBy repository (told + 1) (edition ∷ older) new
told_by_next repository told older edition old new next objects by follow same delta is =
    let at : next.serial ≡ length older + 1 = ap (λ (n : NextDelta). n.serial) delta in
    let text : next.delta ≡ (edition_delta repository.session older edition).delta = ap (λ (n : NextDelta). n.delta) delta in
    let session : old.session ≡ repository.session = ap (λ (k : Kept). k.session) by.state in
    let long : length (snapshot_text old.session next.serial objects) ≡ length (edition_texts repository.session older edition).snapshot =
    λ i. length (snapshot_text (session i) (at i) (same i)) in
    record {
      follow = follow;
      state = is ∙ ((λ i. advanced (by.state i) (at i) (long i) (text i))
          ∙ (advanced_is repository told older edition follow ∙ ap (λ n. kept_by repository n (edition ∷ older)) (suc-eq-add-one told)));
    }

-- ---- enough of them

named_few : (session : List ℕ) (editions : List Edition) → length (named_deltas session editions) ≤ 16
named_few session [] = omega arith
named_few session (edition ∷ older) =
    let ds = deltas_of session (edition ∷ older) in
    let run = run_is most_named (length (edition_texts session older edition).snapshot) ds in
    let few : run.0 ≤ 16 = run.1 in
    let same : length (named_deltas session (edition ∷ older)) ≡ length (take run.0 ds) = ap length run.2 in
    let front = length-take run.0 ds in
    omega (arith, few, same, front)

named_within : (session : List ℕ) (editions : List Edition) → length (named_deltas session editions) ≤ length editions
named_within session [] = omega arith
named_within session (edition ∷ older) = let few = few_named session older edition in omega arith

enough_at : (session : List ℕ) (told n k : ℕ) (editions : List Edition) → n ≡ told - k → k ≤ 2 → IsEnough told editions
    → take n (named_deltas session (drop k editions)) ≡ named_deltas session (drop k editions)
enough_at session told n k editions is small enough =
    let few = named_few session (drop k editions) in
    let within = named_within session (drop k editions) in
    let dropped = length-drop k editions in
    take_all n (named_deltas session (drop k editions)) (by (cases_lt told 18) few within dropped)
  where
    by : (told < 18) ⊎ (18 ≤ told) → length (named_deltas session (drop k editions)) ≤ 16 → length (named_deltas session (drop k editions)) ≤ length (drop k editions)
        → length (drop k editions) ≡ length editions - k → length (named_deltas session (drop k editions)) ≤ n
    by (inl less) few within dropped = let all = enough less in omega arith
    by (inr more) few within dropped = omega arith

told_is : (repository : Repository) (told : ℕ) (editions : List Edition) → IsEnough told editions → kept_by repository told editions ≡ kept_of repository editions
told_is repository told [] enough =
    let all = enough_at repository.session told told 0 [] (omega arith) (omega arith) enough in
    let one = enough_at repository.session told (told - 1) 1 [] refl (omega arith) enough in
    let two = enough_at repository.session told (told - 2) 2 [] refl (omega arith) enough in
    λ i. record (kept_of repository []) { deltas = all i; previous = length (one i); before = length (two i) }
told_is repository told (edition ∷ older) enough =
    let all = enough_at repository.session told told 0 (edition ∷ older) (omega arith) (omega arith) enough in
    let one = enough_at repository.session told (told - 1) 1 (edition ∷ older) refl (omega arith) enough in
    let two = enough_at repository.session told (told - 2) 2 (edition ∷ older) refl (omega arith) enough in
    let at = suc-eq-add-one (length older) in
    λ i. record {
      session = repository.session;
      base = repository.base;
      serial = at i;
      deltas = all i;
      previous = length (one i);
      before = length (two i);
    }

pub told_all : (repository : Repository) (told : ℕ) (editions : List Edition) (old : Kept)
    → IsToldBy repository told editions old → IsEnough told editions → StandsFor repository editions old
told_all repository told editions old by enough = record { follow = by.follow; state = by.state ∙ told_is repository told editions enough }
