-- The named deltas are the last ones, and their changes lead to the newest set; what the notification names.
use Rattle.std.proofs.Common.{◌≡◌, ℕ, zero, suc, ◌+◌, ◌-◌, ◌≤◌, true, false, cond, refl, sym, ◌∙◌, ap, arith, length, take, drop, map, reverse, List, [], ◌∷◌, ◌++◌, append_assoc}
use Rattle.std.specs.Prelude.{nat_lt, nat_le, ◌&&◌}
use Rattle.std.specs.List.{flat_map}
use Rattle.std.proofs.lemmas.List.{append-nil, reverse-append}
use Rattle.pub_set.specs.declared.steps.Change.{Change}
use Rattle.pub_set.specs.Objects.{content_at}
use Rattle.pub_set.specs.Changes.{Contents, IsApplied, after, after_all}
use Rattle.rrdp_text.specs.declared.files.FileRef.{FileRef}
use Rattle.rrdp_text.specs.declared.files.DeltaRef.{DeltaRef}
use Rattle.rrdp_state.specs.declared.delta.Delta.{Delta}
use Rattle.rrdp_state.specs.Editions.{Edition, FollowEachOther, objects_of, edition_texts, deltas_of, last_deltas, delta_of}
use Rattle.rrdp_state.specs.Named.{fitting, most_named, named_deltas, named_entries, snapshot_entry, delta_entry}
use Rattle.rrdp_state.specs.Exported.{Repository, refs_named, delta_ref, entry_ref}
use Rattle.rrdp_state.proofs.Runs.{run_taken, later_delta}

-- ---- how many deltas there are

count_deltas : (session : List ℕ) (older : List Edition) (edition : Edition) → length (deltas_of session (edition ∷ older)) ≡ length older
count_deltas session [] edition = refl
count_deltas session (last ∷ older) edition =
    ap (λ (ds : List Delta). length (ds ++ deltas_of session (last ∷ older))) (later_delta session last edition older)
    ∙ ap suc (count_deltas session older last)

fitting_short : (most room : ℕ) (ds : List Delta) → length (fitting most room ds) ≤ length ds
fitting_short most room [] = omega arith
fitting_short most room (d ∷ ds) =
    elim (nat_lt 0 most && nat_le (length d.text) room) as (λ b. length (cond b (d ∷ fitting (most - 1) (room - length d.text) ds) []) ≤ suc (length ds)) [
      | true ↦ (let rest = fitting_short (most - 1) (room - length d.text) ds in omega arith)
      | false ↦ omega arith
    ]

pub few_named : (session : List ℕ) (older : List Edition) (edition : Edition) → length (named_deltas session (edition ∷ older)) ≤ length older
few_named session older edition =
    let short = fitting_short most_named (length (edition_texts session older edition).snapshot) (deltas_of session (edition ∷ older)) in
    let count = count_deltas session older edition in
    omega arith

-- ---- they are the last ones

taken_last : (session : List ℕ) (count : ℕ) (editions : List Edition) → count ≤ length (deltas_of session editions)
    → take count (deltas_of session editions) ≡ last_deltas session count editions
taken_last session zero editions few = refl
taken_last session (suc count) [] few = refl
taken_last session (suc count) (edition ∷ []) few = absurd (omega arith)
taken_last session (suc count) (edition ∷ (last ∷ older)) few =
    let counted = count_deltas session (last ∷ older) edition in
    let within = count_deltas session older last in
    ap (λ (ds : List Delta). take (suc count) (ds ++ deltas_of session (last ∷ older))) (later_delta session last edition older)
    ∙ ap (λ (ds : List Delta). delta_of session (last ∷ older) edition ∷ ds) (taken_last session count (last ∷ older) (omega arith))

pub named_are_last : (session : List ℕ) (editions : List Edition) → named_deltas session editions ≡ last_deltas session (length (named_deltas session editions)) editions
named_are_last session [] = refl
named_are_last session (edition ∷ older) =
    run_taken most_named (length (edition_texts session older edition).snapshot) (deltas_of session (edition ∷ older))
    ∙ taken_last session (length (named_deltas session (edition ∷ older))) (edition ∷ older)
    (fitting_short most_named (length (edition_texts session older edition).snapshot) (deltas_of session (edition ∷ older)))

-- ---- their changes

after_both : (xs ys : List Change) (held : Contents) → after_all held (xs ++ ys) ≡ after_all (after_all held xs) ys
after_both [] ys held = refl
after_both (x ∷ xs) ys held = after_both xs ys (after held x)

flat_map_last : (xs : List Edition) (edition : Edition) → flat_map (λ (e : Edition). e.changes) (xs ++ edition ∷ []) ≡ flat_map (λ (e : Edition). e.changes) xs ++ edition.changes
flat_map_last [] edition = append-nil edition.changes
flat_map_last (x ∷ xs) edition =
    ap (λ (cs : List Change). x.changes ++ cs) (flat_map_last xs edition) ∙ sym (append_assoc x.changes (flat_map (λ (e : Edition). e.changes) xs) edition.changes)

pub changes_lead : (count : ℕ) (editions : List Edition) → FollowEachOther editions
    → IsApplied (objects_of (drop count editions)) (flat_map (λ (e : Edition). e.changes) (reverse (take count editions))) (objects_of editions)
changes_lead zero editions follow = λ uri. refl
changes_lead (suc count) [] follow = λ uri. refl
changes_lead (suc count) (edition ∷ older) follow = λ uri.
    let before = changes_lead count older follow.2 in
    let same : content_at (objects_of older) ≡ after_all (content_at (objects_of (drop count older))) (flat_map (λ (e : Edition). e.changes) (reverse (take count older))) =
    λ i at. before at i in
    follow.1 uri
    ∙ (ap (λ (held : Contents). after_all held edition.changes uri) same
    ∙ (ap (λ (held : Contents). held uri) (sym (after_both (flat_map (λ (e : Edition). e.changes) (reverse (take count older))) edition.changes (content_at (objects_of (drop count older)))))
    ∙ ap (λ (cs : List Change). after_all (content_at (objects_of (drop count older))) cs uri) (sym (ap (λ (es : List Edition). flat_map (λ (e : Edition). e.changes) es) (reverse-append (edition ∷ []) (take count older)) ∙ flat_map_last (reverse (take count older)) edition))))

-- ---- what is named

delta_refs : (repository : Repository) (ds : List Delta) → map (λ (d : DeltaRef). d.file) (map (delta_ref repository) ds) ≡ map (entry_ref repository) (map delta_entry ds)
delta_refs repository [] = refl
delta_refs repository (d ∷ ds) = ap (λ (l : List FileRef). (delta_ref repository d).file ∷ l) (delta_refs repository ds)

pub refs_are : (repository : Repository) (older : List Edition) (edition : Edition)
    → refs_named repository older edition ≡ map (entry_ref repository) (named_entries repository.session (edition ∷ older))
refs_are repository older edition =
    ap (λ (l : List FileRef). entry_ref repository (snapshot_entry (length older + 1) (edition_texts repository.session older edition).snapshot) ∷ l)
    (delta_refs repository (named_deltas repository.session (edition ∷ older)))
