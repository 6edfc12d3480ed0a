-- What an accepted change of the origins leaves, in whatever order the configured ones stand.
use Rattle.std.proofs.Common.{◌≡◌, Bool, true, false, refl, sym, ◌∙◌, subst, List, [], ◌++◌}
use Rattle.std.specs.Prelude.{Option, Some, None, not, ◌&&◌}
use Rattle.std.specs.List.{IsDistinct}
use Rattle.std.proofs.lemmas.List.{append-nil}
use Rattle.std.proofs.lemmas.Map.Keys.{IsDistinct-from_sorted}
use Rattle.std.proofs.lemmas.List.Kept.{IsStrictlySortedBy-filter}
use Rattle.origins.specs.declared.Origin.{Origin}
use Rattle.authority_book.specs.declared.refusals.Refusal.{Refusal}
use Rattle.authority_book.specs.declared.refusals.Refusal.TheVariants.{OriginThere, OriginTwice, NoSuchOrigin}
use Rattle.authority_book.specs.Origins.{origin_cmp, is_same, is_there, without, first_repeated, IsAscending}
use Rattle.authority_book.specs.Verdict.{first_cause, refused_at, there_already, missing, count_with, too_many, roas_refusal}
use Rattle.authority_book.proofs.Distinct.{distinct-filter, distinct-added, there-without}

-- Where there is no cause, none is the first.
pub none_first : (first rest : Option Refusal) → first_cause first rest ≡ None → (first ≡ None) × (rest ≡ None)
none_first None rest none = (refl, none)
none_first (Some refusal) rest none = absurd (cc)

pub none_refused : (refusal : Origin → Refusal) (origin : Option Origin) → refused_at refusal origin ≡ None → origin ≡ None
none_refused refusal None none = refl
none_refused refusal (Some origin) none = absurd (cc)

and_swapped : (a b : Bool) → (a && b) ≡ (b && a)
and_swapped true true = refl
and_swapped true false = refl
and_swapped false true = refl
and_swapped false false = refl

-- An accepted change leaves each origin once.
pub accepted-distinct : (configured added removed : List Origin) → IsDistinct is_same configured →
    roas_refusal configured added removed ≡ None → IsDistinct is_same (without configured removed ++ added)
accepted-distinct configured added removed distinct accepted =
    let kept = without configured removed in
    let missed = first_cause (refused_at NoSuchOrigin (missing configured removed)) (too_many (count_with configured added removed)) in
    let twice = first_cause (refused_at OriginTwice (first_repeated removed)) missed in
    let there = none_first (refused_at OriginThere (there_already configured added removed)) (first_cause (refused_at OriginTwice (first_repeated added)) twice) accepted in
    let once = none_first (refused_at OriginTwice (first_repeated added)) twice there.1 in
    let clash : Origin → Bool = λ o. is_there configured o && not (is_there removed o) in
    let apart : (o : Origin) → clash o ≡ false → is_there kept o ≡ false =
    λ o free. there-without configured removed o ∙ (and_swapped (not (is_there removed o)) (is_there configured o) ∙ free) in
    let Distinct : List Origin → Type 0 = λ l. IsDistinct is_same l in
    let start : Distinct (kept ++ []) = subst Distinct (sym (append-nil kept)) (distinct-filter (λ o. not (is_there removed o)) configured distinct) in
    let all = distinct-added kept [] added clash apart start (none_refused OriginTwice (first_repeated added) once.0)
    (none_refused OriginThere (there_already configured added removed) there.0) in
    subst (λ (l : List Origin). Distinct (l ++ added)) (append-nil kept) all

pub distinct_from_ascending : (xs : List Origin) → IsAscending xs → IsDistinct is_same xs
distinct_from_ascending xs up = IsDistinct-from_sorted origin_cmp xs up

pub ascending-without : (xs removed : List Origin) → IsAscending xs → IsAscending (without xs removed)
ascending-without xs removed up = IsStrictlySortedBy-filter origin_cmp (λ o. not (is_there removed o)) xs up
