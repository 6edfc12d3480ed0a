-- The first origin that stands twice, as a list grows.
use Rattle.std.proofs.Common.{◌≡◌, true, false, refl, ap, ◌∙◌, List, [], ◌∷◌, ◌++◌, cond}
use Rattle.std.specs.Prelude.{Option, Some, None}
use Rattle.std.specs.Option.{option_or}
use Rattle.std.proofs.lemmas.List.{append-nil, append_assoc}
use Rattle.origins.specs.declared.Origin.{Origin}
use Rattle.authority_book.specs.Origins.{is_there, first_repeated, first_repeated_after}

-- The origin, if it stands in the list.
abbrev pub again : List Origin → Origin → Option Origin
again xs o = cond (is_there xs o) (Some o) None

first_repeated_after-append : (earlier xs ys : List Origin) →
    first_repeated_after earlier (xs ++ ys) ≡ option_or (first_repeated_after earlier xs) (first_repeated_after (earlier ++ xs) ys)
first_repeated_after-append earlier [] ys = rw (append-nil earlier) refl
first_repeated_after-append earlier (x ∷ xs) ys =
    let rest = first_repeated_after-append (earlier ++ x ∷ []) xs ys in
    let here = rw (append_assoc earlier (x ∷ []) xs) at rest in
    elim (is_there earlier x) as (λ b. cond b (Some x) (first_repeated_after (earlier ++ x ∷ []) (xs ++ ys))
    ≡ option_or (cond b (Some x) (first_repeated_after (earlier ++ x ∷ []) xs)) (first_repeated_after (earlier ++ x ∷ xs) ys))
    [ true ↦ refl | false ↦ here ]

pub first_repeated-push : (xs : List Origin) (o : Origin) →
    first_repeated (xs ++ o ∷ []) ≡ option_or (first_repeated xs) (again xs o)
first_repeated-push xs o = first_repeated_after-append [] xs (o ∷ [])

-- what stands behind a repetition changes nothing
pub first_repeated-front : (xs ys : List Origin) (o : Origin) → first_repeated xs ≡ Some o → first_repeated (xs ++ ys) ≡ Some o
first_repeated-front xs ys o is = first_repeated_after-append [] xs ys ∙ ap (λ r. option_or r (first_repeated_after xs ys)) is
