-- What editions leave is a set.
use Rattle.std.proofs.Common.{◌≡◌, ℕ, refl, ◌∙◌, ap, List, [], ◌∷◌}
use Rattle.std.specs.List.Sorted.{IsStrictlySortedBy}
use Rattle.pub_set.specs.declared.objects.Object.{Object}
use Rattle.pub_set.specs.declared.steps.Change.{Change}
use Rattle.pub_set.specs.Objects.{content_at, IsAscending}
use Rattle.pub_set.specs.Changes.{Contents, after_all, IsApplied}
use Rattle.editions.specs.Edition.{Edition, State, first_state, after_edition, state_from, set_after}

abbrev pub Leave : Type 0
Leave = (old : List Object) (changes : List Change) → IsAscending old
    → (new : List Object) × IsAscending new × IsApplied old changes new

abbrev pub IsSet : Contents → Type 0
IsSet set = (objects : List Object) × IsAscending objects × ((uri : List ℕ) → content_at objects uri ≡ set uri)

none_ascend : IsAscending []
unfolding IsStrictlySortedBy
none_ascend = tt

same_then : (a b : Contents) (changes : List Change) → ((uri : List ℕ) → a uri ≡ b uri) → (uri : List ℕ)
    → after_all a changes uri ≡ after_all b changes uri
same_then a b changes same uri = ap (λ (held : Contents). after_all held changes uri) (λ i at. same at i)

left_from : Leave → (editions : List Edition) (state : State) → IsSet state.set → IsSet (state_from state editions).set
left_from leave [] state set = set
left_from leave (edition ∷ rest) state set =
    let one = leave set.0 edition.changes set.1 in
    left_from leave rest (after_edition state edition)
    (one.0, one.1, λ uri. one.2 uri ∙ same_then (content_at set.0) state.set edition.changes set.2 uri)

pub left : Leave → (editions : List Edition) → IsSet (set_after editions)
left leave editions = left_from leave editions first_state ([], none_ascend, λ uri. refl)
