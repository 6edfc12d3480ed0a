-- Editions as RRDP has them: what stands after each of them.
use Rattle.std.proofs.Common.{◌≡◌, ℕ, ◌+◌, true, false, cond, refl, sym, ◌∙◌, ap, subst, length, List, [], ◌∷◌, ◌++◌, Some, None, Bool, arith}
use Rattle.std.specs.Prelude.{Option, filter}
use Rattle.std.specs.Option.{option_or}
use Rattle.std.specs.List.{AllByRecursion}
use Rattle.std.specs.Ordering.{is_lt, on}
use Rattle.std.specs.declared.cmp.Ordering.{Ordering}
use Rattle.std.specs.declared.cmp.Ordering.TheVariants.{Less, Equal, Greater}
use Rattle.std.proofs.lemmas.Bool.{false≢true}
use Rattle.std.proofs.lemmas.List.{append-nil}
use Rattle.std.proofs.lemmas.List.Kept.{IsStrictlySortedBy-filter}
use Rattle.pub_set.specs.declared.objects.Object.{Object}
use Rattle.pub_set.specs.declared.steps.Change.{Change}
use Rattle.pub_set.specs.Objects.{uri_cmp, uri_at, is_same, content_at, IsAscending, AllBelow, AllAbove}
use Rattle.pub_set.specs.Changes.{Contents, uri_of, left_by, after, after_all}
use Rattle.pub_set.specs.laws.UriLaws.{uri_total, tied_is, same_is, same_self, other_below, other_above, below_from_above}
use Rattle.pub_set.specs.laws.LookupLaws.{found_at-append, rise-nil, rise-push, rise-append, rise-between, above_further, all_weaken, all_append}
use Rattle.editions.specs.Edition.{Edition, State, first_state, after_edition, state_from, set_after}
use Rattle.rrdp_state.specs.Editions as rrdp
use Rattle.rrdp_state.specs.Editions.{objects_of, FollowEachOther}
use Rattle.press_core.specs.Files.{object_at, changed, all_changed, told, told_before, rrdp_editions}

-- ---- what is found among those that pass a test

kept_found : (p : Object → Bool) (os : List Object) (at : List ℕ) → ((o : Object) → is_same o.uri at ≡ true → p o ≡ true)
    → content_at (filter p os) at ≡ content_at os at
kept_found p [] at pass = refl
kept_found p (o ∷ os) at pass =
    elim (p o) as (λ b. p o ≡ b → content_at (cond b (o ∷ filter p os) (filter p os)) at ≡ cond (is_same o.uri at) (Some o.bytes) (content_at os at)) [
      | true ↦ λ passes. ap (cond (is_same o.uri at) (Some o.bytes)) (kept_found p os at pass)
      | false ↦ λ fails.
          elim (is_same o.uri at) as (λ b. is_same o.uri at ≡ b → content_at (filter p os) at ≡ cond b (Some o.bytes) (content_at os at)) [
            | true ↦ λ same. absurd (false≢true (sym fails ∙ pass o same))
            | false ↦ λ other. kept_found p os at pass
          ] refl
    ] refl

gone_found : (p : Object → Bool) (os : List Object) (at : List ℕ) → ((o : Object) → p o ≡ true → is_same o.uri at ≡ false)
    → content_at (filter p os) at ≡ None
gone_found p [] at pass = refl
gone_found p (o ∷ os) at pass =
    elim (p o) as (λ b. p o ≡ b → content_at (cond b (o ∷ filter p os) (filter p os)) at ≡ None) [
      | true ↦ λ passes. rw (pass o passes) (gone_found p os at pass)
      | false ↦ λ fails. gone_found p os at pass
    ] refl

all_passed : (P : Object → Type 0) (p : Object → Bool) (os : List Object) → ((o : Object) → p o ≡ true → P o) → AllByRecursion P (filter p os)
all_passed P p [] pass = tt
all_passed P p (o ∷ os) pass =
    elim (p o) as (λ b. p o ≡ b → AllByRecursion P (cond b (o ∷ filter p os) (filter p os))) [
      | true ↦ λ passes. (pass o passes, all_passed P p os pass)
      | false ↦ λ fails. all_passed P p os pass
    ] refl

-- ---- before and behind a URI

is_less : (o : Ordering) → is_lt o ≡ true → o ≡ Less
is_less Less h = refl
is_less Equal h = absurd (false≢true h)
is_less Greater h = absurd (false≢true h)

abbrev before : List ℕ → Object → Bool
before uri o = is_lt (uri_cmp o.uri uri)

abbrev behind : List ℕ → Object → Bool
behind uri o = is_lt (uri_cmp uri o.uri)

-- What stands before a URI, at a place before it, at it and behind it.
before_kept : (os : List Object) (uri at : List ℕ) → uri_cmp at uri ≡ Less → content_at (filter (before uri) os) at ≡ content_at os at
before_kept os uri at less =
    kept_found (before uri) os at (λ o same. ap (λ (u : List ℕ). is_lt (uri_cmp u uri)) (same_is o.uri at same) ∙ ap is_lt less)

behind_gone : (os : List Object) (uri at : List ℕ) → uri_cmp at uri ≡ Less → content_at (filter (behind uri) os) at ≡ None
behind_gone os uri at less =
    gone_found (behind uri) os at (λ o passes. other_above o.uri at (uri_total.trans at uri o.uri less (is_less (uri_cmp uri o.uri) passes)))

behind_kept : (os : List Object) (uri at : List ℕ) → uri_cmp uri at ≡ Less → content_at (filter (behind uri) os) at ≡ content_at os at
behind_kept os uri at less =
    kept_found (behind uri) os at (λ o same. ap (λ (u : List ℕ). is_lt (uri_cmp uri u)) (same_is o.uri at same) ∙ ap is_lt less)

before_gone : (os : List Object) (uri at : List ℕ) → uri_cmp uri at ≡ Less → content_at (filter (before uri) os) at ≡ None
before_gone os uri at less =
    gone_found (before uri) os at (λ o passes. other_below o.uri at (uri_total.trans o.uri uri at (is_less (uri_cmp o.uri uri) passes) less))

before_none : (os : List Object) (uri : List ℕ) → content_at (filter (before uri) os) uri ≡ None
before_none os uri = gone_found (before uri) os uri (λ o passes. other_below o.uri uri (is_less (uri_cmp o.uri uri) passes))

behind_none : (os : List Object) (uri : List ℕ) → content_at (filter (behind uri) os) uri ≡ None
behind_none os uri = gone_found (behind uri) os uri (λ o passes. other_above o.uri uri (is_less (uri_cmp uri o.uri) passes))

-- ---- a change

content-append : (xs ys : List Object) (uri : List ℕ) → content_at (xs ++ ys) uri ≡ option_or (content_at xs uri) (content_at ys uri)
content-append xs ys uri = found_at-append uri_at (λ o. o.bytes) xs ys uri

here : (uri : List ℕ) (left : Option (List ℕ)) → content_at (object_at uri left) uri ≡ left
here uri None = refl
here uri (Some bytes) = rw (same_self uri) refl

elsewhere : (uri : List ℕ) (left : Option (List ℕ)) (at : List ℕ) → is_same uri at ≡ false → content_at (object_at uri left) at ≡ None
elsewhere uri None at other = refl
elsewhere uri (Some bytes) at other = rw other refl

or_none : (o : Option (List ℕ)) → option_or o None ≡ o
or_none None = refl
or_none (Some x) = refl

three : (xs ys zs : List Object) (at : List ℕ) (x y z : Option (List ℕ)) → content_at xs at ≡ x → content_at ys at ≡ y → content_at zs at ≡ z
    → content_at (xs ++ ys ++ zs) at ≡ option_or (option_or x y) z
three xs ys zs at x y z first second third =
    content-append (xs ++ ys) zs at
    ∙ (ap (λ (o : Option (List ℕ)). option_or o (content_at zs at)) (content-append xs ys at
    ∙ (ap (λ (o : Option (List ℕ)). option_or o (content_at ys at)) first ∙ ap (option_or x) second))
    ∙ ap (option_or (option_or x y)) third)

content_changed : (os : List Object) (change : Change) (at : List ℕ) → content_at (changed os change) at ≡ after (content_at os) change at
unfolding changed
content_changed os change at =
    let uri = uri_of change in
    let left = left_by change in
    let xs = filter (before uri) os in
    let zs = filter (behind uri) os in
    elim (is_same uri at) as (λ b. is_same uri at ≡ b → content_at (xs ++ object_at uri left ++ zs) at ≡ cond b left (content_at os at)) [
      | true ↦ λ same.
          let is : uri ≡ at = same_is uri at same in
          subst (λ (u : List ℕ). content_at (xs ++ object_at uri left ++ zs) u ≡ left) is
          (three xs (object_at uri left) zs uri None left None (before_none os uri) (here uri left) (behind_none os uri) ∙ or_none left)
      | false ↦ λ other.
          elim (uri_cmp at uri) as (λ c. uri_cmp at uri ≡ c → content_at (xs ++ object_at uri left ++ zs) at ≡ content_at os at) [
            | Less ↦ λ less.
                three xs (object_at uri left) zs at (content_at os at) None None (before_kept os uri at less) (elsewhere uri left at other) (behind_gone os uri at less)
                ∙ (or_none (option_or (content_at os at) None) ∙ or_none (content_at os at))
            | Equal ↦ λ tied. absurd (false≢true (sym other ∙ (ap (is_same uri) (tied_is at uri tied) ∙ same_self uri)))
            | Greater ↦ λ more.
                let less : uri_cmp uri at ≡ Less = below_from_above at uri more in
                three xs (object_at uri left) zs at None None (content_at os at) (before_gone os uri at less) (elsewhere uri left at other) (behind_kept os uri at less)
          ] refl
    ] refl

ascending_changed : (os : List Object) (change : Change) → IsAscending os → IsAscending (changed os change)
unfolding changed
ascending_changed os change up =
    let uri = uri_of change in
    let xs = filter (before uri) os in
    let zs = filter (behind uri) os in
    let first : IsAscending xs = IsStrictlySortedBy-filter (on uri_at uri_cmp) (before uri) os up in
    let last : IsAscending zs = IsStrictlySortedBy-filter (on uri_at uri_cmp) (behind uri) os up in
    let below : AllBelow uri_at xs uri = all_passed (λ (o : Object). uri_cmp o.uri uri ≡ Less) (before uri) os (λ o passes. is_less (uri_cmp o.uri uri) passes) in
    let above : AllAbove uri_at zs uri = all_passed (λ (o : Object). uri_cmp uri o.uri ≡ Less) (behind uri) os (λ o passes. is_less (uri_cmp uri o.uri) passes) in
    joined uri xs zs (left_by change) first last below above
  where
    joined : (uri : List ℕ) (xs zs : List Object) (left : Option (List ℕ)) → IsAscending xs → IsAscending zs → AllBelow uri_at xs uri → AllAbove uri_at zs uri
        → IsAscending (xs ++ object_at uri left ++ zs)
    joined uri xs zs None first last below above =
        subst (λ (l : List Object). IsAscending (l ++ zs)) (sym (append-nil xs)) (rise-between uri_at xs zs uri first last below above)
    joined uri xs zs (Some bytes) first last below above =
        let o : Object = record { uri = uri; bytes = bytes } in
        rise-append uri_at (xs ++ o ∷ []) zs (rise-push uri_at xs o first below) last
        (all_append (λ (x : Object). AllAbove uri_at zs x.uri) xs (o ∷ [])
        (all_weaken (λ (x : Object). uri_cmp x.uri uri ≡ Less) (λ (x : Object). AllAbove uri_at zs x.uri) (λ x less. above_further uri_at x.uri uri zs less above) xs below)
        (above, tt))

-- ---- changes

content_all : (os : List Object) (changes : List Change) (at : List ℕ) → content_at (all_changed os changes) at ≡ after_all (content_at os) changes at
content_all os [] at = refl
content_all os (change ∷ rest) at =
    content_all (changed os change) rest at ∙ ap (λ (held : Contents). after_all held rest at) (λ i uri. content_changed os change uri i)

ascending_all : (os : List Object) (changes : List Change) → IsAscending os → IsAscending (all_changed os changes)
ascending_all os [] up = up
ascending_all os (change ∷ rest) up = ascending_all (changed os change) rest (ascending_changed os change up)

-- ---- editions

ascending_of : (older : List rrdp.Edition) → FollowEachOther older → IsAscending (objects_of older)
ascending_of [] follow = rise-nil uri_at
ascending_of (edition ∷ older) follow = follow.0

follow_one : (older : List rrdp.Edition) (edition : Edition) → FollowEachOther older → FollowEachOther (told older edition ∷ older)
follow_one older edition follow = (
  ascending_all (objects_of older) edition.changes (ascending_of older follow),
  λ uri. content_all (objects_of older) edition.changes uri,
  follow,
)

follow_all : (older : List rrdp.Edition) (editions : List Edition) → FollowEachOther older → FollowEachOther (told_before older editions)
follow_all older [] follow = follow
follow_all older (edition ∷ rest) follow = follow_all (told older edition ∷ older) rest (follow_one older edition follow)

pub follow_told : (editions : List Edition) → FollowEachOther (rrdp_editions editions)
follow_told editions = follow_all [] editions tt

count_all : (older : List rrdp.Edition) (editions : List Edition) → length (told_before older editions) ≡ length older + length editions
count_all older [] = omega arith
count_all older (edition ∷ rest) = let all = count_all (told older edition ∷ older) rest in omega (arith, all)

pub count_told : (editions : List Edition) → length (rrdp_editions editions) ≡ length editions
count_told editions = let all = count_all [] editions in omega (arith, all)

leave_all : (older : List rrdp.Edition) (state : State) (editions : List Edition) → ((uri : List ℕ) → content_at (objects_of older) uri ≡ state.set uri)
    → (uri : List ℕ) → content_at (objects_of (told_before older editions)) uri ≡ (state_from state editions).set uri
leave_all older state [] same uri = same uri
leave_all older state (edition ∷ rest) same uri =
    leave_all (told older edition ∷ older) (after_edition state edition) rest
    (λ at. content_all (objects_of older) edition.changes at ∙ ap (λ (held : Contents). after_all held edition.changes at) (λ i u. same u i)) uri

pub leave_told : (editions : List Edition) (uri : List ℕ) → content_at (objects_of (rrdp_editions editions)) uri ≡ set_after editions uri
leave_told editions uri = leave_all [] first_state editions (λ at. refl) uri

behind_all : (older : List rrdp.Edition) (editions : List Edition) (edition : Edition)
    → told_before older (editions ++ edition ∷ []) ≡ told (told_before older editions) edition ∷ told_before older editions
behind_all older [] edition = refl
behind_all older (first ∷ rest) edition = behind_all (told older first ∷ older) rest edition

pub behind_told : (editions : List Edition) (edition : Edition)
    → rrdp_editions (editions ++ edition ∷ []) ≡ told (rrdp_editions editions) edition ∷ rrdp_editions editions
behind_told editions edition = behind_all [] editions edition
