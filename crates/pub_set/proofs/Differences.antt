-- The changes between two sets, as far as the lists have been gone through.
use Rattle.std.proofs.Common.{◌≡◌, ℕ, Bool, true, false, cond, refl, sym, ◌∙◌, ap, length, List, [], ◌∷◌, ◌++◌, Some, None}
use Rattle.std.specs.Prelude.{Option}
use Rattle.std.specs.Option.{option_or, option_to_list}
use Rattle.std.proofs.lemmas.List.{append-nil, nil_from_length}
use Rattle.std.specs.Ordering.{match_ordering}
use Rattle.std.specs.Str.{bytes_eq}
use Rattle.std.specs.List.{AllByRecursion}
use Rattle.std.specs.declared.cmp.Ordering.TheVariants.{Less, Equal, Greater}
use Rattle.sha2.specs.Sha256.{sha256}
use Rattle.pub_set.specs.declared.objects.Object.{Object}
use Rattle.pub_set.specs.declared.steps.Change.{Change}
use Rattle.pub_set.specs.declared.steps.Change.TheVariants.{Put}
use Rattle.pub_set.specs.Objects.{uri_cmp, uri_at, is_same, content_at, Rise, AllBelow, IsAscending, IsBefore}
use Rattle.pub_set.specs.Changes.{uri_of, difference, change_at, IsChanges}
use Rattle.pub_set.specs.inner.Pairs.{first_pair, rest_of, pair_difference}
use Rattle.pub_set.specs.inner.Overlays.{objects_at}
use Rattle.pub_set.specs.laws.UriLaws.{same_is, tied_is, below_from_above}
use Rattle.pub_set.proofs.Contents.{content-here, content-elsewhere}
use Rattle.pub_set.specs.laws.LookupLaws.{all_weaken, all_append, all_right, none_above, none_below, found_at-append, rise-nil, rise-head, rise-right, rise-push, above_further}

-- What the lists have left, and the changes so far.
pub record IsReached (old new held wanted : List Object) (done : List Change) : Type 0 where
  pub held_rise : IsAscending held
  pub wanted_rise : IsAscending wanted
  pub rise : Rise uri_of done
  pub below : AllByRecursion (λ c. IsBefore held (uri_of c) × IsBefore wanted (uri_of c)) done
  pub each : (uri : List ℕ) → option_or (change_at done uri) (difference uri (content_at held uri) (content_at wanted uri)) ≡ difference uri (content_at old uri) (content_at new uri)

pub reached_none : (old new : List Object) → IsAscending old → IsAscending new → IsReached old new old new []
reached_none old new held_rise wanted_rise = record {
  held_rise = held_rise;
  wanted_rise = wanted_rise;
  rise = rise-nil uri_of;
  below = tt;
  each = λ uri. refl;
}

or_none : (o : Option Change) → option_or o None ≡ o
or_none None = refl
or_none (Some c) = refl

changes_reached : (old new : List Object) (done : List Change) → IsReached old new [] [] done → IsChanges old new done
changes_reached old new done reached = record {
  ascending = reached.rise;
  each = λ uri. sym (or_none (change_at done uri)) ∙ reached.each uri;
}

-- Nothing is left in either list.
pub changes_finished : (old new held wanted : List Object) (done : List Change) → length held ≡ 0 → length wanted ≡ 0 →
    IsReached old new held wanted done → IsChanges old new done
changes_finished old new held wanted done no_held no_wanted reached =
    let none = nil_from_length held no_held in
    let none_wanted = nil_from_length wanted no_wanted in
    changes_reached old new done (rw (none, none_wanted) at reached)

-- A change that is needed is one at the URI.
abbrev pub IsAt : List ℕ → Option Change → Type 0
IsAt uri None = Unit {0}
IsAt uri (Some c) = uri_of c ≡ uri

difference_is_at : (uri : List ℕ) (held wanted : Option (List ℕ)) → IsAt uri (difference uri held wanted)
difference_is_at uri None None = tt
difference_is_at uri None (Some wanted) = refl
difference_is_at uri (Some held) None = refl
difference_is_at uri (Some held) (Some wanted) =
    elim (bytes_eq held wanted) as (λ b. IsAt uri (cond b None (Some (Put uri wanted (Some (sha256 held)))))) [ true ↦ tt | false ↦ refl ]

none_chosen : (b : Bool) → ◌≡◌ {A = Option Change} None (cond b None None)
none_chosen true = refl
none_chosen false = refl

change_at-one : (uri : List ℕ) (c : Option Change) (at : List ℕ) → IsAt uri c → change_at (option_to_list c) at ≡ cond (is_same uri at) c None
change_at-one uri None at is = none_chosen (is_same uri at)
change_at-one uri (Some c) at is = ap (λ u. cond (is_same u at) (Some c) None) is

rise_after : (uri : List ℕ) (c : Option Change) (done : List Change) → IsAt uri c → Rise uri_of done → AllBelow uri_of done uri → Rise uri_of (done ++ option_to_list c)
rise_after uri None done is up below = rw append-nil up
rise_after uri (Some c) done is up below = rise-push uri_of done c up (rw is below)

all_after : (P : List ℕ → Type 0) (uri : List ℕ) (c : Option Change) → IsAt uri c → P uri → AllByRecursion (λ x. P (uri_of x)) (option_to_list c)
all_after P uri None is holds = tt
all_after P uri (Some c) is holds = (rw is holds, tt)

-- What is said of each URI, once the change at the next one is among those so far.
each_next : (old new hs ws : List Object) (uri : List ℕ) (held wanted : Option (List ℕ)) (done : List Change) (at : List ℕ) (now : Option Change) →
    now ≡ option_or (change_at done at) (cond (is_same uri at) (difference uri held wanted) None) →
    option_or (change_at done at) (difference at (content_at (objects_at uri held ++ hs) at) (content_at (objects_at uri wanted ++ ws) at)) ≡ difference at (content_at old at) (content_at new at) →
    IsBefore hs uri → IsBefore ws uri → AllBelow uri_of done uri →
    option_or now (difference at (content_at hs at) (content_at ws at)) ≡ difference at (content_at old at) (content_at new at)
each_next old new hs ws uri held wanted done at now is was hs_above ws_above below =
    elim (is_same uri at) as (λ b. is_same uri at ≡ b → now ≡ option_or (change_at done at) (cond b (difference uri held wanted) None) →
    option_or now (difference at (content_at hs at) (content_at ws at)) ≡ difference at (content_at old at) (content_at new at)) [
      | true ↦ λ same now_is.
          let here : uri ≡ at = same_is uri at same in
          let none : change_at done at ≡ None = rw (← here) (none_below uri_of (λ x. x) done uri below) in
          let first : content_at (objects_at uri held ++ hs) at ≡ held = rw (← here) (content-here uri held hs hs_above) in
          let second : content_at (objects_at uri wanted ++ ws) at ≡ wanted = rw (← here) (content-here uri wanted ws ws_above) in
          let no_hs : content_at hs at ≡ None = rw (← here) (none_above uri_at (λ o. o.bytes) hs uri hs_above) in
          let no_ws : content_at ws at ≡ None = rw (← here) (none_above uri_at (λ o. o.bytes) ws uri ws_above) in
          let before : difference at held wanted ≡ difference at (content_at old at) (content_at new at) = rw (none, first, second) at was in
          let after : now ≡ difference at held wanted = now_is ∙ (ap (λ x. option_or x (difference uri held wanted)) none ∙ ap (λ u. difference u held wanted) here) in
          rw (no_hs, no_ws) (or_none now) ∙ (after ∙ before)
      | false ↦ λ other now_is.
          let after : now ≡ change_at done at = now_is ∙ or_none (change_at done at) in
          rw after (rw (content-elsewhere uri held hs at other, content-elsewhere uri wanted ws at other) at was)
    ] refl is

-- The changes with the one at the next URI.
pub reached_next : (old new hs ws : List Object) (uri : List ℕ) (held wanted : Option (List ℕ)) (done : List Change) →
    IsReached old new (objects_at uri held ++ hs) (objects_at uri wanted ++ ws) done → IsBefore hs uri → IsBefore ws uri → AllBelow uri_of done uri →
    IsReached old new hs ws (done ++ option_to_list (difference uri held wanted))
reached_next old new hs ws uri held wanted done reached hs_above ws_above below =
    let c = difference uri held wanted in
    let is : IsAt uri c = difference_is_at uri held wanted in
    let others : AllByRecursion (λ x. IsBefore hs (uri_of x) × IsBefore ws (uri_of x)) done =
    all_weaken (λ x. IsBefore (objects_at uri held ++ hs) (uri_of x) × IsBefore (objects_at uri wanted ++ ws) (uri_of x)) (λ x. IsBefore hs (uri_of x) × IsBefore ws (uri_of x))
    (λ x h. (all_right (λ o. uri_cmp (uri_of x) o.uri ≡ Less) (objects_at uri held) hs h.0, all_right (λ o. uri_cmp (uri_of x) o.uri ≡ Less) (objects_at uri wanted) ws h.1)) done reached.below in
    let joined : (at : List ℕ) → change_at (done ++ option_to_list c) at ≡ option_or (change_at done at) (cond (is_same uri at) c None) =
    λ at. found_at-append uri_of (λ x. x) done (option_to_list c) at ∙ ap (option_or (change_at done at)) (change_at-one uri c at is) in
    record {
      held_rise = rise-right uri_at (objects_at uri held) hs reached.held_rise;
      wanted_rise = rise-right uri_at (objects_at uri wanted) ws reached.wanted_rise;
      rise = rise_after uri c done is reached.rise below;
      below = all_append (λ x. IsBefore hs (uri_of x) × IsBefore ws (uri_of x)) done (option_to_list c) others
          (all_after (λ u. IsBefore hs u × IsBefore ws u) uri c is (hs_above, ws_above));
      each = λ at. each_next old new hs ws uri held wanted done at (change_at (done ++ option_to_list c) at) (joined at) (reached.each at) hs_above ws_above below;
    }

-- Both lists go on behind their least URI.
pub reached_pair : (old new held wanted : List Object) (done : List Change) → IsReached old new held wanted done →
    IsReached old new (rest_of (first_pair held wanted).0 held) (rest_of (first_pair held wanted).1 wanted)
    (done ++ option_to_list (pair_difference (first_pair held wanted).0 (first_pair held wanted).1))
reached_pair old new [] [] done reached = rw append-nil reached
reached_pair old new (h ∷ hs) [] done reached =
    reached_next old new hs [] h.uri (Some h.bytes) None done reached (rise-head uri_at h hs reached.held_rise) tt
    (all_weaken (λ c. IsBefore (h ∷ hs) (uri_of c) × IsBefore [] (uri_of c)) (λ c. uri_cmp (uri_of c) h.uri ≡ Less) (λ c b. b.0.0) done reached.below)
reached_pair old new [] (w ∷ ws) done reached =
    reached_next old new [] ws w.uri None (Some w.bytes) done reached tt (rise-head uri_at w ws reached.wanted_rise)
    (all_weaken (λ c. IsBefore [] (uri_of c) × IsBefore (w ∷ ws) (uri_of c)) (λ c. uri_cmp (uri_of c) w.uri ≡ Less) (λ c b. b.1.0) done reached.below)
reached_pair old new (h ∷ hs) (w ∷ ws) done reached =
    let before_held : AllBelow uri_of done h.uri =
    all_weaken (λ c. IsBefore (h ∷ hs) (uri_of c) × IsBefore (w ∷ ws) (uri_of c)) (λ c. uri_cmp (uri_of c) h.uri ≡ Less) (λ c b. b.0.0) done reached.below in
    let before_wanted : AllBelow uri_of done w.uri =
    all_weaken (λ c. IsBefore (h ∷ hs) (uri_of c) × IsBefore (w ∷ ws) (uri_of c)) (λ c. uri_cmp (uri_of c) w.uri ≡ Less) (λ c b. b.1.0) done reached.below in
    let hs_above = rise-head uri_at h hs reached.held_rise in
    let ws_above = rise-head uri_at w ws reached.wanted_rise in
    elim (uri_cmp h.uri w.uri) as (λ r. uri_cmp h.uri w.uri ≡ r →
    let pair : Option Object × Option Object = match_ordering r (Some h, None) (Some h, Some w) (None, Some w) in
    IsReached old new (rest_of pair.0 (h ∷ hs)) (rest_of pair.1 (w ∷ ws)) (done ++ option_to_list (pair_difference pair.0 pair.1))) [
      | Less ↦ λ is.
          reached_next old new hs (w ∷ ws) h.uri (Some h.bytes) None done reached hs_above (is, above_further uri_at h.uri w.uri ws is ws_above) before_held
      | Equal ↦ λ is.
          let same : h.uri ≡ w.uri = tied_is h.uri w.uri is in
          reached_next old new hs ws w.uri (Some h.bytes) (Some w.bytes) done (rw same at reached) (rw same at hs_above) ws_above before_wanted
      | Greater ↦ λ is.
          let less = below_from_above h.uri w.uri is in
          reached_next old new (h ∷ hs) ws w.uri None (Some w.bytes) done reached (less, above_further uri_at w.uri h.uri hs less hs_above) ws_above before_wanted
    ] refl
