-- What comes of two lists, as far as they have been gone through.
use Rattle.std.proofs.Common.{◌≡◌, ℕ, true, false, cond, refl, sym, ◌∙◌, ap, length, List, [], ◌∷◌, ◌++◌, Some, None}
use Rattle.std.specs.Prelude.{Option}
use Rattle.std.specs.Option.{option_or, option_to_list}
use Rattle.std.specs.Ordering.{match_ordering}
use Rattle.std.specs.List.{AllByRecursion}
use Rattle.std.specs.declared.cmp.Ordering.TheVariants.{Less, Equal, Greater}
use Rattle.std.proofs.lemmas.List.{append-nil, nil_from_length}
use Rattle.pub_set.specs.Objects.{uri_cmp, is_same, Rise, AllBelow, AllAbove}
use Rattle.editions.specs.Joining.{first_pair, rest_of, IsAt, at_uri, IsJoined}
use Rattle.pub_set.specs.laws.UriLaws.{same_is, tied_is, below_from_above}
use Rattle.pub_set.specs.laws.LookupLaws.{all_weaken, all_append, all_right, rise-nil, rise-head, rise-right, rise-push, above_further, none_above, none_below, found_at-append}
use Rattle.editions.proofs.StateLemmas.Lookups.{found-here, found-elsewhere, found-alone}

-- What the lists have left, and what came of the rest.
pub record IsReached {A B C : Type 0} (a_at : A → List ℕ) (b_at : B → List ℕ) (c_at : C → List ℕ) (joined : Option A → Option B → Option C)
    (left : List A) (right : List B) (stands : List A) (comes : List B) (done : List C) : Type 0 where
  pub stands_rise : Rise a_at stands
  pub comes_rise : Rise b_at comes
  pub rise : Rise c_at done
  pub below : AllByRecursion (λ c. AllAbove a_at stands (c_at c) × AllAbove b_at comes (c_at c)) done
  pub each : (uri : List ℕ) → option_or (at_uri c_at done uri) (joined (at_uri a_at stands uri) (at_uri b_at comes uri)) ≡ joined (at_uri a_at left uri) (at_uri b_at right uri)

module _ {A B C : Type 0} (a_at : A → List ℕ) (b_at : B → List ℕ) (c_at : C → List ℕ) (joined : Option A → Option B → Option C) where
  or_none : (o : Option C) → option_or o None ≡ o
  or_none None = refl
  or_none (Some c) = refl

  pub reached_none : (left : List A) (right : List B) → Rise a_at left → Rise b_at right → IsReached a_at b_at c_at joined left right left right []
  reached_none left right left_rise right_rise = record {
    stands_rise = left_rise;
    comes_rise = right_rise;
    rise = rise-nil c_at;
    below = tt;
    each = λ uri. refl;
  }

  -- Nothing is left in either list.
  pub reached_all : joined None None ≡ None → (left : List A) (right : List B) (stands : List A) (comes : List B) (done : List C) → length stands ≡ 0 → length comes ≡ 0 →
      IsReached a_at b_at c_at joined left right stands comes done → IsJoined a_at b_at c_at joined left right done
  reached_all nothing left right stands comes done no_stands no_comes reached =
      let none = nil_from_length stands no_stands in
      let none_comes = nil_from_length comes no_comes in
      let at_end : (uri : List ℕ) → joined (at_uri a_at stands uri) (at_uri b_at comes uri) ≡ None = λ uri. rw (none, none_comes) nothing in
      record {
        rising = reached.rise;
        each = λ uri. sym (or_none (at_uri c_at done uri)) ∙ (ap (option_or (at_uri c_at done uri)) (sym (at_end uri)) ∙ reached.each uri);
      }

  rise_after : (uri : List ℕ) (c : Option C) (done : List C) → IsAt c_at uri c → Rise c_at done → AllBelow c_at done uri → Rise c_at (done ++ option_to_list c)
  rise_after uri None done is up below = rw append-nil up
  rise_after uri (Some c) done is up below = rise-push c_at done c up (rw is below)

  all_after : (P : List ℕ → Type 0) (uri : List ℕ) (c : Option C) → IsAt c_at uri c → P uri → AllByRecursion (λ x. P (c_at x)) (option_to_list c)
  all_after P uri None is holds = tt
  all_after P uri (Some c) is holds = (rw is holds, tt)

  -- What is said of each URI, once what comes of the next one is among what came so far.
  each_next : joined None None ≡ None → (left : List A) (right : List B) (ss : List A) (cs : List B) (uri : List ℕ) (one : Option A) (other : Option B) (done : List C) (at : List ℕ) (now : Option C) →
      now ≡ option_or (at_uri c_at done at) (cond (is_same uri at) (joined one other) None) →
      option_or (at_uri c_at done at) (joined (at_uri a_at (option_to_list one ++ ss) at) (at_uri b_at (option_to_list other ++ cs) at)) ≡ joined (at_uri a_at left at) (at_uri b_at right at) →
      IsAt a_at uri one → IsAt b_at uri other → AllAbove a_at ss uri → AllAbove b_at cs uri → AllBelow c_at done uri →
      option_or now (joined (at_uri a_at ss at) (at_uri b_at cs at)) ≡ joined (at_uri a_at left at) (at_uri b_at right at)
  each_next nothing left right ss cs uri one other done at now is was one_at other_at ss_above cs_above below =
      elim (is_same uri at) as (λ b. is_same uri at ≡ b → now ≡ option_or (at_uri c_at done at) (cond b (joined one other) None) →
      option_or now (joined (at_uri a_at ss at) (at_uri b_at cs at)) ≡ joined (at_uri a_at left at) (at_uri b_at right at)) [
        | true ↦ λ same now_is.
            let here : uri ≡ at = same_is uri at same in
            let none : at_uri c_at done at ≡ None = rw (← here) (none_below c_at (λ x. x) done uri below) in
            let first : at_uri a_at (option_to_list one ++ ss) at ≡ one = rw (← here) (found-here a_at uri one ss one_at ss_above) in
            let second : at_uri b_at (option_to_list other ++ cs) at ≡ other = rw (← here) (found-here b_at uri other cs other_at cs_above) in
            let no_ss : at_uri a_at ss at ≡ None = rw (← here) (none_above a_at (λ x. x) ss uri ss_above) in
            let no_cs : at_uri b_at cs at ≡ None = rw (← here) (none_above b_at (λ x. x) cs uri cs_above) in
            let before : joined one other ≡ joined (at_uri a_at left at) (at_uri b_at right at) = rw (none, first, second) at was in
            let after : now ≡ joined one other = now_is ∙ ap (λ x. option_or x (joined one other)) none in
            rw (no_ss, no_cs, nothing) (or_none now) ∙ (after ∙ before)
        | false ↦ λ apart now_is.
            let after : now ≡ at_uri c_at done at = now_is ∙ or_none (at_uri c_at done at) in
            rw after (rw (found-elsewhere a_at uri one ss at one_at apart, found-elsewhere b_at uri other cs at other_at apart) at was)
      ] refl is

  -- What came, with what comes of the next URI.
  reached_next : joined None None ≡ None → (left : List A) (right : List B) (ss : List A) (cs : List B) (uri : List ℕ) (one : Option A) (other : Option B) (done : List C) →
      IsAt a_at uri one → IsAt b_at uri other → IsAt c_at uri (joined one other) →
      IsReached a_at b_at c_at joined left right (option_to_list one ++ ss) (option_to_list other ++ cs) done → AllAbove a_at ss uri → AllAbove b_at cs uri → AllBelow c_at done uri →
      IsReached a_at b_at c_at joined left right ss cs (done ++ option_to_list (joined one other))
  reached_next nothing left right ss cs uri one other done one_at other_at is reached ss_above cs_above below =
      let c = joined one other in
      let others : AllByRecursion (λ x. AllAbove a_at ss (c_at x) × AllAbove b_at cs (c_at x)) done =
      all_weaken (λ x. AllAbove a_at (option_to_list one ++ ss) (c_at x) × AllAbove b_at (option_to_list other ++ cs) (c_at x)) (λ x. AllAbove a_at ss (c_at x) × AllAbove b_at cs (c_at x))
      (λ x h. (all_right (λ a. uri_cmp (c_at x) (a_at a) ≡ Less) (option_to_list one) ss h.0, all_right (λ b. uri_cmp (c_at x) (b_at b) ≡ Less) (option_to_list other) cs h.1)) done reached.below in
      let both : (at : List ℕ) → at_uri c_at (done ++ option_to_list c) at ≡ option_or (at_uri c_at done at) (cond (is_same uri at) c None) =
      λ at. found_at-append c_at (λ x. x) done (option_to_list c) at ∙ ap (option_or (at_uri c_at done at)) (found-alone c_at uri c at is) in
      record {
        stands_rise = rise-right a_at (option_to_list one) ss reached.stands_rise;
        comes_rise = rise-right b_at (option_to_list other) cs reached.comes_rise;
        rise = rise_after uri c done is reached.rise below;
        below = all_append (λ x. AllAbove a_at ss (c_at x) × AllAbove b_at cs (c_at x)) done (option_to_list c) others
            (all_after (λ u. AllAbove a_at ss u × AllAbove b_at cs u) uri c is (ss_above, cs_above));
        each = λ at. each_next nothing left right ss cs uri one other done at (at_uri c_at (done ++ option_to_list c) at) (both at) (reached.each at) one_at other_at ss_above cs_above below;
      }

  -- Both lists go on behind their least URI.
  pub reached_pair : joined None None ≡ None →
      ((one : Option A) (other : Option B) (uri : List ℕ) → IsAt a_at uri one → IsAt b_at uri other → IsAt c_at uri (joined one other)) →
      (left : List A) (right : List B) (stands : List A) (comes : List B) (done : List C) → IsReached a_at b_at c_at joined left right stands comes done →
      IsReached a_at b_at c_at joined left right (rest_of (first_pair a_at b_at stands comes).0 stands) (rest_of (first_pair a_at b_at stands comes).1 comes)
      (done ++ option_to_list (joined (first_pair a_at b_at stands comes).0 (first_pair a_at b_at stands comes).1))
  reached_pair nothing stays left right [] [] done reached = rw (nothing, append-nil) reached
  reached_pair nothing stays left right (s ∷ ss) [] done reached =
      reached_next nothing left right ss [] (a_at s) (Some s) None done refl tt (stays (Some s) None (a_at s) refl tt) reached (rise-head a_at s ss reached.stands_rise) tt
      (all_weaken (λ c. AllAbove a_at (s ∷ ss) (c_at c) × AllAbove b_at [] (c_at c)) (λ c. uri_cmp (c_at c) (a_at s) ≡ Less) (λ c b. b.0.0) done reached.below)
  reached_pair nothing stays left right [] (n ∷ cs) done reached =
      reached_next nothing left right [] cs (b_at n) None (Some n) done tt refl (stays None (Some n) (b_at n) tt refl) reached tt (rise-head b_at n cs reached.comes_rise)
      (all_weaken (λ c. AllAbove a_at [] (c_at c) × AllAbove b_at (n ∷ cs) (c_at c)) (λ c. uri_cmp (c_at c) (b_at n) ≡ Less) (λ c b. b.1.0) done reached.below)
  reached_pair nothing stays left right (s ∷ ss) (n ∷ cs) done reached =
      let before_s : AllBelow c_at done (a_at s) =
      all_weaken (λ c. AllAbove a_at (s ∷ ss) (c_at c) × AllAbove b_at (n ∷ cs) (c_at c)) (λ c. uri_cmp (c_at c) (a_at s) ≡ Less) (λ c b. b.0.0) done reached.below in
      let before_n : AllBelow c_at done (b_at n) =
      all_weaken (λ c. AllAbove a_at (s ∷ ss) (c_at c) × AllAbove b_at (n ∷ cs) (c_at c)) (λ c. uri_cmp (c_at c) (b_at n) ≡ Less) (λ c b. b.1.0) done reached.below in
      let ss_above = rise-head a_at s ss reached.stands_rise in
      let cs_above = rise-head b_at n cs reached.comes_rise in
      elim (uri_cmp (a_at s) (b_at n)) as (λ r. uri_cmp (a_at s) (b_at n) ≡ r →
      let pair : Option A × Option B = match_ordering r (Some s, None) (Some s, Some n) (None, Some n) in
      IsReached a_at b_at c_at joined left right (rest_of pair.0 (s ∷ ss)) (rest_of pair.1 (n ∷ cs)) (done ++ option_to_list (joined pair.0 pair.1))) [
        | Less ↦ λ is.
            reached_next nothing left right ss (n ∷ cs) (a_at s) (Some s) None done refl tt (stays (Some s) None (a_at s) refl tt) reached ss_above (is, above_further b_at (a_at s) (b_at n) cs is cs_above) before_s
        | Equal ↦ λ is.
            let same : a_at s ≡ b_at n = tied_is (a_at s) (b_at n) is in
            reached_next nothing left right ss cs (b_at n) (Some s) (Some n) done same refl (stays (Some s) (Some n) (b_at n) same refl) reached (rw same at ss_above) cs_above before_n
        | Greater ↦ λ is.
            let less = below_from_above (a_at s) (b_at n) is in
            reached_next nothing left right (s ∷ ss) cs (b_at n) None (Some n) done tt refl (stays None (Some n) (b_at n) tt refl) reached (less, above_further a_at (b_at n) (a_at s) ss less ss_above) cs_above before_n
      ] refl
