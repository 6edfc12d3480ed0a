-- The laws of URIs that rise: the test of changes, and the order of a list.
use Rattle.std.proofs.Common.{◌≡◌, ℕ, true, List, [], ◌∷◌, Some, refl, sym, ap, ◌∙◌, inl, inr}
use Rattle.std.specs.Ordering.{is_lt}
use Rattle.std.specs.declared.cmp.Ordering.{Ordering}
use Rattle.std.specs.declared.cmp.Ordering.TheVariants.{Less, Equal, Greater}
use Rattle.std.proofs.lemmas.Bool.{and_parts, and_from}
use Rattle.items.specs.laws.AmongLaws.{In}
use Rattle.pub_set.specs.declared.steps.Change.{Change}
use Rattle.pub_set.specs.Objects.{uri_cmp, is_same, Rise, AllAbove}
use Rattle.pub_set.specs.Changes.{uri_of, change_at}
use Rattle.pub_set.specs.laws.UriLaws.{same_self, other_below}
use Rattle.pub_set.specs.laws.LookupLaws.{rise-head, rise-tail, above_further}
use Rattle.press_records.specs.Changes.{uris_rise_behind, uris_rise}

is-less : (o : Ordering) → is_lt o ≡ true → o ≡ Less
is-less Less e = refl
is-less Equal e = absurd cc
is-less Greater e = absurd cc

pub above-behind : (uri : List ℕ) (all : List Change) → uris_rise_behind uri all ≡ true → AllAbove uri_of all uri
above-behind uri [] e = tt
above-behind uri (change ∷ rest) e =
    let p = and_parts (is_lt (uri_cmp uri (uri_of change))) (uris_rise_behind (uri_of change) rest) e in
    let less = is-less (uri_cmp uri (uri_of change)) p.0 in
    (less, above_further uri_of uri (uri_of change) rest less (above-behind (uri_of change) rest p.1))

pub tail-rises : (uri : List ℕ) (all : List Change) → uris_rise_behind uri all ≡ true → uris_rise all ≡ true
tail-rises uri [] e = refl
tail-rises uri (change ∷ rest) e = (and_parts (is_lt (uri_cmp uri (uri_of change))) (uris_rise_behind (uri_of change) rest) e).1

rise-behind : (first : Change) (rest : List Change) → Rise uri_of (first ∷ rest) → uris_rise_behind (uri_of first) rest ≡ true
rise-behind first [] up = refl
rise-behind first (change ∷ rest) up =
    let less : uri_cmp (uri_of first) (uri_of change) ≡ Less = (rise-head uri_of first (change ∷ rest) up).0 in
    and_from (is_lt (uri_cmp (uri_of first) (uri_of change))) (uris_rise_behind (uri_of change) rest) (ap is_lt less)
    (rise-behind change rest (rise-tail uri_of first (change ∷ rest) up))

-- Changes by rising URI pass the test.
pub rise-tested : (all : List Change) → Rise uri_of all → uris_rise all ≡ true
rise-tested [] up = refl
rise-tested (change ∷ rest) up = rise-behind change rest up

above-at : (uri : List ℕ) (all : List Change) (change : Change) → AllAbove uri_of all uri → In change all → uri_cmp uri (uri_of change) ≡ Less
above-at uri [] change above at = absurd at
above-at uri (first ∷ rest) change above (inl same) = ap (λ (c : Change). uri_cmp uri (uri_of c)) (sym same) ∙ above.0
above-at uri (first ∷ rest) change above (inr at) = above-at uri rest change above.1 at

-- Each of them is the one at its URI.
pub at-its-uri : (all : List Change) (change : Change) → Rise uri_of all → In change all → change_at all (uri_of change) ≡ Some change
at-its-uri [] change up at = absurd at
at-its-uri (first ∷ rest) change up (inl same) =
    rw (ap (λ (c : Change). is_same (uri_of c) (uri_of change)) same ∙ same_self (uri_of change)) (ap (λ (c : Change). Some c) same)
at-its-uri (first ∷ rest) change up (inr at) =
    let less = above-at (uri_of first) rest change (rise-head uri_of first rest up) at in
    rw (other_below (uri_of first) (uri_of change) less) (at-its-uri rest change (rise-tail uri_of first rest up) at)
