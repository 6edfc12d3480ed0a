-- Overlays: entries by rising URI, carried out one after another.
use Rattle.std.proofs.Common.{◌≡◌, ℕ, Bool, true, false, cond, refl, sym, ◌∙◌, ap, List, [], ◌∷◌, Some, None}
use Rattle.std.specs.Prelude.{Option, String, unwrap_or, map}
use Rattle.std.specs.String.{string_bytes, string_cmp}
use Rattle.std.specs.Str.{bytes_eq}
use Rattle.std.specs.BTreeMap.{BTreeMap, get_by_text, is_at, UpdatesBy}
use Rattle.std.specs.Map.{lookup}
use Rattle.std.specs.List.{AllByRecursion}
use Rattle.std.specs.List.Sorted.{IsStrictlySortedBy}
use Rattle.std.specs.declared.alloc.Global.{Global}
use Rattle.std.specs.declared.cmp.Ordering.TheVariants.{Less}
use Rattle.std.proofs.lemmas.Cmp.{eq_by_cmp_equiv}
use Rattle.std.proofs.lemmas.Map.Keys.{sorted_head, sorted_tail}
use Rattle.std.proofs.lemmas.Map.Text.{text_cmp, btree_map_updates_text, is_eq-slice_cmp}
use Rattle.pub_set.specs.declared.steps.Change.{Change}
use Rattle.pub_set.specs.Objects.{is_same, found_at, Rise, AllAbove}
use Rattle.pub_set.specs.Changes.{Contents, uri_of, left_by, set_at, after, after_all}
use Rattle.pub_set.specs.Queries.{code_of, first_refusal}
use Rattle.pub_set.specs.inner.Overlays.{Entry, entry_uri, overlaid, IsNoted}
use Rattle.pub_set.specs.laws.UriLaws.{uri_total, same_is}
use Rattle.pub_set.specs.laws.LookupLaws.{none_above, rise-nil, rise-cons, rise-head}

same_back : (a b : List ℕ) → is_same a b ≡ is_same b a
same_back a b = (eq_by_cmp_equiv uri_total).symm a b

above_from_keys : (uri : List ℕ) (k : String Global) (es : List Entry) → string_bytes k ≡ uri →
    AllByRecursion (λ q. string_cmp k q ≡ Less) (map (λ e. e.0) es) → AllAbove entry_uri es uri
above_from_keys uri k [] is all = tt
above_from_keys uri k (e ∷ es) is all = (rw (← is) all.0, above_from_keys uri k es is all.1)

-- The entries of an ordered map rise.
pub rise_from_keys : (es : List Entry) → IsStrictlySortedBy string_cmp (map (λ e. e.0) es) → Rise entry_uri es
rise_from_keys [] up = rise-nil entry_uri
rise_from_keys (e ∷ es) up =
    rise-cons entry_uri e es (above_from_keys (entry_uri e) e.0 es refl (sorted_head string_cmp e.0 (map (λ e. e.0) es) up))
    (rise_from_keys es (sorted_tail string_cmp e.0 (map (λ e. e.0) es) up))

-- What an entry does first, and the others then.
pub overlaid_next : (held next : Contents) (e : Entry) (es : List Entry) → Rise entry_uri (e ∷ es) →
    ((at : List ℕ) → next at ≡ set_at held (entry_uri e) e.1 at) → (at : List ℕ) → overlaid next es at ≡ overlaid held (e ∷ es) at
overlaid_next held next e es up does at =
    elim (is_same (entry_uri e) at) as (λ b. is_same (entry_uri e) at ≡ b → next at ≡ cond b e.1 (held at) →
    overlaid next es at ≡ unwrap_or (cond b (Some e.1) (found_at entry_uri (λ e. e.1) es at)) (held at)) [
      | true ↦ λ same is.
          let here : entry_uri e ≡ at = same_is (entry_uri e) at same in
          let none : found_at entry_uri (λ e. e.1) es at ≡ None = none_above entry_uri (λ e. e.1) es at (rw (← here) (rise-head entry_uri e es up)) in
          rw none is
      | false ↦ λ other is. ap (unwrap_or (found_at entry_uri (λ e. e.1) es at)) is
    ] refl (does at)

found_at-lookup : (es : List Entry) (uri : List ℕ) → found_at entry_uri (λ e. e.1) es uri ≡ lookup (is_at (text_cmp uri)) es
found_at-lookup [] uri = refl
found_at-lookup (e ∷ es) uri = rw (same_back (entry_uri e) uri, found_at-lookup es uri) refl

-- What is looked up in a map is what its entries leave at the URI.
pub overlaid-get : (held : Contents) (overlay : BTreeMap (String Global) (Option (List ℕ))) (uri : List ℕ) →
    overlaid held overlay.entries uri ≡ unwrap_or (get_by_text overlay uri) (held uri)
overlaid-get held overlay uri = ap (λ o. unwrap_or o (held uri)) (found_at-lookup overlay.entries uri)

chosen : (a b : Bool) → a ≡ b → (left : Option (List ℕ)) (found : Option (Option (List ℕ))) (held was : Option (List ℕ)) →
    unwrap_or found held ≡ was → unwrap_or (cond a (Some left) found) held ≡ cond b left was
chosen true true same left found held was is = refl
chosen true false same left found held was is = cc
chosen false true same left found held was is = cc
chosen false false same left found held was is = is

-- One entry more.
pub overlaid-insert : (held : Contents) (old new : BTreeMap (String Global) (Option (List ℕ))) (k : String Global) (left : Option (List ℕ)) →
    UpdatesBy string_cmp (string_cmp k) old new (Some left) → (at : List ℕ) →
    overlaid held new.entries at ≡ set_at (overlaid held old.entries) (string_bytes k) left at
overlaid-insert held old new k left updates at =
    overlaid-get held new at
    ∙ (ap (λ o. unwrap_or o (held at)) (btree_map_updates_text (string_bytes k) old new (Some left) updates at)
    ∙ chosen (bytes_eq (string_bytes k) at) (is_same (string_bytes k) at) (sym (is_eq-slice_cmp (string_bytes k) at))
    left (get_by_text old at) (held at) (overlaid held old.entries at) (sym (overlaid-get held old at)))

-- A change more in the overlay.
pub overlaid-change : (held : Contents) (old new : List Entry) (uri : List ℕ) (left : Option (List ℕ)) (change : Change) →
    IsNoted old uri left new → uri ≡ uri_of change → left ≡ left_by change → overlaid held new ≡ after (overlaid held old) change
overlaid-change held old new uri left change noted named is =
    let each : (at : List ℕ) → overlaid held new at ≡ after (overlaid held old) change at = λ at. rw (← named, ← is) (noted held at) in
    λ i at. each at i

-- A change that isn't refused, and those after it.
pub refusal_next : (base : List ℕ) (held next : Contents) (change : Change) (rest : List Change) → code_of base (held (uri_of change)) change ≡ None →
    next ≡ after held change → first_refusal base next rest ≡ first_refusal base held (change ∷ rest)
refusal_next base held next change rest none is = rw (none, is) refl

-- A change that is refused.
pub refusal_here : (base : List ℕ) (held : Contents) (change : Change) (rest : List Change) (code : ℕ) → Some code ≡ code_of base (held (uri_of change)) change →
    first_refusal base held (change ∷ rest) ≡ Some (code, uri_of change)
refusal_here base held change rest code is = rw (← is) refl

-- What the overlay leaves to be refused and to be applied, once a change is noted.
pub refusal_kept : (base : List ℕ) (held next : Contents) (change : Change) (rest left : List Change) (r : Option (ℕ × List ℕ)) →
    code_of base (held (uri_of change)) change ≡ None → next ≡ after held change → left ≡ change ∷ rest →
    first_refusal base held left ≡ r → first_refusal base next rest ≡ r
refusal_kept base held next change rest left r none is step was =
    refusal_next base held next change rest none is ∙ (ap (first_refusal base held) (sym step) ∙ was)

pub applied_kept : (held next : Contents) (change : Change) (rest left : List Change) (at : List ℕ) (r : Option (List ℕ)) →
    next ≡ after held change → left ≡ change ∷ rest → after_all held left at ≡ r → after_all next rest at ≡ r
applied_kept held next change rest left at r is step was =
    ap (λ (h : Contents). after_all h rest at) is ∙ (ap (λ (l : List Change). after_all held l at) (sym step) ∙ was)
