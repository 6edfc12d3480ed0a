-- The texts of a list of values, one by one.
use Rattle.std.proofs.Common.{◌≡◌, Bool, ◌&&◌, string_bytes, refl, ap, ℕ, zero, suc, ◌<◌, List, [], ◌∷◌, ◌++◌, length, get_or, arith}
use Rattle.std.specs.List.{list_all}
use Rattle.std.specs.Map.{keys_of}
use Rattle.serde_json.specs.View.{view, items_view, members_view}
use Rattle.serde_json.proofs.Views.{Entry}
use Rattle.serde_json.specs.declared.value.Value.{Value}
use Rattle.origins.specs.declared.Origin.{Origin}
use Rattle.json_api.specs.Line.{IsOriginText, AreOriginTexts, all_names}

-- one text more
pub AreOriginTexts-append : (vs : List Value) (os : List Origin) (v : Value) (o : Origin)
    → AreOriginTexts (items_view vs) os → IsOriginText (view v) o → AreOriginTexts (items_view (vs ++ v ∷ [])) (os ++ o ∷ [])
AreOriginTexts-append [] [] v o h is = (is, tt)
AreOriginTexts-append [] (p ∷ os) v o h is = absurd h
AreOriginTexts-append (w ∷ vs) [] v o h is = absurd h
AreOriginTexts-append (w ∷ vs) (p ∷ os) v o h is = (h.0, AreOriginTexts-append vs os v o h.1 is)

-- each value is some origin's text
pub AreOriginTexts-at : (vs : List Value) (os : List Origin) (i : ℕ) (d : Value) → i < length vs
    → AreOriginTexts (items_view vs) os → (o : Origin) × IsOriginText (view (get_or vs i d)) o
AreOriginTexts-at [] os i d lt h = absurd (omega arith)
AreOriginTexts-at (v ∷ vs) [] i d lt h = absurd h
AreOriginTexts-at (v ∷ vs) (o ∷ os) zero d lt h = (o, h.0)
AreOriginTexts-at (v ∷ vs) (o ∷ os) (suc i) d lt h = AreOriginTexts-at vs os i d (omega arith) h.1

-- the names of a map's entries
pub all_names-members_view : (test : List ℕ → Bool) (es : List Entry)
    → list_all (λ name. test (string_bytes name)) (keys_of es) ≡ all_names test (members_view es)
all_names-members_view test [] = refl
all_names-members_view test (e ∷ es) = ap (λ b. test (string_bytes e.0) && b) (all_names-members_view test es)
