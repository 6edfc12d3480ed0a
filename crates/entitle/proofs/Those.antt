-- Those of some origins that are held, as the list grows.
use Rattle.std.proofs.Common.{◌≡◌, ℕ, ◌+◌, ◌<◌, suc, Bool, refl, sym, ◌∙◌, ap, subst, arith, length, get_or, List, [], ◌∷◌, ◌++◌, inl, inr}
use Rattle.std.specs.Prelude.{IsTrue, slice_get}
use Rattle.std.proofs.lemmas.List.{append_assoc, map-append}
use Rattle.std.proofs.lemmas.Option.{slice_get-get_or}
use Rattle.origins.specs.declared.Prefix.{Prefix}
use Rattle.origins.specs.declared.Origin.{Origin}
use Rattle.res_sets.specs.declared.holdings.Resources.{Resources}
use Rattle.res_sets.specs.Triples.{has}
use Rattle.authority_book.specs.declared.rows.NameRow.{NameRow}
use Rattle.authority_book.specs.Settings.{Settings}
use Rattle.entitle.specs.declared.trees.Owed.{Owed}
use Rattle.entitle.specs.Certified.{names_of, AreCertified}
use Rattle.entitle.specs.Owed.{family_of, HasEach, IsHeldBy, IsHeldAt, AreThose, origins_of, at_desk, AreOwedByFirst}

pub those-held : (P : Origin → Type 0) (xs own : List Origin) (x : Origin) → AreThose P xs own → P x → AreThose P (xs ++ x ∷ []) (own ++ x ∷ [])
those-held P [] own x are held = inr ([], held, refl, ap (λ l. l ++ x ∷ []) are)
those-held P (y ∷ ys) own x (inl not_y) held = inl (not_y.0, those-held P ys own x not_y.1 held)
those-held P (y ∷ ys) own x (inr is_y) held =
    inr (is_y.0 ++ x ∷ [], is_y.1, those-held P ys is_y.0 x is_y.2 held, ap (λ l. l ++ x ∷ []) is_y.3)

pub those-not_held : (P : Origin → Type 0) (xs own : List Origin) (x : Origin) → AreThose P xs own → (P x → ⊥) → AreThose P (xs ++ x ∷ []) own
those-not_held P [] own x are free = inl (free, are)
those-not_held P (y ∷ ys) own x (inl not_y) free = inl (not_y.0, those-not_held P ys own x not_y.1 free)
those-not_held P (y ∷ ys) own x (inr is_y) free = inr (is_y.0, is_y.1, those-not_held P ys is_y.0 x is_y.2 free, is_y.3)

-- The same origins by another test that holds of the same.
pub those-same : (P Q : Origin → Type 0) → ((x : Origin) → P x → Q x) → ((x : Origin) → Q x → P x) → (xs own : List Origin) →
    AreThose P xs own → AreThose Q xs own
those-same P Q there back [] own are = are
those-same P Q there back (y ∷ ys) own (inl not_y) = inl ((λ q. not_y.0 (back y q)), those-same P Q there back ys own not_y.1)
those-same P Q there back (y ∷ ys) own (inr is_y) = inr (is_y.0, there y is_y.1, those-same P Q there back ys is_y.0 is_y.2, is_y.3)

-- One held origin more at the end.
pub pushed-held : (before items : List Owed) (desk : ℕ) (origins : List Origin) (x : Origin) → items ≡ before ++ at_desk desk origins →
    items ++ record { desk = desk; origin = x } ∷ [] ≡ before ++ at_desk desk (origins ++ x ∷ [])
pushed-held before items desk origins x is =
    let one : List Owed = record { desk = desk; origin = x } ∷ [] in
    ap (λ l. l ++ one) is
    ∙ (append_assoc before (at_desk desk origins) one
    ∙ ap (λ l. before ++ l) (sym (map-append (λ (o : Origin). record { desk = desk; origin = o }) origins (x ∷ []))))

-- What is in the set at a desk's place is what is certified to its authority.
held_there : (configs : List Settings) (sets : List Resources) (desk : ℕ) (row : NameRow) (set : Resources) → AreCertified configs sets →
    desk < length (names_of configs) → (prefix : Prefix) → HasEach (has (get_or sets desk set)) prefix →
    IsHeldBy configs (slice_get (names_of configs) desk) prefix
held_there configs sets desk row set are within prefix each =
    let inside : desk < length sets = rw are.one_each within in
    rw (slice_get-get_or (names_of configs) desk row within)
    (λ a of_it. subst (λ (b : Bool). IsTrue b) (are.members desk row set inside (family_of prefix) a) (each a of_it))

held_back : (configs : List Settings) (sets : List Resources) (desk : ℕ) (row : NameRow) (set : Resources) → AreCertified configs sets →
    desk < length (names_of configs) → (prefix : Prefix) → IsHeldBy configs (slice_get (names_of configs) desk) prefix →
    HasEach (has (get_or sets desk set)) prefix
held_back configs sets desk row set are within prefix held =
    let inside : desk < length sets = rw are.one_each within in
    let each = rw (slice_get-get_or (names_of configs) desk row within) at held in
    λ a of_it. subst (λ (b : Bool). IsTrue b) (sym (are.members desk row set inside (family_of prefix) a)) (each a of_it)

-- The origins of one desk more.
pub owed_next : (configs : List Settings) (sets : List Resources) (desk : ℕ) (row : NameRow) (set : Resources) (origins own : List Origin)
    (before owed : List Owed) → AreCertified configs sets → desk < length (names_of configs) → set ≡ get_or sets desk set →
    origins_of (slice_get configs desk) ≡ origins → AreOwedByFirst configs desk before →
    AreThose (λ origin. HasEach (has set) origin.prefix) origins own → owed ≡ before ++ at_desk desk own →
    AreOwedByFirst configs (desk + 1) owed
owed_next configs sets desk row set origins own before owed are within at configured first those is =
    let next : suc desk ≡ desk + 1 = omega arith in
    let P : Origin → Type 0 = λ origin. HasEach (has set) origin.prefix in
    let those_there : AreThose (IsHeldAt configs desk) origins own = those-same P (IsHeldAt configs desk)
    (λ o each. held_there configs sets desk row set are within o.prefix (subst (λ (s : Resources). HasEach (has s) o.prefix) at each))
    (λ o held. subst (λ (s : Resources). HasEach (has s) o.prefix) (sym at) (held_back configs sets desk row set are within o.prefix held)) origins own those in
    subst (λ n. AreOwedByFirst configs n owed) next
    (before, own, first, subst (λ l. AreThose (IsHeldAt configs desk) l own) (sym configured) those_there, is)

-- A row of a list that has some.
pub first_row : (names : List NameRow) (desk : ℕ) → desk < length names → NameRow
first_row [] desk within = absurd (omega arith)
first_row (row ∷ rest) desk within = row
