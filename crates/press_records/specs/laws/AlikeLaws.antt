-- The laws of what stands alike: the same bytes are records over it.
use Rattle.std.proofs.Common.{◌≡◌, ℕ, suc, true, ◌&&◌, eqb, leb, cond, Option, Some, None, List, [], ◌∷◌, length, get_or, refl, sym, ap, subst, ◌∙◌, arith}
use Rattle.std.proofs.Math.Path.{fun_ext}
use Rattle.std.proofs.lemmas.Bool.{and_from, le-leb}
use Rattle.record_forms.specs.Form.{Form, Spells}
use Rattle.record_forms.specs.Forms.{through, read_whole}
use Rattle.press_records.specs.Changes.{uris_rise}
use Rattle.press_records.specs.Edition.{EditionValue, StandingValue, IsAlike, Fields, is_next, is_dated, grows, are_live, edition_fields, edition_of, fields_of, edition_told, editions}

-- ---- cuts

none-grows : (before cut : List ℕ) → ((desk : ℕ) → get_or before desk 0 ≡ 0) → grows before cut ≡ true
none-grows [] cut none = refl
none-grows (n ∷ before) [] none =
    let first : n ≡ 0 = none 0 in
    and_from (leb n 0) (grows before []) (le-leb n 0 (omega (arith, first))) (none-grows before [] (λ desk. none (suc desk)))
none-grows (n ∷ before) (m ∷ cut) none =
    let first : n ≡ 0 = none 0 in
    and_from (leb n m) (grows before cut) (le-leb n m (omega (arith, first))) (none-grows before cut (λ desk. none (suc desk)))

alike-grows : (one other cut : List ℕ) → ((desk : ℕ) → get_or one desk 0 ≡ get_or other desk 0) → grows one cut ≡ grows other cut
alike-grows [] [] cut same = refl
alike-grows [] (m ∷ other) cut same = sym (none-grows (m ∷ other) cut (λ desk. sym (same desk)))
alike-grows (n ∷ one) [] cut same = none-grows (n ∷ one) cut same
alike-grows (n ∷ one) (m ∷ other) [] same =
    let first : n ≡ m = same 0 in
    let rest = alike-grows one other [] (λ desk. same (suc desk)) in
    λ i. leb (first i) 0 && rest i
alike-grows (n ∷ one) (m ∷ other) (x ∷ cut) same =
    let first : n ≡ m = same 0 in
    let rest = alike-grows one other cut (λ desk. same (suc desk)) in
    λ i. leb (first i) x && rest i

-- ---- the forms

module _ (one other : StandingValue) (alike : IsAlike one other) where
  -- The one with the cut of the other.
  abbrev between : StandingValue
  between = record one { cut = other.cut }

  told-same : (x : Fields) → edition_told one x ≡ edition_told between x
  told-same x =
      let grows-same = alike-grows one.cut other.cut x.1.1.0 alike.cut in
      λ i. cond ((((is_next one.serial x.0 && is_dated one.moment x.1.0) && (eqb (length x.1.1.0) 64 && grows-same i))
      && are_live x.1.0 x.1.1.1.0) && uris_rise x.1.1.1.1) (Some (edition_of x)) None

  cut-alike : editions one ≡ editions between
  unfolding editions
  cut-alike = ap (λ (told : Fields → Option EditionValue). through (edition_fields one) told fields_of) (fun_ext told-same)

  others-alike : between ≡ other
  others-alike =
      let sets : one.set ≡ other.set = fun_ext alike.set in
      λ i. record { serial = alike.serial i; moment = alike.moment i; cut = other.cut; rows = alike.rows i; set = sets i }

  editions-alike : editions one ≡ editions other
  editions-alike = cut-alike ∙ ap editions others-alike

  pub read-alike : (bytes : List ℕ) → read_whole (editions one) bytes ≡ read_whole (editions other) bytes
  read-alike bytes = ap (λ (f : Form EditionValue). read_whole f bytes) editions-alike

  pub spelled-alike : (edition : EditionValue) (bytes : List ℕ) → Spells (editions one) edition bytes → Spells (editions other) edition bytes
  spelled-alike edition bytes is = subst (λ (f : Form EditionValue). Spells f edition bytes) editions-alike is
