-- The trust anchor's key among the live keys.
use Rattle.std.proofs.Common.{◌≡◌, ◌≢◌, ◌↔◌, ℕ, ◌&&◌, ◌==◌, Bool, true, List, [], ◌∷◌, map, Option, Some, None, refl, sym, ◌∙◌, ap, inl, inr}
use Rattle.std.specs.List.{find}
use Rattle.std.specs.Option.{option_map}
use Rattle.std.proofs.lemmas.Bool.{and_parts, and_from, cond-true, cases_eq, false≢true}
use Rattle.key_roll.specs.declared.rows.KeyRow.{KeyRow}
use Rattle.key_roll.specs.declared.rows.Role.TheVariants.{Current}
use Rattle.key_roll.specs.Roles.{is_role}
use Rattle.press_records.specs.Rows.{row_value}
use Rattle.press_records.specs.Stages.{is_alone, are_stages}
use Rattle.press_core.specs.Staged.{AreStaged}
use Rattle.press_core.specs.Loading.{anchor_of}

abbrev is-anchor : KeyRow → Bool
is-anchor row = (row.desk == 0) && is_role row.role Current

anchored : (rows : List KeyRow) → AreStaged rows → (key : List ℕ) × (anchor_of rows ≡ Some key)
anchored [] staged = absurd (false≢true staged)
anchored (row ∷ rows) staged =
    let value = row_value row in
    let first = and_parts ((row.desk == 0) && is_alone value) (are_stages 1 (map row_value rows)) staged in
    let both = and_parts (row.desk == 0) (is_alone value) first.0 in
    let alone = and_parts (is_role row.role Current) (row.since == 0) both.1 in
    let is : is-anchor row ≡ true = and_from (row.desk == 0) (is_role row.role Current) both.0 alone.0 in
    (row.key.bytes, ap (option_map (λ (r : KeyRow). r.key.bytes)) (cond-true (is-anchor row) (Some row) (find is-anchor rows) is))

pub anchor-none : {X : Type 0} (found : Option X) (bytes : X → List ℕ) (rows : List KeyRow) (serial : ℕ) → option_map bytes found ≡ anchor_of rows
    → (serial ≡ 0 → rows ≡ []) → (serial ≢ 0 → AreStaged rows) → (found ≡ None) ↔ (serial ≡ 0)
anchor-none found bytes rows serial is before staged = (forth, back)
  where
    no-value : {Y : Type 0} (y : Y) → None ≡ Some y → ⊥
    no-value y e = cc

    forth : found ≡ None → serial ≡ 0
    forth none =
        elim (cases_eq serial 0) [
          | inl same ↦ same
          | inr some ↦ (let key = anchored rows (staged some) in absurd (no-value key.0 (sym (ap (option_map bytes) none) ∙ is ∙ key.1)))
        ]

    empty : (o : Option _) → option_map bytes o ≡ None → o ≡ None
    empty None e = refl
    empty (Some x) e = absurd (no-value (bytes x) (sym e))

    back : serial ≡ 0 → found ≡ None
    back e = empty found (is ∙ ap anchor_of (before e))
