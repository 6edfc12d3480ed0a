-- Names of keys of which what fits is told alike.
use Rattle.std.proofs.Common.{◌≡◌, ◌≢◌, ◌⊎◌, inl, inr, suc, Bool, true, false, cond, None, Some, List, [], ◌∷◌, All, refl, sym, ◌∙◌, arith}
use Rattle.std.specs.Str.{bytes_eq}
use Rattle.std.proofs.lemmas.Slice.Eq.{bytes_eq-Decides}
use Rattle.std.specs.Prelude.{⊤}
use Rattle.key_roll.specs.declared.rows.KeyRow.{KeyRow}
use Rattle.key_roll.specs.declared.work.CertWork.{CertWork}
use Rattle.key_roll.specs.declared.work.RoaWork.{RoaWork}
use Rattle.key_roll.specs.declared.work.PointWork.{PointWork}
use Rattle.key_roll.specs.declared.work.KeyName.{KeyName}
use Rattle.key_roll.specs.declared.work.KeyName.TheVariants.{Live, Fresh}
use Rattle.issue_plan.specs.Fits.{fits, live_row}
use Rattle.issue_plan.specs.laws.FitLaws.{unborn-subject, unborn-issuer, unborn-roa, unborn-point}
use Rattle.issue_plan.specs.Wanted.{PlanInput}
use Rattle.issue_plan.specs.Wanted as wanted
use Rattle.issue_keys.specs.Keys.{id_of}

-- The name of a key that isn't live.
abbrev pub IsUnborn : List KeyRow → KeyName → Type 0
IsUnborn rows (Live id) = All (λ row. id_of row ≢ id.bytes) rows
IsUnborn rows (Fresh desk) = ⊤

-- One name, or both of keys that aren't live.
abbrev pub AreAlike : List KeyRow → KeyName → KeyName → Type 0
AreAlike rows one other = (one ≡ other) ⊎ (IsUnborn rows one × IsUnborn rows other)

-- No live key has the name of one that isn't live.
pub none-live : (rows : List KeyRow) (name : KeyName) → IsUnborn rows name → live_row rows name ≡ None
none-live rows (Fresh desk) unborn = refl
none-live [] (Live id) unborn = refl
none-live (row ∷ rows) (Live id) unborn =
    by (bytes_eq (id_of row) id.bytes) refl (none-live rows (Live id) (λ k d lt. unborn (suc k) d (omega (arith, lt))))
  where
    by : (b : Bool) → bytes_eq (id_of row) id.bytes ≡ b → live_row rows (Live id) ≡ None
        → cond b (Some row) (live_row rows (Live id)) ≡ None
    by true e rest = absurd (unborn 0 row (omega arith) ((bytes_eq-Decides (id_of row) id.bytes).0 e))
    by false e rest = rest

module _ (plan_input : PlanInput) where
  abbrev rows : List KeyRow
  rows = plan_input.basis.rows

  -- What fits is asked of live keys alone.
  pub alike-certificates : (one other : CertWork) → AreAlike rows one.subject other.subject
      → AreAlike rows one.issuer other.issuer → one.held ≡ other.held
      → fits plan_input (wanted.Certificate one) ≡ fits plan_input (wanted.Certificate other)
  alike-certificates one other (inl subjects) (inl issuers) held =
      λ j. fits plan_input (wanted.Certificate (record { subject = subjects j; issuer = issuers j; held = held j }))
  alike-certificates one other (inl subjects) (inr unborn) held =
      unborn-issuer plan_input one (none-live rows one.issuer unborn.0)
      ∙ sym (unborn-issuer plan_input other (none-live rows other.issuer unborn.1))
  alike-certificates one other (inr unborn) issuers held =
      unborn-subject plan_input one (none-live rows one.subject unborn.0)
      ∙ sym (unborn-subject plan_input other (none-live rows other.subject unborn.1))

  pub alike-roas : (one other : RoaWork) → AreAlike rows one.issuer other.issuer → one.origin ≡ other.origin
      → fits plan_input (wanted.Roa one) ≡ fits plan_input (wanted.Roa other)
  alike-roas one other (inl issuers) origins =
      λ j. fits plan_input (wanted.Roa (record { issuer = issuers j; origin = origins j }))
  alike-roas one other (inr unborn) origins =
      unborn-roa plan_input one (none-live rows one.issuer unborn.0)
      ∙ sym (unborn-roa plan_input other (none-live rows other.issuer unborn.1))

  pub alike-points : (one other : PointWork) → AreAlike rows one.key other.key
      → fits plan_input (wanted.Point one) ≡ fits plan_input (wanted.Point other)
  alike-points one other (inl keys) = λ j. fits plan_input (wanted.Point (record { key = keys j }))
  alike-points one other (inr unborn) =
      unborn-point plan_input one (none-live rows one.key unborn.0)
      ∙ sym (unborn-point plan_input other (none-live rows other.key unborn.1))
