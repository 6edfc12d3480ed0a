-- Whether there is something to publish.
use Rattle.std.specs.Prelude.{◌≡◌, ℕ, ◌==◌, Bool, false, not, ◌||◌, nat_lt, is_some, List, [], ◌∷◌}
use Rattle.std.specs.List.{list_any}
use Rattle.res_sets.specs.declared.holdings.Resources.{Resources}
use Rattle.entitle.specs.Certified.{AreCertified}
use Rattle.key_roll.specs.declared.issued.IssuedRow.{IssuedRow}
use Rattle.key_roll.specs.declared.rows.KeyRow.{KeyRow}
use Rattle.issue_plan.specs.declared.keys.NextKey.{NextKey}
use Rattle.issue_plan.specs.Due.{is_due}
use Rattle.issue_plan.specs.Keys.{id_of, next_keys}
use Rattle.issue_plan.specs.Work.{new_key_of, role_of, goes_on}
use Rattle.editions.specs.Edition.{Edition, State, state_after, set_after}
use Rattle.editions.specs.Table.{IsTable}
use Rattle.editions.specs.Step.{Premises, configs_at, basis_at}

-- A desk has commands behind the cut.
abbrev pub grows : List ℕ → List ℕ → Bool
grows before [] = false
grows [] (n ∷ cut) = nat_lt 0 n || grows [] cut
grows (m ∷ before) (n ∷ cut) = nat_lt m n || grows before cut

-- A key is made, turns, or ends.
abbrev pub steps_next : List KeyRow → List NextKey → Bool
steps_next rows nexts =
    list_any (λ key. is_some (new_key_of key) || is_some (role_of key)) nexts
    || list_any (λ row. not (goes_on nexts (id_of row))) rows

-- An edition is made where it is the first, where commands came, or where something is due at the
-- moment: an object, or a step of a key rollover.
abbrev pub is_called_for :
    Premises → State → List ℕ → ℕ → List Resources → List IssuedRow → Bool
is_called_for premises before cut moment sets issued =
    (before.serial == 0) || grows before.cut cut || list_any (is_due moment) issued
    || steps_next before.rows (next_keys (basis_at premises before cut moment sets))

-- Whether an edition with that cut and moment is called for behind these, by the table of what they
-- leave and by what the desks are certified for at the cut.
pub record IsCalledFor (premises : Premises) (editions : List Edition) (cut : List ℕ) (moment : ℕ)
    (called : Bool) : Type 0 where
  pub sets : List Resources
  pub certified : AreCertified (configs_at premises.lists cut) sets
  pub issued : List IssuedRow
  pub table : IsTable (set_after editions) issued
  pub answer :
      is_called_for premises (state_after editions) cut moment sets issued ≡ called
