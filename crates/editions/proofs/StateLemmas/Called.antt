-- What calls for an edition, over a published state and over editions.
use Rattle.std.proofs.Common.{◌≡◌, ℕ, suc, false, refl, sym, ◌∙◌, ap, ap₂, get_or, List, [], ◌∷◌}
use Rattle.std.specs.Prelude.{Bool, ◌||◌, ◌==◌, nat_lt}
use Rattle.std.specs.List.{list_any}
use Rattle.res_sets.specs.declared.holdings.Resources.{Resources}
use Rattle.key_roll.specs.declared.rows.KeyRow.{KeyRow}
use Rattle.issue_plan.specs.Keys.{next_keys}
use Rattle.editions.specs.Due as due
use Rattle.issue_plan.specs.Due.{is_due}
use Rattle.editions.specs.Due.{grows, steps_next}
use Rattle.editions.specs.Edition.{State, cut_at}
use Rattle.editions.specs.Step.{Premises, basis_at}
use Rattle.editions.specs.PublishedState.{PublishedStateValue}
use Rattle.editions.specs.Calling.{is_called_for}

abbrev tail : List ℕ → List ℕ
tail [] = []
tail (x ∷ xs) = xs

tail-at : (xs : List ℕ) (k : ℕ) → get_or (tail xs) k 0 ≡ get_or xs (suc k) 0
tail-at [] k = refl
tail-at (x ∷ xs) k = refl

grows-end : (before : List ℕ) → grows before [] ≡ false
grows-end [] = refl
grows-end (m ∷ before) = refl

grows-head : (before : List ℕ) (n : ℕ) (cut : List ℕ) → grows before (n ∷ cut) ≡ (nat_lt (get_or before 0 0) n || grows (tail before) cut)
grows-head [] n cut = refl
grows-head (m ∷ before) n cut = refl

-- Cuts that take in as much of each desk grow alike.
grows-same : (one other cut : List ℕ) → ((desk : ℕ) → get_or one desk 0 ≡ get_or other desk 0) → grows one cut ≡ grows other cut
grows-same one other [] same = grows-end one ∙ sym (grows-end other)
grows-same one other (n ∷ cut) same =
    grows-head one n cut
    ∙ (ap₂ (λ (m : ℕ) (b : Bool). nat_lt m n || b) (same 0) (grows-same (tail one) (tail other) cut (λ k. tail-at one k ∙ (same (suc k) ∙ sym (tail-at other k))))
    ∙ sym (grows-head other n cut))

pub called-same : (premises : Premises) (before : State) (published_state : PublishedStateValue) (cut : List ℕ) (moment : ℕ) (sets : List Resources) →
    before.serial ≡ published_state.serial → before.rows ≡ published_state.rows → ((desk : ℕ) → cut_at before.cut desk ≡ cut_at published_state.cut desk) →
    is_called_for published_state cut moment (next_keys (basis_at premises before cut moment sets)) ≡ due.is_called_for premises before cut moment sets published_state.issued
called-same premises before published_state cut moment sets serial rows same =
    let nexts = next_keys (basis_at premises before cut moment sets) in
    let grown : grows published_state.cut cut ≡ grows before.cut cut = sym (grows-same before.cut published_state.cut cut same) in
    ap (λ (n : ℕ). (n == 0) || grows published_state.cut cut || list_any (is_due moment) published_state.issued || steps_next published_state.rows nexts) (sym serial)
    ∙ (ap (λ (b : Bool). (before.serial == 0) || b || list_any (is_due moment) published_state.issued || steps_next published_state.rows nexts) grown
    ∙ ap (λ (r : List KeyRow). (before.serial == 0) || grows before.cut cut || list_any (is_due moment) published_state.issued || steps_next r nexts) (sym rows))
