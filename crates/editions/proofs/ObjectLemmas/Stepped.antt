-- An edition that is told by the rows and the table follows the others.
use Rattle.std.proofs.Common.{◌≡◌, ℕ, false, List, [], ◌∷◌, ◌++◌, length, refl}
use Rattle.std.specs.Prelude.{Contains}
use Rattle.std.proofs.lemmas.List.Elements.{All-weaker, All-contains_itself}
use Rattle.key_roll.specs.declared.rows.KeyRow.{KeyRow}
use Rattle.issue_keys.specs.Keys.{id_of}
use Rattle.editions.specs.Edition.{Edition, state_after, set_after}
use Rattle.editions.specs.Superseded.{AreSuperseded}
use Rattle.editions.specs.Wanted.{keeps_point}
use Rattle.editions.specs.Objects.{Issuance}
use Rattle.editions.specs.Step.{Premises, IsStep, AreSteps, AreRevoked, plan_input_at}
use Rattle.editions.specs.inner.ByRows.{IsStepByRows}
use Rattle.editions.proofs.ObjectLemmas.Views.{IsView}
use Rattle.editions.proofs.WalkLemmas.Rows.{live-apart}
use Rattle.editions.proofs.ObjectLemmas.Noted.{superseded}

module _ (premises : Premises) (clock : ℕ) (editions : List Edition) (edition : Edition)
    (steps : AreSteps premises editions) (step : IsStepByRows premises clock editions edition) where
  abbrev m : Issuance
  m = record {
    vouched = premises.vouched;
    plan_input =
        plan_input_at premises (state_after editions) edition step.sets step.owed step.issued;
    keys = step.made.keys;
    entries = step.made.entries;
    old = set_after editions;
    new = set_after (editions ++ edition ∷ []);
  }

  view : IsView premises editions edition m
  view = record {
    rows = step.made.rows;
    set = step.made.set;
    new = refl;
    old = refl;
    table = step.made.table;
    over = record { next = step.made.next; apart = live-apart premises editions steps };
    next = step.made.next;
    moment = refl;
    site = refl;
  }

  revoked : AreRevoked (editions ++ edition ∷ []) (length editions) m.plan_input m.keys m.entries
  revoked = All-weaker
      (λ (key : KeyRow). Contains m.keys key)
      (λ (key : KeyRow). keeps_point m.plan_input m.keys key ≡ false
      → AreSuperseded (editions ++ edition ∷ []) (length editions) (id_of key) (m.entries key))
      (λ key among is. superseded premises editions edition m steps view step.made.table
      step.made.listed step.changes key among is)
      m.keys (All-contains_itself m.keys)

  pub step-by : IsStep premises clock editions edition
  step-by = record {
    serial = step.serial;
    moment = step.moment;
    dated = step.dated;
    counted = step.counted;
    cut = step.cut;
    sets = step.sets;
    owed = step.owed;
    issued = step.issued;
    made = record {
      table = step.made.table;
      certified = step.made.certified;
      owes = step.made.owes;
      keys = step.made.keys;
      next = step.made.next;
      entries = step.made.entries;
      rows = step.made.rows;
      set = step.made.set;
      listed = revoked;
    };
    changes = step.changes;
  }
