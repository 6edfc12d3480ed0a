-- The rows of the making are those of the edition's keys, counted on.
use Rattle.std.proofs.Common.{◌≡◌, ℕ, ◌+◌, Bool, true, false, not, cond, List, [], ◌∷◌, map, refl, ap, ◌∙◌}
use Rattle.std.specs.Prelude.{Contains, IsPermutation}
use Rattle.std.specs.List.Sorted.{IsSortedBy}
use Rattle.key_roll.specs.declared.rows.KeyRow.{KeyRow}
use Rattle.key_roll.specs.declared.work.Work.{Work}
use Rattle.issue_plan.specs.Wanted.{PlanInput}
use Rattle.issue_drafts.specs.WorkKeys.{all_keys}
use Rattle.issue_drafts.specs.IssueInput.{IssueInput}
use Rattle.issue_drafts.specs.Drafts.{Draft, serial_behind}
use Rattle.issue_make.specs.Trace.{IssuingTrace, all_of, row_after, is_before}
use Rattle.editions.specs.laws.RowLaws.{keeps}
use Rattle.key_roll.specs.declared.rows.RevokedRow.{RevokedRow}
use Rattle.editions.specs.Wanted.{new_objects, keeps_point}
use Rattle.editions.specs.Step.{counted}
use Rattle.editions.specs.inner.PlanAndTable.{made_from, AreOfPlan}
use Rattle.items.specs.laws.ElementLaws.{here, there}

map-agree-in : {X Y : Type 0} (f g : X → Y) (xs : List X)
    → ((x : X) → Contains xs x → f x ≡ g x) → map f xs ≡ map g xs
map-agree-in f g [] same = refl
map-agree-in {X} {Y} f g (x ∷ xs) same =
    ap (λ (y : Y). y ∷ map f xs) (same x (here x xs))
    ∙ ap (λ (l : List Y). g x ∷ l) (map-agree-in f g xs (λ z c. same z (there x xs z c)))

module _ (plan_input : PlanInput) (work : Work) (trace : IssuingTrace)
    (plan : AreOfPlan plan_input work trace.keys) where
  abbrev s : IssueInput
  s = made_from plan_input work

  abbrev with_point : KeyRow → ℕ → ℕ → KeyRow
  with_point key next moment = record key {
    next_serial = next;
    number = key.number + 1;
    this_update = moment;
    revoked = trace.entries key;
  }

  abbrev without : KeyRow → KeyRow
  without key = record key {
    next_serial = serial_behind (all_of s trace) key;
    revoked = trace.entries key;
  }

  abbrev either_row : KeyRow → Bool → KeyRow
  either_row key b =
      cond b (with_point key (serial_behind (all_of s trace) key + 1) work.moment) (without key)

  module _ (stay : (key : KeyRow) → Contains plan.keys key → keeps_point plan_input plan.keys key ≡ true
      → trace.entries key ≡ key.revoked) where
    row-by : (key : KeyRow) → Contains plan.keys key → (b : Bool) → keeps_point plan_input plan.keys key ≡ b
        → either_row key (not b) ≡ cond b (record key { next_serial = serial_behind (new_objects plan_input plan.keys) key })
        (with_point key (serial_behind (new_objects plan_input plan.keys) key + 1) plan_input.basis.moment)
    row-by key c false isnt =
        ap (λ (l : List Draft). with_point key (serial_behind l key + 1) work.moment) plan.drafts
        ∙ ap (with_point key (serial_behind (new_objects plan_input plan.keys) key + 1)) plan.moment
    row-by key c true keeps =
        let of : ℕ → List RevokedRow → KeyRow = λ n revoked. record key { next_serial = n; revoked = revoked } in
        ap (λ (l : List Draft). of (serial_behind l key) (trace.entries key)) plan.drafts
        ∙ ap (of (serial_behind (new_objects plan_input plan.keys) key)) (stay key c keeps)

    row-same : (key : KeyRow) → Contains plan.keys key
        → row_after s trace key ≡ counted plan_input plan.keys trace.entries key
    row-same key c =
        ap (either_row key) (plan.pointed key c)
        ∙ (row-by key c (keeps_point plan_input plan.keys key) refl)

    pub rows-counted : (rows : List KeyRow)
        → IsPermutation (map (row_after s trace) (all_keys trace.keys)) rows
        → IsSortedBy is_before rows
        → rows ≡ map (counted plan_input plan.keys trace.entries) plan.keys
    rows-counted rows moved sorted =
        plan.ordered (row_after s trace) (keeps s trace) rows moved sorted
        ∙ map-agree-in (row_after s trace) (counted plan_input plan.keys trace.entries) plan.keys row-same
