-- The finder of an edition's keys, and what is ready over keys that are looked at as a slice.
use Rattle.std.proofs.Common.{◌≡◌, ℕ, ◌≤◌, List, length, take, sym, subst, length-take, arith}
use Rattle.key_roll.specs.declared.rows.KeyRow.{KeyRow}
use Rattle.issue_drafts.specs.WorkKeys.{keys_at, Finds}
use Rattle.issue_drafts.specs.declared.key_finder.KeyFinder.{KeyFinder}
use Rattle.issue_drafts.specs.IssueInput.{IssueInput}
use Rattle.issue_make.specs.ObjectPlan.{CanPlanObjects, IsObjectPlan}
use Rattle.issue_make.specs.inner.Ready.{AreReady, IsReady}
use Rattle.issue_make.specs.declared.plans.ObjectPlan.{ObjectPlan}
use Rattle.issue_make.proofs.Conditions.{can-plan}

first-is : (s : IssueInput) (live rows : List KeyRow) (n signers : ℕ) (finder : KeyFinder) → AreReady s live rows n signers
    → Finds (keys_at rows n) finder → finder.first_fresh ≡ n
first-is s live rows n signers finder ready finds =
    let first : finder.first_fresh ≡ length (take n rows) = finds.first in
    let inside : n ≤ length rows = ready.inside in
    let long = length-take n rows in omega arith

pub can-plan-at : (s : IssueInput) (live rows seen : List KeyRow) (n signers : ℕ) (finder : KeyFinder) → AreReady s live rows n signers → seen ≡ rows
    → Finds (keys_at seen n) finder → CanPlanObjects s (keys_at seen finder.first_fresh) seen finder
can-plan-at s live rows seen n signers finder ready e finds =
    let at : AreReady s live seen n signers = subst (λ (l : List KeyRow). AreReady s live l n signers) (sym e) ready in
    subst (λ (first : ℕ). CanPlanObjects s (keys_at seen first) seen finder) (sym (first-is s live seen n signers finder at finds))
    (can-plan s live seen n signers finder at.work at.are finds)

pub ready-at : (s : IssueInput) (live rows seen : List KeyRow) (n signers : ℕ) (finder : KeyFinder) (plan : ObjectPlan)
    → AreReady s live rows n signers → seen ≡ rows → Finds (keys_at seen n) finder → IsObjectPlan s (keys_at seen finder.first_fresh) seen plan
    → IsReady s live seen n signers plan
ready-at s live rows seen n signers finder plan ready e finds is =
    let at : AreReady s live seen n signers = subst (λ (l : List KeyRow). AreReady s live l n signers) (sym e) ready in record {
      ready = at;
      is_plan = subst (λ (first : ℕ). IsObjectPlan s (keys_at seen first) seen plan) (first-is s live seen n signers finder at finds) is;
    }
