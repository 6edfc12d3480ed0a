-- The works of an edition, but for what fits.
use Rattle.std.specs.Prelude.{◌≡◌, List}
use Rattle.key_roll.specs.declared.work.PointWork.{PointWork}
use Rattle.issue_plan.specs.declared.plans.Unfit.{Unfit}
use Rattle.issue_plan.specs.Wanted.{PlanInput, Certificate, Roa, Point}
use Rattle.issue_plan.specs.Fits.{unfit, all_certificates, all_roas}

-- Of the wanted objects, that which nothing fits.
pub record IsAnew (plan_input : PlanInput) (wanted : List PointWork) (anew : Unfit) : Type 0 where
  pub certs : anew.certs.items ≡ unfit plan_input Certificate (all_certificates plan_input)
  pub roas : anew.roas.items ≡ unfit plan_input Roa (all_roas plan_input)
  pub points : anew.points.items ≡ unfit plan_input Point wanted
