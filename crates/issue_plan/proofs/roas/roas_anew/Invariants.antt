use Rattle.std.proofs.Common.{◌≡◌, ◌++◌, take}
use Rattle.std.specs.Prelude.{filter, is_none}
use Rattle.std.specs.List.{filter_map}
use Rattle.issue_plan.specs.Wanted.{wanted_roas}
use Rattle.issue_plan.specs.inner.Anew.{kept_roa}
use Rattle.issue_plan.specs.inner.OwedPlaces.{IsIssuer}
use Rattle.issue_plan.proofs.roas.roas_anew.Given as goal

abbrev pub invariant-loop-index : goal.invariant-loop-index
invariant-loop-index l = record {
  issuer : IsIssuer l.keys l.settled l.issuer;
  anew : l.anew.items
      ≡ filter (λ roa. is_none (kept_roa l.standing l.settled roa)) (wanted_roas l.keys (take l.index l.owed));
  kept : l.kept.items
      ≡ l.fn.kept.items ++ filter_map (kept_roa l.standing l.settled) (wanted_roas l.keys (take l.index l.owed));
}
