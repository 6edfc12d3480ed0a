use Rattle.std.specs.Prelude.{◌≡◌, true}
use Rattle.crl_obj.specs.Values.{are_rising}
use Rattle.rp_rules.specs.declared.rules.Rule.TheVariants as rule
use Rattle.rp_audit.proofs.Checking.{found_such}
use Rattle.rp_audit.proofs.points.read_crl.Goals as goal

pub returns-clause-rises : goal.returns-clause-rises
returns-clause-rises c =
    found_such c.args.uri.now rule.Shape c.in_ok-read.read (λ r. are_rising r.crl.entries.items ≡ true) c.found.result c.found.ensures c.in_ok-read.ensures.rises
