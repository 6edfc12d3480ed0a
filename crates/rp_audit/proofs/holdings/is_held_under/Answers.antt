use Rattle.std.proofs.Common.{sym, ap, ◌∙◌}
use Rattle.cert_obj.specs.declared.values.Held.{Held}
use Rattle.cert_obj.specs.Values.{sets_of, held_value}
use Rattle.rp_rules.specs.Certificates.{is_held_under}
use Rattle.rp_audit.proofs.Spans.{held_inside}
use Rattle.rp_audit.proofs.holdings.is_held_under.Goals as goal

pub returns-in-Inherit : goal.returns-in-Inherit
returns-in-Inherit c = sym (ap (λ (h : Held). is_held_under (sets_of c.args.issuer.now) (held_value h)) c.in-Inherit.is ∙ held_inside (sets_of c.args.issuer.now))
