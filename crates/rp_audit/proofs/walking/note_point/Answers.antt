use Rattle.std.proofs.Common.{◌∙◌}
use Rattle.rp_audit.specs.inner.Views.{point_value}
use Rattle.rp_audit.proofs.Steps.{point_uris}
use Rattle.rp_audit.proofs.walking.note_point.Goals as goal

pub returns-clause-uris : goal.returns-clause-uris
returns-clause-uris c = λ visits sees.
    point_uris visits (point_value c.args.authority.now c.args.listing.now) c.args.noted.now.visited_uris c.add.new.self c.add-2.new.self _ _
    (c.in_ok-owned.ensures ∙ c.as_str.ensures.value) c.in_ok-crl_uri_of.ensures c.in_ok-add.ensures c.in_ok-add-2.ensures sees
