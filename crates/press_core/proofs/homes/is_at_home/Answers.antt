use Rattle.std.proofs.Common.{sym, ◌∙◌}
use Rattle.cert_obj.specs.Values.{cert_value}
use Rattle.press_core.specs.Tables.{is_home}
use Rattle.press_core.specs.inner.Rows.{home_value}
use Rattle.press_core.proofs.Comparing.{any-map}
use Rattle.press_core.proofs.homes.is_at_home.Goals as goal

pub returns : goal.returns
returns c = c.has_home.ensures ∙ sym (any-map (is_home (cert_value c.args.cert.now)) home_value c.args.homes.now)
