use Rattle.key_ids.specs.Base.{rsync_scheme, https_scheme}
use Rattle.press_records.proofs.Bases.{base_utf8}
use Rattle.press_records.proofs.store.site_of.Goals as goal

pub returns-in_default : goal.returns-in_default
returns-in_default c = λ base other. c.in_default.ensures.cases.0 (base_utf8 rsync_scheme c.args.rsync.now base)

pub returns-in_default-from_utf8 : goal.returns-in_default-from_utf8
returns-in_default-from_utf8 c = λ base other. c.in_default-from_utf8.ensures.cases.0 (base_utf8 https_scheme c.args.rrdp.now other)
