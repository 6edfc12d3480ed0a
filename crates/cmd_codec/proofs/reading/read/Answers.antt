use Rattle.cmd_codec.proofs.Records.{is_found, is_only, is_bad, is_bad_only}
use Rattle.cmd_codec.proofs.Good.{spelled_good}
use Rattle.cmd_codec.proofs.Apart.{spelling_apart}
use Rattle.cmd_codec.proofs.reading.read.Goals as goal

pub returns-clause-found : goal.returns-clause-found
returns-clause-found c = is_found c.args.bytes.now c.record_of.result c.record_of.ensures

pub returns-clause-bad : goal.returns-clause-bad
returns-clause-bad c = is_bad c.args.bytes.now c.record_of.result c.record_of.ensures

pub returns-clause-bad_only : goal.returns-clause-bad_only
returns-clause-bad_only c = is_bad_only c.args.bytes.now c.record_of.result c.record_of.ensures

pub returns-clause-only : goal.returns-clause-only
returns-clause-only c = is_only spelling_apart spelled_good c.args.bytes.now c.record_of.result c.record_of.ensures
