use Rattle.std.proofs.Common.{◌<◌, length, arith}
use Rattle.issue_drafts.proofs.NamedKeys.{ids-long, identified-there}
use Rattle.issue_drafts.proofs.placed_keys.key_there.Goals as goal
