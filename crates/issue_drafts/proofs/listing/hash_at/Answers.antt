use Rattle.std.proofs.lemmas.Option.{slice_get-get_or}
use Rattle.issue_drafts.proofs.listing.hash_at.Goals as goal

pub returns : goal.returns
returns c = slice_get-get_or c.args.hashes.now c.args.position _ c.requires
