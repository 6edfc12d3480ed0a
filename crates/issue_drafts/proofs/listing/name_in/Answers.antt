use Rattle.issue_drafts.proofs.Filed.{some-name}
use Rattle.issue_drafts.proofs.listing.name_in.Goals as goal

pub unwrap-requires : goal.unwrap-requires
unwrap-requires c = some-name c.strip_prefix.result c.args.folder.now c.args.uri.now
    c.strip_prefix.ensures.cases c.requires
