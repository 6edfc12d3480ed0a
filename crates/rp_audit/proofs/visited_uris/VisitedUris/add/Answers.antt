use Rattle.std.proofs.Common.{true, ◌∙◌, string_bytes}
use Rattle.std.proofs.lemmas.Map.Text.{btree_set_updates_text}
use Rattle.rp_audit.proofs.Lists.{among_more}
use Rattle.rp_audit.proofs.visited_uris.VisitedUris.add.Goals as goal

pub returns : goal.returns
returns c = λ uris sees uri.
    btree_set_updates_text (string_bytes c.args.uri) c.args.self.now.uris _ true c.in_ok-insert.ensures.updates uri
    ∙ among_more uris (string_bytes c.args.uri) uri _ (sees uri)
