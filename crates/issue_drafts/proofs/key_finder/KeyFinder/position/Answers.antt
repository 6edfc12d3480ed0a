use Rattle.std.proofs.Common.{sym, subst}
use Rattle.key_roll.specs.declared.work.KeyName.{KeyName}
use Rattle.issue_drafts.specs.WorkKeys.{IsPosition}
use Rattle.issue_drafts.proofs.NamedKeys.{live-position, fresh-is}
use Rattle.issue_drafts.proofs.key_finder.KeyFinder.position.Goals as goal

pub returns-in-Live : goal.returns-in-Live
returns-in-Live c = λ keys finds.
    subst (λ (name : KeyName). IsPosition keys name c.first.result) (sym c.in-Live.is)
    (live-position keys c.args.self.now c.in-Live.id c.first.result finds c.first.ensures)

pub returns-in-Fresh : goal.returns-in-Fresh
returns-in-Fresh c = λ keys finds.
    subst (λ (name : KeyName). IsPosition keys name c.fresh_position.result) (sym c.in-Fresh.is)
    (fresh-is keys c.args.self.now c.in-Fresh.desk c.fresh_position.result finds c.fresh_position.ensures)
