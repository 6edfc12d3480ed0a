use Rattle.issue_sign.proofs.Ends.{made-on}
use Rattle.issue_sign.proofs.signing.sign_drafts.Goals as goal

pub returns-clause-made : goal.returns-clause-made
returns-clause-made g c =
    made-on c.finish_all.result (λ x. x.items) c.args.sign_input.now c.args.drafts.now c.args.serials.now c.in_ok-halves.halves.items c.args.ring.now
    c.sign_firsts.new.ring
    c.finish_all.new.ring c.in_ok-halves.ensures.halves c.finish_all.ensures.made
