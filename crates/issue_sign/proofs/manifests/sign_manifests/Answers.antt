use Rattle.issue_sign.proofs.Ends.{manifests-on, manifests-stopped}
use Rattle.issue_sign.proofs.manifests.sign_manifests.Goals as goal

pub returns-clause-made : goal.returns-clause-made
returns-clause-made g c =
    manifests-on c.finish_all.result (λ x. x.items) c.args.sign_input.now c.args.manifests.now c.args.next.now c.args.files.items
    c.in_ok-halves.halves.items c.args.ring.now
    c.sign_contents.new.ring c.finish_all.new.ring c.in_ok-halves.ensures.contents c.finish_all.ensures.made

pub returns-clause-stopped : goal.returns-clause-stopped
returns-clause-stopped g c =
    manifests-stopped c.finish_all.result c.args.sign_input.now c.args.manifests.now c.args.next.now c.args.files.items c.in_ok-halves.halves.items c.args.ring.now
    c.sign_contents.new.ring c.finish_all.new.ring c.in_ok-halves.ensures.contents c.finish_all.ensures.stopped
