use Rattle.std.proofs.Common.{Vec, Global, Some, None, append-nil, sym, ap, ◌∙◌}
use Rattle.pub_set.specs.declared.steps.Change.{Change}
use Rattle.pub_set.specs.declared.steps.Change.TheVariants.{Withdraw}
use Rattle.issue_make.specs.inner.Putting.{withdrawal_by}
use Rattle.issue_make.proofs.Lists.{filtered-next}
use Rattle.issue_make.proofs.Wanted.{withdrawal-some, withdrawal-none}
use Rattle.issue_make.proofs.publishing.push_withdrawals.Goals.{in-Some+in_ok-copy+in_ok-push, in_default}
use Rattle.issue_make.proofs.publishing.push_withdrawals.Goals as goal

pub loop-uri-preserved : goal.loop-uri-preserved
loop-uri-preserved c =
    elim c.match-hash_at.branch [
      | in-Some+in_ok-copy+in_ok-push w ↦
          filtered-next (withdrawal_by c.args.standing.now) c.args.withdrawn.now c.loop-uri.uri-index c.uri-item.result
          c.args.changes.now.items c.loop-uri.changes.items c.match-hash_at.changes.items
          (Some (Withdraw w.in_ok-copy.field-0 w.in-Some.hash)) c.loop-uri-test.true c.loop-uri.invariant
          (ap (λ (v : Vec Change Global). v.items) w.changes-is ∙ w.in_ok-push.ensures.items)
          (withdrawal-some c.args.standing.now c.uri-item.result w.in_ok-copy.field-0 w.in-Some.hash c.hash_at.result
          w.in_ok-copy.ensures c.hash_at.ensures w.in-Some.is
          ∙ ap (withdrawal_by c.args.standing.now) c.uri-item.is)
      | in_default w ↦
          filtered-next (withdrawal_by c.args.standing.now) c.args.withdrawn.now c.loop-uri.uri-index c.uri-item.result
          c.args.changes.now.items c.loop-uri.changes.items c.match-hash_at.changes.items
          None c.loop-uri-test.true c.loop-uri.invariant
          (ap (λ (v : Vec Change Global). v.items) w.changes-is ∙ sym (append-nil c.loop-uri.changes.items))
          (withdrawal-none c.args.standing.now c.uri-item.result c.hash_at.result c.hash_at.ensures w.in_default.is
          ∙ ap (withdrawal_by c.args.standing.now) c.uri-item.is)
    ]
