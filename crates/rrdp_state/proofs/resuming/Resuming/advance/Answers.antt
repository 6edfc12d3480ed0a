use Rattle.std.proofs.Common.{length, ap, ◌∙◌}
use Rattle.rrdp_text.specs.Texts.{snapshot_text}
use Rattle.rrdp_state.specs.Kept.{Kept, advanced}
use Rattle.rrdp_state.proofs.Reopened.{told_by_next}
use Rattle.rrdp_state.proofs.resuming.Resuming.advance.Goals as goal

pub returns-clause-told : goal.returns-clause-told
returns-clause-told c = λ repository told older edition by follow same delta.
    told_by_next repository told older edition c.args.self.now _ c.args.next c.args.set.now by follow same delta
    (c.take_in.ensures
    ∙ ap (λ (k : Kept). advanced k c.args.next.serial (length (snapshot_text k.session c.args.next.serial c.args.set.now)) c.args.next.delta) c.self.view_is)
