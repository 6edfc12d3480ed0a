use Rattle.std.proofs.Common.{List, length, sym, ap, subst, ◌∙◌}
use Rattle.signer_api.specs.State.{SignerState}
use Rattle.press_core.specs.Resuming.{IsAudited}
use Rattle.test_histories.proofs.PressOpening.{if_ok_so, opened_by}
use Rattle.test_histories.proofs.press.open_press.Goals as goal

pub go_on-requires-clause-audited : goal.go_on-requires-clause-audited
go_on-requires-clause-audited c =
    subst (λ (s : List SignerState). IsAudited c.in_ok-loaded.loaded s c.in_ok-audited.audited) (sym c.in_ok-audited.ensures.same) c.in_ok-audited.ensures.audited

pub returns-clause-opened : goal.returns-clause-opened
returns-clause-opened c =
    let was = c.in_ok-loaded.ensures in
    let seen = c.in_ok-audited.ensures in
    if_ok_so c.go_on.result _ _ c.go_on.ensures (λ press so. (
      was.found.1.0,
      opened_by c.args.desks.now _ was.found.0 c.args.site.now was.found.1.0 c.in_ok-loaded.loaded so.0 c.audit_loaded.new.ring press c.requires.all
          was.found.1.1 was.order was.known seen.signers (ap length seen.same ∙ c.requires.signers) so.1 so.2,
    ))

pub returns-clause-site : goal.returns-clause-site
returns-clause-site c = if_ok_so c.go_on.result _ _ c.go_on.ensures (λ press so. so.2.site ∙ c.in_ok-loaded.ensures.site)
