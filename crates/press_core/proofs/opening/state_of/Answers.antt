use Rattle.std.proofs.Common.{Option, subst}
use Rattle.std.proofs.lemmas.Result.{IfOk-weaker}
use Rattle.rp_rules.specs.Yield.{AuditedValue}
use Rattle.press_core.specs.Staged.{HasStages}
use Rattle.press_core.specs.inner.Resumed.{IsAuditIf, IsStateOf}
use Rattle.press_core.proofs.Resumed.{first-state, stages-of}
use Rattle.press_core.proofs.opening.state_of.Goals as goal

pub returns-in-Some-clause-stages : goal.returns-in-Some-clause-stages
returns-in-Some-clause-stages c =
    let site = c.args.site.now in
    let firsts = c.args.firsts.items in
    IfOk-weaker c.agreed_state.result (IsStateOf site c.args.left firsts) HasStages (λ at is. stages-of site c.args.left firsts at is c.requires.order) c.agreed_state.ensures.state

pub returns-in_ok-first-in-None-clause-state : goal.returns-in_ok-first-in-None-clause-state
returns-in_ok-first-in-None-clause-state c =
    first-state c.args.left c.args.firsts.items c.in_ok-first-in-None.field-0 c.in_ok-first-in-None.ensures c.args.site.now c.requires.order
    (subst (λ (audited : Option AuditedValue). IsAuditIf c.args.site.now c.args.left audited) c.in-None.is c.requires.audit) c.requires.firsts
