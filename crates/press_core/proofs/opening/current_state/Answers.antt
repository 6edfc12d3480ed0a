use Rattle.std.proofs.Common.{List, None, Some, refl, sym, subst}
use Rattle.std.specs.Prelude.{Option, IfSome}
use Rattle.std.proofs.lemmas.Result.{err_from_is_err_and}
use Rattle.key_ids.specs.Uris.{Bases}
use Rattle.key_roll.specs.declared.rows.KeyRow.{KeyRow}
use Rattle.editions.specs.declared.gathered.Gathered.{Gathered}
use Rattle.editions.specs.Clear.{IsClear}
use Rattle.editions.specs.PublishedState.{PublishedStateValue}
use Rattle.rp_rules.specs.Yield.{AuditedValue}
use Rattle.press_core.specs.declared.resume.ResumeFault.TheVariants as why
use Rattle.press_core.specs.Staged.{HasStages}
use Rattle.press_core.specs.inner.Resumed.{IsStateOf, IsFaultIf, AreAgreedAt}
use Rattle.press_core.proofs.opening.current_state.Goals as goal

short : (site : Bases) (rows : List KeyRow) (firsts : List Gathered) (audited : Option AuditedValue) → IsFaultIf site rows firsts audited why.Memory
short site rows firsts None = refl
short site rows firsts (Some audited) = tt

pub returns-in_err-state-clause-refused : goal.returns-in_err-state-clause-refused
returns-in_err-state-clause-refused c =
    let p = err_from_is_err_and c.from_residual.result c.from_residual.ensures.1 in
    rw (p.1, p.2) c.in_err-state.ensures.refused

pub returns-in_err-current-clause-refused : goal.returns-in_err-current-clause-refused
returns-in_err-current-clause-refused c =
    let p = err_from_is_err_and c.from_residual-in_err-current.result c.from_residual-in_err-current.ensures.1 in
    rw (p.1, p.2) (short c.args.site.now c.args.left.rows c.args.firsts.items c.args.audited)

pub returns-clause-state : goal.returns-clause-state
returns-clause-state c =
    subst (λ (at : PublishedStateValue). IsStateOf c.args.site.now c.args.left c.args.firsts.items at) (sym c.in_ok-current.ensures) c.in_ok-state.ensures.state

pub returns-clause-clear : goal.returns-clause-clear
returns-clause-clear c =
    subst (λ (at : PublishedStateValue). IsClear c.args.site.now at.rows at.issued) (sym c.in_ok-current.ensures) c.in_ok-state.ensures.clear

pub returns-clause-stages : goal.returns-clause-stages
returns-clause-stages c = subst (λ (at : PublishedStateValue). HasStages at) (sym c.in_ok-current.ensures) c.in_ok-state.ensures.stages

pub returns-clause-agreed : goal.returns-clause-agreed
returns-clause-agreed c =
    subst (λ (at : PublishedStateValue). IfSome c.args.audited (λ a. AreAgreedAt c.args.site.now a at)) (sym c.in_ok-current.ensures) c.in_ok-state.ensures.agreed
