use Rattle.std.proofs.Common.{◌≡◌, ◌∙◌, sym, ap, subst}
use Rattle.notice_board.specs.declared.sheets.Sheet.{Sheet}
use Rattle.editions.specs.Sheets.{sheet_of}
use Rattle.press_core.specs.Press.{PressValue}
use Rattle.krill_top.specs.inner.Instances.{IsInState}
use Rattle.krill_top.proofs.instance.Instance.open.Goals as goal

pub invariant_of-result : goal.invariant_of-result
invariant_of-result g c =
    let press = c.args.press in
    let sheet : sheet_of press.press.at ≡ c.in-Ok.sheet = sym (c.in-Ok.ensures ∙ ap (λ (p : PressValue). sheet_of p.at) c.press-pressed.ensures.press) in
    record {
      state = c.requires.stands.0;
      stands = subst (λ (s : Sheet). IsInState g.O.Outlet (record { desks = c.args.desks; press = press.press; journal = press.journal; sheet = s; signers = c.args.signers; outlet = c.args.outlet }) c.requires.stands.0) sheet c.requires.stands.1;
    }

pub returns-clause-opened : goal.returns-clause-opened
returns-clause-opened g c state stands =
    let press = c.args.press in
    let sheet : sheet_of press.press.at ≡ c.in-Ok.sheet = sym (c.in-Ok.ensures ∙ ap (λ (p : PressValue). sheet_of p.at) c.press-pressed.ensures.press) in
    subst (λ (s : Sheet). IsInState g.O.Outlet (record { desks = c.args.desks; press = press.press; journal = press.journal; sheet = s; signers = c.args.signers; outlet = c.args.outlet }) state) sheet stands
