use Rattle.std.proofs.Common.{◌∙◌, ap, [], ◌∷◌, ◌++◌, List, ℕ, refl, sym, subst, length}
use Rattle.json_api.specs.Reply.{accepted_spelling}
use Rattle.session_lines.specs.Keeping.{KeptValue}
use Rattle.session_lines.specs.Replies.{IsToldOr, IsCommandText}
use Rattle.session_lines.specs.Sessions.{state_of}
use Rattle.session_lines.proofs.Answering.{accepted_told, refused_told}
use Rattle.session_lines.proofs.handler.Handler.answer_command.Goals as goal

pub returns-in-Ok-clause-ok : goal.returns-in-Ok-clause-ok
returns-in-Ok-clause-ok g c =
    let text = accepted_spelling c.args.name.now c.in-Ok.count in (
      text,
      c.append_accepted.ensures ∙ ap (λ (l : List ℕ). l ++ text ++ 10 ∷ []) c.in_ok-reserve.ensures.items,
      accepted_told c.args.name.now c.args.command (length g.N.Names.named.signers) (state_of g.C.Clock c.args.self.now) c.command.new.pass c.command.ensures.rest
          c.in-Ok.count text c.in-Ok.ensures.accepted refl,
    )

pub returns-in-Err-clause-ok : goal.returns-in-Err-clause-ok
returns-in-Err-clause-ok g c =
    let said = c.append_command_fault.ensures in
    let before = state_of g.C.Clock c.args.self.now in
    let pass = c.command.new.pass in
    let in_doubt = c.leaves_command_in_doubt-in_doubt.result in (
      said.0,
      said.1 ∙ ap (λ (l : List ℕ). l ++ said.0 ++ 10 ∷ []) c.in_ok-reserve.ensures.items,
      subst (λ (k : KeptValue). IsToldOr (IsCommandText g.row.D.Denot c.args.name.now c.args.command (length g.N.Names.named.signers)) before said.0 in_doubt (record before { pass = pass; kept = k }))
          (sym c.keep_command.ensures)
          (refused_told c.args.name.now c.args.command (length g.N.Names.named.signers) before pass c.command.ensures.rest
          c.in-Err.fault said.0 in_doubt c.in-Err.ensures.refused said.2 c.leaves_command_in_doubt-in_doubt.ensures),
    )
