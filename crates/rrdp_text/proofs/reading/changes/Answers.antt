use Rattle.std.proofs.Common.{sym, ◌∙◌, ℕ, ◌≡◌, length, List, codes, arith, Bor}
use Rattle.pub_set.specs.Changes.{uri_of}
use Rattle.pub_set.specs.declared.steps.Change.{Change}
use Rattle.rrdp_text.specs.Template.{change_in}
use Rattle.rrdp_text.proofs.Lists.{more_list, bad_list, end_list, bad_end, no_turn, handed_on}
use Rattle.rrdp_text.proofs.reading.changes.Goals as goal

abbrev last : List ℕ
last = codes "</delta>\n"

pub returns-in_err-literal : goal.returns-in_err-literal
returns-in_err-literal c =
    handed_on (λ p. (p.0.items, p.1.now)) (λ (rest : Bor (List ℕ)). rest.now) c.in_err-literal.field-0.0 c.from_residual.result _ _ c.in_err-literal.ensures
    (λ left is. sym c.loop-turn.invariant.read ∙ bad_end change_in uri_of last c.loop-turn.previous.now c.loop-turn.rest.now c.loop-turn.changes.items left (length c.args.bytes.now) c.loop-turn._turn
    (omega arith) (sym c.begins.ensures ∙ c.if-not-begins.true) is)
    c.from_residual.ensures.1

pub returns-then-not-begins : goal.returns-then-not-begins
returns-then-not-begins c = sym c.loop-turn.invariant.read ∙ end_list change_in uri_of last c.loop-turn.previous.now c.loop-turn.rest.now c.in_ok-literal.field-0.now c.loop-turn.changes.items (length c.args.bytes.now) c.loop-turn._turn
    (omega arith) (sym c.begins.ensures ∙ c.if-not-begins.true) c.in_ok-literal.ensures

pub returns-in_err-change : goal.returns-in_err-change
returns-in_err-change c =
    handed_on (λ p. (p.0.items, p.1.now)) (λ (p : Change × Bor (List ℕ) × Bor (List ℕ)). (p.0, p.2.now)) c.in_err-change.field-0.0 c.from_residual-in_err-change.result _ _ c.in_err-change.ensures.read
    (λ left is. sym c.loop-turn.invariant.read ∙ bad_list change_in uri_of last c.loop-turn.previous.now c.loop-turn.rest.now c.loop-turn.changes.items left (length c.args.bytes.now) c.loop-turn._turn
    (omega arith) (sym c.begins.ensures ∙ c.if-not-begins.false) is)
    c.from_residual-in_err-change.ensures.1

pub loop-turn-preserved : goal.loop-turn-preserved
loop-turn-preserved c =
    let same : c.in_ok-change.uri.now ≡ uri_of c.in_ok-change.change = c.in_ok-change.ensures.uri in
    record {
      read = rw (c.in_ok-keep.ensures, same)
          (sym (more_list change_in uri_of last c.loop-turn.previous.now c.loop-turn.rest.now c.in_ok-change.more.now c.loop-turn.changes.items c.in_ok-change.change (length c.args.bytes.now) c.loop-turn._turn
          (omega arith) (sym c.begins.ensures ∙ c.if-not-begins.false) c.in_ok-change.ensures.read) ∙ c.loop-turn.invariant.read);
    }

pub returns : goal.returns
returns c = sym c.loop-turn.invariant.read ∙ no_turn change_in uri_of last c.loop-turn.previous.now c.loop-turn.rest.now c.loop-turn.changes.items (length c.args.bytes.now) c.loop-turn._turn (omega arith)
