use Rattle.std.proofs.Common.{sym, ◌∙◌, ℕ, ◌≡◌, length, List, codes, arith, Bor}
use Rattle.pub_set.specs.declared.objects.Object.{Object}
use Rattle.rrdp_text.specs.Template.{object_in}
use Rattle.rrdp_text.proofs.Lists.{more_list, bad_list, end_list, bad_end, no_turn, behind_more, handed_on, above_in}
use Rattle.rrdp_text.proofs.reading.objects.Goals as goal

abbrev uri_of : Object → List ℕ
uri_of o = o.uri

abbrev last : List ℕ
last = codes "</snapshot>\n"

pub returns-in_err-literal : goal.returns-in_err-literal
returns-in_err-literal c =
    handed_on (λ p. (p.0, p.1.now)) (λ (rest : Bor (List ℕ)). rest.now) c.in_err-literal.field-0.0 c.from_residual.result _ _ c.in_err-literal.ensures
    (λ left is. sym c.loop-turn.invariant.read ∙ bad_end object_in uri_of last c.loop-turn.previous.now c.loop-turn.rest.now c.loop-turn.set left (length c.args.bytes.now) c.loop-turn._turn
    (omega arith) (sym c.begins.ensures ∙ c.if-not-begins.true) is)
    c.from_residual.ensures.1

pub returns-then-not-begins : goal.returns-then-not-begins
returns-then-not-begins c = rw c.set.view_is (sym c.loop-turn.invariant.read ∙ end_list object_in uri_of last c.loop-turn.previous.now c.loop-turn.rest.now c.in_ok-literal.field-0.now c.loop-turn.set (length c.args.bytes.now) c.loop-turn._turn
    (omega arith) (sym c.begins.ensures ∙ c.if-not-begins.true) c.in_ok-literal.ensures)

pub returns-in_err-object : goal.returns-in_err-object
returns-in_err-object c =
    handed_on (λ p. (p.0, p.1.now)) (λ (p : Object × Bor (List ℕ) × Bor (List ℕ)). (p.0, p.2.now)) c.in_err-object.field-0.0 c.from_residual-in_err-object.result _ _ c.in_err-object.ensures.read
    (λ left is. sym c.loop-turn.invariant.read ∙ bad_list object_in uri_of last c.loop-turn.previous.now c.loop-turn.rest.now c.loop-turn.set left (length c.args.bytes.now) c.loop-turn._turn
    (omega arith) (sym c.begins.ensures ∙ c.if-not-begins.false) is)
    c.from_residual-in_err-object.ensures.1

pub push-requires : goal.push-requires
push-requires c = c.loop-turn.invariant.behind c.in_ok-object.object.uri (above_in c.loop-turn.previous.now c.loop-turn.rest.now c.in_ok-object.more.now c.in_ok-object.object c.in_ok-object.ensures.read)

pub loop-turn-preserved : goal.loop-turn-preserved
loop-turn-preserved c =
    let same : c.in_ok-object.uri.now ≡ c.in_ok-object.object.uri = c.in_ok-object.ensures.uri in
    let above = above_in c.loop-turn.previous.now c.loop-turn.rest.now c.in_ok-object.more.now c.in_ok-object.object c.in_ok-object.ensures.read in
    record {
      read = rw (c.in_ok-push.ensures.ok, same)
          (sym (more_list object_in uri_of last c.loop-turn.previous.now c.loop-turn.rest.now c.in_ok-object.more.now c.loop-turn.set c.in_ok-object.object (length c.args.bytes.now) c.loop-turn._turn
          (omega arith) (sym c.begins.ensures ∙ c.if-not-begins.false) c.in_ok-object.ensures.read) ∙ c.loop-turn.invariant.read);
      behind = rw (c.in_ok-push.ensures.ok, same) (behind_more c.loop-turn.set c.in_ok-object.object c.loop-turn.previous.now c.loop-turn.invariant.behind above);
    }

pub returns : goal.returns
returns c = sym c.loop-turn.invariant.read ∙ no_turn object_in uri_of last c.loop-turn.previous.now c.loop-turn.rest.now c.loop-turn.set (length c.args.bytes.now) c.loop-turn._turn (omega arith)
