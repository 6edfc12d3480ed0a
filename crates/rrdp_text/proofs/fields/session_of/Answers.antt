use Rattle.std.proofs.Common.{sym, ◌∙◌, ap}
use Rattle.uuid.specs.Text.{hyphenated_text, lower}
use Rattle.rrdp_text.proofs.Values.{session_none, session_other, session_parsed}
use Rattle.rrdp_text.proofs.fields.session_of.Goals as goal

pub returns-in_err-session : goal.returns-in_err-session
returns-in_err-session c =
    c.from_residual.ensures ∙ sym (session_none c.args.text.now c.parse_str.result (sym c.ok.ensures.value ∙ c.in_err-session.was) (rw c.text_of.ensures at c.parse_str.ensures.ok))

pub returns-else-eq : goal.returns-else-eq
returns-else-eq c =
    let parsed = session_parsed c.args.text.now c.in_ok-session.session c.parse_str.result (sym c.ok.ensures.value ∙ c.in_ok-session.was) (rw c.text_of.ensures at c.parse_str.ensures.bytes) in
    let spelled = c.as_bytes.ensures.value ∙ c.encode_lower.ensures.text ∙ ap (hyphenated_text lower) c.hyphenated.ensures in
    sym (session_other c.args.text.now c.in_ok-session.session c.as_bytes.result.now parsed spelled (sym c.eq.ensures ∙ c.if-eq.false))
