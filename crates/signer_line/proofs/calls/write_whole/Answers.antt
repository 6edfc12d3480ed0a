use Rattle.std.proofs.Common.{rules, ◌∙◌, arith, length-drop}
use Rattle.signer_line.proofs.LineLemmas.{sent_part}
use Rattle.signer_line.proofs.calls.write_whole.Goals as goal

pub pieces-preserved : goal.pieces-preserved
pieces-preserved g c = record {
  within = omega (arith, c.in_ok-at.ensures.piece, length-drop c.pieces.at c.args.bytes.now, c.pieces.invariant.within);
  sent = sent_part _ _ _ c.args.bytes.now c.pieces.at c.in_ok-at.field-0 (search (rules, arith)) c.pieces.invariant.sent c.in_ok-at.ensures.bytes;
  counted = c.in_ok-at.ensures.ok ∙ c.pieces.invariant.counted;
}
