use Rattle.std.proofs.Common.{◌≡◌, arith, codes, length}
use Rattle.rrdp_text.specs.Texts.{head, opening}
use Rattle.rrdp_text.proofs.Lengths.{delta_long}
use Rattle.rrdp_text.proofs.sizes.delta_len.Goals as goal

pub returns : goal.returns
unfolding head
returns c =
    let first : c.opening_len.result ≡ length (opening (codes "delta") c.args.session.now c.args.serial) = c.opening_len.ensures.long in
    let lines = c.changes_len.ensures.long in
    let whole = delta_long c.args.session.now c.args.serial c.args.changes.now in
    omega (arith, first, lines, whole)
