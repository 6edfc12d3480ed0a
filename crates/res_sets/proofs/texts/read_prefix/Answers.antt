use Rattle.std.proofs.lemmas.Result.{err_from_is_err_and}
use Rattle.ip_text.specs.Number.{IsSaturatedText}
use Rattle.res_sets.specs.Texts.{Writes}
use Rattle.res_sets.proofs.Told.{prefix_told, untold, reads_some}
use Rattle.res_sets.proofs.texts.read_prefix.Goals as goal

pub returns-in_err-length : goal.returns-in_err-length
returns-in_err-length c =
    let p = err_from_is_err_and c.from_residual-in_err-length.result c.from_residual-in_err-length.ensures.1 in
    rw (p.1, p.2)
    (untold _ c.args.bits c.args.length.now c.read_saturating.result _ c.read_saturating.ensures c.in_err-length.ensures.value)

pub returns : goal.returns
returns c =
    let is = reads_some (Writes c.args.family c.args.address.now) c.read_number.result c.in_ok-address.address c.in_ok-address.ensures.ok_part c.read_number.ensures in
    let told = reads_some (IsSaturatedText c.args.length.now) c.read_saturating.result c.in_ok-length.length c.in_ok-length.ensures.ok_part c.read_saturating.ensures in
    prefix_told _ _ _ _ _ c.prefix_range.result c.requires.short is told c.prefix_range.ensures
