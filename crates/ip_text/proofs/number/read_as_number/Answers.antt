use Rattle.ip_text.specs.laws.NumberLaws.{saturated_text}
use Rattle.ip_text.specs.laws.AsNumberLaws.{number_follows}
use Rattle.ip_text.proofs.AsNumbers.{reads_as_number}
use Rattle.ip_text.proofs.number.read_as_number.Goals as goal

pub returns-in_err-number : goal.returns-in_err-number
returns-in_err-number c = rw c.from_residual.ensures (λ n is.
    c.in_err-number.ensures _ (saturated_text _ n (number_follows c.args.text.now _ n c.after_mark.ensures is)))

pub returns : goal.returns
returns c = rw c.ok.ensures.value (reads_as_number c.args.text.now _ _ c.try_from.result c.after_mark.ensures c.in_ok-number.ensures c.try_from.ensures)
