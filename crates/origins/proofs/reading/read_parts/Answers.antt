use Rattle.ip_text.specs.Number.{IsAsNumberText}
use Rattle.origins.specs.Text.{IsPrefixText}
use Rattle.origins.proofs.Arounds.{to_around, same_around}
use Rattle.origins.proofs.reading.read_parts.Goals as goal

pub returns-in_err-prefix : goal.returns-in_err-prefix
returns-in_err-prefix c = rw c.from_residual.ensures (λ parts is.
    c.in_err-prefix.ensures is.prefix_text is.asn_text (to_around c.args.text.now parts is))

pub returns-in_err-read_prefix : goal.returns-in_err-read_prefix
returns-in_err-read_prefix c = rw c.from_residual-in_err-read_prefix.ensures (λ parts is.
    let around = same_around c.args.text.now _ _ _ _ (to_around c.args.text.now parts is) c.in_ok-prefix.ensures in
    let prefix : IsPrefixText c.in_ok-prefix.prefix.now parts.v6 parts.address parts.len parts.maximum = rw (← around.0) is.prefix_is in
    c.in_err-read_prefix.ensures _ _ _ _ prefix)

pub returns-in_err-read_as_number : goal.returns-in_err-read_as_number
returns-in_err-read_as_number c = rw c.from_residual-in_err-read_as_number.ensures (λ parts is.
    let around = same_around c.args.text.now _ _ _ _ (to_around c.args.text.now parts is) c.in_ok-prefix.ensures in
    let number : IsAsNumberText c.in_ok-prefix.asn.now parts.asn = rw (← around.1) is.asn_is in
    c.in_err-read_as_number.ensures _ number)
