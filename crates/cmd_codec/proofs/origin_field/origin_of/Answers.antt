use Rattle.std.proofs.Common.{◌∙◌, ap, take, List, ℕ}
use Rattle.std.proofs.lemmas.List.{take_rest}
use Rattle.cmd_codec.proofs.OriginField.{read_origin, no_family}
use Rattle.cmd_codec.proofs.origin_field.origin_of.Goals as goal

pub returns-in_err-v6 : goal.returns-in_err-v6
returns-in_err-v6 c = rw c.from_residual.ensures (no_family c.args.field.now c.in_err-v6.ensures)

pub returns : goal.returns
returns c =
    read_origin c.args.field.now c.in_ok-v6.v6 c.wide_number_at-address.result c.number_of-asn.result c.origin_with.result c.requires c.in_ok-v6.ensures.0 c.in_ok-v6.ensures.1
    c.wide_number_at-address.ensures.value c.wide_number_at-address.ensures.bytes
    (c.number_of-asn.ensures.bytes ∙ ap (λ (b : List ℕ). take 4 b) (take_rest c.args.field.now 19)) c.origin_with.ensures
