use Rattle.std.proofs.Common.{sym, ◌∙◌}
use Rattle.ip_text.specs.Ipv4.{IsIpv4Text}
use Rattle.ip_text.specs.laws.Ipv4Laws.{addr_of, to_dotted}
use Rattle.ip_text.proofs.Answers.{reads_none, err_side, ok_side}
use Rattle.ip_text.proofs.Dotted.{bits_of_dotted}
use Rattle.ip_text.proofs.ipv4.read_ipv4.Goals as goal

pub returns-in_err-address : goal.returns-in_err-address
returns-in_err-address c =
    reads_none _ (IsIpv4Text c.args.text.now) c.from_residual.ensures (λ n h.
    (err_side _ _ _ c.parse_ascii.ensures (sym c.ok.ensures.value ∙ c.in_err-address.was)).1 (addr_of n) (to_dotted _ n h))

pub returns : goal.returns
returns c =
    let read = ok_side _ _ _ _ c.parse_ascii.ensures (sym c.ok.ensures.value ∙ c.in_ok-address.was) in
    rw c.to_bits.ensures (bits_of_dotted _ c.in_ok-address.address read)
