use Rattle.std.proofs.Common.{sym, ◌∙◌}
use Rattle.std.specs.Net.Addr.{ipv6_bits, ipv6_segments}
use Rattle.ip_text.specs.Ipv6.{IsIpv6Text}
use Rattle.ip_text.specs.laws.Ipv6Laws.{to_colon_hex, from_colon_hex, eight_has_no_dot}
use Rattle.ip_text.proofs.Answers.{reads_none, err_side, ok_side}
use Rattle.ip_text.proofs.Dots.{no_dot_found, dot_found}
use Rattle.ip_text.proofs.ipv6.read_ipv6.Goals as goal

pub returns-then-contains : goal.returns-then-contains
returns-then-contains c = λ n is.
    dot_found c.args.text.now (sym c.contains.ensures.value ∙ c.if-contains.true) (eight_has_no_dot c.args.text.now is.groups is.spelled)

pub returns-in_err-address : goal.returns-in_err-address
returns-in_err-address c =
    reads_none _ (IsIpv6Text c.args.text.now) c.from_residual.ensures (λ n is.
    (err_side _ _ _ c.parse_ascii.ensures (sym c.ok.ensures.value ∙ c.in_err-address.was)).1 (record { segments = is.groups }) (to_colon_hex _ is.groups is.spelled))

pub returns : goal.returns
unfolding ipv6_bits
returns c =
    let read = ok_side _ _ _ _ c.parse_ascii.ensures (sym c.ok.ensures.value ∙ c.in_ok-address.was) in
    let no_dot = no_dot_found c.args.text.now (sym c.contains.ensures.value ∙ c.if-contains.false) in
    record {
      groups = ipv6_segments c.in_ok-address.address;
      spelled = from_colon_hex _ _ no_dot read;
      value = c.to_bits.ensures;
      fits = c.to_bits.type_inv;
    }
