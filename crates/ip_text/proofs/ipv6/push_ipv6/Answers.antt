use Rattle.std.proofs.Common.{◌≡◌, ap, ◌∙◌}
use Rattle.std.specs.Int.{w128, to_be_bytes}
use Rattle.std.specs.Net.Addr.{IsIpv6OfBits, ipv6_segments, segments_of}
use Rattle.ip_text.proofs.ipv6.push_ipv6.Goals as goal

pub returns : goal.returns
unfolding IsIpv6OfBits
returns c =
    let shown = c.hex_groups-groups.ensures in
    let bits : c.from_bits.result.segments ≡ segments_of (to_be_bytes w128 c.args.address) = c.from_bits.ensures in
    let e = ap ipv6_segments shown ∙ bits in
    rw e at c.write.ensures.bytes
