use Rattle.std.proofs.Common.{◌≡◌}
use Rattle.std.specs.Int.{w32, to_be_bytes}
use Rattle.std.specs.Net.Addr.{IsIpv4OfBits}
use Rattle.ip_text.proofs.ipv4.push_ipv4.Goals as goal

pub returns : goal.returns
unfolding IsIpv4OfBits
returns c =
    let octets : c.from_bits-address.result.octets ≡ to_be_bytes w32 c.args.address = c.from_bits-address.ensures in
    rw octets at c.write.ensures.bytes
