-- The order of origins. Prefixes stand as RFC 9582 section 4.3.3 has them.
use Rattle.std.specs.Ordering.{nat_cmp, bool_cmp, then_cmp, on}
use Rattle.std.specs.declared.cmp.Ordering.{Ordering}
use Rattle.origins.specs.declared.Prefix.{Prefix}
use Rattle.origins.specs.declared.Origin.{Origin}

-- Prefixes by family, IPv4 first, then by address, then by length.
abbrev pub prefix_cmp : Prefix → Prefix → Ordering
prefix_cmp = then_cmp (on (λ p. p.v6) bool_cmp) (then_cmp (on (λ p. p.address) nat_cmp) (on (λ p. p.length) nat_cmp))

-- Origins by prefix, then by maximum length, then by AS number.
unfoldable pub origin_cmp : Origin → Origin → Ordering
origin_cmp = then_cmp (on (λ o. o.prefix) prefix_cmp) (then_cmp (on (λ o. o.max) nat_cmp) (on (λ o. o.asn) nat_cmp))
