-- What contracts see of an audit's origins and points.
use Rattle.std.specs.Prelude.{List, map, string_bytes}
use Rattle.payloads.specs.RoaFormats.{Entry}
use Rattle.origins.specs.declared.Origin.{Origin}
use Rattle.rp_rules.specs.declared.audited.YieldedOrigin.{YieldedOrigin}
use Rattle.rp_rules.specs.declared.audited.AuditedPoint.{AuditedPoint}
use Rattle.rp_rules.specs.Yield.{Yielded, PointValue}

abbrev pub entry_of : Origin → Entry
entry_of origin = record {
  v6 = origin.prefix.v6;
  address = origin.prefix.address;
  len = origin.prefix.length;
  max = origin.max;
}

abbrev pub yielded_value : YieldedOrigin → Yielded
yielded_value y = record {
  folder = string_bytes y.folder;
  asn = y.origin.asn;
  entry = entry_of y.origin;
}

abbrev pub point_value : AuditedPoint → PointValue
point_value p = record {
  key = p.key.bytes;
  number = p.number;
  this_update = p.this_update;
  manifest_update = p.manifest_update;
  greatest_serial = p.greatest_serial;
  crl = p.crl.items;
}

abbrev pub yielded_values : List YieldedOrigin → List Yielded
yielded_values origins = map yielded_value origins

abbrev pub point_values : List AuditedPoint → List PointValue
point_values points = map point_value points
