-- What the formats see of what is read (RFC 3779 sections 2.2 and 3.2).
use Rattle.std.specs.Prelude.{ℕ, ◌≡◌, Option, Some, None, IfSome, List, [], map, if◌then◌else◌}
use Rattle.std.specs.Option.{option_map}
use Rattle.res_sets.specs.Sets.{RangeSet}
use Rattle.res_sets.specs.declared.numbers.Family.{Family}
use Rattle.res_ext.specs.declared.values.IpRead.{IpRead}
use Rattle.res_ext.specs.declared.values.AsRead.{AsRead}
use Rattle.res_ext.specs.Formats.{span_of}

abbrev pub set_view : RangeSet → List (ℕ × ℕ)
set_view set = map span_of set.ranges

abbrev pub choice_view : Option RangeSet → Option (List (ℕ × ℕ))
choice_view o = option_map set_view o

abbrev pub as_view : AsRead → Option (List (ℕ × ℕ))
as_view read = if read.inherit then None else Some (set_view read.asn)

abbrev pub ip_view : IpRead → Option (List (ℕ × ℕ) × List (ℕ × ℕ))
ip_view read = if read.inherit then None else Some (set_view read.v4, set_view read.v6)

-- What stands for a family is a set of it.
abbrev pub IsOf : Family → Option (Option RangeSet) → Type 0
IsOf family found = IfSome found (λ o. IfSome o (λ set. set.family ≡ family))

-- The set that stands there, or the empty one where nothing does; none where it is the issuer's.
abbrev pub listed_of : Option (Option (List (ℕ × ℕ))) → Option (List (ℕ × ℕ))
listed_of None = Some []
listed_of (Some o) = o
