-- When an object is to be issued again.
use Rattle.std.specs.Prelude.{ℕ, ◌+◌, Bool, nat_le}
use Rattle.key_roll.specs.declared.issued.IssuedRow.{IssuedRow}
use Rattle.key_roll.specs.declared.issued.What.{What}
use Rattle.key_roll.specs.declared.issued.What.TheVariants.{Authority, Route, Point}

-- How long before its end that is, in seconds: certificates and ROAs four weeks, CRLs and manifests
-- eight hours.
abbrev pub margin_of : What → ℕ
margin_of (Authority key held) = 2_419_200
margin_of (Route origin) = 2_419_200
margin_of Point = 28_800

-- What is left of its time at the moment is at most that.
abbrev pub is_due : ℕ → IssuedRow → Bool
is_due moment row = nat_le row.not_after (moment + margin_of row.what)
