-- What reading the body of a ROA answers (RFC 9582 section 4).
use Rattle.std.specs.Prelude.{ℕ, Option, List, map, Result}
use Rattle.der.specs.Object.{read_object}
use Rattle.payloads.specs.declared.fault.BodyFault.{BodyFault}
use Rattle.payloads.specs.declared.roa.RoaBody.{RoaBody}
use Rattle.payloads.specs.Order.{first_unordered}
use Rattle.payloads.specs.Outcome.{ordered}
use Rattle.payloads.specs.RoaFormats.{Entry, entry_view, placed_roa, is_below}

abbrev pub roa_view : RoaBody → ℕ × List Entry
roa_view body = (body.asn, map entry_view body.entries.items)

-- The value without the places, and the place of the first entry that isn't above the one before
-- it.
abbrev pub roa_value : ℕ × List (ℕ × Entry) → ℕ × List Entry
roa_value x = (x.0, map (λ y. y.1) x.1)

abbrev pub unordered_entry : ℕ × List (ℕ × Entry) → Option ℕ
unordered_entry x = first_unordered is_below x.1

-- The answer: the value where its entries rise, and else the place of the first that isn't above
-- the one before it.
unfoldable pub roa_read : List ℕ → Result (ℕ × List Entry) BodyFault
roa_read bytes = ordered roa_value unordered_entry (read_object placed_roa bytes)
