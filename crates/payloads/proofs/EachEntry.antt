-- Entries that were made are sound.
use Rattle.std.proofs.Common.{List, [], ◌∷◌, map}
use Rattle.der.specs.Forms.{AreAll}
use Rattle.payloads.specs.declared.values.RoaEntry.{RoaEntry}
use Rattle.payloads.specs.RoaFormats.{IsEntry, entry_view}

pub all-entries : (items : List RoaEntry) → AreAll IsEntry (map entry_view items)
all-entries [] = tt
all-entries (e ∷ items) = (record { prefix = e.prefix.prefix; maximum = e.maximum }, all-entries items)
