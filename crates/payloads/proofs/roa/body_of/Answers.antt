use Rattle.std.proofs.Common.{◌≡◌, ℕ, List, None, Ok, map, sym, ap, ◌∙◌}
use Rattle.payloads.specs.declared.values.RoaEntry.{RoaEntry}
use Rattle.payloads.specs.Order.{first_unordered}
use Rattle.payloads.specs.Outcome.{value_or}
use Rattle.payloads.specs.RoaFormats.{Entry, entry_view, placed_view, is_below}
use Rattle.payloads.specs.RoaReading.{roa_value}
use Rattle.payloads.proofs.Lists.{unplaced}
use Rattle.payloads.proofs.roa.body_of.Goals as goal

pub returns-in_ok-entries-in-None : goal.returns-in_ok-entries-in-None
returns-in_ok-entries-in-None c =
    let items = c.args.placed.items in
    let rising : first_unordered is_below (map placed_view items) ≡ None =
    sym (c.first_unordered.ensures ∙ ap (λ (l : List (ℕ × RoaEntry)). first_unordered is_below (map placed_view l)) c.deref.ensures.value) ∙ c.in-None.is in
    ap (value_or (roa_value (c.args.asn, map placed_view items))) rising
    ∙ ap (λ (l : List Entry). Ok (c.args.asn, l)) (unplaced entry_view items ∙ ap (map entry_view) (sym c.in_ok-entries-in-None.ensures))
