-- What comes of what stands at a URI and of what comes there is at that URI.
use Rattle.std.specs.Prelude.{ℕ, List, Option, None, Some}
use Rattle.key_roll.specs.declared.issued.IssuedRow.{IssuedRow}
use Rattle.pub_set.specs.declared.objects.Object.{Object}
use Rattle.pub_set.specs.declared.steps.Change.{Change}
use Rattle.pub_set.specs.declared.steps.Change.TheVariants.{Put, Withdraw}
use Rattle.pub_set.specs.Changes.{uri_of}
use Rattle.editions.specs.Joining.{IsAt}
use Rattle.editions.specs.Standing.{object_after, next_uri, coming_row}

pub object_stays : (stands : Option Object) (comes : Option Change) (uri : List ℕ)
    → IsAt (λ object. object.uri) uri stands → IsAt uri_of uri comes
    → IsAt (λ object. object.uri) uri (object_after stands comes)
object_stays held None uri there comes = there
object_stays held (Some (Put at bytes replaces)) uri there comes = comes
object_stays held (Some (Withdraw at hash)) uri there comes = tt

pub coming_stays : (stands : Option IssuedRow) (comes : Option Change) (uri : List ℕ)
    → IsAt (λ row. row.uri) uri stands → IsAt uri_of uri comes
    → IsAt next_uri uri (coming_row stands comes)
coming_stays (Some issued) change uri there comes = there
coming_stays None None uri there comes = tt
coming_stays None (Some change) uri there comes = comes
