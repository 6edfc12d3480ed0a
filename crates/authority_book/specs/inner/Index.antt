-- What an `OriginList` keeps beside its list, so that look-ups are quick.
use Rattle.std.specs.Prelude.{◌≡◌, List}
use Rattle.std.specs.List.Sorted.{IsSorted}
use Rattle.origins.specs.declared.Origin.{Origin}
use Rattle.authority_book.specs.Origins.{origin_cmp, is_there, first_repeated}
use Rattle.authority_book.specs.declared.origin_lists.Index.{Index}

-- The index has the members of the list in order, and the first that stands earlier in the list.
pub record IsIndexed (items : List Origin) (index : Index) : Type 0 where
  pub sorted : IsSorted origin_cmp index.sorted.items
  pub members : (origin : Origin) → is_there index.sorted.items origin ≡ is_there items origin
  pub first : index.repeated ≡ first_repeated items
