-- The names of a tree.
use Rattle.std.specs.Prelude.{◌≡◌, ◌≢◌, List, Some, AllPairs, slice_get, codes}
use Rattle.authority_book.specs.declared.rows.NameRow.{NameRow}

-- The trust anchor's comes first, with signer 0, and no two names are the same.
pub record AreTree (names : List NameRow) : Type 0 where
  pub anchor : slice_get names 0 ≡ Some (record { name = codes "ta"; signer = 0 })
  pub apart : AllPairs (λ a b. a.name ≢ b.name) names
