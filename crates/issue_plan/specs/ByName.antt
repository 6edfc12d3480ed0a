-- ROAs that stand at places of names (RFC 6481 section 2).
use Rattle.std.specs.Prelude.{◌≡◌, ℕ, List}
use Rattle.std.specs.List.{All}
use Rattle.names.specs.Name.{IsName}
use Rattle.origins.specs.declared.Origin.{Origin}
use Rattle.key_ids.specs.Uris.{Bases, file_uri}
use Rattle.key_roll.specs.declared.issued.IssuedRow.{IssuedRow}
use Rattle.key_roll.specs.declared.issued.What.TheVariants.{Route}
use Rattle.issue_plan.specs.Uris.{roa_file}

-- The URI of an origin's ROA in the folder of some name.
pub record IsRoaUri (site : Bases) (origin : Origin) (uri : List ℕ) : Type 0 where
  pub name : List ℕ
  pub is_name : IsName name
  pub is : uri ≡ file_uri site name (roa_file origin)

-- Each ROA stands at such a URI of its own origin. No key and no configuration is named: so it stays
-- true while names come and go and keys roll.
pub record StandByName (site : Bases) (issued : List IssuedRow) : Type 0 where
  pub roas : All (λ row. (origin : Origin) → row.what ≡ Route origin → IsRoaUri site origin row.uri)
      issued
