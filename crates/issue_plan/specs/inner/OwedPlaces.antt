-- Where the ROAs of owed origins are wanted, and where they stand.
use Rattle.std.specs.Prelude.{◌≡◌, ℕ, ◌<◌, List, map, length, get_or, slice_get, IfSome, string_bytes}
use Rattle.std.specs.Prelude.{Bool, true, false, ◌==◌, ◌&&◌, Option, None, Some, option_map, option_and_then}
use Rattle.std.specs.Option.{option_map_or}
use Rattle.origins.specs.declared.Origin.{Origin}
use Rattle.key_roll.specs.declared.issued.What.TheVariants.{Route}
use Rattle.issue_plan.specs.Serves.{is_same_origin, serves_roa}
use Rattle.authority_book.specs.declared.rows.NameRow.{NameRow}
use Rattle.entitle.specs.declared.trees.Owed.{Owed}
use Rattle.key_ids.specs.Uris.{Bases, folder_of, file_uri}
use Rattle.key_roll.specs.declared.issued.IssuedRow.{IssuedRow}
use Rattle.key_roll.specs.declared.work.KeyName.{KeyName}
use Rattle.key_roll.specs.declared.work.RoaWork.{RoaWork}
use Rattle.issue_plan.specs.declared.anew.Standing.{Standing}
use Rattle.issue_plan.specs.declared.owed_places.Folder.{Folder}
use Rattle.issue_plan.specs.declared.keys.NextKey.{NextKey}
use Rattle.issue_plan.specs.declared.live.LiveKey.{LiveKey}
use Rattle.issue_plan.specs.declared.roas.Issuer.{Issuer}
use Rattle.issue_plan.specs.Uris.{roa_file}
use Rattle.issue_plan.specs.Wanted.{current_of, roa_of}
use Rattle.issue_plan.specs.inner.Anew.{kept_roa}
use Rattle.issue_plan.specs.inner.Live.{live_at}
use Rattle.issue_plan.specs.inner.Positions.{position_in}

-- The folder of a desk's authority.
abbrev pub folder_at : Bases → List NameRow → ℕ → Option (List ℕ)
folder_at site names desk = option_map (λ row. folder_of site row.name) (slice_get names desk)

abbrev pub IsFolder : Standing → Folder → Type 0
IsFolder s folder = IfSome folder.uri (λ uri.
    folder_at s.site.now s.names.now folder.desk ≡ Some (string_bytes uri))

-- The place of an owed origin's ROA, if its authority has a name.
abbrev pub owed_place : Bases → List NameRow → Owed → Option (List ℕ)
owed_place site names owed =
    option_map (λ row. file_uri site row.name (roa_file owed.origin)) (slice_get names owed.desk)

-- Whether the origin at that index is the desk's one.
abbrev pub is_that : List Owed → ℕ → ℕ → Origin → Bool
is_that owed index desk origin =
    option_map_or (λ each. (each.desk == desk) && is_same_origin each.origin origin)
    (slice_get owed index) false

-- A row of a ROA stands at the place of its origin, where that is the desk's.
abbrev pub IsPlaceIn : Standing → ℕ → IssuedRow → Type 0
IsPlaceIn s desk row = (origin : Origin) → row.what ≡ Route origin
    → owed_place s.site.now s.names.now (record { desk = desk; origin = origin }) ≡ Some row.uri

-- The position of what stands there.
abbrev pub owed_position : Standing → Owed → Option ℕ
owed_position s owed =
    option_and_then (position_in s.issued.now) (owed_place s.site.now s.names.now owed)

abbrev pub owed_positions : Standing → List Owed → List (Option ℕ)
owed_positions s owed = map (owed_position s) owed

-- Who issues the ROAs of a desk: its current key, and the settled key that this is.
pub record IsIssuer (keys : List NextKey) (settled : List LiveKey) (issuer : Issuer) : Type 0 where
  pub name : issuer.name ≡ current_of keys issuer.desk
  pub key : option_map (λ key. key.now) issuer.key ≡ option_and_then (live_at settled) issuer.name

-- What is noted of an owed origin is the position of what stands at its place.
abbrev pub IsNoted : Standing → Owed → Option ℕ → Type 0
IsNoted s owed noted = (position : ℕ) → noted ≡ Some position → owed_position s owed ≡ Some position

-- The same of each owed origin.
pub record AreNoted (s : Standing) (owed : List Owed) (noted : List (Option ℕ)) : Type 0 where
  pub long : length noted ≡ length owed
  pub each : (i : ℕ) (d : Owed) → i < length owed → IsNoted s (get_or owed i d) (get_or noted i None)

-- A row serves for the ROA that is wanted of an owed origin, which its own desk's settled key issues.
pub record IsServing (moment : ℕ) (issuer : Issuer) (owed : Owed) (row : IssuedRow) : Type 0 where
  pub name : KeyName
  pub named : issuer.name ≡ Some name
  pub key : LiveKey
  pub settled : option_map (λ key. key.now) issuer.key ≡ Some key
  pub desk : key.desk ≡ owed.desk
  pub serves : serves_roa moment (record { issuer = name; origin = owed.origin }) row ≡ true

-- What stands at an owed origin's place fits the ROA that is wanted of it.
pub record IsStaying (s : Standing) (keys : List NextKey) (settled : List LiveKey) (owed : Owed)
    : Type 0 where
  pub roa : RoaWork
  pub wanted : roa_of keys owed ≡ Some roa
  pub position : ℕ
  pub at : owed_position s owed ≡ Some position
  pub kept : kept_roa s settled roa ≡ Some position

-- This is known of the owed origins with a mark.
pub record AreStaying (s : Standing) (keys : List NextKey) (settled : List LiveKey)
    (owed : List Owed) (stay : List Bool) : Type 0 where
  pub long : length stay ≡ length owed
  pub each : (i : ℕ) (d : Owed) → i < length owed → get_or stay i false ≡ true
      → IsStaying s keys settled (get_or owed i d)
