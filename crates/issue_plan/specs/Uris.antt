-- Where an edition's wanted objects stand (RFC 6481 section 2). The place of an object that names
-- a key which is still to be made isn't known before, and nothing stands there.
use Rattle.std.specs.Prelude.{ℕ, ◌==◌, List, [], ◌∷◌, ◌++◌, map, filter, not, Bool, slice_get, Option, None, Some, codes, if◌then◌else◌}
use Rattle.std.specs.List.{flat_map, list_any}
use Rattle.std.specs.Str.{bytes_eq}
use Rattle.hex.specs.Hex.{encode_lower}
use Rattle.origins.specs.declared.Origin.{Origin}
use Rattle.origins.specs.Origin.{origin_text}
use Rattle.authority_book.specs.declared.rows.NameRow.{NameRow}
use Rattle.authority_book.specs.Settings.{Settings}
use Rattle.entitle.specs.declared.trees.Owed.{Owed}
use Rattle.entitle.specs.Certified.{names_of}
use Rattle.key_roll.specs.declared.issued.IssuedRow.{IssuedRow}
use Rattle.key_roll.specs.declared.work.KeyName.{KeyName}
use Rattle.key_roll.specs.declared.work.KeyName.TheVariants.{Live, Fresh}
use Rattle.key_ids.specs.Uris.{Bases, anchor_uri, file_uri, cert_uri, crl_uri, manifest_uri}
use Rattle.issue_plan.specs.declared.keys.NextKey.{NextKey}
use Rattle.issue_plan.specs.Wanted.{parent_of}

-- The certificate of an authority's key, in its parent's folder.
abbrev pub certificate_below : Bases → Option (List ℕ) → KeyName → List (List ℕ)
certificate_below site None key = []
certificate_below site (Some parent) (Live id) = cert_uri site parent id.bytes ∷ []
certificate_below site (Some parent) (Fresh desk) = []

-- The certificate of a key. The anchor's has a place of its own.
abbrev pub certificate_uris : Bases → List Settings → NextKey → List (List ℕ)
certificate_uris site configs key =
    if key.desk == 0 then anchor_uri site ∷ []
    else certificate_below site (parent_of (slice_get configs key.desk)) key.name

-- The CRL and the manifest of a key, in its authority's folder.
abbrev pub point_uris : Bases → Option NameRow → KeyName → List (List ℕ)
point_uris site None key = []
point_uris site (Some row) (Live id) =
    crl_uri site row.name id.bytes ∷ manifest_uri site row.name id.bytes ∷ []
point_uris site (Some row) (Fresh desk) = []

abbrev pub key_uris : Bases → List Settings → NextKey → List (List ℕ)
key_uris site configs key =
    certificate_uris site configs key
    ++ point_uris site (slice_get (names_of configs) key.desk) key.name

-- The file of an origin's ROA: its text in hex.
abbrev pub roa_file : Origin → List ℕ
roa_file origin = encode_lower (origin_text origin) ++ codes ".roa"

-- The ROA of an origin, in its authority's folder.
abbrev pub roa_uris : Bases → Origin → Option NameRow → List (List ℕ)
roa_uris site origin None = []
roa_uris site origin (Some row) = file_uri site row.name (roa_file origin) ∷ []

abbrev pub owed_uris : Bases → List Settings → Owed → List (List ℕ)
owed_uris site configs owed =
    roa_uris site owed.origin (slice_get (names_of configs) owed.desk)

-- All places that are wanted and known.
abbrev pub wanted_uris : Bases → List Settings → List NextKey → List Owed → List (List ℕ)
wanted_uris site configs keys owed =
    flat_map (key_uris site configs) keys ++ flat_map (owed_uris site configs) owed

-- Whether the URI is one of these.
abbrev pub is_among : List (List ℕ) → List ℕ → Bool
is_among uris uri = list_any (λ other. bytes_eq other uri) uris

-- The places of what stands and isn't wanted.
abbrev pub withdrawn : List (List ℕ) → List IssuedRow → List (List ℕ)
withdrawn wanted issued =
    map (λ row. row.uri) (filter (λ row. not (is_among wanted row.uri)) issued)
