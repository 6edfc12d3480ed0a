-- Whether what stands fits what is wanted, so that it stays as it is.
--
-- An object also tells URIs: where its issuer's certificate stands, where its issuer's CRL does,
-- and where its subject publishes. The last two follow from the two keys and the site, since a key
-- is one authority's as long as it lives. The first one is right where the issuer is settled.
use Rattle.std.specs.Prelude.{ℕ, ◌==◌, Bool, false, ◌&&◌, ◌||◌, not, List, []}
use Rattle.std.specs.Prelude.{filter, find, slice_get, if◌then◌else◌}
use Rattle.std.specs.Prelude.{Option, None, Some, option_map, option_and_then}
use Rattle.std.specs.Option.{option_map_or}
use Rattle.std.specs.List.{list_any, list_all}
use Rattle.std.specs.Str.{bytes_eq}
use Rattle.origins.specs.declared.Origin.{Origin}
use Rattle.pub_set.specs.Objects.{found_at}
use Rattle.entitle.specs.Certified.{names_of}
use Rattle.key_ids.specs.declared.identifier.KeyId.{KeyId}
use Rattle.authority_book.specs.declared.rows.NameRow.{NameRow}
use Rattle.key_ids.specs.Uris.{Bases, anchor_uri, file_uri, cert_uri, crl_uri, manifest_uri}
use Rattle.key_roll.specs.declared.rows.KeyRow.{KeyRow}
use Rattle.key_roll.specs.declared.issued.IssuedRow.{IssuedRow}
use Rattle.key_roll.specs.declared.work.KeyName.{KeyName}
use Rattle.key_roll.specs.declared.work.KeyName.TheVariants.{Live, Fresh}
use Rattle.key_roll.specs.declared.work.CertWork.{CertWork}
use Rattle.key_roll.specs.declared.work.RoaWork.{RoaWork}
use Rattle.issue_plan.specs.Keys.{id_of, is_live, next_keys}
use Rattle.issue_plan.specs.Uris.{roa_file}
use Rattle.issue_plan.specs.Wanted.{PlanInput, Wanted, Certificate, Roa, Point}
use Rattle.issue_plan.specs.Wanted.{wanted_certificates, wanted_roas}
use Rattle.issue_plan.specs.Serves.{is_for, is_point, serves_certificate, serves_roa, serves_point}

-- ---- places

-- The key of that name, which was live before the edition. One that the edition makes wasn't.
abbrev pub live_row : List KeyRow → KeyName → Option KeyRow
live_row rows (Live id) = find (λ row. bytes_eq (id_of row).bytes id.bytes) rows
live_row rows (Fresh desk) = None

-- The name of a desk's authority.
abbrev pub name_at : List NameRow → ℕ → List ℕ
name_at names desk = option_map_or (λ row. row.name) (slice_get names desk) []

-- Where a certificate is wanted: in the folder of its issuer's authority, and at a place of its own
-- where the trust anchor's key is both issuer and subject.
abbrev pub certificate_place_by : Bases → List NameRow → ℕ → KeyId → KeyId → List ℕ
certificate_place_by site names desk issuer subject =
    if bytes_eq issuer.bytes subject.bytes then anchor_uri site
    else cert_uri site (name_at names desk) subject.bytes

-- The others are wanted in the folder of their key's authority.
abbrev pub roa_place_by : Bases → List NameRow → ℕ → Origin → List ℕ
roa_place_by site names desk origin = file_uri site (name_at names desk) (roa_file origin)

abbrev pub crl_place_by : Bases → List NameRow → ℕ → KeyId → List ℕ
crl_place_by site names desk key = crl_uri site (name_at names desk) key.bytes

abbrev pub manifest_place_by : Bases → List NameRow → ℕ → KeyId → List ℕ
manifest_place_by site names desk key = manifest_uri site (name_at names desk) key.bytes

-- The place of a certificate or a ROA whose keys were live before the edition, its issuer among
-- these. No other can stand yet.
abbrev pub certificate_place : PlanInput → List KeyRow → CertWork → Option (List ℕ)
certificate_place plan_input issuers cert =
    option_and_then (λ issuer. option_map (λ subject.
    certificate_place_by plan_input.site (names_of plan_input.basis.configs) issuer.desk
    (id_of issuer) (id_of subject))
    (live_row plan_input.basis.rows cert.subject)) (live_row issuers cert.issuer)

abbrev pub roa_place : PlanInput → List KeyRow → RoaWork → Option (List ℕ)
roa_place plan_input issuers roa =
    option_map (λ issuer.
    roa_place_by plan_input.site (names_of plan_input.basis.configs) issuer.desk roa.origin)
    (live_row issuers roa.issuer)

abbrev pub crl_place : PlanInput → KeyRow → List ℕ
crl_place plan_input key =
    crl_place_by plan_input.site (names_of plan_input.basis.configs) key.desk (id_of key)

abbrev pub manifest_place : PlanInput → KeyRow → List ℕ
manifest_place plan_input key =
    manifest_place_by plan_input.site (names_of plan_input.basis.configs) key.desk (id_of key)

-- ---- what stands at a place

abbrev pub row_at : List IssuedRow → List ℕ → Option IssuedRow
row_at issued uri = found_at (λ row. row.uri) (λ row. row) issued uri

-- Whether something that serves stands at the place.
abbrev pub serves_at : PlanInput → (IssuedRow → Bool) → Option (List ℕ) → Bool
serves_at plan_input serves place =
    option_map_or serves (option_and_then (row_at plan_input.issued) place) false

-- Whether the first certificate of the key that stands is the one at the place.
abbrev pub stands_first : List IssuedRow → KeyName → List ℕ → Bool
stands_first issued key uri =
    option_map_or (λ row. bytes_eq row.uri uri) (find (λ row. is_for key row.what) issued) false

-- ---- all that is wanted

abbrev pub all_certificates : PlanInput → List CertWork
all_certificates plan_input =
    wanted_certificates plan_input.basis.configs plan_input.basis.sets (next_keys plan_input.basis)

abbrev pub all_roas : PlanInput → List RoaWork
all_roas plan_input = wanted_roas (next_keys plan_input.basis) plan_input.owed

-- ---- keys that are settled

-- Where the certificate of a live key is wanted.
abbrev pub home_of : PlanInput → KeyRow → Option (List ℕ)
home_of plan_input key =
    option_and_then (certificate_place plan_input plan_input.basis.rows)
    (find (λ cert. is_live (id_of key) cert.subject) (all_certificates plan_input))

-- A key is settled where its certificate stands at the place where it is wanted, and is the first
-- one of the key. It isn't where its authority has another parent than before, so that its
-- certificate moves. The trust anchor's keys always are.
abbrev pub is_settled : PlanInput → KeyRow → Bool
is_settled plan_input key =
    (key.desk == 0)
    || option_map_or (stands_first plan_input.issued (Live (id_of key))) (home_of plan_input key)
    false

abbrev pub settled : PlanInput → List KeyRow
settled plan_input = filter (is_settled plan_input) plan_input.basis.rows

-- ---- certificates and ROAs

-- An object fits only where the key that is to issue it is settled.
abbrev pub place_of_certificate : PlanInput → CertWork → Option (List ℕ)
place_of_certificate plan_input cert = certificate_place plan_input (settled plan_input) cert

abbrev pub place_of_roa : PlanInput → RoaWork → Option (List ℕ)
place_of_roa plan_input roa = roa_place plan_input (settled plan_input) roa

-- The wanted certificate stands, by the key that is to issue it, for the same key with the same
-- resources, is the first one of that key, and has more than four weeks left.
abbrev pub fits_certificate : PlanInput → CertWork → Bool
fits_certificate plan_input cert =
    serves_at plan_input (λ row. serves_certificate plan_input.basis.moment cert row
    && stands_first plan_input.issued cert.subject row.uri) (place_of_certificate plan_input cert)

-- The wanted ROA stands, by the key that is to issue it, for the same origin, and has more than
-- four weeks left.
abbrev pub fits_roa : PlanInput → RoaWork → Bool
fits_roa plan_input roa =
    serves_at plan_input (serves_roa plan_input.basis.moment roa) (place_of_roa plan_input roa)

-- ---- points

abbrev pub is_place : Option (List ℕ) → List ℕ → Bool
is_place None uri = false
is_place (Some place) uri = bytes_eq place uri

-- Whether what stands at the URI stays, since it fits a certificate or a ROA that is wanted there.
abbrev pub stays_at : PlanInput → List ℕ → Bool
stays_at plan_input uri =
    list_any (λ cert. fits_certificate plan_input cert
    && is_place (place_of_certificate plan_input cert) uri) (all_certificates plan_input)
    || list_any (λ roa. fits_roa plan_input roa && is_place (place_of_roa plan_input roa) uri)
    (all_roas plan_input)

-- The other files of a key are the same before and after: what it issued stays, but for its CRL
-- and its manifest, and what it is to issue fits.
abbrev pub same_files : PlanInput → KeyRow → Bool
same_files plan_input key =
    list_all (λ row. not (bytes_eq row.issuer.bytes (id_of key).bytes) || is_point row.what
    || stays_at plan_input row.uri) plan_input.issued
    && list_all (λ cert. not (is_live (id_of key) cert.issuer) || fits_certificate plan_input cert)
    (all_certificates plan_input)
    && list_all (λ roa. not (is_live (id_of key) roa.issuer) || fits_roa plan_input roa)
    (all_roas plan_input)

-- The key has no CRL or manifest at another place.
abbrev pub is_in_place : KeyId → List ℕ → List ℕ → IssuedRow → Bool
is_in_place key crl manifest row =
    not (bytes_eq row.issuer.bytes key.bytes) || not (is_point row.what)
    || bytes_eq row.uri crl || bytes_eq row.uri manifest

abbrev pub has_one_point : List IssuedRow → KeyId → List ℕ → List ℕ → Bool
has_one_point issued key crl manifest = list_all (is_in_place key crl manifest) issued

-- A key's CRL and manifest stand, with more than eight hours left, and it has no others.
abbrev pub has_point : PlanInput → KeyRow → Bool
has_point plan_input key =
    has_one_point plan_input.issued (id_of key) (crl_place plan_input key)
    (manifest_place plan_input key)
    && serves_at plan_input (serves_point plan_input.basis.moment (Live (id_of key)))
    (Some (crl_place plan_input key))
    && serves_at plan_input (serves_point plan_input.basis.moment (Live (id_of key)))
    (Some (manifest_place plan_input key))

-- They list what they are to list, too. The trust anchor's are issued in each edition.
abbrev pub fits_point : PlanInput → KeyRow → Bool
fits_point plan_input key =
    not (key.desk == 0) && same_files plan_input key && has_point plan_input key

-- ---- the rule

abbrev pub fits : PlanInput → Wanted → Bool
fits plan_input (Certificate cert) = fits_certificate plan_input cert
fits plan_input (Roa roa) = fits_roa plan_input roa
fits plan_input (Point point) =
    option_map_or (fits_point plan_input) (live_row (settled plan_input) point.key) false

-- Those of some works that make something which doesn't stand already.
abbrev pub unfit : {X : Type 0} → PlanInput → (X → Wanted) → List X → List X
unfit plan_input object works = filter (λ work. not (fits plan_input (object work))) works
