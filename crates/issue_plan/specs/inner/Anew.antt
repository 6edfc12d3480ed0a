-- What of the wanted objects stands already, by its position in the table.
use Rattle.std.specs.Prelude.{◌≡◌, ℕ, ◌==◌, Bool, false, not, ◌&&◌, ◌||◌, List, map, find}
use Rattle.std.specs.Prelude.{Option, option_map, option_and_then}
use Rattle.std.specs.Option.{option_map_or}
use Rattle.key_ids.specs.declared.identifier.KeyId.{KeyId}
use Rattle.entitle.specs.Certified.{names_of}
use Rattle.key_roll.specs.declared.issued.IssuedRow.{IssuedRow}
use Rattle.key_roll.specs.declared.work.CertWork.{CertWork}
use Rattle.key_roll.specs.declared.work.RoaWork.{RoaWork}
use Rattle.key_roll.specs.declared.work.PointWork.{PointWork}
use Rattle.key_roll.specs.declared.work.KeyName.{KeyName}
use Rattle.key_roll.specs.declared.work.KeyName.TheVariants.{Live}
use Rattle.issue_plan.specs.declared.live.LiveKey.{LiveKey}
use Rattle.issue_plan.specs.declared.anew.Standing.{Standing}
use Rattle.issue_plan.specs.Keys.{is_live}
use Rattle.issue_plan.specs.Wanted.{PlanInput}
use Rattle.issue_plan.specs.Fits.{certificate_place_by, roa_place_by, crl_place_by, manifest_place_by, stands_first, has_one_point}
use Rattle.issue_plan.specs.Serves.{serves_certificate, serves_roa, serves_point}
use Rattle.issue_plan.specs.inner.Beside.{beside_roas}
use Rattle.issue_plan.specs.inner.Changed.{has_changed}
use Rattle.issue_plan.specs.inner.Live.{live_key, live_at}
use Rattle.issue_plan.specs.inner.Positions.{kept_at, found_in}

abbrev pub beside_of : Standing → List IssuedRow
beside_of s = map (λ row. row.now) s.beside.now

-- What the code looks at is what the edition is judged by.
pub record IsOver (plan_input : PlanInput) (s : Standing) : Type 0 where
  pub live : s.live.now ≡ map live_key plan_input.basis.rows
  pub names : s.names.now ≡ names_of plan_input.basis.configs
  pub issued : s.issued.now ≡ plan_input.issued
  pub beside : beside_of s ≡ beside_roas plan_input.issued
  pub site : s.site.now ≡ plan_input.site
  pub moment : s.moment ≡ plan_input.basis.moment

abbrev pub certificate_place : Standing → List LiveKey → CertWork → Option (List ℕ)
certificate_place s issuers cert =
    option_and_then (λ issuer. option_map (λ subject.
    certificate_place_by s.site.now s.names.now issuer.desk issuer.id subject.id)
    (live_at s.live.now cert.subject)) (live_at issuers cert.issuer)

abbrev pub roa_place : Standing → List LiveKey → RoaWork → Option (List ℕ)
roa_place s issuers roa =
    option_map (λ issuer. roa_place_by s.site.now s.names.now issuer.desk roa.origin)
    (live_at issuers roa.issuer)

-- Where the certificate of a live key is wanted, and the keys whose first certificate stands there.
abbrev pub home_of : Standing → List CertWork → LiveKey → Option (List ℕ)
home_of s certs key =
    option_and_then (certificate_place s s.live.now) (find (λ cert. is_live key.id cert.subject) certs)

abbrev pub is_settled : Standing → List CertWork → LiveKey → Bool
is_settled s certs key =
    (key.desk == 0)
    || option_map_or (stands_first (beside_of s) (Live key.id)) (home_of s certs key) false

-- The position of what fits, where these keys are settled.
abbrev pub kept_certificate : Standing → List LiveKey → CertWork → Option ℕ
kept_certificate s issuers cert =
    kept_at s.issued.now
    (λ row. serves_certificate s.moment cert row && stands_first (beside_of s) cert.subject row.uri)
    (certificate_place s issuers cert)

abbrev pub kept_roa : Standing → List LiveKey → RoaWork → Option ℕ
kept_roa s issuers roa = kept_at s.issued.now (serves_roa s.moment roa) (roa_place s issuers roa)

-- Whether a CRL or a manifest of the key stands at a place, and isn't due.
abbrev pub point_stands : Standing → KeyName → List ℕ → Bool
point_stands s key place =
    option_map_or (serves_point s.moment key) (found_in s.issued.now place) false

-- Whether both stand at these places, and the key has none elsewhere.
abbrev pub stands_at : Standing → KeyId → List ℕ → List ℕ → Bool
stands_at s key crl manifest =
    has_one_point (beside_of s) key crl manifest
    && point_stands s (Live key) crl && point_stands s (Live key) manifest

abbrev pub files_stand : Standing → LiveKey → Bool
files_stand s key =
    stands_at s key.id (crl_place_by s.site.now s.names.now key.desk key.id)
    (manifest_place_by s.site.now s.names.now key.desk key.id)

-- Whether a key's CRL and manifest stay, by the keys whose other files change.
abbrev pub key_stays : Standing → List KeyId → LiveKey → Bool
key_stays s changed key =
    not (key.desk == 0) && not (has_changed changed key.id) && files_stand s key

abbrev pub point_stays : Standing → List LiveKey → List KeyId → PointWork → Bool
point_stays s issuers changed point =
    option_map_or (key_stays s changed) (live_at issuers point.key) false
