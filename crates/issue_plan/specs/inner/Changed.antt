-- The keys whose files change, but for their CRLs and manifests.
use Rattle.std.specs.Prelude.{◌≡◌, ℕ, Bool, not, List, ◌++◌, map, filter, length, Option, None, Some}
use Rattle.std.specs.List.{list_any, filter_map}
use Rattle.std.specs.Str.{bytes_eq}
use Rattle.key_ids.specs.declared.identifier.KeyId.{KeyId}
use Rattle.key_roll.specs.declared.issued.IssuedRow.{IssuedRow}
use Rattle.key_roll.specs.declared.work.KeyName.{KeyName}
use Rattle.key_roll.specs.declared.work.KeyName.TheVariants.{Live, Fresh}
use Rattle.key_roll.specs.declared.work.CertWork.{CertWork}
use Rattle.key_roll.specs.declared.work.RoaWork.{RoaWork}
use Rattle.issue_plan.specs.Serves.{is_point}
use Rattle.issue_plan.specs.inner.Positions.{AreMarks, unmarked}

-- The issuers of rows that go, but for CRLs and manifests.
abbrev pub issuers_of_gone : List IssuedRow → List KeyId
issuers_of_gone rows = map (λ row. row.issuer) (filter (λ row. not (is_point row.what)) rows)

abbrev pub live_id : KeyName → Option KeyId
live_id (Live id) = Some id
live_id (Fresh desk) = None

-- These are the issuers of what goes and of what is made.
pub record AreChanged (issued : List IssuedRow) (kept : List ℕ) (certs : List CertWork)
    (roas : List RoaWork) (changed : List KeyId) : Type 0 where
  pub marks : List Bool
  pub are : AreMarks (length issued) kept marks
  pub all : changed ≡ issuers_of_gone (unmarked marks issued)
      ++ filter_map (λ cert. live_id cert.issuer) certs
      ++ filter_map (λ roa. live_id roa.issuer) roas

abbrev pub has_changed : List KeyId → KeyId → Bool
has_changed changed id = list_any (λ other. bytes_eq other.bytes id.bytes) changed
