-- The work that can be made, subject by subject.
use Rattle.std.specs.Prelude.{◌≡◌, ◌≢◌, ◌<◌, ◌^◌, ℕ, true, List, ◌++◌, map, length, All}
use Rattle.std.specs.Prelude.{AllPairs, ◌⊎◌, IsSome, IfSome}
use Rattle.pub_set.specs.Objects.{found_at, Rise}
use Rattle.cert_obj.specs.Values.{is_uri}
use Rattle.key_ids.specs.Uris.{Bases}
use Rattle.names.specs.Name.{IsName}
use Rattle.authority_book.specs.declared.rows.NameRow.{NameRow}
use Rattle.key_roll.specs.declared.rows.KeyRow.{KeyRow}
use Rattle.key_roll.specs.declared.issued.Issued.{Issued}
use Rattle.key_roll.specs.declared.work.Work.{Work}
use Rattle.key_roll.specs.declared.work.KeyName.{KeyName}
use Rattle.issue_values.specs.Certificates.{IsEditionMoment}
use Rattle.issue_values.specs.Bodies.{AreRevoked}
use Rattle.issue_keys.specs.Keys.{id_of, kept_rows}
use Rattle.issue_drafts.specs.WorkKeys.{Keys, key_named}
use Rattle.issue_drafts.specs.IssueInput.{IssueInput}
use Rattle.issue_drafts.specs.Publishers.{made_for, standing_for}
use Rattle.issue_drafts.specs.Drafts.{manifests}
use Rattle.issue_drafts.specs.Files.{is_kept, folder_at, IsListable}
use Rattle.issue_make.specs.Trace.{AreKeys}
use Rattle.issue_make.specs.ObjectPlan.{puts}

abbrev pub input_with : Work → List NameRow → Issued → Bases → IssueInput
input_with work names issued site =
    record { work = work; names = names; issued = issued.rows; site = site }

-- The key is there.
abbrev pub IsThere : Keys → KeyName → Type 0
IsThere keys name = IsSome (key_named keys name)

-- The trust anchor's key, or one whose certificate is made or stands, at a URI that a certificate
-- can name.
abbrev pub IsCertified : IssueInput → Keys → KeyRow → Type 0
IsCertified s keys row =
    row.desk ≢ 0 → IsSome (made_for s keys row)
    ⊎ (IsSome (standing_for s.issued row)
    × IfSome (standing_for s.issued row) (λ uri. is_uri uri ≡ true))

-- What a key has that stands and stays can be listed.
abbrev pub AreListable : IssueInput → Keys → KeyRow → Type 0
AreListable s keys key =
    All (λ row. is_kept s (puts s keys) key row ≡ true
    → IsListable (folder_at s key) row.uri) s.issued

-- What holds of the work, whichever keys are made for it.
pub record Fits (s : IssueInput) (keys : Keys) : Type 0 where
  -- each key that the work names is there
  pub subjects : All (λ cert. IsThere keys cert.subject) s.work.certs
  pub issuers : All (λ cert. IsThere keys cert.issuer) s.work.certs
  pub roas : All (λ roa. IsThere keys roa.issuer) s.work.roas
  pub points : All (λ point. IsThere keys point.key) s.work.points
  -- each key that issues has its certificate
  pub certified : All (λ d. IsCertified s keys d.issuer) (puts s keys)
  -- no URI is put or withdrawn twice
  pub once : AllPairs (λ a b. a ≢ b) (map (λ d. d.uri) (puts s keys) ++ s.work.withdrawn)
  -- each kept file of a key whose point is made can be listed
  pub kept : All (λ d. AreListable s keys d.issuer) (manifests s keys)

pub record CanMake (s : IssueInput) (rows : List KeyRow) (signers : ℕ) : Type 0 where
  pub moment : IsEditionMoment s.work.moment
  -- signers that are there
  pub new_signers : All (λ new. new.signer < signers) s.work.new_keys
  pub live_signers : All (λ row. row.signer < signers) rows
  -- desks that are positions in the list of names
  pub new_desks : All (λ new. new.desk < length s.names) s.work.new_keys
  pub desks : All (λ row. row.desk < length s.names) (kept_rows s.work rows)
  -- names that an authority can have
  pub plain : All (λ row. IsName row.name) s.names
  -- live keys with identifiers of their own, and numbers below their end
  pub apart : AllPairs (λ a b. id_of a ≢ id_of b) rows
  pub serials : All (λ row. row.next_serial < 2 ^ 62) rows
  pub numbers : All (λ row. row.number < 2 ^ 62) rows
  pub revoked : All (λ row. AreRevoked s.work.moment row.revoked) rows
  -- what stands, by rising URI, and what of it goes
  pub standing : Rise (λ row. row.uri) s.issued
  pub withdrawn :
      All (λ uri. IsSome (found_at (λ row. row.uri) (λ row. row.hash) s.issued uri))
      s.work.withdrawn
  pub fits : (keys : Keys) → AreKeys s rows keys → Fits s keys
