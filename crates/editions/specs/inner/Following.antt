-- What an edition is planned from, over what stands.
use Rattle.std.specs.Prelude.{◌≡◌, ◌≤◌, ◌<◌, ℕ, true, List, length, All}
use Rattle.names.specs.Name.{IsName}
use Rattle.authority_book.specs.Origins.{IsAscending}
use Rattle.entitle.specs.Certified.{names_of, AreCertified}
use Rattle.cert_obj.specs.Values.{is_uri}
use Rattle.key_ids.specs.Uris.{Bases, anchor_uri, cert_uri}
use Rattle.key_roll.specs.declared.issued.IssuedRow.{IssuedRow}
use Rattle.key_roll.specs.declared.work.Work.{Work}
use Rattle.issue_values.specs.Certificates.{IsEditionMoment}
use Rattle.issue_drafts.specs.IssueInput.{IssueInput}
use Rattle.issue_plan.specs.Keys.{Basis}
use Rattle.editions.specs.PublishedState.{PublishedStateValue, AreTakenIn, desks}
use Rattle.editions.specs.Moments.{AreBelowEnd}
use Rattle.editions.specs.Clear.{IsClear}

-- The work that is planned, over what stands.
abbrev pub setting_over : Basis → List IssuedRow → Bases → Work → IssueInput
setting_over basis issued site work =
    record { work = work; names = names_of basis.configs; issued = issued; site = site }

-- What the types of configurations say: names of authorities are names, and origins ascend.
pub record AreTyped (basis : Basis) : Type 0 where
  pub names : All (λ row. IsName row.name) (names_of basis.configs)
  pub origins : All (λ config. IsAscending config.origins) basis.configs

-- What the type of a site says: certificates can name the anchor's certificate there, and those in
-- the folder of each name that an authority can have.
pub record CanBeNamed (site : Bases) : Type 0 where
  pub anchor : is_uri (anchor_uri site) ≡ true
  pub certificate :
      (name key : List ℕ) → IsName name → is_uri (cert_uri site name key) ≡ true

-- An edition can follow what stands, with so many signers: from the same live keys, none of whose
-- counters is at its end, and from configurations that accepted commands came to, at a moment that
-- isn't earlier.
pub record CanFollow (at : PublishedStateValue) (site : Bases) (signers : ℕ) (basis : Basis)
    : Type 0 where
  pub rows : basis.rows ≡ at.rows
  pub counters : AreBelowEnd at.serial at.rows
  pub cut : List ℕ
  pub configs : length basis.configs ≡ desks
  pub taken : AreTakenIn basis.configs cut
  pub certified : AreCertified basis.configs basis.sets
  pub typed : AreTyped basis
  pub moment : IsEditionMoment basis.moment
  pub later : at.moment ≤ basis.moment
  pub live_signers : All (λ row. row.signer < signers) at.rows
  pub name_signers : All (λ name. name.signer < signers) (names_of basis.configs)
  pub clear : IsClear site at.rows at.issued
  pub named : CanBeNamed site
