-- What is said of a planned work, for its making.
use Rattle.std.specs.Prelude.{◌≡◌, ◌≢◌, ◌<◌, ℕ, List, length, All, AllPairs}
use Rattle.authority_book.specs.declared.rows.NameRow.{NameRow}
use Rattle.entitle.specs.Certified.{names_of, AreCertified}
use Rattle.key_roll.specs.declared.rows.KeyRow.{KeyRow}
use Rattle.issue_keys.specs.Keys.{id_of, kept_rows}
use Rattle.issue_drafts.specs.WorkKeys.{Keys}
use Rattle.issue_drafts.specs.IssueInput.{IssueInput}
use Rattle.issue_plan.specs.Keys.{Basis}
use Rattle.issue_make.specs.CanMake.{IsThere}
use Rattle.editions.specs.Names.{AreTree}

-- Each key that the work names is there.
pub record AreThere (s : IssueInput) (keys : Keys) : Type 0 where
  pub subjects : All (λ cert. IsThere keys cert.subject) s.work.certs
  pub issuers : All (λ cert. IsThere keys cert.issuer) s.work.certs
  pub roas : All (λ roa. IsThere keys roa.issuer) s.work.roas
  pub points : All (λ point. IsThere keys point.key) s.work.points

-- Keys with identifiers of their own.
abbrev pub AreApart : List KeyRow → Type 0
AreApart rows = AllPairs (λ a b. id_of a ≢ id_of b) rows

-- The names are those of the configurations, each with a signer that is there.
pub record NamesAreOf (basis : Basis) (names : List NameRow) (signers : ℕ) : Type 0 where
  pub same : names ≡ names_of basis.configs
  pub there : All (λ name. name.signer < signers) names

-- The keys are of desks that have a name, and the new ones of signers that are there.
pub record AreOfDesks (s : IssueInput) (rows : List KeyRow) (signers : ℕ) : Type 0 where
  pub new_signers : All (λ new. new.signer < signers) s.work.new_keys
  pub new_desks : All (λ new. new.desk < length s.names) s.work.new_keys
  pub desks : All (λ row. row.desk < length s.names) (kept_rows s.work rows)

-- The names are those of a tree, and the sets what is certified to them.
pub record AreNamed (basis : Basis) : Type 0 where
  pub tree : AreTree (names_of basis.configs)
  pub certified : AreCertified basis.configs basis.sets
