-- What the set of an edition is to relying parties: sound, and the owed origins (RFC 9582).
use Rattle.std.specs.Prelude.{◌≡◌, ◌<◌, ◌⊎◌, ℕ, List, map, Some, IsPermutation, AllPairs, ◌≢◌}
use Rattle.authority_book.specs.declared.rows.NameRow.{NameRow}
use Rattle.entitle.specs.declared.trees.Owed.{Owed}
use Rattle.entitle.specs.Certified.{names_of}
use Rattle.entitle.specs.Owed.{AreOwed}
use Rattle.key_ids.specs.Uris.{Bases, folder_of}
use Rattle.key_roll.specs.declared.rows.KeyRow.{KeyRow}
use Rattle.key_roll.specs.declared.rows.Role.TheVariants.{Current}
use Rattle.pub_set.specs.declared.objects.Object.{Object}
use Rattle.pub_set.specs.Objects.{content_at, IsAscending}
use Rattle.pub_set.specs.Changes.{Contents}
use Rattle.payloads.specs.ManifestFormats.{manifest_number, this_update_of}
use Rattle.rp_rules.specs.Certificates.{WalkContext}
use Rattle.rp_rules.specs.Objects.{SignedManifest, manifest_in}
use Rattle.rp_rules.specs.Walk.{Visit}
use Rattle.rp_rules.specs.Sound.{IsSoundBy}
use Rattle.rp_rules.specs.Yield.{Yielded, yield}
use Rattle.issue_values.specs.Bodies.{roa_entry}
use Rattle.issue_plan.specs.Keys.{row_of}
use Rattle.issue_drafts.specs.Publishers.{name_at}
use Rattle.editions.specs.Edition.{Edition}
use Rattle.editions.specs.Step.{Premises, configs_at}

-- An owed origin, as a walk yields it: with the folder of its authority.
abbrev pub yielded_for : Bases → List NameRow → Owed → Yielded
yielded_for site names owed = record {
  folder = folder_of site (name_at names owed.desk);
  asn = owed.origin.asn;
  entry = roa_entry owed.origin;
}

-- How a relying party looks at the set of the edition, which has that anchor's key.
abbrev pub looking : Premises → Edition → KeyRow → WalkContext
looking premises edition anchor = record {
  vouched = premises.vouched;
  anchor = anchor.key.bytes;
  bases = premises.site;
  moment = edition.moment;
}

-- The set is sound at the edition's moment under the key of the trust anchor, and yields the origins
-- that are owed at the cut, each once.
pub record IsPublished (premises : Premises) (edition : Edition) (set : Contents) : Type 0 where
  pub anchor : KeyRow
  pub current : row_of edition.rows 0 Current ≡ Some anchor
  pub objects : List Object
  pub ascending : IsAscending objects
  pub are : (uri : List ℕ) → content_at objects uri ≡ set uri
  pub visits : List Visit
  pub sound : IsSoundBy (looking premises edition anchor) objects visits
  pub owed : List Owed
  pub owes : AreOwed (configs_at premises.lists edition.cut) owed
  pub yields : IsPermutation
      (map (yielded_for premises.site (names_of (configs_at premises.lists edition.cut))) owed)
      (yield visits)
  pub once : AllPairs (λ a b. a ≢ b) (yield visits)

-- A manifest that takes the place of another has a greater number and a later thisUpdate (RFC 9286
-- section 4.2.1).
abbrev pub ManifestsRise : Contents → Contents → Type 0
ManifestsRise old new = (uri before after : List ℕ) (was is : SignedManifest)
    → old uri ≡ Some before → new uri ≡ Some after
    → manifest_in before ≡ Some was → manifest_in after ≡ Some is
    → (after ≡ before) ⊎ ((manifest_number was.body < manifest_number is.body)
    × (this_update_of was.body < this_update_of is.body))
