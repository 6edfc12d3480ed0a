-- What an edition wants to stand: certificates (RFC 6487), ROAs (RFC 9582) and publication points
-- (RFC 9286, a CRL and a manifest for each key). Keys are the edition's, live or to be made.
use Rattle.std.specs.Prelude.{ℕ, ◌==◌, ◌&&◌, List, find, map, slice_get, Option, None, Some, option_map, if◌then◌else◌}
use Rattle.std.specs.List.{filter_map}
use Rattle.res_sets.specs.declared.holdings.Resources.{Resources}
use Rattle.authority_book.specs.Settings.{Settings}
use Rattle.authority_book.specs.Listed.{place_of}
use Rattle.entitle.specs.declared.trees.Owed.{Owed}
use Rattle.entitle.specs.Certified.{names_of}
use Rattle.key_roll.specs.declared.rows.Role.TheVariants.{Current}
use Rattle.key_roll.specs.declared.issued.IssuedRow.{IssuedRow}
use Rattle.key_roll.specs.declared.work.KeyName.{KeyName}
use Rattle.key_roll.specs.declared.work.CertWork.{CertWork}
use Rattle.key_roll.specs.declared.work.RoaWork.{RoaWork}
use Rattle.key_roll.specs.declared.work.PointWork.{PointWork}
use Rattle.key_ids.specs.Uris.{Bases}
use Rattle.issue_plan.specs.declared.keys.NextKey.{NextKey}
use Rattle.issue_plan.specs.Keys.{Basis}
use Rattle.key_roll.specs.Roles.{is_role}

-- The current key of a desk, if it has one.
abbrev pub current_of : List NextKey → ℕ → Option KeyName
current_of keys desk =
    option_map (λ key. key.name)
    (find (λ key. (key.desk == desk) && is_role key.role Current) keys)

-- The name of an authority's parent, and the parent's desk.
abbrev pub parent_of : Option Settings → Option (List ℕ)
parent_of None = None
parent_of (Some config) = config.parent

abbrev pub desk_of : List Settings → Option (List ℕ) → Option ℕ
desk_of configs None = None
desk_of configs (Some name) = place_of (names_of configs) name

abbrev pub parents_desk : List Settings → ℕ → Option ℕ
parents_desk configs desk = desk_of configs (parent_of (slice_get configs desk))

abbrev pub current_at : List NextKey → Option ℕ → Option KeyName
current_at keys None = None
current_at keys (Some desk) = current_of keys desk

-- The key that issues the certificate of a key: the anchor's own key, or else the current one of
-- the authority's parent.
abbrev pub issuer_of : List Settings → List NextKey → NextKey → Option KeyName
issuer_of configs keys key =
    if key.desk == 0 then Some key.name
    else current_at keys (parents_desk configs key.desk)

-- The certificate of a key, with all that its authority is certified for.
abbrev pub certificate : KeyName → Option KeyName → Option Resources → Option CertWork
certificate subject None set = None
certificate subject (Some issuer) None = None
certificate subject (Some issuer) (Some set) =
    Some (record { subject = subject; issuer = issuer; held = set })

abbrev pub certificate_of :
    List Settings → List Resources → List NextKey → NextKey → Option CertWork
certificate_of configs sets keys key =
    certificate key.name (issuer_of configs keys key) (slice_get sets key.desk)

-- A certificate for each key.
abbrev pub wanted_certificates : List Settings → List Resources → List NextKey → List CertWork
wanted_certificates configs sets keys = filter_map (certificate_of configs sets keys) keys

-- The ROA of an origin that is owed, issued by the current key.
abbrev pub roa_by : Owed → Option KeyName → Option RoaWork
roa_by owed None = None
roa_by owed (Some issuer) = Some (record { issuer = issuer; origin = owed.origin })

abbrev pub roa_of : List NextKey → Owed → Option RoaWork
roa_of keys owed = roa_by owed (current_of keys owed.desk)

-- A ROA for each owed origin.
abbrev pub wanted_roas : List NextKey → List Owed → List RoaWork
wanted_roas keys owed = filter_map (roa_of keys) owed

-- A point for each key.
abbrev pub point_of : NextKey → PointWork
point_of key = record { key = key.name }

abbrev pub wanted_points : List NextKey → List PointWork
wanted_points keys = map point_of keys

-- An object that is wanted.
pub data Wanted : Type 0 where
  Certificate : CertWork → Wanted
  Roa : RoaWork → Wanted
  Point : PointWork → Wanted

-- All that an edition is judged by: what it is made from, the origins that it owes, and what
-- stands published before it, and where.
pub record PlanInput : Type 0 where
  pub basis : Basis
  pub owed : List Owed
  pub issued : List IssuedRow
  pub site : Bases
