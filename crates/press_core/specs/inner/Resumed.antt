-- What opening compares, and what it goes on with.
use Rattle.std.specs.Prelude.{◌≡◌, ◌≢◌, ℕ, Bool, true, false, not, if◌then◌else◌, List, [], ◌++◌, map, length, Option, None, Some, All, AllPairs, Contains, String, codes}
use Rattle.std.specs.Str.{bytes_eq}
use Rattle.std.specs.Ordering.{is_lt}
use Rattle.std.specs.String.{string_bytes}
use Rattle.std.specs.BTreeSet.{BTreeSet, contains_text}
use Rattle.sha1.specs.Sha1.{sha1}
use Rattle.names.specs.Name.{IsName}
use Rattle.origins.specs.declared.Origin.{Origin}
use Rattle.key_ids.specs.Uris.{Bases, folder_of}
use Rattle.key_roll.specs.declared.rows.KeyRow.{KeyRow}
use Rattle.key_roll.specs.declared.issued.IssuedRow.{IssuedRow}
use Rattle.cert_obj.specs.Values.{SignedCert}
use Rattle.pub_set.specs.declared.objects.Object.{Object}
use Rattle.pub_set.specs.Objects.{uri_cmp, content_at}
use Rattle.issue_keys.specs.Keys.{id_of}
use Rattle.authority_book.specs.Settings.{Settings}
use Rattle.authority_book.specs.declared.rows.NameRow.{NameRow}
use Rattle.entitle.specs.declared.trees.Owed.{Owed}
use Rattle.entitle.specs.Certified.{settings_of, names_of, AreCertified}
use Rattle.entitle.specs.Owed.{AreOwed}
use Rattle.issue_plan.specs.Uris.{roa_file, is_among}
use Rattle.issue_drafts.specs.Publishers.{name_at}
use Rattle.rp_rules.specs.declared.audited.YieldedOrigin.{YieldedOrigin}
use Rattle.rp_rules.specs.Objects.{certificate_in}
use Rattle.rp_rules.specs.Certificates.{WalkContext}
use Rattle.rp_rules.specs.Sound.{IsAuditOf}
use Rattle.rp_rules.specs.Views.{entry_of}
use Rattle.rp_rules.specs.Yield.{AuditedValue, PointValue, Yielded}
use Rattle.press_records.specs.declared.recovered.RecoveredParts.{RecoveredParts}
use Rattle.press_records.specs.Rows.{row_value}
use Rattle.press_records.specs.Edition.{are_live}
use Rattle.editions.specs.Edition.{cut_at}
use Rattle.editions.specs.Names.{AreTree}
use Rattle.editions.specs.PublishedState.{PublishedStateValue, desks}
use Rattle.editions.specs.Table.{IsTable}
use Rattle.editions.specs.declared.gathered.Gathered.{Gathered}
use Rattle.press_core.specs.declared.resuming.Mismatch.{Mismatch as Found}
use Rattle.press_core.specs.declared.opening.Owing.{Owing}
use Rattle.press_core.specs.declared.resume.ResumeFault.{ResumeFault}
use Rattle.press_core.specs.declared.resume.ResumeFault.TheVariants as why
use Rattle.press_core.specs.Agreement.{Mismatch, mismatch, first_mismatch, owed_yield, AreSameOrigins, IsOtherOrigin}
use Rattle.press_core.specs.Loading.{anchor_of}
use Rattle.press_core.specs.Tables.{homes_of, IsHashed, AreOfProfile, HasOthers}
use Rattle.press_core.specs.Resuming.{AreConfigsOf, IsFaultAt}

-- ---- rows and points

abbrev pub mismatch_value : Found → Mismatch
mismatch_value found = mismatch found.key.bytes found.field found.kept found.found

-- ---- where ROAs stand

-- A folder, and an origin: whose ROA is the file of the origin's name in that folder.
abbrev pub RoaPlace : Type 0
RoaPlace = List ℕ × Origin

abbrev pub uri_of : RoaPlace → List ℕ
uri_of place = place.0 ++ roa_file place.1

-- What a walk yields of it.
abbrev pub yield_at : RoaPlace → Yielded
yield_at place = record { folder = place.0; asn = place.1.asn; entry = entry_of place.1 }

abbrev pub owed_place : Bases → List NameRow → Owed → RoaPlace
owed_place site names owed = (folder_of site (name_at names owed.desk), owed.origin)

abbrev pub yielded_place : YieldedOrigin → RoaPlace
yielded_place yielded = (string_bytes yielded.folder, yielded.origin)

abbrev pub owed_places : Bases → List NameRow → List Owed → List RoaPlace
owed_places site names owed = map (owed_place site names) owed

abbrev pub yielded_places : List YieldedOrigin → List RoaPlace
yielded_places yielded = map yielded_place yielded

-- Whether a ROA of these stands at the URI.
abbrev pub stands_at : List RoaPlace → List ℕ → Bool
stands_at places uri = is_among (map uri_of places) uri

-- The set has just their URIs.
abbrev pub HasUris : {A : Type 0} → List RoaPlace → BTreeSet (String A) → Type 0
HasUris places uris = (uri : List ℕ) → contains_text uris uri ≡ stands_at places uri

abbrev pub AddsUri :
    {A : Type 0} → RoaPlace → BTreeSet (String A) → BTreeSet (String A) → Type 0
AddsUri place old new = (uri : List ℕ)
    → contains_text new uri ≡ (if bytes_eq (uri_of place) uri then true else contains_text old uri)

-- Of two tests of URIs: none passes one alone, or this is the least that does.
abbrev pub IsLeastInOne : (List ℕ → Bool) → (List ℕ → Bool) → Option (List ℕ) → Type 0
IsLeastInOne one other None = (uri : List ℕ) → one uri ≡ other uri
IsLeastInOne one other (Some uri) = (one uri ≡ not (other uri))
    × ((place : List ℕ) → one place ≡ not (other place) → is_lt (uri_cmp place uri) ≡ false)

abbrev pub IsFirstInOne :
    {A : Type 0} → BTreeSet (String A) → BTreeSet (String A) → Option (List ℕ) → Type 0
IsFirstInOne one other found = IsLeastInOne (contains_text one) (contains_text other) found

abbrev pub IsOtherPlace : List RoaPlace → List RoaPlace → Option (List ℕ) → Type 0
IsOtherPlace owed yielded found = IsLeastInOne (stands_at owed) (stands_at yielded) found

-- ---- what was left

-- Nothing stands without an edition, and behind one the keys are live, as its record told.
pub record IsLeft (left : RecoveredParts) : Type 0 where
  pub moment : left.serial ≡ 0 → left.moment ≡ 0
  pub cut : left.serial ≡ 0 → left.cut ≡ []
  pub rows : left.serial ≡ 0 → left.rows ≡ []
  pub set : left.serial ≡ 0 → left.set ≡ []
  pub live : left.serial ≢ 0 → are_live left.moment (map row_value left.rows) ≡ true
  pub desks : left.serial ≢ 0 → length left.cut ≡ desks

-- The audit is of what was left, behind an edition.
pub record IsAuditAt (site : Bases) (left : RecoveredParts) (audited : AuditedValue)
    : Type 0 where
  pub some : left.serial ≢ 0
  pub context : WalkContext
  pub anchor : anchor_of left.rows ≡ Some context.anchor
  pub bases : context.bases ≡ site
  pub moment : context.moment ≡ left.moment
  pub audit : IsAuditOf context left.set audited

abbrev pub IsAuditIf : Bases → RecoveredParts → Option AuditedValue → Type 0
IsAuditIf site left None = left.serial ≡ 0
IsAuditIf site left (Some audited) = IsAuditAt site left audited

-- Each origin is yielded in the folder of a name.
pub record IsInFolder (site : Bases) (folder : List ℕ) : Type 0 where
  pub name : List ℕ
  pub plain : IsName name
  pub is : folder ≡ folder_of site name

abbrev pub AreInFolders : Bases → List Yielded → Type 0
AreInFolders site yielded =
    (one : Yielded) → Contains yielded one → IsInFolder site one.folder

-- ---- what the commands up to the cut come to

pub record IsOwing (firsts : List Gathered) (owing : Owing) : Type 0 where
  pub come : AreConfigsOf firsts (settings_of owing.configs.items)
  pub certified : AreCertified (settings_of owing.configs.items) owing.tree.sets.items
  pub owes : AreOwed (settings_of owing.configs.items) owing.owed.items

-- ---- faults

abbrev pub TellsMismatch : Mismatch → ResumeFault → Type 0
TellsMismatch m (why.OriginsDiffer uri) = ⊥
TellsMismatch m (why.RowMismatch key field kept found) =
    (key.bytes ≡ sha1 m.key) × (field ≡ m.field) × (kept ≡ m.kept) × (found ≡ m.found)
TellsMismatch m why.Memory = ⊥

abbrev pub owed_by : Bases → Owing → List Yielded
owed_by site owing = owed_yield site (settings_of owing.configs.items) owing.owed.items

-- Why the origins aren't the same, and why the rows don't agree.
abbrev pub IsOriginFault : List Yielded → List Yielded → ResumeFault → Type 0
IsOriginFault owed yielded (why.OriginsDiffer uri) =
    IsOtherOrigin owed yielded (string_bytes uri)
IsOriginFault owed yielded (why.RowMismatch key field kept found) = ⊥
IsOriginFault owed yielded why.Memory = Unit {0}

abbrev pub IsRowFault : List KeyRow → List PointValue → ResumeFault → Type 0
IsRowFault rows points (why.OriginsDiffer uri) = ⊥
IsRowFault rows points (why.RowMismatch key field kept found) =
    (bytes : List ℕ) × (key.bytes ≡ sha1 bytes)
    × (first_mismatch rows points ≡ Some (mismatch bytes field kept found))
IsRowFault rows points why.Memory = ⊥

abbrev pub IsFaultIf :
    Bases → List KeyRow → List Gathered → Option AuditedValue → ResumeFault → Type 0
IsFaultIf site rows firsts None fault = fault ≡ why.Memory
IsFaultIf site rows firsts (Some audited) fault = IsFaultAt site rows firsts audited fault

-- ---- what stands

-- What was left, with that table and what the commands come to.
pub record IsStandingWith (left : RecoveredParts) (owing : Owing) (issued : List IssuedRow)
    (at : PublishedStateValue) : Type 0 where
  pub serial : at.serial ≡ left.serial
  pub moment : at.moment ≡ left.moment
  pub cut : at.cut ≡ left.cut
  pub rows : at.rows ≡ left.rows
  pub set : at.set ≡ left.set
  pub table : at.issued ≡ issued
  pub configs : at.configs ≡ settings_of owing.configs.items
  pub owed : at.owed ≡ owing.owed.items

-- The names are those of a tree, and such as authorities have.
pub record AreNamed (configs : List Settings) : Type 0 where
  pub tree : AreTree (names_of configs)
  pub plain : All (λ row. IsName row.name) (names_of configs)

-- The keys are apart, and the certificate of the trust anchor's key stands and names its folder.
pub record IsAnchored (site : Bases) (rows : List KeyRow) (objects : List Object)
    : Type 0 where
  pub apart : AllPairs (λ a b. id_of a ≢ id_of b) rows
  pub key : KeyRow
  pub live : Contains rows key
  pub desk : key.desk ≡ 0
  pub uri : List ℕ
  pub bytes : List ℕ
  pub there : content_at objects uri ≡ Some bytes
  pub certificate : SignedCert
  pub read : certificate_in bytes ≡ Some certificate
  pub subject : certificate.cert.key ≡ key.key.bytes
  pub folder : certificate.cert.uris.folder ≡ folder_of site (codes "ta")

-- The same, by the commands up to the cut.
pub record IsStateOf (site : Bases) (left : RecoveredParts) (firsts : List Gathered)
    (at : PublishedStateValue) : Type 0 where
  pub serial : at.serial ≡ left.serial
  pub moment : at.moment ≡ left.moment
  pub cut : (desk : ℕ) → cut_at at.cut desk ≡ cut_at left.cut desk
  pub desks : length at.cut ≡ desks
  pub rows : at.rows ≡ left.rows
  pub set : at.set ≡ left.set
  pub hashed : IsHashed at.set at.issued
  pub table : AreOfProfile (homes_of site (names_of at.configs) at.rows) at.set
      → IsTable (content_at at.set) at.issued
  pub others : HasOthers (homes_of site (names_of at.configs) at.rows) at.set at.issued
  pub configs : AreConfigsOf firsts at.configs
  pub named : at.serial ≢ 0 → AreNamed at.configs
  pub anchored : at.serial ≢ 0 → IsAnchored site at.rows at.set

-- The audited set agrees with it.
pub record AreAgreedAt (site : Bases) (audited : AuditedValue) (at : PublishedStateValue)
    : Type 0 where
  pub origins : AreSameOrigins (owed_yield site at.configs at.owed) audited.origins
  pub rows : first_mismatch at.rows audited.points ≡ None
