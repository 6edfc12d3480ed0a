-- What an edition comes to.
use Rattle.std.specs.Prelude.{◌≡◌, ℕ, ◌+◌, Bool, ◌&&◌, ◌||◌, nat_lt, ◌==◌}
use Rattle.std.specs.Prelude.{if◌then◌else◌, List, ◌++◌, map}
use Rattle.std.specs.Prelude.{Option, None, Some, option_map, All}
use Rattle.std.specs.List.{list_any}
use Rattle.std.specs.Str.{bytes_eq}
use Rattle.sha2.specs.Sha256.{sha256}
use Rattle.pub_set.specs.declared.steps.Change.{Change}
use Rattle.pub_set.specs.declared.steps.Change.TheVariants.{Put, Withdraw}
use Rattle.pub_set.specs.Objects.{found_at}
use Rattle.key_roll.specs.declared.rows.KeyRow.{KeyRow}
use Rattle.key_roll.specs.declared.rows.Role.{Role}
use Rattle.key_roll.specs.declared.rows.Role.TheVariants.{New, Current, Old}
use Rattle.key_roll.specs.declared.issued.IssuedRow.{IssuedRow}
use Rattle.key_roll.specs.declared.issued.What.{What}
use Rattle.key_roll.specs.declared.issued.What.TheVariants as Whats
use Rattle.issue_values.specs.Certificates.{certificate_life, point_life}
use Rattle.issue_keys.specs.Keys.{id_of, kept_rows, AreFresh}
use Rattle.issue_keys.specs.Making.{AreApart}
use Rattle.issue_drafts.specs.WorkKeys.{Keys, all_keys}
use Rattle.issue_drafts.specs.IssueInput.{IssueInput}
use Rattle.issue_drafts.specs.Drafts.{Draft, Kind, drafts, manifests, AreOrdered, serial_at}
use Rattle.issue_drafts.specs.Drafts.{serial_behind}
use Rattle.issue_drafts.specs.Drafts.Kind.{Certificate, Roa, Crl, Manifest}
use Rattle.issue_drafts.specs.Firsts.{AreFirsts}
use Rattle.issue_drafts.specs.Revoking.{has_point, candidates}
use Rattle.issue_drafts.specs.Files.{AreMerged, kept_files, made_files}
use Rattle.cms_obj.specs.declared.values.ObjectKind.TheVariants as ObjectKinds
use Rattle.payloads.specs.RoaFormats.{IsRoa}
use Rattle.payloads.specs.ManifestFormats.{IsManifest}
use Rattle.issue_values.specs.Bodies.{roa_of, manifest_value_of}
use Rattle.issue_sign.specs.Signed.{IsCertificate, IsCrlOf, IsObject}
use Rattle.issue_sign.specs.Objects.{Answers, Signed, Entries, Files, bytes_of}
use Rattle.issue_sign.specs.Objects.{manifest_bytes, certificate, roa_certificate, roa_content}
use Rattle.issue_sign.specs.Objects.{crl_of, number_of, manifest_certificate, manifest_content}

-- All that the making of an edition went through: the keys, the objects in their order with the
-- signers' answers, the entries of CRLs and the files of manifests.
pub record IssuingTrace : Type 0 where
  pub keys : Keys
  pub objects : List Signed
  pub listed : List Signed
  pub entries : Entries
  pub files : Files

abbrev pub all_of : IssueInput → IssuingTrace → List Draft
all_of s trace = drafts s trace.keys

-- All that is put.
abbrev pub puts_of : IssueInput → IssuingTrace → List Draft
puts_of s trace = all_of s trace ++ manifests s trace.keys

-- The keys of an edition over those rows: none that was made has the identifier of a live one or
-- of another one that was made.
pub record AreKeys (s : IssueInput) (rows : List KeyRow) (keys : Keys) : Type 0 where
  pub kept : keys.kept ≡ kept_rows s.work rows
  pub fresh : AreFresh s.work.new_keys keys.fresh
  pub apart : AreApart (map id_of rows) keys.fresh

-- The entries of each key's CRL.
abbrev pub AreEntries : IssueInput → IssuingTrace → Type 0
AreEntries s trace =
    All (λ key. AreFirsts (candidates s trace.keys (puts_of s trace) key) (trace.entries key))
    (all_keys trace.keys)

-- An object that is no manifest, with its hash.
abbrev pub hashed : IssueInput → IssuingTrace → Signed → Draft × List ℕ
hashed s trace x =
    (x.draft, sha256 (bytes_of s trace.keys (all_of s trace) trace.entries x))

-- The files of a key's manifest: what the key issued that stays, and what is made under it.
abbrev pub AreFiles : IssueInput → IssuingTrace → KeyRow → List (List ℕ × List ℕ) → Type 0
AreFiles s trace key files =
    AreMerged (kept_files s (puts_of s trace) key)
    (made_files s key (map (hashed s trace) trace.objects)) files

-- The files of each manifest.
abbrev pub AreListed : IssueInput → IssuingTrace → Type 0
AreListed s trace =
    All (λ x. AreFiles s trace x.draft.issuer (trace.files x.draft.issuer)) trace.listed

pub record IsIssuingTrace (s : IssueInput) (rows : List KeyRow) (trace : IssuingTrace)
    : Type 0 where
  pub keys : AreKeys s rows trace.keys
  pub objects : AreOrdered (all_of s trace) (map (λ x. x.draft) trace.objects)
  pub listed : AreOrdered (manifests s trace.keys) (map (λ x. x.draft) trace.listed)
  pub entries : AreEntries s trace
  pub files : AreListed s trace

-- ---- what is put and withdrawn

abbrev pub final_bytes : IssueInput → IssuingTrace → Signed → Kind → List ℕ
final_bytes s trace x (Certificate subject held) =
    bytes_of s trace.keys (all_of s trace) trace.entries x
final_bytes s trace x (Roa origin) =
    bytes_of s trace.keys (all_of s trace) trace.entries x
final_bytes s trace x Crl = bytes_of s trace.keys (all_of s trace) trace.entries x
final_bytes s trace x Manifest =
    manifest_bytes s trace.keys (all_of s trace) trace.files x

abbrev pub made_of : IssuingTrace → List Signed
made_of trace = trace.objects ++ trace.listed

abbrev pub hash_at : IssueInput → List ℕ → Option (List ℕ)
hash_at s uri = found_at (λ row. row.uri) (λ row. row.hash) s.issued uri

abbrev pub put_of : IssueInput → IssuingTrace → Signed → Change
put_of s trace x = Put x.draft.uri (final_bytes s trace x x.draft.kind) (hash_at s x.draft.uri)

abbrev pub withdrawal_at : IssueInput → List ℕ → Option Change
withdrawal_at s uri =
    if list_any (λ w. bytes_eq w uri) s.work.withdrawn
    then option_map (λ hash. Withdraw uri hash) (hash_at s uri) else None

abbrev pub or_else : {T : Type 0} → Option T → Option T → Option T
or_else None other = other
or_else (Some x) other = Some x

abbrev pub wanted_at : IssueInput → IssuingTrace → List ℕ → Option Change
wanted_at s trace uri =
    or_else (found_at (λ x. x.draft.uri) (put_of s trace) (made_of trace) uri)
    (withdrawal_at s uri)

-- ---- the rows of what is put

abbrev pub life_of : Kind → ℕ
life_of (Certificate subject held) = certificate_life
life_of (Roa origin) = certificate_life
life_of Crl = point_life
life_of Manifest = point_life

abbrev pub serial_of : IssueInput → IssuingTrace → Draft → Kind → ℕ
serial_of s trace d (Certificate subject held) = serial_at (all_of s trace) d.issuer d.uri
serial_of s trace d (Roa origin) = serial_at (all_of s trace) d.issuer d.uri
serial_of s trace d Crl = 0
serial_of s trace d Manifest = serial_behind (all_of s trace) d.issuer

-- What the row says that the object is.
abbrev pub Says : Kind → What → Type 0
Says (Certificate subject held) (Whats.Authority key holding) =
    (key.bytes ≡ id_of subject) × (holding ≡ held)
Says (Certificate subject held) _ = ⊥
Says (Roa origin) (Whats.Route other) = other ≡ origin
Says (Roa origin) _ = ⊥
Says Crl what = what ≡ Whats.Point
Says Manifest what = what ≡ Whats.Point

pub record IsIssued (s : IssueInput) (trace : IssuingTrace) (x : Signed) (row : IssuedRow)
    : Type 0 where
  pub uri : row.uri ≡ x.draft.uri
  pub issuer : row.issuer.bytes ≡ id_of x.draft.issuer
  pub serial : row.serial ≡ serial_of s trace x.draft x.draft.kind
  pub not_after : row.not_after ≡ s.work.moment + life_of x.draft.kind
  pub hash : row.hash ≡ sha256 (final_bytes s trace x x.draft.kind)
  pub what : Says x.draft.kind row.what

-- ---- the keys' rows

abbrev pub row_after : IssueInput → IssuingTrace → KeyRow → KeyRow
row_after s trace key =
    if has_point s trace.keys key
    then record key {
      next_serial = serial_behind (all_of s trace) key + 1;
      number = key.number + 1;
      this_update = s.work.moment;
      revoked = trace.entries key;
    }
    else record key {
      next_serial = serial_behind (all_of s trace) key;
      revoked = trace.entries key;
    }

abbrev pub rank : Role → ℕ
rank New = 0
rank Current = 1
rank Old = 2

-- By desk and role.
abbrev pub is_before : KeyRow → KeyRow → Bool
is_before a b = nat_lt a.desk b.desk || ((a.desk == b.desk) && nat_lt (rank a.role) (rank b.role))

-- ---- signatures

abbrev pub signatures_of : Kind → ℕ
signatures_of (Certificate subject held) = 1
signatures_of (Roa origin) = 2
signatures_of Crl = 1
signatures_of Manifest = 2

-- ---- spellings

-- What is put can be read back.
abbrev pub IsSpelled : IssueInput → IssuingTrace → Draft → Kind → Answers → Type 0
IsSpelled s trace d (Certificate subject held) a =
    IsCertificate (certificate s trace.keys (all_of s trace) d subject held) a.last
IsSpelled s trace d (Roa origin) a =
    IsRoa (roa_of origin) × IsObject ObjectKinds.Roa (roa_content origin)
    (roa_certificate s trace.keys (all_of s trace) d origin a.once) a.last a.once a.content
IsSpelled s trace d Crl a = IsCrlOf (crl_of s trace.entries d.issuer) a.last
IsSpelled s trace d Manifest a =
    IsManifest (manifest_value_of s.work.moment (number_of d.issuer) (trace.files d.issuer))
    × IsObject ObjectKinds.Manifest (manifest_content s trace.files d.issuer)
    (manifest_certificate s trace.keys (all_of s trace) d a.once) a.last a.once a.content
