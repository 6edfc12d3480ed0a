-- What the values of the code are drafts of.
use Rattle.std.specs.Prelude.{◌≡◌, List, Some}
use Rattle.std.specs.List.{slice_get}
use Rattle.key_roll.specs.declared.rows.KeyRow.{KeyRow}
use Rattle.issue_drafts.specs.declared.draft.KeyAt.{KeyAt}
use Rattle.issue_drafts.specs.declared.draft.Draft as code
use Rattle.issue_drafts.specs.declared.draft.DraftKind as kinds
use Rattle.issue_drafts.specs.declared.draft.DraftKind.TheVariants as variants
use Rattle.issue_drafts.specs.declared.draft.ManifestDraft as manifests
use Rattle.issue_drafts.specs.Drafts.{Draft, Kind}
use Rattle.issue_drafts.specs.Drafts.Kind.{Certificate, Roa, Crl, Manifest}

abbrev pub kind_of : kinds.DraftKind → Kind
kind_of (variants.Authority subject held) = Certificate subject.row.now held.now
kind_of (variants.Route origin) = Roa origin
kind_of variants.Crl = Crl

abbrev pub draft_of : code.Draft → Draft
draft_of d = record { uri = d.uri; issuer = d.issuer.row.now; kind = kind_of d.kind }

abbrev pub manifest_of : manifests.ManifestDraft → Draft
manifest_of d = record { uri = d.uri; issuer = d.issuer.row.now; kind = Manifest }

-- The key stands at that position.
abbrev pub IsPositioned : List KeyRow → KeyAt → Type 0
IsPositioned rows k = slice_get rows k.position ≡ Some k.row.now

-- The subject of a certificate stands at its position.
abbrev pub IsSubjectPositioned : List KeyRow → kinds.DraftKind → Type 0
IsSubjectPositioned rows (variants.Authority subject held) = IsPositioned rows subject
IsSubjectPositioned rows (variants.Route origin) = Unit {0}
IsSubjectPositioned rows variants.Crl = Unit {0}

-- Each key of a draft stands at its position.
pub record IsDraftPositioned (rows : List KeyRow) (d : code.Draft) : Type 0 where
  pub issuer : IsPositioned rows d.issuer
  pub subject : IsSubjectPositioned rows d.kind
