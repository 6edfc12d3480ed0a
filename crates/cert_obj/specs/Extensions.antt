-- The formats of a certificate's extensions but for its resources (RFC 5280 section 4.2, RFC 6487
-- section 4.8), in the order in which they stand.
use Rattle.std.specs.Prelude.{ℕ, if◌then◌else◌, Option, Some, None, List, [], ◌∷◌}
use Rattle.der.specs.Tags as tag
use Rattle.der.specs.Form.{Whole, Front}
use Rattle.der.specs.Forms.{content, within, sole, both, only, preceded, tested}
use Rattle.der.specs.Leaves.{exactly}
use Rattle.object_parts.specs.declared.identifiers.TheConstants.{BASIC_CONSTRAINTS, SUBJECT_KEY_IDENTIFIER, KEY_USAGE, DISTRIBUTION_POINTS, AUTHORITY_INFORMATION, SUBJECT_INFORMATION, POLICIES, CA_ISSUERS, CA_REPOSITORY, RPKI_MANIFEST, RPKI_NOTIFY, SIGNED_OBJECT}
use Rattle.object_parts.specs.FrameFormats.{identifier, extension, critical_extension}
use Rattle.cert_obj.specs.Values.{is_uri}

-- basicConstraints: an authority's, without a length of paths (RFC 6487 section 4.8.1).
abbrev pub ca_true : List ℕ
ca_true = 0x30 ∷ 0x03 ∷ 0x01 ∷ 0x01 ∷ 0xff ∷ []

abbrev pub basic_constraints : Front (Unit {0})
basic_constraints = critical_extension BASIC_CONSTRAINTS (exactly ca_true)

-- subjectKeyIdentifier: that key's (section 4.8.2).
abbrev pub subject_key : List ℕ → Front (Unit {0})
subject_key key = extension SUBJECT_KEY_IDENTIFIER (sole tag.octet_string (exactly key))

-- keyUsage (section 4.8.4): an authority's key signs certificates and CRLs, an end-entity's key
-- objects.
abbrev pub authority_usage : List ℕ
authority_usage = 0x03 ∷ 0x02 ∷ 0x01 ∷ 0x06 ∷ []

abbrev pub entity_usage : List ℕ
entity_usage = 0x03 ∷ 0x02 ∷ 0x07 ∷ 0x80 ∷ []

abbrev pub key_usage : List ℕ → Front (Unit {0})
key_usage usage = critical_extension KEY_USAGE (exactly usage)

-- A URI, without its tag.
unfoldable pub uri : Whole (List ℕ)
uri = tested content is_uri

abbrev pub uri_in : List ℕ → Option (List ℕ)
uri_in bytes = if is_uri bytes then Some bytes else None

-- CRL distribution points: one, of one name, which is a URI (section 4.8.6).
unfoldable pub distribution_points : Whole (List ℕ)
distribution_points =
    sole tag.sequence (sole tag.sequence
    (sole tag.context_0 (sole tag.context_0 (sole tag.primitive_6 uri))))

abbrev pub distribution : Front (List ℕ)
distribution = extension DISTRIBUTION_POINTS distribution_points

-- What is found at a URI by that method of access (RFC 5280 section 4.2.2.1).
unfoldable pub access : List ℕ → Front (List ℕ)
access method = within tag.sequence (preceded (identifier method) (sole tag.primitive_6 uri))

-- Authority information access: the issuer's certificate (RFC 6487 section 4.8.7).
unfoldable pub issuer_access_uris : Whole (List ℕ)
issuer_access_uris = sole tag.sequence (only (access CA_ISSUERS))

abbrev pub issuer_information : Front (List ℕ)
issuer_information = extension AUTHORITY_INFORMATION issuer_access_uris

-- Subject information access of an authority: its folder, its manifest (section 4.8.8.1) and the
-- notification file (RFC 8182 section 3.2).
unfoldable pub authority_access_uris : Whole (List ℕ × (List ℕ × List ℕ))
authority_access_uris =
    sole tag.sequence (both (access CA_REPOSITORY)
    (both (access RPKI_MANIFEST) (only (access RPKI_NOTIFY))))

abbrev pub authority_information : Front (List ℕ × (List ℕ × List ℕ))
authority_information = extension SUBJECT_INFORMATION authority_access_uris

-- Subject information access of an end-entity: its object (section 4.8.8.2).
unfoldable pub entity_access_uris : Whole (List ℕ)
entity_access_uris = sole tag.sequence (only (access SIGNED_OBJECT))

abbrev pub entity_information : Front (List ℕ)
entity_information = extension SUBJECT_INFORMATION entity_access_uris

-- Policies: the RPKI's, without qualifiers (section 4.8.9, RFC 6484 section 1.2).
abbrev pub rpki_policies : List ℕ
rpki_policies =
    0x30 ∷ 0x0c ∷ 0x30 ∷ 0x0a ∷ 0x06 ∷ 0x08 ∷
    0x2b ∷ 0x06 ∷ 0x01 ∷ 0x05 ∷ 0x05 ∷ 0x07 ∷ 0x0e ∷ 0x02 ∷ []

abbrev pub policies : Front (Unit {0})
policies = critical_extension POLICIES (exactly rpki_policies)
