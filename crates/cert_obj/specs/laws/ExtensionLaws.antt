-- The laws of the formats of the extensions.
use Rattle.std.proofs.Common.{List, ℕ}
use Rattle.der.specs.Tags as tag
use Rattle.der.specs.Form.{IsWhole, IsFront}
use Rattle.der.specs.Forms.{content, sole, both, only, preceded}
use Rattle.der.specs.Leaves.{exactly}
use Rattle.der.specs.laws.FormLaws.{content-law, within-law}
use Rattle.der.specs.laws.SequenceLaws.{both-law, only-law}
use Rattle.der.specs.laws.FrameLaws.{sole-law, preceded-law}
use Rattle.der.specs.laws.ValueLaws.{tested-law}
use Rattle.der.specs.laws.LeafLaws.{exactly-law}
use Rattle.object_parts.specs.declared.identifiers.TheConstants.{BASIC_CONSTRAINTS, SUBJECT_KEY_IDENTIFIER, KEY_USAGE, DISTRIBUTION_POINTS, AUTHORITY_INFORMATION, SUBJECT_INFORMATION, POLICIES, CA_ISSUERS, CA_REPOSITORY, RPKI_MANIFEST, RPKI_NOTIFY, SIGNED_OBJECT}
use Rattle.object_parts.specs.FrameFormats.{identifier}
use Rattle.object_parts.specs.laws.FrameLaws.{identifier-law, extension-law}
use Rattle.object_parts.specs.laws.FrameLaws.{critical_extension-law}
use Rattle.cert_obj.specs.Values.{is_uri}
use Rattle.cert_obj.specs.Extensions.{ca_true, basic_constraints, subject_key, key_usage, uri}
use Rattle.cert_obj.specs.Extensions.{distribution_points, distribution, access}
use Rattle.cert_obj.specs.Extensions.{issuer_access_uris, issuer_information}
use Rattle.cert_obj.specs.Extensions.{authority_access_uris, authority_information}
use Rattle.cert_obj.specs.Extensions.{entity_access_uris, entity_information, rpki_policies}
use Rattle.cert_obj.specs.Extensions.{policies}

pub basic_constraints-law : IsFront basic_constraints
basic_constraints-law = critical_extension-law BASIC_CONSTRAINTS (exactly ca_true)
    (exactly-law ca_true)

pub subject_key-law : (key : List ℕ) → IsFront (subject_key key)
subject_key-law key = extension-law SUBJECT_KEY_IDENTIFIER (sole tag.octet_string (exactly key))
    (sole-law tag.octet_string (exactly key) (exactly-law key))

pub key_usage-law : (usage : List ℕ) → IsFront (key_usage usage)
key_usage-law usage = critical_extension-law KEY_USAGE (exactly usage) (exactly-law usage)

pub uri-law : IsWhole uri
unfolding uri
uri-law = tested-law content is_uri content-law

pub distribution_points-law : IsWhole distribution_points
unfolding distribution_points
distribution_points-law =
    sole-law tag.sequence
    (sole tag.sequence (sole tag.context_0 (sole tag.context_0 (sole tag.primitive_6 uri))))
    (sole-law tag.sequence (sole tag.context_0 (sole tag.context_0 (sole tag.primitive_6 uri)))
    (sole-law tag.context_0 (sole tag.context_0 (sole tag.primitive_6 uri))
    (sole-law tag.context_0 (sole tag.primitive_6 uri) (sole-law tag.primitive_6 uri uri-law))))

pub distribution-law : IsFront distribution
distribution-law = extension-law DISTRIBUTION_POINTS distribution_points distribution_points-law

pub access-law : (method : List ℕ) → IsFront (access method)
unfolding access
access-law method =
    within-law tag.sequence (preceded (identifier method) (sole tag.primitive_6 uri))
    (preceded-law (identifier method) (sole tag.primitive_6 uri) (identifier-law method) tt
    (sole-law tag.primitive_6 uri uri-law))

pub issuer_access_uris-law : IsWhole issuer_access_uris
unfolding issuer_access_uris
issuer_access_uris-law = sole-law tag.sequence (only (access CA_ISSUERS))
    (only-law (access CA_ISSUERS) (access-law CA_ISSUERS))

pub issuer_information-law : IsFront issuer_information
issuer_information-law =
    extension-law AUTHORITY_INFORMATION issuer_access_uris issuer_access_uris-law

pub authority_access_uris-law : IsWhole authority_access_uris
unfolding authority_access_uris
authority_access_uris-law =
    sole-law tag.sequence
    (both (access CA_REPOSITORY) (both (access RPKI_MANIFEST) (only (access RPKI_NOTIFY))))
    (both-law (access CA_REPOSITORY) (both (access RPKI_MANIFEST) (only (access RPKI_NOTIFY)))
    (access-law CA_REPOSITORY)
    (both-law (access RPKI_MANIFEST) (only (access RPKI_NOTIFY)) (access-law RPKI_MANIFEST)
    (only-law (access RPKI_NOTIFY) (access-law RPKI_NOTIFY))))

pub authority_information-law : IsFront authority_information
authority_information-law =
    extension-law SUBJECT_INFORMATION authority_access_uris authority_access_uris-law

pub entity_access_uris-law : IsWhole entity_access_uris
unfolding entity_access_uris
entity_access_uris-law = sole-law tag.sequence (only (access SIGNED_OBJECT))
    (only-law (access SIGNED_OBJECT) (access-law SIGNED_OBJECT))

pub entity_information-law : IsFront entity_information
entity_information-law =
    extension-law SUBJECT_INFORMATION entity_access_uris entity_access_uris-law

pub policies-law : IsFront policies
policies-law = critical_extension-law POLICIES (exactly rpki_policies) (exactly-law rpki_policies)
