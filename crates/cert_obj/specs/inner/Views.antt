-- What the formats see of what is read.
use Rattle.std.specs.Prelude.{ℕ, List, string_bytes, ◌⊎◌}
use Rattle.std.proofs.Common.{inl, inr}
use Rattle.cert_obj.specs.declared.uris.AccessUris.{AccessUris}
use Rattle.cert_obj.specs.declared.kinds.PublishedRead.{PublishedRead}
use Rattle.cert_obj.specs.declared.kinds.IssuedRead.{IssuedRead}
use Rattle.cert_obj.specs.declared.kinds.AuthorityRead.{AuthorityRead}
use Rattle.cert_obj.specs.declared.kinds.AuthorityRead.TheVariants.{Anchor, Issued}
use Rattle.cert_obj.specs.declared.kinds.EntityRead.{EntityRead}
use Rattle.cert_obj.specs.declared.kinds.ExtendedRead.{ExtendedRead}
use Rattle.cert_obj.specs.declared.reading.SubjectRead.{SubjectRead}
use Rattle.cert_obj.specs.declared.reading.BodyRead.{BodyRead}
use Rattle.cert_obj.specs.Values.{held_value, uris_value}
use Rattle.cert_obj.specs.Formats.{Published, Entity, Extended}

abbrev pub access_uris_value : AccessUris → List ℕ × (List ℕ × List ℕ)
access_uris_value p = (string_bytes p.folder, (string_bytes p.manifest, string_bytes p.notify))

abbrev pub published_value : PublishedRead → Published
published_value p = (access_uris_value p.places, held_value p.held)

abbrev pub issued_value : IssuedRead → List ℕ × (List ℕ × Published)
issued_value x = (string_bytes x.crl, (string_bytes x.issuer, published_value x.published))

abbrev pub authority_value : AuthorityRead → Published ⊎ (List ℕ × (List ℕ × Published))
authority_value (Anchor published) = inl (published_value published)
authority_value (Issued issued) = inr (issued_value issued)

abbrev pub entity_value : EntityRead → List ℕ × (List ℕ × Entity)
entity_value x =
    (string_bytes x.crl, (string_bytes x.issuer, (string_bytes x.object, held_value x.held)))

abbrev pub extended_value : ExtendedRead → Extended
extended_value e = record { kind = e.kind; held = held_value e.held; uris = uris_value e.uris }

abbrev pub subject_value : SubjectRead → List ℕ × (List ℕ × Extended)
subject_value s = (s.id, (s.key.bytes, extended_value s.extended))

abbrev pub body_value : BodyRead → (ℕ × ℕ) × (List ℕ × (List ℕ × Extended))
body_value b = ((b.not_before, b.not_after), subject_value b.subject)
