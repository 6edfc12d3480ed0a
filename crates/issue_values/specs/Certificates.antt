-- The certificates of an edition (RFC 6487 section 4, RFC 9286 section 5.1, RFC 9582 section 5).
use Rattle.std.specs.Prelude.{ℕ, ◌+◌, ◌-◌, ◌^◌, ◌≤◌, if◌then◌else◌, List, [], ◌∷◌}
use Rattle.std.specs.Prelude.{Option, None, Some}
use Rattle.res_sets.specs.declared.holdings.Resources.{Resources}
use Rattle.origins.specs.Prefix.{address_bits}
use Rattle.origins.specs.declared.Prefix.{Prefix}
use Rattle.key_ids.specs.Uris.{Bases, folder_of, notify_uri}
use Rattle.cert_obj.specs.declared.values.CertKind.TheVariants.{Anchor, Authority, EndEntity}
use Rattle.cert_obj.specs.Values.{CertValue, Sets, sets_of}
use Rattle.issue_values.specs.Publishers.{Publishing, crl_of, manifest_of}

-- How long certificates of authorities and of ROAs are valid: 52 weeks, in seconds.
abbrev pub certificate_life : ℕ
certificate_life = 31_449_600

-- How long a CRL and a manifest are, and the manifest's certificate: a day.
abbrev pub point_life : ℕ
point_life = 86_400

-- A moment at which an edition is made: from it on, all these have dates from 2000 to 9999. In
-- seconds since 1970.
pub record IsEditionMoment (moment : ℕ) : Type 0 where
  pub from : 946_684_800 ≤ moment
  pub to : moment ≤ 253_370_764_799

-- The trust anchor's certificate, which it signs itself (RFC 8630 section 2.3).
abbrev pub anchor_certificate : Bases → ℕ → Publishing → Resources → ℕ → CertValue
anchor_certificate site moment anchor held serial = record {
  serial = serial;
  issuer = anchor.id;
  not_before = moment;
  not_after = moment + certificate_life;
  key = anchor.key;
  kind = Anchor;
  held = Some (sets_of held);
  uris = record {
    crl = [];
    issuer = [];
    folder = folder_of site anchor.name;
    manifest = manifest_of site anchor;
    notify = notify_uri site;
    object = [];
  };
}

-- The certificate of another authority's key.
abbrev pub authority_certificate : Bases → ℕ → Publishing → Publishing → Resources → ℕ → CertValue
authority_certificate site moment issuer subject held serial = record {
  serial = serial;
  issuer = issuer.id;
  not_before = moment;
  not_after = moment + certificate_life;
  key = subject.key;
  kind = Authority;
  held = Some (sets_of held);
  uris = record {
    crl = crl_of site issuer;
    issuer = issuer.certificate;
    folder = folder_of site subject.name;
    manifest = manifest_of site subject;
    notify = notify_uri site;
    object = [];
  };
}

-- The certificate of a key that signs one object, which it names, and is valid so long.
abbrev pub entity_certificate :
    Bases → ℕ → ℕ → Publishing → List ℕ → Option Sets → List ℕ → ℕ → CertValue
entity_certificate site moment life issuer key held object serial = record {
  serial = serial;
  issuer = issuer.id;
  not_before = moment;
  not_after = moment + life;
  key = key;
  kind = EndEntity;
  held = held;
  uris = record {
    crl = crl_of site issuer;
    issuer = issuer.certificate;
    folder = [];
    manifest = [];
    notify = [];
    object = object;
  };
}

-- The addresses of a prefix, as the ends of their range.
abbrev pub prefix_span : Prefix → ℕ × ℕ
prefix_span p = (p.address, p.address + (2 ^ (address_bits p.v6 - p.length) - 1))

-- These addresses, and nothing else.
abbrev pub prefix_sets : Prefix → Sets
prefix_sets p = record {
  asn = [];
  v4 = if p.v6 then [] else prefix_span p ∷ [];
  v6 = if p.v6 then prefix_span p ∷ [] else [];
}

-- The certificate in a ROA: it holds exactly the prefix of the origin (RFC 9582 section 5).
abbrev pub roa_certificate : Bases → ℕ → Publishing → List ℕ → Prefix → List ℕ → ℕ → CertValue
roa_certificate site moment issuer key prefix object serial =
    entity_certificate site moment certificate_life issuer key (Some (prefix_sets prefix))
    object serial

-- The certificate in a key's manifest: it inherits (RFC 9286 section 5.1).
abbrev pub manifest_certificate : Bases → ℕ → Publishing → List ℕ → ℕ → CertValue
manifest_certificate site moment issuer key serial =
    entity_certificate site moment point_life issuer key None (manifest_of site issuer) serial
