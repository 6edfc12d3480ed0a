-- What contracts see of what is read.
use Rattle.std.specs.Prelude.{ℕ, List, string_bytes}
use Rattle.pub_set.specs.Objects.{content_at}
use Rattle.pub_set.specs.Changes.{Contents}
use Rattle.cert_obj.specs.Values.{cert_value, read_value, sets_of}
use Rattle.crl_obj.specs.Values.{crl_value}
use Rattle.cms_obj.specs.Values.{object_value}
use Rattle.payloads.specs.ManifestReading.{manifest_view}
use Rattle.payloads.specs.RoaReading.{roa_view}
use Rattle.signer_api.specs.State.{SignerState}
use Rattle.rp_rules.specs.Objects.{SignedManifest, SignedRoa}
use Rattle.rp_rules.specs.Authorities.{Authority}
use Rattle.rp_rules.specs.Certificates.{WalkContext}
use Rattle.rp_rules.specs.Points.{Point}
use Rattle.rp_audit.specs.Audit.{asking}
use Rattle.rp_audit.specs.declared.scene.Scene.{Scene}
use Rattle.rp_audit.specs.declared.authority.Authority.{Authority as Accepted}
use Rattle.rp_audit.specs.declared.signed.ReadManifest.{ReadManifest}
use Rattle.rp_audit.specs.declared.signed.ReadRoa.{ReadRoa}
use Rattle.rp_audit.specs.declared.signed.Listing.{Listing}

-- How a scene is looked at where these signers are asked, and its objects.
abbrev pub context_of : Scene → List SignerState → WalkContext
context_of scene signers = asking signers scene.anchor.now.bytes scene.site.now scene.moment

abbrev pub held_in : Scene → Contents
held_in scene = content_at scene.set.now

abbrev pub authority_value : Accepted → Authority
authority_value a =
    record { uri = string_bytes a.uri; cert = cert_value a.cert; held = sets_of a.held }

abbrev pub manifest_value : ReadManifest → SignedManifest
manifest_value m = record {
  object = object_value m.object;
  certificate = read_value m.certificate;
  body = manifest_view m.body;
}

abbrev pub roa_value : ReadRoa → SignedRoa
roa_value r = record {
  object = object_value r.object;
  certificate = read_value r.certificate;
  body = roa_view r.body;
}

abbrev pub point_value : Accepted → Listing → Point
point_value a p = record {
  authority = authority_value a;
  manifest = manifest_value p.manifest;
  crl = crl_value p.crl;
}
