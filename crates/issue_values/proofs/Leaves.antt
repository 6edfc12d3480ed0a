-- Certificates, CRLs and bodies of an edition have spellings.
use Rattle.std.proofs.Common.{◌≡◌, ℕ, ◌<◌, ◌≤◌, ◌+◌, ◌^◌, true, List, [], ◌∷◌, length, map, Option, Some, None, refl, sym, subst, ap, ◌∙◌, arith}
use Rattle.moments.specs.Civil.{IsMoment}
use Rattle.res_sets.specs.declared.holdings.Resources.{Resources}
use Rattle.key_ids.specs.Base.{rsync_scheme, https_scheme}
use Rattle.key_ids.specs.Uris.{Bases}
use Rattle.signer_api.specs.PublicKey.{IsPublicKey}
use Rattle.origins.specs.declared.Prefix.{Prefix}
use Rattle.key_roll.specs.declared.rows.RevokedRow.{RevokedRow}
use Rattle.crl_obj.specs.declared.values.CrlEntry.{CrlEntry}
use Rattle.crl_obj.specs.Values.{CrlValue, IsCrl, IsEntry, are_rising}
use Rattle.der.specs.Grammar.{AreBytes}
use Rattle.der.specs.Forms.{AreAll}
use Rattle.issue_values.specs.Bodies.{crl_entry, AreRevoked}
use Rattle.cert_obj.specs.Values.{IsCert, IsHeld, Sets, is_uri, sets_of, has_no_numbers}
use Rattle.issue_values.specs.Publishers.{Publishing, CanPublish, manifest_of}
use Rattle.issue_values.specs.Certificates.{IsEditionMoment, certificate_life, point_life, anchor_certificate, authority_certificate, entity_certificate, prefix_sets, roa_certificate, manifest_certificate}
use Rattle.issue_values.proofs.UriTexts.{folder-uri, crl-uri, manifest-uri, notify-uri}

at-first : (moment : ℕ) → IsEditionMoment moment → IsMoment moment
at-first moment h = let from = h.from in let to = h.to in record { from = from; to = omega arith }

-- So long after the moment of an edition.
pub so-long : (moment life : ℕ) → IsEditionMoment moment → life ≤ 31_449_600 → IsMoment (moment + life)
so-long moment life h short = let from = h.from in let to = h.to in record { from = omega arith; to = omega arith }

pub anchor-spelled : (site : Bases) (moment : ℕ) (anchor : Publishing) (held : Resources) (serial : ℕ) → CanPublish site anchor → IsEditionMoment moment → IsHeld (Some (sets_of held)) → serial < 2 ^ 64 → IsCert (anchor_certificate site moment anchor held serial)
anchor-spelled site moment anchor held serial can at is small = record {
  serial = small;
  issuer = can.id;
  not_before = at-first moment at;
  not_after = so-long moment certificate_life at (omega arith);
  key = can.key;
  held = is;
  fitting = refl;
  uris = record {
    crl = refl;
    issuer = refl;
    folder = folder-uri site rsync_scheme anchor.name can.rsync can.name;
    manifest = manifest-uri site rsync_scheme anchor.name anchor.id can.rsync can.name;
    notify = notify-uri site https_scheme can.rrdp;
    object = refl;
  };
}

pub authority-spelled : (site : Bases) (moment : ℕ) (issuer subject : Publishing) (held : Resources) (serial : ℕ) → CanPublish site issuer → is_uri issuer.certificate ≡ true → CanPublish site subject → IsEditionMoment moment → IsHeld (Some (sets_of held)) → serial < 2 ^ 64 → IsCert (authority_certificate site moment issuer subject held serial)
authority-spelled site moment issuer subject held serial by named can at is small = record {
  serial = small;
  issuer = by.id;
  not_before = at-first moment at;
  not_after = so-long moment certificate_life at (omega arith);
  key = can.key;
  held = is;
  fitting = refl;
  uris = record {
    crl = crl-uri site rsync_scheme issuer.name issuer.id by.rsync by.name;
    issuer = named;
    folder = folder-uri site rsync_scheme subject.name can.rsync can.name;
    manifest = manifest-uri site rsync_scheme subject.name subject.id can.rsync can.name;
    notify = notify-uri site https_scheme can.rrdp;
    object = refl;
  };
}

pub entity-spelled : (site : Bases) (moment life : ℕ) (issuer : Publishing) (key : List ℕ) (held : Option Sets) (object : List ℕ) (serial : ℕ) → CanPublish site issuer → is_uri issuer.certificate ≡ true → IsEditionMoment moment → life ≤ 31_449_600 → IsPublicKey key → IsHeld held → has_no_numbers held ≡ true → is_uri object ≡ true → serial < 2 ^ 64 → IsCert (entity_certificate site moment life issuer key held object serial)
entity-spelled site moment life issuer key held object serial by named at short is-key is fits uri small = record {
  serial = small;
  issuer = by.id;
  not_before = at-first moment at;
  not_after = so-long moment life at short;
  key = is-key;
  held = is;
  fitting = fits;
  uris = record {
    crl = crl-uri site rsync_scheme issuer.name issuer.id by.rsync by.name;
    issuer = named;
    folder = refl;
    manifest = refl;
    notify = refl;
    object = uri;
  };
}

-- Such a certificate is what its key, its resources and its object are.
pub entity-same : (site : Bases) (moment life : ℕ) (issuer : Publishing) (serial : ℕ) (a b : List ℕ) (h g : Option Sets) (o p : List ℕ) → a ≡ b → h ≡ g → o ≡ p → entity_certificate site moment life issuer a h o serial ≡ entity_certificate site moment life issuer b g p serial
entity-same site moment life issuer serial a b h g o p key held object =
    ap (λ (x : List ℕ). entity_certificate site moment life issuer x h o serial) key
    ∙ ap (λ (x : Option Sets). entity_certificate site moment life issuer b x o serial) held
    ∙ ap (λ (x : List ℕ). entity_certificate site moment life issuer b g x serial) object

pub roa-spelled : (site : Bases) (moment : ℕ) (issuer : Publishing) (key : List ℕ) (prefix : Prefix) (held : Option Sets) (object : List ℕ) (serial : ℕ) → CanPublish site issuer → is_uri issuer.certificate ≡ true → IsEditionMoment moment → IsPublicKey key → held ≡ Some (prefix_sets prefix) → IsHeld held → is_uri object ≡ true → serial < 2 ^ 64 → IsCert (roa_certificate site moment issuer key prefix object serial)
roa-spelled site moment issuer key prefix held object serial by named at is-key same is uri small =
    entity-spelled site moment certificate_life issuer key (Some (prefix_sets prefix)) object serial by named at (omega arith) is-key (subst IsHeld same is) refl uri small

pub manifest-spelled : (site : Bases) (moment : ℕ) (issuer : Publishing) (key : List ℕ) (serial : ℕ) → CanPublish site issuer → is_uri issuer.certificate ≡ true → IsEditionMoment moment → IsPublicKey key → serial < 2 ^ 64 → IsCert (manifest_certificate site moment issuer key serial)
manifest-spelled site moment issuer key serial by named at is-key small =
    entity-spelled site moment point_life issuer key None (manifest_of site issuer) serial by named at (omega arith) is-key tt refl (manifest-uri site rsync_scheme issuer.name issuer.id by.rsync by.name) small

-- ---- CRLs

dated-entries : (moment : ℕ) (rows : List RevokedRow) → moment ≤ 253_370_764_799 → AreAll (λ row. (946_684_800 ≤ row.revoked_at) × (row.revoked_at ≤ moment)) rows → AreAll (λ e. IsMoment e.revoked_at) (map crl_entry rows)
dated-entries moment [] few dated = tt
dated-entries moment (row ∷ rows) few dated =
    let from = dated.0.0 in
    let to = dated.0.1 in
    (record { from = from; to = omega arith }, dated-entries moment rows few dated.1)

both-hold : (es : List CrlEntry) → AreAll (λ e. e.serial < 2 ^ 64) es → AreAll (λ e. IsMoment e.revoked_at) es → AreAll IsEntry es
both-hold [] serials dated = tt
both-hold (e ∷ es) serials dated = (record { serial = serials.0; revoked_at = dated.0 }, both-hold es serials.1 dated.1)

abbrev pub crl_with : ℕ → List ℕ → ℕ → List CrlEntry → CrlValue
crl_with moment id number es = record {
  issuer = id;
  this_update = moment;
  next_update = moment + point_life;
  number = number;
  entries = es;
}

pub crl-spelled : (moment : ℕ) (id : List ℕ) (number : ℕ) (rows : List RevokedRow) (es : List CrlEntry) → IsEditionMoment moment → AreRevoked moment rows → (length id ≡ 20) × AreBytes id → number < 2 ^ 64 → es ≡ map crl_entry rows → AreAll (λ e. e.serial < 2 ^ 64) es → IsCrl (crl_with moment id number es)
crl-spelled moment id number rows es at revoked is small same serials = record {
  issuer = is;
  this_update = at-first moment at;
  next_update = so-long moment point_life at (omega arith);
  number = small;
  entries =
      both-hold es serials
      (subst (λ (l : List CrlEntry). AreAll (λ e. IsMoment e.revoked_at) l) (sym same) (dated-entries moment rows at.to revoked.dated));
  rising = subst (λ (l : List CrlEntry). are_rising l ≡ true) (sym same) revoked.rising;
}
