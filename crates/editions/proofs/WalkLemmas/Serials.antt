-- What an edition holds under a key isn't revoked by its own CRL.
use Rattle.std.proofs.Common.{◌≡◌, ℕ, ◌+◌, ◌==◌, Bool, true, false, cond, Option, Some, None, List, [], ◌∷◌, ◌++◌, length, map, take, Contains, sym, ap, subst, ◌∙◌, arith, inr}
use Rattle.std.proofs.lemmas.Bool.{eqb-true, false_from_ne_true}
use Rattle.std.proofs.lemmas.Option.{same_Some}
use Rattle.std.proofs.lemmas.List.{take_all, length-append}
use Rattle.std.proofs.lemmas.List.Folds.{Any-from_list_any}
use Rattle.key_roll.specs.declared.rows.RevokedRow.{RevokedRow}
use Rattle.cert_obj.specs.Values.{SignedCert}
use Rattle.crl_obj.specs.declared.values.CrlEntry.{CrlEntry}
use Rattle.cms_obj.specs.declared.values.ObjectKind.{ObjectKind}
use Rattle.cms_obj.specs.Values.{ObjectValue}
use Rattle.payloads.specs.ManifestReading.{manifest_read}
use Rattle.payloads.specs.RoaReading.{roa_read}
use Rattle.rp_rules.specs.Objects.{Signed, SignedManifest, SignedRoa, value_in, such, signed_with, signed_of, certificate_in, object_in, is_entitys, is_manifest, is_roa, manifest_in, roa_in}
use Rattle.rp_rules.specs.Certificates.{is_revoked}
use Rattle.issue_values.specs.Bodies.{crl_entry}
use Rattle.editions.specs.Edition.{Edition, set_after}
use Rattle.editions.specs.Held.{certificate_inside, HasCertificate, IsHeld, HaveOwnSerials}
use Rattle.editions.specs.Superseded.{AreSuperseded}
use Rattle.items.specs.laws.AmongLaws.{map-in, contains-in, in-contains}

-- ---- the certificate inside an object

signed-inside : {Body : Type 0} (is_kind : ObjectKind → Bool) (body : List ℕ → Option Body)
    (o : Option ObjectValue) (x : Signed Body) → signed_of is_kind body o ≡ Some x
    → certificate_inside o ≡ Some x.certificate
signed-inside is_kind body None x e = absurd cc
signed-inside {Body} is_kind body (Some object) x e = by (is_kind object.kind) e
  where
    passed : (t : Bool) (c : SignedCert) (b : Option Body)
        → signed_with object (cond t (Some c) None) b ≡ Some x → c ≡ x.certificate
    passed false c b e = absurd cc
    passed true c None e = absurd cc
    passed true c (Some b) e =
        let made : Signed Body = record { object = object; certificate = c; body = b } in
        ap (λ (y : Signed Body). y.certificate) (same_Some made x e)

    with : (oc : Option SignedCert) (b : Option Body)
        → signed_with object (such is_entitys oc) b ≡ Some x → oc ≡ Some x.certificate
    with None b e = absurd cc
    with (Some c) b e = ap (λ (y : SignedCert). Some y) (passed (is_entitys c) c b e)

    by : (t : Bool)
        → cond t (signed_with object (such is_entitys (certificate_in object.certificate))
        (body object.content)) None ≡ Some x
        → certificate_in object.certificate ≡ Some x.certificate
    by false e = absurd cc
    by true e = with (certificate_in object.certificate) (body object.content) e

pub manifest-has : (bytes : List ℕ) (x : SignedManifest) → manifest_in bytes ≡ Some x
    → HasCertificate bytes x.certificate
manifest-has bytes x e =
    inr (signed-inside is_manifest (λ content. value_in (manifest_read content)) (object_in bytes) x e)

pub roa-has : (bytes : List ℕ) (x : SignedRoa) → roa_in bytes ≡ Some x
    → HasCertificate bytes x.certificate
roa-has bytes x e =
    inr (signed-inside is_roa (λ content. value_in (roa_read content)) (object_in bytes) x e)

-- ---- no entry has its serial

module _ (editions : List Edition) (edition : Edition) (id : List ℕ) (entries : List RevokedRow)
    (own : HaveOwnSerials (editions ++ edition ∷ []) id)
    (are : AreSuperseded (editions ++ edition ∷ []) (length editions) id entries) where
  abbrev all : List Edition
  all = editions ++ edition ∷ []

  all-taken : take (length editions + 1) all ≡ all
  all-taken =
      let long = length-append editions (edition ∷ []) in
      take_all (length editions + 1) all (omega (arith, long))

  no-entry : (c : SignedCert) → IsHeld (set_after all) id c → (row : RevokedRow)
      → Contains entries row → row.serial ≡ c.cert.serial → ⊥
  no-entry c held row inside serial =
      let is = are.each row inside in
      let now : IsHeld (set_after (take (length editions + 1) all)) id c =
      subst (λ (l : List Edition). IsHeld (set_after l) id c) (sym all-taken) held in
      let same : is.0 ≡ c = own is.1.superseded.earlier (length editions) is.0 c
      is.1.superseded.life is.1.superseded.held now (sym is.1.serial ∙ serial) in
      is.1.superseded.gone
      (subst (λ (x : SignedCert). IsHeld (set_after (take (length editions + 1) all)) id x)
      (sym same) now)

  pub unrevoked : (c : SignedCert) → IsHeld (set_after all) id c
      → is_revoked (map crl_entry entries) c.cert.serial ≡ false
  unrevoked c held =
      false_from_ne_true (is_revoked (map crl_entry entries) c.cert.serial) (λ e.
      let any = Any-from_list_any (λ (entry : CrlEntry). entry.serial == c.cert.serial)
      (map crl_entry entries) e in
      let row = map-in crl_entry any.1 entries
      (contains-in any.1 (map crl_entry entries) (any.0, any.2, any.3)) in
      no-entry c held row.0 (in-contains row.0 entries row.1)
      (ap (λ (entry : CrlEntry). entry.serial) row.2
      ∙ eqb-true any.1.serial c.cert.serial any.4))
