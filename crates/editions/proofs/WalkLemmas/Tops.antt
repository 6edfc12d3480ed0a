-- The certificate of the trust anchor's key is accepted.
use Rattle.std.proofs.Common.{◌≡◌, ℕ, ◌+◌, Bool, true, not, ◌&&◌, cond, Some, None, List, Ok, refl, sym, ap, subst, ◌∙◌, append_assoc}
use Rattle.std.specs.Prelude.{codes}
use Rattle.std.specs.Str.{bytes_eq}
use Rattle.std.proofs.lemmas.Bool.{and_from}
use Rattle.std.proofs.lemmas.Slice.Eq.{bytes_eq-Decides}
use Rattle.hex.specs.Hex.{encode_lower}
use Rattle.sha1.specs.Sha1.{sha1}
use Rattle.res_sets.specs.declared.holdings.Resources.{Resources}
use Rattle.key_ids.specs.Uris.{anchor_uri, folder_of, manifest_uri, notify_uri}
use Rattle.cert_obj.specs.Values.{CertValue, SignedCert, sets_of, is_issued}
use Rattle.pub_set.specs.Changes.{Contents}
use Rattle.rp_rules.specs.declared.rules.Rule.TheVariants as rule
use Rattle.rp_rules.specs.Checks.{Checked, ◌>>=◌, tested, found}
use Rattle.rp_rules.specs.Objects.{such, certificate_in, is_anchors}
use Rattle.rp_rules.specs.Holdings.{no_sets, held_under}
use Rattle.rp_rules.specs.Authorities.{Authority, manifest_in_folder}
use Rattle.rp_rules.specs.Certificates.{WalkContext, lies_in, anchor_tests, anchor_of, accepted_anchor}
use Rattle.issue_values.specs.Certificates.{certificate_life, anchor_certificate}
use Rattle.editions.proofs.WalkLemmas.Checks.{AllKept, tested-kept, found-there, handed-on}
use Rattle.editions.proofs.WalkLemmas.Point.{Seat, publishing, authority_with, same-bytes}

-- The key's certificate stands in its place, signed by the key itself, with those resources.
pub record HasAnchor (s : WalkContext) (k : Seat) (held : Contents) (set : Resources) : Type 0 where
  pub bytes : List ℕ
  pub there : held k.certificate ≡ Some bytes
  pub certificate : SignedCert
  pub read : certificate_in bytes ≡ Some certificate
  pub made : ℕ
  pub time : lies_in s.moment made (made + certificate_life) ≡ true
  pub serial : ℕ
  pub says : certificate.cert ≡ anchor_certificate s.bases made (publishing k) set serial
  pub issued : s.vouched k.key certificate.digest certificate.signature ≡ true

-- The trust anchor's.
abbrev pub ta : List ℕ
ta = codes "ta"

abbrev pub top_seat : WalkContext → Seat
top_seat s = record { key = s.anchor; name = ta; certificate = anchor_uri s.bases }

module _ (s : WalkContext) (held : Contents) (set : Resources) (has : HasAnchor s (top_seat s) held set) where
  abbrev uri : List ℕ
  uri = anchor_uri s.bases

  abbrev value : CertValue
  value = anchor_certificate s.bases has.made (publishing (top_seat s)) set has.serial

  abbrev with_value : CertValue → SignedCert
  with_value cert = record {
    cert = cert;
    digest = has.certificate.digest;
    signature = has.certificate.signature;
  }

  abbrev pub anchors_authority : Authority
  anchors_authority = anchor_of uri has.certificate

  abbrev manifest : List ℕ
  manifest = manifest_uri s.bases ta (sha1 s.anchor)

  kept-at : AllKept (anchor_tests s (with_value value))
  kept-at = (
    has.issued,
    (
      and_from (bytes_eq (sha1 s.anchor) (sha1 s.anchor)) (bytes_eq s.anchor s.anchor)
          (same-bytes (sha1 s.anchor)) (same-bytes s.anchor),
      (
        has.time,
        (
          refl,
          (
            and_from (bytes_eq (folder_of s.bases ta) (folder_of s.bases ta)
                && bytes_eq manifest (manifest_in_folder (folder_of s.bases ta) value))
                (bytes_eq (notify_uri s.bases) (notify_uri s.bases))
                (and_from (bytes_eq (folder_of s.bases ta) (folder_of s.bases ta))
                (bytes_eq manifest (manifest_in_folder (folder_of s.bases ta) value))
                (same-bytes (folder_of s.bases ta))
                ((bytes_eq-Decides manifest (manifest_in_folder (folder_of s.bases ta) value)).1
                (sym (append_assoc (folder_of s.bases ta) (encode_lower (sha1 s.anchor))
                (codes ".mft")))))
                (same-bytes (notify_uri s.bases)),
            tt,
          ),
        ),
      ),
    ),
  )

  kept-all : AllKept (anchor_tests s has.certificate)
  kept-all = subst (λ (cert : CertValue). AllKept (anchor_tests s (with_value cert)))
      (sym has.says) kept-at

  such-anchor : such is_anchors (certificate_in has.bytes) ≡ Some has.certificate
  such-anchor =
      ap (such is_anchors) has.read
      ∙ ap (λ (b : Bool). cond b (Some has.certificate) None)
      (ap (λ (cert : CertValue). not (is_issued cert.kind)) has.says)

  read-accepted : accepted_anchor s held ≡ Ok anchors_authority
  unfolding accepted_anchor
  read-accepted =
      let test : SignedCert → Checked Authority = λ c. tested uri (anchor_tests s c) (anchor_of uri c) in
      let shaped : List ℕ → Checked Authority = λ bytes.
      found uri rule.Shape (such is_anchors (certificate_in bytes)) >>= test in
      handed-on (found uri rule.Missing (held uri)) has.bytes shaped
      (found-there uri rule.Missing (held uri) has.bytes has.there)
      ∙ (handed-on (found uri rule.Shape (such is_anchors (certificate_in has.bytes)))
      has.certificate test
      (found-there uri rule.Shape (such is_anchors (certificate_in has.bytes)) has.certificate
      such-anchor)
      ∙ tested-kept uri (anchor_tests s has.certificate) anchors_authority kept-all)

  top-accepted : accepted_anchor s held ≡ Ok (authority_with s (top_seat s) value (sets_of set))
  top-accepted =
      let of : CertValue → Checked Authority = λ cert. Ok (record {
        uri = anchor_uri s.bases;
        cert = cert;
        held = held_under no_sets cert.held;
      }) in
      read-accepted ∙ ap of has.says

-- The same of a key that is the trust anchor's.
pub anchor-accepted : (s : WalkContext) (k : Seat) (held : Contents) (set : Resources) → top_seat s ≡ k
    → (has : HasAnchor s k held set)
    → accepted_anchor s held ≡ Ok (authority_with s k
    (anchor_certificate s.bases has.made (publishing k) set has.serial) (sets_of set))
anchor-accepted s k held set same =
    subst (λ (x : Seat). (has : HasAnchor s x held set)
    → accepted_anchor s held ≡ Ok (authority_with s x
    (anchor_certificate s.bases has.made (publishing x) set has.serial) (sets_of set))) same
    (top-accepted s held set)
