-- The laws of the formats of signed objects.
use Rattle.std.proofs.Common.{◌≡◌, ℕ, Bool, true, false, cond, Some, None, List, [], ◌∷◌, ◌++◌, length, Ok, Err, refl, sym, ap, subst, ◌∙◌, inl, inr}
use Rattle.std.proofs.lemmas.Bool.{eq-eqb, eqb-true}
use Rattle.std.proofs.lemmas.List.{append-nil}
use Rattle.sha2.specs.Sha256.{sha256}
use Rattle.der.specs.Tags as tag
use Rattle.der.specs.Spelling.{spelled}
use Rattle.der.specs.declared.shape_fault.ShapeFault.{ShapeFault}
use Rattle.der.specs.declared.part.Part.{Part}
use Rattle.der.specs.Part.{Place, ◌>>=◌, sole_at, place}
use Rattle.der.specs.laws.PlaceLaws.{part-place}
use Rattle.der.specs.Form.{Whole, IsWhole, IsFront}
use Rattle.der.specs.Forms.{content, leaf, within, sole, both, after, only, preceded, followed}
use Rattle.der.specs.Leaves.{fixed, exactly, are_same}
use Rattle.der.specs.laws.FormLaws.{same-ok, not-both, not-err, bind-ok, bind-err, told-fewer, leaf-law, content-law, within-law}
use Rattle.der.specs.laws.SequenceLaws.{after-law, both-law, only-law}
use Rattle.der.specs.laws.FrameLaws.{sole-again, sole-taken, sole-header, sole-law, preceded-law, followed-law, framed-law}
use Rattle.der.specs.laws.ValueLaws.{IsBijection, mapped-law}
use Rattle.der.specs.laws.LeafLaws.{exactly-law, constant-law, fixed-law, same-lists}
use Rattle.object_parts.specs.declared.identifiers.TheConstants.{SIGNED_DATA, CONTENT_TYPE, MESSAGE_DIGEST, SIGNING_TIME, ROA_CONTENT, MANIFEST_CONTENT}
use Rattle.object_parts.specs.TimeFormats.{time}
use Rattle.object_parts.specs.laws.TimeLaws.{time-law}
use Rattle.object_parts.specs.FrameFormats.{identifier, key_algorithm, digest_algorithm}
use Rattle.object_parts.specs.laws.FrameLaws.{identifier-law, attribute-law, key_algorithm-law, digest_algorithm-law}
use Rattle.cms_obj.specs.declared.values.ObjectKind.{ObjectKind}
use Rattle.cms_obj.specs.declared.values.ObjectKind.TheVariants.{Manifest, Roa}
use Rattle.cms_obj.specs.Values.{ObjectValue, IsElement}
use Rattle.cms_obj.specs.Formats.{kind_identifier, kind_in, kind, encapsulated, element_bytes, certificates, content_type, signing_time, message_digest, attributes, signed_attributes, under_set, version, signer, signature, signed, signers, digest_algorithms, behind_content, Parts, signed_data, of_parts, parts_of, IsSignedObject, signed_object}

-- ---- the content and the certificate

kind-again : (k : ObjectKind) → kind_in (kind_identifier k) ≡ Some k
kind-again Manifest = refl
kind-again Roa = refl

kind-taken : (a b : Bool) (bytes : List ℕ) (k : ObjectKind) → are_same bytes MANIFEST_CONTENT ≡ a
    → are_same bytes ROA_CONTENT ≡ b → cond a (Some Manifest) (cond b (Some Roa) None) ≡ Some k
    → bytes ≡ kind_identifier k
kind-taken true b bytes k is other e = let same : Manifest ≡ k = cc in
    same-lists bytes MANIFEST_CONTENT is ∙ ap kind_identifier same
kind-taken false true bytes k is other e = let same : Roa ≡ k = cc in
    same-lists bytes ROA_CONTENT other ∙ ap kind_identifier same
kind-taken false false bytes k is other e = absurd cc

pub kind-law : IsFront kind
kind-law =
    within-law tag.object_identifier (leaf (λ (k : ObjectKind). Unit {0}) kind_identifier kind_in)
    (leaf-law (λ (k : ObjectKind). Unit {0}) kind_identifier kind_in (record {
      again = λ k good input. kind-again k;
      taken = λ k bytes input e. (
        tt,
        kind-taken (are_same bytes MANIFEST_CONTENT) (are_same bytes ROA_CONTENT) bytes k
            refl refl e,
      );
    }))

pub encapsulated-law : IsFront encapsulated
unfolding encapsulated
encapsulated-law =
    within-law tag.sequence (both kind (sole tag.context_0 (sole tag.octet_string content)))
    (both-law kind (sole tag.context_0 (sole tag.octet_string content)) kind-law
    (sole-law tag.context_0 (sole tag.octet_string content)
    (sole-law tag.octet_string content content-law)))

pub element_bytes-law : (tag : ℕ) → IsWhole (element_bytes tag)
element_bytes-law tag = record {
  again = λ x p good is e.
      let opened = sole-again tag p good.content is (e ∙ good.spelled) in
      rw opened (ap (λ (l : List ℕ). Ok l) e);
  taken = λ x p is e.
      let a = bind-ok (sole_at tag p) (λ q. Ok p.left) x e in
      let t = sole-taken tag p a.0 is a.1 in
      let c : List ℕ = t.opened.content in
      let left : p.left ≡ spelled tag c = t.opened.front.left
      ∙ ap (λ (l : List ℕ). spelled tag c ++ l) t.nothing ∙ append-nil (spelled tag c) in
      subst (λ (y : List ℕ). IsElement tag y × (p.left ≡ y)) (same-ok p.left x a.2)
      (record { content = c; short = is.input.short; spelled = left }, refl);
  fault = λ e p is h.
      elim (bind-err (sole_at tag p) (λ q. Ok p.left) e h) [
        | inl refused ↦
            told-fewer p e
            (λ bytes input t.
            record { value = t.good.content; good = tt; spelled = t.spelled ∙ t.good.spelled })
            (sole-header tag content p e is refused)
        | inr a ↦ absurd (not-err p.left e a.2)
      ];
}

pub certificates-law : IsFront certificates
unfolding certificates
certificates-law = within-law tag.context_0 (element_bytes tag.sequence)
    (element_bytes-law tag.sequence)

-- ---- the attributes

content_type-law : (k : ObjectKind) → IsFront (content_type k)
content_type-law k =
    attribute-law CONTENT_TYPE (sole tag.object_identifier (exactly (kind_identifier k)))
    (sole-law tag.object_identifier (exactly (kind_identifier k))
    (exactly-law (kind_identifier k)))

signing_time-law : IsFront signing_time
signing_time-law = attribute-law SIGNING_TIME (only time) (only-law time time-law)

message_digest-law : (hash : List ℕ) → IsFront (message_digest hash)
message_digest-law hash = attribute-law MESSAGE_DIGEST (sole tag.octet_string (exactly hash))
    (sole-law tag.octet_string (exactly hash) (exactly-law hash))

pub attributes-law : (k : ObjectKind) (hash : List ℕ) → IsWhole (attributes k hash)
unfolding attributes
attributes-law k hash =
    preceded-law (content_type k) (followed signing_time (only (message_digest hash)))
    (content_type-law k) tt
    (followed-law signing_time (only (message_digest hash)) signing_time-law
    (only-law (message_digest hash) (message_digest-law hash)) tt)

-- ---- the signer

signer-law : IsFront signer
signer-law = within-law tag.primitive_0 (fixed 20) (fixed-law 20)

signature-law : IsWhole signature
signature-law = preceded-law key_algorithm (sole tag.octet_string (fixed 256)) key_algorithm-law
    tt (sole-law tag.octet_string (fixed 256) (fixed-law 256))

pub signed-law : (k : ObjectKind) (hash : List ℕ) → IsWhole (signed k hash)
unfolding signed
signed-law k hash = framed-law tag.context_0 (attributes k hash) signature (attributes-law k hash)
    signature-law

pub signers-law : (k : ObjectKind) (hash : List ℕ) → IsWhole (signers k hash)
unfolding signers
signers-law k hash =
    sole-law tag.set_of
    (sole tag.sequence
    (preceded version (both signer (preceded digest_algorithm (signed k hash)))))
    (sole-law tag.sequence
    (preceded version (both signer (preceded digest_algorithm (signed k hash))))
    (preceded-law version (both signer (preceded digest_algorithm (signed k hash)))
    (constant-law tag.integer (3 ∷ [])) tt
    (both-law signer (preceded digest_algorithm (signed k hash)) signer-law
    (preceded-law digest_algorithm (signed k hash) digest_algorithm-law tt (signed-law k hash)))))

-- ---- the whole

digest_algorithms-law : IsFront digest_algorithms
digest_algorithms-law = within-law tag.set_of (only digest_algorithm)
    (only-law digest_algorithm digest_algorithm-law)

pub behind_content-law : (e : ObjectKind × List ℕ) → IsWhole (behind_content e)
unfolding behind_content
behind_content-law e = both-law certificates (signers e.0 (sha256 e.1)) certificates-law
    (signers-law e.0 (sha256 e.1))

pub signed_data-law : IsWhole signed_data
unfolding signed_data
signed_data-law =
    sole-law tag.sequence
    (preceded version (preceded digest_algorithms (after encapsulated behind_content)))
    (preceded-law version (preceded digest_algorithms (after encapsulated behind_content))
    (constant-law tag.integer (3 ∷ [])) tt
    (preceded-law digest_algorithms (after encapsulated behind_content) digest_algorithms-law tt
    (after-law encapsulated behind_content encapsulated-law (λ e good. behind_content-law e))))

abbrev with_digest : ObjectValue → List ℕ → ObjectValue
with_digest v digest = record {
  kind = v.kind;
  content = v.content;
  certificate = v.certificate;
  signer = v.signer;
  moment = v.moment;
  digest = digest;
  signature = v.signature;
}

abbrev with_attributes : Parts → List ℕ → Parts
with_attributes x bytes = (x.0, (x.1.0, (x.1.1.0, (x.1.1.1.0, bytes, x.1.1.1.2))))

object-parts : IsBijection signed_data.good of_parts parts_of IsSignedObject
unfolding encapsulated certificates attributes signed_attributes signed signers behind_content
    signed_data spelled
object-parts = record {
  back = λ v good. (
    (
      (tt, tt),
      (
        good.certificate,
        (
          (tt, eq-eqb (length v.signer) 20 good.signer),
          (good.moment, refl, (tt, eq-eqb (length v.signature) 256 good.signature)),
        ),
      ),
    ),
    ap (with_digest v) (sym good.digest),
  );
  there = λ x good. (
    record {
      certificate = good.1.0;
      signer = eqb-true (length x.1.1.0) 20 good.1.1.0.1;
      moment = good.1.1.1.0;
      digest = ap (λ (b : List ℕ). sha256 (under_set b)) good.1.1.1.1;
      signature = eqb-true (length x.1.1.1.2) 256 good.1.1.1.2.1;
    },
    ap (with_attributes x) (sym good.1.1.1.1),
  );
}

pub signed_object-law : IsWhole signed_object
unfolding signed_object
signed_object-law =
    mapped-law
    (sole tag.sequence (preceded (identifier SIGNED_DATA) (sole tag.context_0 signed_data)))
    of_parts parts_of IsSignedObject
    (sole-law tag.sequence (preceded (identifier SIGNED_DATA) (sole tag.context_0 signed_data))
    (preceded-law (identifier SIGNED_DATA) (sole tag.context_0 signed_data)
    (identifier-law SIGNED_DATA) tt
    (sole-law tag.context_0 signed_data signed_data-law)))
    object-parts

-- ---- one whole element

-- What is opened with nothing behind it is one whole element.
pub element_found : (tag : ℕ) (part : Part) (i : Place) → sole_at tag (place part) ≡ Ok i
    → IsElement tag part.bytes.now
element_found tag part i e =
    let read : (element_bytes tag).read (place part) ≡ Ok part.bytes.now = rw e refl in
    ((element_bytes-law tag).taken part.bytes.now (place part) (part-place part) read).0

-- And each whole element is opened.
pub element_only : (tag : ℕ) (part : Part) (e : ShapeFault) → sole_at tag (place part) ≡ Err e
    → IsElement tag part.bytes.now → ⊥
element_only tag part e h is =
    let read : (element_bytes tag).read (place part) ≡ Err e = rw h refl in
    not-both ((element_bytes tag).read (place part)) part.bytes.now e
    ((element_bytes-law tag).again part.bytes.now (place part) is (part-place part) refl) read
