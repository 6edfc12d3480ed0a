-- The laws of what the objects have in common.
use Rattle.std.proofs.Common.{◌≡◌, ℕ, List, [], ◌∷◌, Ok, sym, ◌∙◌, ◌++◌}
use Rattle.der.specs.Tags as tag
use Rattle.der.specs.Spelling.{spelled}
use Rattle.der.specs.laws.ElementLaws.{one_element}
use Rattle.der.specs.Part.{◌>>=◌, open_at, sole_at}
use Rattle.der.specs.Form.{Whole, IsWhole, IsFront}
use Rattle.der.specs.Forms.{within, sole, preceded, framed}
use Rattle.der.specs.Leaves.{exactly, fixed, octet_bits}
use Rattle.der.specs.laws.FormLaws.{within-law}
use Rattle.der.specs.laws.FrameLaws.{sole-law, preceded-law, framed-law, bind-assoc, bind-alike, read_by-law, read_front_by-law}
use Rattle.der.specs.laws.LeafLaws.{constant-law, exactly-law, fixed-law, octet_bits-law}
use Rattle.object_parts.specs.declared.identifiers.TheConstants.{SIGNATURE_ALGORITHM, KEY_ALGORITHM, DIGEST_ALGORITHM, AUTHORITY_KEY_IDENTIFIER}
use Rattle.object_parts.specs.FrameFormats.{identifier, signature_algorithm, key_algorithm, digest_algorithm, is_critical, named_at, named, extension, attribute, critical_extension_at, critical_extension, signature, signed_at, signed, key_identifier, issuer_key_identifier, issuer_key, key_info}

pub identifier-law : (oid : List ℕ) → IsFront (identifier oid)
identifier-law oid = constant-law tag.object_identifier oid

pub signature_algorithm-law : IsFront signature_algorithm
signature_algorithm-law = constant-law tag.sequence SIGNATURE_ALGORITHM

pub key_algorithm-law : IsFront key_algorithm
key_algorithm-law = constant-law tag.sequence KEY_ALGORITHM

pub digest_algorithm-law : IsFront digest_algorithm
digest_algorithm-law = constant-law tag.sequence DIGEST_ALGORITHM

pub is_critical-law : IsFront is_critical
is_critical-law = constant-law tag.boolean (255 ∷ [])

pub named-law : {A : Type 0} (outer : ℕ) (oid : List ℕ) (f : Whole A) → IsWhole f
    → IsFront (named outer oid f)
unfolding named_at
named-law {A = A} outer oid f law =
    read_front_by-law (within tag.sequence (preceded (identifier oid) (sole outer f))) _
    (within-law tag.sequence (preceded (identifier oid) (sole outer f))
    (preceded-law (identifier oid) (sole outer f) (identifier-law oid) tt
    (sole-law outer f law)))
    (λ p.
    bind-assoc (open_at tag.sequence p) _ _ ∙ bind-alike (open_at tag.sequence p) _ _ (λ q.
    bind-assoc ((identifier oid).read q.0) _ _
    ∙ bind-alike ((identifier oid).read q.0) _
    (λ a. ((sole_at outer a.1 >>= f.read) >>= (λ x. Ok (x, q.1)))) (λ a.
    bind-assoc (sole_at outer a.1) _ _
    ∙ sym (bind-assoc (sole_at outer a.1) f.read (λ x. Ok (x, q.1))))
    ∙ sym (bind-assoc ((identifier oid).read q.0)
    (λ a. sole_at outer a.1 >>= f.read) (λ x. Ok (x, q.1)))))

pub extension-law : {A : Type 0} (oid : List ℕ) (f : Whole A) → IsWhole f
    → IsFront (extension oid f)
extension-law oid f law = named-law tag.octet_string oid f law

pub attribute-law : {A : Type 0} (oid : List ℕ) (f : Whole A) → IsWhole f
    → IsFront (attribute oid f)
attribute-law oid f law = named-law tag.set_of oid f law

pub critical_extension-law : {A : Type 0} (oid : List ℕ) (f : Whole A) → IsWhole f
    → IsFront (critical_extension oid f)
unfolding critical_extension_at
critical_extension-law {A = A} oid f law =
    read_front_by-law
    (within tag.sequence
    (preceded (identifier oid) (preceded is_critical (sole tag.octet_string f)))) _
    (within-law tag.sequence
    (preceded (identifier oid) (preceded is_critical (sole tag.octet_string f)))
    (preceded-law (identifier oid) (preceded is_critical (sole tag.octet_string f))
    (identifier-law oid) tt
    (preceded-law is_critical (sole tag.octet_string f) is_critical-law tt
    (sole-law tag.octet_string f law))))
    (λ p.
    bind-assoc (open_at tag.sequence p) _ _ ∙ bind-alike (open_at tag.sequence p) _ _ (λ q.
    bind-assoc ((identifier oid).read q.0) _ _
    ∙ bind-alike ((identifier oid).read q.0) _
    (λ a. ((is_critical.read a.1 >>= (λ b. sole_at tag.octet_string b.1 >>= f.read))
    >>= (λ x. Ok (x, q.1)))) (λ a.
    bind-assoc (is_critical.read a.1) _ _
    ∙ bind-alike (is_critical.read a.1) _
    (λ b. ((sole_at tag.octet_string b.1 >>= f.read) >>= (λ x. Ok (x, q.1)))) (λ b.
    bind-assoc (sole_at tag.octet_string b.1) _ _
    ∙ sym (bind-assoc (sole_at tag.octet_string b.1) f.read (λ x. Ok (x, q.1))))
    ∙ sym (bind-assoc (is_critical.read a.1) (λ b. sole_at tag.octet_string b.1 >>= f.read)
    (λ x. Ok (x, q.1))))
    ∙ sym (bind-assoc ((identifier oid).read q.0)
    (λ a. is_critical.read a.1 >>= (λ b. sole_at tag.octet_string b.1 >>= f.read))
    (λ x. Ok (x, q.1)))))

pub signature-law : IsWhole signature
signature-law = preceded-law signature_algorithm (sole tag.bit_string (octet_bits 256))
    signature_algorithm-law tt (sole-law tag.bit_string (octet_bits 256) (octet_bits-law 256))

pub signed-law : {A : Type 0} (f : Whole A) → IsWhole f → IsWhole (signed f)
unfolding signed_at
signed-law {A = A} f law =
    read_by-law (sole tag.sequence (framed tag.sequence f signature)) _
    (sole-law tag.sequence (framed tag.sequence f signature)
    (framed-law tag.sequence f signature law signature-law))
    (λ p.
    bind-assoc (sole_at tag.sequence p) _ _ ∙ bind-alike (sole_at tag.sequence p) _ _ (λ q.
    bind-assoc (open_at tag.sequence q) _ _ ∙ bind-alike (open_at tag.sequence q) _ _ (λ t.
    bind-assoc (signature.read t.1) _ _)))

pub key_identifier-law : IsWhole key_identifier
key_identifier-law = sole-law tag.octet_string (fixed 20) (fixed-law 20)

pub issuer_key_identifier-law : IsWhole issuer_key_identifier
issuer_key_identifier-law = sole-law tag.sequence (sole tag.primitive_0 (fixed 20))
    (sole-law tag.primitive_0 (fixed 20) (fixed-law 20))

pub issuer_key-law : (key : List ℕ) → IsFront (issuer_key key)
issuer_key-law key =
    extension-law AUTHORITY_KEY_IDENTIFIER (sole tag.sequence (sole tag.primitive_0 (exactly key)))
    (sole-law tag.sequence (sole tag.primitive_0 (exactly key))
    (sole-law tag.primitive_0 (exactly key) (exactly-law key)))

pub key_info-law : IsFront key_info
key_info-law =
    within-law tag.sequence (preceded key_algorithm (sole tag.bit_string (octet_bits 270)))
    (preceded-law key_algorithm (sole tag.bit_string (octet_bits 270)) key_algorithm-law tt
    (sole-law tag.bit_string (octet_bits 270) (octet_bits-law 270)))

-- Extensions with one spelling in front have one identifier, critical or not.
pub same-identifier : (a b t u r s : List ℕ)
    → spelled tag.sequence (spelled tag.object_identifier a ++ t) ++ r ≡ spelled tag.sequence
    (spelled tag.object_identifier b ++ u) ++ s → a ≡ b
same-identifier a b t u r s e =
    let outer = one_element tag.sequence tag.sequence (spelled tag.object_identifier a ++ t)
    (spelled tag.object_identifier b ++ u) r s e in
    (one_element tag.object_identifier tag.object_identifier a b t u outer.1).1
