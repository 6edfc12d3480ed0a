-- What the objects have in common: identifiers, algorithms, names, extensions and signatures (RFC
-- 5280 sections 4.1 and 4.2, RFC 5652 section 5.3).
use Rattle.std.specs.Prelude.{ℕ, List, [], ◌∷◌, Result, Ok}
use Rattle.der.specs.Tags as tag
use Rattle.der.specs.declared.shape_fault.ShapeFault.{ShapeFault}
use Rattle.der.specs.Part.{Place, ◌>>=◌, open_at, sole_at, before}
use Rattle.der.specs.Form.{Whole, Front}
use Rattle.der.specs.Forms.{within, sole, preceded, framed, read_by, read_front_by}
use Rattle.der.specs.Leaves.{constant, exactly, fixed, octet_bits}
use Rattle.object_parts.specs.declared.identifiers.TheConstants.{SIGNATURE_ALGORITHM, KEY_ALGORITHM, DIGEST_ALGORITHM, AUTHORITY_KEY_IDENTIFIER}

-- An OBJECT IDENTIFIER (X.690 section 8.19).
abbrev pub identifier : List ℕ → Front (Unit {0})
identifier oid = constant tag.object_identifier oid

abbrev pub signature_algorithm : Front (Unit {0})
signature_algorithm = constant tag.sequence SIGNATURE_ALGORITHM

abbrev pub key_algorithm : Front (Unit {0})
key_algorithm = constant tag.sequence KEY_ALGORITHM

abbrev pub digest_algorithm : Front (Unit {0})
digest_algorithm = constant tag.sequence DIGEST_ALGORITHM

-- TRUE
abbrev pub is_critical : Front (Unit {0})
is_critical = constant tag.boolean (255 ∷ [])

-- A SEQUENCE of an identifier and an element of that tag, whose place comes first.
unfoldable pub named_at : ℕ → List ℕ → Place → Result (Place × Place) ShapeFault
named_at outer oid p =
    open_at tag.sequence p >>= (λ q. (identifier oid).read q.0 >>= (λ a.
    sole_at outer a.1 >>= (λ v. Ok (v, q.1))))

abbrev pub named : {A : Type 0} → ℕ → List ℕ → Whole A → Front A
named outer oid f =
    read_front_by (within tag.sequence (preceded (identifier oid) (sole outer f)))
    (λ p. named_at outer oid p >>= (λ v. f.read v.0 >>= (λ x. Ok (x, v.1))))

-- An extension that isn't critical (RFC 5280 section 4.2): its identifier, and an OCTET STRING
-- with the value.
abbrev pub extension : {A : Type 0} → List ℕ → Whole A → Front A
extension oid f = named tag.octet_string oid f

-- An attribute of a signed object (RFC 5652 section 5.3): its identifier, and a SET with the one
-- value.
abbrev pub attribute : {A : Type 0} → List ℕ → Whole A → Front A
attribute oid f = named tag.set_of oid f

-- A critical extension (RFC 5280 section 4.2).
unfoldable pub critical_extension_at : List ℕ → Place → Result (Place × Place) ShapeFault
critical_extension_at oid p =
    open_at tag.sequence p
    >>= (λ q. (identifier oid).read q.0 >>= (λ a. is_critical.read a.1 >>= (λ b.
    sole_at tag.octet_string b.1 >>= (λ v. Ok (v, q.1)))))

abbrev pub critical_extension : {A : Type 0} → List ℕ → Whole A → Front A
critical_extension oid f =
    read_front_by
    (within tag.sequence
    (preceded (identifier oid) (preceded is_critical (sole tag.octet_string f))))
    (λ p. critical_extension_at oid p >>= (λ v. f.read v.0 >>= (λ x. Ok (x, v.1))))

-- The algorithm and the 256 bytes of a signature (RFC 5280 sections 4.1.1.2 and 4.1.1.3).
abbrev pub signature : Whole (List ℕ)
signature = preceded signature_algorithm (sole tag.bit_string (octet_bits 256))

-- What is signed, the bytes that the signature is of, and the signature (RFC 5280 section 4.1).
unfoldable pub signed_at : Place → Result (Place × List ℕ × List ℕ) ShapeFault
signed_at p =
    sole_at tag.sequence p >>= (λ q. open_at tag.sequence q >>= (λ t. signature.read t.1 >>= (λ s.
    Ok (t.0, before q t.1, s))))

abbrev pub signed : {A : Type 0} → Whole A → Whole (A × List ℕ × List ℕ)
signed f =
    read_by (sole tag.sequence (framed tag.sequence f signature))
    (λ p. signed_at p >>= (λ v. f.read v.0 >>= (λ x. Ok (x, v.1, v.2))))

-- The 20 bytes of a key's identifier (RFC 5280 section 4.2.1.2).
abbrev pub key_identifier : Whole (List ℕ)
key_identifier = sole tag.octet_string (fixed 20)

-- The same of the issuer's key (RFC 5280 section 4.2.1.1).
abbrev pub issuer_key_identifier : Whole (List ℕ)
issuer_key_identifier = sole tag.sequence (sole tag.primitive_0 (fixed 20))

-- authorityKeyIdentifier: that key's, and nothing else. A certificate has it (RFC 6487 section
-- 4.8.3), and a CRL (RFC 5280 section 5.2.1).
abbrev pub issuer_key : List ℕ → Front (Unit {0})
issuer_key key =
    extension AUTHORITY_KEY_IDENTIFIER (sole tag.sequence (sole tag.primitive_0 (exactly key)))

-- A key of 270 bytes with its algorithm (RFC 7935 section 3).
abbrev pub key_info : Front (List ℕ)
key_info = within tag.sequence (preceded key_algorithm (sole tag.bit_string (octet_bits 270)))
