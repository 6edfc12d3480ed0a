-- Small facts on URIs, sets and keys.
use Rattle.std.proofs.Common.{◌≡◌, ℕ, zero, suc, Bool, true, false, Option, Some, None, List, [], ◌∷◌, map, cond, refl, ap, arith, length}
use Rattle.std.specs.Prelude.{IsAscii, IsUtf8}
use Rattle.std.specs.List.{list_all}
use Rattle.std.proofs.lemmas.Bool.{and_parts, ltb-true}
use Rattle.std.proofs.lemmas.Str.{IsUtf8-from_ascii}
use Rattle.res_sets.specs.declared.numbers.Range.{Range}
use Rattle.res_ext.specs.Formats.{span_of}
use Rattle.std.specs.Prelude.{◌↔◌, IsSome, IfSome}
use Rattle.std.specs.Option.{option_map}
use Rattle.signer_api.specs.declared.values.PublicKey.{PublicKey}
use Rattle.signer_api.specs.PublicKey.{IsPublicKey}
use Rattle.cert_obj.specs.Formats.{is_public_key}
use Rattle.cert_obj.specs.laws.CertLaws.{key-tested, tested-key}
use Rattle.cert_obj.specs.Values.{is_empty_list, is_ascii_byte, is_uri}

-- Whether a set is empty.
pub empty-told : (ranges : List Range) (b : Bool) → (b ≡ true → ranges ≡ []) → (ranges ≡ [] → b ≡ true) → b ≡ is_empty_list (map span_of ranges)
empty-told [] b there back = back refl
empty-told (r ∷ rs) true there back = absurd (apart (there refl))
  where
    apart : r ∷ rs ≡ [] → ⊥
    apart e = cc
empty-told (r ∷ rs) false there back = refl

all-ascii : (bytes : List ℕ) → list_all is_ascii_byte bytes ≡ true → IsAscii bytes
all-ascii [] e i = omega arith
all-ascii (b ∷ bytes) e zero = ltb-true b 128 (and_parts (is_ascii_byte b) (list_all is_ascii_byte bytes) e).0
all-ascii (b ∷ bytes) e (suc i) = all-ascii bytes (and_parts (is_ascii_byte b) (list_all is_ascii_byte bytes) e).1 i

-- ASCII is UTF-8.
pub uri-utf8 : (bytes : List ℕ) → is_uri bytes ≡ true → IsUtf8 bytes
uri-utf8 [] e = absurd cc
uri-utf8 (b ∷ bytes) e = IsUtf8-from_ascii (b ∷ bytes) (all-ascii (b ∷ bytes) e)

not-key : (bytes : List ℕ) → length bytes ≡ 270 → (IsPublicKey bytes → ⊥) → (b : Bool) → is_public_key bytes ≡ b → is_public_key bytes ≡ false
not-key bytes long not true e = absurd (not (tested-key bytes long e))
not-key bytes long not false e = e

-- The key that 270 bytes spell.
pub key-told : (bytes : List ℕ) (o : Option PublicKey) → length bytes ≡ 270 → (IsSome o ↔ IsPublicKey bytes) → IfSome o (λ key. key.bytes ≡ bytes) → option_map (λ key. key.bytes) o ≡ cond (is_public_key bytes) (Some bytes) None
key-told bytes None long told value = rw (not-key bytes long (λ is. nothing (told.1 is)) (is_public_key bytes) refl) refl
  where
    nothing : false ≡ true → ⊥
    nothing e = cc
key-told bytes (Some key) long told value = rw (key-tested bytes (told.0 refl)) (ap (λ (l : List ℕ). Some l) value)
