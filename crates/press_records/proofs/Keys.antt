-- The test of a key.
use Rattle.std.proofs.Common.{◌≡◌, ℕ, Bool, true, false, cond, List, length, Option, Some, None, refl, ap}
use Rattle.std.specs.Prelude.{IsSome, IfSome, ◌↔◌}
use Rattle.std.specs.Option.{option_map}
use Rattle.std.proofs.lemmas.Bool.{false≢true}
use Rattle.signer_api.specs.PublicKey.{IsPublicKey}
use Rattle.signer_api.specs.declared.values.PublicKey.{PublicKey}
use Rattle.press_records.specs.Rows.{is_key, key_in}
use Rattle.press_records.specs.laws.KeyLaws.{is-key, key-is}

pub key_told : (bytes : List ℕ) (found : Option PublicKey) → length bytes ≡ 270 → IsSome found ↔ IsPublicKey bytes
    → IfSome found (λ key. key.bytes ≡ bytes) → option_map (λ key. key.bytes) found ≡ key_in bytes
key_told bytes (Some key) size tells same = rw (is-key bytes (tells.0 refl)) (ap (λ (b : List ℕ). some-bytes b) same)
  where
    some-bytes : List ℕ → Option (List ℕ)
    some-bytes b = Some b
key_told bytes None size tells same = choose (is_key bytes) refl
  where
    choose : (b : Bool) → is_key bytes ≡ b → None ≡ cond b (Some bytes) None
    choose true e = absurd (false≢true (tells.1 (key-is bytes size e)))
    choose false e = refl
