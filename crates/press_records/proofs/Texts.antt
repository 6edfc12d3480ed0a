-- Texts in UTF-8.
use Rattle.std.proofs.Common.{◌≡◌, ℕ, List, Some, None, refl}
use Rattle.std.specs.Str.{IsUtf8, is_utf8}
use Rattle.std.proofs.lemmas.Bool.{false_from_ne_true}
use Rattle.std.proofs.lemmas.Str.{IsUtf8-from_is_utf8, is_utf8-from_IsUtf8}
use Rattle.press_records.specs.Changes.{text_in}

pub text_told : (bytes : List ℕ) → IsUtf8 bytes → text_in bytes ≡ Some bytes
text_told bytes is = rw (is_utf8-from_IsUtf8 bytes is) refl

pub none_told : (bytes : List ℕ) → (IsUtf8 bytes → ⊥) → text_in bytes ≡ None
none_told bytes other = rw (false_from_ne_true (is_utf8 bytes) (λ e. other (IsUtf8-from_is_utf8 bytes e))) refl
