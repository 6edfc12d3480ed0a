-- The bases of a repository are ASCII, and so UTF-8.
use Rattle.std.proofs.Common.{◌≡◌, ℕ, ◌<◌, true, List, arith}
use Rattle.std.specs.Str.{IsUtf8}
use Rattle.std.proofs.lemmas.Bool.Decides.{nat_tests}
use Rattle.std.proofs.lemmas.Str.{IsUtf8-from_ascii}
use Rattle.std.proofs.lemmas.Str.Ascii.{IsAscii-from_all}
use Rattle.key_ids.specs.Base.{IsBase, is_base_byte}

base-below : (c : ℕ) → is_base_byte c ≡ true → c < 128
base-below c is = grind (arith, nat_tests)

pub base_utf8 : (scheme text : List ℕ) → IsBase scheme text → IsUtf8 text
base_utf8 scheme text h = IsUtf8-from_ascii text (IsAscii-from_all text (λ k d within. base-below _ (h.plain k d within)))
