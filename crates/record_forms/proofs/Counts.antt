-- A count is the last bytes of its number.
use Rattle.std.proofs.Common.{◌≡◌, ℕ, drop, refl}
use Rattle.std.specs.Int.{w64, to_be_bytes}
use Rattle.record_forms.specs.Forms.{bytes_32}

pub count_bytes : (n : ℕ) → drop 4 (to_be_bytes w64 n) ≡ bytes_32 n
unfolding bytes_32
count_bytes n = refl
