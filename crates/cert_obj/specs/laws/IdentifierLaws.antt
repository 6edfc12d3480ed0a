-- An identifier of a key has 20 bytes.
use Rattle.std.specs.Prelude.{slice_index}
use Rattle.std.proofs.Common.{◌≡◌, ℕ, zero, suc, ◌<◌, ◌/◌, List, [], ◌∷◌, ◌++◌, length, refl, arith}
use Rattle.std.specs.Int.{to_be_bytes, w32}
use Rattle.sha1.specs.Sha1.{digest_bytes, sha1, hash_after, padded_message}
use Rattle.der.specs.Grammar.{AreBytes}
use Rattle.res_ext.specs.laws.ByteLaws.{high-bytes}

pub sha1-length : (message : List ℕ) → length (sha1 message) ≡ 20
unfolding sha1 digest_bytes
sha1-length message = refl

joined-bytes : (a b : List ℕ) → AreBytes a → AreBytes b → AreBytes (a ++ b)
joined-bytes [] b first second i = second i
joined-bytes (c ∷ a) b first second zero = first zero
joined-bytes (c ∷ a) b first second (suc i) = joined-bytes a b (λ j. first (suc j)) second i

digest-bytes : (h : List ℕ) (n : ℕ) → AreBytes (digest_bytes h n)
unfolding digest_bytes
digest-bytes h zero i = omega arith
digest-bytes h (suc n) i = joined-bytes (digest_bytes h n) (to_be_bytes w32 (slice_index h n))
    (digest-bytes h n) (high-bytes 4 (slice_index h n)) i

pub sha1-bytes : (message : List ℕ) → AreBytes (sha1 message)
unfolding sha1
sha1-bytes message =
    digest-bytes (hash_after (padded_message message) (length (padded_message message) / 64)) 5
