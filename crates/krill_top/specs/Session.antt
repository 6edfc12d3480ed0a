-- The session of RRDP files (RFC 8182 section 3.3.1).
use Rattle.std.specs.Prelude.{ℕ, List}
use Rattle.rand_core.specs.Stream.{fill_bytes}
use Rattle.rand_core.specs.Steps.{stream_of, steps_u32}
use Rattle.rand_chacha.specs.ChaCha.{next_word, of_seed}
use Rattle.uuid.specs.Parts.{v4_of_fill}

-- A random UUID (RFC 9562 section 5.4), of the first 16 bytes of ChaCha20's stream 0 under this key.
abbrev pub session_of : List ℕ → List ℕ
session_of random =
    (v4_of_fill (fill_bytes 16 (stream_of (steps_u32 (next_word 10)) (of_seed random)))).0
