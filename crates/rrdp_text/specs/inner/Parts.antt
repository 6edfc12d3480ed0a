-- What the parts of a reader answer.
use Rattle.std.specs.Prelude.{◌≡◌, ℕ, Bool, List, Some, Result, Ok, Err}
use Rattle.rrdp_text.specs.Reading.{Field}
use Rattle.rrdp_text.specs.Fields.{is_digit, is_hex, is_uri_byte, is_base64_byte, is_session_byte}
use Rattle.rrdp_text.specs.declared.fault.Stop.{Stop}
use Rattle.rrdp_text.specs.declared.fault.Stop.TheVariants.{Here, Memory}
use Rattle.rrdp_text.specs.declared.parts.Alphabet.{Alphabet}
use Rattle.rrdp_text.specs.declared.parts.Alphabet.TheVariants.{Uri, Hex, Digit, Session, Base64}

-- What a call returned, seen by view, is what was read.
abbrev pub Gives : {X Y : Type 0} → (X → Y) → Result X Stop → Result Y ℕ → Type 0
Gives view (Ok x) read = read ≡ Ok (view x)
Gives view (Err (Here left)) read = read ≡ Err left
Gives view (Err Memory) read = Unit {0}

-- The bytes of an alphabet.
abbrev pub has : Alphabet → ℕ → Bool
has Uri = is_uri_byte
has Hex = is_hex
has Digit = is_digit
has Session = is_session_byte
has Base64 = is_base64_byte

-- Bytes of an alphabet, as they stand.
abbrev pub plain : Alphabet → Field (List ℕ)
plain alphabet =
    record { allowed = has alphabet; spelled = λ bytes. bytes; value = λ bytes. Some bytes }
