-- A record as it is put together behind its gate.
use Rattle.std.proofs.Common.{◌≡◌, ℕ, ◌-◌, ◌≤◌, ◌<◌, ◌^◌, List, [], ◌∷◌, ◌++◌, length, drop, sym, ◌∙◌, ap, append_assoc, length-drop}
use Rattle.std.specs.Int.{w64, to_be_bytes}
use Rattle.gate_journal.specs.Format.{payload_of}
use Rattle.gate_journal.specs.Storing.{entry_bytes}
use Rattle.gate_journal.proofs.Records.{payload_of-entry}

-- its length in front, and the closed gate behind
pub ended_entry : (buffer : List ℕ) → (to_be_bytes w64 (length buffer - 8) ++ drop 8 buffer) ++ 0 ∷ [] ≡ entry_bytes (drop 8 buffer)
ended_entry buffer =
    append_assoc (to_be_bytes w64 (length buffer - 8)) (drop 8 buffer) (0 ∷ [])
    ∙ ap (λ (n : ℕ). to_be_bytes w64 n ++ (drop 8 buffer ++ 0 ∷ [])) (sym (length-drop 8 buffer))

-- the payload is found in it
pub of_entry : (bytes payload : List ℕ) → length payload < 2 ^ 64 → bytes ≡ entry_bytes payload → payload_of bytes ≡ payload
of_entry bytes payload few is = ap (λ (l : List ℕ). payload_of l) is ∙ payload_of-entry payload (0 ∷ []) few

pub kept_entry : (bytes payload : List ℕ) → length payload < 2 ^ 64 → bytes ≡ entry_bytes payload → bytes ≡ entry_bytes (payload_of bytes)
kept_entry bytes payload few is = is ∙ ap (λ (l : List ℕ). entry_bytes l) (sym (of_entry bytes payload few is))
