-- Records that are spelled out are read back.
use Rattle.std.proofs.Common.{◌≡◌, ◌≢◌, ℕ, zero, suc, ◌+◌, ◌<◌, ◌^◌, true, ◌&&◌, List, [], ◌∷◌, ◌++◌, length, take, drop, refl, sym, ◌∙◌, ap, arith, append_assoc, length-append, zero-add}
use Rattle.std.proofs.lemmas.Bool.{le-leb, ne_eqb, and_left, cond-true, cond-false}
use Rattle.std.proofs.lemmas.List.{take_at, drop_at, append-nil}
use Rattle.std.proofs.lemmas.Nat.{from_be_bytes-to_be_bytes_8}
use Rattle.std.specs.Prelude.{◌==◌}
use Rattle.std.specs.List.{All}
use Rattle.std.specs.Int.{w64, to_be_bytes, from_be_bytes}
use Rattle.gate_journal.specs.Storing.{entry_bytes}
use Rattle.gate_journal.specs.Format.{header, spelled, size_of, is_whole, payload_of, behind, records_in, has_header}

pub length-to_be_bytes : (n : ℕ) → length (to_be_bytes w64 n) ≡ 8
length-to_be_bytes n = refl

-- what stands behind the open gate of a record
abbrev pub entry : List ℕ → List ℕ → List ℕ
entry payload rest = to_be_bytes w64 (length payload) ++ (payload ++ rest)

module _ (payload rest : List ℕ) (small : length payload < 2 ^ 64) where
  pub size_of-entry : size_of (entry payload rest) ≡ length payload
  size_of-entry =
      ap (λ (l : List ℕ). from_be_bytes w64 l) (take_at (to_be_bytes w64 (length payload)) (payload ++ rest) 8 (length-to_be_bytes (length payload)))
      ∙ from_be_bytes-to_be_bytes_8 (length payload) small

  pub length-entry : length (entry payload rest) ≡ 8 + length payload + length rest
  length-entry = omega (arith, length-append (to_be_bytes w64 (length payload)) (payload ++ rest), length-append payload rest, length-to_be_bytes (length payload))

  pub is_whole-entry : is_whole (entry payload rest) ≡ true
  is_whole-entry = le-leb (8 + size_of (entry payload rest)) (length (entry payload rest)) (omega (arith, size_of-entry, length-entry))

  pub payload_of-entry : payload_of (entry payload rest) ≡ payload
  payload_of-entry =
      ap (λ (n : ℕ). take n (drop 8 (entry payload rest))) size_of-entry
      ∙ ap (λ (l : List ℕ). take (length payload) l) (drop_at (to_be_bytes w64 (length payload)) (payload ++ rest) 8 (length-to_be_bytes (length payload)))
      ∙ take_at payload rest (length payload) refl

  pub behind-entry : behind (entry payload rest) ≡ rest
  behind-entry =
      ap (λ (n : ℕ). drop (8 + n) (entry payload rest)) size_of-entry
      ∙ ap (λ (l : List ℕ). drop (8 + length payload) l) (sym (append_assoc (to_be_bytes w64 (length payload)) payload rest))
      ∙ drop_at (to_be_bytes w64 (length payload) ++ payload) rest (8 + length payload) (omega (arith, length-append (to_be_bytes w64 (length payload)) payload, length-to_be_bytes (length payload)))

  -- an open gate and a whole record are read
  pub records_in-entry : (n : ℕ) → records_in (suc n) (1 ∷ entry payload rest) ≡ payload ∷ records_in n rest
  records_in-entry n =
      cond-true (is_whole (entry payload rest)) (payload_of (entry payload rest) ∷ records_in n (behind (entry payload rest))) [] is_whole-entry
      ∙ ap (λ (l : List ℕ). l ∷ records_in n (behind (entry payload rest))) payload_of-entry
      ∙ ap (λ (l : List ℕ). payload ∷ records_in n l) behind-entry

pub spelled-more : (payload : List ℕ) (records : List (List ℕ)) (tail : List ℕ) → spelled (payload ∷ records) ++ tail ≡ 1 ∷ entry payload (spelled records ++ tail)
spelled-more payload records tail =
    ap (λ (l : List ℕ). 1 ∷ l)
    (append_assoc (to_be_bytes w64 (length payload)) (payload ++ spelled records) tail ∙ ap (λ (l : List ℕ). to_be_bytes w64 (length payload) ++ l) (append_assoc payload (spelled records) tail))

abbrev pub AreSmall : List (List ℕ) → Type 0
AreSmall records = All (λ payload. length payload < 2 ^ 64) records

All-pop-front : (payload : List ℕ) (records : List (List ℕ)) → AreSmall (payload ∷ records) → (length payload < 2 ^ 64) × AreSmall records
All-pop-front payload records small = (small 0 [] (omega arith), λ k d lt. small (suc k) d (omega (arith, lt)))

pub records_in-spelled : (records : List (List ℕ)) (tail : List ℕ) (n : ℕ) → AreSmall records → records_in (length records + n) (spelled records ++ tail) ≡ records ++ records_in n tail
records_in-spelled [] tail n small = ap (λ (m : ℕ). records_in m tail) (zero-add n)
records_in-spelled (payload ∷ records) tail n small =
    let more : suc (length records) + n ≡ suc (length records + n) = omega arith in
    let parts = All-pop-front payload records small in
    ap (λ (m : ℕ). records_in m (spelled (payload ∷ records) ++ tail)) more
    ∙ ap (λ (l : List ℕ). records_in (suc (length records + n)) l) (spelled-more payload records tail)
    ∙ records_in-entry payload (spelled records ++ tail) parts.0 (length records + n)
    ∙ ap (λ (l : List (List ℕ)). payload ∷ l) (records_in-spelled records tail n parts.1)

pub records_in-closed : (n gate : ℕ) (tail : List ℕ) → gate ≢ 1 → records_in n (gate ∷ tail) ≡ []
records_in-closed zero gate tail closed = refl
records_in-closed (suc n) gate tail closed = cond-false (gate == 1 && is_whole tail) (payload_of tail ∷ records_in n (behind tail)) [] (and_left (gate == 1) (is_whole tail) (ne_eqb gate 1 closed))

pub has_header-header : (rest : List ℕ) → has_header (header ++ rest) ≡ true
has_header-header rest = refl

pub drop-header : (rest : List ℕ) → drop 16 (header ++ rest) ≡ rest
drop-header rest = refl

pub spelled-push : (records : List (List ℕ)) (payload tail : List ℕ) → spelled (records ++ payload ∷ []) ++ tail ≡ spelled records ++ 1 ∷ entry payload tail
spelled-push [] payload tail = spelled-more payload [] tail
spelled-push (first ∷ records) payload tail =
    spelled-more first (records ++ payload ∷ []) tail
    ∙ ap (λ (l : List ℕ). 1 ∷ entry first l) (spelled-push records payload tail)
    ∙ sym (spelled-more first records (1 ∷ entry payload tail))

pub length-spelled-push : (records : List (List ℕ)) (payload : List ℕ) → length (spelled (records ++ payload ∷ [])) ≡ length (spelled records) + (length payload + 9)
length-spelled-push records payload =
    ap (λ (l : List ℕ). length l) (sym (append-nil (spelled (records ++ payload ∷ []))) ∙ spelled-push records payload [])
    ∙ omega (arith, length-append (spelled records) (1 ∷ entry payload []), length-append (to_be_bytes w64 (length payload)) (payload ++ []), length-append payload [], length-to_be_bytes (length payload))

pub entry_bytes-append : (payload rest : List ℕ) → entry_bytes payload ++ rest ≡ entry payload (0 ∷ rest)
entry_bytes-append payload rest =
    append_assoc (to_be_bytes w64 (length payload)) (payload ++ 0 ∷ []) rest ∙ ap (λ (l : List ℕ). to_be_bytes w64 (length payload) ++ l) (append_assoc payload (0 ∷ []) rest)

pub length-entry_bytes : (payload : List ℕ) → length (entry_bytes payload) ≡ length payload + 9
length-entry_bytes payload = omega (arith, length-append (to_be_bytes w64 (length payload)) (payload ++ 0 ∷ []), length-append payload (0 ∷ []), length-to_be_bytes (length payload))
