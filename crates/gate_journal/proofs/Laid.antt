-- What a file stands for that is laid out as a journal keeps it.
use Rattle.std.proofs.Common.{◌≡◌, ◌≢◌, inl, inr, ℕ, ◌+◌, ◌-◌, ◌≤◌, ◌<◌, ◌&&◌, Option, Some, None, List, [], ◌∷◌, ◌++◌, map, length, take, drop, IfSome, refl, sym, ◌∙◌, ap, arith, length-append}
use Rattle.std.proofs.lemmas.Bool.{and_from, le-leb, lt-leb, and_left, cond-true, cond-false, cases_lt}
use Rattle.std.proofs.lemmas.List.{take_at, append-nil, nil_from_length, length-map}
use Rattle.std.specs.Prelude.{nat_le}
use Rattle.std.specs.Int.{w64, to_be_bytes}
use Rattle.std.specs.Option.{option_map}
use Rattle.gate_journal.specs.Format.{header, spelled, records_in, has_header, recovered}
use Rattle.gate_journal.specs.inner.Kept.{IsLaidOut, IsConsistentJournal, sizes_of}
use Rattle.gate_journal.specs.declared.place.Place.{Place}
use Rattle.gate_journal.proofs.Records.{AreSmall, records_in-spelled, records_in-closed}
use Rattle.gate_journal.proofs.Sizes.{length-sizes_of}

-- a file of at most 17 bytes stands for none
pub recovered-short : (file : List ℕ) → length file < 18 → recovered file ≡ []
recovered-short file short = cond-false (nat_le 18 (length file) && has_header file) (records_in (length file) (drop 16 file)) [] (and_left (nat_le 18 (length file)) (has_header file) (lt-leb 18 (length file) short))

pub length-spelled : (records : List (List ℕ)) → length records ≤ length (spelled records)
length-spelled [] = omega arith
length-spelled (payload ∷ records) = omega (arith, length-spelled records, length-append (to_be_bytes w64 (length payload)) (payload ++ spelled records), length-append payload (spelled records))

-- a longer file with the header stands for these, and for what is read from the gate behind them on
pub recovered-laid : (records : List (List ℕ)) (gate : ℕ) (tail : List ℕ) → AreSmall records → (n : ℕ) × (recovered (header ++ (spelled records ++ gate ∷ tail)) ≡ records ++ records_in n (gate ∷ tail))
recovered-laid records gate tail small =
    let file = header ++ (spelled records ++ gate ∷ tail) in
    let long : length file ≡ 17 + length (spelled records) + length tail = omega (arith, length-append (spelled records) (gate ∷ tail)) in
    let few = length-spelled records in
    elim (cases_lt (length file) 18) [
      | inl lt ↦
          let none : records ≡ [] = nil_from_length records (omega (arith, long, few, lt)) in
          (0, recovered-short file lt ∙ sym (append-nil records ∙ none))
      | inr ge ↦
          let n = length file - length records in
          let all : length records + n ≡ length file = omega (arith, long, few) in (
            n,
            cond-true (nat_le 18 (length file) && has_header file) (records_in (length file) (drop 16 file)) [] (and_from (nat_le 18 (length file)) (has_header file) (le-leb 18 (length file) ge) refl)
                ∙ ap (λ (m : ℕ). records_in m (spelled records ++ gate ∷ tail)) (sym all)
                ∙ records_in-spelled records (gate ∷ tail) n small,
          )
    ]

pub recovered-closed : (records : List (List ℕ)) (gate : ℕ) (tail : List ℕ) → AreSmall records → gate ≢ 1 → recovered (header ++ (spelled records ++ gate ∷ tail)) ≡ records
recovered-closed records gate tail small closed =
    let laid = recovered-laid records gate tail small in
    laid.1 ∙ ap (λ (l : List (List ℕ)). records ++ l) (records_in-closed laid.0 gate tail closed) ∙ append-nil records

-- the records that a journal shows are those that are laid out
pub shown : {records : List (List ℕ)} {sizes : List ℕ} {shut : Option (ℕ × ℕ)} {bytes : List ℕ} (count : ℕ) → length sizes ≡ count → IsLaidOut records sizes shut bytes → take count (recovered bytes) ≡ records
shown {records} {sizes} {shut} {bytes} count counted laid =
    let all = recovered-laid records laid.gate laid.tail laid.small in
    ap (λ (b : List ℕ). take count (recovered b)) laid.split
    ∙ ap (λ (l : List (List ℕ)). take count l) all.1
    ∙ take_at records (records_in all.0 (laid.gate ∷ laid.tail)) count (omega (arith, counted, ap (λ (l : List ℕ). length l) laid.sizes_are, length-map records length))

module _ (content : Option (List ℕ)) (may_leave : List ℕ → Type 0) (count held : ℕ) (places : List Place) (shut : Option (ℕ × ℕ)) (kept : IsConsistentJournal content may_leave count held places shut) where
  pub all_counted : length (sizes_of count places) ≡ count
  all_counted = length-sizes_of count places kept.measured.counted

-- and the sizes are theirs
pub shown_sizes : (content : Option (List ℕ)) (may_leave : List ℕ → Type 0) (count held : ℕ) (places : List Place) (shut : Option (ℕ × ℕ)) → IsConsistentJournal content may_leave count held places shut
    → IfSome (option_map (λ bytes. take count (recovered bytes)) content) (λ all. sizes_of count places ≡ map length all)
shown_sizes None may_leave count held places shut kept = tt
shown_sizes (Some bytes) may_leave count held places shut kept =
    kept.known.1.sizes_are ∙ ap (λ (l : List (List ℕ)). map length l) (sym (shown count (all_counted (Some bytes) may_leave count held places shut kept) kept.known.1))
