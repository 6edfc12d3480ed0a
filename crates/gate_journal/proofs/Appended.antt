-- A laid-out file while a record is stored, and after it.
use Rattle.std.proofs.Common.{◌≡◌, ◌≢◌, ◌⊎◌, inl, inr, ℕ, ◌+◌, ◌-◌, ◌≤◌, ◌<◌, ◌^◌, Option, None, Some, List, [], ◌∷◌, ◌++◌, map, length, take, drop, sym, ◌∙◌, ap, arith, append_assoc, length-append, take-append-drop, refl}
use Rattle.std.proofs.lemmas.List.{take_at, map-append}
use Rattle.std.proofs.lemmas.List.Elements.{All-push}
use Rattle.std.proofs.lemmas.Bool.{cases_eq}
use Rattle.std.proofs.lemmas.Option.{none-some}
use Rattle.gate_journal.specs.Format.{header, spelled, held_for, taken_by}
use Rattle.gate_journal.specs.Storing.{stored, entry_bytes, IsBehindGate, HasRecord, IsStoring}
use Rattle.gate_journal.specs.View.{RecoversTo}
use Rattle.gate_journal.specs.inner.Kept.{IsLaidOut}
use Rattle.gate_journal.proofs.Records.{entry, entry_bytes-append, spelled-push}
use Rattle.gate_journal.proofs.Sizes.{taken_by-spelled}
use Rattle.gate_journal.proofs.Whole.{AreWithin, holds_closed}

length-head : (records : List (List ℕ)) → length (header ++ spelled records) ≡ 16 + taken_by (map length records)
length-head records = omega (arith, length-append header (spelled records), taken_by-spelled records)

regroup : (records : List (List ℕ)) (rest : List ℕ) → header ++ (spelled records ++ rest) ≡ (header ++ spelled records) ++ rest
regroup records rest = sym (append_assoc header (spelled records) rest)

module _ {records : List (List ℕ)} {sizes : List ℕ} {shut : Option (ℕ × ℕ)} {bytes : List ℕ} (laid : IsLaidOut records sizes shut bytes) (held : ℕ) (held_is : held ≡ held_for sizes) where
  at_gate : length (header ++ spelled records) ≡ held - 1
  at_gate = omega (arith, length-head records, held_is, ap taken_by laid.sizes_are)

  pub take-before : take (held - 1) bytes ≡ header ++ spelled records
  take-before = ap (λ (l : List ℕ). take (held - 1) l) (laid.split ∙ regroup records (laid.gate ∷ laid.tail)) ∙ take_at (header ++ spelled records) (laid.gate ∷ laid.tail) (held - 1) at_gate

  take-front : take held bytes ≡ (header ++ spelled records) ++ laid.gate ∷ []
  take-front =
      ap (λ (l : List ℕ). take held l) (laid.split ∙ regroup records (laid.gate ∷ laid.tail) ∙ sym (append_assoc (header ++ spelled records) (laid.gate ∷ []) laid.tail))
      ∙ take_at ((header ++ spelled records) ++ laid.gate ∷ []) laid.tail held (omega (arith, length-append (header ++ spelled records) (laid.gate ∷ []), at_gate, held_is))

  pub laid_long : held ≤ length bytes
  laid_long = omega (arith, ap (λ (l : List ℕ). length l) (laid.split ∙ regroup records (laid.gate ∷ laid.tail)), length-append (header ++ spelled records) (laid.gate ∷ laid.tail), at_gate, held_is)

  -- a gate that is untouched, and a record that is whole behind some gate
  pub behind_split : (c : List ℕ) → IsBehindGate held bytes c → c ≡ header ++ (spelled records ++ laid.gate ∷ drop held c)
  behind_split c same =
      sym (take-append-drop held c)
      ∙ ap (λ (l : List ℕ). l ++ drop held c) (same ∙ take-front)
      ∙ append_assoc (header ++ spelled records) (laid.gate ∷ []) (drop held c)
      ∙ sym (regroup records (laid.gate ∷ drop held c))

  pub record_split : (new c : List ℕ) (has : HasRecord held new bytes c) → c ≡ header ++ (spelled records ++ has.gate ∷ (new ++ drop (held + length new) bytes))
  record_split new c has =
      has.whole
      ∙ ap (λ (l : List ℕ). l ++ (has.gate ∷ (new ++ drop (held + length new) bytes))) take-before
      ∙ sym (regroup records (has.gate ∷ (new ++ drop (held + length new) bytes)))

  -- in each outcome the records stand where they were
  pub laid_storing : (new c : List ℕ) (rose : ℕ × ℕ) → IsStoring held new bytes c → IsLaidOut records sizes (Some rose) c
  laid_storing new c rose (inl same) = record {
    gate = laid.gate;
    tail = drop held c;
    split = behind_split c same;
    closed = λ is. absurd (none-some rose (sym is));
    sizes_are = laid.sizes_are;
    small = laid.small;
  }
  laid_storing new c rose (inr has) = record {
    gate = has.gate;
    tail = new ++ drop (held + length new) bytes;
    split = record_split new c has;
    closed = λ is. absurd (none-some rose (sym is));
    sizes_are = laid.sizes_are;
    small = laid.small;
  }

  -- and the file is whole and stands for them, with the new one or without
  pub storing_holds : (limit : ℕ) (payload c : List ℕ) → laid.gate ≢ 1 → length payload < 2 ^ 64 → length payload ≤ limit → AreWithin limit records → IsStoring held (entry_bytes payload) bytes c → RecoversTo limit records c ⊎ RecoversTo limit (records ++ payload ∷ []) c
  storing_holds limit payload c closed few fits within (inl same) = inl (holds_closed limit records laid.gate (drop held c) c (behind_split c same) laid.small within closed)
  storing_holds limit payload c closed few fits within (inr has) =
      let rest = drop (held + length (entry_bytes payload)) bytes in
      let split : c ≡ header ++ (spelled records ++ has.gate ∷ entry payload (0 ∷ rest)) = record_split (entry_bytes payload) c has ∙ ap (λ (l : List ℕ). header ++ (spelled records ++ has.gate ∷ l)) (entry_bytes-append payload rest) in
      elim (cases_eq has.gate 1) [
        | inl is_open ↦
            inr
            (holds_closed limit (records ++ payload ∷ []) 0 rest c
            (split ∙ ap (λ (g : ℕ). header ++ (spelled records ++ g ∷ entry payload (0 ∷ rest))) is_open ∙ ap (λ (l : List ℕ). header ++ l) (sym (spelled-push records payload (0 ∷ rest))))
            (All-push (λ p. length p < 2 ^ 64) records payload laid.small few) (All-push (λ p. length p ≤ limit) records payload within fits) (omega arith))
        | inr is_closed ↦ inl (holds_closed limit records has.gate (entry payload (0 ∷ rest)) c split laid.small within is_closed)
      ]

  -- once it is stored, the file is laid out with it
  pub laid_stored : (payload : List ℕ) → length payload < 2 ^ 64 → IsLaidOut (records ++ payload ∷ []) (sizes ++ length payload ∷ []) None (stored held (entry_bytes payload) bytes)
  laid_stored payload few =
      let rest = drop (held + length (entry_bytes payload)) bytes in
      record {
        gate = 0;
        tail = rest;
        split =
            record_split (entry_bytes payload) (stored held (entry_bytes payload) bytes) (record { gate = 1; whole = refl })
            ∙ ap (λ (l : List ℕ). header ++ (spelled records ++ 1 ∷ l)) (entry_bytes-append payload rest)
            ∙ ap (λ (l : List ℕ). header ++ l) (sym (spelled-push records payload (0 ∷ rest)));
        closed = λ _. omega arith;
        sizes_are = ap (λ (l : List ℕ). l ++ length payload ∷ []) laid.sizes_are ∙ sym (map-append length records (payload ∷ []));
        small = All-push (λ p. length p < 2 ^ 64) records payload laid.small few;
      }
