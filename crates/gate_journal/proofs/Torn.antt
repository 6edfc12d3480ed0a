-- What the disk may hold in each of the steps of storing a record, as bytes.
use Rattle.std.proofs.Common.{◌≡◌, inl, inr, ℕ, ◌+◌, ◌-◌, ◌≤◌, ◌<◌, List, [], ◌∷◌, ◌++◌, length, get_or, take, drop, refl, sym, ◌∙◌, ap, arith, append_assoc, length-append, take-append-drop}
use Rattle.std.proofs.lemmas.Grind.{take_at_read}
use Rattle.std.proofs.lemmas.List.{take_at, drop_at, drop_more, length-take}
use Rattle.disk_api.specs.Content.{overwritten, Torn}
use Rattle.gate_journal.specs.Storing.{stored, IsStoring}

-- with the record behind the gate, which is still closed
abbrev pub staged : ℕ → List ℕ → List ℕ → List ℕ
staged held new bytes = overwritten held new bytes

module _ (held : ℕ) (new bytes : List ℕ) (gate : 0 < held) (le : held ≤ length bytes) where
  length-front : length (take held bytes) ≡ held
  length-front = omega (arith, length-take held bytes)

  length-before : length (take (held - 1) bytes) ≡ held - 1
  length-before = omega (arith, length-take (held - 1) bytes)

  -- the byte of the gate
  split_front : take held bytes ≡ take (held - 1) bytes ++ get_or bytes (held - 1) 0 ∷ []
  split_front = ap (λ (m : ℕ). take m bytes) (omega arith) ∙ (take_at_read bytes (held - 1) 0 (omega arith)).1

  pub staged_is : staged held new bytes ≡ take (held - 1) bytes ++ (get_or bytes (held - 1) 0 ∷ (new ++ drop (held + length new) bytes))
  staged_is =
      ap (λ (l : List ℕ). l ++ new ++ drop (held + length new) bytes) split_front
      ∙ append_assoc (take (held - 1) bytes ++ get_or bytes (held - 1) 0 ∷ []) new (drop (held + length new) bytes)
      ∙ append_assoc (take (held - 1) bytes) (get_or bytes (held - 1) 0 ∷ []) (new ++ drop (held + length new) bytes)

  pub length-staged : held ≤ length (staged held new bytes)
  length-staged = omega (arith, length-front, length-append (take held bytes ++ new) (drop (held + length new) bytes), length-append (take held bytes) new)

  -- the gate stands closed in each outcome of the first write, and in what it leaves
  pub torn_behind : (c : List ℕ) → Torn held (length new) bytes c → IsStoring held new bytes c
  torn_behind c torn = inl torn.before

  pub staged_behind : IsStoring held new bytes (staged held new bytes)
  staged_behind = inl (ap (λ (l : List ℕ). take held l) (append_assoc (take held bytes) new (drop (held + length new) bytes)) ∙ take_at (take held bytes) (new ++ drop (held + length new) bytes) held length-front)

  -- the record is whole in each outcome of the second write
  pub torn_gate : (c : List ℕ) → Torn (held - 1) 1 (staged held new bytes) c → IsStoring held new bytes c
  torn_gate c torn =
      let rest = new ++ drop (held + length new) bytes in
      let before : take (held - 1) c ≡ take (held - 1) bytes = torn.before ∙ ap (λ (l : List ℕ). take (held - 1) l) staged_is ∙ take_at (take (held - 1) bytes) (get_or bytes (held - 1) 0 ∷ rest) (held - 1) length-before in
      let after : drop (held - 1 + 1) c ≡ rest =
      torn.after
      ∙ ap (λ (l : List ℕ). drop (held - 1 + 1) l) (staged_is ∙ sym (append_assoc (take (held - 1) bytes) (get_or bytes (held - 1) 0 ∷ []) rest))
      ∙ drop_at (take (held - 1) bytes ++ get_or bytes (held - 1) 0 ∷ []) rest (held - 1 + 1) (omega (arith, length-before, length-append (take (held - 1) bytes) (get_or bytes (held - 1) 0 ∷ []))) in
      inr (record {
        gate = get_or c (held - 1) 0;
        whole =
            sym (take-append-drop (held - 1) c)
            ∙ ap (λ (l : List ℕ). l ++ drop (held - 1) c) before
            ∙ ap (λ (l : List ℕ). take (held - 1) bytes ++ l) (drop_more c (held - 1) 0 (omega (arith, torn.no_shorter, length-staged)) ∙ ap (λ (l : List ℕ). get_or c (held - 1) 0 ∷ l) after);
      })

  -- what the second write leaves
  pub stored_is : overwritten (held - 1) (1 ∷ []) (staged held new bytes) ≡ stored held new bytes
  stored_is =
      let rest = new ++ drop (held + length new) bytes in
      let before : take (held - 1) (staged held new bytes) ≡ take (held - 1) bytes = ap (λ (l : List ℕ). take (held - 1) l) staged_is ∙ take_at (take (held - 1) bytes) (get_or bytes (held - 1) 0 ∷ rest) (held - 1) length-before in
      let after : drop (held - 1 + 1) (staged held new bytes) ≡ rest =
      ap (λ (l : List ℕ). drop (held - 1 + 1) l) (staged_is ∙ sym (append_assoc (take (held - 1) bytes) (get_or bytes (held - 1) 0 ∷ []) rest))
      ∙ drop_at (take (held - 1) bytes ++ get_or bytes (held - 1) 0 ∷ []) rest (held - 1 + 1) (omega (arith, length-before, length-append (take (held - 1) bytes) (get_or bytes (held - 1) 0 ∷ []))) in
      append_assoc (take (held - 1) (staged held new bytes)) (1 ∷ []) (drop (held - 1 + 1) (staged held new bytes))
      ∙ ap (λ (l : List ℕ). l ++ (1 ∷ drop (held - 1 + 1) (staged held new bytes))) before
      ∙ ap (λ (l : List ℕ). take (held - 1) bytes ++ (1 ∷ l)) after

  pub stored_storing : IsStoring held new bytes (stored held new bytes)
  stored_storing = inr (record { gate = 1; whole = refl })
