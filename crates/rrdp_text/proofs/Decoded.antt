-- What Base64 decodes to is bytes.
use Rattle.std.proofs.Common.{◌≡◌, ℕ, zero, suc, ◌+◌, ◌*◌, ◌<◌, Bool, inl, inr, List, [], ◌∷◌, ◌++◌, length, take, drop, slice_index, refl, arith, Option, Some, None, Ok}
use Rattle.std.proofs.lemmas.List.{get_or-drop}
use Rattle.base64.specs.declared.decode.DecodeError.{DecodeError}
use Rattle.base64.specs.declared.engine.DecodePaddingMode.{DecodePaddingMode}
use Rattle.base64.specs.declared.engine.general_purpose.GeneralPurpose.{GeneralPurpose}
use Rattle.base64.specs.Decode.{or_else, symbol_error, group_error, group_bytes, groups_error, groups_bytes, groups_before_last, decode_group, push_leftover, scan_steps, scan_last, suffix_error, suffix_bytes, leftover_bytes, lone_error, no_leftover, decode_outcome, IsDecodeTable}
use Rattle.base64.specs.GeneralPurpose.{decode_of, IsBytes}
use Rattle.base64.proofs.Decoding.{IsLeftover, IsLeftover_next}
use Rattle.base64.proofs.EngineFacts.{decode_of_bytes}
use Rattle.base64.proofs.Tables.{IsDecodeTable_from, are_tables_inverse}
use Rattle.rrdp_text.proofs.Exact.{cases_Result}

both_none : (x y : Option DecodeError) → or_else x y ≡ None → (x ≡ None) × (y ≡ None)
both_none None y h = (refl, h)
both_none (Some e) y h = cc h

bytes_append : (a b : List ℕ) → IsBytes a → IsBytes b → IsBytes (a ++ b)
bytes_append [] b ha hb i = hb i
bytes_append (x ∷ a) b ha hb zero = ha 0
bytes_append (x ∷ a) b ha hb (suc i) = bytes_append a b (λ k. ha (suc k)) hb i

bytes_take : (n : ℕ) (a : List ℕ) → IsBytes a → IsBytes (take n a)
bytes_take zero a h i = omega arith
bytes_take (suc n) [] h i = omega arith
bytes_take (suc n) (x ∷ a) h zero = h 0
bytes_take (suc n) (x ∷ a) h (suc i) = bytes_take n a (λ k. h (suc k)) i

group_small : (a b c d : ℕ) → a < 64 → b < 64 → c < 64 → d < 64 → IsBytes (decode_group a b c d)
group_small a b c d ha hb hc hd zero = omega arith
group_small a b c d ha hb hc hd (suc zero) = omega arith
group_small a b c d ha hb hc hd (suc (suc zero)) = omega arith
group_small a b c d ha hb hc hd (suc (suc (suc i))) = omega arith

symbol_small : (dec s : List ℕ) (i : ℕ) → IsDecodeTable dec → slice_index s i < 256 → symbol_error dec s i ≡ None → slice_index dec (slice_index s i) < 64
symbol_small dec s i table byte none = elim (table (slice_index s i) byte) [
  | inl bad ↦ let h = rw bad at none in cc h
  | inr small ↦ small
]

groups_small : (dec s : List ℕ) (q : ℕ) → IsDecodeTable dec → IsBytes s → groups_error dec s q ≡ None → IsBytes (groups_bytes dec s q)
unfolding groups_error groups_bytes
groups_small dec s zero table bytes none = λ i. omega arith
groups_small dec s (suc q) table bytes none =
    let i : ℕ = 4 * q in
    let parts = both_none (groups_error dec s q) (group_error dec s i) none in
    let p0 = both_none (symbol_error dec s i) (or_else (symbol_error dec s (i + 1)) (or_else (symbol_error dec s (i + 2)) (symbol_error dec s (i + 3)))) parts.1 in
    let p1 = both_none (symbol_error dec s (i + 1)) (or_else (symbol_error dec s (i + 2)) (symbol_error dec s (i + 3))) p0.1 in
    let p2 = both_none (symbol_error dec s (i + 2)) (symbol_error dec s (i + 3)) p1.1 in
    bytes_append (groups_bytes dec s q) (group_bytes dec s i) (groups_small dec s q table bytes parts.0)
    (group_small _ _ _ _ (symbol_small dec s i table (bytes i) p0.0) (symbol_small dec s (i + 1) table (bytes (i + 1)) p1.0)
    (symbol_small dec s (i + 2) table (bytes (i + 2)) p2.0) (symbol_small dec s (i + 3) table (bytes (i + 3)) p2.1))

scan_small : (dec : List ℕ) (pad at : ℕ) (bs : List ℕ) (st fin : _) (i : ℕ) → IsDecodeTable dec → IsBytes bs → IsLeftover st i
    → scan_steps dec pad at (Ok st) i bs ≡ Ok fin → IsLeftover fin (i + length bs)
unfolding scan_steps
scan_small dec pad at [] st fin i table bytes held h =
    let e : st ≡ fin = cc h in
    let none : i + 0 ≡ i = omega arith in
    rw (← e, none) held
scan_small dec pad at (b ∷ bs) st fin i table bytes held h = elim (cases_Result (push_leftover dec pad at st i b)) [
  | inl (next, is) ↦
      let more : i + suc (length bs) ≡ i + 1 + length bs = omega arith in
      rw more (scan_small dec pad at bs next fin (i + 1) table (λ k. bytes (suc k)) (IsLeftover_next dec pad at st i b next table held (bytes 0) is) (rw (is, scan_steps) at h))
  | inr (e, is) ↦ let bad = rw (is, scan_steps) at h in cc bad
]

leftover_small : (st : _) (i : ℕ) → IsLeftover st i → IsBytes (leftover_bytes st)
leftover_small st i held = bytes_take _ _ (group_small _ _ _ _ (held.3 0) (held.3 1) (held.3 2) (held.3 3))

zeros_small : (k : ℕ) → slice_index (0 ∷ 0 ∷ 0 ∷ 0 ∷ []) k < 64
zeros_small zero = omega arith
zeros_small (suc zero) = omega arith
zeros_small (suc (suc zero)) = omega arith
zeros_small (suc (suc (suc zero))) = omega arith
zeros_small (suc (suc (suc (suc k)))) = omega arith

suffix_small : (dec s : List ℕ) (pad at : ℕ) (allow : Bool) (mode : DecodePaddingMode) → IsDecodeTable dec → IsBytes s
    → suffix_error dec pad allow mode at s ≡ None → IsBytes (suffix_bytes dec pad at s)
suffix_small dec s pad at allow mode table bytes none = elim (cases_Result (scan_last dec pad at s)) [
  | inl (st, is) ↦
      let rest : IsBytes (drop at s) = λ k. rw (get_or-drop at s k 0) (bytes (at + k)) in
      rw is (leftover_small st _ (scan_small dec pad at (drop at s) no_leftover st 0 table rest (omega arith, omega arith, omega arith, zeros_small) is))
  | inr (e, is) ↦ let bad = rw is at none in cc bad
]

outcome_none : (x : Option DecodeError) (d b : List ℕ) → decode_outcome x d ≡ Ok b → x ≡ None
outcome_none None d b h = refl
outcome_none (Some e) d b h = cc h

pub decoded_bytes_small : (e : GeneralPurpose) (s b : List ℕ) → IsBytes s → decode_of e s ≡ Ok b → IsBytes b
decoded_bytes_small e s b bytes ok =
    let table = IsDecodeTable_from e.encode_table e.decode_table (are_tables_inverse e.encode_table e.decode_table e.padding.value e.tables) in
    let none = outcome_none _ _ b ok in
    let parts = both_none (lone_error e.decode_table e.padding.value s) _ none in
    let more = both_none (groups_error e.decode_table s (groups_before_last (length s))) _ parts.1 in
    decode_of_bytes e s b (bytes_append _ _ (groups_small e.decode_table s (groups_before_last (length s)) table bytes more.0)
    (suffix_small e.decode_table s e.padding.value (4 * groups_before_last (length s)) e.config.decode_allow_trailing_bits e.config.decode_padding_mode table bytes more.1)) ok
