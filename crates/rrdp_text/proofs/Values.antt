-- What values are read of bytes.
use Rattle.std.proofs.Common.{◌≡◌, ℕ, zero, suc, ◌^◌, ◌<◌, Bool, true, false, ◌==◌, ◌&&◌, ◌||◌, not, List, length, slice_index, Result, Ok, Err, Option, Some, None, refl, sym, ◌∙◌, arith, ◌↔◌, nat_lt, if◌then◌else◌}
use Rattle.std.specs.Prelude.{IsOk, IfOk, option_and_then}
use Rattle.std.specs.Result.{result_ok, OkIff}
use Rattle.std.specs.Str.{bytes_eq}
use Rattle.std.specs.Str.Parse.{ParsesUnsigned, digits_value}
use Rattle.std.specs.List.{list_all}
use Rattle.uuid.specs.Text.{hyphenated_text, lower, parsed}
use Rattle.std.proofs.lemmas.Bool.{lt-ltb, ltb-true}
use Rattle.std.proofs.lemmas.Str.Parse.{parse_digits}
use Rattle.rrdp_text.proofs.FieldKinds.{numerals, kept_number, stands, stands_from, alone_from}
use Rattle.rrdp_text.specs.Fields.{spelled_so, session, serial, is_digit}

pub session_none : {E : Type 0} (s : List ℕ) (r : Result (List ℕ) E) → result_ok r ≡ None → (IsOk r ↔ ((u : List ℕ) × (parsed s ≡ Some u)))
    → session.value s ≡ None
session_none s (Ok u) none ok = cc none
session_none s (Err e) none ok =
    let go : (o : Option (List ℕ)) → (((u : List ℕ) × (o ≡ Some u)) → ⊥) → option_and_then (spelled_so (hyphenated_text lower) s) o ≡ None =
    λ o. elim o as (λ (o : Option (List ℕ)). (((u : List ℕ) × (o ≡ Some u)) → ⊥) → option_and_then (spelled_so (hyphenated_text lower) s) o ≡ None) [
      | None ↦ λ h. refl
      | Some u ↦ λ h. absurd (h (u, refl))
    ] in
    go (parsed s) (λ some. let bad = ok.1 some in cc bad)

pub session_other : (s u text : List ℕ) → parsed s ≡ Some u → text ≡ hyphenated_text lower u → bytes_eq text s ≡ false → session.value s ≡ None
session_other s u text is spelled differs = rw (is, ← spelled, differs) refl

pub session_parsed : {E : Type 0} (s u : List ℕ) (r : Result (List ℕ) E) → result_ok r ≡ Some u → IfOk r (λ x. Some x ≡ parsed s) → parsed s ≡ Some u
session_parsed s u (Ok x) some is = sym is ∙ some
session_parsed s u (Err e) some is = cc some

alone_unless : (b n : ℕ) → (1 < n → b ≡ 48 → ⊥) → 0 < n → b ≡ 48 → n ≡ 1
alone_unless b zero h some zero_first = absurd (omega arith)
alone_unless b (suc zero) h some zero_first = refl
alone_unless b (suc (suc n)) h some zero_first = absurd (h (omega arith) zero_first)

dropped : {A : Type 0} (a b c : Bool) (v : A) → ((a ≡ true) → (c ≡ true) → ⊥) → (if a && b && c then Some v else None) ≡ None
dropped true true true v h = absurd (h refl refl)
dropped true true false v h = refl
dropped true false c v h = refl
dropped false b c v h = refl

pub serial_parsed : {E : Type 0} (s : List ℕ) (r : Result ℕ E) → list_all is_digit s ≡ true → (1 < length s → slice_index s 0 ≡ 48 → ⊥)
    → ParsesUnsigned 64 10 s r → result_ok r ≡ serial.value s
serial_parsed {E} s r all alone parses =
    let read = parse_digits numerals 64 s r parses all in
    let go : (x : Result ℕ E) → OkIff x ((0 < length s) × (digits_value 10 s < 2 ^ 64)) (digits_value 10 s) → result_ok x ≡ serial.value s =
    λ x. elim x as (λ (x : Result ℕ E). OkIff x ((0 < length s) × (digits_value 10 s < 2 ^ 64)) (digits_value 10 s) → result_ok x ≡ serial.value s) [
      | Ok n ↦ λ h. sym (kept_number (not (length s == 0)) (not (slice_index s 0 == 48) || (length s == 1)) (nat_lt (digits_value 10 s) (2 ^ 64)) (digits_value 10 s) n
          (stands (length s) h.0.0) (alone_from (slice_index s 0) (length s) (alone_unless (slice_index s 0) (length s) alone h.0.0)) (lt-ltb (digits_value 10 s) (2 ^ 64) h.0.1) (sym h.1))
      | Err e ↦ λ h. sym (dropped (not (length s == 0)) (not (slice_index s 0 == 48) || (length s == 1)) (nat_lt (digits_value 10 s) (2 ^ 64)) (digits_value 10 s)
          (λ some fits. h (stands_from (length s) some, ltb-true (digits_value 10 s) (2 ^ 64) fits)))
    ] in
    go r read
