-- AS numbers, with and without the mark.
use Rattle.std.proofs.Common.{◌≡◌, ℕ, ◌^◌, ◌<◌, List, take, drop, take-append-drop, sym, subst, arith, inl, inr, Result, Ok, Err}
use Rattle.std.specs.Prelude.{OkIff}
use Rattle.std.specs.Result.{result_ok}
use Rattle.ip_text.specs.Reader.{Reads}
use Rattle.ip_text.specs.Number.{IsDecimalText, IsSaturatedText, FollowsMark, IsAsNumberText}
use Rattle.ip_text.specs.laws.NumberLaws.{one_decimal}
use Rattle.ip_text.specs.laws.AsNumberLaws.{number_follows}

-- and what follows the mark is one, where it fits
follows_number : (text rest : List ℕ) (n : ℕ) → FollowsMark text rest → n < 2 ^ 32 → IsDecimalText rest n → IsAsNumberText text n
follows_number text rest n (inl (mark, e)) fits number = record {
  fits = fits;
  spelled = inr (take 2 text, drop 2 text, mark, sym (take-append-drop 2 text), subst (λ t. IsDecimalText t n) e number);
}
follows_number text rest n (inr (none, e)) fits number = record { fits = fits; spelled = inl (subst (λ t. IsDecimalText t n) e number) }

-- what follows the mark is told by 64 bits, and is an AS number where it has 32
pub reads_as_number : {E : Type 0} (text rest : List ℕ) (told : ℕ) (r : Result ℕ E) → FollowsMark text rest → IsSaturatedText rest told → OkIff r (told < 2 ^ 32) told
    → Reads (IsAsNumberText text) (result_ok r)
reads_as_number text rest told (Ok v) follows is small =
    let same : v ≡ is.number = omega (arith, is.value, small) in
    follows_number text rest v follows (omega (arith, is.value, small)) (subst (IsDecimalText rest) (sym same) is.written)
reads_as_number text rest told (Err e) follows is large = λ k number.
    let same = one_decimal rest is.number k is.written (number_follows text rest k follows number) in
    large (omega (arith, is.value, same, number.fits))
