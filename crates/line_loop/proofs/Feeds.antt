-- Where the first line feed stands.
use Rattle.std.proofs.Common.{◌≡◌, ℕ, ◌+◌, ◌-◌, ◌<◌, ◌≤◌, Bool, true, false, List, ◌∷◌, ◌++◌, None, Some, length, take, drop, get_or, refl, sym, ap, ◌∙◌, subst, arith, length-drop, length-take, ⊎_elim}
use Rattle.std.proofs.lemmas.List.{take-append-drop, get_or-take, get_or-drop, get_or_default, drop_more}
use Rattle.std.proofs.lemmas.Bool.{cases_lt, eqb-true}
use Rattle.memchr.specs.Find.{IsFirstByte, Passes, Nowhere, is_byte}
use Rattle.line_loop.specs.Lines.{is_feed}
use Rattle.line_loop.specs.inner.Pending.{NoFeed, EndsLine}

not_true : (b : Bool) → (b ≡ true → ⊥) → b ≡ false
not_true true h = absurd (h refl)
not_true false h = refl

-- no line feed before `seen` and none in the next n bytes
module _ (bytes hay : List ℕ) (seen : ℕ) (is_rest : hay ≡ drop seen bytes) (none_before : NoFeed (take seen bytes)) where
  none_up_to : (n : ℕ) → seen + n ≤ length bytes → Nowhere (Passes (is_byte 10) hay) 0 n → (k : ℕ) → k < seen + n → is_feed (get_or bytes k 0) ≡ false
  none_up_to n within nowhere k below =
      ⊎_elim (λ early. subst (λ (b : ℕ). is_feed b ≡ false) (get_or-take seen bytes k 0 early) (none_before k 0 (omega (arith, length-take seen bytes))))
      (λ late.
      let e : seen + (k - seen) ≡ k = omega arith in
      let at : get_or hay (k - seen) 0 ≡ get_or bytes k 0 =
      ap (λ (xs : List ℕ). get_or xs (k - seen) 0) is_rest ∙ (get_or-drop seen bytes (k - seen) 0 ∙ ap (λ (i : ℕ). get_or bytes i 0) e) in
      subst (λ (b : ℕ). is_feed b ≡ false) at (not_true _ (nowhere (k - seen) (omega arith) (omega arith))))
      (cases_lt k seen)

  none_in_front : (n : ℕ) → seen + n ≤ length bytes → Nowhere (Passes (is_byte 10) hay) 0 n → NoFeed (take (seen + n) bytes)
  none_in_front n within nowhere k d below =
      let short : k < seen + n = omega (arith, length-take (seen + n) bytes) in
      let long : k < length bytes = omega arith in
      subst (λ (b : ℕ). is_feed b ≡ false) (get_or_default bytes k 0 d long ∙ sym (get_or-take (seen + n) bytes k d short)) (none_up_to n within nowhere k short)

  pub nowhere_at_all : seen ≤ length bytes → IsFirstByte (is_byte 10) hay None → NoFeed bytes
  nowhere_at_all within nowhere k d below =
      let size : length hay ≡ length bytes - seen = ap length is_rest ∙ length-drop seen bytes in
      subst (λ (b : ℕ). is_feed b ≡ false) (get_or_default bytes k 0 d below) (none_up_to (length hay) (omega arith) nowhere k (omega arith))

  pub first_at : (i : ℕ) → seen ≤ length bytes → IsFirstByte (is_byte 10) hay (Some i) → EndsLine bytes (seen + i)
  first_at i within found =
      let size : length hay ≡ length bytes - seen = ap length is_rest ∙ length-drop seen bytes in
      let low = found.0.high in
      let n = seen + i in
      let inside : n < length bytes = omega arith in
      let here : get_or bytes n 0 ≡ 10 =
      sym (get_or-drop seen bytes i 0) ∙ (ap (λ (xs : List ℕ). get_or xs i 0) (sym is_rest) ∙ eqb-true _ 10 found.1) in
      record {
        within = inside;
        line = none_in_front i (omega arith) found.0.before;
        feed = sym (take-append-drop n bytes) ∙ ap (λ (xs : List ℕ). take n bytes ++ xs) (drop_more bytes n 0 inside ∙ ap (λ (b : ℕ). b ∷ drop (n + 1) bytes) here);
      }
