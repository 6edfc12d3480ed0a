-- Before which lines replies may wait.
use Rattle.std.proofs.Common.{◌≡◌, ℕ, ◌+◌, ◌<◌, true, List, length, take, drop, get_or, sym, ap, ◌∙◌, subst, arith, ⊎_elim}
use Rattle.std.proofs.lemmas.Bool.{cases_lt, true≢false}
use Rattle.std.proofs.Math.Seq.{get_or-append_seam}
use Rattle.std.proofs.lemmas.List.{get_or-take, length-take-le}
use Rattle.line_loop.specs.Lines.{is_feed}
use Rattle.line_loop.specs.inner.Pending.{Pending, NoFeed, EndsLine, IsLongFirst, NoneWaits}

-- a line feed stands where a line ends
feed_at : (bytes : List ℕ) (n : ℕ) → EndsLine bytes n → is_feed (get_or bytes n 0) ≡ true
feed_at bytes n ends =
    let size : length (take n bytes) ≡ n = length-take-le n bytes (omega (arith, ends.within)) in
    ap is_feed (subst (λ (k : ℕ). get_or bytes k 0 ≡ 10) size
    (ap (λ (xs : List ℕ). get_or xs (length (take n bytes)) 0) ends.feed ∙ get_or-append_seam (take n bytes) 10 (drop (n + 1) bytes) 0))

-- without a line feed no line ends
pub never_ends : (bytes : List ℕ) (n : ℕ) → NoFeed bytes → EndsLine bytes n → ⊥
never_ends bytes n none ends = true≢false (sym (feed_at bytes n ends) ∙ none n 0 ends.within)

-- no line feed stands before the first one
none_earlier : (bytes : List ℕ) (m n : ℕ) → EndsLine bytes m → EndsLine bytes n → m < n → ⊥
none_earlier bytes m n earlier ends below =
    let size : length (take n bytes) ≡ n = length-take-le n bytes (omega (arith, ends.within)) in
    true≢false (sym (feed_at bytes m earlier) ∙ (ap is_feed (sym (get_or-take n bytes m 0 below)) ∙ ends.line m 0 (omega arith)))

-- the first line ends at one place
pub one_end : (bytes : List ℕ) (m n : ℕ) → EndsLine bytes m → EndsLine bytes n → m ≡ n
one_end bytes m n first second =
    ⊎_elim (λ below. absurd (none_earlier bytes m n first second below))
    (λ above. ⊎_elim (λ below. absurd (none_earlier bytes n m second first below)) (λ same. omega arith) (cases_lt n m))
    (cases_lt m n)

module _ (long : List ℕ → Type 0) (window : Pending) where
  -- a line that doesn't take long ends first
  pub not_long_first : (n : ℕ) → EndsLine window.bytes n → (long (take n window.bytes) → ⊥) → (m : ℕ) → IsLongFirst long window m → ⊥
  not_long_first n ends quick m first =
      quick (subst (λ (k : ℕ). long (take k window.bytes)) (one_end window.bytes m n first.ends ends) first.takes_long)

  -- before it may wait what does
  pub may_wait : (waiting : List ℕ) → ((n : ℕ) → IsLongFirst long window n → ⊥) → NoneWaits long window waiting
  may_wait waiting never n first = absurd (never n first)
