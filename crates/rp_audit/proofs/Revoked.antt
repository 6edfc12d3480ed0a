-- A look-up by serial among serials that rise.
use Rattle.std.proofs.Common.{◌≡◌, ℕ, zero, suc, ◌+◌, ◌<◌, ◌≤◌, List, [], ◌∷◌, Bool, true, false, length, get_or, Result, Ok, Err, refl, sym, inl, inr, arith}
use Rattle.std.specs.Prelude.{◌&&◌, ◌||◌, ◌==◌, nat_lt}
use Rattle.std.specs.Result.{is_ok}
use Rattle.std.specs.List.{list_any}
use Rattle.std.specs.List.Sorted.{IsSearchInRange, IsBinarySearchResult, IsNonDecreasingBy}
use Rattle.std.specs.Ordering.{nat_cmp, ordering_index}
use Rattle.std.proofs.lemmas.Cmp.{ranked}
use Rattle.std.proofs.lemmas.Bool.{and_parts, or_left, or_right, cases_lt}
use Rattle.std.proofs.lemmas.Bool.Decides.{nat_tests}
use Rattle.crl_obj.specs.declared.values.CrlEntry.{CrlEntry}
use Rattle.crl_obj.specs.Values.{rise_above, are_rising}
use Rattle.rp_rules.specs.Certificates.{is_revoked}

lt_from : (a b : ℕ) → nat_lt a b ≡ true → a < b
lt_from a b h = grind (arith, nat_tests)

eq_true : (a b : ℕ) → a ≡ b → (a == b) ≡ true
eq_true a b h = grind (arith, nat_tests)

eq_false : (a b : ℕ) → (a ≡ b → ⊥) → (a == b) ≡ false
eq_false a b h = grind (arith, nat_tests)

above : (n : ℕ) (es : List CrlEntry) → rise_above n es ≡ true → (j : ℕ) (d : CrlEntry) → j < length es → n < (get_or es j d).serial
above n [] rises j d low = let none : ⊥ = omega (arith, low) in absurd none
above n (e ∷ es) rises zero d low = lt_from n e.serial (and_parts (nat_lt n e.serial) (rise_above e.serial es) rises).0
above n (e ∷ es) rises (suc j) d low =
    let both = and_parts (nat_lt n e.serial) (rise_above e.serial es) rises in
    let here : n < e.serial = lt_from n e.serial both.0 in
    let there : e.serial < (get_or es j d).serial = above e.serial es both.1 j d (omega (arith, low)) in
    omega (arith, here, there)

-- A serial is at most a later one.
apart : (e : CrlEntry) (es : List CrlEntry) → rise_above e.serial es ≡ true → (i j : ℕ) (d : CrlEntry) → i ≤ j → j < length (e ∷ es) → (get_or (e ∷ es) i d).serial ≤ (get_or (e ∷ es) j d).serial
apart e es rises zero zero d le low = omega arith
apart e es rises zero (suc j) d le low = let there : e.serial < (get_or es j d).serial = above e.serial es rises j d (omega (arith, low)) in omega (arith, there)
apart e es rises (suc i) zero d le low = let none : ⊥ = omega (arith, le) in absurd none
apart e [] rises (suc i) (suc j) d le low = let none : ⊥ = omega (arith, low) in absurd none
apart e (f ∷ fs) rises (suc i) (suc j) d le low = apart f fs (and_parts (nat_lt e.serial f.serial) (rise_above f.serial fs) rises).1 i j d (omega (arith, le)) (omega (arith, low))

ordered : (es : List CrlEntry) → are_rising es ≡ true → (i j : ℕ) (d : CrlEntry) → i ≤ j → j < length es → (get_or es i d).serial ≤ (get_or es j d).serial
ordered [] rises i j d le low = let none : ⊥ = omega (arith, low) in absurd none
ordered (e ∷ es) rises i j d le low = apart e es rises i j d le low

index_rises : (a b serial : ℕ) → a ≤ b → ordering_index (nat_cmp a serial) ≤ ordering_index (nat_cmp b serial)
index_rises a b serial le = grind (arith, nat_tests)

compared : (es : List CrlEntry) (serial : ℕ) → are_rising es ≡ true → IsNonDecreasingBy (λ e. ordering_index (nat_cmp e.serial serial)) es
compared es serial rises i j d le low = index_rises (get_or es i d).serial (get_or es j d).serial serial (ordered es rises i j d le low)

any_at : (p : CrlEntry → Bool) (es : List CrlEntry) (i : ℕ) (d : CrlEntry) → i < length es → p (get_or es i d) ≡ true → list_any p es ≡ true
any_at p [] i d low yea = let none : ⊥ = omega (arith, low) in absurd none
any_at p (e ∷ es) zero d low yea = or_left (p e) (list_any p es) yea
any_at p (e ∷ es) (suc i) d low yea = or_right (p e) (list_any p es) (any_at p es i d (omega (arith, low)) yea)

or_none : (a b : Bool) → a ≡ false → b ≡ false → (a || b) ≡ false
or_none false b nay rest = rest
or_none true b nay rest = cc

none_any : (p : CrlEntry → Bool) (es : List CrlEntry) (d : CrlEntry) → ((j : ℕ) → j < length es → p (get_or es j d) ≡ false) → list_any p es ≡ false
none_any p [] d nay = refl
none_any p (e ∷ es) d nay = or_none (p e) (list_any p es) (nay 0 (omega arith)) (none_any p es d (λ j low. nay (suc j) (omega (arith, low))))

-- What the search answers is whether the serial is listed.
pub searched : (es : List CrlEntry) (serial : ℕ) (r : Result ℕ ℕ) → are_rising es ≡ true → IsSearchInRange r (length es) → IsBinarySearchResult (λ e. nat_cmp e.serial serial) es r → is_ok r ≡ is_revoked es serial
searched es serial (Ok i) rises low at =
    let d : CrlEntry = record { serial = 0; revoked_at = 0 } in
    sym (any_at (λ e. e.serial == serial) es i d low (eq_true (get_or es i d).serial serial (ranked (get_or es i d).serial serial _ (sym (at d)))))
searched es serial (Err i) rises bound parted =
    let d : CrlEntry = record { serial = 0; revoked_at = 0 } in
    let parts = parted (compared es serial rises) in
    let other : (j : ℕ) → j < length es → (get_or es j d).serial ≡ serial → ⊥ = λ j low same. elim (cases_lt j i) [
      | inl below ↦ let less : (get_or es j d).serial < serial = ranked (get_or es j d).serial serial _ (sym (parts.0 j d (omega arith) below)) in omega (arith, less, same)
      | inr behind ↦ let more : serial < (get_or es j d).serial = ranked (get_or es j d).serial serial _ (sym (parts.1 j d behind low)) in omega (arith, more, same)
    ] in
    sym (none_any (λ e. e.serial == serial) es d (λ j low. eq_false (get_or es j d).serial serial (other j low)))
