-- Rows that are sorted by their serials, and what is left of them without the later ones of each serial.
use Rattle.std.proofs.Common.{◌≡◌, ℕ, ◌≤◌, suc, Bool, true, false, not, ◌&&◌, ◌==◌, nat_lt, cond, Option, None, Some, List, [], ◌∷◌, filter, map, find, refl, sym, ap, subst, ◌∙◌, arith}
use Rattle.std.specs.List.{dedup, dedup_from}
use Rattle.std.specs.List.Sorted.{IsNonDecreasingBy, ties}
use Rattle.std.specs.Ordering.{nat_cmp, is_lt}
use Rattle.std.proofs.lemmas.Bool.{eqb-true, and_from}
use Rattle.std.proofs.lemmas.Bool.Decides.{nat_tests}
use Rattle.std.proofs.lemmas.List.Elements.{filter_agree}
use Rattle.key_roll.specs.declared.rows.RevokedRow.{RevokedRow}
use Rattle.crl_obj.specs.Values.{are_rising, rise_above}
use Rattle.issue_values.specs.Bodies.{crl_entry}
use Rattle.issue_drafts.specs.Firsts.{row_at, AreFirsts}

abbrev pub same : RevokedRow → RevokedRow → Bool
same a b = a.serial == b.serial

-- ---- the first of each serial

abbrev head : List RevokedRow → Option RevokedRow
head [] = None
head (x ∷ xs) = Some x

head-cond : (b : Bool) (x : RevokedRow) (xs : List RevokedRow) (o : Option RevokedRow) → o ≡ head xs → cond b (Some x) o ≡ head (cond b (x ∷ xs) xs)
head-cond true x xs o e = refl
head-cond false x xs o e = e

-- A row that is found is the first of those with the serial.
found-first : (p : RevokedRow → Bool) (rows : List RevokedRow) → find p rows ≡ head (filter p rows)
found-first p [] = refl
found-first p (row ∷ rows) = head-cond (p row) row (filter p rows) (find p rows) (found-first p rows)

tied : (m n : ℕ) → (not (is_lt (nat_cmp m n)) && not (is_lt (nat_cmp n m))) ≡ (n == m)
tied m n = grind (arith, nat_tests)

pub kept-rows : (xs ys : List RevokedRow) → ((x : RevokedRow) → filter (ties (λ (a b : RevokedRow). is_lt (nat_cmp a.serial b.serial)) x) ys ≡ filter (ties (λ (a b : RevokedRow). is_lt (nat_cmp a.serial b.serial)) x) xs) → (serial : ℕ) → row_at ys serial ≡ row_at xs serial
kept-rows xs ys stable serial =
    let x : RevokedRow = record { serial = serial; not_after = 0; revoked_at = 0 } in
    let p : RevokedRow → Bool = λ row. row.serial == serial in
    let t = ties (λ (a b : RevokedRow). is_lt (nat_cmp a.serial b.serial)) x in
    let alike : (y : RevokedRow) → t y ≡ p y = λ y. tied serial y.serial in
    found-first p ys ∙ (ap head (sym (filter_agree t p alike ys)) ∙ (ap head (stable x) ∙ (ap head (filter_agree t p alike xs) ∙ sym (found-first p xs))))

-- ---- without the later ones

-- Leaving out a row with the serial of one before it changes no look-up.
found-skip : (k x : RevokedRow) (n : ℕ) (o : Option RevokedRow) → (x.serial == k.serial) ≡ true → cond (k.serial == n) (Some k) o ≡ cond (k.serial == n) (Some k) (cond (x.serial == n) (Some x) o)
found-skip k x n o e =
    let is : x.serial ≡ k.serial = eqb-true x.serial k.serial e in
    skip (k.serial == n) (x.serial == n) (ap (λ (m : ℕ). m == n) is)
  where
    skip : (b c : Bool) → c ≡ b → cond b (Some k) o ≡ cond b (Some k) (cond c (Some x) o)
    skip true c e = refl
    skip false c e = rw e refl

found-dedup_from : (k : RevokedRow) (xs : List RevokedRow) (n : ℕ) → row_at (dedup_from same k xs) n ≡ row_at (k ∷ xs) n
found-dedup_from k [] n = refl
found-dedup_from k (x ∷ xs) n = by (same x k) refl (found-dedup_from k xs n) (found-dedup_from x xs n)
  where
    by : (b : Bool) → same x k ≡ b → row_at (dedup_from same k xs) n ≡ row_at (k ∷ xs) n → row_at (dedup_from same x xs) n ≡ row_at (x ∷ xs) n → row_at (cond b (dedup_from same k xs) (k ∷ dedup_from same x xs)) n ≡ row_at (k ∷ x ∷ xs) n
    by true e skipped kept = skipped ∙ found-skip k x n (row_at xs n) e
    by false e skipped kept = ap (λ (o : Option RevokedRow). cond (k.serial == n) (Some k) o) kept

pub found-dedup : (xs : List RevokedRow) (n : ℕ) → row_at (dedup same xs) n ≡ row_at xs n
found-dedup [] n = refl
found-dedup (x ∷ xs) n = found-dedup_from x xs n

-- Serials that don't fall.
abbrev pub Climbs : ℕ → List RevokedRow → Type 0
Climbs n [] = Unit {0}
Climbs n (x ∷ xs) = (n ≤ x.serial) × Climbs x.serial xs

climbs-from : (x : RevokedRow) (xs : List RevokedRow) → IsNonDecreasingBy (λ (r : RevokedRow). r.serial) (x ∷ xs) → Climbs x.serial xs
climbs-from x [] up = tt
climbs-from x (y ∷ xs) up = (up 0 1 x (omega arith) (omega arith), climbs-from y xs (λ i j d le inside. up (suc i) (suc j) d (omega arith) (omega arith)))

apart : (m n : ℕ) → n ≤ m → (m == n) ≡ false → nat_lt n m ≡ true
apart m n le not = grind (arith, nat_tests, le, not)

rising-from : (n : ℕ) (k : RevokedRow) (xs : List RevokedRow) → Climbs k.serial xs → nat_lt n k.serial ≡ true → rise_above n (map crl_entry (dedup_from same k xs)) ≡ true
rising-from n k [] up above = and_from (nat_lt n k.serial) true above refl
rising-from n k (x ∷ xs) up above =
    by (same x k) refl (λ climbs. rising-from n k xs climbs above) (λ next. rising-from k.serial x xs up.1 next)
  where
    by : (b : Bool) → same x k ≡ b → (Climbs k.serial xs → rise_above n (map crl_entry (dedup_from same k xs)) ≡ true) → (nat_lt k.serial x.serial ≡ true → rise_above k.serial (map crl_entry (dedup_from same x xs)) ≡ true) → rise_above n (map crl_entry (cond b (dedup_from same k xs) (k ∷ dedup_from same x xs))) ≡ true
    by true e skipped kept = skipped (subst (λ (m : ℕ). Climbs m xs) (eqb-true x.serial k.serial e) up.1)
    by false e skipped kept = and_from (nat_lt n k.serial) (rise_above k.serial (map crl_entry (dedup_from same x xs))) above (kept (apart x.serial k.serial up.0 e))

rising-head : (k : RevokedRow) (xs : List RevokedRow) → Climbs k.serial xs → are_rising (map crl_entry (dedup_from same k xs)) ≡ true
rising-head k [] up = refl
rising-head k (x ∷ xs) up = by (same x k) refl (λ climbs. rising-head k xs climbs)
  where
    by : (b : Bool) → same x k ≡ b → (Climbs k.serial xs → are_rising (map crl_entry (dedup_from same k xs)) ≡ true) → are_rising (map crl_entry (cond b (dedup_from same k xs) (k ∷ dedup_from same x xs))) ≡ true
    by true e skipped = skipped (subst (λ (m : ℕ). Climbs m xs) (eqb-true x.serial k.serial e) up.1)
    by false e skipped = rising-from k.serial x xs up.1 (apart x.serial k.serial up.0 e)

pub rising-dedup : (xs : List RevokedRow) → IsNonDecreasingBy (λ (r : RevokedRow). r.serial) xs → are_rising (map crl_entry (dedup same xs)) ≡ true
rising-dedup [] up = refl
rising-dedup (x ∷ xs) up = rising-head x xs (climbs-from x xs up)

pub firsts-are : (xs ys zs : List RevokedRow) → ((serial : ℕ) → row_at ys serial ≡ row_at xs serial) → IsNonDecreasingBy (λ (r : RevokedRow). r.serial) ys → zs ≡ dedup same ys → AreFirsts xs zs
firsts-are xs ys zs kept up is = record {
  rising = ap (λ (l : List RevokedRow). are_rising (map crl_entry l)) is ∙ rising-dedup ys up;
  each = λ serial. ap (λ (l : List RevokedRow). row_at l serial) is ∙ (found-dedup ys serial ∙ kept serial);
}
