-- Entries that are among others, in their order, are merged in with the rest.
use Rattle.std.proofs.Common.{◌≡◌, ℕ, ◌<◌, ◌≤◌, Bool, true, false, cond, eqb, leb, ltb, List, [], ◌∷◌, refl, sym, ap, subst, ◌∙◌, arith, inl, inr}
use Rattle.std.proofs.lemmas.Bool.{and_parts, le-leb, leb-true, ltb-true}
use Rattle.key_roll.specs.declared.rows.RevokedRow.{RevokedRow}
use Rattle.press_records.specs.Rows.{added, put_in, merged, rise_behind, rise, IsPart}
use Rattle.press_records.specs.laws.EntryLaws.{none-added, rest-rises, other-stays, same-goes}

abbrev FirstAbove : ℕ → List RevokedRow → Type 0
FirstAbove n [] = Unit {0}
FirstAbove n (entry ∷ entries) = n < entry.serial

first-above : (n : ℕ) (entry : RevokedRow) (entries : List RevokedRow) → rise_behind n (entry ∷ entries) ≡ true
    → (n < entry.serial) × (rise_behind entry.serial entries ≡ true)
first-above n entry entries up =
    let p = and_parts (ltb n entry.serial) (rise_behind entry.serial entries) up in
    (ltb-true n entry.serial p.0, p.1)

lower : (n m : ℕ) (entries : List RevokedRow) → n < m → FirstAbove m entries → FirstAbove n entries
lower n m [] below above = tt
lower n m (entry ∷ entries) below above = omega arith

added-above : (n : ℕ) (entries carried : List RevokedRow) → rise_behind n entries ≡ true → FirstAbove n (added entries carried)
added-above n [] carried up = tt
added-above n (entry ∷ entries) [] up = (first-above n entry entries up).0
added-above n (entry ∷ entries) (known ∷ carried) up = choose (eqb known.serial entry.serial) (added-above entry.serial entries carried)
  where
    choose : (b : Bool) → (rise_behind entry.serial entries ≡ true → FirstAbove entry.serial (added entries carried))
        → FirstAbove n (cond b (added entries carried) (entry ∷ added entries (known ∷ carried)))
    choose true later =
        let p = first-above n entry entries up in
        lower n entry.serial (added entries carried) p.0 (later p.1)
    choose false later = (first-above n entry entries up).0

part-above : (n : ℕ) (known : RevokedRow) (carried entries : List RevokedRow) → rise_behind n entries ≡ true
    → IsPart (known ∷ carried) entries → n < known.serial
part-above n known carried [] up part = absurd part
part-above n known carried (entry ∷ entries) up (inl here) =
    let p = first-above n entry entries up in
    subst (λ (row : RevokedRow). n < row.serial) (sym here.0) p.0
part-above n known carried (entry ∷ entries) up (inr later) =
    let p = first-above n entry entries up in
    let above : entry.serial < known.serial = part-above entry.serial known carried entries p.1 later in
    omega arith

put-first : (entry : RevokedRow) (rest : List RevokedRow → List RevokedRow) (others : List RevokedRow) → FirstAbove entry.serial others
    → put_in entry rest others ≡ entry ∷ rest others
put-first entry rest [] above = refl
put-first entry rest (other ∷ others) above = choose (leb other.serial entry.serial) refl
  where
    choose : (b : Bool) → leb other.serial entry.serial ≡ b
        → cond b (other ∷ put_in entry rest others) (entry ∷ rest (other ∷ others)) ≡ entry ∷ rest (other ∷ others)
    choose true is = absurd (omega (arith, leb-true other.serial entry.serial is))
    choose false is = refl

put-later : (entry other : RevokedRow) (rest : List RevokedRow → List RevokedRow) (others : List RevokedRow) → other.serial ≤ entry.serial
    → put_in entry rest (other ∷ others) ≡ other ∷ put_in entry rest others
put-later entry other rest others below = rw (le-leb other.serial entry.serial below) refl

pub merged-part : (carried entries : List RevokedRow) → rise entries ≡ true → IsPart carried entries → merged carried (added entries carried) ≡ entries
merged-part [] entries up part = none-added entries
merged-part (known ∷ carried) [] up part = absurd part
merged-part (known ∷ carried) (entry ∷ entries) up (inl here) =
    subst (λ (row : RevokedRow). merged (row ∷ carried) (added (entry ∷ entries) (row ∷ carried)) ≡ entry ∷ entries) (sym here.0)
    (ap (put_in entry (merged carried)) (same-goes entry entries carried)
    ∙ put-first entry (merged carried) (added entries carried) (added-above entry.serial entries carried up)
    ∙ ap (λ (l : List RevokedRow). entry ∷ l) (merged-part carried entries (rest-rises entry.serial entries up) here.1))
merged-part (known ∷ carried) (entry ∷ entries) up (inr later) =
    let above : entry.serial < known.serial = part-above entry.serial known carried entries up later in
    ap (put_in known (merged carried)) (other-stays entry known entries carried above)
    ∙ put-later known entry (merged carried) (added entries (known ∷ carried)) (omega arith)
    ∙ ap (λ (l : List RevokedRow). entry ∷ l) (merged-part (known ∷ carried) entries (rest-rises entry.serial entries up) later)
