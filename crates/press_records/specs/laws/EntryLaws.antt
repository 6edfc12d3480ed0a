-- The laws of the entries of CRLs: what is merged in is found again.
use Rattle.std.proofs.Common.{◌≡◌, ℕ, ◌<◌, Bool, true, false, cond, eqb, leb, ltb, List, [], ◌∷◌, refl, ap, ◌∙◌, arith}
use Rattle.std.proofs.lemmas.Bool.{and_parts, eq-eqb, eqb-true, ltb-true}
use Rattle.key_roll.specs.declared.rows.RevokedRow.{RevokedRow}
use Rattle.press_records.specs.Rows.{added, put_in, merged, rise_behind, rise}

-- In entries that rise behind a serial, so do those that were merged in.
inside : (serial : ℕ) (entry : RevokedRow) (rest : List RevokedRow → List RevokedRow) (others : List RevokedRow)
    → rise_behind serial (put_in entry rest others) ≡ true → serial < entry.serial
inside serial entry rest [] up = ltb-true serial entry.serial (and_parts (ltb serial entry.serial) (rise_behind entry.serial (rest [])) up).0
inside serial entry rest (other ∷ others) up = choose (leb other.serial entry.serial) (inside other.serial entry rest others) up
  where
    choose : (b : Bool) → (rise_behind other.serial (put_in entry rest others) ≡ true → other.serial < entry.serial)
        → rise_behind serial (cond b (other ∷ put_in entry rest others) (entry ∷ rest (other ∷ others))) ≡ true → serial < entry.serial
    choose true later h =
        let p = and_parts (ltb serial other.serial) (rise_behind other.serial (put_in entry rest others)) h in
        let first : serial < other.serial = ltb-true serial other.serial p.0 in
        let second : other.serial < entry.serial = later p.1 in
        omega arith
    choose false later h = ltb-true serial entry.serial (and_parts (ltb serial entry.serial) (rise_behind entry.serial (rest (other ∷ others))) h).0

pub none-added : (entries : List RevokedRow) → added entries [] ≡ entries
none-added [] = refl
none-added (entry ∷ entries) = ap (λ (l : List RevokedRow). entry ∷ l) (none-added entries)

pub rest-rises : (serial : ℕ) (entries : List RevokedRow) → rise_behind serial entries ≡ true → rise entries ≡ true
rest-rises serial [] up = refl
rest-rises serial (entry ∷ entries) up = (and_parts (ltb serial entry.serial) (rise_behind entry.serial entries) up).1

-- An entry with another serial stays.
pub other-stays : (entry known : RevokedRow) (entries carried : List RevokedRow) → entry.serial < known.serial
    → added (entry ∷ entries) (known ∷ carried) ≡ entry ∷ added entries (known ∷ carried)
other-stays entry known entries carried below = choose (eqb known.serial entry.serial) refl
  where
    choose : (b : Bool) → eqb known.serial entry.serial ≡ b
        → cond b (added entries carried) (entry ∷ added entries (known ∷ carried)) ≡ entry ∷ added entries (known ∷ carried)
    choose true same = absurd (omega (arith, eqb-true known.serial entry.serial same))
    choose false other = refl

pub same-goes : (entry : RevokedRow) (entries carried : List RevokedRow) → added (entry ∷ entries) (entry ∷ carried) ≡ added entries carried
same-goes entry entries carried = rw (eq-eqb entry.serial entry.serial refl) refl

found-behind : (entry : RevokedRow) (carried : List RevokedRow)
    → ((others : List RevokedRow) → rise (merged carried others) ≡ true → added (merged carried others) carried ≡ others)
    → (others : List RevokedRow) → rise (put_in entry (merged carried) others) ≡ true
    → added (put_in entry (merged carried) others) (entry ∷ carried) ≡ others
found-behind entry carried found [] up =
    same-goes entry (merged carried []) carried ∙ found [] (rest-rises entry.serial (merged carried []) up)
found-behind entry carried found (other ∷ others) up = choose (leb other.serial entry.serial) (found-behind entry carried found others) up
  where
    choose : (b : Bool) → (rise (put_in entry (merged carried) others) ≡ true → added (put_in entry (merged carried) others) (entry ∷ carried) ≡ others)
        → rise (cond b (other ∷ put_in entry (merged carried) others) (entry ∷ merged carried (other ∷ others))) ≡ true
        → added (cond b (other ∷ put_in entry (merged carried) others) (entry ∷ merged carried (other ∷ others))) (entry ∷ carried) ≡ other ∷ others
    choose true later h =
        other-stays other entry (put_in entry (merged carried) others) carried (inside other.serial entry (merged carried) others h)
        ∙ ap (λ (l : List RevokedRow). other ∷ l) (later (rest-rises other.serial (put_in entry (merged carried) others) h))
    choose false later h =
        same-goes entry (merged carried (other ∷ others)) carried
        ∙ found (other ∷ others) (rest-rises entry.serial (merged carried (other ∷ others)) h)

pub added-found : (carried others : List RevokedRow) → rise (merged carried others) ≡ true → added (merged carried others) carried ≡ others
added-found [] others up = none-added others
added-found (entry ∷ carried) others up = found-behind entry carried (added-found carried) others up
