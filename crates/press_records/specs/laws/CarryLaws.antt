-- The laws of entries that go on: where each is found among others by its serial, they stand there.
use Rattle.std.proofs.Common.{◌≡◌, ℕ, ◌<◌, ◌≤◌, Bool, true, false, cond, eqb, ltb, Option, Some, List, [], ◌∷◌, ◌++◌, filter, find, refl, sym, ap, subst, ◌∙◌, arith, inl, inr}
use Rattle.std.proofs.lemmas.Bool.{and_parts, and_from, lt-ltb, ltb-true, eq-eqb, ne_eqb}
use Rattle.items.specs.laws.AmongLaws.{In, found-in}
use Rattle.key_roll.specs.declared.rows.RevokedRow.{RevokedRow}
use Rattle.press_records.specs.Rows.{added, merged, rise_behind, rise, IsPart}
use Rattle.press_records.specs.laws.EntryLaws.{rest-rises}
use Rattle.press_records.specs.laws.PartLaws.{merged-part}

behind : (n : ℕ) (entries : List RevokedRow) (x : RevokedRow) → rise_behind n entries ≡ true → In x entries → n < x.serial
behind n [] x up at = absurd at
behind n (entry ∷ entries) x up (inl same) =
    subst (λ (row : RevokedRow). n < row.serial) same (ltb-true n entry.serial (and_parts (ltb n entry.serial) (rise_behind entry.serial entries) up).0)
behind n (entry ∷ entries) x up (inr at) =
    let p = and_parts (ltb n entry.serial) (rise_behind entry.serial entries) up in
    let first = ltb-true n entry.serial p.0 in
    let further = behind entry.serial entries x p.1 at in
    omega (arith, first, further)

-- ---- what is filtered still rises

lower : (n m : ℕ) (entries : List RevokedRow) → n ≤ m → rise_behind m entries ≡ true → rise_behind n entries ≡ true
lower n m [] le up = refl
lower n m (entry ∷ entries) le up =
    let p = and_parts (ltb m entry.serial) (rise_behind entry.serial entries) up in
    let less = ltb-true m entry.serial p.0 in
    and_from (ltb n entry.serial) (rise_behind entry.serial entries) (lt-ltb n entry.serial (omega (arith, le, less))) p.1

filtered-behind : (keeps : RevokedRow → Bool) (n : ℕ) (entries : List RevokedRow) → rise_behind n entries ≡ true
    → rise_behind n (filter keeps entries) ≡ true
filtered-behind keeps n [] up = refl
filtered-behind keeps n (entry ∷ entries) up =
    let p = and_parts (ltb n entry.serial) (rise_behind entry.serial entries) up in
    by (keeps entry) p.0 (filtered-behind keeps entry.serial entries p.1)
  where
    by : (b : Bool) → ltb n entry.serial ≡ true → rise_behind entry.serial (filter keeps entries) ≡ true
        → rise_behind n (cond b (entry ∷ filter keeps entries) (filter keeps entries)) ≡ true
    by true first rest = and_from (ltb n entry.serial) (rise_behind entry.serial (filter keeps entries)) first rest
    by false first rest =
        let less = ltb-true n entry.serial first in
        lower n entry.serial (filter keeps entries) (omega (arith, less)) rest

pub filtered-rise : (keeps : RevokedRow → Bool) (entries : List RevokedRow) → rise entries ≡ true → rise (filter keeps entries) ≡ true
filtered-rise keeps [] up = refl
filtered-rise keeps (entry ∷ entries) up = by (keeps entry) (filtered-behind keeps entry.serial entries up)
  where
    by : (b : Bool) → rise_behind entry.serial (filter keeps entries) ≡ true
        → rise (cond b (entry ∷ filter keeps entries) (filter keeps entries)) ≡ true
    by true rest = rest
    by false rest = rest-rises entry.serial (filter keeps entries) rest

-- ---- what is among others stands there in its order

abbrev AreIn : List RevokedRow → List RevokedRow → Type 0
AreIn some all = (x : RevokedRow) → In x some → In x all

part-from : (carried entries : List RevokedRow) → rise carried ≡ true → rise entries ≡ true → AreIn carried entries → IsPart carried entries
part-from [] entries up over all = tt
part-from (known ∷ carried) [] up over all = absurd (all known (inl refl))
part-from (known ∷ carried) (entry ∷ entries) up over all =
    by (all known (inl refl)) (part-from carried entries (rest-rises known.serial carried up) (rest-rises entry.serial entries over))
    (part-from (known ∷ carried) entries up (rest-rises entry.serial entries over))
  where
    beyond : (x : RevokedRow) → entry.serial < x.serial → In x (entry ∷ entries) → In x entries
    beyond x less (inl same) =
        let equal : entry.serial ≡ x.serial = ap (λ (row : RevokedRow). row.serial) same in
        absurd (omega (arith, less, equal))
    beyond x less (inr at) = at

    by : In known (entry ∷ entries) → (AreIn carried entries → IsPart carried entries)
        → (AreIn (known ∷ carried) entries → IsPart (known ∷ carried) entries) → IsPart (known ∷ carried) (entry ∷ entries)
    by (inl same) first later = inl (
      sym same,
      first (λ x at.
          let less = behind known.serial carried x up at in
          let equal : entry.serial ≡ known.serial = ap (λ (row : RevokedRow). row.serial) same in
          beyond x (omega (arith, less, equal)) (all x (inr at))),
    )
    by (inr at) first later = inr (later each)
      where
        above : entry.serial < known.serial
        above = behind entry.serial entries known over at

        each : AreIn (known ∷ carried) entries
        each x (inl same) = subst (λ (row : RevokedRow). In row entries) same at
        each x (inr in-rest) =
            let less = behind known.serial carried x up in-rest in
            beyond x (omega (arith, above, less)) (all x (inr in-rest))

-- ---- by serials

abbrev pub entry_at : List RevokedRow → ℕ → Option RevokedRow
entry_at entries serial = find (λ row. eqb row.serial serial) entries

at-itself : (entries : List RevokedRow) (x : RevokedRow) → rise entries ≡ true → In x entries → entry_at entries x.serial ≡ Some x
at-itself [] x up at = absurd at
at-itself (entry ∷ entries) x up (inl same) =
    rw (eq-eqb entry.serial x.serial (ap (λ (row : RevokedRow). row.serial) same)) (ap (λ (row : RevokedRow). Some row) same)
at-itself (entry ∷ entries) x up (inr at) =
    let less = behind entry.serial entries x up at in
    rw (ne_eqb entry.serial x.serial (λ same. omega (arith, less, same))) (at-itself entries x (rest-rises entry.serial entries up) at)

at-front : (entries more : List RevokedRow) (serial : ℕ) (x : RevokedRow) → entry_at entries serial ≡ Some x → entry_at (entries ++ more) serial ≡ Some x
at-front [] more serial x e = absurd cc
at-front (entry ∷ entries) more serial x e = by (eqb entry.serial serial) (at-front entries more serial x) e
  where
    by : (b : Bool) → (entry_at entries serial ≡ Some x → entry_at (entries ++ more) serial ≡ Some x)
        → cond b (Some entry) (entry_at entries serial) ≡ Some x → cond b (Some entry) (entry_at (entries ++ more) serial) ≡ Some x
    by true rest h = h
    by false rest h = rest h

-- Entries that rise, and have by each serial what is first of those carried on and others behind them, are the ones carried
-- on with what is added.
pub carried-merged : (carried more entries : List RevokedRow) → rise carried ≡ true → rise entries ≡ true
    → ((serial : ℕ) → entry_at entries serial ≡ entry_at (carried ++ more) serial) → merged carried (added entries carried) ≡ entries
carried-merged carried more entries up over same =
    merged-part carried entries over (part-from carried entries up over (λ x at.
    (found-in (λ (row : RevokedRow). eqb row.serial x.serial) entries x
    (same x.serial ∙ at-front carried more x.serial x (at-itself carried x up at))).0))
