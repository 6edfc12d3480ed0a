-- The first row of each serial.
use Rattle.std.proofs.Common.{◌≡◌, ◌≢◌, ℕ, ◌<◌, ◌≤◌, ◌==◌, nat_lt, Bool, true, cond, Some, None, List, [], ◌∷◌, map, refl, sym, ap, subst, ◌∙◌, arith, inl, inr}
use Rattle.std.specs.List.{Contains}
use Rattle.std.proofs.lemmas.Bool.{cases_eq, cases_lt, eqb-true, eq-eqb, ne_eqb, ltb-true, and_parts}
use Rattle.std.proofs.lemmas.Option.{same_Some, none-some}
use Rattle.key_roll.specs.declared.rows.RevokedRow.{RevokedRow}
use Rattle.crl_obj.specs.Values.{are_rising, rise_above}
use Rattle.issue_values.specs.Bodies.{crl_entry}
use Rattle.issue_drafts.specs.Firsts.{row_at, AreFirsts}
use Rattle.items.specs.laws.ElementLaws.{none, first-or-rest, found-in, is-found}

-- Rows above a serial, by rising serial.
pub rise-parts : (n : ℕ) (x : RevokedRow) (xs : List RevokedRow)
    → rise_above n (map crl_entry (x ∷ xs)) ≡ true
    → (n < x.serial) × (rise_above x.serial (map crl_entry xs) ≡ true)
rise-parts n x xs up =
    let p = and_parts (nat_lt n x.serial) (rise_above x.serial (map crl_entry xs)) up in
    (ltb-true n x.serial p.0, p.1)

above : (n : ℕ) (xs : List RevokedRow) (x : RevokedRow)
    → rise_above n (map crl_entry xs) ≡ true → Contains xs x → n < x.serial
above n [] x up c = absurd (none x c)
above n (y ∷ xs) x up c =
    let p = rise-parts n y xs up in
    elim (first-or-rest y xs x c) [
      | inl same ↦ subst (λ (z : RevokedRow). n < z.serial) same p.0
      | inr later ↦ let more = above y.serial xs x p.1 later in omega (arith, p.0, more)
    ]

pub rises-behind : (n : ℕ) (xs : List RevokedRow) → rise_above n (map crl_entry xs) ≡ true
    → are_rising (map crl_entry xs) ≡ true
rises-behind n [] up = refl
rises-behind n (x ∷ xs) up = (rise-parts n x xs up).1

-- Each is the first of its serial.
found-own : (xs : List RevokedRow) (x : RevokedRow) → are_rising (map crl_entry xs) ≡ true
    → Contains xs x → row_at xs x.serial ≡ Some x
found-own [] x up c = absurd (none x c)
found-own (y ∷ xs) x up c =
    elim (first-or-rest y xs x c) [
      | inl same ↦
          ap (λ (b : Bool). cond b (Some y) (row_at xs x.serial))
          (eq-eqb y.serial x.serial (ap (λ (r : RevokedRow). r.serial) same))
          ∙ ap (λ (r : RevokedRow). Some r) same
      | inr later ↦
          let less = above y.serial xs x up later in
          ap (λ (b : Bool). cond b (Some y) (row_at xs x.serial))
          (ne_eqb y.serial x.serial (λ e. omega (arith, less, e)))
          ∙ found-own xs x (rises-behind y.serial xs up) later
    ]

-- An entry is one of the rows.
pub is-row : (rows entries : List RevokedRow) (entry : RevokedRow) → AreFirsts rows entries
    → Contains entries entry → Contains rows entry
is-row rows entries entry firsts c =
    (found-in (λ row. row.serial == entry.serial) rows entry
    (sym (firsts.each entry.serial) ∙ found-own entries entry firsts.rising c)).0

-- Each row's serial is that of an entry.
pub has-entry : (rows entries : List RevokedRow) (row : RevokedRow) → AreFirsts rows entries
    → Contains rows row → (entry : RevokedRow) × Contains entries entry × (entry.serial ≡ row.serial)
has-entry rows entries row firsts c =
    let first = is-found (λ (r : RevokedRow). r.serial == row.serial) rows row c
    (eq-eqb row.serial row.serial refl) in
    let found = found-in (λ (r : RevokedRow). r.serial == row.serial) entries first.0
    (firsts.each row.serial ∙ first.1) in
    (first.0, found.0, eqb-true first.0.serial row.serial found.1)

-- Rows that rise are the first of their serials.
none-above : (n k : ℕ) (xs : List RevokedRow) → rise_above n (map crl_entry xs) ≡ true → k ≤ n → row_at xs k ≡ None
none-above n k [] up least = refl
none-above n k (x ∷ xs) up least =
    let p = rise-parts n x xs up in
    let more = p.0 in
    ap (λ (b : Bool). cond b (Some x) (row_at xs k)) (ne_eqb x.serial k (λ e. omega (arith, least, more, e)))
    ∙ none-above x.serial k xs p.1 (omega (arith, least, more))

at-first : (x : RevokedRow) (xs : List RevokedRow) → row_at (x ∷ xs) x.serial ≡ Some x
at-first x xs = ap (λ (b : Bool). cond b (Some x) (row_at xs x.serial)) (eq-eqb x.serial x.serial refl)

at-other : (x : RevokedRow) (xs : List RevokedRow) (n : ℕ) → x.serial ≢ n → row_at (x ∷ xs) n ≡ row_at xs n
at-other x xs n apart = ap (λ (b : Bool). cond b (Some x) (row_at xs n)) (ne_eqb x.serial n apart)

-- The first of one list isn't behind that of the other.
no-later : (x : RevokedRow) (xs ys : List RevokedRow) (y : RevokedRow) → are_rising (map crl_entry (y ∷ ys)) ≡ true
    → row_at (y ∷ ys) x.serial ≡ Some x → y.serial ≤ x.serial
no-later x xs ys y up e = elim (cases_lt x.serial y.serial) [
  | inr least ↦ least
  | inl less ↦
      absurd (none-some x (sym (at-other y ys x.serial (λ same. omega (arith, less, same))
      ∙ none-above y.serial x.serial ys (tail-up up) (omega (arith, less))) ∙ e))
]
  where
    tail-up : are_rising (map crl_entry (y ∷ ys)) ≡ true → rise_above y.serial (map crl_entry ys) ≡ true
    tail-up is = is

pub firsts-same : (rows entries : List RevokedRow) → are_rising (map crl_entry rows) ≡ true → AreFirsts rows entries
    → entries ≡ rows
firsts-same rows entries up firsts = by rows entries up firsts.rising firsts.each
  where
    by : (rows entries : List RevokedRow) → are_rising (map crl_entry rows) ≡ true
        → are_rising (map crl_entry entries) ≡ true
        → ((serial : ℕ) → row_at entries serial ≡ row_at rows serial) → entries ≡ rows
    by [] [] up rise each = refl
    by [] (e ∷ es) up rise each = absurd (none-some e (sym (each e.serial) ∙ at-first e es))
    by (r ∷ rs) [] up rise each = absurd (none-some r (each r.serial ∙ at-first r rs))
    by (r ∷ rs) (e ∷ es) up rise each =
        let low = no-later r rs es e rise (each r.serial ∙ at-first r rs) in
        let high = no-later e es rs r up (sym (each e.serial) ∙ at-first e es) in
        let serials : e.serial ≡ r.serial = omega (arith, low, high) in
        let same : e ≡ r = same_Some e r
        (sym (at-first e es) ∙ (each e.serial ∙ (ap (row_at (r ∷ rs)) serials ∙ at-first r rs))) in
        let rest : es ≡ rs = by rs es (rises-behind r.serial rs up) (rises-behind e.serial es rise) (λ n.
        elim (cases_eq n r.serial) [
          | inl here ↦
              let least : n ≤ e.serial = omega (arith, here, serials) in
              none-above e.serial n es rise least
              ∙ sym (none-above r.serial n rs up (omega (arith, here)))
          | inr apart ↦
              sym (at-other e es n (λ is. apart (omega (arith, is, serials))))
              ∙ (each n ∙ at-other r rs n (λ is. apart (omega (arith, is))))
        ]) in
        ap (λ (l : List RevokedRow). e ∷ l) rest ∙ ap (λ (x : RevokedRow). x ∷ rs) same
