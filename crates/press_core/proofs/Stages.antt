-- The stages that rows tell: what is found of them, and one authority's keys behind others.
use Rattle.std.proofs.Common.{◌≡◌, ℕ, ◌+◌, ◌<◌, ◌≤◌, ◌==◌, ◌&&◌, ◌||◌, Bool, true, false, cond, Option, Some, None, List, [], ◌∷◌, ◌++◌, map, refl, sym, ap, subst, ◌∙◌, arith, ◌⊎◌, inl, inr}
use Rattle.std.specs.Prelude.{nat_le}
use Rattle.std.proofs.lemmas.Bool.{and_parts, eqb-true, false≢true}
use Rattle.std.proofs.lemmas.Bool.Decides.{nat_tests}
use Rattle.items.specs.laws.PairLaws.{Each}
use Rattle.key_roll.specs.declared.rows.KeyRow.{KeyRow}
use Rattle.key_roll.specs.declared.rows.Role.{Role}
use Rattle.key_roll.specs.declared.rows.Role.TheVariants.{New, Current, Old}
use Rattle.key_roll.specs.Roles.{is_role}
use Rattle.issue_plan.specs.Keys.{row_of}
use Rattle.press_records.specs.Rows.{RowValue, row_value}
use Rattle.press_records.specs.Stages.{is_alone, are_two, are_stages, are_staged}
use Rattle.editions.specs.laws.RowLaws.{role-is}

both : (a b : Bool) → a ≡ true → b ≡ true → (a && b) ≡ true
both a b p q = rw (p, q) refl

eqb-other : (m n : ℕ) → (m ≡ n → ⊥) → (m == n) ≡ false
eqb-other m n other = by (m == n) refl
  where
    by : (b : Bool) → (m == n) ≡ b → b ≡ false
    by true e = absurd (other (eqb-true m n e))
    by false e = refl

eqb-same : (m n : ℕ) → m ≡ n → (m == n) ≡ true
eqb-same m n e = grind (arith, nat_tests)

le-true : (m n : ℕ) → m ≤ n → nat_le m n ≡ true
le-true m n e = grind (arith, nat_tests)

true-le : (m n : ℕ) → nat_le m n ≡ true → m ≤ n
true-le m n e = grind (arith, nat_tests)

-- ---- what a stage says

pub record IsAlone (row : RowValue) : Type 0 where
  pub role : row.role ≡ Current
  pub since : row.since ≡ 0

pub alone-is : (row : RowValue) → is_alone row ≡ true → IsAlone row
alone-is row e =
    let p = and_parts (is_role row.role Current) (row.since == 0) e in
    record { role = role-is row.role Current p.0; since = eqb-true row.since 0 p.1 }

pub is-alone : (row : RowValue) → row.role ≡ Current → row.since ≡ 0 → is_alone row ≡ true
is-alone row role since =
    both (is_role row.role Current) (row.since == 0) (ap (λ (r : Role). is_role r Current) role) (eqb-same row.since 0 since)

-- Two keys of one authority.
pub record AreTwo (row other : RowValue) : Type 0 where
  pub since : row.since ≡ other.since
  pub done : row.done ≡ other.done
  pub roles : ((row.role ≡ New) × (other.role ≡ Current)) ⊎ ((row.role ≡ Current) × (other.role ≡ Old) × (row.since ≡ 0))

or-parts : (a b : Bool) → (a || b) ≡ true → (a ≡ true) ⊎ (b ≡ true)
or-parts true b e = inl refl
or-parts false b e = inr e

two-are : (row other : RowValue) → are_two row other ≡ true → AreTwo row other
two-are row other e =
    let p = and_parts ((row.since == other.since) && (row.done == other.done)) ((is_role row.role New && is_role other.role Current)
    || (is_role row.role Current && is_role other.role Old && (row.since == 0))) e in
    let q = and_parts (row.since == other.since) (row.done == other.done) p.0 in
    record {
      since = eqb-true row.since other.since q.0;
      done = eqb-true row.done other.done q.1;
      roles = elim (or-parts (is_role row.role New && is_role other.role Current) (is_role row.role Current && is_role other.role Old && (row.since == 0)) p.1) [
        | inl begun ↦ (let r = and_parts (is_role row.role New) (is_role other.role Current) begun in
            inl (role-is row.role New r.0, role-is other.role Current r.1))
        | inr done ↦ (let r = and_parts (is_role row.role Current && is_role other.role Old) (row.since == 0) done in
            let s = and_parts (is_role row.role Current) (is_role other.role Old) r.0 in
            inr (role-is row.role Current s.0, role-is other.role Old s.1, eqb-true row.since 0 r.1))
      ];
    }

pub begun-two : (row other : RowValue) → row.since ≡ other.since → row.done ≡ other.done → row.role ≡ New → other.role ≡ Current → are_two row other ≡ true
begun-two row other since done new current =
    both ((row.since == other.since) && (row.done == other.done)) _
    (both (row.since == other.since) (row.done == other.done) (eqb-same row.since other.since since) (eqb-same row.done other.done done))
    (rw (new, current) refl)

pub ended-two : (row other : RowValue) → row.since ≡ other.since → row.done ≡ other.done → row.role ≡ Current → other.role ≡ Old → row.since ≡ 0 → are_two row other ≡ true
ended-two row other since done current old zero =
    let none = eqb-same row.since 0 zero in
    both ((row.since == other.since) && (row.done == other.done)) _
    (both (row.since == other.since) (row.done == other.done) (eqb-same row.since other.since since) (eqb-same row.done other.done done))
    (rw (current, old, none) refl)

-- ---- what is found

abbrev is_of : ℕ → Role → KeyRow → Bool
is_of desk role row = (row.desk == desk) && is_role row.role role

pass : (row : KeyRow) (rows : List KeyRow) (desk : ℕ) (role : Role) → is_of desk role row ≡ false → row_of (row ∷ rows) desk role ≡ row_of rows desk role
pass row rows desk role e = ap (λ (b : Bool). cond b (Some row) (row_of rows desk role)) e

hit : (row : KeyRow) (rows : List KeyRow) (desk : ℕ) (role : Role) → is_of desk role row ≡ true → row_of (row ∷ rows) desk role ≡ Some row
hit row rows desk role e = ap (λ (b : Bool). cond b (Some row) (row_of rows desk role)) e

elsewhere : (row : KeyRow) (desk : ℕ) (role : Role) → (row.desk ≡ desk → ⊥) → is_of desk role row ≡ false
elsewhere row desk role other = ap (λ (b : Bool). b && is_role row.role role) (eqb-other row.desk desk other)

otherwise : (row : KeyRow) (desk : ℕ) (role : Role) → row.desk ≡ desk → is_role row.role role ≡ false → is_of desk role row ≡ false
otherwise row desk role at e = ap (λ (b : Bool). b && is_role row.role role) (eqb-same row.desk desk at) ∙ e

right-here : (row : KeyRow) (desk : ℕ) (role : Role) → row.desk ≡ desk → row.role ≡ role → is_of desk role row ≡ true
right-here row desk role at is =
    ap (λ (b : Bool). b && is_role row.role role) (eqb-same row.desk desk at) ∙ (ap (λ (r : Role). is_role r role) is ∙ self role)
  where
    self : (r : Role) → is_role r r ≡ true
    self New = refl
    self Current = refl
    self Old = refl

-- What follows a row of stages.
pub record Parts (low : ℕ) (row : RowValue) (other : RowValue) (rows : List RowValue) : Type 0 where
  pub from : low ≤ row.desk
  pub rest : ((row.desk ≡ other.desk) × AreTwo row other × (are_stages (row.desk + 1) rows ≡ true))
      ⊎ ((row.desk ≡ other.desk → ⊥) × IsAlone row × (are_stages (row.desk + 1) (other ∷ rows) ≡ true))

parts-of : (low : ℕ) (row other : RowValue) (rows : List RowValue) → are_stages low (row ∷ other ∷ rows) ≡ true → Parts low row other rows
parts-of low row other rows e =
    let p = and_parts (nat_le low row.desk) (cond (row.desk == other.desk) (are_two row other && are_stages (row.desk + 1) rows)
    (is_alone row && are_stages (row.desk + 1) (other ∷ rows))) e in
    record {
      from = true-le low row.desk p.0;
      rest = by (row.desk == other.desk) refl p.1;
    }
  where
    by : (b : Bool) → (row.desk == other.desk) ≡ b
        → cond b (are_two row other && are_stages (row.desk + 1) rows) (is_alone row && are_stages (row.desk + 1) (other ∷ rows)) ≡ true
        → ((row.desk ≡ other.desk) × AreTwo row other × (are_stages (row.desk + 1) rows ≡ true))
        ⊎ ((row.desk ≡ other.desk → ⊥) × IsAlone row × (are_stages (row.desk + 1) (other ∷ rows) ≡ true))
    by true same h =
        let q = and_parts (are_two row other) (are_stages (row.desk + 1) rows) h in
        inl (eqb-true row.desk other.desk same, two-are row other q.0, q.1)
    by false apart h =
        let q = and_parts (is_alone row) (are_stages (row.desk + 1) (other ∷ rows)) h in
        inr ((λ same. false≢true (sym apart ∙ eqb-same row.desk other.desk same)), alone-is row q.0, q.1)

pub record One (low : ℕ) (row : RowValue) : Type 0 where
  pub from : low ≤ row.desk
  pub alone : IsAlone row

one-of : (low : ℕ) (row : RowValue) → are_stages low (row ∷ []) ≡ true → One low row
one-of low row e =
    let p = and_parts (nat_le low row.desk) (is_alone row) e in
    record { from = true-le low row.desk p.0; alone = alone-is row p.1 }

abbrev AreStages : ℕ → List KeyRow → Type 0
AreStages low rows = are_stages low (map row_value rows) ≡ true

-- Below the first desk there is no key.
none-below : (low desk : ℕ) (role : Role) (rows : List KeyRow) → AreStages low rows → desk < low → row_of rows desk role ≡ None
none-below low desk role [] e less = refl
none-below low desk role (row ∷ []) e less =
    let p = one-of low (row_value row) e in
    let at : low ≤ row.desk = p.from in
    pass row [] desk role (elsewhere row desk role (λ same. omega (arith, less, at, same)))
none-below low desk role (row ∷ other ∷ rows) e less =
    let p = parts-of low (row_value row) (row_value other) (map row_value rows) e in
    let at : low ≤ row.desk = p.from in
    pass row (other ∷ rows) desk role (elsewhere row desk role (λ same. omega (arith, less, at, same)))
    ∙ elim p.rest [
      | inl two ↦ (let there : row.desk ≡ other.desk = two.0 in
          pass other rows desk role (elsewhere other desk role (λ same. omega (arith, less, at, same, there)))
          ∙ none-below (row.desk + 1) desk role rows two.2 (omega (arith, less, at)))
      | inr alone ↦ none-below (row.desk + 1) desk role (other ∷ rows) alone.2 (omega (arith, less, at))
    ]

-- The new and the current key of an authority are of one stage.
abbrev pub Agree : Option KeyRow → Option KeyRow → Type 0
Agree None None = Unit {0}
Agree None (Some current) = current.since ≡ 0
Agree (Some new) None = Unit {0}
Agree (Some new) (Some current) = (new.since ≡ current.since) × (new.done ≡ current.done)

abbrev Agree-at : List KeyRow → ℕ → Type 0
Agree-at rows desk = Agree (row_of rows desk New) (row_of rows desk Current)

agree-by : (rows : List KeyRow) (desk : ℕ) (new current : Option KeyRow) → row_of rows desk New ≡ new → row_of rows desk Current ≡ current → Agree new current → Agree-at rows desk
agree-by rows desk new current first second agree = rw (first, second) agree

same-or-not : (m n : ℕ) → (m ≡ n) ⊎ (m ≡ n → ⊥)
same-or-not m n = by (m == n) refl
  where
    by : (b : Bool) → (m == n) ≡ b → (m ≡ n) ⊎ (m ≡ n → ⊥)
    by true e = inl (eqb-true m n e)
    by false e = inr (λ same. false≢true (sym e ∙ eqb-same m n same))

not-new : (row : KeyRow) → row.role ≡ Current → is_role row.role New ≡ false
not-new row e = ap (λ (r : Role). is_role r New) e

-- A current key alone, and keys of later desks.
alone-agrees : (row : KeyRow) (rows : List KeyRow) → IsAlone (row_value row) → row_of rows row.desk New ≡ None → Agree-at (row ∷ rows) row.desk
alone-agrees row rows alone none =
    agree-by (row ∷ rows) row.desk None (Some row)
    (pass row rows row.desk New (otherwise row row.desk New refl (not-new row alone.role)) ∙ none)
    (hit row rows row.desk Current (right-here row row.desk Current refl alone.role)) alone.since

passed : (row : KeyRow) (rows : List KeyRow) (desk : ℕ) → (row.desk ≡ desk → ⊥) → Agree-at rows desk → Agree-at (row ∷ rows) desk
passed row rows desk other agree =
    agree-by (row ∷ rows) desk (row_of rows desk New) (row_of rows desk Current)
    (pass row rows desk New (elsewhere row desk New other)) (pass row rows desk Current (elsewhere row desk Current other)) agree

two-agree : (row other : KeyRow) (rows : List KeyRow) → row.desk ≡ other.desk → AreTwo (row_value row) (row_value other) → row_of rows row.desk New ≡ None → Agree-at (row ∷ other ∷ rows) row.desk
two-agree row other rows at two none = elim two.roles [
  | inl begun ↦ agree-by (row ∷ other ∷ rows) row.desk (Some row) (Some other)
      (hit row (other ∷ rows) row.desk New (right-here row row.desk New refl begun.0))
      (pass row (other ∷ rows) row.desk Current (otherwise row row.desk Current refl (ap (λ (r : Role). is_role r Current) begun.0))
      ∙ hit other rows row.desk Current (right-here other row.desk Current (sym at) begun.1))
      (two.since, two.done)
  | inr ended ↦ agree-by (row ∷ other ∷ rows) row.desk None (Some row)
      (pass row (other ∷ rows) row.desk New (otherwise row row.desk New refl (not-new row ended.0))
      ∙ (pass other rows row.desk New (otherwise other row.desk New (sym at) (ap (λ (r : Role). is_role r New) ended.1)) ∙ none))
      (hit row (other ∷ rows) row.desk Current (right-here row row.desk Current refl ended.0)) ended.2
]

stages-agree : (low desk : ℕ) (rows : List KeyRow) → AreStages low rows → Agree-at rows desk
stages-agree low desk [] e = tt
stages-agree low desk (row ∷ []) e = elim (same-or-not row.desk desk) [
  | inl same ↦ subst (Agree-at (row ∷ [])) same (alone-agrees row [] (one-of low (row_value row) e).alone refl)
  | inr other ↦ passed row [] desk other tt
]
stages-agree low desk (row ∷ other ∷ rows) e =
    let p = parts-of low (row_value row) (row_value other) (map row_value rows) e in
    elim p.rest [
      | inl two ↦ elim (same-or-not row.desk desk) [
        | inl same ↦ subst (Agree-at (row ∷ other ∷ rows)) same
            (two-agree row other rows two.0 two.1 (none-below (row.desk + 1) row.desk New rows two.2 (omega arith)))
        | inr apart ↦ (let there : row.desk ≡ other.desk = two.0 in
            passed row (other ∷ rows) desk apart
            (passed other rows desk (λ same. apart (there ∙ same)) (stages-agree (row.desk + 1) desk rows two.2)))
      ]
      | inr alone ↦ elim (same-or-not row.desk desk) [
        | inl same ↦ subst (Agree-at (row ∷ other ∷ rows)) same
            (alone-agrees row (other ∷ rows) alone.1 (none-below (row.desk + 1) row.desk New (other ∷ rows) alone.2 (omega arith)))
        | inr apart ↦ passed row (other ∷ rows) desk apart (stages-agree (row.desk + 1) desk (other ∷ rows) alone.2)
      ]
    ]

-- Keys of stages, the trust anchor's too.
pub staged-agree : (rows : List KeyRow) (desk : ℕ) → are_staged (map row_value rows) ≡ true → Agree-at rows desk
staged-agree [] desk e = tt
staged-agree (row ∷ rows) desk e =
    let p = and_parts ((row.desk == 0) && is_alone (row_value row)) (are_stages 1 (map row_value rows)) e in
    let q = and_parts (row.desk == 0) (is_alone (row_value row)) p.0 in
    let zero : row.desk ≡ 0 = eqb-true row.desk 0 q.0 in
    elim (same-or-not row.desk desk) [
      | inl same ↦ subst (Agree-at (row ∷ rows)) same
          (alone-agrees row rows (alone-is (row_value row) q.1) (none-below 1 row.desk New rows p.1 (omega (arith, zero))))
      | inr apart ↦ passed row rows desk apart (stages-agree 1 desk rows p.1)
    ]

-- ---- one authority's keys behind others

-- The keys of the authority of that desk: none, or those of a stage.
abbrev pub IsGroup : ℕ → List RowValue → Type 0
IsGroup desk [] = Unit {0}
IsGroup desk (row ∷ []) = (row.desk ≡ desk) × (is_alone row ≡ true)
IsGroup desk (row ∷ other ∷ []) = (row.desk ≡ desk) × (other.desk ≡ desk) × (are_two row other ≡ true)
IsGroup desk (row ∷ other ∷ more ∷ rows) = ⊥

abbrev Below : ℕ → RowValue → Type 0
Below desk row = row.desk < desk

group-stages : (low desk : ℕ) (group : List RowValue) → low ≤ desk → IsGroup desk group → are_stages low group ≡ true
group-stages low desk [] le is = refl
group-stages low desk (row ∷ []) le is =
    let at : row.desk ≡ desk = is.0 in
    both (nat_le low row.desk) (is_alone row) (le-true low row.desk (omega (arith, le, at))) is.1
group-stages low desk (row ∷ other ∷ []) le is =
    let at : row.desk ≡ desk = is.0 in
    both (nat_le low row.desk) _ (le-true low row.desk (omega (arith, le, at)))
    (ap (λ (b : Bool). cond b (are_two row other && true) (is_alone row && are_stages (row.desk + 1) (other ∷ []))) (eqb-same row.desk other.desk (is.0 ∙ sym is.1))
    ∙ both (are_two row other) true is.2 refl)
group-stages low desk (row ∷ other ∷ more ∷ rows) le is = absurd is

-- A key alone before keys of later desks.
before-later : (low : ℕ) (row : RowValue) (rows : List RowValue) → low ≤ row.desk → is_alone row ≡ true → Each (λ (other : RowValue). row.desk < other.desk) rows
    → are_stages (row.desk + 1) rows ≡ true → are_stages low (row ∷ rows) ≡ true
before-later low row [] le alone later stages = both (nat_le low row.desk) (is_alone row) (le-true low row.desk le) alone
before-later low row (other ∷ rows) le alone later stages =
    let less : row.desk < other.desk = later.0 in
    both (nat_le low row.desk) _ (le-true low row.desk le)
    (ap (λ (b : Bool). cond b (are_two row other && are_stages (row.desk + 1) rows) (is_alone row && are_stages (row.desk + 1) (other ∷ rows)))
    (eqb-other row.desk other.desk (λ same. omega (arith, less, same)))
    ∙ both (is_alone row) (are_stages (row.desk + 1) (other ∷ rows)) alone stages)

group-later : (low desk : ℕ) (group : List RowValue) → low < desk → IsGroup desk group → Each (λ (other : RowValue). low < other.desk) group
group-later low desk [] less is = tt
group-later low desk (row ∷ []) less is = (let at : row.desk ≡ desk = is.0 in omega (arith, less, at), tt)
group-later low desk (row ∷ other ∷ []) less is =
    (let at : row.desk ≡ desk = is.0 in omega (arith, less, at), (let at : other.desk ≡ desk = is.1 in omega (arith, less, at), tt))
group-later low desk (row ∷ other ∷ more ∷ rows) less is = absurd is

pub stages-then : (low desk : ℕ) (rows group : List RowValue) → are_stages low rows ≡ true → Each (Below desk) rows → low ≤ desk → IsGroup desk group → are_stages low (rows ++ group) ≡ true
stages-then low desk [] group stages below le is = group-stages low desk group le is
stages-then low desk (row ∷ []) group stages below le is =
    let p = and_parts (nat_le low row.desk) (is_alone row) stages in
    let less : row.desk < desk = below.0 in
    before-later low row group (true-le low row.desk p.0) p.1 (group-later row.desk desk group less is)
    (group-stages (row.desk + 1) desk group (omega (arith, less)) is)
stages-then low desk (row ∷ other ∷ rows) group stages below le is =
    let p = and_parts (nat_le low row.desk) _ stages in
    let less : row.desk < desk = below.0 in
    both (nat_le low row.desk) _ p.0 (by (row.desk == other.desk) p.1
    (stages-then (row.desk + 1) desk rows group) (stages-then (row.desk + 1) desk (other ∷ rows) group) (omega (arith, less)))
  where
    by : (b : Bool) → cond b (are_two row other && are_stages (row.desk + 1) rows) (is_alone row && are_stages (row.desk + 1) (other ∷ rows)) ≡ true
        → (are_stages (row.desk + 1) rows ≡ true → Each (Below desk) rows → row.desk + 1 ≤ desk → IsGroup desk group → are_stages (row.desk + 1) (rows ++ group) ≡ true)
        → (are_stages (row.desk + 1) (other ∷ rows) ≡ true → Each (Below desk) (other ∷ rows) → row.desk + 1 ≤ desk → IsGroup desk group → are_stages (row.desk + 1) (other ∷ rows ++ group) ≡ true)
        → row.desk + 1 ≤ desk
        → cond b (are_two row other && are_stages (row.desk + 1) (rows ++ group)) (is_alone row && are_stages (row.desk + 1) (other ∷ rows ++ group)) ≡ true
    by true h two alone le =
        let q = and_parts (are_two row other) (are_stages (row.desk + 1) rows) h in
        both (are_two row other) (are_stages (row.desk + 1) (rows ++ group)) q.0 (two q.1 below.1.1 le is)
    by false h two alone le =
        let q = and_parts (is_alone row) (are_stages (row.desk + 1) (other ∷ rows)) h in
        both (is_alone row) (are_stages (row.desk + 1) (other ∷ rows ++ group)) q.0 (alone q.1 below.1 le is)

-- ---- the trust anchor's

-- Where the first key is the trust anchor's, and all of the anchor's are current, it is alone.
pub staged-first : (row : RowValue) (rows : List RowValue) → are_stages 0 (row ∷ rows) ≡ true → row.desk ≡ 0
    → Each (λ (one : RowValue). one.desk ≡ 0 → one.role ≡ Current) (row ∷ rows) → are_staged (row ∷ rows) ≡ true
staged-first row [] stages zero current =
    let p = and_parts (nat_le 0 row.desk) (is_alone row) stages in
    both ((row.desk == 0) && is_alone row) true (both (row.desk == 0) (is_alone row) (eqb-same row.desk 0 zero) p.1) refl
staged-first row (other ∷ rows) stages zero current =
    let p = parts-of 0 row other rows stages in
    elim p.rest [
      | inl two ↦ (let there : other.desk ≡ 0 = sym two.0 ∙ zero in
          absurd (elim two.1.roles [
            | inl begun ↦ (let e : New ≡ Current = sym begun.0 ∙ current.0 zero in cc)
            | inr ended ↦ (let e : Old ≡ Current = sym ended.1 ∙ current.1.0 there in cc)
          ]))
      | inr alone ↦ both ((row.desk == 0) && is_alone row) (are_stages 1 (other ∷ rows))
          (both (row.desk == 0) (is_alone row) (eqb-same row.desk 0 zero) (is-alone row alone.1.role alone.1.since))
          (subst (λ (n : ℕ). are_stages n (other ∷ rows) ≡ true) (ap (λ (n : ℕ). n + 1) zero) alone.2)
    ]
