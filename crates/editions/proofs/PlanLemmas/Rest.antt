-- What a plan withdraws, and entries of CRLs.
use Rattle.std.proofs.Common.{◌≡◌, ℕ, ◌≤◌, true, false, cond, not, map, refl, ap, arith, List, [], ◌∷◌, Some, All}
use Rattle.std.specs.Prelude.{IsSome, filter}
use Rattle.std.specs.List.{AllByRecursion}
use Rattle.std.specs.Cmp.Lexicographic.{nat_list_cmp_total}
use Rattle.std.specs.Ordering.{is_eq}
use Rattle.std.proofs.lemmas.Cmp.{tied_itself}
use Rattle.std.proofs.lemmas.List.Elements.{All-from_recursion}
use Rattle.key_roll.specs.declared.rows.RevokedRow.{RevokedRow}
use Rattle.key_roll.specs.declared.issued.IssuedRow.{IssuedRow}
use Rattle.pub_set.specs.Objects.{is_same, found_at}
use Rattle.der.specs.Forms.{AreAll}
use Rattle.issue_values.specs.Bodies.{AreRevoked}
use Rattle.issue_plan.specs.Uris.{is_among, withdrawn}

-- ---- what is withdrawn

abbrev Stands : List IssuedRow → List ℕ → Type 0
Stands issued uri = IsSome (found_at (λ row. row.uri) (λ row. row.hash) issued uri)

stands-first : (row : IssuedRow) (issued : List IssuedRow) → Stands (row ∷ issued) row.uri
stands-first row issued =
    let here : is_same row.uri row.uri ≡ true = ap is_eq (tied_itself nat_list_cmp_total row.uri) in
    rw here refl

stands-behind : (row : IssuedRow) (issued : List IssuedRow) (uri : List ℕ) → Stands issued uri → Stands (row ∷ issued) uri
stands-behind row issued uri there =
    elim (is_same row.uri uri) as (λ b. IsSome (cond b (Some row.hash) (found_at (λ (r : IssuedRow). r.uri) (λ r. r.hash) issued uri))) [
      | true ↦ refl
      | false ↦ there
    ]

all-behind : (row : IssuedRow) (issued : List IssuedRow) (uris : List (List ℕ)) → AllByRecursion (Stands issued) uris → AllByRecursion (Stands (row ∷ issued)) uris
all-behind row issued [] all = tt
all-behind row issued (uri ∷ uris) all = (stands-behind row issued uri all.0, all-behind row issued uris all.1)

withdrawn-by : (wanted : List (List ℕ)) (issued : List IssuedRow) → AllByRecursion (Stands issued) (withdrawn wanted issued)
withdrawn-by wanted [] = tt
withdrawn-by wanted (row ∷ issued) =
    let rest = all-behind row issued (withdrawn wanted issued) (withdrawn-by wanted issued) in
    elim (is_among wanted row.uri) as (λ b. AllByRecursion (Stands (row ∷ issued)) (map (λ (r : IssuedRow). r.uri)
    (cond (not b) (row ∷ filter (λ r. not (is_among wanted r.uri)) issued) (filter (λ r. not (is_among wanted r.uri)) issued)))) [
      | true ↦ rest
      | false ↦ (stands-first row issued, rest)
    ]

pub withdrawn-stands : (wanted : List (List ℕ)) (issued : List IssuedRow) → All (Stands issued) (withdrawn wanted issued)
withdrawn-stands wanted issued = All-from_recursion (Stands issued) (withdrawn wanted issued) (withdrawn-by wanted issued)

-- ---- entries

dated-later : (moment later : ℕ) (revoked : List RevokedRow) → moment ≤ later →
    AreAll (λ (row : RevokedRow). (946_684_800 ≤ row.revoked_at) × (row.revoked_at ≤ moment)) revoked →
    AreAll (λ (row : RevokedRow). (946_684_800 ≤ row.revoked_at) × (row.revoked_at ≤ later)) revoked
dated-later moment later [] less all = tt
dated-later moment later (row ∷ revoked) less all =
    let until : row.revoked_at ≤ moment = all.0.1 in
    ((all.0.0, omega arith), dated-later moment later revoked less all.1)

pub revoked-later : (moment later : ℕ) (revoked : List RevokedRow) → moment ≤ later → AreRevoked moment revoked → AreRevoked later revoked
revoked-later moment later revoked less are = record { rising = are.rising; dated = dated-later moment later revoked less are.dated }
