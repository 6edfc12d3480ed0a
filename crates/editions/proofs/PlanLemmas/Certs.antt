-- The current key of each desk that has a name and something to hold.
use Rattle.std.proofs.Common.{◌≡◌, ℕ, ◌+◌, ◌<◌, zero, suc, Bool, true, false, cond, eqb, ◌&&◌, Option, None, Some, List, [], inl, inr, length, refl, sym, ap, subst, ◌∙◌, arith}
use Rattle.std.specs.List.{slice_get}
use Rattle.std.specs.Option.{IfSome}
use Rattle.std.proofs.lemmas.Bool.{and_parts, cases_lt}
use Rattle.std.proofs.lemmas.Option.{slice_get_within}
use Rattle.res_sets.specs.declared.holdings.Resources.{Resources}
use Rattle.authority_book.specs.declared.rows.NameRow.{NameRow}
use Rattle.entitle.specs.Certified.{names_of}
use Rattle.key_roll.specs.declared.rows.KeyRow.{KeyRow}
use Rattle.key_roll.specs.declared.rows.Role.TheVariants.{New, Current, Old}
use Rattle.key_roll.specs.declared.stages.Stage.TheVariants.{Steady, Staged}
use Rattle.key_roll.specs.Stages as stages
use Rattle.key_roll.specs.Stages.{is_begun, is_activated}
use Rattle.issue_plan.specs.declared.keys.NextKey.{NextKey}
use Rattle.issue_plan.specs.Keys as plan
use Rattle.issue_plan.specs.Keys.{next_keys, row_of, kept, turned, made, keys_at_end, keys_after, asked_at, keys_of, keys_at, keys_of_first}
use Rattle.key_roll.specs.Roles.{is_role}
use Rattle.items.specs.laws.AmongLaws.{In, in-front, in-behind, found-in}
use Rattle.editions.proofs.PlanLemmas.NextKeys.{IsDesk, IsOf, row-fits}

-- ---- the current key of a desk

-- A current key of that desk.
abbrev pub IsCurrent : ℕ → NextKey → Type 0
IsCurrent desk k = (k.desk ≡ desk) × (is_role k.role Current ≡ true)

row-role : (rows : List KeyRow) (desk : ℕ) → IfSome (row_of rows desk Current) (λ row. is_role row.role Current ≡ true)
row-role rows desk = by (row_of rows desk Current) refl
  where
    by : (o : Option KeyRow) → row_of rows desk Current ≡ o → IfSome o (λ row. is_role row.role Current ≡ true)
    by None e = tt
    by (Some row) e =
        (and_parts (eqb row.desk desk) (is_role row.role Current)
        (found-in (λ (r : KeyRow). eqb r.desk desk && is_role r.role Current) rows row e).1).1

current-after : (basis : plan.Basis) (desk : ℕ) (name : NameRow) (new current old : Option KeyRow)
    → IfSome new (λ row. row.desk ≡ desk) → IfSome current (λ row. row.desk ≡ desk) → IfSome current (λ row. is_role row.role Current ≡ true)
    → (k : NextKey) × In k (keys_after (asked_at basis desk name) new current old) × IsCurrent desk k
current-after basis desk name new None old n c r = (made desk name.signer Current 0 (asked_at basis desk name).inits, inl refl, (refl, refl))
current-after basis desk name (Some new) (Some current) old n c r =
    by (is_activated (asked_at basis desk name).activates current.done current.since basis.moment)
  where
    by : (b : Bool) → (k : NextKey) × In k (keys_at_end (asked_at basis desk name) (Some new) current
        (cond b (stages.activates current.done) (stages.stays (Staged current.since) current.done))) × IsCurrent desk k
    by true = (turned new Current 0 (current.done + 1), inl refl, (n, refl))
    by false = (kept current, inr (inl refl), (c, r))
current-after basis desk name None (Some current) (Some old) n c r = (kept current, inl refl, (c, r))
current-after basis desk name None (Some current) None n c r = by (is_begun (asked_at basis desk name).inits current.done)
  where
    by : (b : Bool) → (k : NextKey) × In k (keys_at_end (asked_at basis desk name) None current
        (cond b (stages.begins basis.moment current.done) (stages.stays Steady current.done))) × IsCurrent desk k
    by true = (turned current Current basis.moment current.done, inr (inl refl), (c, refl))
    by false = (kept current, inl refl, (c, r))

in-first : (basis : plan.Basis) (k : NextKey) (desk n : ℕ) → desk < n → In k (keys_at basis desk) → In k (keys_of_first basis n)
in-first basis k desk zero less at = absurd (omega arith)
in-first basis k desk (suc m) less at =
    elim (cases_lt desk m) [
      | inl low ↦ in-front k (keys_of_first basis m) (keys_at basis m) (in-first basis k desk m low at)
      | inr from ↦
          let e : desk ≡ m = omega (arith, less, from) in
          in-behind k (keys_of_first basis m) (keys_at basis m) (subst (λ (d : ℕ). In k (keys_at basis d)) e at)
    ]

desk-of : (rows : List KeyRow) (desk : ℕ) (o : Option KeyRow) → IfSome o (IsOf rows desk) → IfSome o (λ row. row.desk ≡ desk)
desk-of rows desk None h = tt
desk-of rows desk (Some row) h = h.1

pub current-in : (basis : plan.Basis) (desk : ℕ) (name : NameRow) → IsDesk basis desk name
    → (k : NextKey) × In k (next_keys basis) × IsCurrent desk k
current-in basis desk name is =
    let new = row_of basis.rows desk New in
    let current = row_of basis.rows desk Current in
    let old = row_of basis.rows desk Old in
    let w = current-after basis desk name new current old (desk-of basis.rows desk new (row-fits basis.rows desk New))
    (desk-of basis.rows desk current (row-fits basis.rows desk Current)) (row-role basis.rows desk) in
    let all : keys_at basis desk ≡ keys_after (asked_at basis desk name) new current old =
    ap (λ (o : Option NameRow). keys_of basis desk o (slice_get basis.sets desk)) is.named
    ∙ (ap (λ (o : Option Resources). keys_of basis desk (Some name) o) is.has
    ∙ ap (λ (b : Bool). cond b [] (keys_after (asked_at basis desk name) new current old)) is.some) in (
      w.0,
      in-first basis w.0 desk (length (names_of basis.configs)) (slice_get_within (names_of basis.configs) desk name is.named)
          (subst (In w.0) (sym all) w.1),
      w.2,
    )
