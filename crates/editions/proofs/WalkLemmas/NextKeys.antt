-- The next keys: each is of a desk that has a name and holds something, and each such desk has one
-- that is current.
use Rattle.std.proofs.Common.{◌≡◌, ℕ, ◌+◌, ◌<◌, zero, suc, Bool, true, false, cond, eqb, ◌&&◌, Option, None, Some, List, [], ◌∷◌, length, refl, sym, ap, subst, ◌∙◌, ◌⊎◌, inl, inr, arith}
use Rattle.std.specs.List.{slice_get}
use Rattle.std.specs.Option.{IfSome}
use Rattle.std.proofs.lemmas.Bool.{and_parts, cases_lt, eqb-true}
use Rattle.std.proofs.lemmas.Option.{slice_get_within}
use Rattle.res_sets.specs.declared.holdings.Resources.{Resources}
use Rattle.authority_book.specs.declared.rows.NameRow.{NameRow}
use Rattle.entitle.specs.Certified.{names_of}
use Rattle.key_roll.specs.declared.rows.KeyRow.{KeyRow}
use Rattle.key_roll.specs.declared.rows.Role.{Role}
use Rattle.key_roll.specs.declared.rows.Role.TheVariants.{New, Current, Old}
use Rattle.key_roll.specs.declared.stages.Stage.TheVariants.{Steady, Staged}
use Rattle.key_roll.specs.Stages as stages
use Rattle.key_roll.specs.Stages.{is_begun, is_activated}
use Rattle.issue_plan.specs.declared.keys.NextKey.{NextKey}
use Rattle.issue_plan.specs.Keys.{Basis, row_of, kept, turned, made, keys_at_end, keys_after, asked_at, keys_of, keys_at, keys_of_first, next_keys, holds_nothing}
use Rattle.key_roll.specs.Roles.{is_role}
use Rattle.editions.specs.inner.KeyTree.{IsDesk}
use Rattle.items.specs.laws.AmongLaws.{In, in-front, in-behind, in-parts, found-in}
use Rattle.editions.proofs.PlanLemmas.There.{Names}

-- ---- the rows of a desk

-- A live key of that desk, in that role.
abbrev IsFound : List KeyRow → ℕ → Role → KeyRow → Type 0
IsFound rows desk role row = In row rows × (row.desk ≡ desk) × (is_role row.role role ≡ true)

pub row-parts : (rows : List KeyRow) (desk : ℕ) (role : Role) (row : KeyRow)
    → row_of rows desk role ≡ Some row → IsFound rows desk role row
row-parts rows desk role row e =
    let h = found-in (λ (r : KeyRow). eqb r.desk desk && is_role r.role role) rows row e in
    let p = and_parts (eqb row.desk desk) (is_role row.role role) h.1 in
    (h.0, eqb-true row.desk desk p.0, p.1)

row-found : (rows : List KeyRow) (desk : ℕ) (role : Role) → IfSome (row_of rows desk role) (IsFound rows desk role)
row-found rows desk role = by (row_of rows desk role) refl
  where
    by : (o : Option KeyRow) → row_of rows desk role ≡ o → IfSome o (IsFound rows desk role)
    by None e = tt
    by (Some row) e = row-parts rows desk role row e

-- ---- the next keys of a desk

-- It is the desk's.
pub record IsOf (rows : List KeyRow) (desk : ℕ) (next : NextKey) : Type 0 where
  pub at : next.desk ≡ desk
  pub names : Names rows desk next.name

record AreOf (rows : List KeyRow) (desk : ℕ) (nexts : List NextKey) : Type 0 where
  each : (next : NextKey) → In next nexts → IsOf rows desk next
  current : NextKey
  among : In current nexts
  role : is_role current.role Current ≡ true

one : (rows : List KeyRow) (desk : ℕ) (a : NextKey) → IsOf rows desk a → is_role a.role Current ≡ true
    → AreOf rows desk (a ∷ [])
one rows desk a is role = record { each = each; current = a; among = inl refl; role = role }
  where
    each : (next : NextKey) → In next (a ∷ []) → IsOf rows desk next
    each next (inl same) = subst (IsOf rows desk) same is
    each next (inr at) = absurd at

both : (rows : List KeyRow) (desk : ℕ) (a b : NextKey) → IsOf rows desk a → IsOf rows desk b
    → (next : NextKey) → In next (a ∷ b ∷ []) → IsOf rows desk next
both rows desk a b is is_too next (inl same) = subst (IsOf rows desk) same is
both rows desk a b is is_too next (inr (inl same)) = subst (IsOf rows desk) same is_too
both rows desk a b is is_too next (inr (inr at)) = absurd at

module _ (basis : Basis) where
  abbrev rows : List KeyRow
  rows = basis.rows

  after : (desk : ℕ) (name : NameRow) (new current old : Option KeyRow)
      → IfSome new (IsFound rows desk New) → IfSome current (IsFound rows desk Current)
      → AreOf rows desk (keys_after (asked_at basis desk name) new current old)
  after desk name new None old n c =
      one rows desk (made desk name.signer Current 0 (asked_at basis desk name).inits)
      (record { at = refl; names = refl }) refl
  after desk name (Some new) (Some current) old n c =
      by (is_activated (asked_at basis desk name).activates current.done current.since basis.moment)
    where
      by : (b : Bool) → AreOf rows desk (keys_at_end (asked_at basis desk name) (Some new) current
          (cond b (stages.activates current.done) (stages.stays (Staged current.since) current.done)))
      by true = record {
        each = both rows desk (turned new Current 0 (current.done + 1))
            (turned current Old 0 (current.done + 1))
            (record { at = n.1; names = (new, n.0, n.1, refl) })
            (record { at = c.1; names = (current, c.0, c.1, refl) });
        current = turned new Current 0 (current.done + 1);
        among = inl refl;
        role = refl;
      }
      by false = record {
        each = both rows desk (kept new) (kept current)
            (record { at = n.1; names = (new, n.0, n.1, refl) })
            (record { at = c.1; names = (current, c.0, c.1, refl) });
        current = kept current;
        among = inr (inl refl);
        role = c.2;
      }
  after desk name None (Some current) (Some old) n c =
      one rows desk (kept current) (record { at = c.1; names = (current, c.0, c.1, refl) }) c.2
  after desk name None (Some current) None n c =
      by (is_begun (asked_at basis desk name).inits current.done)
    where
      by : (b : Bool) → AreOf rows desk (keys_at_end (asked_at basis desk name) None current
          (cond b (stages.begins basis.moment current.done) (stages.stays Steady current.done)))
      by true = record {
        each = both rows desk (made desk name.signer New basis.moment current.done)
            (turned current Current basis.moment current.done)
            (record { at = refl; names = refl })
            (record { at = c.1; names = (current, c.0, c.1, refl) });
        current = turned current Current basis.moment current.done;
        among = inr (inl refl);
        role = refl;
      }
      by false = one rows desk (kept current)
          (record { at = c.1; names = (current, c.0, c.1, refl) }) c.2

  abbrev keys_here : ℕ → NameRow → List NextKey
  keys_here desk name = keys_after (asked_at basis desk name)
      (row_of rows desk New) (row_of rows desk Current) (row_of rows desk Old)

  here : (desk : ℕ) (name : NameRow) → AreOf rows desk (keys_here desk name)
  here desk name = after desk name (row_of rows desk New) (row_of rows desk Current)
      (row_of rows desk Old) (row-found rows desk New) (row-found rows desk Current)

  -- ---- all next keys

  -- A next key of a desk that has a name and holds something.
  abbrev IsWell : ℕ → NextKey → Type 0
  IsWell desk next = IsOf rows desk next × (name : NameRow) × IsDesk basis.configs basis.sets desk name

  of-desk : (desk : ℕ) (name : Option NameRow) (set : Option Resources)
      → slice_get (names_of basis.configs) desk ≡ name → slice_get basis.sets desk ≡ set
      → (next : NextKey) → In next (keys_of basis desk name set) → IsWell desk next
  of-desk desk None set e f next at = absurd at
  of-desk desk (Some name) None e f next at = absurd at
  of-desk desk (Some name) (Some set) e f next at = by (holds_nothing set) refl at
    where
      by : (b : Bool) → holds_nothing set ≡ b → In next (cond b [] (keys_here desk name)) → IsWell desk next
      by true g at = absurd at
      by false g at = (
        (here desk name).each next at,
        name,
        record { named = e; set = set; has = f; some = g },
      )

  of-first : (desks : ℕ) (next : NextKey) → In next (keys_of_first basis desks)
      → (desk : ℕ) × IsWell desk next
  of-first zero next at = absurd at
  of-first (suc desk) next at =
      by (of-first desk next) (in-parts next (keys_of_first basis desk) (keys_at basis desk) at)
    where
      by : (In next (keys_of_first basis desk) → (d : ℕ) × IsWell d next)
          → In next (keys_of_first basis desk) ⊎ In next (keys_at basis desk) → (d : ℕ) × IsWell d next
      by rest (inl before) = rest before
      by rest (inr at) = (
        desk,
        of-desk desk (slice_get (names_of basis.configs) desk) (slice_get basis.sets desk)
            refl refl next at,
      )

  pub next-is : (next : NextKey) → In next (next_keys basis) → (desk : ℕ) × IsWell desk next
  next-is = of-first (length (names_of basis.configs))

  in-first : (k : NextKey) (desk n : ℕ) → desk < n → In k (keys_at basis desk) → In k (keys_of_first basis n)
  in-first k desk zero less at = absurd (omega (arith, less))
  in-first k desk (suc m) less at =
      elim (cases_lt desk m) [
        | inl low ↦ in-front k (keys_of_first basis m) (keys_at basis m) (in-first k desk m low at)
        | inr from ↦
            let e : desk ≡ m = omega (arith, less, from) in
            in-behind k (keys_of_first basis m) (keys_at basis m)
            (subst (λ (d : ℕ). In k (keys_at basis d)) e at)
      ]

  -- A desk that has a name and holds something has a current key.
  pub next-current : (desk : ℕ) (name : NameRow) → IsDesk basis.configs basis.sets desk name
      → (next : NextKey) × In next (next_keys basis) × (next.desk ≡ desk)
      × (is_role next.role Current ≡ true)
  next-current desk name is =
      let h = here desk name in
      let all : keys_at basis desk ≡ keys_here desk name =
      ap (λ (o : Option NameRow). keys_of basis desk o (slice_get basis.sets desk)) is.named
      ∙ (ap (λ (o : Option Resources). keys_of basis desk (Some name) o) is.has
      ∙ ap (λ (b : Bool). cond b [] (keys_here desk name)) is.some) in (
        h.current,
        in-first h.current desk (length (names_of basis.configs))
            (slice_get_within (names_of basis.configs) desk name is.named)
            (subst (In h.current) (sym all) h.among),
        (h.each h.current h.among).at,
        h.role,
      )
