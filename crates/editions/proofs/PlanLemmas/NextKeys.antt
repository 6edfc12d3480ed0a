-- The keys of the next edition: each is a live one or one that is to be made, of a desk that has a name.
use Rattle.std.proofs.Common.{◌≡◌, ℕ, ◌+◌, zero, suc, Bool, true, false, cond, eqb, ◌&&◌, Option, None, Some, List, [], ◌∷◌, length, refl, sym, subst}
use Rattle.std.specs.List.{All, slice_get}
use Rattle.std.specs.Option.{IfSome}
use Rattle.std.proofs.lemmas.Bool.{and_parts, eqb-true}
use Rattle.std.proofs.lemmas.List.Elements.{All-nil, All-cons, All-append}
use Rattle.res_sets.specs.declared.holdings.Resources.{Resources}
use Rattle.authority_book.specs.declared.rows.NameRow.{NameRow}
use Rattle.entitle.specs.Certified.{names_of}
use Rattle.key_roll.specs.declared.rows.KeyRow.{KeyRow}
use Rattle.key_roll.specs.declared.rows.Role.{Role}
use Rattle.key_roll.specs.declared.rows.Role.TheVariants.{New, Current, Old}
use Rattle.key_roll.specs.declared.stages.Stage.TheVariants.{Steady, Staged}
use Rattle.key_roll.specs.Stages as stages
use Rattle.key_roll.specs.Stages.{is_begun, is_activated}
use Rattle.issue_plan.specs.declared.keys.NextKey.{NextKey}
use Rattle.issue_plan.specs.Keys.{Basis, row_of, kept, turned, made, keys_at_end, keys_after, asked_at, keys_of, keys_at, keys_of_first, next_keys, holds_nothing}
use Rattle.key_roll.specs.Roles.{is_role}
use Rattle.items.specs.laws.AmongLaws.{In, in-all, found-in}

-- A desk that has a name and holds something.
pub record IsDesk (basis : Basis) (desk : ℕ) (name : NameRow) : Type 0 where
  pub named : slice_get (names_of basis.configs) desk ≡ Some name
  pub set : Resources
  pub has : slice_get basis.sets desk ≡ Some set
  pub some : holds_nothing set ≡ false

-- A live key of that desk.
abbrev pub IsOf : List KeyRow → ℕ → KeyRow → Type 0
IsOf rows desk row = In row rows × (row.desk ≡ desk)

pub row-fits : (rows : List KeyRow) (desk : ℕ) (role : Role) → IfSome (row_of rows desk role) (IsOf rows desk)
row-fits rows desk role = by (row_of rows desk role) refl
  where
    by : (o : Option KeyRow) → row_of rows desk role ≡ o → IfSome o (IsOf rows desk)
    by None e = tt
    by (Some row) e =
        let h = found-in (λ (r : KeyRow). eqb r.desk desk && is_role r.role role) rows row e in
        (h.0, eqb-true row.desk desk (and_parts (eqb row.desk desk) (is_role row.role role) h.1).0)

module _ (basis : Basis) (P : NextKey → Type 0)
    (makes : (desk : ℕ) (name : NameRow) → IsDesk basis desk name
    → (role : Role) (since done : ℕ) → P (made desk name.signer role since done))
    (keeps : (desk : ℕ) (name : NameRow) → IsDesk basis desk name
    → (row : KeyRow) → IsOf basis.rows desk row → P (kept row))
    (turns : (desk : ℕ) (name : NameRow) → IsDesk basis desk name
    → (row : KeyRow) → IsOf basis.rows desk row → (role : Role) (since done : ℕ) → P (turned row role since done)) where
  one : (k : NextKey) → P k → All P (k ∷ [])
  one k h = All-cons P k [] h (All-nil P)

  two : (k l : NextKey) → P k → P l → All P (k ∷ l ∷ [])
  two k l h i = All-cons P k (l ∷ []) h (one l i)

  after : (desk : ℕ) (name : NameRow) → IsDesk basis desk name → (new current old : Option KeyRow)
      → IfSome new (IsOf basis.rows desk) → IfSome current (IsOf basis.rows desk)
      → All P (keys_after (asked_at basis desk name) new current old)
  after desk name at new None old n c = one _ (makes desk name at Current 0 (asked_at basis desk name).inits)
  after desk name at (Some new) (Some current) old n c =
      by (is_activated (asked_at basis desk name).activates current.done current.since basis.moment)
    where
      by : (b : Bool) → All P (keys_at_end (asked_at basis desk name) (Some new) current
          (cond b (stages.activates current.done) (stages.stays (Staged current.since) current.done)))
      by true = two _ _ (turns desk name at new n Current 0 (current.done + 1)) (turns desk name at current c Old 0 (current.done + 1))
      by false = two _ _ (keeps desk name at new n) (keeps desk name at current c)
  after desk name at None (Some current) (Some old) n c = one _ (keeps desk name at current c)
  after desk name at None (Some current) None n c = by (is_begun (asked_at basis desk name).inits current.done)
    where
      by : (b : Bool) → All P (keys_at_end (asked_at basis desk name) None current
          (cond b (stages.begins basis.moment current.done) (stages.stays Steady current.done)))
      by true = two _ _ (makes desk name at New basis.moment current.done) (turns desk name at current c Current basis.moment current.done)
      by false = one _ (keeps desk name at current c)

  of-desk : (desk : ℕ) (name : Option NameRow) (set : Option Resources) → slice_get (names_of basis.configs) desk ≡ name
      → slice_get basis.sets desk ≡ set → All P (keys_of basis desk name set)
  of-desk desk None set e f = All-nil P
  of-desk desk (Some name) None e f = All-nil P
  of-desk desk (Some name) (Some set) e f = by (holds_nothing set) refl
    where
      by : (b : Bool) → holds_nothing set ≡ b → All P (cond b [] (keys_after (asked_at basis desk name)
          (row_of basis.rows desk New) (row_of basis.rows desk Current) (row_of basis.rows desk Old)))
      by true g = All-nil P
      by false g = after desk name (record { named = e; set = set; has = f; some = g }) (row_of basis.rows desk New) (row_of basis.rows desk Current) (row_of basis.rows desk Old)
          (row-fits basis.rows desk New) (row-fits basis.rows desk Current)

  of-first : (desks : ℕ) → All P (keys_of_first basis desks)
  of-first zero = All-nil P
  of-first (suc desk) =
      All-append P (keys_of_first basis desk) (keys_at basis desk) (of-first desk)
      (of-desk desk (slice_get (names_of basis.configs) desk) (slice_get basis.sets desk) refl refl)

  -- What holds of each that is made and of each live one that goes on holds of all.
  pub all-keys : All P (next_keys basis)
  all-keys = of-first (length (names_of basis.configs))

-- Each is of a desk that has a name and holds something.
pub key-desk : (basis : Basis) (k : NextKey) → In k (next_keys basis) → (name : NameRow) × IsDesk basis k.desk name
key-desk basis k at =
    in-all (λ (key : NextKey). (name : NameRow) × IsDesk basis key.desk name) k (next_keys basis)
    (all-keys basis (λ (key : NextKey). (name : NameRow) × IsDesk basis key.desk name)
    (λ desk name is role since done. (name, is))
    (λ desk name is row of. (name, subst (λ (d : ℕ). IsDesk basis d name) (sym of.1) is))
    (λ desk name is row of role since done. (name, subst (λ (d : ℕ). IsDesk basis d name) (sym of.1) is))) at
