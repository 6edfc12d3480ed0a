-- The next keys: by desk and role, no two of one name, each live one from a row of before.
use Rattle.std.proofs.Common.{◌≡◌, ◌≢◌, ℕ, zero, suc, ◌+◌, ◌<◌, ◌==◌, ◌&&◌, Bool, true, false, cond, Option, Some, None, List, [], length, refl, sym, ap, subst, ◌∙◌, arith, ◌⊎◌, inl, inr}
use Rattle.std.specs.Prelude.{AllPairs, Contains, slice_get}
use Rattle.std.proofs.lemmas.Bool.{and_parts, eqb-true, false≢true}
use Rattle.key_ids.specs.declared.identifier.KeyId.{KeyId}
use Rattle.res_sets.specs.declared.holdings.Resources.{Resources}
use Rattle.authority_book.specs.declared.rows.NameRow.{NameRow}
use Rattle.entitle.specs.Certified.{names_of}
use Rattle.key_roll.specs.declared.rows.KeyRow.{KeyRow}
use Rattle.key_roll.specs.declared.rows.Role.{Role}
use Rattle.key_roll.specs.declared.rows.Role.TheVariants.{New, Current, Old}
use Rattle.key_roll.specs.declared.work.KeyName.{KeyName}
use Rattle.key_roll.specs.declared.work.KeyName.TheVariants.{Live, Fresh}
use Rattle.key_roll.specs.declared.stages.Stage.TheVariants.{Steady, Staged}
use Rattle.key_roll.specs.Stages as stages
use Rattle.key_roll.specs.Stages.{is_begun, is_activated}
use Rattle.issue_keys.specs.Keys.{id_of}
use Rattle.issue_make.specs.Trace.{rank}
use Rattle.issue_plan.specs.declared.keys.NextKey.{NextKey}
use Rattle.issue_plan.specs.declared.keys.Asked.{Asked}
use Rattle.issue_plan.specs.Keys.{Basis, row_of, kept, turned, keys_at_end, keys_after, holds_nothing, asked_at, keys_of, keys_at, keys_of_first, next_keys}
use Rattle.key_roll.specs.Roles.{is_role}
use Rattle.items.specs.laws.ElementLaws.{found-in}
use Rattle.items.specs.laws.PairLaws.{Each, Twos, each-at, each-append, each-weaker, twos-append}
use Rattle.editions.specs.laws.RowLaws.{role-is}
use Rattle.editions.proofs.ObjectLemmas.Views.{apart-same}

-- ---- one of them

-- A live key that goes on: as it was, unless it is changed.
pub record IsKeptKey (rows : List KeyRow) (next : NextKey) (id : KeyId) : Type 0 where
  pub row : KeyRow
  pub live : Contains rows row
  pub named : id_of row ≡ id.bytes
  pub desk : row.desk ≡ next.desk
  pub role : next.is_changed ≡ false → next.role ≡ row.role
  pub since : next.is_changed ≡ false → next.since ≡ row.since
  pub done : next.is_changed ≡ false → next.done ≡ row.done

abbrev pub IsFromBy : List KeyRow → NextKey → KeyName → Type 0
IsFromBy rows next (Live id) = IsKeptKey rows next id
IsFromBy rows next (Fresh desk) = desk ≡ next.desk

abbrev pub IsFrom : List KeyRow → NextKey → Type 0
IsFrom rows next = IsFromBy rows next next.name

-- ---- two of them

abbrev pub AreOther : KeyName → KeyName → Type 0
AreOther (Live a) (Live b) = a.bytes ≢ b.bytes
AreOther (Live a) (Fresh desk) = Unit {0}
AreOther (Fresh desk) (Live b) = Unit {0}
AreOther (Fresh desk) (Fresh other) = desk ≢ other

pub record IsBefore (a b : NextKey) : Type 0 where
  pub order : (a.desk < b.desk) ⊎ ((a.desk ≡ b.desk) × (rank a.role < rank b.role))
  pub other : AreOther a.name b.name

-- ---- the rows that are found

record IsFound (rows : List KeyRow) (desk : ℕ) (role : Role) (row : KeyRow) : Type 0 where
  live : Contains rows row
  at : row.desk ≡ desk
  is : row.role ≡ role

found : (rows : List KeyRow) (desk : ℕ) (role : Role) (row : KeyRow)
    → row_of rows desk role ≡ Some row → IsFound rows desk role row
found rows desk role row e =
    let f = found-in (λ (r : KeyRow). (r.desk == desk) && is_role r.role role) rows row e in
    let p = and_parts (row.desk == desk) (is_role row.role role) f.1 in
    record {
      live = f.0;
      at = eqb-true row.desk desk p.0;
      is = role-is row.role role p.1;
    }

module _ (rows : List KeyRow) (apart : AllPairs (λ a b. id_of a ≢ id_of b) rows) where
  -- ---- of one desk

  abbrev AtDesk : ℕ → List NextKey → Type 0
  AtDesk desk nexts =
      Each (λ (next : NextKey). (next.desk ≡ desk) × IsFrom rows next) nexts × Twos IsBefore nexts

  kept-from : (desk : ℕ) (role : Role) (row : KeyRow) → IsFound rows desk role row
      → (kept row).desk ≡ desk × IsFrom rows (kept row)
  kept-from desk role row is = (
    is.at,
    record {
      row = row;
      live = is.live;
      named = refl;
      desk = refl;
      role = λ same. refl;
      since = λ same. refl;
      done = λ same. refl;
    },
  )

  turned-from : (desk : ℕ) (role to : Role) (since done : ℕ) (row : KeyRow)
      → IsFound rows desk role row
      → ((turned row to since done).desk ≡ desk) × IsFrom rows (turned row to since done)
  turned-from desk role to since done row is = (
    is.at,
    record {
      row = row;
      live = is.live;
      named = refl;
      desk = refl;
      role = λ same. absurd (false≢true (sym same));
      since = λ same. absurd (false≢true (sym same));
      done = λ same. absurd (false≢true (sym same));
    },
  )

  -- Rows of two roles have two identifiers.
  two-ids : (desk : ℕ) (one two : KeyRow) → IsFound rows desk New one
      → IsFound rows desk Current two → id_of one ≢ id_of two
  two-ids desk one two first second same =
      let e : one ≡ two = apart-same rows one two apart first.live second.live same in
      let role : New ≡ Current = sym first.is ∙ (ap (λ (r : KeyRow). r.role) e ∙ second.is) in
      absurd (new-current role)
    where
      new-current : New ≡ Current → ⊥
      new-current e = cc

  after-staged : (asked : Asked) (new current : KeyRow) → IsFound rows asked.desk New new
      → IsFound rows asked.desk Current current
      → (old : Option KeyRow) → AtDesk asked.desk (keys_after asked (Some new) (Some current) old)
  after-staged asked new current first second old =
      by (is_activated asked.activates current.done current.since asked.moment)
    where
      by : (b : Bool) → AtDesk asked.desk (keys_at_end asked (Some new) current
          (cond b (stages.activates current.done) (stages.stays (Staged current.since) current.done)))
      by true = (
        (
          turned-from asked.desk New Current 0 (current.done + 1) new first,
          (turned-from asked.desk Current Old 0 (current.done + 1) current second, tt),
        ),
        (
          (
            record {
              order = inr (first.at ∙ sym second.at, omega arith);
              other = two-ids asked.desk new current first second;
            },
            tt,
          ),
          (tt, tt),
        ),
      )
      by false = (
        (kept-from asked.desk New new first, (kept-from asked.desk Current current second, tt)),
        (
          (
            record {
              order = inr (
                first.at ∙ sym second.at,
                subst (λ (r : Role). rank r < rank current.role) (sym first.is)
                    (subst (λ (r : Role). rank New < rank r) (sym second.is) (omega arith)),
              );
              other = two-ids asked.desk new current first second;
            },
            tt,
          ),
          (tt, tt),
        ),
      )

  after-alone : (asked : Asked) (current : KeyRow) → IsFound rows asked.desk Current current
      → AtDesk asked.desk (keys_after asked None (Some current) None)
  after-alone asked current is = by (is_begun asked.inits current.done)
    where
      by : (b : Bool) → AtDesk asked.desk (keys_at_end asked None current
          (cond b (stages.begins asked.moment current.done) (stages.stays Steady current.done)))
      by true = (
        (
          (refl, refl),
          (turned-from asked.desk Current Current asked.moment current.done current is, tt),
        ),
        ((record { order = inr (sym is.at, omega arith); other = tt }, tt), (tt, tt)),
      )
      by false = ((kept-from asked.desk Current current is, tt), (tt, tt))

  after-good : (asked : Asked) (new current old : Option KeyRow)
      → row_of rows asked.desk New ≡ new → row_of rows asked.desk Current ≡ current
      → AtDesk asked.desk (keys_after asked new current old)
  after-good asked new None old first second = (((refl, refl), tt), (tt, tt))
  after-good asked (Some new) (Some current) old first second =
      after-staged asked new current (found rows asked.desk New new first)
      (found rows asked.desk Current current second) old
  after-good asked None (Some current) (Some old) first second = (
    (kept-from asked.desk Current current (found rows asked.desk Current current second), tt),
    (tt, tt),
  )
  after-good asked None (Some current) None first second =
      after-alone asked current (found rows asked.desk Current current second)

  -- ---- of all desks

  asked-good : (basis : Basis) → basis.rows ≡ rows → (desk : ℕ) (name : NameRow)
      → AtDesk desk (keys_after (asked_at basis desk name)
      (row_of basis.rows desk New) (row_of basis.rows desk Current) (row_of basis.rows desk Old))
  asked-good basis same desk name =
      after-good (asked_at basis desk name) (row_of basis.rows desk New)
      (row_of basis.rows desk Current) (row_of basis.rows desk Old)
      (ap (λ (l : List KeyRow). row_of l desk New) (sym same))
      (ap (λ (l : List KeyRow). row_of l desk Current) (sym same))

  of-good : (basis : Basis) → basis.rows ≡ rows → (desk : ℕ) (name : Option NameRow)
      (set : Option Resources) → AtDesk desk (keys_of basis desk name set)
  of-good basis same desk None set = (tt, tt)
  of-good basis same desk (Some name) None = (tt, tt)
  of-good basis same desk (Some name) (Some set) = by (holds_nothing set)
    where
      by : (b : Bool) → AtDesk desk (cond b [] (keys_after (asked_at basis desk name)
          (row_of basis.rows desk New) (row_of basis.rows desk Current) (row_of basis.rows desk Old)))
      by true = (tt, tt)
      by false = asked-good basis same desk name

  -- Keys of two desks.
  other-names : (a b : NextKey) (one two : KeyName) → IsFromBy rows a one → IsFromBy rows b two
      → a.desk < b.desk → AreOther one two
  other-names a b (Live i) (Live j) first second less = λ same.
      let e : first.row ≡ second.row = apart-same rows first.row second.row apart first.live
      second.live (first.named ∙ (same ∙ sym second.named)) in
      let desks : first.row.desk ≡ second.row.desk = ap (λ (r : KeyRow). r.desk) e in
      let left = first.desk in
      let right = second.desk in
      omega (arith, less, desks, left, right)
  other-names a b (Live i) (Fresh desk) first second less = tt
  other-names a b (Fresh desk) (Live j) first second less = tt
  other-names a b (Fresh desk) (Fresh other) first second less = λ same.
      omega (arith, less, same, first, second)

  abbrev AreBelow : ℕ → List NextKey → Type 0
  AreBelow n nexts =
      Each (λ (next : NextKey). (next.desk < n) × IsFrom rows next) nexts × Twos IsBefore nexts

  first-good : (basis : Basis) → basis.rows ≡ rows → (n : ℕ) → AreBelow n (keys_of_first basis n)
  first-good basis same zero = (tt, tt)
  first-good basis same (suc desk) =
      let before = first-good basis same desk in
      let here = of-good basis same desk (slice_get (names_of basis.configs) desk)
      (slice_get basis.sets desk) in (
        each-append (λ (next : NextKey). (next.desk < suc desk) × IsFrom rows next)
            (keys_of_first basis desk) (keys_at basis desk)
            (each-weaker (λ (next : NextKey). (next.desk < desk) × IsFrom rows next)
            (λ (next : NextKey). (next.desk < suc desk) × IsFrom rows next)
            (keys_of_first basis desk)
            (λ next is. let less = is.0 in (omega (arith, less), is.1)) before.0)
            (each-weaker (λ (next : NextKey). (next.desk ≡ desk) × IsFrom rows next)
            (λ (next : NextKey). (next.desk < suc desk) × IsFrom rows next)
            (keys_at basis desk) (λ next is. let at = is.0 in (omega (arith, at), is.1)) here.0),
        twos-append IsBefore (keys_of_first basis desk) (keys_at basis desk) before.1 here.1
            (λ x y c d.
            let left = each-at (λ (next : NextKey). (next.desk < desk) × IsFrom rows next)
            (keys_of_first basis desk) x before.0 c in
            let right = each-at (λ (next : NextKey). (next.desk ≡ desk) × IsFrom rows next)
            (keys_at basis desk) y here.0 d in
            let less : x.desk < y.desk = let one = left.0 in let two = right.0 in
            omega (arith, one, two) in
            record {
              order = inl less;
              other = other-names x y x.name y.name left.1 right.1 less;
            }),
      )

  pub nexts-from : (basis : Basis) → basis.rows ≡ rows → Each (IsFrom rows) (next_keys basis)
  nexts-from basis same =
      each-weaker (λ (next : NextKey). (next.desk < length (names_of basis.configs)) × IsFrom rows next)
      (IsFrom rows) (next_keys basis) (λ next is. is.1)
      (first-good basis same (length (names_of basis.configs))).0

  pub nexts-rise : (basis : Basis) → basis.rows ≡ rows → Twos IsBefore (next_keys basis)
  nexts-rise basis same = (first-good basis same (length (names_of basis.configs))).1
