-- The next keys are those of stages, where the keys before were.
use Rattle.std.proofs.Common.{◌≡◌, ℕ, zero, suc, ◌+◌, ◌<◌, ◌&&◌, ◌==◌, Bool, true, false, cond, Option, Some, None, List, [], ◌∷◌, ◌++◌, map, length, codes, refl, sym, ap, subst, ◌∙◌, arith, append_assoc}
use Rattle.std.specs.Prelude.{Contains, slice_get, get_or}
use Rattle.std.proofs.lemmas.Bool.{and_parts, eqb-true, false≢true}
use Rattle.std.proofs.lemmas.List.{map-append}
use Rattle.items.specs.laws.ElementLaws.{found-in}
use Rattle.items.specs.laws.PairLaws.{Each, each-append, each-weaker}
use Rattle.res_sets.specs.declared.numbers.Family.TheVariants.{Asn}
use Rattle.res_sets.specs.declared.numbers.Range.{Range}
use Rattle.res_sets.specs.Numbers.{any_spans}
use Rattle.res_sets.specs.declared.holdings.Resources.{Resources}
use Rattle.res_sets.specs.Triples.{has}
use Rattle.authority_book.specs.declared.rows.NameRow.{NameRow}
use Rattle.entitle.specs.Certified.{names_of, certified, most_parents, AreCertified}
use Rattle.key_roll.specs.declared.rows.KeyRow.{KeyRow}
use Rattle.key_roll.specs.declared.rows.Role.{Role}
use Rattle.key_roll.specs.declared.rows.Role.TheVariants.{New, Current, Old}
use Rattle.key_roll.specs.declared.work.KeyName.{KeyName}
use Rattle.key_roll.specs.declared.work.KeyName.TheVariants.{Live, Fresh}
use Rattle.key_roll.specs.declared.stages.Stage.TheVariants.{Steady, Staged}
use Rattle.key_roll.specs.Stages as roll
use Rattle.key_roll.specs.Stages.{is_begun, is_activated}
use Rattle.issue_plan.specs.declared.keys.NextKey.{NextKey}
use Rattle.issue_plan.specs.declared.keys.Asked.{Asked}
use Rattle.issue_plan.specs.Keys.{Basis, id_of, row_of, kept, turned, made, keys_at_end, keys_after, holds_nothing, no_ranges, asked_at, keys_of, keys_at, keys_of_first, next_keys}
use Rattle.key_roll.specs.Roles.{is_role}
use Rattle.press_records.specs.Rows.{RowValue}
use Rattle.press_records.specs.Stages.{are_stages, are_staged}
use Rattle.press_core.proofs.Stages.{is-alone, begun-two, ended-two, Agree, IsGroup, stages-then, staged-first}
use Rattle.editions.specs.laws.RowLaws.{role-is}

-- A next key as a record would have it, but for its key and counters.
abbrev pub next_value : NextKey → RowValue
next_value next = record {
  desk = next.desk;
  signer = 0;
  role = next.role;
  key = [];
  next_serial = 0;
  number = 0;
  this_update = 0;
  since = next.since;
  done = next.done;
  revoked = [];
}

-- Where a next key comes from.
abbrev pub IsRootedBy : List KeyRow → NextKey → KeyName → Type 0
IsRootedBy rows next (Live id) = (row : KeyRow) × Contains rows row × (id ≡ id_of row) × (row.desk ≡ next.desk)
IsRootedBy rows next (Fresh desk) = desk ≡ next.desk

abbrev pub IsRooted : List KeyRow → NextKey → Type 0
IsRooted rows next = IsRootedBy rows next next.name

-- A live key of a desk and a role.
record IsFound (rows : List KeyRow) (desk : ℕ) (role : Role) (row : KeyRow) : Type 0 where
  live : Contains rows row
  at : row.desk ≡ desk
  is : row.role ≡ role

found : (rows : List KeyRow) (desk : ℕ) (role : Role) (row : KeyRow) → row_of rows desk role ≡ Some row → IsFound rows desk role row
found rows desk role row e =
    let f = found-in (λ (r : KeyRow). (r.desk == desk) && is_role r.role role) rows row e in
    let p = and_parts (row.desk == desk) (is_role row.role role) f.1 in
    record { live = f.0; at = eqb-true row.desk desk p.0; is = role-is row.role role p.1 }

-- ---- of one desk

pub record IsOfDesk (rows : List KeyRow) (desk : ℕ) (nexts : List NextKey) : Type 0 where
  pub group : IsGroup desk (map next_value nexts)
  pub rooted : Each (IsRooted rows) nexts

pub record HasFirst (nexts : List NextKey) : Type 0 where
  pub first : NextKey
  pub rest : List NextKey
  pub is : nexts ≡ first ∷ rest

abbrev After : List KeyRow → ℕ → List NextKey → Type 0
After rows desk nexts = IsOfDesk rows desk nexts × HasFirst nexts

module _ (rows : List KeyRow) where
  rooted-kept : (desk : ℕ) (role : Role) (row : KeyRow) → IsFound rows desk role row → IsRooted rows (kept row)
  rooted-kept desk role row is = (row, is.live, refl, refl)

  alone-made : (asked : Asked) → After rows asked.desk (made asked.desk asked.signer Current 0 asked.inits ∷ [])
  alone-made asked = (
    record {
      group = (refl, is-alone (next_value (made asked.desk asked.signer Current 0 asked.inits)) refl refl);
      rooted = (refl, tt);
    },
    record { first = _; rest = []; is = refl },
  )

  alone-kept : (desk : ℕ) (current : KeyRow) → IsFound rows desk Current current → current.since ≡ 0 → After rows desk (kept current ∷ [])
  alone-kept desk current is since = (
    record {
      group = (is.at, is-alone (next_value (kept current)) is.is since);
      rooted = (rooted-kept desk Current current is, tt);
    },
    record { first = _; rest = []; is = refl },
  )

  two-of : (asked : Asked) (new current : KeyRow) → IsFound rows asked.desk New new → IsFound rows asked.desk Current current
      → new.since ≡ current.since → new.done ≡ current.done → (old : Option KeyRow) → After rows asked.desk (keys_after asked (Some new) (Some current) old)
  two-of asked new current first second since done old =
      by (is_activated asked.activates current.done current.since asked.moment)
    where
      by : (b : Bool) → After rows asked.desk (keys_at_end asked (Some new) current
          (cond b (roll.activates current.done) (roll.stays (Staged current.since) current.done)))
      by true = (
        record {
          group = (first.at, second.at, ended-two (next_value (turned new Current 0 (current.done + 1))) (next_value (turned current Old 0 (current.done + 1))) refl refl refl refl refl);
          rooted = ((new, first.live, refl, refl), ((current, second.live, refl, refl), tt));
        },
        record { first = _; rest = _; is = refl },
      )
      by false = (
        record {
          group = (first.at, second.at, begun-two (next_value (kept new)) (next_value (kept current)) since done first.is second.is);
          rooted = (rooted-kept asked.desk New new first, (rooted-kept asked.desk Current current second, tt));
        },
        record { first = _; rest = _; is = refl },
      )

  begun-of : (asked : Asked) (current : KeyRow) → IsFound rows asked.desk Current current → current.since ≡ 0
      → After rows asked.desk (keys_after asked None (Some current) None)
  begun-of asked current is since = by (is_begun asked.inits current.done)
    where
      by : (b : Bool) → After rows asked.desk (keys_at_end asked None current
          (cond b (roll.begins asked.moment current.done) (roll.stays Steady current.done)))
      by true = (
        record {
          group = (refl, is.at, begun-two (next_value (made asked.desk asked.signer New asked.moment current.done)) (next_value (turned current Current asked.moment current.done)) refl refl refl refl);
          rooted = (refl, ((current, is.live, refl, refl), tt));
        },
        record { first = _; rest = _; is = refl },
      )
      by false = alone-kept asked.desk current is since

  after-staged : (asked : Asked) (new current old : Option KeyRow) → row_of rows asked.desk New ≡ new → row_of rows asked.desk Current ≡ current → Agree new current
      → After rows asked.desk (keys_after asked new current old)
  after-staged asked new None old first second agree = alone-made asked
  after-staged asked (Some new) (Some current) old first second agree =
      two-of asked new current (found rows asked.desk New new first) (found rows asked.desk Current current second) agree.0 agree.1 old
  after-staged asked None (Some current) (Some old) first second agree =
      alone-kept asked.desk current (found rows asked.desk Current current second) agree
  after-staged asked None (Some current) None first second agree =
      begun-of asked current (found rows asked.desk Current current second) agree

-- ---- lists

some-is : {X : Type 0} (a b : X) → Some a ≡ Some b → a ≡ b
some-is a b e = cc

first-of : {X : Type 0} (l : List X) (x : X) → slice_get l 0 ≡ Some x → (0 < length l) × (get_or l 0 x ≡ x)
first-of [] x e = absurd cc
first-of (y ∷ l) x e = (omega arith, some-is y x e)

at-first : {X : Type 0} (l : List X) → 0 < length l → (x : X) × (slice_get l 0 ≡ Some x)
at-first [] some = absurd (omega (arith, some))
at-first (x ∷ l) some = (x, refl)

one-more : (n : ℕ) → 0 < n → (m : ℕ) × (n ≡ suc m)
one-more zero some = absurd (omega (arith, some))
one-more (suc m) some = (m, refl)

group-first : (first : NextKey) (rest : List NextKey) → IsGroup 0 (map next_value (first ∷ rest)) → first.desk ≡ 0
group-first first [] is = is.0
group-first first (b ∷ []) is = is.0
group-first first (b ∷ c ∷ rest) is = absurd is

-- ---- of all desks

-- The keys before were of stages, as far as is found.
abbrev pub AgreeAll : List KeyRow → Type 0
AgreeAll rows = (desk : ℕ) → Agree (row_of rows desk New) (row_of rows desk Current)

module _ (basis : Basis) (agree : AgreeAll basis.rows) where
  asked-staged : (desk : ℕ) (name : NameRow) → After basis.rows desk (keys_after (asked_at basis desk name)
      (row_of basis.rows desk New) (row_of basis.rows desk Current) (row_of basis.rows desk Old))
  asked-staged desk name =
      after-staged basis.rows (asked_at basis desk name) (row_of basis.rows desk New) (row_of basis.rows desk Current) (row_of basis.rows desk Old) refl refl (agree desk)

  of-staged : (desk : ℕ) (name : Option NameRow) (set : Option Resources) → IsOfDesk basis.rows desk (keys_of basis desk name set)
  of-staged desk None set = record { group = tt; rooted = tt }
  of-staged desk (Some name) None = record { group = tt; rooted = tt }
  of-staged desk (Some name) (Some set) = by (holds_nothing set)
    where
      by : (b : Bool) → IsOfDesk basis.rows desk (cond b [] (keys_after (asked_at basis desk name)
          (row_of basis.rows desk New) (row_of basis.rows desk Current) (row_of basis.rows desk Old)))
      by true = record { group = tt; rooted = tt }
      by false = (asked-staged desk name).0

  at-staged : (desk : ℕ) → IsOfDesk basis.rows desk (keys_at basis desk)
  at-staged desk = of-staged desk (slice_get (names_of basis.configs) desk) (slice_get basis.sets desk)

  abbrev Under : ℕ → NextKey → Type 0
  Under n next = next.desk < n

  group-under : (desk : ℕ) (nexts : List NextKey) → IsGroup desk (map next_value nexts) → Each (Under (suc desk)) nexts
  group-under desk [] is = tt
  group-under desk (a ∷ []) is = (let at : a.desk ≡ desk = is.0 in omega (arith, at), tt)
  group-under desk (a ∷ b ∷ []) is = (let at : a.desk ≡ desk = is.0 in omega (arith, at), (let at : b.desk ≡ desk = is.1 in omega (arith, at), tt))
  group-under desk (a ∷ b ∷ c ∷ rest) is = absurd is

  record AreOfFirst (n : ℕ) (nexts : List NextKey) : Type 0 where
    stages : are_stages 0 (map next_value nexts) ≡ true
    under : Each (Under n) nexts
    rooted : Each (IsRooted basis.rows) nexts

  under-values : (n : ℕ) (nexts : List NextKey) → Each (Under n) nexts → Each (λ (row : RowValue). row.desk < n) (map next_value nexts)
  under-values n [] all = tt
  under-values n (next ∷ nexts) all = (all.0, under-values n nexts all.1)

  first-staged : (n : ℕ) → AreOfFirst n (keys_of_first basis n)
  first-staged zero = record { stages = refl; under = tt; rooted = tt }
  first-staged (suc desk) =
      let before = first-staged desk in
      let here = at-staged desk in
      record {
        stages = ap (λ (l : List RowValue). are_stages 0 l) (map-append next_value (keys_of_first basis desk) (keys_at basis desk))
            ∙ stages-then 0 desk (map next_value (keys_of_first basis desk)) (map next_value (keys_at basis desk)) before.stages
            (under-values desk (keys_of_first basis desk) before.under) (omega arith) here.group;
        under = each-append (Under (suc desk)) (keys_of_first basis desk) (keys_at basis desk)
            (each-weaker (Under desk) (Under (suc desk)) (keys_of_first basis desk) (λ next less. omega (arith, less)) before.under)
            (group-under desk (keys_at basis desk) here.group);
        rooted = each-append (IsRooted basis.rows) (keys_of_first basis desk) (keys_at basis desk) before.rooted here.rooted;
      }

  pub next-rooted : Each (IsRooted basis.rows) (next_keys basis)
  next-rooted = (first-staged (length (names_of basis.configs))).rooted

  -- ---- the trust anchor's

  begins : (n : ℕ) → (more : List NextKey) × (keys_of_first basis (suc n) ≡ keys_at basis 0 ++ more)
  begins zero = ([], nil (keys_at basis 0))
    where
      nil : (l : List NextKey) → l ≡ l ++ []
      nil [] = refl
      nil (x ∷ l) = ap (λ (m : List NextKey). x ∷ m) (nil l)
  begins (suc n) =
      let before = begins n in
      (before.0 ++ keys_at basis (suc n), ap (λ (l : List NextKey). l ++ keys_at basis (suc n)) before.1 ∙ append_assoc (keys_at basis 0) before.0 (keys_at basis (suc n)))

  none-held : (set : Resources) → holds_nothing set ≡ true → has set Asn 0 ≡ false
  none-held set e =
      let p = and_parts (no_ranges set.asn.ranges && no_ranges set.v4.ranges) (no_ranges set.v6.ranges) e in
      let q = and_parts (no_ranges set.asn.ranges) (no_ranges set.v4.ranges) p.0 in
      by set.asn.ranges q.0 refl
    where
      by : (l : List Range) → no_ranges l ≡ true → set.asn.ranges ≡ l → has set Asn 0 ≡ false
      by [] none is = ap (λ (r : List Range). any_spans r 0) is
      by (r ∷ rest) none is = absurd (false≢true none)

  -- The trust anchor holds something.
  anchor-holds : (name : NameRow) (set : Resources) → AreCertified basis.configs basis.sets → slice_get (names_of basis.configs) 0 ≡ Some name → name.name ≡ codes "ta"
      → slice_get basis.sets 0 ≡ Some set → holds_nothing set ≡ false
  anchor-holds name set is named ta there = by (holds_nothing set) refl
    where
      zero-held : has set Asn 0 ≡ true
      zero-held =
          let a = first-of basis.sets set there in
          let b = first-of (names_of basis.configs) name named in
          ap (λ (s : Resources). has s Asn 0) (sym a.1)
          ∙ (is.members 0 name set a.0 Asn 0
          ∙ ap (λ (n : List ℕ). certified basis.configs most_parents n Asn 0) (ap (λ (row : NameRow). row.name) b.1 ∙ ta))

      by : (b : Bool) → holds_nothing set ≡ b → holds_nothing set ≡ false
      by true e = absurd (false≢true (sym (none-held set e) ∙ zero-held))
      by false e = e

  pub next-staged : (name : NameRow) → AreCertified basis.configs basis.sets → slice_get (names_of basis.configs) 0 ≡ Some name → name.name ≡ codes "ta"
      → Each (λ (row : RowValue). row.desk ≡ 0 → row.role ≡ Current) (map next_value (next_keys basis)) → are_staged (map next_value (next_keys basis)) ≡ true
  next-staged name is named ta current =
      let some = first-of (names_of basis.configs) name named in
      let count = one-more (length (names_of basis.configs)) some.0 in
      let set = at-first basis.sets (subst (λ (n : ℕ). 0 < n) (sym is.one_each) some.0) in
      let after = asked-staged 0 name in
      let holds = anchor-holds name set.0 is named ta set.1 in
      let here : keys_at basis 0 ≡ keys_after (asked_at basis 0 name) (row_of basis.rows 0 New) (row_of basis.rows 0 Current) (row_of basis.rows 0 Old) =
      (λ i. keys_of basis 0 (named i) (set.1 i))
      ∙ ap (λ (b : Bool). cond b [] (keys_after (asked_at basis 0 name) (row_of basis.rows 0 New) (row_of basis.rows 0 Current) (row_of basis.rows 0 Old))) holds in
      let front = begins count.0 in
      let tail = after.1.rest ++ front.0 in
      let whole : next_keys basis ≡ after.1.first ∷ tail =
      ap (keys_of_first basis) count.1 ∙ (front.1 ∙ ap (λ (l : List NextKey). l ++ front.0) (here ∙ after.1.is)) in
      subst (λ (l : List NextKey). are_staged (map next_value l) ≡ true) (sym whole)
      (staged-first (next_value after.1.first) (map next_value tail)
      (subst (λ (l : List NextKey). are_stages 0 (map next_value l) ≡ true) whole (first-staged (length (names_of basis.configs))).stages)
      (group-first after.1.first after.1.rest (subst (λ (l : List NextKey). IsGroup 0 (map next_value l)) after.1.is after.0.group))
      (subst (λ (l : List NextKey). Each (λ (row : RowValue). row.desk ≡ 0 → row.role ≡ Current) (map next_value l)) whole current))
