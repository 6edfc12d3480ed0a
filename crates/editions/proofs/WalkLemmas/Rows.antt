-- The live keys that editions leave, and those of the last one.
use Rattle.std.proofs.Common.{◌≡◌, ◌≢◌, ℕ, ◌==◌, ◌&&◌, ◌+◌, zero, suc, ◌<◌, Bool, true, false, cond, Option, Some, List, [], ◌∷◌, ◌++◌, length, map, take, option_map, slice_get, get_or, All, AllPairs, refl, sym, ap, ap₂, subst, ◌∙◌, arith, ◌⊎◌, inl, inr}
use Rattle.std.proofs.lemmas.List.{length-map, append-nil}
use Rattle.std.proofs.Math.Seq.{take-append_seam}
use Rattle.res_sets.specs.declared.holdings.Resources.{Resources}
use Rattle.authority_book.specs.Settings.{Settings}
use Rattle.entitle.specs.Certified.{names_of}
use Rattle.key_roll.specs.declared.rows.KeyRow.{KeyRow}
use Rattle.key_roll.specs.declared.rows.Role.{Role}
use Rattle.key_roll.specs.declared.rows.Role.TheVariants.{Current}
use Rattle.issue_keys.specs.Keys.{id_of}
use Rattle.issue_drafts.specs.Drafts.{serial_behind}
use Rattle.issue_sign.specs.Objects.{Entries, number_of}
use Rattle.issue_plan.specs.Keys.{row_of}
use Rattle.key_roll.specs.Roles.{is_role}
use Rattle.issue_plan.specs.Wanted.{PlanInput}
use Rattle.editions.specs.Edition.{Edition, State, first_state, after_edition, state_from, state_after, set_after}
use Rattle.editions.specs.Wanted.{new_objects, keeps_point}
use Rattle.editions.specs.Objects.{Issuance}
use Rattle.editions.specs.Step.{Premises, IsStep, AreSteps, plan_input_at, counted, configs_at}
use Rattle.editions.specs.Names.{AreTree}
use Rattle.editions.specs.inner.KeyTree.{HasIssuer, IsInTree, AreOfTree}
use Rattle.items.specs.laws.AmongLaws.{all-in, map-in}
use Rattle.editions.proofs.WalkLemmas.KeyTree.{in-tree}

-- What an edition that is a step is made of.
abbrev pub issuance : (premises : Premises) (clock : ℕ) (editions : List Edition) (edition : Edition)
    → IsStep premises clock editions edition → Issuance
issuance premises clock editions edition step = record {
  vouched = premises.vouched;
  plan_input = plan_input_at premises (state_after editions) edition step.sets step.owed step.issued;
  keys = step.made.keys;
  entries = step.made.entries;
  old = set_after editions;
  new = set_after (editions ++ edition ∷ []);
}

abbrev AreApart : List KeyRow → Type 0
AreApart rows = AllPairs (λ a b. id_of a ≢ id_of b) rows

-- ---- where rows come from

-- They are those of one of the editions.
record AreOf (editions : List Edition) (rows : List KeyRow) : Type 0 where
  position : ℕ
  edition : Edition
  there : slice_get editions position ≡ Some edition
  same : rows ≡ edition.rows

rows-from : (state : State) (editions : List Edition)
    → ((state_from state editions).rows ≡ state.rows) ⊎ AreOf editions (state_from state editions).rows
rows-from state [] = inl refl
rows-from state (edition ∷ rest) = elim (rows-from (after_edition state edition) rest) [
  | inl same ↦ inr (record { position = 0; edition = edition; there = refl; same = same })
  | inr of ↦ inr (record {
    position = suc of.position;
    edition = of.edition;
    there = of.there;
    same = of.same;
  })
]

there-longer : (editions later : List Edition) (position : ℕ) (edition : Edition)
    → slice_get editions position ≡ Some edition → slice_get (editions ++ later) position ≡ Some edition
there-longer [] later position edition there = absurd cc
there-longer (first ∷ rest) later zero edition there = there
there-longer (first ∷ rest) later (suc position) edition there =
    there-longer rest later position edition there

-- ---- what an edition counts

module _ (plan_input : PlanInput) (keys : List KeyRow) (entries : Entries) where
  abbrev after : KeyRow → KeyRow
  after = counted plan_input keys entries

  abbrev kept_on : KeyRow → KeyRow
  kept_on key = record key { next_serial = serial_behind (new_objects plan_input keys) key }

  abbrev pointed_anew : KeyRow → KeyRow
  pointed_anew key = record key {
    next_serial = serial_behind (new_objects plan_input keys) key + 1;
    number = number_of key;
    this_update = plan_input.basis.moment;
    revoked = entries key;
  }

  -- What both have the row has that it leaves.
  left-by : {X : Type 0} (f : KeyRow → X) (b : Bool) (row : KeyRow) → f (kept_on row) ≡ f row → f (pointed_anew row) ≡ f row
      → f (cond b (kept_on row) (pointed_anew row)) ≡ f row
  left-by f true row one two = one
  left-by f false row one two = two

  -- It leaves the identifier, the desk and the role.
  same-id : (row : KeyRow) → id_of (after row) ≡ id_of row
  same-id row = left-by id_of (keeps_point plan_input keys row) row refl refl

  pub same-desk : (row : KeyRow) → (after row).desk ≡ row.desk
  same-desk row = left-by (λ (k : KeyRow). k.desk) (keeps_point plan_input keys row) row refl refl

  same-role : (row : KeyRow) → (after row).role ≡ row.role
  same-role row = left-by (λ (k : KeyRow). k.role) (keeps_point plan_input keys row) row refl refl

  id-at : (rows : List KeyRow) (i : ℕ) (d : KeyRow) → i < length rows
      → id_of (get_or (map after rows) i d) ≡ id_of (get_or rows i d)
  id-at [] i d inside = absurd (omega (arith, inside))
  id-at (row ∷ rows) zero d inside = same-id row
  id-at (row ∷ rows) (suc i) d inside = id-at rows i d (omega (arith, inside))

  counted-apart : (rows : List KeyRow) → AreApart rows → AreApart (map after rows)
  counted-apart rows apart = λ i j d less inside same.
      let long = length-map rows after in
      let second : j < length rows = omega (arith, inside, long) in
      apart i j d less second
      (sym (id-at rows i d (omega (arith, less, second))) ∙ (same ∙ id-at rows j d second))

  pub current-kept : (rows : List KeyRow) (desk : ℕ)
      → row_of (map after rows) desk Current ≡ option_map after (row_of rows desk Current)
  current-kept [] desk = refl
  current-kept (row ∷ rows) desk =
      ap₂ (λ (b : Bool) (o : Option KeyRow). cond b (Some (after row)) o)
      (ap₂ (λ (d : ℕ) (r : Role). (d == desk) && is_role r Current) (same-desk row) (same-role row)) (current-kept rows desk)
      ∙ by ((row.desk == desk) && is_role row.role Current) (row_of rows desk Current) row
    where
      by : (b : Bool) (o : Option KeyRow) (row : KeyRow)
          → cond b (Some (after row)) (option_map after o) ≡ option_map after (cond b (Some row) o)
      by true o row = refl
      by false o row = refl

-- ---- of a step

pub step-apart : (premises : Premises) (clock : ℕ) (before : List Edition) (edition : Edition)
    → IsStep premises clock before edition → AreApart edition.rows
step-apart premises clock before edition step =
    let m : PlanInput = plan_input_at premises (state_after before) edition step.sets step.owed
    step.issued in
    subst AreApart (sym step.made.rows)
    (counted-apart m step.made.keys step.made.entries step.made.keys step.made.next.apart)

by-steps : (premises : Premises) (editions later : List Edition) → AreSteps premises (editions ++ later)
    → AreApart (state_after editions).rows
by-steps premises editions later steps = elim (rows-from first_state editions) [
  | inl none ↦ subst AreApart (sym none) (λ i j d less inside. absurd (omega (arith, inside)))
  | inr of ↦
      let step = steps of.position of.edition (there-longer editions later of.position of.edition of.there) in
      subst AreApart (sym of.same)
      (step-apart premises step.0 (take of.position (editions ++ later)) of.edition step.1)
]

pub live-apart : (premises : Premises) (editions : List Edition) → AreSteps premises editions
    → AreApart (state_after editions).rows
live-apart premises editions steps =
    by-steps premises editions [] (subst (AreSteps premises) (sym (append-nil editions)) steps)

pub rows-apart : (premises : Premises) (editions : List Edition) (edition : Edition)
    → AreSteps premises (editions ++ edition ∷ []) → AreApart (state_after editions).rows
rows-apart premises editions edition steps = by-steps premises editions (edition ∷ []) steps

-- ---- the last one

seam : (editions : List Edition) (edition : Edition)
    → slice_get (editions ++ edition ∷ []) (length editions) ≡ Some edition
seam [] edition = refl
seam (first ∷ rest) edition = seam rest edition

pub last-step : (premises : Premises) (editions : List Edition) (edition : Edition)
    → AreSteps premises (editions ++ edition ∷ []) → (clock : ℕ) × IsStep premises clock editions edition
last-step premises editions edition steps =
    let step = steps (length editions) edition (seam editions edition) in (
      step.0,
      subst (λ (before : List Edition). IsStep premises step.0 before edition)
          (take-append_seam editions (edition ∷ [])) step.1,
    )

-- A key is in the tree by its desk.
in-tree-at : (configs : List Settings) (sets : List Resources) (keys : List KeyRow) (key other : KeyRow) → other.desk ≡ key.desk
    → IsInTree configs sets keys key → IsInTree configs sets keys other
in-tree-at configs sets keys key other same is = record {
  name = is.name;
  is = record {
    named = ap (slice_get (names_of configs)) same ∙ is.is.named;
    set = is.is.set;
    has = ap (slice_get sets) same ∙ is.is.has;
    some = is.is.some;
  };
  level = is.level;
  within = is.within;
  at = is.at;
  issuer = λ below. subst (λ (d : ℕ). HasIssuer configs sets keys d is.is.set is.level) (sym same)
      (is.issuer (λ zero. below (same ∙ zero)));
}

pub of-tree : (premises : Premises) (editions : List Edition) (edition : Edition)
    → AreSteps premises (editions ++ edition ∷ [])
    → AreTree (names_of (configs_at premises.lists edition.cut))
    → AreOfTree (configs_at premises.lists edition.cut) edition.rows
of-tree premises editions edition steps tree =
    let last = last-step premises editions edition steps in
    let step = last.1 in
    let m : PlanInput = plan_input_at premises (state_after editions) edition step.sets step.owed
    step.issued in
    let keys : List KeyRow = step.made.keys in
    let rows : List KeyRow = map (counted m keys step.made.entries) keys in
    record {
      sets = step.sets;
      certified = step.made.certified;
      each = subst (λ (l : List KeyRow). All (IsInTree m.basis.configs step.sets l) l)
          (sym step.made.rows)
          (all-in (IsInTree m.basis.configs step.sets rows) rows (λ row at.
          let k = map-in (counted m keys step.made.entries) row keys at in
          let is : IsInTree m.basis.configs step.sets keys k.0 =
          in-tree m.basis keys tree step.made.certified (rows-apart premises editions edition steps)
          step.made.next k.0 k.1 in
          let of-rows : (desk level : ℕ) (set : Resources)
          → HasIssuer m.basis.configs step.sets keys desk set level
          → HasIssuer m.basis.configs step.sets rows desk set level =
          λ desk level set has. record {
            above = has.above;
            parent = has.parent;
            parents_name = has.parents_name;
            is = has.is;
            issuer = counted m keys step.made.entries has.issuer;
            current = current-kept m keys step.made.entries keys has.above
                ∙ ap (option_map (counted m keys step.made.entries)) has.current;
            higher = has.higher;
            below = has.below;
            at = has.at;
            inside = has.inside;
          } in
          subst (IsInTree m.basis.configs step.sets rows) k.2
          (in-tree-at m.basis.configs step.sets rows k.0 (counted m keys step.made.entries k.0)
          (same-desk m keys step.made.entries k.0) (record {
            name = is.name;
            is = is.is;
            level = is.level;
            within = is.within;
            at = is.at;
            issuer = λ other. of-rows k.0.desk is.level is.is.set (is.issuer other);
          }))));
    }
