-- The keys that the making of a planned work leaves are those of stages.
use Rattle.std.proofs.Common.{◌≡◌, ◌≢◌, ℕ, zero, suc, ◌+◌, ◌&&◌, ◌==◌, Bool, true, false, cond, Some, List, [], ◌∷◌, map, codes, refl, sym, ap, subst, ◌∙◌, arith}
use Rattle.std.specs.Prelude.{All, AllPairs, nat_le}
use Rattle.std.proofs.lemmas.List.Elements.{All-head, All-tail}
use Rattle.items.specs.laws.PairLaws.{Each, twos-from, twos-same}
use Rattle.signer_api.specs.State.{SignerState}
use Rattle.key_ids.specs.declared.identifier.KeyId.{KeyId}
use Rattle.key_ids.specs.Uris.{Bases}
use Rattle.entitle.specs.Certified.{names_of}
use Rattle.key_roll.specs.declared.rows.KeyRow.{KeyRow}
use Rattle.key_roll.specs.declared.rows.Role.TheVariants.{New, Current}
use Rattle.key_roll.specs.declared.work.KeyName.{KeyName}
use Rattle.key_roll.specs.declared.work.KeyName.TheVariants.{Live, Fresh}
use Rattle.key_roll.specs.declared.work.NewKey.{NewKey}
use Rattle.key_roll.specs.declared.work.Work.{Work}
use Rattle.issue_plan.specs.declared.keys.NextKey.{NextKey}
use Rattle.issue_plan.specs.Keys.{Basis, row_of, next_keys}
use Rattle.issue_plan.specs.Wanted.{PlanInput}
use Rattle.issue_plan.specs.Work.{IsPlan, new_key_by}
use Rattle.issue_plan.specs.Work as plan
use Rattle.issue_keys.specs.Keys.{id_of, fresh_row}
use Rattle.issue_drafts.specs.WorkKeys.{Keys}
use Rattle.issue_drafts.specs.IssueInput.{IssueInput}
use Rattle.issue_drafts.specs.Revoking.{has_point}
use Rattle.issue_make.specs.declared.made.Made.{Made}
use Rattle.issue_make.specs.Trace.{IssuingTrace, AreKeys, row_after}
use Rattle.issue_make.specs.Made.{IsMade}
use Rattle.press_records.specs.Rows.{RowValue, row_value}
use Rattle.press_records.specs.Stages.{is_alone, are_two, are_stages, are_staged}
use Rattle.editions.specs.laws.RowLaws.{either_row, keeps}
use Rattle.editions.specs.Names.{AreTree}
use Rattle.editions.specs.Keys.{IsNextBy, AreEach}
use Rattle.editions.specs.PublishedState.{PublishedStateValue, IsConsistentState}
use Rattle.editions.specs.inner.PlanAndTable.{made_from, AreOfPlan}
use Rattle.editions.specs.inner.Following.{CanFollow, setting_over}
use Rattle.press_core.specs.Staged.{AreStaged, HasStages}
use Rattle.press_core.proofs.Following.{IsNamesLaw, tree-of}
use Rattle.press_core.proofs.Stages.{Agree, staged-agree}
use Rattle.press_core.proofs.NextStages.{next_value, IsRootedBy, IsRooted, AgreeAll, next-rooted, next-staged}

-- ---- what stages are told by

bare : RowValue → RowValue
bare row = record {
  desk = row.desk;
  signer = 0;
  role = row.role;
  key = [];
  next_serial = 0;
  number = 0;
  this_update = 0;
  since = row.since;
  done = row.done;
  revoked = [];
}

abbrev values : List KeyRow → List RowValue
values keys = map bare (map row_value keys)

bare-stages : (low : ℕ) (rows : List RowValue) → are_stages low (map bare rows) ≡ are_stages low rows
unfolding bare
bare-stages low [] = refl
bare-stages low (row ∷ []) = refl
bare-stages low (row ∷ other ∷ rows) = λ i.
    nat_le low row.desk && cond (row.desk == other.desk) (are_two row other && bare-stages (row.desk + 1) rows i)
    (is_alone row && bare-stages (row.desk + 1) (other ∷ rows) i)

bare-staged : (rows : List RowValue) → are_staged (map bare rows) ≡ are_staged rows
unfolding bare
bare-staged [] = refl
bare-staged (row ∷ rows) = ap (λ (b : Bool). ((row.desk == 0) && is_alone row) && b) (bare-stages 1 rows)

-- ---- the next keys, and those that are made of them

some-is : {X : Type 0} (a b : X) → Some a ≡ Some b → a ≡ b
some-is a b e = cc

abbrev AreApart : List KeyRow → Type 0
AreApart rows = AllPairs (λ a b. id_of a ≢ id_of b) rows

module _ (rows : List KeyRow) (apart : AreApart rows) where
  value-of : (next : NextKey) (name : KeyName) (key : KeyRow) → next.name ≡ name → IsRootedBy rows next name → IsNextBy rows next name key
      → bare (row_value key) ≡ next_value next
  unfolding bare
  value-of next (Live id) key named rooted on =
      let same : on.row ≡ rooted.0 = twos-same (λ (a b : KeyRow). id_of a ≢ id_of b) rows on.row rooted.0 (twos-from (λ (a b : KeyRow). id_of a ≢ id_of b) rows apart) on.live rooted.1
      (λ other. other (on.named ∙ ap (λ (k : KeyId). k.bytes) rooted.2))
      (λ other. other (sym (on.named ∙ ap (λ (k : KeyId). k.bytes) rooted.2))) in
      let desk : key.desk ≡ next.desk = ap (λ (k : KeyRow). k.desk) on.same ∙ (ap (λ (k : KeyRow). k.desk) same ∙ rooted.3) in
      λ i. record {
        desk = desk i;
        signer = 0;
        role = (on.same i).role;
        key = [];
        next_serial = 0;
        number = 0;
        this_update = 0;
        since = (on.same i).since;
        done = (on.same i).done;
        revoked = [];
      }
  value-of next (Fresh desk) key named rooted on =
      let made = some-is _ on.made (ap (new_key_by next) (sym named) ∙ on.asked) in
      let is : key ≡ fresh_row _ key.key = on.row ∙ ap (λ (n : NewKey). fresh_row n key.key) (sym made) in
      λ i. record {
        desk = (ap (λ (k : KeyRow). k.desk) is ∙ rooted) i;
        signer = 0;
        role = (is i).role;
        key = [];
        next_serial = 0;
        number = 0;
        this_update = 0;
        since = (is i).since;
        done = (is i).done;
        revoked = [];
      }

  values-of : (nexts : List NextKey) (keys : List KeyRow) → Each (IsRooted rows) nexts → AreEach rows nexts keys → values keys ≡ map next_value nexts
  values-of [] [] rooted each = refl
  values-of [] (key ∷ keys) rooted each = absurd each
  values-of (next ∷ nexts) [] rooted each = absurd each
  values-of (next ∷ nexts) (key ∷ keys) rooted each = λ i.
      value-of next next.name key refl rooted.0 each.0 i ∷ values-of nexts keys rooted.1 each.1 i

-- ---- their rows

module _ (s : IssueInput) (trace : IssuingTrace) where
  after-bare : (key : KeyRow) → bare (row_value (row_after s trace key)) ≡ bare (row_value key)
  unfolding bare
  after-bare key = by (has_point s trace.keys key)
    where
      by : (b : Bool) → bare (row_value (either_row s trace key b)) ≡ bare (row_value key)
      by true = refl
      by false = refl

  after-values : (keys : List KeyRow) → values (map (row_after s trace) keys) ≡ values keys
  after-values [] = refl
  after-values (key ∷ keys) = λ i. after-bare key i ∷ after-values keys i

-- ---- the keys before

found-none : (at : PublishedStateValue) → HasStages at → AgreeAll at.rows
found-none at stages = by at.serial refl
  where
    by : (n : ℕ) → at.serial ≡ n → AgreeAll at.rows
    by zero first desk = subst (λ (rows : List KeyRow). Agree (row_of rows desk New) (row_of rows desk Current)) (sym (stages.none first)) tt
    by (suc n) later desk = staged-agree at.rows desk (stages.staged (λ first. absurd (omega (arith, first, later))))

each-value : (rows : List KeyRow) → All (λ key. key.desk ≡ 0 → key.role ≡ Current) rows → Each (λ (row : RowValue). row.desk ≡ 0 → row.role ≡ Current) (values rows)
unfolding bare
each-value [] all = tt
each-value (row ∷ rows) all = (
  All-head (λ (key : KeyRow). key.desk ≡ 0 → key.role ≡ Current) row rows all,
  each-value rows (All-tail (λ (key : KeyRow). key.desk ≡ 0 → key.role ≡ Current) row rows all),
)

-- ---- the whole

-- The laws of the layers below.
pub record StageLaws : Type 0 where
  pub planned : (plan_input : PlanInput) (work : Work) (found : Keys) → AreApart plan_input.basis.rows → plan.IsWork plan_input (next_keys plan_input.basis) work
      → AreKeys (made_from plan_input work) plan_input.basis.rows found → AreOfPlan plan_input work found
  pub names : IsNamesLaw

pub made-staged : StageLaws → (at : PublishedStateValue) (site : Bases) (signers : ℕ) (basis : Basis) (work : Work) (old new : List SignerState) (made : Made)
    → IsConsistentState at → CanFollow at site signers basis → IsPlan basis at.issued site work → IsMade (setting_over basis at.issued site work) at.rows old new made
    → HasStages at → All (λ key. key.desk ≡ 0 → key.role ≡ Current) made.rows → AreStaged made.rows
made-staged laws at site signers basis work old new made kept follow is_plan is stages anchor =
    let plan_input : PlanInput = record { basis = basis; owed = is_plan.0; issued = at.issued; site = site } in
    let s = setting_over basis at.issued site work in
    let apart : AreApart basis.rows = subst AreApart (sym follow.rows) kept.live.apart in
    let keys : AreKeys s basis.rows is.trace.keys = subst (λ (rows : List KeyRow). AreKeys s rows is.trace.keys) (sym follow.rows) is.is_trace.keys in
    let of_plan = laws.planned plan_input work is.trace.keys apart is_plan.2 keys in
    let rows = of_plan.ordered (row_after s is.trace) (keeps s is.trace) made.rows is.rows is.sorted in
    let agree : AgreeAll basis.rows = subst AgreeAll (sym follow.rows) (found-none at stages) in
    let tree : AreTree (names_of basis.configs) = tree-of laws.names basis.configs follow.cut follow.configs follow.taken in
    let same : values made.rows ≡ map next_value (next_keys basis) =
    ap values rows ∙ (after-values s is.trace of_plan.keys
    ∙ values-of basis.rows apart (next_keys basis) of_plan.keys (next-rooted basis agree) of_plan.next.each) in
    let current = subst (Each (λ (row : RowValue). row.desk ≡ 0 → row.role ≡ Current)) same (each-value made.rows anchor) in
    sym (bare-staged (map row_value made.rows))
    ∙ (ap are_staged same ∙ next-staged basis agree (record { name = codes "ta"; signer = 0 }) follow.certified tree.anchor refl current)
