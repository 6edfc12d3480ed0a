-- Each key that a planned work names is there, whichever keys are made for it.
use Rattle.std.proofs.Common.{◌≡◌, ℕ, Bool, true, false, not, cond, eqb, ◌&&◌, Option, None, Some, List, [], ◌∷◌, inl, inr, length, get_or, map, filter, find, refl, sym, ap, subst, ◌∙◌, arith}
use Rattle.std.specs.List.{All, slice_get}
use Rattle.std.specs.Option.{IfSome, option_map}
use Rattle.std.specs.Str.{bytes_eq}
use Rattle.std.proofs.lemmas.Bool.{false≢true, eq-eqb}
use Rattle.std.proofs.lemmas.List.Elements.{All-filter, All-map}
use Rattle.std.proofs.lemmas.Slice.Eq.{bytes_eq-Decides}
use Rattle.key_ids.specs.declared.identifier.KeyId.{KeyId}
use Rattle.signer_api.specs.declared.values.PublicKey.{PublicKey}
use Rattle.authority_book.specs.Settings.{Settings}
use Rattle.res_sets.specs.declared.holdings.Resources.{Resources}
use Rattle.entitle.specs.declared.trees.Owed.{Owed}
use Rattle.key_roll.specs.declared.rows.KeyRow.{KeyRow}
use Rattle.key_roll.specs.declared.rows.Role.TheVariants.{Current}
use Rattle.key_roll.specs.declared.work.NewKey.{NewKey}
use Rattle.key_roll.specs.declared.work.CertWork.{CertWork}
use Rattle.key_roll.specs.declared.work.RoaWork.{RoaWork}
use Rattle.key_roll.specs.declared.work.PointWork.{PointWork}
use Rattle.key_roll.specs.declared.work.KeyName.{KeyName}
use Rattle.key_roll.specs.declared.work.KeyName.TheVariants.{Live, Fresh}
use Rattle.issue_keys.specs.Keys.{id_of, is_dropped, with_role, role_of, fresh_row, fresh_rows}
use Rattle.issue_drafts.specs.WorkKeys.{Keys, all_keys}
use Rattle.issue_drafts.specs.IssueInput.{IssueInput}
use Rattle.issue_make.specs.Trace.{AreKeys}
use Rattle.issue_plan.specs.declared.keys.NextKey.{NextKey}
use Rattle.issue_plan.specs.Keys as plan
use Rattle.issue_plan.specs.Keys.{next_keys}
use Rattle.key_roll.specs.Roles.{is_role}
use Rattle.issue_plan.specs.Wanted.{PlanInput, Certificate, Roa, Point, current_of, current_at, parents_desk, issuer_of, certificate, certificate_of, roa_by, roa_of, point_of, wanted_certificates, wanted_roas, wanted_points}
use Rattle.issue_plan.specs.Keys.{is_live}
use Rattle.issue_plan.specs.Fits.{fits}
use Rattle.issue_plan.specs.Work.{IsWork, new_key_by, new_key_of, goes_on}
use Rattle.issue_make.specs.CanMake.{IsThere}
use Rattle.editions.specs.inner.PlannedWork.{AreThere}
use Rattle.items.specs.laws.AmongLaws.{In, in-front, in-map, in-filter, filter-in, in-filter-map, all-given, all-in, in-all, in-permuted, found-in, any-in, in-any, found-some}
use Rattle.editions.proofs.PlanLemmas.NextKeys.{all-keys}
use Rattle.issue_keys.specs.laws.KeyLaws.{same-id}

-- A live key of the desk, or one that is to be made for it.
abbrev pub Names : List KeyRow → ℕ → KeyName → Type 0
Names rows desk (Live id) = (row : KeyRow) × In row rows × (row.desk ≡ desk) × (id ≡ plan.id_of row)
Names rows desk (Fresh other) = other ≡ desk

pub all-named : (basis : plan.Basis) → All (λ k. Names basis.rows k.desk k.name) (next_keys basis)
all-named basis =
    all-keys basis (λ (k : NextKey). Names basis.rows k.desk k.name) (λ desk name at role since done. refl)
    (λ desk name at row of. (row, of.0, refl, refl)) (λ desk name at row of role since done. (row, of.0, refl, refl))

-- The name is one of these keys'.
abbrev pub IsNext : List NextKey → KeyName → Type 0
IsNext ks name = (k : NextKey) × In k ks × (k.name ≡ name)

-- A key that was made for each that is asked for.
fresh-has : (news : List NewKey) (keys : List PublicKey) (new : NewKey) → length keys ≡ length news → In new news
    → (row : KeyRow) × In row (fresh_rows news keys) × (row.desk ≡ new.desk)
fresh-has [] keys new each at = absurd at
fresh-has (n ∷ news) [] new each at = absurd (omega arith)
fresh-has (n ∷ news) (k ∷ keys) new each (inl same) = (fresh_row n k, inl refl, ap (λ (m : NewKey). m.desk) same)
fresh-has (n ∷ news) (k ∷ keys) new each (inr at) =
    let h = fresh-has news keys new (omega arith) at in (h.0, inr h.1, h.2)

module _ (plan_input : PlanInput) (s : IssueInput) (work : IsWork plan_input (next_keys plan_input.basis) s.work) where
  -- A live key that is among the next ones goes on.
  goes : (k : NextKey) (row : KeyRow) (id : KeyId) → In k (next_keys plan_input.basis) → k.name ≡ Live id → id ≡ plan.id_of row
      → goes_on (next_keys plan_input.basis) (plan.id_of row) ≡ true
  goes k row id at e same =
      any-in (λ (key : NextKey). is_live (plan.id_of row) key.name) (next_keys plan_input.basis) k at
      (ap (is_live (plan.id_of row)) e ∙ (bytes_eq-Decides id.bytes (id_of row)).1 (ap (λ (i : KeyId). i.bytes) same))

  pub stays : (row : KeyRow) → goes_on (next_keys plan_input.basis) (plan.id_of row) ≡ true → is_dropped s.work.dropped row ≡ false
  stays row on = by (is_dropped s.work.dropped row) refl
    where
      by : (b : Bool) → is_dropped s.work.dropped row ≡ b → b ≡ false
      by false e = refl
      by true e =
          let w = in-any (λ (id : KeyId). bytes_eq id.bytes (id_of row)) s.work.dropped e in
          let at : In w.0 (filter (λ (id : KeyId). not (goes_on (next_keys plan_input.basis) id)) (map plan.id_of plan_input.basis.rows)) =
          subst (λ (l : List KeyId). In w.0 l) work.dropped w.1 in
          let off : not (goes_on (next_keys plan_input.basis) w.0) ≡ true =
          (filter-in (λ (id : KeyId). not (goes_on (next_keys plan_input.basis) id)) w.0 (map plan.id_of plan_input.basis.rows) at).1 in
          let same : w.0.bytes ≡ id_of row = (bytes_eq-Decides w.0.bytes (id_of row)).0 w.2 in
          let yes : goes_on (next_keys plan_input.basis) w.0 ≡ true =
          ap (λ (b : List ℕ). goes_on (next_keys plan_input.basis) (record { bytes = b })) same ∙ on in
          absurd (false≢true (sym (ap not yes) ∙ off))

  current-next : (desk : ℕ) → IfSome (current_of (next_keys plan_input.basis) desk) (IsNext (next_keys plan_input.basis))
  current-next desk = by (find (λ (k : NextKey). eqb k.desk desk && is_role k.role Current) (next_keys plan_input.basis)) refl
    where
      by : (o : Option NextKey) → find (λ (k : NextKey). eqb k.desk desk && is_role k.role Current) (next_keys plan_input.basis) ≡ o
          → IfSome (option_map (λ (k : NextKey). k.name) o) (IsNext (next_keys plan_input.basis))
      by None e = tt
      by (Some k) e =
          (k, (found-in (λ (key : NextKey). eqb key.desk desk && is_role key.role Current) (next_keys plan_input.basis) k e).0, refl)

  issuer-next : (configs : List Settings) (k : NextKey) → In k (next_keys plan_input.basis)
      → IfSome (issuer_of configs (next_keys plan_input.basis) k) (IsNext (next_keys plan_input.basis))
  issuer-next configs k at = by (eqb k.desk 0) (parents_desk configs k.desk)
    where
      by : (b : Bool) (o : Option ℕ)
          → IfSome (cond b (Some k.name) (current_at (next_keys plan_input.basis) o)) (IsNext (next_keys plan_input.basis))
      by true o = (k, at, refl)
      by false None = tt
      by false (Some desk) = current-next desk

  abbrev CertNext : CertWork → Type 0
  CertNext cert = IsNext (next_keys plan_input.basis) cert.subject × IsNext (next_keys plan_input.basis) cert.issuer

  cert-next : (configs : List Settings) (sets : List Resources) (k : NextKey) → In k (next_keys plan_input.basis)
      → IfSome (certificate_of configs sets (next_keys plan_input.basis) k) CertNext
  cert-next configs sets k at =
      by (issuer_of configs (next_keys plan_input.basis) k) (slice_get sets k.desk) (issuer-next configs k at)
    where
      by : (o : Option KeyName) (set : Option Resources) → IfSome o (IsNext (next_keys plan_input.basis))
          → IfSome (certificate k.name o set) CertNext
      by None set h = tt
      by (Some issuer) None h = tt
      by (Some issuer) (Some set) h = ((k, at, refl), h)

  pub certs-next : All CertNext s.work.certs
  certs-next =
      subst (All CertNext) (sym work.certs)
      (All-filter (λ (w : CertWork). not (fits plan_input (Certificate w))) CertNext
      (wanted_certificates plan_input.basis.configs plan_input.basis.sets (next_keys plan_input.basis))
      (all-given CertNext (certificate_of plan_input.basis.configs plan_input.basis.sets (next_keys plan_input.basis)) (next_keys plan_input.basis)
      (cert-next plan_input.basis.configs plan_input.basis.sets)))

  roa-next : (owed : Owed) → IfSome (roa_of (next_keys plan_input.basis) owed) (λ roa. IsNext (next_keys plan_input.basis) roa.issuer)
  roa-next owed = by (current_of (next_keys plan_input.basis) owed.desk) (current-next owed.desk)
    where
      by : (o : Option KeyName) → IfSome o (IsNext (next_keys plan_input.basis))
          → IfSome (roa_by owed o) (λ (roa : RoaWork). IsNext (next_keys plan_input.basis) roa.issuer)
      by None h = tt
      by (Some issuer) h = h

  pub roas-next : All (λ (roa : RoaWork). IsNext (next_keys plan_input.basis) roa.issuer) s.work.roas
  roas-next =
      subst (All (λ (roa : RoaWork). IsNext (next_keys plan_input.basis) roa.issuer)) (sym work.roas)
      (All-filter (λ (w : RoaWork). not (fits plan_input (Roa w))) (λ (roa : RoaWork). IsNext (next_keys plan_input.basis) roa.issuer)
      (wanted_roas (next_keys plan_input.basis) plan_input.owed)
      (all-given (λ (roa : RoaWork). IsNext (next_keys plan_input.basis) roa.issuer) (roa_of (next_keys plan_input.basis)) plan_input.owed
      (λ owed at. roa-next owed)))

  pub points-next : All (λ (point : PointWork). IsNext (next_keys plan_input.basis) point.key) s.work.points
  points-next =
      subst (All (λ (point : PointWork). IsNext (next_keys plan_input.basis) point.key)) (sym work.points)
      (All-filter (λ (w : PointWork). not (fits plan_input (Point w))) (λ (point : PointWork). IsNext (next_keys plan_input.basis) point.key)
      (wanted_points (next_keys plan_input.basis))
      (All-map (λ (point : PointWork). IsNext (next_keys plan_input.basis) point.key) point_of (next_keys plan_input.basis)
      (all-in (λ (k : NextKey). IsNext (next_keys plan_input.basis) k.name) (next_keys plan_input.basis) (λ k at. (k, at, refl)))))

  module _ (keys : Keys) (are : AreKeys s plan_input.basis.rows keys) where
    live-there : (row : KeyRow) (id : KeyId) → In row plan_input.basis.rows → goes_on (next_keys plan_input.basis) (plan.id_of row) ≡ true
        → id ≡ plan.id_of row → IsThere keys (Live id)
    live-there row id at on same =
        let kept : KeyRow = with_role row (role_of s.work.roles row) in
        let there : In kept keys.kept =
        subst (In kept) (sym are.kept)
        (in-map (λ (r : KeyRow). with_role r (role_of s.work.roles r)) row (filter (λ (r : KeyRow). not (is_dropped s.work.dropped r)) plan_input.basis.rows)
        (in-filter (λ (r : KeyRow). not (is_dropped s.work.dropped r)) row plan_input.basis.rows (ap not (stays row on)) at)) in
        found-some (λ (r : KeyRow). bytes_eq (id_of r) id.bytes) (all_keys keys) kept (in-front kept keys.kept keys.fresh there)
        ((bytes_eq-Decides (id_of kept) id.bytes).1 (same-id row (role_of s.work.roles row) ∙ sym (ap (λ (i : KeyId). i.bytes) same)))

    fresh-there : (k : NextKey) (desk : ℕ) → In k (next_keys plan_input.basis) → k.name ≡ Fresh desk → IsThere keys (Fresh desk)
    fresh-there k desk at e =
        let new : NewKey = record { desk = desk; signer = k.signer; role = k.role; since = k.since; done = k.done } in
        let given : new_key_of k ≡ Some new = ap (λ (name : KeyName). new_key_by k name) e in
        let asked : In new s.work.new_keys =
        subst (In new) (sym work.new_keys) (in-filter-map new_key_of k new (next_keys plan_input.basis) given at) in
        let h = fresh-has are.fresh.news are.fresh.keys new are.fresh.each
        (in-permuted new s.work.new_keys are.fresh.news are.fresh.by_desk.permutation asked) in
        found-some (λ (r : KeyRow). eqb r.desk desk) keys.fresh h.0 (subst (In h.0) (sym are.fresh.rows) h.1) (eq-eqb h.0.desk desk h.2)

    pub there : (k : NextKey) → In k (next_keys plan_input.basis) → IsThere keys k.name
    there k at =
        by k.name refl (in-all (λ (key : NextKey). Names plan_input.basis.rows key.desk key.name) k (next_keys plan_input.basis) (all-named plan_input.basis) at)
      where
        by : (name : KeyName) → k.name ≡ name → Names plan_input.basis.rows k.desk name → IsThere keys name
        by (Live id) e h = live-there h.0 id h.1 (goes k h.0 id at e h.3) h.3
        by (Fresh desk) e h = fresh-there k desk at e

    named-there : (name : KeyName) → IsNext (next_keys plan_input.basis) name → IsThere keys name
    named-there name h = subst (IsThere keys) h.2 (there h.0 h.1)

    pub are-there : AreThere s keys
    are-there = record {
      subjects = λ k d lt. named-there (get_or s.work.certs k d).subject (certs-next k d lt).0;
      issuers = λ k d lt. named-there (get_or s.work.certs k d).issuer (certs-next k d lt).1;
      roas = λ k d lt. named-there (get_or s.work.roas k d).issuer (roas-next k d lt);
      points = λ k d lt. named-there (get_or s.work.points k d).key (points-next k d lt);
    }
