-- The keys of a planned work are of desks that have a name.
use Rattle.std.proofs.Common.{◌≡◌, ◌≢◌, ℕ, ◌<◌, suc, Bool, true, false, not, Option, None, Some, List, [], ◌∷◌, inl, inr, length, map, filter, refl, sym, ap, subst, ◌∙◌, arith}
use Rattle.std.specs.List.{All, slice_get}
use Rattle.std.specs.Option.{IfSome}
use Rattle.std.specs.Str.{bytes_eq}
use Rattle.std.proofs.lemmas.Bool.{false≢true}
use Rattle.std.proofs.lemmas.List.Elements.{All-map}
use Rattle.std.proofs.lemmas.Option.{slice_get_within, get_or_from_slice_get}
use Rattle.std.proofs.lemmas.Slice.Eq.{bytes_eq-Decides}
use Rattle.key_ids.specs.declared.identifier.KeyId.{KeyId}
use Rattle.authority_book.specs.declared.rows.NameRow.{NameRow}
use Rattle.entitle.specs.Certified.{names_of}
use Rattle.key_roll.specs.declared.rows.KeyRow.{KeyRow}
use Rattle.key_roll.specs.declared.work.NewKey.{NewKey}
use Rattle.key_roll.specs.declared.work.RoleWork.{RoleWork}
use Rattle.key_roll.specs.declared.work.KeyName.{KeyName}
use Rattle.key_roll.specs.declared.work.KeyName.TheVariants.{Live, Fresh}
use Rattle.issue_keys.specs.Keys.{id_of, is_dropped, with_role, role_of}
use Rattle.issue_drafts.specs.IssueInput.{IssueInput}
use Rattle.issue_plan.specs.declared.keys.NextKey.{NextKey}
use Rattle.issue_plan.specs.Keys as plan
use Rattle.issue_plan.specs.Keys.{next_keys}
use Rattle.issue_plan.specs.Wanted.{PlanInput}
use Rattle.issue_plan.specs.Keys.{is_live}
use Rattle.issue_plan.specs.Work.{IsWork, new_key_of, goes_on}
use Rattle.editions.specs.inner.PlannedWork.{AreApart, NamesAreOf, AreOfDesks}
use Rattle.items.specs.laws.AmongLaws.{In, in-map, in-filter, filter-in, all-given, all-in, in-all, any-in, in-any}
use Rattle.editions.proofs.PlanLemmas.NextKeys.{all-keys}
use Rattle.editions.proofs.PlanLemmas.There.{Names, all-named}

-- Two live keys with one identifier are one.
pub one-id : (rows : List KeyRow) (a b : KeyRow) → AreApart rows → In a rows → In b rows → id_of a ≡ id_of b → a ≡ b
one-id [] a b apart at there same = absurd at
one-id (x ∷ rows) a b apart (inl p) (inl q) same = sym p ∙ q
one-id (x ∷ rows) a b apart (inl p) (inr q) same =
    absurd (in-all (λ (y : KeyRow). id_of x ≢ id_of y) b rows (λ k d lt. apart 0 (suc k) d (omega arith) (omega arith)) q
    (ap id_of p ∙ same))
one-id (x ∷ rows) a b apart (inr p) (inl q) same =
    absurd (in-all (λ (y : KeyRow). id_of x ≢ id_of y) a rows (λ k d lt. apart 0 (suc k) d (omega arith) (omega arith)) p
    (ap id_of q ∙ sym same))
one-id (x ∷ rows) a b apart (inr p) (inr q) same =
    one-id rows a b (λ i j d low high. apart (suc i) (suc j) d (omega arith) (omega arith)) p q same

pub same-desk : (row : KeyRow) (r : Option RoleWork) → (with_role row r).desk ≡ row.desk
same-desk row None = refl
same-desk row (Some r) = refl

kept-off : (b : Bool) → not b ≡ true → b ≡ false
kept-off false e = refl
kept-off true e = absurd (false≢true e)

module _ (plan_input : PlanInput) (s : IssueInput) (signers : ℕ) (work : IsWork plan_input (next_keys plan_input.basis) s.work)
    (apart : AreApart plan_input.basis.rows) (of : NamesAreOf plan_input.basis s.names signers) where
  low : (desk : ℕ) (name : NameRow) → slice_get (names_of plan_input.basis.configs) desk ≡ Some name → desk < length s.names
  low desk name at =
      subst (λ (l : List NameRow). desk < length l) (sym of.same) (slice_get_within (names_of plan_input.basis.configs) desk name at)

  there : (desk : ℕ) (name : NameRow) → slice_get (names_of plan_input.basis.configs) desk ≡ Some name → name.signer < signers
  there desk name at =
      let here : slice_get s.names desk ≡ Some name = ap (λ (l : List NameRow). slice_get l desk) of.same ∙ at in
      subst (λ (n : NameRow). n.signer < signers) (get_or_from_slice_get s.names desk name name here) (of.there desk name (low desk name at))

  abbrev CanBeMade : NewKey → Type 0
  CanBeMade new = (new.signer < signers) × (new.desk < length s.names)

  new-keys : All CanBeMade s.work.new_keys
  new-keys =
      subst (All CanBeMade) (sym work.new_keys)
      (all-given CanBeMade new_key_of (next_keys plan_input.basis)
      (λ k at. in-all (λ (key : NextKey). IfSome (new_key_of key) CanBeMade) k (next_keys plan_input.basis)
      (all-keys plan_input.basis (λ (key : NextKey). IfSome (new_key_of key) CanBeMade)
      (λ desk name here role since done. (there desk name here.named, low desk name here.named))
      (λ desk name here row is. tt) (λ desk name here row is role since done. tt)) at))

  key-desks : All (λ (k : NextKey). k.desk < length s.names) (next_keys plan_input.basis)
  key-desks =
      all-keys plan_input.basis (λ (k : NextKey). k.desk < length s.names) (λ desk name here role since done. low desk name here.named)
      (λ desk name here row is. subst (λ (d : ℕ). d < length s.names) (sym is.1) (low desk name here.named))
      (λ desk name here row is role since done. subst (λ (d : ℕ). d < length s.names) (sym is.1) (low desk name here.named))

  -- A live key that isn't dropped goes on, and so its desk has a name.
  on : (row : KeyRow) → In row plan_input.basis.rows → is_dropped s.work.dropped row ≡ false
      → goes_on (next_keys plan_input.basis) (plan.id_of row) ≡ true
  on row at stays = by (goes_on (next_keys plan_input.basis) (plan.id_of row)) refl
    where
      by : (b : Bool) → goes_on (next_keys plan_input.basis) (plan.id_of row) ≡ b → b ≡ true
      by true e = refl
      by false e =
          let here : In (plan.id_of row) s.work.dropped =
          subst (In (plan.id_of row)) (sym work.dropped)
          (in-filter (λ (id : KeyId). not (goes_on (next_keys plan_input.basis) id)) (plan.id_of row) (map plan.id_of plan_input.basis.rows)
          (ap not e) (in-map plan.id_of row plan_input.basis.rows at)) in
          let yes : is_dropped s.work.dropped row ≡ true =
          any-in (λ (id : KeyId). bytes_eq id.bytes (id_of row)) s.work.dropped (plan.id_of row) here
          ((bytes_eq-Decides (id_of row) (id_of row)).1 refl) in
          sym stays ∙ yes

  desk-low : (row : KeyRow) → In row plan_input.basis.rows → goes_on (next_keys plan_input.basis) (plan.id_of row) ≡ true
      → row.desk < length s.names
  desk-low row at goes =
      let w = in-any (λ (k : NextKey). is_live (plan.id_of row) k.name) (next_keys plan_input.basis) goes in
      let less : w.0.desk < length s.names =
      in-all (λ (k : NextKey). k.desk < length s.names) w.0 (next_keys plan_input.basis) key-desks w.1 in
      by w.0.name w.0.desk
      (in-all (λ (k : NextKey). Names plan_input.basis.rows k.desk k.name) w.0 (next_keys plan_input.basis) (all-named plan_input.basis) w.1)
      w.2 less
    where
      by : (name : KeyName) (desk : ℕ) → Names plan_input.basis.rows desk name → is_live (plan.id_of row) name ≡ true → desk < length s.names
          → row.desk < length s.names
      by (Live id) desk h live less =
          let same : id_of h.0 ≡ id_of row =
          sym (ap (λ (i : KeyId). i.bytes) h.3) ∙ (bytes_eq-Decides id.bytes (id_of row)).0 live in
          let one : h.0 ≡ row = one-id plan_input.basis.rows h.0 row apart h.1 at same in
          subst (λ (d : ℕ). d < length s.names) (sym h.2 ∙ ap (λ (r : KeyRow). r.desk) one) less
      by (Fresh other) desk h live less = absurd (false≢true live)

  pub are-of-desks : AreOfDesks s plan_input.basis.rows signers
  are-of-desks = record {
    new_signers = λ k d lt. (new-keys k d lt).0;
    new_desks = λ k d lt. (new-keys k d lt).1;
    desks = All-map (λ (row : KeyRow). row.desk < length s.names) (λ (row : KeyRow). with_role row (role_of s.work.roles row))
        (filter (λ (row : KeyRow). not (is_dropped s.work.dropped row)) plan_input.basis.rows)
        (all-in (λ (row : KeyRow). (with_role row (role_of s.work.roles row)).desk < length s.names)
        (filter (λ (row : KeyRow). not (is_dropped s.work.dropped row)) plan_input.basis.rows)
        (λ row at.
        let h = filter-in (λ (r : KeyRow). not (is_dropped s.work.dropped r)) row plan_input.basis.rows at in
        subst (λ (d : ℕ). d < length s.names) (sym (same-desk row (role_of s.work.roles row)))
        (desk-low row h.0 (on row h.0 (kept-off (is_dropped s.work.dropped row) h.1)))));
  }
