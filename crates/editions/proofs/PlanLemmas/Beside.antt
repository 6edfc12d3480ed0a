-- The keys of an edition beside the next ones that they are.
use Rattle.std.proofs.Common.{◌≡◌, ◌≢◌, Some, List, [], ◌∷◌, refl, sym, ap, subst, ◌∙◌, ◌⊎◌, inl, inr}
use Rattle.std.proofs.lemmas.Option.{same_Some}
use Rattle.key_ids.specs.declared.identifier.KeyId.{KeyId}
use Rattle.key_roll.specs.declared.rows.KeyRow.{KeyRow}
use Rattle.key_roll.specs.declared.rows.RevokedRow.{RevokedRow}
use Rattle.key_roll.specs.declared.work.KeyName.{KeyName}
use Rattle.key_roll.specs.declared.work.KeyName.TheVariants.{Live, Fresh}
use Rattle.key_roll.specs.declared.work.NewKey.{NewKey}
use Rattle.issue_keys.specs.Keys.{id_of}
use Rattle.issue_plan.specs.declared.keys.NextKey.{NextKey}
use Rattle.issue_plan.specs.Work.{new_key_by}
use Rattle.editions.specs.Keys.{IsNextBy, AreEach}
use Rattle.std.specs.List.{All}
use Rattle.editions.specs.inner.PlannedWork.{AreApart}
use Rattle.items.specs.laws.AmongLaws.{In, contains-in}
use Rattle.items.specs.laws.PairLaws.{Sides}
use Rattle.editions.proofs.PlanLemmas.There.{Names}
use Rattle.editions.proofs.PlanLemmas.Desks.{one-id}

-- The key is the live one of that name, or no live one.
abbrev pub IsNamed : List KeyRow → KeyRow → KeyName → Type 0
IsNamed rows key (Live id) = id.bytes ≡ id_of key
IsNamed rows key (Fresh desk) = All (λ live. id_of live ≢ id_of key) rows

pub record IsBeside (rows : List KeyRow) (next : NextKey) (key : KeyRow) : Type 0 where
  pub desk : key.desk ≡ next.desk
  pub role : key.role ≡ next.role
  pub named : IsNamed rows key next.name
  pub entries : (r : RevokedRow) → In r key.revoked → (row : KeyRow) × In row rows × In r row.revoked
  pub dated : ((row : KeyRow) × In row rows × (key.this_update ≡ row.this_update)) ⊎ (key.this_update ≡ 0)

module _ (rows : List KeyRow) (apart : AreApart rows) where
  is-beside : (next : NextKey) (key : KeyRow) (name : KeyName) → next.name ≡ name → Names rows next.desk name
      → IsNextBy rows next name key → IsBeside rows next key
  is-beside next key (Live id) e named is =
      let ids : id_of named.0 ≡ id_of is.row = sym (ap (λ (i : KeyId). i.bytes) named.3) ∙ sym is.named in
      let one : named.0 ≡ is.row = one-id rows named.0 is.row apart named.1 (contains-in is.row rows is.live) ids in
      record {
        desk = ap (λ (r : KeyRow). r.desk) is.same ∙ (sym (ap (λ (r : KeyRow). r.desk) one) ∙ named.2);
        role = ap (λ (r : KeyRow). r.role) is.same;
        named = subst (IsNamed rows key) (sym e) (sym is.named ∙ sym (ap id_of is.same));
        entries = λ r here.
            (is.row, contains-in is.row rows is.live, subst (In r) (ap (λ (k : KeyRow). k.revoked) is.same) here);
        dated = inl (is.row, contains-in is.row rows is.live, ap (λ (k : KeyRow). k.this_update) is.same);
      }
  is-beside next key (Fresh desk) e named is =
      let asked : NewKey = record {
        desk = desk;
        signer = next.signer;
        role = next.role;
        since = next.since;
        done = next.done;
      } in
      let gives : Some asked ≡ Some is.made = ap (new_key_by next) (sym e) ∙ is.asked in
      let made : asked ≡ is.made = same_Some asked is.made gives in
      record {
        desk = ap (λ (r : KeyRow). r.desk) is.row ∙ (sym (ap (λ (n : NewKey). n.desk) made) ∙ named);
        role = ap (λ (r : KeyRow). r.role) is.row ∙ sym (ap (λ (n : NewKey). n.role) made);
        named = subst (IsNamed rows key) (sym e) is.apart;
        entries = λ r here. absurd (subst (In r) (ap (λ (k : KeyRow). k.revoked) is.row) here);
        dated = inr (ap (λ (k : KeyRow). k.this_update) is.row);
      }

  pub are-beside : (nexts : List NextKey) (keys : List KeyRow)
      → ((next : NextKey) → In next nexts → Names rows next.desk next.name) → AreEach rows nexts keys
      → Sides (IsBeside rows) nexts keys
  are-beside [] [] named each = tt
  are-beside [] (key ∷ keys) named each = absurd each
  are-beside (next ∷ nexts) [] named each = absurd each
  are-beside (next ∷ nexts) (key ∷ keys) named each = (
    is-beside next key next.name refl (named next (inl refl)) each.0,
    are-beside nexts keys (λ n at. named n (inr at)) each.1,
  )
