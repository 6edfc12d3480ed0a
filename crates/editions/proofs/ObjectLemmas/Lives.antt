-- A key is the same in all its life: its bytes, its authority and its signer.
use Rattle.std.proofs.Common.{◌≡◌, ◌≢◌, ℕ, suc, zero, ◌+◌, ◌≤◌, Bool, true, false, cond, Some, List, [], ◌∷◌, take, All, refl, sym, ap, subst, ◌∙◌, arith, ◌⊎◌, inl, inr}
use Rattle.std.specs.Prelude.{Contains, slice_get}
use Rattle.std.proofs.lemmas.Bool.{cases_eq}
use Rattle.std.proofs.lemmas.Option.{same_Some}
use Rattle.std.proofs.lemmas.List.Elements.{All-contains}
use Rattle.sha1.specs.Sha1.{sha1}
use Rattle.signer_api.specs.declared.values.PublicKey.{PublicKey}
use Rattle.key_roll.specs.declared.rows.KeyRow.{KeyRow}
use Rattle.key_roll.specs.declared.work.KeyName.{KeyName}
use Rattle.key_roll.specs.declared.work.KeyName.TheVariants.{Live, Fresh}
use Rattle.issue_plan.specs.declared.keys.NextKey.{NextKey}
use Rattle.issue_plan.specs.Keys.{next_keys}
use Rattle.issue_keys.specs.Keys.{id_of}
use Rattle.issue_drafts.specs.Drafts.{serial_behind}
use Rattle.issue_sign.specs.Objects.{number_of}
use Rattle.editions.specs.Edition.{Edition, state_after, IsInLife}
use Rattle.editions.specs.Keys.{IsNextBy, AreEach}
use Rattle.editions.specs.Wanted.{new_objects, keeps_point}
use Rattle.editions.specs.Objects.{Issuance}
use Rattle.editions.specs.Step.{Premises, AreSteps, counted}
use Rattle.editions.specs.MadeIn.{IsSameKey}
use Rattle.items.specs.laws.ElementLaws.{none, first-or-rest}
use Rattle.editions.proofs.ObjectLemmas.Views.{row-key, same-key, live-row}
use Rattle.editions.proofs.ObjectLemmas.History.{there-is, rows-before, shorter, seen}

same-itself : (row : KeyRow) → IsSameKey row row
same-itself row = record { key = refl; desk = refl; signer = refl }

pub same-then : (a b c : KeyRow) → IsSameKey a b → IsSameKey b c → IsSameKey a c
same-then a b c one two = record {
  key = two.key ∙ one.key;
  desk = two.desk ∙ one.desk;
  signer = two.signer ∙ one.signer;
}

pub id-same : (one other : KeyRow) → IsSameKey one other → id_of other ≡ id_of one
id-same one other same = ap (λ (key : PublicKey). sha1 key.bytes) same.key

-- ---- one edition

counted-by : (b : Bool) (key one two : KeyRow) → IsSameKey key one → IsSameKey key two → IsSameKey key (cond b one two)
counted-by true key one two first second = first
counted-by false key one two first second = second

pub counted-same : (m : Issuance) (key : KeyRow) → IsSameKey key (counted m.plan_input m.keys m.entries key)
counted-same m key = counted-by (keeps_point m.plan_input m.keys key) key
    (record key { next_serial = serial_behind (new_objects m.plan_input m.keys) key })
    (record key {
      next_serial = serial_behind (new_objects m.plan_input m.keys) key + 1;
      number = number_of key;
      this_update = m.plan_input.basis.moment;
      revoked = m.entries key;
    })
    (record { key = refl; desk = refl; signer = refl }) (record { key = refl; desk = refl; signer = refl })

-- A live key of before.
pub record IsCarried (rows : List KeyRow) (key : KeyRow) : Type 0 where
  pub row : KeyRow
  pub live : Contains rows row
  pub named : id_of row ≡ id_of key
  pub same : IsSameKey row key

abbrev pub IsOther : List KeyRow → KeyRow → Type 0
IsOther rows key = All (λ live. id_of live ≢ id_of key) rows

carried-by : (rows : List KeyRow) (next : NextKey) (name : KeyName) (key : KeyRow)
    → IsNextBy rows next name key → IsCarried rows key ⊎ IsOther rows key
carried-by rows next (Live id) key on = inl (record {
  row = on.row;
  live = on.live;
  named = ap id_of (sym on.same);
  same = record {
    key = ap (λ (k : KeyRow). k.key) on.same;
    desk = ap (λ (k : KeyRow). k.desk) on.same;
    signer = ap (λ (k : KeyRow). k.signer) on.same;
  };
})
carried-by rows next (Fresh desk) key new = inr new.apart

pub each-carried : (rows : List KeyRow) (nexts : List NextKey) (keys : List KeyRow) (key : KeyRow)
    → AreEach rows nexts keys → Contains keys key → IsCarried rows key ⊎ IsOther rows key
each-carried rows [] [] key each c = absurd (none key c)
each-carried rows [] (k ∷ keys) key each c = absurd each
each-carried rows (next ∷ nexts) [] key each c = absurd each
each-carried rows (next ∷ nexts) (k ∷ keys) key each c =
    elim (first-or-rest k keys key c) [
      | inl is ↦ subst (λ (x : KeyRow). IsCarried rows x ⊎ IsOther rows x) is
          (carried-by rows next next.name k each.0)
      | inr later ↦ each-carried rows nexts keys key each.1 later
    ]

-- ---- one after another

module _ (premises : Premises) (editions : List Edition) (steps : AreSteps premises editions) where
  -- Of one edition two rows of a key are one.
  here-same : (at : ℕ) (edition : Edition) → slice_get editions at ≡ Some edition → (one other : KeyRow)
      → Contains edition.rows one → Contains edition.rows other → id_of one ≡ id_of other → IsSameKey one other
  here-same at edition there one other first second named =
      let v = seen premises editions steps at edition there in
      let a = row-key premises (take at editions) edition v.m v.view one first in
      let b = row-key premises (take at editions) edition v.m v.view other second in
      let of-a : id_of one ≡ id_of a.0 = id-same a.0 one (subst (IsSameKey a.0) a.2 (counted-same v.m a.0)) in
      let of-b : id_of other ≡ id_of b.0 = id-same b.0 other (subst (IsSameKey b.0) b.2 (counted-same v.m b.0)) in
      let ids : id_of a.0 ≡ id_of b.0 = sym of-a ∙ (named ∙ of-b) in
      let keys : a.0 ≡ b.0 = same-key premises (take at editions) edition v.m v.view a.0 b.0 a.1 b.1 ids in
      subst (IsSameKey one)
      (sym a.2 ∙ (ap (counted v.m.plan_input v.m.keys v.m.entries) keys ∙ b.2))
      (same-itself one)

  -- A row of an edition that was live before is of the same key.
  next-same : (at : ℕ) (before edition : Edition) → slice_get editions at ≡ Some before
      → slice_get editions (suc at) ≡ Some edition → (was is : KeyRow) → Contains before.rows was
      → Contains edition.rows is → id_of was ≡ id_of is
      → (row : KeyRow) × Contains before.rows row × (id_of row ≡ id_of is) × IsSameKey row is
  next-same at before edition first there was is live now named =
      let v = seen premises editions steps (suc at) edition there in
      let k = row-key premises (take (suc at) editions) edition v.m v.view is now in
      let same : IsSameKey k.0 is = subst (IsSameKey k.0) k.2 (counted-same v.m k.0) in
      let ids : id_of k.0 ≡ id_of is = sym (id-same k.0 is same) in
      let rows : (state_after (take (suc at) editions)).rows ≡ before.rows =
      rows-before editions at before first in
      elim (each-carried (state_after (take (suc at) editions)).rows (next_keys v.m.plan_input.basis) v.m.keys k.0
      v.view.next.each k.1) [
        | inl c ↦ (
          c.row,
          subst (λ (l : List KeyRow). Contains l c.row) rows c.live,
          c.named ∙ ids,
          same-then c.row k.0 is c.same same,
        )
        | inr other ↦ absurd (All-contains (λ (live : KeyRow). id_of live ≢ id_of k.0)
            (state_after (take (suc at) editions)).rows was other
            (subst (λ (l : List KeyRow). Contains l was) (sym rows) live) (named ∙ sym ids))
      ]

  pub one-key : (to from : ℕ) (id : List ℕ) → IsInLife id editions from to → (first last : Edition)
      → slice_get editions from ≡ Some first → slice_get editions to ≡ Some last → (one other : KeyRow)
      → Contains first.rows one → Contains last.rows other → id_of one ≡ id → id_of other ≡ id
      → IsSameKey one other
  one-key zero from id life first last there then one other c d is so =
      let ordered = life.ordered in
      let start : from ≡ 0 = omega (arith, ordered) in
      let same : first ≡ last = same_Some first last
      (sym there ∙ (ap (slice_get editions) start ∙ then)) in
      here-same zero last then one other (subst (λ (e : Edition). Contains e.rows one) same c) d (is ∙ sym so)
  one-key (suc at) from id life first last there then one other c d is so =
      elim (cases_eq from (suc at)) [
        | inl same ↦
            let edition : first ≡ last = same_Some first last (sym there ∙ (ap (slice_get editions) same ∙ then)) in
            here-same (suc at) last then one other (subst (λ (e : Edition). Contains e.rows one) edition c) d
            (is ∙ sym so)
        | inr apart ↦
            let ordered = life.ordered in
            let within = life.within in
            let least : from ≤ at = omega (arith, apart, ordered) in
            let before = there-is editions at (omega (arith, within)) in
            let was = live-row id before.0 (life.unbroken at before.0 least (omega arith) before.1) in
            let row = next-same at before.0 last before.1 then was.0 other was.1 d (was.2 ∙ sym so) in
            same-then one row.0 other
            (one-key at from id (shorter id editions from (suc at) at least (omega arith) life) first before.0 there
            before.1 one row.0 c row.1 is (row.2 ∙ so))
            row.3
      ]
