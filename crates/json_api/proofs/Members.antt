-- The slots that are filled from a line's members, one member more at a time.
use Rattle.std.proofs.Common.{◌≡◌, ◌⊎◌, ℕ, ◌+◌, ◌<◌, List, Bool, true, false, true≢false, Option, Some, None, bytes_eq, get_or, set, refl, sym, ap, subst, ◌∙◌, inl, inr, arith}
use Rattle.std.proofs.lemmas.Bool.{cases_order}
use Rattle.std.proofs.lemmas.Slice.Eq.{bytes_eq-Decides}
use Rattle.std.proofs.lemmas.List.{get_or-set_other}
use Rattle.serde_json.specs.Data.{Data, Members, no_members, put}
use Rattle.serde_json.specs.Find.{get_member}
use Rattle.serde_json.proofs.Views.{get_member-put, get_member-put_other}
use Rattle.json.specs.Token.{Token}
use Rattle.json_api.specs.declared.fields.Field.{Field}
use Rattle.json_api.specs.declared.fields.Kind.{Kind}
use Rattle.json_api.specs.declared.slots.Slot.{Slot}
use Rattle.json_api.specs.declared.slots.Slot.TheVariants.{Absent}
use Rattle.json_api.specs.Names.{name_of, place_of, kind_of, fields, field_named}
use Rattle.json_api.specs.inner.Slots.{slot_at}
use Rattle.json_api.specs.Line.{Says, Tells}
use Rattle.json_api.specs.inner.Passes.{ReadsValue, IsMember, AreMembers, Fills}
use Rattle.json_api.proofs.Named.{first_named-is, field_named-name_of, same_place}

no_member : (slots : List Slot) → ((f : Field) → slot_at slots f ≡ Absent) → (found : Option Field) → IsMember found None slots
no_member slots absent None = refl
no_member slots absent (Some f) = absent f

pub AreMembers-none : (slots : List Slot) → ((f : Field) → slot_at slots f ≡ Absent) → AreMembers no_members slots
AreMembers-none slots absent name = no_member slots absent (field_named name)

module _ (ms : Members) (slots : List Slot) (f : Field) (d : Data) (s : Slot) where
  -- a slot at another place stays
  kept : (g : Field) → (name_of g ≡ name_of f → ⊥) → slot_at (set slots (place_of f) s) g ≡ slot_at slots g
  kept g apart = get_or-set_other slots (place_of f) (place_of g) s Absent (λ e. apart (same_place g f e))

  other : (name : List ℕ) (found : Option Field) → field_named name ≡ found → (name ≡ name_of f → ⊥)
      → IsMember found (get_member name ms) slots → IsMember found (get_member name ms) (set slots (place_of f) s)
  other name None is apart h = h
  other name (Some g) is apart h =
      let named = first_named-is name_of fields name g is in
      subst (λ (t : Slot). Tells (kind_of g) (get_member name ms) t) (sym (kept g (λ e. apart (named ∙ e)))) h

  module _ (here : slot_at (set slots (place_of f) s) f ≡ s) (says : Says (kind_of f) d s) (are : AreMembers ms slots) where
    at : (name : List ℕ) (same : Bool) → bytes_eq name (name_of f) ≡ same
        → IsMember (field_named name) (get_member name (put (name_of f) d ms)) (set slots (place_of f) s)
    at name true same =
        let e : name ≡ name_of f = (bytes_eq-Decides name (name_of f)).0 same in
        let told : Tells (kind_of f) (Some d) (slot_at (set slots (place_of f) s) f) = subst (λ (t : Slot). Tells (kind_of f) (Some d) t) (sym here) (inl says) in
        let found : Tells (kind_of f) (get_member (name_of f) (put (name_of f) d ms)) (slot_at (set slots (place_of f) s) f)
        = subst (λ (o : Option Data). Tells (kind_of f) o (slot_at (set slots (place_of f) s) f)) (sym (get_member-put (name_of f) d ms)) told in
        let mine = subst (λ (o : Option Field). IsMember o (get_member (name_of f) (put (name_of f) d ms)) (set slots (place_of f) s)) (sym (field_named-name_of f)) found in
        subst (λ (n : List ℕ). IsMember (field_named n) (get_member n (put (name_of f) d ms)) (set slots (place_of f) s)) (sym e) mine
    at name false differ =
        let apart : name ≡ name_of f → ⊥ = λ e. true≢false (sym ((bytes_eq-Decides name (name_of f)).1 e) ∙ differ) in
        subst (λ (o : Option Data). IsMember (field_named name) o (set slots (place_of f) s)) (sym (get_member-put_other name (name_of f) d ms apart))
        (other name (field_named name) refl apart (are name))

    -- a field's member goes in, and its slot with it
    pub AreMembers-put : AreMembers (put (name_of f) d ms) (set slots (place_of f) s)
    AreMembers-put name = at name (bytes_eq name (name_of f)) refl

-- a slot that is set to what its value says is filled with it
pub filled : (f : Field) (of : Kind) (s : Slot) (old new : List Token) (before after : List Slot) → kind_of f ≡ of
    → ((d : Data) × ReadsValue old d new × Says of d s) → after ≡ set before (place_of f) s → slot_at after f ≡ s → Fills f old new before after
filled f of s old new before after kind told is here =
    let says = subst (λ (k : Kind). Says k told.0 s) (sym kind) told.2 in
    let there = subst (λ (slots : List Slot). slot_at slots f ≡ s) is here in (
      told.0,
      told.1,
      λ ms are. subst (λ (slots : List Slot). AreMembers (put (name_of f) told.0 ms) slots) (sym is) (AreMembers-put ms before f told.0 s there says are),
    )

-- ---- slots that are left

-- one slot more is left, that at the place
pub vacated : (old new : List Slot) (i : ℕ) → ((p : ℕ) → p < i → get_or old p Absent ≡ Absent) → get_or new i Absent ≡ Absent
    → ((p : ℕ) → get_or old p Absent ≡ Absent → get_or new p Absent ≡ Absent) → (p : ℕ) → p < i + 1 → get_or new p Absent ≡ Absent
vacated old new i before here others p within = each (cases_order p i) where
  each : (p ≡ i) ⊎ ((p < i) ⊎ (i < p)) → get_or new p Absent ≡ Absent
  each (inl same) = ap (λ k. get_or new k Absent) same ∙ here
  each (inr (inl less)) = others p (before p less)
  each (inr (inr more)) = absurd (omega (arith, within, more))
