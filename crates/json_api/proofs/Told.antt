-- Slots that tell of a value's members, those of one field more at a time.
use Rattle.std.proofs.Common.{◌≡◌, ◌⊎◌, ℕ, ◌+◌, ◌<◌, ◌==◌, List, Bool, true, false, true≢false, get_or, set, inl, inr, refl, sym, ap, subst, ◌∙◌, arith}
use Rattle.std.proofs.lemmas.Bool.{cases_order}
use Rattle.std.proofs.lemmas.Bool.Decides.{Decides-eqb}
use Rattle.std.proofs.lemmas.List.{get_or-set_other}
use Rattle.serde_json.specs.Data.{Data}
use Rattle.serde_json.specs.Find.{get}
use Rattle.json_api.specs.declared.fields.Field.{Field}
use Rattle.json_api.specs.declared.slots.Slot.{Slot}
use Rattle.json_api.specs.declared.slots.Slot.TheVariants.{Absent}
use Rattle.json_api.specs.Names.{name_of, place_of, kind_of, fields}
use Rattle.json_api.specs.inner.Slots.{slot_at}
use Rattle.json_api.specs.Line.{Tells}
use Rattle.json_api.proofs.Named.{field_at-place, same_field}

abbrev pub IsSlot : Data → List Slot → Field → Type 0
IsSlot value slots f = Tells (kind_of f) (get (name_of f) value) (slot_at slots f)

-- the slots of the first so many fields tell of them
abbrev pub AreFirst : Data → List Slot → ℕ → Type 0
AreFirst value slots i = (f : Field) → place_of f < i → IsSlot value slots f

module _ (value : Data) (slots new : List Slot) (f : Field) (slot : Slot) (is_set : new ≡ set slots (place_of f) slot) (here : slot_at new f ≡ slot)
    (tells : Tells (kind_of f) (get (name_of f) value) slot) where
  at : (g : Field) (same : Bool) → (place_of g == place_of f) ≡ same → (same ≡ false → IsSlot value slots g) → IsSlot value new g
  at g true e before =
      let is : g ≡ f = same_field g f ((Decides-eqb (place_of g) (place_of f)).0 e) in
      let mine = subst (λ (s : Slot). Tells (kind_of f) (get (name_of f) value) s) (sym here) tells in
      subst (λ (k : Field). IsSlot value new k) (sym is) mine
  at g false e before =
      let apart : place_of g ≡ place_of f → ⊥ = λ p. true≢false (sym ((Decides-eqb (place_of g) (place_of f)).1 p) ∙ e) in
      let kept : slot_at new g ≡ slot_at slots g
      = ap (λ (s : List Slot). slot_at s g) is_set ∙ get_or-set_other slots (place_of f) (place_of g) slot Absent apart in
      subst (λ (s : Slot). Tells (kind_of g) (get (name_of g) value) s) (sym kept) (before refl)

  -- the slot of the next field goes in
  pub AreFirst-set : (i : ℕ) (other : Field) → f ≡ get_or fields i other → AreFirst value slots i → AreFirst value new (i + 1)
  AreFirst-set i other is before g within = at g (place_of g == place_of f) refl (λ differs. earlier differs (cases_order (place_of g) i)) where
    earlier : (place_of g == place_of f) ≡ false → (place_of g ≡ i) ⊎ ((place_of g < i) ⊎ (i < place_of g)) → IsSlot value slots g
    earlier differs (inl same) =
        let mine : g ≡ f = sym (field_at-place other g) ∙ ap (λ (p : ℕ). get_or fields p other) same ∙ sym is in
        absurd (true≢false (sym ((Decides-eqb (place_of g) (place_of f)).1 (ap place_of mine)) ∙ differs))
    earlier differs (inr (inl less)) = before g less
    earlier differs (inr (inr more)) = absurd (omega (arith, within, more))
