-- Members that a row doesn't have.
use Rattle.std.proofs.Common.{◌≡◌, ℕ, zero, suc, ◌==◌, List, [], ◌∷◌, Bool, true, false, true≢false, ◌&&◌, ◌||◌, Option, Some, None, Ordering, Less, Equal, Greater, nat_cmp, get_or, set, inl, inr, refl, sym, ap, subst, ◌∙◌, if◌then◌else◌}
use Rattle.std.proofs.lemmas.Bool.Decides.{Decides-eqb}
use Rattle.std.proofs.lemmas.List.{get_or-set_other}
use Rattle.std.specs.List.{list_all}
use Rattle.std.specs.Cmp.Lexicographic.{slice_cmp}
use Rattle.std.specs.Ordering.{match_ordering}
use Rattle.std.proofs.lemmas.Cmp.{nat_list_cmp_total, tied_itself}
use Rattle.serde_json.specs.Data.{Data, object, Members, no_members, member}
use Rattle.serde_json.specs.Find.{get_member}
use Rattle.json_api.specs.declared.fields.Field.{Field}
use Rattle.json_api.specs.declared.fields.Field.TheVariants.{Add, Ca, Child, Command, Looks, Parent, Remove, Resources, Serial, Signer}
use Rattle.json_api.specs.declared.fields.Kind.{Kind}
use Rattle.json_api.specs.declared.fields.Kind.TheVariants as kind
use Rattle.json_api.specs.declared.fields.Row.{Row}
use Rattle.json_api.specs.declared.slots.Slot.{Slot}
use Rattle.json_api.specs.declared.slots.Slot.TheVariants as slot
use Rattle.json_api.specs.Names.{name_of, place_of, kind_of, fields, is_among, field_named}
use Rattle.json_api.specs.Table.{fields_of, takes, takes_some, is_member, first_other}
use Rattle.json_api.specs.inner.Slots.{slot_at, is_absent, left_of, is_taken, are_taken, is_taken_some, first_left}
use Rattle.json_api.specs.Line.{Says, Tells, AreSlots}
use Rattle.json_api.specs.inner.Passes.{IsMember, AreMembers}
use Rattle.json_api.proofs.Named.{first_named-is}

both : (a b : Bool) → (a && b) ≡ true → (a ≡ true) × (b ≡ true)
both true b h = (refl, h)
both false b h = absurd (true≢false (sym h))

either : (a b : Bool) → (a || b) ≡ true → b ≡ false → a ≡ true
either true b h absent = refl
either false b h absent = absurd (true≢false (sym h ∙ absent))

module _ (p : Field → Bool) (h : list_all p fields ≡ true) where
  -- a test that all fields pass
  pub passes : (f : Field) → p f ≡ true
  passes f =
      let a = both (p Add) _ h in
      let b = both (p Ca) _ a.1 in
      let c = both (p Child) _ b.1 in
      let d = both (p Command) _ c.1 in
      let looks = both (p Looks) _ d.1 in
      let e = both (p Parent) _ looks.1 in
      let g = both (p Remove) _ e.1 in
      let i = both (p Resources) _ g.1 in
      let serial = both (p Serial) _ i.1 in
      let j = both (p Signer) _ serial.1 in
      elim f as (λ f. p f ≡ true) [ Add ↦ a.0 | Ca ↦ b.0 | Child ↦ c.0 | Command ↦ d.0 | Looks ↦ looks.0 | Parent ↦ e.0 | Remove ↦ g.0 | Resources ↦ i.0 | Serial ↦ serial.0 | Signer ↦ j.0 ]

-- ---- a member that is there

found_here : (o : Ordering) (d : Data) (rest : Option Data) → o ≡ Equal → match_ordering o rest (Some d) rest ≡ Some d
found_here o d rest e = ap (λ (x : Ordering). match_ordering x rest (Some d) rest) e

pub get_member-head : (k : List ℕ) (d : Data) (more : Members) → get_member k (member k d more) ≡ Some d
get_member-head k d more = found_here (slice_cmp nat_cmp k k) d (get_member k more) (tied_itself nat_list_cmp_total k)

-- the name is some member's
abbrev pub Stands : Option Data → Type 0
Stands found = (d : Data) × (found ≡ Some d)

stands_later : (o : Ordering) (e : Data) (rest : Option Data) → Stands rest → Stands (match_ordering o rest (Some e) rest)
stands_later Less e rest h = h
stands_later Equal e rest h = (e, refl)
stands_later Greater e rest h = h

-- where the row has each member, none is another
pub first_other-none : (of : Row) (ms : Members) → ((name : List ℕ) → Stands (get_member name ms) → is_member of name ≡ true) → first_other of ms ≡ None
first_other-none of no_members has = refl
first_other-none of (member k d more) has =
    let mine : is_member of k ≡ true = has k (d, get_member-head k d more) in
    let rest = first_other-none of more (λ name h. has name (stands_later (slice_cmp nat_cmp name k) d (get_member name more) h)) in
    ap (λ (b : Bool). if b then first_other of more else Some k) mine ∙ rest

-- ---- what slots tell

-- a slot that is absent says nothing
says_nothing : (of : Kind) (d : Data) → Says of d slot.Absent → ⊥
says_nothing kind.Row d h = h
says_nothing kind.Name d h = h
says_nothing kind.Number d h = h
says_nothing kind.Serial d h = h
says_nothing kind.Looks d h = h
says_nothing kind.Resources d h = h
says_nothing kind.Origins d h = h

-- a member that is there has a slot that isn't absent
there : (of : Kind) (d : Data) (s : Slot) → Tells of (Some d) s → is_absent s ≡ false
there of d slot.Absent h = absurd (elim h as (λ _. ⊥) [ inl says ↦ says_nothing of d says | inr bad ↦ cc ])
there of d slot.Bad h = refl
there of d (slot.Row r) h = refl
there of d (slot.Name n) h = refl
there of d (slot.Number n) h = refl
there of d (slot.Serial n) h = refl
there of d (slot.Looks n) h = refl
there of d (slot.Resources r) h = refl
there of d (slot.Origins os) h = refl

-- ---- what is left of slots

set-absent : (slots : List Slot) (i : ℕ) → get_or (set slots i slot.Absent) i slot.Absent ≡ slot.Absent
set-absent [] i = refl
set-absent (s ∷ slots) zero = refl
set-absent (s ∷ slots) (suc i) = set-absent slots i

or-true : (a : Bool) → (a || true) ≡ true
or-true true = refl
or-true false = refl

module _ (f : Field) where
  -- one field's slot is taken out, and then those of others
  taken_one : (slots : List Slot) (g : Field) (among same : Bool) → (place_of g == place_of f) ≡ same
      → (among || is_absent (slot_at (set slots (place_of g) slot.Absent) f)) ≡ ((same || among) || is_absent (slot_at slots f))
  taken_one slots g among true e =
      let place : place_of g ≡ place_of f = (Decides-eqb (place_of g) (place_of f)).0 e in
      let out : slot_at (set slots (place_of g) slot.Absent) f ≡ slot.Absent
      = subst (λ (p : ℕ). get_or (set slots (place_of g) slot.Absent) p slot.Absent ≡ slot.Absent) place (set-absent slots (place_of g)) in
      ap (λ (s : Slot). among || is_absent s) out ∙ or-true among
  taken_one slots g among false e =
      let apart : place_of g ≡ place_of f → ⊥ = λ p. true≢false (sym ((Decides-eqb (place_of g) (place_of f)).1 p) ∙ e) in
      ap (λ (s : Slot). among || is_absent s) (get_or-set_other slots (place_of g) (place_of f) slot.Absent slot.Absent (λ p. apart (sym p)))

  -- nothing is left of a field where it is taken out, or stood in no member
  is_absent-left_of : (fs : List Field) (slots : List Slot) → is_absent (slot_at (left_of fs slots) f) ≡ (is_among fs f || is_absent (slot_at slots f))
  is_absent-left_of [] slots = refl
  is_absent-left_of (g ∷ fs) slots =
      is_absent-left_of fs (set slots (place_of g) slot.Absent) ∙ taken_one slots g (is_among fs f) (place_of g == place_of f) refl

or-assoc : (a b c : Bool) → (a || (b || c)) ≡ ((a || b) || c)
or-assoc true b c = refl
or-assoc false b c = refl

or-false : (a b : Bool) → b ≡ false → (a || b) ≡ a
or-false true b e = refl
or-false false b e = e

-- of a member that is there nothing is left exactly where the row has it
is_taken-takes : (of : Row) (slots : List Slot) (f : Field) → is_absent (slot_at slots f) ≡ false → is_taken (left_of (fields_of of) slots) f ≡ takes of f
is_taken-takes of slots f there =
    let command = place_of f == place_of Command in
    let among = is_among (fields_of of) f in
    ap (λ (b : Bool). command || b) (is_absent-left_of f (fields_of of) slots)
    ∙ (or-assoc command among (is_absent (slot_at slots f)) ∙ or-false (command || among) (is_absent (slot_at slots f)) there)

module _ (of : Row) (ms : Members) (slots : List Slot) (are : AreMembers ms slots) (taken : are_taken (left_of (fields_of of) slots) ≡ true) where
  has : (name : List ℕ) (field : Option Field) (found : Option Data) → IsMember field found slots → Stands found → takes_some of field ≡ true
  has name None found is h = absurd (let e = h.1 in cc)
  has name (Some f) found is h =
      let told : Tells (kind_of f) (Some h.0) (slot_at slots f) = subst (λ (o : Option Data). Tells (kind_of f) o (slot_at slots f)) h.1 is in
      sym (is_taken-takes of slots f (there (kind_of f) h.0 (slot_at slots f) told)) ∙ passes (is_taken (left_of (fields_of of) slots)) taken f

  pub none_other : first_other of ms ≡ None
  none_other = first_other-none of ms (λ name h. has name (field_named name) (get_member name ms) (are name) h)

-- where the same members are taken, the first other one is the first that is left
pub first_left-is : (left : List Slot) (of : Row) (ms : Members)
    → ((name : List ℕ) → Stands (get_member name ms) → is_taken_some left (field_named name) ≡ is_member of name) → first_left left ms ≡ first_other of ms
first_left-is left of no_members same = refl
first_left-is left of (member k d more) same =
    let mine = same k (d, get_member-head k d more) in
    let rest = first_left-is left of more (λ name h. same name (stands_later (slice_cmp nat_cmp name k) d (get_member name more) h)) in
    ap (λ (b : Bool). if b then first_left left more else Some k) mine ∙ ap (λ (o : Option (List ℕ)). if is_member of k then o else Some k) rest

module _ (of : Row) (ms : Members) (slots : List Slot) (are : AreSlots (object ms) (slot_at slots)) where
  same : (name : List ℕ) (field : Option Field) → field_named name ≡ field → Stands (get_member name ms)
      → is_taken_some (left_of (fields_of of) slots) field ≡ takes_some of field
  same name None is h = refl
  same name (Some f) is h =
      let named : name ≡ name_of f = first_named-is name_of fields name f is in
      let found : get_member (name_of f) ms ≡ Some h.0 = subst (λ (n : List ℕ). get_member n ms ≡ Some h.0) named h.1 in
      let told : Tells (kind_of f) (Some h.0) (slot_at slots f) = subst (λ (o : Option Data). Tells (kind_of f) o (slot_at slots f)) found (are f) in
      is_taken-takes of slots f (there (kind_of f) h.0 (slot_at slots f) told)

  -- the first member that is left is the first that the row doesn't have
  pub first_left-other : first_left (left_of (fields_of of) slots) ms ≡ first_other of ms
  first_left-other = first_left-is (left_of (fields_of of) slots) of ms (λ name h. same name (field_named name) refl h)
