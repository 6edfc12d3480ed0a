-- What a line comes to, by its slots.
use Rattle.std.proofs.Common.{◌≡◌, ◌≢◌, ◌≤◌, ℕ, List, length, true, false, true≢false, Option, Some, None, Ok, Err, IsUtf8, inl, inr, refl, sym, ap, subst, ◌∙◌}
use Rattle.std.specs.Prelude.{Result, OnOk, is_ok}
use Rattle.serde_json.specs.Read.{read}
use Rattle.line_loop.specs.declared.TheConstants.{LINE_LIMIT}
use Rattle.serde_json.specs.Data.{Data, null, boolean, number, string, array, object, Members}
use Rattle.serde_json.specs.Find.{get, get_member, as_object}
use Rattle.json_api.specs.declared.fields.Field.{Field}
use Rattle.json_api.specs.declared.fields.Field.TheVariants.{Command}
use Rattle.json_api.specs.declared.fields.Row.{Row}
use Rattle.json_api.specs.declared.line.Line.{Line}
use Rattle.json_api.specs.declared.line.LineFault.{LineFault}
use Rattle.json_api.specs.declared.line.LineFault.TheVariants.{BadLine, UnknownCommand}
use Rattle.json_api.specs.declared.slots.Slot.{Slot}
use Rattle.json_api.specs.declared.slots.Slot.TheVariants.{Absent}
use Rattle.json_api.specs.Names.{name_of, kind_of}
use Rattle.json_api.specs.Rows.{Slots, as_row}
use Rattle.json_api.specs.Table.{fields_of, line_at, first_other, only, of_row, of_members}
use Rattle.json_api.specs.inner.Slots.{slot_at, left_of, are_taken, first_left}
use Rattle.json_api.specs.Line.{Tells, AreSlots, ReadsValue, ReadsLine}
use Rattle.json_api.specs.inner.Passes.{IsMember, AreMembers, ReadsText}
use Rattle.json_api.proofs.Named.{field_named-name_of}
use Rattle.json_api.proofs.Others.{none_other, first_left-other}

pub AreSlots-members : (ms : Members) (slots : List Slot) → AreMembers ms slots → AreSlots (object ms) (slot_at slots)
AreSlots-members ms slots are f = subst (λ (o : Option Field). IsMember o (get_member (name_of f) ms) slots) (field_named-name_of f) (are (name_of f))

-- the line of a row whose tokens told it, where no other member is left
pub row_answers : (ms : Members) (slots : List Slot) (of : Row) (meant : Line) → AreMembers ms slots → as_row (slot_at slots Command) ≡ Some of
    → are_taken (left_of (fields_of of) slots) ≡ true → Ok meant ≡ line_at of (slot_at slots) → ReadsValue (object ms) (Ok meant)
row_answers ms slots of meant are row taken says = record {
  slots = slot_at slots;
  are = AreSlots-members ms slots are;
  says = ap (λ (other : Option (List ℕ)). only (Ok meant) other) (sym (none_other of ms slots are taken))
      ∙ ap (λ (r : Result Line LineFault). only r (first_other of ms)) says
      ∙ ap (λ (r : Option Row). of_row r (slot_at slots) ms) (sym row);
}

-- the fault of such a row
pub row_refuses : (ms : Members) (slots : List Slot) (of : Row) (fault : LineFault) → AreMembers ms slots → as_row (slot_at slots Command) ≡ Some of
    → Err fault ≡ line_at of (slot_at slots) → ReadsValue (object ms) (Err fault)
row_refuses ms slots of fault are row says = record {
  slots = slot_at slots;
  are = AreSlots-members ms slots are;
  says = ap (λ (r : Result Line LineFault). only r (first_other of ms)) says
      ∙ ap (λ (r : Option Row). of_row r (slot_at slots) ms) (sym row);
}

pub on_ok : (result : Result Line LineFault) (P : Type 0) → P → OnOk result P
on_ok (Ok meant) P p = p
on_ok (Err fault) P p = tt

pub on_fault : (result : Result Line LineFault) (P : Type 0) → is_ok result ≡ false → OnOk result P
on_fault (Ok meant) P h = absurd (true≢false h)
on_fault (Err fault) P h = tt

-- what such a row comes to, where nothing is left of a line
pub row_tells : (text : List ℕ) (ms : Members) (slots left : List Slot) (of : Row) (result : Result Line LineFault) → read text ≡ Some (object ms) → AreMembers ms slots
    → as_row (slot_at slots Command) ≡ Some of → result ≡ line_at of (slot_at slots) → OnOk result (left ≡ left_of (fields_of of) slots)
    → OnOk result (are_taken left ≡ true) → ReadsText text result
row_tells text ms slots left of (Ok meant) is are row says rest taken =
    inl (object ms, is, row_answers ms slots of meant are row (ap are_taken (sym rest) ∙ taken) says)
row_tells text ms slots left of (Err fault) is are row says rest taken = inl (object ms, is, row_refuses ms slots of fault are row says)

other_text : (bytes : List ℕ) (value : Data) → read bytes ≡ None → read bytes ≡ Some value → ⊥
other_text bytes value none some = let e : None ≡ Some value = sym none ∙ some in absurd (cc)

-- a line is what its text is
pub line_read : (bytes : List ℕ) (result : Result Line LineFault) → length bytes ≤ LINE_LIMIT → IsUtf8 bytes → ReadsText bytes result → ReadsLine bytes result
line_read bytes result short utf8 (inl told) = inl (told.0, (record { short = short; utf8 = utf8; text = told.1 }, told.2))
line_read bytes result short utf8 (inr told) = inr ((λ value is. other_text bytes value told.0 is.text), told.1)

-- which other member is named doesn't matter to a fault
fault_first : (found : Result Line LineFault) (a b : Option (List ℕ)) → ((meant : Line) → found ≡ Ok meant → a ≡ b) → only found a ≡ only found b
fault_first (Ok meant) a b same = ap (only (Ok meant)) (same meant refl)
fault_first (Err fault) a b same = refl

are_of_object : (value : Data) (ms : Members) (s : Slots) → as_object value ≡ Some ms → AreSlots value s → AreSlots (object ms) s
are_of_object null ms s e are = absurd (cc)
are_of_object (boolean b) ms s e are = absurd (cc)
are_of_object (number n) ms s e are = absurd (cc)
are_of_object (string t) ms s e are = absurd (cc)
are_of_object (array ds) ms s e are = absurd (cc)
are_of_object (object ns) ms s e are = let same : ns ≡ ms = cc in subst (λ (of : Members). AreSlots (object of) s) same are

-- the row of a line whose value told it
pub value_answers : (value : Data) (ms : Members) (slots left : List Slot) (of : Row) (result : Result Line LineFault) → as_object value ≡ Some ms → AreSlots value (slot_at slots)
    → as_row (slot_at slots Command) ≡ Some of → ((meant : Line) → line_at of (slot_at slots) ≡ Ok meant → left ≡ left_of (fields_of of) slots)
    → result ≡ only (line_at of (slot_at slots)) (first_left left ms) → ReadsValue value result
value_answers value ms slots left of result is are row taken says = record {
  slots = slot_at slots;
  are = are;
  says = says
      ∙ fault_first (line_at of (slot_at slots)) (first_left left ms) (first_other of ms) (λ meant fine.
      ap (λ (rest : List Slot). first_left rest ms) (taken meant fine) ∙ first_left-other of ms slots (are_of_object value ms (slot_at slots) is are))
      ∙ ap (λ (r : Option Row). of_row r (slot_at slots) ms) (sym row)
      ∙ ap (λ (o : Option Members). of_members o (slot_at slots)) (sym is);
}

-- a value that is no object has no member
no_members_in : (value : Data) (k : List ℕ) → as_object value ≡ None → get k value ≡ None
no_members_in null k _ = refl
no_members_in (boolean b) k _ = refl
no_members_in (number n) k _ = refl
no_members_in (string s) k _ = refl
no_members_in (array ds) k _ = refl
no_members_in (object ms) k e = absurd (cc)

pub no_object : (value : Data) → as_object value ≡ None → ReadsValue value (Err BadLine)
no_object value none = record {
  slots = λ f. Absent;
  are = λ f. subst (λ (o : Option Data). Tells (kind_of f) o Absent) (sym (no_members_in value (name_of f) none)) refl;
  says = ap (λ (o : Option Members). of_members o (λ f. Absent)) (sym none);
}

pub no_row : (value : Data) (ms : Members) (slots : List Slot) → as_object value ≡ Some ms → AreSlots value (slot_at slots)
    → as_row (slot_at slots Command) ≡ None → ReadsValue value (Err UnknownCommand)
no_row value ms slots is are none = record {
  slots = slot_at slots;
  are = are;
  says = ap (λ (r : Option Row). of_row r (slot_at slots) ms) (sym none)
      ∙ ap (λ (o : Option Members). of_members o (slot_at slots)) (sym is);
}
