use Rattle.std.proofs.Common.{◌≡◌, ℕ, List, Option, Some, sym, ap, subst, ◌∙◌}
use Rattle.std.specs.Prelude.{Result, Ok, OnOk}
use Rattle.serde_json.specs.Find.{as_object}
use Rattle.serde_json.specs.View.{view, members_view}
use Rattle.json_api.specs.declared.line.Line.{Line}
use Rattle.json_api.specs.declared.line.LineFault.{LineFault}
use Rattle.json_api.specs.Table.{fields_of, line_at, only}
use Rattle.json_api.specs.inner.Slots.{slot_at, left_of}
use Rattle.json_api.proofs.Answered.{no_object, no_row, value_answers}
use Rattle.json_api.proofs.line.line_in.Goals as goal

pub returns-in_default : goal.returns-in_default
returns-in_default c _ = no_object (view c.args.value.now) (let e = c.in_default.ensures in cc)

pub returns-in_default-row : goal.returns-in_default-row
returns-in_default-row c _ =
    let object : as_object (view c.args.value.now) ≡ Some (members_view c.in-Some.members.now.entries) = sym c.in-Some.ensures in
    no_row (view c.args.value.now) (members_view c.in-Some.members.now.entries) c.in_ok-slots.slots object c.in_ok-slots.ensures (let e = c.in_default-row.ensures in cc)

pub returns : goal.returns
returns c fine =
    let ms = members_view c.in-Some.members.now.entries in
    let row = c.in-Some-row.row in
    let slots = c.in_ok-slots.slots in
    let left = c.line-found.new.slots in
    let object : as_object (view c.args.value.now) ≡ Some ms = sym c.in-Some.ensures in
    let found : c.line-found.result ≡ line_at row (slot_at slots)
    = c.line-found.ensures.line (λ e. fine (c.only.ensures ∙ ap (λ (r : Result Line LineFault). only r c.in_ok-other.other) e)) in
    let taken : (meant : Line) → line_at row (slot_at slots) ≡ Ok meant → left ≡ left_of (fields_of row) slots
    = λ meant e. subst (λ (r : Result Line LineFault). OnOk r (left ≡ left_of (fields_of row) slots)) (found ∙ e) c.line-found.ensures.left in
    value_answers (view c.args.value.now) ms slots left row c.only.result object c.in_ok-slots.ensures (sym c.in-Some-row.ensures) taken
    (c.only.ensures
    ∙ ap (λ (r : Result Line LineFault). only r c.in_ok-other.other) found
    ∙ ap (λ (other : Option (List ℕ)). only (line_at row (slot_at slots)) other) c.in_ok-other.ensures)
