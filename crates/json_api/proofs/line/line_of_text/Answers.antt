use Rattle.std.proofs.Common.{◌≡◌, Option, Some, IfSome, true, sym, subst, ◌∙◌}
use Rattle.std.specs.Prelude.{OnOk}
use Rattle.serde_json.specs.Data.{object, Members}
use Rattle.serde_json.specs.Read.{read}
use Rattle.json_api.specs.declared.fields.Field.TheVariants.{Command}
use Rattle.json_api.specs.declared.fields.Row.{Row}
use Rattle.json_api.specs.Rows.{as_row}
use Rattle.json_api.specs.inner.Slots.{slot_at, are_taken}
use Rattle.json_api.specs.inner.Passes.{AreMembers}
use Rattle.json_api.proofs.Answered.{row_tells, on_ok, on_fault}
use Rattle.json_api.proofs.line.line_of_text.Goals as goal
use Rattle.json_api.proofs.line.line_of_text.Goals.{else-is_ok-via-then-is_ok+else-not-are_taken, else-is_ok-via-else-is_ok}

pub returns : goal.returns
returns c fine =
    let slots = c.row_by_tokens.new.slots in
    let row = c.in-Some.row in
    let told = subst (λ (o : Option Row). IfSome o (λ row. (ms : Members) × (read c.args.text.now ≡ Some (object ms)) × AreMembers ms slots
    × (as_row (slot_at slots Command) ≡ Some row))) c.in-Some.is c.in_ok-row.ensures in
    let taken : OnOk c.line-found.result (are_taken c.line-found.new.slots ≡ true)
    = elim c.else-is_ok.branch [
      | else-is_ok-via-then-is_ok+else-not-are_taken w ↦ on_ok c.line-found.result _ (sym w.are_taken.ensures ∙ w.if-not-are_taken.false)
      | else-is_ok-via-else-is_ok w ↦ on_fault c.line-found.result _ (sym c.is_ok.ensures.value ∙ w.if-is_ok.false)
    ] in
    row_tells c.args.text.now told.0 slots c.line-found.new.slots row c.line-found.result told.1 told.2 told.3 (c.line-found.ensures.line fine) c.line-found.ensures.left taken
