use Rattle.std.proofs.Common.{ℕ, List, length, sym, ap, ◌∙◌}
use Rattle.cmd_codec.specs.Spelling.{part_spelling}
use Rattle.cmd_codec.specs.Spelling.Part.{TheName, TheNumber}
use Rattle.cmd_codec.proofs.Sizes.{name_parts, on_ok, extended, pushed_two}
use Rattle.cmd_codec.proofs.writing.push_name.Goals as goal

pub returns : goal.returns
returns c =
    let text = c.as_bytes-text.result.now in
    let whole = ap (λ (t : List ℕ). part_spelling (TheName t)) (sym c.as_bytes-text.ensures.bytes) ∙ name_parts text in
    on_ok c.extend_from_slice.result _ _
    (pushed_two c.args.bytes.now.items c.push_number.new.bytes.items c.extend_from_slice.new.self.items (part_spelling (TheNumber (length text))) text (part_spelling (TheName c.args.name.now)) whole c.in_ok-push_number.ensures)
    (extended c.extend_from_slice.result c.extend_from_slice.new.self.items c.push_number.new.bytes.items text c.extend_from_slice.ensures.items)
