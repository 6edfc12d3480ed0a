use Rattle.std.proofs.Common.{◌∙◌, ap, refl, lit≤, take, List, ℕ}
use Rattle.std.proofs.lemmas.List.{take-take}
use Rattle.cmd_codec.specs.Fault.{is_any, front_32}
use Rattle.cmd_codec.specs.Spelling.{part_spelling}
use Rattle.cmd_codec.specs.Spelling.Part.{TheNumber}
use Rattle.cmd_codec.proofs.Fronts.{front_32-take}
use Rattle.cmd_codec.proofs.Ways.{field_short, passes_field}
use Rattle.cmd_codec.proofs.cursor.Cursor.number.Goals as goal

pub returns-in_default-clause-reads : goal.returns-in_default-clause-reads
returns-in_default-clause-reads c = field_short 4 is_any c.args.self.now c.fault-fault.result c.fault-fault.ensures c.in_default.ensures.0

pub returns-clause-reads : goal.returns-clause-reads
unfolding part_spelling
returns-clause-reads c =
    let (long, taken, moved) = c.in-Some.ensures in
    let text = c.number_of.ensures.bytes ∙ (ap (λ (b : List ℕ). take 4 b) taken ∙ take-take 4 4 c.args.self.now.left (lit≤ tt)) in
    (c.number_of.type_inv, passes_field 4 is_any c.args.self.now c.take.new.self (part_spelling (TheNumber c.number_of.result)) long refl moved text)

pub returns-clause-value : goal.returns-clause-value
returns-clause-value c = c.number_of.ensures.value ∙ (ap (λ (b : List ℕ). front_32 b) c.in-Some.ensures.1 ∙ front_32-take c.args.self.now.left)
