use Rattle.std.proofs.Common.{◌≡◌, ◌≤◌, ◌∙◌, sym, take, true, false, ◌&&◌, arith}
use Rattle.std.specs.Prelude.{nat_le}
use Rattle.std.proofs.lemmas.Bool.Decides.{nat_tests}
use Rattle.cmd_codec.specs.Spelling.{bytes_32}
use Rattle.cmd_codec.specs.Fault.{is_name_length}
use Rattle.cmd_codec.proofs.Fronts.{length_tested, length_is, length_bytes}
use Rattle.cmd_codec.proofs.Ways.{field_short, field_broken, passes_field}
use Rattle.cmd_codec.proofs.cursor.Cursor.name_length.Goals as goal

pub returns-in_default : goal.returns-in_default
returns-in_default c = field_short 4 is_name_length c.args.self.now c.fault-fault.result c.fault-fault.ensures c.in_default.ensures.0

pub returns-then-not-has_name_length : goal.returns-then-not-has_name_length
returns-then-not-has_name_length c =
    let (long, taken, moved) = c.in-Some.ensures in
    let test = length_tested c.args.self.now.left c.in-Some.field.now c.number_of-length.result taken c.number_of-length.ensures.value in
    let none : is_name_length (take 4 c.args.self.now.left) ≡ false = test ∙ sym c.if-not-has_name_length.ensures in
    field_broken 4 is_name_length c.args.self.now c.fault-fault.result c.fault-fault.ensures long none

pub returns : goal.returns
returns c =
    let (long, taken, moved) = c.in-Some.ensures in
    let n = c.number_of-length.result in
    let test = length_tested c.args.self.now.left c.in-Some.field.now n taken c.number_of-length.ensures.value in
    let good : (nat_le 1 n && nat_le n 64) ≡ true = sym c.if-not-has_name_length.ensures in
    let some : 1 ≤ n = grind (arith, nat_tests, good) in
    let short : n ≤ 64 = grind (arith, nat_tests, good) in (
      length_is c.args.self.now.left c.in-Some.field.now n taken c.number_of-length.ensures.value,
      some,
      short,
      passes_field 4 is_name_length c.args.self.now c.take.new.self (bytes_32 n) long (test ∙ good) moved
          (length_bytes c.args.self.now.left c.in-Some.field.now n taken c.number_of-length.ensures.bytes),
    )
