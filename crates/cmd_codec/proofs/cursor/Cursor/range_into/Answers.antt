use Rattle.std.proofs.Common.{arith}
use Rattle.res_sets.specs.Merging.{room_from}
use Rattle.cmd_codec.specs.Fault.{is_range}
use Rattle.cmd_codec.proofs.RangeField.{length_field, ends_of, falls, not_behind, reads_range}
use Rattle.cmd_codec.proofs.Ways.{field_short, field_broken}
use Rattle.cmd_codec.proofs.cursor.Cursor.range_into.Goals as goal

pub returns-in_default : goal.returns-in_default
returns-in_default c =
    field_short 32 (is_range c.args.set.now.family (room_from 0 c.args.set.now.ranges)) c.args.self.now c.fault-fault.result c.fault-fault.ensures c.in_default.ensures.0

pub wide_number_at-last-requires : goal.wide_number_at-last-requires
wide_number_at-last-requires c = omega (arith, length_field c.args.self.now.left c.in-Some.field.now c.in-Some.ensures.0 c.in-Some.ensures.1)

pub returns-then-first-last : goal.returns-then-first-last
returns-then-first-last c =
    let low = room_from 0 c.args.set.now.ranges in
    let has = ends_of c.args.self.now.left c.in-Some.field.now c.wide_number_at-first.result c.wide_number_at-last.result c.in-Some.ensures.0 c.in-Some.ensures.1
    c.wide_number_at-first.ensures.value c.wide_number_at-first.ensures.bytes c.wide_number_at-last.ensures.value c.wide_number_at-last.ensures.bytes in
    field_broken 32 (is_range c.args.set.now.family low) c.args.self.now c.fault-fault.result c.fault-fault.ensures c.in-Some.ensures.0
    (falls c.args.set.now.family low c.wide_number_at-first.result c.wide_number_at-last.result c.args.self.now.left c.in-Some.field.now has c.if-first-last.true)

pub returns-in-Ok : goal.returns-in-Ok
returns-in-Ok c =
    let has = ends_of c.args.self.now.left c.in-Some.field.now c.wide_number_at-first.result c.wide_number_at-last.result c.in-Some.ensures.0 c.in-Some.ensures.1
    c.wide_number_at-first.ensures.value c.wide_number_at-first.ensures.bytes c.wide_number_at-last.ensures.value c.wide_number_at-last.ensures.bytes in
    reads_range c.args.set.now c.push.new.self _ c.args.self.now c.take.new.self c.in-Some.field.now c.in-Ok.ensures.taken.0 c.in-Ok.ensures.taken.1 has c.in-Some.ensures.2

pub returns-in-Err-NotBehind : goal.returns-in-Err-NotBehind
returns-in-Err-NotBehind c =
    let has = ends_of c.args.self.now.left c.in-Some.field.now c.wide_number_at-first.result c.wide_number_at-last.result c.in-Some.ensures.0 c.in-Some.ensures.1
    c.wide_number_at-first.ensures.value c.wide_number_at-first.ensures.bytes c.wide_number_at-last.ensures.value c.wide_number_at-last.ensures.bytes in
    let none = rw c.in-Err-NotBehind.field-0-is at c.in-Err-NotBehind.ensures.fault in
    field_broken 32 (is_range c.args.set.now.family (room_from 0 c.args.set.now.ranges)) c.args.self.now c.fault-fault.result c.fault-fault.ensures c.in-Some.ensures.0
    (not_behind c.args.set.now _ c.args.self.now.left c.in-Some.field.now has none)
