use Rattle.std.proofs.Common.{◌≡◌, arith, ℕ, ◌-◌, length, take, drop}
use Rattle.std.proofs.lemmas.List.{take_rest}
use Rattle.disk_api.proofs.Pieces.{writing_start, writing_more, writing_torn, known_torn, images_torn, count_at_ok, count_at_interrupted}
use Rattle.disk_api.proofs.file.write_all.Goals as goal

pub pieces-init : goal.pieces-init
pieces-init g c = writing_start g.F.RawFile.content g.F.RawFile.may_leave g.F.RawFile.moment g.F.RawFile.left_since g.F.RawFile.fault_count c.args.at c.args.bytes.now c.args.file.now c.requires

pub pieces-preserved-in-Ok : goal.pieces-preserved-in-Ok
pieces-preserved-in-Ok g c =
    writing_more g.F.RawFile.content g.F.RawFile.may_leave g.F.RawFile.moment g.F.RawFile.left_since g.F.RawFile.fault_count c.args.at c.args.bytes.now c.pieces.done c.in-Ok.n c.args.file.now c.pieces.file c.write_at.new.self
    (rw take_rest at c.in-Ok.ensures.within) c.pieces.invariant (rw take_rest at c.in-Ok.ensures.end) (rw take_rest at c.in-Ok.ensures.written)
    (rw take_rest at c.in-Ok.ensures.images) c.in-Ok.ensures.each_image c.in-Ok.ensures.time (count_at_ok (g.F.RawFile.fault_count c.pieces.file) (g.F.RawFile.fault_count c.write_at.new.self) (g.F.RawFile.patience c.pieces.file) (g.F.RawFile.patience c.write_at.new.self) c.in-Ok.n c.in-Ok.ensures.faults)

pub pieces-preserved : goal.pieces-preserved
pieces-preserved g c =
    let call = c.in-Err-Interrupted in
    writing_torn g.F.RawFile.content g.F.RawFile.may_leave g.F.RawFile.moment g.F.RawFile.left_since g.F.RawFile.fault_count c.args.at c.args.bytes.now c.pieces.done c.args.file.now c.pieces.file c.write_at.new.self c.pieces.invariant (rw take_rest at call.ensures.torn) (rw take_rest at call.ensures.images) call.ensures.kept_images call.ensures.time
    (count_at_interrupted (g.F.RawFile.fault_count c.pieces.file) (g.F.RawFile.fault_count c.write_at.new.self) (g.F.RawFile.patience c.pieces.file) (g.F.RawFile.patience c.write_at.new.self) call.field-0 call.field-0-is call.ensures.faults).0

pub returns-in-Err-Memory-clause-torn : goal.returns-in-Err-Memory-clause-torn
returns-in-Err-Memory-clause-torn g c = known_torn g.F.RawFile.content g.F.RawFile.may_leave g.F.RawFile.moment g.F.RawFile.left_since g.F.RawFile.fault_count c.args.at c.args.bytes.now c.pieces.done c.args.file.now c.pieces.file c.write_at.new.self c.pieces.invariant (rw take_rest at c.in-Err-Memory.ensures.torn)

pub returns-in-Err-Memory-clause-images : goal.returns-in-Err-Memory-clause-images
returns-in-Err-Memory-clause-images g c = images_torn g.F.RawFile.content g.F.RawFile.may_leave g.F.RawFile.moment g.F.RawFile.left_since g.F.RawFile.fault_count c.args.at c.args.bytes.now c.pieces.done c.args.file.now c.pieces.file c.write_at.new.self c.pieces.invariant (rw take_rest at c.in-Err-Memory.ensures.images)

pub returns-in-Err-Failed-clause-torn : goal.returns-in-Err-Failed-clause-torn
returns-in-Err-Failed-clause-torn g c = known_torn g.F.RawFile.content g.F.RawFile.may_leave g.F.RawFile.moment g.F.RawFile.left_since g.F.RawFile.fault_count c.args.at c.args.bytes.now c.pieces.done c.args.file.now c.pieces.file c.write_at.new.self c.pieces.invariant (rw take_rest at c.in-Err-Failed.ensures.torn)

pub returns-in-Err-Failed-clause-images : goal.returns-in-Err-Failed-clause-images
returns-in-Err-Failed-clause-images g c = images_torn g.F.RawFile.content g.F.RawFile.may_leave g.F.RawFile.moment g.F.RawFile.left_since g.F.RawFile.fault_count c.args.at c.args.bytes.now c.pieces.done c.args.file.now c.pieces.file c.write_at.new.self c.pieces.invariant (rw take_rest at c.in-Err-Failed.ensures.images)
