use Rattle.std.proofs.Common.{◌≡◌, arith, ap, sym, subst, ◌∙◌, ℕ, Ok, Err}
use Rattle.host_calls.specs.Rise.{HasRisen}
use Rattle.disk_api.proofs.Pieces.{untouched_start, untouched_more, stays_more, stays_time, gives_again, count_at_ok, count_at_interrupted, count_at_memory, count_at_failed, fault_counted}
use Rattle.disk_api.proofs.file.read_once.Goals as goal

pub tries-init : goal.tries-init
tries-init g c = untouched_start g.F.RawFile.content g.F.RawFile.may_leave g.F.RawFile.moment g.F.RawFile.left_since g.F.RawFile.fault_count c.args.file.now c.args.into.now

pub tries-preserved : goal.tries-preserved
tries-preserved g c =
    untouched_more g.F.RawFile.content g.F.RawFile.may_leave g.F.RawFile.moment g.F.RawFile.left_since g.F.RawFile.fault_count c.args.file.now c.tries.file c.read_at.new.self c.args.into.now c.tries.into c.read_at.new.into
    c.tries.invariant c.in-Err-Interrupted.ensures.stays c.in-Err-Interrupted.ensures.time
    (count_at_interrupted (g.F.RawFile.fault_count c.tries.file) (g.F.RawFile.fault_count c.read_at.new.self) (g.F.RawFile.patience c.tries.file) (g.F.RawFile.patience c.read_at.new.self) c.in-Err-Interrupted.field-0 c.in-Err-Interrupted.field-0-is c.in-Err-Interrupted.ensures.faults).0
    c.in-Err-Interrupted.ensures.untouched

pub tries-smaller : goal.tries-smaller
tries-smaller g c = (count_at_interrupted (g.F.RawFile.fault_count c.tries.file) (g.F.RawFile.fault_count c.read_at.new.self) (g.F.RawFile.patience c.tries.file) (g.F.RawFile.patience c.read_at.new.self) c.in-Err-Interrupted.field-0 c.in-Err-Interrupted.field-0-is c.in-Err-Interrupted.ensures.faults).1

pub returns-in-Ok-clause-bytes : goal.returns-in-Ok-clause-bytes
returns-in-Ok-clause-bytes g c =
    gives_again c.args.at c.in-Ok.n c.args.into.now c.tries.into c.read_at.new.into
    (g.F.RawFile.content c.args.file.now) (g.F.RawFile.content c.tries.file) c.tries.invariant.stays.content c.tries.invariant.buffer c.in-Ok.ensures.bytes

pub returns-in-Ok-clause-stays : goal.returns-in-Ok-clause-stays
returns-in-Ok-clause-stays g c = stays_more g.F.RawFile.content g.F.RawFile.may_leave g.F.RawFile.moment g.F.RawFile.left_since g.F.RawFile.fault_count c.args.file.now c.tries.file c.read_at.new.self c.args.into.now c.tries.into c.tries.invariant c.in-Ok.ensures.stays

pub returns-in-Ok-clause-time : goal.returns-in-Ok-clause-time
returns-in-Ok-clause-time g c = stays_time g.F.RawFile.content g.F.RawFile.may_leave g.F.RawFile.moment g.F.RawFile.left_since g.F.RawFile.fault_count c.args.file.now c.tries.file c.read_at.new.self c.args.into.now c.tries.into c.tries.invariant c.in-Ok.ensures.stays c.in-Ok.ensures.time

pub returns-in-Ok-clause-faults : goal.returns-in-Ok-clause-faults
returns-in-Ok-clause-faults g c =
    let same : g.F.RawFile.fault_count c.read_at.new.self ≡ g.F.RawFile.fault_count c.tries.file = count_at_ok (g.F.RawFile.fault_count c.tries.file) (g.F.RawFile.fault_count c.read_at.new.self) (g.F.RawFile.patience c.tries.file) (g.F.RawFile.patience c.read_at.new.self) c.in-Ok.n c.in-Ok.ensures.faults in
    record { later = omega (arith, same, c.tries.invariant.counted); fault = λ is. absurd (let e : Ok c.in-Ok.n ≡ Err _ = is in cc) }

pub returns-in-Err-Memory-clause-stays : goal.returns-in-Err-Memory-clause-stays
returns-in-Err-Memory-clause-stays g c = stays_more g.F.RawFile.content g.F.RawFile.may_leave g.F.RawFile.moment g.F.RawFile.left_since g.F.RawFile.fault_count c.args.file.now c.tries.file c.read_at.new.self c.args.into.now c.tries.into c.tries.invariant c.in-Err-Memory.ensures.stays

pub returns-in-Err-Memory-clause-time : goal.returns-in-Err-Memory-clause-time
returns-in-Err-Memory-clause-time g c = stays_time g.F.RawFile.content g.F.RawFile.may_leave g.F.RawFile.moment g.F.RawFile.left_since g.F.RawFile.fault_count c.args.file.now c.tries.file c.read_at.new.self c.args.into.now c.tries.into c.tries.invariant c.in-Err-Memory.ensures.stays c.in-Err-Memory.ensures.time

pub returns-in-Err-Memory-clause-faults : goal.returns-in-Err-Memory-clause-faults
returns-in-Err-Memory-clause-faults g c =
    let risen = count_at_memory (g.F.RawFile.fault_count c.tries.file) (g.F.RawFile.fault_count c.read_at.new.self) (g.F.RawFile.patience c.tries.file) (g.F.RawFile.patience c.read_at.new.self) c.in-Err-Memory.field-0 c.in-Err-Memory.field-0-is c.in-Err-Memory.ensures.faults in
    fault_counted (g.F.RawFile.fault_count c.args.file.now) (g.F.RawFile.fault_count c.tries.file) (g.F.RawFile.fault_count c.read_at.new.self) c.tries.invariant.counted risen

pub returns-in-Err-Failed-clause-stays : goal.returns-in-Err-Failed-clause-stays
returns-in-Err-Failed-clause-stays g c = stays_more g.F.RawFile.content g.F.RawFile.may_leave g.F.RawFile.moment g.F.RawFile.left_since g.F.RawFile.fault_count c.args.file.now c.tries.file c.read_at.new.self c.args.into.now c.tries.into c.tries.invariant c.in-Err-Failed.ensures.stays

pub returns-in-Err-Failed-clause-time : goal.returns-in-Err-Failed-clause-time
returns-in-Err-Failed-clause-time g c = stays_time g.F.RawFile.content g.F.RawFile.may_leave g.F.RawFile.moment g.F.RawFile.left_since g.F.RawFile.fault_count c.args.file.now c.tries.file c.read_at.new.self c.args.into.now c.tries.into c.tries.invariant c.in-Err-Failed.ensures.stays c.in-Err-Failed.ensures.time

pub returns-in-Err-Failed-clause-faults : goal.returns-in-Err-Failed-clause-faults
returns-in-Err-Failed-clause-faults g c =
    let risen = count_at_failed (g.F.RawFile.fault_count c.tries.file) (g.F.RawFile.fault_count c.read_at.new.self) (g.F.RawFile.patience c.tries.file) (g.F.RawFile.patience c.read_at.new.self) c.in-Err-Failed.field-0 c.in-Err-Failed.field-0-is c.in-Err-Failed.ensures.faults in
    fault_counted (g.F.RawFile.fault_count c.args.file.now) (g.F.RawFile.fault_count c.tries.file) (g.F.RawFile.fault_count c.read_at.new.self) c.tries.invariant.counted risen

pub returns-in-Ok-clause-ok : goal.returns-in-Ok-clause-ok
returns-in-Ok-clause-ok g c =
    count_at_ok (g.F.RawFile.fault_count c.tries.file) (g.F.RawFile.fault_count c.read_at.new.self) (g.F.RawFile.patience c.tries.file) (g.F.RawFile.patience c.read_at.new.self) c.in-Ok.n c.in-Ok.ensures.faults ∙ c.tries.invariant.counted

pub returns-in-Err-Memory-clause-stop : goal.returns-in-Err-Memory-clause-stop
returns-in-Err-Memory-clause-stop g c =
    let risen = count_at_memory (g.F.RawFile.fault_count c.tries.file) (g.F.RawFile.fault_count c.read_at.new.self) (g.F.RawFile.patience c.tries.file) (g.F.RawFile.patience c.read_at.new.self) c.in-Err-Memory.field-0 c.in-Err-Memory.field-0-is c.in-Err-Memory.ensures.faults in
    subst (λ (n : ℕ). HasRisen n (g.F.RawFile.fault_count c.read_at.new.self)) c.tries.invariant.counted risen

pub returns-in-Err-Failed-clause-stop : goal.returns-in-Err-Failed-clause-stop
returns-in-Err-Failed-clause-stop g c =
    let risen = count_at_failed (g.F.RawFile.fault_count c.tries.file) (g.F.RawFile.fault_count c.read_at.new.self) (g.F.RawFile.patience c.tries.file) (g.F.RawFile.patience c.read_at.new.self) c.in-Err-Failed.field-0 c.in-Err-Failed.field-0-is c.in-Err-Failed.ensures.faults in
    subst (λ (n : ℕ). HasRisen n (g.F.RawFile.fault_count c.read_at.new.self)) c.tries.invariant.counted risen
