use Rattle.std.proofs.Common.{List, sym, subst}
use Rattle.origins.specs.declared.Origin.{Origin}
use Rattle.cmd_codec.specs.Spelling.{IsSound, part_spelling}
use Rattle.cmd_codec.specs.Spelling.Part.{TheOrigins}
use Rattle.cmd_codec.specs.Fault.{part}
use Rattle.cmd_codec.specs.Fault.Kind.{OriginsPart}
use Rattle.cmd_codec.specs.Outcome.{Passes}
use Rattle.std.proofs.lemmas.Result.{err_from_is_err_and}
use Rattle.cmd_codec.specs.Fault.{field, is_any}
use Rattle.cmd_codec.proofs.PartLemmas.{number_passes, bad_origins_count, bad_origins, origins_read}
use Rattle.cmd_codec.proofs.cursor.Cursor.origins.Goals as goal

pub returns-in_err-count : goal.returns-in_err-count
returns-in_err-count c =
    let p = err_from_is_err_and c.from_residual.result c.from_residual.ensures.1 in
    rw (p.1, p.2) (bad_origins_count c.args.self.now c.in_err-count.field-0.0 c.in_err-count.ensures.reads)

pub returns-in_err-origins : goal.returns-in_err-origins
returns-in_err-origins c =
    let p = err_from_is_err_and c.from_residual-in_err-origins.result c.from_residual-in_err-origins.ensures.1 in
    let first = number_passes c.in_ok-count.count (field 4 is_any) c.args.self.now c.number.new.self c.in_ok-count.ensures.reads.1 in
    rw (p.1, p.2) (bad_origins c.args.self.now c.number.new.self c.in_ok-count.count c.in_err-origins.field-0.0 c.in_ok-count.ensures.value first c.in_err-origins.ensures)

pub returns : goal.returns
returns c =
    let first = number_passes c.in_ok-count.count (field 4 is_any) c.args.self.now c.number.new.self c.in_ok-count.ensures.reads.1 in
    let read = origins_read c.args.self.now c.number.new.self c.so_many_origins.new.self c.in_ok-count.count c.in_ok-origins.origins.items
    c.in_ok-count.ensures.reads.0 c.in_ok-count.ensures.value first c.in_ok-origins.ensures.0 c.in_ok-origins.ensures.1 in
    subst (λ (items : List Origin). IsSound (TheOrigins items) × Passes (part_spelling (TheOrigins items)) (part OriginsPart) c.args.self.now c.so_many_origins.new.self)
    (sym c.in_ok-new.ensures) read
