use Rattle.std.proofs.Common.{[], refl, inl}
use Rattle.krill_top.specs.Summaries.{workload_line}
use Rattle.krill_top.proofs.Writing.{none_given}
use Rattle.krill_top.proofs.working.tell_line.Goals as goal

-- memory was wanting for the line
pub returns-in_default : goal.returns-in_default
returns-in_default g c = ([], workload_line c.args.authorities c.args.count c.args.published, refl, none_given (g.K.Sink.taken c.args.sink.now), inl refl)
