use Rattle.std.proofs.Common.{[], refl, inl}
use Rattle.krill_top.specs.Summaries.{summary_line}
use Rattle.krill_top.proofs.Writing.{none_given}
use Rattle.krill_top.proofs.running.tell.Goals as goal

-- memory was wanting for the line
pub returns-in_default : goal.returns-in_default
returns-in_default g c = ([], summary_line c.args.summary.now, refl, none_given (g.K.Sink.taken c.args.sink.now), inl refl)
