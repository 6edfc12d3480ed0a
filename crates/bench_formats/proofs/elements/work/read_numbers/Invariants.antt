use Rattle.std.proofs.Common.{length}
use Rattle.bench_formats.proofs.elements.work.read_numbers.Given as goal

abbrev pub decreases-loop-reader : goal.decreases-loop-reader
decreases-loop-reader l = length l.reader.left
