use Rattle.std.proofs.Common.{map, length}
use Rattle.der.specs.Part.{place}
use Rattle.der.proofs.Lists.{ReadsFurther}
use Rattle.der.proofs.readers.many.Given as goal

abbrev pub invariant-loop-left : goal.invariant-loop-left
invariant-loop-left g l = ReadsFurther (g.R.FrontReader.format l.reader) (place l.part) (map g.R.FrontReader.view l.items.items) (place l.left)

abbrev pub decreases-loop-left : goal.decreases-loop-left
decreases-loop-left g l = length l.left.bytes.now
