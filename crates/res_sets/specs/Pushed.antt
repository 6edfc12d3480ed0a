-- Why a range isn't added to a set.
use Rattle.res_sets.specs.declared.numbers.Range.{Range}
use Rattle.res_sets.specs.declared.pushing.PushFault.{PushFault}
use Rattle.res_sets.specs.declared.pushing.PushFault.TheVariants.{NotBehind, Memory}
use Rattle.res_sets.specs.Sets.{RangeSet, GoesBehind}

-- The range doesn't go behind those of the set, or memory ran out.
abbrev pub IsPushFault : RangeSet → Range → PushFault → Type 0
IsPushFault set range NotBehind = ¬ GoesBehind set range
IsPushFault set range Memory = Unit {0}
