use Rattle.std.proofs.Common.{◌≡◌, ◌∙◌, ◌/◌, pos, sym, arith}
use Rattle.std.proofs.lemmas.Int.{ints}
use Rattle.jiff_core.proofs.DateLemmas.{civil}
use Rattle.jiff_core.specs.Calendar.{days_from_civil}
use Rattle.moments.specs.Days.{civil_of}
use Rattle.moments.specs.laws.CalendarLaws.{civil_of-civil, civil_of-clock, civil_ext, year-small}
use Rattle.moments.specs.laws.TimeLaws.{same_civil}
use Rattle.moments.proofs.writing.civil_of.Goals as goal

pub overflow_cast-result : goal.overflow_cast-result
overflow_cast-result c =
    let date = c.unwrap-date.result in
    let to = c.requires.to in
    let value = rw c.unwrap-date.ensures at c.from_unix_epoch_day.ensures.value in
    let days : days_from_civil date.year date.month date.day ≡ pos (c.args.seconds / 86_400) = value ∙ omega (arith, ints) in
    let same = same_civil c.args.seconds date.year date.month date.day c.requires (civil date) days in
    let small = year-small _ _ _ (civil_of-civil c.args.seconds c.requires).date in
    (omega (arith, ints, same.0, small), omega (arith, ints, same.0, small))

pub returns-clause-is : goal.returns-clause-is
returns-clause-is c =
    let date = c.unwrap-date.result in
    let to = c.requires.to in
    let value = rw c.unwrap-date.ensures at c.from_unix_epoch_day.ensures.value in
    let days : days_from_civil date.year date.month date.day ≡ pos (c.args.seconds / 86_400) = value ∙ omega (arith, ints) in
    let same = same_civil c.args.seconds date.year date.month date.day c.requires (civil date) days in
    let small = year-small _ _ _ (civil_of-civil c.args.seconds c.requires).date in
    let clock = civil_of-clock c.args.seconds in
    civil_ext _ (civil_of c.args.seconds) (omega (arith, ints, same.0, small)) same.1 same.2 (sym clock.0) (sym clock.1) (sym clock.2)
