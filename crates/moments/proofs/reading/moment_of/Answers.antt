use Rattle.std.proofs.Common.{◌≡◌, ◌∙◌, pos, arith}
use Rattle.std.proofs.lemmas.Int.{ints}
use Rattle.moments.specs.laws.TimeLaws.{day-number, at-day}
use Rattle.moments.proofs.reading.moment_of.Goals as goal

pub overflow_cast-day : goal.overflow_cast-day
overflow_cast-day c =
    let date = c.args.date in
    let k = day-number c.args.civil date.year date.month date.day c.requires.civil c.requires.year c.requires.date.year c.requires.date.month c.requires.date.day in
    let number : c.to_unix_epoch_day-day.result ≡ pos k.0 = c.to_unix_epoch_day-day.ensures.value ∙ k.1 in
    (omega (arith, ints, k.2), omega (arith, ints, k.2))

pub returns : goal.returns
returns c =
    let date = c.args.date in
    let k = day-number c.args.civil date.year date.month date.day c.requires.civil c.requires.year c.requires.date.year c.requires.date.month c.requires.date.day in
    let number : c.to_unix_epoch_day-day.result ≡ pos k.0 = c.to_unix_epoch_day-day.ensures.value ∙ k.1 in
    at-day c.args.civil k.0 date.year date.month date.day _ c.requires.date.year c.requires.date.month c.requires.date.day k.1 (omega (arith, ints, k.2))
