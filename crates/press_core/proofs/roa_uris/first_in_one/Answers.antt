use Rattle.std.proofs.Common.{string_bytes}
use Rattle.press_core.proofs.Alone.{some-first, none-in-one}
use Rattle.press_core.proofs.roa_uris.first_in_one.Goals as goal

pub returns-in_ok-clone-in-Some : goal.returns-in_ok-clone-in-Some
returns-in_ok-clone-in-Some c =
    some-first c.args.owed.now c.args.yielded.now c.symmetric_difference.result c.in-Some.uri.now c.next.new.self (string_bytes c.in_ok-clone-in-Some.field-0)
    c.symmetric_difference.ensures.members c.symmetric_difference.ensures.ordered c.in-Some.ensures.steps c.in_ok-clone-in-Some.ensures.cases

pub returns-in-None : goal.returns-in-None
returns-in-None c = none-in-one c.args.owed.now c.args.yielded.now c.symmetric_difference.result c.symmetric_difference.ensures.members c.in-None.ensures.steps.0
