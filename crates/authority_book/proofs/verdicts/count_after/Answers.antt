use Rattle.std.proofs.Common.{◌≡◌, ◌+◌, arith, length}
use Rattle.authority_book.specs.Origins.{without}
use Rattle.authority_book.proofs.Changes.{distinct_from_ascending}
use Rattle.authority_book.proofs.Removed.{length-without}
use Rattle.authority_book.proofs.verdicts.count_after.Goals as goal

pub overflow_sub-result : goal.overflow_sub-result
overflow_sub-result c =
    let xs = c.origins.result.now in
    let removed = c.args.removed.now in
    let both : length (without xs removed) + length removed ≡ length xs =
    length-without xs removed (distinct_from_ascending xs c.origins.ensures.ascending) c.requires.once (rw c.origins.ensures.origins c.requires.there) in
    omega (arith, c.len.ensures.len, both)

pub returns : goal.returns
returns c =
    let xs = c.args.config.now.settings.origins in
    let removed = c.args.removed.now in
    let both : length (without xs removed) + length removed ≡ length xs =
    length-without xs removed (distinct_from_ascending xs (rw c.origins.ensures.origins at c.origins.ensures.ascending)) c.requires.once c.requires.there in
    rw c.origins.ensures.origins (omega (arith, c.len.ensures.len, c.len-2.ensures.len, both))
