use Rattle.std.proofs.lemmas.List.{take_rest}
use Rattle.line_loop.proofs.Feeds.{nowhere_at_all, first_at}
use Rattle.line_loop.proofs.window.find_feed.Goals as goal

pub returns-in_err-i-clause-none : goal.returns-in_err-i-clause-none
returns-in_err-i-clause-none c =
    rw c.from_residual.ensures (nowhere_at_all c.args.bytes.now _ c.args.seen (take_rest c.args.bytes.now c.args.seen) c.requires.none_before c.requires.within c.in_err-i.ensures)

pub returns-clause-found : goal.returns-clause-found
returns-clause-found c =
    first_at c.args.bytes.now _ c.args.seen (take_rest c.args.bytes.now c.args.seen) c.requires.none_before c.in_ok-i.i c.requires.within c.in_ok-i.ensures
