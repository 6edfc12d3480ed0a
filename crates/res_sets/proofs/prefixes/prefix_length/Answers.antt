use Rattle.std.proofs.Common.{arith}
use Rattle.res_sets.proofs.Masks.{IsPrefixRange-found, host_of_prefix}
use Rattle.res_sets.proofs.prefixes.prefix_length.Goals as goal
use Rattle.res_sets.proofs.prefixes.prefix_length.Goals.{else-host-ones-via-then-host-ones+else-range-host-eq0, else-host-ones-via-else-host-ones}

pub overflow_sub-result : goal.overflow_sub-result
overflow_sub-result c = (IsPrefixRange-found c.args.bits _ c.args.range c.requires.fits (omega (arith, c.ones.ensures, c.if-host-ones.true)) c.if-range-host-eq0.true).0

pub returns-then-range-host-eq0 : goal.returns-then-range-host-eq0
returns-then-range-host-eq0 c = (IsPrefixRange-found c.args.bits _ c.args.range c.requires.fits (omega (arith, c.ones.ensures, c.if-host-ones.true)) c.if-range-host-eq0.true).1

pub returns-else-host-ones : goal.returns-else-host-ones
returns-else-host-ones c len prefix =
    let host = host_of_prefix c.args.bits len c.args.range (omega arith) prefix in
    elim c.else-host-ones.branch [ else-host-ones-via-then-host-ones+else-range-host-eq0 w ↦ w.if-range-host-eq0.false host.1 | else-host-ones-via-else-host-ones w ↦ omega (arith, host.0, c.ones.ensures, w.if-host-ones.false) ]
