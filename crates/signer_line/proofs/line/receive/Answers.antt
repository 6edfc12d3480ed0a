use Rattle.std.proofs.Common.{rules, ◌≡◌, arith, ℕ, subst, take}
use Rattle.signer_line.specs.Lines.{NoFeed}
use Rattle.signer_line.proofs.LineLemmas.{consumes_line, too_long}
use Rattle.signer_line.proofs.line.receive.Goals as goal

pub returns-then-branch-eq10-clause-heard : goal.returns-then-branch-eq10-clause-heard
returns-then-branch-eq10-clause-heard g c =
    let end : c.loop-len.len ≡ 1058 = omega (arith, c.loop-len-test.false, c.loop-len.auto.len-end) in
    consumes_line _ _ _ _ c.loop-len.len 1058 _ c.loop-len.invariant.read end c.in_ok-next.ensures.byte (search rules)

pub returns-then-branch-eq10-clause-whole : goal.returns-then-branch-eq10-clause-whole
returns-then-branch-eq10-clause-whole g c =
    let end : c.loop-len.len ≡ 1058 = omega (arith, c.loop-len-test.false, c.loop-len.auto.len-end) in
    subst (λ (k : ℕ). NoFeed (take k c.loop-len.bytes)) end c.loop-len.invariant.whole

pub returns-clause-stop : goal.returns-clause-stop
returns-clause-stop g c =
    let end : c.loop-len.len ≡ 1058 = omega (arith, c.loop-len-test.false, c.loop-len.auto.len-end) in
    too_long _ _ _ _ _ _ c.loop-len.bytes c.loop-len.len _ end c.loop-len.invariant.long c.loop-len.invariant.read c.loop-len.invariant.whole
    c.loop-len.invariant.counted c.in_ok-next.ensures.byte (search rules) c.in_ok-next.ensures.ok
