use Rattle.std.proofs.Common.{ℕ, sym, ◌∙◌, subst, arith}
use Rattle.std.proofs.lemmas.Bool.{OnFalse_from, true≢false}
use Rattle.line_loop.specs.inner.Pending.{Pending, NoFeed, EndsLine, IsLongFirst}
use Rattle.line_loop.proofs.Waiting.{never_ends, one_end, not_long_first}
use Rattle.line_loop.proofs.answering.next_takes_long.Goals as goal

pub returns-in-Some-clause-quick : goal.returns-in-Some-clause-quick
returns-in-Some-clause-quick g c =
    let long = g.H.LineHandler.takes_time in
    let window = c.find_line.new.self in
    let ends : EndsLine window.bytes c.in-Some.n = subst (λ (p : Pending). EndsLine p.bytes c.in-Some.n) (sym c.in-Some.ensures.same) c.in-Some.ensures.found in
    OnFalse_from c.takes_long.result ((n : ℕ) → IsLongFirst long window n → ⊥)
    (λ quick. not_long_first long window c.in-Some.n ends (λ takes. true≢false (sym (c.takes_long.ensures.1 (subst long (sym c.front.ensures) takes)) ∙ quick)))

pub returns-in_default-2-clause-quick : goal.returns-in_default-2-clause-quick
returns-in_default-2-clause-quick g c =
    let long = g.H.LineHandler.takes_time in
    let window = c.find_line.new.self in
    let ends : EndsLine window.bytes c.in-Some.n = subst (λ (p : Pending). EndsLine p.bytes c.in-Some.n) (sym c.in-Some.ensures.same) c.in-Some.ensures.found in
    λ n first. let same = one_end window.bytes n c.in-Some.n first.ends ends in absurd (omega (arith, first.kept, c.if-n-le-LINE_LIMIT.false))

pub returns-in_default-3-clause-quick : goal.returns-in_default-3-clause-quick
returns-in_default-3-clause-quick g c =
    λ n first. never_ends c.find_line.new.self.bytes n (subst (λ (p : Pending). NoFeed p.bytes) (sym c.in_default.ensures.same) c.in_default.ensures.none) first.ends
