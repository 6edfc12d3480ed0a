use Rattle.std.proofs.Common.{ℕ, ap, ◌∙◌}
use Rattle.press_core.specs.inner.Rows.{ends_of, is_span}
use Rattle.press_core.proofs.Spans.{span-is}
use Rattle.press_core.proofs.exact_holdings.is_prefix.Goals as goal

pub returns : goal.returns
returns c =
    c.is_range.ensures
    ∙ ap (λ (span : ℕ × ℕ). is_span (ends_of c.args.set.now) span)
    (span-is c.args.prefix.now c.first.result c.last.result c.args.prefix.now.prefix c.first.ensures.value c.last.ensures.member c.last.ensures.greatest)
