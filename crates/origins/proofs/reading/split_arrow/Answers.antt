use Rattle.std.proofs.Common.{ap, sym, ◌∙◌}
use Rattle.origins.proofs.Arounds.{after_blanks, around_split, around_join}
use Rattle.origins.proofs.reading.split_arrow.Goals as goal

pub returns-in_err-behind : goal.returns-in_err-behind
returns-in_err-behind c = rw c.from_residual.ensures (λ before behind is.
    let split = around_split c.args.text.now before behind is in
    c.in_err-behind.ensures split.rest (c.skip_blanks.ensures ∙ (ap after_blanks c.split_before.ensures.back ∙ split.arrow_is)))

pub returns : goal.returns
returns c =
    let arrow = sym (c.skip_blanks.ensures ∙ ap after_blanks c.split_before.ensures.back) ∙ c.in_ok-behind.ensures in
    rw (c.split_before.ensures.front, c.skip_blanks-2.ensures) (around_join c.args.text.now _ arrow)
