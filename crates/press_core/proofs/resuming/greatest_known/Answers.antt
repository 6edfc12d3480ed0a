use Rattle.std.proofs.Common.{ℕ, ◌+◌, ◌≤◌, List, length, sym, ap, subst, ◌∙◌}
use Rattle.std.specs.Prelude.{max}
use Rattle.std.specs.List.{fold}
use Rattle.crl_obj.specs.declared.values.CrlEntry.{CrlEntry}
use Rattle.press_core.proofs.Comparing.{serials_from, greatest-step, greatest-end}
use Rattle.press_core.proofs.resuming.greatest_known.Goals as goal

pub loop-entry-preserved : goal.loop-entry-preserved
loop-entry-preserved c =
    let i = c.loop-entry.entry-index in
    let greatest = c.loop-entry.greatest in
    let entries = c.as_slice-entry-items.result.now in
    let same = c.as_slice-entry-items.ensures.value in
    ap (λ (l : List CrlEntry). fold max c.greater-greatest.result (serials_from l (i + 1))) (sym same)
    ∙ ap (λ (g : ℕ). fold max g (serials_from entries (i + 1))) c.greater-greatest.ensures
    ∙ sym (greatest-step entries i greatest _ c.loop-entry-test.true)
    ∙ ap (λ (l : List CrlEntry). fold max greatest (serials_from l i)) same
    ∙ c.loop-entry.invariant

pub returns : goal.returns
returns c =
    let i = c.loop-entry.entry-index in
    let past = subst (λ (l : List CrlEntry). length l ≤ i) c.as_slice-entry-items.ensures.value c.loop-entry-test.false in
    sym (greatest-end c.args.point.now.crl.items i c.loop-entry.greatest past) ∙ c.loop-entry.invariant
