use Rattle.std.proofs.Common.{ℕ, ◌+◌, List, Option, ap, ◌∙◌, subst, arith}
use Rattle.std.proofs.lemmas.Result.{err_from_is_err_and}
use Rattle.press_records.specs.Edition.{StandingValue, settled}
use Rattle.press_records.specs.Views.{recovered_standing, edition_value as read_value}
use Rattle.press_core.specs.inner.Loads.{IsEditionAt}
use Rattle.press_core.proofs.Editions.{read-more, read-on, records-on, step-stop}
use Rattle.press_core.proofs.reading.read_older.Goals as goal

pub returns-in_err-edition-clause-refused : goal.returns-in_err-edition-clause-refused
returns-in_err-edition-clause-refused g c =
    let so_far = c.loop-count.invariant in
    let p = err_from_is_err_and c.from_residual.result c.from_residual.ensures.1 in
    rw (p.1, p.2)
    (step-stop g.D.Disk c.args.journal.now c.loop-count.journal c.next_edition.new.journal.disk c.loop-count.count c.loop-count.left
    c.in_err-edition.field-0.0 so_far.journal so_far.read (omega (arith, c.loop-count-test.true, c.requires.within)) c.in_err-edition.ensures.refused)

pub loop-count-preserved : goal.loop-count-preserved
loop-count-preserved g c =
    let so_far = c.loop-count.invariant in
    let count = c.loop-count.count in
    let left = c.loop-count.left in
    let edition = c.in_ok-edition.edition in
    record {
      read = read-more c.args.journal.now.records count left c.settle-changes.new.self edition so_far.read
          (subst (λ (r : Option (List (List ℕ))). IsEditionAt r (count + 1) (recovered_standing left) (read_value edition))
          (records-on g.D.Disk c.args.journal.now c.loop-count.journal so_far.journal) c.in_ok-edition.ensures.edition)
          (c.settle-changes.ensures.settled ∙ ap (λ (s : StandingValue). settled s (read_value edition)) c.in_ok-edition.ensures.carried);
      journal = read-on g.D.Disk c.args.journal.now c.loop-count.journal c.next_edition.new.journal so_far.journal c.in_ok-edition.ensures.journal;
      opened = c.in_ok-edition.ensures.still_open;
      within = omega (arith, c.loop-count-test.true);
    }
