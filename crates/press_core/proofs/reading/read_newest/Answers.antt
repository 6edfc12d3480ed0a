use Rattle.std.proofs.Common.{◌≡◌, ℕ, ◌+◌, ◌-◌, List, Option, length, ap, ◌∙◌, subst, arith}
use Rattle.std.proofs.lemmas.Result.{err_from_is_err_and}
use Rattle.pub_set.specs.Changes.{Contents, after_all}
use Rattle.press_records.specs.Edition.{StandingValue, settled}
use Rattle.press_records.specs.Views.{recovered_standing, edition_value as read_value}
use Rattle.press_core.specs.inner.Loads.{IsEditionAt, AreTakenIn, repository_in}
use Rattle.press_core.proofs.Editions.{follows-then, taken-more, read-on, records-on, step-stop}
use Rattle.press_core.proofs.reading.read_newest.Goals as goal

pub returns-in_err-edition-clause-refused : goal.returns-in_err-edition-clause-refused
returns-in_err-edition-clause-refused g c =
    let so_far = c.loop-count.invariant in
    let p = err_from_is_err_and c.from_residual.result c.from_residual.ensures.1 in
    rw (p.1, p.2)
    (step-stop g.D.Disk c.args.journal.now c.loop-count.journal c.next_edition.new.journal.disk c.loop-count.count c.loop-count.left
    c.in_err-edition.field-0.0 so_far.journal so_far.taken.so_far (omega (arith, c.loop-count-test.true, c.count-last.ensures.count))
    c.in_err-edition.ensures.refused)

pub loop-count-preserved : goal.loop-count-preserved
loop-count-preserved g c =
    let so_far = c.loop-count.invariant in
    let count = c.loop-count.count in
    let left = c.loop-count.left in
    let edition = c.in_ok-edition.edition in
    let carried = c.in_ok-edition.ensures.carried in
    record {
      taken = taken-more (repository_in c.args.resuming.now) c.args.journal.now.records c.args.older count left c.take_in.new.left c.loop-count.resuming
          c.take_in.new.resuming edition so_far.taken
          (subst (λ (r : Option (List (List ℕ))). IsEditionAt r (count + 1) (recovered_standing left) (read_value edition))
          (records-on g.D.Disk c.args.journal.now c.loop-count.journal so_far.journal) c.in_ok-edition.ensures.edition)
          (c.in_ok-take_in.ensures.left ∙ ap (λ (s : StandingValue). settled s (read_value edition)) carried) c.in_ok-take_in.ensures.counted
          (λ at told before stood is. c.in_ok-take_in.ensures.told at told before
          (λ uri. ap (λ (s : StandingValue). s.set uri) carried ∙ ap (λ (h : Contents). after_all h edition.changes uri) (λ i u. stood u i)) is);
      journal = read-on g.D.Disk c.args.journal.now c.loop-count.journal c.next_edition.new.journal so_far.journal c.in_ok-edition.ensures.journal;
      opened = c.in_ok-edition.ensures.still_open;
      within = omega (arith, c.loop-count-test.true);
    }

pub returns-clause-read : goal.returns-clause-read
returns-clause-read g c =
    let so_far = c.loop-count.invariant in
    let within = so_far.within in
    let all : c.loop-count.count ≡ length c.args.journal.now.sizes - 1 = omega (arith, c.loop-count-test.false, within, c.count-last.ensures.count) in
    subst (λ (n : ℕ). AreTakenIn (repository_in c.args.resuming.now) c.args.journal.now.records c.args.older n c.loop-count.left c.loop-count.resuming) all
    so_far.taken

pub take_in-requires-clause-serial : goal.take_in-requires-clause-serial
take_in-requires-clause-serial g c =
    let left = c.loop-count.left in
    let edition = c.in_ok-edition.edition in
    let follow = follows-then (recovered_standing left) (read_value edition) c.in_ok-edition.ensures.edition.spelled.good in
    let next : edition.serial ≡ left.serial + 1 = follow.serial in
    let same = c.loop-count.invariant.taken.serial in
    omega (arith, next, same)

pub take_in-requires-clause-small : goal.take_in-requires-clause-small
take_in-requires-clause-small g c =
    (follows-then (recovered_standing c.loop-count.left) (read_value c.in_ok-edition.edition) c.in_ok-edition.ensures.edition.spelled.good).small
