use Rattle.std.proofs.Common.{ℕ, ◌+◌, ◌≤◌, List, length, inr, sym, ◌∙◌, ap, subst}
use Rattle.std.proofs.lemmas.Result.{err_from_is_err_and}
use Rattle.gate_journal.specs.Format.{held_for}
use Rattle.gate_journal.specs.View.{View as JournalView}
use Rattle.press_core.specs.JournalRecords.{IsRecordOf}
use Rattle.press_core.specs.Press.{PressValue}
use Rattle.krill_top.specs.inner.Gathered.{AreSince}
use Rattle.krill_top.proofs.Fitting.{edition_fits}
use Rattle.krill_top.proofs.pressing.prepare_all.Goals as goal

-- The signers made the edition, and memory ran out before readers could be shown it.
pub returns-in_err-sheet-clause-refused : goal.returns-in_err-sheet-clause-refused
returns-in_err-sheet-clause-refused g c =
    let p = err_from_is_err_and c.from_residual-in_err-sheet.result c.from_residual-in_err-sheet.ensures.1 in
    let made = c.in_ok-prepared.ensures in
    let is = made.prepared.is_prepared in
    rw (p.1, p.2) (record {
      same = made.kept;
      journal = made.journal;
      sizes = c.press.ensures.sizes;
      kept = made.signers;
      held = made.keys;
      cause = inr (record {
        groups = c.in_ok-gathered.gathered.items;
        since = subst (λ (cut : List ℕ). AreSince 0 c.args.desks.now cut c.in_ok-gathered.gathered.items) (c.cut.ensures ∙ ap (λ (p : PressValue). p.at.cut) c.press.ensures.press) c.in_ok-gathered.ensures;
        met = (
          sym (ap (λ (j : JournalView g.row.D.Denot). j.shut) made.journal) ∙ made.ready.fits.is_open,
          inr (record { work = is.made.work; planned = is.made.planned; out = inr (is.made.made, is.made.is_made) }),
        );
      });
    })

pub returns-clause-ready : goal.returns-clause-ready
returns-clause-ready g c =
    let made = c.in_ok-prepared.ensures in
    let press = c.args.press.now in
    record {
      groups = c.in_ok-gathered.gathered.items;
      since = subst (λ (cut : List ℕ). AreSince 0 c.args.desks.now cut c.in_ok-gathered.gathered.items) (c.cut.ensures ∙ ap (λ (p : PressValue). p.at.cut) c.press.ensures.press) c.in_ok-gathered.ensures;
      edition = made.prepared;
      kept = made.signers;
      held = made.keys;
      same = made.kept;
      journal = made.journal;
      can = made.ready;
      room = λ limit lists editions left has.
          edition_fits c.edition_records_go_on.ensures c.what_a_press_holds.ensures.records press.press.rrdp.session press.press.site lists editions press.press.at c.in_ok-prepared.prepared.edition c.in_ok-prepared.prepared.entry
          press.journal.records press.journal.sizes press.journal.limit c.press.ensures.sizes
          (subst (λ (j : JournalView g.row.D.Denot). held_for j.sizes + (length c.in_ok-prepared.prepared.entry + 9) ≤ j.limit) made.journal made.ready.fits.fits) limit left has
          (subst (λ (p : PressValue). IsRecordOf p.at c.in_ok-prepared.prepared.edition c.in_ok-prepared.prepared.entry) made.kept made.ready.recorded);
      sheet_is = c.in_ok-sheet.ensures;
    }
