use Rattle.std.proofs.Common.{ℕ, List, sym, subst}
use Rattle.record_forms.specs.Form.{AreBytes, Spells}
use Rattle.press_records.specs.Edition.{editions}
use Rattle.press_records.specs.Views.{recovered_standing}
use Rattle.press_core.specs.declared.loading.LoadFault.{LoadFault}
use Rattle.press_core.specs.inner.Loads.{IsStop, IsNoneAt}
use Rattle.press_core.proofs.Editions.{bad-stop}
use Rattle.press_core.proofs.reading.next_edition.Goals as goal

pub returns-in-Err-clause-refused : goal.returns-in-Err-clause-refused
returns-in-Err-clause-refused g c =
    let before = recovered_standing c.args.left.now in
    let bytes = c.record_into.new.into.items in
    let records = c.args.journal.now.records in
    let are : AreBytes bytes = subst AreBytes c.as_slice-bytes.ensures.value c.are_bytes.ensures in
    subst (λ (f : LoadFault). IsStop g.D.Disk (IsNoneAt records c.args.index before) c.args.journal.now.disk c.record_into.new.self.disk f) (sym c.bad.ensures)
    (bad-stop g.D.Disk records c.args.index before bytes c.args.journal.now.disk c.record_into.new.self.disk c.in-Err.fault
    c.in_ok-record_into.ensures.payload
    are
    (λ wanted is. c.in-Err.ensures.only wanted
    (subst (λ (b : List ℕ). Spells (editions before) wanted b) (sym c.as_slice-bytes.ensures.value) is)))
