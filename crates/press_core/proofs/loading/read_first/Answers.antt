use Rattle.std.proofs.Common.{ℕ, List, sym, subst}
use Rattle.press_records.specs.Store.{IsStoreRecord, store_value}
use Rattle.press_core.specs.declared.loading.LoadFault.{LoadFault}
use Rattle.press_core.specs.inner.Loads.{IsStop, IsNoneFirst}
use Rattle.press_core.proofs.Heads.{headed-at, first-stop}
use Rattle.press_core.proofs.loading.read_first.Goals as goal

pub returns-in-Ok-clause-named : goal.returns-in-Ok-clause-named
returns-in-Ok-clause-named g c =
    headed-at (store_value c.in-Ok.store) c.args.journal.now.records c.in_ok-bytes.bytes.items c.in_ok-bytes.ensures.payload
    (subst (λ (b : List ℕ). IsStoreRecord (store_value c.in-Ok.store) b) c.deref.ensures.value c.in-Ok.ensures.found)

pub returns-clause-refused : goal.returns-clause-refused
returns-clause-refused g c =
    let records = c.args.journal.now.records in
    let bytes = c.in_ok-bytes.bytes.items in
    subst (λ (f : LoadFault). IsStop g.D.Disk (IsNoneFirst records) c.args.journal.now.disk c.record.new.self.disk f) (sym c.bad.ensures)
    (first-stop g.D.Disk records bytes c.args.journal.now.disk c.record.new.self.disk c.in-Err.fault c.in_ok-bytes.ensures.payload
    (λ wanted is. c.in-Err.ensures.only wanted (subst (λ (b : List ℕ). IsStoreRecord wanted b) (sym c.deref.ensures.value) is)))
