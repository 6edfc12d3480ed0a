use Rattle.std.proofs.Common.{rules, ◌≡◌, None, inr, sym, ap, subst}
use Rattle.std.proofs.lemmas.Result.{err_from_is_err_and}
use Rattle.editions.specs.PublishedState.{PublishedStateValue}
use Rattle.press_core.specs.Press.{PressValue}
use Rattle.press_core.specs.PrepareInput.{start_of}
use Rattle.press_core.specs.Planned.{IsPrepared}
use Rattle.press_core.specs.Next.{NextValue}
use Rattle.press_core.specs.JournalRecords.{IsRecordOf}
use Rattle.press_core.specs.Stored.{StoredValue}
use Rattle.press_core.specs.StoredAnswers.{IsPrepareFault}
use Rattle.press_core.specs.declared.stored_fault.PrepareFault.TheVariants.{Memory}
use Rattle.press_core.specs.Signers.{HoldKeys}
use Rattle.press_core.proofs.Entries.{stored_of, none-for, short-behind, can-commit}
use Rattle.press_core.proofs.stored.StoredPress.prepare.Goals as goal

pub returns-in_err-entry-clause-refused : goal.returns-in_err-entry-clause-refused
returns-in_err-entry-clause-refused g c =
    let p = err_from_is_err_and c.from_residual.result c.from_residual.ensures.1 in
    let start = start_of c.self.inside.press c.args.now c.args.gathered.items in
    let ring = c.prepare.new.self.ring in
    let is_open : c.self.inside.journal.shut ≡ None = search rules in
    let at = ap (λ (press : PressValue). press.at) c.prepare.ensures.kept in
    let is = subst (IsPrepared start ring) (sym c.edition.ensures) c.in-Ok.ensures.prepared.is_prepared in
    let refused = none-for start ring (stored_of c.prepare.new.self c.self.inside.journal) c.edition.result.now c.in_err-entry.field-0.0 at is_open is
    c.in_err-entry.ensures.refused in
    rw (p.1, p.2) (subst (λ (s : StoredValue _). IsPrepareFault (start_of s.press c.args.now c.args.gathered.items) ring s.journal c.in_err-entry.field-0.0)
    c.self.view_is refused)

pub returns-in_err-reserve_place-clause-refused : goal.returns-in_err-reserve_place-clause-refused
returns-in_err-reserve_place-clause-refused g c =
    let p = err_from_is_err_and c.from_residual-in_err-reserve_place.result c.from_residual-in_err-reserve_place.ensures.1 in
    let start = start_of c.self.inside.press c.args.now c.args.gathered.items in
    let ring = c.prepare.new.self.ring in
    let is_open : c.self.inside.journal.shut ≡ None = search rules in
    rw (p.1, p.2) (subst (λ (s : StoredValue _). IsPrepareFault (start_of s.press c.args.now c.args.gathered.items) ring s.journal Memory)
    c.self.view_is (is_open, inr (short-behind start ring c.in-Ok.prepared.edition c.in-Ok.ensures.prepared.is_prepared)))

pub returns-clause-ready : goal.returns-clause-ready
returns-clause-ready g c =
    let start = start_of c.self.inside.press c.args.now c.args.gathered.items in
    let ring = c.prepare.new.self.ring in
    let edition = c.in-Ok.prepared.edition in
    let entry = c.in_ok-entry.entry in
    let is = c.in-Ok.ensures.prepared.is_prepared in
    let at : c.prepare.new.self.at ≡ c.self.inside.press.at = ap (λ (press : PressValue). press.at) c.prepare.ensures.kept in
    let told = c.in_ok-entry.ensures.recorded start ring (sym at) (subst (IsPrepared start ring) (sym c.edition.ensures) is) in
    let there = subst (λ (n : NextValue). IsRecordOf c.prepare.new.self.at n entry) c.edition.ensures told in
    let recorded = subst (λ (a : PublishedStateValue). IsRecordOf a edition entry) at there in
    can-commit c.prepared_tables_tell_hashes.ensures (stored_of c.self.inside.press c.self.inside.journal)
    (stored_of c.prepare.new.self c.reserve_place.new.self) c.args.now c.args.gathered.items ring
    (record { edition = edition; delta = c.in-Ok.prepared.delta; entry = entry }) c.self.invariant.1 is c.in-Ok.ensures.delta recorded
    c.in_ok-entry.ensures.fits c.prepare.ensures.kept c.reserve_place.ensures.same c.in_ok-reserve_place.ensures.place

pub returns-in_err-entry-clause-keys : goal.returns-in_err-entry-clause-keys
returns-in_err-entry-clause-keys g c =
    subst (λ (s : StoredValue _). HoldKeys s.press.ring c.prepare.new.self.ring) c.self.view_is c.prepare.ensures.keys

pub returns-in_err-reserve_place-clause-keys : goal.returns-in_err-reserve_place-clause-keys
returns-in_err-reserve_place-clause-keys g c =
    subst (λ (s : StoredValue _). HoldKeys s.press.ring c.prepare.new.self.ring) c.self.view_is c.prepare.ensures.keys

pub returns-clause-keys : goal.returns-clause-keys
returns-clause-keys g c =
    subst (λ (s : StoredValue _). HoldKeys s.press.ring c.prepare.new.self.ring) c.self.view_is c.prepare.ensures.keys
