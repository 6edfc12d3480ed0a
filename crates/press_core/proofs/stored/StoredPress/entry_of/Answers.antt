use Rattle.std.proofs.Common.{◌≡◌, ◌+◌, List, ℕ, length, sym, ap, subst, ◌∙◌, arith}
use Rattle.gate_journal.specs.Answers.{CanAppend}
use Rattle.editions.specs.PublishedState.{PublishedStateValue, IsConsistentState}
use Rattle.press_core.specs.JournalRecords.{press_limit, record_bytes}
use Rattle.press_core.specs.Tables.{IsHashed}
use Rattle.press_core.specs.Stored.{StoredValue}
use Rattle.press_core.proofs.Entries.{EntryLaws, is-record, fits-whole}
use Rattle.press_core.proofs.stored.StoredPress.entry_of.Goals as goal

pub returns-clause-recorded : goal.returns-clause-recorded
returns-clause-recorded g c = λ start ring same is.
    let stored = c.args.self.now in
    let entry = c.in_ok-entry_with-in-None.field-0 in
    let laws : EntryLaws = record { recordable = c.prepared_editions_can_be_recorded.ensures; good = c.recordable_editions_have_a_record.ensures } in
    let limit : stored.journal.limit ≡ press_limit = subst (λ (s : StoredValue _). s.journal.limit ≡ press_limit) c.self.view_is c.self.invariant.0 in
    let hashes : IsHashed stored.press.at.set stored.press.at.issued = subst (λ (s : StoredValue _). IsHashed s.press.at.set s.press.at.issued) c.self.view_is c.self.invariant.1 in
    let at : c.published_state.result.now ≡ stored.press.at = c.published_state.ensures ∙ ap (λ (s : StoredValue _). s.press.at) c.self.view_is in
    let kept : IsConsistentState stored.press.at = subst IsConsistentState at c.record_of.ensures.kept in
    let built = c.in_ok-entry_with-in-None.ensures in
    let can = subst (λ (s : StoredValue _). CanAppend s.journal c.saturating_add-needed.result) c.self.view_is c.in-None.ensures.answer in
    let fits : CanAppend stored.journal (length entry + 9) =
    subst (λ (b : List ℕ). CanAppend stored.journal (length b + 9)) (sym built)
    (fits-whole stored.journal (length c.in_ok-built.built) c.len.result c.saturating_add-needed.result limit c.len.ensures
    (omega (arith, c.saturating_add-needed.ensures)) can) in
    let spelled : entry ≡ record_bytes stored.press.at c.args.edition.now =
    built ∙ (c.in_ok-built.ensures.spelled ∙ ap (λ (a : PublishedStateValue). record_bytes a c.args.edition.now) at) in
    is-record laws stored.press.at stored.journal c.args.edition.now entry kept hashes limit fits c.in_ok-built.ensures.typed spelled start ring same is
