use Rattle.std.proofs.Common.{◌∙◌, Some, sym, ap}
use Rattle.std.specs.Prelude.{IsSome}
use Rattle.gate_journal.specs.Format.{held_for}
use Rattle.gate_journal.specs.Storing.{stored, entry_bytes}
use Rattle.editions.specs.PublishedState.{PublishedStateValue}
use Rattle.editions.specs.Sheets.{sheet_of}
use Rattle.manager.proofs.Readying.{committed_of, shown_then}
use Rattle.manager.proofs.Rooms.{told_before}
use Rattle.manager.proofs.pressing.commit_shown.Goals as goal

pub show_last-requires-clause-ready : goal.show_last-requires-clause-ready
show_last-requires-clause-ready g c = c.requires.ready ∙ ap (λ (s : PublishedStateValue). Some (sheet_of s)) (sym c.in-Ok.ensures.at)

pub returns-clause-committed : goal.returns-clause-committed
returns-clause-committed g c =
    committed_of g.D.Disk c.args.prepared.edition c.in-Ok.told c.args.press.now c.commit.new.self c.retire_keys.new.self (record {
      at = c.in-Ok.ensures.at;
      site = c.commit.ensures.site;
      ring = c.commit.ensures.ring;
      ended = c.in-Ok.ensures.ended;
      session = c.commit.ensures.session;
      last_export = c.commit.ensures.last_export;
      files = c.in-Ok.ensures.files;
      records = c.in-Ok.ensures.records;
      known = told_before c.commit.new.self.journal.records (g.D.Disk.content c.commit.new.self.journal.disk) (g.D.Disk.content c.args.press.now.journal.disk)
          (stored (held_for c.args.press.now.journal.sizes) (entry_bytes c.args.prepared.entry)) (IsSome c.args.press.now.journal.records)
          c.commit.ensures.safe.told c.in-Ok.ensures.bytes c.press.ensures.safe.known;
      is_open = c.in-Ok.ensures.open;
      limit = c.commit.ensures.limit;
      later = c.commit.ensures.later;
      told_is = c.in-Ok.ensures.published;
    }) c.retire_keys.ensures.others c.retire_keys.ensures.kept c.retire_keys.ensures.dropped c.retire_keys.ensures.journal

pub returns-clause-shown : goal.returns-clause-shown
returns-clause-shown g c = shown_then c.args.board.now c.show_last.new.board c.commit.new.self.press.at c.args.prepared.edition.next c.in-Ok.ensures.at c.show_last.ensures
