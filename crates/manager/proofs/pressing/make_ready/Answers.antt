use Rattle.press_core.specs.PrepareInput.{start_of}
use Rattle.notice_board.specs.Lists.{last_serial}
use Rattle.manager.proofs.Readying.{above_shown, unready_short}
use Rattle.manager.proofs.pressing.make_ready.Goals as goal

pub ready-requires : goal.ready-requires
ready-requires g c =
    above_shown (start_of c.args.press.now.press c.args.now c.args.gathered.items) c.prepare.new.self.press.ring c.in_ok-prepared.prepared.edition (last_serial c.args.board.now.shown) c.in-Ok.sheet
    c.in_ok-prepared.ensures.prepared.is_prepared c.requires.serial c.in-Ok.ensures

pub returns-in_default-clause-refused : goal.returns-in_default-clause-refused
returns-in_default-clause-refused g c =
    unready_short (start_of c.args.press.now.press c.args.now c.args.gathered.items) c.args.press.now c.prepare.new.self c.in_ok-prepared.prepared (record {
      edition = c.in_ok-prepared.ensures.prepared;
      kept = c.prepare.ensures.signers;
      held = c.prepare.ensures.keys;
      same = c.prepare.ensures.kept;
      journal = c.prepare.ensures.journal;
      sizes = c.press.ensures.sizes;
      can = c.in_ok-prepared.ensures.ready;
    })

pub returns-then-is_err-clause-refused : goal.returns-then-is_err-clause-refused
returns-then-is_err-clause-refused g c =
    unready_short (start_of c.args.press.now.press c.args.now c.args.gathered.items) c.args.press.now c.prepare.new.self c.in_ok-prepared.prepared (record {
      edition = c.in_ok-prepared.ensures.prepared;
      kept = c.prepare.ensures.signers;
      held = c.prepare.ensures.keys;
      same = c.prepare.ensures.kept;
      journal = c.prepare.ensures.journal;
      sizes = c.press.ensures.sizes;
      can = c.in_ok-prepared.ensures.ready;
    })
