use Rattle.editions.specs.Sheets.{sheet_of}
use Rattle.manager.specs.Run.{numbers_of}
use Rattle.manager.proofs.Readying.{shown_so}
use Rattle.manager.proofs.pressing.show_last.Goals as goal

pub returns : goal.returns
returns g c =
    shown_so c.args.board.now c.show.new.self (sheet_of c.args._press.now.press.at) g.E.Numbers.numbers (numbers_of c.args._press.now.press.at)
    c.requires.numbers c.requires.ready c.show.ensures.shown
