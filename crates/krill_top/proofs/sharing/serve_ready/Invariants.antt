use Rattle.manager.specs.Ready.{words_of, named_of}
use Rattle.krill_top.proofs.sharing.serve_ready.Given as goal

abbrev pub ghosts-serve_store : goal.ghosts-serve_store
ghosts-serve_store g a = record {
  words = words_of a.ready.opened.desks.items;
  named = named_of g.D.Disk g.O.Outlet a.ready.opened.desks.items a.ready.opened.press a.ready.opened.board a.ready.opened.outlet;
}
