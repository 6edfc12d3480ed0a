use Rattle.std.proofs.Common.{◌∙◌, arith}
use Rattle.std.proofs.lemmas.List.{take_rest, length-drop}
use Rattle.outlet_api.proofs.Drafting.{grown_more, write_ok}
use Rattle.outlet_api.proofs.folder.write_all.Goals as goal

pub pieces-preserved-in-Ok : goal.pieces-preserved-in-Ok
pieces-preserved-in-Ok g c =
    let call = c.in-Ok.ensures in
    let some = rw take_rest at call.within in
    record {
      within = omega (arith, some, c.pieces.invariant.within, length-drop c.pieces.done c.args.bytes.now);
      grown =
          grown_more c.args.bytes.now c.pieces.done c.in-Ok.n (g.F.RawFolder.folder c.args.folder.now) (g.F.RawFolder.folder c.pieces.folder) (g.F.RawFolder.folder c.write.new.self)
          c.pieces.invariant.grown (rw take_rest at call.grown);
      counted =
          write_ok (g.F.RawFolder.fault_count c.pieces.folder) (g.F.RawFolder.fault_count c.write.new.self) (g.F.RawFolder.patience c.pieces.folder) (g.F.RawFolder.patience c.write.new.self) c.in-Ok.n call.faults
          ∙ c.pieces.invariant.counted;
    }
