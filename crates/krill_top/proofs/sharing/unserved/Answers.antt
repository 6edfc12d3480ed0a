use Rattle.std.proofs.Common.{◌≡◌, ◌∙◌, map, sym, ap, subst}
use Rattle.std.specs.Prelude.{Some}
use Rattle.krill_top.specs.declared.ends.Ends.{Ends}
use Rattle.krill_top.specs.Statuses.{run_status}
use Rattle.krill_top.specs.inner.Opened.{AreClosed}
use Rattle.krill_top.proofs.sharing.unserved.Goals as goal

pub returns : goal.returns
returns g c =
    let Devices : Type 0 = Ends g.row.D.Denot g.row.G.Denot g.row.O.Denot in
    let end = c.run_end.ensures in
    record {
      closed = subst (λ (e : Devices). AreClosed g.D.Disk c.args.parts.desks.items e.desks.items) (sym end.ends) c.close_desks.ensures;
      press = ap (λ (e : Devices). e.press) end.ends ∙ c.close-disk.ensures.disk;
      safe = c.close-disk.ensures.safe;
      signers = ap (λ (e : Devices). map g.G.Signer.state e.signers.items) end.ends ∙ c.take_back.ensures ∙ c.close-disk.ensures.ring;
      outlet_is = ap (λ (e : Devices). e.outlet) end.ends;
      untouched = end.sessions;
      kept = end.kept ∙ c.new.ensures;
      fault = end.fault ∙ ap Some c.requires.memory;
      status = end.status ∙ ap run_status (sym end.fault);
    }
