use Rattle.press_core.proofs.AfterExports.{Laws, coherent_told, shown_told, on_ok}
use Rattle.press_core.proofs.press.Press.export_to.Goals as goal

pub returns-clause-coherent : goal.returns-clause-coherent
returns-clause-coherent g c =
    let laws : Laws = record {
      all = c.exports_keep_files_coherent.ensures.all;
      all_in_the_end = c.exports_keep_files_coherent.ensures.all_in_the_end;
      newest = c.exports_keep_files_coherent.ensures.newest;
      newest_in_the_end = c.exports_keep_files_coherent.ensures.newest_in_the_end;
      beside = c.exports_keep_files_coherent.ensures.beside;
    } in
    λ editions has shows coherent. coherent_told laws c.args.self.now editions (g.O.Outlet.files c.args.outlet.now) (g.O.Outlet.files c.export_last-ended.new.outlet)
    (c.export_last-ended.ensures.small editions has) (c.export_last-ended.ensures.front editions has) shows coherent

pub returns-clause-shown : goal.returns-clause-shown
returns-clause-shown g c =
    let laws : Laws = record {
      all = c.exports_keep_files_coherent.ensures.all;
      all_in_the_end = c.exports_keep_files_coherent.ensures.all_in_the_end;
      newest = c.exports_keep_files_coherent.ensures.newest;
      newest_in_the_end = c.exports_keep_files_coherent.ensures.newest_in_the_end;
      beside = c.exports_keep_files_coherent.ensures.beside;
    } in
    on_ok c.export_last-ended.result _ _
    (λ done lists editions left has shows. shown_told laws c.args.self.now lists editions (g.O.Outlet.files c.args.outlet.now) (g.O.Outlet.files c.export_last-ended.new.outlet)
    (c.export_last-ended.ensures.small editions has) c.requires left (done editions has) shows)
    c.export_last-ended.ensures.done
