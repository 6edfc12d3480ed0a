use Rattle.std.proofs.Common.{◌≡◌, ◌++◌, List, map, sym, ap, subst, ◌∙◌}
use Rattle.signer_api.specs.State.{SignerState}
use Rattle.signer_ring.specs.declared.workers.Worker.{Worker}
use Rattle.signer_ring.specs.inner.Working.{Told, AllWorked}
use Rattle.signer_ring.proofs.Worked.{all-worked}
use Rattle.signer_ring.proofs.workers.have_all_work.Goals as goal

pub returns-clause-worked : goal.returns-clause-worked
returns-clause-worked g c =
    let jobs = c.args.jobs.now in
    let signer = λ (w : Worker g.row.S.Denot). w.signer in
    let told_of = λ (w : Worker g.row.S.Denot). w.told in
    let state = λ (s : g.row.S.Denot). g.S.Signer.state s in
    let before = c.in_ok-workers.workers.items in
    let after = c.worked.result.items in
    let told_is : c.give_back.new.told.items ≡ map told_of after =
    c.give_back.ensures.told ∙ ap (λ (l : List Told). l ++ map told_of after) c.in_ok-told.ensures.items in
    let new_is : map state c.give_back.new.signers.items ≡ map state (map signer after) =
    ap (map state) (c.give_back.ensures.signers ∙ ap (λ (l : List g.row.S.Denot). l ++ map signer after) c.in_ok-workers.ensures.out) in
    let old_is : map state c.args.signers.now.items ≡ map state (map signer before) = ap (map state) (sym c.in_ok-workers.ensures.workers) in
    subst (λ (l : List Told). AllWorked jobs l (map state c.args.signers.now.items) (map state c.give_back.new.signers.items)) (sym told_is)
    (subst (λ (l : List SignerState). AllWorked jobs (map told_of after) l (map state c.give_back.new.signers.items)) (sym old_is)
    (subst (λ (l : List SignerState). AllWorked jobs (map told_of after) (map state (map signer before)) l) (sym new_is)
    (all-worked signer told_of state jobs before after c.worked.ensures.count c.worked.ensures.each)))
