use Rattle.std.proofs.Common.{sym, ◌∙◌}
use Rattle.std.proofs.lemmas.List.{nil_from_length}
use Rattle.signer_ring.specs.declared.workers.Worker.{Worker}
use Rattle.signer_ring.proofs.Moving.{taken-all}
use Rattle.signer_ring.proofs.workers.take_out.Goals as goal

pub returns-clause-workers : goal.returns-clause-workers
returns-clause-workers g c =
    taken-all (λ (w : Worker g.row.S.Denot). w.signer) c.loop-signer.signers.items c.args.signers.now.items c.loop-signer.workers.items c.reverse.new.self.items
    (nil_from_length c.loop-signer.signers.items (sym c.loop-signer.signers.ok.0 ∙ c.in_default.ensures.cases.0))
    c.loop-signer.invariant.all c.reverse.ensures.items
