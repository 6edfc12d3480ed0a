use Rattle.std.proofs.Common.{inl, inr, refl}
use Rattle.session_lines.proofs.running.serve_passes.Goals as goal

pub returns-clause-served : goal.returns-clause-served
returns-clause-served g c = inl (record {
  given = c.in-Ok.passes.items;
  split = c.in-Ok.ensures.given;
  served = c.serve_seats-passes.ensures;
})
