use Rattle.std.proofs.Common.{List, ℕ, subst}
use Rattle.std.proofs.lemmas.Result.{err_from_is_err_and}
use Rattle.signer_line.specs.Openings.{Ends}
use Rattle.signer_line.proofs.OpeningLemmas.{no_ending, passed_to}
use Rattle.signer_line.proofs.opening.pass_lines.Goals as goal

pub returns-in_err-line-clause-stop : goal.returns-in_err-line-clause-stop
returns-in_err-line-clause-stop g c =
    let p = err_from_is_err_and c.from_residual.result c.from_residual.ensures.1 in
    rw (p.1, p.2) (no_ending c.in_err-line.field-0.0 _ _ _ _ _ _ _ c.loop-passed.invariant.counted c.loop-passed.invariant.read c.in_err-line.ensures.stop)

pub returns-in-Some-clause-heard : goal.returns-in-Some-clause-heard
returns-in-Some-clause-heard g c =
    passed_to c.in-Some.ending _ _ _ _ _ _ c.loop-passed.invariant.read c.in_ok-line.ensures.heard c.in_ok-line.ensures.whole
    (subst (λ (xs : List ℕ). Ends c.in-Some.ending xs c.args.hello.now) c.as_bytes.ensures c.in-Some.ensures)
