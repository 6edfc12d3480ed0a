use Rattle.std.proofs.Common.{◌∙◌, ℕ, Ok, ap}
use Rattle.der.specs.Position.{Position}
use Rattle.der.specs.laws.ContentLaws.{unsigned-not_refused, unsigned-same}
use Rattle.std.proofs.lemmas.Result.{err_from_is_err_and}
use Rattle.der.proofs.Found.{unsigned_refused, unsigned_read}
use Rattle.der.proofs.reader.Reader.unsigned.Goals as goal

pub returns-in_err-n-clause-only : goal.returns-in_err-n-clause-only
returns-in_err-n-clause-only c n rest small e =
    absurd (unsigned-not_refused c.self.inside.at c.self.inside.left.now n rest _ c.in_err-n.ensures.read small (ap (λ (p : Position). p.left) c.self.view_is ∙ e))

pub returns-clause-only : goal.returns-clause-only
returns-clause-only c n rest small e =
    let same = unsigned-same c.self.inside.at c.self.inside.left.now n rest _ _ c.in_ok-n.ensures.read small (ap (λ (p : Position). p.left) c.self.view_is ∙ e) in
    (ap (λ (m : ℕ). Ok m) same.0, c.pass.ensures.rest ∙ same.1)

pub returns-in_err-n-clause-read : goal.returns-in_err-n-clause-read
returns-in_err-n-clause-read c =
    let p = err_from_is_err_and c.from_residual.result c.from_residual.ensures.1 in
    rw p.1 (unsigned_refused c.self.inside.at c.self.inside.left.now c.args.self.now.left _ c.in_err-n.ensures.read (ap (λ (p : Position). p.left) c.self.view_is))

pub returns-clause-read : goal.returns-clause-read
returns-clause-read c =
    unsigned_read c.self.inside.at c.self.inside.left.now c.args.self.now.left _ _ _ c.in_ok-n.ensures.read c.pass.ensures.rest (ap (λ (p : Position). p.left) c.self.view_is)
