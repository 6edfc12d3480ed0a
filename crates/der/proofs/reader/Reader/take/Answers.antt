use Rattle.std.proofs.Common.{◌∙◌, ap}
use Rattle.der.specs.Position.{Position}
use Rattle.der.specs.laws.ElementLaws.{element-not_refused, element-same}
use Rattle.std.proofs.lemmas.Result.{err_from_is_err_and}
use Rattle.der.proofs.Found.{element_refused, element_read}
use Rattle.der.proofs.reader.Reader.take.Goals as goal

pub returns-in_err-whole-clause-only : goal.returns-in_err-whole-clause-only
returns-in_err-whole-clause-only c content rest small e =
    absurd (element-not_refused c.self.inside.at c.args.tag c.self.inside.left.now content rest _ c.in_err-whole.ensures.read small (ap (λ (p : Position). p.left) c.self.view_is ∙ e))

pub returns-clause-only : goal.returns-clause-only
returns-clause-only c content rest small e =
    let same = element-same c.self.inside.at c.args.tag c.self.inside.left.now content rest _ _ c.in_ok-whole.ensures.read small (ap (λ (p : Position). p.left) c.self.view_is ∙ e) in
    (same.0, c.pass.ensures.rest ∙ same.1)

pub returns-in_err-whole-clause-read : goal.returns-in_err-whole-clause-read
returns-in_err-whole-clause-read c =
    let p = err_from_is_err_and c.from_residual.result c.from_residual.ensures.1 in
    rw p.1 (element_refused c.self.inside.at c.args.tag c.self.inside.left.now c.args.self.now.left _ c.in_err-whole.ensures.read (ap (λ (p : Position). p.left) c.self.view_is))

pub returns-clause-read : goal.returns-clause-read
returns-clause-read c =
    element_read c.self.inside.at c.args.tag c.self.inside.left.now c.args.self.now.left _ _ _ c.in_ok-whole.ensures.read c.pass.ensures.rest (ap (λ (p : Position). p.left) c.self.view_is)
