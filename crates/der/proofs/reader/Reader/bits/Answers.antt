use Rattle.std.proofs.Common.{◌∙◌, ap}
use Rattle.der.specs.Position.{Position}
use Rattle.der.specs.laws.ContentLaws.{bits-not_refused, bits-same}
use Rattle.std.proofs.lemmas.Result.{err_from_is_err_and}
use Rattle.der.proofs.Found.{bits_refused, bits_read}
use Rattle.der.proofs.reader.Reader.bits.Goals as goal

pub returns-in_err-bits-clause-only : goal.returns-in_err-bits-clause-only
returns-in_err-bits-clause-only c unused bytes rest bits small e =
    absurd (bits-not_refused c.self.inside.at c.self.inside.left.now unused bytes rest _ c.in_err-bits.ensures.read bits small (ap (λ (p : Position). p.left) c.self.view_is ∙ e))

pub returns-clause-only : goal.returns-clause-only
returns-clause-only c unused bytes rest bits small e =
    let same = bits-same c.self.inside.at c.self.inside.left.now unused bytes rest _ _ _ c.in_ok-bits.ensures.read bits small (ap (λ (p : Position). p.left) c.self.view_is ∙ e) in
    (same.0, same.1, c.pass.ensures.rest ∙ same.2)

pub returns-in_err-bits-clause-read : goal.returns-in_err-bits-clause-read
returns-in_err-bits-clause-read c =
    let p = err_from_is_err_and c.from_residual.result c.from_residual.ensures.1 in
    rw p.1 (bits_refused c.self.inside.at c.self.inside.left.now c.args.self.now.left _ c.in_err-bits.ensures.read (ap (λ (p : Position). p.left) c.self.view_is))

pub returns-clause-read : goal.returns-clause-read
returns-clause-read c =
    bits_read c.self.inside.at c.self.inside.left.now c.args.self.now.left _ _ _ _ c.in_ok-bits.ensures.read c.pass.ensures.rest (ap (λ (p : Position). p.left) c.self.view_is)
