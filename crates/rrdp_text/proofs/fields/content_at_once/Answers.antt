use Rattle.std.proofs.Common.{◌≡◌, ◌∙◌, ℕ, List, Vec, Global, take, refl, sym}
use Rattle.std.proofs.lemmas.Bool.{eqb-true}
use Rattle.base64.specs.GeneralPurpose.{encode_of, IsBytes}
use Rattle.base64.specs.Engines.{standard}
use Rattle.rrdp_text.proofs.AtOnce.{at_once, kept}
use Rattle.rrdp_text.proofs.fields.content_at_once.Goals as goal

pub returns : goal.returns
returns c =
    let end = c.in_ok-end.end in
    let text : List ℕ = take end c.args.bytes.now in
    let some = sym c.ok.ensures.value ∙ c.in_ok-content.was in
    at_once c.args.bytes.now text c.in_ok-content.content.items end c.in_ok-end.ensures.0.high (eqb-true _ 60 c.in_ok-end.ensures.1) refl
    (kept c.decode.result c.in_ok-content.content (λ (v : Vec ℕ Global). text ≡ encode_of standard v.items) some (c.decode.ensures.exact (refl, refl)))
    (kept c.decode.result c.in_ok-content.content (λ (v : Vec ℕ Global). IsBytes v.items) some c.decode.ensures.bytes)
