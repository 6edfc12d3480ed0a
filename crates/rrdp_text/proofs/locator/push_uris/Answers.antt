use Rattle.std.proofs.Common.{◌++◌, ◌∷◌, [], List, ℕ, ap, ◌∙◌, arith}
use Rattle.std.specs.Prelude.{String}
use Rattle.std.specs.List.{flat_map}
use Rattle.std.specs.String.{string_bytes}
use Rattle.std.specs.declared.alloc.Global.{Global}
use Rattle.std.proofs.lemmas.List.{take_all}
use Rattle.rrdp_text.proofs.UriLines.{lines_of}
use Rattle.rrdp_text.proofs.locator.push_uris.Goals as goal

pub returns : goal.returns
returns c =
    let uris = c.args.uris.now in
    c.loop-uri.invariant
    ∙ (ap (λ (us : List (String Global)). string_bytes c.args.out.now ++ flat_map (λ (uri : String Global). string_bytes uri ++ 10 ∷ []) us)
    (take_all c.loop-uri.uri-index uris (omega (arith, c.loop-uri-test.false)))
    ∙ ap (λ (l : List ℕ). string_bytes c.args.out.now ++ l) (lines_of uris))
