use Rattle.std.proofs.Common.{◌≡◌, ℕ, Option, List, ◌++◌, subst, sym, ◌∙◌}
use Rattle.std.specs.Prelude.{IfSome, codes}
use Rattle.std.specs.Cmp.Lexicographic.{same_text}
use Rattle.hex.specs.Hex.{encode_lower}
use Rattle.origins.specs.Origin.{origin_text}
use Rattle.issue_plan.proofs.SpellingLemmas.{file-behind}
use Rattle.issue_plan.proofs.spellings.is_roa_in.Goals as goal

pub returns-in-Some-2 : goal.returns-in-Some-2
returns-in-Some-2 c = λ is.
    let file = c.in-Some.file.now in
    let text = origin_text c.args.origin.now in
    let rest = c.in-Some-2.rest.now in
    let behind : file ≡ encode_lower text ++ rest =
    subst (λ o. IfSome o (λ rest. file ≡ encode_lower text ++ rest.now)) c.in-Some-2.is c.in_ok-rest.ensures in
    let last : rest ≡ codes ".roa" =
    same_text rest c.as_slice.result.now (sym (sym c.eq.ensures ∙ is)) ∙ c.as_slice.ensures in
    file-behind c.args.uri.now c.args.folder.now c.as_bytes.result.now c.as_bytes-2.result.now file text rest
    c.as_bytes.ensures.value c.as_bytes-2.ensures.value c.in-Some.ensures.cases.0 c.in-Some.ensures.cases.1 behind last
