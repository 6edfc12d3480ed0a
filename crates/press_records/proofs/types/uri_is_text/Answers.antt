use Rattle.std.proofs.Common.{◌≡◌, List, ℕ, true, ◌∙◌, subst}
use Rattle.std.specs.Str.{is_utf8}
use Rattle.std.proofs.lemmas.Str.{is_utf8-from_IsUtf8}
use Rattle.press_records.proofs.types.uri_is_text.Goals as goal

pub returns : goal.returns
returns c =
    let same = c.as_bytes-text.ensures.value ∙ (c.as_str.ensures ∙ c.uri.ensures) in
    subst (λ (bytes : List ℕ). is_utf8 bytes ≡ true) same (is_utf8-from_IsUtf8 c.as_bytes-text.result.now c.as_bytes-text.ensures.utf8)
