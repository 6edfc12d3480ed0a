use Rattle.std.proofs.Common.{◌≡◌, ◌∙◌, ◌++◌, ℕ, List, codes, sym, ap, append_assoc}
use Rattle.std.proofs.lemmas.Result.{IfOk-weaker}
use Rattle.hex.specs.Hex.{encode_lower}
use Rattle.krill_top.specs.Statuses.{named}
use Rattle.krill_top.proofs.faults.mismatch_text.Goals as goal

five_parts : (a b c d e : List ℕ) → (((a ++ b) ++ c) ++ d) ++ e ≡ a ++ (b ++ (c ++ (d ++ e)))
five_parts a b c d e = simp append_assoc

pub returns : goal.returns
returns c =
    let start : List ℕ = codes "RowMismatch key " in
    let key : List ℕ = encode_lower c.args.key.now.bytes in
    let field : List ℕ = named (codes " field ") c.args.field in
    let kept : List ℕ = named (codes " kept ") c.args.kept in
    let found : List ℕ = named (codes " found ") c.args.found in
    IfOk-weaker c.format.result _ _ (λ text is.
    is ∙ ap (λ (k : List ℕ). start ++ (k ++ (field ++ (kept ++ found)))) c.in_ok-key.ensures ∙ sym (five_parts start key field kept found)) c.format.ensures.ok
