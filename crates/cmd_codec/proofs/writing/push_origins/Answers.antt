use Rattle.std.proofs.Common.{◌≡◌, ◌++◌, ◌+◌, ℕ, List, [], ◌∷◌, length, take, sym, ap, ◌∙◌, append-nil, append_assoc, arith}
use Rattle.std.specs.List.{flat_map}
use Rattle.std.proofs.lemmas.List.{take_more, take_all}
use Rattle.origins.specs.declared.Origin.{Origin}
use Rattle.cmd_codec.specs.Spelling.{part_spelling, origin_spelling}
use Rattle.cmd_codec.specs.Spelling.Part.{TheNumber}
use Rattle.cmd_codec.proofs.Sizes.{origins_parts, appended}
use Rattle.cmd_codec.proofs.writing.push_origins.Goals as goal

pub loop-origin-init : goal.loop-origin-init
loop-origin-init c = c.in_ok-push_number.ensures ∙ ap (λ (n : ℕ). c.args.bytes.now.items ++ part_spelling (TheNumber n)) c.len.ensures.len ∙ sym (append-nil _)

pub loop-origin-preserved : goal.loop-origin-preserved
loop-origin-preserved c =
    let os : List Origin = c.as_slice-origins.result.now in
    let i : ℕ = c.loop-origin.origin-index in
    let o : Origin = c.origin-item.result in
    let grown : take (i + 1) os ≡ take i os ++ o ∷ [] =
    take_more os i o c.loop-origin-test.true ∙ ap (λ (x : Origin). take i os ++ x ∷ []) (sym c.origin-item.is) in
    appended origin_spelling os i o c.args.bytes.now.items (part_spelling (TheNumber (length c.args.list.now))) c.loop-origin.bytes.items c.push_origin.new.bytes.items grown c.loop-origin.invariant c.in_ok-push_origin.ensures

pub returns : goal.returns
returns c =
    let os : List Origin = c.as_slice-origins.result.now in
    let list : List Origin = c.args.list.now in
    let all : take c.loop-origin.origin-index os ≡ list = take_all c.loop-origin.origin-index os (omega arith) ∙ c.as_slice-origins.ensures in
    c.loop-origin.invariant ∙ ap (λ (xs : List Origin). c.args.bytes.now.items ++ part_spelling (TheNumber (length list)) ++ flat_map origin_spelling xs) all
    ∙ append_assoc c.args.bytes.now.items (part_spelling (TheNumber (length list))) (flat_map origin_spelling list) ∙ ap (λ (t : List ℕ). c.args.bytes.now.items ++ t) (sym (origins_parts list))
