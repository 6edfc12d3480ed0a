use Rattle.std.proofs.Common.{◌≡◌, ◌++◌, ◌+◌, ℕ, List, [], ◌∷◌, length, take, sym, ap, ◌∙◌, append-nil, append_assoc, arith}
use Rattle.std.specs.List.{flat_map}
use Rattle.std.proofs.lemmas.List.{take_more, take_all}
use Rattle.res_sets.specs.declared.numbers.Range.{Range}
use Rattle.cmd_codec.specs.Spelling.{part_spelling, range_spelling}
use Rattle.cmd_codec.specs.Spelling.Part.{TheNumber}
use Rattle.cmd_codec.proofs.Sizes.{ranges_parts, appended}
use Rattle.cmd_codec.proofs.writing.push_ranges.Goals as goal

pub loop-range-init : goal.loop-range-init
loop-range-init c = c.in_ok-push_number.ensures ∙ sym (append-nil _)

pub loop-range-preserved : goal.loop-range-preserved
loop-range-preserved c =
    let rs : List Range = c.as_slice-ranges.result.now in
    let i : ℕ = c.loop-range.range-index in
    let r : Range = c.range-item.result in
    let grown : take (i + 1) rs ≡ take i rs ++ r ∷ [] =
    take_more rs i r c.loop-range-test.true ∙ ap (λ (x : Range). take i rs ++ x ∷ []) (sym c.range-item.is) in
    appended range_spelling rs i r c.args.bytes.now.items (part_spelling (TheNumber (length rs))) c.loop-range.bytes.items c.push_range.new.bytes.items grown c.loop-range.invariant c.in_ok-push_range.ensures

pub returns : goal.returns
returns c =
    let rs : List Range = c.as_slice-ranges.result.now in
    let all : take c.loop-range.range-index rs ≡ rs = take_all c.loop-range.range-index rs (omega arith) in
    let whole : List Range → List ℕ = λ (xs : List Range). part_spelling (TheNumber (length xs)) ++ flat_map range_spelling xs in
    c.loop-range.invariant ∙ ap (λ (xs : List Range). c.args.bytes.now.items ++ part_spelling (TheNumber (length rs)) ++ flat_map range_spelling xs) all
    ∙ append_assoc c.args.bytes.now.items (part_spelling (TheNumber (length rs))) (flat_map range_spelling rs)
    ∙ ap (λ (t : List ℕ). c.args.bytes.now.items ++ t) (ap whole c.as_slice-ranges.ensures.ranges ∙ sym (ranges_parts c.args.set.now))
