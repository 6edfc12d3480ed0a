use Rattle.std.proofs.Common.{◌≡◌, ◌^◌, ◌-◌, ◌+◌, ◌++◌, ℕ, length, min, sym, ap, ◌∙◌, arith}
use Rattle.std.specs.List.{flat_map}
use Rattle.std.proofs.lemmas.List.{length-append, take_all}
use Rattle.record_forms.specs.Forms.{bytes_32}
use Rattle.record_forms.specs.laws.ByteLaws.{length-bytes_32}
use Rattle.record_forms.proofs.lists.counted_len.Goals as goal

pub returns : goal.returns
returns g c =
    let f = g.W.ItemWriter.spelling c.args.writer.now in
    let i : ℕ = c.loop-item.item-index in
    let all = take_all i c.args.items.now (omega arith) in
    let size : length (bytes_32 (length c.args.items.now) ++ flat_map f c.args.items.now) ≡ 4 + length (flat_map f c.args.items.now) =
    omega (arith, length-append (bytes_32 (length c.args.items.now)) (flat_map f c.args.items.now), length-bytes_32 (length c.args.items.now)) in
    c.loop-item.invariant ∙ ap (λ xs. min (4 + length (flat_map f xs)) (2 ^ 64 - 1)) all ∙ ap (λ (n : ℕ). min n (2 ^ 64 - 1)) (sym size)
