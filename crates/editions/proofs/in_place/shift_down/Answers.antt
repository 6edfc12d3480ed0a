use Rattle.std.proofs.Common.{◌≡◌, ◌+◌, ◌-◌, ◌≤◌, suc, ◌∙◌, ◌++◌, ap, subst, arith, length, drop, take, List}
use Rattle.std.specs.List.{slice_set}
use Rattle.std.proofs.lemmas.List.{length-set, length-drop, length-take, take_at}
use borrow.Rule.Slice.PartMut.{mid_of, put_mid}
use Rattle.key_roll.specs.declared.issued.IssuedRow.{IssuedRow}
use Rattle.editions.proofs.StateLemmas.Shifts.{turned_down, length-turned}
use Rattle.editions.proofs.in_place.shift_down.Goals as goal

pub returns : goal.returns
returns c =
    let xs = c.args.rows.now.items in
    let from = c.args.from in
    let to = c.args.to in
    let all = c.deref_mut.result.now in
    let turned = c.rotate_right.new.self in
    let count = from + 1 - to in
    let same : all ≡ slice_set xs from c.args.row = c.deref_mut.ensures.value in
    let long : length all ≡ length xs = ap length same ∙ length-set xs from c.args.row in
    let within : to + count ≤ length all = omega (arith, long, c.requires.between, c.requires.bound) in
    let part : length (mid_of to count all) ≡ count = omega (arith, within, length-take count (drop to all), length-drop to all) in
    let last = length (mid_of to count all) - 1 in
    let sum : to + last ≡ from = omega (arith, part, c.requires.between) in
    let more : count ≡ suc last = omega (arith, part, c.requires.between) in
    let whole = put_mid to count all turned in
    let len : length whole ≡ c.args.rows.now.len = length-turned all turned to count within (c.rotate_right.ensures.len ∙ part) ∙ c.deref_mut.ensures.len in
    take_at whole _ c.args.rows.now.len len
    ∙ ap (λ (l : List IssuedRow). put_mid to count l turned) same
    ∙ turned_down xs turned to count last from c.args.row sum more c.requires.bound
    (subst (λ (l : List IssuedRow). turned ≡ drop last (mid_of to count l) ++ take last (mid_of to count l)) same c.rotate_right.ensures.after)
