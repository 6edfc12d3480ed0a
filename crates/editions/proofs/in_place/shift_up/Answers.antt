use Rattle.std.proofs.Common.{◌≡◌, ◌+◌, ◌-◌, ◌≤◌, ◌∙◌, ◌++◌, ap, subst, arith, length, drop, take, List}
use Rattle.std.specs.List.{slice_set}
use Rattle.std.proofs.lemmas.List.{length-set, length-drop, length-take, take_at}
use borrow.Rule.Slice.PartMut.{mid_of, put_mid}
use Rattle.key_roll.specs.declared.issued.IssuedRow.{IssuedRow}
use Rattle.editions.proofs.StateLemmas.Shifts.{turned_up, length-turned}
use Rattle.editions.proofs.in_place.shift_up.Goals as goal

pub returns : goal.returns
returns c =
    let xs = c.args.rows.now.items in
    let from = c.args.from in
    let all = c.deref_mut.result.now in
    let turned = c.rotate_left.new.self in
    let count = c.args.to - from in
    let same : all ≡ slice_set xs from c.args.row = c.deref_mut.ensures.value in
    let long : length all ≡ length xs = ap length same ∙ length-set xs from c.args.row in
    let sum : from + count ≡ c.args.to = omega (arith, c.requires.between) in
    let within : from + count ≤ length all = omega (arith, long, sum, c.requires.bound) in
    let part : length (mid_of from count all) ≡ count = omega (arith, within, length-take count (drop from all), length-drop from all) in
    let whole = put_mid from count all turned in
    let len : length whole ≡ c.args.rows.now.len = length-turned all turned from count within (c.rotate_left.ensures.len ∙ part) ∙ c.deref_mut.ensures.len in
    take_at whole _ c.args.rows.now.len len
    ∙ ap (λ (l : List IssuedRow). put_mid from count l turned) same
    ∙ turned_up xs turned from count c.args.to c.args.row sum (omega (arith, c.requires.between)) c.requires.bound
    (subst (λ (l : List IssuedRow). turned ≡ drop 1 (mid_of from count l) ++ take 1 (mid_of from count l)) same c.rotate_left.ensures.after)
