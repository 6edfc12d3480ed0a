use Rattle.std.proofs.Common.{◌≡◌, ◌+◌, ◌-◌, ◌<◌, suc, refl, ◌∙◌, ap, arith, length, drop, rules, List}
use Rattle.std.specs.Prelude.{remove}
use Rattle.std.proofs.lemmas.List.{length-drop, length-take, take_at}
use borrow.Rule.Slice.PartMut.{mid_of, put_mid}
use Rattle.origins.specs.declared.Origin.{Origin}
use Rattle.authority_book.specs.inner.Kept.{KeptOrigins}
use Rattle.authority_book.proofs.Gap.{removed_left, removed_right, length-put_mid}
use Rattle.authority_book.proofs.sorted_origins.SortedOrigins.remove_at.Goals as goal

pub returns-then-place-len-clause-items : goal.returns-then-place-len-clause-items
returns-then-place-len-clause-items c =
    let xs = c.self.inside.items.items in
    let start = c.self.inside.start in
    let place = c.args.place in
    let all = c.deref_mut.result.now in
    let turned = c.rotate_right.new.self in
    let count = start + place + 1 - start in
    let same : all ≡ xs = c.deref_mut.ensures.value in
    let bound : place < length (drop start xs) = search rules in
    let within : start + place < length all = rw same (omega (arith, bound, length-drop start xs, c.self.invariant)) in
    let long : count ≡ suc place = omega arith in
    let part : length (mid_of start count all) ≡ count = omega (arith, within, long, length-take count (drop start all), length-drop start all) in
    let whole = put_mid start count all turned in
    let len : length whole ≡ c.self.inside.items.len =
    length-put_mid start count all turned (omega (arith, within, long)) (c.rotate_right.ensures.len ∙ part) ∙ c.deref_mut.ensures.len in
    let next : start + 1 ≡ suc start = omega arith in
    ap (drop (start + 1)) (take_at whole _ c.self.inside.items.len len)
    ∙ ap (λ n. drop n whole) next
    ∙ removed_left all turned start place count _ long (omega (arith, part, long)) within c.rotate_right.ensures.after
    ∙ ap (λ (l : List Origin). remove (drop start l) place) same
    ∙ ap (λ (v : KeptOrigins). remove v.items place) c.self.view_is

pub returns-else-place-len-clause-items : goal.returns-else-place-len-clause-items
returns-else-place-len-clause-items c =
    let xs = c.self.inside.items.items in
    let start = c.self.inside.start in
    let place = c.args.place in
    let bound : place < length (drop start xs) = search rules in
    let within : start + place < length xs = omega (arith, bound, length-drop start xs, c.self.invariant) in
    ap (drop start) c.remove.ensures.items ∙ removed_right xs start place (start + place) refl within
    ∙ ap (λ (v : KeptOrigins). remove v.items place) c.self.view_is
