use Rattle.std.proofs.Common.{◌≡◌, ℕ, ◌-◌, List, length, take, drop, min, ap, ◌∙◌, arith}
use Rattle.std.proofs.lemmas.List.{take_rest}
use Rattle.line_loop.proofs.Ends.{left_before, none_left}
use Rattle.line_loop.proofs.memory.MemorySourceSource.take.Goals as goal

pub returns-clause-bytes : goal.returns-clause-bytes
returns-clause-bytes c =
    let source = c.args.self.now in
    let bytes = source.bytes.items in
    let given = c.copy_front-n.new.into in
    let n = c.copy_front-n.result in
    let whole = c.deref.result.now in
    let rest : take (length whole - source.at) (drop source.at whole) ≡ drop source.at bytes =
    take_rest whole source.at ∙ ap (λ (xs : List ℕ). drop source.at xs) c.deref.ensures.value in (
      left_before bytes source.at n given (c.copy_front-n.ensures.bytes ∙ ap (λ (xs : List ℕ). take n xs) rest),
      λ none is_room. none_left bytes source.at n (length c.args.into.now) source.piece
          (c.copy_front-n.ensures.count ∙ ap (λ (xs : List ℕ). min (length xs) (min (length c.args.into.now) source.piece)) rest)
          source.some none (omega (arith, c.copy_front-n.auto.into)),
    )
