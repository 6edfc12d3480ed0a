use Rattle.std.proofs.Common.{◌≡◌, ℕ, ◌-◌, List, ◌++◌, append_assoc, length, take, drop, sym, ap, ◌∙◌, arith, length-drop}
use Rattle.std.proofs.lemmas.List.{take_rest, take-append-drop}
use Rattle.std.proofs.lemmas.Result.{err_from_is_err_and}
use Rattle.krill_top.proofs.Writing.{given_more, part_more}
use Rattle.krill_top.proofs.summary.give_all.Goals as goal

pub returns-in_err-at-clause-err : goal.returns-in_err-at-clause-err
returns-in_err-at-clause-err g c =
    let all : List ℕ = c.args.bytes.now in
    let p = err_from_is_err_and c.from_residual.result c.from_residual.ensures.1 in
    let at = c.loop-at.at in
    let rest : take (length all - at) (drop at all) ≡ drop at all = take_rest all at in
    let (n, more) = c.in_err-at.ensures.bytes in
    rw p.1 (
      take at all ++ take n (drop at all),
      drop n (drop at all),
      part_more (g.K.Sink.taken c.args.sink.now) (g.K.Sink.taken c.loop-at.sink) (g.K.Sink.taken c.give.new.self) all _ at n rest c.loop-at.invariant.given more,
      sym (append_assoc (take at all) (take n (drop at all)) (drop n (drop at all)) ∙ ap (λ (xs : List ℕ). take at all ++ xs) (take-append-drop n (drop at all)) ∙ take-append-drop at all),
    )

pub loop-at-preserved : goal.loop-at-preserved
loop-at-preserved g c =
    let all : List ℕ = c.args.bytes.now in
    let at = c.loop-at.at in
    let rest : take (length all - at) (drop at all) ≡ drop at all = take_rest all at in
    record {
      within = omega (arith, c.in_ok-at.ensures.piece, ap length rest, length-drop at all);
      later = omega (arith, c.loop-at.invariant.later, c.in_ok-at.ensures.later);
      given = given_more (g.K.Sink.taken c.args.sink.now) (g.K.Sink.taken c.loop-at.sink) (g.K.Sink.taken c.give.new.self) all _ at c.in_ok-at.field-0 rest c.loop-at.invariant.given c.in_ok-at.ensures.bytes;
    }
