use Rattle.std.proofs.Common.{◌≡◌, ℕ, ◌-◌, List, ◌++◌, append_assoc, length, take, drop, sym, ap, ◌∙◌, arith, length-drop}
use Rattle.std.proofs.lemmas.List.{take_rest, take-append-drop}
use Rattle.std.proofs.lemmas.Result.{err_from_is_err_and}
use Rattle.line_loop.proofs.Known.{given_more, part_more}
use Rattle.line_loop.proofs.session.give_all.Goals as goal

pub returns-in_err-at-clause-err : goal.returns-in_err-at-clause-err
returns-in_err-at-clause-err g c =
    let out : List ℕ = c.args.out.now.items in
    let p = err_from_is_err_and c.from_residual.result c.from_residual.ensures.1 in
    let at = c.loop-at.at in
    let whole = c.deref.result.now in
    let rest : take (length whole - at) (drop at whole) ≡ drop at out =
    take_rest whole at ∙ ap (λ (xs : List ℕ). drop at xs) c.deref.ensures.value in
    let (n, more) = c.in_err-at.ensures.bytes in
    rw p.1 (
      take at out ++ take n (drop at out),
      drop n (drop at out),
      part_more (g.K.Sink.taken c.args.sink.now) (g.K.Sink.taken c.loop-at.sink) (g.K.Sink.taken c.give.new.self) out _ at n rest c.loop-at.invariant.given more,
      sym (append_assoc (take at out) (take n (drop at out)) (drop n (drop at out)) ∙ ap (λ (xs : List ℕ). take at out ++ xs) (take-append-drop n (drop at out)) ∙ take-append-drop at out),
    )

pub loop-at-preserved : goal.loop-at-preserved
loop-at-preserved g c =
    let out : List ℕ = c.args.out.now.items in
    let at = c.loop-at.at in
    let whole = c.deref.result.now in
    let rest : take (length whole - at) (drop at whole) ≡ drop at out =
    take_rest whole at ∙ ap (λ (xs : List ℕ). drop at xs) c.deref.ensures.value in
    record {
      within = omega (arith, c.in_ok-at.ensures.piece, ap length rest, length-drop at out, c.args.out.now.ok.0);
      later = omega (arith, c.loop-at.invariant.later, c.in_ok-at.ensures.later);
      given = given_more (g.K.Sink.taken c.args.sink.now) (g.K.Sink.taken c.loop-at.sink) (g.K.Sink.taken c.give.new.self) out _ at c.in_ok-at.field-0 rest c.loop-at.invariant.given c.in_ok-at.ensures.bytes;
    }
