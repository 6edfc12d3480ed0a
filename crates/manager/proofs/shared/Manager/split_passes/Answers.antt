use Rattle.std.proofs.Common.{◌≡◌, ◌∙◌, ◌+◌, ◌-◌, [], ◌∷◌, ◌++◌, ℕ, List, length, refl, ap, sym, subst, arith}
use Rattle.std.specs.Prelude.{All}
use Rattle.std.proofs.lemmas.Result.{err_from_is_err_and}
use Rattle.std.proofs.lemmas.List.{length_push}
use Rattle.std.proofs.lemmas.List.Elements.{All-nil, All-push}
use Rattle.manager.specs.Passes.{PassValue, IsSplitOff}
use Rattle.manager.proofs.Sharing.{split_as, split_rest}
use Rattle.manager.proofs.shared.Manager.split_passes.Goals as goal

pub loop-init : goal.loop-init
loop-init g c = record {
  long = ap length c.in_ok-others.ensures.items;
  room = refl;
  rest = refl;
  places = omega arith;
  given = subst (λ (l : List PassValue). All (IsSplitOff c.args.pass.now) l) (sym c.in_ok-others.ensures.items) (All-nil (IsSplitOff c.args.pass.now));
}

pub split_pass-requires : goal.split_pass-requires
split_pass-requires g c = let so = c.loop.invariant in omega (arith, so.places, c.loop-test.true, c.requires)

pub loop-preserved : goal.loop-preserved
loop-preserved g c =
    let so = c.loop.invariant in
    let old = c.args.pass.now in
    let other = c.in_ok-other.other in
    let new = c.split_pass.new.pass in
    let taken = c.in_ok-other.ensures.taken in
    let places : new.places ≡ c.loop.pass.places - 1 = ap (λ (p : PassValue). p.places) taken in
    record {
      long = ap length c.push_reserved.ensures.items ∙ (length_push c.loop.others.items other ∙ ap (λ (n : ℕ). n + 1) so.long);
      room = c.push_reserved.ensures.capacity ∙ so.room;
      rest = split_rest old c.loop.pass new so.rest (taken ∙ ap (λ (n : ℕ). record c.loop.pass { places = n }) (sym places));
      places = omega (arith, so.places, places, c.loop-test.true, c.requires);
      given = subst (λ (l : List PassValue). All (IsSplitOff old) l) (sym c.push_reserved.ensures.items)
          (All-push (IsSplitOff old) c.loop.others.items other so.given (split_as old c.loop.pass other so.rest c.in_ok-other.ensures.given));
    }

pub returns-in_err-other-clause-rest : goal.returns-in_err-other-clause-rest
returns-in_err-other-clause-rest g c =
    let p = err_from_is_err_and c.from_residual-in_err-other.result c.from_residual-in_err-other.ensures.1 in
    let rest = subst (λ (q : PassValue). q ≡ record c.args.pass.now { places = q.places }) (sym c.in_err-other.ensures.same) c.loop.invariant.rest in
    rw p.1 rest

pub returns-clause-count : goal.returns-clause-count
returns-clause-count g c = omega (arith, c.loop.invariant.long, c.loop-test.false, c.loop.auto.counter-end)

pub returns-clause-taken : goal.returns-clause-taken
returns-clause-taken g c =
    let so = c.loop.invariant in
    let places : c.loop.pass.places ≡ c.args.pass.now.places - c.args.count = omega (arith, so.places, c.loop-test.false, c.loop.auto.counter-end) in
    so.rest ∙ ap (λ (n : ℕ). record c.args.pass.now { places = n }) places
