use Rattle.std.proofs.Common.{◌≡◌, ℕ, ◌+◌, ◌<◌, sym, ◌∙◌, ap, subst, length, get_or, set, List, rules}
use Rattle.std.specs.Prelude.{Option, None, Some}
use Rattle.std.proofs.lemmas.List.{get_or_default}
use Rattle.authority_book.specs.declared.rows.NameRow.{NameRow}
use Rattle.entitle.specs.Certified.{settings_of, names_of}
use Rattle.entitle.specs.inner.Steps.{IsSteps}
use Rattle.entitle.proofs.Arriving.{AreUpTo, upto_same, upto_next}
use Rattle.entitle.proofs.certifying.pass_on.Goals as goal
use Rattle.entitle.proofs.certifying.pass_on.Goals.{then-eq+in_ok-sets, else-eq}

pub loop-place-preserved : goal.loop-place-preserved
loop-place-preserved c =
    let configs = settings_of c.args.configs.now in
    let place = c.loop-place.place in
    let sets = c.loop-place.sets.items in
    let steps = get_or c.args.steps.now place None in
    let here : place < length (names_of configs) = rw c.names_of-names.ensures.names at c.loop-place-test.true in
    let was : AreUpTo configs c.args.parents place sets = record {
      one_each = c.loop-place.invariant.one_each;
      done = c.loop-place.invariant.done;
      left = c.loop-place.invariant.left;
    } in
    let upto : AreUpTo configs c.args.parents (place + 1) c.if-eq.sets.items = elim c.if-eq.branch [
      | then-eq+in_ok-sets w ↦
          let new = w.in_ok-sets.field-0 in
          let row = w.index-names-place.result in
          let put : c.if-eq.sets.items ≡ set sets place new = search rules in
          let found : row ≡ get_or (names_of configs) place row = rw c.names_of-names.ensures.names at w.index-names-place.is in
          let named : (other : NameRow) → (get_or (names_of configs) place other).name ≡ row.name = λ other.
          ap (λ (r : NameRow). r.name) (get_or_default (names_of configs) place other row here ∙ sym found) in
          let turn : steps ≡ Some c.args.parents = search rules in
          let needs : IsSteps configs row.name (Some c.args.parents) =
          subst (λ (s : Option ℕ). IsSteps configs row.name s) turn
          (subst (λ (n : List ℕ). IsSteps configs n steps) (named row) (c.requires.steps.each place row here)) in
          rw put (upto_next configs c.args.parents place sets row.name new c.requires.some here named needs (search rules) was)
      | else-eq w ↦
          let kept : c.if-eq.sets.items ≡ sets = search rules in
          let unlike : steps ≡ Some c.args.parents → ⊥ = search rules in
          rw kept (upto_same configs c.args.parents place sets steps c.requires.some c.requires.within here
          (λ row. c.requires.steps.each place row here) unlike was)
    ] in
    record { one_each = upto.one_each; done = upto.done; left = upto.left }
