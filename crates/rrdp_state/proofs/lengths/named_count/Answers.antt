use Rattle.std.proofs.Common.{◌≡◌, ◌≤◌, arith, sym, subst, length, List}
use Rattle.std.specs.List.{flat_map}
use Rattle.std.proofs.lemmas.Bool.Decides.{nat_tests}
use Rattle.pub_set.specs.declared.objects.Object.{Object}
use Rattle.rrdp_text.specs.Texts.{object_text, snapshot_text}
use Rattle.rrdp_state.specs.Named.{most_named}
use Rattle.rrdp_state.proofs.Least.{all_fit_few, all_fit_most, least_snapshot}
use Rattle.rrdp_state.proofs.lengths.named_count.Goals as goal
use Rattle.rrdp_state.proofs.lengths.named_count.Goals.{then-named-deltas-via-then-named-deltas, then-named-deltas-via-else-named-deltas+then-named-eq-MOST_NAMED}

pub returns-then-named-deltas-clause-named : goal.returns-then-named-deltas-clause-named
returns-then-named-deltas-clause-named c =
    let least = c.least_len-least.result in
    let named = c.fitting_count-named.result in
    let deltas = c.args.deltas.now in
    let room = length (snapshot_text c.args.session.now c.args.serial c.args.set.now) in
    let lines : least ≤ length (flat_map object_text c.args.set.now) =
    subst (λ (objects : List Object). least ≤ length (flat_map object_text objects)) c.as_slice.ensures.objects c.least_len-least.ensures in
    let whole = least_snapshot c.args.session.now c.args.serial c.args.set.now in
    let within : least ≤ room = omega (arith, lines, whole) in
    elim c.then-named-deltas.branch [
      | then-named-deltas-via-then-named-deltas w ↦
          let all : named ≡ length deltas = grind (arith, nat_tests, w.if-named-deltas.true) in
          all_fit_few most_named least room named deltas within all c.fitting_count-named.ensures.named
      | then-named-deltas-via-else-named-deltas+then-named-eq-MOST_NAMED w ↦
          let most : named ≡ most_named = grind (arith, nat_tests, w.if-named-eq-MOST_NAMED.true) in
          all_fit_most most_named least room named deltas within most c.fitting_count-named.ensures.named
    ]
