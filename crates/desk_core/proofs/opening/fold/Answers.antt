use Rattle.std.proofs.Common.{◌≡◌, ℕ, List, true, false, take, subst, arith, rules}
use Rattle.std.proofs.lemmas.List.{take_all}
use Rattle.gate_journal.specs.Format.{payloads}
use Rattle.desk_core.specs.inner.Kept.{IsLoaded}
use Rattle.desk_core.specs.Commands.{IsFirstBad}
use Rattle.desk_core.proofs.Loading.{first_bad, one_more}
use Rattle.desk_core.proofs.Committed.{length-payloads}
use Rattle.desk_core.proofs.opening.fold.Goals as goal

pub loop-index-preserved : goal.loop-index-preserved
loop-index-preserved g c =
    let all = payloads c.args.journal.now.sizes c.args.body.now in
    let yes : c.in_ok-take_in.field-0 ≡ true = search rules in
    subst (λ (l : List (List ℕ)). IsLoaded c.args.number c.take_in.new.config.settings l) (one_more all c.payload-payload.result.now c.loop-index.index c.payload-payload.ensures)
    (c.in_ok-take_in.ensures.loaded yes c.args.number (take c.loop-index.index all) c.loop-index.invariant)

pub returns-then-not-branch-clause-bad : goal.returns-then-not-branch-clause-bad
returns-then-not-branch-clause-bad g c at is =
    let all = payloads c.args.journal.now.sizes c.args.body.now in
    let no : c.in_ok-take_in.field-0 ≡ false = search rules in
    let index : c.loop-index.index ≡ at = cc in
    subst (λ (k : ℕ). IsFirstBad c.args.number all k) index
    (first_bad c.args.number c.loop-index.config.settings all c.payload-payload.result.now c.loop-index.index c.loop-index.invariant c.payload-payload.ensures (c.in_ok-take_in.ensures.bad no))

pub returns-clause-loaded : goal.returns-clause-loaded
returns-clause-loaded g c =
    let all = payloads c.args.journal.now.sizes c.args.body.now in
    subst (λ (l : List (List ℕ)). IsLoaded c.args.number c.loop-index.config.settings l)
    (take_all c.loop-index.index all (omega (arith, length-payloads c.args.journal.now.sizes c.args.body.now c.requires, c.count-index-end.ensures.count, c.loop-index-test.false))) c.loop-index.invariant
