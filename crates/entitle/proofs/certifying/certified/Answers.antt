use Rattle.std.proofs.Common.{◌≡◌, ◌-◌, subst, arith, List}
use Rattle.authority_book.specs.declared.rows.NameRow.{NameRow}
use Rattle.entitle.specs.Certified.{settings_of, names_of, most_parents}
use Rattle.entitle.specs.inner.Steps.{AreAfter}
use Rattle.entitle.proofs.certifying.certified.Goals as goal

pub loop-parents-init : goal.loop-parents-init
loop-parents-init c =
    let configs = settings_of c.args.configs.now in
    subst (λ (names : List NameRow). AreAfter configs names 0 c.in_ok-sets.sets.items) c.names_of-names.ensures.names (c.in_ok-sets.ensures configs)

pub returns : goal.returns
returns c =
    let configs = settings_of c.args.configs.now in
    let all : c.loop-parents.parents - 1 ≡ most_parents = omega arith in
    let after = subst (λ n. AreAfter configs (names_of configs) n c.loop-parents.sets.items) all c.loop-parents.invariant in
    record { one_each = after.one_each; members = after.members }
