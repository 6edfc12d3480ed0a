use Rattle.std.proofs.Common.{◌≡◌, length, arith}
use Rattle.std.proofs.lemmas.Bool.Decides.{nat_tests}
use Rattle.editions.specs.Joining.{IsJoined}
use Rattle.editions.proofs.StateLemmas.Reaching.{reached_none, reached_pair, reached_all}
use Rattle.editions.proofs.joining.join_all.Goals as goal
use Rattle.editions.proofs.joining.join_all.Goals.{then-is_empty, else-is_empty}

pub pairs-init : goal.pairs-init
pairs-init g c =
    rw c.in_ok-all.ensures.items
    (reached_none g.A.AtUri.place g.B.AtUri.place g.C.AtUri.place g.C.Joins.joined c.args.left.now c.args.right.now c.requires.left c.requires.right)

pub pairs-preserved : goal.pairs-preserved
pairs-preserved g c =
    let next = reached_pair g.A.AtUri.place g.B.AtUri.place g.C.AtUri.place g.C.Joins.joined g.met.C.Joins.nothing g.met.C.Joins.stays
    c.args.left.now c.args.right.now c.pairs.stands.now c.pairs.comes.now c.pairs.all.items c.pairs.invariant in
    rw (c.in_ok-push_joined.ensures, c.rest_of-stands.ensures, c.rest_of-comes.ensures, c.first_pair.ensures.left, c.first_pair.ensures.right) next

pub returns : goal.returns
returns g c =
    elim c.if-is_empty.branch as (λ _. IsJoined g.A.AtUri.place g.B.AtUri.place g.C.AtUri.place g.C.Joins.joined c.args.left.now c.args.right.now c.pairs.all.items) [
      | then-is_empty w ↦
          let no_stands : length c.pairs.stands.now ≡ 0 = grind (arith, nat_tests, c.is_empty.ensures, w.if-is_empty.true) in
          let no_comes : length c.pairs.comes.now ≡ 0 = grind (arith, nat_tests, w.is_empty-then-is_empty.ensures, w.value-is, c.if-not-is_empty.false) in
          reached_all g.A.AtUri.place g.B.AtUri.place g.C.AtUri.place g.C.Joins.joined g.met.C.Joins.nothing c.args.left.now c.args.right.now c.pairs.stands.now c.pairs.comes.now c.pairs.all.items no_stands no_comes c.pairs.invariant
      | else-is_empty w ↦ absurd (grind (arith, w.value-is, c.if-not-is_empty.false))
    ]
