use Rattle.std.proofs.Common.{◌≡◌, ◌∙◌, sym, subst}
use Rattle.std.specs.Prelude.{None}
use Rattle.desk_core.specs.View.{View}
use Rattle.desk_core.specs.Counted.{CountedView}
use Rattle.manager.proofs.Doubted.{doubted_open}
use Rattle.manager.proofs.locked_desks_starting.put.Goals as goal

pub new-requires-clause-doubted : goal.new-requires-clause-doubted
new-requires-clause-doubted g c =
    let same = c.follower_of-other.ensures.same ∙ c.follower_of-own.ensures.same in
    doubted_open c.follower_of-other.new.desk.desk (subst (λ (d : CountedView _). d.desk.shut ≡ None) (sym same) c.requires.is_open)
    (subst (λ (v : View _). v.shut ≡ None → v.doubt ≡ None) c.desk.ensures c.len-recovered.ensures.safe.settled)
