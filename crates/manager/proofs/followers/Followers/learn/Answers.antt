use Rattle.manager.proofs.Seats.{set_at, grows_at}
use Rattle.manager.proofs.followers.Followers.learn.Goals as goal

pub returns-clause-set : goal.returns-clause-set
returns-clause-set g c =
    set_at c.args.self.now c.self.inside.all.items c.args.place c.index_mut.result.now c.tell.new.follower c.args.desk.now.desk.records
    c.self.view_is c.requires.place c.index_mut.ensures.value c.tell.ensures.told

pub returns-clause-grows : goal.returns-clause-grows
returns-clause-grows g c =
    grows_at c.args.self.now c.self.inside.all.items c.args.place c.index_mut.result.now c.tell.new.follower c.args.desk.now.desk.records
    c.self.view_is c.requires.place c.index_mut.ensures.value c.tell.ensures.told c.tell.ensures.grows
