use Rattle.std.proofs.Common.{ℕ, List, map, length, slice_get, ap, ◌∙◌}
use Rattle.commit_word.specs.Seats.{follower_seat}
use Rattle.desk_core.proofs.counting.set_aside.Goals as goal

pub split_for-requires-clause-one : goal.split_for-requires-clause-one
split_for-requires-clause-one g c = ap length c.requires.entry

pub returns-clause-noted : goal.returns-clause-noted
returns-clause-noted g c = c.split_for.ensures.noted ∙ ap (λ (l : List (List ℕ)). record c.args.owner.now { coming = slice_get l 0 }) c.requires.entry

pub returns-clause-given : goal.returns-clause-given
returns-clause-given g c = c.in-Ok.ensures.given ∙ ap (λ (l : List (List ℕ)). follower_seat c.args.owner.now (map (λ entry. (length c.args.owner.now.seen, entry)) l)) c.requires.entry
