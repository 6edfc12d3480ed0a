use Rattle.std.proofs.Common.{◌≡◌, ◌<◌, ℕ, length, get_or}
use Rattle.authority_book.specs.Verdict.{most_authorities}
use Rattle.manager.specs.Passes.{KnowsMore}
use Rattle.manager.specs.inner.Gathering.{no_group, IsSinceSeen, SeeAlikeAt}
use Rattle.manager.proofs.locked_desks.LockedDesks.gather.Given as goal

abbrev pub invariant-loop-place : goal.invariant-loop-place
invariant-loop-place g l = record {
  long : length l.groups.items ≡ l.place;
  press : l.press ≡ record l.fn.press { seats = l.press.seats };
  count : length l.press.seats ≡ most_authorities;
  pass : l.pass ≡ record l.fn.pass { seats = l.pass.seats };
  more : KnowsMore l.fn.pass.seats l.pass.seats;
  since : (k : ℕ) → k < l.place → IsSinceSeen l.press.seats l.fn.press.press.press.at.cut k (get_or l.groups.items k no_group);
  alike : (k : ℕ) → k < l.place → SeeAlikeAt l.press.seats l.pass.seats k;
}
