use Rattle.std.proofs.Common.{◌≡◌, ◌<◌, ℕ, length}
use Rattle.authority_book.specs.Verdict.{most_authorities}
use Rattle.manager.specs.Passes.{KnowsMore}
use Rattle.manager.specs.inner.Gathering.{SeeAlikeAt}
use Rattle.manager.proofs.locked_desks.LockedDesks.learn_all.Given as goal

abbrev pub invariant-loop-place : goal.invariant-loop-place
invariant-loop-place g l = record {
  press : l.press ≡ record l.fn.press { seats = l.press.seats };
  count : length l.press.seats ≡ most_authorities;
  pass : l.pass ≡ record l.fn.pass { seats = l.pass.seats };
  more : KnowsMore l.fn.pass.seats l.pass.seats;
  alike : (k : ℕ) → k < l.place → SeeAlikeAt l.press.seats l.pass.seats k;
}
