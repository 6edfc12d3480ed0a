-- Looks, one after another.
use Rattle.std.proofs.Common.{◌≡◌, ◌≤◌, ℕ, List, refl, ap, ◌∙◌, arith}
use mathlib.Core.List.{IsPrefix}
use Rattle.notice_board.specs.declared.shown.ShownEdition.{ShownEdition}
use Rattle.notice_board.specs.Lists.{last_serial}
use Rattle.manager.specs.Passes.{PassValue}
use Rattle.manager.proofs.Knowing.{prefix_none, prefix_on}

-- What looks come to: more editions were seen, of which the last has that serial.
pub record HasLooked (old new : PassValue) (seen : ℕ) : Type 0 where
  pub rest : new ≡ record old { shown = new.shown }
  pub grows : IsPrefix old.shown new.shown
  pub serial : seen ≡ last_serial new.shown
  pub never_falls : last_serial old.shown ≤ seen

pub look_on : (a b c : PassValue) (was is : ℕ) → HasLooked a b was → c ≡ record b { shown = c.shown } → IsPrefix b.shown c.shown
    → is ≡ last_serial c.shown → last_serial b.shown ≤ is → HasLooked a c is
look_on a b c was is so rest grows serial more = record {
  rest = rest ∙ ap (λ (p : PassValue). record p { shown = c.shown }) so.rest;
  grows = prefix_on a.shown b.shown c.shown so.grows grows;
  serial = serial;
  never_falls = let one = so.never_falls in let there = so.serial in omega (arith, one, there, more);
}
