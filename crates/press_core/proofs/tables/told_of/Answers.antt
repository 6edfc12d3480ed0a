use Rattle.std.proofs.Common.{Option, map, inl, inr, subst}
use Rattle.press_core.specs.declared.tables.Told.{Told}
use Rattle.press_core.specs.inner.Rows.{home_value, TellsMade}
use Rattle.press_core.proofs.tables.told_of.Goals as goal

pub returns-in-Some : goal.returns-in-Some
returns-in-Some c = inl (subst (λ (o : Option Told). TellsMade (map home_value c.args.homes.now) c.args.bytes.now o) c.in-Some.is c.in_ok-told.ensures)

pub returns-in_ok-other_told-in-None : goal.returns-in_ok-other_told-in-None
returns-in_ok-other_told-in-None c =
    inr (record {
      other = subst (λ (o : Option Told). TellsMade (map home_value c.args.homes.now) c.args.bytes.now o) c.in-None.is c.in_ok-told.ensures;
      says = c.in_ok-other_told-in-None.ensures;
    })
