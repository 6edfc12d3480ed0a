-- Commands gathered of the desks in their order, and those of one desk more.
use Rattle.std.proofs.Common.{◌≡◌, ◌≢◌, ℕ, ◌<◌, suc, true, false, refl, sym, subst, ◌∙◌, ap, arith, append-nil, List, [], ◌∷◌, ◌++◌, Some, inl, inr}
use Rattle.std.specs.Prelude.{slice_get, ◌==◌, All, if◌then◌else◌}
use Rattle.std.proofs.lemmas.Bool.{cases_eq}
use Rattle.std.proofs.lemmas.Bool.Decides.{nat_tests}
use Rattle.authority_book.specs.declared.commands.Command.{Command}
use Rattle.authority_book.specs.Settings.{Settings}
use Rattle.authority_book.specs.Fold.{AcceptedInTurn}
use Rattle.editions.specs.declared.gathered.Gathered.{Gathered}
use Rattle.editions.specs.Gathering.{commands_of, AreAccepted}

is-same : (a b : ℕ) → a ≡ b → (a == b) ≡ true
is-same a b same = grind (arith, nat_tests)

is-other : (a b : ℕ) → a ≢ b → (a == b) ≡ false
is-other a b other = grind (arith, nat_tests)

elsewhere : (group : Gathered) (rest : List Gathered) (desk : ℕ) → group.desk ≢ desk → commands_of (group ∷ rest) desk ≡ commands_of rest desk
elsewhere group rest desk other = rw (is-other group.desk desk other) refl

alone : (group : Gathered) → commands_of (group ∷ []) group.desk ≡ group.commands
alone group = rw (is-same group.desk group.desk refl) (append-nil group.commands)

last : (groups : List Gathered) (group : Gathered) → All (λ (g : Gathered). g.desk < group.desk) groups → commands_of (groups ++ group ∷ []) group.desk ≡ group.commands
last [] group below = alone group
last (first ∷ rest) group below =
    let less : first.desk < group.desk = below 0 first (omega arith) in
    elsewhere first (rest ++ group ∷ []) group.desk (omega (arith, less))
    ∙ last rest group (λ k d inside. below (suc k) d (omega (arith, inside)))

others : (groups : List Gathered) (group : Gathered) (desk : ℕ) → group.desk ≢ desk → commands_of (groups ++ group ∷ []) desk ≡ commands_of groups desk
others [] group desk other = elsewhere group [] desk other
others (first ∷ rest) group desk other =
    ap (λ (l : List Command). if first.desk == desk then first.commands ++ l else l) (others rest group desk other)

-- Those of a desk behind all others are accepted where that desk accepts them.
pub accepted-grown : (configs : List Settings) (groups : List Gathered) (group : Gathered) → All (λ (g : Gathered). g.desk < group.desk) groups →
    AreAccepted configs groups → ((config : Settings) → slice_get configs group.desk ≡ Some config → AcceptedInTurn config group.commands) →
    AreAccepted configs (groups ++ group ∷ [])
accepted-grown configs groups group below all one = λ desk config there.
    elim (cases_eq desk group.desk) [
      | inl here ↦
          let is : commands_of (groups ++ group ∷ []) desk ≡ group.commands = ap (commands_of (groups ++ group ∷ [])) here ∙ last groups group below in
          subst (AcceptedInTurn config) (sym is) (one config (subst (λ (d : ℕ). slice_get configs d ≡ Some config) here there))
      | inr other ↦
          subst (AcceptedInTurn config) (sym (others groups group desk (λ same. other (sym same)))) (all desk config there)
    ]
