-- What a run's editions are to relying parties, and how many commands they take in.
use Rattle.std.specs.Prelude.{ℕ, ◌≤◌, ⊤, List, [], ◌∷◌, ◌++◌, length}
use Rattle.editions.specs.Edition.{Edition, cut_at, set_after}
use Rattle.editions.specs.Step.{Premises}
use Rattle.editions.specs.Published.{IsPublished}
use Rattle.krill_top.specs.DeskStates.{DeskStates, commands_at}

-- Each of these editions, behind those before them, is sound to relying parties, who get of it exactly
-- what is owed at its cut.
abbrev pub AreFoundSound : Premises → List Edition → List Edition → Type 0
AreFoundSound premises before [] = ⊤
AreFoundSound premises before (edition ∷ made) =
    IsPublished premises edition (set_after (before ++ edition ∷ []))
    × AreFoundSound premises (before ++ edition ∷ []) made

-- The edition takes in no more commands of a desk than it has.
abbrev pub TakesNoMore : DeskStates → Edition → Type 0
TakesNoMore desk_states edition =
    (desk : ℕ) → cut_at edition.cut desk ≤ length (commands_at desk_states desk)
