-- Commands that are gathered for an edition, and what they come to.
use Rattle.std.specs.Prelude.{◌≡◌, ◌≢◌, ℕ, ◌+◌, ◌<◌, ◌≤◌, ◌==◌, List, [], ◌∷◌, ◌++◌, length}
use Rattle.std.specs.Prelude.{Some, slice_get, get_or, drop, All, AllPairs, if◌then◌else◌}
use Rattle.authority_book.specs.declared.commands.Command.{Command}
use Rattle.authority_book.specs.Settings.{Settings}
use Rattle.authority_book.specs.Fold.{after_all, AcceptedInTurn}
use Rattle.editions.specs.Edition.{cut_at}
use Rattle.editions.specs.Step.{BeginsWith}
use Rattle.editions.specs.declared.gathered.Gathered.{Gathered}

-- The commands that were gathered of a desk.
abbrev pub commands_of : List Gathered → ℕ → List Command
commands_of [] desk = []
commands_of (group ∷ rest) desk =
    if group.desk == desk then group.commands ++ commands_of rest desk else commands_of rest desk

-- ---- what they come to

-- The configurations of the desks from one on, each with the commands gathered of it.
abbrev pub configs_from : ℕ → List Settings → List Gathered → List Settings
configs_from desk [] gathered = []
configs_from desk (config ∷ rest) gathered =
    after_all config (commands_of gathered desk) ∷ configs_from (desk + 1) rest gathered

abbrev pub configs_with : List Settings → List Gathered → List Settings
configs_with configs gathered = configs_from 0 configs gathered

-- How many commands of the desks from one on are taken in, with those gathered of each.
abbrev pub cut_from : ℕ → List ℕ → List Gathered → List ℕ
cut_from desk [] gathered = []
cut_from desk (n ∷ rest) gathered =
    (n + length (commands_of gathered desk)) ∷ cut_from (desk + 1) rest gathered

abbrev pub cut_with : List ℕ → List Gathered → List ℕ
cut_with cut gathered = cut_from 0 cut gathered

-- ---- which can be taken in

-- Of desks that there are.
abbrev pub AreOfDesks : ℕ → List Gathered → Type 0
AreOfDesks desks gathered = All (λ group. group.desk < desks) gathered

-- Those of each desk are accepted in turn, behind what it has accepted.
abbrev pub AreAccepted : List Settings → List Gathered → Type 0
AreAccepted configs gathered = (desk : ℕ) (config : Settings)
    → slice_get configs desk ≡ Some config → AcceptedInTurn config (commands_of gathered desk)

-- What an edition behind the cut takes in: commands of the cut's desks, of each desk once, from
-- where the cut ends.
pub record AreGathered (cut : List ℕ) (gathered : List Gathered) : Type 0 where
  pub desks : AreOfDesks (length cut) gathered
  pub once : AllPairs (λ a b. a.desk ≢ b.desk) gathered
  pub from : All (λ group. group.from ≡ cut_at cut group.desk) gathered

-- ---- which commands they are

-- Of a desk's commands so many are taken in, and behind these come the ones that were gathered.
pub record IsNextCommands (list : List Command) (n : ℕ) (commands : List Command) : Type 0 where
  pub held : n ≤ length list
  pub next : BeginsWith commands (drop n list)

abbrev pub AreNextCommands : List (List Command) → List ℕ → List Gathered → Type 0
AreNextCommands lists cut gathered =
    (desk : ℕ) → IsNextCommands (get_or lists desk []) (cut_at cut desk)
    (commands_of gathered desk)
