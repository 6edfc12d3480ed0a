-- What a crash may leave: images now, and those of all moments since one.
use Rattle.std.specs.Prelude.{◌≡◌, ◌⊎◌, ℕ, ◌≤◌, Option, Some, List}

-- each image after a step comes from one before it
abbrev pub Follows : (List ℕ → List ℕ → Type 0) → (List ℕ → Type 0) → (List ℕ → Type 0) → Type 0
Follows step before after = (c : List ℕ) → after c → (d : List ℕ) × before d × step d c

-- each outcome of the step from an image before it is an image after it
abbrev pub Reaches : (List ℕ → List ℕ → Type 0) → (List ℕ → Type 0) → (List ℕ → Type 0) → Type 0
Reaches step before after = (d c : List ℕ) → before d → step d c → after c

-- each image of the first kind is one of the second
abbrev pub Keeps : (List ℕ → Type 0) → (List ℕ → Type 0) → Type 0
Keeps before after = (c : List ℕ) → before c → after c

-- a crash leaves this content and nothing else
abbrev pub IsOnly : Option (List ℕ) → (List ℕ → Type 0) → Type 0
IsOnly content images = (c : List ℕ) → images c → content ≡ Some c

-- a call that changes nothing
pub record Stays (old new : Option (List ℕ)) (before after : List ℕ → Type 0) : Type 0 where
  pub content : new ≡ old
  pub adds_none : Keeps after before
  pub drops_none : Keeps before after

-- Time goes on: a crash since t might have left what it might have left before, or what it may leave now.
pub record Elapses (before now : ℕ) (past since : ℕ → List ℕ → Type 0) (may_leave : List ℕ → Type 0) : Type 0 where
  pub later : before ≤ now
  pub nothing_else : (t : ℕ) (c : List ℕ) → t ≤ before → since t c → past t c ⊎ may_leave c
  pub keeps : (t : ℕ) (c : List ℕ) → t ≤ before → past t c → since t c
