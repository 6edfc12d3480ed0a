-- How far a session has come, in the midst of its input. Run says what was answered to some lines.
use Rattle.std.specs.Prelude.{◌≡◌, ◌⊎◌, ℕ, Bool, false, List, [], ◌∷◌, ◌++◌}
use Rattle.line_loop.specs.Lines.{all_lines, ended_lines}
use Rattle.line_loop.specs.Replies.{BreaksOff}
use Rattle.line_loop.specs.inner.Pending.{Pending, IsTail}

-- Lines were answered that changed nothing.
abbrev pub AnswersQuietly : {H : Type 0} → (H → List ℕ → List ℕ → Bool → H → Type 0) → H → List (List ℕ) → List ℕ → H → Type 0
AnswersQuietly answers old [] replies new = (replies ≡ []) × (new ≡ old)
AnswersQuietly {H} answers old (line ∷ lines) replies new = (reply : List ℕ) × (rest : List ℕ) × (mid : H)
    × (replies ≡ reply ++ rest) × answers old line reply false mid × AnswersQuietly answers mid lines rest new

-- One line was answered.
abbrev pub AnswersOne : {H : Type 0} → (H → List ℕ → List ℕ → Bool → H → Type 0) → Bool → H → List (List ℕ) → List ℕ → H → Type 0
AnswersOne answers changes old lines reply new = (line : List ℕ) × (lines ≡ line ∷ []) × answers old line reply changes new

-- The lines of the input up to the tail were answered: however the input goes on, its lines are these
-- and those of the tail.
pub record Reaches {H : Type 0} (Run : H → List (List ℕ) → List ℕ → H → Type 0) (old : H) (input tail replies : List ℕ) (new : H) : Type 0 where
  pub lines : List (List ℕ)
  pub answered : Run old lines replies new
  pub splits : (more : List ℕ) → all_lines (input ++ more) ≡ lines ++ all_lines (tail ++ more)

-- Some of what was pending was answered, and this is pending now.
abbrev pub Advances : {H : Type 0} → (H → List (List ℕ) → List ℕ → H → Type 0) → H → Pending → List ℕ → H → Pending → Type 0
Advances Run old before replies new after =
    (tail : List ℕ) → IsTail tail before → (rest : List ℕ) × IsTail rest after × Reaches Run old tail rest replies new

-- The replies to what was pending break off.
abbrev pub Interrupts : {H : Type 0} → (H → List ℕ → List ℕ → Bool → H → Type 0) → H → Pending → List ℕ → H → Type 0
Interrupts answers old before written new =
    (tail : List ℕ) → IsTail tail before → BreaksOff answers old (ended_lines tail) written new

-- The reply to the input's last line breaks off, or the line was not answered.
abbrev pub InterruptsLast : {H : Type 0} → (H → List ℕ → List ℕ → Bool → H → Type 0) → H → Pending → List ℕ → H → Type 0
InterruptsLast answers old before written new =
    ((written ≡ []) × (new ≡ old))
    ⊎ ((reply : List ℕ) × (changes : Bool) × (cut_off : List ℕ) × (reply ≡ written ++ cut_off)
    × ((tail : List ℕ) → IsTail tail before → answers old tail reply changes new))
