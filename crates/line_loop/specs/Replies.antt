-- What is answered to lines, one after another.
use Rattle.std.specs.Prelude.{◌≡◌, ℕ, Bool, false, List, [], ◌∷◌, ◌++◌}

-- From old, a handler may answer these lines with these bytes, the reply to each in its place, and be
-- left in new.
abbrev pub Answers : {H : Type 0} → (H → List ℕ → List ℕ → Bool → H → Type 0) → H → List (List ℕ) → List ℕ → H → Type 0
Answers answers old [] replies new = (replies ≡ []) × (new ≡ old)
Answers {H} answers old (line ∷ lines) replies new = (reply : List ℕ) × (rest : List ℕ) × (changes : Bool) × (mid : H)
    × (replies ≡ reply ++ rest) × answers old line reply changes mid × Answers answers mid lines rest new

-- The same, where at most one line changes anything, the last.
abbrev pub AnswersAtMostOne : {H : Type 0} → (H → List ℕ → List ℕ → Bool → H → Type 0) → H → List (List ℕ) → List ℕ → H → Type 0
AnswersAtMostOne answers old [] replies new = (replies ≡ []) × (new ≡ old)
AnswersAtMostOne answers old (line ∷ []) replies new = (changes : Bool) × answers old line replies changes new
AnswersAtMostOne {H} answers old (line ∷ next ∷ lines) replies new = (reply : List ℕ) × (rest : List ℕ) × (mid : H)
    × (replies ≡ reply ++ rest) × answers old line reply false mid × AnswersAtMostOne answers mid (next ∷ lines) rest new

-- The first of these lines were answered, and of the replies a front stands in written. Of the lines
-- whose replies don't, at most one changed anything, the last that was answered.
pub record BreaksOff {H : Type 0} (answers : H → List ℕ → List ℕ → Bool → H → Type 0) (old : H) (lines : List (List ℕ)) (written : List ℕ) (new : H) : Type 0 where
  pub heard : List (List ℕ)
  pub unheard : List (List ℕ)
  pub rest : List (List ℕ)
  pub replies : List ℕ
  pub more : List ℕ
  pub part : List ℕ
  pub cut_off : List ℕ
  pub mid : H
  pub in_order : lines ≡ heard ++ unheard ++ rest
  pub answered : Answers answers old heard replies mid
  pub last : AnswersAtMostOne answers mid unheard more new
  pub taken : written ≡ replies ++ part
  pub lost : more ≡ part ++ cut_off
