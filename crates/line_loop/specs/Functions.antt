-- What answers lines as a function of the handler that it is lent.
use denote.Ref.{Bor, MutBor}
use Rattle.std.specs.Prelude.{◌≡◌, ◌≤◌, ◌<◌, ℕ, Bool, List, [], ◌++◌, length}
use Rattle.std.specs.Prelude.{Vec, vec_len, Result, IfOk, OnErr}
use Rattle.line_loop.specs.declared.TheConstants.{LINE_LIMIT}

-- It may be asked for the answer to each line that is kept, where few replies wait: none where that
-- line takes long.
abbrev pub TakesLines : {H A Z : Type 0} → (List ℕ → Type 0)
    → (MutBor H → A → Bor (List ℕ) → MutBor (Vec ℕ Z) → Type 0) → Type 0
TakesLines {H} {A} {Z} long takes = (handler : MutBor H) (alloc : A) (line : Bor (List ℕ))
    (out : MutBor (Vec ℕ Z)) → length line.now ≤ LINE_LIMIT → vec_len out.now < 65536
    → (long line.now → out.now.items ≡ []) → takes handler alloc line out

-- What it says of such a line is an answer of the handler's to it, at the end of the replies. An
-- `Err` changes nothing.
abbrev pub GivesAnswers : {H A Z E : Type 0} → (H → List ℕ → List ℕ → Bool → H → Type 0)
    → (MutBor H → A → Bor (List ℕ) → MutBor (Vec ℕ Z) → Result Bool E → MutBor H → MutBor (Vec ℕ Z)
    → Type 0) → Type 0
GivesAnswers {H} {A} {Z} {E} answers gives = (old : MutBor H) (alloc : A) (line : Bor (List ℕ))
    (before : MutBor (Vec ℕ Z)) (result : Result Bool E) (new : MutBor H) (after : MutBor (Vec ℕ Z))
    → length line.now ≤ LINE_LIMIT → vec_len before.now < 65536
    → gives old alloc line before result new after
    → IfOk result (λ changes. (reply : List ℕ) × answers old.now line.now reply changes new.now
    × (after.now.items ≡ before.now.items ++ reply))
    × OnErr result ((new.now ≡ old.now) × (after.now.items ≡ before.now.items))
