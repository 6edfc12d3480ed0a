-- A draft that grows write by write.
use Rattle.std.proofs.Common.{◌≡◌, ℕ, ◌+◌, false, List, ◌++◌, take, drop, refl, sym, ◌∙◌, ap, append_assoc}
use Rattle.std.proofs.Math.Seq.{take-add}
use Rattle.std.specs.Prelude.{Option, None, Some, option_map, Ok}
use Rattle.host_calls.specs.Faults.{CountsAnswer}
use Rattle.outlet_api.specs.Folders.{Folder, grown}

-- so many of the bytes are behind those of the draft
abbrev pub IsGrown : List ℕ → ℕ → Option Folder → Option Folder → Type 0
IsGrown bytes n old new = new ≡ option_map (grown (take n bytes)) old

grown_twice : (a b : List ℕ) (old : Option Folder) → option_map (grown b) (option_map (grown a) old) ≡ option_map (grown (a ++ b)) old
grown_twice a b None = refl
grown_twice a b (Some f) = ap (λ (l : List ℕ). Some (record f { draft = l; synced = false })) (append_assoc f.draft a b)

pub grown_more : (bytes : List ℕ) (done n : ℕ) (old mid new : Option Folder) → IsGrown bytes done old mid → new ≡ option_map (grown (take n (drop done bytes))) mid
    → IsGrown bytes (done + n) old new
grown_more bytes done n old mid new so_far more =
    more
    ∙ ap (λ o. option_map (grown (take n (drop done bytes))) o) so_far
    ∙ grown_twice (take done bytes) (take n (drop done bytes)) old
    ∙ ap (λ l. option_map (grown l) old) (sym (take-add done n bytes))

pub write_ok : {T : Type 0} (before after patience left : ℕ) (value : T) → CountsAnswer before after patience left (Ok value) → after ≡ before
write_ok before after patience left value counts = counts.0
