-- What stands in a window.
use Rattle.std.proofs.Common.{◌≡◌, ℕ, zero, suc, ◌+◌, ◌-◌, ◌≤◌, min, Option, Some, None, List, [], ◌∷◌, length, take, drop, IfSome, refl, sym, ◌∙◌, ap, arith}
use Rattle.std.proofs.lemmas.List.{drop-drop, drop-take}
use Rattle.gate_journal.specs.inner.Reading.{Fills, IsWindow}

take-take : (a b : ℕ) (l : List ℕ) → a ≤ b → take a (take b l) ≡ take a l
take-take zero b l le = refl
take-take (suc a) zero l le = absurd (omega arith)
take-take (suc a) (suc b) [] le = refl
take-take (suc a) (suc b) (x ∷ l) le = ap (λ (r : List ℕ). x ∷ r) (take-take a b l (omega arith))

part : (skip got filled : ℕ) (l : List ℕ) → skip + got ≤ filled → take got (drop skip (take filled l)) ≡ take got (drop skip l)
part skip got filled l more =
    let rest = filled - skip in
    ap (λ (x : List ℕ). take got x) (ap (λ (n : ℕ). drop skip (take n l)) (omega (arith, more)) ∙ drop-take skip rest l) ∙ take-take got rest (drop skip l) (omega (arith, more))

-- a part of it
pub window_part : (start at got : ℕ) (window bytes : List ℕ) → IsWindow start window bytes → start ≤ at → at + got ≤ start + length window → take got (drop (at - start) window) ≡ take got (drop at bytes)
window_part start at got window bytes is le within =
    let skip = at - start in
    ap (λ (l : List ℕ). take got (drop skip l)) is
    ∙ part skip got (length window) (drop start bytes) (omega (arith, le, within))
    ∙ ap (λ (l : List ℕ). take got l) (drop-drop skip start bytes ∙ ap (λ (n : ℕ). drop n bytes) (omega (arith, le)))

pub empty_window : (content : Option (List ℕ)) (start : ℕ) (window : List ℕ) → ((bytes : List ℕ) → IsWindow start window bytes) → IfSome content (IsWindow start window)
empty_window None start window is = tt
empty_window (Some bytes) start window is = is bytes

-- what was read is a window
pub read_window_is : (content : Option (List ℕ)) (at size : ℕ) (window : List ℕ) → length window ≡ size → IfSome content (λ bytes. window ≡ take size (drop at bytes)) → IfSome content (IsWindow at window)
read_window_is None at size window long read = tt
read_window_is (Some bytes) at size window long read = read ∙ ap (λ (n : ℕ). take n (drop at bytes)) (sym long)

-- what is got of a head is all that there is
pub head_filled : (content : Option (List ℕ)) (at left want start : ℕ) (head window : List ℕ) → length head ≡ 9 → want ≡ min left 9 → IfSome content (IsWindow start window) → IfSome content (λ bytes. at + left ≡ length bytes)
    → ((bytes : List ℕ) → IsWindow start window bytes → take want head ≡ take want (drop at bytes)) → IfSome content (λ bytes. Fills bytes at want head)
head_filled None at left want start head window nine is stands there same = tt
head_filled (Some bytes) at left want start head window nine is stands there same = record { all = omega (arith, nine, is, there); put = same bytes stands }
