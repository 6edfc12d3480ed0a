-- The last bytes brought to the front, one after the other.
use Rattle.std.proofs.Common.{◌≡◌, ℕ, ◌+◌, ◌-◌, ◌<◌, List, ◌++◌, length, take, drop, sym, ap, ◌∙◌, arith, append_assoc}
use Rattle.std.proofs.lemmas.List.{length-drop, length-take, length-append, drop-drop, drop-take, drop_all, take_all, take-take, take-append-drop}
use Rattle.std.proofs.Math.Seq.{drop-append-add, take-append-add}

-- The bytes with the last so many of them in front.
abbrev pub turned : List ℕ → ℕ → List ℕ
turned s i = drop (length s - i) s ++ take (length s - i) s

pub turned_none : (s : List ℕ) → s ≡ turned s 0
turned_none s =
    let all : length s - 0 ≡ length s = omega arith in
    let none = drop_all (length s) s (omega arith) in
    let whole = take_all (length s) s (omega arith) in
    sym (ap (λ (n : ℕ). drop n s ++ take n s) all ∙ ap (λ (t : List ℕ). t ++ take (length s) s) none ∙ whole)

-- One more.
pub turned_next : (s l : List ℕ) (i : ℕ) → i < length s → l ≡ turned s i
    → drop (length l - 1) l ++ take (length l - 1) l ≡ turned s (i + 1)
turned_next s l i more e =
    let m : ℕ = length s - (i + 1) in
    let next : length s - i ≡ m + 1 = omega arith in
    let front : List ℕ = drop (length s - i) s in
    let back : List ℕ = take (length s - i) s in
    let size : length front ≡ i = omega (arith, length-drop (length s - i) s) in
    let last : length l - 1 ≡ length front + m = omega (arith, size, ap length e, length-append front back, length-take (length s - i) s) in
    let one : drop (length l - 1) l ≡ take 1 (drop m s) =
    ap (λ (n : ℕ). drop n l) last ∙ ap (drop (length front + m)) e ∙ drop-append-add front back m ∙ ap (λ (n : ℕ). drop m (take n s)) next ∙ drop-take m 1 s in
    let others : take (length l - 1) l ≡ front ++ take m s =
    ap (λ (n : ℕ). take n l) last ∙ ap (take (length front + m)) e ∙ take-append-add front back m ∙ ap (λ (t : List ℕ). front ++ t) (take-take m (length s - i) s (omega arith)) in
    let behind : front ≡ drop 1 (drop m s) = ap (λ (n : ℕ). drop n s) next ∙ sym (drop-drop 1 m s) in
    ap (λ (t : List ℕ). t ++ take (length l - 1) l) one ∙ ap (λ (t : List ℕ). take 1 (drop m s) ++ t) others ∙ ap (λ (t : List ℕ). take 1 (drop m s) ++ (t ++ take m s)) behind ∙ sym (append_assoc (take 1 (drop m s)) (drop 1 (drop m s)) (take m s)) ∙ ap (λ (t : List ℕ). t ++ take m s) (take-append-drop 1 (drop m s))
