-- Deltas are counted one after another.
use Rattle.std.proofs.Common.{◌≡◌, ℕ, ◌+◌, ◌-◌, ◌<◌, ◌≤◌, true, false, cond, refl, sym, ◌∙◌, ap, arith, length, get_or, take, drop, List, [], ◌∷◌, ◌++◌, Bool, append_assoc}
use Rattle.std.specs.Prelude.{nat_lt, nat_le, ◌&&◌}
use Rattle.std.proofs.lemmas.Bool.Decides.{nat_tests}
use Rattle.std.proofs.lemmas.List.{append-nil, drop_more, take_more, take_all, drop_all}
use Rattle.rrdp_state.specs.declared.delta.Delta.{Delta}
use Rattle.rrdp_state.specs.Named.{fitting}

-- the deltas from a place on begin with the one there
from_here : (ds : List Delta) (i : ℕ) (d : Delta) → i < length ds → d ≡ get_or ds i d → drop i ds ≡ d ∷ drop (i + 1) ds
from_here ds i d within read = drop_more ds i d within ∙ ap (λ (x : Delta). x ∷ drop (i + 1) ds) (sym read)

pub count_more : (ds : List Delta) (i left room : ℕ) (d : Delta) → i < length ds → d ≡ get_or ds i d → i < 16 → length d.text ≤ left
    → take i ds ++ fitting (16 - i) left (drop i ds) ≡ fitting 16 room ds
    → take (i + 1) ds ++ fitting (16 - (i + 1)) (left - length d.text) (drop (i + 1) ds) ≡ fitting 16 room ds
count_more ds i left room d within read few small so_far =
    let test : (nat_lt 0 (16 - i) && nat_le (length d.text) left) ≡ true = grind (arith, nat_tests) in
    let most : 16 - (i + 1) ≡ 16 - i - 1 = omega arith in
    let rest : List Delta = fitting (16 - i - 1) (left - length d.text) (drop (i + 1) ds) in
    ap (λ n. take (i + 1) ds ++ fitting n (left - length d.text) (drop (i + 1) ds)) most
    ∙ (ap (λ (l : List Delta). l ++ rest) (take_more ds i d within ∙ ap (λ (x : Delta). take i ds ++ x ∷ []) (sym read))
    ∙ (append_assoc (take i ds) (d ∷ []) rest
    ∙ (ap (λ b. take i ds ++ cond b (d ∷ rest) []) (sym test)
    ∙ (ap (λ (l : List Delta). take i ds ++ fitting (16 - i) left l) (sym (from_here ds i d within read))
    ∙ so_far))))

pub count_stop : (ds : List Delta) (i left room : ℕ) (d : Delta) → i < length ds → d ≡ get_or ds i d → (nat_lt 0 (16 - i) && nat_le (length d.text) left) ≡ false
    → take i ds ++ fitting (16 - i) left (drop i ds) ≡ fitting 16 room ds → take i ds ≡ fitting 16 room ds
count_stop ds i left room d within read test so_far =
    sym (append-nil (take i ds))
    ∙ (ap (λ b. take i ds ++ cond b (d ∷ fitting (16 - i - 1) (left - length d.text) (drop (i + 1) ds)) []) (sym test)
    ∙ (ap (λ (l : List Delta). take i ds ++ fitting (16 - i) left l) (sym (from_here ds i d within read))
    ∙ so_far))

-- at the most, or where the next one is too long
pub full_here : (i left size : ℕ) → i ≡ 16 → (nat_lt 0 (16 - i) && nat_le size left) ≡ false
full_here i left size full = grind (arith, nat_tests)

pub long_here : (i left size : ℕ) → left < size → (nat_lt 0 (16 - i) && nat_le size left) ≡ false
long_here i left size long =
    let test : nat_le size left ≡ false = grind (arith, nat_tests) in
    ap (λ b. nat_lt 0 (16 - i) && b) test ∙ and_false (nat_lt 0 (16 - i))
  where
    and_false : (b : Bool) → (b && false) ≡ false
    and_false true = refl
    and_false false = refl

pub count_end : (ds : List Delta) (i left room : ℕ) → length ds ≤ i → take i ds ++ fitting (16 - i) left (drop i ds) ≡ fitting 16 room ds
    → take (length ds) ds ≡ fitting 16 room ds
count_end ds i left room all so_far =
    take_all (length ds) ds (omega arith)
    ∙ (sym (take_all i ds all)
    ∙ (sym (append-nil (take i ds))
    ∙ (ap (λ (l : List Delta). take i ds ++ fitting (16 - i) left l) (sym (drop_all i ds all))
    ∙ so_far)))
