-- A list that is made of another, one after another.
use Rattle.std.proofs.Common.{◌≡◌, ℕ, ◌+◌, ◌<◌, ◌≤◌, List, [], ◌∷◌, ◌++◌, map, length, take, get_or, refl, sym, ap, ◌∙◌, subst}
use Rattle.std.proofs.lemmas.List.{take_all, take_more}

map_push : {X Y : Type 0} (f : X → Y) (xs : List X) (x : X) → map f (xs ++ x ∷ []) ≡ map f xs ++ f x ∷ []
map_push f [] x = refl
map_push f (y ∷ xs) x = ap (λ (l : List _). f y ∷ l) (map_push f xs x)

pub mapped_more : {X Y : Type 0} (f : X → Y) (all : List X) (at : ℕ) (x : X) (made more : List Y) → at < length all → x ≡ get_or all at x
    → made ≡ map f (take at all) → more ≡ made ++ f x ∷ [] → more ≡ map f (take (at + 1) all)
mapped_more f all at x made more within is so pushed =
    let longer : take (at + 1) all ≡ take at all ++ x ∷ [] = take_more all at x within ∙ ap (λ (y : _). take at all ++ y ∷ []) (sym is) in
    pushed ∙ (ap (λ (l : List _). l ++ f x ∷ []) so ∙ (sym (map_push f (take at all) x) ∙ ap (map f) (sym longer)))

pub mapped_all : {X Y : Type 0} (f : X → Y) (all : List X) (at : ℕ) (made : List Y) → length all ≤ at → made ≡ map f (take at all) → made ≡ map f all
mapped_all f all at made past so = so ∙ ap (map f) (take_all at all past)
