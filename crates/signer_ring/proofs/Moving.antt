-- Signers that are taken out from behind, and put back in their order.
use Rattle.std.proofs.Common.{◌≡◌, List, [], ◌∷◌, ◌++◌, map, reverse, refl, sym, ap, ◌∙◌, append_assoc}
use Rattle.std.proofs.lemmas.List.{map-append, reverse-append, append-nil}

map-reverse : {X Y : Type 0} (f : X → Y) (xs : List X) → map f (reverse xs) ≡ reverse (map f xs)
map-reverse f [] = refl
map-reverse {X} {Y} f (x ∷ xs) =
    ap (map f) (reverse-append (x ∷ []) xs)
    ∙ (map-append f (reverse xs) (x ∷ [])
    ∙ (ap (λ (ys : List Y). ys ++ f x ∷ []) (map-reverse f xs)
    ∙ sym (reverse-append (f x ∷ []) (map f xs))))

-- One more is taken out.
pub taken-more : {W X : Type 0} (f : W → X) (before after all : List X) (x : X) (workers : List W) (w : W) → before ≡ after ++ x ∷ [] → f w ≡ x
    → before ++ reverse (map f workers) ≡ all → after ++ reverse (map f (workers ++ w ∷ [])) ≡ all
taken-more {W} {X} f before after all x workers w split is was =
    ap (λ (ys : List X). after ++ reverse ys) (map-append f workers (w ∷ []))
    ∙ (ap (λ (ys : List X). after ++ ys) (reverse-append (map f workers) (f w ∷ []))
    ∙ (ap (λ (y : X). after ++ (y ∷ [] ++ reverse (map f workers))) is
    ∙ (sym (append_assoc after (x ∷ []) (reverse (map f workers)))
    ∙ (ap (λ (ys : List X). ys ++ reverse (map f workers)) (sym split) ∙ was))))

-- All are taken out, and the workers put in the signers' order.
pub taken-all : {W X : Type 0} (f : W → X) (left all : List X) (workers turned : List W) → left ≡ [] → left ++ reverse (map f workers) ≡ all
    → turned ≡ reverse workers → map f turned ≡ all
taken-all {W} {X} f left all workers turned none was is =
    ap (map f) is ∙ (map-reverse f workers ∙ (ap (λ (ys : List X). ys ++ reverse (map f workers)) (sym none) ∙ was))

pub taken-none : {W X : Type 0} (f : W → X) (all : List X) (workers : List W) → workers ≡ [] → all ++ reverse (map f workers) ≡ all
taken-none {W} {X} f all workers none =
    ap (λ (ws : List W). all ++ reverse (map f ws)) none ∙ append-nil all

-- One more is put back.
pub put-more : {W X : Type 0} (f : W → X) (before after all : List X) (w : W) (rest more : List W) → after ≡ before ++ f w ∷ [] → more ≡ w ∷ rest
    → before ++ map f more ≡ all → after ++ map f rest ≡ all
put-more {W} {X} f before after all w rest more is split was =
    ap (λ (ys : List X). ys ++ map f rest) is
    ∙ (append_assoc before (f w ∷ []) (map f rest)
    ∙ (ap (λ (ws : List W). before ++ map f ws) (sym split) ∙ was))

pub put-all : {W X : Type 0} (f : W → X) (xs all : List X) (rest : List W) → rest ≡ [] → xs ++ map f rest ≡ all → xs ≡ all
put-all {W} {X} f xs all rest none was = sym (append-nil xs) ∙ (ap (λ (ws : List W). xs ++ map f ws) (sym none) ∙ was)
