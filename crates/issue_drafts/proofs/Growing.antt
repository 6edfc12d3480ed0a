-- Lists that grow, one more at a time.
use Rattle.std.proofs.Common.{◌≡◌, ℕ, ◌+◌, ◌<◌, List, [], ◌∷◌, ◌++◌, length, get_or, take}
use Rattle.std.proofs.Common.{map, sym, ap, ◌∙◌}
use Rattle.std.proofs.lemmas.List.{take_more, map-append, append_assoc}

-- What is made of the items so far is appended, by what is made of one item more.
pub grown : {A B : Type 0} (G : List A → List B) (g : A → List B)
    (adds : (xs : List A) (x : A) → G (xs ++ x ∷ []) ≡ G xs ++ g x) (start : List B) (xs : List A) (i : ℕ)
    (d : A) (more before after : List B)
    → i < length xs → before ≡ start ++ G (take i xs) → after ≡ before ++ more → more ≡ g (get_or xs i d)
    → after ≡ start ++ G (take (i + 1) xs)
grown {A} {B} G g adds start xs i d more before after lt was now is =
    now ∙ (ap (λ (l : List B). l ++ more) was ∙ (append_assoc start (G (take i xs)) more
    ∙ ap (λ (l : List B). start ++ l) (ap (λ (l : List B). G (take i xs) ++ l) is
    ∙ (sym (adds (take i xs) (get_or xs i d)) ∙ ap G (sym (take_more xs i d lt))))))

pub adds-map : {A B : Type 0} (f : A → B) (xs : List A) (x : A) → map f (xs ++ x ∷ []) ≡ map f xs ++ f x ∷ []
adds-map f xs x = map-append f xs (x ∷ [])

-- One value more of a map.
pub mapped : {A B : Type 0} (f : A → B) (start : List B) (xs : List A) (i : ℕ) (d : A) (y : B) (before after : List B)
    → i < length xs → before ≡ start ++ map f (take i xs) → after ≡ before ++ y ∷ [] → y ≡ f (get_or xs i d)
    → after ≡ start ++ map f (take (i + 1) xs)
mapped {A} {B} f start xs i d y before after lt was now is =
    grown (map f) (λ (x : A). f x ∷ []) (adds-map f) start xs i d (y ∷ []) before after lt was now
    (ap (λ (z : B). z ∷ []) is)
