-- Lists that grow by what a function gives of the elements of another.
use Rattle.std.proofs.Common.{◌≡◌, ℕ, ◌+◌, ◌<◌, Option, Some, None, List, [], ◌∷◌, ◌++◌, length, get_or, take, map, refl, sym, ap, subst, ◌∙◌, arith, append_assoc}
use Rattle.std.specs.Prelude.{IfSome}
use Rattle.std.specs.List.{All, cons_option, filter_map}
use Rattle.std.specs.Option.{option_map}
use Rattle.std.proofs.lemmas.List.{map-append, take_more}
use Rattle.std.proofs.lemmas.List.Elements.{filter_map-append, All-append, All-cons}

seen : {X Y : Type 0} (view : X → Y) (o : Option X) → map view (cons_option o []) ≡ cons_option (option_map view o) []
seen view None = refl
seen view (Some x) = refl

-- One more.
pub filtered-more : {X Y Z : Type 0} (view : Y → Z) (h : X → Option Z) (xs : List X) (i : ℕ) (d : X)
    (start : List Z) (before after : List Y) (o : Option Y)
    → i < length xs → map view before ≡ start ++ filter_map h (take i xs)
    → after ≡ before ++ cons_option o [] → option_map view o ≡ h (get_or xs i d)
    → map view after ≡ start ++ filter_map h (take (i + 1) xs)
filtered-more {X} {Y} {Z} view h xs i d start before after o lt was now is =
    ap (map view) now
    ∙ (map-append view before (cons_option o [])
    ∙ (ap (λ (l : List Z). l ++ map view (cons_option o [])) was
    ∙ (ap (λ (l : List Z). (start ++ filter_map h (take i xs)) ++ l) (seen view o ∙ ap (λ (p : Option Z). cons_option p []) is)
    ∙ (append_assoc start (filter_map h (take i xs)) (cons_option (h (get_or xs i d)) [])
    ∙ ap (λ (l : List Z). start ++ l)
    (sym (filter_map-append h (take i xs) (get_or xs i d ∷ [])) ∙ ap (filter_map h) (sym (take_more xs i d lt)))))))

one-more : {X : Type 0} (P : X → Type 0) (o : Option X) → IfSome o P → All P (cons_option o [])
one-more P None is = λ k d lt. absurd (omega arith)
one-more P (Some x) is = All-cons P x [] is (λ k d lt. absurd (omega arith))

pub all-more : {X : Type 0} (P : X → Type 0) (before after : List X) (o : Option X) → after ≡ before ++ cons_option o []
    → IfSome o P → All P before → All P after
all-more P before after o now is all =
    subst (All P) (sym now) (All-append P before (cons_option o []) all (one-more P o is))
