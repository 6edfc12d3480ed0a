-- Lists side by side, and one item more of a list.
use Rattle.std.proofs.Common.{◌≡◌, ℕ, ◌+◌, ◌<◌, ◌≤◌, zero, suc, Option, List, [], ◌∷◌, ◌++◌, length, get_or}
use Rattle.std.proofs.Common.{take, map, refl, sym, ap, ◌∙◌, arith}
use Rattle.std.specs.List.{All}
use Rattle.std.specs.Simd.Lanes.{zip2}
use Rattle.std.specs.List.{cons_option, filter_map}
use Rattle.std.proofs.lemmas.List.{take_more, take_all, append_assoc, length-take-le, length-append}
use Rattle.std.proofs.lemmas.List.Elements.{filter_map-append}

pub get_or-zip2 : {A B C : Type 0} (f : A → B → C) (xs : List A) (ys : List B) (i : ℕ) (d : A) (e : B) (w : C)
    → i < length xs → i < length ys
    → get_or (zip2 f xs ys) i w ≡ f (get_or xs i d) (get_or ys i e)
get_or-zip2 f [] ys i d e w first second = absurd (omega arith)
get_or-zip2 f (x ∷ xs) [] i d e w first second = absurd (omega arith)
get_or-zip2 f (x ∷ xs) (y ∷ ys) zero d e w first second = refl
get_or-zip2 f (x ∷ xs) (y ∷ ys) (suc i) d e w first second =
    get_or-zip2 f xs ys i d e w (omega arith) (omega arith)

-- What is told of the first alone.
pub map-zip2 : {A B C D : Type 0} (g : C → D) (h : A → D) (f : A → B → C) (xs : List A) (ys : List B)
    → ((x : A) (y : B) → g (f x y) ≡ h x) → length xs ≡ length ys
    → map g (zip2 f xs ys) ≡ map h xs
map-zip2 g h f [] ys same long = refl
map-zip2 g h f (x ∷ xs) [] same long = absurd (omega arith)
map-zip2 {A} {B} {C} {D} g h f (x ∷ xs) (y ∷ ys) same long =
    ap (λ (z : D). z ∷ map g (zip2 f xs ys)) (same x y)
    ∙ ap (λ (l : List D). h x ∷ l) (map-zip2 g h f xs ys same (omega arith))

pub map-agree : {A B : Type 0} (f g : A → B) (xs : List A)
    → All (λ x. f x ≡ g x) xs → map f xs ≡ map g xs
map-agree f g [] all = refl
map-agree {A} {B} f g (x ∷ xs) all =
    let here : f x ≡ g x = all 0 x (omega arith) in
    ap (λ (y : B). y ∷ map f xs) here
    ∙ ap (λ (l : List B). g x ∷ l) (map-agree f g xs (λ k d less. all (suc k) d (omega arith)))

-- What holds of the images holds of the items.
pub all-back : {A B : Type 0} (P : B → Type 0) (f : A → B) (xs : List A)
    → All P (map f xs) → All (λ x. P (f x)) xs
all-back P f [] all k d less = absurd (omega arith)
all-back P f (x ∷ xs) all zero d less = all 0 (f x) (omega arith)
all-back P f (x ∷ xs) all (suc k) d less =
    all-back P f xs (λ i e within. all (suc i) e (omega arith)) k d (omega arith)

-- One item more, behind what was there.
pub more-taken : {X : Type 0} (whole start before after : List X) (i : ℕ) (y : X)
    → i < length whole → before ≡ start ++ take i whole → after ≡ before ++ y ∷ []
    → y ≡ get_or whole i y → after ≡ start ++ take (i + 1) whole
more-taken {X} whole start before after i y inside was now is =
    now ∙ (ap (λ (l : List X). l ++ y ∷ []) was
    ∙ (append_assoc start (take i whole) (y ∷ [])
    ∙ ap (λ (l : List X). start ++ l)
    (ap (λ (z : X). take i whole ++ z ∷ []) is ∙ sym (take_more whole i y inside))))

-- All of them.
pub all-taken : {X : Type 0} (whole start all : List X) (i : ℕ)
    → all ≡ start ++ take i whole → length whole ≤ i → all ≡ start ++ whole
all-taken {X} whole start all i was long =
    was ∙ ap (λ (l : List X). start ++ l) (take_all i whole long)

-- ---- as many as were yielded

pub long-taken : {X : Type 0} (whole taken : List X) (n : ℕ)
    → taken ≡ take n whole → n ≤ length whole → length taken ≡ n
long-taken whole taken n is le = ap length is ∙ length-take-le n whole le

pub next-taken : {X Y : Type 0} (whole before after : List X) (ys : List Y) (y : Y) (x : X)
    → length ys < length whole → before ≡ take (length ys) whole → after ≡ before ++ x ∷ []
    → x ≡ get_or whole (length ys) x → after ≡ take (length (ys ++ y ∷ [])) whole
next-taken {X} {Y} whole before after ys y x inside was now is =
    let more : length (ys ++ y ∷ []) ≡ length ys + 1 = length-append ys (y ∷ []) in
    more-taken whole [] before after (length ys) x inside was now is
    ∙ ap (λ (n : ℕ). take n whole) (sym more)

-- ---- what a function gives of each

pub filtered-next : {X Y : Type 0} (h : X → Option Y) (xs : List X) (i : ℕ) (d : X)
    (start before after : List Y) (o : Option Y)
    → i < length xs → before ≡ start ++ filter_map h (take i xs) → after ≡ before ++ cons_option o []
    → o ≡ h (get_or xs i d) → after ≡ start ++ filter_map h (take (i + 1) xs)
filtered-next {X} {Y} h xs i d start before after o inside was now is =
    now ∙ (ap (λ (l : List Y). l ++ cons_option o []) was
    ∙ (append_assoc start (filter_map h (take i xs)) (cons_option o [])
    ∙ ap (λ (l : List Y). start ++ l)
    (ap (λ (p : Option Y). filter_map h (take i xs) ++ cons_option p []) is
    ∙ (sym (filter_map-append h (take i xs) (get_or xs i d ∷ []))
    ∙ ap (filter_map h) (sym (take_more xs i d inside))))))
