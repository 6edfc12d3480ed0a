-- Objects with their answers, and lists side by side.
use Rattle.std.proofs.Common.{◌≡◌, ℕ, zero, suc, ◌<◌, ◌≤◌, ◌+◌, List, [], ◌∷◌, ◌++◌, length, get_or, drop, map, refl, sym, ap, subst, ◌∙◌, arith}
use Rattle.std.specs.Prelude.{All}
use Rattle.std.proofs.lemmas.List.{length_push, length-drop, get_or-drop, drop-drop}
use Rattle.std.proofs.lemmas.List.Elements.{All-nil, All-cons, All-head, All-tail}
use Rattle.issue_drafts.specs.Drafts.{Draft}
use Rattle.issue_sign.specs.Objects.{Answers, Signed}
use Rattle.issue_sign.specs.Made.{signed}
use Rattle.issue_sign.specs.inner.Steps.{Pairs, Triples}

-- ---- objects with their answers

pub signed-nil : (ds : List Draft) → signed ds [] ≡ []
signed-nil [] = refl
signed-nil (d ∷ ds) = refl

abbrev pub with_answers : Draft → Answers → Signed
with_answers d a = record { draft = d; answers = a }

pub drafts-of : (ds : List Draft) (xs : List Answers) → length xs ≡ length ds → map (λ (x : Signed). x.draft) (signed ds xs) ≡ ds
drafts-of [] xs e = refl
drafts-of (d ∷ ds) [] e = absurd (omega arith)
drafts-of (d ∷ ds) (x ∷ xs) e =
    let rest : length xs ≡ length ds = omega arith in
    ap (λ (t : List Draft). d ∷ t) (drafts-of ds xs rest)

-- One more of a list that a function is taken of.
pub mapped-more : {A B : Type 0} (f : A → B) (xs : List A) (x : A) (ys : List B) → map f (xs ++ x ∷ []) ++ ys ≡ map f xs ++ f x ∷ ys
mapped-more f [] x ys = refl
mapped-more {A} {B} f (z ∷ xs) x ys = ap (λ (l : List B). f z ∷ l) (mapped-more f xs x ys)

-- ---- lists side by side

pub pairs-nil : {A B : Type 0} (R : A → B → Type 0) (xs : List A) → Pairs R xs []
pairs-nil R [] = tt
pairs-nil R (x ∷ xs) = tt

pub pairs-push : {A B : Type 0} (R : A → B → Type 0) (xs : List A) (ys : List B) (x : A) (y : B) → length ys < length xs → Pairs R xs ys
    → R (get_or xs (length ys) x) y → Pairs R xs (ys ++ y ∷ [])
pairs-push R [] ys x y lt pairs r = absurd (omega arith)
pairs-push R (z ∷ xs) [] x y lt pairs r = (r, pairs-nil R xs)
pairs-push R (z ∷ xs) (w ∷ ys) x y lt pairs r =
    let short : length ys < length xs = omega arith in
    (pairs.0, pairs-push R xs ys x y short pairs.1 r)

pub pairs-at : {A B : Type 0} (R : A → B → Type 0) (xs : List A) (ys : List B) (i : ℕ) (x : A) (y : B) → i < length ys → Pairs R xs ys
    → R (get_or xs i x) (get_or ys i y)
pairs-at R [] [] i x y lt pairs = absurd (omega arith)
pairs-at R [] (w ∷ ys) i x y lt pairs = absurd pairs
pairs-at R (z ∷ xs) [] i x y lt pairs = absurd (omega arith)
pairs-at R (z ∷ xs) (w ∷ ys) zero x y lt pairs = pairs.0
pairs-at R (z ∷ xs) (w ∷ ys) (suc i) x y lt pairs =
    let short : i < length ys = omega arith in
    pairs-at R xs ys i x y short pairs.1

-- Two relations of the same lists give a third, of what a function makes of the first one.
pub pairs-mapped : {A B C : Type 0} (g : A → C) (P Q : A → B → Type 0) (R : C → B → Type 0) → ((x : A) (y : B) → P x y → Q x y → R (g x) y)
    → (xs : List A) (ys : List B) → Pairs P xs ys → Pairs Q xs ys → Pairs R (map g xs) ys
pairs-mapped g P Q R f [] [] p q = tt
pairs-mapped g P Q R f [] (y ∷ ys) p q = absurd p
pairs-mapped g P Q R f (x ∷ xs) [] p q = tt
pairs-mapped g P Q R f (x ∷ xs) (y ∷ ys) p q = (f x y p.0 q.0, pairs-mapped g P Q R f xs ys p.1 q.1)

-- One after the other.
pub pairs-through : {A B C : Type 0} (P : A → B → Type 0) (Q : B → C → Type 0) (R : A → C → Type 0) → ((x : A) (y : B) (z : C) → P x y → Q y z → R x z)
    → (xs : List A) (ys : List B) (zs : List C) → Pairs P xs ys → Pairs Q ys zs → Pairs R xs zs
pairs-through P Q R f xs ys [] p q = pairs-nil R xs
pairs-through P Q R f xs [] (z ∷ zs) p q = absurd q
pairs-through P Q R f [] (y ∷ ys) (z ∷ zs) p q = absurd p
pairs-through P Q R f (x ∷ xs) (y ∷ ys) (z ∷ zs) p q = (f x y z p.0 q.0, pairs-through P Q R f xs ys zs p.1 q.1)

pub pairs-weaker : {A B : Type 0} (P R : A → B → Type 0) → ((x : A) (y : B) → P x y → R x y) → (xs : List A) (ys : List B) → Pairs P xs ys → Pairs R xs ys
pairs-weaker P R f [] [] p = tt
pairs-weaker P R f [] (y ∷ ys) p = absurd p
pairs-weaker P R f (x ∷ xs) [] p = tt
pairs-weaker P R f (x ∷ xs) (y ∷ ys) p = (f x y p.0, pairs-weaker P R f xs ys p.1)

-- What holds of each of the second list.
pub pairs-all : {A B : Type 0} (P : A → B → Type 0) (R : B → Type 0) → ((x : A) (y : B) → P x y → R y) → (xs : List A) (ys : List B) → Pairs P xs ys → All R ys
pairs-all P R f [] [] p = All-nil R
pairs-all P R f [] (y ∷ ys) p = absurd p
pairs-all P R f (x ∷ xs) [] p = All-nil R
pairs-all P R f (x ∷ xs) (y ∷ ys) p = All-cons R y ys (f x y p.0) (pairs-all P R f xs ys p.1)

-- A relation that stays what it is where something holds of all of the first list.
pub pairs-of-all : {A B : Type 0} (S : A → Type 0) (P : A → B → Type 0) (R : B → Type 0) → ((x : A) (y : B) → S x → P x y → R y)
    → (xs : List A) (ys : List B) → All S xs → Pairs P xs ys → All R ys
pairs-of-all S P R f [] [] all p = All-nil R
pairs-of-all S P R f [] (y ∷ ys) all p = absurd p
pairs-of-all S P R f (x ∷ xs) [] all p = All-nil R
pairs-of-all S P R f (x ∷ xs) (y ∷ ys) all p =
    All-cons R y ys (f x y (All-head S x xs all) p.0) (pairs-of-all S P R f xs ys (All-tail S x xs all) p.1)

-- ---- three lists

pub triples-nil : {A B C : Type 0} (R : A → B → C → Type 0) (xs : List A) (ys : List B) → Triples R xs ys []
triples-nil R xs ys = tt

pub triples-push : {A B C : Type 0} (R : A → B → C → Type 0) (xs : List A) (ys : List B) (zs : List C) (x : A) (y : B) (z : C)
    → length zs < length xs → length zs < length ys → Triples R xs ys zs → R (get_or xs (length zs) x) (get_or ys (length zs) y) z
    → Triples R xs ys (zs ++ z ∷ [])
triples-push R [] ys zs x y z few less all r = absurd (omega (arith, few))
triples-push R (u ∷ xs) [] zs x y z few less all r = absurd (omega (arith, less))
triples-push R (u ∷ xs) (v ∷ ys) [] x y z few less all r = (r, tt)
triples-push R (u ∷ xs) (v ∷ ys) (w ∷ zs) x y z few less all r =
    let short : length zs < length xs = omega (arith, few) in
    let brief : length zs < length ys = omega (arith, less) in
    (all.0, triples-push R xs ys zs x y z short brief all.1 r)

-- A relation of three lists, with one of the first two and one of the first and the third, gives another, of what functions make of the first two.
pub triples-mapped : {A B C D E : Type 0} (g : A → D) (k : B → E) (P : A → B → Type 0) (Q : A → C → Type 0) (S : A → B → C → Type 0) (R : D → E → C → Type 0)
    → ((x : A) (y : B) (z : C) → P x y → Q x z → S x y z → R (g x) (k y) z) → (xs : List A) (ys : List B) (zs : List C)
    → Pairs P xs ys → Pairs Q xs zs → Triples S xs ys zs → Triples R (map g xs) (map k ys) zs
triples-mapped g k P Q S R f xs ys [] p q s = tt
triples-mapped g k P Q S R f [] ys (z ∷ zs) p q s = absurd s
triples-mapped g k P Q S R f (x ∷ xs) [] (z ∷ zs) p q s = absurd s
triples-mapped g k P Q S R f (x ∷ xs) (y ∷ ys) (z ∷ zs) p q s =
    (f x y z p.0 q.0 s.0, triples-mapped g k P Q S R f xs ys zs p.1 q.1 s.1)

-- The same with what came of the third list: a relation of the first list and that.
pub triples-through : {A B C D E : Type 0} (g : A → E) (P : A → B → Type 0) (S : A → B → C → Type 0) (T : C → D → Type 0) (R : E → D → Type 0)
    → ((x : A) (y : B) (z : C) (w : D) → P x y → S x y z → T z w → R (g x) w) → (xs : List A) (ys : List B) (zs : List C) (ws : List D)
    → Pairs P xs ys → Triples S xs ys zs → Pairs T zs ws → Pairs R (map g xs) ws
triples-through g P S T R f xs ys zs [] p s t = pairs-nil R (map g xs)
triples-through g P S T R f xs ys [] (w ∷ ws) p s t = absurd t
triples-through g P S T R f [] ys (z ∷ zs) (w ∷ ws) p s t = absurd s
triples-through g P S T R f (x ∷ xs) [] (z ∷ zs) (w ∷ ws) p s t = absurd s
triples-through g P S T R f (x ∷ xs) (y ∷ ys) (z ∷ zs) (w ∷ ws) p s t =
    (f x y z w p.0 s.0 t.0, triples-through g P S T R f xs ys zs ws p.1 s.1 t.1)

-- ---- one more, at the position where it was read

pub pairs-next : {A B : Type 0} (R : A → B → Type 0) (xs : List A) (ys : List B) (i : ℕ) (x : A) (y : B) → length ys ≡ i → i < length xs
    → x ≡ get_or xs i x → Pairs R xs ys → R x y → Pairs R xs (ys ++ y ∷ [])
pairs-next {A} {B} R xs ys i x y long lt is pairs r =
    let short : length ys < length xs = omega (arith, long, lt) in
    pairs-push R xs ys x y short pairs (subst (λ (z : A). R z y) (is ∙ ap (λ (n : ℕ). get_or xs n x) (sym long)) r)

-- What is read behind the first ones.
pub record IsRead (B : Type 0) (ys : List B) (k : ℕ) (y : B) (rest : List B) : Type 0 where
  pub some : k < length ys
  pub here : get_or ys k y ≡ y
  pub next : drop (k + 1) ys ≡ rest

pub read : {B : Type 0} (ys : List B) (k : ℕ) (y : B) (rest all : List B) → drop k ys ≡ all → all ≡ y ∷ rest → IsRead B ys k y rest
read {B} ys k y rest all left e =
    let at = left ∙ e in
    let count = ap length at in
    let short = length-drop k ys in
    let nothing : k + 0 ≡ k = omega arith in
    record {
      some = omega (arith, count, short);
      here = sym (get_or-drop k ys 0 y ∙ ap (λ (n : ℕ). get_or ys n y) nothing) ∙ ap (λ (l : List B). get_or l 0 y) at;
      next = sym (drop-drop 1 k ys) ∙ ap (drop 1) at;
    }

pub triples-next : {A B C : Type 0} (R : A → B → C → Type 0) (xs : List A) (ys : List B) (zs : List C) (i : ℕ) (x : A) (y : B) (z : C) (rest : List B)
    → length zs ≡ i → i < length xs → x ≡ get_or xs i x → IsRead B ys (length zs) y rest → Triples R xs ys zs → R x y z → Triples R xs ys (zs ++ z ∷ [])
triples-next {A} {B} {C} R xs ys zs i x y z rest long lt is at all r =
    let short : length zs < length xs = omega (arith, long, lt) in
    triples-push R xs ys zs x y z short at.some all
    (subst (λ (u : A). R u (get_or ys (length zs) y) z) (is ∙ ap (λ (n : ℕ). get_or xs n x) (sym long))
    (subst (λ (v : B). R x v z) (sym at.here) r))

pub left-next : {B C : Type 0} (ys : List B) (zs after : List C) (z : C) (y : B) (rest : List B) → after ≡ zs ++ z ∷ [] → IsRead B ys (length zs) y rest
    → drop (length after) ys ≡ rest
left-next {B} {C} ys zs after z y rest e at =
    ap (λ (l : List C). drop (length l) ys) e ∙ (ap (λ (n : ℕ). drop n ys) (length_push zs z) ∙ at.next)
