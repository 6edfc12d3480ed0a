-- Calls that were answered alike: what that says of their beginnings.
use Rattle.std.proofs.Common.{◌≡◌, ℕ, ◌==◌, Bool, true, false, cond, List, [], ◌∷◌, ◌++◌, length, map, refl, sym, ap, ◌∙◌, arith, append-nil}
use Rattle.std.proofs.lemmas.Bool.{eq-eqb, eqb-true}
use Rattle.std.proofs.lemmas.List.{length-map}
use Rattle.signer_ring.specs.Calls.{Call, signer_of}
use Rattle.signer_ring.specs.Jobs.{calls_on}
use Rattle.issue_make.specs.Answers.{answer_of, answers_to, AreAnsweredAlike}
use Rattle.issue_make.proofs.OneOrder.{same-head, same-tail, same-cons}

pub same-long : {X Y : Type 0} (f : X → Y) (xs ys : List X) → map f xs ≡ map f ys → length xs ≡ length ys
same-long f xs ys e = sym (length-map xs f) ∙ (ap length e ∙ length-map ys f)

-- Lists that begin with as many items are the same in both parts.
pub split : {X Y : Type 0} (f : X → Y) (xs ys more rest : List X) → length xs ≡ length ys
    → map f (xs ++ more) ≡ map f (ys ++ rest) → (map f xs ≡ map f ys) × (map f more ≡ map f rest)
split f [] [] more rest long e = (refl, e)
split f [] (y ∷ ys) more rest long e = absurd (omega arith)
split f (x ∷ xs) [] more rest long e = absurd (omega arith)
split f (x ∷ xs) (y ∷ ys) more rest long e =
    let both = split f xs ys more rest (omega arith) (same-tail (f x) (f y) (map f (xs ++ more)) (map f (ys ++ rest)) e) in (
      same-cons (f x) (f y) (map f xs) (map f ys)
          (same-head (f x) (f y) (map f (xs ++ more)) (map f (ys ++ rest)) e) both.0,
      both.1,
    )

-- Wherever two lists of calls begin with calls on the same signers, these were answered the same; and so were the calls
-- behind them, if they are on the same signers.
abbrev pub BeginAlike : List Call → List Call → Type 0
BeginAlike calls others =
    (front more back rest : List Call) → calls ≡ front ++ more → others ≡ back ++ rest
    → map signer_of front ≡ map signer_of back
    → (answers_to front ≡ answers_to back) × (map signer_of more ≡ map signer_of rest → answers_to more ≡ answers_to rest)

pub by-jobs : (calls others : List Call) → answers_to calls ≡ answers_to others → BeginAlike calls others
by-jobs calls others same front more back rest is are signers =
    let e : map answer_of (front ++ more) ≡ map answer_of (back ++ rest) =
    ap (map answer_of) (sym is) ∙ (same ∙ ap (map answer_of) are) in
    let both = split answer_of front back more rest (same-long signer_of front back signers) e in
    (both.0, λ s. both.1)

-- ---- signer by signer

on-it : (n : ℕ) (call : Call) (calls : List Call) → signer_of call ≡ n → calls_on n (call ∷ calls) ≡ call ∷ calls_on n calls
on-it n call calls e =
    ap (λ (b : Bool). cond b (call ∷ calls_on n calls) (calls_on n calls)) (eq-eqb (signer_of call) n e)

-- The first call of both, where it is on that signer.
first-alike : (n : ℕ) (x y : Call) (xs ys : List Call) → signer_of x ≡ n → signer_of y ≡ n
    → answers_to (calls_on n (x ∷ xs)) ≡ answers_to (calls_on n (y ∷ ys))
    → (answer_of x ≡ answer_of y) × (answers_to (calls_on n xs) ≡ answers_to (calls_on n ys))
first-alike n x y xs ys e f same =
    let both : answer_of x ∷ answers_to (calls_on n xs) ≡ answer_of y ∷ answers_to (calls_on n ys) =
    sym (ap answers_to (on-it n x xs e)) ∙ (same ∙ ap answers_to (on-it n y ys f)) in (
      same-head (answer_of x) (answer_of y) (answers_to (calls_on n xs)) (answers_to (calls_on n ys)) both,
      same-tail (answer_of x) (answer_of y) (answers_to (calls_on n xs)) (answers_to (calls_on n ys)) both,
    )

rest-alike : (x y : Call) (xs ys : List Call) → signer_of x ≡ signer_of y → AreAnsweredAlike (x ∷ xs) (y ∷ ys)
    → AreAnsweredAlike xs ys
rest-alike x y xs ys same each n = by (signer_of x == n) refl
  where
    other : (call : Call) (calls : List Call) → (signer_of call == n) ≡ false
        → answers_to (calls_on n (call ∷ calls)) ≡ answers_to (calls_on n calls)
    other call calls e = ap (λ (b : Bool). answers_to (cond b (call ∷ calls_on n calls) (calls_on n calls))) e

    by : (b : Bool) → (signer_of x == n) ≡ b → answers_to (calls_on n xs) ≡ answers_to (calls_on n ys)
    by true e =
        let is : signer_of x ≡ n = eqb-true (signer_of x) n e in
        (first-alike n x y xs ys is (sym same ∙ is) (each n)).1
    by false e =
        sym (other x xs e) ∙ (each n ∙ other y ys (ap (λ (m : ℕ). m == n) (sym same) ∙ e))

peel : (xs ys more rest : List Call) → map signer_of xs ≡ map signer_of ys → AreAnsweredAlike (xs ++ more) (ys ++ rest)
    → (answers_to xs ≡ answers_to ys) × AreAnsweredAlike more rest
peel [] [] more rest signers each = (refl, each)
peel [] (y ∷ ys) more rest signers each = absurd cc
peel (x ∷ xs) [] more rest signers each = absurd cc
peel (x ∷ xs) (y ∷ ys) more rest signers each =
    let same : signer_of x ≡ signer_of y =
    same-head (signer_of x) (signer_of y) (map signer_of xs) (map signer_of ys) signers in
    let both = peel xs ys more rest
    (same-tail (signer_of x) (signer_of y) (map signer_of xs) (map signer_of ys) signers)
    (rest-alike x y (xs ++ more) (ys ++ rest) same each) in (
      same-cons (answer_of x) (answer_of y) (answers_to xs) (answers_to ys)
          (first-alike (signer_of x) x y (xs ++ more) (ys ++ rest) refl (sym same) (each (signer_of x))).0 both.0,
      both.1,
    )

whole : (xs ys : List Call) → map signer_of xs ≡ map signer_of ys → AreAnsweredAlike xs ys → answers_to xs ≡ answers_to ys
whole xs ys signers each =
    (peel xs ys [] [] signers (λ n. ap (λ (l : List Call). answers_to (calls_on n l)) (append-nil xs)
    ∙ (each n ∙ sym (ap (λ (l : List Call). answers_to (calls_on n l)) (append-nil ys))))).0

pub by-signers : (calls others : List Call) → AreAnsweredAlike calls others → BeginAlike calls others
by-signers calls others each front more back rest is are signers =
    let both = peel front back more rest signers (λ n. ap (λ (l : List Call). answers_to (calls_on n l)) (sym is)
    ∙ (each n ∙ ap (λ (l : List Call). answers_to (calls_on n l)) are)) in
    (both.0, λ same. whole more rest same both.1)
