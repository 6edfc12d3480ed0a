-- Calls that are made one after another.
use Rattle.std.proofs.Common.{◌≡◌, ◌<◌, ⊎_elim, ℕ, ◌+◌, List, [], ◌∷◌, ◌++◌, length, take, get_or, refl, sym, ◌∙◌, ap, arith}
use Rattle.std.proofs.lemmas.List.{take_more, take-map, map-append, length-map, length-append}
use Rattle.std.proofs.Math.Seq.{take-append-add}
use Rattle.std.specs.Prelude.{Option, None, Some, option_map, map, Result, Ok, Err, OnOk, OnErr}
use Rattle.outlet_api.specs.Calls.{Files, Call, after, after_all, MayHaveDone, IsFront}
use Rattle.outlet_api.specs.laws.FrontLaws.{after_all-append}

-- so many of the first calls were made
abbrev pub AreMade : List Call → ℕ → Option Files → Option Files → Type 0
AreMade calls n old new = new ≡ option_map (after_all (take n calls)) old

-- some calls after others
after_both : (xs ys : List Call) (old : Option Files) → option_map (after_all ys) (option_map (after_all xs) old) ≡ option_map (after_all (xs ++ ys)) old
after_both xs ys None = refl
after_both xs ys (Some files) = ap (λ (f : Files). Some f) (sym (after_all-append xs ys files))

after_one : (call : Call) (old : Option Files) → option_map (after call) old ≡ option_map (after_all (call ∷ [])) old
after_one call None = refl
after_one call (Some files) = refl

-- the first so many calls and one more
first_more : {X : Type 0} (call_of : X → Call) (xs : List X) (i : ℕ) (x : X) → i < length xs → x ≡ get_or xs i x
    → take (i + 1) (map call_of xs) ≡ take i (map call_of xs) ++ call_of x ∷ []
first_more call_of xs i x lt is =
    take-map call_of (i + 1) xs
    ∙ ap (λ l. map call_of l) (take_more xs i x lt)
    ∙ map-append call_of (take i xs) (get_or xs i x ∷ [])
    ∙ ap (λ y. map call_of (take i xs) ++ call_of y ∷ []) (sym is)
    ∙ ap (λ l. l ++ call_of x ∷ []) (sym (take-map call_of i xs))

pub made_more : {X : Type 0} (call_of : X → Call) (xs : List X) (i : ℕ) (x : X) (old mid new : Option Files) → i < length xs → x ≡ get_or xs i x
    → AreMade (map call_of xs) i old mid → new ≡ option_map (after (call_of x)) mid → AreMade (map call_of xs) (i + 1) old new
made_more call_of xs i x old mid new lt is so_far one =
    one
    ∙ ap (λ o. option_map (after (call_of x)) o) so_far
    ∙ after_one (call_of x) (option_map (after_all (take i (map call_of xs))) old)
    ∙ after_both (take i (map call_of xs)) (call_of x ∷ []) old
    ∙ ap (λ l. option_map (after_all l) old) (sym (first_more call_of xs i x lt is))

-- the call that failed may be done
pub stopped_at : {X : Type 0} (call_of : X → Call) (xs : List X) (i : ℕ) (x : X) (old mid new : Option Files) → i < length xs → x ≡ get_or xs i x
    → AreMade (map call_of xs) i old mid → MayHaveDone (call_of x) mid new → IsFront (map call_of xs) old new
stopped_at call_of xs i x old mid new lt is so_far doubt =
    ⊎_elim
    (λ none. (i, omega (arith, lt, length-map xs call_of), none ∙ so_far))
    (λ done. (i + 1, omega (arith, lt, length-map xs call_of), made_more call_of xs i x old mid new lt is so_far done))
    doubt

-- and one of the second, behind all of the first
pub front_second : (xs ys : List Call) (old mid new : Option Files) → mid ≡ option_map (after_all xs) old → IsFront ys mid new → IsFront (xs ++ ys) old new
front_second xs ys old mid new all front = (
  length xs + front.0,
  omega (arith, front.1, length-append xs ys),
  front.2
      ∙ ap (λ o. option_map (after_all (take front.0 ys)) o) all
      ∙ after_both xs (take front.0 ys) old
      ∙ ap (λ l. option_map (after_all l) old) (sym (take-append-add xs ys front.0)),
)

pub all_both : (xs ys : List Call) (old mid new : Option Files) → mid ≡ option_map (after_all xs) old → new ≡ option_map (after_all ys) mid
    → new ≡ option_map (after_all (xs ++ ys)) old
all_both xs ys old mid new first second = second ∙ ap (λ o. option_map (after_all ys) o) first ∙ after_both xs ys old

-- what is so whatever was answered, and what follows where it is so
pub on_err : {T E : Type 0} (r : Result T E) (P : Type 0) → P → OnErr r P
on_err (Ok x) P p = tt
on_err (Err e) P p = p

pub on_err_more : {T E : Type 0} (r : Result T E) (P Q : Type 0) → (P → Q) → OnErr r P → OnErr r Q
on_err_more (Ok x) P Q f p = tt
on_err_more (Err e) P Q f p = f p

pub on_ok_more : {T E : Type 0} (r : Result T E) (P Q : Type 0) → (P → Q) → OnOk r P → OnOk r Q
on_ok_more (Ok x) P Q f p = f p
on_ok_more (Err e) P Q f p = tt
