-- Elements are read one after another.
use Rattle.std.proofs.Common.{◌≡◌, ℕ, suc, ◌+◌, ◌-◌, ◌<◌, ◌≤◌, true, false, List, [], ◌∷◌, ◌++◌, length, take, Result, Ok, Err, refl, sym, ap, ◌∙◌, arith, append_assoc, if◌then◌else◌}
use Rattle.std.specs.List.{AllByRecursion, flat_map}
use Rattle.std.specs.declared.cmp.Ordering.TheVariants.{Less}
use Rattle.std.proofs.lemmas.List.{append-nil, take_all}
use Rattle.pub_set.specs.declared.objects.Object.{Object}
use Rattle.pub_set.specs.Objects.{uri_cmp, IsBehind}
use Rattle.rrdp_text.specs.Reading.{literal, begins, elements, ◌>>=◌}
use Rattle.std.specs.Prelude.{IsErrAnd, OnOk, is_ok}
use Rattle.rrdp_text.specs.inner.Parts.{Gives}
use Rattle.rrdp_text.specs.Template.{object_in}
use Rattle.rrdp_text.specs.declared.fault.Stop.{Stop}
use Rattle.rrdp_text.specs.declared.fault.Stop.TheVariants.{Here, Memory}
use Rattle.rrdp_text.proofs.LineLaws.{object_exact}
use Rattle.rrdp_text.proofs.Order.{uri_trans, less_is}

-- these elements, and then what is read
abbrev pub prepended : {E : Type 0} → List E → Result (List E × List ℕ) ℕ → Result (List E × List ℕ) ℕ
prepended es (Ok p) = Ok (es ++ p.0, p.1)
prepended es (Err left) = Err left

one_less : (n i : ℕ) → i < n → n - i ≡ suc (n - (i + 1))
one_less n i lt = omega arith

prepended_twice : {E : Type 0} (es : List E) (e : E) (r : Result (List E × List ℕ) ℕ)
    → prepended es (r >>= λ more. Ok (e ∷ more.0, more.1)) ≡ prepended (es ++ e ∷ []) r
prepended_twice {E} es e (Ok p) = ap (λ (l : List E). Ok (l, p.1)) (sym (append_assoc es (e ∷ []) p.0))
prepended_twice es e (Err left) = refl

pub start_list : {E : Type 0} (r : Result (List E × List ℕ) ℕ) → prepended [] r ≡ r
start_list (Ok p) = refl
start_list (Err left) = refl

pub more_list : {E : Type 0} (one : List ℕ → List ℕ → Result (E × List ℕ) ℕ) (uri : E → List ℕ) (end previous s rest : List ℕ) (es : List E) (e : E) (n i : ℕ)
    → i < n → begins 32 s ≡ true → one previous s ≡ Ok (e, rest)
    → prepended es (elements one uri end (n - i) previous s) ≡ prepended (es ++ e ∷ []) (elements one uri end (n - (i + 1)) (uri e) rest)
unfolding elements
more_list one uri end previous s rest es e n i lt space is =
    rw (one_less n i lt, space, is) (prepended_twice es e (elements one uri end (n - (i + 1)) (uri e) rest))

pub bad_list : {E : Type 0} (one : List ℕ → List ℕ → Result (E × List ℕ) ℕ) (uri : E → List ℕ) (end previous s : List ℕ) (es : List E) (left n i : ℕ)
    → i < n → begins 32 s ≡ true → one previous s ≡ Err left
    → prepended es (elements one uri end (n - i) previous s) ≡ Err left
unfolding elements
bad_list one uri end previous s es left n i lt space is = rw (one_less n i lt, space, is) refl

pub end_list : {E : Type 0} (one : List ℕ → List ℕ → Result (E × List ℕ) ℕ) (uri : E → List ℕ) (end previous s rest : List ℕ) (es : List E) (n i : ℕ)
    → i < n → begins 32 s ≡ false → literal end s ≡ Ok rest
    → prepended es (elements one uri end (n - i) previous s) ≡ Ok (es, rest)
unfolding elements
end_list {E} one uri end previous s rest es n i lt other is = rw (one_less n i lt, other, is) (ap (λ (l : List E). Ok (l, rest)) (append-nil es))

pub bad_end : {E : Type 0} (one : List ℕ → List ℕ → Result (E × List ℕ) ℕ) (uri : E → List ℕ) (end previous s : List ℕ) (es : List E) (left n i : ℕ)
    → i < n → begins 32 s ≡ false → literal end s ≡ Err left
    → prepended es (elements one uri end (n - i) previous s) ≡ Err left
unfolding elements
bad_end one uri end previous s es left n i lt other is = rw (one_less n i lt, other, is) refl

pub no_turn : {E : Type 0} (one : List ℕ → List ℕ → Result (E × List ℕ) ℕ) (uri : E → List ℕ) (end previous s : List ℕ) (es : List E) (n i : ℕ)
    → n ≤ i → prepended es (elements one uri end (n - i) previous s) ≡ Err 0
unfolding elements
no_turn one uri end previous s es n i over = let none : n - i ≡ 0 = omega arith in rw none refl

-- ---- the order of the objects read

all_push : (P : Object → Type 0) (os : List Object) (o : Object) → AllByRecursion P os → P o → AllByRecursion P (os ++ o ∷ [])
all_push P [] o all here = (here, tt)
all_push P (x ∷ os) o all here = (all.0, all_push P os o all.1 here)

pub behind_more : (os : List Object) (o : Object) (previous : List ℕ) → ((u : List ℕ) → uri_cmp previous u ≡ Less → IsBehind os u)
    → uri_cmp previous o.uri ≡ Less → (u : List ℕ) → uri_cmp o.uri u ≡ Less → IsBehind (os ++ o ∷ []) u
behind_more os o previous behind here u above =
    all_push (λ x. uri_cmp x.uri u ≡ Less) os o (behind u (uri_trans previous o.uri u here above)) above

-- ---- answers

-- a fault that is handed on
pub handed_on : {X Z A B : Type 0} (view : X → A) (other : Z → B) (e : Stop) (r : Result X Stop) (inner : Result B ℕ) (outer : Result A ℕ)
    → Gives other (Err e) inner → ((left : ℕ) → inner ≡ Err left → outer ≡ Err left) → IsErrAnd r (λ x. x ≡ e) → Gives view r outer
handed_on view other e (Ok x) inner outer gives same is = absurd is
handed_on view other (Here left) (Err x) inner outer gives same is = rw is (same left gives)
handed_on view other Memory (Err x) inner outer gives same is = rw is tt

pub above_in : (previous s rest : List ℕ) (o : Object) → object_in previous s ≡ Ok (o, rest) → uri_cmp previous o.uri ≡ Less
above_in previous s rest o is = less_is (uri_cmp previous o.uri) (((object_exact previous).taken s o rest is).0.uri).above

-- what an append that went well leaves
pub pushed : {T E : Type 0} (r : Result T E) (old more new target : List ℕ) → new ≡ (if is_ok r then old ++ more else old) → old ++ more ≡ target
    → OnOk r (new ≡ target)
pushed (Ok x) old more new target is same = is ∙ same
pushed (Err e) old more new target is same = tt

-- what stands after the last element and the end
pub written : {E : Type 0} (f : E → List ℕ) (front tail out new : List ℕ) (xs ys : List E) (i : ℕ) → out ≡ front ++ flat_map f (take i xs) → length xs ≤ i
    → xs ≡ ys → new ≡ out ++ tail → new ≡ front ++ flat_map f ys ++ tail
written {E} f front tail out new xs ys i so_far all same is =
    is ∙ ap (λ (l : List ℕ). l ++ tail) (so_far ∙ ap (λ (l : List E). front ++ flat_map f l) (take_all i xs all ∙ same))

-- what stands before the first
pub begun : {E : Type 0} (f : E → List ℕ) (front old new : List ℕ) (xs : List E) → new ≡ old ++ front → old ≡ [] → new ≡ front ++ flat_map f (take 0 xs)
begun f front old new xs is none = is ∙ ap (λ (l : List ℕ). l ++ front) none ∙ sym (append-nil front)
