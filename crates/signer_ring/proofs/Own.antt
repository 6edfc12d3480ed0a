-- Calls on many signers, seen from one of them.
use Rattle.std.proofs.Common.{◌≡◌, ◌≢◌, ◌<◌, ◌≤◌, ℕ, zero, suc, List, [], ◌∷◌, ◌++◌, Bool, true, false, cond, eqb, Option, Some, None, refl, sym, ap, subst, ◌∙◌, arith, inl, inr, ◌⊎◌}
use Rattle.std.specs.Prelude.{slice_get, slice_set, option_map, All, IfSome}
use Rattle.std.specs.Option.{option_map_or}
use Rattle.std.proofs.lemmas.Bool.{eqb-true, eqb-false, eq-eqb, ne_eqb, cases_eq, cases_lt}
use Rattle.std.proofs.lemmas.Option.{same_Some, none-some}
use Rattle.std.proofs.lemmas.List.Elements.{All-nil, All-cons, filter-append}
use Rattle.items.specs.laws.ElementLaws.{set-same, set-other}
use Rattle.signer_api.specs.State.{SignerState, Tells, Vouches}
use Rattle.signer_ring.specs.Calls as calls
use Rattle.signer_ring.specs.Calls.{Call, signer_of, change, after_call, after_calls, IsVouched}
use Rattle.signer_ring.specs.Calls.Call.{Makes, Signs}
use Rattle.signer_ring.specs.Jobs.{calls_on}
use Rattle.signer_ring.specs.inner.Working.{changed, VouchesFor, VouchesForAll}
use Rattle.signer_ring.proofs.Changed.{tells-before, vouches-after}

-- ---- what calls leave of one signer

unchanged : (o : Option SignerState) → o ≡ option_map (changed []) o
unchanged None = refl
unchanged (Some s) = refl

one-first : (call : Call) (made : List Call) (o : Option SignerState)
    → option_map (changed made) (option_map (change call) o) ≡ option_map (changed (call ∷ made)) o
one-first call made None = refl
one-first call made (Some s) = refl

at-own : (ring : List SignerState) (call : Call)
    → slice_get (after_call ring call) (signer_of call) ≡ option_map (change call) (slice_get ring (signer_of call))
at-own ring call = by (slice_get ring (signer_of call)) refl
  where
    by : (o : Option SignerState) → slice_get ring (signer_of call) ≡ o
        → slice_get (option_map_or (λ signer. slice_set ring (signer_of call) (change call signer)) o ring) (signer_of call) ≡ option_map (change call) o
    by None is = is
    by (Some s) is = set-same ring (signer_of call) s (change call s) is

at-other : (ring : List SignerState) (call : Call) (n : ℕ) → n ≢ signer_of call
    → slice_get (after_call ring call) n ≡ slice_get ring n
at-other ring call n apart = by (slice_get ring (signer_of call))
  where
    by : (o : Option SignerState)
        → slice_get (option_map_or (λ signer. slice_set ring (signer_of call) (change call signer)) o ring) n ≡ slice_get ring n
    by None = refl
    by (Some s) = set-other ring n (signer_of call) (change call s) apart

one-call : (ring : List SignerState) (call : Call) (made : List Call) (n : ℕ) (b : Bool) → eqb (signer_of call) n ≡ b
    → option_map (changed (calls_on n made)) (slice_get (after_call ring call) n)
    ≡ option_map (changed (cond b (call ∷ calls_on n made) (calls_on n made))) (slice_get ring n)
one-call ring call made n true is =
    subst (λ (m : ℕ). option_map (changed (calls_on n made)) (slice_get (after_call ring call) m) ≡ option_map (changed (call ∷ calls_on n made)) (slice_get ring m))
    (eqb-true (signer_of call) n is)
    (ap (option_map (changed (calls_on n made))) (at-own ring call) ∙ one-first call (calls_on n made) (slice_get ring (signer_of call)))
one-call ring call made n false is =
    ap (option_map (changed (calls_on n made))) (at-other ring call n (λ e. eqb-false (signer_of call) n is (sym e)))

-- A signer behind calls on many is what its own calls leave of it.
pub after-at : (ring : List SignerState) (made : List Call) (n : ℕ)
    → slice_get (after_calls ring made) n ≡ option_map (changed (calls_on n made)) (slice_get ring n)
after-at ring [] n = unchanged (slice_get ring n)
after-at ring (call ∷ made) n =
    after-at (after_call ring call) made n ∙ one-call ring call made n (eqb (signer_of call) n) refl

pub same-from-get : (xs ys : List SignerState) → ((n : ℕ) → slice_get xs n ≡ slice_get ys n) → xs ≡ ys
same-from-get [] [] each = refl
same-from-get [] (y ∷ ys) each = absurd (none-some y (each 0))
same-from-get (x ∷ xs) [] each = absurd (none-some x (sym (each 0)))
same-from-get (x ∷ xs) (y ∷ ys) each =
    ap (λ (z : SignerState). z ∷ xs) (same_Some x y (each 0)) ∙ ap (λ (zs : List SignerState). y ∷ zs) (same-from-get xs ys (λ n. each (suc n)))

-- ---- one call more

pub changed-push : (made : List Call) (call : Call) (s : SignerState) → changed (made ++ call ∷ []) s ≡ change call (changed made s)
changed-push [] call s = refl
changed-push (first ∷ made) call s = changed-push made call (change first s)

vouches-on-one : (s : SignerState) (call further : Call) → VouchesFor s call → VouchesFor (change further s) call
vouches-on-one s (Makes n key) further vouches = tt
vouches-on-one s (Signs n one) further vouches =
    λ tells. vouches-after further s one.key one.digest one.signature (vouches (tells-before further s tells))
vouches-on-one s (calls.Call.Once n one) further vouches =
    λ tells. vouches-after further s one.key one.digest one.signature (vouches (tells-before further s tells))

vouches-on : (s : SignerState) (made : List Call) (further : Call) → VouchesForAll s made → VouchesForAll (change further s) made
vouches-on s [] further vouches = tt
vouches-on s (call ∷ made) further vouches =
    (vouches-on-one s call further vouches.0, vouches-on s made further vouches.1)

vouches-both : (s : SignerState) (made : List Call) (call : Call) → VouchesForAll s made → VouchesFor s call → VouchesForAll s (made ++ call ∷ [])
vouches-both s [] call all one = (one, tt)
vouches-both s (first ∷ made) call all one = (all.0, vouches-both s made call all.1 one)

pub vouches-push : (before after : SignerState) (made : List Call) (call : Call) → after ≡ change call before
    → VouchesForAll before made → VouchesFor after call → VouchesForAll after (made ++ call ∷ [])
vouches-push before after made call is all one =
    vouches-both after made call (subst (λ (s : SignerState). VouchesForAll s made) (sym is) (vouches-on before made call all)) one

-- ---- what all vouch for

head-vouched : (new : List SignerState) (call : Call) → ((s : SignerState) → slice_get new (signer_of call) ≡ Some s → VouchesFor s call) → IsVouched new call
head-vouched new (Makes n key) at = tt
head-vouched new (Signs n one) at = by (slice_get new n) refl
  where
    by : (o : Option SignerState) → slice_get new n ≡ o → IfSome o (λ signer. Tells signer → Vouches signer one.key one.digest one.signature)
    by None is = tt
    by (Some s) is = at s is
head-vouched new (calls.Call.Once n one) at = by (slice_get new n) refl
  where
    by : (o : Option SignerState) → slice_get new n ≡ o → IfSome o (λ signer. Tells signer → Vouches signer one.key one.digest one.signature)
    by None is = tt
    by (Some s) is = at s is

first-of-own : (s : SignerState) (call : Call) (rest : List Call) (b : Bool) → b ≡ true → VouchesForAll s (cond b (call ∷ rest) rest) → VouchesFor s call
first-of-own s call rest true is all = all.0
first-of-own s call rest false is all = absurd cc

rest-of-own : (s : SignerState) (call : Call) (rest : List Call) (b : Bool) → VouchesForAll s (cond b (call ∷ rest) rest) → VouchesForAll s rest
rest-of-own s call rest true all = all.1
rest-of-own s call rest false all = all

pub all-vouched : (new : List SignerState) (made : List Call)
    → ((n : ℕ) (s : SignerState) → slice_get new n ≡ Some s → VouchesForAll s (calls_on n made)) → All (IsVouched new) made
all-vouched new [] each = All-nil (IsVouched new)
all-vouched new (call ∷ made) each =
    All-cons (IsVouched new) call made
    (head-vouched new call (λ s is. first-of-own s call (calls_on (signer_of call) made) (eqb (signer_of call) (signer_of call))
    (eq-eqb (signer_of call) (signer_of call) refl) (each (signer_of call) s is)))
    (all-vouched new made (λ n s is. rest-of-own s call (calls_on n made) (eqb (signer_of call) n) (each n s is)))

-- ---- calls on one signer alone

abbrev pub AreOn : ℕ → List Call → Type 0
AreOn n [] = Unit {0}
AreOn n (call ∷ made) = (signer_of call ≡ n) × AreOn n made

own-first : (n : ℕ) (call : Call) (made : List Call) (b : Bool) → b ≡ true → calls_on n made ≡ made → cond b (call ∷ calls_on n made) (calls_on n made) ≡ call ∷ made
own-first n call made true is rest = ap (λ (more : List Call). call ∷ more) rest
own-first n call made false is rest = absurd cc

pub on-own : (n : ℕ) (made : List Call) → AreOn n made → calls_on n made ≡ made
on-own n [] on = refl
on-own n (call ∷ made) on = own-first n call made (eqb (signer_of call) n) (eq-eqb (signer_of call) n on.0) (on-own n made on.1)

other-first : (m : ℕ) (call : Call) (made : List Call) (b : Bool) → b ≡ false → calls_on m made ≡ [] → cond b (call ∷ calls_on m made) (calls_on m made) ≡ []
other-first m call made true is none = absurd cc
other-first m call made false is none = none

pub on-other : (n m : ℕ) (made : List Call) → m ≢ n → AreOn n made → calls_on m made ≡ []
on-other n m [] apart on = refl
on-other n m (call ∷ made) apart on =
    other-first m call made (eqb (signer_of call) m) (ne_eqb (signer_of call) m (λ e. apart (sym e ∙ on.0))) (on-other n m made apart on.1)

-- The calls on the first signers, one signer after another.
abbrev pub gathered : (ℕ → List Call) → ℕ → List Call
gathered f zero = []
gathered f (suc n) = gathered f n ++ f n

gathered-behind : (f : ℕ → List Call) → ((n : ℕ) → AreOn n (f n)) → (count m : ℕ) → count ≤ m → calls_on m (gathered f count) ≡ []
gathered-behind f on zero m behind = refl
gathered-behind f on (suc n) m behind =
    filter-append (λ (call : Call). eqb (signer_of call) m) (gathered f n) (f n)
    ∙ (ap (λ (xs : List Call). xs ++ calls_on m (f n)) (gathered-behind f on n m (omega (arith, behind)))
    ∙ on-other n m (f n) (λ e. absurd (omega (arith, behind, e))) (on n))

append-none : (xs : List Call) → xs ++ [] ≡ xs
append-none [] = refl
append-none (x ∷ xs) = ap (λ (rest : List Call). x ∷ rest) (append-none xs)

gathered-one : (f : ℕ → List Call) → ((n : ℕ) → AreOn n (f n)) → (n m : ℕ) → m < suc n → (m < n → calls_on m (gathered f n) ≡ f m)
    → (m ≡ n) ⊎ (m ≢ n) → calls_on m (gathered f n) ++ calls_on m (f n) ≡ f m
gathered-one f on n m inside before (inl same) =
    ap (λ (xs : List Call). xs ++ calls_on m (f n)) (gathered-behind f on n m (omega (arith, same)))
    ∙ subst (λ (k : ℕ). calls_on m (f k) ≡ f m) same (on-own m (f m) (on m))
gathered-one f on n m inside before (inr apart) =
    ap (λ (xs : List Call). calls_on m (gathered f n) ++ xs) (on-other n m (f n) apart (on n))
    ∙ (append-none (calls_on m (gathered f n)) ∙ before (omega (arith, inside, apart)))

gathered-inside : (f : ℕ → List Call) → ((n : ℕ) → AreOn n (f n)) → (count m : ℕ) → m < count → calls_on m (gathered f count) ≡ f m
gathered-inside f on zero m inside = absurd (omega (arith, inside))
gathered-inside f on (suc n) m inside =
    filter-append (λ (call : Call). eqb (signer_of call) m) (gathered f n) (f n)
    ∙ gathered-one f on n m inside (λ low. gathered-inside f on n m low) (cases_eq m n)

-- The calls on a signer are just those that come from it.
pub gathered-at : (f : ℕ → List Call) → ((n : ℕ) → AreOn n (f n)) → (count : ℕ) → ((n : ℕ) → count ≤ n → f n ≡ [])
    → (m : ℕ) → calls_on m (gathered f count) ≡ f m
gathered-at f on count none m = by (cases_lt m count)
  where
    by : (m < count) ⊎ (count ≤ m) → calls_on m (gathered f count) ≡ f m
    by (inl inside) = gathered-inside f on count m inside
    by (inr behind) = gathered-behind f on count m behind ∙ sym (none m behind)
