-- A call on one signer of many.
use Rattle.std.proofs.Common.{◌≡◌, ◌≢◌, ◌<◌, ℕ, zero, suc, List, [], ◌∷◌, Bool, length, map, set, get_or, Some, Option, Result, Ok, Err, refl, sym, ◌∙◌, ap, subst, arith, inl, inr, length-set, length-append}
use Rattle.std.specs.Prelude.{slice_get, slice_set, IfOk, IfSome, IsTrue, ◌↔◌, Any}
use Rattle.std.proofs.lemmas.List.{map-set, length-map, get_or-set_same, get_or-set_other, get_or_append_left}
use Rattle.std.proofs.lemmas.List.Quantifiers.{any-set}
use Rattle.std.proofs.lemmas.Option.{same_Some}
use Rattle.std.proofs.lemmas.Bool.{cases_eq}
use Rattle.signer_api.specs.declared.signer.SignerStop.{SignerStop}
use Rattle.signer_api.specs.declared.signer.SignerStop.TheVariants as Stop
use Rattle.signer_api.specs.State.{SignerState, Signed, Vouching, TellsBy, VouchesBy, Tells, Vouches, Answers, CountsFault, DropsKey, with_key, with_signature, with_once, also_vouching}
use Rattle.signer_api.specs.State.Vouching.{NotTold, Listed, Hashed}
use Rattle.signer_ring.specs.Ring.{AllTell, Vouched, ChangesOne, CallsOne, CallsAll, Keeps, answer_of}
use Rattle.signer_ring.specs.declared.fault.RingFault.{RingFault}
use Rattle.signer_ring.specs.declared.fault.RingFault.TheVariants.{NoSuchSigner, SignerFault, Memory}

-- What stands at a place, seen by f.
pub there : {S : Type 0} (f : S → SignerState) (xs : List S) (i : ℕ) (x : S) → i < length xs → x ≡ get_or xs i x → slice_get (map f xs) i ≡ Some (f x)
there f [] i x low is = let none : ⊥ = omega (arith, low) in absurd none
there f (y ∷ ys) zero x low is = ap (λ s. Some (f s)) (sym is)
there f (y ∷ ys) (suc i) x low is = there f ys i x (omega (arith, low)) is

below : (xs : List SignerState) (i : ℕ) (x : SignerState) → slice_get xs i ≡ Some x → i < length xs
below [] i x is = let none : ⊥ = cc in absurd none
below (y ∷ ys) zero x is = omega arith
below (y ∷ ys) (suc i) x is = omega (arith, below ys i x is)

at_place : (xs : List SignerState) (i : ℕ) (x d : SignerState) → slice_get xs i ≡ Some x → get_or xs i d ≡ x
at_place [] i x d is = let none : ⊥ = cc in absurd none
at_place (y ∷ ys) zero x d is = same_Some y x is
at_place (y ∷ ys) (suc i) x d is = at_place ys i x d is

put_same : (xs : List SignerState) (i : ℕ) (x : SignerState) → slice_get xs i ≡ Some x → set xs i x ≡ xs
put_same [] i x is = let none : ⊥ = cc in absurd none
put_same (y ∷ ys) zero x is = ap (λ (z : SignerState). z ∷ ys) (sym (same_Some y x is))
put_same (y ∷ ys) (suc i) x is = ap (λ (zs : List SignerState). y ∷ zs) (put_same ys i x is)

-- One signer stood at a place before a call, and another state of it stands there after.
pub record Placed (i : ℕ) (before called : SignerState) (old new : List SignerState) : Type 0 where
  pub was : slice_get old i ≡ Some before
  pub is : new ≡ slice_set old i called

pub placed : {S : Type 0} (f : S → SignerState) (items : List S) (i : ℕ) (x y : S) (old : List SignerState)
    → map f items ≡ old → i < length old → x ≡ get_or items i x → Placed i (f x) (f y) old (map f (set items i y))
placed f items i x y old view low is =
    let long : length (map f items) ≡ length items = length-map items f in
    let size : length (map f items) ≡ length old = ap length view in
    record {
      was = ap (λ (xs : List SignerState). slice_get xs i) (sym view) ∙ there f items i x (omega (arith, low, long, size)) is;
      is = map-set f items i y ∙ ap (λ (xs : List SignerState). set xs i (f y)) view;
    }

-- A signer tells and vouches for no less after a call.
pub record KeepsOne (before after : SignerState) : Type 0 where
  pub told : Tells before → Tells after
  pub vouched : (key digest signature : List ℕ) → Vouches before key digest signature → Vouches after key digest signature

same_keep : (before after : SignerState) → after.vouching ≡ before.vouching → KeepsOne before after
same_keep before after same = record {
  told = subst TellsBy (sym same);
  vouched = λ key digest signature. subst (λ v. VouchesBy v key digest signature) (sym same);
}

pub key_keeps : (key : List ℕ) (signer : SignerState) → KeepsOne signer (with_key key signer)
key_keeps key signer = same_keep signer (with_key key signer) refl

more_told : (one : Signed) (v : Vouching) → TellsBy v → TellsBy (also_vouching one v)
more_told one NotTold tells = tells
more_told one (Listed given) tells = tells
more_told one Hashed tells = tells

more_vouched : (one : Signed) (v : Vouching) (key digest signature : List ℕ) → VouchesBy v key digest signature → VouchesBy (also_vouching one v) key digest signature
more_vouched one NotTold key digest signature vouched = vouched
more_vouched one (Listed given) key digest signature vouched =
    (vouched.0, omega (arith, vouched.1, length-append given (one ∷ [])), get_or_append_left given (one ∷ []) _ vouched.0 vouched.1 ∙ vouched.2)
more_vouched one Hashed key digest signature vouched = vouched

pub signature_keeps : (one : Signed) (signer : SignerState) → KeepsOne signer (with_signature one signer)
signature_keeps one signer = record {
  told = more_told one signer.vouching;
  vouched = more_vouched one signer.vouching;
}

pub once_keeps : (one : Signed) (signer : SignerState) → KeepsOne signer (with_once one signer)
once_keeps one signer = record {
  told = more_told one signer.vouching;
  vouched = more_vouched one signer.vouching;
}

pub fault_keeps : (before after : SignerState) → CountsFault before after → KeepsOne before after
fault_keeps before after counts = same_keep before after (ap (λ (s : SignerState). s.vouching) counts.others)

pub drop_keeps : (key : List ℕ) (before after : SignerState) → DropsKey key before after → KeepsOne before after
drop_keeps key before after drops = same_keep before after (ap (λ (s : SignerState). s.vouching) drops.others)

all_told : (i : ℕ) (before called : SignerState) (old : List SignerState) → slice_get old i ≡ Some before → KeepsOne before called
    → AllTell old → AllTell (set old i called)
all_told i before called old was keeps told k d low =
    let size : length (set old i called) ≡ length old = length-set old i called in
    let here : k ≡ i → Tells (get_or (set old i called) k d) = λ same.
    let here_is : get_or (set old i called) k d ≡ called = rw same (get_or-set_same old i called d (below old i before was)) in
    rw here_is (keeps.told (subst Tells (at_place old i before d was) (told i d (below old i before was)))) in
    let other : (k ≢ i) → Tells (get_or (set old i called) k d) = λ differ.
    rw (get_or-set_other old i k called d differ) (told k d (omega (arith, low, size))) in
    elim (cases_eq k i) [ inl same ↦ here same | inr differ ↦ other differ ]

some_vouched : (i : ℕ) (before called : SignerState) (old : List SignerState) → slice_get old i ≡ Some before → KeepsOne before called
    → (key digest signature : List ℕ) → Vouched old key digest signature → Vouched (set old i called) key digest signature
some_vouched i before called old was keeps key digest signature has =
    let k : ℕ = has.0 in
    let x : SignerState = has.1 in
    let size : length (set old i called) ≡ length old = length-set old i called in
    let here : k ≡ i → Vouched (set old i called) key digest signature = λ same.
    let is_before : x ≡ before = sym has.3 ∙ ap (λ (n : ℕ). get_or old n x) same ∙ at_place old i before x was in
    any-set (λ s. Vouches s key digest signature) old i called (below old i before was)
    (keeps.vouched key digest signature (subst (λ (s : SignerState). Vouches s key digest signature) is_before has.4)) in
    let other : (k ≢ i) → Vouched (set old i called) key digest signature = λ differ.
    (k, x, omega (arith, has.2, size), get_or-set_other old i k called x differ ∙ has.3, has.4) in
    elim (cases_eq k i) [ inl same ↦ here same | inr differ ↦ other differ ]

pub placed_keeps : (i : ℕ) (before called : SignerState) (old new : List SignerState) → Placed i before called old new → KeepsOne before called → Keeps old new
placed_keeps i before called old new place keeps = rw place.is (record {
  count = length-set old i called;
  told = all_told i before called old place.was keeps;
  vouched = some_vouched i before called old place.was keeps;
})

same_keeps : (old new : List SignerState) → new ≡ old → Keeps old new
same_keeps old new same = rw same (record { count = refl; told = λ t. t; vouched = λ key digest signature v. v })

changed_keeps : (i : ℕ) (R : SignerState → SignerState → Type 0) (old new : List SignerState) → ((s t : SignerState) → R s t → KeepsOne s t) → ChangesOne i R old new → Keeps old new
changed_keeps i R old new each change =
    placed_keeps i change.before change.after old new (record { was = change.was; is = change.is }) (each change.before change.after change.changes)

-- A call on one signer keeps what is vouched, if its effect does.
pub calls_keep : {T : Type 0} (after : T → SignerState → SignerState) (i : ℕ) (r : Result T RingFault) (old new : List SignerState)
    → ((x : T) (s : SignerState) → KeepsOne s (after x s)) → CallsOne after i r old new → Keeps old new
calls_keep after i (Ok x) old new each call =
    changed_keeps i (λ s t. t ≡ after x s) old new (λ s t is. rw is (each x s)) call
calls_keep after i (Err (NoSuchSigner n)) old new each call = same_keeps old new call.2
calls_keep after i (Err (SignerFault n)) old new each call = changed_keeps i CountsFault old new fault_keeps call.1
calls_keep after i (Err Memory) old new each call = same_keeps old new call.1

pub called_keeps : {T : Type 0} (r : Result T RingFault) (old new : List SignerState) → CallsAll r old new → Keeps old new
called_keeps (Ok x) old new call = same_keeps old new call
called_keeps (Err (NoSuchSigner n)) old new call = absurd call
called_keeps (Err (SignerFault n)) old new call = changed_keeps n CountsFault old new fault_keeps call
called_keeps (Err Memory) old new call = same_keeps old new call

pub drop_called : (key : List ℕ) (i : ℕ) (before called : SignerState) (old new : List SignerState) → Placed i before called old new → DropsKey key before called
    → ChangesOne i (DropsKey key) old new
drop_called key i before called old new place drops = record { before = before; after = called; was = place.was; is = place.is; changes = drops }

one_called : {T : Type 0} (after : T → SignerState → SignerState) (i : ℕ) (told : Result T SignerStop) (before called : SignerState) (old new : List SignerState)
    → Placed i before called old new → Answers after told before called → CallsOne after i (answer_of i told) old new
one_called after i (Ok x) before called old new place answers = record { before = before; after = called; was = place.was; is = place.is; changes = answers }
one_called after i (Err Stop.Fault) before called old new place answers =
    (refl, record { before = before; after = called; was = place.was; is = place.is; changes = answers })
one_called after i (Err Stop.Memory) before called old new place answers =
    (below old i before place.was, place.is ∙ ap (λ (s : SignerState). set old i s) answers ∙ put_same old i before place.was)

-- What one signer told is what the ring answers.
pub calls_one : {T : Type 0} (after : T → SignerState → SignerState) (i : ℕ) (told : Result T SignerStop) (r : Result T RingFault) (before called : SignerState) (old new : List SignerState)
    → Placed i before called old new → r ≡ answer_of i told → Answers after told before called → CallsOne after i r old new
calls_one after i told r before called old new place is answers = rw is (one_called after i told before called old new place answers)

one_asked : {T : Type 0} (i : ℕ) (told : Result T SignerStop) (before called : SignerState) (old new : List SignerState)
    → Placed i before called old new → Answers (λ _ signer. signer) told before called → CallsAll (answer_of i told) old new
one_asked i (Ok x) before called old new place answers = place.is ∙ ap (λ (s : SignerState). set old i s) answers ∙ put_same old i before place.was
one_asked i (Err Stop.Fault) before called old new place answers = record { before = before; after = called; was = place.was; is = place.is; changes = answers }
one_asked i (Err Stop.Memory) before called old new place answers = place.is ∙ ap (λ (s : SignerState). set old i s) answers ∙ put_same old i before place.was

pub asks_one : {T : Type 0} (i : ℕ) (told : Result T SignerStop) (r : Result T RingFault) (before called : SignerState) (old new : List SignerState)
    → Placed i before called old new → r ≡ answer_of i told → Answers (λ _ signer. signer) told before called → CallsAll r old new
asks_one i told r before called old new place is answers = rw is (one_asked i told before called old new place answers)

one_vouched : {T : Type 0} (P : T → SignerState → Type 0) (i : ℕ) (told : Result T SignerStop) (before called : SignerState) (old new : List SignerState)
    → Placed i before called old new → IfOk told (λ x. Tells before → P x called)
    → IfOk (answer_of i told) (λ x. Tells before → Any (P x) new)
one_vouched P i (Ok x) before called old new place says = λ tells. rw place.is (any-set (P x) old i called (below old i before place.was) (says tells))
one_vouched P i (Err Stop.Fault) before called old new place says = says
one_vouched P i (Err Stop.Memory) before called old new place says = says

by_one : {T : Type 0} (Q : T → Type 0) (before : SignerState) (o : Option SignerState) (r : Result T RingFault) → o ≡ Some before
    → IfOk r (λ x. Tells before → Q x) → IfOk r (λ x. IfSome o (λ at. Tells at → Q x))
by_one Q before o (Ok x) is says = rw is says
by_one Q before o (Err e) is says = says

all_of : {T : Type 0} (Q : T → Type 0) (i : ℕ) (before : SignerState) (old : List SignerState) (r : Result T RingFault) → slice_get old i ≡ Some before
    → IfOk r (λ x. Tells before → Q x) → IfOk r (λ x. AllTell old → Q x)
all_of Q i before old (Ok x) is says = λ all. says (subst Tells (at_place old i before before is) (all i before (below old i before is)))
all_of Q i before old (Err e) is says = says

set_at : (xs : List SignerState) (i : ℕ) (x y : SignerState) → slice_get xs i ≡ Some x → slice_get (set xs i y) i ≡ Some y
set_at [] i x y is = let none : ⊥ = cc in absurd none
set_at (z ∷ zs) zero x y is = refl
set_at (z ∷ zs) (suc i) x y is = set_at zs i x y is

one_vouches : {T : Type 0} (P : T → SignerState → Type 0) (i : ℕ) (told : Result T SignerStop) (before called : SignerState) (old new : List SignerState)
    → Placed i before called old new → IfOk told (λ x. Tells before → P x called)
    → IfOk (answer_of i told) (λ x. Tells before → IfSome (slice_get new i) (P x))
one_vouches P i (Ok x) before called old new place says =
    let there_is : slice_get new i ≡ Some called = ap (λ (xs : List SignerState). slice_get xs i) place.is ∙ set_at old i before called place.was in
    λ tells. rw there_is (says tells)
one_vouches P i (Err Stop.Fault) before called old new place says = says
one_vouches P i (Err Stop.Memory) before called old new place says = says

-- What one signer vouches for, it does in the ring; and the ring does.
pub vouched_by_one : {T : Type 0} (P : T → SignerState → Type 0) (i : ℕ) (told : Result T SignerStop) (r : Result T RingFault) (before called : SignerState) (old new : List SignerState)
    → Placed i before called old new → r ≡ answer_of i told → IfOk told (λ x. Tells before → P x called)
    → IfOk r (λ x. IfSome (slice_get old i) (λ at. Tells at → IfSome (slice_get new i) (P x)))
vouched_by_one P i told r before called old new place is says =
    by_one (λ x. IfSome (slice_get new i) (P x)) before (slice_get old i) r place.was (rw is (one_vouches P i told before called old new place says))

pub vouched_by_all : {T : Type 0} (P : T → SignerState → Type 0) (i : ℕ) (told : Result T SignerStop) (r : Result T RingFault) (before called : SignerState) (old new : List SignerState)
    → Placed i before called old new → r ≡ answer_of i told → IfOk told (λ x. Tells before → P x called)
    → IfOk r (λ x. AllTell old → Any (P x) new)
vouched_by_all P i told r before called old new place is says =
    all_of (λ x. Any (P x) new) i before old r place.was (rw is (one_vouched P i told before called old new place says))

one_answer : (i : ℕ) (told : Result Bool SignerStop) (before called : SignerState) (old new : List SignerState) (key digest signature : List ℕ)
    → Placed i before called old new → Answers (λ _ signer. signer) told before called
    → IfOk told (λ yes. Tells before → IsTrue yes ↔ Vouches called key digest signature)
    → IfOk (answer_of i told) (λ yes. IfSome (slice_get old i) (λ at. Tells at → IsTrue yes ↔ Vouches at key digest signature))
one_answer i (Ok b) before called old new key digest signature place stays says =
    rw place.was (λ tells. subst (λ (s : SignerState). IsTrue b ↔ Vouches s key digest signature) stays (says tells))
one_answer i (Err Stop.Fault) before called old new key digest signature place stays says = says
one_answer i (Err Stop.Memory) before called old new key digest signature place stays says = says

pub answers_one : (i : ℕ) (told : Result Bool SignerStop) (r : Result Bool RingFault) (before called : SignerState) (old new : List SignerState) (key digest signature : List ℕ)
    → Placed i before called old new → r ≡ answer_of i told → Answers (λ _ signer. signer) told before called
    → IfOk told (λ yes. Tells before → IsTrue yes ↔ Vouches called key digest signature)
    → IfOk r (λ yes. IfSome (slice_get old i) (λ at. Tells at → IsTrue yes ↔ Vouches at key digest signature))
answers_one i told r before called old new key digest signature place is stays says =
    rw is (one_answer i told before called old new key digest signature place stays says)
