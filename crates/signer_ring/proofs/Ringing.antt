-- What the work of each signer makes of all of them.
use Rattle.std.proofs.Common.{◌≡◌, ◌<◌, ◌≤◌, ℕ, zero, suc, List, [], ◌∷◌, ◌++◌, Bool, true, false, cond, eqb, length, get_or, Option, Some, None, Ok, Err, refl, sym, ap, subst, ◌∙◌, arith, inl, inr, ◌⊎◌}
use Rattle.std.specs.Prelude.{slice_get, option_map, All}
use Rattle.std.proofs.lemmas.Bool.{cases_lt}
use Rattle.std.proofs.lemmas.Option.{none-some, slice_get_past, slice_get-get_or, get_or_from_slice_get}
use Rattle.signer_api.specs.State.{SignerState, CountsFault}
use Rattle.signer_api.specs.declared.signer.SignerStop.TheVariants as Stop
use Rattle.signer_ring.specs.Calls as calls
use Rattle.signer_ring.specs.Calls.{Call, change, after_calls, IsVouched}
use Rattle.signer_ring.specs.Calls.Call.{Makes, Signs}
use Rattle.signer_ring.specs.Ring.{Keeps}
use Rattle.signer_ring.specs.Jobs.{asked, jobs_of, calls_on, AreAnswers, calls_for, AreFirst, AreFronts, MayCount, AreFailed, AreCutShort}
use Rattle.signer_ring.specs.declared.fault.RingFault.TheVariants.{SignerFault}
use Rattle.signer_ring.specs.declared.jobs.SignJob.{SignJob}
use Rattle.signer_ring.specs.declared.jobs.Signed.{Signed}
use Rattle.signer_ring.specs.inner.Working.{changed, VouchesForAll, Told, HasWorked, IsDone, AllWorked, IsTold, AreTold, NoFault, IsFirstStop, given, answers_of}
use Rattle.signer_ring.proofs.Own.{after-at, same-from-get, all-vouched, gathered, gathered-at}
use Rattle.signer_ring.proofs.Answered.{calls-on-for, answers-all, first-none, first-answered, first-on, answered-long}
use Rattle.signer_ring.proofs.RingCalls.{KeepsOne, key_keeps, signature_keeps, once_keeps, fault_keeps}

-- ---- one signer

-- What it left of the signer, by its own calls.
abbrev pub Leaves : List SignJob → Told → List Call → SignerState → SignerState → Type 0
Leaves own (Ok answers) made old new = new ≡ changed made old
Leaves own (Err Stop.Fault) made old new = CountsFault (changed made old) new × (length made < length own)
Leaves own (Err Stop.Memory) made old new = new ≡ changed made old

abbrev pub LeavesAt : List SignJob → Option Told → List Call → Option SignerState → Option SignerState → Type 0
LeavesAt own None made old new = (made ≡ []) × (old ≡ None) × (new ≡ None)
LeavesAt own (Some t) made None new = ⊥
LeavesAt own (Some t) made (Some o) None = ⊥
LeavesAt own (Some t) made (Some o) (Some s) = Leaves own t made o s

pub record Part (own : List SignJob) (t : Option Told) (old new : Option SignerState) : Type 0 where
  pub made : List Call
  pub first : AreFirst own made
  pub leaves : LeavesAt own t made old new

front-of : (own : List SignJob) (given : List Signed) → AreAnswers own given → AreFirst own (calls_for own given)
front-of own given are = subst (λ (w : List SignJob). AreFirst w (calls_for own given)) (append-none own) (first-answered own [] given are)
  where
    append-none : (xs : List SignJob) → xs ++ [] ≡ xs
    append-none [] = refl
    append-none (x ∷ xs) = ap (λ (rest : List SignJob). x ∷ rest) (append-none xs)

worked-part : (own : List SignJob) (t : Told) (old new : SignerState) → HasWorked own t old new → Part own (Some t) (Some old) (Some new)
worked-part own (Ok answers) old new done = record { made = calls_for own answers.items; first = front-of own answers.items done.answers; leaves = done.state }
worked-part own (Err Stop.Fault) old new failed = record { made = failed.made; first = failed.first; leaves = (failed.fault, failed.more) }
worked-part own (Err Stop.Memory) old new short = record { made = short.made; first = short.first; leaves = short.state }

past : (xs : List SignerState) (told : List Told) (n : ℕ) → length xs ≡ length told → slice_get told n ≡ None → slice_get xs n ≡ None
past [] [] n long none = refl
past [] (t ∷ told) n long none = absurd (omega (arith, long))
past (x ∷ xs) [] n long none = absurd (omega (arith, long))
past (x ∷ xs) (t ∷ told) zero long none = absurd (none-some t (sym none))
past (x ∷ xs) (t ∷ told) (suc n) long none = past xs told n (omega (arith, long)) none

there-is : (xs : List SignerState) (told : List Told) (n : ℕ) (t : Told) → length xs ≡ length told → slice_get told n ≡ Some t
    → (x : SignerState) × (slice_get xs n ≡ Some x)
there-is [] [] n t long some = absurd (none-some t some)
there-is [] (u ∷ told) n t long some = absurd (omega (arith, long))
there-is (x ∷ xs) [] n t long some = absurd (none-some t some)
there-is (x ∷ xs) (u ∷ told) zero t long some = (x, refl)
there-is (x ∷ xs) (u ∷ told) (suc n) t long some = there-is xs told n t (omega (arith, long)) some

-- The part of each signer.
pub part : (work : List SignJob) (told : List Told) (old new : List SignerState) → AllWorked work told old new
    → (n : ℕ) → Part (jobs_of n work) (slice_get told n) (slice_get old n) (slice_get new n)
part work told old new all n = by (slice_get told n) refl
  where
    by : (o : Option Told) → slice_get told n ≡ o → Part (jobs_of n work) o (slice_get old n) (slice_get new n)
    by None is = record {
      made = [];
      first = first-none (jobs_of n work);
      leaves = (refl, past old told n all.was is, past new told n all.is is);
    }
    by (Some t) is =
        let o = there-is old told n t all.was is in
        let s = there-is new told n t all.is is in
        subst (λ (x : Option SignerState). Part (jobs_of n work) (Some t) x (slice_get new n)) (sym o.1)
        (subst (λ (x : Option SignerState). Part (jobs_of n work) (Some t) (Some o.0) x) (sym s.1)
        (worked-part (jobs_of n work) t o.0 s.0 (all.each n t o.0 s.0 is o.1 s.1)))

-- ---- all of them, where some stopped

module _ (work : List SignJob) (told : List Told) (old new : List SignerState) (all : AllWorked work told old new) where
  abbrev pub made-of : ℕ → List Call
  made-of n = (part work told old new all n).made

  no-part : (n : ℕ) (o : Option Told) → slice_get told n ≡ o → o ≡ None → made-of n ≡ []
  no-part n o is none =
      let leaves = subst (λ (x : Option Told). LeavesAt (jobs_of n work) x (made-of n) (slice_get old n) (slice_get new n)) (is ∙ none) (part work told old new all n).leaves in
      leaves.0

  -- One signer's calls after another's.
  abbrev pub all-made : List Call
  all-made = gathered made-of (length told)

  pub made-at : (n : ℕ) → calls_on n all-made ≡ made-of n
  made-at n =
      gathered-at made-of (λ m. first-on m work (made-of m) (part work told old new all m).first) (length told)
      (λ m behind. no-part m (slice_get told m) refl (slice_get_past told m behind)) n

  pub all-fronts : AreFronts work all-made
  all-fronts n = subst (AreFirst (jobs_of n work)) (sym (made-at n)) (part work told old new all n).first

  pub behind-at : (n : ℕ) → slice_get (after_calls old all-made) n ≡ option_map (changed (made-of n)) (slice_get old n)
  behind-at n = after-at old all-made n ∙ ap (λ (made : List Call). option_map (changed made) (slice_get old n)) (made-at n)

  same-at : (own : List SignJob) (t : Option Told) (made : List Call) (o s : Option SignerState) → LeavesAt own t made o s
      → ((u : Told) → t ≡ Some u → NoFault u) → s ≡ option_map (changed made) o
  same-at own None made o s leaves none = leaves.2 ∙ sym (ap (option_map (changed made)) leaves.1)
  same-at own (Some t) made None s leaves none = absurd leaves
  same-at own (Some t) made (Some o) None leaves none = absurd leaves
  same-at own (Some (Ok answers)) made (Some o) (Some s) leaves none = ap (λ (x : SignerState). Some x) leaves
  same-at own (Some (Err Stop.Fault)) made (Some o) (Some s) leaves none = absurd (none (Err Stop.Fault) refl)
  same-at own (Some (Err Stop.Memory)) made (Some o) (Some s) leaves none = ap (λ (x : SignerState). Some x) leaves

  unfailed-at : (n : ℕ) → ((u : Told) → slice_get told n ≡ Some u → NoFault u) → slice_get new n ≡ slice_get (after_calls old all-made) n
  unfailed-at n none =
      same-at (jobs_of n work) (slice_get told n) (made-of n) (slice_get old n) (slice_get new n) (part work told old new all n).leaves none ∙ sym (behind-at n)

  pub cut-short : ((n : ℕ) (t : Told) → slice_get told n ≡ Some t → NoFault t) → AreCutShort work old new
  cut-short none = record {
    made = all-made;
    fronts = all-fronts;
    signers = same-from-get new (after_calls old all-made) (λ n. unfailed-at n (none n));
  }

  may-count : (own : List SignJob) (t : Option Told) (made : List Call) (o s : Option SignerState) → LeavesAt own t made o s
      → MayCount (option_map (changed made) o) s
  may-count own None made None s leaves = leaves.2
  may-count own None made (Some o) s leaves = absurd (none-some o (sym leaves.1))
  may-count own (Some t) made None s leaves = absurd leaves
  may-count own (Some t) made (Some o) None leaves = absurd leaves
  may-count own (Some (Ok answers)) made (Some o) (Some s) leaves = inl leaves
  may-count own (Some (Err Stop.Fault)) made (Some o) (Some s) leaves = inr leaves.0
  may-count own (Some (Err Stop.Memory)) made (Some o) (Some s) leaves = inl leaves

  -- The signer that failed.
  pub record Failing (n : ℕ) : Type 0 where
    pub before : SignerState
    pub after : SignerState
    pub was : slice_get (after_calls old all-made) n ≡ Some before
    pub is : slice_get new n ≡ Some after
    pub fault : CountsFault before after
    pub more : length (calls_on n all-made) < length (jobs_of n work)

  failing : (n : ℕ) → slice_get told n ≡ Some (Err Stop.Fault) → Failing n
  failing n is =
      let o = there-is old told n (Err Stop.Fault) all.was is in
      let s = there-is new told n (Err Stop.Fault) all.is is in
      let leaves = subst (λ (x : Option SignerState). LeavesAt (jobs_of n work) (Some (Err Stop.Fault)) (made-of n) (Some o.0) x) s.1
      (subst (λ (x : Option SignerState). LeavesAt (jobs_of n work) (Some (Err Stop.Fault)) (made-of n) x (slice_get new n)) o.1
      (subst (λ (x : Option Told). LeavesAt (jobs_of n work) x (made-of n) (slice_get old n) (slice_get new n)) is (part work told old new all n).leaves)) in
      record {
        before = changed (made-of n) o.0;
        after = s.0;
        was = behind-at n ∙ ap (option_map (changed (made-of n))) o.1;
        is = s.1;
        fault = leaves.0;
        more = subst (λ (made : List Call). length made < length (jobs_of n work)) (sym (made-at n)) leaves.1;
      }

  pub failed : (n : ℕ) → IsFirstStop told (SignerFault n) → AreFailed work n old new
  failed n first =
      let f = failing n first.0 in
      record {
        made = all-made;
        fronts = all-fronts;
        more = f.more;
        fault = record {
          before = f.before;
          after = f.after;
          was = f.was;
          is = f.is;
          fault = f.fault;
          least = λ m low. unfailed-at m (λ t at. first.1 m t low at);
          others = λ m. subst (λ (x : Option SignerState). MayCount x (slice_get new m)) (sym (behind-at m))
              (may-count (jobs_of m work) (slice_get told m) (made-of m) (slice_get old m) (slice_get new m) (part work told old new all m).leaves);
        };
      }

  -- ---- where none stopped

  done-at : (n : ℕ) (t : Told) (o s : SignerState) → IsTold t → HasWorked (jobs_of n work) t o s → IsDone (jobs_of n work) (given t) o s
  done-at n (Ok answers) o s told_it done = done
  done-at n (Err stop) o s told_it done = absurd told_it

  pub long-each : AreTold told → (n : ℕ) (t : Told) → slice_get told n ≡ Some t → length (given t) ≡ length (jobs_of n work)
  long-each are n t is =
      let o = there-is old told n t all.was is in
      let s = there-is new told n t all.is is in
      answered-long (jobs_of n work) (given t) (done-at n t o.0 s.0 (are n t is) (all.each n t o.0 s.0 is o.1 s.1)).answers

-- ---- what is vouched stays so

on-further : (a b c : SignerState) → KeepsOne a b → KeepsOne b c → KeepsOne a c
on-further a b c first next = record {
  told = λ t. next.told (first.told t);
  vouched = λ key digest signature v. next.vouched key digest signature (first.vouched key digest signature v);
}

keeps-call : (call : Call) (s : SignerState) → KeepsOne s (change call s)
keeps-call (Makes n key) s = key_keeps key s
keeps-call (Signs n one) s = signature_keeps one s
keeps-call (calls.Call.Once n one) s = once_keeps one s

keeps-changed : (made : List Call) (s : SignerState) → KeepsOne s (changed made s)
keeps-changed [] s = record { told = λ t. t; vouched = λ key digest signature v. v }
keeps-changed (call ∷ made) s = on-further s (change call s) (changed made (change call s)) (keeps-call call s) (keeps-changed made (change call s))

keeps-worked : (own : List SignJob) (t : Told) (old new : SignerState) → HasWorked own t old new → KeepsOne old new
keeps-worked own (Ok answers) old new done = subst (KeepsOne old) (sym done.state) (keeps-changed (calls_for own answers.items) old)
keeps-worked own (Err Stop.Fault) old new failed =
    on-further old (changed failed.made old) new (keeps-changed failed.made old) (fault_keeps (changed failed.made old) new failed.fault)
keeps-worked own (Err Stop.Memory) old new short = subst (KeepsOne old) (sym short.state) (keeps-changed short.made old)

keeps-from : (old new : List SignerState) → length new ≡ length old
    → ((n : ℕ) (o s : SignerState) → slice_get old n ≡ Some o → slice_get new n ≡ Some s → KeepsOne o s) → Keeps old new
keeps-from old new long each = record {
  count = long;
  told = λ tell n d low.
      let inside : n < length old = omega (arith, low, long) in
      (each n (get_or old n d) (get_or new n d) (slice_get-get_or old n d inside) (slice_get-get_or new n d low)).told (tell n d inside);
  vouched = λ key digest signature has.
      let inside : has.0 < length new = omega (arith, has.2, long) in
      let here : slice_get old has.0 ≡ Some has.1 = slice_get-get_or old has.0 has.1 has.2 ∙ ap (λ (x : SignerState). Some x) has.3 in
      let s = get_or new has.0 has.1 in
      let there : slice_get new has.0 ≡ Some s = slice_get-get_or new has.0 has.1 inside in
      (has.0, s, inside, get_or_from_slice_get new has.0 s s there, (each has.0 has.1 s here there).vouched key digest signature has.4);
}

told-there : (xs : List SignerState) (told : List Told) (n : ℕ) (x : SignerState) → length xs ≡ length told → slice_get xs n ≡ Some x
    → (t : Told) × (slice_get told n ≡ Some t)
told-there [] told n x long some = absurd (none-some x some)
told-there (y ∷ xs) [] n x long some = absurd (omega (arith, long))
told-there (y ∷ xs) (t ∷ told) zero x long some = (t, refl)
told-there (y ∷ xs) (t ∷ told) (suc n) x long some = told-there xs told n x (omega (arith, long)) some

pub all-kept : (work : List SignJob) (told : List Told) (old new : List SignerState) → AllWorked work told old new → Keeps old new
all-kept work told old new all =
    keeps-from old new (all.is ∙ sym all.was)
    (λ n o s was is.
    let t = told-there old told n o all.was was in
    keeps-worked (jobs_of n work) t.0 o s (all.each n t.0 o s t.1 was is))

-- ---- the whole

told-inside : (told : List Told) (n : ℕ) → n < length told → (t : Told) × (slice_get told n ≡ Some t)
told-inside [] n inside = absurd (omega (arith, inside))
told-inside (t ∷ told) zero inside = (t, refl)
told-inside (t ∷ told) (suc n) inside = told-inside told n (omega (arith, inside))

no-answer : (n : ℕ) (j : SignJob) (a : Signed) (own : List SignJob) (rest : List Signed) (b : Bool) → cond b (j ∷ own) own ≡ []
    → (own ≡ [] → rest ≡ []) → cond b (a ∷ rest) rest ≡ []
no-answer n j a own rest true none then_ = absurd cc
no-answer n j a own rest false none then_ = then_ none

no-answers : (n : ℕ) (work : List SignJob) (answers : List Signed) → jobs_of n work ≡ [] → answers_of n work answers ≡ []
no-answers n [] answers none = refl
no-answers n (j ∷ work) [] none = refl
no-answers n (j ∷ work) (a ∷ answers) none =
    no-answer n j a (jobs_of n work) (answers_of n work answers) (eqb (asked j) n) none (no-answers n work answers)

no-own : (n : ℕ) (work : List SignJob) (answers : List Signed) → jobs_of n work ≡ [] → AreAnswers (jobs_of n work) (answers_of n work answers)
no-own n work answers none =
    subst (λ (js : List SignJob). AreAnswers js (answers_of n work answers)) (sym none)
    (subst (λ (given : List Signed). AreAnswers [] given) (sym (no-answers n work answers none)) tt)

pub record AreAll (work : List SignJob) (answers : List Signed) (old new : List SignerState) : Type 0 where
  pub answered : AreAnswers work answers
  pub called : new ≡ after_calls old (calls_for work answers)
  pub vouched : All (IsVouched new) (calls_for work answers)

pub all-done : (work : List SignJob) (told : List Told) (old new : List SignerState) (answers : List Signed) → AllWorked work told old new → AreTold told
    → length answers ≡ length work → ((n : ℕ) → length told ≤ n → jobs_of n work ≡ [])
    → ((n : ℕ) (t : Told) → slice_get told n ≡ Some t → answers_of n work answers ≡ given t)
    → AreAll work answers old new
all-done work told old new answers all are long none each = record {
  answered = answers-all work answers long (λ n. answered-at n (cases_lt n (length told)));
  called = same-from-get new (after_calls old (calls_for work answers)) (λ n. called-at n (cases_lt n (length told)) ∙ sym (after-at old (calls_for work answers) n));
  vouched = all-vouched new (calls_for work answers) vouched-at;
}
  where
    done : (n : ℕ) (t : Told) (o s : SignerState) → slice_get told n ≡ Some t → slice_get old n ≡ Some o → slice_get new n ≡ Some s
        → IsDone (jobs_of n work) (answers_of n work answers) o s
    done n t o s is was now =
        subst (λ (g : List Signed). IsDone (jobs_of n work) g o s) (sym (each n t is))
        (done-at work told old new all n t o s (are n t is) (all.each n t o s is was now))

    answered-at : (n : ℕ) → (n < length told) ⊎ (length told ≤ n) → AreAnswers (jobs_of n work) (answers_of n work answers)
    answered-at n (inl low) =
        let t = told-inside told n low in
        let o = there-is old told n t.0 all.was t.1 in
        let s = there-is new told n t.0 all.is t.1 in
        (done n t.0 o.0 s.0 t.1 o.1 s.1).answers
    answered-at n (inr past_it) = no-own n work answers (none n past_it)

    called-at : (n : ℕ) → (n < length told) ⊎ (length told ≤ n) → slice_get new n ≡ option_map (changed (calls_on n (calls_for work answers))) (slice_get old n)
    called-at n (inl low) =
        let t = told-inside told n low in
        let o = there-is old told n t.0 all.was t.1 in
        let s = there-is new told n t.0 all.is t.1 in
        let state = (done n t.0 o.0 s.0 t.1 o.1 s.1).state in
        s.1 ∙ (ap (λ (x : SignerState). Some x) (state ∙ ap (λ (made : List Call). changed made o.0) (sym (calls-on-for n work answers)))
        ∙ sym (ap (option_map (changed (calls_on n (calls_for work answers)))) o.1))
    called-at n (inr past_it) =
        slice_get_past new n (omega (arith, past_it, all.is))
        ∙ sym (ap (option_map (changed (calls_on n (calls_for work answers)))) (slice_get_past old n (omega (arith, past_it, all.was))))

    vouched-at : (n : ℕ) (s : SignerState) → slice_get new n ≡ Some s → VouchesForAll s (calls_on n (calls_for work answers))
    vouched-at n s now =
        let t = told-there new told n s all.is now in
        let o = there-is old told n t.0 all.was t.1 in
        subst (VouchesForAll s) (sym (calls-on-for n work answers)) (done n t.0 o.0 s t.1 o.1 now).vouched
