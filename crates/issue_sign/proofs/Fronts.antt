-- Calls that are the first of each signer's own, of those for many steps.
use Rattle.std.proofs.Common.{◌≡◌, ◌<◌, ◌+◌, ℕ, zero, suc, List, [], ◌∷◌, ◌++◌, Bool, true, false, cond, eqb, length, Option, Some, None, refl, sym, ap, subst, ◌∙◌, arith}
use Rattle.std.specs.List.{cons_option, filter_map}
use Rattle.std.proofs.lemmas.Bool.{eqb-true, eq-eqb}
use Rattle.std.proofs.lemmas.List.{append-nil}
use Rattle.sha2.specs.Sha256.{sha256}
use Rattle.signer_api.specs.State as state
use Rattle.signer_api.specs.State.{SignerState}
use Rattle.signer_ring.specs.Calls as calls
use Rattle.signer_ring.specs.Calls.{Call, signer_of, after_calls}
use Rattle.signer_ring.specs.Calls.Call.{Makes, Signs}
use Rattle.signer_ring.specs.Jobs as jobs
use Rattle.signer_ring.specs.Jobs.{asked, jobs_of, calls_on, IsCallFor, AreFirst, AreFronts, AreAnswers, AreFailed, AreCutShort}
use Rattle.signer_ring.specs.declared.jobs.SignJob.{SignJob}
use Rattle.signer_ring.specs.declared.jobs.Signed as ring
use Rattle.cms_obj.specs.Formats.{signed_attributes}
use Rattle.key_roll.specs.declared.rows.KeyRow.{KeyRow}
use Rattle.issue_keys.specs.declared.fault.MakeFault.{MakeFault}
use Rattle.issue_keys.specs.declared.fault.MakeFault.TheVariants.{SignerFault, KeyClash, Memory}
use Rattle.issue_sign.specs.declared.steps.Pending.{Pending}
use Rattle.issue_sign.specs.declared.steps.Pending.TheVariants as pending
use Rattle.issue_sign.specs.declared.steps.Step.{Step}
use Rattle.issue_sign.specs.Objects.{Answers}
use Rattle.issue_sign.specs.Calls.{by_issuer, by_once}
use Rattle.issue_sign.specs.Made.{answers_of}
use Rattle.issue_sign.specs.inner.Steps.{signing, signing_once, job_for, job_of, call_for, calls_of, entity_answers, told, IsKept, Pairs, AreStepsBegun, IsStepsFault, IsStepsShort, IsStepsStop, IsAskStop}
use Rattle.issue_sign.proofs.Answered.{calls-told, told-long, told-kept}

first-none : (work : List SignJob) → AreFirst work []
first-none [] = tt
first-none (job ∷ work) = tt

-- ---- one step

-- It asks nobody.
record Resting (m : ℕ) (key : KeyRow) (p : Pending) : Type 0 where
  has : Answers
  kept : IsKept p has
  none : call_for m key p has ≡ None

-- It asks for that job, and its call is one for the job.
record Asking (m : ℕ) (key : KeyRow) (p : Pending) (job : SignJob) : Type 0 where
  call_at : Answers → Call
  is : (a : Answers) → call_for m key p a ≡ Some (call_at a)
  owner : (a : Answers) → signer_of (call_at a) ≡ asked job
  has : Answers
  kept : IsKept p has
  from : (c : Call) → IsCallFor job c → (a : Answers) × IsKept p a × (call_at a ≡ c)

abbrev AskingAt : ℕ → KeyRow → Pending → Option SignJob → Type 0
AskingAt m key p None = Resting m key p
AskingAt m key p (Some job) = Asking m key p job

abbrev only : List ℕ → Answers
only last = record { once = []; content = []; last = last }

signs-same : (n k : ℕ) (key digest : List ℕ) (one : state.Signed) → n ≡ k → one.key ≡ key → one.digest ≡ digest
    → Signs k (record { key = key; digest = digest; signature = one.signature }) ≡ Signs n one
signs-same n k key digest one e f g =
    ap (λ (x : ℕ). Signs x (record { key = key; digest = digest; signature = one.signature })) (sym e)
    ∙ (ap (λ (x : List ℕ). Signs n (record { key = x; digest = digest; signature = one.signature })) (sym f)
    ∙ ap (λ (x : List ℕ). Signs n (record { key = one.key; digest = x; signature = one.signature })) (sym g))

once-same : (n k : ℕ) (digest : List ℕ) (one : state.Signed) → n ≡ k → one.digest ≡ digest
    → calls.Call.Once k (record { key = one.key; digest = digest; signature = one.signature }) ≡ calls.Call.Once n one
once-same n k digest one e g =
    ap (λ (x : ℕ). calls.Call.Once x (record { key = one.key; digest = digest; signature = one.signature })) (sym e)
    ∙ ap (λ (x : List ℕ). calls.Call.Once n (record { key = one.key; digest = x; signature = one.signature })) (sym g)

issuer-from : (key : KeyRow) (bytes : List ℕ) (c : Call) → IsCallFor (signing key bytes) c → (last : List ℕ) × (by_issuer key bytes last ≡ c)
issuer-from key bytes (Makes n k) is = absurd is
issuer-from key bytes (Signs n one) is = (one.signature, signs-same n key.signer key.key.bytes (sha256 bytes) one is.0 is.1 is.2)
issuer-from key bytes (calls.Call.Once n one) is = absurd is

once-from : (key : KeyRow) (bytes : List ℕ) (c : Call) → IsCallFor (signing_once key bytes) c → (a : Answers) × (by_once key bytes a ≡ c)
once-from key bytes (Makes n k) is = absurd is
once-from key bytes (Signs n one) is = absurd is
once-from key bytes (calls.Call.Once n one) is =
    (record { once = one.key; content = one.signature; last = [] }, once-same n key.signer (sha256 bytes) one is.0 is.1)

asking : (m : ℕ) (key : KeyRow) (p : Pending) → AskingAt m key p (job_for m key p)
asking m key (pending.Whole object) = record { has = answers_of object; kept = refl; none = refl }
asking m key (pending.Certificate tbs) = record {
  call_at = λ a. by_issuer key tbs.items a.last;
  is = λ a. refl;
  owner = λ a. refl;
  has = only [];
  kept = tt;
  from = λ c is. let x = issuer-from key tbs.items c is in (only x.0, tt, x.1);
}
asking m key (pending.Revocations tbs) = record {
  call_at = λ a. by_issuer key tbs.items a.last;
  is = λ a. refl;
  owner = λ a. refl;
  has = only [];
  kept = tt;
  from = λ c is. let x = issuer-from key tbs.items c is in (only x.0, tt, x.1);
}
asking m key (pending.Content kind content) = record {
  call_at = λ a. by_once key (signed_attributes kind content.bytes.items m) a;
  is = λ a. refl;
  owner = λ a. refl;
  has = only [];
  kept = tt;
  from = λ c is. let x = once-from key (signed_attributes kind content.bytes.items m) c is in (x.0, tt, x.1);
}
asking m key (pending.Entity kind content tbs) = record {
  call_at = λ a. by_issuer key tbs.items a.last;
  is = λ a. refl;
  owner = λ a. refl;
  has = entity_answers content [];
  kept = refl;
  from = λ c is. let x = issuer-from key tbs.items c is in (entity_answers content x.0, refl, x.1);
}

-- ---- calls of which one is for the first step, or none

of-own : (f : ℕ → List Call) (j : SignJob) (n : ℕ) (l : List Call) → eqb (asked j) n ≡ true → f (asked j) ≡ l → f n ≡ l
of-own f j n l is e = sym (ap f (eqb-true (asked j) n is)) ∙ e

rest-none : (f : ℕ → List Call) (j : SignJob) (own : List SignJob) (n : ℕ) (b : Bool) → eqb (asked j) n ≡ b → f (asked j) ≡ []
    → AreFirst (cond b (j ∷ own) own) (f n) → AreFirst own (f n)
rest-none f j own n true is e first = subst (AreFirst own) (sym (of-own f j n [] is e)) (first-none own)
rest-none f j own n false is e first = first

whole-none : (f others : ℕ → List Call) (j : SignJob) (c : Call) (rest : List Call) (n : ℕ) (b : Bool) → eqb (asked j) n ≡ b → f (asked j) ≡ []
    → f n ++ others n ≡ calls_on n rest → f n ++ cond b (c ∷ others n) (others n) ≡ cond b (c ∷ calls_on n rest) (calls_on n rest)
whole-none f others j c rest n true is e w =
    let none = of-own f j n [] is e in
    ap (λ (l : List Call). l ++ c ∷ others n) none
    ∙ ap (λ (l : List Call). c ∷ l) (sym (ap (λ (l : List Call). l ++ others n) none) ∙ w)
whole-none f others j c rest n false is e w = w

count-none : (before : List Call) (others : List Call) (c : Call) (j : SignJob) (own : List SignJob) (b : Bool)
    → length before + length others ≡ length own → length before + length (cond b (c ∷ others) others) ≡ length (cond b (j ∷ own) own)
count-none before others c j own true e = omega (arith, e)
count-none before others c j own false e = e

head-first : (j : SignJob) (own : List SignJob) (c : Call) (cs : List Call) (b : Bool) → b ≡ true → AreFirst (cond b (j ∷ own) own) (c ∷ cs) → IsCallFor j c
head-first j own c cs true is first = first.0
head-first j own c cs false is first = absurd cc

rest-some : (f : ℕ → List Call) (j : SignJob) (own : List SignJob) (c : Call) (cs : List Call) (n : ℕ) (b : Bool) → eqb (asked j) n ≡ b
    → f (asked j) ≡ c ∷ cs → AreFirst (cond b (j ∷ own) own) (f n) → AreFirst own (cond b cs (f n))
rest-some f j own c cs n true is e first =
    let both = subst (AreFirst (j ∷ own)) (of-own f j n (c ∷ cs) is e) first in
    both.1
rest-some f j own c cs n false is e first = first

whole-some : (f others : ℕ → List Call) (j : SignJob) (c : Call) (cs rest : List Call) (n : ℕ) (b : Bool) → eqb (asked j) n ≡ b
    → f (asked j) ≡ c ∷ cs → cond b cs (f n) ++ others n ≡ calls_on n rest → f n ++ others n ≡ cond b (c ∷ calls_on n rest) (calls_on n rest)
whole-some f others j c cs rest n true is e w =
    ap (λ (l : List Call). l ++ others n) (of-own f j n (c ∷ cs) is e) ∙ ap (λ (l : List Call). c ∷ l) w
whole-some f others j c cs rest n false is e w = w

count-some : (f : ℕ → List Call) (others : List Call) (j : SignJob) (c : Call) (cs : List Call) (own : List SignJob) (n : ℕ) (b : Bool)
    → eqb (asked j) n ≡ b → f (asked j) ≡ c ∷ cs → length (cond b cs (f n)) + length others ≡ length own
    → length (f n) + length others ≡ length (cond b (j ∷ own) own)
count-some f others j c cs own n true is e w =
    let long = ap length (of-own f j n (c ∷ cs) is e) in
    omega (arith, long, w)
count-some f others j c cs own n false is e w = w

owned : (c : Call) (rest : List Call) (k n : ℕ) → signer_of c ≡ k → calls_on n (c ∷ rest) ≡ cond (eqb k n) (c ∷ calls_on n rest) (calls_on n rest)
owned c rest k n e = ap (λ (x : ℕ). cond (eqb x n) (c ∷ calls_on n rest) (calls_on n rest)) e

-- ---- all steps

pub record Front (m : ℕ) (steps : List Step) (f : ℕ → List Call) : Type 0 where
  pub given : List Answers
  pub each : length given ≡ length steps
  pub kept : Pairs (λ st a. IsKept st.pending a) steps given
  pub others : ℕ → List Call
  pub whole : (n : ℕ) → f n ++ others n ≡ calls_on n (calls_of m steps given)
  pub count : (n : ℕ) → length (f n) + length (others n) ≡ length (jobs_of n (filter_map (job_of m) steps))

-- The first step and those behind it.
record FrontOf (m : ℕ) (key : KeyRow) (p : Pending) (o : Option SignJob) (steps : List Step) (f : ℕ → List Call) : Type 0 where
  first : Answers
  first_kept : IsKept p first
  given : List Answers
  each : length given ≡ length steps
  kept : Pairs (λ st a. IsKept st.pending a) steps given
  others : ℕ → List Call
  whole : (n : ℕ) → f n ++ others n ≡ calls_on n (cons_option (call_for m key p first) (calls_of m steps given))
  count : (n : ℕ) → length (f n) + length (others n) ≡ length (jobs_of n (cons_option o (filter_map (job_of m) steps)))

front-of : (m : ℕ) (key : KeyRow) (p : Pending) (o : Option SignJob) (steps : List Step) (f : ℕ → List Call) → AskingAt m key p o
    → ((n : ℕ) → AreFirst (jobs_of n (cons_option o (filter_map (job_of m) steps))) (f n))
    → ((g : ℕ → List Call) → ((n : ℕ) → AreFirst (jobs_of n (filter_map (job_of m) steps)) (g n)) → Front m steps g)
    → FrontOf m key p o steps f
front-of m key p None steps f r first rec =
    let x = rec f first in
    record {
      first = r.has;
      first_kept = r.kept;
      given = x.given;
      each = x.each;
      kept = x.kept;
      others = x.others;
      whole = λ n. x.whole n ∙ sym (ap (λ (c : Option Call). calls_on n (cons_option c (calls_of m steps x.given))) r.none);
      count = x.count;
    }
front-of m key p (Some j) steps f k first rec = by (f (asked j)) refl
  where
    own : ℕ → List SignJob
    own n = jobs_of n (filter_map (job_of m) steps)

    by : (l : List Call) → f (asked j) ≡ l → FrontOf m key p (Some j) steps f
    by [] e =
        let x = rec f (λ n. rest-none f j (own n) n (eqb (asked j) n) refl e (first n)) in
        let c = k.call_at k.has in
        let rest = calls_of m steps x.given in
        record {
          first = k.has;
          first_kept = k.kept;
          given = x.given;
          each = x.each;
          kept = x.kept;
          others = λ n. cond (eqb (asked j) n) (c ∷ x.others n) (x.others n);
          whole = λ n. whole-none f x.others j c rest n (eqb (asked j) n) refl e (x.whole n)
              ∙ (sym (owned c rest (asked j) n (k.owner k.has)) ∙ sym (ap (λ (o : Option Call). calls_on n (cons_option o rest)) (k.is k.has)));
          count = λ n. count-none (f n) (x.others n) c j (own n) (eqb (asked j) n) (x.count n);
        }
    by (c ∷ cs) e =
        let x = rec (λ n. cond (eqb (asked j) n) cs (f n)) (λ n. rest-some f j (own n) c cs n (eqb (asked j) n) refl e (first n)) in
        let is = head-first j (own (asked j)) c cs (eqb (asked j) (asked j)) (eq-eqb (asked j) (asked j) refl)
        (subst (AreFirst (jobs_of (asked j) (j ∷ filter_map (job_of m) steps))) e (first (asked j))) in
        let a = k.from c is in
        let call = k.call_at a.0 in
        let at : f (asked j) ≡ call ∷ cs = e ∙ ap (λ (y : Call). y ∷ cs) (sym a.2) in
        let rest = calls_of m steps x.given in
        record {
          first = a.0;
          first_kept = a.1;
          given = x.given;
          each = x.each;
          kept = x.kept;
          others = x.others;
          whole = λ n. whole-some f x.others j call cs rest n (eqb (asked j) n) refl at (x.whole n)
              ∙ (sym (owned call rest (asked j) n (k.owner a.0)) ∙ sym (ap (λ (o : Option Call). calls_on n (cons_option o rest)) (k.is a.0)));
          count = λ n. count-some f (x.others n) j c cs (own n) n (eqb (asked j) n) refl e (x.count n);
        }

none-first : (l : List Call) → AreFirst [] l → l ≡ []
none-first [] first = refl
none-first (c ∷ l) first = absurd first

pub front : (m : ℕ) (steps : List Step) (f : ℕ → List Call) → ((n : ℕ) → AreFirst (jobs_of n (filter_map (job_of m) steps)) (f n)) → Front m steps f
front m [] f first = record {
  given = [];
  each = refl;
  kept = tt;
  others = λ n. [];
  whole = λ n. ap (λ (l : List Call). l ++ []) (none-first (f n) (first n));
  count = λ n. let none = ap length (none-first (f n) (first n)) in omega (arith, none);
}
front m (st ∷ steps) f first =
    let x = front-of m st.issuer.now st.pending (job_for m st.issuer.now st.pending) steps f (asking m st.issuer.now st.pending) first (front m steps) in
    record {
      given = x.first ∷ x.given;
      each = ap suc x.each;
      kept = (x.first_kept, x.kept);
      others = x.others;
      whole = x.whole;
      count = x.count;
    }

-- ---- why it stopped

pub front-begun : (m : ℕ) (steps : List Step) (made : List Call) (x : Front m steps (λ n. calls_on n made)) → AreStepsBegun m steps made x.others
front-begun m steps made x = record { given = x.given; each = x.each; kept = x.kept; whole = x.whole }

record IsMore (l : List Call) : Type 0 where
  next : Call
  behind : List Call
  is : l ≡ next ∷ behind

more-of : (l : List Call) (k n : ℕ) → k < n → k + length l ≡ n → IsMore l
more-of [] k n few e = absurd (omega (arith, few, e))
more-of (c ∷ l) k n few e = record { next = c; behind = l; is = refl }

pub ask-stop : (m : ℕ) (steps : List Step) (old new : List SignerState) (fault : MakeFault) → IsAskStop (filter_map (job_of m) steps) old new fault
    → IsStepsStop m steps old new fault
ask-stop m steps old new (SignerFault n) failed =
    let x = front m steps (λ (k : ℕ). calls_on k failed.made) failed.fronts in
    let more = more-of (x.others n) (length (calls_on n failed.made)) (length (jobs_of n (filter_map (job_of m) steps))) failed.more (x.count n) in
    record {
      calls = failed.made;
      others = x.others;
      begun = front-begun m steps failed.made x;
      next = more.next;
      behind = more.behind;
      more = more.is;
      fault = failed.fault;
    }
ask-stop m steps old new (KeyClash id) failed = failed
ask-stop m steps old new Memory short =
    let x = front m steps (λ (k : ℕ). calls_on k short.made) short.fronts in
    record { calls = short.made; others = x.others; begun = front-begun m steps short.made x; signers = short.signers }

-- Nobody was asked.
pub unasked : (m : ℕ) (steps : List Step) (old : List SignerState) → IsStepsShort m steps old old
unasked m steps old =
    let x = front m steps (λ (k : ℕ). calls_on k []) (λ n. first-none (jobs_of n (filter_map (job_of m) steps))) in
    record { calls = []; others = x.others; begun = front-begun m steps [] x; signers = refl }

-- All was answered, and then memory ran out.
pub answered-short : (m : ℕ) (steps : List Step) (left : List ring.Signed) (old new : List SignerState) → AreAnswers (filter_map (job_of m) steps) left
    → new ≡ after_calls old (jobs.calls_for (filter_map (job_of m) steps) left) → IsStepsShort m steps old new
answered-short m steps left old new are is = record {
  calls = jobs.calls_for (filter_map (job_of m) steps) left;
  others = λ n. [];
  begun = record {
    given = told steps left;
    each = told-long steps left;
    kept = told-kept steps left;
    whole = λ n. append-nil (calls_on n (jobs.calls_for (filter_map (job_of m) steps) left)) ∙ ap (calls_on n) (calls-told m steps left are);
  };
  signers = is;
}
