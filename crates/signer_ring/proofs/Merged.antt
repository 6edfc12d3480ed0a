-- The answers of many signers, put in the order of the jobs.
use Rattle.std.proofs.Common.{◌≡◌, ◌≢◌, ◌<◌, ◌≤◌, ◌+◌, ℕ, suc, List, [], ◌∷◌, ◌++◌, Bool, true, false, cond, eqb, length, take, drop, get_or, set, Some, refl, sym, ap, subst, ◌∙◌, arith, inl, inr, ◌⊎◌, length-append}
use Rattle.std.specs.Prelude.{slice_get, All}
use Rattle.std.proofs.lemmas.Bool.{eq-eqb, ne_eqb, cases_eq}
use Rattle.std.proofs.lemmas.Option.{same_Some, slice_get_within, slice_get-get_or}
use Rattle.std.proofs.lemmas.List.{take_more, take_all, length_push, length-set, length-take-le, get_or-set_same, get_or-set_other}
use Rattle.signer_ring.specs.Jobs.{asked, jobs_of}
use Rattle.signer_ring.specs.declared.jobs.SignJob.{SignJob}
use Rattle.signer_ring.specs.declared.jobs.Signed.{Signed}
use Rattle.signer_ring.specs.inner.Working.{Told, given, answers_of}
use Rattle.signer_ring.proofs.Answered.{turn-own, rest-of}

-- The answers to the first jobs, of which so many are each signer's.
pub record AreMerged (work : List SignJob) (i : ℕ) (told : List Told) (taken : List ℕ) (answers : List Signed) : Type 0 where
  pub long : length answers ≡ i
  pub count : length taken ≡ length told
  pub each : (n : ℕ) (t : Told) → slice_get told n ≡ Some t → answers_of n (take i work) answers ≡ take (get_or taken n 0) (given t)
  pub own : (n : ℕ) → n < length told → get_or taken n 0 ≡ length (jobs_of n (take i work))

no-answers : (n : ℕ) (answers : List Signed) → answers_of n [] answers ≡ []
no-answers n answers = refl

take-none : (k : ℕ) (xs : List Signed) → k ≡ 0 → [] ≡ take k xs
take-none k xs zero_is = ap (λ (m : ℕ). take m xs) (sym zero_is)

pub merged-none : (work : List SignJob) (told : List Told) (taken : List ℕ) (answers : List Signed) → answers ≡ [] → length taken ≡ length told
    → ((n : ℕ) → n < length told → get_or taken n 0 ≡ 0) → AreMerged work 0 told taken answers
merged-none work told taken answers none count zeros = record {
  long = ap length none;
  count = count;
  each = λ n t at. take-none (get_or taken n 0) (given t) (zeros n (slice_get_within told n t at));
  own = zeros;
}

push-first : (b : Signed) (more rest last : List Signed) (c : Bool) → more ≡ rest ++ last → cond c (b ∷ more) more ≡ cond c (b ∷ rest) rest ++ last
push-first b more rest last true e = ap (λ (l : List Signed). b ∷ l) e
push-first b more rest last false e = e

answers-push : (n : ℕ) (work : List SignJob) (answers : List Signed) (job : SignJob) (a : Signed) → length answers ≡ length work
    → answers_of n (work ++ job ∷ []) (answers ++ a ∷ []) ≡ answers_of n work answers ++ cond (eqb (asked job) n) (a ∷ []) []
answers-push n [] [] job a long = refl
answers-push n [] (b ∷ answers) job a long = absurd (omega (arith, long))
answers-push n (first ∷ work) [] job a long = absurd (omega (arith, long))
answers-push n (first ∷ work) (b ∷ answers) job a long =
    push-first b (answers_of n (work ++ job ∷ []) (answers ++ a ∷ [])) (answers_of n work answers) (cond (eqb (asked job) n) (a ∷ []) [])
    (eqb (asked first) n) (answers-push n work answers job a (omega (arith, long)))

counted-one : (job : SignJob) (c : Bool) → length (cond c (job ∷ []) []) ≡ cond c 1 0
counted-one job true = refl
counted-one job false = refl

counted-more : (j : SignJob) (xs ys : List SignJob) (more : ℕ) (c : Bool) → length xs ≡ length ys + more → length (cond c (j ∷ xs) xs) ≡ length (cond c (j ∷ ys) ys) + more
counted-more j xs ys more true e = omega (arith, e)
counted-more j xs ys more false e = e

counted-push : (n : ℕ) (w : List SignJob) (job : SignJob) → length (jobs_of n (w ++ job ∷ [])) ≡ length (jobs_of n w) + cond (eqb (asked job) n) 1 0
counted-push n [] job =
    let one : length (jobs_of n ([] ++ job ∷ [])) ≡ cond (eqb (asked job) n) 1 0 = counted-one job (eqb (asked job) n) in
    let none : length (jobs_of n []) ≡ 0 = refl in
    omega (arith, one, none)
counted-push n (j ∷ w) job =
    counted-more j (jobs_of n (w ++ job ∷ [])) (jobs_of n w) (cond (eqb (asked job) n) 1 0) (eqb (asked j) n) (counted-push n w job)

-- There is one more answer of a signer whose job is next.
pub more-of : (work : List SignJob) (i : ℕ) (told : List Told) (taken : List ℕ) (answers : List Signed) (job : SignJob) (t : Told)
    → AreMerged work i told taken answers → i < length work → job ≡ get_or work i job → slice_get told (asked job) ≡ Some t
    → length (given t) ≡ length (jobs_of (asked job) work) → get_or taken (asked job) 0 < length (given t)
more-of work i told taken answers job t is inside at has long =
    let n = asked job in
    let own = is.own n (slice_get_within told n t has) in
    let split = ap length (rest-of n work (i + 1)) in
    let next = ap length (turn-own n work i job inside at refl) in
    omega (arith, own, split, next, long, length-append (jobs_of n (take (i + 1) work)) (jobs_of n (drop (i + 1) work)), length_push (jobs_of n (take i work)) job)

pub merged-more : (work : List SignJob) (i : ℕ) (told : List Told) (taken : List ℕ) (answers : List Signed) (job : SignJob) (t : Told) (a : Signed)
    → AreMerged work i told taken answers → i < length work → job ≡ get_or work i job → slice_get told (asked job) ≡ Some t
    → get_or taken (asked job) 0 < length (given t) → a ≡ get_or (given t) (get_or taken (asked job) 0) a
    → AreMerged work (i + 1) told (set taken (asked job) (get_or taken (asked job) 0 + 1)) (answers ++ a ∷ [])
merged-more work i told taken answers job t a is inside at has few read = record {
  long = omega (arith, length_push answers a, is.long);
  count = length-set taken m (get_or taken m 0 + 1) ∙ is.count;
  each = λ n u at_n. by n u at_n (cases_eq n m);
  own = λ n low. count-by n low (cases_eq n m);
}
  where
    m : ℕ
    m = asked job

    low_m : m < length taken
    low_m = omega (arith, slice_get_within told m t has, is.count)

    next : take (i + 1) work ≡ take i work ++ job ∷ []
    next = take_more work i job inside ∙ ap (λ (j : SignJob). take i work ++ j ∷ []) (sym at)

    pushed : (n : ℕ) → answers_of n (take (i + 1) work) (answers ++ a ∷ []) ≡ answers_of n (take i work) answers ++ cond (eqb m n) (a ∷ []) []
    pushed n = ap (λ (w : List SignJob). answers_of n w (answers ++ a ∷ [])) next
        ∙ answers-push n (take i work) answers job a (is.long ∙ sym (length-take-le i work (omega (arith, inside))))

    append-nil : (xs : List Signed) → xs ++ [] ≡ xs
    append-nil [] = refl
    append-nil (x ∷ xs) = ap (λ (rest : List Signed). x ∷ rest) (append-nil xs)

    by : (n : ℕ) (u : Told) → slice_get told n ≡ Some u → (n ≡ m) ⊎ (n ≢ m)
        → answers_of n (take (i + 1) work) (answers ++ a ∷ []) ≡ take (get_or (set taken m (get_or taken m 0 + 1)) n 0) (given u)
    by n u at_n (inl same) =
        let same_told : u ≡ t = same_Some u t (sym at_n ∙ (ap (slice_get told) same ∙ has)) in
        pushed n
        ∙ (ap (λ (c : Bool). answers_of n (take i work) answers ++ cond c (a ∷ []) []) (eq-eqb m n (sym same))
        ∙ (ap (λ (xs : List Signed). xs ++ a ∷ []) (is.each n u at_n)
        ∙ (ap (λ (k : ℕ). take (get_or taken k 0) (given u) ++ a ∷ []) same
        ∙ (ap (λ (v : Told). take (get_or taken m 0) (given v) ++ a ∷ []) same_told
        ∙ (ap (λ (b : Signed). take (get_or taken m 0) (given t) ++ b ∷ []) read
        ∙ (sym (take_more (given t) (get_or taken m 0) a few)
        ∙ (ap (λ (v : Told). take (get_or taken m 0 + 1) (given v)) (sym same_told)
        ∙ ap (λ (k : ℕ). take k (given u)) (sym (ap (λ (k : ℕ). get_or (set taken m (get_or taken m 0 + 1)) k 0) same ∙ get_or-set_same taken m (get_or taken m 0 + 1) 0 low_m)))))))))
    by n u at_n (inr apart) =
        pushed n
        ∙ (ap (λ (c : Bool). answers_of n (take i work) answers ++ cond c (a ∷ []) []) (ne_eqb m n (λ e. apart (sym e)))
        ∙ (append-nil (answers_of n (take i work) answers)
        ∙ (is.each n u at_n
        ∙ ap (λ (k : ℕ). take k (given u)) (sym (get_or-set_other taken m n (get_or taken m 0 + 1) 0 apart)))))

    turned : (n : ℕ) → length (jobs_of n (take (i + 1) work)) ≡ length (jobs_of n (take i work)) + cond (eqb m n) 1 0
    turned n = ap (λ (w : List SignJob). length (jobs_of n w)) next ∙ counted-push n (take i work) job

    count-by : (n : ℕ) → n < length told → (n ≡ m) ⊎ (n ≢ m)
        → get_or (set taken m (get_or taken m 0 + 1)) n 0 ≡ length (jobs_of n (take (i + 1) work))
    count-by n low (inl same) =
        let here = ap (λ (k : ℕ). get_or (set taken m (get_or taken m 0 + 1)) k 0) same ∙ get_or-set_same taken m (get_or taken m 0 + 1) 0 low_m in
        let was = is.own n low in
        let same_taken = ap (λ (k : ℕ). get_or taken k 0) same in
        let grown = turned n ∙ ap (λ (c : Bool). length (jobs_of n (take i work)) + cond c 1 0) (eq-eqb m n (sym same)) in
        omega (arith, here, was, same_taken, grown)
    count-by n low (inr apart) =
        let there = get_or-set_other taken m n (get_or taken m 0 + 1) 0 apart in
        let was = is.own n low in
        let grown = turned n ∙ ap (λ (c : Bool). length (jobs_of n (take i work)) + cond c 1 0) (ne_eqb m n (λ e. apart (sym e))) in
        omega (arith, there, was, grown)

-- At the end each signer's answers are all there.
pub merged-all : (work : List SignJob) (i : ℕ) (told : List Told) (taken : List ℕ) (answers : List Signed) → AreMerged work i told taken answers → length work ≤ i
    → ((n : ℕ) (t : Told) → slice_get told n ≡ Some t → length (given t) ≡ length (jobs_of n work))
    → (n : ℕ) (t : Told) → slice_get told n ≡ Some t → answers_of n work answers ≡ given t
merged-all work i told taken answers is end long n t at =
    let all = take_all i work end in
    let own = is.own n (slice_get_within told n t at) ∙ (ap (λ (w : List SignJob). length (jobs_of n w)) all ∙ sym (long n t at)) in
    ap (λ (w : List SignJob). answers_of n w answers) (sym all) ∙ (is.each n t at ∙ take_all (get_or taken n 0) (given t) (omega (arith, own)))

-- ---- what is read at a job

-- The signer of the job at a place is there.
pub there-at : (work : List SignJob) (told : List Told) (i : ℕ) (job : SignJob) → All (λ (j : SignJob). asked j < length told) work → i < length work
    → job ≡ get_or work i job → asked job < length told
there-at work told i job there inside is = subst (λ (j : SignJob). asked j < length told) (sym is) (there i job inside)

pub told-at : (told : List Told) (n : ℕ) (t : Told) → n < length told → t ≡ get_or told n t → slice_get told n ≡ Some t
told-at told n t low is = slice_get-get_or told n t low ∙ ap (λ (x : Told). Some x) (sym is)

own-few : (j : SignJob) (own : List SignJob) (m : ℕ) (b : Bool) → length own ≤ m → length (cond b (j ∷ own) own) ≤ suc m
own-few j own m true few = omega (arith, few)
own-few j own m false few = omega (arith, few)

jobs-few : (n : ℕ) (work : List SignJob) → length (jobs_of n work) ≤ length work
jobs-few n [] = omega arith
jobs-few n (j ∷ work) = own-few j (jobs_of n work) (length work) (eqb (asked j) n) (jobs-few n work)

-- No signer has given more answers than there were jobs.
pub taken-few : (work : List SignJob) (i : ℕ) (told : List Told) (taken : List ℕ) (answers : List Signed) (n : ℕ) → AreMerged work i told taken answers
    → i < length work → n < length told → get_or taken n 0 ≤ i
taken-few work i told taken answers n is inside low =
    let own = is.own n low in
    let few = jobs-few n (take i work) in
    let short = length-take-le i work (omega (arith, inside)) in
    omega (arith, own, few, short)
