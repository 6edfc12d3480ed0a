-- The calls for objects, all first ones and then all second ones.
use Rattle.std.proofs.Common.{◌≡◌, ℕ, ◌+◌, inl, inr, List, [], ◌∷◌, ◌++◌, length, map, refl, sym, ap, subst, ◌∙◌, arith, eqb}
use Rattle.std.specs.Prelude.{Option, Some, None, All}
use Rattle.std.specs.List.{cons_option, filter_map}
use Rattle.std.proofs.lemmas.List.{append_assoc, length-append, length-map}
use Rattle.std.proofs.lemmas.List.Elements.{All-nil, All-cons, All-append, All-weaker, filter-append}
use Rattle.sha2.specs.Sha256.{sha256}
use Rattle.signer_api.specs.State.{SignerState}
use Rattle.signer_ring.specs.Calls.{Call, signer_of, after_call, after_calls, IsVouched}
use Rattle.signer_ring.specs.Jobs.{calls_on, CountFaults}
use Rattle.issue_keys.specs.declared.fault.MakeFault.{MakeFault}
use Rattle.issue_keys.specs.declared.fault.MakeFault.TheVariants.{SignerFault, KeyClash, Memory}
use Rattle.issue_drafts.specs.IssueInput.{IssueInput}
use Rattle.issue_drafts.specs.Drafts.{Draft}
use Rattle.issue_sign.specs.declared.object.Object.{Object}
use Rattle.issue_sign.specs.declared.steps.Step.{Step}
use Rattle.issue_sign.specs.Objects.{Answers, Signed}
use Rattle.issue_sign.specs.SignInput.{SignInputValue}
use Rattle.issue_sign.specs.Spelled.{IsSpelled}
use Rattle.issue_sign.specs.Made.{answers_of, signed, Way, AreMade, AreBegun, AreWithin, IsStop}
use Rattle.issue_sign.specs.inner.Steps.{call_of, calls_of, IsKept, IsObjectOf, Pairs, Triples, AreCalled, AreStepsBegun, IsStepsStop}
use Rattle.issue_sign.proofs.Lists.{with_answers, drafts-of, signed-nil}

-- ---- calls one after another

pub after-append : (ring : List SignerState) (xs ys : List Call) → after_calls ring (xs ++ ys) ≡ after_calls (after_calls ring xs) ys
after-append ring [] ys = refl
after-append ring (x ∷ xs) ys = after-append (after_call ring x) xs ys

-- What is vouched stays vouched: the law of the crate below.
abbrev pub Stays : Type 0
Stays = (ring : List SignerState) (call : Call) (calls : List Call) → IsVouched ring call → IsVouched (after_calls ring calls) call

pub called-more : Stays → (old now after : List SignerState) (calls more : List Call) → AreCalled old now calls → AreCalled now after more
    → AreCalled old after (calls ++ more)
called-more stays old now after calls more was is = record {
  signers = is.signers ∙ (ap (λ (r : List SignerState). after_calls r more) was.signers ∙ sym (after-append old calls more));
  vouched = All-append (IsVouched after) calls more
      (All-weaker (IsVouched now) (IsVouched after)
      (λ call vouched. subst (λ (r : List SignerState). IsVouched r call) (sym is.signers) (stays now call more vouched)) calls was.vouched)
      is.vouched;
}

-- The same calls, spelled in another way.
pub called-as : (old new : List SignerState) (calls others : List Call) → calls ≡ others → AreCalled old new calls → AreCalled old new others
called-as old new calls others e is = subst (λ (l : List Call). AreCalled old new l) e is

on-both : (n : ℕ) (xs ys : List Call) → calls_on n (xs ++ ys) ≡ calls_on n xs ++ calls_on n ys
on-both n xs ys = filter-append (λ (call : Call). eqb (signer_of call) n) xs ys

-- ---- steps for objects

-- A way of signing whose calls are first ones, and then others.
pub record IsWay (way : Way) (f : Signed → Call) (second : Signed → Option Call) : Type 0 where
  pub calls : (made : List Signed) → way.calls made ≡ map f made ++ filter_map second made
  pub firsts : (made : List Signed) → way.firsts made ≡ map f made

-- The step's call is the first one of the draft.
abbrev pub IsFirstStep : ℕ → (Signed → Call) → Draft → Step → Type 0
IsFirstStep m f d st = (a : Answers) → call_of m st a ≡ Some (f (with_answers d a))

pub firsts-same : (m : ℕ) (f : Signed → Call) (ds : List Draft) (steps : List Step) (given : List Answers) → length given ≡ length steps
    → Pairs (IsFirstStep m f) ds steps → calls_of m steps given ≡ map f (signed ds given)
firsts-same m f [] [] [] long pairs = refl
firsts-same m f [] [] (a ∷ given) long pairs = absurd (omega (arith, long))
firsts-same m f [] (st ∷ steps) given long pairs = absurd pairs
firsts-same m f (d ∷ ds) [] [] long pairs = refl
firsts-same m f (d ∷ ds) [] (a ∷ given) long pairs = absurd (omega (arith, long))
firsts-same m f (d ∷ ds) (st ∷ steps) [] long pairs = absurd (omega (arith, long))
firsts-same m f (d ∷ ds) (st ∷ steps) (a ∷ given) long pairs =
    let rest : length given ≡ length steps = omega (arith, long) in
    ap (λ (o : Option Call). cons_option o (calls_of m steps given)) (pairs.0 a)
    ∙ ap (λ (l : List Call). f (with_answers d a) ∷ l) (firsts-same m f ds steps given rest pairs.1)

-- The step's call is the second one of the draft, and the first one stays what it was.
pub record IsSecondStep (m : ℕ) (f : Signed → Call) (second : Signed → Option Call) (d : Draft) (h : Answers) (st : Step) : Type 0 where
  pub same : (a : Answers) → IsKept st.pending a → f (with_answers d a) ≡ f (with_answers d h)
  pub call : (a : Answers) → IsKept st.pending a → second (with_answers d a) ≡ call_of m st a

pub record AreSeconds (m : ℕ) (f : Signed → Call) (second : Signed → Option Call) (ds : List Draft) (hs : List Answers) (steps : List Step) (given : List Answers) : Type 0 where
  pub firsts : map f (signed ds given) ≡ map f (signed ds hs)
  pub seconds : filter_map second (signed ds given) ≡ calls_of m steps given

pub seconds-same : (m : ℕ) (f : Signed → Call) (second : Signed → Option Call) (ds : List Draft) (hs : List Answers) (steps : List Step) (given : List Answers)
    → length given ≡ length steps → length hs ≡ length steps → Pairs (λ st a. IsKept st.pending a) steps given
    → Triples (IsSecondStep m f second) ds hs steps → AreSeconds m f second ds hs steps given
seconds-same m f second ds [] [] [] long same kept all = record {
  firsts = refl;
  seconds = ap (filter_map second) (signed-nil ds);
}
seconds-same m f second ds (h ∷ hs) [] given long same kept all = absurd (omega (arith, same))
seconds-same m f second ds [] [] (a ∷ given) long same kept all = absurd (omega (arith, long))
seconds-same m f second ds hs (st ∷ steps) [] long same kept all = absurd (omega (arith, long))
seconds-same m f second ds [] (st ∷ steps) (a ∷ given) long same kept all = absurd (omega (arith, same))
seconds-same m f second [] (h ∷ hs) (st ∷ steps) (a ∷ given) long same kept all = absurd all
seconds-same m f second (d ∷ ds) (h ∷ hs) (st ∷ steps) (a ∷ given) long same kept all =
    let long_rest : length given ≡ length steps = omega (arith, long) in
    let same_rest : length hs ≡ length steps = omega (arith, same) in
    let rest = seconds-same m f second ds hs steps given long_rest same_rest kept.1 all.1 in
    record {
      firsts = ap (λ (c : Call). c ∷ map f (signed ds given)) (all.0.same a kept.0) ∙ ap (λ (l : List Call). f (with_answers d h) ∷ l) rest.firsts;
      seconds = ap (λ (o : Option Call). cons_option o (filter_map second (signed ds given))) (all.0.call a kept.0)
          ∙ ap (cons_option (call_of m st a)) rest.seconds;
    }

-- ---- why it stopped

first-begun : (way : Way) (f : Signed → Call) (second : Signed → Option Call) (m : ℕ) (ds : List Draft) (steps : List Step) (calls : List Call)
    (others : ℕ → List Call) → IsWay way f second → length steps ≡ length ds → Pairs (IsFirstStep m f) ds steps
    → (begun : AreStepsBegun m steps calls others)
    → AreBegun way ds calls (λ n. others n ++ calls_on n (filter_map second (signed ds begun.given)))
first-begun way f second m ds steps calls others is long pairs begun =
    let made = signed ds begun.given in
    let seconds = filter_map second made in
    record {
      made = made;
      each = drafts-of ds begun.given (begun.each ∙ long);
      whole = λ n.
          sym (append_assoc (calls_on n calls) (others n) (calls_on n seconds))
          ∙ (ap (λ (l : List Call). l ++ calls_on n seconds) (begun.whole n)
          ∙ (ap (λ (l : List Call). calls_on n l ++ calls_on n seconds) (firsts-same m f ds steps begun.given begun.each pairs)
          ∙ (sym (on-both n (map f made) seconds)
          ∙ sym (ap (calls_on n) (is.calls made)))));
    }

-- These are among the first ones.
first-within : (way : Way) (f : Signed → Call) (second : Signed → Option Call) (m : ℕ) (ds : List Draft) (steps : List Step) (calls : List Call)
    (others : ℕ → List Call) → IsWay way f second → Pairs (IsFirstStep m f) ds steps → (begun : AreStepsBegun m steps calls others) → (n : ℕ)
    → length (calls_on n calls) + length (others n) ≡ length (calls_on n (way.firsts (signed ds begun.given)))
first-within way f second m ds steps calls others is pairs begun n =
    sym (length-append (calls_on n calls) (others n))
    ∙ (ap length (begun.whole n)
    ∙ (ap (λ (l : List Call). length (calls_on n l)) (firsts-same m f ds steps begun.given begun.each pairs)
    ∙ sym (ap (λ (l : List Call). length (calls_on n l)) (is.firsts (signed ds begun.given)))))

pub first-stop : (way : Way) (f : Signed → Call) (second : Signed → Option Call) (m : ℕ) (ds : List Draft) (steps : List Step)
    (old new : List SignerState) (fault : MakeFault) → IsWay way f second → length steps ≡ length ds → Pairs (IsFirstStep m f) ds steps
    → IsStepsStop m steps old new fault → IsStop way ds old new fault
unfolding first-begun
first-stop way f second m ds steps old new (SignerFault n) is long pairs stop =
    let made = signed ds stop.begun.given in
    let sums = first-within way f second m ds steps stop.calls stop.others is pairs stop.begun in
    record {
      calls = stop.calls;
      others = λ k. stop.others k ++ calls_on k (filter_map second made);
      begun = first-begun way f second m ds steps stop.calls stop.others is long pairs stop.begun;
      next = stop.next;
      behind = stop.behind ++ calls_on n (filter_map second made);
      more = ap (λ (l : List Call). l ++ calls_on n (filter_map second made)) stop.more;
      phase = inl (record {
        within = λ k. let sum = sums k in omega (arith, sum);
        short = let sum = sums n in let more = ap length stop.more in omega (arith, sum, more);
      });
      fault = stop.fault;
    }
first-stop way f second m ds steps old new (KeyClash id) is long pairs stop = stop
first-stop way f second m ds steps old new Memory is long pairs stop =
    let sums = first-within way f second m ds steps stop.calls stop.others is pairs stop.begun in
    record {
      calls = stop.calls;
      others = λ k. stop.others k ++ calls_on k (filter_map second (signed ds stop.begun.given));
      begun = first-begun way f second m ds steps stop.calls stop.others is long pairs stop.begun;
      phase = inl (λ k. let sum = sums k in omega (arith, sum));
      signers = stop.signers;
    }

second-begun : (way : Way) (f : Signed → Call) (second : Signed → Option Call) (m : ℕ) (ds : List Draft) (hs : List Answers) (steps : List Step)
    (calls : List Call) (others : ℕ → List Call) → IsWay way f second → length steps ≡ length ds → length hs ≡ length steps
    → Triples (IsSecondStep m f second) ds hs steps → AreStepsBegun m steps calls others → AreBegun way ds (map f (signed ds hs) ++ calls) others
second-begun way f second m ds hs steps calls others is long same all begun =
    let made = signed ds begun.given in
    let firsts = map f (signed ds hs) in
    let both = seconds-same m f second ds hs steps begun.given begun.each same begun.kept all in
    record {
      made = made;
      each = drafts-of ds begun.given (begun.each ∙ long);
      whole = λ n.
          ap (λ (l : List Call). l ++ others n) (on-both n firsts calls)
          ∙ (append_assoc (calls_on n firsts) (calls_on n calls) (others n)
          ∙ (ap (λ (l : List Call). calls_on n firsts ++ l) (begun.whole n)
          ∙ (sym (on-both n firsts (calls_of m steps begun.given))
          ∙ (ap (λ (l : List Call). calls_on n (l ++ calls_of m steps begun.given)) (sym both.firsts)
          ∙ (ap (λ (l : List Call). calls_on n (map f made ++ l)) (sym both.seconds)
          ∙ sym (ap (calls_on n) (is.calls made)))))));
    }

-- All first ones are among them.
second-behind : (way : Way) (f : Signed → Call) (second : Signed → Option Call) (m : ℕ) (ds : List Draft) (hs : List Answers) (steps : List Step)
    (calls : List Call) (others : ℕ → List Call) → IsWay way f second → length hs ≡ length steps → Triples (IsSecondStep m f second) ds hs steps
    → (begun : AreStepsBegun m steps calls others) → AreWithin (way.firsts (signed ds begun.given)) (map f (signed ds hs) ++ calls)
second-behind way f second m ds hs steps calls others is same all begun n =
    let firsts = map f (signed ds hs) in
    let both = seconds-same m f second ds hs steps begun.given begun.each same begun.kept all in
    let first = ap (λ (l : List Call). length (calls_on n l)) (is.firsts (signed ds begun.given) ∙ both.firsts) in
    let sum = ap length (on-both n firsts calls) ∙ length-append (calls_on n firsts) (calls_on n calls) in
    omega (arith, first, sum)

pub second-stop : (way : Way) (f : Signed → Call) (second : Signed → Option Call) (m : ℕ) (ds : List Draft) (hs : List Answers) (steps : List Step)
    (old now new : List SignerState) (fault : MakeFault) → IsWay way f second → length steps ≡ length ds → length hs ≡ length steps
    → Triples (IsSecondStep m f second) ds hs steps → now ≡ after_calls old (map f (signed ds hs)) → IsStepsStop m steps now new fault
    → IsStop way ds old new fault
unfolding second-begun
second-stop way f second m ds hs steps old now new (SignerFault n) is long same all was stop = record {
  calls = map f (signed ds hs) ++ stop.calls;
  others = stop.others;
  begun = second-begun way f second m ds hs steps stop.calls stop.others is long same all stop.begun;
  next = stop.next;
  behind = stop.behind;
  more = stop.more;
  phase = inr (second-behind way f second m ds hs steps stop.calls stop.others is same all stop.begun);
  fault = subst (λ (r : List SignerState). CountFaults n r new)
      (ap (λ (r : List SignerState). after_calls r stop.calls) was ∙ sym (after-append old (map f (signed ds hs)) stop.calls)) stop.fault;
}
second-stop way f second m ds hs steps old now new (KeyClash id) is long same all was stop = stop
second-stop way f second m ds hs steps old now new Memory is long same all was stop = record {
  calls = map f (signed ds hs) ++ stop.calls;
  others = stop.others;
  begun = second-begun way f second m ds hs steps stop.calls stop.others is long same all stop.begun;
  phase = inr (second-behind way f second m ds hs steps stop.calls stop.others is same all stop.begun);
  signers = stop.signers ∙ (ap (λ (r : List SignerState). after_calls r stop.calls) was ∙ sym (after-append old (map f (signed ds hs)) stop.calls));
}

-- Nobody was asked.
abbrev lacking : List Draft → List Answers
lacking ds = map (λ (d : Draft). let a : Answers = record { once = []; content = []; last = [] } in a) ds

pub unmade : (way : Way) (ds : List Draft) (old : List SignerState) → IsStop way ds old old Memory
unmade way ds old = record {
  calls = [];
  others = λ n. calls_on n (way.calls (signed ds (lacking ds)));
  begun = record { made = signed ds (lacking ds); each = drafts-of ds (lacking ds) (length-map ds _); whole = λ n. refl };
  phase = inl (λ n. omega arith);
  signers = refl;
}

-- All first calls, and none of the second ones.
firsts-begun : (way : Way) (f : Signed → Call) (second : Signed → Option Call) (ds : List Draft) (hs : List Answers) → IsWay way f second
    → length hs ≡ length ds → AreBegun way ds (map f (signed ds hs)) (λ n. calls_on n (filter_map second (signed ds hs)))
firsts-begun way f second ds hs is long = record {
  made = signed ds hs;
  each = drafts-of ds hs long;
  whole = λ n. sym (on-both n (map f (signed ds hs)) (filter_map second (signed ds hs))) ∙ sym (ap (calls_on n) (is.calls (signed ds hs)));
}

-- Want of memory behind them.
pub firsts-short : (way : Way) (f : Signed → Call) (second : Signed → Option Call) (ds : List Draft) (hs : List Answers) (old now : List SignerState)
    → IsWay way f second → length hs ≡ length ds → now ≡ after_calls old (map f (signed ds hs)) → IsStop way ds old now Memory
unfolding firsts-begun
firsts-short way f second ds hs old now is long was = record {
  calls = map f (signed ds hs);
  others = λ n. calls_on n (filter_map second (signed ds hs));
  begun = firsts-begun way f second ds hs is long;
  phase = inr (λ n. let same = ap (λ (l : List Call). length (calls_on n l)) (is.firsts (signed ds hs)) in omega (arith, same));
  signers = was;
}

-- ---- all of them

-- What an object is that was made for a draft.
abbrev pub IsFor : Way → (Signed → Type 0) → Draft → Object → Type 0
IsFor way Known d o = IsObjectOf (way.bytes (with_answers d (answers_of o))) (Known (with_answers d (answers_of o))) o

-- What is known of each object, list by list.
record AreLists (way : Way) (Known : Signed → Type 0) (objects : List Object) (made : List Signed) : Type 0 where
  bytes : map (λ o. o.bytes) objects ≡ map way.bytes made
  hashes : map (λ o. o.hash) objects ≡ map (λ x. sha256 (way.bytes x)) made
  known : All Known made

lists : (way : Way) (Known : Signed → Type 0) (ds : List Draft) (objects : List Object) → Pairs (IsFor way Known) ds objects
    → AreLists way Known objects (signed ds (map answers_of objects))
lists way Known [] [] pairs = record { bytes = refl; hashes = refl; known = All-nil Known }
lists way Known [] (o ∷ objects) pairs = absurd pairs
lists way Known (d ∷ ds) [] pairs = record { bytes = refl; hashes = refl; known = All-nil Known }
lists way Known (d ∷ ds) (o ∷ objects) pairs =
    let rest = lists way Known ds objects pairs.1 in
    let x = with_answers d (answers_of o) in
    record {
      bytes = ap (λ (b : List ℕ). b ∷ map (λ (p : Object). p.bytes) objects) pairs.0.bytes ∙ ap (λ (l : List (List ℕ)). way.bytes x ∷ l) rest.bytes;
      hashes = ap (λ (b : List ℕ). b ∷ map (λ (p : Object). p.hash) objects) pairs.0.hash ∙ ap (λ (l : List (List ℕ)). sha256 (way.bytes x) ∷ l) rest.hashes;
      known = All-cons Known x (signed ds (map answers_of objects)) pairs.0.known rest.known;
    }

abbrev pub known_of : IssueInput → SignInputValue → Signed → Type 0
known_of s b x = IsSpelled s b x.draft x.draft.kind x.answers

-- All objects, by the first calls and by these second ones.
pub all-made : Stays → (s : IssueInput) (b : SignInputValue) (way : Way) (f : Signed → Call) (second : Signed → Option Call) (m : ℕ) (ds : List Draft)
    (hs : List Answers) (steps : List Step) (objects : List Object) (old now new : List SignerState) → IsWay way f second
    → length steps ≡ length ds → length hs ≡ length steps → length objects ≡ length steps
    → Triples (IsSecondStep m f second) ds hs steps → Pairs (λ st a. IsKept st.pending a) steps (map answers_of objects)
    → Pairs (IsFor way (known_of s b)) ds objects
    → AreCalled old now (map f (signed ds hs)) → AreCalled now new (calls_of m steps (map answers_of objects))
    → AreMade s b way ds old new objects (signed ds (map answers_of objects))
all-made stays s b way f second m ds hs steps objects old now new is long same count all kept pairs was called =
    let given = map answers_of objects in
    let made = signed ds given in
    let each : length given ≡ length steps = length-map objects answers_of ∙ count in
    let both = seconds-same m f second ds hs steps given each same kept all in
    let calls : map f (signed ds hs) ++ calls_of m steps given ≡ way.calls made =
    ap (λ (l : List Call). l ++ calls_of m steps given) (sym both.firsts)
    ∙ (ap (λ (l : List Call). map f made ++ l) (sym both.seconds) ∙ sym (is.calls made)) in
    let whole = called-as old new (map f (signed ds hs) ++ calls_of m steps given) (way.calls made) calls
    (called-more stays old now new (map f (signed ds hs)) (calls_of m steps given) was called) in
    let every = lists way (known_of s b) ds objects pairs in
    record {
      each = drafts-of ds given (each ∙ long);
      signers = whole.signers;
      vouched = whole.vouched;
      bytes = every.bytes;
      hashes = every.hashes;
      spelled = every.known;
    }
