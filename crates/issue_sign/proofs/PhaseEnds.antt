-- One signature of each object, and then the second ones.
use Rattle.std.proofs.Common.{◌≡◌, ℕ, ◌+◌, ◌<◌, Bool, true, false, cond, List, [], ◌∷◌, ◌++◌, length, drop, get_or, map, refl, sym, ap, subst, ◌∙◌, arith}
use Rattle.std.specs.Prelude.{Option, Some, None, All}
use Rattle.std.specs.List.{filter_map}
use Rattle.std.proofs.lemmas.List.{append-nil, append_assoc, map-append, length-map, length_push, length-drop, drop-drop, get_or-drop}
use Rattle.std.proofs.lemmas.List.Elements.{All-head, All-tail}
use Rattle.signer_api.specs.State.{SignerState}
use Rattle.signer_ring.specs.Calls.{Call, after_calls}
use Rattle.signer_ring.specs.Jobs as jobs
use Rattle.signer_ring.specs.Jobs.{AreAnswers}
use Rattle.signer_ring.specs.declared.jobs.Signed as ring
use Rattle.payloads.specs.ManifestFormats.{file_view}
use Rattle.payloads.specs.declared.values.ListedFile.{ListedFile}
use Rattle.issue_keys.specs.declared.fault.MakeFault.{MakeFault}
use Rattle.issue_keys.specs.declared.fault.MakeFault.TheVariants.{Memory}
use Rattle.issue_drafts.specs.IssueInput.{IssueInput}
use Rattle.issue_drafts.specs.Drafts.{Draft}
use Rattle.issue_drafts.specs.Views.{draft_of, manifest_of, kind_of}
use Rattle.issue_drafts.specs.declared.draft.Draft as code
use Rattle.issue_drafts.specs.declared.draft.ManifestDraft.{ManifestDraft}
use Rattle.issue_sign.specs.declared.object.Object.{Object}
use Rattle.issue_sign.specs.declared.object.SignedContent.{SignedContent}
use Rattle.issue_sign.specs.declared.steps.Pending.{Pending}
use Rattle.issue_sign.specs.declared.steps.Pending.TheVariants as pending
use Rattle.issue_sign.specs.declared.steps.Step.{Step}
use Rattle.issue_sign.specs.declared.steps.Half.{Half}
use Rattle.issue_sign.specs.declared.steps.Half.TheVariants.{Made, Begun}
use Rattle.issue_sign.specs.Objects.{Answers, Signed}
use Rattle.issue_sign.specs.SignInput.{SignInputValue, AreManifests}
use Rattle.issue_sign.specs.Made.{answers_of, signed, of_drafts, of_manifests, AreMade, IsStop}
use Rattle.issue_sign.specs.inner.Steps.{asks, is_content, is_begun, is_route, job_of, calls_of, half_answers, content_answers, answers_with, told, IsOutcome, IsKept, IsFirstOf, IsStepOf, IsHalf, IsSecondOf, IsTextOf, IsContentHalf, IsLastOf, Pairs, Triples, AreCalled, AreHalves, AreContents, IsStepsShort, IsStepsStop}
use Rattle.issue_sign.proofs.Answered.{answered-rest, calls-told, told-long}
use Rattle.issue_sign.proofs.Lists.{pairs-nil, pairs-push, pairs-mapped, pairs-through, pairs-weaker, pairs-all, pairs-of-all, triples-mapped, triples-through}
use Rattle.issue_sign.proofs.Ways.{Stays, IsWay, IsFor, IsFirstStep, IsSecondStep, known_of, called-as, firsts-same, first-stop, second-stop, firsts-short, unmade, all-made}
use Rattle.issue_sign.proofs.Drafted.{first_of, second_of, first-step, begun-of, half-of, second-same, second-call, second-made, kept-outcome}
use Rattle.issue_sign.proofs.Manifested.{content_of, last_of, manifests-way, texts-of, text-step, content-half, last-same, last-call, last-made}

-- ---- what comes of the steps, one after another

pub record AreHalved (m : ℕ) (steps : List Step) (given : List ring.Signed) (halves : List Half) (rest : List Step) (left : List ring.Signed) : Type 0 where
  pub here : drop (length halves) steps ≡ rest
  pub outcomes : Pairs (λ st h. IsOutcome m st.pending h) steps halves
  pub answers : map half_answers halves ++ told rest left ≡ told steps given
  pub fit : AreAnswers (filter_map (job_of m) rest) left

pub halved-none : (m : ℕ) (steps : List Step) (given : List ring.Signed) (halves : List Half) (rest : List Step) → halves ≡ [] → rest ≡ steps
    → AreAnswers (filter_map (job_of m) steps) given → AreHalved m steps given halves rest given
halved-none m steps given halves rest none all fit =
    subst (λ (hs : List Half). AreHalved m steps given hs rest given) (sym none)
    (subst (λ (r : List Step). AreHalved m steps given [] r given) (sym all) (record {
      here = refl;
      outcomes = pairs-nil (λ st h. IsOutcome m st.pending h) steps;
      answers = refl;
      fit = fit;
    }))

-- The step at a position.
step-here : (steps : List Step) (k : ℕ) (st : Step) (rest : List Step) → drop k steps ≡ st ∷ rest → get_or steps k st ≡ st
step-here steps k st rest e =
    let nothing : k + 0 ≡ k = omega arith in
    sym (get_or-drop k steps 0 st ∙ ap (λ (n : ℕ). get_or steps n st) nothing) ∙ ap (λ (l : List Step). get_or l 0 st) e

pub halved-more : (m : ℕ) (steps : List Step) (given : List ring.Signed) (halves : List Half) (rest after : List Step) (left then_ : List ring.Signed)
    (st : Step) (h : Half) → rest ≡ st ∷ after → then_ ≡ cond (asks st.pending) (drop 1 left) left → AreHalved m steps given halves rest left
    → IsOutcome m st.pending h → half_answers h ≡ answers_with st.pending left → AreHalved m steps given (halves ++ h ∷ []) after then_
halved-more m steps given halves rest after left then_ st h e next was out said =
    subst (λ (l : List ring.Signed). AreHalved m steps given (halves ++ h ∷ []) after l) (sym next)
    (
    let k = length halves in
    let at = was.here ∙ e in
    let count = ap length at in
    let short = length-drop k steps in
    let some : k < length steps = omega (arith, count, short) in
    let behind = cond (asks st.pending) (drop 1 left) left in
    record {
      here = ap (λ (n : ℕ). drop n steps) (length_push halves h) ∙ (sym (drop-drop 1 k steps) ∙ ap (drop 1) at);
      outcomes = pairs-push (λ s g. IsOutcome m s.pending g) steps halves st h some was.outcomes
          (subst (λ (s : Step). IsOutcome m s.pending h) (sym (step-here steps k st after at)) out);
      answers = ap (λ (l : List Answers). l ++ told after behind) (map-append half_answers halves (h ∷ []))
          ∙ (append_assoc (map half_answers halves) (half_answers h ∷ []) (told after behind)
          ∙ (ap (λ (a : Answers). map half_answers halves ++ a ∷ told after behind) said
          ∙ (sym (ap (λ (r : List Step). map half_answers halves ++ told r left) e) ∙ was.answers)));
      fit = answered-rest m st.issuer.now st.pending (filter_map (job_of m) after) left
          (subst (λ (r : List Step). AreAnswers (filter_map (job_of m) r) left) e was.fit);
    }
    )

pub halved-all : (m : ℕ) (steps : List Step) (given : List ring.Signed) (halves : List Half) (rest : List Step) (left : List ring.Signed) → rest ≡ []
    → AreHalved m steps given halves rest left → map half_answers halves ≡ told steps given
halved-all m steps given halves rest left none was =
    sym (append-nil (map half_answers halves))
    ∙ (sym (ap (λ (r : List Step). map half_answers halves ++ told r left) none) ∙ was.answers)

pub halved-long : (steps : List Step) (given : List ring.Signed) (halves : List Half) → map half_answers halves ≡ told steps given → length halves ≡ length steps
halved-long steps given halves e = sym (length-map halves half_answers) ∙ (ap length e ∙ told-long steps given)

-- The calls for the jobs are those for the steps.
pub called-steps : (m : ℕ) (steps : List Step) (given : List ring.Signed) (halves : List Half) (old new : List SignerState)
    → AreAnswers (filter_map (job_of m) steps) given → map half_answers halves ≡ told steps given
    → AreCalled old new (jobs.calls_for (filter_map (job_of m) steps) given) → AreCalled old new (calls_of m steps (map half_answers halves))
called-steps m steps given halves old new are said called =
    called-as old new (jobs.calls_for (filter_map (job_of m) steps) given) (calls_of m steps (map half_answers halves))
    (calls-told m steps given are ∙ ap (calls_of m steps) (sym said)) called

-- ---- drafts: the first signatures

drafts-way : (s : IssueInput) (b : SignInputValue) → IsWay (of_drafts s b) (first_of s b) (second_of s b)
drafts-way s b = record { calls = λ made. refl; firsts = λ made. refl }

pub firsts-signers : (n : ℕ) (drafts : List code.Draft) (steps : List Step) → All (λ (d : code.Draft). d.issuer.row.now.signer < n) drafts
    → Pairs IsStepOf drafts steps → All (λ (st : Step). st.issuer.now.signer < n) steps
firsts-signers n drafts steps all pairs =
    pairs-of-all (λ (d : code.Draft). d.issuer.row.now.signer < n) IsStepOf (λ (st : Step). st.issuer.now.signer < n)
    (λ d st low is. subst (λ k. k.signer < n) (sym is.issuer) low) drafts steps all pairs

pub firsts-kinds : (m : ℕ) (drafts : List code.Draft) (steps : List Step) (halves : List Half) → Pairs IsStepOf drafts steps
    → Pairs (λ st h. IsOutcome m st.pending h) steps halves → Pairs (λ d h. is_begun h ≡ is_route d.kind) drafts halves
firsts-kinds m drafts steps halves =
    pairs-through IsStepOf (λ st h. IsOutcome m st.pending h) (λ d h. is_begun h ≡ is_route d.kind)
    (λ d st h is out. begun-of m st.pending h out ∙ is.kind) drafts steps halves

first-steps : (s : IssueInput) (b : SignInputValue) (drafts : List code.Draft) (steps : List Step) → Pairs IsStepOf drafts steps
    → Pairs (λ d st. IsFirstOf s b (draft_of d) (kind_of d.kind) st.pending) drafts steps
    → Pairs (IsFirstStep s.work.moment (first_of s b)) (map draft_of drafts) steps
first-steps s b drafts steps =
    pairs-mapped draft_of IsStepOf (λ d st. IsFirstOf s b (draft_of d) (kind_of d.kind) st.pending) (IsFirstStep s.work.moment (first_of s b))
    (λ d st is first. first-step s b (draft_of d) (kind_of d.kind) st.issuer.now st.pending is.issuer first) drafts steps

pub firsts-stopped : (s : IssueInput) (b : SignInputValue) (drafts : List code.Draft) (steps : List Step) (old new : List SignerState) (fault : MakeFault)
    → length steps ≡ length drafts → Pairs IsStepOf drafts steps → Pairs (λ d st. IsFirstOf s b (draft_of d) (kind_of d.kind) st.pending) drafts steps
    → IsStepsStop s.work.moment steps old new fault → IsStop (of_drafts s b) (map draft_of drafts) old new fault
firsts-stopped s b drafts steps old new fault long are firsts stop =
    first-stop (of_drafts s b) (first_of s b) (second_of s b) s.work.moment (map draft_of drafts) steps old new fault (drafts-way s b)
    (long ∙ sym (length-map drafts draft_of)) (first-steps s b drafts steps are firsts) stop

pub firsts-halves : (s : IssueInput) (b : SignInputValue) (drafts : List code.Draft) (steps : List Step) (halves : List Half) (old new : List SignerState)
    → length halves ≡ length steps → Pairs IsStepOf drafts steps → Pairs (λ d st. IsFirstOf s b (draft_of d) (kind_of d.kind) st.pending) drafts steps
    → Pairs (λ st h. IsOutcome s.work.moment st.pending h) steps halves → AreCalled old new (calls_of s.work.moment steps (map half_answers halves))
    → AreHalves s b drafts halves old new
firsts-halves s b drafts steps halves old new long are firsts outcomes called = record {
  calls = called-as old new (calls_of s.work.moment steps (map half_answers halves))
      (map (first_of s b) (signed (map draft_of drafts) (map half_answers halves)))
      (firsts-same s.work.moment (first_of s b) (map draft_of drafts) steps (map half_answers halves) (length-map halves half_answers ∙ long)
      (first-steps s b drafts steps are firsts)) called;
  pairs = pairs-through (λ d st. IsFirstOf s b (draft_of d) (kind_of d.kind) st.pending) (λ st h. IsOutcome s.work.moment st.pending h)
      (λ d h. IsHalf s b (draft_of d) (kind_of d.kind) h)
      (λ d st h first out. half-of s b (draft_of d) (kind_of d.kind) st.pending h first out) drafts steps halves firsts outcomes;
}

-- The steps couldn't be built.
pub drafts-unmade : (s : IssueInput) (b : SignInputValue) (drafts : List code.Draft) (old : List SignerState)
    → IsStop (of_drafts s b) (map draft_of drafts) old old Memory
drafts-unmade s b drafts old = unmade (of_drafts s b) (map draft_of drafts) old

-- ---- drafts: the second ones

pub seconds-signers : (n : ℕ) (drafts : List code.Draft) (steps : List Step) → All (λ (d : code.Draft). d.issuer.row.now.signer < n) drafts
    → Pairs (λ d st. st.issuer.now ≡ d.issuer.row.now) drafts steps → All (λ (st : Step). st.issuer.now.signer < n) steps
seconds-signers n drafts steps all pairs =
    pairs-of-all (λ (d : code.Draft). d.issuer.row.now.signer < n) (λ (d : code.Draft) (st : Step). st.issuer.now ≡ d.issuer.row.now)
    (λ (st : Step). st.issuer.now.signer < n) (λ d st low is. subst (λ k. k.signer < n) (sym is) low) drafts steps all pairs

-- What isn't a content becomes an object.
pub all-whole : (m : ℕ) (steps : List Step) (halves : List Half) → All (λ (st : Step). is_content st.pending ≡ false) steps
    → Pairs (λ st h. IsOutcome m st.pending h) steps halves → All (λ (h : Half). is_begun h ≡ false) halves
all-whole m steps halves all pairs =
    pairs-of-all (λ (st : Step). is_content st.pending ≡ false) (λ (st : Step) (h : Half). IsOutcome m st.pending h) (λ (h : Half). is_begun h ≡ false)
    (λ st h is out. begun-of m st.pending h out ∙ is) steps halves all pairs

second-steps : (s : IssueInput) (b : SignInputValue) (drafts : List code.Draft) (halves : List Half) (steps : List Step)
    → Pairs (λ d h. IsHalf s b (draft_of d) (kind_of d.kind) h) drafts halves → Pairs (λ d st. st.issuer.now ≡ d.issuer.row.now) drafts steps
    → Triples (λ d h st. IsSecondOf s b (draft_of d) (kind_of d.kind) h st.pending) drafts halves steps
    → Triples (IsSecondStep s.work.moment (first_of s b) (second_of s b)) (map draft_of drafts) (map half_answers halves) steps
second-steps s b drafts halves steps =
    triples-mapped draft_of half_answers (λ d h. IsHalf s b (draft_of d) (kind_of d.kind) h) (λ d st. st.issuer.now ≡ d.issuer.row.now)
    (λ d h st. IsSecondOf s b (draft_of d) (kind_of d.kind) h st.pending) (IsSecondStep s.work.moment (first_of s b) (second_of s b))
    (λ d h st half issuer is. record {
      same = second-same s b (draft_of d) (kind_of d.kind) h st.pending half is;
      call = second-call s b (draft_of d) (kind_of d.kind) h st.issuer.now st.pending issuer half is;
    }) drafts halves steps

pub seconds-stopped : (s : IssueInput) (b : SignInputValue) (drafts : List code.Draft) (halves : List Half) (steps : List Step)
    (old now new : List SignerState) (fault : MakeFault) → length halves ≡ length drafts → length steps ≡ length drafts
    → AreHalves s b drafts halves old now → Pairs (λ d st. st.issuer.now ≡ d.issuer.row.now) drafts steps
    → Triples (λ d h st. IsSecondOf s b (draft_of d) (kind_of d.kind) h st.pending) drafts halves steps
    → IsStepsStop s.work.moment steps now new fault → IsStop (of_drafts s b) (map draft_of drafts) old new fault
seconds-stopped s b drafts halves steps old now new fault same long are issuers seconds stop =
    second-stop (of_drafts s b) (first_of s b) (second_of s b) s.work.moment (map draft_of drafts) (map half_answers halves) steps old now new fault
    (drafts-way s b) (long ∙ sym (length-map drafts draft_of)) (length-map halves half_answers ∙ (same ∙ sym long))
    (second-steps s b drafts halves steps are.pairs issuers seconds) are.calls.signers stop

-- Want of memory before the second ones.
pub halves-short : (s : IssueInput) (b : SignInputValue) (drafts : List code.Draft) (halves : List Half) (old now : List SignerState)
    → length halves ≡ length drafts → AreHalves s b drafts halves old now → IsStop (of_drafts s b) (map draft_of drafts) old now Memory
halves-short s b drafts halves old now same are =
    firsts-short (of_drafts s b) (first_of s b) (second_of s b) (map draft_of drafts) (map half_answers halves) old now (drafts-way s b)
    (length-map halves half_answers ∙ (same ∙ sym (length-map drafts draft_of))) are.calls.signers

made-outcome : (m : ℕ) (steps : List Step) (halves : List Half) (objects : List Object) → map (λ (o : Object). Made o) objects ≡ halves
    → Pairs (λ st h. IsOutcome m st.pending h) steps halves → Pairs (λ st o. IsOutcome m st.pending (Made o)) steps objects
made-outcome m steps halves objects e pairs =
    of-made steps objects (subst (λ (hs : List Half). Pairs (λ st h. IsOutcome m st.pending h) steps hs) (sym e) pairs)
  where
    of-made : (ss : List Step) (os : List Object) → Pairs (λ st h. IsOutcome m st.pending h) ss (map (λ (o : Object). Made o) os)
        → Pairs (λ st o. IsOutcome m st.pending (Made o)) ss os
    of-made [] [] p = tt
    of-made [] (o ∷ os) p = absurd p
    of-made (st ∷ ss) [] p = tt
    of-made (st ∷ ss) (o ∷ os) p = (p.0, of-made ss os p.1)

said-made : (objects : List Object) (halves : List Half) → map (λ (o : Object). Made o) objects ≡ halves → map half_answers halves ≡ map answers_of objects
said-made objects halves e = ap (map half_answers) (sym e) ∙ of-made objects
  where
    of-made : (os : List Object) → map half_answers (map (λ (o : Object). Made o) os) ≡ map answers_of os
    of-made [] = refl
    of-made (o ∷ os) = ap (λ (l : List Answers). answers_of o ∷ l) (of-made os)

kept-made : (m : ℕ) (steps : List Step) (objects : List Object) → Pairs (λ st o. IsOutcome m st.pending (Made o)) steps objects
    → Pairs (λ st a. IsKept st.pending a) steps (map answers_of objects)
kept-made m [] [] p = tt
kept-made m [] (o ∷ objects) p = absurd p
kept-made m (st ∷ steps) [] p = tt
kept-made m (st ∷ steps) (o ∷ objects) p = (kept-outcome m st.pending o p.0, kept-made m steps objects p.1)

count-made : (objects : List Object) (halves : List Half) (n : ℕ) → map (λ (o : Object). Made o) objects ≡ halves → length halves ≡ n → length objects ≡ n
count-made objects halves n e long = sym (length-map objects (λ (o : Object). Made o)) ∙ (ap length e ∙ long)

-- What isn't a content keeps what was answered before.
kept-half : (m : ℕ) (p : Pending) (h : Half) → is_content p ≡ false → IsOutcome m p h → IsKept p (half_answers h)
kept-half m p (Made o) is out = kept-outcome m p o out
kept-half m p (Begun c) is out = not-begun m p c is out
  where
    not-begun : (k : ℕ) (q : Pending) (d : SignedContent) → is_content q ≡ false → IsOutcome k q (Begun d) → IsKept q (content_answers d)
    not-begun k (pending.Whole object) d e o = absurd o
    not-begun k (pending.Certificate tbs) d e o = tt
    not-begun k (pending.Revocations tbs) d e o = tt
    not-begun k (pending.Content kind content) d e o = tt
    not-begun k (pending.Entity kind content tbs) d e o = absurd o

kept-halves : (m : ℕ) (steps : List Step) (halves : List Half) → All (λ (st : Step). is_content st.pending ≡ false) steps
    → Pairs (λ st h. IsOutcome m st.pending h) steps halves → Pairs (λ st a. IsKept st.pending a) steps (map half_answers halves)
kept-halves m [] [] all p = tt
kept-halves m [] (h ∷ halves) all p = absurd p
kept-halves m (st ∷ steps) [] all p = tt
kept-halves m (st ∷ steps) (h ∷ halves) all p = (
  kept-half m st.pending h (All-head (λ (x : Step). is_content x.pending ≡ false) st steps all) p.0,
  kept-halves m steps halves (All-tail (λ (x : Step). is_content x.pending ≡ false) st steps all) p.1,
)

-- All calls of the steps, and none after them.
all-called : (m : ℕ) (steps : List Step) (halves : List Half) (old new : List SignerState) → length halves ≡ length steps
    → All (λ (st : Step). is_content st.pending ≡ false) steps → Pairs (λ st h. IsOutcome m st.pending h) steps halves
    → new ≡ after_calls old (calls_of m steps (map half_answers halves)) → IsStepsShort m steps old new
all-called m steps halves old new long whole outcomes is = record {
  calls = calls_of m steps (map half_answers halves);
  others = λ n. [];
  begun = record {
    given = map half_answers halves;
    each = length-map halves half_answers ∙ long;
    kept = kept-halves m steps halves whole outcomes;
    whole = λ n. append-nil (jobs.calls_on n (calls_of m steps (map half_answers halves)));
  };
  signers = is;
}

pub seconds-made : Stays → (s : IssueInput) (b : SignInputValue) (drafts : List code.Draft) (halves : List Half) (steps : List Step) (after : List Half)
    (objects : List Object) (old now new : List SignerState) → length halves ≡ length drafts → length steps ≡ length drafts
    → length after ≡ length steps → map (λ (o : Object). Made o) objects ≡ after → AreHalves s b drafts halves old now
    → Pairs (λ d st. st.issuer.now ≡ d.issuer.row.now) drafts steps
    → Triples (λ d h st. IsSecondOf s b (draft_of d) (kind_of d.kind) h st.pending) drafts halves steps
    → Pairs (λ st h. IsOutcome s.work.moment st.pending h) steps after → AreCalled now new (calls_of s.work.moment steps (map half_answers after))
    → AreMade s b (of_drafts s b) (map draft_of drafts) old new objects (signed (map draft_of drafts) (map answers_of objects))
seconds-made stays s b drafts halves steps after objects old now new same long count whole are issuers seconds outcomes called =
    let m = s.work.moment in
    let made = made-outcome m steps after objects whole outcomes in
    all-made stays s b (of_drafts s b) (first_of s b) (second_of s b) m (map draft_of drafts) (map half_answers halves) steps objects old now new
    (drafts-way s b) (long ∙ sym (length-map drafts draft_of)) (length-map halves half_answers ∙ (same ∙ sym long))
    (count-made objects after (length steps) whole count) (second-steps s b drafts halves steps are.pairs issuers seconds)
    (kept-made m steps objects made)
    (triples-through draft_of (λ d h. IsHalf s b (draft_of d) (kind_of d.kind) h) (λ d h st. IsSecondOf s b (draft_of d) (kind_of d.kind) h st.pending)
    (λ st o. IsOutcome m st.pending (Made o)) (IsFor (of_drafts s b) (known_of s b))
    (λ d h st o half is out. second-made s b (draft_of d) (kind_of d.kind) h st.pending o half is out) drafts halves steps objects are.pairs seconds made)
    are.calls
    (called-as now new (calls_of m steps (map half_answers after)) (calls_of m steps (map answers_of objects))
    (ap (calls_of m steps) (said-made objects after whole)) called)

-- Want of memory behind all calls.
pub seconds-short : (s : IssueInput) (b : SignInputValue) (drafts : List code.Draft) (halves : List Half) (steps : List Step) (after : List Half)
    (old now new : List SignerState) → length halves ≡ length drafts → length steps ≡ length drafts → length after ≡ length steps
    → AreHalves s b drafts halves old now → Pairs (λ d st. st.issuer.now ≡ d.issuer.row.now) drafts steps
    → Triples (λ d h st. IsSecondOf s b (draft_of d) (kind_of d.kind) h st.pending) drafts halves steps
    → All (λ (st : Step). is_content st.pending ≡ false) steps → Pairs (λ st h. IsOutcome s.work.moment st.pending h) steps after
    → AreCalled now new (calls_of s.work.moment steps (map half_answers after)) → IsStop (of_drafts s b) (map draft_of drafts) old new Memory
seconds-short s b drafts halves steps after old now new same long count are issuers seconds whole outcomes called =
    seconds-stopped s b drafts halves steps old now new Memory same long are issuers seconds
    (all-called s.work.moment steps after now new count whole outcomes called.signers)

-- ---- manifests: their contents

text-steps : (s : IssueInput) (b : SignInputValue) (drafts : List ManifestDraft) (steps : List Step)
    → Pairs (λ d st. st.issuer.now ≡ d.issuer.row.now) drafts steps
    → Pairs (λ d st. IsTextOf s d.issuer.row.now (b.files d.issuer.row.now) st.pending) drafts steps
    → Pairs (IsFirstStep s.work.moment (content_of s b)) (map manifest_of drafts) steps
text-steps s b drafts steps =
    pairs-mapped manifest_of (λ d st. st.issuer.now ≡ d.issuer.row.now) (λ d st. IsTextOf s d.issuer.row.now (b.files d.issuer.row.now) st.pending)
    (IsFirstStep s.work.moment (content_of s b))
    (λ d st issuer text. text-step s b (manifest_of d) st.issuer.now st.pending issuer text) drafts steps

pub manifest-signers : (n : ℕ) (drafts : List ManifestDraft) (steps : List Step) → All (λ (d : ManifestDraft). d.issuer.row.now.signer < n) drafts
    → Pairs (λ d st. st.issuer.now ≡ d.issuer.row.now) drafts steps → All (λ (st : Step). st.issuer.now.signer < n) steps
manifest-signers n drafts steps all pairs =
    pairs-of-all (λ (d : ManifestDraft). d.issuer.row.now.signer < n) (λ (d : ManifestDraft) (st : Step). st.issuer.now ≡ d.issuer.row.now)
    (λ (st : Step). st.issuer.now.signer < n) (λ d st low is. subst (λ k. k.signer < n) (sym is) low) drafts steps all pairs

-- The steps couldn't be built.
pub manifests-unmade : (s : IssueInput) (b : SignInputValue) (drafts : List ManifestDraft) (old : List SignerState)
    → IsStop (of_manifests s b) (map manifest_of drafts) old old Memory
manifests-unmade s b drafts old = unmade (of_manifests s b) (map manifest_of drafts) old

-- What is a content becomes one that is signed.
pub all-begun : (m : ℕ) (steps : List Step) (halves : List Half) → All (λ (st : Step). is_content st.pending ≡ true) steps
    → Pairs (λ st h. IsOutcome m st.pending h) steps halves → All (λ (h : Half). is_begun h ≡ true) halves
all-begun m steps halves all pairs =
    pairs-of-all (λ (st : Step). is_content st.pending ≡ true) (λ (st : Step) (h : Half). IsOutcome m st.pending h) (λ (h : Half). is_begun h ≡ true)
    (λ st h is out. begun-of m st.pending h out ∙ is) steps halves all pairs

pub contents-stopped : (s : IssueInput) (b : SignInputValue) (drafts : List ManifestDraft) (next : List ℕ) (lists : List (List ListedFile)) (steps : List Step)
    (old new : List SignerState) (fault : MakeFault) → length steps ≡ length drafts → AreManifests b drafts next lists
    → Pairs (λ d st. st.issuer.now ≡ d.issuer.row.now) drafts steps
    → Triples (λ d list st. IsTextOf s d.issuer.row.now (map file_view list) st.pending) drafts lists steps
    → IsStepsStop s.work.moment steps old new fault → IsStop (of_manifests s b) (map manifest_of drafts) old new fault
contents-stopped s b drafts next lists steps old new fault long are issuers texts stop =
    first-stop (of_manifests s b) (content_of s b) (last_of s b) s.work.moment (map manifest_of drafts) steps old new fault (manifests-way s b)
    (long ∙ sym (length-map drafts manifest_of)) (text-steps s b drafts steps issuers (texts-of s b drafts lists steps are.files texts)) stop

pub contents-halves : (s : IssueInput) (b : SignInputValue) (drafts : List ManifestDraft) (next : List ℕ) (lists : List (List ListedFile)) (steps : List Step)
    (halves : List Half) (old new : List SignerState) → length halves ≡ length steps → AreManifests b drafts next lists
    → Pairs (λ d st. st.issuer.now ≡ d.issuer.row.now) drafts steps
    → Triples (λ d list st. IsTextOf s d.issuer.row.now (map file_view list) st.pending) drafts lists steps
    → Pairs (λ st h. IsOutcome s.work.moment st.pending h) steps halves → AreCalled old new (calls_of s.work.moment steps (map half_answers halves))
    → AreContents s b drafts halves old new
contents-halves s b drafts next lists steps halves old new long are issuers texts outcomes called =
    let own = texts-of s b drafts lists steps are.files texts in
    record {
      calls = called-as old new (calls_of s.work.moment steps (map half_answers halves))
          (map (content_of s b) (signed (map manifest_of drafts) (map half_answers halves)))
          (firsts-same s.work.moment (content_of s b) (map manifest_of drafts) steps (map half_answers halves) (length-map halves half_answers ∙ long)
          (text-steps s b drafts steps issuers own)) called;
      pairs = pairs-through (λ d st. IsTextOf s d.issuer.row.now (b.files d.issuer.row.now) st.pending) (λ st h. IsOutcome s.work.moment st.pending h)
          (λ d h. IsContentHalf s d.issuer.row.now (b.files d.issuer.row.now) h)
          (λ d st h text out. content-half s d.issuer.row.now (b.files d.issuer.row.now) st.pending h text out) drafts steps halves own outcomes;
    }

-- ---- manifests: their certificates

last-steps : (s : IssueInput) (b : SignInputValue) (drafts : List ManifestDraft) (halves : List Half) (steps : List Step)
    → Pairs (λ d h. IsContentHalf s d.issuer.row.now (b.files d.issuer.row.now) h) drafts halves
    → Pairs (λ d st. st.issuer.now ≡ d.issuer.row.now) drafts steps
    → Triples (λ d h st. IsLastOf s b (manifest_of d) h st.pending) drafts halves steps
    → Triples (IsSecondStep s.work.moment (content_of s b) (last_of s b)) (map manifest_of drafts) (map half_answers halves) steps
last-steps s b drafts halves steps =
    triples-mapped manifest_of half_answers (λ d h. IsContentHalf s d.issuer.row.now (b.files d.issuer.row.now) h)
    (λ d st. st.issuer.now ≡ d.issuer.row.now) (λ d h st. IsLastOf s b (manifest_of d) h st.pending)
    (IsSecondStep s.work.moment (content_of s b) (last_of s b))
    (λ d h st half issuer is. record {
      same = last-same s b (manifest_of d) h st.pending is;
      call = last-call s b (manifest_of d) h st.issuer.now st.pending issuer is;
    }) drafts halves steps

pub lasts-stopped : (s : IssueInput) (b : SignInputValue) (drafts : List ManifestDraft) (halves : List Half) (steps : List Step)
    (old now new : List SignerState) (fault : MakeFault) → length halves ≡ length drafts → length steps ≡ length drafts
    → AreContents s b drafts halves old now → Pairs (λ d st. st.issuer.now ≡ d.issuer.row.now) drafts steps
    → Triples (λ d h st. IsLastOf s b (manifest_of d) h st.pending) drafts halves steps
    → IsStepsStop s.work.moment steps now new fault → IsStop (of_manifests s b) (map manifest_of drafts) old new fault
lasts-stopped s b drafts halves steps old now new fault same long are issuers lasts stop =
    second-stop (of_manifests s b) (content_of s b) (last_of s b) s.work.moment (map manifest_of drafts) (map half_answers halves) steps old now new fault
    (manifests-way s b) (long ∙ sym (length-map drafts manifest_of)) (length-map halves half_answers ∙ (same ∙ sym long))
    (last-steps s b drafts halves steps are.pairs issuers lasts) are.calls.signers stop

-- Want of memory before the certificates.
pub contents-short : (s : IssueInput) (b : SignInputValue) (drafts : List ManifestDraft) (halves : List Half) (old now : List SignerState)
    → length halves ≡ length drafts → AreContents s b drafts halves old now → IsStop (of_manifests s b) (map manifest_of drafts) old now Memory
contents-short s b drafts halves old now same are =
    firsts-short (of_manifests s b) (content_of s b) (last_of s b) (map manifest_of drafts) (map half_answers halves) old now (manifests-way s b)
    (length-map halves half_answers ∙ (same ∙ sym (length-map drafts manifest_of))) are.calls.signers

pub lasts-short : (s : IssueInput) (b : SignInputValue) (drafts : List ManifestDraft) (halves : List Half) (steps : List Step) (after : List Half)
    (old now new : List SignerState) → length halves ≡ length drafts → length steps ≡ length drafts → length after ≡ length steps
    → AreContents s b drafts halves old now → Pairs (λ d st. st.issuer.now ≡ d.issuer.row.now) drafts steps
    → Triples (λ d h st. IsLastOf s b (manifest_of d) h st.pending) drafts halves steps
    → All (λ (st : Step). is_content st.pending ≡ false) steps → Pairs (λ st h. IsOutcome s.work.moment st.pending h) steps after
    → AreCalled now new (calls_of s.work.moment steps (map half_answers after)) → IsStop (of_manifests s b) (map manifest_of drafts) old new Memory
lasts-short s b drafts halves steps after old now new same long count are issuers lasts whole outcomes called =
    lasts-stopped s b drafts halves steps old now new Memory same long are issuers lasts
    (all-called s.work.moment steps after now new count whole outcomes called.signers)

pub lasts-made : Stays → (s : IssueInput) (b : SignInputValue) (drafts : List ManifestDraft) (halves : List Half) (steps : List Step) (after : List Half)
    (objects : List Object) (old now new : List SignerState) → length halves ≡ length drafts → length steps ≡ length drafts
    → length after ≡ length steps → map (λ (o : Object). Made o) objects ≡ after → AreContents s b drafts halves old now
    → Pairs (λ d st. st.issuer.now ≡ d.issuer.row.now) drafts steps
    → Triples (λ d h st. IsLastOf s b (manifest_of d) h st.pending) drafts halves steps
    → Pairs (λ st h. IsOutcome s.work.moment st.pending h) steps after → AreCalled now new (calls_of s.work.moment steps (map half_answers after))
    → AreMade s b (of_manifests s b) (map manifest_of drafts) old new objects (signed (map manifest_of drafts) (map answers_of objects))
lasts-made stays s b drafts halves steps after objects old now new same long count whole are issuers lasts outcomes called =
    let m = s.work.moment in
    let made = made-outcome m steps after objects whole outcomes in
    all-made stays s b (of_manifests s b) (content_of s b) (last_of s b) m (map manifest_of drafts) (map half_answers halves) steps objects old now new
    (manifests-way s b) (long ∙ sym (length-map drafts manifest_of)) (length-map halves half_answers ∙ (same ∙ sym long))
    (count-made objects after (length steps) whole count) (last-steps s b drafts halves steps are.pairs issuers lasts)
    (kept-made m steps objects made)
    (triples-through manifest_of (λ d h. IsContentHalf s d.issuer.row.now (b.files d.issuer.row.now) h) (λ d h st. IsLastOf s b (manifest_of d) h st.pending)
    (λ st o. IsOutcome m st.pending (Made o)) (IsFor (of_manifests s b) (known_of s b))
    (λ d h st o half is out. last-made s b d h st.pending o half is out) drafts halves steps objects are.pairs lasts made)
    are.calls
    (called-as now new (calls_of m steps (map half_answers after)) (calls_of m steps (map answers_of objects))
    (ap (calls_of m steps) (said-made objects after whole)) called)
