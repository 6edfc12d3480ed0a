-- How far an edition's objects are signed: of each signer the first of its own calls, phase by phase.
use Rattle.std.proofs.Common.{◌≡◌, ℕ, ◌+◌, inl, inr, List, [], ◌∷◌, ◌++◌, length, eqb, Option, None, Some, sym, ap, subst, ◌∙◌, append_assoc, append-nil, length-append, arith}
use Rattle.std.proofs.lemmas.List.Elements.{filter-append}
use Rattle.signer_ring.specs.Calls.{Call, signer_of}
use Rattle.signer_ring.specs.Jobs.{calls_on}
use Rattle.issue_drafts.specs.IssueInput.{IssueInput}
use Rattle.issue_sign.specs.Calls.{second_calls, content_calls, last_calls}
use Rattle.issue_sign.specs.Made.{AreWithin, FailsWithin}
use Rattle.issue_make.specs.Trace.{IssuingTrace, all_of}
use Rattle.issue_make.specs.Made.{to_firsts, to_objects, to_contents, to_manifests, StopsWithin, StopsAt, AreSignedTo}

-- ---- the calls on a signer

on-both : (n : ℕ) (xs ys : List Call) → calls_on n (xs ++ ys) ≡ calls_on n xs ++ calls_on n ys
on-both n xs ys = filter-append (λ (call : Call). eqb (signer_of call) n) xs ys

long-both : (n : ℕ) (xs ys : List Call) → length (calls_on n (xs ++ ys)) ≡ length (calls_on n xs) + length (calls_on n ys)
long-both n xs ys = ap length (on-both n xs ys) ∙ length-append (calls_on n xs) (calls_on n ys)

-- Of each signer the calls are the first of its own of those, and it has these others.
abbrev pub AreFirstOf : List Call → (ℕ → List Call) → List Call → Type 0
AreFirstOf made others calls = (n : ℕ) → calls_on n made ++ others n ≡ calls_on n calls

pub first-sums : (made : List Call) (others : ℕ → List Call) (calls : List Call) → AreFirstOf made others calls → (n : ℕ)
    → length (calls_on n made) + length (others n) ≡ length (calls_on n calls)
first-sums made others calls first n = sym (length-append (calls_on n made) (others n)) ∙ ap length (first n)

pub first-within : (made : List Call) (others : ℕ → List Call) (calls : List Call) → AreFirstOf made others calls → AreWithin made calls
first-within made others calls first = λ n. let sum = first-sums made others calls first n in omega (arith, sum)

pub first-fails : (made : List Call) (others : ℕ → List Call) (calls : List Call) (number : ℕ) (next : Call) (behind : List Call)
    → AreFirstOf made others calls → others number ≡ next ∷ behind → FailsWithin made calls number
first-fails made others calls number next behind first more = record {
  within = first-within made others calls first;
  short = let sum = first-sums made others calls first number in let left = ap length more in omega (arith, sum, left);
}

-- Behind them may come more calls.
first-more : (made : List Call) (others : ℕ → List Call) (calls more : List Call) → AreFirstOf made others calls
    → AreFirstOf made (λ n. others n ++ calls_on n more) (calls ++ more)
first-more made others calls more first = λ n.
    sym (append_assoc (calls_on n made) (others n) (calls_on n more))
    ∙ (ap (λ (l : List Call). l ++ calls_on n more) (first n) ∙ sym (on-both n calls more))

-- Before them may stand calls that all are made.
first-behind : (before made : List Call) (others : ℕ → List Call) (calls : List Call) → AreFirstOf made others calls
    → AreFirstOf (before ++ made) others (before ++ calls)
first-behind before made others calls first = λ n.
    ap (λ (l : List Call). l ++ others n) (on-both n before made)
    ∙ (append_assoc (calls_on n before) (calls_on n made) (others n)
    ∙ (ap (λ (l : List Call). calls_on n before ++ l) (first n) ∙ sym (on-both n before calls)))

-- ---- the ends of phases

within-front : (xs ys : List Call) → AreWithin xs (xs ++ ys)
within-front xs ys = λ n. let sum = long-both n xs ys in omega (arith, sum)

within-both : (before xs ys : List Call) → AreWithin xs ys → AreWithin (before ++ xs) (before ++ ys)
within-both before xs ys within = λ n.
    let one = long-both n before xs in
    let two = long-both n before ys in
    let less = within n in
    omega (arith, one, two, less)

within-more : (made calls more : List Call) → AreWithin made calls → AreWithin made (calls ++ more)
within-more made calls more within = λ n.
    let sum = long-both n calls more in
    let less = within n in
    omega (arith, sum, less)

stops-more : (failed : Option ℕ) (made calls more : List Call) → StopsWithin failed made calls → StopsWithin failed made (calls ++ more)
stops-more None made calls more stops = within-more made calls more stops
stops-more (Some signer) made calls more stops = record {
  within = within-more made calls more stops.within;
  short = let sum = long-both signer calls more in let less = stops.short in omega (arith, sum, less);
}

stops-behind : (failed : Option ℕ) (before made calls : List Call) → StopsWithin failed made calls
    → StopsWithin failed (before ++ made) (before ++ calls)
stops-behind None before made calls stops = within-both before made calls stops
stops-behind (Some signer) before made calls stops = record {
  within = within-both before made calls stops.within;
  short =
      let one = long-both signer before made in
      let two = long-both signer before calls in
      let less = stops.short in
      omega (arith, one, two, less);
}

at-behind : (failed : Option ℕ) (before made calls : List Call) → StopsAt failed made calls → StopsAt failed (before ++ made) (before ++ calls)
at-behind failed before made calls (inl stops) = inl (stops-behind failed before made calls stops)
at-behind failed before made calls (inr whole) = inr (within-both before calls made whole)

-- ---- how far it is signed

module _ (s : IssueInput) (trace : IssuingTrace) (failed : Option ℕ) (made : List Call) (others : ℕ → List Call) where
  abbrev pub texts : List Call
  texts = content_calls s trace.files trace.listed

  abbrev pub lasts : List Call
  lasts = last_calls s trace.keys (all_of s trace) trace.listed

  -- In the first two phases.
  pub signed-objects : AreFirstOf made others (to_objects s trace) → StopsWithin failed made (to_objects s trace)
      → StopsAt failed made (to_firsts s trace) → AreSignedTo s trace failed made
  signed-objects first stops at = record {
    others = λ n. (others n ++ calls_on n texts) ++ calls_on n lasts;
    first = first-more made (λ n. others n ++ calls_on n texts) (to_contents s trace) lasts
        (first-more made others (to_objects s trace) texts first);
    within = stops-more failed made (to_contents s trace) lasts (stops-more failed made (to_objects s trace) texts stops);
    firsts = at;
    objects = inl stops;
    contents = inl (stops-more failed made (to_objects s trace) texts stops);
  }

  -- In the last two.
  pub signed-manifests : AreFirstOf made others (texts ++ lasts) → StopsWithin failed made (texts ++ lasts)
      → StopsAt failed made texts → AreSignedTo s trace failed (to_objects s trace ++ made)
  signed-manifests first stops at = record {
    others = others;
    first = subst (AreFirstOf (to_objects s trace ++ made) others) grouped (first-behind (to_objects s trace) made others (texts ++ lasts) first);
    within = subst (StopsWithin failed (to_objects s trace ++ made)) grouped (stops-behind failed (to_objects s trace) made (texts ++ lasts) stops);
    firsts = inr (λ n.
        let one = within-front (to_firsts s trace) (second_calls s trace.keys (all_of s trace) trace.objects) n in
        let two = within-front (to_objects s trace) made n in
        omega (arith, one, two));
    objects = inr (within-front (to_objects s trace) made);
    contents = at-behind failed (to_objects s trace) made texts at;
  }
    where
      grouped : to_objects s trace ++ (texts ++ lasts) ≡ to_manifests s trace
      grouped = sym (append_assoc (to_objects s trace) texts lasts)

-- ---- where memory ran out

-- All but the manifests is signed.
pub all-objects : (s : IssueInput) (trace : IssuingTrace) → AreSignedTo s trace None (to_objects s trace)
all-objects s trace =
    let calls = to_objects s trace in
    signed-objects s trace None calls (λ n. []) (λ n. append-nil (calls_on n calls)) (λ n. omega arith)
    (inr (within-front (to_firsts s trace) (second_calls s trace.keys (all_of s trace) trace.objects)))

-- All is signed.
pub all-manifests : (s : IssueInput) (trace : IssuingTrace) → AreSignedTo s trace None (to_manifests s trace)
all-manifests s trace =
    let contents = content_calls s trace.files trace.listed in
    let lasts = last_calls s trace.keys (all_of s trace) trace.listed in
    subst (AreSignedTo s trace None) (sym (append_assoc (to_objects s trace) contents lasts))
    (signed-manifests s trace None (contents ++ lasts) (λ n. []) (λ n. append-nil (calls_on n (contents ++ lasts))) (λ n. omega arith)
    (inr (within-front contents lasts)))
