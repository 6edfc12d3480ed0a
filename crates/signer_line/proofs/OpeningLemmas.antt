-- Lines that are passed over at the start.
use Rattle.std.proofs.Common.{inl, inr, ◌≡◌, ◌<◌, ◌≤◌, ◌+◌, ◌-◌, ℕ, List, [], ◌∷◌, ◌++◌, length, take, drop, true, false, nat_eq, refl, sym, ◌∙◌, ap, subst, Option, Some, None, append_assoc, arith, length-append}
use Rattle.std.specs.Prelude.{codes}
use Rattle.std.specs.Io.KnownBytes.{Consumes}
use Rattle.host_calls.specs.Rise.{HasRisen}
use Rattle.std.specs.Cmp.Lexicographic.{pointwise, same_text}
use Rattle.std.proofs.lemmas.List.{take-append-drop}
use Rattle.signer_line.specs.Lines.{fed, NoFeed}
use Rattle.signer_line.specs.Streams.{NoLine, Breaks}
use Rattle.signer_line.specs.Openings.{IsStrange, Ends, PassesLines, Floods, NoEnding, TwoStrange, NoGreeting, why_unmet}
use Rattle.signer_line.specs.declared.inbox.Stop.{Stop}
use Rattle.signer_line.specs.declared.inbox.Stop.TheVariants.{Broken, Ended, TooLong}
use Rattle.signer_line.specs.declared.opening.Ending.{Ending}
use Rattle.signer_line.specs.declared.opening.Ending.TheVariants.{Answer, Strange}
use Rattle.signer_line.specs.declared.opening.Unmet.{Unmet}
use Rattle.signer_line.specs.declared.opening.Unmet.TheVariants.{Gone, Stranger}
use Rattle.signer_line.proofs.LineLemmas.{consumes_more}

-- Lines were read, so many at least as is counted.
pub record Skips (old new : Option (List ℕ)) (count : ℕ) : Type 0 where
  pub all : List ℕ
  pub long : count ≤ length all
  pub read : Consumes old new all

pub skips_none : (a : Option (List ℕ)) → Skips a a 0
skips_none None = record { all = []; long = omega arith; read = tt }
skips_none (Some xs) = record { all = []; long = omega arith; read = refl }

pub one_line_more : (a b c : Option (List ℕ)) (count : ℕ) (line : List ℕ) → Skips a b count → Consumes b c (fed line) → Skips a c (count + 1)
one_line_more a b c count line before one = record {
  all = before.all ++ fed line;
  long = omega (arith, before.long, length-append before.all (fed line), length-append line (10 ∷ []));
  read = consumes_more a b c before.all (fed line) before.read one;
}

pub ends_with_it : (line hello : List ℕ) → pointwise nat_eq (drop (length line - length hello) line) hello ≡ true → Ends Answer line hello
ends_with_it line hello same =
    let n = length line - length hello in
    let back : drop n line ≡ hello = same_text (drop n line) hello (sym same) in
    (take n line, sym (take-append-drop n line) ∙ ap (λ (xs : List ℕ). take n line ++ xs) back)

pub is_strange : (line : List ℕ) → pointwise nat_eq (take 6 line) (codes "hello ") ≡ false → IsStrange line
is_strange line other = λ same.
    let both : pointwise nat_eq (codes "hello ") (codes "hello ") ≡ false = subst (λ (xs : List ℕ). pointwise nat_eq xs (codes "hello ") ≡ false) same other in
    cc both

pub passed_to : (ending : Ending) (a b c : Option (List ℕ)) (count : ℕ) (line hello : List ℕ) → Skips a b count → Consumes b c (fed line) → NoFeed line
    → Ends ending line hello → PassesLines ending hello a c
passed_to Answer a b c count line hello before one whole ends =
    let read : Consumes a c (before.all ++ fed line) = consumes_more a b c before.all (fed line) before.read one in
    let is : before.all ++ fed line ≡ (before.all ++ ends.0) ++ fed hello =
    ap (λ (xs : List ℕ). before.all ++ fed xs) ends.1
    ∙ ap (λ (xs : List ℕ). before.all ++ xs) (append_assoc ends.0 hello (10 ∷ []))
    ∙ sym (append_assoc before.all ends.0 (fed hello)) in
    (before.all ++ ends.0, subst (Consumes a c) is read)
passed_to Strange a b c count line hello before one whole ends = record {
  passed = before.all;
  line = line;
  whole = whole;
  strange = ends;
  read = consumes_more a b c before.all (fed line) before.read one;
}

pub no_ending : (stop : Stop) (n m k count : ℕ) (a b c : Option (List ℕ)) → m ≡ n → Skips a b count → NoLine stop m k b c → NoEnding stop n k a c
no_ending Broken n m k count a b c same before risen = subst (λ (i : ℕ). HasRisen i k) same risen
no_ending Ended n m k count a b c same before end = (end.0 ∙ same, end.1.3)
no_ending TooLong n m k count a b c same before end = (
  end.0 ∙ same,
  (
    before.all ++ end.1.0,
    omega (arith, end.1.2, length-append before.all end.1.0),
    consumes_more a b c before.all end.1.0 before.read end.1.3,
  ),
)

pub flooded : (count : ℕ) (a c : Option (List ℕ)) → 1058 < count → Skips a c count → Floods a c
flooded count a c many before = (before.all, omega (arith, many, before.long), before.read)

-- the first lines end well, or not
pub greeted : (a b : Option (List ℕ)) (hello : List ℕ) → PassesLines Answer hello a b → (passed : List ℕ) × Consumes a b (passed ++ fed hello)
greeted a b hello passes = passes

pub not_greeted : (stop : Stop) (n k : ℕ) (a b : Option (List ℕ)) → NoEnding stop n k a b → NoGreeting (why_unmet stop) (HasRisen n k) a b
not_greeted Broken n k a b risen = inl risen
not_greeted Ended n k a b end = inr end.1
not_greeted TooLong n k a b end = inr end.1

-- and those behind a strange one
pub greeted_later : (a b c : Option (List ℕ)) (hello : List ℕ) → PassesLines Strange hello a b → PassesLines Answer hello b c
    → (passed : List ℕ) × Consumes a c (passed ++ fed hello)
greeted_later a b c hello first second =
    let front = first.passed ++ fed first.line in
    let read = consumes_more a b c front (second.0 ++ fed hello) first.read second.1 in
    (front ++ second.0, subst (Consumes a c) (sym (append_assoc front second.0 (fed hello))) read)

pub two_strange : (a b c : Option (List ℕ)) (hello : List ℕ) → PassesLines Strange hello a b → PassesLines Strange hello b c → TwoStrange a c
two_strange a b c hello first second = record {
  between = b;
  first = first;
  second = second;
}

pub not_greeted_later : (stop : Stop) (n m k : ℕ) (a b c : Option (List ℕ)) (hello : List ℕ) → m ≡ n → PassesLines Strange hello a b → NoEnding stop m k b c
    → NoGreeting (why_unmet stop) (HasRisen n k) a c
not_greeted_later Broken n m k a b c hello same first risen = inl (subst (λ (i : ℕ). HasRisen i k) same risen)
not_greeted_later Ended n m k a b c hello same first end = inr end.1
not_greeted_later TooLong n m k a b c hello same first end =
    let front = first.passed ++ fed first.line in
    let flood = end.1 in
    inr (
      front ++ flood.0,
      omega (arith, flood.1, length-append front flood.0),
      consumes_more a b c front flood.0 first.read flood.2,
    )

pub greeted_after : (e f : Ending) (a b c : Option (List ℕ)) (hello : List ℕ) → e ≡ Strange → f ≡ Answer → PassesLines e hello a b → PassesLines f hello b c
    → (passed : List ℕ) × Consumes a c (passed ++ fed hello)
greeted_after e f a b c hello strange answer first second =
    greeted_later a b c hello (subst (λ (it : Ending). PassesLines it hello a b) strange first)
    (subst (λ (it : Ending). PassesLines it hello b c) answer second)

pub not_greeted_after : (stop : Stop) (unmet : Unmet) (e : Ending) (n m k : ℕ) (a b c : Option (List ℕ)) (hello : List ℕ) → unmet ≡ why_unmet stop → e ≡ Strange
    → m ≡ n → PassesLines e hello a b → NoEnding stop m k b c → NoGreeting unmet (HasRisen n k) a c
not_greeted_after stop unmet e n m k a b c hello is strange same first why =
    let passes = subst (λ (it : Ending). PassesLines it hello a b) strange first in
    subst (λ (it : Unmet). NoGreeting it (HasRisen n k) a c) (sym is) (not_greeted_later stop n m k a b c hello same passes why)

-- a call that failed is one of the streams'
pub unmet_breaks : (unmet : Unmet) (n k p q : ℕ) (a b : Option (List ℕ)) → NoGreeting unmet (HasRisen n k) a b → NoGreeting unmet (Breaks n k p q) a b
unmet_breaks Gone n k p q a b why =
    elim why [
      | inl risen ↦ inl (inl risen)
      | inr end ↦ inr end
    ]
unmet_breaks Stranger n k p q a b why = why
