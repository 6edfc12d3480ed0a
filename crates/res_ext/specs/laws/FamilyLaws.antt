-- Whether a family may not come next is told rightly.
use Rattle.std.proofs.Common.{◌≡◌, ℕ, Bool, true, false, not, ◌&&◌, Option, Some, None, is_none, List, [], ◌++◌, length, Result, Ok, Err, refl, sym, ap, subst, ◌∙◌, arith}
use Rattle.std.proofs.lemmas.Bool.{and_parts, and_from, or_right, not-true}
use Rattle.std.proofs.lemmas.List.{length-append}
use Rattle.der.specs.Grammar.{AreBytes}
use Rattle.der.specs.Tags as tag
use Rattle.der.specs.Spelling.{spelled}
use Rattle.der.specs.laws.ElementLaws.{one_element, longer}
use Rattle.der.specs.declared.shape_fault.ShapeFault.{ShapeFault}
use Rattle.der.specs.Part.{Place, IsInput, IsPlace, start}
use Rattle.der.specs.laws.PlaceLaws.{behind-place, next, is-next, start-place}
use Rattle.der.specs.Form.{Front, Begins, IsFront}
use Rattle.der.specs.laws.FormLaws.{content-law, within-law}
use Rattle.der.specs.laws.SequenceLaws.{both-law}
use Rattle.der.specs.laws.LeafLaws.{same-self}
use Rattle.der.specs.Leaves.{are_same}
use Rattle.der.specs.Forms.{content, within, both, OnSomeOf, spelled_some}
use Rattle.res_sets.specs.declared.numbers.Family.{Family}
use Rattle.res_sets.specs.declared.numbers.Family.TheVariants.{V4, V6}
use Rattle.res_ext.specs.Formats.{family_bytes, choice, part, ip_content, ip_out}
use Rattle.res_ext.specs.laws.FormatLaws.{part-law, ip_inverse, ip_content-law}
use Rattle.res_ext.specs.Extensions.{Spans, SpellsIp, named, are_alike, may_follow, GoesWrong, HasBadFamily}
use Rattle.res_ext.specs.declared.fault.ExtFault.TheVariants.{NotCanonical, Family as BadFamily}
use Rattle.res_ext.specs.declared.fault.ExtFault.{ExtFault}
use Rattle.res_ext.specs.Answers.{found_or, tried, wrong_behind, goes_wrong, answer, IsUnlessMemory}
use Rattle.res_ext.specs.laws.AnswerLaws.{content-input, answer-bad, answer-wrong}

-- ---- the value in front, if one is there

pub record IsTried {A : Type 0} (f : Front A) (p : Place) (x : Option A × Place) : Type 0 where
  pub good : OnSomeOf f.good x.0
  pub parts : p.left ≡ spelled_some f.spelling x.0 ++ x.1.left
  pub place : IsPlace x.1

tried-taken : {A : Type 0} (f : Front A) → IsFront f → (p : Place) → IsPlace p
    → IsTried f p (tried f p)
tried-taken {A = A} f law p is = cases (f.read p) refl
  where
    cases : (r : Result (A × Place) ShapeFault) → f.read p ≡ r → IsTried f p (found_or p r)
    cases (Ok x) e =
        let t = law.taken x.0 p x.1 is e in
        record { good = t.0; parts = t.1.left; place = behind-place (f.spelling x.0) p x.1 is t.1 }
    cases (Err d) e = record { good = tt; parts = refl; place = is }

tried-again : {A : Type 0} (f : Front A) → IsFront f → (v : Option A) (p : Place) (rest : List ℕ)
    → OnSomeOf f.good v → IsPlace p → p.left ≡ spelled_some f.spelling v ++ rest
    → (v ≡ None → Begins f rest → ⊥) → ((tried f p).0 ≡ v) × ((tried f p).1.left ≡ rest)
tried-again f law (Some x) p rest good is e none =
    let read : f.read p ≡ Ok (x, next p (f.spelling x) rest) =
    law.again x p (next p (f.spelling x) rest) good is (is-next p (f.spelling x) rest e) in
    rw read (refl, refl)
tried-again {A = A} f law None p rest good is e none = cases (f.read p) refl
  where
    cases : (r : Result (A × Place) ShapeFault) → f.read p ≡ r
        → ((found_or p r).0 ≡ None) × ((found_or p r).1.left ≡ rest)
    cases (Ok x) h =
        let t = law.taken x.0 p x.1 is h in
        absurd (none refl
        (record { value = x.0; rest = x.1.left; good = t.0; spelled = sym e ∙ t.1.left }))
    cases (Err d) h = (refl, e)

-- ---- the number of the next family

pub named-law : IsFront named
named-law =
    within-law tag.sequence (both (within tag.octet_string content) content)
    (both-law (within tag.octet_string content) content
    (within-law tag.octet_string content content-law) content-law)

one-named : (x y : List ℕ × List ℕ) (r s : List ℕ) → named.spelling x ++ r ≡ named.spelling y ++ s
    → x.0 ≡ y.0
one-named x y r s e =
    let outer = one_element tag.sequence tag.sequence (spelled tag.octet_string x.0 ++ x.1)
    (spelled tag.octet_string y.0 ++ y.1) r s e in
    let inner = one_element tag.octet_string tag.octet_string x.0 y.0 x.1 y.1 outer.1 in
    inner.1

-- A family begins with its number.
family-named : (family : Family) (x : Option Spans)
    → (part family).spelling x ≡ named.spelling (family_bytes family, (choice family).spelling x)
unfolding part
family-named family x = refl

begins-numbered : (family : Family) (x : List ℕ × List ℕ) (rest : List ℕ)
    → Begins (part family) (named.spelling x ++ rest) → x.0 ≡ family_bytes family
begins-numbered family x rest b =
    let there : named.spelling x ++ rest
    ≡ named.spelling (family_bytes family, (choice family).spelling b.value) ++ b.rest =
    b.spelled ∙ ap (λ (l : List ℕ). l ++ b.rest) (family-named family b.value) in
    one-named x (family_bytes family, (choice family).spelling b.value) rest b.rest there

v6-v4 : family_bytes V6 ≡ family_bytes V4 → ⊥
v6-v4 e = cc

v6-begins : (y : Option Spans) (rest : List ℕ) → Begins (part V4) ((part V6).spelling y ++ rest) → ⊥
v6-begins y rest b =
    let there : Begins (part V4)
    (named.spelling (family_bytes V6, (choice V6).spelling y) ++ rest) =
    subst (λ (l : List ℕ). Begins (part V4) (l ++ rest)) (family-named V6 y) b in
    v6-v4 (begins-numbered V4 (family_bytes V6, (choice V6).spelling y) rest there)

nothing-named : (x : List ℕ × List ℕ) (rest : List ℕ) → [] ≡ named.spelling x ++ rest → ⊥
nothing-named x rest e =
    let inner : List ℕ = spelled tag.octet_string x.0 ++ x.1 in
    omega (
      arith,
      longer tag.sequence inner,
      ap length e,
      length-append (spelled tag.sequence inner) rest,
    )

nothing-begins : (family : Family) → Begins (part family) [] → ⊥
nothing-begins family b =
    nothing-named (family_bytes family, (choice family).spelling b.value) b.rest
    (b.spelled ∙ ap (λ (l : List ℕ). l ++ b.rest) (family-named family b.value))

not-both : (b : Bool) → b ≡ true → b ≡ false → ⊥
not-both b one other = cc

v4-follows : (number : List ℕ) → number ≡ family_bytes V4 → may_follow number None None ≡ true
v4-follows number e = rw (e, same-self (family_bytes V4)) refl

v6-follows : (number : List ℕ) (v4 : Option (Option Spans)) → number ≡ family_bytes V6
    → may_follow number v4 None ≡ true
v6-follows number v4 e =
    or_right (are_same number (family_bytes V4) && is_none v4 && true)
    (are_same number (family_bytes V6) && true)
    (and_from _ _
    (ap (λ (n : List ℕ). are_same n (family_bytes V6)) e ∙ same-self (family_bytes V6)) refl)

-- Families that aren't there don't stand before a number that may not come next.
no-v4 : (v6 : Option (Option Spans)) (x : List ℕ × List ℕ) (rest : List ℕ)
    → may_follow x.0 None v6 ≡ false
    → Begins (part V4) (spelled_some (part V6).spelling v6 ++ (named.spelling x ++ rest)) → ⊥
no-v4 (Some y) x rest bad b = v6-begins y (named.spelling x ++ rest) b
no-v4 None x rest bad b =
    not-both (may_follow x.0 None None) (v4-follows x.0 (begins-numbered V4 x rest b)) bad

no-v6 : (v4 : Option (Option Spans)) (x : List ℕ × List ℕ) (rest : List ℕ)
    → may_follow x.0 v4 None ≡ false → Begins (part V6) (named.spelling x ++ rest) → ⊥
no-v6 v4 x rest bad b =
    not-both (may_follow x.0 v4 None) (v6-follows x.0 v4 (begins-numbered V6 x rest b)) bad

-- ---- what goes wrong

wrong-is : (a v4 b v6 : Option (Option Spans)) (r : Result ((List ℕ × List ℕ) × Place) ShapeFault)
    (x : (List ℕ × List ℕ) × Place)
    → a ≡ v4 → b ≡ v6 → r ≡ Ok x → are_alike v4 v6 ≡ true → may_follow x.0.0 v4 v6 ≡ false
    → wrong_behind a b r ≡ true
wrong-is a v4 b v6 r x one other read alike bad = rw (one, other, read, alike, bad) refl

pub wrong-again : (p : Place) → IsPlace p → GoesWrong p.left → goes_wrong p ≡ true
wrong-again p is w =
    let x : List ℕ × List ℕ = (w.number, w.more) in
    let behind : List ℕ = named.spelling x ++ w.rest in
    let a = tried-again (part V4) (part-law V4) w.v4 p
    (spelled_some (part V6).spelling w.v6 ++ behind) w.v4_part is w.parts
    (λ none b. no-v4 w.v6 x w.rest
    (subst (λ (v : Option (Option Spans)). may_follow w.number v w.v6 ≡ false) none w.bad) b)
    in
    let q : Place = (tried (part V4) p).1 in
    let place : IsPlace q = (tried-taken (part V4) (part-law V4) p is).place in
    let b = tried-again (part V6) (part-law V6) w.v6 q behind w.v6_part place a.1
    (λ none b. no-v6 w.v4 x w.rest
    (subst (λ (v : Option (Option Spans)). may_follow w.number w.v4 v ≡ false) none w.bad) b)
    in
    let s : Place = (tried (part V6) q).1 in
    let last : IsPlace s = (tried-taken (part V6) (part-law V6) q place).place in
    let read : named.read s ≡ Ok (x, next s (named.spelling x) w.rest) =
    named-law.again x s (next s (named.spelling x) w.rest) (tt, tt) last
    (is-next s (named.spelling x) w.rest b.1) in
    wrong-is (tried (part V4) p).0 w.v4 (tried (part V6) q).0 w.v6 (named.read s)
    (x, next s (named.spelling x) w.rest) a.0 b.0 read w.alike w.bad

pub wrong-taken : (p : Place) → IsPlace p → goes_wrong p ≡ true → GoesWrong p.left
wrong-taken p is e = cases (named.read s) refl e
  where
    q : Place
    q = (tried (part V4) p).1

    s : Place
    s = (tried (part V6) (tried (part V4) p).1).1

    a : IsTried (part V4) p (tried (part V4) p)
    a = tried-taken (part V4) (part-law V4) p is

    b : IsTried (part V6) q (tried (part V6) q)
    b = tried-taken (part V6) (part-law V6) q a.place

    cases : (r : Result ((List ℕ × List ℕ) × Place) ShapeFault) → named.read s ≡ r
        → wrong_behind (tried (part V4) p).0 (tried (part V6) q).0 r ≡ true → GoesWrong p.left
    cases (Ok x) read told =
        let t = named-law.taken x.0 s x.1 b.place read in
        let both = and_parts (are_alike (tried (part V4) p).0 (tried (part V6) q).0)
        (not (may_follow x.0.0 (tried (part V4) p).0 (tried (part V6) q).0)) told in
        record {
          v4 = (tried (part V4) p).0;
          v6 = (tried (part V6) q).0;
          number = x.0.0;
          more = x.0.1;
          rest = x.1.left;
          v4_part = a.good;
          v6_part = b.good;
          alike = both.0;
          parts = a.parts
              ∙ ap (λ (l : List ℕ). spelled_some (part V4).spelling (tried (part V4) p).0 ++ l)
              (b.parts ∙ ap
              (λ (l : List ℕ). spelled_some (part V6).spelling (tried (part V6) q).0 ++ l)
              t.1.left);
          bad = not-true _ both.1;
        }
    cases (Err d) read told = absurd cc

-- ---- what is spelled right doesn't go wrong

none-behind : (v6 : Option (Option Spans))
    → Begins (part V4) (spelled_some (part V6).spelling v6 ++ []) → ⊥
none-behind (Some y) b = v6-begins y [] b
none-behind None b = nothing-begins V4 b

right-families : (x : Option (Option Spans) × (Option (Option Spans) × Unit {0})) (p : Place)
    → IsPlace p → OnSomeOf (part V4).good x.0 → OnSomeOf (part V6).good x.1.0
    → p.left ≡ spelled_some (part V4).spelling x.0 ++ (spelled_some (part V6).spelling x.1.0 ++ [])
    → GoesWrong p.left → ⊥
right-families x p is v4 v6 e w =
    let a = tried-again (part V4) (part-law V4) x.0 p
    (spelled_some (part V6).spelling x.1.0 ++ []) v4 is e (λ none b. none-behind x.1.0 b) in
    let q : Place = (tried (part V4) p).1 in
    let place : IsPlace q = (tried-taken (part V4) (part-law V4) p is).place in
    let b = tried-again (part V6) (part-law V6) x.1.0 q [] v6 place a.1
    (λ none b. nothing-begins V6 b) in
    let s : Place = (tried (part V6) q).1 in
    let last : IsPlace s = (tried-taken (part V6) (part-law V6) q place).place in
    ended s last b.1 (tried (part V4) p).0 (tried (part V6) q).0 (named.read s) refl
    (wrong-again p is w)
  where
    ended : (s : Place) → IsPlace s → s.left ≡ []
        → (v4 v6 : Option (Option Spans)) (r : Result ((List ℕ × List ℕ) × Place) ShapeFault)
        → named.read s ≡ r → wrong_behind v4 v6 r ≡ true → ⊥
    ended s last none v4 v6 (Ok x) read told =
        nothing-named x.0 x.1.left (sym none ∙ (named-law.taken x.0 s x.1 last read).1.left)
    ended s last none v4 v6 (Err d) read told = absurd cc

pub right-sets : (value : Option (Spans × Spans)) (p : Place) → IsPlace p → ip_content.good value
    → p.left ≡ ip_content.spelling value → GoesWrong p.left → ⊥
unfolding ip_content
right-sets value p is good e w =
    let families = (ip_inverse.back value good).0 in
    right-families (ip_out value) p is families.0 families.1.0 e w

pub no-fault : (value : Option (Spans × Spans)) (bytes : List ℕ) → AreBytes bytes
    → SpellsIp value bytes → HasBadFamily bytes → ⊥
no-fault value bytes fits s bad =
    let content : List ℕ = bad.content in
    let input : IsInput content = content-input bytes content fits bad.whole bad.short in
    let around : spelled tag.sequence content ++ [] ≡ spelled tag.sequence
    (ip_content.spelling value) ++ [] =
    ap (λ (l : List ℕ). l ++ []) (sym bad.whole ∙ s.spelled) in
    let same = one_element tag.sequence tag.sequence content (ip_content.spelling value) [] []
    around in
    right-sets value (start content) (start-place content input) s.good same.1 bad.wrong

-- ---- the answer on addresses

pub bad-taken : (bytes : List ℕ) → AreBytes bytes
    → answer ip_content goes_wrong bytes ≡ Err BadFamily → HasBadFamily bytes
bad-taken bytes fits e =
    let a = answer-bad ip_content goes_wrong bytes fits e in
    record {
      content = a.0.left;
      whole = a.1.whole;
      short = a.1.input.short;
      wrong = wrong-taken a.0 a.1.place a.2;
    }

pub bad-again : (bytes : List ℕ) → AreBytes bytes → HasBadFamily bytes
    → answer ip_content goes_wrong bytes ≡ Err BadFamily
bad-again bytes fits bad =
    let place : IsPlace (start bad.content) =
    start-place bad.content (content-input bytes bad.content fits bad.whole bad.short) in
    answer-wrong ip_content goes_wrong ip_content-law bytes bad.content fits bad.whole bad.short
    (wrong-again (start bad.content) place bad.wrong) (λ v s. no-fault v bytes fits s bad)

pub bad-met : {X : Type 0} (view : X → Option (Spans × Spans)) (bytes : List ℕ)
    (r : Result X ExtFault)
    → AreBytes bytes → IsUnlessMemory view r (answer ip_content goes_wrong bytes)
    → HasBadFamily bytes → IsUnlessMemory view r (Err BadFamily)
bad-met view bytes r fits met bad = subst (IsUnlessMemory view r) (bad-again bytes fits bad) met

abbrev refused : {A : Type 0} → ExtFault → Result A ExtFault
refused e = Err e

faults-apart : {A : Type 0} → refused {A = A} NotCanonical ≡ Err BadFamily → ⊥
faults-apart e = absurd cc

pub bad-refused : (bytes : List ℕ) → AreBytes bytes
    → answer ip_content goes_wrong bytes ≡ Err NotCanonical → HasBadFamily bytes → ⊥
bad-refused bytes fits e bad = faults-apart {A = Option (Spans × Spans)}
    (sym e ∙ bad-again bytes fits bad)
