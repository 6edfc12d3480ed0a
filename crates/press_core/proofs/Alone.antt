-- The texts that are in one of two sets alone.
use Rattle.std.proofs.Common.{◌≡◌, ℕ, ◌||◌, Bool, true, false, not, cond, List, [], ◌∷◌, String, string_bytes, string_cmp, None, Some, refl, sym, ap, subst, ◌∙◌, inl, inr}
use Rattle.std.specs.List.{list_any, AllByRecursion}
use Rattle.std.specs.List.Sorted.{IsStrictlySortedBy}
use Rattle.std.specs.Ordering.{is_eq, is_lt, ordering_reverse}
use Rattle.std.specs.BTreeSet.{BTreeSet}
use Rattle.std.specs.declared.cmp.Ordering.{Ordering}
use Rattle.std.specs.declared.cmp.Ordering.TheVariants.{Less, Equal, Greater}
use Rattle.std.proofs.lemmas.Bool.{false≢true}
use Rattle.items.specs.laws.AmongLaws.{In, in-any}
use Rattle.pub_set.specs.Objects.{uri_cmp}
use Rattle.pub_set.specs.laws.UriLaws.{uri_total, same_is, same_self}
use Rattle.press_core.specs.inner.Resumed.{IsFirstInOne}

-- ---- the order of texts

not-below : (a b : List ℕ) → uri_cmp b a ≡ Less → is_lt (uri_cmp a b) ≡ false
not-below a b less = ap is_lt (uri_total.antisymm a b ∙ ap ordering_reverse less)

not-itself : (a b : List ℕ) → a ≡ b → is_lt (uri_cmp a b) ≡ false
not-itself a b same = subst (λ (t : List ℕ). is_lt (uri_cmp a t) ≡ false) same (equal (uri_cmp a a) (same_self a))
  where
    equal : (o : Ordering) → is_eq o ≡ true → is_lt o ≡ false
    equal Less e = absurd (false≢true e)
    equal Equal e = refl
    equal Greater e = absurd (false≢true e)

-- ---- keys

module _ {A : Type 0} where
  abbrev has : List (String A) → List ℕ → Bool
  has keys text = list_any (λ (k : String A). is_eq (uri_cmp text (string_bytes k))) keys

  has-key : (keys : List (String A)) (text : List ℕ) → has keys text ≡ true → (k : String A) × In k keys × (text ≡ string_bytes k)
  has-key keys text e =
      let w = in-any (λ (k : String A). is_eq (uri_cmp text (string_bytes k))) keys e in
      (w.0, w.1, same_is text (string_bytes w.0) w.2)

  -- The keys are those of one alone.
  abbrev pub AreAlone : List (String A) → List (String A) → List (String A) → Type 0
  AreAlone one other keys = (q : String A) → has keys (string_bytes q) ≡ cond (has one (string_bytes q)) (not (has other (string_bytes q))) (has other (string_bytes q))

  module _ (one other keys : List (String A)) (alone : AreAlone one other keys) where
    alone-at : (text : List ℕ) → has one text ≡ not (has other text) → has keys text ≡ true
    alone-at text apart = by (has one text) (has other text) refl refl apart
      where
        there : (k : String A) → text ≡ string_bytes k → has keys text ≡ cond (has one text) (not (has other text)) (has other text)
        there k e = subst (λ (t : List ℕ). has keys t ≡ cond (has one t) (not (has other t)) (has other t)) (sym e) (alone k)

        by : (a b : Bool) → has one text ≡ a → has other text ≡ b → has one text ≡ not (has other text) → has keys text ≡ true
        by true b first second e =
            let w = has-key one text first in
            there w.0 w.2 ∙ (ap (λ (x : Bool). cond x (not (has other text)) (has other text)) first ∙ (sym e ∙ first))
        by false true first second e =
            let w = has-key other text second in
            there w.0 w.2 ∙ (ap (λ (x : Bool). cond x (not (has other text)) (has other text)) first ∙ second)
        by false false first second e = absurd (false≢true (sym first ∙ (e ∙ ap not second)))

    no-keys : keys ≡ [] → (text : List ℕ) → has one text ≡ has other text
    no-keys none text = by (has one text) (has other text) refl refl
      where
        clash : has one text ≡ not (has other text) → ⊥
        clash e = false≢true (ap (λ (l : List (String A)). has l text) (sym none) ∙ alone-at text e)

        by : (a b : Bool) → has one text ≡ a → has other text ≡ b → has one text ≡ has other text
        by true true first second = first ∙ sym second
        by false false first second = first ∙ sym second
        by true false first second = absurd (clash (first ∙ ap not (sym second)))
        by false true first second = absurd (clash (first ∙ ap not (sym second)))

    tells-apart : (a b : Bool) → cond a (not b) b ≡ true → a ≡ not b
    tells-apart true b e = sym e
    tells-apart false b e = ap not (sym e)

    key-apart : (k : String A) → has keys (string_bytes k) ≡ true → has one (string_bytes k) ≡ not (has other (string_bytes k))
    key-apart k e = tells-apart (has one (string_bytes k)) (has other (string_bytes k)) (sym (alone k) ∙ e)

  behind : (text : List ℕ) (keys : List (String A)) (k : String A) → AllByRecursion (λ (y : String A). uri_cmp text (string_bytes y) ≡ Less) keys → In k keys → uri_cmp text (string_bytes k) ≡ Less
  behind text [] k above at = absurd at
  behind text (y ∷ keys) k above (inl same) = subst (λ (z : String A). uri_cmp text (string_bytes z) ≡ Less) same above.0
  behind text (y ∷ keys) k above (inr at) = behind text keys k above.1 at

  -- The first key is the least text that is in one alone.
  first-least : (x : String A) (rest : List (String A)) → IsStrictlySortedBy string_cmp (x ∷ rest) → (text : List ℕ) → has (x ∷ rest) text ≡ true → is_lt (uri_cmp text (string_bytes x)) ≡ false
  unfolding IsStrictlySortedBy
  first-least x rest up text e = by up.0 (has-key (x ∷ rest) text e)
    where
      by : AllByRecursion (λ (y : String A). uri_cmp (string_bytes x) (string_bytes y) ≡ Less) rest → (k : String A) × In k (x ∷ rest) × (text ≡ string_bytes k) → is_lt (uri_cmp text (string_bytes x)) ≡ false
      by above w = elim w.1 [
        | inl same ↦ not-itself text (string_bytes x) (w.2 ∙ ap string_bytes (sym same))
        | inr later ↦ subst (λ (t : List ℕ). is_lt (uri_cmp t (string_bytes x)) ≡ false) (sym w.2)
            (not-below (string_bytes w.0) (string_bytes x) (behind (string_bytes x) rest w.0 above later))
      ]

  pub first-in-one : (s t : BTreeSet (String A)) (keys : List (String A)) (x : String A) (rest : List (String A)) → AreAlone s.keys t.keys keys → IsStrictlySortedBy string_cmp keys
      → keys ≡ x ∷ rest → IsFirstInOne s t (Some (string_bytes x))
  first-in-one s t keys x rest alone up is = (
    key-apart s.keys t.keys keys alone x (ap (λ (l : List (String A)). has l (string_bytes x)) is ∙ ap (λ (b : Bool). b || has rest (string_bytes x)) (same_self (string_bytes x))),
    λ place apart. first-least x rest (subst (IsStrictlySortedBy string_cmp) is up) place
        (ap (λ (l : List (String A)). has l place) (sym is) ∙ alone-at s.keys t.keys keys alone place apart),
  )

  pub none-in-one : (s t : BTreeSet (String A)) (keys : List (String A)) → AreAlone s.keys t.keys keys → keys ≡ [] → IsFirstInOne s t None
  none-in-one s t keys alone none = no-keys s.keys t.keys keys alone none

  -- The text that is told of it.
  pub some-first : (s t : BTreeSet (String A)) (keys : List (String A)) (x : String A) (rest : List (String A)) (text : List ℕ) → AreAlone s.keys t.keys keys → IsStrictlySortedBy string_cmp keys
      → keys ≡ x ∷ rest → text ≡ string_bytes x → IsFirstInOne s t (Some text)
  some-first s t keys x rest text alone up is same = subst (λ (b : List ℕ). IsFirstInOne s t (Some b)) (sym same) (first-in-one s t keys x rest alone up is)
