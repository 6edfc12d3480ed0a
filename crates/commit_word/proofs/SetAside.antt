-- What the rule says of the entry that is set aside.
use Rattle.std.proofs.Common.{◌≡◌, ℕ, ◌+◌, ◌<◌, ◌≤◌, List, [], ◌∷◌, ◌++◌, Option, Some, None, length, slice_get, sym, ap, ◌∙◌, subst, arith, length-append}
use Rattle.std.proofs.lemmas.Option.{slice_get_within}
use mathlib.Core.Option.{some}
use lib.ListN.{get_elem?}
use Rattle.commit_word.specs.declared.views.View.{View}
use Rattle.commit_word.specs.Entries.{Has, with_coming}
use Rattle.commit_word.specs.Rule.{KeepsWordRuleBy, IsMade}
use Rattle.commit_word.proofs.Prefixes.{prefix_length, slice_get_end}

-- what stands past what was seen is the entry that comes
coming_at : (seen : List (List ℕ)) (coming : Option (List ℕ)) (place : ℕ) (entry : List ℕ) → slice_get (with_coming seen coming) place ≡ Some entry → length seen ≤ place → (place ≡ length seen) × (coming ≡ Some entry)
coming_at seen None place entry h far = let near = slice_get_within seen place entry h in absurd (omega arith)
coming_at seen (Some e) place entry h far =
    let near = slice_get_within (seen ++ e ∷ []) place entry h in
    let here : place ≡ length seen = omega (arith, length-append seen (e ∷ [])) in
    (here, sym (slice_get_end seen e) ∙ (ap (slice_get (seen ++ e ∷ [])) (sym here) ∙ h))

pub noted : (recovered : List (List ℕ)) (words : List ℕ) (views : List View) (owner : View) → KeepsWordRuleBy recovered words views owner
    → (by : ℕ) (v : View) (place : ℕ) (entry : List ℕ) → get_elem? views by ≡ some v → Has v.mine place entry → length owner.seen ≤ place → (place ≡ length owner.seen) × (owner.coming ≡ Some entry)
noted recovered words views owner k by v place entry at h far = coming_at owner.seen owner.coming place entry ((k.seats by v at).stands place entry h) far

pub made : (recovered : List (List ℕ)) (words : List ℕ) (views : List View) (owner : View) → KeepsWordRuleBy recovered words views owner
    → (entry : List ℕ) → owner.coming ≡ Some entry → (by : ℕ) × (v : View) × (get_elem? views by ≡ some v) × Has v.mine (length owner.seen) entry
made recovered words views owner k entry is =
    let all : with_coming owner.seen owner.coming ≡ owner.seen ++ entry ∷ [] = ap (with_coming owner.seen) is in
    let low = prefix_length recovered owner.seen k.begins in
    let more : length (owner.seen ++ entry ∷ []) ≡ length owner.seen + 1 = length-append owner.seen (entry ∷ []) in
    let m = k.covered (length owner.seen) low (subst (λ l. length owner.seen < length l) (sym all) (omega arith)) in
    let same : Some entry ≡ Some m.2 = sym (slice_get_end owner.seen entry) ∙ (ap (λ l. slice_get l (length owner.seen)) (sym all) ∙ (k.seats m.0 m.1 m.3).stands (length owner.seen) m.2 m.4) in
    (m.0, m.1, m.3, subst (λ e. Has m.1.mine (length owner.seen) e) (sym (cc same)) m.4)

longer_with_coming : (seen : List (List ℕ)) (coming : Option (List ℕ)) → length seen ≤ length (with_coming seen coming)
longer_with_coming seen None = omega arith
longer_with_coming seen (Some e) = omega (arith, length-append seen (e ∷ []))

pub each : (recovered : List (List ℕ)) (words : List ℕ) (views : List View) (owner : View) → KeepsWordRuleBy recovered words views owner
    → (place : ℕ) → length recovered ≤ place → place < length owner.seen → IsMade views place
each recovered words views owner k place past below =
    k.covered place past (omega (arith, below, longer_with_coming owner.seen owner.coming))
