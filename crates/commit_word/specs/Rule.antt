-- The rule of the count word, which holds between any two steps.
use Rattle.std.specs.Prelude.{◌≡◌, ℕ, ◌<◌, ◌≤◌, List, [], ◌∷◌, true, length}
use mathlib.Core.Option.{some}
use mathlib.Core.List.{IsPrefix}
use lib.ListN.{get_elem?}
use Rattle.commit_word.specs.declared.views.View.{View}
use Rattle.commit_word.specs.Entries.{Has, Rises, IsPast, StandsIn, with_coming}

-- what the owner has seen, and the entry that it has set aside
abbrev pub laid_out : View → List (List ℕ)
laid_out owner = with_coming owner.seen owner.coming

-- The view v of one seat. One seat alone is the owner. What a seat has seen, or was told of when it
-- took in another, is a prefix of what the owner has seen. What it made rises by place and stands in
-- the owner's list, past the recovered entries, or is the entry set aside, at the place that comes next
pub record Fits (recovered : ℕ) (owner : View) (by : ℕ) (v : View) : Type 0 where
  pub alone : v.owns ≡ true → by ≡ 0
  pub seen : IsPrefix v.seen owner.seen
  pub told : IsPrefix v.told owner.seen
  pub low : v.recovered ≤ recovered
  pub known : v.recovered ≤ length v.seen
  pub rises : Rises v.mine
  pub past : IsPast recovered v.mine
  pub stands : StandsIn (laid_out owner) v.mine

-- no place stands in what two seats made
abbrev pub AreApart : List View → Type 0
AreApart views =
    (i j : ℕ) (v w : View) (place : ℕ) (one other : List ℕ)
    → get_elem? views i ≡ some v → get_elem? views j ≡ some w
    → Has v.mine place one → Has w.mine place other → i ≡ j

-- some seat made the entry at this place
abbrev pub IsMade : List View → ℕ → Type 0
IsMade views place =
    (by : ℕ) × (v : View) × (entry : List ℕ)
    × (get_elem? views by ≡ some v) × Has v.mine place entry

-- The word is the length of what the owner has seen, which begins with the recovered list. No place
-- stands in what two seats made. From the recovered count on each place below the word, and that of
-- the entry set aside, stands in what some seat made
pub record KeepsWordRuleBy
    (recovered : List (List ℕ)) (words : List ℕ) (views : List View) (owner : View) : Type 0 where
  pub at : get_elem? views 0 ≡ some owner
  pub owns : owner.owns ≡ true
  pub word : words ≡ length owner.seen ∷ []
  pub begins : IsPrefix recovered owner.seen
  pub seats :
      (by : ℕ) (v : View) → get_elem? views by ≡ some v → Fits (length recovered) owner by v
  pub apart : AreApart views
  pub covered :
      (place : ℕ) → length recovered ≤ place → place < length (laid_out owner) → IsMade views place

-- the rule, of the words of the table and of the views of all seats
abbrev pub KeepsWordRule : List (List ℕ) → List ℕ → List View → Type 0
KeepsWordRule recovered words views = (owner : View) × KeepsWordRuleBy recovered words views owner
