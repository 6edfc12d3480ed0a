-- Desks that get their words, the last first.
use Rattle.std.proofs.Common.{◌≡◌, ℕ, zero, suc, ◌<◌, List, [], ◌∷◌, ◌++◌, length, map, take, drop, get_or, reverse, refl, sym, ap, ◌∙◌, subst, arith, append_assoc}
use Rattle.std.proofs.lemmas.List.{reverse-append, take-append-drop}
use Rattle.desk_core.specs.View.{View}
use Rattle.desk_core.specs.Counted.{CountedView}
use Rattle.manager.specs.Starting.{IsCounted, AreCounted}
use Rattle.manager.proofs.Seating.{popped}

module _ {D : Type 0} where
  counted_front : (all : List (View D)) (k : ℕ) (desk : View D) (one : CountedView D) (done : List (CountedView D)) → desk ≡ get_or all k desk → k < length all → IsCounted desk one
      → AreCounted (drop (suc k) all) done → AreCounted (drop k all) (one ∷ done)
  counted_front [] k desk one done is within so rest = absurd (omega (arith, within))
  counted_front (x ∷ all) zero desk one done is within so rest = (subst (λ (v : View D). IsCounted v one) is so, rest)
  counted_front (x ∷ all) (suc k) desk one done is within so rest = counted_front all k desk one done is (omega (arith, within)) so rest

  pub counted_none : (all : List (View D)) → AreCounted (drop (length all) all) []
  counted_none [] = tt
  counted_none (x ∷ all) = counted_none all

  -- one desk more
  pub counted_popped : (all old new : List (View D)) (desk : View D) (done : List (CountedView D)) (one : CountedView D) → old ≡ take (length old) all → old ≡ new ++ desk ∷ []
      → AreCounted (drop (length old) all) (reverse done) → IsCounted desk one → AreCounted (drop (length new) all) (reverse (done ++ one ∷ []))
  counted_popped all old new desk done one front items are so =
      let last = popped all old new desk front items in
      let long : length old ≡ suc (length new) = let n = last.3 in omega (arith, n) in
      subst (λ (l : List (CountedView D)). AreCounted (drop (length new) all) l) (sym (reverse-append done (one ∷ [])))
      (counted_front all (length new) desk one (reverse done) (last.1 desk) last.2 so (subst (λ (n : ℕ). AreCounted (drop n all) (reverse done)) long are))

  -- the desks that have words already are those behind
  pub desks_of : (desks : List (View D)) (done : List (CountedView D)) → AreCounted desks done → map (λ counted. counted.desk) done ≡ desks
  desks_of [] [] are = refl
  desks_of [] (one ∷ done) are = absurd are
  desks_of (desk ∷ desks) [] are = absurd are
  desks_of (desk ∷ desks) (one ∷ done) are = λ i. are.0.desk_is i ∷ desks_of desks done are.1 i

  pub given_back : (all old new more back : List (View D)) (desk : View D) (done : List (CountedView D)) → old ≡ take (length old) all → old ≡ new ++ desk ∷ []
      → AreCounted (drop (length old) all) (reverse done) → more ≡ new ++ desk ∷ [] → back ≡ more ++ map (λ counted. counted.desk) (reverse done) → back ≡ all
  given_back all old new more back desk done front items are again is =
      is ∙ (ap (λ (l : List (View D)). l ++ map (λ counted. counted.desk) (reverse done)) (again ∙ (sym items ∙ front))
      ∙ (ap (λ (l : List (View D)). take (length old) all ++ l) (desks_of (drop (length old) all) (reverse done) are) ∙ take-append-drop (length old) all))

  -- ---- given back

  abbrev pub unworded : List (CountedView D) → List (View D)
  unworded done = map (λ counted. counted.desk) (reverse done)

  pub back_popped : (old whole more : List (View D)) (front new : List (CountedView D)) (one : CountedView D) (desk : View D) → front ≡ new ++ one ∷ [] → desk ≡ one.desk → more ≡ old ++ desk ∷ []
      → old ++ unworded front ≡ whole → more ++ unworded new ≡ whole
  back_popped old whole more front new one desk items same pushed is =
      let turned : unworded front ≡ one.desk ∷ unworded new = ap unworded items ∙ ap (λ (l : List (CountedView D)). map (λ counted. counted.desk) l) (reverse-append new (one ∷ [])) in
      ap (λ (l : List (View D)). l ++ unworded new) (pushed ∙ ap (λ (d : View D). old ++ d ∷ []) same)
      ∙ (append_assoc old (one.desk ∷ []) (unworded new) ∙ (ap (λ (l : List (View D)). old ++ l) (sym turned) ∙ is))
