-- Sessions as they take their seats, and as they rise, one after another.
use Rattle.std.proofs.Common.{◌≡◌, ℕ, zero, suc, ◌+◌, ◌<◌, ◌≤◌, List, [], ◌∷◌, ◌++◌, length, take, drop, get_or, reverse, append_assoc, append-nil, refl, sym, ap, ◌∙◌, subst, arith}
use Rattle.std.proofs.lemmas.List.{reverse-append, length_push, length-take, same_from_push, take_more}
use Rattle.manager.specs.Passes.{PassValue}
use Rattle.session_lines.specs.declared.running.SessionEnds.{SessionEnds}
use Rattle.session_lines.specs.declared.running.SessionOutcome.{SessionOutcome}
use Rattle.session_lines.specs.declared.serving.ServedSession.{ServedSession}
use Rattle.session_lines.specs.inner.Seats.{IsSeated, AreSeated, AreServed, IsRisen, AreRisen}

-- ---- the last of a list

-- what is popped off the front of a list is the next of it
pub popped : {X : Type 0} (all old new : List X) (one : X) → old ≡ take (length old) all → old ≡ new ++ one ∷ []
    → (new ≡ take (length new) all) × ((d : X) → one ≡ get_or all (length new) d) × (length new < length all) × (length old ≡ length new + 1)
popped {X = X} all old new one front items =
    let n = length new in
    let long : length old ≡ n + 1 = ap length items ∙ length_push new one in
    let short : length old ≤ length all = omega (arith, ap length front ∙ length-take (length old) all) in
    let within : n < length all = omega (arith, long, short) in
    let last : (d : X) → (new ≡ take n all) × (one ≡ get_or all n d) = λ d. same_from_push new (take n all) one (get_or all n d)
    (sym items ∙ (front ∙ (ap (λ (k : ℕ). take k all) long ∙ take_more all n d within))) in
    ((last one).0, λ d. (last d).1, within, long)

seated_none_at : (N D O : Type 0) {S K C : Type 0} (passes : List PassValue) (sessions : List (SessionEnds S K C)) → length passes ≡ length sessions
    → AreSeated {N = N} {D = D} {O = O} (drop (length sessions) passes) (drop (length sessions) sessions) []
seated_none_at N D O [] [] same = tt
seated_none_at N D O [] (ends ∷ sessions) same = absurd (omega (arith, same))
seated_none_at N D O (pass ∷ passes) [] same = absurd (omega (arith, same))
seated_none_at N D O (pass ∷ passes) (ends ∷ sessions) same = seated_none_at N D O passes sessions (omega (arith, same))

module _ {N D O S K C : Type 0} where
  -- ---- seats

  pub seated_none : (passes : List PassValue) (sessions : List (SessionEnds S K C)) (seats : List (ServedSession N D O S K C)) → seats ≡ [] → length passes ≡ length sessions
      → AreSeated (drop (length sessions) passes) (drop (length sessions) sessions) (reverse seats)
  seated_none passes sessions seats none same =
      subst (λ (l : List (ServedSession N D O S K C)). AreSeated (drop (length sessions) passes) (drop (length sessions) sessions) (reverse l)) (sym none)
      (seated_none_at N D O passes sessions same)

  seated_front : (passes : List PassValue) (sessions : List (SessionEnds S K C)) (k : ℕ) (pass : PassValue) (ends : SessionEnds S K C) (seat : ServedSession N D O S K C) (seats : List (ServedSession N D O S K C))
      → pass ≡ get_or passes k pass → ends ≡ get_or sessions k ends → k < length passes → k < length sessions → IsSeated pass ends seat
      → AreSeated (drop (suc k) passes) (drop (suc k) sessions) seats → AreSeated (drop k passes) (drop k sessions) (seat ∷ seats)
  seated_front [] sessions k pass ends seat seats first second within inside is rest = absurd (omega (arith, within))
  seated_front (p ∷ passes) [] k pass ends seat seats first second within inside is rest = absurd (omega (arith, inside))
  seated_front (p ∷ passes) (e ∷ sessions) zero pass ends seat seats first second within inside is rest =
      (subst (λ (v : PassValue). IsSeated v e seat) first (subst (λ (v : SessionEnds S K C). IsSeated pass v seat) second is), rest)
  seated_front (p ∷ passes) (e ∷ sessions) (suc k) pass ends seat seats first second within inside is rest =
      seated_front passes sessions k pass ends seat seats first second (omega (arith, within)) (omega (arith, inside)) is rest

  -- the last pass and the last ends that are left
  pub seated_popped : (passes left fewer : List PassValue) (sessions still rest : List (SessionEnds S K C)) (pass : PassValue) (ends : SessionEnds S K C) (seat : ServedSession N D O S K C) (seats : List (ServedSession N D O S K C))
      → left ≡ take (length left) passes → left ≡ fewer ++ pass ∷ [] → still ≡ take (length still) sessions → still ≡ rest ++ ends ∷ [] → length left ≡ length still
      → AreSeated (drop (length still) passes) (drop (length still) sessions) (reverse seats) → IsSeated pass ends seat
      → AreSeated (drop (length rest) passes) (drop (length rest) sessions) (reverse (seats ++ seat ∷ []))
  seated_popped passes left fewer sessions still rest pass ends seat seats front items ahead things same are is =
      let one = popped passes left fewer pass front items in
      let two = popped sessions still rest ends ahead things in
      let as_many : length fewer ≡ length rest = let a = one.3 in let b = two.3 in omega (arith, a, b, same) in
      let long : length still ≡ suc (length rest) = let b = two.3 in omega (arith, b) in
      subst (λ (l : List (ServedSession N D O S K C)). AreSeated (drop (length rest) passes) (drop (length rest) sessions) l) (sym (reverse-append seats (seat ∷ [])))
      (seated_front passes sessions (length rest) pass ends seat (reverse seats)
      (subst (λ (n : ℕ). pass ≡ get_or passes n pass) as_many (one.1 pass)) (two.1 ends) (subst (λ (n : ℕ). n < length passes) as_many one.2) two.2 is
      (subst (λ (n : ℕ). AreSeated (drop n passes) (drop n sessions) (reverse seats)) long are))

  -- ---- and up again

  pub risen_push : (seats : List (ServedSession N D O S K C)) (passes : List PassValue) (sessions : List (SessionEnds S K C)) (outcomes : List (SessionOutcome D O))
      (seat : ServedSession N D O S K C) (pass : PassValue) (ends : SessionEnds S K C) (outcome : SessionOutcome D O)
      → AreRisen seats passes sessions outcomes → IsRisen seat pass ends outcome → AreRisen (seats ++ seat ∷ []) (passes ++ pass ∷ []) (sessions ++ ends ∷ []) (outcomes ++ outcome ∷ [])
  risen_push [] [] [] [] seat pass ends outcome are is = (is, tt)
  risen_push [] [] [] (o ∷ outcomes) seat pass ends outcome are is = absurd are
  risen_push [] [] (e ∷ sessions) outcomes seat pass ends outcome are is = absurd are
  risen_push [] (p ∷ passes) sessions outcomes seat pass ends outcome are is = absurd are
  risen_push (s ∷ seats) [] sessions outcomes seat pass ends outcome are is = absurd are
  risen_push (s ∷ seats) (p ∷ passes) [] outcomes seat pass ends outcome are is = absurd are
  risen_push (s ∷ seats) (p ∷ passes) (e ∷ sessions) [] seat pass ends outcome are is = absurd are
  risen_push (s ∷ seats) (p ∷ passes) (e ∷ sessions) (o ∷ outcomes) seat pass ends outcome are is = (are.0, risen_push seats passes sessions outcomes seat pass ends outcome are.1 is)

-- those that rose, and those that are still seated
pub record RisenSoFar {N D O S K C : Type 0} (all left : List (ServedSession N D O S K C)) (passes : List PassValue) (sessions : List (SessionEnds S K C)) (outcomes : List (SessionOutcome D O)) : Type 0 where
  pub back : List (ServedSession N D O S K C)
  pub are : back ++ left ≡ all
  pub risen : AreRisen back passes sessions outcomes

module _ {N D O S K C : Type 0} where
  risen_none : (all : List (ServedSession N D O S K C)) → RisenSoFar all all [] [] []
  risen_none all = record { back = []; are = refl; risen = tt }

  pub risen_start : (all : List (ServedSession N D O S K C)) (passes : List PassValue) (sessions : List (SessionEnds S K C)) (outcomes : List (SessionOutcome D O)) → passes ≡ [] → sessions ≡ [] → outcomes ≡ []
      → RisenSoFar all all passes sessions outcomes
  risen_start all passes sessions outcomes first second third =
      subst (λ (p : List PassValue). RisenSoFar all all p sessions outcomes) (sym first)
      (subst (λ (s : List (SessionEnds S K C)). RisenSoFar all all [] s outcomes) (sym second)
      (subst (λ (o : List (SessionOutcome D O)). RisenSoFar all all [] [] o) (sym third) (risen_none all)))

  risen_more : (all : List (ServedSession N D O S K C)) (old new : List (ServedSession N D O S K C)) (passes : List PassValue) (sessions : List (SessionEnds S K C)) (outcomes : List (SessionOutcome D O))
      (seat : ServedSession N D O S K C) (pass : PassValue) (ends : SessionEnds S K C) (outcome : SessionOutcome D O)
      → old ≡ new ++ seat ∷ [] → RisenSoFar all (reverse old) passes sessions outcomes → IsRisen seat pass ends outcome
      → RisenSoFar all (reverse new) (passes ++ pass ∷ []) (sessions ++ ends ∷ []) (outcomes ++ outcome ∷ [])
  risen_more all old new passes sessions outcomes seat pass ends outcome items so is = record {
    back = so.back ++ seat ∷ [];
    are = append_assoc so.back (seat ∷ []) (reverse new) ∙ (ap (λ (l : List (ServedSession N D O S K C)). so.back ++ l) (sym (ap reverse items ∙ reverse-append new (seat ∷ []))) ∙ so.are);
    risen = risen_push so.back passes sessions outcomes seat pass ends outcome so.risen is;
  }

  pub risen_more_as : (all : List (ServedSession N D O S K C)) (old new : List (ServedSession N D O S K C)) (passes more : List PassValue) (sessions others : List (SessionEnds S K C)) (outcomes those : List (SessionOutcome D O))
      (seat : ServedSession N D O S K C) (pass : PassValue) (ends : SessionEnds S K C) (outcome : SessionOutcome D O)
      → old ≡ new ++ seat ∷ [] → more ≡ passes ++ pass ∷ [] → others ≡ sessions ++ ends ∷ [] → those ≡ outcomes ++ outcome ∷ []
      → RisenSoFar all (reverse old) passes sessions outcomes → IsRisen seat pass ends outcome → RisenSoFar all (reverse new) more others those
  risen_more_as all old new passes more sessions others outcomes those seat pass ends outcome items first second third so is =
      subst (λ (p : List PassValue). RisenSoFar all (reverse new) p others those) (sym first)
      (subst (λ (s : List (SessionEnds S K C)). RisenSoFar all (reverse new) (passes ++ pass ∷ []) s those) (sym second)
      (subst (λ (o : List (SessionOutcome D O)). RisenSoFar all (reverse new) (passes ++ pass ∷ []) (sessions ++ ends ∷ []) o) (sym third)
      (risen_more all old new passes sessions outcomes seat pass ends outcome items so is)))

  pub risen_all : (all : List (ServedSession N D O S K C)) (left : List (ServedSession N D O S K C)) (passes : List PassValue) (sessions : List (SessionEnds S K C)) (outcomes : List (SessionOutcome D O))
      → left ≡ [] → RisenSoFar all (reverse left) passes sessions outcomes → AreRisen all passes sessions outcomes
  risen_all all left passes sessions outcomes none so =
      let whole : so.back ≡ all = sym (append-nil so.back) ∙ (ap (λ (l : List (ServedSession N D O S K C)). so.back ++ reverse l) (sym none) ∙ so.are) in
      subst (λ (l : List (ServedSession N D O S K C)). AreRisen l passes sessions outcomes) whole so.risen
