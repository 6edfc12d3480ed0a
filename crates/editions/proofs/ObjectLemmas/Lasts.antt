-- The last of some editions, and editions with one more behind them.
use Rattle.std.proofs.Common.{◌≡◌, ℕ, suc, zero, ◌+◌, ◌<◌, ◌≤◌, true, Some, List, [], ◌∷◌, ◌++◌, length, take, refl, sym, ap, subst, ◌∙◌, arith, ◌⊎◌, inl, inr, length-append}
use Rattle.std.specs.List.{slice_get}
use Rattle.std.proofs.lemmas.Bool.{cases_lt}
use Rattle.std.proofs.lemmas.List.{take_all, take_at, take-append-le}
use Rattle.cert_obj.specs.Values.{SignedCert}
use Rattle.editions.specs.Edition.{Edition, set_after, is_live_in, IsInLife}
use Rattle.editions.specs.Held.{IsHeld, Holds}
use Rattle.editions.proofs.ObjectLemmas.History.{seam, there-is}

pub record HasLast (editions : List Edition) : Type 0 where
  pub position : ℕ
  pub next : length editions ≡ position + 1
  pub edition : Edition
  pub there : slice_get editions position ≡ Some edition
  pub whole : take (position + 1) editions ≡ editions

pub last-of : (editions : List Edition) → (editions ≡ []) ⊎ HasLast editions
last-of [] = inl refl
last-of (first ∷ editions) =
    let n : ℕ = length editions in
    let there = there-is (first ∷ editions) n (omega arith) in
    inr (record {
      position = n;
      next = omega arith;
      edition = there.0;
      there = there.1;
      whole = take_all (n + 1) (first ∷ editions) (omega arith);
    })

pub get-append : (xs ys : List Edition) (k : ℕ) → k < length xs
    → slice_get (xs ++ ys) k ≡ slice_get xs k
get-append [] ys k within = absurd (omega (arith, within))
get-append (x ∷ xs) ys zero within = refl
get-append (x ∷ xs) ys (suc k) within = get-append xs ys k (omega (arith, within))

module _ (editions : List Edition) (edition : Edition) where
  abbrev pub more : List Edition
  more = editions ++ edition ∷ []

  abbrev pub count : ℕ
  count = length editions

  pub more-count : length more ≡ count + 1
  more-count = length-append editions (edition ∷ [])

  pub take-count : take count more ≡ editions
  take-count = take_at editions (edition ∷ []) count refl

  take-all : take (count + 1) more ≡ more
  take-all = let e = more-count in take_all (count + 1) more (omega (arith, e))

  pub get-last : slice_get more count ≡ Some edition
  get-last = seam editions edition

  pub take-less : (k : ℕ) → k < count → take (k + 1) more ≡ take (k + 1) editions
  take-less k within = take-append-le (k + 1) editions (edition ∷ []) (omega (arith, within))

  module _ (id : List ℕ) where
    pub holds-now : (c : SignedCert) → Holds more count id c → IsHeld (set_after more) id c
    holds-now c held = subst (λ (l : List Edition). IsHeld (set_after l) id c) take-all held

    pub holds-then : (c : SignedCert) → IsHeld (set_after more) id c → Holds more count id c
    holds-then c held = subst (λ (l : List Edition). IsHeld (set_after l) id c) (sym take-all) held

    pub holds-more : (k : ℕ) (c : SignedCert) → k < count → Holds editions k id c → Holds more k id c
    holds-more k c within held =
        subst (λ (l : List Edition). IsHeld (set_after l) id c) (sym (take-less k within)) held

    pub holds-less : (k : ℕ) (c : SignedCert) → k < count → Holds more k id c → Holds editions k id c
    holds-less k c within held =
        subst (λ (l : List Edition). IsHeld (set_after l) id c) (take-less k within) held

    -- The life of a key that is live in the last edition goes on.
    pub life-on : (from last : ℕ) → count ≡ last + 1 → IsInLife id editions from last
        → is_live_in id edition ≡ true → IsInLife id more from count
    life-on from last next life live =
        let ordered = life.ordered in
        let e = more-count in
        record {
          ordered = omega (arith, ordered, next);
          within = omega (arith, e);
          unbroken = λ position x least most there.
              elim (cases_lt position count) [
                | inl inside ↦ life.unbroken position x least (omega (arith, inside, next))
                    (sym (get-append editions (edition ∷ []) position inside) ∙ there)
                | inr past ↦
                    let here : position ≡ count = omega (arith, most, past) in
                    subst (λ (e : Edition). is_live_in id e ≡ true)
                    (same-one edition x
                    (sym get-last ∙ (ap (slice_get more) (sym here) ∙ there))) live
              ];
        }
      where
        same-one : (one other : Edition) → Some one ≡ Some other → one ≡ other
        same-one one other e = cc

    -- It was so before.
    pub life-before : (from to last : ℕ) → count ≡ last + 1 → from ≤ last
        → IsInLife id more from to → last ≤ to → IsInLife id editions from last
    life-before from to last next least life most = record {
      ordered = least;
      within = omega (arith, next);
      unbroken = λ position x low high there.
          life.unbroken position x low (omega (arith, high, most))
          (get-append editions (edition ∷ []) position (omega (arith, high, next)) ∙ there);
    }
