-- What is superseded in an edition is told by the editions up to it.
use Rattle.std.proofs.Common.{◌≡◌, ℕ, ◌+◌, ◌≤◌, ◌<◌, zero, suc, refl, sym, subst, ◌∙◌, ap, arith, List, [], ◌∷◌, length, take, inl, inr}
use Rattle.std.specs.List.{slice_get}
use Rattle.std.proofs.lemmas.Bool.{cases_lt}
use Rattle.std.proofs.lemmas.List.{take-take}
use Rattle.cert_obj.specs.Values.{SignedCert}
use Rattle.key_roll.specs.declared.rows.RevokedRow.{RevokedRow}
use Rattle.editions.specs.Edition.{Edition, IsInLife, set_after}
use Rattle.editions.specs.Held.{IsHeld, Holds}
use Rattle.editions.specs.Superseded.{IsCrlOf, IsSuperseded, IsSupersededAt, IsEntryOf, AreSuperseded}

-- One of the first elements is the same when only these are taken.
taken_at : (m : ℕ) (xs : List Edition) (k : ℕ) → k < m →
    slice_get (take m xs) k ≡ slice_get xs k
taken_at zero xs k below = absurd (omega (arith, below))
taken_at (suc m) [] k below = refl
taken_at (suc m) (x ∷ xs) zero below = refl
taken_at (suc m) (x ∷ xs) (suc k) below = taken_at m xs k (omega (arith, below))

module _ (one other : List Edition) (position : ℕ) (within : position < length other)
    (same : take (position + 1) one ≡ take (position + 1) other) where
  same_take : (n : ℕ) → n ≤ position + 1 → take n one ≡ take n other
  same_take n few =
      sym (take-take n (position + 1) one few) ∙ (ap (take n) same ∙ take-take n (position + 1) other few)

  same_get : (k : ℕ) → k ≤ position → slice_get other k ≡ slice_get one k
  same_get k at =
      let below : k < position + 1 = omega (arith, at) in
      sym (taken_at (position + 1) other k below)
      ∙ (ap (λ (taken : List Edition). slice_get taken k) (sym same)
      ∙ taken_at (position + 1) one k below)

  module _ (id : List ℕ) where
    life_then : (from to : ℕ) → to ≤ position → IsInLife id one from to → IsInLife id other from to
    life_then from to at life = record {
      ordered = life.ordered;
      within = omega (arith, at, within);
      unbroken = λ k edition least most there.
          life.unbroken k edition least most
          (sym (same_get k (omega (arith, at, most))) ∙ there);
    }

    held_then : (k : ℕ) (certificate : SignedCert) → k ≤ position → Holds one k id certificate →
        Holds other k id certificate
    held_then k certificate at held =
        subst (λ (taken : List Edition). IsHeld (set_after taken) id certificate)
        (same_take (k + 1) (omega (arith, at))) held

    held_before : (k : ℕ) (certificate : SignedCert) → k ≤ position → Holds other k id certificate →
        Holds one k id certificate
    held_before k certificate at held =
        subst (λ (taken : List Edition). IsHeld (set_after taken) id certificate)
        (sym (same_take (k + 1) (omega (arith, at)))) held

    superseded_then : (certificate : SignedCert) → IsSuperseded one position id certificate →
        IsSuperseded other position id certificate
    superseded_then certificate is =
        let before = is.before in
        record {
          earlier = is.earlier;
          before = is.before;
          life = life_then is.earlier position (omega arith) is.life;
          held = held_then is.earlier certificate (omega (arith, before)) is.held;
          gone = λ held. is.gone (held_before position certificate (omega arith) held);
          previous = is.previous;
          listed = subst (λ (taken : List Edition). IsCrlOf (set_after taken) id is.previous)
              (same_take position (omega arith)) is.listed;
          due = is.due;
          issued = is.issued;
        }

    superseded_at : (certificate : SignedCert) (at : ℕ) →
        IsSupersededAt one position id certificate at → IsSupersededAt other position id certificate at
    superseded_at certificate at is =
        let ordered = is.life.ordered in
        record {
          last = is.last;
          next = is.next;
          life = life_then is.last position (omega arith) is.life;
          held = held_then is.last certificate ordered is.held;
          since = λ k least most held. is.since k least most (held_before k certificate most held);
        }

    -- An edition has superseded the certificate by then, since it isn't held then.
    by_then : (certificate : SignedCert) (at : ℕ) → IsSuperseded one position id certificate →
        IsSupersededAt one position id certificate at → at ≤ position
    by_then certificate at is when =
        let next = when.next in
        let ordered = when.life.ordered in
        elim (cases_lt when.last position) [
          | inl before ↦ omega (arith, next, before)
          | inr from ↦
              let last : when.last ≡ position = omega (arith, ordered, from) in
              absurd (is.gone
              (subst (λ (k : ℕ). Holds one k id certificate) last when.held))
        ]

    entry_then : (entry : RevokedRow) (certificate : SignedCert) →
        IsEntryOf one position id entry certificate → IsEntryOf other position id entry certificate
    entry_then entry certificate is = record {
      superseded = superseded_then certificate is.superseded;
      at = is.at;
      when = superseded_at certificate is.at is.when;
      by = is.by;
      there = same_get is.at (by_then certificate is.at is.superseded is.when) ∙ is.there;
      moment = is.moment;
      serial = is.serial;
      not_after = is.not_after;
    }

module _ (one other : List Edition) (position : ℕ) (in_one : position < length one)
    (in_other : position < length other) (same : take (position + 1) one ≡ take (position + 1) other)
    (id : List ℕ) where
  pub superseded_until : (entries : List RevokedRow) → AreSuperseded one position id entries →
      AreSuperseded other position id entries
  superseded_until entries are = record {
    rising = are.rising;
    each = λ entry inside.
        let is = are.each entry inside in
        (is.0, entry_then one other position in_other same id entry is.0 is.1);
    all = λ certificate is.
        let entry = are.all certificate
        (superseded_then other one position in_one (sym same) id certificate is) in
        (entry.0, entry.1, entry_then one other position in_other same id entry.0 certificate entry.2);
  }
