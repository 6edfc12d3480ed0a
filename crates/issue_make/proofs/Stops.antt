-- The fault of one signer, and one list of calls behind another.
use Rattle.std.proofs.Common.{◌≡◌, ◌≢◌, ℕ, List, [], ◌∷◌, ◌++◌, Option, Some, None, refl, sym, ap, subst, ◌∙◌, arith, inl, inr, ◌⊎◌}
use Rattle.std.specs.Prelude.{slice_get}
use Rattle.std.proofs.lemmas.Bool.{cases_eq}
use Rattle.items.specs.laws.ElementLaws.{set-same, set-other}
use Rattle.signer_api.specs.State.{SignerState, CountsFault}
use Rattle.signer_ring.specs.Ring.{ChangesOne}
use Rattle.signer_ring.specs.Calls.{Call, after_call, after_calls}
use Rattle.signer_ring.specs.Jobs.{MayCount, CountFaults}

-- ---- the fault of one signer

may-same : (o : Option SignerState) → MayCount o o
may-same None = refl
may-same (Some s) = inl refl

-- Where one signer alone counted a fault, it is the least.
pub one-counts : (n : ℕ) (old new : List SignerState) → ChangesOne n CountsFault old new → CountFaults n old new
one-counts n old new one = record {
  before = one.before;
  after = one.after;
  was = one.was;
  is = at-own;
  fault = one.changes;
  least = λ m low. at-other m (λ e. absurd (omega (arith, low, e)));
  others = λ m. by m (cases_eq m n);
}
  where
    at-own : slice_get new n ≡ Some one.after
    at-own = ap (λ (l : List SignerState). slice_get l n) one.is ∙ set-same old n one.before one.after one.was

    at-other : (m : ℕ) → m ≢ n → slice_get new m ≡ slice_get old m
    at-other m apart = ap (λ (l : List SignerState). slice_get l m) one.is ∙ set-other old m n one.after apart

    by : (m : ℕ) → (m ≡ n) ⊎ (m ≢ n) → MayCount (slice_get old m) (slice_get new m)
    by m (inl e) =
        let both : MayCount (slice_get old n) (slice_get new n) =
        subst (λ (o : Option SignerState). MayCount o (slice_get new n)) (sym one.was)
        (subst (λ (o : Option SignerState). MayCount (Some one.before) o) (sym at-own) (inr one.changes)) in
        subst (λ (k : ℕ). MayCount (slice_get old k) (slice_get new k)) (sym e) both
    by m (inr apart) = subst (λ (o : Option SignerState). MayCount (slice_get old m) o) (sym (at-other m apart)) (may-same (slice_get old m))

-- ---- one list of calls behind another

pub calls-on : (ring : List SignerState) (xs ys : List Call) → after_calls (after_calls ring xs) ys ≡ after_calls ring (xs ++ ys)
calls-on ring [] ys = refl
calls-on ring (x ∷ xs) ys = calls-on (after_call ring x) xs ys
