-- Workers that did their jobs, and what comes of all of them.
use Rattle.std.proofs.Common.{◌≡◌, ◌<◌, ℕ, zero, suc, List, [], ◌∷◌, Bool, true, false, cond, not, length, map, get_or, Option, Some, None, Result, Err, refl, sym, ap, subst, ◌∙◌, arith}
use Rattle.std.specs.Prelude.{slice_get, All, IfErr, nat_lt, ◌↔◌}
use Rattle.std.proofs.lemmas.Bool.{ltb-true}
use Rattle.std.proofs.lemmas.Option.{same_Some, none-some, slice_get_within, get_or_from_slice_get}
use Rattle.std.proofs.lemmas.List.{length-map}
use Rattle.std.proofs.lemmas.List.Elements.{All-nil, All-cons}
use Rattle.signer_api.specs.State.{SignerState}
use Rattle.signer_ring.specs.Jobs.{asked, jobs_of, AreCutShort, IsForAllStop, first_absent}
use Rattle.signer_ring.specs.declared.fault.RingFault.{RingFault}
use Rattle.signer_ring.specs.declared.fault.RingFault.TheVariants.{NoSuchSigner, SignerFault, Memory}
use Rattle.signer_ring.specs.declared.jobs.SignJob.{SignJob}
use Rattle.signer_ring.specs.declared.jobs.Signed.{Signed}
use Rattle.signer_ring.specs.inner.Working.{Told, HasWorked, AllWorked, AreTold, given, answers_of, IsFirstStop, IsOfTheRing}
use Rattle.signer_ring.proofs.Answered.{first-none, own-none}
use Rattle.signer_ring.proofs.Ringing.{cut-short, failed, AreAll, all-done}

from-map : {X Y : Type 0} (f : X → Y) (xs : List X) (n : ℕ) (y : Y) → slice_get (map f xs) n ≡ Some y
    → (x : X) × (slice_get xs n ≡ Some x) × (f x ≡ y)
from-map f [] n y is = absurd (none-some y is)
from-map f (x ∷ xs) zero y is = (x, refl, same_Some (f x) y is)
from-map f (x ∷ xs) (suc n) y is = from-map f xs n y is

pub all-worked : {W X : Type 0} (signer : W → X) (told_of : W → Told) (state : X → SignerState) (work : List SignJob) (before after : List W)
    → length after ≡ length before
    → ((n : ℕ) (d : W) → n < length before → HasWorked (jobs_of n work) (told_of (get_or after n d)) (state (signer (get_or before n d))) (state (signer (get_or after n d))))
    → AllWorked work (map told_of after) (map state (map signer before)) (map state (map signer after))
all-worked {W} {X} signer told_of state work before after long each = record {
  was = length-map (map signer before) state ∙ (length-map before signer ∙ (sym long ∙ sym (length-map after told_of)));
  is = length-map (map signer after) state ∙ (length-map after signer ∙ sym (length-map after told_of));
  each = λ n t o s told_is was is.
      let w = from-map told_of after n t told_is in
      let x = from-map state (map signer before) n o was in
      let v = from-map signer before n x.0 x.1 in
      let y = from-map state (map signer after) n s is in
      let u = from-map signer after n y.0 y.1 in
      let same : u.0 ≡ w.0 = same_Some u.0 w.0 (sym u.1 ∙ w.1) in
      let did = each n w.0 (slice_get_within before n v.0 v.1) in
      let old_is : state (signer (get_or before n w.0)) ≡ o = ap (λ (z : W). state (signer z)) (get_or_from_slice_get before n v.0 w.0 v.1) ∙ (ap state v.2 ∙ x.2) in
      let new_is : state (signer (get_or after n w.0)) ≡ s = ap (λ (z : W). state (signer z)) (get_or_from_slice_get after n w.0 w.0 w.1 ∙ sym same) ∙ (ap state u.2 ∙ y.2) in
      let told_at : told_of (get_or after n w.0) ≡ t = ap told_of (get_or_from_slice_get after n w.0 w.0 w.1) ∙ w.2 in
      subst (λ (z : Told). HasWorked (jobs_of n work) z o s) told_at
      (subst (λ (z : SignerState). HasWorked (jobs_of n work) (told_of (get_or after n w.0)) z s) old_is
      (subst (λ (z : SignerState). HasWorked (jobs_of n work) (told_of (get_or after n w.0)) (state (signer (get_or before n w.0))) z) new_is did));
}

-- ---- why it stopped

pub nothing-done : (work : List SignJob) (old new : List SignerState) → new ≡ old → AreCutShort work old new
nothing-done work old new same = record { made = []; fronts = λ n. first-none (jobs_of n work); signers = same }

pub stop-of : (work : List SignJob) (told : List Told) (old new : List SignerState) (fault : RingFault) → AllWorked work told old new → IsFirstStop told fault
    → IsForAllStop work old new fault
stop-of work told old new (NoSuchSigner n) all stop = absurd stop
stop-of work told old new (SignerFault n) all stop = failed work told old new all n stop
stop-of work told old new Memory all stop = cut-short work told old new all stop

pub of-the-ring : (told : List Told) (fault : RingFault) → IsFirstStop told fault → IsOfTheRing fault
of-the-ring told (NoSuchSigner n) stop = stop
of-the-ring told (SignerFault n) stop = tt
of-the-ring told Memory stop = tt

-- ---- all of it together

pub told-count : {X : Type 0} (state : X → SignerState) (work : List SignJob) (told : List Told) (before : List X) (new : List SignerState)
    → AllWorked work told (map state before) new → length before ≡ length told
told-count state work told before new all = sym (length-map before state) ∙ all.was

pub signed-all : (work : List SignJob) (told seen : List Told) (old new : List SignerState) (answers : List Signed) (count : ℕ) → seen ≡ told
    → AllWorked work told old new → count ≡ length told → All (λ (job : SignJob). asked job < count) work → AreTold seen → length answers ≡ length work
    → ((n : ℕ) (t : Told) → slice_get seen n ≡ Some t → answers_of n work answers ≡ given t) → AreAll work answers old new
signed-all work told seen old new answers count same all few there are long each =
    all-done work told old new answers all (subst AreTold same are) long
    (λ n past. own-none work count there n (omega (arith, past, few)))
    (subst (λ (l : List Told). (n : ℕ) (t : Told) → slice_get l n ≡ Some t → answers_of n work answers ≡ given t) same each)

-- ---- signers that aren't there

there-first : (count : ℕ) (job : SignJob) (rest : Option ℕ) (b : Bool) → nat_lt (asked job) count ≡ b → cond (not b) (Some (asked job)) rest ≡ None
    → (asked job < count) × (rest ≡ None)
there-first count job rest true is none = (ltb-true (asked job) count is, none)
there-first count job rest false is none = absurd (none-some (asked job) (sym none))

pub all-there : (count : ℕ) (work : List SignJob) → first_absent count work ≡ None → All (λ (job : SignJob). asked job < count) work
all-there count [] none = All-nil (λ (job : SignJob). asked job < count)
all-there count (job ∷ work) none =
    let x = there-first count job (first_absent count work) (nat_lt (asked job) count) refl none in
    All-cons (λ (j : SignJob). asked j < count) job work x.0 (all-there count work x.1)

pub absent-none : {T : Type 0} (r : Result T RingFault) (o : Option ℕ) → o ≡ None → IfErr r IsOfTheRing → (n : ℕ) → (r ≡ Err (NoSuchSigner n)) ↔ (o ≡ Some n)
absent-none {T} r o none there n = (
  λ e. absurd (subst (λ (x : Result T RingFault). IfErr x IsOfTheRing) e there),
  λ e. absurd (none-some n (sym none ∙ e)),
)
