-- Vouching as a function and as a relation.
use Rattle.std.proofs.Common.{◌≡◌, ℕ, ◌<◌, List, [], ◌∷◌, Bool, true, false, true≢false, length, get_or, Ok, refl, sym, ap, subst, ◌∙◌}
use Rattle.std.specs.Prelude.{◌&&◌, IsTrue, ◌↔◌, Any, All, Contains, MatchBool}
use Rattle.std.specs.List.{list_any}
use Rattle.std.specs.Str.{bytes_eq}
use Rattle.std.proofs.lemmas.Bool.{and_parts, and_from, false_from_ne_true}
use Rattle.std.proofs.lemmas.Slice.Eq.{bytes_eq-Decides}
use Rattle.std.proofs.lemmas.List.Folds.{Any-from_list_any, list_any-from_Any}
use Rattle.signer_api.specs.Hashed.{hashed_signature}
use Rattle.signer_api.specs.State.{SignerState, Signed, Vouching, TellsBy, VouchesBy, Tells, Vouches}
use Rattle.signer_api.specs.State.Vouching.{NotTold, Listed, Hashed}
use Rattle.signer_ring.specs.Ring.{AllTell, Vouched, Keeps}
use Rattle.rp_rules.specs.Checks.{Checked}
use Rattle.rp_rules.specs.Certificates.{VouchesMore}
use Rattle.rp_audit.specs.Vouching.{is_signed, vouched_by, vouched_in}
use Rattle.rp_audit.specs.inner.Told.{IsAnswer}

abbrev signed_as : List ℕ → List ℕ → List ℕ → Signed
signed_as k d s = record { key = k; digest = d; signature = s }

same_signed : (a b c k d s : List ℕ) → a ≡ k → b ≡ d → c ≡ s → signed_as a b c ≡ signed_as k d s
same_signed a b c k d s e f g = cc

listed_true : (given : List Signed) (k d s : List ℕ) → Contains given (signed_as k d s) → list_any (is_signed k d s) given ≡ true
listed_true given k d s has =
    let self : is_signed k d s (signed_as k d s) ≡ true =
    and_from _ _ (and_from _ _ ((bytes_eq-Decides k k).1 refl) ((bytes_eq-Decides d d).1 refl)) ((bytes_eq-Decides s s).1 refl) in
    list_any-from_Any (is_signed k d s) given (has.0, signed_as k d s, has.1, has.2, self)

listed_from : (given : List Signed) (k d s : List ℕ) → list_any (is_signed k d s) given ≡ true → Contains given (signed_as k d s)
listed_from given k d s e =
    let some = Any-from_list_any (is_signed k d s) given e in
    let x : Signed = some.1 in
    let both = and_parts (bytes_eq x.key k && bytes_eq x.digest d) (bytes_eq x.signature s) some.4 in
    let first = and_parts (bytes_eq x.key k) (bytes_eq x.digest d) both.0 in
    let same : x ≡ signed_as k d s =
    same_signed x.key x.digest x.signature k d s ((bytes_eq-Decides x.key k).0 first.0) ((bytes_eq-Decides x.digest d).0 first.1) ((bytes_eq-Decides x.signature s).0 both.1) in
    (some.0, some.2, subst (λ (y : Signed). get_or given some.0 y ≡ y) same some.3)

by_true : (v : Vouching) (k d s : List ℕ) → (TellsBy v → VouchesBy v k d s) → vouched_by v k d s ≡ true
by_true NotTold k d s says = refl
by_true (Listed given) k d s says = listed_true given k d s (says tt)
by_true Hashed k d s says = (bytes_eq-Decides s (hashed_signature k d)).1 (says tt)

by_from : (v : Vouching) (k d s : List ℕ) → TellsBy v → vouched_by v k d s ≡ true → VouchesBy v k d s
by_from NotTold k d s tells e = tells
by_from (Listed given) k d s tells e = listed_from given k d s e
by_from Hashed k d s tells e = (bytes_eq-Decides s (hashed_signature k d)).0 e

ring_true : (signers : List SignerState) (k d s : List ℕ) → Any (λ at. Tells at → Vouches at k d s) signers → vouched_in signers k d s ≡ true
ring_true signers k d s some =
    list_any-from_Any (λ (signer : SignerState). vouched_by signer.vouching k d s) signers
    (some.0, some.1, some.2, some.3, by_true some.1.vouching k d s some.4)

pub vouched_from : (signers : List SignerState) (k d s : List ℕ) → AllTell signers → vouched_in signers k d s ≡ true → Vouched signers k d s
vouched_from signers k d s all e =
    let some = Any-from_list_any (λ (signer : SignerState). vouched_by signer.vouching k d s) signers e in
    (some.0, some.1, some.2, some.3, by_from some.1.vouching k d s (subst Tells some.3 (all some.0 some.1 some.2)) some.4)

pub vouched_true : (signers : List SignerState) (k d s : List ℕ) → Vouched signers k d s → vouched_in signers k d s ≡ true
vouched_true signers k d s v = ring_true signers k d s (v.0, v.1, v.2, v.3, λ tells. v.4)

pub vouched_more : (old new : List SignerState) → AllTell old → Keeps old new → VouchesMore (vouched_in old) (vouched_in new)
vouched_more old new all keeps k d s e = vouched_true new k d s (keeps.vouched k d s (vouched_from old k d s all e))

-- What a ring answers.
pub ring_answers : (old new : List SignerState) (k d s : List ℕ) (yea : Bool) → new ≡ old → (AllTell old → IsTrue yea ↔ Vouched new k d s)
    → MatchBool yea (Any (λ at. Tells at → Vouches at k d s) old) (All (λ at. ¬ (Vouches at k d s)) old) → IsAnswer old yea (Ok (vouched_in old k d s))
ring_answers old new k d s true same all some =
    let f : Bool → Checked Bool = λ b. Ok b in
    record { some = λ _. ap f (ring_true old k d s some); all = λ _. ap f (ring_true old k d s some) }
ring_answers old new k d s false same all some =
    let f : Bool → Checked Bool = λ b. Ok b in
    let nay : (AllTell old → vouched_in old k d s ≡ true → ⊥) = λ tell e.
    true≢false (sym ((all tell).1 (subst (λ (x : List SignerState). Vouched x k d s) (sym same) (vouched_from old k d s tell e)))) in
    record { some = λ e. absurd (true≢false (sym e)); all = λ tell. ap f (false_from_ne_true (vouched_in old k d s) (nay tell)) }
