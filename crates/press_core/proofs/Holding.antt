-- Signers keep their keys, whatever calls they made and faults they counted.
use Rattle.std.proofs.Common.{◌≡◌, ◌≢◌, ℕ, List, [], ◌∷◌, ◌++◌, Option, Some, None, option_map, refl, sym, ap, subst, ◌∙◌, inl, inr, ◌⊎◌}
use Rattle.std.specs.Prelude.{slice_get, slice_set}
use Rattle.std.specs.Option.{option_map_or}
use Rattle.std.proofs.lemmas.Bool.{cases_eq}
use Rattle.std.proofs.lemmas.Option.{same_Some}
use Rattle.std.proofs.lemmas.List.Elements.{Contains-append_left}
use Rattle.signer_api.specs.State.{SignerState, CountsFault}
use Rattle.signer_ring.specs.Calls.{Call, signer_of, change, after_call, after_calls}
use Rattle.signer_ring.specs.Calls.Call.{Makes, Signs, Once}
use Rattle.signer_ring.specs.Jobs.{MayCount, CountFaults}
use Rattle.press_core.specs.Signers.{IsAmong, HoldKeys}
use Rattle.items.specs.laws.ElementLaws.{set-same, set-other}

-- ---- one signer

-- What a signer comes to holds what it held.
abbrev HoldsOn : SignerState → SignerState → Type 0
HoldsOn before after = (key : List ℕ) → IsAmong before.keys key → IsAmong after.keys key

among-more : (told : Option (List (List ℕ))) (one key : List ℕ) → IsAmong told key → IsAmong (option_map (λ keys. keys ++ one ∷ []) told) key
among-more None one key held = held
among-more (Some keys) one key held = Contains-append_left keys (one ∷ []) key held

call-holds : (call : Call) (signer : SignerState) → HoldsOn signer (change call signer)
call-holds (Makes n one) signer key held = among-more signer.keys one key held
call-holds (Signs n one) signer key held = held
call-holds (Once n one) signer key held = held

fault-holds : (old new : SignerState) → CountsFault old new → HoldsOn old new
fault-holds old new counted key held = subst (λ (s : SignerState). IsAmong s.keys key) (sym counted.others) held

-- ---- all of them

pub hold-same : (ring : List SignerState) → HoldKeys ring ring
hold-same ring number before key there held = (before, there, held)

pub hold-further : (old between new : List SignerState) → HoldKeys old between → HoldKeys between new → HoldKeys old new
hold-further old between new first second number before key there held =
    let then_ = first number before key there held in
    second number then_.0 key then_.1 then_.2

hold-set : (ring : List SignerState) (n : ℕ) (was after : SignerState) → slice_get ring n ≡ Some was → HoldsOn was after → HoldKeys ring (slice_set ring n after)
hold-set ring n was after is holds number before key there held = by (cases_eq number n)
  where
    by : (number ≡ n) ⊎ (number ≢ n) → (now : SignerState) × (slice_get (slice_set ring n after) number ≡ Some now) × IsAmong now.keys key
    by (inl e) =
        let same : before ≡ was = same_Some before was (sym there ∙ (ap (slice_get ring) e ∙ is)) in
        (after, ap (λ (m : ℕ). slice_get (slice_set ring n after) m) e ∙ set-same ring n was after is, holds key (subst (λ (s : SignerState). IsAmong s.keys key) same held))
    by (inr apart) = (before, set-other ring number n after apart ∙ there, held)

hold-call : (ring : List SignerState) (call : Call) (o : Option SignerState) → slice_get ring (signer_of call) ≡ o → HoldKeys ring (option_map_or (λ signer. slice_set ring (signer_of call) (change call signer)) o ring)
hold-call ring call None is = hold-same ring
hold-call ring call (Some signer) is = hold-set ring (signer_of call) signer (change call signer) is (call-holds call signer)

pub hold-calls : (ring : List SignerState) (calls : List Call) → HoldKeys ring (after_calls ring calls)
hold-calls ring [] = hold-same ring
hold-calls ring (call ∷ calls) =
    hold-further ring (after_call ring call) (after_calls (after_call ring call) calls)
    (hold-call ring call (slice_get ring (signer_of call)) refl) (hold-calls (after_call ring call) calls)

may-hold : (before : SignerState) (was is : Option SignerState) (key : List ℕ) → was ≡ Some before → MayCount was is → IsAmong before.keys key
    → (now : SignerState) × (is ≡ Some now) × IsAmong now.keys key
may-hold before None is key there may held = absurd cc
may-hold before (Some s) None key there may held = absurd may
may-hold before (Some s) (Some t) key there (inl e) held =
    (t, refl, subst (λ (x : SignerState). IsAmong x.keys key) (same_Some before s (sym there) ∙ sym e) held)
may-hold before (Some s) (Some t) key there (inr counted) held =
    (t, refl, fault-holds s t counted key (subst (λ (x : SignerState). IsAmong x.keys key) (same_Some before s (sym there)) held))

pub hold-fault : (signer : ℕ) (old new : List SignerState) → CountFaults signer old new → HoldKeys old new
hold-fault signer old new faults number before key there held =
    may-hold before (slice_get old number) (slice_get new number) key there (faults.others number) held
