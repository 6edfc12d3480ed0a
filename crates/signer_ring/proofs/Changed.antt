-- What is vouched stays vouched after a call.
use Rattle.std.proofs.Common.{◌≡◌, ◌≢◌, ℕ, List, [], ◌∷◌, Option, Some, None, refl, sym, ap, subst, ◌∙◌, inl, inr, ◌⊎◌}
use Rattle.std.specs.Prelude.{slice_get, slice_set, IfSome}
use Rattle.std.specs.Option.{option_map_or}
use Rattle.std.proofs.lemmas.Bool.{cases_eq}
use Rattle.std.proofs.lemmas.List.Elements.{Contains-append_left}
use Rattle.signer_api.specs.State.{SignerState, Signed, Vouching, TellsBy, VouchesBy, Tells, Vouches, also_vouching}
use Rattle.signer_api.specs.State.Vouching.{NotTold, Listed, Hashed}
use Rattle.signer_ring.specs.Calls.{Call, signer_of, change, after_call, after_calls, IsVouched}
use Rattle.signer_ring.specs.Calls.Call.{Makes, Signs, Once}
use Rattle.items.specs.laws.ElementLaws.{set-same, set-other}

-- ---- what is vouched

tells-back : (one : Signed) (v : Vouching) → TellsBy (also_vouching one v) → TellsBy v
tells-back one NotTold tells = tells
tells-back one (Listed given) tells = tells
tells-back one Hashed tells = tells

pub tells-before : (call : Call) (signer : SignerState) → Tells (change call signer) → Tells signer
tells-before (Makes n key) signer tells = tells
tells-before (Signs n one) signer tells = tells-back one signer.vouching tells
tells-before (Once n one) signer tells = tells-back one signer.vouching tells

vouches-more : (one : Signed) (v : Vouching) (key digest signature : List ℕ) → VouchesBy v key digest signature → VouchesBy (also_vouching one v) key digest signature
vouches-more one NotTold key digest signature vouched = vouched
vouches-more one (Listed given) key digest signature vouched = Contains-append_left given (one ∷ []) _ vouched
vouches-more one Hashed key digest signature vouched = vouched

pub vouches-after : (call : Call) (signer : SignerState) (key digest signature : List ℕ) → Vouches signer key digest signature → Vouches (change call signer) key digest signature
vouches-after (Makes n key) signer k digest signature vouched = vouched
vouches-after (Signs n one) signer k digest signature vouched = vouches-more one signer.vouching k digest signature vouched
vouches-after (Once n one) signer k digest signature vouched = vouches-more one signer.vouching k digest signature vouched

-- A further call leaves it vouched.
kept-one : (ring : List SignerState) (n : ℕ) (one : Signed) (call : Call) (o : Option SignerState) → slice_get ring (signer_of call) ≡ o → IsVouched ring (Signs n one) → IsVouched (option_map_or (λ signer. slice_set ring (signer_of call) (change call signer)) o ring) (Signs n one)
kept-one ring n one call None is vouched = vouched
kept-one ring n one call (Some s) is vouched = by (cases_eq n (signer_of call))
  where
    by : (n ≡ signer_of call) ⊎ (n ≢ signer_of call) → IsVouched (slice_set ring (signer_of call) (change call s)) (Signs n one)
    by (inl e) =
        let here : slice_get ring n ≡ Some s = ap (slice_get ring) e ∙ is in
        let before = subst (λ (o : Option SignerState). IfSome o (λ now. Tells now → Vouches now one.key one.digest one.signature)) here vouched in
        let there : slice_get (slice_set ring (signer_of call) (change call s)) n ≡ Some (change call s) =
        ap (λ (m : ℕ). slice_get (slice_set ring (signer_of call) (change call s)) m) e ∙ set-same ring (signer_of call) s (change call s) is in
        subst (λ (o : Option SignerState). IfSome o (λ now. Tells now → Vouches now one.key one.digest one.signature)) (sym there)
        (λ tells. vouches-after call s one.key one.digest one.signature (before (tells-before call s tells)))
    by (inr apart) =
        subst (λ (o : Option SignerState). IfSome o (λ now. Tells now → Vouches now one.key one.digest one.signature))
        (sym (set-other ring n (signer_of call) (change call s) apart)) vouched

kept : (ring : List SignerState) (call further : Call) → IsVouched ring call → IsVouched (after_call ring further) call
kept ring (Makes n key) further vouched = tt
kept ring (Signs n one) further vouched = kept-one ring n one further (slice_get ring (signer_of further)) refl vouched
kept ring (Once n one) further vouched = kept-one ring n one further (slice_get ring (signer_of further)) refl vouched

pub stays : (ring : List SignerState) (call : Call) (calls : List Call) → IsVouched ring call → IsVouched (after_calls ring calls) call
stays ring call [] vouched = vouched
stays ring call (further ∷ calls) vouched = stays (after_call ring further) call calls (kept ring call further vouched)
