-- What signers vouch for, before and after calls that keep it.
use Rattle.std.proofs.Common.{List, ◌++◌, length, subst, refl, ◌∙◌}
use Rattle.std.proofs.Math.Seq.{take-append_seam, drop-append_seam}
use Rattle.std.proofs.lemmas.List.Elements.{All-take, All-drop}
use Rattle.std.specs.Prelude.{All, Any}
use Rattle.signer_api.specs.State.{SignerState, Tells, Vouches}
use Rattle.signer_ring.specs.Ring.{AllTell, Keeps}
use Rattle.signer_ring.specs.Calls.{Call}
use Rattle.rp_rules.specs.Certificates.{Vouched}
use Rattle.press_core.specs.Signers.{HasAllVouched}
use Rattle.manager.specs.Named.{Named}
use Rattle.manager.specs.Locked.{HasAllOf, AreTold}

-- where all tell, what is said of one that tells is said of one
any_telling : (P : SignerState → Type 0) (signers : List SignerState) → AllTell signers → Any (λ signer. Tells signer → P signer) signers → Any P signers
any_telling P signers all some = (some.0, some.1, some.2, some.3, some.4 (subst Tells some.3 (all some.0 some.1 some.2)))

-- where all tell, it is enough that what they vouch for is vouched
pub telling_vouched : (vouched : Vouched) (signers : List SignerState) → AllTell signers → HasAllOf vouched signers → HasAllVouched vouched signers
telling_vouched vouched signers all is key digest signature some = is key digest signature (any_telling (λ signer. Vouches signer key digest signature) signers all some)

pub keeps_same : (signers : List SignerState) → Keeps signers signers
keeps_same signers = record { count = refl; told = λ all. all; vouched = λ key digest signature is. is }

pub keeps_then : (old mid new : List SignerState) → Keeps old mid → Keeps mid new → Keeps old new
keeps_then old mid new first second = record {
  count = second.count ∙ first.count;
  told = λ all. second.told (first.told all);
  vouched = λ key digest signature is. second.vouched key digest signature (first.vouched key digest signature is);
}

-- what was vouched for before is vouched for then
pub has_before : (vouched : Vouched) (old new : List SignerState) → Keeps old new → HasAllOf vouched new → HasAllOf vouched old
has_before vouched old new kept has key digest signature is = has key digest signature (kept.vouched key digest signature is)

-- so those that keep it vouch for the calls too
pub told_still : (named : Named) (old new : List SignerState) (calls : List Call) → Keeps old new → AreTold named old calls → AreTold named new calls
told_still named old new calls kept told tell vouched has = told tell vouched (has_before vouched old new kept has)

pub front_of : {X : Type 0} (P : X → Type 0) (xs ys : List X) → All P (xs ++ ys) → All P xs
front_of P xs ys all = subst (All P) (take-append_seam xs ys) (All-take P (length xs) (xs ++ ys) all)

pub rest_of : {X : Type 0} (P : X → Type 0) (xs ys : List X) → All P (xs ++ ys) → All P ys
rest_of P xs ys all = subst (All P) (drop-append_seam xs ys) (All-drop P (length xs) (xs ++ ys) all)
