-- What a call answers, said by a check.
use Rattle.std.specs.Prelude.{◌≡◌, ℕ, Bool, true, List, [], ◌∷◌, Result, Ok, Err, ⊤}
use Rattle.std.specs.String.{string_bytes}
use Rattle.signer_api.specs.State.{SignerState, CountsFault}
use Rattle.signer_ring.specs.Ring.{AllTell, ChangesOne}
use Rattle.rp_rules.specs.declared.rules.Rule.{Rule}
use Rattle.rp_rules.specs.declared.rules.Rule.TheVariants as rule
use Rattle.rp_rules.specs.Checks.{Checked, Test, ◌>>=◌, refused, tested, found}
use Rattle.rp_audit.specs.declared.refusal.AuditRefused.{AuditRefused}
use Rattle.rp_audit.specs.declared.refusal.AuditRefused.TheVariants.{Refused, Unreached, SignerFault, Memory}
use Rattle.std.specs.Prelude.{Option}

-- The object at that URI breaks that rule, if memory isn't short.
abbrev pub IsRefusal : List ℕ → Rule → AuditRefused → Type 0
IsRefusal uri rule (Refused text broken) = (string_bytes text ≡ uri) × (broken ≡ rule)
IsRefusal uri rule (Unreached text) = ⊥
IsRefusal uri rule (SignerFault signer) = ⊥
IsRefusal uri rule Memory = ⊤

-- What a call tells that asks no signer: what is accepted, seen by view, or the first refusal.
abbrev pub Tells : {A B : Type 0} → (A → B) → Checked B → Result A AuditRefused → Type 0
Tells view m (Ok x) = m ≡ Ok (view x)
Tells view m (Err (Refused uri rule)) = m ≡ refused (string_bytes uri) rule
Tells view m (Err (Unreached uri)) = ⊥
Tells view m (Err (SignerFault signer)) = ⊥
Tells view m (Err Memory) = ⊤

-- What a call tells that asks signers: of what is accepted, by what the check comes to; the first
-- refusal, by the rule of signatures where all of them tell. Their states stay, but for the count
-- of one that failed.
abbrev pub Answers : {A B : Type 0} → (A → Checked B → Type 0) → (List SignerState → Checked B)
    → Result A AuditRefused → List SignerState → List SignerState → Type 0
Answers P m (Ok x) old new = (new ≡ old) × P x (m old)
Answers P m (Err (Refused uri broken)) old new = (new ≡ old)
    × ((broken ≡ rule.Signature → AllTell old) → m old ≡ refused (string_bytes uri) broken)
Answers P m (Err (Unreached uri)) old new = ⊥
Answers P m (Err (SignerFault signer)) old new = ChangesOne signer CountsFault old new
Answers P m (Err Memory) old new = new ≡ old

-- It is accepted, seen by view.
abbrev pub Gives : {A B : Type 0} → (A → B) → A → Checked B → Type 0
Gives view x m = m ≡ Ok (view x)

-- The answer on a signature, where the check comes to whether it is vouched. A yes is always
-- right, a no where all signers tell.
pub record IsAnswer (signers : List SignerState) (yes : Bool) (m : Checked Bool) : Type 0 where
  pub some : yes ≡ true → m ≡ Ok true
  pub all : AllTell signers → m ≡ Ok yes

-- Each rule is kept, or the first that isn't refuses the object.
abbrev pub kept : List ℕ → List Test → Checked (Unit {0})
kept uri tests = tested uri tests tt

-- What bytes say that are there.
abbrev pub read_as : {A : Type 0} → Checked (List ℕ) → List ℕ → (List ℕ → Option A) → Checked A
read_as bytes uri read = bytes >>= (λ b. found uri rule.Shape (read b))

-- The tests of an object, the first of which is answered so.
abbrev pub answered : Bool → List Test → List Test
answered signed [] = []
answered signed (test ∷ tests) = (test.0, signed) ∷ tests
