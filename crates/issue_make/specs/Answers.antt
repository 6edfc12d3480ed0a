-- What signers answered, and when they answered two makings alike.
use Rattle.std.specs.Prelude.{◌≡◌, ℕ, List, [], ◌∷◌, map}
use Rattle.signer_ring.specs.Calls.{Call}
use Rattle.signer_ring.specs.Calls.Call.{Makes, Signs, Once}
use Rattle.signer_ring.specs.Jobs.{calls_on}

-- What was answered to a call: a key, a signature, or a one-use key and its signature.
abbrev pub answer_of : Call → List (List ℕ)
answer_of (Makes signer key) = key ∷ []
answer_of (Signs signer one) = one.signature ∷ []
answer_of (Once signer one) = one.key ∷ one.signature ∷ []

-- The answers to calls, in the calls' order.
abbrev pub answers_to : List Call → List (List (List ℕ))
answers_to calls = map answer_of calls

-- Each signer gave the same answers, in the order of its own calls. How the calls of one signer
-- stand to those of another isn't asked.
abbrev pub AreAnsweredAlike : List Call → List Call → Type 0
AreAnsweredAlike calls others =
    (signer : ℕ) → answers_to (calls_on signer calls) ≡ answers_to (calls_on signer others)
