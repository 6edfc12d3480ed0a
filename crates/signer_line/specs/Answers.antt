-- What answers a request, and the line that spells it.
use Rattle.std.specs.Prelude.{◌≡◌, ℕ, List, Bool, Option, IfSome, Some, None, Result, Ok, Err, length, ⊤}
use Rattle.hex.specs.Hex.{IsBytes}
use Rattle.signer_api.specs.PublicKey.{IsPublicKey}
use Rattle.signer_line.specs.Lines.{key_line, signature_line, once_line, check_line, drop_line}
use Rattle.signer_line.specs.declared.answer.Answer as code

-- A key; a signature; a key that signed once, and its signature; whether a signature is vouched; and
-- that a key was dropped.
pub data Answered : Type 0 where
  Key : List ℕ → Answered
  Signature : List ℕ → Answered
  Once : List ℕ → List ℕ → Answered
  Checked : Bool → Answered
  Dropped : Answered

-- An answer that a signer may give: a key is one, and a signature has 256 bytes.
abbrev pub IsAnswer : Answered → Type 0
IsAnswer (Key key) = IsPublicKey key × IsBytes key
IsAnswer (Signature signature) = (length signature ≡ 256) × IsBytes signature
IsAnswer (Once key signature) = IsPublicKey key × IsBytes key × (length signature ≡ 256) × IsBytes signature
IsAnswer (Checked vouched) = ⊤
IsAnswer Dropped = ⊤

-- the one line that spells it
abbrev pub answer_line : Answered → List ℕ
answer_line (Key key) = key_line key
answer_line (Signature signature) = signature_line signature
answer_line (Once key signature) = once_line key signature
answer_line (Checked vouched) = check_line vouched
answer_line Dropped = drop_line

-- what an answer of the code tells
abbrev pub told : code.Answer → Answered
told (code.TheVariants.Key key) = Key key.bytes
told (code.TheVariants.Signature signature) = Signature signature.bytes
told (code.TheVariants.Once once) = Once once.key.bytes once.signature.bytes
told (code.TheVariants.Checked vouched) = Checked vouched
told code.TheVariants.Dropped = Dropped

-- what a call heard, if it heard an answer
abbrev pub heard_of : {E : Type 0} → Result code.Answer E → Option Answered
heard_of (Ok answer) = Some (told answer)
heard_of (Err e) = None

-- A line answers what it spells, and every line that spells an answer is read.
pub record Answers (line : List ℕ) (found : Option Answered) : Type 0 where
  pub spelled : IfSome found (λ answer. line ≡ answer_line answer)
  pub every : (answer : Answered) → IsAnswer answer → line ≡ answer_line answer → found ≡ Some answer
