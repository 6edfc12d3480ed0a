-- A signer over two streams, as the trait sees it, and why one stops.
use Rattle.std.specs.Prelude.{◌≡◌, ◌⊎◌, ◌<◌, ◌+◌, ◌^◌, ℕ, List, Bool, true, false, Option, None, Result, Ok, Err, length}
use Rattle.std.specs.Io.KnownBytes.{Consumes, Keeps, IsAtEnd, prepend_known}
use Rattle.host_calls.specs.Rise.{HasRisen}
use Rattle.signer_api.specs.State.{SignerState}
use Rattle.signer_api.specs.State.Vouching.{NotTold}
use Rattle.signer_line.specs.Lines.{NoFeed}
use Rattle.signer_line.specs.declared.inbox.Inbox.{Inbox}
use Rattle.signer_line.specs.declared.inbox.Stop.{Stop}
use Rattle.signer_line.specs.declared.inbox.Stop.TheVariants.{Broken, Ended, TooLong}
use Rattle.signer_line.specs.declared.signer.SignerOver.{SignerOver}

abbrev pub inbox_from : {R : Type 0} → Inbox R → R
inbox_from inbox = inbox.from

-- What is still to come, where the reader tells: what was read ahead, and what it has left.
abbrev pub inbox_left : {R : Type 0} → (R → Option (List ℕ)) → Inbox R → Option (List ℕ)
inbox_left left inbox = prepend_known inbox.ahead (left inbox.from)

abbrev pub line_state : {R W : Type 0} → SignerOver R W → SignerState
line_state s = record {
  vouching = NotTold;
  keys = None;
  signatures = s.signatures;
  once = s.once;
  faults = s.faults;
}

-- where its answers come from
abbrev pub line_from : {R W : Type 0} → SignerOver R W → R
line_from s = s.from.from

-- where its requests go
abbrev pub line_to : {R W : Type 0} → SignerOver R W → W
line_to s = s.to

-- what is still to come from the other end, where the reader tells
abbrev pub line_left : {R W : Type 0} → (R → Option (List ℕ)) → SignerOver R W → Option (List ℕ)
line_left left s = inbox_left left s.from

-- Both ends met, and no call failed since.
abbrev pub in_step : {R W : Type 0} → SignerOver R W → Bool
in_step s = s.in_step

-- the number of its next meeting
abbrev pub number_of : {R W : Type 0} → SignerOver R W → ℕ
number_of s = s.number

-- The count of faults stands as it did, and not because it is at its end: no call failed.
pub record Succeeds (before after : ℕ) : Type 0 where
  pub same : after ≡ before
  pub short : before + 1 < 2 ^ 64

-- Why there is no next byte.
abbrev pub NoByte : Stop → ℕ → ℕ → Option (List ℕ) → Option (List ℕ) → Type 0
NoByte Broken before after old new = HasRisen before after
NoByte Ended before after old new = (after ≡ before) × Keeps old new × IsAtEnd new
NoByte TooLong before after old new = ⊥

-- Why there is no next line: a call failed, or no line feed stands before the end, or none within what
-- the longest line takes.
abbrev pub NoLine : Stop → ℕ → ℕ → Option (List ℕ) → Option (List ℕ) → Type 0
NoLine Broken before after old new = HasRisen before after
NoLine Ended before after old new = (after ≡ before) × ((part : List ℕ) × NoFeed part × Consumes old new part × IsAtEnd new)
NoLine TooLong before after old new =
    (after ≡ before) × ((part : List ℕ) × NoFeed part × (length part ≡ 1059) × Consumes old new part)

-- Why a hello has no answer: a call failed, or what came ended, or a mebibyte came.
abbrev pub NoHello : Stop → ℕ → ℕ → Option (List ℕ) → Option (List ℕ) → Type 0
NoHello Broken before after old new = HasRisen before after
NoHello Ended before after old new = (after ≡ before) × IsAtEnd new
NoHello TooLong before after old new =
    (after ≡ before) × ((passed : List ℕ) × (length passed ≡ 2 ^ 20) × Consumes old new passed)

-- Why a meeting failed: a call of a stream did, or its hello has no answer.
abbrev pub NoMeeting : Stop → Type 0 → Option (List ℕ) → Option (List ℕ) → Type 0
NoMeeting Broken broken old new = broken
NoMeeting Ended broken old new = IsAtEnd new
NoMeeting TooLong broken old new = (passed : List ℕ) × (length passed ≡ 2 ^ 20) × Consumes old new passed

-- Why an answer that comes isn't heard: a call of a stream failed, or, out of step, the meeting did.
abbrev pub Unheard : Bool → Type 0 → Option (List ℕ) → Option (List ℕ) → Type 0
Unheard true broken old new = broken
Unheard false broken old new = (stop : Stop) × NoMeeting stop broken old new

-- An answer is right, or there is a cause why it isn't heard.
abbrev pub RightOr : {T E : Type 0} → Type 0 → (T → Type 0) → Result T E → Type 0
RightOr broken right (Ok x) = right x
RightOr broken right (Err e) = broken

-- A call of one of the streams failed.
abbrev pub Breaks : ℕ → ℕ → ℕ → ℕ → Type 0
Breaks from_before from_after to_before to_after = HasRisen from_before from_after ⊎ HasRisen to_before to_after
