-- What a session is answered, line by line, over the desks and what is published of them.
use Rattle.std.specs.Prelude.{◌≡◌, ◌⊎◌, ℕ, ◌≤◌, ◌||◌, ◌==◌, Bool, true, false, List, [], ◌∷◌, ◌++◌}
use Rattle.std.specs.Prelude.{length, IsTrue, Result, Ok, Err, Vec, nat_le, if◌then◌else◌}
use Rattle.std.specs.declared.alloc.Global.{Global}
use Rattle.std.specs.List.{list_all}
use Rattle.authority_book.specs.declared.commands.Command.{Command}
use Rattle.authority_book.specs.declared.refusals.Refusal.{Refusal}
use Rattle.json_api.specs.declared.line.Line.{Line}
use Rattle.json_api.specs.declared.line.Line.TheVariants as line
use Rattle.json_api.specs.declared.line.LineFault.{LineFault}
use Rattle.json_api.specs.declared.refusals.Refused.{Refused}
use Rattle.json_api.specs.declared.refusals.Refused.TheVariants as refused
use Rattle.json_api.specs.declared.reply.PublishedReply.{PublishedReply}
use Rattle.json_api.specs.Refused.{refused_spelling, verdict_spelling, fault_spelling}
use Rattle.line_loop.specs.declared.TheConstants.{LINE_LIMIT}
use Rattle.json_api.specs.Line.{ReadsLine}
use Rattle.json_api.specs.Reply.{accepted_spelling, published_spelling, serial_spelling}
use Rattle.json_api.specs.Reply.{reached_spelling}
use Rattle.editions.specs.Edition.{state_after}
use Rattle.editions.specs.declared.published_state.PublishedNumbers.{PublishedNumbers}
use Rattle.press_core.specs.declared.fault.PressFault.TheVariants as press
use Rattle.line_loop.specs.Readings.{IsReading}
use Rattle.krill_top.specs.InstanceState.{InstanceState, TimedInstanceState}
use Rattle.krill_top.specs.DeskStates.{press_device}
use Rattle.krill_top.specs.declared.command_fault.CommandFault.{CommandFault}
use Rattle.krill_top.specs.declared.command_fault.CommandFault.TheVariants as faults
use Rattle.krill_top.specs.Outcomes.{Outcome, Commanded, fault_outcome}
use Rattle.krill_top.specs.Outcomes.Outcome.{Accepted, NoSuchAuthority, Shut as DeskShut, Verdict}
use Rattle.krill_top.specs.Outcomes.Outcome.{JournalFull as DeskFull, DiskFault as DeskFault}
use Rattle.krill_top.specs.Outcomes.Outcome.{Memory as DeskMemory}
use Rattle.krill_top.specs.Keeps.{keeps_of_command_outcome, keeps_of_publication_outcome}
use Rattle.krill_top.specs.Exports.{Stopped}
use Rattle.krill_top.specs.Exports.Stopped.{ByFault, ByMemory}
use Rattle.krill_top.specs.Reads.{list_reply, history_reply}
use Rattle.krill_top.specs.Sheets.{IsShowText, IsRoasText}
use Rattle.krill_top.specs.Publishing.{Outcome as Publication, Unmade, ComesTo, has_changed}
use Rattle.krill_top.specs.Publishing.Unmade.{ByPress, Shut, JournalFull, DiskFault}
use Rattle.krill_top.specs.Publishing.Outcome.{Published as Exported, Unexported, Repeated}
use Rattle.krill_top.specs.Publishing.Outcome.{Refused as NotMade}

-- Space, tab and carriage return.
abbrev pub is_blank_byte : ℕ → Bool
is_blank_byte b = (b == 32) || (b == 9) || (b == 13)

-- A line that gets no reply: one that is not too long and has nothing but blanks.
pub record IsBlank (line : List ℕ) : Type 0 where
  pub short : length line ≤ LINE_LIMIT
  pub blank : IsTrue (list_all is_blank_byte line)

-- A refusal, or a read: such a text is given, and nothing changes. The clock isn't read.
pub record IsToldSo (IsIt : List ℕ → Type 0) (before : TimedInstanceState) (text : List ℕ)
    (changed : Bool) (after : TimedInstanceState) : Type 0 where
  pub text_is : IsIt text
  pub unchanged : changed ≡ false
  pub same : after ≡ before

-- The same, of one text.
abbrev pub IsTold : List ℕ → TimedInstanceState → List ℕ → Bool → TimedInstanceState → Type 0
IsTold told before text changed after = IsToldSo (λ it. it ≡ told) before text changed after

-- How an outcome is told.
abbrev pub outcome_text : List ℕ → Outcome → List ℕ
outcome_text name (Accepted count) = accepted_spelling name count
outcome_text name NoSuchAuthority = refused_spelling (refused.NoSuchAuthority name)
outcome_text name (DeskShut rise) = refused_spelling refused.Shut
outcome_text name (Verdict refusal) = verdict_spelling refusal
outcome_text name (DeskFull held needed) = refused_spelling (refused.JournalFull held needed)
outcome_text name (DeskFault rise) = refused_spelling (refused.DiskFault rise.0)
outcome_text name DeskMemory = refused_spelling refused.Memory

-- Whether it changed a desk: the command was accepted, or is in doubt.
abbrev pub is_change : Outcome → Bool
is_change (Accepted count) = true
is_change (DeskFault rise) = true
is_change other = false

-- A command to the authority of that name comes to this, with the signers that there are. It changes
-- nothing else.
pub record CommandedIn (name : List ℕ) (command : Command) (outcome : Outcome)
    (before after : InstanceState) : Type 0 where
  pub commanded : Commanded name command
      (length before.signers) outcome before.desk_states after.desk_states
  pub same : after ≡ record before { desk_states = after.desk_states }

-- A command gets the text of what it comes to, and what a refusal has is kept. The clock isn't read.
pub record CommandText (name : List ℕ) (command : Command) (before : TimedInstanceState)
    (text : List ℕ) (changed : Bool) (after : TimedInstanceState) : Type 0 where
  pub outcome : Outcome
  pub comes : CommandedIn name command outcome before.state after.state
  pub same_clock : after.clock ≡ before.clock
  pub keeps : after.kept ≡ keeps_of_command_outcome outcome before.kept
  pub text_is : text ≡ outcome_text name outcome
  pub changed_is : changed ≡ is_change outcome

-- ---- a publication

-- What a publication is called in replies.
abbrev pub published_in_reply : PublishedNumbers → PublishedReply
published_in_reply published = record {
  serial = published.serial;
  moment = published.moment;
  objects = published.objects;
  origins = published.origins;
}

abbrev pub unmade_as : Unmade → Refused
unmade_as (ByPress (press.ClockRange now met)) = refused.ClockRange now
unmade_as (ByPress (press.SerialEnd value met)) = refused.SerialEnd value
unmade_as (ByPress (press.Nothing serial met)) = refused.Nothing serial
unmade_as (ByPress (press.SignerFault signer met)) = refused.SignerFault signer
unmade_as (ByPress (press.KeyClash id met)) = refused.KeyClash id
unmade_as (ByPress press.Memory) = refused.Memory
unmade_as (Shut rose) = refused.Shut
unmade_as (JournalFull held needed met) = refused.JournalFull held needed
unmade_as (DiskFault rose) = refused.DiskFault press_device

-- Why an edition isn't exported. Want of memory is told without its serial.
abbrev pub unexported_as : ℕ → Stopped → Refused
unexported_as serial (ByFault rose) = refused.OutletFault serial
unexported_as serial ByMemory = refused.Memory

abbrev pub publish_text : Publication → List ℕ
publish_text (Exported published) =
    published_spelling (published_in_reply published)
publish_text (Unexported serial stopped) =
    refused_spelling (unexported_as serial stopped)
publish_text (Repeated unmade) = refused_spelling (unmade_as unmade)
publish_text (NotMade serial unmade) = refused_spelling (unmade_as unmade)

-- The clock is read once, and a publication gets the text of what it comes to at that time. What a
-- refusal has is kept.
pub record PublishText (before : TimedInstanceState) (text : List ℕ)
    (changed : Bool) (after : TimedInstanceState) : Type 0 where
  pub clock : ℕ
  pub read : IsReading before.clock clock after.clock
  pub outcome : Publication
  pub comes : ComesTo clock outcome before.state after.state
  pub keeps : after.kept ≡ keeps_of_publication_outcome outcome before.kept
  pub text_is : text ≡ publish_text outcome
  pub changed_is : changed ≡ has_changed outcome

-- ---- a line

abbrev pub serial_text : InstanceState → List ℕ
serial_text state = serial_spelling (state_after state.editions).serial

-- Whether the last edition, with this serial, is the one that is waited for or a later one.
abbrev pub awaited_text : ℕ → ℕ → List ℕ
awaited_text asked serial =
    if nat_le asked serial then reached_spelling serial
    else refused_spelling (refused.NotYet serial)

abbrev pub await_text : ℕ → InstanceState → List ℕ
await_text asked state = awaited_text asked (state_after state.editions).serial

-- What a line says gets this text.
abbrev pub SaidText : Line → TimedInstanceState → List ℕ → Bool → TimedInstanceState
    → Type 0
SaidText (line.Command name command) before text changed after =
    CommandText name command before text changed after
SaidText line.Publish before text changed after = PublishText before text changed after
SaidText line.Serial before text changed after = IsTold
    (serial_text before.state) before text changed after
SaidText (line.Await serial looks) before text changed after = IsTold
    (await_text serial before.state) before text changed after
SaidText line.List before text changed after = IsTold
    (list_reply before.state.desk_states) before text changed after
SaidText (line.Show name) before text changed after = IsToldSo
    (IsShowText before.state name) before text changed after
SaidText (line.Roas name) before text changed after = IsToldSo
    (IsRoasText before.state name) before text changed after
SaidText (line.History name) before text changed after = IsTold
    (history_reply before.state.desk_states name) before text changed after

-- What the bytes of a line are read as gets this text.
abbrev pub ReadText : Result Line LineFault → TimedInstanceState → List ℕ → Bool
    → TimedInstanceState → Type 0
ReadText (Ok said) before text changed after = SaidText said before text changed after
ReadText (Err fault) before text changed after =
    IsTold (fault_spelling fault) before text changed after

-- The text where memory was wanting.
abbrev pub memory_text : List ℕ
memory_text = refused_spelling refused.Memory

-- The text where a line is no line.
abbrev pub bad_line_text : List ℕ
bad_line_text = refused_spelling refused.BadLine

-- The one, or that memory was wanting.
abbrev pub IsToldOr : (TimedInstanceState → List ℕ → Bool → TimedInstanceState → Type 0)
    → TimedInstanceState → List ℕ → Bool → TimedInstanceState → Type 0
IsToldOr P before text changed after =
    P before text changed after ⊎ IsTold memory_text before text changed after

-- The text of a verdict, or that there was no memory for it, and whether it is that.
abbrev pub IsVerdictText : Refusal → List ℕ → Bool → Type 0
IsVerdictText refusal text wanting = ((text ≡ verdict_spelling refusal) × (wanting ≡ false))
    ⊎ ((text ≡ memory_text) × (wanting ≡ true))

-- The text that says why a command isn't accepted, and whether it says that memory was wanting.
abbrev pub IsFaultText : {D : Type 0} → List ℕ → CommandFault D → List ℕ → Bool → Type 0
IsFaultText name (faults.Verdict refusal) text wanting = IsVerdictText refusal text wanting
IsFaultText name faults.Memory text wanting = (text ≡ memory_text) × (wanting ≡ true)
IsFaultText name fault text wanting =
    (text ≡ outcome_text name (fault_outcome fault)) × (wanting ≡ false)

-- The text of a read that found memory.
abbrev pub IsTextIn : {E : Type 0} → Result (Vec ℕ Global) E → List ℕ → Type 0
IsTextIn (Ok text) told = told ≡ text.items
IsTextIn (Err wanting) told = ⊥

-- The bytes are read so, and that gets this text.
pub record IsReadText (line : List ℕ) (before : TimedInstanceState)
    (text : List ℕ) (changed : Bool) (after : TimedInstanceState) : Type 0 where
  pub said : Result Line LineFault
  pub reads : ReadsLine line said
  pub answer : ReadText said before text changed after

-- A line gets this text: what its bytes get, or that memory was wanting.
abbrev pub IsText : List ℕ → TimedInstanceState → List ℕ → Bool → TimedInstanceState
    → Type 0
IsText line before text changed after = IsToldOr (IsReadText line) before text changed after

-- A text and a line feed.
pub record IsAnswer (line : List ℕ) (before : TimedInstanceState)
    (reply : List ℕ) (changed : Bool) (after : TimedInstanceState) : Type 0 where
  pub not_blank : ¬ IsBlank line
  pub text : List ℕ
  pub reply_is : reply ≡ text ++ 10 ∷ []
  pub answer : IsText line before text changed after

-- A line gets this reply: none where it is blank, else a text and a line feed.
abbrev pub IsReply : TimedInstanceState → List ℕ → List ℕ → Bool → TimedInstanceState
    → Type 0
IsReply before line reply changed after =
    (IsBlank line × IsTold [] before reply changed after)
    ⊎ IsAnswer line before reply changed after
