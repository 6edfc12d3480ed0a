-- What a session is answered, line by line.
use Rattle.std.specs.Prelude.{◌≡◌, ◌⊎◌, ℕ, ◌≤◌, ◌||◌, ◌==◌, Bool, false, List, [], ◌∷◌, ◌++◌, length, IsTrue}
use Rattle.std.specs.Prelude.{Option, Result, Ok, Err, IfOk, IfErr, Vec}
use Rattle.std.specs.declared.alloc.Global.{Global}
use Rattle.std.specs.List.{list_all}
use Rattle.disk_api.specs.declared.disk.Disk.{Ghosts as DiskGhosts}
use Rattle.authority_book.specs.declared.commands.Command.{Command}
use Rattle.commit_word.specs.Seats.{FollowerSeat}
use Rattle.editions.specs.declared.published_state.PublishedNumbers.{PublishedNumbers}
use Rattle.line_loop.specs.declared.TheConstants.{LINE_LIMIT}
use Rattle.line_loop.specs.Readings.{IsReading}
use Rattle.json_api.specs.declared.line.Line.{Line}
use Rattle.json_api.specs.declared.line.Line.TheVariants as line
use Rattle.json_api.specs.declared.line.LineFault.{LineFault}
use Rattle.json_api.specs.declared.refusals.Refused.TheVariants as refused
use Rattle.json_api.specs.Refused.{refused_spelling, fault_spelling}
use Rattle.json_api.specs.Line.{ReadsLine}
use Rattle.manager.specs.Passes.{PassValue, HasLearned}
use Rattle.manager.specs.Commanding.{IsAccepted, IsRefused}
use Rattle.manager.specs.Publishing.{IsPublication}
use Rattle.manager.specs.Awaiting.{IsAwaited}
use Rattle.manager.specs.declared.awaiting.Awaited.{Awaited}
use Rattle.manager.specs.declared.locked_desks_answers.CommandFault.{CommandFault}
use Rattle.manager.specs.declared.publish_fault.PublishFault.{PublishFault}
use Rattle.session_lines.specs.Keeping.{KeptValue, keeps_of_command, keeps_of_publication}
use Rattle.session_lines.specs.Texts.{memory_text, commanded_text, changes_a_desk, publication_text}
use Rattle.session_lines.specs.Texts.{changes_editions, serial_text, awaited_text}
use Rattle.session_lines.specs.Texts.{IsListText, IsShowText, IsRoasText, IsHistoryText}

-- What a session knows and made, what its clock's readings give from then on, where it tells, and
-- what it keeps of its refusals.
pub record SessionState : Type 0 where
  pub pass : PassValue
  pub clock : Option (ℕ → ℕ)
  pub kept : KeptValue

-- ---- a read

-- Such a text is told of what is then known. Nothing is made, the clock isn't read, and nothing
-- is kept.
pub record IsRead (IsIt : PassValue → List ℕ → Type 0) (before : SessionState) (text : List ℕ)
    (changed : Bool) (after : SessionState) : Type 0 where
  pub text_is : IsIt after.pass text
  pub unchanged : changed ≡ false
  pub learned : HasLearned before.pass after.pass
  pub same : after ≡ record before { pass = after.pass }

-- Or memory was wanting.
abbrev pub IsWanting : SessionState → List ℕ → Bool → SessionState → Type 0
IsWanting = IsRead (λ pass text. text ≡ memory_text)

abbrev pub IsToldOr : (SessionState → List ℕ → Bool → SessionState → Type 0)
    → SessionState → List ℕ → Bool → SessionState → Type 0
IsToldOr P before text changed after =
    P before text changed after ⊎ IsWanting before text changed after

-- This text is told, and all stays as it was.
pub record IsTold (told : List ℕ) (before : SessionState) (text : List ℕ) (changed : Bool)
    (after : SessionState) : Type 0 where
  pub text_is : text ≡ told
  pub unchanged : changed ≡ false
  pub same : after ≡ before

-- ---- a command

-- What a command comes to at the authority of that name.
abbrev pub IsCommanded : {D : Type 0} → List ℕ → Command → ℕ → Result ℕ (CommandFault D)
    → List FollowerSeat → List FollowerSeat → Type 0
IsCommanded name command signers outcome old new =
    IfOk outcome (λ count. IsAccepted name command signers count old new)
    × IfErr outcome (λ fault. IsRefused name command signers fault old new)

abbrev pub keeps_of : {D : Type 0} → Result ℕ (CommandFault D) → KeptValue → KeptValue
keeps_of (Ok count) kept = kept
keeps_of (Err fault) kept = keeps_of_command fault kept

-- It gets the text of what it comes to, and what a refusal has is kept. The clock isn't read.
pub record IsCommandText (D : Type 0) (name : List ℕ) (command : Command) (signers : ℕ)
    (before : SessionState) (text : List ℕ) (changed : Bool) (after : SessionState) : Type 0 where
  pub outcome : Result ℕ (CommandFault D)
  pub comes : IsCommanded name command signers outcome before.pass.seats after.pass.seats
  pub rest : after.pass ≡ record before.pass { seats = after.pass.seats }
  pub same_clock : after.clock ≡ before.clock
  pub kept : after.kept ≡ keeps_of outcome before.kept
  pub text_is : text ≡ commanded_text name outcome
  pub changed_is : changed ≡ changes_a_desk outcome

-- ---- a publication

abbrev pub keeps_then : {D O : Type 0} → Result PublishedNumbers (PublishFault D O) → KeptValue
    → KeptValue
keeps_then (Ok told) kept = kept
keeps_then (Err fault) kept = keeps_of_publication fault kept

-- The clock is read once, and the text is of what the publication comes to at that time. What a
-- refusal has is kept.
pub record IsPublicationText {D : Type 0} (O : Type 0) (disk_of : DiskGhosts D)
    (before : SessionState) (text : List ℕ) (changed : Bool) (after : SessionState) : Type 0 where
  pub clock : ℕ
  pub read : IsReading before.clock clock after.clock
  pub outcome : Result PublishedNumbers (PublishFault D O)
  pub comes : IsPublication disk_of clock outcome before.pass after.pass
  pub kept : after.kept ≡ keeps_then outcome before.kept
  pub text_is : text ≡ publication_text outcome
  pub changed_is : changed ≡ changes_editions outcome

-- ---- a line

-- The serial that the last look saw is the one waited for or a later one; or it is told that it
-- isn't.
abbrev pub IsAwaitText : ℕ → PassValue → List ℕ → Type 0
IsAwaitText serial pass text = (awaited : Awaited) × IsAwaited serial pass.shown awaited
    × (text ≡ awaited_text awaited)

-- What a line says gets this text.
abbrev pub IsSaidText : {D : Type 0} → Type 0 → DiskGhosts D → ℕ → Line → SessionState → List ℕ
    → Bool → SessionState → Type 0
IsSaidText {D} O disk_of signers (line.Command name command) before text changed after =
    IsCommandText D name command signers before text changed after
IsSaidText O disk_of signers line.Publish before text changed after =
    IsPublicationText O disk_of before text changed after
IsSaidText O disk_of signers line.Serial before text changed after =
    IsRead (λ pass told. told ≡ serial_text pass) before text changed after
IsSaidText O disk_of signers (line.Await serial looks) before text changed after =
    IsRead (IsAwaitText serial) before text changed after
IsSaidText O disk_of signers line.List before text changed after =
    IsRead IsListText before text changed after
IsSaidText O disk_of signers (line.Show name) before text changed after =
    IsRead (IsShowText name) before text changed after
IsSaidText O disk_of signers (line.Roas name) before text changed after =
    IsRead (IsRoasText name) before text changed after
IsSaidText O disk_of signers (line.History name) before text changed after =
    IsRead (IsHistoryText name) before text changed after

-- What the bytes of a line are read as gets this text.
abbrev pub IsReadText : {D : Type 0} → Type 0 → DiskGhosts D → ℕ → Result Line LineFault
    → SessionState → List ℕ → Bool → SessionState → Type 0
IsReadText O disk_of signers (Ok said) before text changed after =
    IsSaidText O disk_of signers said before text changed after
IsReadText O disk_of signers (Err fault) before text changed after =
    IsTold (fault_spelling fault) before text changed after

-- The bytes of a line get this text: that of what they are read as, or that memory was wanting.
pub record IsLineText {D : Type 0} (O : Type 0) (disk_of : DiskGhosts D) (signers : ℕ)
    (line : List ℕ) (before : SessionState) (text : List ℕ) (changed : Bool) (after : SessionState) : Type 0 where
  pub said : Result Line LineFault
  pub reads : ReadsLine line said
  pub answer : IsReadText O disk_of signers said before text changed after

abbrev pub IsText : {D : Type 0} → Type 0 → DiskGhosts D → ℕ → List ℕ → SessionState → List ℕ
    → Bool → SessionState → Type 0
IsText O disk_of signers line = IsToldOr (IsLineText O disk_of signers line)

-- ---- a reply

-- Space, tab and carriage return.
abbrev pub is_blank_byte : ℕ → Bool
is_blank_byte b = (b == 32) || (b == 9) || (b == 13)

-- A line that gets no reply: one that is not too long and has nothing but blanks.
pub record IsBlank (line : List ℕ) : Type 0 where
  pub short : length line ≤ LINE_LIMIT
  pub blank : IsTrue (list_all is_blank_byte line)

abbrev pub bad_line_text : List ℕ
bad_line_text = refused_spelling refused.BadLine

-- A text and a line feed.
pub record IsAnswer {D : Type 0} (O : Type 0) (disk_of : DiskGhosts D) (signers : ℕ)
    (line : List ℕ) (before : SessionState) (reply : List ℕ) (changed : Bool) (after : SessionState) : Type 0 where
  pub not_blank : ¬ IsBlank line
  pub text : List ℕ
  pub reply_is : reply ≡ text ++ 10 ∷ []
  pub answer : IsText O disk_of signers line before text changed after

-- A line gets this reply: none where it is blank, else a text and a line feed.
abbrev pub IsReply : {D : Type 0} → Type 0 → DiskGhosts D → ℕ → SessionState → List ℕ → List ℕ
    → Bool → SessionState → Type 0
IsReply O disk_of signers before line reply changed after =
    (IsBlank line × IsTold [] before reply changed after)
    ⊎ IsAnswer O disk_of signers line before reply changed after

-- The text of a read that found memory.
abbrev pub IsTextIn : {E : Type 0} → Result (Vec ℕ Global) E → List ℕ → Type 0
IsTextIn (Ok text) told = told ≡ text.items
IsTextIn (Err wanting) told = ⊥
