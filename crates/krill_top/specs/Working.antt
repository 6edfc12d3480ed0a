-- What a workload does from one state on: its commands are given and published, and a line tells of that.
use Rattle.std.specs.Prelude.{◌≡◌, ◌⊎◌, ℕ, ◌+◌, List, [], ◌∷◌, ◌++◌, length, Option, None, Some, Result, Ok, Err, ⊤}
use Rattle.authority_book.specs.declared.commands.Command.{Command}
use Rattle.line_loop.specs.declared.traits.Sink.{Ghosts as SinkGhosts}
use Rattle.line_loop.specs.Readings.{IsReading}
use Rattle.editions.specs.declared.published_state.PublishedNumbers.{PublishedNumbers}
use Rattle.krill_top.specs.declared.faults.RunFault.{RunFault}
use Rattle.krill_top.specs.declared.faults.RunFault.TheVariants as faults
use Rattle.krill_top.specs.declared.generated.Wanted.{Wanted}
use Rattle.krill_top.specs.Generated.{IsCommandOf, generated, changed}
use Rattle.krill_top.specs.InstanceState.{TimedInstanceState}
use Rattle.krill_top.specs.Keeps.{keeps_of_command_outcome, keeps_of_publication_outcome}
use Rattle.krill_top.specs.Outcomes.{Outcome}
use Rattle.krill_top.specs.Outcomes.Outcome.{Accepted, Verdict, Memory}
use Rattle.krill_top.specs.Publishing.{Outcome as Publication, ComesTo}
use Rattle.krill_top.specs.Publishing.Outcome.{Published}
use Rattle.krill_top.specs.Replies.{CommandedIn, outcome_text, publish_text, memory_text}
use Rattle.krill_top.specs.Statuses.{graver, unpublished_fault}
use Rattle.krill_top.specs.Summaries.{workload_line}
use Rattle.krill_top.specs.Telling.{Tells}

-- A reply is a text and a line feed.
abbrev pub IsReplyOf : List ℕ → List ℕ → Type 0
IsReplyOf text reply = reply ≡ text ++ 10 ∷ []

-- Memory was wanting before a command was given, or before the clock was read: nothing is told.
pub record IsUnasked (reply : List ℕ) (fault : Option RunFault) (before after : TimedInstanceState)
    : Type 0 where
  pub nothing : reply ≡ []
  pub memory : fault ≡ Some faults.Memory
  pub same : after ≡ before

-- ---- one command

-- It was accepted. The clock isn't read.
pub record IsTaken (name : List ℕ) (command : Command) (before after : TimedInstanceState)
    : Type 0 where
  pub count : ℕ
  pub comes : CommandedIn name command (Accepted count) before.state after.state
  pub same_clock : after.clock ≡ before.clock
  pub same_kept : after.kept ≡ before.kept

-- Its reply, where it isn't accepted, and what is wrong where that says that memory was wanting. There
-- may be none for a verdict's.
abbrev pub IsRefusalOf : List ℕ → Outcome → List ℕ → Option RunFault → Type 0
IsRefusalOf name (Accepted count) reply fault = ⊥
IsRefusalOf name (Verdict refusal) reply fault =
    (IsReplyOf (outcome_text name (Verdict refusal)) reply × (fault ≡ None))
    ⊎ (IsReplyOf memory_text reply × (fault ≡ Some faults.Memory))
IsRefusalOf name Memory reply fault = IsReplyOf memory_text reply × (fault ≡ Some faults.Memory)
IsRefusalOf name other reply fault = IsReplyOf (outcome_text name other) reply × (fault ≡ None)

-- It wasn't accepted, and that is told. What the refusal has is kept.
pub record IsRefused (name : List ℕ) (command : Command) (reply : List ℕ)
    (fault : Option RunFault) (before after : TimedInstanceState) : Type 0 where
  pub outcome : Outcome
  pub comes : CommandedIn name command outcome before.state after.state
  pub same_clock : after.clock ≡ before.clock
  pub keeps : after.kept ≡ keeps_of_command_outcome outcome before.kept
  pub told : IsRefusalOf name outcome reply fault

-- It was given, and was accepted or not.
abbrev pub Gives : {T : Type 0} → List ℕ → Command → List ℕ → Result T (Option RunFault)
    → TimedInstanceState → TimedInstanceState → Type 0
Gives name command reply (Ok done) before after = IsTaken name command before after
Gives name command reply (Err fault) before after =
    IsUnasked reply fault before after ⊎ IsRefused name command reply fault before after

-- So of a command that is wanted.
pub record IsAccepted (wanted : Wanted) (before after : TimedInstanceState) : Type 0 where
  pub name : List ℕ
  pub command : Command
  pub is_wanted : IsCommandOf wanted name command
  pub taken : IsTaken name command before after

pub record IsNotAccepted (wanted : Wanted) (reply : List ℕ) (fault : Option RunFault)
    (before after : TimedInstanceState) : Type 0 where
  pub name : List ℕ
  pub command : Command
  pub is_wanted : IsCommandOf wanted name command
  pub refused : IsRefused name command reply fault before after

abbrev pub IsGiven : {T : Type 0} → Wanted → List ℕ → Result T (Option RunFault)
    → TimedInstanceState → TimedInstanceState → Type 0
IsGiven wanted reply (Ok done) before after = IsAccepted wanted before after
IsGiven wanted reply (Err fault) before after =
    IsUnasked reply fault before after ⊎ IsNotAccepted wanted reply fault before after

-- ---- commands

-- One after another was accepted.
abbrev pub AreAccepted : List Wanted → TimedInstanceState → TimedInstanceState → Type 0
AreAccepted [] before after = after ≡ before
AreAccepted (wanted ∷ rest) before after = (between : TimedInstanceState)
    × IsAccepted wanted before between × AreAccepted rest between after

-- Why no more are given: memory was wanting, or the next one wasn't accepted.
abbrev pub IsStop : List Wanted → List ℕ → Option RunFault → TimedInstanceState
    → TimedInstanceState → Type 0
IsStop [] reply fault before after = IsUnasked reply fault before after
IsStop (next ∷ more) reply fault before after =
    IsUnasked reply fault before after ⊎ IsNotAccepted next reply fault before after

-- The first ones were accepted, and then no more were given.
pub record StopsAmong (commands : List Wanted) (reply : List ℕ) (fault : Option RunFault)
    (before after : TimedInstanceState) : Type 0 where
  pub given : List Wanted
  pub left : List Wanted
  pub split : commands ≡ given ++ left
  pub between : TimedInstanceState
  pub accepted : AreAccepted given before between
  pub stop : IsStop left reply fault between after

-- All were accepted, or the first ones.
abbrev pub AreGiven : {T : Type 0} → List Wanted → List ℕ → Result T (Option RunFault)
    → TimedInstanceState → TimedInstanceState → Type 0
AreGiven commands reply (Ok done) before after = AreAccepted commands before after
AreGiven commands reply (Err fault) before after = StopsAmong commands reply fault before after

-- ---- a publication

-- The clock is read once, and a publication comes to this at that time. What a refusal has is kept.
pub record PublishesAt (outcome : Publication) (before after : TimedInstanceState)
    : Type 0 where
  pub clock : ℕ
  pub read : IsReading before.clock clock after.clock
  pub comes : ComesTo clock outcome before.state after.state
  pub keeps : after.kept ≡ keeps_of_publication_outcome outcome before.kept

-- What was published is exported, or a reply says why not, and that is a fault or not.
abbrev pub IsPublishedOrTold : Publication → Result PublishedNumbers (Option RunFault)
    → List ℕ → List ℕ → Type 0
IsPublishedOrTold outcome (Ok published) before reply = outcome ≡ Published published
IsPublishedOrTold (Published published) (Err fault) before reply = ⊥
IsPublishedOrTold outcome (Err fault) before reply =
    (reply ≡ before ++ publish_text outcome ++ 10 ∷ []) × (fault ≡ unpublished_fault outcome)

pub record PublishesSo (reply : List ℕ) (result : Result PublishedNumbers (Option RunFault))
    (before after : TimedInstanceState) : Type 0 where
  pub outcome : Publication
  pub publishes : PublishesAt outcome before after
  pub told : IsPublishedOrTold outcome result [] reply

abbrev pub PublishesOrNot : List ℕ → Result PublishedNumbers (Option RunFault)
    → TimedInstanceState → TimedInstanceState → Type 0
PublishesOrNot reply (Ok published) before after =
    PublishesSo reply (Ok published) before after
PublishesOrNot reply (Err fault) before after =
    IsUnasked reply fault before after ⊎ PublishesSo reply (Err fault) before after

-- ---- a part of a workload: commands, and a publication behind them

-- All commands were accepted, and then this came of the publication.
pub record PublishesThese (commands : List Wanted) (reply : List ℕ)
    (made : Result PublishedNumbers (Option RunFault)) (before after : TimedInstanceState)
    : Type 0 where
  pub between : TimedInstanceState
  pub accepted : AreAccepted commands before between
  pub publishes : PublishesOrNot reply made between after

abbrev pub IsMade : List Wanted → List ℕ → Result PublishedNumbers (Option RunFault)
    → TimedInstanceState → TimedInstanceState → Type 0
IsMade commands reply (Ok published) before after =
    PublishesThese commands reply (Ok published) before after
IsMade commands reply (Err fault) before after = StopsAmong commands reply fault before after
    ⊎ PublishesThese commands reply (Err fault) before after

-- The line that is told of it, behind so many accepted commands, or the reply in its place.
abbrev pub told_of : ℕ → ℕ → List ℕ → Result PublishedNumbers (Option RunFault) → List ℕ
told_of authorities count reply (Ok published) = workload_line authorities count published
told_of authorities count reply (Err fault) = reply

-- The workload goes on where the line was told whole, and ends else.
abbrev pub GoesOn : {T : Type 0} → Result PublishedNumbers (Option RunFault) → Option RunFault
    → Result T (Option RunFault) → Type 0
GoesOn (Ok published) None (Ok done) = ⊤
GoesOn (Ok published) (Some stopped) (Err fault) = fault ≡ Some stopped
GoesOn (Err refused) stopped (Err fault) = fault ≡ graver stopped refused
GoesOn made stopped result = ⊥

-- The sink, and the state with what the clock reads.
pub record Worked (K : Type 0) : Type 0 where
  pub sink : K
  pub timed : TimedInstanceState

pub record DoesPart {K T : Type 0} (sink_of : SinkGhosts K) (authorities count : ℕ)
    (commands : List Wanted) (result : Result T (Option RunFault)) (before after : Worked K)
    : Type 0 where
  pub reply : List ℕ
  pub made : Result PublishedNumbers (Option RunFault)
  pub stopped : Option RunFault
  pub is_made : IsMade commands reply made before.timed after.timed
  pub tells : Tells sink_of (told_of authorities count reply made) stopped before.sink after.sink
  pub goes_on : GoesOn made stopped result

-- ---- a workload

-- Behind the first part comes the second one, if the first went on.
abbrev pub GoesOnWith : {K T : Type 0} → SinkGhosts K → ℕ → ℕ → Result T (Option RunFault)
    → Result T (Option RunFault) → Worked K → Worked K → Type 0
GoesOnWith sink_of authorities count (Ok done) result before after =
    DoesPart sink_of authorities count changed result before after
GoesOnWith sink_of authorities count (Err fault) result before after =
    (result ≡ Err fault) × (after ≡ before)

-- The generated commands are given, published and told, and then the one that changes a grant.
pub record Works {K T : Type 0} (sink_of : SinkGhosts K) (authorities : ℕ)
    (result : Result T (Option RunFault)) (before after : Worked K) : Type 0 where
  pub between : Worked K
  pub first : Result T (Option RunFault)
  pub does : DoesPart sink_of authorities (length (generated authorities))
      (generated authorities) first before between
  pub second : GoesOnWith sink_of authorities (length (generated authorities) + 1)
      first result between after

-- What is wrong where it ended so: nothing where it was whole, or a refusal was told that is a reply
-- alone.
abbrev pub ended_by : {T : Type 0} → Result T (Option RunFault) → Option RunFault
ended_by (Ok done) = None
ended_by (Err fault) = fault
