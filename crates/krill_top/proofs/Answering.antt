-- What lines are answered, from what the instance's calls do.
use Rattle.std.proofs.Common.{◌≡◌, ℕ, ◌⊎◌, ◌<◌, Bool, true, false, List, [], ◌∷◌, ◌++◌, length, refl, sym, ◌∙◌, ap, subst, inl, inr, arith}
use Rattle.std.specs.declared.alloc.Global.{Global}
use Rattle.std.specs.Prelude.{Result, Ok, Err, IfOk, IfErr, Vec, Option, None, Some, slice_set}
use Rattle.disk_api.specs.declared.disk.Disk.{Ghosts as DiskGhosts}
use Rattle.outlet_api.specs.declared.outlet.Outlet.{Ghosts as OutletGhosts}
use Rattle.authority_book.specs.declared.commands.Command.{Command}
use Rattle.authority_book.specs.declared.refusals.Refusal.{Refusal}
use Rattle.json_api.specs.declared.line.Line.{Line}
use Rattle.json_api.specs.declared.line.LineFault.{LineFault}
use Rattle.json_api.specs.declared.line.LineFault.TheVariants.{BadLine, UnknownCommand, BadField, Memory}
use Rattle.line_loop.specs.declared.TheConstants.{LINE_LIMIT}
use Rattle.json_api.specs.Refused.{fault_spelling}
use Rattle.json_api.specs.Reply.{accepted_spelling}
use Rattle.json_api.specs.Line.{ReadsLine, IsDocument}
use Rattle.krill_top.specs.declared.command_fault.CommandFault.{CommandFault}
use Rattle.krill_top.specs.declared.command_fault.CommandFault.TheVariants as faults
use Rattle.krill_top.specs.DeskStates.{DeskStates, DeskState, desk_named}
use Rattle.line_loop.specs.Readings.{IsReading}
use Rattle.krill_top.specs.InstanceState.{InstanceState, TimedInstanceState, at_clock}
use Rattle.krill_top.specs.Keeps.{keeps_of_command_outcome, keeps_of_publication_outcome}
use Rattle.krill_top.specs.Outcomes.{Outcome, CommandedAt, fault_outcome}
use Rattle.krill_top.specs.Outcomes.Outcome.{Accepted, Verdict}
use Rattle.krill_top.specs.Publishing.{Outcome as Publication, ComesTo, has_changed}
use Rattle.krill_top.specs.Replies.{IsBlank, IsToldSo, memory_text, bad_line_text, outcome_text, is_change, publish_text, CommandedIn, CommandText, PublishText, SaidText, IsReadText, IsText, IsToldOr, IsFaultText, IsTextIn, IsReply}
use Rattle.krill_top.specs.inner.Instances.{TimedInstance, IsInState, Moves, MovesTimed, MayText, MayReply}
use Rattle.krill_top.proofs.Standing.{set_same}
use Rattle.krill_top.proofs.Moving.{stay_timed, moves_at, timed_so}

-- what holds of the value of an Ok, seen otherwise
pub if_ok_so : {T E : Type 0} (r : Result T E) (P Q : T → Type 0) → IfOk r P → ((x : T) → P x → Q x) → IfOk r Q
if_ok_so (Ok x) P Q p f = f x p
if_ok_so (Err e) P Q p f = tt

pub if_err_so : {T E : Type 0} (r : Result T E) (P Q : E → Type 0) → IfErr r P → ((x : E) → P x → Q x) → IfErr r Q
if_err_so (Ok x) P Q p f = tt
if_err_so (Err e) P Q p f = f e p

pub if_err_both : {T E : Type 0} (r : Result T E) (P Q R : E → Type 0) → IfErr r P → IfErr r Q → ((x : E) → P x → Q x → R x) → IfErr r R
if_err_both (Ok x) P Q R p q f = tt
if_err_both (Err e) P Q R p q f = f e p q

pub if_err_three : {T E : Type 0} (r : Result T E) (P Q R S : E → Type 0) → IfErr r P → IfErr r Q → IfErr r R → ((x : E) → P x → Q x → R x → S x) → IfErr r S
if_err_three (Ok x) P Q R S p q r f = tt
if_err_three (Err e) P Q R S p q r f = f e p q r

-- a refused command changes nothing
unchanged_desks : (number : Option ℕ) (command : Command) (signers : ℕ) (refusal : Refusal) (before after : DeskStates) → CommandedAt number command signers (Verdict refusal) before after → after ≡ before
unchanged_desks None command signers refusal before after is = is.1
unchanged_desks (Some number) command signers refusal before after is =
    is.put ∙ ap (λ (s : DeskState). slice_set before number s) is.changes.same ∙ set_same before number is.was is.found

unchanged : (name : List ℕ) (command : Command) (refusal : Refusal) (before after : InstanceState) → CommandedIn name command (Verdict refusal) before after → after ≡ before
unchanged name command refusal before after is =
    is.same ∙ ap (λ (d : DeskStates). record before { desk_states = d })
    (unchanged_desks (desk_named before.desk_states name) command (length before.signers) refusal before.desk_states after.desk_states is.commanded)

abbrev failed : LineFault → Result Line LineFault
failed fault = Err fault

module _ {D O : Type 0} (disk_of : DiskGhosts D) (outlet_of : OutletGhosts O) where
  pub told_or_memory : (P : TimedInstanceState → List ℕ → Bool → TimedInstanceState → Type 0) (timed : TimedInstance D O) (told : List ℕ)
      → ((before : InstanceState) → IsInState outlet_of timed.instance before → P (at_clock timed.clock timed.kept before) told false (at_clock timed.clock timed.kept before)) ⊎ (told ≡ memory_text)
      → MovesTimed disk_of outlet_of (λ b a. IsToldOr P b told false a) timed timed
  told_or_memory P timed told is = stay_timed disk_of outlet_of (λ b a. IsToldOr P b told false a) timed (λ before stands. elim is [
    | inl so ↦ inl (so before stands)
    | inr memory ↦ inr (record { text_is = memory; unchanged = refl; same = refl })
  ])

  -- ---- a command

  module _ (name : List ℕ) (command : Command) (text : List ℕ) (old new : TimedInstance D O) (same_clock : new.clock ≡ old.clock) where
    -- it comes to an outcome, and gets that text
    told_outcome : (outcome : Outcome) (changed : Bool) → new.kept ≡ keeps_of_command_outcome outcome old.kept → text ≡ outcome_text name outcome → changed ≡ is_change outcome
        → Moves disk_of outlet_of (λ b a. CommandedIn name command outcome b a) old.instance new.instance
        → MovesTimed disk_of outlet_of (λ b a. IsToldOr (CommandText name command) b text changed a) old new
    told_outcome outcome changed keeps is so moves =
        moves_at disk_of outlet_of (λ b a. CommandedIn name command outcome b a) (λ b a. IsToldOr (CommandText name command) b text changed a) old new moves
        (λ before after comes. inl (record { outcome = outcome; comes = comes; same_clock = same_clock; keeps = keeps; text_is = is; changed_is = so }))

    pub accepted_text : (count : ℕ) → new.kept ≡ old.kept → text ≡ accepted_spelling name count → Moves disk_of outlet_of (λ b a. CommandedIn name command (Accepted count) b a) old.instance new.instance
        → MovesTimed disk_of outlet_of (λ b a. IsToldOr (CommandText name command) b text true a) old new
    accepted_text count same is moves = told_outcome (Accepted count) true same is refl moves

    -- a refused command changes nothing, and its text may find no memory
    untold : (refusal : Refusal) (changed : Bool) → new.kept ≡ old.kept → text ≡ memory_text → changed ≡ is_change (Verdict refusal) → Moves disk_of outlet_of (λ b a. CommandedIn name command (Verdict refusal) b a) old.instance new.instance
        → MovesTimed disk_of outlet_of (λ b a. IsToldOr (CommandText name command) b text changed a) old new
    untold refusal changed same_kept memory so moves =
        moves_at disk_of outlet_of (λ b a. CommandedIn name command (Verdict refusal) b a) (λ b a. IsToldOr (CommandText name command) b text changed a) old new moves
        (λ before after comes. inr (record { text_is = memory; unchanged = so; same = same_timed before after (unchanged name command refusal before after comes) }))
      where
        same_timed : (before after : InstanceState) → after ≡ before → at_clock new.clock new.kept after ≡ at_clock old.clock old.kept before
        same_timed before after same = λ i. record { state = same i; clock = same_clock i; kept = same_kept i }

    pub fault_text : (fault : CommandFault D) (changed wanting : Bool) → new.kept ≡ keeps_of_command_outcome (fault_outcome fault) old.kept → IsFaultText name fault text wanting → changed ≡ is_change (fault_outcome fault)
        → Moves disk_of outlet_of (λ b a. CommandedIn name command (fault_outcome fault) b a) old.instance new.instance
        → MovesTimed disk_of outlet_of (λ b a. IsToldOr (CommandText name command) b text changed a) old new
    fault_text faults.NoSuchAuthority changed wanting keeps is so moves = told_outcome (fault_outcome {D = D} faults.NoSuchAuthority) changed keeps is.0 so moves
    fault_text (faults.Shut rose) changed wanting keeps is so moves = told_outcome (fault_outcome {D = D} (faults.Shut rose)) changed keeps is.0 so moves
    fault_text (faults.JournalFull held needed) changed wanting keeps is so moves = told_outcome (fault_outcome {D = D} (faults.JournalFull held needed)) changed keeps is.0 so moves
    fault_text (faults.DiskFault rose) changed wanting keeps is so moves = told_outcome (fault_outcome {D = D} (faults.DiskFault rose)) changed keeps is.0 so moves
    fault_text faults.Memory changed wanting keeps is so moves = told_outcome (fault_outcome {D = D} faults.Memory) changed keeps is.0 so moves
    fault_text (faults.Verdict refusal) changed wanting keeps is so moves = elim is [
      | inl told ↦ told_outcome (fault_outcome {D = D} (faults.Verdict refusal)) changed keeps told.0 so moves
      | inr memory ↦ untold refusal changed keeps memory.0 so moves
    ]

  -- ---- a publication

  pub publish_told : (clock : ℕ) (outcome : Publication) (text : List ℕ) (changed : Bool) (old new : TimedInstance D O) → IsReading old.clock clock new.clock
      → new.kept ≡ keeps_of_publication_outcome outcome old.kept → text ≡ publish_text outcome → changed ≡ has_changed outcome → Moves disk_of outlet_of (λ b a. ComesTo clock outcome b a) old.instance new.instance
      → MovesTimed disk_of outlet_of (λ b a. PublishText b text changed a) old new
  publish_told clock outcome text changed old new read keeps is so moves =
      moves_at disk_of outlet_of (λ b a. ComesTo clock outcome b a) (λ b a. PublishText b text changed a) old new moves
      (λ before after comes. record { clock = clock; read = read; outcome = outcome; comes = comes; keeps = keeps; text_is = is; changed_is = so })

  -- ---- a read

  pub read_text : {E : Type 0} (IsRight : InstanceState → List ℕ → Type 0) (timed : TimedInstance D O) (result : Result (Vec ℕ Global) E) (told : List ℕ)
      → IfOk result (λ text. (state : InstanceState) → IsInState outlet_of timed.instance state → IsRight state text.items) → IsTextIn result told ⊎ (told ≡ memory_text)
      → MovesTimed disk_of outlet_of (λ b a. IsToldOr (λ before text changed after. IsToldSo (IsRight before.state) before text changed after) b told false a) timed timed
  read_text IsRight timed (Ok text) told is said =
      told_or_memory (λ before told changed after. IsToldSo (IsRight before.state) before told changed after) timed told (elim said [
        | inl same ↦ inl (λ before stands. record { text_is = subst (λ (t : List ℕ). IsRight before t) (sym same) (is before stands); unchanged = refl; same = refl })
        | inr memory ↦ inr memory
      ])
  read_text IsRight timed (Err wanting) told is said =
      told_or_memory (λ before told changed after. IsToldSo (IsRight before.state) before told changed after) timed told (elim said [
        | inl none ↦ absurd none
        | inr memory ↦ inr memory
      ])

  -- ---- a line

  pub said_text : (old new : TimedInstance D O) (line : List ℕ) (said : Line) (text : List ℕ) (changed : Bool) → ReadsLine line (Ok said)
      → MovesTimed disk_of outlet_of (λ b a. IsToldOr (SaidText said) b text changed a) old new → MayText disk_of outlet_of old line text changed new
  said_text old new line said text changed reads moves =
      timed_so disk_of outlet_of (λ b a. IsToldOr (SaidText said) b text changed a) (λ b a. IsText line b text changed a) old new moves
      (λ before after is. elim is [
        | inl told ↦ inl (record { said = Ok said; reads = reads; answer = told })
        | inr memory ↦ inr memory
      ])

  pub line_fault_text : (old : TimedInstance D O) (line : List ℕ) (fault : LineFault) (text : List ℕ) → (¬ (failed fault ≡ failed Memory) → ReadsLine line (Err fault))
      → (text ≡ fault_spelling fault) ⊎ (text ≡ memory_text) → MayText disk_of outlet_of old line text false old
  line_fault_text old line fault text reads is = told_or_memory (IsReadText line) old text (elim is [
    | inl told ↦ of_fault fault reads told
    | inr memory ↦ inr memory
  ])
    where
      of_fault : (fault : LineFault) → (¬ (failed fault ≡ failed Memory) → ReadsLine line (Err fault)) → text ≡ fault_spelling fault
          → ((before : InstanceState) → IsInState outlet_of old.instance before → IsReadText line (at_clock old.clock old.kept before) text false (at_clock old.clock old.kept before)) ⊎ (text ≡ memory_text)
      of_fault Memory reads told = inr told
      of_fault BadLine reads told = inl (λ before stands. record { said = Err BadLine; reads = reads (λ e. cc); answer = record { text_is = told; unchanged = refl; same = refl } })
      of_fault UnknownCommand reads told = inl (λ before stands. record { said = Err UnknownCommand; reads = reads (λ e. cc); answer = record { text_is = told; unchanged = refl; same = refl } })
      of_fault (BadField name) reads told = inl (λ before stands. record { said = Err (BadField name); reads = reads (λ e. cc); answer = record { text_is = told; unchanged = refl; same = refl } })

  pub blank_replies : (old : TimedInstance D O) (line : List ℕ) → IsBlank line → MayReply disk_of outlet_of old line [] false old
  blank_replies old line blank = stay_timed disk_of outlet_of (λ b a. IsReply b line [] false a) old
      (λ before stands. inl (blank, record { text_is = refl; unchanged = refl; same = refl }))

  pub text_replies : (old new : TimedInstance D O) (line text : List ℕ) (changed : Bool) → ¬ IsBlank line → MayText disk_of outlet_of old line text changed new → MayReply disk_of outlet_of old line (text ++ 10 ∷ []) changed new
  text_replies old new line text changed not_blank moves =
      timed_so disk_of outlet_of (λ b a. IsText line b text changed a) (λ b a. IsReply b line (text ++ 10 ∷ []) changed a) old new moves
      (λ before after is. inr (record { not_blank = not_blank; text = text; reply_is = refl; answer = is }))

  -- a line above the limit is neither blank nor a line of the table
  pub long_replies : (old : TimedInstance D O) (line : List ℕ) → LINE_LIMIT < length line → MayReply disk_of outlet_of old line (bad_line_text ++ 10 ∷ []) false old
  long_replies old line long =
      let none : (value : _) → ¬ IsDocument line value = λ value is. omega (arith, is.short, long) in
      let not_blank : ¬ IsBlank line = λ blank. omega (arith, blank.short, long) in
      text_replies old old line bad_line_text false not_blank
      (told_or_memory (IsReadText line) old bad_line_text (inl (λ before stands.
      record { said = Err BadLine; reads = inr (none, refl); answer = record { text_is = refl; unchanged = refl; same = refl } })))

  -- a line that says this, said by its kind
  pub kind_said : (P : TimedInstanceState → List ℕ → Bool → TimedInstanceState → Type 0) (said kind : Line) (old new : TimedInstance D O) (text : List ℕ) (changed taken : Bool)
      → said ≡ kind → changed ≡ taken → ((before after : TimedInstanceState) → P before text taken after → SaidText kind before text taken after)
      → MovesTimed disk_of outlet_of (λ b a. IsToldOr P b text taken a) old new
      → MovesTimed disk_of outlet_of (λ b a. IsToldOr (SaidText said) b text changed a) old new
  kind_said P said kind old new text changed taken said_is taken_is so moves =
      subst (λ (k : Bool). MovesTimed disk_of outlet_of (λ b a. IsToldOr (SaidText said) b text k a) old new) (sym taken_is)
      (subst (λ (l : Line). MovesTimed disk_of outlet_of (λ b a. IsToldOr (SaidText l) b text taken a) old new) (sym said_is)
      (timed_so disk_of outlet_of (λ b a. IsToldOr P b text taken a) (λ b a. IsToldOr (SaidText kind) b text taken a) old new moves
      (λ before after answer. elim answer [
        | inl is ↦ inl (so before after is)
        | inr memory ↦ inr memory
      ])))

  pub read_said : {E : Type 0} (said kind : Line) (IsRight : InstanceState → List ℕ → Type 0) (timed : TimedInstance D O) (result : Result (Vec ℕ Global) E) (told : List ℕ) (changed : Bool)
      → said ≡ kind → changed ≡ false
      → ((before after : TimedInstanceState) → IsToldSo (IsRight before.state) before told false after → SaidText kind before told false after)
      → IfOk result (λ text. (state : InstanceState) → IsInState outlet_of timed.instance state → IsRight state text.items) → IsTextIn result told ⊎ (told ≡ memory_text)
      → MovesTimed disk_of outlet_of (λ b a. IsToldOr (SaidText said) b told changed a) timed timed
  read_said said kind IsRight timed result told changed said_is none so is given =
      kind_said (λ before text taken after. IsToldSo (IsRight before.state) before text taken after) said kind timed timed told changed false said_is none so
      (read_text IsRight timed result told is given)

  -- what is said for sure
  pub surely : (P : TimedInstanceState → List ℕ → Bool → TimedInstanceState → Type 0) (old new : TimedInstance D O) (text : List ℕ) (changed : Bool)
      → MovesTimed disk_of outlet_of (λ b a. P b text changed a) old new → MovesTimed disk_of outlet_of (λ b a. IsToldOr P b text changed a) old new
  surely P old new text changed moves =
      timed_so disk_of outlet_of (λ b a. P b text changed a) (λ b a. IsToldOr P b text changed a) old new moves (λ before after is. inl is)
