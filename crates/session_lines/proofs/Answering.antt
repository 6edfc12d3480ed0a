-- What lines are answered, from what the manager's calls do.
use Rattle.std.proofs.Common.{◌≡◌, ℕ, ◌⊎◌, ◌<◌, Bool, true, false, List, [], ◌∷◌, ◌++◌, length, append-nil, refl, sym, ◌∙◌, ap, subst, inl, inr, arith, ⊎_elim}
use Rattle.std.specs.declared.alloc.Global.{Global}
use Rattle.std.specs.Prelude.{Result, Ok, Err, IfOk, Vec, Option}
use mathlib.Core.List.{IsPrefix}
use Rattle.disk_api.specs.declared.disk.Disk.{Ghosts as DiskGhosts}
use Rattle.authority_book.specs.declared.commands.Command.{Command}
use Rattle.commit_word.specs.Seats.{FollowerSeat}
use Rattle.desk_core.specs.declared.faults.DeskFault.{DeskFault}
use Rattle.desk_core.specs.declared.faults.DeskFault.TheVariants as desk
use Rattle.notice_board.specs.declared.shown.ShownEdition.{ShownEdition}
use Rattle.json_api.specs.declared.line.Line.{Line}
use Rattle.json_api.specs.declared.line.LineFault.{LineFault}
use Rattle.json_api.specs.declared.line.LineFault.TheVariants.{BadLine, UnknownCommand, BadField, Memory}
use Rattle.json_api.specs.Refused.{fault_spelling}
use Rattle.json_api.specs.Reply.{accepted_spelling}
use Rattle.json_api.specs.Line.{ReadsLine, IsDocument}
use Rattle.line_loop.specs.declared.TheConstants.{LINE_LIMIT}
use Rattle.manager.specs.Lists.{seat_at}
use Rattle.manager.specs.Passes.{PassValue, IsMore, KnowsMore, HasLearned}
use Rattle.manager.specs.Commanding.{IsAccepted, IsRefused}
use Rattle.manager.specs.declared.locked_desks_answers.CommandFault.{CommandFault}
use Rattle.manager.specs.declared.locked_desks_answers.CommandFault.TheVariants as command
use Rattle.session_lines.specs.Keeping.{KeptValue, keeps_of_command}
use Rattle.session_lines.specs.Texts.{memory_text, command_fault_text, IsCommandFaultText, leaves_command_in_doubt}
use Rattle.session_lines.specs.Replies.{SessionState, IsRead, IsWanting, IsToldOr, IsTold, IsCommandText, IsSaidText, IsReadText, IsLineText, IsText, IsBlank, bad_line_text, IsReply, IsTextIn}

-- what holds of the value of an Ok, seen otherwise
pub if_ok_so : {T E : Type 0} (r : Result T E) (P Q : T → Type 0) → IfOk r P → ((x : T) → P x → Q x) → IfOk r Q
if_ok_so (Ok x) P Q p f = f x p
if_ok_so (Err e) P Q p f = tt

-- ---- what was learned

pub prefix_same : {X : Type 0} (xs : List X) → IsPrefix xs xs
prefix_same xs = ([], append-nil xs)

pub knows_same : (seats : List FollowerSeat) → KnowsMore seats seats
knows_same seats = record { count = refl; each = λ place. record { grows = prefix_same (seat_at seats place).seen; rest = refl } }

pub learned_seats : (old new : PassValue) → new ≡ record old { seats = new.seats } → KnowsMore old.seats new.seats → HasLearned old new
learned_seats old new rest more = record {
  seats = more;
  shown = subst (λ (l : List ShownEdition). IsPrefix old.shown l) (sym (ap (λ (p : PassValue). p.shown) rest)) (prefix_same old.shown);
  places = ap (λ (p : PassValue). p.places) rest;
}

pub learned_shown : (old new : PassValue) → new ≡ record old { shown = new.shown } → IsPrefix old.shown new.shown → HasLearned old new
learned_shown old new rest grows = record {
  seats = subst (λ (l : List FollowerSeat). KnowsMore old.seats l) (sym (ap (λ (p : PassValue). p.seats) rest)) (knows_same old.seats);
  shown = grows;
  places = ap (λ (p : PassValue). p.places) rest;
}

-- ---- a read

-- It tells its text, or that memory was wanting.
pub read_told : {E : Type 0} (IsIt : PassValue → List ℕ → Type 0) (pass : PassValue) (before : SessionState) (result : Result (Vec ℕ Global) E) (told : List ℕ)
    → HasLearned before.pass pass → IfOk result (λ text. IsIt pass text.items) → IsTextIn result told ⊎ (told ≡ memory_text)
    → IsToldOr (IsRead IsIt) before told false (record before { pass = pass })
read_told IsIt pass before (Ok text) told learned is given = ⊎_elim
    (λ (same : told ≡ text.items). inl (record { text_is = subst (IsIt pass) (sym same) is; unchanged = refl; learned = learned; same = refl }))
    (λ (memory : told ≡ memory_text). inr (record { text_is = memory; unchanged = refl; learned = learned; same = refl }))
    given
read_told IsIt pass before (Err wanting) told learned is given = ⊎_elim
    (λ none. absurd none)
    (λ (memory : told ≡ memory_text). inr (record { text_is = memory; unchanged = refl; learned = learned; same = refl }))
    given

pub read_sure : (IsIt : PassValue → List ℕ → Type 0) (pass : PassValue) (before : SessionState) (text : List ℕ) → HasLearned before.pass pass → IsIt pass text
    → IsRead IsIt before text false (record before { pass = pass })
read_sure IsIt pass before text learned is = record { text_is = is; unchanged = refl; learned = learned; same = refl }

-- ---- a command

module _ {D : Type 0} (name : List ℕ) (given : Command) (signers : ℕ) (before : SessionState) (pass : PassValue) (rest : pass ≡ record before.pass { seats = pass.seats }) where
  pub accepted_told : (count : ℕ) (text : List ℕ) → IsAccepted name given signers count before.pass.seats pass.seats → text ≡ accepted_spelling name count
      → IsToldOr (IsCommandText D name given signers) before text true (record before { pass = pass })
  accepted_told count text is same = inl (record { outcome = Ok count; comes = (is, tt); rest = rest; same_clock = refl; kept = refl; text_is = same; changed_is = refl })

  fault_told : (fault : CommandFault D) (text : List ℕ) (changed : Bool) → IsRefused name given signers fault before.pass.seats pass.seats → text ≡ command_fault_text name fault → changed ≡ leaves_command_in_doubt fault
      → IsToldOr (IsCommandText D name given signers) before text changed (record before { pass = pass; kept = keeps_of_command fault before.kept })
  fault_told fault text changed is same doubt = inl (record { outcome = Err fault; comes = (tt, is); rest = rest; same_clock = refl; kept = refl; text_is = same; changed_is = doubt })

  -- what finds no memory for its text changes no desk, and keeps nothing
  pub refused_told : (fault : CommandFault D) (text : List ℕ) (changed : Bool) → IsRefused name given signers fault before.pass.seats pass.seats
      → IsCommandFaultText name fault text → changed ≡ leaves_command_in_doubt fault
      → IsToldOr (IsCommandText D name given signers) before text changed (record before { pass = pass; kept = keeps_of_command fault before.kept })
  refused_told command.NoSuchAuthority text changed is so doubt = fault_told command.NoSuchAuthority text changed is so doubt
  refused_told (command.Refused (desk.Shut rose)) text changed is so doubt = fault_told (command.Refused (desk.Shut rose)) text changed is so doubt
  refused_told (command.Refused (desk.JournalFull held needed)) text changed is so doubt = fault_told (command.Refused (desk.JournalFull held needed)) text changed is so doubt
  refused_told (command.Refused (desk.DiskFault rose)) text changed is so doubt = fault_told (command.Refused (desk.DiskFault rose)) text changed is so doubt
  refused_told (command.Refused desk.Memory) text changed is so doubt = fault_told (command.Refused desk.Memory) text changed is so doubt
  refused_told (command.Refused (desk.Verdict refusal)) text changed is so doubt = ⊎_elim
      (λ told. fault_told (command.Refused (desk.Verdict refusal)) text changed is told doubt)
      (λ memory. inr (record { text_is = memory; unchanged = doubt; learned = learned_seats before.pass pass rest is.more; same = refl }))
      so

-- ---- what a line says

-- what is said for sure
pub surely : (P : SessionState → List ℕ → Bool → SessionState → Type 0) (before : SessionState) (text : List ℕ) (changed : Bool) (after : SessionState)
    → P before text changed after → IsToldOr P before text changed after
surely P before text changed after is = inl is

-- by its kind
pub kind_said : {D : Type 0} (O : Type 0) (disk_of : DiskGhosts D) (signers : ℕ) (said kind : Line) (before : SessionState) (text : List ℕ) (changed : Bool) (after : SessionState)
    → said ≡ kind → IsToldOr (IsSaidText O disk_of signers kind) before text changed after → IsToldOr (IsSaidText O disk_of signers said) before text changed after
kind_said O disk_of signers said kind before text changed after is told =
    subst (λ (l : Line). IsToldOr (IsSaidText O disk_of signers l) before text changed after) (sym is) told

-- ---- a line

module _ {D : Type 0} (O : Type 0) (disk_of : DiskGhosts D) (signers : ℕ) (line : List ℕ) (before after : SessionState) where
  pub said_text : (said : Line) (text : List ℕ) (changed : Bool) → ReadsLine line (Ok said) → IsToldOr (IsSaidText O disk_of signers said) before text changed after
      → IsText O disk_of signers line before text changed after
  said_text said text changed reads told = ⊎_elim
      (λ is. inl (record { said = Ok said; reads = reads; answer = is }))
      (λ memory. inr memory)
      told

  pub text_replies : (text : List ℕ) (changed : Bool) → ¬ IsBlank line → IsText O disk_of signers line before text changed after → IsReply O disk_of signers before line (text ++ 10 ∷ []) changed after
  text_replies text changed not_blank is = inr (record { not_blank = not_blank; text = text; reply_is = refl; answer = is })

abbrev failed : LineFault → Result Line LineFault
failed fault = Err fault

module _ {D : Type 0} (O : Type 0) (disk_of : DiskGhosts D) (signers : ℕ) (line : List ℕ) (before : SessionState) where
  wanting : (text : List ℕ) → text ≡ memory_text → IsText O disk_of signers line before text false before
  wanting text memory = inr (record {
    text_is = memory;
    unchanged = refl;
    learned = learned_shown before.pass before.pass refl (prefix_same before.pass.shown);
    same = refl;
  })

  told_fault : (fault : LineFault) (text : List ℕ) → ReadsLine line (Err fault) → text ≡ fault_spelling fault → IsText O disk_of signers line before text false before
  told_fault fault text reads told = inl (record { said = Err fault; reads = reads; answer = record { text_is = told; unchanged = refl; same = refl } })

  pub line_fault_text : (fault : LineFault) (text : List ℕ) → (¬ (failed fault ≡ failed Memory) → ReadsLine line (Err fault)) → (text ≡ fault_spelling fault) ⊎ (text ≡ memory_text)
      → IsText O disk_of signers line before text false before
  line_fault_text Memory text reads told = ⊎_elim (λ same. wanting text same) (λ memory. wanting text memory) told
  line_fault_text BadLine text reads told = ⊎_elim (λ same. told_fault BadLine text (reads (λ e. cc)) same) (λ memory. wanting text memory) told
  line_fault_text UnknownCommand text reads told = ⊎_elim (λ same. told_fault UnknownCommand text (reads (λ e. cc)) same) (λ memory. wanting text memory) told
  line_fault_text (BadField name) text reads told = ⊎_elim (λ same. told_fault (BadField name) text (reads (λ e. cc)) same) (λ memory. wanting text memory) told

  pub blank_replies : IsBlank line → IsReply O disk_of signers before line [] false before
  blank_replies blank = inl (blank, record { text_is = refl; unchanged = refl; same = refl })

  -- a line above the limit is neither blank nor a line of the table
  pub long_replies : LINE_LIMIT < length line → IsReply O disk_of signers before line (bad_line_text ++ 10 ∷ []) false before
  long_replies long =
      let none : (value : _) → ¬ IsDocument line value = λ value is. omega (arith, is.short, long) in
      let not_blank : ¬ IsBlank line = λ blank. omega (arith, blank.short, long) in
      text_replies O disk_of signers line before before bad_line_text false not_blank (told_fault BadLine bad_line_text (inr (none, refl)) refl)
