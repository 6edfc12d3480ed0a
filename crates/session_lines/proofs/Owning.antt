-- What is answered to lines makes just the commands that it says are accepted.
use Rattle.std.proofs.Common.{◌≡◌, ◌≢◌, ℕ, ◌⊎◌, ◌+◌, Bool, true, false, List, [], ◌∷◌, ◌++◌, length, append-nil, append_assoc, refl, sym, ◌∙◌, ap, subst, inl, inr, ⊎_elim}
use Rattle.std.specs.Prelude.{Result, Ok, Err, codes, decimal}
use Rattle.std.proofs.lemmas.Bool.{cases_eq, true≢false}
use Rattle.disk_api.specs.declared.disk.Disk.{Ghosts as DiskGhosts}
use Rattle.commit_word.specs.Seats.{FollowerSeat}
use Rattle.authority_book.specs.declared.commands.Command.{Command}
use Rattle.authority_book.specs.Refusals.{code_of, name_of}
use Rattle.cmd_codec.specs.Spelling.{spelling}
use Rattle.desk_core.specs.declared.faults.DeskFault.TheVariants as desk_fault
use mathlib.Core.List.{IsPrefix}
use Rattle.line_loop.specs.Lines.{all_lines, ended_lines}
use Rattle.line_loop.specs.Replies.{Answers, AnswersAtMostOne, BreaksOff}
use Rattle.line_loop.specs.Session.{Breaks, Serves}
use Rattle.line_loop.specs.declared.session.SessionEnd.{SessionEnd}
use Rattle.line_loop.specs.declared.session.SessionEnd.TheVariants.{End, SourceFault, SinkFault, Spent, Memory}
use Rattle.json_api.specs.Line.{ReadsLine}
use Rattle.json_api.specs.Refused.{verdict_detail}
use Rattle.json_api.specs.Reply.{accepted_spelling, refusal_spelling}
use Rattle.json_api.specs.declared.line.Line.{Line}
use Rattle.json_api.specs.declared.line.Line.TheVariants as said
use Rattle.json_api.specs.declared.line.LineFault.{LineFault}
use Rattle.manager.specs.Lists.{seat_at}
use Rattle.manager.specs.Passes.{PassValue, anchor_desk, KnowsMore}
use Rattle.manager.specs.Commanding.{IsAccepted, IsRefused}
use Rattle.manager.specs.declared.locked_desks_answers.CommandFault.{CommandFault}
use Rattle.manager.specs.declared.locked_desks_answers.CommandFault.TheVariants as command
use Rattle.session_lines.specs.Texts.{memory_text, command_fault_text, commanded_text, changes_a_desk}
use Rattle.session_lines.specs.Replies.{SessionState, IsRead, IsTold, IsCommanded, IsCommandText, IsSaidText, IsReadText, IsText, IsReply}
use Rattle.session_lines.specs.Own.{OwnCommand, IsAcceptedOwn, is_command, IsRefusalReply, MakesNothing, IsOwnOf, AreOwnOf, AreMadeAt, GrowsBy, MakesOwn, MakesLast, MakesOneMore, SessionMakes}
use Rattle.session_lines.proofs.Answering.{prefix_same, knows_same}
use Rattle.session_lines.proofs.Rising.{GoesUp, rising_of, up_none, up_one, up_both, front_on}

-- what one line made
record LineMakes (line reply : List ℕ) (changed : Bool) (old new : List FollowerSeat) : Type 0 where
  made : List OwnCommand
  own : IsOwnOf line reply new made
  grows : GrowsBy made old new
  unchanged : changed ≡ false → made ≡ []
  rises : (desk : ℕ) → GoesUp (seat_at old desk) (seat_at new desk)

-- ---- nothing, or one command

none_grows : (old new : List FollowerSeat) → KnowsMore old new → GrowsBy [] old new
none_grows old new more = λ desk. ([], refl, ap (λ (s : FollowerSeat). s.mine) (more.each desk).rest ∙ sym (append-nil (seat_at old desk).mine))

none_rises : (old new : List FollowerSeat) → KnowsMore old new → (desk : ℕ) → GoesUp (seat_at old desk) (seat_at new desk)
none_rises old new more desk = up_none (seat_at old desk) (seat_at new desk) (more.each desk)

nothing : (line reply : List ℕ) (changed : Bool) (old new : List FollowerSeat) → MakesNothing line reply → KnowsMore old new → LineMakes line reply changed old new
nothing line reply changed old new none more = record { made = []; own = inl (refl, none); grows = none_grows old new more; unchanged = λ no. refl; rises = none_rises old new more }

module _ (name : List ℕ) (given : Command) (signers count : ℕ) (old new : List FollowerSeat) (is : IsAccepted name given signers count old new) where
  own_of : OwnCommand
  own_of = record { desk = is.desk; place = length is.taken.before; entry = spelling given }

  one_grows : GrowsBy (own_of ∷ []) old new
  unfolding own_of
  one_grows desk = ⊎_elim
      (λ (same : desk ≡ is.desk). (
        (length is.taken.before, spelling given) ∷ [],
        inl ([], sym same, refl, refl),
        subst (λ (n : ℕ). (seat_at new n).mine ≡ (seat_at old n).mine ++ (length is.taken.before, spelling given) ∷ []) (sym same) (ap (λ (s : FollowerSeat). s.mine) is.taken.made),
      ))
      (λ (away : desk ≢ is.desk). (
        [],
        inr ((λ (same : is.desk ≡ desk). away (sym same)), refl),
        ap (λ (s : FollowerSeat). s.mine) (is.others desk away).rest ∙ sym (append-nil (seat_at old desk).mine),
      ))
      (cases_eq desk is.desk)

  one_rises : (desk : ℕ) → GoesUp (seat_at old desk) (seat_at new desk)
  one_rises desk = ⊎_elim
      (λ (same : desk ≡ is.desk). subst (λ (n : ℕ). GoesUp (seat_at old n) (seat_at new n)) (sym same) (up_one is.desk given signers count (seat_at old is.desk) (seat_at new is.desk) is.taken))
      (λ (away : desk ≢ is.desk). up_none (seat_at old desk) (seat_at new desk) (is.others desk away))
      (cases_eq desk is.desk)

  accepted_makes : (line text : List ℕ) (changed : Bool) → ReadsLine line (Ok (said.Command name given)) → text ≡ accepted_spelling name count → changed ≡ true
      → LineMakes line (text ++ 10 ∷ []) changed old new
  unfolding own_of
  accepted_makes line text changed says told change = record {
    made = own_of ∷ [];
    own = inr (
      own_of,
      refl,
      record {
        name = name;
        command = given;
        says = says;
        reply_is = ap (λ (t : List ℕ). t ++ 10 ∷ []) (told ∙ ap (accepted_spelling name) is.taken.counted);
        entry_is = refl;
        known = new;
        named = is.named;
        front = prefix_same (seat_at new anchor_desk).seen;
      },
    );
    grows = one_grows;
    unchanged = λ (no : changed ≡ false). absurd (true≢false (sym change ∙ no));
    rises = one_rises;
  }

-- ---- a refusal

is_refusal : (text : List ℕ) (code : ℕ) (detail refusal : List ℕ) → text ≡ refusal_spelling code detail refusal → IsRefusalReply (text ++ 10 ∷ [])
is_refusal text code detail refusal same = record { code = code; detail = detail; refusal = refusal; reply_is = ap (λ (t : List ℕ). t ++ 10 ∷ []) same }

memory_refusal : (text : List ℕ) → text ≡ memory_text → IsRefusalReply (text ++ 10 ∷ [])
memory_refusal text same = is_refusal text 40 [] (codes "Memory") same

refused_reply : {D : Type 0} (name : List ℕ) (fault : CommandFault D) (text : List ℕ) → text ≡ command_fault_text name fault → IsRefusalReply (text ++ 10 ∷ [])
refused_reply name command.NoSuchAuthority text same = is_refusal text 20 name (codes "NoSuchAuthority") same
refused_reply name (command.Refused (desk_fault.Shut rose)) text same = is_refusal text 21 [] (codes "Shut") same
refused_reply name (command.Refused (desk_fault.Verdict refusal)) text same = is_refusal text (code_of refusal) (verdict_detail refusal) (name_of refusal) same
refused_reply name (command.Refused (desk_fault.JournalFull held needed)) text same =
    is_refusal text 22 (decimal held ++ codes " " ++ decimal needed) (codes "JournalFull") same
refused_reply name (command.Refused (desk_fault.DiskFault rose)) text same = is_refusal text 23 (decimal rose.0) (codes "DiskFault") same
refused_reply name (command.Refused desk_fault.Memory) text same = memory_refusal text same

-- ---- a command

refused_more : {D : Type 0} (name : List ℕ) (given : Command) (signers : ℕ) (fault : CommandFault D) (old new : List FollowerSeat) → IsRefused name given signers fault old new → KnowsMore old new
refused_more name given signers command.NoSuchAuthority old new is = is.0
refused_more name given signers (command.Refused fault) old new is = is.more

module _ {D : Type 0} (name : List ℕ) (given : Command) (signers : ℕ) (old new : List FollowerSeat) (line text : List ℕ) (changed : Bool) where
  commanded : (outcome : Result ℕ (CommandFault D)) → IsCommanded name given signers outcome old new → ReadsLine line (Ok (said.Command name given)) → text ≡ commanded_text name outcome
      → changed ≡ changes_a_desk outcome → LineMakes line (text ++ 10 ∷ []) changed old new
  commanded (Ok count) comes says told change = accepted_makes name given signers count old new comes.0 line text changed says told change
  commanded (Err fault) comes says told change = nothing line (text ++ 10 ∷ []) changed old new (inr (inr (refused_reply name fault text told))) (refused_more name given signers fault old new comes.1)

-- ---- a line

no_command : (line reply : List ℕ) (says : Result Line LineFault) → ReadsLine line says → is_command says ≡ false → MakesNothing line reply
no_command line reply says reads other = inr (inl (record { says = says; reads = reads; other = other }))

read_makes : (IsIt : PassValue → List ℕ → Type 0) (line text : List ℕ) (before : SessionState) (changed : Bool) (after : SessionState) → MakesNothing line (text ++ 10 ∷ []) → IsRead IsIt before text changed after
    → LineMakes line (text ++ 10 ∷ []) changed before.pass.seats after.pass.seats
read_makes IsIt line text before changed after none is = nothing line (text ++ 10 ∷ []) changed before.pass.seats after.pass.seats none is.learned.seats

same_makes : (line reply : List ℕ) (before : SessionState) (changed : Bool) (after : SessionState) → MakesNothing line reply → after ≡ before → LineMakes line reply changed before.pass.seats after.pass.seats
same_makes line reply before changed after none same =
    nothing line reply changed before.pass.seats after.pass.seats none (subst (λ (s : SessionState). KnowsMore before.pass.seats s.pass.seats) (sym same) (knows_same before.pass.seats))

module _ {D : Type 0} (O : Type 0) (disk_of : DiskGhosts D) (signers : ℕ) (line : List ℕ) where
  said_makes : (before : SessionState) (text : List ℕ) (changed : Bool) (after : SessionState) (says : Line) → ReadsLine line (Ok says) → IsSaidText O disk_of signers says before text changed after
      → LineMakes line (text ++ 10 ∷ []) changed before.pass.seats after.pass.seats
  said_makes before text changed after (said.Command name given) reads is =
      commanded name given signers before.pass.seats after.pass.seats line text changed is.outcome is.comes reads is.text_is is.changed_is
  said_makes before text changed after said.Publish reads is =
      nothing line (text ++ 10 ∷ []) changed before.pass.seats after.pass.seats (no_command line (text ++ 10 ∷ []) (Ok said.Publish) reads refl) is.comes.learned.seats
  said_makes before text changed after said.Serial reads is = read_makes _ line text before changed after (no_command line (text ++ 10 ∷ []) (Ok said.Serial) reads refl) is
  said_makes before text changed after (said.Await serial looks) reads is = read_makes _ line text before changed after (no_command line (text ++ 10 ∷ []) (Ok (said.Await serial looks)) reads refl) is
  said_makes before text changed after said.List reads is = read_makes _ line text before changed after (no_command line (text ++ 10 ∷ []) (Ok said.List) reads refl) is
  said_makes before text changed after (said.Show name) reads is = read_makes _ line text before changed after (no_command line (text ++ 10 ∷ []) (Ok (said.Show name)) reads refl) is
  said_makes before text changed after (said.Roas name) reads is = read_makes _ line text before changed after (no_command line (text ++ 10 ∷ []) (Ok (said.Roas name)) reads refl) is
  said_makes before text changed after (said.History name) reads is = read_makes _ line text before changed after (no_command line (text ++ 10 ∷ []) (Ok (said.History name)) reads refl) is

  read_line_makes : (before : SessionState) (text : List ℕ) (changed : Bool) (after : SessionState) (says : Result Line LineFault) → ReadsLine line says → IsReadText O disk_of signers says before text changed after
      → LineMakes line (text ++ 10 ∷ []) changed before.pass.seats after.pass.seats
  read_line_makes before text changed after (Ok says) reads is = said_makes before text changed after says reads is
  read_line_makes before text changed after (Err fault) reads is = same_makes line (text ++ 10 ∷ []) before changed after (no_command line (text ++ 10 ∷ []) (Err fault) reads refl) is.same

  text_makes : (before : SessionState) (text : List ℕ) (changed : Bool) (after : SessionState) → IsText O disk_of signers line before text changed after
      → LineMakes line (text ++ 10 ∷ []) changed before.pass.seats after.pass.seats
  text_makes before text changed after told = ⊎_elim
      (λ is. read_line_makes before text changed after is.said is.reads is.answer)
      (λ memory. read_makes _ line text before changed after (inr (inr (memory_refusal text memory.text_is))) memory)
      told

  reply_makes : (before : SessionState) (reply : List ℕ) (changed : Bool) (after : SessionState) → IsReply O disk_of signers before line reply changed after
      → LineMakes line reply changed before.pass.seats after.pass.seats
  reply_makes before reply changed after told = ⊎_elim
      (λ blank. same_makes line reply before changed after (inl (blank.0, blank.1.text_is)) blank.1.same)
      (λ is. subst (λ (r : List ℕ). LineMakes line r changed before.pass.seats after.pass.seats) (sym is.reply_is) (text_makes before is.text changed after is.answer))
      told

-- ---- lines

-- what a line made it made too where more is known
own_later : (line reply : List ℕ) (mid new : List FollowerSeat) (made : List OwnCommand) → IsPrefix (seat_at mid anchor_desk).seen (seat_at new anchor_desk).seen → IsOwnOf line reply mid made → IsOwnOf line reply new made
own_later line reply mid new made grows is = ⊎_elim
    (λ none. inl none)
    (λ one. inr (
      one.0,
      one.1,
      record {
        name = one.2.name;
        command = one.2.command;
        says = one.2.says;
        reply_is = one.2.reply_is;
        entry_is = one.2.entry_is;
        known = one.2.known;
        named = one.2.named;
        front = front_on (seat_at one.2.known anchor_desk).seen (seat_at mid anchor_desk).seen (seat_at new anchor_desk).seen one.2.front grows;
      },
    ))
    is

made_both : (desk : ℕ) (first more : List OwnCommand) (one other : List (ℕ × List ℕ)) → AreMadeAt desk first one → AreMadeAt desk more other → AreMadeAt desk (first ++ more) (one ++ other)
made_both desk [] more one other none are = subst (λ (l : List (ℕ × List ℕ)). AreMadeAt desk more (l ++ other)) (sym none) are
made_both desk (own ∷ first) more one other made are = ⊎_elim
    (λ here. inl (here.0 ++ other, here.1, ap (λ (l : List (ℕ × List ℕ)). l ++ other) here.2, made_both desk first more here.0 other here.3 are))
    (λ away. inr (away.0, made_both desk first more one other away.1 are))
    made

grows_both : (first more : List OwnCommand) (old mid new : List FollowerSeat) → GrowsBy first old mid → GrowsBy more mid new → GrowsBy (first ++ more) old new
grows_both first more old mid new one two = λ desk. let a = one desk in let b = two desk in (
  a.0 ++ b.0,
  made_both desk first more a.0 b.0 a.1 b.1,
  b.2 ∙ (ap (λ (l : List (ℕ × List ℕ)). l ++ b.0) a.2 ∙ append_assoc (seat_at old desk).mine a.0 b.0),
)

module _ {D : Type 0} (O : Type 0) (disk_of : DiskGhosts D) (signers : ℕ) where
  answers_rise : (before : SessionState) (lines : List (List ℕ)) (replies : List ℕ) (after : SessionState) → Answers (IsReply O disk_of signers) before lines replies after
      → (desk : ℕ) → GoesUp (seat_at before.pass.seats desk) (seat_at after.pass.seats desk)
  answers_rise before [] replies after is =
      none_rises before.pass.seats after.pass.seats (subst (λ (s : SessionState). KnowsMore before.pass.seats s.pass.seats) (sym is.1) (knows_same before.pass.seats))
  answers_rise before (line ∷ lines) replies after is = λ desk. up_both (seat_at before.pass.seats desk) (seat_at is.3.pass.seats desk) (seat_at after.pass.seats desk)
      ((reply_makes O disk_of signers line before is.0 is.2 is.3 is.5).rises desk) (answers_rise is.3 lines is.1 after is.6 desk)

  pub answers_make : (before : SessionState) (lines : List (List ℕ)) (replies : List ℕ) (after : SessionState) → Answers (IsReply O disk_of signers) before lines replies after
      → MakesOwn lines replies before.pass.seats after.pass.seats
  answers_make before [] replies after is = record {
    made = [];
    own = (is.0, refl);
    grows = none_grows before.pass.seats after.pass.seats (subst (λ (s : SessionState). KnowsMore before.pass.seats s.pass.seats) (sym is.1) (knows_same before.pass.seats));
  }
  answers_make before (line ∷ lines) replies after is =
      let one = reply_makes O disk_of signers line before is.0 is.2 is.3 is.5 in
      let rest = answers_make is.3 lines is.1 after is.6 in record {
        made = one.made ++ rest.made;
        own = (
          is.0,
          is.1,
          one.made,
          rest.made,
          is.4,
          refl,
          own_later line is.0 is.3.pass.seats after.pass.seats one.made (answers_rise is.3 lines is.1 after is.6 anchor_desk).grows one.own,
          rest.own,
        );
        grows = grows_both one.made rest.made before.pass.seats is.3.pass.seats after.pass.seats one.grows rest.grows;
      }

  -- ---- a session

  -- nothing, or what the last of the lines made
  abbrev MadeLast : List (List ℕ) → List FollowerSeat → List FollowerSeat → Type 0
  MadeLast lines old new = GrowsBy [] old new ⊎ MakesLast lines old new

  one_more : (line reply : List ℕ) (changed : Bool) (old new : List FollowerSeat) → LineMakes line reply changed old new → MadeLast (line ∷ []) old new
  one_more line reply changed old new is = ⊎_elim
      (λ none. inl (subst (λ (l : List OwnCommand). GrowsBy l old new) none.0 is.grows))
      (λ one. inr (record {
        before = [];
        line = line;
        is_last = refl;
        reply = reply;
        own = one.0;
        accepted = one.2;
        grows = subst (λ (l : List OwnCommand). GrowsBy l old new) one.1 is.grows;
      }))
      is.own

  none_then : (line : List ℕ) (lines : List (List ℕ)) (old mid new : List FollowerSeat) → GrowsBy [] old mid → MadeLast lines mid new → MadeLast (line ∷ lines) old new
  none_then line lines old mid new none more = ⊎_elim
      (λ (rest : GrowsBy [] mid new). inl (grows_both [] [] old mid new none rest))
      (λ (one : MakesLast lines mid new). inr (record {
        before = line ∷ one.before;
        line = one.line;
        is_last = ap (λ (l : List (List ℕ)). line ∷ l) one.is_last;
        reply = one.reply;
        own = one.own;
        accepted = one.accepted;
        grows = grows_both [] (one.own ∷ []) old mid new none one.grows;
      }))
      more

  last_makes : (before : SessionState) (lines : List (List ℕ)) (replies : List ℕ) (after : SessionState) → AnswersAtMostOne (IsReply O disk_of signers) before lines replies after
      → MadeLast lines before.pass.seats after.pass.seats
  last_makes before [] replies after is =
      inl (none_grows before.pass.seats after.pass.seats (subst (λ (s : SessionState). KnowsMore before.pass.seats s.pass.seats) (sym is.1) (knows_same before.pass.seats)))
  last_makes before (line ∷ []) replies after is =
      one_more line replies is.0 before.pass.seats after.pass.seats (reply_makes O disk_of signers line before replies is.0 after is.1)
  last_makes before (line ∷ next ∷ lines) replies after is =
      let one = reply_makes O disk_of signers line before is.0 false is.2 is.4 in
      none_then line (next ∷ lines) before.pass.seats is.2.pass.seats after.pass.seats
      (subst (λ (l : List OwnCommand). GrowsBy l before.pass.seats is.2.pass.seats) (one.unchanged refl) one.grows)
      (last_makes is.2 (next ∷ lines) is.1 after is.5)

  last_rises : (before : SessionState) (lines : List (List ℕ)) (replies : List ℕ) (after : SessionState) → AnswersAtMostOne (IsReply O disk_of signers) before lines replies after
      → (desk : ℕ) → GoesUp (seat_at before.pass.seats desk) (seat_at after.pass.seats desk)
  last_rises before [] replies after is =
      none_rises before.pass.seats after.pass.seats (subst (λ (s : SessionState). KnowsMore before.pass.seats s.pass.seats) (sym is.1) (knows_same before.pass.seats))
  last_rises before (line ∷ []) replies after is = (reply_makes O disk_of signers line before replies is.0 after is.1).rises
  last_rises before (line ∷ next ∷ lines) replies after is = λ desk. up_both (seat_at before.pass.seats desk) (seat_at is.2.pass.seats desk) (seat_at after.pass.seats desk)
      ((reply_makes O disk_of signers line before is.0 false is.2 is.4).rises desk) (last_rises is.2 (next ∷ lines) is.1 after is.5 desk)

  none_left : (lines given : List (List ℕ)) → IsPrefix lines given → IsPrefix (lines ++ []) given
  none_left lines given front = subst (λ (l : List (List ℕ)). IsPrefix l given) (sym (append-nil lines)) front

  -- where each line that was answered was told of it
  all_make : (end : SessionEnd) → ((old new : List FollowerSeat) → GrowsBy [] old new → MakesOneMore end [] old new)
      → (before : SessionState) (given : List ℕ) (lines : List (List ℕ)) (written : List ℕ) (after : SessionState) → IsPrefix (lines ++ []) (all_lines given) ⊎ IsPrefix (lines ++ []) (ended_lines given)
      → Answers (IsReply O disk_of signers) before lines written after → SessionMakes end given written before.pass.seats after.pass.seats
  all_make end none before given lines written after came is = record {
    heard = lines;
    unheard = [];
    came = came;
    replies = written;
    taken = prefix_same written;
    between = after.pass.seats;
    own = answers_make before lines written after is;
    last = none after.pass.seats after.pass.seats (none_grows after.pass.seats after.pass.seats (knows_same after.pass.seats));
    rises = λ desk. rising_of (seat_at before.pass.seats desk) (seat_at after.pass.seats desk) (answers_rise before lines written after is desk);
  }

  -- where the replies break off
  off_makes : (end : SessionEnd) → ((lines : List (List ℕ)) (old new : List FollowerSeat) → MadeLast lines old new → MakesOneMore end lines old new)
      → (before : SessionState) (given : List ℕ) (lines : List (List ℕ)) (written : List ℕ) (after : SessionState)
      → ((front : List (List ℕ)) → IsPrefix front lines → IsPrefix front (all_lines given) ⊎ IsPrefix front (ended_lines given))
      → BreaksOff (IsReply O disk_of signers) before lines written after → SessionMakes end given written before.pass.seats after.pass.seats
  off_makes end some before given lines written after came is = record {
    heard = is.heard;
    unheard = is.unheard;
    came = came (is.heard ++ is.unheard) (is.rest, sym is.in_order);
    replies = is.replies;
    taken = (is.part, sym is.taken);
    between = is.mid.pass.seats;
    own = answers_make before is.heard is.replies is.mid is.answered;
    last = some is.unheard is.mid.pass.seats after.pass.seats (last_makes is.mid is.unheard is.more after is.last);
    rises = λ desk. rising_of (seat_at before.pass.seats desk) (seat_at after.pass.seats desk)
        (up_both (seat_at before.pass.seats desk) (seat_at is.mid.pass.seats desk) (seat_at after.pass.seats desk)
        (answers_rise before is.heard is.replies is.mid is.answered desk) (last_rises is.mid is.unheard is.more after is.last desk));
  }

  breaks_make : (end : SessionEnd) → ((lines : List (List ℕ)) (old new : List FollowerSeat) → MadeLast lines old new → MakesOneMore end lines old new)
      → (before : SessionState) (given : List ℕ) (at_end : Type 0) (written : List ℕ) (after : SessionState) → Breaks (IsReply O disk_of signers) before given at_end written after
      → SessionMakes end given written before.pass.seats after.pass.seats
  breaks_make end some before given at_end written after is = ⊎_elim
      (λ last. off_makes end some before given (all_lines given) written after (λ lines front. inl front) last.1)
      (λ off. off_makes end some before given (ended_lines given) written after (λ lines front. inr front) off)
      is.1

  pub session_makes : (before : SessionState) (given : List ℕ) (at_end : Type 0) (written : List ℕ) (after : SessionState) (end : SessionEnd) → Serves (IsReply O disk_of signers) before given at_end written after end
      → SessionMakes end given written before.pass.seats after.pass.seats
  session_makes before given at_end written after End is =
      all_make End (λ old new none. none) before given (all_lines given) written after (inl (none_left (all_lines given) (all_lines given) (prefix_same (all_lines given)))) is.2
  session_makes before given at_end written after SourceFault is =
      all_make SourceFault (λ old new none. none) before given (ended_lines given) written after (inr (none_left (ended_lines given) (ended_lines given) (prefix_same (ended_lines given)))) is.1
  session_makes before given at_end written after (Spent bytes) is =
      all_make (Spent bytes) (λ old new none. none) before given (ended_lines given) written after (inr (none_left (ended_lines given) (ended_lines given) (prefix_same (ended_lines given)))) is.2
  session_makes before given at_end written after SinkFault is = breaks_make SinkFault (λ lines old new made. made) before given at_end written after is
  session_makes before given at_end written after Memory is = breaks_make Memory (λ lines old new made. made) before given at_end written after is
