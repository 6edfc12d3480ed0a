-- What is answered over handlers, told of what they have.
use Rattle.std.proofs.Common.{◌≡◌, ℕ, Bool, List, [], ◌∷◌, ◌++◌, ap, inl, inr, ⊎_elim}
use Rattle.line_loop.specs.Lines.{all_lines, ended_lines}
use Rattle.line_loop.specs.Replies.{Answers, AnswersAtMostOne, BreaksOff}
use Rattle.line_loop.specs.Session.{Breaks, Serves}
use Rattle.line_loop.specs.declared.session.SessionEnd.{SessionEnd}
use Rattle.line_loop.specs.declared.session.SessionEnd.TheVariants.{End, SourceFault, SinkFault, Spent, Memory}

module _ {H S : Type 0} (state_of : H → S) (answers : S → List ℕ → List ℕ → Bool → S → Type 0) where
  abbrev pub Over : H → List ℕ → List ℕ → Bool → H → Type 0
  Over old line reply changes new = answers (state_of old) line reply changes (state_of new)

  all_over : (old : H) (lines : List (List ℕ)) (replies : List ℕ) (new : H) → Answers Over old lines replies new → Answers answers (state_of old) lines replies (state_of new)
  all_over old [] replies new is = (is.0, ap state_of is.1)
  all_over old (line ∷ lines) replies new is =
      (is.0, is.1, is.2, state_of is.3, is.4, is.5, all_over is.3 lines is.1 new is.6)

  one_over : (old : H) (lines : List (List ℕ)) (replies : List ℕ) (new : H) → AnswersAtMostOne Over old lines replies new → AnswersAtMostOne answers (state_of old) lines replies (state_of new)
  one_over old [] replies new is = (is.0, ap state_of is.1)
  one_over old (line ∷ []) replies new is = is
  one_over old (line ∷ next ∷ lines) replies new is =
      (is.0, is.1, state_of is.2, is.3, is.4, one_over is.2 (next ∷ lines) is.1 new is.5)

  off_over : (old : H) (lines : List (List ℕ)) (written : List ℕ) (new : H) → BreaksOff Over old lines written new → BreaksOff answers (state_of old) lines written (state_of new)
  off_over old lines written new is = record {
    heard = is.heard;
    unheard = is.unheard;
    rest = is.rest;
    replies = is.replies;
    more = is.more;
    part = is.part;
    cut_off = is.cut_off;
    mid = state_of is.mid;
    in_order = is.in_order;
    answered = all_over old is.heard is.replies is.mid is.answered;
    last = one_over is.mid is.unheard is.more new is.last;
    taken = is.taken;
    lost = is.lost;
  }

  breaks_over : (old : H) (given : List ℕ) (at_end : Type 0) (written : List ℕ) (new : H) → Breaks Over old given at_end written new → Breaks answers (state_of old) given at_end written (state_of new)
  breaks_over old given at_end written new is = (
    is.0,
    ⊎_elim
        (λ last. inl (last.0, off_over old (all_lines given) written new last.1))
        (λ off. inr (off_over old (ended_lines given) written new off))
        is.1,
  )

  pub serves_over : (old : H) (given : List ℕ) (at_end : Type 0) (written : List ℕ) (new : H) (end : SessionEnd) → Serves Over old given at_end written new end → Serves answers (state_of old) given at_end written (state_of new) end
  serves_over old given at_end written new End is = (is.0, is.1, all_over old (all_lines given) written new is.2)
  serves_over old given at_end written new SourceFault is = (is.0, all_over old (ended_lines given) written new is.1)
  serves_over old given at_end written new (Spent bytes) is = (is.0, is.1, all_over old (ended_lines given) written new is.2)
  serves_over old given at_end written new SinkFault is = breaks_over old given at_end written new is
  serves_over old given at_end written new Memory is = breaks_over old given at_end written new is
