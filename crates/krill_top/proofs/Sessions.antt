-- A session's replies over the program's instance are its replies over the states in which that is.
use Rattle.std.proofs.Common.{◌≡◌, ℕ, Bool, false, List, [], ◌∷◌, sym, subst, refl, inl, inr}
use Rattle.std.specs.Io.KnownBytes.{Consumes, Appends, IsAtEnd}
use Rattle.disk_api.specs.declared.disk.Disk.{Ghosts as DiskGhosts}
use Rattle.outlet_api.specs.declared.outlet.Outlet.{Ghosts as OutletGhosts}
use Rattle.line_loop.specs.declared.traits.Source.{Ghosts as SourceGhosts}
use Rattle.line_loop.specs.declared.traits.Sink.{Ghosts as SinkGhosts}
use Rattle.line_loop.specs.Lines.{all_lines, ended_lines}
use Rattle.line_loop.specs.Replies.{Answers, AnswersAtMostOne, BreaksOff}
use Rattle.line_loop.specs.Session.{Serves, Breaks}
use Rattle.line_loop.specs.declared.session.SessionEnd.{SessionEnd}
use Rattle.line_loop.specs.declared.session.SessionEnd.TheVariants.{End, SourceFault, SinkFault, Spent, Memory}
use Rattle.krill_top.specs.InstanceState.{InstanceState, TimedInstanceState, at_clock}
use Rattle.krill_top.specs.Replies.{IsReply}
use Rattle.krill_top.specs.inner.Instances.{TimedInstance, IsInState, Arrives, MovesTimed, MayReply}
use Rattle.krill_top.specs.Sessions.{Streams, Converses}
use Rattle.krill_top.proofs.Moving.{arrive_here, arrives_so, arrives_then, timed_so}

module _ {D O H : Type 0} (disk_of : DiskGhosts D) (outlet_of : OutletGhosts O) (timed_of : H → TimedInstance D O) where
  -- a handler's answers are those of its instance and clock
  abbrev May : H → List ℕ → List ℕ → Bool → H → Type 0
  May old line reply changed new = MayReply disk_of outlet_of (timed_of old) line reply changed (timed_of new)

  -- a state, and what the handler's clock tells
  abbrev In : H → InstanceState → TimedInstanceState
  In handler state = at_clock (timed_of handler).clock (timed_of handler).kept state

  abbrev Ends : (TimedInstanceState → TimedInstanceState → Type 0) → H → H → InstanceState → Type 0
  Ends P old new before = Arrives disk_of outlet_of (λ b a. P (In old b) (In new a)) (timed_of old).instance (timed_of new).instance before

  -- nothing was heard
  none_heard : (P : TimedInstanceState → TimedInstanceState → Type 0) (old new : H) (before : InstanceState) → P (In old before) (In old before) → new ≡ old → IsInState outlet_of (timed_of old).instance before → Ends P old new before
  none_heard P old new before so same stands =
      subst (λ (h : H). Ends P old h before) (sym same) (arrive_here disk_of outlet_of (λ b a. P (In old b) (In old a)) (timed_of old).instance before so stands)

  -- one part after another
  both : (P Q R : TimedInstanceState → TimedInstanceState → Type 0) (old mid new : H) (before : InstanceState) (first : Ends P old mid before) → Ends Q mid new first.after
      → ((after : InstanceState) → Q (In mid first.after) (In new after) → R (In old before) (In new after)) → Ends R old new before
  both P Q R old mid new before first rest so =
      arrives_then disk_of outlet_of (λ b a. P (In old b) (In mid a)) (λ b a. Q (In mid b) (In new a)) (λ b a. R (In old b) (In new a))
      (timed_of old).instance (timed_of mid).instance (timed_of new).instance before first rest so

  -- the same, seen otherwise
  ends_so : (P Q : TimedInstanceState → TimedInstanceState → Type 0) (old new : H) (before : InstanceState) → Ends P old new before → ((after : InstanceState) → P (In old before) (In new after) → Q (In old before) (In new after))
      → Ends Q old new before
  ends_so P Q old new before is so = arrives_so disk_of outlet_of (λ b a. P (In old b) (In new a)) (λ b a. Q (In old b) (In new a)) (timed_of old).instance (timed_of new).instance before is so

  answers_over : (lines : List (List ℕ)) (replies : List ℕ) (old new : H) (before : InstanceState)
      → Answers May old lines replies new → IsInState outlet_of (timed_of old).instance before → Ends (λ b a. Answers IsReply b lines replies a) old new before
  answers_over [] replies old new before a stands =
      none_heard (λ b e. Answers IsReply b [] replies e) old new before (a.0, refl) a.1 stands
  answers_over (line ∷ lines) replies old new before a stands =
      let first = a.5 before stands in
      let rest = answers_over lines a.1 a.3 new first.after a.6 first.stands in
      both (λ b e. IsReply b line a.0 a.2 e) (λ b e. Answers IsReply b lines a.1 e) (λ b e. Answers IsReply b (line ∷ lines) replies e) old a.3 new before first rest
      (λ after step. (a.0, a.1, a.2, In a.3 first.after, a.4, first.step, step))

  last_over : (lines : List (List ℕ)) (replies : List ℕ) (old new : H) (before : InstanceState)
      → AnswersAtMostOne May old lines replies new → IsInState outlet_of (timed_of old).instance before → Ends (λ b a. AnswersAtMostOne IsReply b lines replies a) old new before
  last_over [] replies old new before a stands =
      none_heard (λ b e. AnswersAtMostOne IsReply b [] replies e) old new before (a.0, refl) a.1 stands
  last_over (line ∷ []) replies old new before a stands =
      ends_so (λ b e. IsReply b line replies a.0 e) (λ b e. AnswersAtMostOne IsReply b (line ∷ []) replies e) old new before
      (a.1 before stands) (λ after step. (a.0, step))
  last_over (line ∷ next ∷ lines) replies old new before a stands =
      let first = a.4 before stands in
      let rest = last_over (next ∷ lines) a.1 a.2 new first.after a.5 first.stands in
      both (λ b e. IsReply b line a.0 false e) (λ b e. AnswersAtMostOne IsReply b (next ∷ lines) a.1 e) (λ b e. AnswersAtMostOne IsReply b (line ∷ next ∷ lines) replies e) old a.2 new before first rest
      (λ after step. (a.0, a.1, In a.2 first.after, a.3, first.step, step))

  breaks_over : (lines : List (List ℕ)) (written : List ℕ) (old new : H) (before : InstanceState)
      → BreaksOff May old lines written new → IsInState outlet_of (timed_of old).instance before → Ends (λ b a. BreaksOff IsReply b lines written a) old new before
  breaks_over lines written old new before b stands =
      let first = answers_over b.heard b.replies old b.mid before b.answered stands in
      let rest = last_over b.unheard b.more b.mid new first.after b.last first.stands in
      both (λ w e. Answers IsReply w b.heard b.replies e) (λ w e. AnswersAtMostOne IsReply w b.unheard b.more e) (λ w e. BreaksOff IsReply w lines written e) old b.mid new before first rest
      (λ after step. record {
        heard = b.heard;
        unheard = b.unheard;
        rest = b.rest;
        replies = b.replies;
        more = b.more;
        part = b.part;
        cut_off = b.cut_off;
        mid = In b.mid first.after;
        in_order = b.in_order;
        answered = first.step;
        last = step;
        taken = b.taken;
        lost = b.lost;
      })

  broken_over : (given written : List ℕ) (at_end : Type 0) (old new : H) (before : InstanceState)
      → Breaks May old given at_end written new → IsInState outlet_of (timed_of old).instance before → Ends (λ b a. Breaks IsReply b given at_end written a) old new before
  broken_over given written at_end old new before b stands = elim b.1 [
    | inl all ↦ ends_so (λ w e. BreaksOff IsReply w (all_lines given) written e) (λ w e. Breaks IsReply w given at_end written e) old new before
        (breaks_over (all_lines given) written old new before all.1 stands) (λ after step. (b.0, inl (all.0, step)))
    | inr some ↦ ends_so (λ w e. BreaksOff IsReply w (ended_lines given) written e) (λ w e. Breaks IsReply w given at_end written e) old new before
        (breaks_over (ended_lines given) written old new before some stands) (λ after step. (b.0, inr step))
  ]

  pub serves_over : (ended : SessionEnd) (given written : List ℕ) (at_end : Type 0) (old new : H)
      → Serves May old given at_end written new ended
      → MovesTimed disk_of outlet_of (λ b a. Serves IsReply b given at_end written a ended) (timed_of old) (timed_of new)
  serves_over End given written at_end old new s before stands =
      ends_so (λ b e. Answers IsReply b (all_lines given) written e) (λ b e. Serves IsReply b given at_end written e End) old new before
      (answers_over (all_lines given) written old new before s.2 stands) (λ after step. (s.0, s.1, step))
  serves_over SourceFault given written at_end old new s before stands =
      ends_so (λ b e. Answers IsReply b (ended_lines given) written e) (λ b e. Serves IsReply b given at_end written e SourceFault) old new before
      (answers_over (ended_lines given) written old new before s.1 stands) (λ after step. (s.0, step))
  serves_over (Spent bytes) given written at_end old new s before stands =
      ends_so (λ b e. Answers IsReply b (ended_lines given) written e) (λ b e. Serves IsReply b given at_end written e (Spent bytes)) old new before
      (answers_over (ended_lines given) written old new before s.2 stands) (λ after step. (s.0, s.1, step))
  serves_over SinkFault given written at_end old new s before stands = broken_over given written at_end old new before s stands
  serves_over Memory given written at_end old new s before stands = broken_over given written at_end old new before s stands

  -- the same, with what the source gave and the sink took
  pub converses_over : {S K : Type 0} (source_of : SourceGhosts S) (sink_of : SinkGhosts K) (before after : Streams S K) (ended : SessionEnd) (given written : List ℕ) (old new : H)
      → Consumes (source_of.left before.source) (source_of.left after.source) given → Appends (sink_of.taken before.sink) (sink_of.taken after.sink) written
      → Serves May old given (IsAtEnd (source_of.left after.source)) written new ended
      → MovesTimed disk_of outlet_of (Converses source_of sink_of before after ended) (timed_of old) (timed_of new)
  converses_over source_of sink_of before after ended given written old new came gave s =
      timed_so disk_of outlet_of (λ b a. Serves IsReply b given (IsAtEnd (source_of.left after.source)) written a ended) (Converses source_of sink_of before after ended)
      (timed_of old) (timed_of new) (serves_over ended given written (IsAtEnd (source_of.left after.source)) old new s)
      (λ b a step. record { given = given; written = written; source = came; sink = gave; replies = step })
