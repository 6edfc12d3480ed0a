-- Sessions that were served at their seats, told of their passes and ends.
use Rattle.std.proofs.Common.{◌≡◌, ℕ, suc, ◌<◌, ◌≤◌, List, [], ◌∷◌, ◌++◌, length, reverse, refl, ap, ◌∙◌, sym, subst, arith}
use Rattle.std.specs.Prelude.{slice_index_or}
use Rattle.std.proofs.lemmas.List.{reverse-append}
use Rattle.host_calls.specs.Rise.{HasRisen}
use Rattle.disk_api.specs.declared.disk.Disk.{Ghosts as DiskGhosts}
use Rattle.line_loop.specs.declared.traits.Source.{Ghosts as SourceGhosts}
use Rattle.line_loop.specs.declared.traits.Sink.{Ghosts as SinkGhosts}
use Rattle.line_loop.specs.declared.traits.Clock.{Ghosts as ClockGhosts}
use Rattle.line_loop.specs.declared.session.SessionEnd.{SessionEnd}
use Rattle.manager.specs.Passes.{PassValue}
use Rattle.session_lines.specs.Keeping.{nothing_kept}
use Rattle.session_lines.specs.Replies.{SessionState}
use Rattle.session_lines.specs.Sessions.{Streams, streams_of, state_of, Converses, IsServed}
use Rattle.session_lines.specs.Runs.{streams_in, state_with, IsServedWith, AreServedWith}
use Rattle.session_lines.specs.inner.Seats.{IsSeated, AreSeated, AreServed, IsRisen, AreRisen}
use Rattle.session_lines.specs.declared.running.SessionEnds.{SessionEnds}
use Rattle.session_lines.specs.declared.running.SessionOutcome.{SessionOutcome}
use Rattle.session_lines.specs.declared.serving.ServedSession.{ServedSession}

module _ {D S K : Type 0} (O : Type 0) (disk_of : DiskGhosts D) (signers : ℕ) (source_of : SourceGhosts S) (sink_of : SinkGhosts K) where
  converses_as : (old other new another : Streams S K) (end : SessionEnd) (begun before ended after : SessionState) → old ≡ other → new ≡ another → begun ≡ before → ended ≡ after
      → Converses O disk_of signers source_of sink_of old new end begun ended → Converses O disk_of signers source_of sink_of other another end before after
  converses_as old other new another end begun before ended after first second third fourth is =
      subst (λ (s : Streams S K). Converses O disk_of signers source_of sink_of s another end before after) first
      (subst (λ (s : Streams S K). Converses O disk_of signers source_of sink_of old s end before after) second
      (subst (λ (s : SessionState). Converses O disk_of signers source_of sink_of old new end s after) third
      (subst (λ (s : SessionState). Converses O disk_of signers source_of sink_of old new end begun s) fourth is)))

module _ {N D O S K C : Type 0} (disk_of : DiskGhosts D) (signers : ℕ) (source_of : SourceGhosts S) (sink_of : SinkGhosts K) (clock_of : ClockGhosts C) where
  -- ---- one after another

  pub served_each : (olds news : List (ServedSession N D O S K C)) → length news ≡ length olds
      → ((n : ℕ) (d : ServedSession N D O S K C) → n < length olds → IsServed disk_of signers source_of sink_of clock_of (slice_index_or olds n d) (slice_index_or news n d))
      → AreServed disk_of signers source_of sink_of clock_of olds news
  served_each [] [] same each = tt
  served_each [] (new ∷ news) same each = absurd (omega (arith, same))
  served_each (old ∷ olds) [] same each = absurd (omega (arith, same))
  served_each (old ∷ olds) (new ∷ news) same each =
      (each 0 old (omega arith), served_each olds news (omega (arith, same)) (λ n d within. each (suc n) d (omega (arith, within))))

  served_push : (olds news : List (ServedSession N D O S K C)) (old new : ServedSession N D O S K C)
      → AreServed disk_of signers source_of sink_of clock_of olds news → IsServed disk_of signers source_of sink_of clock_of old new
      → AreServed disk_of signers source_of sink_of clock_of (olds ++ old ∷ []) (news ++ new ∷ [])
  served_push [] [] old new are is = (is, tt)
  served_push [] (n ∷ news) old new are is = absurd are
  served_push (o ∷ olds) [] old new are is = absurd are
  served_push (o ∷ olds) (n ∷ news) old new are is = (are.0, served_push olds news old new are.1 is)

  pub served_reversed : (olds news : List (ServedSession N D O S K C)) → AreServed disk_of signers source_of sink_of clock_of olds news
      → AreServed disk_of signers source_of sink_of clock_of (reverse olds) (reverse news)
  served_reversed [] [] are = tt
  served_reversed [] (n ∷ news) are = absurd are
  served_reversed (o ∷ olds) [] are = absurd are
  served_reversed (o ∷ olds) (n ∷ news) are =
      subst (λ (l : List (ServedSession N D O S K C)). AreServed disk_of signers source_of sink_of clock_of l (reverse (n ∷ news))) (sym (reverse-append (o ∷ []) olds))
      (subst (λ (l : List (ServedSession N D O S K C)). AreServed disk_of signers source_of sink_of clock_of (reverse olds ++ o ∷ []) l) (sym (reverse-append (n ∷ []) news))
      (served_push (reverse olds) (reverse news) o n (served_reversed olds news are.1) are.0))

  -- ---- a session with its pass and its ends

  same_streams : (one : ServedSession N D O S K C) (ends : SessionEnds S K C) → one.source ≡ ends.source → one.sink ≡ ends.sink → streams_of one ≡ streams_in ends
  same_streams one ends source sink =
      ap (λ (s : S). record { source = s; sink = one.sink }) source ∙ ap (λ (k : K). record { source = ends.source; sink = k }) sink

  served_with : (given left : PassValue) (old new : SessionEnds S K C) (outcome : SessionOutcome D O) (seat risen : ServedSession N D O S K C)
      → IsSeated given old seat → IsServed disk_of signers source_of sink_of clock_of seat risen → IsRisen risen left new outcome
      → IsServedWith disk_of signers source_of sink_of clock_of given left old new outcome
  served_with given left old new outcome seat risen sits is rises =
      let begins : state_of clock_of seat.handler ≡ state_with clock_of given old nothing_kept =
      ap (λ (p : PassValue). record { pass = p; clock = clock_of.readings seat.handler.clock; kept = seat.handler.kept }) sits.pass_is
      ∙ (ap (λ (c : C). record { pass = given; clock = clock_of.readings c; kept = seat.handler.kept }) sits.clock_is
      ∙ ap (λ (k : _). record { pass = given; clock = clock_of.readings old.clock; kept = k }) sits.kept_is) in
      let ends : state_of clock_of risen.handler ≡ state_with clock_of left new outcome.kept =
      ap (λ (p : PassValue). record { pass = p; clock = clock_of.readings risen.handler.clock; kept = risen.handler.kept }) (sym rises.pass_is)
      ∙ (ap (λ (c : C). record { pass = left; clock = clock_of.readings c; kept = risen.handler.kept }) (sym rises.clock_is)
      ∙ ap (λ (k : _). record { pass = left; clock = clock_of.readings new.clock; kept = k }) (sym rises.kept_is)) in
      record {
        end = is.end;
        ended = rises.ended_is ∙ is.ended;
        session = converses_as O disk_of signers source_of sink_of (streams_of seat) (streams_in old) (streams_of risen) (streams_in new) is.end (state_of clock_of seat.handler) (state_with clock_of given old nothing_kept)
            (state_of clock_of risen.handler) (state_with clock_of left new outcome.kept)
            (same_streams seat old sits.source_is sits.sink_is) (same_streams risen new (sym rises.source_is) (sym rises.sink_is)) begins ends is.session;
        source_fault = λ stopped. subst (λ (s : S). HasRisen (source_of.fault_count s) (source_of.fault_count new.source)) sits.source_is
            (subst (λ (s : S). HasRisen (source_of.fault_count seat.source) (source_of.fault_count s)) (sym rises.source_is) (is.source_fault stopped));
        sink_fault = λ stopped. subst (λ (k : K). HasRisen (sink_of.fault_count k) (sink_of.fault_count new.sink)) sits.sink_is
            (subst (λ (k : K). HasRisen (sink_of.fault_count seat.sink) (sink_of.fault_count k)) (sym rises.sink_is) (is.sink_fault stopped));
        source_later = subst (λ (s : S). source_of.fault_count s ≤ source_of.fault_count new.source) sits.source_is
            (subst (λ (s : S). source_of.fault_count seat.source ≤ source_of.fault_count s) (sym rises.source_is) is.source_later);
        sink_later = subst (λ (k : K). sink_of.fault_count k ≤ sink_of.fault_count new.sink) sits.sink_is
            (subst (λ (k : K). sink_of.fault_count seat.sink ≤ sink_of.fault_count k) (sym rises.sink_is) is.sink_later);
      }

  pub all_served_with : (given left : List PassValue) (olds news : List (SessionEnds S K C)) (outcomes : List (SessionOutcome D O)) (seats risen : List (ServedSession N D O S K C))
      → AreSeated given olds seats → AreServed disk_of signers source_of sink_of clock_of seats risen → AreRisen risen left news outcomes
      → AreServedWith disk_of signers source_of sink_of clock_of given left olds news outcomes
  all_served_with [] left (old ∷ olds) news outcomes seats risen sits are rises = absurd sits
  all_served_with [] left [] news outcomes (seat ∷ seats) risen sits are rises = absurd sits
  all_served_with [] left [] news outcomes [] (r ∷ risen) sits are rises = absurd are
  all_served_with [] [] [] [] [] [] [] sits are rises = tt
  all_served_with [] [] [] [] (outcome ∷ outcomes) [] [] sits are rises = absurd rises
  all_served_with [] [] [] (new ∷ news) outcomes [] [] sits are rises = absurd rises
  all_served_with [] (l ∷ left) [] news outcomes [] [] sits are rises = absurd rises
  all_served_with (g ∷ given) left [] news outcomes seats risen sits are rises = absurd sits
  all_served_with (g ∷ given) left (old ∷ olds) news outcomes [] risen sits are rises = absurd sits
  all_served_with (g ∷ given) left (old ∷ olds) news outcomes (seat ∷ seats) [] sits are rises = absurd are
  all_served_with (g ∷ given) [] (old ∷ olds) news outcomes (seat ∷ seats) (r ∷ risen) sits are rises = absurd rises
  all_served_with (g ∷ given) (l ∷ left) (old ∷ olds) [] outcomes (seat ∷ seats) (r ∷ risen) sits are rises = absurd rises
  all_served_with (g ∷ given) (l ∷ left) (old ∷ olds) (new ∷ news) [] (seat ∷ seats) (r ∷ risen) sits are rises = absurd rises
  all_served_with (g ∷ given) (l ∷ left) (old ∷ olds) (new ∷ news) (outcome ∷ outcomes) (seat ∷ seats) (r ∷ risen) sits are rises =
      (served_with g l old new outcome seat r sits.0 are.0 rises.0, all_served_with given left olds news outcomes seats risen sits.1 are.1 rises.1)
