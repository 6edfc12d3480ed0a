-- A workload from state to state, by the calls that it makes.
use Rattle.std.proofs.Common.{◌≡◌, ℕ, ◌+◌, ◌⊎◌, Bool, List, [], ◌∷◌, ◌++◌, length, refl, ◌∙◌, ap, subst, inl, inr}
use Rattle.std.specs.Prelude.{Option, None, Some, Result, Ok, Err}
use Rattle.std.specs.Io.KnownBytes.{Appends}
use Rattle.disk_api.specs.declared.disk.Disk.{Ghosts as DiskGhosts}
use Rattle.outlet_api.specs.declared.outlet.Outlet.{Ghosts as OutletGhosts}
use Rattle.line_loop.specs.declared.traits.Sink.{Ghosts as SinkGhosts}
use Rattle.line_loop.specs.Readings.{IsReading}
use Rattle.authority_book.specs.declared.commands.Command.{Command}
use Rattle.editions.specs.declared.published_state.PublishedNumbers.{PublishedNumbers}
use Rattle.krill_top.specs.declared.command_fault.CommandFault.{CommandFault}
use Rattle.krill_top.specs.declared.command_fault.CommandFault.TheVariants as command_faults
use Rattle.krill_top.specs.declared.faults.RunFault.{RunFault}
use Rattle.krill_top.specs.declared.faults.RunFault.TheVariants as faults
use Rattle.krill_top.specs.declared.generated.Wanted.{Wanted}
use Rattle.krill_top.specs.Generated.{IsCommandOf, generated, changed}
use Rattle.krill_top.specs.InstanceState.{TimedInstanceState, at_clock}
use Rattle.krill_top.specs.Keeps.{keeps_of_command_outcome, keeps_of_publication_outcome}
use Rattle.krill_top.specs.Outcomes.{fault_outcome}
use Rattle.krill_top.specs.Outcomes.Outcome.{Accepted}
use Rattle.krill_top.specs.Publishing.{Outcome as Publication, ComesTo}
use Rattle.krill_top.specs.Replies.{CommandedIn, IsFaultText}
use Rattle.krill_top.specs.Statuses.{wanting_fault}
use Rattle.krill_top.specs.Telling.{Tells}
use Rattle.krill_top.specs.Working.{IsUnasked, IsRefusalOf, Gives, IsGiven, IsAccepted, IsNotAccepted, AreAccepted, IsStop, StopsAmong, AreGiven, PublishesSo, IsPublishedOrTold, PublishesOrNot, IsMade, told_of, GoesOn, DoesPart, Works}
use Rattle.krill_top.specs.inner.Handlers.{worked}
use Rattle.krill_top.specs.inner.Instances.{TimedInstance, Moves, MovesTimed}
use Rattle.krill_top.proofs.Moving.{stay_timed, moves_at, moves_then, timed_so}

-- ---- one after another

accepted_more : (given : List Wanted) (wanted : Wanted) (before between after : TimedInstanceState) → AreAccepted given before between → IsAccepted wanted between after → AreAccepted (given ++ wanted ∷ []) before after
accepted_more [] wanted before between after all is = (after, subst (λ (t : TimedInstanceState). IsAccepted wanted t after) all is, refl)
accepted_more (first ∷ rest) wanted before between after all is = (all.0, all.1, accepted_more rest wanted all.0 between after all.2 is)

-- the next one isn't accepted
pub stops_at : (given more : List Wanted) (wanted : Wanted) (reply : List ℕ) (fault : Option RunFault) (before between after : TimedInstanceState) → AreAccepted given before between
    → IsUnasked reply fault between after ⊎ IsNotAccepted wanted reply fault between after → StopsAmong (given ++ wanted ∷ more) reply fault before after
stops_at given more wanted reply fault before between after all stop = record {
  given = given;
  left = wanted ∷ more;
  split = refl;
  between = between;
  accepted = all;
  stop = stop;
}

-- memory was wanting at first
pub unasked_first : (commands : List Wanted) (state : TimedInstanceState) → StopsAmong commands [] (Some faults.Memory) state state
unasked_first commands state = record {
  given = [];
  left = commands;
  split = refl;
  between = state;
  accepted = refl;
  stop = by commands;
}
  where
    by : (left : List Wanted) → IsStop left [] (Some faults.Memory) state state
    by [] = record { nothing = refl; memory = refl; same = refl }
    by (next ∷ more) = inl (record { nothing = refl; memory = refl; same = refl })

module _ {D O : Type 0} (disk_of : DiskGhosts D) (outlet_of : OutletGhosts O) where
  -- one call after another
  pub timed_then : (P Q R : TimedInstanceState → TimedInstanceState → Type 0) (old mid new : TimedInstance D O) → MovesTimed disk_of outlet_of P old mid → MovesTimed disk_of outlet_of Q mid new
      → ((before between after : TimedInstanceState) → P before between → Q between after → R before after) → MovesTimed disk_of outlet_of R old new
  timed_then P Q R old mid new first rest so =
      moves_then disk_of outlet_of (λ b a. P (at_clock old.clock old.kept b) (at_clock mid.clock mid.kept a)) (λ b a. Q (at_clock mid.clock mid.kept b) (at_clock new.clock new.kept a)) (λ b a. R (at_clock old.clock old.kept b) (at_clock new.clock new.kept a)) old.instance mid.instance new.instance first rest
      (λ before between after stands p q. so (at_clock old.clock old.kept before) (at_clock mid.clock mid.kept between) (at_clock new.clock new.kept after) p q)

  -- no command yet
  pub none_yet : (timed : TimedInstance D O) → MovesTimed disk_of outlet_of (λ b a. AreAccepted [] b a) timed timed
  none_yet timed = stay_timed disk_of outlet_of (λ b a. AreAccepted [] b a) timed (λ before stands. refl)

  pub one_more : {T : Type 0} (given : List Wanted) (wanted : Wanted) (reply : List ℕ) (done : T) (old mid new : TimedInstance D O) → MovesTimed disk_of outlet_of (λ b a. AreAccepted given b a) old mid
      → MovesTimed disk_of outlet_of (λ b a. IsGiven {T = T} wanted reply (Ok done) b a) mid new → MovesTimed disk_of outlet_of (λ b a. AreAccepted (given ++ wanted ∷ []) b a) old new
  one_more {T} given wanted reply done old mid new first rest =
      timed_then (λ b a. AreAccepted given b a) (λ b a. IsGiven {T = T} wanted reply (Ok done) b a) (λ b a. AreAccepted (given ++ wanted ∷ []) b a) old mid new first rest
      (λ before between after all is. accepted_more given wanted before between after all is)

  pub no_more : (T : Type 0) (given more : List Wanted) (wanted : Wanted) (reply : List ℕ) (fault : Option RunFault) (old mid new : TimedInstance D O) → MovesTimed disk_of outlet_of (λ b a. AreAccepted given b a) old mid
      → MovesTimed disk_of outlet_of (λ b a. IsGiven {T = T} wanted reply (Err fault) b a) mid new → MovesTimed disk_of outlet_of (λ b a. StopsAmong (given ++ wanted ∷ more) reply fault b a) old new
  no_more T given more wanted reply fault old mid new first rest =
      timed_then (λ b a. AreAccepted given b a) (λ b a. IsGiven {T = T} wanted reply (Err fault) b a) (λ b a. StopsAmong (given ++ wanted ∷ more) reply fault b a) old mid new first rest
      (λ before between after all stop. stops_at given more wanted reply fault before between after all stop)

-- ---- how a command that isn't accepted is told

refusal_told : {D : Type 0} (name : List ℕ) (fault : CommandFault D) (text reply : List ℕ) (wanting : Bool) → reply ≡ text ++ 10 ∷ [] → IsFaultText name fault text wanting
    → IsRefusalOf name (fault_outcome fault) reply (wanting_fault wanting)
refusal_told name command_faults.NoSuchAuthority text reply wanting is told = (is ∙ ap (λ (t : List ℕ). t ++ 10 ∷ []) told.0, ap wanting_fault told.1)
refusal_told name (command_faults.Shut rose) text reply wanting is told = (is ∙ ap (λ (t : List ℕ). t ++ 10 ∷ []) told.0, ap wanting_fault told.1)
refusal_told name (command_faults.JournalFull held needed) text reply wanting is told = (is ∙ ap (λ (t : List ℕ). t ++ 10 ∷ []) told.0, ap wanting_fault told.1)
refusal_told name (command_faults.DiskFault rose) text reply wanting is told = (is ∙ ap (λ (t : List ℕ). t ++ 10 ∷ []) told.0, ap wanting_fault told.1)
refusal_told name command_faults.Memory text reply wanting is told = (is ∙ ap (λ (t : List ℕ). t ++ 10 ∷ []) told.0, ap wanting_fault told.1)
refusal_told name (command_faults.Verdict refusal) text reply wanting is told = elim told [
  | inl so ↦ inl (is ∙ ap (λ (t : List ℕ). t ++ 10 ∷ []) so.0, ap wanting_fault so.1)
  | inr memory ↦ inr (is ∙ ap (λ (t : List ℕ). t ++ 10 ∷ []) memory.0, ap wanting_fault memory.1)
]

module _ {D O : Type 0} (disk_of : DiskGhosts D) (outlet_of : OutletGhosts O) where
  pub unasked_give : (T : Type 0) (name : List ℕ) (command : Command) (reply : List ℕ) (timed : TimedInstance D O) → reply ≡ []
      → MovesTimed disk_of outlet_of (λ b a. Gives {T = T} name command reply (Err (Some faults.Memory)) b a) timed timed
  unasked_give T name command reply timed none =
      stay_timed disk_of outlet_of (λ b a. Gives {T = T} name command reply (Err (Some faults.Memory)) b a) timed
      (λ before stands. inl (record { nothing = none; memory = refl; same = refl }))

  pub given_accepted : {T : Type 0} (name : List ℕ) (command : Command) (reply : List ℕ) (done : T) (count : ℕ) (old new : TimedInstance D O) → new.clock ≡ old.clock → new.kept ≡ old.kept
      → Moves disk_of outlet_of (λ b a. CommandedIn name command (Accepted count) b a) old.instance new.instance → MovesTimed disk_of outlet_of (λ b a. Gives {T = T} name command reply (Ok done) b a) old new
  given_accepted {T} name command reply done count old new same same_kept moves =
      moves_at disk_of outlet_of (λ b a. CommandedIn name command (Accepted count) b a) (λ b a. Gives {T = T} name command reply (Ok done) b a) old new moves
      (λ before after comes. record { count = count; comes = comes; same_clock = same; same_kept = same_kept })

  pub given_refused : (T : Type 0) (name : List ℕ) (command : Command) (text reply : List ℕ) (fault : CommandFault D) (wanting : Bool) (old new : TimedInstance D O) → new.clock ≡ old.clock
      → new.kept ≡ keeps_of_command_outcome (fault_outcome fault) old.kept → reply ≡ text ++ 10 ∷ [] → IsFaultText name fault text wanting
      → Moves disk_of outlet_of (λ b a. CommandedIn name command (fault_outcome fault) b a) old.instance new.instance
      → MovesTimed disk_of outlet_of (λ b a. Gives {T = T} name command reply (Err (wanting_fault wanting)) b a) old new
  given_refused T name command text reply fault wanting old new same keeps is told moves =
      moves_at disk_of outlet_of (λ b a. CommandedIn name command (fault_outcome fault) b a) (λ b a. Gives {T = T} name command reply (Err (wanting_fault wanting)) b a) old new moves
      (λ before after comes. inr (record { outcome = fault_outcome fault; comes = comes; same_clock = same; keeps = keeps; told = refusal_told name fault text reply wanting is told }))

  -- ---- a command that is wanted

  pub wanted_given : {T : Type 0} (wanted : Wanted) (name : List ℕ) (command : Command) (reply : List ℕ) (result : Result T (Option RunFault)) (old new : TimedInstance D O) → IsCommandOf wanted name command
      → MovesTimed disk_of outlet_of (λ b a. Gives name command reply result b a) old new → MovesTimed disk_of outlet_of (λ b a. IsGiven wanted reply result b a) old new
  wanted_given {T} wanted name command reply (Ok done) old new is moves =
      timed_so disk_of outlet_of (λ b a. Gives {T = T} name command reply (Ok done) b a) (λ b a. IsGiven {T = T} wanted reply (Ok done) b a) old new moves
      (λ before after gives. record { name = name; command = command; is_wanted = is; taken = gives })
  wanted_given {T} wanted name command reply (Err fault) old new is moves =
      timed_so disk_of outlet_of (λ b a. Gives {T = T} name command reply (Err fault) b a) (λ b a. IsGiven {T = T} wanted reply (Err fault) b a) old new moves
      (λ before after gives. elim gives [
        | inl unasked ↦ inl unasked
        | inr refused ↦ inr (record { name = name; command = command; is_wanted = is; refused = refused })
      ])

  pub unasked_wanted : (T : Type 0) (wanted : Wanted) (reply : List ℕ) (timed : TimedInstance D O) → reply ≡ []
      → MovesTimed disk_of outlet_of (λ b a. IsGiven {T = T} wanted reply (Err (Some faults.Memory)) b a) timed timed
  unasked_wanted T wanted reply timed none =
      stay_timed disk_of outlet_of (λ b a. IsGiven {T = T} wanted reply (Err (Some faults.Memory)) b a) timed
      (λ before stands. inl (record { nothing = none; memory = refl; same = refl }))

  -- ---- a publication

  pub unasked_publish : (reply : List ℕ) (timed : TimedInstance D O) → reply ≡ [] → MovesTimed disk_of outlet_of (λ b a. PublishesOrNot reply (Err (Some faults.Memory)) b a) timed timed
  unasked_publish reply timed none =
      stay_timed disk_of outlet_of (λ b a. PublishesOrNot reply (Err (Some faults.Memory)) b a) timed
      (λ before stands. inl (record { nothing = none; memory = refl; same = refl }))

  publishes_so : (reply : List ℕ) (result : Result PublishedNumbers (Option RunFault)) (before after : TimedInstanceState) → PublishesSo reply result before after → PublishesOrNot reply result before after
  publishes_so reply (Ok published) before after is = is
  publishes_so reply (Err fault) before after is = inr is

  pub published_so : (reply : List ℕ) (clock : ℕ) (outcome : Publication) (result : Result PublishedNumbers (Option RunFault)) (old new : TimedInstance D O) → IsReading old.clock clock new.clock
      → new.kept ≡ keeps_of_publication_outcome outcome old.kept → IsPublishedOrTold outcome result [] reply → Moves disk_of outlet_of (λ b a. ComesTo clock outcome b a) old.instance new.instance
      → MovesTimed disk_of outlet_of (λ b a. PublishesOrNot reply result b a) old new
  published_so reply clock outcome result old new read keeps told moves =
      moves_at disk_of outlet_of (λ b a. ComesTo clock outcome b a) (λ b a. PublishesOrNot reply result b a) old new moves
      (λ before after comes. publishes_so reply result (at_clock old.clock old.kept before) (at_clock new.clock new.kept after) (record {
        outcome = outcome;
        publishes = record { clock = clock; read = read; comes = comes; keeps = keeps };
        told = told;
      }))

  -- ---- commands and a publication

  made_so : (commands : List Wanted) (reply : List ℕ) (made : Result PublishedNumbers (Option RunFault)) (before between after : TimedInstanceState) → AreAccepted commands before between → PublishesOrNot reply made between after
      → IsMade commands reply made before after
  made_so commands reply (Ok published) before between after all publishes = record { between = between; accepted = all; publishes = publishes }
  made_so commands reply (Err fault) before between after all publishes = inr (record { between = between; accepted = all; publishes = publishes })

  pub made_then : {T : Type 0} (commands : List Wanted) (so_far reply : List ℕ) (done : T) (made : Result PublishedNumbers (Option RunFault)) (old mid new : TimedInstance D O)
      → MovesTimed disk_of outlet_of (λ b a. AreGiven {T = T} commands so_far (Ok done) b a) old mid
      → MovesTimed disk_of outlet_of (λ b a. PublishesOrNot reply made b a) mid new → MovesTimed disk_of outlet_of (λ b a. IsMade commands reply made b a) old new
  made_then {T} commands so_far reply done made old mid new first rest =
      timed_then disk_of outlet_of (λ b a. AreGiven {T = T} commands so_far (Ok done) b a) (λ b a. PublishesOrNot reply made b a) (λ b a. IsMade commands reply made b a) old mid new first rest
      (λ before between after all publishes. made_so commands reply made before between after all publishes)

  pub made_not : (T : Type 0) (commands : List Wanted) (reply : List ℕ) (fault : Option RunFault) (old new : TimedInstance D O)
      → MovesTimed disk_of outlet_of (λ b a. AreGiven {T = T} commands reply (Err fault) b a) old new → MovesTimed disk_of outlet_of (λ b a. IsMade commands reply (Err fault) b a) old new
  made_not T commands reply fault old new moves =
      timed_so disk_of outlet_of (λ b a. AreGiven {T = T} commands reply (Err fault) b a) (λ b a. IsMade commands reply (Err fault) b a) old new moves (λ before after stops. inl stops)

  -- ---- a part, and what is told of it

  module _ {K T : Type 0} (sink_of : SinkGhosts K) where
    abbrev failed : Option RunFault → Result T (Option RunFault)
    failed fault = Err fault

    pub part_told : (authorities count : ℕ) (commands : List Wanted) (reply : List ℕ) (made : Result PublishedNumbers (Option RunFault)) (stopped : Option RunFault) (result : Result T (Option RunFault))
        (old_sink new_sink : K) (old new : TimedInstance D O) → MovesTimed disk_of outlet_of (λ b a. IsMade commands reply made b a) old new
        → Tells sink_of (told_of authorities count reply made) stopped old_sink new_sink → GoesOn made stopped result
        → MovesTimed disk_of outlet_of (λ b a. DoesPart sink_of authorities count commands result (worked old_sink b) (worked new_sink a)) old new
    part_told authorities count commands reply made stopped result old_sink new_sink old new moves tells on =
        timed_so disk_of outlet_of (λ b a. IsMade commands reply made b a) (λ b a. DoesPart sink_of authorities count commands result (worked old_sink b) (worked new_sink a)) old new moves
        (λ before after is_made. record { reply = reply; made = made; stopped = stopped; is_made = is_made; tells = tells; goes_on = on })

    -- ---- the two parts

    pub works_whole : (authorities : ℕ) (done : T) (result : Result T (Option RunFault)) (old_sink mid_sink new_sink : K) (old mid new : TimedInstance D O)
        → MovesTimed disk_of outlet_of (λ b a. DoesPart sink_of authorities (length (generated authorities)) (generated authorities) (Ok done) (worked old_sink b) (worked mid_sink a)) old mid
        → MovesTimed disk_of outlet_of (λ b a. DoesPart sink_of authorities (length (generated authorities) + 1) changed result (worked mid_sink b) (worked new_sink a)) mid new
        → MovesTimed disk_of outlet_of (λ b a. Works sink_of authorities result (worked old_sink b) (worked new_sink a)) old new
    works_whole authorities done result old_sink mid_sink new_sink old mid new first rest =
        timed_then disk_of outlet_of (λ b a. DoesPart sink_of authorities (length (generated authorities)) (generated authorities) (Ok done) (worked old_sink b) (worked mid_sink a))
        (λ b a. DoesPart sink_of authorities (length (generated authorities) + 1) changed result (worked mid_sink b) (worked new_sink a))
        (λ b a. Works sink_of authorities result (worked old_sink b) (worked new_sink a)) old mid new first rest
        (λ before between after does next. record { between = worked mid_sink between; first = Ok done; does = does; second = next })

    pub works_not : (authorities : ℕ) (fault : Option RunFault) (old_sink new_sink : K) (old new : TimedInstance D O)
        → MovesTimed disk_of outlet_of (λ b a. DoesPart sink_of authorities (length (generated authorities)) (generated authorities) (failed fault) (worked old_sink b) (worked new_sink a)) old new
        → MovesTimed disk_of outlet_of (λ b a. Works sink_of authorities (failed fault) (worked old_sink b) (worked new_sink a)) old new
    works_not authorities fault old_sink new_sink old new moves =
        timed_so disk_of outlet_of (λ b a. DoesPart sink_of authorities (length (generated authorities)) (generated authorities) (failed fault) (worked old_sink b) (worked new_sink a))
        (λ b a. Works sink_of authorities (failed fault) (worked old_sink b) (worked new_sink a)) old new moves
        (λ before after does. record { between = worked new_sink after; first = failed fault; does = does; second = (refl, refl) })

    pub works_parts : (authorities count more : ℕ) (commands last : List Wanted) (done : T) (result : Result T (Option RunFault)) (old_sink mid_sink new_sink : K) (old mid new : TimedInstance D O)
        → commands ≡ generated authorities → count ≡ length commands → more ≡ count + 1 → last ≡ changed
        → MovesTimed disk_of outlet_of (λ b a. DoesPart sink_of authorities count commands (Ok done) (worked old_sink b) (worked mid_sink a)) old mid
        → MovesTimed disk_of outlet_of (λ b a. DoesPart sink_of authorities more last result (worked mid_sink b) (worked new_sink a)) mid new
        → MovesTimed disk_of outlet_of (λ b a. Works sink_of authorities result (worked old_sink b) (worked new_sink a)) old new
    works_parts authorities count more commands last done result old_sink mid_sink new_sink old mid new same counted next is first rest =
        works_whole authorities done result old_sink mid_sink new_sink old mid new
        (subst (λ (n : ℕ). MovesTimed disk_of outlet_of (λ b a. DoesPart sink_of authorities n (generated authorities) (Ok done) (worked old_sink b) (worked mid_sink a)) old mid) (counted ∙ ap length same)
        (subst (λ (l : List Wanted). MovesTimed disk_of outlet_of (λ b a. DoesPart sink_of authorities count l (Ok done) (worked old_sink b) (worked mid_sink a)) old mid) same first))
        (subst (λ (n : ℕ). MovesTimed disk_of outlet_of (λ b a. DoesPart sink_of authorities n changed result (worked mid_sink b) (worked new_sink a)) mid new) (next ∙ ap (λ (n : ℕ). n + 1) (counted ∙ ap length same))
        (subst (λ (l : List Wanted). MovesTimed disk_of outlet_of (λ b a. DoesPart sink_of authorities more l result (worked mid_sink b) (worked new_sink a)) mid new) is rest))

    pub works_part : (authorities count : ℕ) (commands : List Wanted) (fault : Option RunFault) (old_sink new_sink : K) (old new : TimedInstance D O)
        → commands ≡ generated authorities → count ≡ length commands
        → MovesTimed disk_of outlet_of (λ b a. DoesPart sink_of authorities count commands (failed fault) (worked old_sink b) (worked new_sink a)) old new
        → MovesTimed disk_of outlet_of (λ b a. Works sink_of authorities (failed fault) (worked old_sink b) (worked new_sink a)) old new
    works_part authorities count commands fault old_sink new_sink old new same counted first =
        works_not authorities fault old_sink new_sink old new
        (subst (λ (n : ℕ). MovesTimed disk_of outlet_of (λ b a. DoesPart sink_of authorities n (generated authorities) (failed fault) (worked old_sink b) (worked new_sink a)) old new) (counted ∙ ap length same)
        (subst (λ (l : List Wanted). MovesTimed disk_of outlet_of (λ b a. DoesPart sink_of authorities count l (failed fault) (worked old_sink b) (worked new_sink a)) old new) same first))

    -- no memory for the commands
    pub works_none : (authorities : ℕ) (sink : K) (timed : TimedInstance D O) → Appends (sink_of.taken sink) (sink_of.taken sink) []
        → MovesTimed disk_of outlet_of (λ b a. Works sink_of authorities (failed (Some faults.Memory)) (worked sink b) (worked sink a)) timed timed
    works_none authorities sink timed none =
        works_not authorities (Some faults.Memory) sink sink timed timed
        (part_told authorities (length (generated authorities)) (generated authorities) [] (Err (Some faults.Memory)) None (failed (Some faults.Memory)) sink sink timed timed
        (stay_timed disk_of outlet_of (λ b a. IsMade (generated authorities) [] (Err (Some faults.Memory)) b a) timed (λ before stands. inl (unasked_first (generated authorities) (at_clock timed.clock timed.kept before))))
        none refl)
