-- Where a workload ended well, or by a refusal that is a reply alone, the last edition is exported.
use Rattle.std.proofs.Common.{◌≡◌, ℕ, true, not, ◌+◌, List, [], ◌∷◌, length, refl, sym, ◌∙◌, ap, inl, inr, arith}
use Rattle.std.specs.Prelude.{Option, None, Some, Result, Ok, Err}
use Rattle.line_loop.specs.declared.traits.Sink.{Ghosts as SinkGhosts}
use Rattle.line_loop.specs.declared.session.SessionEnd.TheVariants.{End}
use Rattle.editions.specs.declared.published_state.PublishedNumbers.{PublishedNumbers}
use Rattle.krill_top.specs.declared.faults.RunFault.{RunFault}
use Rattle.krill_top.specs.declared.faults.RunFault.TheVariants as faults
use Rattle.krill_top.specs.declared.generated.Wanted.{Wanted}
use Rattle.krill_top.specs.Generated.{generated, changed}
use Rattle.krill_top.specs.Exports.{Repeats}
use Rattle.krill_top.specs.InstanceState.{InstanceState, TimedInstanceState, is_exported}
use Rattle.krill_top.specs.Publishing.{Outcome as Publication, Unmade, IsNotMade, ComesTo}
use Rattle.krill_top.specs.Publishing.Unmade.{ByPress, Shut, JournalFull, DiskFault}
use Rattle.krill_top.specs.Publishing.Outcome.{Published, Unexported, Repeated, Refused}
use Rattle.krill_top.specs.Statuses.{run_status, graver, unpublished_fault}
use Rattle.krill_top.specs.Working.{IsUnasked, IsNotAccepted, AreAccepted, IsStop, StopsAmong, IsPublishedOrTold, PublishesSo, PublishesOrNot, IsMade, GoesOn, Worked, DoesPart, GoesOnWith, Works, ended_by}
use Rattle.krill_top.proofs.Closing.{exported_all, well_exported}

pub begun_exported : (O : Type 0) (opened begun : InstanceState) → Repeats {O = O} (Ok (not (is_exported opened))) opened begun → is_exported begun ≡ true
begun_exported O opened begun repeats = well_exported {O = O} End (Ok (not (is_exported opened))) opened begun repeats refl

-- ---- commands change no export

accepted_keeps : (commands : List Wanted) (before after : TimedInstanceState) → AreAccepted commands before after → is_exported after.state ≡ is_exported before.state
accepted_keeps [] before after same = ap (λ (t : TimedInstanceState). is_exported t.state) same
accepted_keeps (wanted ∷ rest) before after is =
    accepted_keeps rest is.0 after is.2 ∙ ap is_exported is.1.taken.comes.same

refused_keeps : (wanted : Wanted) (reply : List ℕ) (fault : Option RunFault) (before after : TimedInstanceState) → IsNotAccepted wanted reply fault before after → is_exported after.state ≡ is_exported before.state
refused_keeps wanted reply fault before after is = ap is_exported is.refused.comes.same

unasked_keeps : (reply : List ℕ) (fault : Option RunFault) (before after : TimedInstanceState) → IsUnasked reply fault before after → is_exported after.state ≡ is_exported before.state
unasked_keeps reply fault before after is = ap (λ (t : TimedInstanceState). is_exported t.state) is.same

stop_keeps : (left : List Wanted) (reply : List ℕ) (fault : Option RunFault) (before after : TimedInstanceState) → IsStop left reply fault before after → is_exported after.state ≡ is_exported before.state
stop_keeps [] reply fault before after is = unasked_keeps reply fault before after is
stop_keeps (next ∷ more) reply fault before after is = elim is [
  | inl unasked ↦ unasked_keeps reply fault before after unasked
  | inr refused ↦ refused_keeps next reply fault before after refused
]

stops_keeps : (commands : List Wanted) (reply : List ℕ) (fault : Option RunFault) (before after : TimedInstanceState) → StopsAmong commands reply fault before after → is_exported after.state ≡ is_exported before.state
stops_keeps commands reply fault before after is =
    stop_keeps is.left reply fault is.between after is.stop ∙ accepted_keeps is.given before is.between is.accepted

-- ---- a publication

not_made_keeps : (clock : ℕ) (unmade : Unmade) (before after : InstanceState) → IsNotMade clock unmade before after → is_exported after ≡ is_exported before
not_made_keeps clock (ByPress fault) before after is = ap is_exported is.same.same
not_made_keeps clock (Shut rose) before after is = ap is_exported is.same
not_made_keeps clock (JournalFull held needed met) before after is = ap is_exported is.same.same
not_made_keeps clock (DiskFault rose) before after is = ap is_exported is.doubted

comes_exported : (clock : ℕ) (outcome : Publication) (before after : InstanceState) → ComesTo clock outcome before after → unpublished_fault outcome ≡ None → is_exported before ≡ true → is_exported after ≡ true
comes_exported clock (Published published) before after comes none was = exported_all comes.made after comes.exported
comes_exported clock (Unexported serial stopped) before after comes none was = absurd (cc)
comes_exported clock (Repeated unmade) before after comes none was = exported_all comes.stood after comes.exported
comes_exported clock (Refused serial unmade) before after comes none was = not_made_keeps clock unmade before after comes.not_made ∙ was

told_fault : (outcome : Publication) (fault : Option RunFault) (before reply : List ℕ) → IsPublishedOrTold outcome (Err fault) before reply → fault ≡ unpublished_fault outcome
told_fault (Published published) fault before reply told = absurd told
told_fault (Unexported serial stopped) fault before reply told = told.1
told_fault (Repeated unmade) fault before reply told = told.1
told_fault (Refused serial unmade) fault before reply told = told.1

published_exported : (reply : List ℕ) (published : PublishedNumbers) (before after : TimedInstanceState) → PublishesSo reply (Ok published) before after → is_exported before.state ≡ true → is_exported after.state ≡ true
published_exported reply published before after is was =
    comes_exported is.publishes.clock is.outcome before.state after.state is.publishes.comes (ap unpublished_fault is.told) was

refused_exported : (reply : List ℕ) (before after : TimedInstanceState) → PublishesOrNot reply (Err None) before after → is_exported before.state ≡ true → is_exported after.state ≡ true
refused_exported reply before after is was = elim is [
  | inl unasked ↦ unasked_keeps reply None before after unasked ∙ was
  | inr so ↦ comes_exported so.publishes.clock so.outcome before.state after.state so.publishes.comes (sym (told_fault so.outcome None [] reply so.told)) was
]

made_exported : (commands : List Wanted) (reply : List ℕ) (made : Result PublishedNumbers (Option RunFault)) (before after : TimedInstanceState) → IsMade commands reply made before after
    → ((fault : Option RunFault) → made ≡ Err fault → fault ≡ None) → is_exported before.state ≡ true → is_exported after.state ≡ true
made_exported commands reply (Ok published) before after is none was =
    published_exported reply published is.between after is.publishes (accepted_keeps commands before is.between is.accepted ∙ was)
made_exported commands reply (Err (Some fault)) before after is none was = absurd (let no = none (Some fault) refl in cc)
made_exported commands reply (Err None) before after is none was = elim is [
  | inl stops ↦ stops_keeps commands reply None before after stops ∙ was
  | inr these ↦ refused_exported reply these.between after these.publishes (accepted_keeps commands before these.between these.accepted ∙ was)
]

-- ---- how it ends

graver_none : (told refused : Option RunFault) → None ≡ graver told refused → refused ≡ None
graver_none told None is = refl
graver_none None (Some fault) is = absurd (cc)
graver_none (Some faults.Words) (Some fault) is = absurd (cc)
graver_none (Some (faults.Base why)) (Some fault) is = absurd (cc)
graver_none (Some (faults.Refused why)) (Some fault) is = absurd (cc)
graver_none (Some (faults.NotEmpty desk held)) (Some fault) is = absurd (cc)
graver_none (Some faults.Device) (Some fault) is = absurd (cc)
graver_none (Some (faults.Spent bytes)) (Some fault) is = absurd (cc)
graver_none (Some faults.Memory) (Some faults.Words) is = absurd (cc)
graver_none (Some faults.Memory) (Some (faults.Base why)) is = absurd (cc)
graver_none (Some faults.Memory) (Some (faults.Refused why)) is = absurd (cc)
graver_none (Some faults.Memory) (Some (faults.NotEmpty desk held)) is = absurd (cc)
graver_none (Some faults.Memory) (Some faults.Device) is = absurd (cc)
graver_none (Some faults.Memory) (Some (faults.Spent bytes)) is = absurd (cc)
graver_none (Some faults.Memory) (Some faults.Memory) is = absurd (cc)

not_well : (fault : RunFault) → run_status (Some fault) ≡ 0 → ⊥
not_well faults.Words e = omega (arith, e)
not_well (faults.Base why) e = omega (arith, e)
not_well (faults.Refused why) e = omega (arith, e)
not_well (faults.NotEmpty desk held) e = omega (arith, e)
not_well faults.Device e = omega (arith, e)
not_well (faults.Spent bytes) e = omega (arith, e)
not_well faults.Memory e = omega (arith, e)

made_well : {T : Type 0} (made : Result PublishedNumbers (Option RunFault)) (stopped : Option RunFault) (result : Result T (Option RunFault)) → GoesOn made stopped result → run_status (ended_by result) ≡ 0
    → (fault : Option RunFault) → made ≡ Err fault → fault ≡ None
made_well (Ok published) stopped result on well fault is = absurd (cc)
made_well (Err refused) None (Ok done) on well fault is = absurd on
made_well (Err refused) (Some stopped) (Ok done) on well fault is = absurd on
made_well (Err refused) stopped (Err (Some why)) on well fault is = absurd (not_well why well)
made_well (Err refused) stopped (Err None) on well fault is =
    let same : refused ≡ fault = cc in sym same ∙ graver_none stopped refused on

module _ {K T : Type 0} (sink_of : SinkGhosts K) (authorities : ℕ) where
  part_exported : (count : ℕ) (commands : List Wanted) (result : Result T (Option RunFault)) (before after : Worked K) → DoesPart sink_of authorities count commands result before after → run_status (ended_by result) ≡ 0
      → is_exported before.timed.state ≡ true → is_exported after.timed.state ≡ true
  part_exported count commands result before after does well was =
      made_exported commands does.reply does.made before.timed after.timed does.is_made (made_well does.made does.stopped result does.goes_on well) was

  pub works_exported : (result : Result T (Option RunFault)) (before after : Worked K) → is_exported before.timed.state ≡ true → Works sink_of authorities result before after → run_status (ended_by result) ≡ 0
      → is_exported after.timed.state ≡ true
  works_exported result before after was works well = by works.first works.does works.second
    where
      by : (first : Result T (Option RunFault)) → DoesPart sink_of authorities (length (generated authorities)) (generated authorities) first before works.between → GoesOnWith sink_of authorities (length (generated authorities) + 1) first result works.between after
          → is_exported after.timed.state ≡ true
      by (Ok done) does next = part_exported (length (generated authorities) + 1) changed result works.between after next well (part_exported (length (generated authorities)) (generated authorities) (Ok done) before works.between does refl was)
      by (Err fault) does ends =
          ap (λ (w : Worked K). is_exported w.timed.state) ends.1
          ∙ part_exported (length (generated authorities)) (generated authorities) (Err fault) before works.between does (ap (λ (r : Result T (Option RunFault)). run_status (ended_by r)) (sym ends.0) ∙ well) was
