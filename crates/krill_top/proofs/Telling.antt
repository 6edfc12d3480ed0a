-- What a publication comes to, by its parts.
use Rattle.std.proofs.Common.{◌≡◌, ℕ, Bool, true, false, refl, sym, ◌∙◌, ap, subst, inl, inr}
use Rattle.std.specs.Prelude.{Ok, Err}
use Rattle.disk_api.specs.declared.disk.Disk.{Ghosts as DiskGhosts}
use Rattle.outlet_api.specs.declared.outlet.Outlet.{Ghosts as OutletGhosts}
use Rattle.outlet_api.specs.declared.exports.ExportFault.{ExportFault}
use Rattle.editions.specs.declared.published_state.PublishedNumbers.{PublishedNumbers}
use Rattle.krill_top.specs.InstanceState.{InstanceState, last_serial, is_exported}
use Rattle.krill_top.specs.Exports.{ExportsAll, ExportStops, Repeats, stopped_of}
use Rattle.krill_top.specs.Publishing.{Outcome, Unmade, Publishes, IsNotMade, IsPublishedAndExported, IsExportedAgain, IsRefused, MakesOrNot, ComesTo, unmade_of, is_nothing}
use Rattle.krill_top.specs.Publishing.Unmade.{ByPress, Shut, JournalFull, DiskFault}
use Rattle.krill_top.specs.declared.publish_fault.PublishFault.{PublishFault}
use Rattle.krill_top.specs.Publishing.Outcome.{Published, Unexported, Repeated, Refused}
use Rattle.krill_top.specs.inner.Refusing.{ExportsMade, RefusesFor, refused_or_repeated}
use Rattle.krill_top.specs.inner.Instances.{InstanceValue, IsInState, Moves}
use Rattle.krill_top.proofs.Moving.{stay_in, moves_so, moves_in, moves_then}

-- ---- an edition that was made

made_comes : (clock : ℕ) (published : PublishedNumbers) (outcome : Outcome) (before made after : InstanceState) → Publishes clock published before made → ExportsMade published outcome made after
    → ComesTo clock outcome before after
made_comes clock published (Published told) before made after publishes exports =
    subst (λ (p : PublishedNumbers). IsPublishedAndExported clock p before after) (sym exports.0) (record { made = made; publishes = publishes; exported = exports.1 })
made_comes clock published (Unexported serial stopped) before made after publishes exports =
    record { stood = made; has = inl (published, publishes); stops = exports.1; serial_is = exports.0 }
made_comes clock published (Repeated told) before made after publishes exports = absurd exports
made_comes clock published (Refused serial told) before made after publishes exports = absurd exports

-- ---- none

same_export : (clock : ℕ) (unmade : Unmade) (before stood : InstanceState) → IsNotMade clock unmade before stood → is_exported before ≡ is_exported stood
same_export clock (ByPress fault) before stood is = sym (ap is_exported is.same.same)
same_export clock (Shut rose) before stood is = sym (ap is_exported is.same)
same_export clock (JournalFull held needed met) before stood is = sym (ap is_exported is.same.same)
same_export clock (DiskFault rose) before stood is = sym (ap is_exported is.doubted)

same_serial : (clock : ℕ) (unmade : Unmade) (before stood : InstanceState) → IsNotMade clock unmade before stood → last_serial stood ≡ last_serial before
same_serial clock (ByPress fault) before stood is = ap last_serial is.same.same
same_serial clock (Shut rose) before stood is = ap last_serial is.same
same_serial clock (JournalFull held needed met) before stood is = ap last_serial is.same.same
same_serial clock (DiskFault rose) before stood is = ap last_serial is.doubted

refused_comes : (clock : ℕ) (unmade : Unmade) (outcome : Outcome) (before stood after : InstanceState) → IsNotMade clock unmade before stood → RefusesFor unmade outcome stood after
    → ComesTo clock outcome before after
refused_comes clock unmade (Published told) before stood after not_made refuses = absurd refuses
refused_comes clock unmade (Unexported serial stopped) before stood after not_made refuses = record {
  stood = stood;
  has = inr (
    unmade,
    record {
      nothing = refuses.nothing;
      not_made = not_made;
      unexported = same_export clock unmade before stood not_made ∙ refuses.unexported;
    },
  );
  stops = refuses.stops;
  serial_is = refuses.serial_is;
}
refused_comes clock unmade (Repeated told) before stood after not_made refuses =
    subst (λ (f : Unmade). IsExportedAgain clock f before after) (sym refuses.told_is) (record {
      stood = stood;
      yet = record {
        nothing = refuses.nothing;
        not_made = not_made;
        unexported = same_export clock unmade before stood not_made ∙ refuses.unexported;
      };
      exported = refuses.exports;
    })
refused_comes clock unmade (Refused serial told) before stood after not_made refuses =
    subst (λ (f : Unmade). IsRefused clock serial f before after) (sym refuses.told_is) (record {
      not_made = subst (λ (a : InstanceState). IsNotMade clock unmade before a) (sym refuses.same) not_made;
      exported = λ nothing. same_export clock unmade before stood not_made ∙ refuses.exported nothing;
      serial_is = refuses.serial_is ∙ same_serial clock unmade before stood not_made;
    })

again : (unmade : Unmade) (serial : ℕ) (repeated : Bool) (O : Type 0) (before after : InstanceState) → is_nothing unmade ≡ true → serial ≡ last_serial before → Repeats {O = O} (Ok repeated) before after
    → RefusesFor unmade (refused_or_repeated repeated serial unmade) before after
again unmade serial true O before after nothing is repeats = record { told_is = refl; nothing = nothing; unexported = repeats.0; exports = repeats.1 }
again unmade serial false O before after nothing is repeats = record { told_is = refl; serial_is = is; exported = λ n. repeats.0; same = repeats.1 }

module _ {D O : Type 0} (disk_of : DiskGhosts D) (outlet_of : OutletGhosts O) where
  pub made_moves : (clock : ℕ) (published : PublishedNumbers) (outcome : Outcome) (old mid new : InstanceValue D O) → Moves disk_of outlet_of (λ b a. MakesOrNot {D = D} clock (Ok published) b a) old mid
      → Moves disk_of outlet_of (ExportsMade published outcome) mid new → Moves disk_of outlet_of (λ b a. ComesTo clock outcome b a) old new
  made_moves clock published outcome old mid new first rest =
      moves_then disk_of outlet_of (λ b a. MakesOrNot {D = D} clock (Ok published) b a) (ExportsMade published outcome) (λ b a. ComesTo clock outcome b a) old mid new first rest
      (λ before made after stands publishes exports. made_comes clock published outcome before made after publishes exports)

  pub refused_moves : (clock : ℕ) (fault : PublishFault D) (outcome : Outcome) (old mid new : InstanceValue D O) → Moves disk_of outlet_of (λ b a. MakesOrNot clock (Err fault) b a) old mid
      → Moves disk_of outlet_of (RefusesFor (unmade_of fault) outcome) mid new → Moves disk_of outlet_of (λ b a. ComesTo clock outcome b a) old new
  refused_moves clock fault outcome old mid new first rest =
      moves_then disk_of outlet_of (λ b a. MakesOrNot clock (Err fault) b a) (RefusesFor (unmade_of fault) outcome) (λ b a. ComesTo clock outcome b a) old mid new first rest
      (λ before stood after stands not_made refuses. refused_comes clock (unmade_of fault) outcome before stood after not_made refuses)

  -- an edition that was made is exported, or not
  pub made_exported : (published : PublishedNumbers) (old new : InstanceValue D O) → Moves disk_of outlet_of ExportsAll old new
      → Moves disk_of outlet_of (ExportsMade published (Published published)) old new
  made_exported published old new moves =
      moves_so disk_of outlet_of ExportsAll (ExportsMade published (Published published)) old new moves (λ before after is. (refl, is))

  pub made_stopped : (published : PublishedNumbers) (fault : ExportFault O) (old new : InstanceValue D O) → published.serial ≡ old.press.at.serial
      → Moves disk_of outlet_of (ExportStops (stopped_of fault)) old new → Moves disk_of outlet_of (ExportsMade published (Unexported published.serial (stopped_of fault))) old new
  made_stopped published fault old new serial moves =
      moves_in disk_of outlet_of (ExportStops (stopped_of fault)) (ExportsMade published (Unexported published.serial (stopped_of fault))) old new moves
      (λ before after stands is. (serial ∙ stands.left.serial, is))

  -- the last edition is exported again, or it needn't be
  pub refused_again : (unmade : Unmade) (serial : ℕ) (repeated : Bool) (outcome : Outcome) (old new : InstanceValue D O) → is_nothing unmade ≡ true
      → ((state : InstanceState) → IsInState outlet_of old state → serial ≡ last_serial state) → outcome ≡ refused_or_repeated repeated serial unmade
      → Moves disk_of outlet_of (Repeats {O = O} (Ok repeated)) old new → Moves disk_of outlet_of (RefusesFor unmade outcome) old new
  refused_again unmade serial repeated outcome old new nothing serial_is told moves =
      subst (λ (o : Outcome). Moves disk_of outlet_of (RefusesFor unmade o) old new) (sym told)
      (moves_in disk_of outlet_of (Repeats {O = O} (Ok repeated)) (RefusesFor unmade (refused_or_repeated repeated serial unmade)) old new moves
      (λ before after stands is. again unmade serial repeated O before after nothing (serial_is before stands) is))

  pub stopped_again : (unmade : Unmade) (serial : ℕ) (stopped : ExportFault O) (old new : InstanceValue D O) → is_nothing unmade ≡ true
      → ((state : InstanceState) → IsInState outlet_of old state → serial ≡ last_serial state)
      → Moves disk_of outlet_of (Repeats (Err stopped)) old new → Moves disk_of outlet_of (RefusesFor unmade (Unexported serial (stopped_of stopped))) old new
  stopped_again unmade serial stopped old new nothing serial_is moves =
      moves_in disk_of outlet_of (Repeats (Err stopped)) (RefusesFor unmade (Unexported serial (stopped_of stopped))) old new moves
      (λ before after stands is. record { serial_is = serial_is before stands; nothing = nothing; unexported = is.0; stops = is.1 })

  -- for another reason it stays refused
  pub stays_refused : (unmade : Unmade) (serial : ℕ) (instance : InstanceValue D O) → is_nothing unmade ≡ false → ((state : InstanceState) → IsInState outlet_of instance state → serial ≡ last_serial state)
      → Moves disk_of outlet_of (RefusesFor unmade (Refused serial unmade)) instance instance
  stays_refused unmade serial instance other serial_is =
      stay_in disk_of outlet_of (RefusesFor unmade (Refused serial unmade)) instance
      (λ before stands. record { told_is = refl; serial_is = serial_is before stands; exported = λ nothing. absurd (cc); same = refl })

  -- ---- an export that may be repeated

  pub needs_none : (instance : InstanceValue D O) → ((state : InstanceState) → IsInState outlet_of instance state → is_exported state ≡ true) → Moves disk_of outlet_of (Repeats {O = O} (Ok false)) instance instance
  needs_none instance exported = stay_in disk_of outlet_of (Repeats {O = O} (Ok false)) instance (λ before stands. (exported before stands, refl))

  pub repeats_all : (old new : InstanceValue D O) → ((state : InstanceState) → IsInState outlet_of old state → is_exported state ≡ false)
      → Moves disk_of outlet_of ExportsAll old new → Moves disk_of outlet_of (Repeats {O = O} (Ok true)) old new
  repeats_all old new unexported moves =
      moves_in disk_of outlet_of ExportsAll (Repeats {O = O} (Ok true)) old new moves (λ before after stands is. (unexported before stands, is))

  pub repeats_stopped : (fault : ExportFault O) (old new : InstanceValue D O) → ((state : InstanceState) → IsInState outlet_of old state → is_exported state ≡ false)
      → Moves disk_of outlet_of (ExportStops (stopped_of fault)) old new → Moves disk_of outlet_of (Repeats (Err fault)) old new
  repeats_stopped fault old new unexported moves =
      moves_in disk_of outlet_of (ExportStops (stopped_of fault)) (Repeats (Err fault)) old new moves (λ before after stands is. (unexported before stands, is))
