-- What a publication comes to for which no edition was made, by why it wasn't.
use Rattle.std.specs.Prelude.{◌≡◌, ℕ, Bool, true, false}
use Rattle.editions.specs.declared.published_state.PublishedNumbers.{PublishedNumbers}
use Rattle.krill_top.specs.InstanceState.{InstanceState, last_serial, is_exported}
use Rattle.krill_top.specs.Exports.{ExportsAll, ExportStops, Stopped}
use Rattle.krill_top.specs.Publishing.{Outcome, Unmade, is_nothing}
use Rattle.krill_top.specs.Publishing.Outcome.{Published, Unexported, Repeated, Refused}

-- it stays refused
pub record StaysRefused (unmade : Unmade) (serial : ℕ) (told : Unmade)
    (before after : InstanceState) : Type 0 where
  pub told_is : told ≡ unmade
  pub serial_is : serial ≡ last_serial before
  pub exported : is_nothing unmade ≡ true → is_exported before ≡ true
  pub same : after ≡ before

-- the last edition is exported again
pub record ExportsAgain (unmade told : Unmade) (before after : InstanceState) : Type 0 where
  pub told_is : told ≡ unmade
  pub nothing : is_nothing unmade ≡ true
  pub unexported : is_exported before ≡ false
  pub exports : ExportsAll before after

-- as far as it goes
pub record StopsAgain (unmade : Unmade) (serial : ℕ) (stopped : Stopped)
    (before after : InstanceState) : Type 0 where
  pub serial_is : serial ≡ last_serial before
  pub nothing : is_nothing unmade ≡ true
  pub unexported : is_exported before ≡ false
  pub stops : ExportStops stopped before after

-- The edition that was made is exported, as far as it goes.
abbrev pub ExportsMade : PublishedNumbers → Outcome → InstanceState → InstanceState → Type 0
ExportsMade published (Published told) before after =
    (told ≡ published) × ExportsAll before after
ExportsMade published (Unexported serial stopped) before after =
    (serial ≡ last_serial before) × ExportStops stopped before after
ExportsMade published (Repeated told) before after = ⊥
ExportsMade published (Refused serial told) before after = ⊥

-- there was nothing to publish
abbrev pub refused_or_repeated : Bool → ℕ → Unmade → Outcome
refused_or_repeated true serial unmade = Repeated unmade
refused_or_repeated false serial unmade = Refused serial unmade

abbrev pub RefusesFor : Unmade → Outcome → InstanceState → InstanceState → Type 0
RefusesFor unmade (Published published) before after = ⊥
RefusesFor unmade (Unexported serial stopped) before after =
    StopsAgain unmade serial stopped before after
RefusesFor unmade (Repeated told) before after = ExportsAgain unmade told before after
RefusesFor unmade (Refused serial told) before after = StaysRefused unmade serial told before after
