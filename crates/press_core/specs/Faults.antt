-- Why no edition is prepared.
use Rattle.std.specs.Prelude.{◌≡◌, ◌⊎◌, ℕ, true, false, Some, List}
use Rattle.signer_api.specs.State.{SignerState}
use Rattle.res_sets.specs.declared.holdings.Resources.{Resources}
use Rattle.key_roll.specs.declared.work.Work.{Work}
use Rattle.issue_keys.specs.Making.{IsClash}
use Rattle.issue_make.specs.declared.made.Made.{Made}
use Rattle.issue_make.specs.Made.{IsMade, IsOut, IsFault}
use Rattle.editions.specs.PublishedState.{PublishedStateValue}
use Rattle.editions.specs.Moments.{is_out_of_range, first_at_end}
use Rattle.press_core.specs.PrepareInput.{PrepareInput}
use Rattle.press_core.specs.Planned.{IsInRange, IsCalled, IsPlanned, issue_input_for}
use Rattle.press_core.specs.Met.{MetValue}
use Rattle.press_core.specs.declared.fault.PressFault.{PressFault}
use Rattle.press_core.specs.declared.fault.PressFault.TheVariants.{ClockRange, SerialEnd, Nothing}
use Rattle.press_core.specs.declared.fault.PressFault.TheVariants.{SignerFault, KeyClash, Memory}

-- The clock is before the year 2000, or the moment behind the year 9998.
pub record IsOutOfRange (at : PublishedStateValue) (clock now : ℕ) : Type 0 where
  pub told : now ≡ clock
  pub out : is_out_of_range clock at.moment ≡ true

-- The first of the serial and the counters of the live keys that is at its end.
pub record IsAtEnd (at : PublishedStateValue) (clock value : ℕ) : Type 0 where
  pub dated : is_out_of_range clock at.moment ≡ false
  pub first : first_at_end at.serial at.rows ≡ Some value

-- No edition is called for.
pub record IsNothing (start : PrepareInput) (serial : ℕ) : Type 0 where
  pub told : serial ≡ start.at.serial
  pub in_range : IsInRange start.at start.clock
  pub sets : List Resources
  pub called : IsCalled start sets false

-- A fault of the signer was counted after the first of the keys that the plan makes, or after all of
-- them and the first of each signer's own calls for its objects.
pub record IsSignersFault (start : PrepareInput) (ring : List SignerState) (signer : ℕ)
    : Type 0 where
  pub work : Work
  pub planned : IsPlanned start work
  pub fault : IsFault (issue_input_for start work) start.at.rows start.ring ring signer

-- A key that was made for the plan has the identifier of a live one, or of one made before it.
pub record IsKeysClash (start : PrepareInput) (ring : List SignerState) (id : List ℕ)
    : Type 0 where
  pub work : Work
  pub planned : IsPlanned start work
  pub clash : IsClash work.new_keys start.at.rows start.ring ring id

-- Memory ran out behind calls for the plan: while keys were made, while its objects were signed, or
-- once all was made.
pub record IsShort (start : PrepareInput) (ring : List SignerState) : Type 0 where
  pub work : Work
  pub planned : IsPlanned start work
  pub out : IsOut (issue_input_for start work) start.at.rows start.ring ring
      ⊎ ((made : Made) × IsMade (issue_input_for start work) start.at.rows start.ring ring made)

-- Met at that clock, by the refusal of that code.
abbrev pub IsMet : ℕ → ℕ → MetValue → Type 0
IsMet code clock met = met ≡ record { code = code; clock = clock }

-- Each cause with its code; before an edition is called for, no signer was asked. Where several causes
-- hold, the first of them is told. Want of memory may come at any time: then no signer was asked, or
-- an edition was called for and they answered calls for its plan.
abbrev pub IsPressFault : PrepareInput → List SignerState → PressFault → Type 0
IsPressFault start ring (ClockRange now met) =
    IsOutOfRange start.at start.clock now × IsMet 25 start.clock met × (ring ≡ start.ring)
IsPressFault start ring (SerialEnd value met) =
    IsAtEnd start.at start.clock value × IsMet 26 start.clock met × (ring ≡ start.ring)
IsPressFault start ring (Nothing serial met) =
    IsNothing start serial × IsMet 24 start.clock met × (ring ≡ start.ring)
IsPressFault start ring (SignerFault signer met) =
    IsSignersFault start ring signer × IsMet 27 start.clock met
IsPressFault start ring (KeyClash id met) =
    IsKeysClash start ring id.bytes × IsMet 28 start.clock met
IsPressFault start ring Memory = (ring ≡ start.ring) ⊎ IsShort start ring
