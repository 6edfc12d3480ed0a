-- What signers made of an edition, and which keys they dropped then.
use Rattle.std.specs.Prelude.{◌≡◌, ◌⊎◌, List, []}
use Rattle.signer_api.specs.State.{SignerState}
use Rattle.press_core.specs.PrepareInput.{PrepareInput}
use Rattle.press_core.specs.Next.{NextValue}
use Rattle.press_core.specs.Press.{DropsEach}
use Rattle.press_core.specs.Signers.{HoldKeys}
use Rattle.press_core.specs.Follows.{IsNextEdition}
use Rattle.press_core.specs.Stored.{StoredValue}

-- The signers made this edition, which stands now, and held all their keys until then. Then each key
-- that it ended was dropped by its signer, once, and no other.
pub record HasMade {D : Type 0} (start : PrepareInput) (old new : StoredValue D) : Type 0 where
  pub made : List SignerState
  pub prepared : NextValue
  pub edition : IsNextEdition start made prepared
  pub held : HoldKeys old.press.ring made
  pub stands : new.press.at ≡ prepared.next
  pub dropped : DropsEach prepared.ended made new.press.ring
  pub ended : new.press.ended ≡ []

-- None was made, and the signers hold all their keys.
abbrev pub HasMadeNone : {D : Type 0} → StoredValue D → StoredValue D → Type 0
HasMadeNone old new = HoldKeys old.press.ring new.press.ring

-- One was made, which couldn't be exported; or none was.
abbrev pub MayHaveMade : {D : Type 0} → PrepareInput → StoredValue D → StoredValue D → Type 0
MayHaveMade start old new = HasMade start old new ⊎ HasMadeNone old new
