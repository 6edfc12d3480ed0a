-- How both ends come into step at the start, and when a signer is refused as a stranger.
use Rattle.std.specs.Prelude.{◌≡◌, ◌≢◌, ◌⊎◌, ◌<◌, ◌++◌, ℕ, List, Option, take, length, codes}
use Rattle.std.specs.Io.KnownBytes.{Consumes, IsAtEnd}
use Rattle.host_calls.specs.Rise.{HasRisen}
use Rattle.signer_line.specs.Lines.{fed, NoFeed}
use Rattle.signer_line.specs.declared.inbox.Stop.{Stop}
use Rattle.signer_line.specs.declared.inbox.Stop.TheVariants.{Broken, Ended, TooLong}
use Rattle.signer_line.specs.declared.opening.Ending.{Ending}
use Rattle.signer_line.specs.declared.opening.Ending.TheVariants.{Answer, Strange}
use Rattle.signer_line.specs.declared.opening.Unmet.{Unmet}
use Rattle.signer_line.specs.declared.opening.Unmet.TheVariants.{Gone, Stranger}

-- A line that is none of a meeting's: it doesn't begin as a hello does.
abbrev pub IsStrange : List ℕ → Type 0
IsStrange line = take 6 line ≢ codes "hello "

-- What a line ends: it ends with the hello, maybe behind a part of a line that was cut off, or is strange.
abbrev pub Ends : Ending → List ℕ → List ℕ → Type 0
Ends Answer line hello = (front : List ℕ) × (line ≡ front ++ hello)
Ends Strange line hello = IsStrange line

-- Lines were read, and the last of them is strange.
pub record PassesStrange (old new : Option (List ℕ)) : Type 0 where
  pub passed : List ℕ
  pub line : List ℕ
  pub whole : NoFeed line
  pub strange : IsStrange line
  pub read : Consumes old new (passed ++ fed line)

-- Lines were read, the last of which ends them.
abbrev pub PassesLines : Ending → List ℕ → Option (List ℕ) → Option (List ℕ) → Type 0
PassesLines Answer hello old new = (passed : List ℕ) × Consumes old new (passed ++ fed hello)
PassesLines Strange hello old new = PassesStrange old new

-- So much came that no answer to a hello is longer.
abbrev pub Floods : Option (List ℕ) → Option (List ℕ) → Type 0
Floods old new = (passed : List ℕ) × (1058 < length passed) × Consumes old new passed

-- Why no line ended them.
abbrev pub NoEnding : Stop → ℕ → ℕ → Option (List ℕ) → Option (List ℕ) → Type 0
NoEnding Broken before after old new = HasRisen before after
NoEnding Ended before after old new = (after ≡ before) × IsAtEnd new
NoEnding TooLong before after old new = (after ≡ before) × Floods old new

-- Lines were read, two of which are strange.
pub record TwoStrange (old new : Option (List ℕ)) : Type 0 where
  pub between : Option (List ℕ)
  pub first : PassesStrange old between
  pub second : PassesStrange between new

abbrev pub why_unmet : Stop → Unmet
why_unmet Broken = Gone
why_unmet Ended = Gone
why_unmet TooLong = Stranger

-- Why a signer wasn't met at the start: a call of a stream failed or what comes ended; or what came is
-- none of a meeting's.
abbrev pub NoGreeting : Unmet → Type 0 → Option (List ℕ) → Option (List ℕ) → Type 0
NoGreeting Gone broken old new = broken ⊎ IsAtEnd new
NoGreeting Stranger broken old new = TwoStrange old new ⊎ Floods old new
