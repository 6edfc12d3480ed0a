-- What comes of looking for an edition.
use Rattle.std.specs.Prelude.{◌≡◌, ◌≤◌, ◌<◌, ℕ, List}
use Rattle.notice_board.specs.declared.shown.ShownEdition.{ShownEdition}
use Rattle.notice_board.specs.Lists.{last_serial}
use Rattle.manager.specs.declared.awaiting.Awaited.{Awaited}
use Rattle.manager.specs.declared.awaiting.Awaited.TheVariants.{Reached, NotYet}

-- The last look saw this serial, which isn't below the one that was asked for; or is.
abbrev pub IsAwaitedAt : ℕ → ℕ → Awaited → Type 0
IsAwaitedAt asked last (Reached serial) = (serial ≡ last) × (asked ≤ serial)
IsAwaitedAt asked last (NotYet seen) = (seen ≡ last) × (seen < asked)

-- So by the edition that was seen last.
abbrev pub IsAwaited : ℕ → List ShownEdition → Awaited → Type 0
IsAwaited asked shown awaited = IsAwaitedAt asked (last_serial shown) awaited
