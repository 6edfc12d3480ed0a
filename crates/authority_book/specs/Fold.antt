-- The configuration as the fold of the accepted commands.
use Rattle.std.specs.Prelude.{ℕ, ◌+◌, ◌-◌, ◌^◌, ◌==◌, false, true, min, List, length, [], ◌∷◌, ◌++◌, None, Some, codes, if◌then◌else◌}
use Rattle.authority_book.specs.declared.rows.NameRow.{NameRow}
use Rattle.authority_book.specs.declared.commands.Command.{Command}
use Rattle.authority_book.specs.declared.commands.Command.TheVariants.{Add, Delete, AddParent, AddChild, UpdateChild, RemoveChild, SuspendChild, UnsuspendChild, UpdateRoas, InitRoll, ActivateRoll}
use Rattle.authority_book.specs.Origins.{without, with_each}
use Rattle.authority_book.specs.Listed.{without_child, with_changed, granted, suspended_as}
use Rattle.authority_book.specs.Settings.{Settings, Room}
use Rattle.authority_book.specs.Verdict.{IsAccepted}

-- One more, up to the last number of 64 bits, where the count stands still.
abbrev pub counted : ℕ → ℕ
counted count = min (count + 1) (2 ^ 64 - 1)

-- One rollover more, up to the last number of 32 bits, where their number stands still.
abbrev pub rolled : ℕ → ℕ
rolled rolls = min (rolls + 1) (2 ^ 32 - 1)

-- What a command changes, but for the count. A change of the origins removes first, and adds then.
abbrev pub changed : Settings → Command → Settings
changed settings (Add name signer) = record settings {
  names = settings.names ++ record { name = name; signer = signer } ∷ [];
}
changed settings Delete = record settings { deleted = true }
changed settings (AddParent parent) = record settings { parent = Some parent }
changed settings (AddChild child grant) = record settings {
  children = settings.children ++ record { name = child; grant = grant; suspended = false } ∷ [];
}
changed settings (UpdateChild child grant) = record settings {
  children = with_changed settings.children child (granted grant);
}
changed settings (RemoveChild child) = record settings {
  children = without_child settings.children child;
}
changed settings (SuspendChild child) = record settings {
  children = with_changed settings.children child (suspended_as true);
}
changed settings (UnsuspendChild child) = record settings {
  children = with_changed settings.children child (suspended_as false);
}
changed settings (UpdateRoas added removed) = record settings {
  origins = with_each (without settings.origins removed) added;
}
changed settings InitRoll = record settings { inits = rolled settings.inits }
changed settings ActivateRoll = record settings { activates = rolled settings.activates }

-- A configuration with one command applied.
abbrev pub after : Settings → Command → Settings
after settings command = record (changed settings command) { count = counted settings.count }

-- A configuration with each of the commands applied in turn.
abbrev pub after_all : Settings → List Command → Settings
after_all settings [] = settings
after_all settings (command ∷ rest) = after_all (after settings command) rest

-- The names of the tree as they begin: the anchor's, with signer 0.
abbrev pub first_names : List NameRow
first_names = record { name = codes "ta"; signer = 0 } ∷ []

-- The configuration of a desk that has no command yet. The anchor's desk is 0.
abbrev pub empty_settings : ℕ → Settings
empty_settings desk = record {
  desk = desk;
  names = if desk == 0 then first_names else [];
  deleted = false;
  parent = None;
  children = [];
  origins = [];
  inits = 0;
  activates = 0;
  count = 0;
}

-- What a desk's commands come to.
abbrev pub fold_of : ℕ → List Command → Settings
fold_of desk commands = after_all (empty_settings desk) commands

-- Each command is accepted after those before it.
abbrev pub AcceptedInTurn : Settings → List Command → Type 0
AcceptedInTurn settings [] = Unit {0}
AcceptedInTurn settings (command ∷ rest) =
    IsAccepted settings command × AcceptedInTurn (after settings command) rest

-- A desk's commands, each accepted after those before it.
abbrev pub Taken : ℕ → List Command → Type 0
Taken desk commands = AcceptedInTurn (empty_settings desk) commands

-- The room that the command needs.
abbrev pub needs : Command → Room
needs (Add name signer) = record { names = 1; children = 0; origins = 0 }
needs (AddChild child grant) = record { names = 0; children = 1; origins = 0 }
needs (UpdateRoas added removed) = record { names = 0; children = 0; origins = length added }
needs _ = record { names = 0; children = 0; origins = 0 }
