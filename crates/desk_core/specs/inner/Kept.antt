-- What a desk keeps true of its parts.
use Rattle.std.specs.Prelude.{◌≡◌, ℕ, List, length, IfSome}
use Rattle.disk_api.specs.declared.disk.Disk.{Ghosts as DiskGhosts}
use Rattle.authority_book.specs.declared.commands.Command.{Command}
use Rattle.authority_book.specs.Settings.{Settings}
use Rattle.authority_book.specs.Fold.{fold_of}
use Rattle.gate_journal.specs.Format.{taken_by, payloads}
use Rattle.gate_journal.specs.View.{View, IsSafe}
use Rattle.desk_core.specs.View.{journal_limit}
use Rattle.desk_core.specs.Commands.{Records}

-- The payloads record commands of a desk, and the settings are what these come to.
pub record IsLoaded (number : ℕ) (settings : Settings) (records : List (List ℕ)) : Type 0 where
  pub commands : List Command
  pub recorded : Records number records commands
  pub fold : settings ≡ fold_of number commands

-- The bytes have the payloads of the journal's records, where its disk is known, and as many of the same
-- sizes in any case. They record the commands of the configuration.
pub record IsConsistentDesk {D : Type 0} (disk_of : DiskGhosts D) (number : ℕ)
    (settings : Settings) (body : List ℕ) (journal : View D) : Type 0 where
  pub loaded : IsLoaded number settings (payloads journal.sizes body)
  pub known : IfSome journal.records (λ all. all ≡ payloads journal.sizes body)
  pub size : length body ≡ taken_by journal.sizes
  pub limit : journal.limit ≡ journal_limit
  pub safe : IsSafe disk_of journal
