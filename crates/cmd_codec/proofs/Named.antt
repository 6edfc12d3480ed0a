-- The names that recordable commands list are names.
use Rattle.std.proofs.Common.{◌≡◌, ℕ, refl, arith, List, [], ◌∷◌, ◌++◌}
use Rattle.std.specs.Prelude.{codes}
use Rattle.std.specs.List.{All, AllByRecursion}
use Rattle.std.proofs.lemmas.List.Elements.{All-nil, All-cons, All-push}
use Rattle.std.proofs.lemmas.List.Sums.{AllPass-from_list_all}
use Rattle.names.specs.Name.{IsName, is_name_byte}
use Rattle.authority_book.specs.declared.commands.Command.{Command}
use Rattle.authority_book.specs.declared.commands.Command.TheVariants.{Add, Delete, AddParent, AddChild, UpdateChild, RemoveChild, SuspendChild, UnsuspendChild, UpdateRoas, InitRoll, ActivateRoll}
use Rattle.authority_book.specs.declared.rows.NameRow.{NameRow}
use Rattle.authority_book.specs.Settings.{Settings}
use Rattle.authority_book.specs.Fold.{after, after_all, empty_settings, fold_of}
use Rattle.cmd_codec.specs.Spelling.{IsRecordable}

abbrev IsNamed : NameRow → Type 0
IsNamed row = IsName row.name

anchor_named : IsName (codes "ta")
anchor_named = record {
  not_empty = omega arith;
  short = omega arith;
  plain = AllPass-from_list_all is_name_byte (codes "ta") refl;
}

named_after : (settings : Settings) (command : Command) → All IsNamed settings.names → IsRecordable command
    → All IsNamed (after settings command).names
named_after settings (Add name signer) all held = All-push IsNamed settings.names (record { name = name; signer = signer }) all held.0
named_after settings Delete all held = all
named_after settings (AddParent parent) all held = all
named_after settings (AddChild child grant) all held = all
named_after settings (UpdateChild child grant) all held = all
named_after settings (RemoveChild child) all held = all
named_after settings (SuspendChild child) all held = all
named_after settings (UnsuspendChild child) all held = all
named_after settings (UpdateRoas added removed) all held = all
named_after settings InitRoll all held = all
named_after settings ActivateRoll all held = all

named_through : (settings : Settings) (commands : List Command) → All IsNamed settings.names → AllByRecursion IsRecordable commands
    → All IsNamed (after_all settings commands).names
named_through settings [] all held = all
named_through settings (command ∷ rest) all held =
    named_through (after settings command) rest (named_after settings command all held.0) held.1

pub all_named : (commands : List Command) → AllByRecursion IsRecordable commands → All (λ row. IsName row.name) (fold_of 0 commands).names
all_named commands held =
    named_through (empty_settings 0) commands (All-cons IsNamed _ [] anchor_named (All-nil IsNamed)) held
