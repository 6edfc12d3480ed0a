-- Commands accepted in turn, and one more.
use Rattle.std.proofs.Common.{◌≡◌, refl, List, [], ◌∷◌, ◌++◌}
use Rattle.authority_book.specs.declared.commands.Command.{Command}
use Rattle.authority_book.specs.Settings.{Settings}
use Rattle.authority_book.specs.Verdict.{IsAccepted}
use Rattle.authority_book.specs.Fold.{after, after_all, AcceptedInTurn}

pub after-more : (settings : Settings) (commands : List Command) (command : Command) →
    after_all settings (commands ++ command ∷ []) ≡ after (after_all settings commands) command
after-more settings [] command = refl
after-more settings (first ∷ rest) command = after-more (after settings first) rest command

pub accepted-more : (settings : Settings) (commands : List Command) (command : Command) → AcceptedInTurn settings commands →
    IsAccepted (after_all settings commands) command → AcceptedInTurn settings (commands ++ command ∷ [])
accepted-more settings [] command taken accepted = (accepted, tt)
accepted-more settings (first ∷ rest) command taken accepted = (taken.0, accepted-more (after settings first) rest command taken.1 accepted)
