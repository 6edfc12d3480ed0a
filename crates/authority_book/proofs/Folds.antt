-- The fold with one command more.
use Rattle.std.proofs.Common.{◌≡◌, ℕ, refl, sym, ◌∙◌, ap, subst, List, [], ◌∷◌, ◌++◌}
use Rattle.authority_book.specs.declared.commands.Command.{Command}
use Rattle.authority_book.specs.Settings.{Settings}
use Rattle.authority_book.specs.Verdict.{IsAccepted}
use Rattle.authority_book.specs.Fold.{after, after_all, fold_of, empty_settings, AcceptedInTurn, Taken}

after_all-push : (settings : Settings) (commands : List Command) (command : Command) →
    after_all settings (commands ++ command ∷ []) ≡ after (after_all settings commands) command
after_all-push settings [] command = refl
after_all-push settings (first ∷ rest) command = after_all-push (after settings first) rest command

-- A command more of what the commands come to.
pub fold-push : (old new : Settings) (desk : ℕ) (commands : List Command) (command : Command) → new ≡ after old command →
    old ≡ fold_of desk commands → new ≡ fold_of desk (commands ++ command ∷ [])
fold-push old new desk commands command is stands =
    is ∙ (ap (λ settings. after settings command) stands ∙ sym (after_all-push (empty_settings desk) commands command))

in_turn-push : (settings : Settings) (commands : List Command) (command : Command) → AcceptedInTurn settings commands →
    IsAccepted (after_all settings commands) command → AcceptedInTurn settings (commands ++ command ∷ [])
in_turn-push settings [] command taken accepted = (accepted, tt)
in_turn-push settings (first ∷ rest) command taken accepted = (taken.0, in_turn-push (after settings first) rest command taken.1 accepted)

-- An accepted command is one taken command more.
pub taken-push : (settings : Settings) (desk : ℕ) (commands : List Command) (command : Command) → settings ≡ fold_of desk commands →
    Taken desk commands → IsAccepted settings command → Taken desk (commands ++ command ∷ [])
taken-push settings desk commands command stands taken accepted =
    in_turn-push (empty_settings desk) commands command taken (subst (λ (s : Settings). IsAccepted s command) stands accepted)
