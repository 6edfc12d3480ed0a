-- As many desks are opened again as there were.
use Rattle.std.proofs.Common.{◌≡◌, ℕ, suc, refl, ap, List, [], ◌∷◌, length}
use Rattle.disk_api.specs.declared.memory.MemoryDisk.{MemoryDisk}
use Rattle.authority_book.specs.declared.commands.Command.{Command}
use Rattle.desk_core.specs.View.{View}
use Rattle.test_histories.specs.Standing.{AreOpenedAgain}

pub again_long : (number : ℕ) (olds news : List (View MemoryDisk)) (lists : List (List Command)) → AreOpenedAgain number olds news lists
    → length news ≡ length olds
again_long number [] [] [] all = refl
again_long number [] [] (l ∷ lists) all = absurd all
again_long number [] (n ∷ news) lists all = absurd all
again_long number (o ∷ olds) [] lists all = absurd all
again_long number (o ∷ olds) (n ∷ news) [] all = absurd all
again_long number (o ∷ olds) (n ∷ news) (l ∷ lists) all = ap suc (again_long (suc number) olds news lists all.1)
