use Rattle.std.proofs.Common.{drop, length, replicate, get_or, subst, sym, List, ℕ, ◌<◌}
use Rattle.gate_journal.proofs.Filled.{bytes_behind, zeros_behind}
use Rattle.gate_journal.proofs.window.nine.Goals as goal

pub returns-clause-bytes : goal.returns-clause-bytes
returns-clause-bytes c =
    bytes_behind c.copy_from_slice.new.self (drop (length c.args.part.now) (replicate 9 0)) (λ i. subst (λ (l : List ℕ). get_or l i 0 < 256) (sym c.copy_from_slice.ensures.after) (c.type_inv.part i).fits) (zeros_behind 9 (length c.args.part.now))
