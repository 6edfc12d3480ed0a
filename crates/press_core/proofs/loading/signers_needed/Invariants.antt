use Rattle.std.proofs.Common.{◌≡◌, ◌⊎◌, ◌<◌, ◌+◌, take}
use Rattle.std.specs.List.{All, Any}
use Rattle.press_core.proofs.loading.signers_needed.Given as goal

abbrev pub invariant-loop-row : goal.invariant-loop-row
invariant-loop-row l = record {
  enough : All (λ row. row.signer < l.most) (take l.row-index l.rows);
  needed : (l.most ≡ 0) ⊎ Any (λ row. row.signer + 1 ≡ l.most) (take l.row-index l.rows);
}
