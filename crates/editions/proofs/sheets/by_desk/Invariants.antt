use Rattle.std.proofs.Common.{◌≡◌, ℕ, ◌<◌, [], take, length, get_or}
use Rattle.std.specs.Prelude.{map}
use Rattle.editions.specs.Sheets.{origins_at}
use Rattle.editions.proofs.sheets.by_desk.Given as goal

abbrev pub invariant-loop-each : goal.invariant-loop-each
invariant-loop-each l = record {
  count : length l.lists.items ≡ l.desks;
  lists : (desk : ℕ) → desk < l.desks → get_or (map (λ list. list.items) l.lists.items) desk [] ≡ origins_at (take l.each-index l.owed) desk;
}
