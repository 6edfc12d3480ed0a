use Rattle.std.proofs.Common.{◌≡◌, List, ℕ, Some}
use Rattle.std.proofs.lemmas.Map.Text.{btree_map_updates_text}
use Rattle.std.specs.String.{string_bytes}
use Rattle.outlet_api.specs.Calls.{with_file}
use Rattle.outlet_api.specs.Memory.{map_files}
use Rattle.outlet_api.proofs.file_map.FileMap.put.Goals as goal

pub returns-in-Ok-clause-done : goal.returns-in-Ok-clause-done
returns-in-Ok-clause-done c =
    let each : (q : List ℕ) → map_files (record { files = c.insert.new.self }) q ≡ with_file c.args.path.now (Some c.args.bytes.items) (map_files c.args.self.now) q =
    λ q. rw (c.in_ok-path.ensures.ok, c.new.ensures) at (btree_map_updates_text (string_bytes c.in_ok-path.path) c.args.self.now.files c.insert.new.self (Some c.new.result) c.in-Ok.ensures.updates q) in
    λ i q. each q i
