use Rattle.std.proofs.Common.{◌≡◌, List, ℕ, None}
use Rattle.std.proofs.lemmas.Map.Text.{btree_map_updates_text}
use Rattle.outlet_api.specs.Calls.{with_file}
use Rattle.outlet_api.specs.Memory.{map_files}
use Rattle.outlet_api.proofs.file_map.FileMap.remove.Goals as goal

pub returns : goal.returns
returns c =
    let each : (q : List ℕ) → map_files (record { files = c.remove.new.self }) q ≡ with_file c.args.path.now None (map_files c.args.self.now) q =
    λ q. btree_map_updates_text c.args.path.now c.args.self.now.files c.remove.new.self None c.remove.ensures.updates q in
    λ i q. each q i
