use Rattle.std.proofs.Common.{◌≡◌, drop}
use Rattle.outlet_api.specs.Paths.{is_path_rest, is_file_path}
use Rattle.outlet_api.proofs.paths.is_file_path.Given as goal

abbrev pub invariant-loop-byte : goal.invariant-loop-byte
invariant-loop-byte l = is_path_rest l.at_start (drop l.byte-index l.bytes) ≡ is_file_path l.bytes
