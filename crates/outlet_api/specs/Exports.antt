-- The calls of an export.
use Rattle.std.specs.Prelude.{List, ◌++◌, map, String}
use Rattle.std.specs.String.{string_bytes}
use Rattle.std.specs.declared.alloc.Global.{Global}
use Rattle.outlet_api.specs.Calls.{Call, put, removal}
use Rattle.outlet_api.specs.declared.exports.OutFile.{OutFile}
use Rattle.outlet_api.specs.declared.exports.OutFiles.{OutFiles}

abbrev pub put_of : OutFile → Call
put_of file = put (string_bytes file.path) file.bytes.items

abbrev pub removal_of : String Global → Call
removal_of path = removal (string_bytes path)

-- The puts in their order, and then the removals in theirs.
abbrev pub calls_of : OutFiles → List Call
calls_of files = map put_of files.puts.items ++ map removal_of files.removes.items
