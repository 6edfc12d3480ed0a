-- An outlet in memory, as the trait sees it, and which of its calls fail.
use Rattle.std.specs.BTreeMap.{get_by_text}
use Rattle.host_calls.specs.declared.schedule.Schedule.{Schedule}
use Rattle.outlet_api.specs.Calls.{Files}
use Rattle.outlet_api.specs.declared.file_map.FileMap.{FileMap}
use Rattle.outlet_api.specs.declared.memory.MemoryOutlet.{MemoryOutlet}

abbrev pub map_files : FileMap → Files
map_files map = λ path. get_by_text map.files path

-- what stands at each path
abbrev pub memory_files : MemoryOutlet → Files
memory_files m = map_files m.files

-- which of its calls fail, and how often one did
abbrev pub memory_schedule : MemoryOutlet → Schedule
memory_schedule m = m.schedule
