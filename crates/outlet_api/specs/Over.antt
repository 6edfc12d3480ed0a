-- The folder that an outlet is over, and what is seen of its doubles.
use Rattle.std.specs.Prelude.{ℕ}
use Rattle.host_calls.specs.Counts.{fault_count}
use Rattle.outlet_api.specs.Calls.{Files}
use Rattle.outlet_api.specs.Folders.{Folder}
use Rattle.outlet_api.specs.Memory.{map_files}
use Rattle.outlet_api.specs.declared.folder.FolderOutlet.{FolderOutlet}
use Rattle.outlet_api.specs.declared.host_folder.HostFolder.{HostFolder}
use Rattle.outlet_api.specs.declared.played_folder.PlayedFolder.{PlayedFolder}

abbrev pub folder_of : {F : Type 0} → FolderOutlet F → F
folder_of outlet = outlet.folder

-- how often a folder of the operating system has failed
abbrev pub host_faults : HostFolder → ℕ
host_faults host = fault_count host.tally

-- what a played folder holds
abbrev pub played_folder : PlayedFolder → Folder
played_folder played = record { files = map_files played.files; draft = played.draft.items; synced = played.is_synced }

abbrev pub played_files : PlayedFolder → Files
played_files played = map_files played.files
