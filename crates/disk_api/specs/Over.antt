-- The file that a disk is over, and how often a file of the operating system has failed.
use Rattle.std.specs.Prelude.{ℕ}
use Rattle.host_calls.specs.Counts.{fault_count}
use Rattle.disk_api.specs.declared.file.FileDisk.{FileDisk}
use Rattle.disk_api.specs.declared.host_file.HostFile.{HostFile}

abbrev pub file_of : {F : Type 0} → FileDisk F → F
file_of disk = disk.file

abbrev pub host_faults : HostFile → ℕ
host_faults host = fault_count host.tally
