-- The disk in memory under a played file.
use Rattle.disk_api.specs.declared.memory.MemoryDisk.{MemoryDisk}
use Rattle.disk_api.specs.declared.played_file.PlayedFile.{PlayedFile}

abbrev pub played_disk : PlayedFile → MemoryDisk
played_disk file = file.disk
