-- What a disk answers where a call of its file did nothing.
use Rattle.host_calls.specs.declared.CallFault.{CallFault}
use Rattle.host_calls.specs.declared.CallFault.TheVariants as call
use Rattle.disk_api.specs.declared.disk.DiskStop.{DiskStop}
use Rattle.disk_api.specs.declared.disk.DiskStop.TheVariants.{Fault, Memory}

abbrev pub stop_of : CallFault → DiskStop
stop_of call.Interrupted = Fault
stop_of call.Memory = Memory
stop_of call.Failed = Fault
