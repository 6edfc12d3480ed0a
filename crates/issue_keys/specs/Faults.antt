-- Faults of calls on signers as faults of the making.
use Rattle.signer_ring.specs.declared.call_fault.CallFault.{CallFault}
use Rattle.signer_ring.specs.declared.call_fault.CallFault.TheVariants as Calls
use Rattle.issue_keys.specs.declared.fault.MakeFault.{MakeFault}
use Rattle.issue_keys.specs.declared.fault.MakeFault.TheVariants.{SignerFault, Memory}

abbrev pub fault_of : CallFault → MakeFault
fault_of (Calls.SignerFault signer) = SignerFault signer
fault_of Calls.Memory = Memory
