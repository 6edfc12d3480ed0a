-- A journal's refusal, as the answer of an append.
use Rattle.std.proofs.Common.{ℕ, ◌+◌, List, length}
use Rattle.disk_api.specs.declared.disk.Disk.{Ghosts as DiskGhosts}
use Rattle.gate_journal.specs.Answers.{IsRefusal, IsAppendFault}
use Rattle.gate_journal.specs.View.{View}
use Rattle.gate_journal.specs.declared.fault.AppendFault.{AppendFault}
use Rattle.gate_journal.specs.declared.fault.AppendFault.TheVariants.{Shut, JournalFull, DiskFault}

pub refusal_answers : {D : Type 0} (disk_of : DiskGhosts D) (fault : AppendFault D) (payload : List ℕ) (journal : View D) → IsRefusal fault (length payload + 9) journal → IsAppendFault disk_of fault payload journal journal
refusal_answers disk_of (Shut rose) payload journal why = why
refusal_answers disk_of (JournalFull held needed) payload journal why = why
refusal_answers disk_of (DiskFault rose) payload journal why = absurd why
