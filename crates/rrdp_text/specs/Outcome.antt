-- What a reader answers (RFC 8182 section 3.5).
use Rattle.std.specs.Prelude.{◌≡◌, ℕ, ◌+◌, ◌-◌, ◌<◌, ◌≤◌, List, ◌++◌, length, take, Result, Ok, Err}
use Rattle.rrdp_text.specs.declared.fault.Stop.{Stop}
use Rattle.rrdp_text.specs.declared.fault.Stop.TheVariants.{Here, Memory as OutOfMemory}
use Rattle.rrdp_text.specs.declared.fault.XmlFault.{XmlFault}
use Rattle.rrdp_text.specs.declared.fault.XmlFault.TheVariants.{NotTemplate, Memory}

-- What is read of the bytes is what the result says, seen so; a fault is at the place from which so
-- many bytes are left.
abbrev pub IsReadAs : {X A : Type 0} → (X → A) → List ℕ → Result X XmlFault → Result A ℕ → Type 0
IsReadAs view bytes (Ok x) read = read ≡ Ok (view x)
IsReadAs view bytes (Err (NotTemplate at)) read =
    (at ≤ length bytes) × (read ≡ Err (length bytes - at))
IsReadAs view bytes (Err Memory) read = Unit {0}

-- The fault is true: its place is in the bytes or at their end, and where it is in them, no text
-- begins with the bytes up to there and the one there.
abbrev pub IsTrueFault : {A : Type 0} → (A → Type 0) → (A → List ℕ) → List ℕ → XmlFault → Type 0
IsTrueFault {A} Good text bytes (NotTemplate at) = (at ≤ length bytes)
    × (at < length bytes → (a : A) (more : List ℕ) → Good a
    → text a ≡ take (at + 1) bytes ++ more → ⊥)
IsTrueFault Good text bytes Memory = Unit {0}

-- The value is read, or memory is out.
abbrev pub IsOkOrMemory : {X A : Type 0} → (X → A) → A → Result X XmlFault → Type 0
IsOkOrMemory view a (Ok x) = view x ≡ a
IsOkOrMemory view a (Err e) = e ≡ Memory

-- The place of a fault from which so many bytes are left, of so many.
abbrev pub fault_of : ℕ → Stop → XmlFault
fault_of len (Here left) = NotTemplate (len - left)
fault_of len OutOfMemory = Memory
