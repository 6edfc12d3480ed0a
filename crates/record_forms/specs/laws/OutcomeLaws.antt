-- What the answer for a whole record says of it.
use Rattle.std.proofs.Common.{◌≡◌, List, ℕ, Some, None, sym, ◌∙◌}
use Rattle.std.specs.Prelude.{Result, Ok, Err, IfOk, Option}
use Rattle.record_forms.specs.declared.fault.ReadFault.{ReadFault}
use Rattle.record_forms.specs.declared.fault.ReadFault.TheVariants.{Bad, Memory}
use Rattle.record_forms.specs.Form.{AreBytes, Form, IsForm, Spells}
use Rattle.record_forms.specs.Forms.{read_whole}
use Rattle.record_forms.specs.Outcome.{Gives, IsUnlessMemory}
use Rattle.record_forms.specs.laws.ByteLaws.{same-some}
use Rattle.record_forms.specs.laws.FormLaws.{whole-again, whole-taken}

-- What is read is spelled so.
pub found-from : {X Y : Type 0} (view : X → Y) (f : Form Y) → IsForm f → (bytes : List ℕ) → AreBytes bytes → (answer : Result X ReadFault)
    → Gives view answer (read_whole f bytes) → IfOk answer (λ x. Spells f (view x) bytes)
found-from view f law bytes are (Ok x) gives = whole-taken f law (view x) bytes are gives
found-from view f law bytes are (Err e) gives = tt

none-some : {A : Type 0} (r : Option A) (x : A) → r ≡ None → r ≡ Some x → ⊥
none-some r x none some = absurd cc

-- What is spelled so is read.
pub only-from : {X Y : Type 0} (view : X → Y) (f : Form Y) → IsForm f → (bytes : List ℕ) → (answer : Result X ReadFault)
    → Gives view answer (read_whole f bytes) → (wanted : Y) → Spells f wanted bytes → IsUnlessMemory view answer wanted
only-from view f law bytes (Ok x) gives wanted is = same-some (view x) wanted (sym gives ∙ whole-again f law wanted bytes is)
only-from view f law bytes (Err Bad) gives wanted is = none-some (read_whole f bytes) wanted gives (whole-again f law wanted bytes is)
only-from view f law bytes (Err Memory) gives wanted is = tt
