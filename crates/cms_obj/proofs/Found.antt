-- What an answer that is the reading's says.
use Rattle.std.proofs.Common.{◌≡◌, ℕ, List, Result, Ok, Err}
use Rattle.std.specs.Prelude.{IfOk, IfErr}
use Rattle.der.specs.Grammar.{AreBytes}
use Rattle.der.specs.declared.shape_fault.ShapeFault.{ShapeFault}
use Rattle.der.specs.Outcome.{Gives, GivesUnlessMemory, UnlessMemory}
use Rattle.der.specs.Object.{Spells, read_object, IsTrueFault}
use Rattle.der.specs.laws.ObjectLaws.{found_from, only_from, fault_from}
use Rattle.cms_obj.specs.declared.values.SignedObject.{SignedObject}
use Rattle.cms_obj.specs.Values.{ObjectValue, object_value}
use Rattle.cms_obj.specs.Formats.{signed_object}
use Rattle.cms_obj.specs.laws.ObjectLaws.{signed_object-law}

unless : (result : Result SignedObject ShapeFault) (read : Result ObjectValue ShapeFault) → Gives object_value result read → GivesUnlessMemory object_value result read
unless (Ok x) read gives = gives
unless (Err e) read gives = λ some. gives

pub found-by : (bytes : List ℕ) → AreBytes bytes → (result : Result SignedObject ShapeFault) → Gives object_value result (read_object signed_object bytes) → IfOk result (λ o. Spells signed_object (object_value o) bytes)
found-by bytes fits result gives = found_from object_value signed_object signed_object-law bytes fits result (unless result _ gives)

pub only-by : (bytes : List ℕ) → AreBytes bytes → (result : Result SignedObject ShapeFault) → Gives object_value result (read_object signed_object bytes) → (v : ObjectValue) → Spells signed_object v bytes → UnlessMemory (λ o. object_value o ≡ v) result
only-by bytes fits result gives v is = only_from object_value signed_object signed_object-law bytes fits result (unless result _ gives) v is

pub fault-by : (bytes : List ℕ) → AreBytes bytes → (result : Result SignedObject ShapeFault) → Gives object_value result (read_object signed_object bytes) → IfErr result (IsTrueFault signed_object bytes)
fault-by bytes fits result gives = fault_from object_value signed_object signed_object-law bytes fits result (unless result _ gives)
