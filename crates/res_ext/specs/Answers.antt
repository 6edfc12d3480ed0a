-- What reading an extension answers (RFC 3779 sections 2.2 and 3.2).
use Rattle.std.specs.Prelude.{◌≡◌, ℕ, Bool, false, not, ◌&&◌, Option, Some, None, List, Result, Ok, Err, ⊤, if◌then◌else◌}
use Rattle.der.specs.Tags as tag
use Rattle.der.specs.Reading.{element_at}
use Rattle.der.specs.declared.fault.DerFault.{DerFault}
use Rattle.der.specs.declared.shape_fault.ShapeFault.{ShapeFault}
use Rattle.der.specs.Part.{Place, start, is_empty}
use Rattle.der.specs.Form.{Whole, Front}
use Rattle.res_sets.specs.declared.numbers.Family.TheVariants.{V4, V6}
use Rattle.res_ext.specs.Formats.{part}
use Rattle.res_ext.specs.declared.fault.ExtFault.{ExtFault}
use Rattle.res_ext.specs.declared.fault.ExtFault.TheVariants.{NotCanonical, Family as BadFamily, Memory}
use Rattle.res_ext.specs.Extensions.{Spans, named, are_alike, may_follow}

-- This very answer, seen by view, unless memory ran out.
abbrev pub IsUnlessMemory : {X Y : Type 0} → (X → Y) → Result X ExtFault → Result Y ExtFault
    → Type 0
IsUnlessMemory view (Ok x) wanted = Ok (view x) ≡ wanted
IsUnlessMemory view (Err NotCanonical) wanted = Err NotCanonical ≡ wanted
IsUnlessMemory view (Err BadFamily) wanted = Err BadFamily ≡ wanted
IsUnlessMemory view (Err Memory) wanted = ⊤

-- ---- how it is come by

-- The content of the SEQUENCE that is all there is.
abbrev pub only_content : Result (List ℕ × List ℕ) DerFault → Option Place
only_content (Ok x) = if is_empty x.1 then Some (start x.0) else None
only_content (Err d) = None

abbrev pub content_in : List ℕ → Option Place
content_in bytes = only_content (element_at 0 tag.sequence bytes)

abbrev pub told : {A : Type 0} → Bool → Result A ShapeFault → Result A ExtFault
told wrong (Ok x) = Ok x
told wrong (Err e) = if wrong then Err BadFamily else Err NotCanonical

abbrev pub told_in : {A : Type 0} → Whole A → (Place → Bool) → Option Place → Result A ExtFault
told_in f wrong None = Err NotCanonical
told_in f wrong (Some p) = told (wrong p) (f.read p)

-- What the bytes say: where the content isn't in the format, a fault by whether it goes wrong.
abbrev pub answer : {A : Type 0} → Whole A → (Place → Bool) → List ℕ → Result A ExtFault
answer f wrong bytes = told_in f wrong (content_in bytes)

abbrev pub never : Place → Bool
never p = false

-- The value in front, if one is there, and the place behind it.
abbrev pub found_or : {A : Type 0} → Place → Result (A × Place) ShapeFault → Option A × Place
found_or p (Ok x) = (Some x.0, x.1)
found_or p (Err e) = (None, p)

abbrev pub tried : {A : Type 0} → Front A → Place → Option A × Place
tried f p = found_or p (f.read p)

abbrev pub wrong_behind : Option (Option Spans) → Option (Option Spans)
    → Result ((List ℕ × List ℕ) × Place) ShapeFault → Bool
wrong_behind v4 v6 (Ok ((family, content), behind)) =
    are_alike v4 v6 && not (may_follow family v4 v6)
wrong_behind v4 v6 (Err e) = false

abbrev pub wrong_after : Option (Option Spans) → Option (Option Spans) × Place → Bool
wrong_after v4 x = wrong_behind v4 x.0 (named.read x.1)

abbrev pub wrong_from : Option (Option Spans) × Place → Bool
wrong_from x = wrong_after x.0 (tried (part V6) x.1)

-- Whether a family that may not come next is told.
abbrev pub goes_wrong : Place → Bool
goes_wrong p = wrong_from (tried (part V4) p)
