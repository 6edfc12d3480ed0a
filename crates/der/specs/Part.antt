-- Where a reading stands within an object. Places are offsets in bytes.
use Rattle.std.specs.Prelude.{ℕ, ◌+◌, ◌-◌, ◌<◌, ◌≤◌, ◌^◌, List, [], ◌∷◌, Bool, true, false, not, ◌==◌, length, take, Result, Ok, Err, if◌then◌else◌}
use Rattle.der.specs.Grammar.{AreBytes}
use Rattle.der.specs.Reading.{element_at}
use Rattle.der.specs.declared.fault.DerFault.{DerFault}
use Rattle.der.specs.declared.shape_fault.ShapeFault.{ShapeFault}
use Rattle.der.specs.declared.shape_fault.ShapeFault.TheVariants.{Shape}
use Rattle.der.specs.declared.part.Part.{Part}

-- at: how many bytes of the object lie before it. left: the bytes from there to the end of what the
-- reading may take. last: the place that a fault names which no earlier byte tells. Within an element
-- it is the element's last byte, since the header fixes where the element ends; for a whole object it
-- is the object's length.
pub record Place : Type 0 where
  pub at : ℕ
  pub left : List ℕ
  pub last : ℕ

abbrev pub place : Part → Place
place part = record { at = part.at; left = part.bytes.now; last = part.last }

-- The place of a whole object.
abbrev pub start : List ℕ → Place
start bytes = record { at = 0; left = bytes; last = length bytes }

-- Bytes, fewer than 2 ^ 32.
pub record IsInput (input : List ℕ) : Type 0 where
  pub bytes : AreBytes input
  pub short : length input < 2 ^ 32

-- What a place is that a reading comes to: its bytes end by the byte at last.
pub record IsPlace (p : Place) : Type 0 where
  pub input : IsInput p.left
  pub ends : p.at + length p.left ≤ p.last + 1

infixl 10 ◌>>=◌
abbrev pub ◌>>=◌ : {A B : Type 0} → Result A ShapeFault → (A → Result B ShapeFault) → Result B ShapeFault
(Ok x) >>= f = f x
(Err e) >>= f = Err e

-- The place behind so many bytes.
abbrev pub behind : Place → List ℕ → Place
behind p rest = record { at = p.at + (length p.left - length rest); left = rest; last = p.last }

-- The place of an element's content.
abbrev pub inside : Place → List ℕ → List ℕ → Place
inside p content rest = record {
  at = p.at + (length p.left - length rest) - length content;
  left = content;
  last = p.at + (length p.left - length rest) - 1;
}

abbrev pub opened : Place → Result (List ℕ × List ℕ) DerFault → Result (Place × Place) ShapeFault
opened p (Ok x) = Ok (inside p x.0 x.1, behind p x.1)
opened p (Err e) = Err (Shape p.last)

-- A byte is next that isn't that tag.
abbrev pub is_other : ℕ → List ℕ → Bool
is_other tag [] = false
is_other tag (b ∷ bytes) = not (b == tag)

-- The content of the element of that tag in front, and what stands behind the element. Another tag is
-- told where it stands, and any other fault of a header at the last place.
unfoldable pub open_at : ℕ → Place → Result (Place × Place) ShapeFault
open_at tag p = if is_other tag p.left then Err (Shape p.at) else opened p (element_at p.at tag p.left)

abbrev pub ended : ℕ → List ℕ → Result (Unit {0}) ShapeFault
ended at [] = Ok tt
ended at (b ∷ bytes) = Err (Shape at)

-- Nothing is left. A byte that is left is told where it stands.
unfoldable pub end_at : Place → Result (Unit {0}) ShapeFault
end_at p = ended p.at p.left

-- The next byte is that tag.
abbrev pub begins : ℕ → List ℕ → Bool
begins tag [] = false
begins tag (b ∷ bytes) = b == tag

abbrev pub is_empty : List ℕ → Bool
is_empty [] = true
is_empty (b ∷ bytes) = false

-- The content of the element of that tag that is all there is.
unfoldable pub sole_at : ℕ → Place → Result Place ShapeFault
sole_at tag p = open_at tag p >>= (λ q. end_at q.1 >>= (λ u. Ok q.0))

-- The bytes in front of a later place.
abbrev pub before : Place → Place → List ℕ
before p q = take (length p.left - length q.left) p.left
