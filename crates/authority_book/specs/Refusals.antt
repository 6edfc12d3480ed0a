-- The number and the name of each refusal.
use Rattle.std.specs.Prelude.{ℕ, List, codes}
use Rattle.authority_book.specs.declared.refusals.Refusal.{Refusal}
use Rattle.authority_book.specs.declared.refusals.Refusal.TheVariants.{Deleted, NameTaken, TooManyAuthorities, NoSuchSigner, HasParent, NoParent, ChildThere, NoSuchChild, TooManyChildren, Suspended, NotSuspended, OriginThere, OriginTwice, NoSuchOrigin, TooManyOrigins, RollGoing, NoRoll, AnchorOnly, NotForAnchor}

abbrev pub code_of : Refusal → ℕ
code_of Deleted = 1
code_of NameTaken = 2
code_of TooManyAuthorities = 3
code_of NoSuchSigner = 4
code_of HasParent = 5
code_of NoParent = 6
code_of ChildThere = 7
code_of NoSuchChild = 8
code_of TooManyChildren = 9
code_of Suspended = 10
code_of NotSuspended = 11
code_of (OriginThere _) = 12
code_of (OriginTwice _) = 13
code_of (NoSuchOrigin _) = 14
code_of (TooManyOrigins _) = 15
code_of RollGoing = 16
code_of NoRoll = 17
code_of AnchorOnly = 18
code_of NotForAnchor = 19

abbrev pub name_of : Refusal → List ℕ
name_of Deleted = codes "Deleted"
name_of NameTaken = codes "NameTaken"
name_of TooManyAuthorities = codes "TooManyAuthorities"
name_of NoSuchSigner = codes "NoSuchSigner"
name_of HasParent = codes "HasParent"
name_of NoParent = codes "NoParent"
name_of ChildThere = codes "ChildThere"
name_of NoSuchChild = codes "NoSuchChild"
name_of TooManyChildren = codes "TooManyChildren"
name_of Suspended = codes "Suspended"
name_of NotSuspended = codes "NotSuspended"
name_of (OriginThere _) = codes "OriginThere"
name_of (OriginTwice _) = codes "OriginTwice"
name_of (NoSuchOrigin _) = codes "NoSuchOrigin"
name_of (TooManyOrigins _) = codes "TooManyOrigins"
name_of RollGoing = codes "RollGoing"
name_of NoRoll = codes "NoRoll"
name_of AnchorOnly = codes "AnchorOnly"
name_of NotForAnchor = codes "NotForAnchor"
