-- The commands of a workload of so many authorities. These are numbered from 1, and the trust anchor
-- is number 0; each has the authority of half its number, rounded down, as its parent.
use Rattle.std.specs.Prelude.{◌≡◌, ℕ, zero, suc, ◌+◌, ◌*◌, ◌/◌, ◌==◌, false, List, [], ◌∷◌, ◌++◌, length, codes, decimal, if◌then◌else◌, ⊤}
use Rattle.res_sets.specs.declared.numbers.Family.TheVariants.{Asn, V4, V6}
use Rattle.res_sets.specs.declared.numbers.Range.{Range}
use Rattle.res_sets.specs.declared.holdings.Resources.{Resources}
use Rattle.res_sets.specs.Sets.{no_numbers}
use Rattle.origins.specs.declared.Origin.{Origin}
use Rattle.authority_book.specs.declared.commands.Command.{Command}
use Rattle.authority_book.specs.declared.commands.Command.TheVariants as commands
use Rattle.krill_top.specs.declared.generated.Wanted.{Wanted}
use Rattle.krill_top.specs.declared.generated.Wanted.TheVariants.{Add, AddChild, AddParent, AddOrigins, Shrink}

-- ---- which commands

-- The four commands for the authority of that number: it is added, its parent takes it in, it names
-- its parent, and it gets its origins.
abbrev pub wanted_for : ℕ → List Wanted
wanted_for authority =
    Add authority ∷ AddChild authority ∷ AddParent authority ∷ AddOrigins authority ∷ []

-- Those before the first publication.
abbrev pub generated : ℕ → List Wanted
generated zero = []
generated (suc before) = generated before ++ wanted_for (suc before)

-- That before the second one.
abbrev pub changed : List Wanted
changed = Shrink ∷ []

-- ---- what they say

abbrev pub name_of : ℕ → List ℕ
name_of number = if number == 0 then codes "ta" else codes "c" ++ decimal number

abbrev pub parent_of : ℕ → ℕ
parent_of number = number / 2

-- The number of the address 10.0.0.0, and those of the last ones of 10.0.0.0/8 and 10.0.0.0/15.
abbrev pub first_address : ℕ
first_address = 167772160

abbrev pub last_of_8 : ℕ
last_of_8 = 184549375

abbrev pub last_of_15 : ℕ
last_of_15 = 167903231

-- The addresses of IPv4 from 10.0.0.0 to the last one, and no other resources.
pub record IsGrant (last : ℕ) (grant : Resources) : Type 0 where
  pub asn : grant.asn ≡ no_numbers Asn
  pub range : Range
  pub first_is : range.first ≡ first_address
  pub last_is : range.last ≡ last
  pub v4 : grant.v4 ≡ record { family = V4; ranges = range ∷ [] }
  pub v6 : grant.v6 ≡ no_numbers V6

-- The origin `10.k.j.0/24 => a` of authority k, where a is 64496 + k.
pub record IsOriginOf (authority place : ℕ) (origin : Origin) : Type 0 where
  pub v4 : origin.prefix.v6 ≡ false
  pub address : origin.prefix.address ≡ first_address + authority * 65536 + place * 256
  pub len : origin.prefix.length ≡ 24
  pub max : origin.max ≡ 24
  pub asn : origin.asn ≡ 64496 + authority

-- Those for one j after another, from this one on.
abbrev pub AreOriginsFrom : ℕ → ℕ → List Origin → Type 0
AreOriginsFrom authority place [] = ⊤
AreOriginsFrom authority place (origin ∷ rest) =
    IsOriginOf authority place origin × AreOriginsFrom authority (suc place) rest

-- Those for j from 0 to 63.
pub record AreOriginsOf (authority : ℕ) (origins : List Origin) : Type 0 where
  pub count : length origins ≡ 64
  pub are : AreOriginsFrom authority 0 origins

-- The command that is wanted, and the name of the authority to which it goes.
abbrev pub IsCommandOf : Wanted → List ℕ → Command → Type 0
IsCommandOf (Add authority) name command = (name ≡ name_of 0)
    × (command ≡ commands.Add (name_of authority) 0)
IsCommandOf (AddChild authority) name command = (name ≡ name_of (parent_of authority))
    × ((grant : Resources) × IsGrant last_of_8 grant
    × (command ≡ commands.AddChild (name_of authority) grant))
IsCommandOf (AddParent authority) name command = (name ≡ name_of authority)
    × (command ≡ commands.AddParent (name_of (parent_of authority)))
IsCommandOf (AddOrigins authority) name command = (name ≡ name_of authority)
    × ((added : List Origin) × AreOriginsOf authority added
    × (command ≡ commands.UpdateRoas added []))
IsCommandOf Shrink name command = (name ≡ name_of 0)
    × ((grant : Resources) × IsGrant last_of_15 grant
    × (command ≡ commands.UpdateChild (name_of 1) grant))
