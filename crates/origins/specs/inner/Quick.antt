-- What an origin's text begins with, as it is printed.
use Rattle.std.specs.Prelude.{◌≡◌, ◌<◌, ◌^◌, ℕ, List, Option, ◌++◌, codes}
use Rattle.ip_text.specs.Number.{IsDecimalText}
use Rattle.ip_text.specs.Ipv4.{IsIpv4Text}
use Rattle.origins.specs.Text.{IsLengthsText}
use Rattle.origins.specs.inner.Told.{IsTold}

-- a decimal number of 32 bits, and what comes behind it
pub record BeginsWith (text : List ℕ) (n : ℕ) (rest : List ℕ) : Type 0 where
  pub digits : List ℕ
  pub spelled : text ≡ digits ++ rest
  pub written : IsDecimalText digits n
  pub fits : n < 2 ^ 32

-- an address with a slash, and what comes behind that
pub record BeginsWithAddress (text : List ℕ) (address : ℕ) (rest : List ℕ) : Type 0 where
  pub address_text : List ℕ
  pub spelled : text ≡ address_text ++ codes "/" ++ rest
  pub address_is : IsIpv4Text address_text address

-- a length, a maximum if one follows, and what comes behind
pub record BeginsWithLengths (text : List ℕ) (len : ℕ) (told : Option ℕ) (rest : List ℕ) : Type 0 where
  pub lengths_text : List ℕ
  pub maximum : Option ℕ
  pub spelled : text ≡ lengths_text ++ rest
  pub written : IsLengthsText lengths_text len maximum
  pub maximum_told : IsTold told maximum
