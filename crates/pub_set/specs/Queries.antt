-- Which changes of a query are refused (RFC 8181, sections 2.2 and 2.5).
use Rattle.std.specs.Prelude.{◌≡◌, ℕ, nat_eq, IsTrue, if◌then◌else◌, List, [], ◌∷◌}
use Rattle.std.specs.Prelude.{Option, None, Some}
use Rattle.std.specs.List.{starts_with, AllByRecursion}
use Rattle.std.specs.Option.{option_map_or}
use Rattle.std.specs.Str.{bytes_eq}
use Rattle.sha2.specs.Sha256.{sha256}
use Rattle.pub_set.specs.declared.steps.Change.{Change}
use Rattle.pub_set.specs.declared.refusals.QueryRefused.{QueryRefused}
use Rattle.pub_set.specs.declared.refusals.QueryRefused.TheVariants.{Query, Memory}
use Rattle.pub_set.specs.Changes.{Contents, uri_of, hash_of, after}

-- What is wrong with a hash, or with none, where this is held (RFC 8181 section 2.5).
abbrev pub hash_code : Option (List ℕ) → Option (List ℕ) → Option ℕ
hash_code None None = None
hash_code (Some bytes) None = Some 2
hash_code None (Some hash) = Some 3
hash_code (Some bytes) (Some hash) =
    if bytes_eq (sha256 bytes) hash then None else Some 4

-- The code with which a change is refused where this is held at its URI.
abbrev pub code_of : List ℕ → Option (List ℕ) → Change → Option ℕ
code_of base held change =
    if starts_with nat_eq (uri_of change) base then hash_code held (hash_of change)
    else Some 1

-- The code and the URI of the first change that is refused after those before it.
abbrev pub first_refusal : List ℕ → Contents → List Change → Option (ℕ × List ℕ)
first_refusal base held [] = None
first_refusal base held (change ∷ rest) =
    option_map_or (λ code. Some (code, uri_of change)) (code_of base (held (uri_of change)) change)
    (first_refusal base (after held change) rest)

-- A refusal names the first change that is refused, or memory is short.
abbrev pub IsRefusal : List ℕ → Contents → List Change → QueryRefused → Type 0
IsRefusal base held changes (Query code uri) = first_refusal base held changes ≡ Some (code, uri)
IsRefusal base held changes Memory = Unit {0}

-- The URI of each change begins with the base.
abbrev pub AreWithin : List ℕ → List Change → Type 0
AreWithin base changes = AllByRecursion (λ c. IsTrue (starts_with nat_eq (uri_of c) base)) changes
