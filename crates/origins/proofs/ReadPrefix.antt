-- What the text of a prefix makes.
use Rattle.std.proofs.Common.{◌≡◌, ℕ, Bool, List, Option, Some, None, subst}
use Rattle.std.specs.Prelude.{MatchOption}
use Rattle.origins.specs.Prefix.{IsPrefix}
use Rattle.origins.specs.Text.{IsPrefixText}
use Rattle.origins.specs.Origin.{SpellsPrefix}
use Rattle.origins.specs.declared.Prefix.{Prefix}
use Rattle.origins.proofs.Prefixes.{same_prefixes}

pub reads_made : (text : List ℕ) (v6 : Bool) (address len : ℕ) (r : Option Prefix) → IsPrefixText text v6 address len None
    → MatchOption r (¬ IsPrefix v6 address len) (λ p. (p.v6 ≡ v6) × (p.address ≡ address) × (p.length ≡ len))
    → MatchOption r ((prefix : Prefix) → ¬ SpellsPrefix text prefix) (λ prefix. SpellsPrefix text prefix)
reads_made text v6 address len None is bad = λ prefix spelled.
    let same = same_prefixes text _ _ _ _ _ _ _ _ spelled is in
    bad (subst (λ (x : Bool). IsPrefix x address len) same.v6_same
    (subst (λ (x : ℕ). IsPrefix prefix.v6 x len) same.address_same
    (subst (λ (x : ℕ). IsPrefix prefix.v6 prefix.address x) same.len_same prefix.prefix)))
reads_made text v6 address len (Some p) is has =
    rw (has.0, has.1, has.2) is
