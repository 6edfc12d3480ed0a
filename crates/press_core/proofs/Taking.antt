-- The cut and the configurations with what was gathered.
use Rattle.std.proofs.Common.{◌≡◌, ℕ, zero, suc, ◌+◌, ◌≤◌, List, [], ◌∷◌, length, refl, ap, arith}
use Rattle.authority_book.specs.Settings.{Settings}
use Rattle.editions.specs.Edition.{cut_at}
use Rattle.editions.specs.declared.gathered.Gathered.{Gathered}
use Rattle.editions.specs.Gathering.{configs_from, cut_from}

pub configs-long : (desk : ℕ) (configs : List Settings) (gathered : List Gathered) → length (configs_from desk configs gathered) ≡ length configs
configs-long desk [] gathered = refl
configs-long desk (config ∷ rest) gathered = ap suc (configs-long (desk + 1) rest gathered)

pub cut-long : (desk : ℕ) (cut : List ℕ) (gathered : List Gathered) → length (cut_from desk cut gathered) ≡ length cut
cut-long desk [] gathered = refl
cut-long desk (n ∷ rest) gathered = ap suc (cut-long (desk + 1) rest gathered)

-- No number falls.
pub cut-grown : (desk : ℕ) (cut : List ℕ) (gathered : List Gathered) (k : ℕ) → cut_at cut k ≤ cut_at (cut_from desk cut gathered) k
cut-grown desk [] gathered k = omega arith
cut-grown desk (n ∷ rest) gathered zero = omega arith
cut-grown desk (n ∷ rest) gathered (suc k) = cut-grown (desk + 1) rest gathered k
