-- Which bytes are a name's.
use Rattle.std.proofs.Common.{◌≡◌, ℕ, ◌≤◌, true, false, List, length, arith, inl, inr}
use Rattle.std.proofs.lemmas.Bool.{cases_Bool}
use Rattle.std.proofs.lemmas.List.Sums.{AllPass-from_list_all, list_all-from_AllPass}
use Rattle.names.specs.Name.{IsName, is_name_byte}
use Rattle.cmd_codec.specs.Fault.{is_name_text}

pub name_passes : (text : List ℕ) → IsName text → is_name_text text ≡ true
name_passes text is = list_all-from_AllPass is_name_byte text is.plain

pub no_name : (text : List ℕ) → 1 ≤ length text → length text ≤ 64 → ¬ IsName text → is_name_text text ≡ false
no_name text some short none = elim (cases_Bool (is_name_text text)) [
  | inl all ↦ absurd (none (record { not_empty = omega arith; short = short; plain = AllPass-from_list_all is_name_byte text all }))
  | inr lacks ↦ lacks
]
