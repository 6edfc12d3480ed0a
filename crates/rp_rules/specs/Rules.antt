-- The numbers and the names of the rules (RFC 6487 section 7, RFC 9286 section 6).
use Rattle.std.specs.Prelude.{ℕ, List, codes}
use Rattle.rp_rules.specs.declared.rules.Rule.{Rule}
use Rattle.rp_rules.specs.declared.rules.Rule.TheVariants as rule

abbrev pub code_of : Rule → ℕ
code_of rule.Missing = 1
code_of rule.Hash = 2
code_of rule.Shape = 3
code_of rule.Signature = 4
code_of rule.Identity = 5
code_of rule.Time = 6
code_of rule.Resources = 7
code_of rule.Revoked = 8
code_of rule.Place = 9
code_of rule.List = 10
code_of rule.Depth = 11

abbrev pub name_of : Rule → List ℕ
name_of rule.Missing = codes "Missing"
name_of rule.Hash = codes "Hash"
name_of rule.Shape = codes "Shape"
name_of rule.Signature = codes "Signature"
name_of rule.Identity = codes "Identity"
name_of rule.Time = codes "Time"
name_of rule.Resources = codes "Resources"
name_of rule.Revoked = codes "Revoked"
name_of rule.Place = codes "Place"
name_of rule.List = codes "List"
name_of rule.Depth = codes "Depth"
