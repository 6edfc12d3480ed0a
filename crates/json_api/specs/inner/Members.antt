-- The members of a command's line as they are printed, for private clauses.
use Rattle.std.specs.Prelude.{ℕ, List, ◌++◌, codes, decimal}
use Rattle.json.specs.Print.{quoted}
use Rattle.json_api.specs.declared.history.Member.{Member}
use Rattle.json_api.specs.declared.history.MemberValue.{MemberValue}
use Rattle.json_api.specs.declared.history.MemberValue.TheVariants.{Row, Name, Number, Resources, Origins}
use Rattle.json_api.specs.Names.{name_of}
use Rattle.json_api.specs.Table.{command_of}
use Rattle.json_api.specs.Texts.{resources_text, origins_text}

abbrev pub value_text : MemberValue → List ℕ
value_text (Row of) = quoted (command_of of)
value_text (Name name) = quoted name.now
value_text (Number n) = decimal n
value_text (Resources held) = resources_text held.now
value_text (Origins origins) = origins_text origins.now

abbrev pub member_line : Member → List ℕ
member_line member = quoted (name_of member.field) ++ codes ":" ++ value_text member.value
