-- The names of members as they are kept, for the type's model.
use Rattle.std.specs.Prelude.{ℕ, List, string_bytes}
use Rattle.json_api.specs.declared.line.Text.{Text}
use Rattle.json_api.specs.declared.line.Text.TheVariants.{Field, Other}
use Rattle.json_api.specs.Names.{name_of}

abbrev pub text_of : Text → List ℕ
text_of (Field f) = name_of f
text_of (Other text) = string_bytes text
