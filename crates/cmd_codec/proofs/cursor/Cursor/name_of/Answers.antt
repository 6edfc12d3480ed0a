use Rattle.std.proofs.Common.{◌≡◌, ◌∙◌, length, sym, ap, subst, take, refl, true, List, ℕ, arith}
use Rattle.std.proofs.lemmas.List.{length-take-le}
use Rattle.std.proofs.lemmas.Bool.{false≢true}
use Rattle.names.specs.Name.{IsName}
use Rattle.cmd_codec.specs.Fault.{is_name_text}
use Rattle.cmd_codec.proofs.Names.{name_passes, no_name}
use Rattle.cmd_codec.proofs.Ways.{field_short, field_broken, passes_field}
use Rattle.cmd_codec.proofs.cursor.Cursor.name_of.Goals as goal

pub returns-in_default : goal.returns-in_default
returns-in_default c = field_short c.args.len is_name_text c.args.self.now c.fault-fault.result c.fault-fault.ensures c.in_default.ensures.0

pub returns-in-None : goal.returns-in-None
returns-in-None c =
    let (long, taken, moved) = c.in-Some.ensures in
    let size : length (take c.args.len c.args.self.now.left) ≡ c.args.len = length-take-le c.args.len c.args.self.now.left long in
    let none : ¬ IsName (take c.args.len c.args.self.now.left) = λ is. false≢true (c.in-None.ensures.found.1 (subst (λ (t : List ℕ). IsName t) (sym taken) is)) in
    field_broken c.args.len is_name_text c.args.self.now c.fault-fault.result c.fault-fault.ensures long
    (no_name (take c.args.len c.args.self.now.left) (omega (arith, size, c.requires)) (omega (arith, size, c.requires)) none)

pub returns-in-Some-of_bytes : goal.returns-in-Some-of_bytes
returns-in-Some-of_bytes c =
    let (long, taken, moved) = c.in-Some.ensures in
    let found = c.in-Some-of_bytes.ensures in
    let is : IsName c.in-Some.text.now = found.found.0 refl in
    let same : c.in-Some-of_bytes.name ≡ take c.args.len c.args.self.now.left = found.name ∙ taken in
    let good : is_name_text (take c.args.len c.args.self.now.left) ≡ true = ap is_name_text (sym taken) ∙ name_passes c.in-Some.text.now is in (
      subst (λ (t : List ℕ). IsName t) (sym found.name) is,
      ap (λ (t : List ℕ). length t) same ∙ length-take-le c.args.len c.args.self.now.left long,
      passes_field c.args.len is_name_text c.args.self.now c.take.new.self c.in-Some-of_bytes.name long good moved same,
    )
