use Rattle.std.proofs.Common.{◌≡◌, ℕ, List, Some, map, sym, subst, ◌∙◌}
use Rattle.std.specs.Prelude.{Option}
use Rattle.std.proofs.lemmas.List.{map-id}
use Rattle.key_roll.specs.declared.rows.KeyRow.{KeyRow}
use Rattle.pub_set.specs.declared.steps.Change.{Change}
use Rattle.record_forms.specs.Form.{Form}
use Rattle.record_forms.specs.Forms.{both, counted, number_64}
use Rattle.press_records.specs.Changes.{changes}
use Rattle.press_records.specs.Rows.{RowValue, row_value, key_rows}
use Rattle.press_records.specs.Edition.{StandingValue}
use Rattle.press_records.specs.Views.{standing_value}
use Rattle.press_records.proofs.Parsing.{both_read}
use Rattle.press_records.proofs.edition.read_lists.Goals as goal

abbrev Found : Type 0
Found = (List ℕ × (List RowValue × List Change)) × List ℕ

abbrev found : List ℕ → List KeyRow → List Change → List ℕ → Option Found
found cut rows all rest = Some ((cut, (map row_value rows, all)), rest)

pub returns : goal.returns
returns c =
    let before : StandingValue = standing_value c.args.before.now in
    let cuts : Form (List ℕ) = counted number_64 in
    let keys : Form (List RowValue) = counted (key_rows before.rows) in
    let others : Form (List Change) = counted (changes before.set) in
    let behind = c.in_ok-cut.bytes.now in
    let further = c.in_ok-rows.bytes.now in
    let rest = c.in_ok-changes.bytes.now in
    let cut = c.in_ok-cut.cut.items in
    let rows = c.in_ok-rows.rows.items in
    let all = c.in_ok-changes.changes.items in
    let first : cuts.read c.args.bytes.now ≡ Some (cut, behind) =
    subst (λ (l : List ℕ). cuts.read c.args.bytes.now ≡ Some (l, behind)) (map-id cut) c.in_ok-cut.ensures in
    let second : keys.read behind ≡ Some (map row_value rows, further) = c.in_ok-rows.ensures in
    let third : others.read further ≡ Some (all, rest) =
    subst (λ (l : List Change). others.read further ≡ Some (l, rest)) (map-id all) c.in_ok-changes.ensures in
    let lists = both_read keys others behind further rest (map row_value rows) all second third in
    both_read cuts (both keys others) c.args.bytes.now behind rest cut (map row_value rows, all) first lists
    ∙ (λ i. found (sym c.new.ensures i) (sym c.new-2.ensures i) (sym c.new-3.ensures i) rest)
