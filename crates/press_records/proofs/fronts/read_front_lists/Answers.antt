use Rattle.std.proofs.Common.{◌≡◌, ℕ, List, Some, map, subst, ◌∙◌, sym}
use Rattle.std.specs.Prelude.{Option}
use Rattle.std.proofs.lemmas.List.{map-id}
use Rattle.key_roll.specs.declared.rows.KeyRow.{KeyRow}
use Rattle.record_forms.specs.Form.{Form}
use Rattle.record_forms.specs.Forms.{both, counted, number_32, number_64}
use Rattle.press_records.specs.Rows.{RowValue, row_value, key_rows}
use Rattle.press_records.specs.Edition.{StandingValue}
use Rattle.press_records.specs.Views.{standing_value}
use Rattle.press_records.specs.inner.Taking.{FrontLists}
use Rattle.press_records.proofs.Parsing.{both_read}
use Rattle.press_records.proofs.fronts.read_front_lists.Goals as goal

abbrev found : List ℕ → List KeyRow → ℕ → List ℕ → Option (FrontLists × List ℕ)
found cut rows count rest = Some ((cut, (map row_value rows, count)), rest)

pub returns : goal.returns
returns c =
    let before : StandingValue = standing_value c.args.before.now in
    let cuts : Form (List ℕ) = counted number_64 in
    let keys : Form (List RowValue) = counted (key_rows before.rows) in
    let behind = c.in_ok-cut.bytes.now in
    let further = c.in_ok-rows.bytes.now in
    let rest = c.in_ok-count.bytes.now in
    let cut = c.in_ok-cut.cut.items in
    let rows = c.in_ok-rows.rows.items in
    let count = c.in_ok-count.count in
    let first : cuts.read c.args.bytes.now ≡ Some (cut, behind) =
    subst (λ (l : List ℕ). cuts.read c.args.bytes.now ≡ Some (l, behind)) (map-id cut) c.in_ok-cut.ensures in
    let second : keys.read behind ≡ Some (map row_value rows, further) = c.in_ok-rows.ensures in
    let third : number_32.read further ≡ Some (count, rest) = c.in_ok-count.ensures in
    let lists = both_read keys number_32 behind further rest (map row_value rows) count second third in
    both_read cuts (both keys number_32) c.args.bytes.now behind rest cut (map row_value rows, count) first lists
    ∙ (λ i. found (sym c.new.ensures i) (sym c.new-2.ensures i) count rest)
