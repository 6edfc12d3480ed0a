-- The law of the records of editions.
use Rattle.std.proofs.Common.{◌≡◌, ℕ, List, Some, sym, ap, arith}
use Rattle.record_forms.specs.Form.{Form, IsForm}
use Rattle.record_forms.specs.Forms.{both, number_64, counted}
use Rattle.record_forms.specs.laws.ByteLaws.{passed, length-bytes_64, number_64-law}
use Rattle.record_forms.specs.laws.FormLaws.{both-law, through-law, marked-law}
use Rattle.record_forms.specs.laws.ListLaws.{HasBytes, counted-law}
use Rattle.press_records.specs.Rows.{key_rows}
use Rattle.press_records.specs.Changes.{changes}
use Rattle.press_records.specs.Edition.{EditionValue, StandingValue, Fields, edition_fields, edition_of, fields_of, may_follow, edition_told, editions}
use Rattle.press_records.specs.laws.ChangeLaws.{changes-law, changes-bytes}
use Rattle.press_records.specs.laws.RowLaws.{key_rows-law, key_rows-bytes}

number-bytes : HasBytes number_64
number-bytes n = omega (arith, length-bytes_64 n)

abbrev cuts : Form (List ℕ)
cuts = counted number_64

pub edition_fields-law : (before : StandingValue) → IsForm (edition_fields before)
edition_fields-law before =
    let rows = counted (key_rows before.rows) in
    let others = counted (changes before.set) in
    let rows-law = counted-law (key_rows before.rows) (key_rows-law before.rows) (key_rows-bytes before.rows) in
    let others-law = counted-law (changes before.set) (changes-law before.set) (changes-bytes before.set) in
    let cuts-law = counted-law number_64 number_64-law number-bytes in
    marked-law 1 (both number_64 (both number_64 (both cuts (both rows others))))
    (both-law number_64 (both number_64 (both cuts (both rows others))) number_64-law
    (both-law number_64 (both cuts (both rows others)) number_64-law
    (both-law cuts (both rows others) cuts-law
    (both-law rows others rows-law others-law))))

edition-back : (before : StandingValue) (x : Fields) (y : EditionValue) → edition_told before x ≡ Some y → fields_of y ≡ x
edition-back before x y e = ap fields_of (sym (passed (may_follow before (edition_of x)) (edition_of x) y e).1)

pub editions-law : (before : StandingValue) → IsForm (editions before)
unfolding editions
editions-law before = through-law (edition_fields before) (edition_told before) fields_of (edition-back before) (edition_fields-law before)
