-- Editions whose changes are carried out while they are read.
use Rattle.std.specs.Prelude.{◌≡◌, ⊤, ℕ, true, List, map, Some}
use Rattle.pub_set.specs.declared.steps.Change.{Change}
use Rattle.pub_set.specs.Changes.{Contents, after_all}
use Rattle.record_forms.specs.Form.{Form}
use Rattle.record_forms.specs.Forms.{both, marked, counted, so_many, number_32, number_64}
use Rattle.record_forms.specs.declared.fault.ReadFault.{ReadFault}
use Rattle.record_forms.specs.declared.fault.ReadFault.TheVariants.{Bad, Memory}
use Rattle.press_records.specs.Changes.{changes, uris_rise}
use Rattle.press_records.specs.Rows.{RowValue, row_value, key_rows}
use Rattle.press_records.specs.Edition.{Fields, StandingValue}
use Rattle.press_records.specs.declared.fronts.Front as code
use Rattle.press_records.specs.declared.fronts.FrontLists as lists

-- What a record has in front of its edition's changes, and how many these are.
abbrev pub FrontLists : Type 0
FrontLists = List ℕ × (List RowValue × ℕ)

abbrev pub Front : Type 0
Front = ℕ × (ℕ × FrontLists)

abbrev pub front_lists : StandingValue → Form FrontLists
front_lists before = both (counted number_64) (both (counted (key_rows before.rows)) number_32)

abbrev pub edition_fronts : StandingValue → Form Front
edition_fronts before = marked 1 (both number_64 (both number_64 (front_lists before)))

abbrev pub front_lists_value : lists.FrontLists → FrontLists
front_lists_value value = (value.cut, (map row_value value.rows, value.count))

abbrev pub front_value : code.Front → Front
front_value front = (front.serial, (front.moment, front_lists_value front.lists))

-- The fields of an edition with these changes.
abbrev pub fields_with : Front → List Change → Fields
fields_with front all = (front.0, (front.1.0, (front.1.1.0, (front.1.1.1.0, all))))

-- So many changes by rising URI were read over what is held, up to these bytes, and carried out.
pub record AreTaken (held : Contents) (count : ℕ) (bytes : List ℕ) (all : List Change)
    (rest : List ℕ) (new : Contents) : Type 0 where
  pub read : so_many (changes held).read count bytes ≡ Some (all, rest)
  pub rise : uris_rise all ≡ true
  pub led : new ≡ after_all held all

-- So many changes by rising URI aren't there.
abbrev pub AreNone : Contents → ℕ → List ℕ → ReadFault → Type 0
AreNone held count bytes Bad = (all : List Change) (rest : List ℕ)
    → so_many (changes held).read count bytes ≡ Some (all, rest) → uris_rise all ≡ true → ⊥
AreNone held count bytes Memory = ⊤
