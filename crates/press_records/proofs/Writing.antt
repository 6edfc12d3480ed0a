-- What is written of an edition is its spelling.
use Rattle.std.proofs.Common.{◌≡◌, ℕ, List, [], ◌∷◌, ◌++◌, length, map, refl, sym, ap, ◌∙◌}
use Rattle.std.specs.List.{flat_map}
use Rattle.std.proofs.lemmas.List.{length-map}
use Rattle.key_roll.specs.declared.rows.KeyRow.{KeyRow}
use Rattle.pub_set.specs.declared.steps.Change.{Change}
use Rattle.record_forms.specs.Forms.{bytes_32, bytes_64}
use Rattle.press_records.specs.declared.rows.RawRow as code
use Rattle.press_records.specs.Changes.{changes}
use Rattle.press_records.specs.Rows.{RowValue, row_value, raw_rows, row_raw, key_rows}
use Rattle.press_records.specs.Edition.{StandingValue, editions}
use Rattle.press_records.specs.inner.Raw.{raw_value, spelled_raw, spelled_change, written}

flat-map : {X Y : Type 0} (f : X → Y) (g : Y → List ℕ) (xs : List X) → flat_map (λ x. g (f x)) xs ≡ flat_map g (map f xs)
flat-map f g [] = refl
flat-map f g (x ∷ xs) = ap (λ (l : List ℕ). g (f x) ++ l) (flat-map f g xs)

map-twice : {X Y Z : Type 0} (f : X → Y) (g : Y → Z) (xs : List X) → map (λ x. g (f x)) xs ≡ map g (map f xs)
map-twice f g [] = refl
map-twice {Z = Z} f g (x ∷ xs) = ap (λ (l : List Z). g (f x) ∷ l) (map-twice f g xs)

module _ (before : List RowValue) (rows : List KeyRow) (raws : List code.RawRow)
    (told : map raw_value raws ≡ map (λ row. row_raw before (row_value row)) rows) where
  same-rows : map raw_value raws ≡ map (row_raw before) (map row_value rows)
  same-rows = told ∙ map-twice row_value (row_raw before) rows

  same-count : length raws ≡ length (map row_value rows)
  same-count = sym (length-map raws raw_value) ∙ (ap length same-rows ∙ length-map (map row_value rows) (row_raw before))

  spelled-rows : flat_map spelled_raw raws ≡ flat_map (λ row. raw_rows.spelling (row_raw before row)) (map row_value rows)
  spelled-rows =
      flat-map raw_value raw_rows.spelling raws
      ∙ (ap (flat_map raw_rows.spelling) same-rows ∙ sym (flat-map (row_raw before) raw_rows.spelling (map row_value rows)))

pub record_spelled : (standing : StandingValue) (before rows : List KeyRow) (raws : List code.RawRow) (serial moment : ℕ) (cut : List ℕ) (all : List Change)
    → standing.rows ≡ map row_value before → map raw_value raws ≡ map (λ row. row_raw (map row_value before) (row_value row)) rows
    → written serial moment cut raws all
    ≡ (editions standing).spelling (record { serial = serial; moment = moment; cut = cut; rows = map row_value rows; changes = all })
unfolding editions key_rows changes
record_spelled standing before rows raws serial moment cut all over told =
    let count = same-count (map row_value before) rows raws told in
    let spelled = spelled-rows (map row_value before) rows raws told in
    let names : flat_map (λ row. raw_rows.spelling (row_raw (map row_value before) row)) (map row_value rows)
    ≡ flat_map (λ row. raw_rows.spelling (row_raw standing.rows row)) (map row_value rows) =
    ap (λ (l : List RowValue). flat_map (λ row. raw_rows.spelling (row_raw l row)) (map row_value rows)) (sym over) in
    let both = spelled ∙ names in
    λ i. 1 ∷ (bytes_64 serial ++ (bytes_64 moment
    ++ ((bytes_32 (length cut) ++ flat_map bytes_64 cut)
    ++ ((bytes_32 (count i) ++ both i)
    ++ (bytes_32 (length all) ++ flat_map spelled_change all)))))
