-- The keys that the work names, at their positions.
use Rattle.std.proofs.Common.{◌≡◌, ℕ, ◌+◌, ◌<◌, ◌≤◌, ◌==◌, suc, Bool, Option, None, Some, List, [], ◌∷◌, ◌++◌}
use Rattle.std.proofs.Common.{length, get_or, take, drop, map, find, refl, sym, ap, subst, ◌∙◌, arith}
use Rattle.std.specs.List.{slice_get, position_from}
use Rattle.std.specs.List.Sorted.{IsNonDecreasing}
use Rattle.std.specs.Option.{option_map}
use Rattle.std.specs.Str.{bytes_eq}
use Rattle.std.proofs.lemmas.List.{take-append-drop, length-append, length-take-le, length-map, get_or-map, take_more, map-append}
use Rattle.std.proofs.lemmas.Option.{slice_get-get_or}
use Rattle.key_ids.specs.declared.identifier.KeyId.{KeyId}
use Rattle.issue_keys.specs.declared.key_index.KeyPosition.{KeyPosition}
use Rattle.issue_keys.specs.Under.{positions_under}
use Rattle.key_roll.specs.declared.rows.KeyRow.{KeyRow}
use Rattle.key_roll.specs.declared.work.KeyName.{KeyName}
use Rattle.key_roll.specs.declared.work.KeyName.TheVariants.{Live, Fresh}
use Rattle.issue_keys.specs.Keys.{id_of}
use Rattle.issue_keys.specs.Indexes.{has_id, IsIndex}
use Rattle.issue_keys.specs.laws.FirstPositions.{first_of, first-is, position-map, At, at-found, at-index}
use Rattle.issue_drafts.specs.WorkKeys.{Keys, all_keys, key_named, key_of, keys_at, Finds, IsPosition, fresh_position}
use Rattle.issue_drafts.specs.declared.key_finder.KeyFinder.{KeyFinder}

abbrev with_bytes : List ℕ → KeyId
with_bytes b = record { bytes = b }

-- ---- positions

pub live-position : (keys : Keys) (finder : KeyFinder) (id : KeyId) (o : Option ℕ)
    → Finds keys finder → o ≡ first_of (positions_under id.bytes finder.live)
    → IsPosition keys (Live id) o
live-position keys finder id o h is =
    let p : KeyRow → Bool = λ row. bytes_eq (id_of row) id.bytes in
    let rows = all_keys keys in
    let f : KeyRow → Option KeyId = λ row. Some (key_of row) in
    let e : position_from p 0 rows ≡ o =
    sym (is ∙ (first-is (map f rows) finder.live id.bytes h.live ∙ position-map (has_id id.bytes) f 0 rows)) in
    by o (at-found p rows o e)
  where
    by : (o : Option ℕ)
        → At (λ (row : KeyRow). bytes_eq (id_of row) id.bytes) (all_keys keys) o
        → IsPosition keys (Live id) o
    by None at = at
    by (Some k) at = at

behind : {A : Type 0} (xs ys : List A) (k : ℕ) → slice_get (xs ++ ys) (length xs + k) ≡ slice_get ys k
behind [] ys k = ap (slice_get ys) (omega arith)
behind (x ∷ xs) ys k =
    let e : length (x ∷ xs) + k ≡ suc (length xs + k) = omega arith in
    ap (slice_get (x ∷ (xs ++ ys))) e ∙ behind xs ys k

pub fresh-is : (keys : Keys) (finder : KeyFinder) (desk : ℕ) (o : Option ℕ)
    → Finds keys finder
    → (IsNonDecreasing finder.desks.items → o ≡ fresh_position finder.desks.items finder.first_fresh desk)
    → IsPosition keys (Fresh desk) o
fresh-is keys finder desk o h is =
    let rises : IsNonDecreasing finder.desks.items = subst IsNonDecreasing (sym h.desks) h.rising in
    let f : KeyRow → ℕ = λ row. row.desk in
    let p : KeyRow → Bool = λ row. row.desk == desk in
    let q = position_from p 0 keys.fresh in
    let e : o ≡ option_map (λ (at : ℕ). length keys.kept + at) q =
    is rises
    ∙ (ap (λ (l : List ℕ). fresh_position l finder.first_fresh desk) h.desks
    ∙ (ap (λ (n : ℕ). fresh_position (map f keys.fresh) n desk) h.first
    ∙ ap (option_map (λ (at : ℕ). length keys.kept + at)) (position-map (λ (d : ℕ). d == desk) f 0 keys.fresh))) in
    subst (IsPosition keys (Fresh desk)) (sym e) (by q (at-found p keys.fresh q refl))
  where
    by : (q : Option ℕ)
        → At (λ (row : KeyRow). row.desk == desk) keys.fresh q
        → IsPosition keys (Fresh desk) (option_map (λ (at : ℕ). length keys.kept + at) q)
    by None at = at
    by (Some k) at =
        let long = length-append keys.kept keys.fresh in
        (at.0 ∙ sym (behind keys.kept keys.fresh k), omega arith)

identified-twice : (rows : List KeyRow)
    → map (λ (id : KeyId). Some id) (map key_of rows) ≡ map (λ (row : KeyRow). Some (key_of row)) rows
identified-twice [] = refl
identified-twice (row ∷ rows) = ap (λ (l : List (Option KeyId)). Some (key_of row) ∷ l) (identified-twice rows)

-- What finds the keys of these rows.
pub finds-them : (rows : List KeyRow) (n : ℕ) (finder : KeyFinder) (ids : List KeyId)
    → n ≤ length rows → IsNonDecreasing (map (λ row. row.desk) (drop n rows))
    → finder.ids.items ≡ map key_of rows → ids ≡ map key_of rows
    → IsIndex (map (λ id. Some id) ids) finder.live
    → finder.desks.items ≡ map (λ row. row.desk) (drop n rows) → finder.first_fresh ≡ n
    → Finds (keys_at rows n) finder
finds-them rows n finder ids inside rising own same live desks first = record {
  ids = own ∙ ap (map key_of) (sym (take-append-drop n rows));
  live = subst (λ (l : List (Option KeyId)). IsIndex l finder.live)
      (ap (map (λ (id : KeyId). Some id)) same
      ∙ (identified-twice rows ∙ ap (map (λ (row : KeyRow). Some (key_of row))) (sym (take-append-drop n rows)))) live;
  desks = desks;
  rising = rising;
  first = first ∙ sym (length-take-le n rows inside);
}

-- The row at the position.
pub named : (rows : List KeyRow) (n : ℕ) (name : KeyName) (position : ℕ)
    → IsPosition (keys_at rows n) name (Some position) → position < length rows
named rows n name position h =
    subst (λ (l : List KeyRow). position < length l) (take-append-drop n rows) h.1

-- The identifiers stand beside the rows.
pub ids-beside : (rows : List KeyRow) (n : ℕ) (finder : KeyFinder) → Finds (keys_at rows n) finder
    → finder.ids.items ≡ map key_of rows
ids-beside rows n finder finds = finds.ids ∙ ap (map key_of) (take-append-drop n rows)

pub ids-long : (rows : List KeyRow) (n : ℕ) (finder : KeyFinder) → Finds (keys_at rows n) finder
    → length finder.ids.items ≡ length rows
ids-long rows n finder finds = ap length (ids-beside rows n finder finds) ∙ length-map rows key_of

pub identified-there : (rows : List KeyRow) (n : ℕ) (finder : KeyFinder) (position : ℕ) (row : KeyRow) (id : KeyId)
    → Finds (keys_at rows n) finder → position < length rows → row ≡ get_or rows position row
    → id ≡ get_or finder.ids.items position id → id.bytes ≡ id_of row
identified-there rows n finder position row id finds inside here there =
    ap (λ (k : KeyId). k.bytes)
    (there ∙ (ap (λ (l : List KeyId). get_or l position id) (ids-beside rows n finder finds)
    ∙ get_or-map key_of rows position row id inside))
    ∙ ap id_of (sym here)

-- The row at a position is the one that is found there.
pub there-is : (rows : List KeyRow) (position : ℕ) (row d : KeyRow) → position < length rows
    → slice_get rows position ≡ Some row → row ≡ get_or rows position d
there-is rows position row d inside at = by (sym at ∙ slice_get-get_or rows position d inside)
  where
    by : Some row ≡ Some (get_or rows position d) → row ≡ get_or rows position d
    by e = cc

-- The key at the position of a name is the one that it stands for.
pub key-there : (rows : List KeyRow) (n : ℕ) (name : KeyName) (position at : ℕ) (row : KeyRow)
    → at ≡ position → slice_get rows at ≡ Some row → IsPosition (keys_at rows n) name (Some position)
    → Some row ≡ key_named (keys_at rows n) name
key-there rows n name position at row same is h =
    sym (h.0 ∙ (ap (λ (l : List KeyRow). slice_get l position) (take-append-drop n rows)
    ∙ (ap (slice_get rows) (sym same) ∙ is)))

pub row-named : (rows : List KeyRow) (n : ℕ) (name : KeyName) (position : ℕ) (row : KeyRow)
    → row ≡ get_or rows position row → IsPosition (keys_at rows n) name (Some position)
    → Some row ≡ key_named (keys_at rows n) name
row-named rows n name position row is h =
    let lt = named rows n name position h in
    ap (λ (r : KeyRow). Some r) is
    ∙ sym (h.0 ∙ (ap (λ (l : List KeyRow). slice_get l position) (take-append-drop n rows)
    ∙ slice_get-get_or rows position row lt))

pub id-is : (id : KeyId) (row : KeyRow) → id.bytes ≡ id_of row → id ≡ key_of row
id-is id row e = ap (λ (b : List ℕ). with_bytes b) e

pub some-id : (id : KeyId) (row : KeyRow) → id.bytes ≡ id_of row → Some id ≡ Some (key_of row)
some-id id row e = ap (λ (k : KeyId). Some k) (id-is id row e)

pub map-more : {A B : Type 0} (f : A → B) (xs : List A) (i : ℕ) (d : A) (y : B) (before after : List B)
    → i < length xs → before ≡ map f (take i xs) → after ≡ before ++ y ∷ [] → y ≡ f (get_or xs i d)
    → after ≡ map f (take (i + 1) xs)
map-more {A} {B} f xs i d y before after lt was now is =
    now ∙ (ap (λ (l : List B). l ++ y ∷ []) was ∙ (ap (λ (z : B). map f (take i xs) ++ z ∷ []) is
    ∙ (sym (map-append f (take i xs) (get_or xs i d ∷ [])) ∙ ap (map f) (sym (take_more xs i d lt)))))

-- ---- what an index finds for a key

pub at-key : {A : Type 0} (f : A → Option KeyId) (xs : List A) (index : List KeyPosition)
    (row : KeyRow) (id : KeyId) (o : Option ℕ)
    → IsIndex (map f xs) index → id.bytes ≡ id_of row → o ≡ first_of (positions_under id.bytes index)
    → At (λ (x : A). has_id (id_of row) (f x)) xs o
at-key {A} f xs index row id o h same is =
    at-index f xs index (id_of row) o h (is ∙ ap (λ (b : List ℕ). first_of (positions_under b index)) same)

pub found-at : {A : Type 0} (f : A → Option KeyId) (xs : List A) (index : List KeyPosition)
    (row : KeyRow) (id : KeyId) (position : ℕ) (d : A)
    → IsIndex (map f xs) index → id.bytes ≡ id_of row
    → Some position ≡ first_of (positions_under id.bytes index)
    → find (λ (x : A). has_id (id_of row) (f x)) xs ≡ Some (get_or xs position d)
found-at f xs index row id position d h same is =
    let at = at-key f xs index row id (Some position) h same is in
    at.0 ∙ slice_get-get_or xs position d at.1
