-- The rows that are told of a set's objects are its table.
use Rattle.std.proofs.Common.{◌≡◌, ℕ, Bool, true, false, cond, List, [], ◌∷◌, Option, None, Some, option_map, refl, sym, ap, subst, ◌∙◌, ◌⊎◌, inl, inr}
use Rattle.std.specs.Prelude.{IsSome}
use Rattle.std.specs.List.{AllZip, AllByRecursion}
use Rattle.std.specs.List.Sorted.{IsStrictlySortedBy}
use Rattle.std.proofs.lemmas.Bool.{false≢true}
use Rattle.std.specs.declared.cmp.Ordering.TheVariants.{Less}
use Rattle.sha2.specs.Sha256.{sha256}
use Rattle.items.specs.laws.AmongLaws.{In, contains-in, in-contains}
use Rattle.key_roll.specs.declared.issued.IssuedRow.{IssuedRow}
use Rattle.pub_set.specs.declared.objects.Object.{Object}
use Rattle.pub_set.specs.Objects.{uri_cmp, is_same, found_at, content_at, Rise, IsAscending}
use Rattle.pub_set.specs.laws.UriLaws.{same_is, same_self, other_below}
use Rattle.editions.specs.Table.{IsRowOf, IsTable}
use Rattle.press_core.specs.Tables.{Home, IsHashed, IsOfProfile, AreOfProfile, IsOther, HasOthers}
use Rattle.press_core.specs.inner.Rows.{IsRowFor}

-- ---- side by side

pub object-of : {homes : List Home} (objects : List Object) (rows : List IssuedRow) → AllZip (IsRowFor homes) objects rows → (row : IssuedRow) → In row rows
    → (object : Object) × In object objects × IsRowFor homes object row
object-of [] [] zip row at = absurd at
object-of [] (r ∷ rows) zip row at = absurd zip
object-of (o ∷ objects) [] zip row at = absurd zip
object-of {homes} (o ∷ objects) (r ∷ rows) zip row (inl same) = (o, inl refl, subst (λ (k : IssuedRow). IsRowFor homes o k) same zip.0)
object-of (o ∷ objects) (r ∷ rows) zip row (inr at) = let w = object-of objects rows zip.1 row at in (w.0, inr w.1, w.2)

pub row-of : {homes : List Home} (objects : List Object) (rows : List IssuedRow) → AllZip (IsRowFor homes) objects rows → (object : Object) → In object objects
    → (row : IssuedRow) × In row rows × IsRowFor homes object row
row-of [] [] zip object at = absurd at
row-of [] (r ∷ rows) zip object at = absurd at
row-of (o ∷ objects) [] zip object at = absurd zip
row-of {homes} (o ∷ objects) (r ∷ rows) zip object (inl same) = (r, inl refl, subst (λ (k : Object). IsRowFor homes k r) same zip.0)
row-of (o ∷ objects) (r ∷ rows) zip object (inr at) = let w = row-of objects rows zip.1 object at in (w.0, inr w.1, w.2)

-- ---- what stands at a URI

-- What stands there is the content of an object that has the URI.
pub object-at : (objects : List Object) (uri bytes : List ℕ) → content_at objects uri ≡ Some bytes
    → (object : Object) × In object objects × (object.uri ≡ uri) × (object.bytes ≡ bytes)
object-at [] uri bytes e = absurd cc
object-at (o ∷ objects) uri bytes e = by (object-at objects uri bytes) (is_same o.uri uri) refl e
  where
    by : (content_at objects uri ≡ Some bytes → (object : Object) × In object objects × (object.uri ≡ uri) × (object.bytes ≡ bytes))
        → (b : Bool) → is_same o.uri uri ≡ b → cond b (Some o.bytes) (content_at objects uri) ≡ Some bytes
        → (object : Object) × In object (o ∷ objects) × (object.uri ≡ uri) × (object.bytes ≡ bytes)
    by rest true same h = let one : o.bytes ≡ bytes = cc in (o, inl refl, same_is o.uri uri same, one)
    by rest false other h = let w = rest h in (w.0, inr w.1, w.2, w.3)

above-it : (uri : List ℕ) (objects : List Object) (object : Object) → AllByRecursion (λ (o : Object). uri_cmp uri o.uri ≡ Less) objects → In object objects → uri_cmp uri object.uri ≡ Less
above-it uri [] object above at = absurd at
above-it uri (o ∷ objects) object above (inl same) = subst (λ (k : Object). uri_cmp uri k.uri ≡ Less) same above.0
above-it uri (o ∷ objects) object above (inr at) = above-it uri objects object above.1 at

-- Each object of a set is what stands at its URI.
pub stands-there : (objects : List Object) (object : Object) → IsAscending objects → In object objects → content_at objects object.uri ≡ Some object.bytes
unfolding IsStrictlySortedBy
stands-there [] object up at = absurd at
stands-there (o ∷ objects) object up (inl same) =
    subst (λ (k : Object). cond (is_same o.uri k.uri) (Some o.bytes) (content_at objects k.uri) ≡ Some k.bytes) same
    (ap (λ (b : Bool). cond b (Some o.bytes) (content_at objects o.uri)) (same_self o.uri))
stands-there (o ∷ objects) object up (inr at) =
    ap (λ (b : Bool). cond b (Some o.bytes) (content_at objects object.uri)) (other_below o.uri object.uri (above-it o.uri objects object up.0 at))
    ∙ stands-there objects object up.1 at

-- ---- the table

pub hashed : (homes : List Home) (objects : List Object) (rows : List IssuedRow) → AllZip (IsRowFor homes) objects rows → IsHashed objects rows
hashed homes [] [] zip uri = refl
hashed homes [] (row ∷ rows) zip uri = absurd zip
hashed homes (o ∷ objects) [] zip uri = absurd zip
hashed homes (o ∷ objects) (row ∷ rows) zip uri =
    ap (λ (u : List ℕ). cond (is_same u uri) (Some row.hash) (found_at (λ (r : IssuedRow). r.uri) (λ (r : IssuedRow). r.hash) rows uri)) zip.0.uri
    ∙ by (hashed homes objects rows zip.1 uri) (is_same o.uri uri)
  where
    by : found_at (λ (r : IssuedRow). r.uri) (λ (r : IssuedRow). r.hash) rows uri ≡ option_map sha256 (content_at objects uri)
        → (b : Bool) → cond b (Some row.hash) (found_at (λ (r : IssuedRow). r.uri) (λ (r : IssuedRow). r.hash) rows uri)
        ≡ option_map sha256 (cond b (Some o.bytes) (content_at objects uri))
    by rest true = ap Some zip.0.hash
    by rest false = rest

rises-behind : (homes : List Home) (uri : List ℕ) (objects : List Object) (rows : List IssuedRow) → AllZip (IsRowFor homes) objects rows → AllByRecursion (λ (o : Object). uri_cmp uri o.uri ≡ Less) objects
    → AllByRecursion (λ (r : IssuedRow). uri_cmp uri r.uri ≡ Less) rows
rises-behind homes uri [] [] zip above = tt
rises-behind homes uri [] (row ∷ rows) zip above = absurd zip
rises-behind homes uri (o ∷ objects) [] zip above = absurd zip
rises-behind homes uri (o ∷ objects) (row ∷ rows) zip above = (ap (λ (u : List ℕ). uri_cmp uri u) zip.0.uri ∙ above.0, rises-behind homes uri objects rows zip.1 above.1)

pub rising : (homes : List Home) (objects : List Object) (rows : List IssuedRow) → AllZip (IsRowFor homes) objects rows → IsAscending objects → Rise (λ (row : IssuedRow). row.uri) rows
unfolding IsStrictlySortedBy
rising homes [] [] zip up = tt
rising homes [] (row ∷ rows) zip up = absurd zip
rising homes (o ∷ objects) [] zip up = absurd zip
rising homes (o ∷ objects) (row ∷ rows) zip up =
    (subst (λ (u : List ℕ). AllByRecursion (λ (r : IssuedRow). uri_cmp u r.uri ≡ Less) rows) (sym zip.0.uri) (rises-behind homes o.uri objects rows zip.1 up.0), rising homes objects rows zip.1 up.1)

some-bytes : (o : Option (List ℕ)) → IsSome o → (bytes : List ℕ) × (o ≡ Some bytes)
some-bytes None is = absurd (false≢true is)
some-bytes (Some bytes) is = (bytes, refl)

pub tabled : {homes : List Home} (objects : List Object) (rows : List IssuedRow) → AllZip (IsRowFor homes) objects rows → IsAscending objects → AreOfProfile homes objects → IsTable (content_at objects) rows
tabled {homes} objects rows zip up profile = record {
  rising = rising homes objects rows zip up;
  each = λ row at.
      let w = object-of objects rows zip row (contains-in row rows at) in
      let has = profile w.0 (in-contains w.0 objects w.1) in
      (w.0.bytes, ap (λ (u : List ℕ). content_at objects u) w.2.uri ∙ stands-there objects w.0 up w.1, own w.0 row has w.2.told);
  all = λ uri is.
      let some = some-bytes (content_at objects uri) is in
      let o = object-at objects uri some.0 some.1 in
      let w = row-of objects rows zip o.0 o.1 in
      (w.0, in-contains w.0 rows w.1, w.2.uri ∙ o.2);
}
  where
    own : (object : Object) (row : IssuedRow) → IsOfProfile homes object.bytes
        → (IsOfProfile homes object.bytes × IsRowOf object.bytes row) ⊎ ((¬ IsOfProfile homes object.bytes) × IsOther object.bytes row) → IsRowOf object.bytes row
    own object row has (inl is) = is.1
    own object row has (inr other) = absurd (other.0 has)

-- And the others have rows that are never wanted.
pub others : {homes : List Home} (objects : List Object) (rows : List IssuedRow) → AllZip (IsRowFor homes) objects rows → HasOthers homes objects rows
others {homes} objects rows zip object at strange =
    let w = row-of objects rows zip object (contains-in object objects at) in
    (w.0, in-contains w.0 rows w.1, w.2.uri, other w.0 w.2.told)
  where
    other : (row : IssuedRow) → (IsOfProfile homes object.bytes × IsRowOf object.bytes row) ⊎ ((¬ IsOfProfile homes object.bytes) × IsOther object.bytes row) → IsOther object.bytes row
    other row (inl is) = absurd (strange is.0)
    other row (inr is) = is.1
