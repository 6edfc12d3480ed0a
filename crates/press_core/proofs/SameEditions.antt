-- Editions with the same value are one.
use mathlib.Core.HLevel.{is_prop→PathP}
use Rattle.std.proofs.Common.{◌≡◌, ℕ, List, [], ◌∷◌, map, refl, ap}
use Rattle.std.proofs.Props.{props}
use Rattle.signer_api.specs.PublicKey.{IsPublicKey}
use Rattle.signer_api.specs.declared.values.PublicKey.{PublicKey}
use Rattle.key_roll.specs.declared.rows.KeyRow.{KeyRow}
use Rattle.press_records.specs.Rows.{RowValue, row_value}
use Rattle.press_records.specs.Edition.{EditionValue}
use Rattle.editions.specs.Edition.{Edition}
use Rattle.press_core.specs.Records.{edition_value}

-- ---- lists

same-head : {A : Type 0} (x y : A) (xs ys : List A) → x ∷ xs ≡ y ∷ ys → x ≡ y
same-head x y xs ys e = cc

same-tail : {A : Type 0} (x y : A) (xs ys : List A) → x ∷ xs ≡ y ∷ ys → xs ≡ ys
same-tail x y xs ys e = cc

same-map : {A B : Type 0} (view : A → B) → ((x y : A) → view x ≡ view y → x ≡ y) → (xs ys : List A) → map view xs ≡ map view ys → xs ≡ ys
same-map view one [] [] e = refl
same-map view one [] (y ∷ ys) e = absurd cc
same-map view one (x ∷ xs) [] e = absurd cc
same-map view one (x ∷ xs) (y ∷ ys) e =
    let head = one x y (same-head (view x) (view y) (map view xs) (map view ys) e) in
    let tail = same-map view one xs ys (same-tail (view x) (view y) (map view xs) (map view ys) e) in
    λ i. head i ∷ tail i

-- ---- keys and rows

-- How its bytes are spelled is known in one way.
spelled-prop : (bytes : List ℕ) → IsProp (IsPublicKey bytes)
spelled-prop bytes = hlevel props

same-key : (a b : PublicKey) → a.bytes ≡ b.bytes → a ≡ b
same-key a b bytes = λ i. record {
  bytes = bytes i;
  spelled = is_prop→PathP (λ j. IsPublicKey (bytes j)) (λ j. spelled-prop (bytes j)) a.spelled b.spelled i;
}

same-row : (a b : KeyRow) → row_value a ≡ row_value b → a ≡ b
same-row a b e =
    let key = same-key a.key b.key (ap (λ (v : RowValue). v.key) e) in
    λ i. record {
      desk = (e i).desk;
      signer = (e i).signer;
      role = (e i).role;
      key = key i;
      next_serial = (e i).next_serial;
      number = (e i).number;
      this_update = (e i).this_update;
      since = (e i).since;
      done = (e i).done;
      revoked = (e i).revoked;
    }

-- ---- editions

same-edition : (a b : Edition) → edition_value a ≡ edition_value b → a ≡ b
same-edition a b e =
    let rows = same-map row_value same-row a.rows b.rows (ap (λ (v : EditionValue). v.rows) e) in
    λ i. record {
      serial = (e i).serial;
      moment = (e i).moment;
      cut = (e i).cut;
      rows = rows i;
      changes = (e i).changes;
    }

pub same-editions : (editions more : List Edition) → map edition_value editions ≡ map edition_value more → editions ≡ more
same-editions = same-map edition_value same-edition
