-- The keys that are made: of each desk one, no two with one identifier.
use Rattle.std.proofs.Common.{◌≡◌, ◌≢◌, ℕ, suc, false, List, [], ◌∷◌, ◌++◌, length, map, get_or, sym, ap, subst, ◌∙◌, arith, inl, inr}
use Rattle.std.specs.Prelude.{AllPairs, Contains, IsPermutation}
use Rattle.std.specs.Str.{bytes_eq}
use Rattle.std.proofs.lemmas.Bool.{true≢false}
use Rattle.std.proofs.lemmas.List.{get_or-map, length-map}
use Rattle.std.proofs.lemmas.List.Elements.{Contains-append_left, Contains-append_right}
use Rattle.std.proofs.lemmas.List.Folds.{list_any-from_Any}
use Rattle.std.proofs.lemmas.Slice.Eq.{bytes_eq-Decides}
use Rattle.signer_api.specs.declared.values.PublicKey.{PublicKey}
use Rattle.key_roll.specs.declared.rows.KeyRow.{KeyRow}
use Rattle.key_roll.specs.declared.work.NewKey.{NewKey}
use Rattle.issue_keys.specs.Keys.{id_of, fresh_row, fresh_rows}
use Rattle.issue_keys.specs.Making.{clashes, AreApart}
use Rattle.issue_drafts.specs.laws.UriOrder.{apart-permuted}
use Rattle.items.specs.laws.ElementLaws.{none, here, there, first-or-rest}
use Rattle.items.specs.laws.PairLaws.{Each, Twos, each-at, each-from, twos-pairs}

-- ---- identifiers

not-clashing : (ids : List (List ℕ)) (id i : List ℕ) → clashes ids id ≡ false → Contains ids i
    → i ≢ id
not-clashing ids id i none c = λ same. true≢false
    (sym (list_any-from_Any (λ other. bytes_eq other id) ids
    (c.0, i, c.1, c.2, (bytes_eq-Decides i id).1 same)) ∙ none)

pub apart-ids : (ids : List (List ℕ)) (fresh : List KeyRow) → AreApart ids fresh → (f : KeyRow)
    → Contains fresh f → (i : List ℕ) → Contains ids i → i ≢ id_of f
apart-ids ids [] apart f c i d = absurd (none f c)
apart-ids ids (row ∷ rows) apart f c i d =
    elim (first-or-rest row rows f c) [
      | inl same ↦ subst (λ (r : KeyRow). i ≢ id_of r) same
          (not-clashing ids (id_of row) i apart.0 d)
      | inr later ↦ apart-ids (ids ++ id_of row ∷ []) rows apart.1 f later i
          (Contains-append_left ids (id_of row ∷ []) i d)
    ]

last-in : (ids : List (List ℕ)) (id : List ℕ) → Contains (ids ++ id ∷ []) id
last-in ids id = Contains-append_right ids (id ∷ []) id (here id [])

pub fresh-same : (ids : List (List ℕ)) (fresh : List KeyRow) → AreApart ids fresh → (f g : KeyRow)
    → Contains fresh f → Contains fresh g → id_of f ≡ id_of g → f ≡ g
fresh-same ids [] apart f g c d e = absurd (none f c)
fresh-same ids (row ∷ rows) apart f g c d e =
    let more : List (List ℕ) = ids ++ id_of row ∷ [] in
    elim (first-or-rest row rows f c) [
      | inl left ↦ elim (first-or-rest row rows g d) [
        | inl right ↦ sym left ∙ right
        | inr later ↦ absurd (apart-ids more rows apart.1 g later (id_of row)
            (last-in ids (id_of row)) (ap id_of left ∙ e))
      ]
      | inr early ↦ elim (first-or-rest row rows g d) [
        | inl right ↦ absurd (apart-ids more rows apart.1 f early (id_of row)
            (last-in ids (id_of row)) (ap id_of right ∙ sym e))
        | inr later ↦ fresh-same more rows apart.1 f g early later e
      ]
    ]

pub fresh-ids : (ids : List (List ℕ)) (fresh : List KeyRow) → AreApart ids fresh
    → Twos (λ (f g : KeyRow). id_of f ≢ id_of g) fresh
fresh-ids ids [] apart = tt
fresh-ids ids (row ∷ rows) apart = (
  each-from (λ (g : KeyRow). id_of row ≢ id_of g) rows (λ g c.
      apart-ids (ids ++ id_of row ∷ []) rows apart.1 g c (id_of row) (last-in ids (id_of row))),
  fresh-ids (ids ++ id_of row ∷ []) rows apart.1,
)

-- ---- rows and what they were made for

pub made-for : (news : List NewKey) (keys : List PublicKey) (f : KeyRow)
    → Contains (fresh_rows news keys) f
    → (new : NewKey) × (key : PublicKey) × Contains news new × (f ≡ fresh_row new key)
made-for [] keys f c = absurd (none f c)
made-for (new ∷ news) [] f c = absurd (none f c)
made-for (new ∷ news) (key ∷ keys) f c =
    elim (first-or-rest (fresh_row new key) (fresh_rows news keys) f c) [
      | inl same ↦ (new, key, here new news, sym same)
      | inr later ↦
          let m = made-for news keys f later in (m.0, m.1, there new news m.0 m.2, m.3)
    ]

pub is-made : (news : List NewKey) (keys : List PublicKey) (new : NewKey)
    → length keys ≡ length news → Contains news new
    → (key : PublicKey) × Contains (fresh_rows news keys) (fresh_row new key)
is-made [] keys new same c = absurd (none new c)
is-made (first ∷ news) [] new same c = absurd (omega (arith, same))
is-made (first ∷ news) (key ∷ keys) new same c =
    elim (first-or-rest first news new c) [
      | inl is ↦ (
        key,
        subst (λ (n : NewKey).
            Contains (fresh_row first key ∷ fresh_rows news keys) (fresh_row n key)) is
            (here (fresh_row first key) (fresh_rows news keys)),
      )
      | inr later ↦
          let m = is-made news keys new (omega (arith, same)) later in
          (m.0, there (fresh_row first key) (fresh_rows news keys) (fresh_row new m.0) m.1)
    ]

-- ---- desks

pub pairs-twos : {X : Type 0} (key : X → List ℕ) (xs : List X)
    → AllPairs (λ a b. a ≢ b) (map key xs) → Twos (λ a b. key a ≢ key b) xs
pairs-twos key [] pairs = tt
pairs-twos {X} key (x ∷ xs) pairs =
    let long : length (map key xs) ≡ length xs = length-map xs key in (
      each-from (λ y. key x ≢ key y) xs (λ y c.
          let inside = c.1 in
          let at : get_or (map key xs) c.0 (key x) ≡ key y =
          get_or-map key xs c.0 y (key x) inside ∙ ap key c.2 in
          let apart = pairs 0 (suc c.0) (key x) (omega arith) (omega (arith, inside, long)) in
          λ same. apart (same ∙ sym at)),
      pairs-twos key xs (λ i j d less inside.
          pairs (suc i) (suc j) d (omega (arith, less)) (omega (arith, inside))),
    )

abbrev pub desk_key : NewKey → List ℕ
desk_key new = new.desk ∷ []

same-desk : (a b : ℕ) → ◌≡◌ {A = List ℕ} (a ∷ []) (b ∷ []) → a ≡ b
same-desk a b e = cc

rows-twos : (news : List NewKey) (keys : List PublicKey)
    → Twos (λ a b. desk_key a ≢ desk_key b) news
    → Twos (λ (f g : KeyRow). f.desk ≢ g.desk) (fresh_rows news keys)
rows-twos [] keys twos = tt
rows-twos (new ∷ news) [] twos = tt
rows-twos (new ∷ news) (key ∷ keys) twos = (
  each-from (λ (g : KeyRow). new.desk ≢ g.desk) (fresh_rows news keys) (λ g c.
      let m = made-for news keys g c in
      let at : g.desk ≡ m.0.desk = ap (λ (r : KeyRow). r.desk) m.3 in
      λ same. each-apart m.0 m.2 (ap (λ (d : ℕ). d ∷ []) (same ∙ at))),
  rows-twos news keys twos.1,
)
  where
    each-apart : (n : NewKey) → Contains news n → desk_key new ≢ desk_key n
    each-apart n c = each-at (λ (x : NewKey). desk_key new ≢ desk_key x) news n twos.0 c

map-each : (x : NewKey) (xs : List NewKey) → Each (λ (b : NewKey). x.desk ≢ b.desk) xs
    → Each (λ (b : List ℕ). desk_key x ≢ b) (map desk_key xs)
map-each x [] all = tt
map-each x (y ∷ ys) all = ((λ e. all.0 (same-desk x.desk y.desk e)), map-each x ys all.1)

map-twos : (xs : List NewKey) → Twos (λ (a b : NewKey). a.desk ≢ b.desk) xs
    → Twos (λ (a b : List ℕ). a ≢ b) (map desk_key xs)
map-twos [] twos = tt
map-twos (x ∷ xs) twos = (map-each x xs twos.0, map-twos xs twos.1)

-- Of rows that were made for new keys of different desks, no two have one desk.
pub fresh-twos : (new_keys news : List NewKey) (keys : List PublicKey)
    → IsPermutation new_keys news → Twos (λ (a b : NewKey). a.desk ≢ b.desk) new_keys
    → Twos (λ (f g : KeyRow). f.desk ≢ g.desk) (fresh_rows news keys)
fresh-twos new_keys news keys moved twos =
    rows-twos news keys
    (pairs-twos desk_key news (apart-permuted desk_key new_keys news moved
    (twos-pairs (λ (a b : List ℕ). a ≢ b) (map desk_key new_keys) (map-twos new_keys twos))))
