-- Which keys have a manifest that is made.
use Rattle.std.proofs.Common.{◌≡◌, ◌≢◌, ℕ, ◌+◌, ◌<◌, zero, suc, Bool, true, false, ◌||◌, Option}
use Rattle.std.proofs.Common.{None, Some, List, [], ◌∷◌, length, get_or, take, map, slice_set}
use Rattle.std.proofs.Common.{refl, sym, ap, subst, ◌∙◌, arith}
use Rattle.std.specs.List.{slice_get, list_any, filter_map, cons_option, All, AllPairs}
use Rattle.std.specs.List.Sorted.{IsPermutation}
use Rattle.std.specs.Option.{option_map}
use Rattle.std.proofs.lemmas.Bool.{false_from_ne_true, or_right}
use Rattle.std.proofs.lemmas.List.Folds.{list_any_more}
use Rattle.std.proofs.lemmas.List.Sorted.{list_any-IsPermutation}
use Rattle.std.proofs.lemmas.Slice.Eq.{bytes_eq-Decides}
use Rattle.key_ids.specs.Uris.{manifest_uri}
use Rattle.key_roll.specs.declared.rows.KeyRow.{KeyRow}
use Rattle.key_roll.specs.declared.work.PointWork.{PointWork}
use Rattle.issue_keys.specs.Keys.{id_of}
use Rattle.issue_keys.specs.Indexes.{has_id}
use Rattle.issue_drafts.specs.WorkKeys.{Keys, key_of, key_named}
use Rattle.issue_drafts.specs.IssueInput.{IssueInput}
use Rattle.issue_drafts.specs.Publishers.{is_key, names_key, name_at}
use Rattle.issue_drafts.specs.Drafts.{Draft, manifests, manifest_draft}
use Rattle.issue_drafts.specs.Drafts.Kind.{Manifest}
use Rattle.issue_drafts.specs.declared.draft.ManifestDraft.{ManifestDraft}
use Rattle.issue_drafts.specs.Views.{manifest_of, IsPositioned}
use Rattle.issue_drafts.specs.Revoking.{has_point}
use Rattle.issue_drafts.proofs.Found.{inside-get}
use Rattle.issue_drafts.proofs.Uris.{any-map}

abbrev pub has_manifest : List ManifestDraft → KeyRow → Bool
has_manifest listed key = list_any (λ (m : ManifestDraft). is_key m.issuer.row.now key) listed

-- ---- identifiers that differ

same-id : (a b : KeyRow) → a ≡ b → is_key a b ≡ true
same-id a b e = (bytes_eq-Decides (id_of a) (id_of b)).1 (ap id_of e)

other-id : (a b : KeyRow) → (id_of a ≡ id_of b → ⊥) → is_key a b ≡ false
other-id a b differ = false_from_ne_true (is_key a b) (λ t. differ ((bytes_eq-Decides (id_of a) (id_of b)).0 t))

-- Each row has another identifier than that one.
abbrev Others : KeyRow → List KeyRow → Type 0
Others r [] = Unit {0}
Others r (x ∷ xs) = (id_of r ≡ id_of x → ⊥) × Others r xs

abbrev Ids : List KeyRow → Type 0
Ids [] = Unit {0}
Ids (r ∷ rs) = Others r rs × Ids rs

others-from : (r : KeyRow) (xs : List KeyRow)
    → ((j : ℕ) (d : KeyRow) → j < length xs → id_of r ≡ id_of (get_or xs j d) → ⊥) → Others r xs
others-from r [] h = tt
others-from r (x ∷ xs) h = (h 0 x (omega arith), others-from r xs (λ j d lt. h (suc j) d (omega arith)))

ids-from : (rows : List KeyRow) → AllPairs (λ a b. id_of a ≢ id_of b) rows → Ids rows
ids-from [] h = tt
ids-from (r ∷ rs) h = (
  others-from r rs (λ j d lt. h 0 (suc j) d (omega arith) (omega arith)),
  ids-from rs
      (λ i j d lt inside. h (suc i) (suc j) d (omega arith) (omega arith)),
)

other-at : (r k : KeyRow) (xs : List KeyRow) (p : ℕ) → Others r xs → slice_get xs p ≡ Some k → id_of r ≡ id_of k → ⊥
other-at r k [] p o e same = absurd cc
other-at r k (x ∷ xs) zero o e same =
    let is : x ≡ k = cc in
    o.0 (same ∙ sym (ap id_of is))
other-at r k (x ∷ xs) (suc p) o e same = other-at r k xs p o.1 e same

-- ---- one position is marked

or-false : (b c : Bool) → c ≡ false → b ≡ (b || c)
or-false true c e = refl
or-false false c e = sym e

or-true : (b c : Bool) → c ≡ true → true ≡ (b || c)
or-true b c e = sym (or_right b c e)

map-kept : (f : KeyRow → Bool) (k : KeyRow) (xs : List KeyRow) → Others k xs
    → map f xs ≡ map (λ r. f r || is_key k r) xs
map-kept f k [] o = refl
map-kept f k (x ∷ xs) o =
    ap (λ (b : Bool). b ∷ map f xs) (or-false (f x) (is_key k x) (other-id k x o.0))
    ∙ ap (λ (l : List Bool). (f x || is_key k x) ∷ l) (map-kept f k xs o.1)

mark-map : (f : KeyRow → Bool) (k : KeyRow) (rows : List KeyRow) (p : ℕ) → Ids rows
    → slice_get rows p ≡ Some k → slice_set (map f rows) p true ≡ map (λ r. f r || is_key k r) rows
mark-map f k [] p ids e = absurd cc
mark-map f k (r ∷ rs) zero ids e =
    let is : r ≡ k = cc in
    ap (λ (b : Bool). b ∷ map f rs) (or-true (f r) (is_key k r) (same-id k r (sym is)))
    ∙ ap (λ (l : List Bool). (f r || is_key k r) ∷ l) (map-kept f k rs (subst (λ (x : KeyRow). Others x rs) is ids.0))
mark-map f k (r ∷ rs) (suc p) ids e =
    ap (λ (b : Bool). b ∷ slice_set (map f rs) p true) (or-false (f r) (is_key k r)
    (other-id k r (λ same. other-at r k rs p ids.0 e (sym same))))
    ∙ ap (λ (l : List Bool). (f r || is_key k r) ∷ l) (mark-map f k rs p ids.1 e)

pub map-same : {A B : Type 0} (f g : A → B) → ((x : A) → f x ≡ g x) → (xs : List A) → map f xs ≡ map g xs
map-same f g same [] = refl
map-same {A} {B} f g same (x ∷ xs) =
    ap (λ (y : B). y ∷ map f xs) (same x) ∙ ap (λ (l : List B). g x ∷ l) (map-same f g same xs)

pub marked : (rows : List KeyRow) (listed : List ManifestDraft) (i : ℕ) (m d : ManifestDraft) (before : List Bool)
    → AllPairs (λ a b. id_of a ≢ id_of b) rows → IsPositioned rows m.issuer → i < length listed
    → m ≡ get_or listed i d → before ≡ map (has_manifest (take i listed)) rows
    → slice_set before m.issuer.position true ≡ map (has_manifest (take (i + 1) listed)) rows
marked rows listed i m d before apart positioned lt is was =
    let k : KeyRow = m.issuer.row.now in
    let p : KeyRow → ManifestDraft → Bool = λ r x. is_key x.issuer.row.now r in
    ap (λ (l : List Bool). slice_set l m.issuer.position true) was
    ∙ (mark-map (has_manifest (take i listed)) k rows m.issuer.position (ids-from rows apart) positioned
    ∙ map-same (λ (r : KeyRow). has_manifest (take i listed) r || is_key k r) (has_manifest (take (i + 1) listed))
    (λ r. ap (λ (x : ManifestDraft). has_manifest (take i listed) r || p r x) is ∙ sym
    (list_any_more (p r) listed i d lt)) rows)

-- ---- as the work names them

any-named : (s : IssueInput) (keys : Keys) (row : KeyRow) (points : List PointWork)
    → list_any (λ (d : Draft). is_key d.issuer row) (filter_map (manifest_draft s keys) points) ≡ list_any
    (λ (point : PointWork). names_key keys point.key row) points
any-named s keys row [] = refl
any-named s keys row (point ∷ points) = by (key_named keys point.key) (any-named s keys row points)
  where
    by : (k : Option KeyRow)
        → list_any (λ (d : Draft). is_key d.issuer row) (filter_map (manifest_draft s keys) points) ≡ list_any
        (λ (p : PointWork). names_key keys p.key row) points
        → list_any (λ (d : Draft). is_key d.issuer row) (cons_option
        (option_map (λ (issuer : KeyRow). record {
          uri = manifest_uri s.site (name_at s.names issuer.desk)
              (id_of issuer);
          issuer = issuer;
          kind = Manifest;
        }) k)
        (filter_map (manifest_draft s keys) points)) ≡ (has_id (id_of row) (option_map key_of k) ||
        list_any (λ (p : PointWork). names_key keys p.key row) points)
    by None more = more
    by (Some issuer) more = ap (λ (b : Bool). is_key issuer row || b) more

pub points-are : (rows : List KeyRow) (listed : List ManifestDraft) (points : List Bool)
    → points ≡ map (has_manifest listed) rows → (s : IssueInput) (keys : Keys)
    → IsPermutation (manifests s keys) (map manifest_of listed) → points ≡ map (has_point s keys) rows
points-are rows listed points is s keys moved =
    is ∙ map-same (has_manifest listed) (has_point s keys) (λ row.
    let p : Draft → Bool = λ d. is_key d.issuer row in
    sym (any-map p manifest_of listed)
    ∙ (sym (list_any-IsPermutation p (manifests s keys) (map manifest_of listed) moved) ∙ any-named s keys row
    s.work.points)) rows

pub position-inside : (rows : List KeyRow) (listed : List ManifestDraft) (i : ℕ) (m d : ManifestDraft)
    → All (λ (x : ManifestDraft). IsPositioned rows x.issuer) listed → i < length listed → m ≡ get_or listed i d
    → IsPositioned rows m.issuer × (m.issuer.position < length rows)
position-inside rows listed i m d positioned lt is =
    let here : IsPositioned rows m.issuer = subst (λ (x : ManifestDraft). IsPositioned rows x.issuer) (sym is)
    (positioned i d lt) in
    (here, inside-get rows m.issuer.position m.issuer.row.now here)
