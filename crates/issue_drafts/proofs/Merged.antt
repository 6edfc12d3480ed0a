-- The files of a key.
use Rattle.std.proofs.Common.{◌≡◌, ℕ, ◌+◌, ◌<◌, inl, inr, Bool, true, false, cond, not, ◌&&◌}
use Rattle.std.proofs.Common.{◌||◌, Option, None, Some, List, [], ◌∷◌, ◌++◌, length, get_or, take}
use Rattle.std.proofs.Common.{map, filter, refl, sym, ap, subst, ◌∙◌}
use Rattle.std.specs.List.{All, AllByRecursion, AllZip, IsDistinct, list_any, zip}
use Rattle.std.specs.List.Sorted.{IsStrictlySortedBy}
use Rattle.std.specs.Ordering.{on, is_eq}
use Rattle.std.specs.Str.{bytes_eq}
use Rattle.std.specs.declared.cmp.Ordering.TheVariants.{Less}
use Rattle.std.proofs.lemmas.Bool.{and_parts, not-true, or_left}
use Rattle.std.proofs.lemmas.List.{map-append, take_more}
use Rattle.std.proofs.lemmas.List.Elements.{All-nil, All-cons, All-head, All-tail, All-append, All-map, filter_agree}
use Rattle.std.proofs.lemmas.List.Kept.{IsStrictlySortedBy-filter}
use Rattle.std.proofs.lemmas.Slice.Eq.{bytes_eq-Decides}
use Rattle.std.proofs.lemmas.Slice.Zip.{all_zipped_more, firsts-zip}
use Rattle.std.proofs.lemmas.Map.Text.{is_eq-slice_cmp}
use Rattle.der.specs.Forms.{AreAll}
use Rattle.key_ids.specs.Uris.{anchor_uri}
use Rattle.key_ids.specs.declared.identifier.KeyId.{KeyId}
use Rattle.key_roll.specs.declared.rows.KeyRow.{KeyRow}
use Rattle.key_roll.specs.declared.issued.IssuedRow.{IssuedRow}
use Rattle.issue_keys.specs.declared.key_index.KeyPosition.{KeyPosition}
use Rattle.issue_keys.specs.Under.{positions_under}
use Rattle.pub_set.specs.Objects.{Rise, uri_cmp}
use Rattle.payloads.specs.ManifestFormats.{IsFile, file_view}
use Rattle.payloads.specs.declared.values.ListedFile.{ListedFile}
use Rattle.issue_values.specs.Bodies.{AreListed}
use Rattle.issue_keys.specs.Keys.{id_of}
use Rattle.issue_keys.specs.Indexes.{has_id, IsIndex}
use Rattle.issue_drafts.specs.IssueInput.{IssueInput}
use Rattle.issue_drafts.specs.Drafts.{Draft}
use Rattle.issue_drafts.specs.Revoking.{is_touched}
use Rattle.issue_drafts.specs.Touching.{has_uri, AreTouched}
use Rattle.issue_drafts.specs.Tables.{IsTable}
use Rattle.issue_drafts.specs.inner.Positions.{items_at, AreInside}
use Rattle.issue_drafts.specs.inner.Holdings.{stays, is_kept_under, is_inside, made_key}
use Rattle.issue_drafts.specs.Files.{name_in, names_of, is_kept, kept_file, made_file, kept_files}
use Rattle.issue_drafts.specs.Files.{made_files, folder_at, is_made_under, AreMerged, IsListable}
use Rattle.issue_drafts.specs.Files.{AreListable}
use Rattle.issue_drafts.proofs.OrderedFiles.{In, never, arranged}
use Rattle.issue_drafts.proofs.Found.{found, inside, has-under}
use Rattle.issue_drafts.proofs.Named.{File, before, not-same, names-distinct, merged-same}

abbrev pub Made : Type 0
Made = Draft × List ℕ

abbrev pub kept_under : IssueInput → List (List ℕ) → KeyRow → List IssuedRow
kept_under s touched key = filter (is_kept_under (id_of key) (anchor_uri s.site) touched) s.issued

abbrev pub made_under : IssueInput → KeyRow → List Made → List Made
made_under s key made = filter (λ m. is_made_under s key m.0) made

-- ---- found under the key

pub kept-here : (s : IssueInput) (touched : List (List ℕ)) (key : KeyRow) (id : List ℕ) (rows : List IssuedRow)
    → id ≡ id_of key → rows ≡ filter (is_kept_under id (anchor_uri s.site) touched) s.issued
    → rows ≡ kept_under s touched key
kept-here s touched key id rows same is =
    is ∙ ap (λ (i : List ℕ). filter (is_kept_under i (anchor_uri s.site) touched) s.issued) same

map-twice : {A B C : Type 0} (g : B → C) (f : A → B) (xs : List A) → map g (map f xs) ≡ map (λ x. g (f x)) xs
map-twice g f [] = refl
map-twice {A} {B} {C} g f (x ∷ xs) = ap (λ (l : List C). g (f x) ∷ l) (map-twice g f xs)

abbrev key_in : List ℕ → Made → Option KeyId
key_in anchor m = made_key anchor m.0

zip-index : (anchor : List ℕ) (drafts : List Draft) (hashes : List (List ℕ)) (index : List KeyPosition)
    → length hashes ≡ length drafts → IsIndex (map (made_key anchor) drafts) index
    → IsIndex (map (key_in anchor) (zip drafts hashes)) index
zip-index anchor drafts hashes index long h =
    let e : map (made_key anchor) drafts ≡ map (key_in anchor) (zip drafts hashes) =
    ap (map (made_key anchor)) (sym (firsts-zip drafts hashes long)) ∙ map-twice (made_key anchor)
    (λ (m : Made). m.0) (zip drafts hashes) in
    subst (λ (l : List (Option KeyId)). IsIndex l index) e h

made-test : (id : List ℕ) (key : KeyId) (t : Bool)
    → has_id id (cond t None (Some key)) ≡ (bytes_eq key.bytes id && not t)
made-test id key true = has-under id key false
made-test id key false = has-under id key true

pub made-found : (s : IssueInput) (drafts : List Draft) (hashes : List (List ℕ)) (key : KeyRow) (id : List ℕ)
    (index positions : List KeyPosition)
    → length hashes ≡ length drafts → IsIndex (map (made_key (anchor_uri s.site)) drafts) index → id ≡ id_of key
    → positions ≡ positions_under id index → items_at (zip drafts hashes) positions ≡ made_under s key (zip drafts hashes)
made-found s drafts hashes key id index positions long h same is =
    found (key_in (anchor_uri s.site)) (zip drafts hashes) index positions (id_of key)
    (zip-index (anchor_uri s.site) drafts hashes index long h)
    (is ∙ ap (λ (i : List ℕ). positions_under i index) same)
    ∙ filter_agree (λ (m : Made). has_id (id_of key) (key_in (anchor_uri s.site) m))
    (λ (m : Made). is_made_under s key m.0)
    (λ m. made-test (id_of key) (record { bytes = id_of m.0.issuer }) (bytes_eq m.0.uri (anchor_uri s.site)))
    (zip drafts hashes)

pub made-inside : (s : IssueInput) (drafts : List Draft) (hashes : List (List ℕ)) (id : List ℕ)
    (index positions : List KeyPosition)
    → length hashes ≡ length drafts → IsIndex (map (made_key (anchor_uri s.site)) drafts) index
    → positions ≡ positions_under id index → AreInside (zip drafts hashes) positions
made-inside s drafts hashes id index positions long h is =
    inside (key_in (anchor_uri s.site)) (zip drafts hashes) index positions id
    (zip-index (anchor_uri s.site) drafts hashes index long h) is

-- ---- what is kept, by what is touched

keep-test : (b n t u : Bool) → t ≡ u → (b && (n && not t)) ≡ (b && n && not u)
keep-test true n t u e = ap (λ (x : Bool). n && not x) e
keep-test false n t u e = refl

as-is-kept : (s : IssueInput) (puts : List Draft) (touched : List (List ℕ)) (key : KeyRow) (row : IssuedRow)
    → AreTouched s puts touched
    → is_kept_under (id_of key) (anchor_uri s.site) touched row ≡ is_kept s puts key row
as-is-kept s puts touched key row are =
    keep-test (bytes_eq row.issuer.bytes (id_of key)) (not (bytes_eq row.uri (anchor_uri s.site)))
    (has_uri row.uri touched) (is_touched s puts row.uri) (are row.uri)

-- What a key keeps lies in its folder.
pub kept-lie : (s : IssueInput) (puts drafts : List Draft) (touched : List (List ℕ)) (key : KeyRow)
    (folder id : List ℕ)
    → AreTouched s puts touched → AreListable s puts drafts key → folder ≡ folder_at s key → id ≡ id_of key
    → All (λ (row : IssuedRow). is_kept_under id (anchor_uri s.site) touched row ≡ true
    → is_inside folder row ≡ true) s.issued
kept-lie s puts drafts touched key folder id are listable is_folder same = λ k d lt e.
    let row : IssuedRow = get_or s.issued k d in
    let kept : is_kept s puts key row ≡ true =
    sym (as-is-kept s puts touched key row are)
    ∙ (sym (ap (λ (i : List ℕ). is_kept_under i (anchor_uri s.site) touched row) same) ∙ e) in
    ap (λ (f : List ℕ). is_inside f row) is_folder ∙ (listable.kept k d lt kept).inside

kept-is : (s : IssueInput) (puts : List Draft) (touched : List (List ℕ)) (key : KeyRow)
    → AreTouched s puts touched → kept_under s touched key ≡ filter (is_kept s puts key) s.issued
kept-is s puts touched key are =
    filter_agree (is_kept_under (id_of key) (anchor_uri s.site) touched) (is_kept s puts key)
    (λ row. as-is-kept s puts touched key row are) s.issued

all-filtered : {X : Type 0} (p : X → Bool) (Q : X → Type 0) (xs : List X) → All (λ x. p x ≡ true → Q x) xs
    → All Q (filter p xs)
all-filtered p Q [] h = All-nil Q
all-filtered {X} p Q (x ∷ xs) h = by (p x) refl (all-filtered p Q xs (All-tail (λ y. p y ≡ true → Q y) x xs h))
  where
    by : (b : Bool) → p x ≡ b → All Q (filter p xs) → All Q (cond b (x ∷ filter p xs) (filter p xs))
    by true e more = All-cons Q x (filter p xs) (All-head (λ y. p y ≡ true → Q y) x xs h e) more
    by false e more = more

all-zip : (Q : Draft → Type 0) (drafts : List Draft) (hashes : List (List ℕ)) → All Q drafts
    → All (λ (m : Made). Q m.0) (zip drafts hashes)
all-zip Q [] hashes h = All-nil (λ (m : Made). Q m.0)
all-zip Q (d ∷ ds) [] h = All-nil (λ (m : Made). Q m.0)
all-zip Q (d ∷ ds) (b ∷ bs) h =
    All-cons (λ (m : Made). Q m.0) (d, b) (zip ds bs) (All-head Q d ds h) (all-zip Q ds bs (All-tail Q d ds h))

-- ---- names apart

in-map : {X Y : Type 0} (f : X → Y) (y : Y) (xs : List X) → In y (map f xs) → (x : X) × In x xs × (y ≡ f x)
in-map f y [] h = absurd h
in-map f y (x ∷ xs) (inl e) = (x, inl refl, e)
in-map f y (x ∷ xs) (inr h) =
    let r = in-map f y xs h in
    (r.0, inr r.1, r.2)

in-filter : {X : Type 0} (p : X → Bool) (z : X) (xs : List X) → In z (filter p xs) → In z xs × (p z ≡ true)
in-filter p z [] h = absurd h
in-filter {X} p z (x ∷ xs) h = by (p x) refl h (in-filter p z xs)
  where
    by : (b : Bool) → p x ≡ b → In z (cond b (x ∷ filter p xs) (filter p xs))
        → (In z (filter p xs) → In z xs × (p z ≡ true)) → In z (x ∷ xs) × (p z ≡ true)
    by true e (inl same) more = (inl same, ap p same ∙ e)
    by true e (inr k) more = let r = more k in (inr r.0, r.1)
    by false e k more = let r = more k in (inr r.0, r.1)

in-zip : (m : Made) (drafts : List Draft) (hashes : List (List ℕ)) → In m (zip drafts hashes) → In m.0 drafts
in-zip m [] hashes h = absurd h
in-zip m (d ∷ ds) [] h = absurd h
in-zip m (d ∷ ds) (b ∷ bs) (inl e) = inl (ap (λ (x : Made). x.0) e)
in-zip m (d ∷ ds) (b ∷ bs) (inr h) = inr (in-zip m ds bs h)

any-in : {X : Type 0} (p : X → Bool) (z : X) (xs : List X) → In z xs → p z ≡ true → list_any p xs ≡ true
any-in p z [] h e = absurd h
any-in p z (x ∷ xs) (inl same) e = or_left (p x) (list_any p xs) (ap p (sym same) ∙ e)
any-in {X} p z (x ∷ xs) (inr h) e = by (p x) (any-in p z xs h e)
  where
    by : (b : Bool) → list_any p xs ≡ true → (b || list_any p xs) ≡ true
    by true more = refl
    by false more = more

in-front : {X : Type 0} (z : X) (xs ys : List X) → In z xs → In z (xs ++ ys)
in-front z [] ys h = absurd h
in-front z (x ∷ xs) ys (inl e) = inl e
in-front z (x ∷ xs) ys (inr h) = inr (in-front z xs ys h)

less-apart : {X : Type 0} (uri : X → List ℕ) (x : X) (xs : List X)
    → AllByRecursion (λ y. on uri uri_cmp x y ≡ Less) xs
    → AllByRecursion (λ (u : List ℕ). bytes_eq (uri x) u ≡ false) (map uri xs)
less-apart uri x [] h = tt
less-apart uri x (y ∷ ys) h = (sym (is_eq-slice_cmp (uri x) (uri y)) ∙ ap is_eq h.0, less-apart uri x ys h.1)

sorted-distinct : {X : Type 0} (uri : X → List ℕ) (xs : List X) → Rise uri xs → IsDistinct bytes_eq (map uri xs)
unfolding IsDistinct IsStrictlySortedBy
sorted-distinct uri [] h = tt
sorted-distinct uri (x ∷ xs) h = (less-apart uri x xs h.0, sorted-distinct uri xs h.1)

less-zip : (d : Draft) (drafts : List Draft) (hashes : List (List ℕ))
    → AllByRecursion (λ (y : Draft). uri_cmp d.uri y.uri ≡ Less) drafts
    → AllByRecursion (λ (m : Made). uri_cmp d.uri m.0.uri ≡ Less) (zip drafts hashes)
less-zip d [] hashes h = tt
less-zip d (y ∷ ys) [] h = tt
less-zip d (y ∷ ys) (b ∷ bs) h = (h.0, less-zip d ys bs h.1)

rise-zip : (drafts : List Draft) (hashes : List (List ℕ)) → Rise (λ (d : Draft). d.uri) drafts
    → Rise (λ (m : Made). m.0.uri) (zip drafts hashes)
unfolding IsStrictlySortedBy
rise-zip [] hashes h = tt
rise-zip (d ∷ ds) [] h = tt
rise-zip (d ∷ ds) (b ∷ bs) h = (less-zip d ds bs h.0, rise-zip ds bs h.1)

by-append : (P : List ℕ → Type 0) (xs ys : List (List ℕ)) → AllByRecursion P xs → AllByRecursion P ys
    → AllByRecursion P (xs ++ ys)
by-append P [] ys h k = k
by-append P (x ∷ xs) ys h k = (h.0, by-append P xs ys h.1 k)

by-all : (P : List ℕ → Type 0) (ys : List (List ℕ)) → ((y : List ℕ) → In y ys → P y) → AllByRecursion P ys
by-all P [] h = tt
by-all P (y ∷ ys) h = (h y (inl refl), by-all P ys (λ z k. h z (inr k)))

distinct-append : (xs ys : List (List ℕ)) → IsDistinct bytes_eq xs → IsDistinct bytes_eq ys
    → ((x y : List ℕ) → In x xs → In y ys → bytes_eq x y ≡ false) → IsDistinct bytes_eq (xs ++ ys)
unfolding IsDistinct
distinct-append [] ys dx dy h = dy
distinct-append (x ∷ xs) ys dx dy h = (
  by-append (λ (u : List ℕ). bytes_eq x u ≡ false) xs ys dx.0
      (by-all (λ (u : List ℕ). bytes_eq x u ≡ false) ys (λ y k. h x y (inl refl) k)),
  distinct-append xs ys dx.1 dy (λ a b k l. h a b (inr k) l),
)

abbrev row_uri : IssuedRow → List ℕ
row_uri row = row.uri

abbrev made_uri : Made → List ℕ
made_uri m = m.0.uri

kept-untouched : (s : IssueInput) (touched : List (List ℕ)) (key : KeyRow) (u : List ℕ)
    → In u (map row_uri (kept_under s touched key)) → has_uri u touched ≡ false
kept-untouched s touched key u h =
    let r = in-map row_uri u (kept_under s touched key) h in
    let row : IssuedRow = r.0 in
    let f = in-filter (is_kept_under (id_of key) (anchor_uri s.site) touched) row s.issued r.1 in
    let stay = (and_parts (bytes_eq row.issuer.bytes (id_of key)) (stays (anchor_uri s.site) touched row) f.1).1 in
    let not_there = (and_parts (not (bytes_eq row.uri (anchor_uri s.site))) (not (has_uri row.uri touched)) stay).1 in
    ap (λ (x : List ℕ). has_uri x touched) r.2 ∙ not-true (has_uri row.uri touched) not_there

made-touched : (s : IssueInput) (drafts manifests : List Draft) (hashes : List (List ℕ))
    (touched : List (List ℕ)) (key : KeyRow) (u : List ℕ)
    → AreTouched s (drafts ++ manifests) touched → In u (map made_uri (made_under s key (zip drafts hashes)))
    → has_uri u touched ≡ true
made-touched s drafts manifests hashes touched key u are h =
    let r = in-map made_uri u (made_under s key (zip drafts hashes)) h in
    let m : Made = r.0 in
    let f = in-filter (λ (x : Made). is_made_under s key x.0) m (zip drafts hashes) r.1 in
    let d : In m.0 drafts = in-zip m drafts hashes f.0 in
    let put : list_any (λ (x : Draft). bytes_eq x.uri m.0.uri) (drafts ++ manifests) ≡ true =
    any-in (λ (x : Draft). bytes_eq x.uri m.0.uri) m.0 (drafts ++ manifests) (in-front m.0 drafts manifests d)
    ((bytes_eq-Decides m.0.uri m.0.uri).1 refl) in
    ap (λ (x : List ℕ). has_uri x touched) r.2
    ∙ (are m.0.uri ∙ or_left (list_any (λ (x : Draft). bytes_eq x.uri m.0.uri) (drafts ++ manifests))
    (list_any (λ (w : List ℕ). bytes_eq w m.0.uri) s.work.withdrawn) put)

names-are : (folder : List ℕ) (rows : List IssuedRow) (made : List Made)
    → map (name_in folder) (map row_uri rows ++ map made_uri made) ≡ names_of
    (map (kept_file folder) rows ++ map (made_file folder) made)
names-are folder rows made =
    map-append (name_in folder) (map row_uri rows) (map made_uri made)
    ∙ (ap (λ (l : List (List ℕ)). l ++ map (name_in folder) (map made_uri made))
    (map-twice (name_in folder) row_uri rows ∙ sym (map-twice (λ (f : File). f.0) (kept_file folder) rows))
    ∙ (ap (λ (l : List (List ℕ)). names_of (map (kept_file folder) rows) ++ l)
    (map-twice (name_in folder) made_uri made ∙ sym (map-twice (λ (f : File). f.0) (made_file folder) made))
    ∙ sym (map-append (λ (f : File). f.0) (map (kept_file folder) rows) (map (made_file folder) made))))

-- ---- what the making of a list asks

pub record Ready (folder : List ℕ) (rows : List IssuedRow) (made : List Made) : Type 0 where
  pub kept : All (λ row. IsListable folder row.uri) rows
  pub come : All (λ m. IsListable folder m.0.uri) made
  pub apart : IsDistinct bytes_eq (names_of (map (kept_file folder) rows ++ map (made_file folder) made))

pub ready : (s : IssueInput) (drafts manifests : List Draft) (hashes : List (List ℕ)) (touched : List (List ℕ))
    (key : KeyRow)
    → Rise row_uri s.issued → Rise (λ (d : Draft). d.uri) drafts → AreTouched s (drafts ++ manifests) touched
    → AreListable s (drafts ++ manifests) drafts key
    → Ready (folder_at s key) (kept_under s touched key) (made_under s key (zip drafts hashes))
ready s drafts manifests hashes touched key standing rising are listable =
    let folder = folder_at s key in
    let made = zip drafts hashes in
    let rows = kept_under s touched key in
    let come = made_under s key made in
    let kept_ok : All (λ (row : IssuedRow). IsListable folder row.uri) rows =
    subst (All (λ (row : IssuedRow). IsListable folder row.uri))
    (sym (kept-is s (drafts ++ manifests) touched key are))
    (all-filtered (is_kept s (drafts ++ manifests) key) (λ (row : IssuedRow). IsListable folder row.uri)
    s.issued listable.kept) in
    let made_ok : All (λ (m : Made). IsListable folder m.0.uri) come =
    all-filtered (λ (m : Made). is_made_under s key m.0) (λ (m : Made). IsListable folder m.0.uri) made
    (all-zip (λ (d : Draft). is_made_under s key d ≡ true → IsListable folder d.uri) drafts hashes listable.made) in
    let uris : IsDistinct bytes_eq (map row_uri rows ++ map made_uri come) =
    distinct-append (map row_uri rows) (map made_uri come)
    (sorted-distinct row_uri rows (IsStrictlySortedBy-filter (on row_uri uri_cmp)
    (is_kept_under (id_of key) (anchor_uri s.site) touched) s.issued standing))
    (sorted-distinct made_uri come (IsStrictlySortedBy-filter (on made_uri uri_cmp)
    (λ (m : Made). is_made_under s key m.0) made (rise-zip drafts hashes rising)))
    (λ x y k l. not-same x y (λ e.
    never (has_uri y touched) (made-touched s drafts manifests hashes touched key y are l)
    (ap (λ (u : List ℕ). has_uri u touched) (sym e) ∙ kept-untouched s touched key x k))) in
    let all : All (IsListable folder) (map row_uri rows ++ map made_uri come) =
    All-append (IsListable folder) (map row_uri rows) (map made_uri come)
    (All-map (IsListable folder) row_uri rows kept_ok) (All-map (IsListable folder) made_uri come made_ok) in
    record {
      kept = kept_ok;
      come = made_ok;
      apart = subst (IsDistinct bytes_eq) (names-are folder rows come)
          (names-distinct folder (map row_uri rows ++ map made_uri come) all uris);
    }

pub ready-at : (folder other : List ℕ) (rows others : List IssuedRow) (made mades : List Made)
    → other ≡ folder → others ≡ rows → mades ≡ made → Ready folder rows made → Ready other others mades
ready-at folder other rows others made mades e f g r =
    subst (λ (l : List ℕ). Ready l others mades) (sym e)
    (subst (λ (l : List IssuedRow). Ready folder l mades) (sym f)
    (subst (λ (l : List Made). Ready folder rows l) (sym g) r))

-- ---- the files of one key

pub record OfKey (s : IssueInput) (touched : List (List ℕ)) (made : List Made) (key : KeyRow) (files : List File)
    : Type 0 where
  pub merged : AreMerged (map (kept_file (folder_at s key)) (kept_under s touched key)) (made_files s key made) files
  pub apart : IsDistinct bytes_eq (names_of (map (kept_file (folder_at s key)) (kept_under s touched key) ++
      made_files s key made))
  pub are : AreAll IsFile files

pub of-key : (s : IssueInput) (touched : List (List ℕ)) (made : List Made) (key : KeyRow) (folder : List ℕ)
    (rows : List IssuedRow) (come : List Made) (files : List File)
    → folder ≡ folder_at s key → rows ≡ kept_under s touched key → come ≡ made_under s key made
    → Ready folder rows come → AreMerged (map (kept_file folder) rows) (map (made_file folder) come) files
    → AreAll IsFile files → OfKey s touched made key files
of-key s touched made key folder rows come files e f g r m are = record {
  merged = subst (λ (l : List ℕ). AreMerged (map (kept_file l) (kept_under s touched key))
      (map (made_file l) (made_under s key made)) files) e
      (subst (λ (l : List IssuedRow). AreMerged (map (kept_file folder) l)
      (map (made_file folder) (made_under s key made)) files) f
      (subst (λ (l : List Made). AreMerged (map (kept_file folder) rows) (map (made_file folder) l) files) g m));
  apart = (ready-at folder (folder_at s key) rows (kept_under s touched key) come (made_under s key made)
      (sym e) (sym f) (sym g) r).apart;
  are = are;
}

-- ---- the table

as-kept : (s : IssueInput) (puts : List Draft) (touched : List (List ℕ)) (key : KeyRow)
    → AreTouched s puts touched
    → map (kept_file (folder_at s key)) (kept_under s touched key) ≡ kept_files s puts key
as-kept s puts touched key are = ap (map (kept_file (folder_at s key))) (kept-is s puts touched key are)

abbrev files_of : IssueInput → List Draft → List Made → KeyRow → List File
files_of s puts made key = arranged before (kept_files s puts key ++ made_files s key made)

one-is : (s : IssueInput) (puts : List Draft) (touched : List (List ℕ)) (made : List Made) (key : KeyRow)
    (files : List File)
    → AreTouched s puts touched → OfKey s touched made key files
    → AreMerged (kept_files s puts key) (made_files s key made) files × (files ≡ files_of s puts made key)
one-is s puts touched made key files are h =
    let e = as-kept s puts touched key are in
    let m : AreMerged (kept_files s puts key) (made_files s key made) files =
    subst (λ (l : List File). AreMerged l (made_files s key made) files) e h.merged in
    let apart : IsDistinct bytes_eq (names_of (kept_files s puts key ++ made_files s key made)) =
    subst (λ (l : List File). IsDistinct bytes_eq (names_of (l ++ made_files s key made))) e h.apart in
    (m, merged-same (kept_files s puts key) (made_files s key made) files m apart)

files-are : (s : IssueInput) (puts : List Draft) (touched : List (List ℕ)) (made : List Made)
    (keys : List KeyRow) (lists : List (List File))
    → AreTouched s puts touched → AllZip (OfKey s touched made) keys lists
    → lists ≡ map (files_of s puts made) keys
files-are s puts touched made [] [] are h = refl
files-are s puts touched made [] (l ∷ ls) are h = absurd h
files-are s puts touched made (k ∷ ks) [] are h = absurd h
files-are s puts touched made (k ∷ ks) (l ∷ ls) are h =
    ap (λ (x : List File). x ∷ ls) (one-is s puts touched made k l are h.0).1
    ∙ ap (λ (x : List (List File)). files_of s puts made k ∷ x) (files-are s puts touched made ks ls are h.1)

each-merged : (s : IssueInput) (puts : List Draft) (touched : List (List ℕ)) (made : List Made)
    (keys : List KeyRow) (lists : List (List File))
    → AreTouched s puts touched → AllZip (OfKey s touched made) keys lists
    → All (λ (key : KeyRow). AreMerged (kept_files s puts key) (made_files s key made)
    (files_of s puts made key)) keys
each-merged s puts touched made [] lists are h =
    All-nil (λ (key : KeyRow). AreMerged (kept_files s puts key) (made_files s key made) (files_of s puts made key))
each-merged s puts touched made (k ∷ ks) [] are h = absurd h
each-merged s puts touched made (k ∷ ks) (l ∷ ls) are h =
    let one = one-is s puts touched made k l are h.0 in
    All-cons (λ (key : KeyRow). AreMerged (kept_files s puts key) (made_files s key made)
    (files_of s puts made key)) k ks
    (subst (AreMerged (kept_files s puts k) (made_files s k made)) one.1 one.0)
    (each-merged s puts touched made ks ls are h.1)

pub file-table : (s : IssueInput) (puts : List Draft) (touched : List (List ℕ)) (made : List Made)
    (keys : List KeyRow) (lists : List (List File))
    → AllZip (OfKey s touched made) keys lists → AreTouched s puts touched
    → IsTable (λ (key : KeyRow) (list : List File). AreMerged (kept_files s puts key) (made_files s key made)
    list) keys lists
file-table s puts touched made keys lists h are = record {
  of = files_of s puts made;
  is = files-are s puts touched made keys lists are h;
  each = each-merged s puts touched made keys lists are h;
}

pub all-listed : (s : IssueInput) (touched : List (List ℕ)) (made : List Made) (keys : List KeyRow)
    (lists : List (List ListedFile))
    → AllZip (OfKey s touched made) keys (map (map file_view) lists)
    → All (λ (list : List ListedFile). AreListed (map file_view list)) lists
all-listed s touched made keys [] h = All-nil (λ (list : List ListedFile). AreListed (map file_view list))
all-listed s touched made [] (l ∷ ls) h = absurd h
all-listed s touched made (k ∷ ks) (l ∷ ls) h =
    All-cons (λ (list : List ListedFile). AreListed (map file_view list)) l ls
    (record { each = h.0.are; rising = h.0.merged.rising })
    (all-listed s touched made ks ls h.1)

-- One manifest more.
pub key-more : {M : Type 0} (s : IssueInput) (touched : List (List ℕ)) (made : List Made) (key_at : M → KeyRow)
    (manifests : List M) (i : ℕ) (d : M) (key : KeyRow) (lists after : List (List ListedFile))
    (list : List ListedFile)
    → i < length manifests → key ≡ key_at (get_or manifests i d)
    → AllZip (OfKey s touched made) (map key_at (take i manifests)) (map (map file_view) lists)
    → OfKey s touched made key (map file_view list) → after ≡ lists ++ list ∷ []
    → AllZip (OfKey s touched made) (map key_at (take (i + 1) manifests)) (map (map file_view) after)
key-more {M} s touched made key_at manifests i d key lists after list lt is was one now =
    let keys : map key_at (take (i + 1) manifests) ≡ map key_at (take i manifests) ++ key ∷ [] =
    ap (map key_at) (take_more manifests i d lt)
    ∙ (map-append key_at (take i manifests) (get_or manifests i d ∷ []) ∙ ap
    (λ (k : KeyRow). map key_at (take i manifests) ++ k ∷ []) (sym is)) in
    let grows : map (map file_view) after ≡ map (map file_view) lists ++ map file_view list ∷ [] =
    ap (map (map file_view)) now ∙ map-append (map file_view) lists (list ∷ []) in
    subst (λ (l : List KeyRow). AllZip (OfKey s touched made) l (map (map file_view) after)) (sym keys)
    (subst (λ (l : List (List File)). AllZip (OfKey s touched made)
    (map key_at (take i manifests) ++ key ∷ []) l) (sym grows)
    (all_zipped_more (OfKey s touched made) (map key_at (take i manifests)) (map (map file_view) lists) key
    (map file_view list) was one))

-- ---- where the code finds them

pub ready-here : (s : IssueInput) (drafts manifests : List Draft) (hashes : List (List ℕ))
    (touched : List (List ℕ)) (key : KeyRow) (folder id : List ℕ) (rows : List IssuedRow)
    (made come : List KeyPosition)
    → length hashes ≡ length drafts → Rise row_uri s.issued → Rise (λ (d : Draft). d.uri) drafts
    → AreTouched s (drafts ++ manifests) touched → AreListable s (drafts ++ manifests) drafts key
    → rows ≡ filter (is_kept_under id (anchor_uri s.site) touched) s.issued
    → IsIndex (map (made_key (anchor_uri s.site)) drafts) made → id ≡ id_of key
    → come ≡ positions_under id made → folder ≡ folder_at s key
    → Ready folder rows (items_at (zip drafts hashes) come)
ready-here s drafts manifests hashes touched key folder id rows made come long standing rising are
    listable is_rows m same is_come is_folder =
    ready-at (folder_at s key) folder (kept_under s touched key) rows
    (made_under s key (zip drafts hashes)) (items_at (zip drafts hashes) come)
    is_folder (kept-here s touched key id rows same is_rows)
    (made-found s drafts hashes key id made come long m same is_come)
    (ready s drafts manifests hashes touched key standing rising are listable)

pub of-here : (s : IssueInput) (drafts : List Draft) (hashes : List (List ℕ)) (touched : List (List ℕ))
    (key : KeyRow) (folder id : List ℕ) (rows : List IssuedRow) (made come : List KeyPosition)
    (list other : List ListedFile)
    → length hashes ≡ length drafts
    → rows ≡ filter (is_kept_under id (anchor_uri s.site) touched) s.issued
    → IsIndex (map (made_key (anchor_uri s.site)) drafts) made → id ≡ id_of key
    → come ≡ positions_under id made → folder ≡ folder_at s key
    → Ready folder rows (items_at (zip drafts hashes) come)
    → AreMerged (map (kept_file folder) rows)
    (map (made_file folder) (items_at (zip drafts hashes) come)) (map file_view list)
    → AreAll IsFile (map file_view list) → other ≡ list
    → OfKey s touched (zip drafts hashes) key (map file_view other)
of-here s drafts hashes touched key folder id rows made come list other long is_rows m same is_come
    is_folder r merged are now =
    subst (λ (l : List ListedFile). OfKey s touched (zip drafts hashes) key (map file_view l)) (sym now)
    (of-key s touched (zip drafts hashes) key folder rows
    (items_at (zip drafts hashes) come) (map file_view list) is_folder
    (kept-here s touched key id rows same is_rows) (made-found s drafts hashes key id made come long m
    same is_come) r merged are)
