-- The entries of all keys.
use Rattle.std.proofs.Common.{◌≡◌, ℕ, ◌+◌, ◌<◌, ◌≤◌, Bool, true, false, ◌&&◌, not, ◌==◌, List, []}
use Rattle.std.proofs.Common.{◌∷◌, ◌++◌, length, get_or, take, map, filter, refl, sym, ap, subst}
use Rattle.std.proofs.Common.{◌∙◌, arith}
use Rattle.std.specs.List.{All, AllZip, zip, slice_get}
use Rattle.std.specs.Str.{bytes_eq}
use Rattle.std.proofs.lemmas.List.{map-append, take_more, take_all}
use Rattle.std.proofs.lemmas.List.Elements.{All-nil, All-cons, All-head, All-tail, All-append}
use Rattle.std.proofs.lemmas.List.Elements.{All-map, All-filter, filter-append, filter_agree}
use Rattle.std.proofs.lemmas.List.Elements.{filter_map-append}
use Rattle.std.proofs.lemmas.Slice.Zip.{all_zipped_more, get_or-zip, length-zip}
use Rattle.der.specs.Forms.{AreAll}
use Rattle.key_ids.specs.Uris.{anchor_uri}
use Rattle.key_roll.specs.declared.rows.KeyRow.{KeyRow}
use Rattle.key_roll.specs.declared.rows.RevokedRow.{RevokedRow}
use Rattle.key_roll.specs.declared.issued.IssuedRow.{IssuedRow}
use Rattle.issue_keys.specs.declared.key_index.KeyPosition.{KeyPosition}
use Rattle.issue_keys.specs.Under.{positions_under}
use Rattle.issue_values.specs.Bodies.{AreRevoked}
use Rattle.issue_drafts.specs.Firsts.{AreFirsts}
use Rattle.issue_keys.specs.Keys.{id_of}
use Rattle.issue_keys.specs.Indexes.{has_id, IsIndex}
use Rattle.issue_drafts.specs.WorkKeys.{Keys}
use Rattle.issue_drafts.specs.IssueInput.{IssueInput}
use Rattle.issue_drafts.specs.Drafts.{Draft}
use Rattle.issue_drafts.specs.Revoking.{is_superseded, is_listed, revoked_row, has_point, candidates}
use Rattle.issue_drafts.specs.Touching.{AreTouched, has_uri}
use Rattle.issue_drafts.specs.Tables.{IsTable}
use Rattle.issue_drafts.specs.inner.Positions.{items_at}
use Rattle.issue_drafts.specs.inner.Entries.{ends, ended_key, lasts, listed, ended_under}
use Rattle.issue_drafts.proofs.OrderedFiles.{arranged}
use Rattle.issue_drafts.proofs.Firsts.{lower, firsts-same, firsts-arranged, firsts-all}
use Rattle.issue_drafts.proofs.Growing.{grown}
use Rattle.issue_drafts.proofs.Found.{found, has-under}

-- ---- one entry more

pub lasting : (cutoff : ℕ) (start : List RevokedRow) (rows : List RevokedRow) (i : ℕ) (row d : RevokedRow)
    (before after : List RevokedRow)
    → i < length rows → row ≡ get_or rows i d → before ≡ start ++ filter (lasts cutoff) (take i rows)
    → after ≡ before ++ filter (lasts cutoff) (row ∷ [])
    → after ≡ start ++ filter (lasts cutoff) (take (i + 1) rows)
lasting cutoff start rows i row d before after lt is was now =
    grown (filter (lasts cutoff)) (λ (x : RevokedRow). filter (lasts cutoff) (x ∷ []))
    (λ xs x. filter-append (lasts cutoff) xs (x ∷ []))
    start rows i d (filter (lasts cutoff) (row ∷ [])) before after lt was now
    (ap (λ (x : RevokedRow). filter (lasts cutoff) (x ∷ [])) is)

abbrev pub ended_at : ℕ → ℕ → List IssuedRow → List KeyPosition → List RevokedRow
ended_at cutoff moment issued positions = filter (lasts cutoff) (map (revoked_row moment) (items_at issued positions))

ended-append : (cutoff moment : ℕ) (issued : List IssuedRow) (positions : List KeyPosition) (e : KeyPosition)
    → ended_at cutoff moment issued (positions ++ e ∷ []) ≡ ended_at cutoff moment issued positions ++ ended_at
    cutoff moment issued (e ∷ [])
ended-append cutoff moment issued positions e =
    let xs = items_at issued positions in
    let ys = items_at issued (e ∷ []) in
    ap (λ (l : List IssuedRow). filter (lasts cutoff) (map (revoked_row moment) l))
    (filter_map-append (λ (p : KeyPosition). slice_get issued p.position) positions (e ∷ []))
    ∙ (ap (filter (lasts cutoff)) (map-append (revoked_row moment) xs ys)
    ∙ filter-append (lasts cutoff) (map (revoked_row moment) xs) (map (revoked_row moment) ys))

pub ending : (cutoff moment : ℕ) (issued : List IssuedRow) (start : List RevokedRow) (positions : List KeyPosition)
    (i : ℕ) (d : KeyPosition) (row : IssuedRow) (before after : List RevokedRow)
    → i < length positions → items_at issued (get_or positions i d ∷ []) ≡ row ∷ []
    → before ≡ start ++ ended_at cutoff moment issued (take i positions)
    → after ≡ before ++ filter (lasts cutoff) (revoked_row moment row ∷ [])
    → after ≡ start ++ ended_at cutoff moment issued (take (i + 1) positions)
ending cutoff moment issued start positions i d row before after lt is was now =
    grown (ended_at cutoff moment issued) (λ (e : KeyPosition). ended_at cutoff moment issued (e ∷ []))
    (ended-append cutoff moment issued)
    start positions i d (filter (lasts cutoff) (revoked_row moment row ∷ [])) before after lt was now
    (sym (ap (λ (l : List IssuedRow). filter (lasts cutoff) (map (revoked_row moment) l)) is))

-- ---- the rows that are looked at

and-assoc : (b n a t u : Bool) → t ≡ u → (b && (n && a && t)) ≡ (b && n && a && u)
and-assoc true n a t u e = ap (λ (x : Bool). n && a && x) e
and-assoc false n a t u e = refl

ended-is : (s : IssueInput) (puts : List Draft) (touched : List (List ℕ)) (key : KeyRow)
    → AreTouched s puts touched
    → ended_under (anchor_uri s.site) touched s.issued key ≡ filter (is_superseded s puts key) s.issued
ended-is s puts touched key are =
    filter_agree (λ (row : IssuedRow). bytes_eq row.issuer.bytes (id_of key) && ends (anchor_uri s.site)
    touched row) (is_superseded s puts key)
    (λ row. and-assoc (bytes_eq row.issuer.bytes (id_of key)) (not (row.serial == 0))
    (not (bytes_eq row.uri (anchor_uri s.site))) (has_uri row.uri touched) _ (are row.uri))
    s.issued

abbrev pub OfRow : IssueInput → List (List ℕ) → KeyRow × Bool → List RevokedRow → Type 0
OfRow s touched x list =
    AreFirsts (listed s.work.moment x.0 x.1 (ended_under (anchor_uri s.site) touched s.issued x.0)) list

ended-found : (s : IssueInput) (touched : List (List ℕ)) (key : KeyRow) (id : List ℕ) (index positions : List KeyPosition)
    → IsIndex (map (ended_key (anchor_uri s.site) touched) s.issued) index → id ≡ id_of key
    → positions ≡ positions_under id index
    → items_at s.issued positions ≡ ended_under (anchor_uri s.site) touched s.issued key
ended-found s touched key id index positions h same is =
    found (ended_key (anchor_uri s.site) touched) s.issued index positions (id_of key) h
    (is ∙ ap (λ (i : List ℕ). positions_under i index) same)
    ∙ filter_agree (λ (row : IssuedRow). has_id (id_of key) (ended_key (anchor_uri s.site) touched row))
    (λ (row : IssuedRow). bytes_eq row.issuer.bytes (id_of key) && ends (anchor_uri s.site) touched row)
    (λ row. has-under (id_of key) row.issuer (ends (anchor_uri s.site) touched row)) s.issued

pub as-row : (s : IssueInput) (touched : List (List ℕ)) (key : KeyRow) (point : Bool) (id : List ℕ)
    (index positions : List KeyPosition) (entries list : List RevokedRow)
    → IsIndex (map (ended_key (anchor_uri s.site) touched) s.issued) index → id ≡ id_of key
    → positions ≡ positions_under id index
    → AreFirsts (listed s.work.moment key point (items_at s.issued positions)) entries → list ≡ entries
    → OfRow s touched (key, point) list
as-row s touched key point id index positions entries list h same is firsts now =
    subst (λ (l : List RevokedRow). OfRow s touched (key, point) l) (sym now)
    (subst (λ (l : List IssuedRow). AreFirsts (listed s.work.moment key point l) entries)
    (ended-found s touched key id index positions h same is) firsts)

as-candidates : (s : IssueInput) (keys : Keys) (puts : List Draft) (touched : List (List ℕ)) (key : KeyRow)
    (list : List RevokedRow)
    → AreTouched s puts touched → OfRow s touched (key, has_point s keys key) list
    → AreFirsts (candidates s keys puts key) list
as-candidates s keys puts touched key list are h =
    subst (λ (l : List IssuedRow). AreFirsts (filter (is_listed s keys key)
    (key.revoked ++ map (revoked_row s.work.moment) l)) list)
    (ended-is s puts touched key are) h

-- ---- the table

abbrev entries_of : IssueInput → Keys → List Draft → KeyRow → List RevokedRow
entries_of s keys puts key = arranged lower (candidates s keys puts key)

entries-are : (s : IssueInput) (keys : Keys) (puts : List Draft) (touched : List (List ℕ)) (rows : List KeyRow)
    (lists : List (List RevokedRow))
    → AreTouched s puts touched → AllZip (OfRow s touched) (zip rows (map (has_point s keys) rows)) lists
    → lists ≡ map (entries_of s keys puts) rows
entries-are s keys puts touched [] [] are h = refl
entries-are s keys puts touched [] (l ∷ ls) are h = absurd h
entries-are s keys puts touched (r ∷ rs) [] are h = absurd h
entries-are s keys puts touched (r ∷ rs) (l ∷ ls) are h =
    let one : l ≡ entries_of s keys puts r =
    firsts-same (candidates s keys puts r) l (entries_of s keys puts r)
    (as-candidates s keys puts touched r l are h.0) (firsts-arranged (candidates s keys puts r)) in
    ap (λ (x : List RevokedRow). x ∷ ls) one
    ∙ ap (λ (x : List (List RevokedRow)). entries_of s keys puts r ∷ x)
    (entries-are s keys puts touched rs ls are h.1)

pub table : (s : IssueInput) (keys : Keys) (puts : List Draft) (touched : List (List ℕ)) (rows : List KeyRow)
    (points : List Bool) (lists : List (List RevokedRow))
    → AllZip (OfRow s touched) (zip rows points) lists → AreTouched s puts touched
    → points ≡ map (has_point s keys) rows
    → IsTable (λ (key : KeyRow) (entries : List RevokedRow). AreFirsts (candidates s keys puts key) entries)
    rows lists
table s keys puts touched rows points lists h are is = record {
  of = entries_of s keys puts;
  is = entries-are s keys puts touched rows lists are (subst (λ (p : List Bool). AllZip (OfRow s touched)
      (zip rows p) lists) is h);
  each = λ k d lt. firsts-arranged (candidates s keys puts (get_or rows k d));
}

-- One row more.
pub row-more : (s : IssueInput) (touched : List (List ℕ)) (rows : List KeyRow) (points : List Bool) (i : ℕ)
    (row d : KeyRow) (point e : Bool) (lists after : List (List RevokedRow)) (list : List RevokedRow)
    → length points ≡ length rows → i < length rows → row ≡ get_or rows i d → point ≡ get_or points i e
    → AllZip (OfRow s touched) (take i (zip rows points)) lists → OfRow s touched (row, point) list
    → after ≡ lists ++ list ∷ [] → AllZip (OfRow s touched) (take (i + 1) (zip rows points)) after
row-more s touched rows points i row d point e lists after list long lt is at was one now =
    let inside : i < length points = omega arith in
    let both : i < length (zip rows points) = omega (arith, length-zip rows points) in
    let here : get_or (zip rows points) i (d, e) ≡ (row, point) =
    get_or-zip rows points i (d, e) lt inside ∙ (ap (λ (r : KeyRow). (r, get_or points i e)) (sym is) ∙ ap
    (λ (p : Bool). (row, p)) (sym at)) in
    let more : take (i + 1) (zip rows points) ≡ take i (zip rows points) ++ (row, point) ∷ [] =
    take_more (zip rows points) i (d, e) both ∙ ap (λ (x : KeyRow × Bool). take i (zip rows points) ++ x ∷ []) here in
    subst (λ (l : List (List RevokedRow)). AllZip (OfRow s touched) (take (i + 1) (zip rows points)) l) (sym now)
    (subst (λ (l : List (KeyRow × Bool)). AllZip (OfRow s touched) l (lists ++ list ∷ [])) (sym more)
    (all_zipped_more (OfRow s touched) (take i (zip rows points)) lists (row, point) list was one))

pub all-rows : (s : IssueInput) (touched : List (List ℕ)) (rows : List KeyRow) (points : List Bool) (i : ℕ)
    (lists : List (List RevokedRow))
    → length points ≡ length rows → length rows ≤ i → AllZip (OfRow s touched) (take i (zip rows points)) lists
    → AllZip (OfRow s touched) (zip rows points) lists
all-rows s touched rows points i lists long end h =
    subst (λ (l : List (KeyRow × Bool)). AllZip (OfRow s touched) l lists)
    (take_all i (zip rows points) (omega (arith, length-zip rows points))) h

-- ---- dates

abbrev pub Dated : ℕ → RevokedRow → Type 0
Dated moment row = (946_684_800 ≤ row.revoked_at) × (row.revoked_at ≤ moment)

pub all-from : {X : Type 0} (P : X → Type 0) (xs : List X) → AreAll P xs → All P xs
all-from P [] h = All-nil P
all-from P (x ∷ xs) h = All-cons P x xs h.0 (all-from P xs h.1)

dated : (moment cutoff : ℕ) (revoked : List RevokedRow) (ended : List IssuedRow) → 946_684_800 ≤ moment
    → AreRevoked moment revoked
    → All (Dated moment) (filter (lasts cutoff) (revoked ++ map (revoked_row moment) ended))
dated moment cutoff revoked ended from h =
    All-filter (lasts cutoff) (Dated moment) (revoked ++ map (revoked_row moment) ended)
    (All-append (Dated moment) revoked (map (revoked_row moment) ended) (all-from (Dated moment) revoked h.dated)
    (All-map (Dated moment) (revoked_row moment) ended (λ k d lt. (from, omega arith))))

pub all-dated : (s : IssueInput) (touched : List (List ℕ)) (rows : List KeyRow) (points : List Bool)
    (lists : List (List RevokedRow))
    → AllZip (OfRow s touched) (zip rows points) lists → 946_684_800 ≤ s.work.moment
    → All (λ (row : KeyRow). AreRevoked s.work.moment row.revoked) rows → All (AreRevoked s.work.moment) lists
all-dated s touched [] points [] h from all = All-nil (AreRevoked s.work.moment)
all-dated s touched [] points (l ∷ ls) h from all = absurd h
all-dated s touched (r ∷ rs) [] [] h from all = All-nil (AreRevoked s.work.moment)
all-dated s touched (r ∷ rs) [] (l ∷ ls) h from all = absurd h
all-dated s touched (r ∷ rs) (p ∷ ps) [] h from all = absurd h
all-dated s touched (r ∷ rs) (p ∷ ps) (l ∷ ls) h from all =
    let own : AreRevoked s.work.moment r.revoked = All-head (λ (row : KeyRow). AreRevoked s.work.moment
    row.revoked) r rs all in
    let rows = listed s.work.moment r p (ended_under (anchor_uri s.site) touched s.issued r) in
    All-cons (AreRevoked s.work.moment) l ls
    (record {
      rising = h.0.rising;
      dated = firsts-all (Dated s.work.moment) rows l h.0 (dated s.work.moment _ r.revoked
          (ended_under (anchor_uri s.site) touched s.issued r) from own);
    })
    (all-dated s touched rs ps ls h.1 from (All-tail (λ (row : KeyRow). AreRevoked s.work.moment row.revoked)
    r rs all))
