-- The rows of what is put, one by one and as those of a trace.
use Rattle.std.proofs.Common.{◌≡◌, ℕ, ◌+◌, ◌<◌, false, Some, List, [], ◌++◌}
use Rattle.std.proofs.Common.{length, get_or, map, refl, sym, ap, subst, ◌∙◌, arith}
use Rattle.std.specs.List.{All, slice_get}
use Rattle.std.specs.Simd.Lanes.{zip2}
use Rattle.std.proofs.lemmas.List.{get_or-map, length-map, length-append, map-append}
use Rattle.std.proofs.lemmas.List.Elements.{All-map}
use Rattle.std.proofs.lemmas.Option.{slice_get-get_or}
use Rattle.std.proofs.lemmas.Simd.{zip2-map, length-zip2, map-map}
use Rattle.sha2.specs.Sha256.{sha256}
use Rattle.key_roll.specs.declared.rows.KeyRow.{KeyRow}
use Rattle.key_roll.specs.declared.issued.IssuedRow.{IssuedRow}
use Rattle.issue_drafts.specs.IssueInput.{IssueInput}
use Rattle.issue_drafts.specs.Drafts.{Draft, Kind, serial_behind, is_manifest}
use Rattle.issue_drafts.specs.Drafts.Kind.{Certificate, Roa, Crl, Manifest}
use Rattle.issue_drafts.specs.Serials.{given_serial}
use Rattle.issue_drafts.specs.Views.{kind_of, draft_of, manifest_of}
use Rattle.issue_drafts.specs.declared.draft.Draft as code
use Rattle.issue_drafts.specs.declared.draft.DraftKind as kinds
use Rattle.issue_drafts.specs.declared.draft.DraftKind.TheVariants as variants
use Rattle.issue_drafts.specs.declared.draft.ManifestDraft.{ManifestDraft}
use Rattle.issue_sign.specs.declared.object.Object.{Object}
use Rattle.issue_sign.specs.Objects.{Signed, bytes_of, manifest_bytes}
use Rattle.issue_make.specs.declared.publishing.Numbered.{Numbered}
use Rattle.issue_make.specs.Trace.{IssuingTrace, all_of, made_of, final_bytes, serial_of}
use Rattle.issue_make.specs.inner.Putting.{row_of, with_serials, draft_rows, next_serials, hashes_of}
use Rattle.issue_make.specs.inner.Putting.{contents_of, rows_of, uris_of, HavePositions, IsWhole, IsOf}
use Rattle.issue_make.proofs.Lists.{get_or-zip2, map-zip2, map-agree, all-back}

-- ---- how many rows there are, and which one stands at a position

pub rows-long : (moment : ℕ) (drafts : List Draft) (serials : List ℕ) (hashes : List (List ℕ))
    → length serials ≡ length drafts → length hashes ≡ length drafts
    → length (draft_rows moment drafts serials hashes) ≡ length drafts
rows-long moment drafts serials hashes first second =
    let pairs : length (with_serials drafts serials) ≡ length drafts =
    length-zip2 (λ (d : Draft) (n : ℕ). (d, n)) drafts serials (sym first) in
    length-zip2 (λ (d : Draft × ℕ) (hash : List ℕ). row_of moment d.0 d.1 hash)
    (with_serials drafts serials) hashes (pairs ∙ sym second) ∙ pairs

row-at : (moment : ℕ) (drafts : List Draft) (serials : List ℕ) (hashes : List (List ℕ)) (i : ℕ)
    (d : Draft) (w : IssuedRow)
    → length serials ≡ length drafts → length hashes ≡ length drafts → i < length drafts
    → get_or (draft_rows moment drafts serials hashes) i w
    ≡ row_of moment (get_or drafts i d) (get_or serials i 0) (get_or hashes i [])
row-at moment drafts serials hashes i d w first second inside =
    let pairs : length (with_serials drafts serials) ≡ length drafts =
    length-zip2 (λ (d : Draft) (n : ℕ). (d, n)) drafts serials (sym first) in
    let pair : get_or (with_serials drafts serials) i (d, 0) ≡ (get_or drafts i d, get_or serials i 0) =
    get_or-zip2 (λ (d : Draft) (n : ℕ). (d, n)) drafts serials i d 0 (d, 0) inside (omega arith) in
    get_or-zip2 (λ (d : Draft × ℕ) (hash : List ℕ). row_of moment d.0 d.1 hash)
    (with_serials drafts serials) hashes i (d, 0) [] w (omega arith) (omega arith)
    ∙ ap (λ (p : Draft × ℕ). row_of moment p.0 p.1 (get_or hashes i [])) pair

hash-at : (objects : List Object) (i : ℕ) (o : Object) → i < length objects
    → get_or (hashes_of objects) i [] ≡ (get_or objects i o).hash
hash-at objects i o inside = get_or-map (λ (o : Object). o.hash) objects i o [] inside

pub draft-row-at : (moment : ℕ) (drafts : List code.Draft) (given : List ℕ) (objects : List Object) (i : ℕ)
    (d : code.Draft) (o : Object) (row : IssuedRow)
    → length given ≡ length drafts → length objects ≡ length drafts → i < length drafts
    → d ≡ get_or drafts i d
    → row ≡ row_of moment (draft_of d) (get_or given i 0) (get_or objects i o).hash
    → row ≡ get_or (draft_rows moment (map draft_of drafts) given (hashes_of objects)) i row
draft-row-at moment drafts given objects i d o row first second inside here is =
    let long : length (map draft_of drafts) ≡ length drafts = length-map drafts draft_of in
    let hashes : length (hashes_of objects) ≡ length objects = length-map objects (λ (o : Object). o.hash) in
    let draft : get_or (map draft_of drafts) i (draft_of d) ≡ draft_of (get_or drafts i d) =
    get_or-map draft_of drafts i d (draft_of d) inside in
    let at : get_or (draft_rows moment (map draft_of drafts) given (hashes_of objects)) i row
    ≡ row_of moment (get_or (map draft_of drafts) i (draft_of d)) (get_or given i 0) (get_or (hashes_of objects) i []) =
    row-at moment (map draft_of drafts) given (hashes_of objects) i (draft_of d) row
    (omega arith) (omega arith) (omega arith) in
    is ∙ (ap (λ (e : code.Draft). row_of moment (draft_of e) (get_or given i 0) (get_or objects i o).hash) here
    ∙ (ap (λ (h : List ℕ). row_of moment (draft_of (get_or drafts i d)) (get_or given i 0) h)
    (sym (hash-at objects i o (omega arith)))
    ∙ (ap (λ (e : Draft). row_of moment e (get_or given i 0) (get_or (hashes_of objects) i [])) (sym draft)
    ∙ sym at)))

pub draft-rows-long : (moment : ℕ) (drafts : List code.Draft) (given : List ℕ) (objects : List Object)
    → length given ≡ length drafts → length objects ≡ length drafts
    → length (draft_rows moment (map draft_of drafts) given (hashes_of objects)) ≡ length drafts
draft-rows-long moment drafts given objects first second =
    let long : length (map draft_of drafts) ≡ length drafts = length-map drafts draft_of in
    let hashes : length (hashes_of objects) ≡ length objects = length-map objects (λ (o : Object). o.hash) in
    rows-long moment (map draft_of drafts) given (hashes_of objects) (first ∙ sym long) (hashes ∙ (second ∙ sym long))
    ∙ long

pub manifest-row-at : (moment : ℕ) (drafts : List ManifestDraft) (next : List ℕ) (objects : List Object) (i : ℕ)
    (d : ManifestDraft) (o : Object) (row : IssuedRow)
    → length objects ≡ length drafts → i < length drafts
    → d ≡ get_or drafts i d
    → row ≡ row_of moment (manifest_of d) (get_or next d.issuer.position 0) (get_or objects i o).hash
    → row ≡ get_or (draft_rows moment (map manifest_of drafts) (next_serials next drafts) (hashes_of objects)) i row
manifest-row-at moment drafts next objects i d o row second inside here is =
    let long : length (map manifest_of drafts) ≡ length drafts = length-map drafts manifest_of in
    let serials : length (next_serials next drafts) ≡ length drafts =
    length-map drafts (λ (d : ManifestDraft). get_or next d.issuer.position 0) in
    let hashes : length (hashes_of objects) ≡ length objects = length-map objects (λ (o : Object). o.hash) in
    let draft : get_or (map manifest_of drafts) i (manifest_of d) ≡ manifest_of (get_or drafts i d) =
    get_or-map manifest_of drafts i d (manifest_of d) inside in
    let serial : get_or (next_serials next drafts) i 0 ≡ get_or next (get_or drafts i d).issuer.position 0 =
    get_or-map (λ (d : ManifestDraft). get_or next d.issuer.position 0) drafts i d 0 inside in
    let at : get_or (draft_rows moment (map manifest_of drafts) (next_serials next drafts) (hashes_of objects)) i row
    ≡ row_of moment (get_or (map manifest_of drafts) i (manifest_of d)) (get_or (next_serials next drafts) i 0)
    (get_or (hashes_of objects) i []) =
    row-at moment (map manifest_of drafts) (next_serials next drafts) (hashes_of objects) i (manifest_of d) row
    (omega arith) (omega arith) (omega arith) in
    is
    ∙ (ap (λ (e : ManifestDraft). row_of moment (manifest_of e) (get_or next e.issuer.position 0) (get_or objects i o).hash)
    here
    ∙ (ap (λ (h : List ℕ). row_of moment (manifest_of (get_or drafts i d))
    (get_or next (get_or drafts i d).issuer.position 0) h) (sym (hash-at objects i o (omega arith)))
    ∙ (ap (λ (n : ℕ). row_of moment (manifest_of (get_or drafts i d)) n (get_or (hashes_of objects) i [])) (sym serial)
    ∙ (ap (λ (e : Draft). row_of moment e (get_or (next_serials next drafts) i 0) (get_or (hashes_of objects) i []))
    (sym draft) ∙ sym at))))

pub manifest-rows-long : (moment : ℕ) (drafts : List ManifestDraft) (next : List ℕ) (objects : List Object)
    → length objects ≡ length drafts
    → length (draft_rows moment (map manifest_of drafts) (next_serials next drafts) (hashes_of objects))
    ≡ length drafts
manifest-rows-long moment drafts next objects second =
    let long : length (map manifest_of drafts) ≡ length drafts = length-map drafts manifest_of in
    let serials : length (next_serials next drafts) ≡ length drafts =
    length-map drafts (λ (d : ManifestDraft). get_or next d.issuer.position 0) in
    let hashes : length (hashes_of objects) ≡ length objects = length-map objects (λ (o : Object). o.hash) in
    rows-long moment (map manifest_of drafts) (next_serials next drafts) (hashes_of objects)
    (serials ∙ sym long) (hashes ∙ (second ∙ sym long)) ∙ long

-- ---- the URIs of rows

row-uris : (moment : ℕ) (drafts : List Draft) (serials : List ℕ) (hashes : List (List ℕ))
    → length serials ≡ length drafts → length hashes ≡ length drafts
    → map (λ row. row.uri) (draft_rows moment drafts serials hashes) ≡ map (λ d. d.uri) drafts
row-uris moment drafts serials hashes first second =
    let pairs : length (with_serials drafts serials) ≡ length drafts =
    length-zip2 (λ (d : Draft) (n : ℕ). (d, n)) drafts serials (sym first) in
    map-zip2 (λ (row : IssuedRow). row.uri) (λ (p : Draft × ℕ). p.0.uri)
    (λ (d : Draft × ℕ) (hash : List ℕ). row_of moment d.0 d.1 hash) (with_serials drafts serials) hashes
    (λ p hash. refl) (pairs ∙ sym second)
    ∙ map-zip2 (λ (p : Draft × ℕ). p.0.uri) (λ (d : Draft). d.uri) (λ (d : Draft) (n : ℕ). (d, n)) drafts serials
    (λ d n. refl) (sym first)

pub all-uris : (moment : ℕ) (n : Numbered) (objects listed : List Object)
    → IsWhole n (length objects) (length listed)
    → map (λ row. row.uri) (rows_of moment n objects listed) ≡ uris_of n
all-uris moment n objects listed whole =
    let drafts : List Draft = map draft_of n.drafts.now in
    let lasts : List Draft = map manifest_of n.manifests.now in
    let serials : List ℕ = next_serials n.next.now n.manifests.now in
    let long : length drafts ≡ length n.drafts.now = length-map n.drafts.now draft_of in
    let last : length lasts ≡ length n.manifests.now = length-map n.manifests.now manifest_of in
    let many : length serials ≡ length n.manifests.now =
    length-map n.manifests.now (λ (d : ManifestDraft). get_or n.next.now d.issuer.position 0) in
    let hashes : length (hashes_of objects) ≡ length objects = length-map objects (λ (o : Object). o.hash) in
    let others : length (hashes_of listed) ≡ length listed = length-map listed (λ (o : Object). o.hash) in
    let first : map (λ row. row.uri) (draft_rows moment drafts n.given.now (hashes_of objects))
    ≡ map (λ d. d.uri) n.drafts.now =
    row-uris moment drafts n.given.now (hashes_of objects) (whole.given ∙ sym long) (hashes ∙ (whole.objects ∙ sym long))
    ∙ map-map (λ (d : Draft). d.uri) draft_of n.drafts.now in
    let second : map (λ row. row.uri) (draft_rows moment lasts serials (hashes_of listed))
    ≡ map (λ d. d.uri) n.manifests.now =
    row-uris moment lasts serials (hashes_of listed) (many ∙ sym last) (others ∙ (whole.listed ∙ sym last))
    ∙ map-map (λ (d : Draft). d.uri) manifest_of n.manifests.now in
    map-append (λ (row : IssuedRow). row.uri) (draft_rows moment drafts n.given.now (hashes_of objects))
    (draft_rows moment lasts serials (hashes_of listed))
    ∙ (ap (λ (l : List (List ℕ)). l ++ map (λ (row : IssuedRow). row.uri) (draft_rows moment lasts serials (hashes_of listed))) first
    ∙ ap (λ (l : List (List ℕ)). map (λ (d : code.Draft). d.uri) n.drafts.now ++ l) second)

-- There are as many rows as objects.
pub rows-many : (moment : ℕ) (n : Numbered) (objects listed : List Object)
    → IsWhole n (length objects) (length listed)
    → length (rows_of moment n objects listed) ≡ length (objects ++ listed)
rows-many moment n objects listed whole =
    let first : List IssuedRow = draft_rows moment (map draft_of n.drafts.now) n.given.now (hashes_of objects) in
    let second : List IssuedRow =
    draft_rows moment (map manifest_of n.manifests.now) (next_serials n.next.now n.manifests.now) (hashes_of listed) in
    let one : length first ≡ length n.drafts.now = draft-rows-long moment n.drafts.now n.given.now objects whole.given whole.objects in
    let two : length second ≡ length n.manifests.now =
    manifest-rows-long moment n.manifests.now n.next.now listed whole.listed in
    let parts : length (first ++ second) ≡ length first + length second = length-append first second in
    let others : length (objects ++ listed) ≡ length objects + length listed = length-append objects listed in
    let whole-one : length objects ≡ length n.drafts.now = whole.objects in
    let whole-two : length listed ≡ length n.manifests.now = whole.listed in
    omega arith

-- ---- the rows of a trace

-- The row of an object of a trace.
abbrev pub row_for : IssueInput → IssuingTrace → Signed → IssuedRow
row_for s trace x =
    row_of s.work.moment x.draft (serial_of s trace x.draft x.draft.kind)
    (sha256 (final_bytes s trace x x.draft.kind))

abbrev pub content_for : IssueInput → IssuingTrace → Signed → List ℕ
content_for s trace x = final_bytes s trace x x.draft.kind

-- Rows of things that are mapped.
rows-of-map : (moment : ℕ) (f : Signed → Draft) (g : Signed → ℕ) (h : Signed → List ℕ) (xs : List Signed)
    → draft_rows moment (map f xs) (map g xs) (map h xs)
    ≡ map (λ x. row_of moment (f x) (g x) (h x)) xs
rows-of-map moment f g h xs =
    ap (λ (l : List (Draft × ℕ)). zip2 (λ (d : Draft × ℕ) (hash : List ℕ). row_of moment d.0 d.1 hash) l (map h xs))
    (zip2-map (λ (d : Draft) (n : ℕ). (d, n)) f g xs)
    ∙ zip2-map (λ (d : Draft × ℕ) (hash : List ℕ). row_of moment d.0 d.1 hash)
    (λ (x : Signed). (f x, g x)) h xs

plain-kind : (k : kinds.DraftKind) → is_manifest (kind_of k) ≡ false
plain-kind (variants.Authority subject held) = refl
plain-kind (variants.Route origin) = refl
plain-kind variants.Crl = refl

plain-serial : (s : IssueInput) (trace : IssuingTrace) (d : Draft) (k : Kind) → d.kind ≡ k → is_manifest k ≡ false
    → given_serial (all_of s trace) d ≡ serial_of s trace d k
plain-serial s trace d (Certificate subject held) e plain = rw e refl
plain-serial s trace d (Roa origin) e plain = rw e refl
plain-serial s trace d Crl e plain = rw e refl
plain-serial s trace d Manifest e plain = absurd cc

pub plain-bytes : (s : IssueInput) (trace : IssuingTrace) (x : Signed) (k : Kind) → is_manifest k ≡ false
    → bytes_of s trace.keys (all_of s trace) trace.entries x ≡ final_bytes s trace x k
plain-bytes s trace x (Certificate subject held) plain = refl
plain-bytes s trace x (Roa origin) plain = refl
plain-bytes s trace x Crl plain = refl
plain-bytes s trace x Manifest plain = absurd cc

last-serial : (s : IssueInput) (trace : IssuingTrace) (d : Draft) (k : Kind) → k ≡ Manifest
    → serial_behind (all_of s trace) d.issuer ≡ serial_of s trace d k
last-serial s trace d k e = rw e refl

pub last-bytes : (s : IssueInput) (trace : IssuingTrace) (x : Signed) (k : Kind) → k ≡ Manifest
    → manifest_bytes s trace.keys (all_of s trace) trace.files x ≡ final_bytes s trace x k
last-bytes s trace x k e = rw e refl

all-plain : (drafts : List code.Draft) (xs : List Signed)
    → map (λ x. x.draft) xs ≡ map draft_of drafts → All (λ x. is_manifest x.draft.kind ≡ false) xs
all-plain drafts xs e =
    all-back (λ (d : Draft). is_manifest d.kind ≡ false) (λ (x : Signed). x.draft) xs
    (subst (All (λ (d : Draft). is_manifest d.kind ≡ false)) (sym e)
    (All-map (λ (d : Draft). is_manifest d.kind ≡ false) draft_of drafts
    (λ k d less. plain-kind (get_or drafts k d).kind)))

all-manifests : (drafts : List ManifestDraft) (xs : List Signed)
    → map (λ x. x.draft) xs ≡ map manifest_of drafts → All (λ x. x.draft.kind ≡ Manifest) xs
all-manifests drafts xs e =
    all-back (λ (d : Draft). d.kind ≡ Manifest) (λ (x : Signed). x.draft) xs
    (subst (All (λ (d : Draft). d.kind ≡ Manifest)) (sym e)
    (All-map (λ (d : Draft). d.kind ≡ Manifest) manifest_of drafts (λ k d less. refl)))

firsts-are : (s : IssueInput) (n : Numbered) (objects listed : List Object) (trace : IssuingTrace)
    → IsOf s n objects listed trace
    → draft_rows s.work.moment (map draft_of n.drafts.now) n.given.now (hashes_of objects)
    ≡ map (row_for s trace) trace.objects
firsts-are s n objects listed trace h =
    let all : List Draft = all_of s trace in
    let xs : List Signed = trace.objects in
    let dr : Signed → Draft = λ x. x.draft in
    let sr : Signed → ℕ = λ x. given_serial all x.draft in
    let hr : Signed → List ℕ = λ x. sha256 (bytes_of s trace.keys all trace.entries x) in
    let serials : n.given.now ≡ map sr xs =
    h.given ∙ (sym (map-map (given_serial all) draft_of n.drafts.now)
    ∙ (ap (map (given_serial all)) (sym h.drafts) ∙ map-map (given_serial all) dr xs)) in
    ap (λ (l : List Draft). draft_rows s.work.moment l n.given.now (hashes_of objects)) (sym h.drafts)
    ∙ (ap (λ (l : List ℕ). draft_rows s.work.moment (map dr xs) l (hashes_of objects)) serials
    ∙ (ap (λ (l : List (List ℕ)). draft_rows s.work.moment (map dr xs) (map sr xs) l) h.hashes
    ∙ (rows-of-map s.work.moment dr sr hr xs
    ∙ map-agree (λ (x : Signed). row_of s.work.moment (dr x) (sr x) (hr x)) (row_for s trace) xs
    (λ k d less. one (get_or xs k d) (all-plain n.drafts.now xs h.drafts k d less)))))
  where
    one : (x : Signed) → is_manifest x.draft.kind ≡ false
        → row_of s.work.moment x.draft (given_serial (all_of s trace) x.draft)
        (sha256 (bytes_of s trace.keys (all_of s trace) trace.entries x))
        ≡ row_for s trace x
    one x plain =
        ap (λ (m : ℕ). row_of s.work.moment x.draft m
        (sha256 (bytes_of s trace.keys (all_of s trace) trace.entries x)))
        (plain-serial s trace x.draft x.draft.kind refl plain)
        ∙ ap (λ (b : List ℕ). row_of s.work.moment x.draft (serial_of s trace x.draft x.draft.kind) (sha256 b))
        (plain-bytes s trace x x.draft.kind plain)

next-are : (next : List ℕ) (behind : KeyRow → ℕ) (drafts : List ManifestDraft)
    → All (λ d. slice_get next d.issuer.position ≡ Some (behind d.issuer.row.now)) drafts
    → HavePositions drafts next
    → next_serials next drafts ≡ map (λ d. behind d.issuer.row.now) drafts
next-are next behind drafts each positions =
    map-agree (λ (d : ManifestDraft). get_or next d.issuer.position 0) (λ (d : ManifestDraft). behind d.issuer.row.now) drafts
    (λ k d less.
    let there = slice_get-get_or next (get_or drafts k d).issuer.position 0 (positions k d less) in
    let told = each k d less in
    cc)

lasts-are : (s : IssueInput) (n : Numbered) (objects listed : List Object) (trace : IssuingTrace)
    → HavePositions n.manifests.now n.next.now → IsOf s n objects listed trace
    → draft_rows s.work.moment (map manifest_of n.manifests.now) (next_serials n.next.now n.manifests.now)
    (hashes_of listed)
    ≡ map (row_for s trace) trace.listed
lasts-are s n objects listed trace positions h =
    let all : List Draft = all_of s trace in
    let xs : List Signed = trace.listed in
    let dr : Signed → Draft = λ x. x.draft in
    let sr : Signed → ℕ = λ x. serial_behind all x.draft.issuer in
    let hr : Signed → List ℕ = λ x. sha256 (manifest_bytes s trace.keys all trace.files x) in
    let br : Draft → ℕ = λ d. serial_behind all d.issuer in
    let serials : next_serials n.next.now n.manifests.now ≡ map sr xs =
    next-are n.next.now (serial_behind all) n.manifests.now h.next positions
    ∙ (sym (map-map br manifest_of n.manifests.now)
    ∙ (ap (map br) (sym h.manifests) ∙ map-map br dr xs)) in
    ap (λ (l : List Draft). draft_rows s.work.moment l (next_serials n.next.now n.manifests.now) (hashes_of listed))
    (sym h.manifests)
    ∙ (ap (λ (l : List ℕ). draft_rows s.work.moment (map dr xs) l (hashes_of listed)) serials
    ∙ (ap (λ (l : List (List ℕ)). draft_rows s.work.moment (map dr xs) (map sr xs) l) h.listed_hashes
    ∙ (rows-of-map s.work.moment dr sr hr xs
    ∙ map-agree (λ (x : Signed). row_of s.work.moment (dr x) (sr x) (hr x)) (row_for s trace) xs
    (λ k d less. one (get_or xs k d) (all-manifests n.manifests.now xs h.manifests k d less)))))
  where
    one : (x : Signed) → x.draft.kind ≡ Manifest
        → row_of s.work.moment x.draft (serial_behind (all_of s trace) x.draft.issuer)
        (sha256 (manifest_bytes s trace.keys (all_of s trace) trace.files x))
        ≡ row_for s trace x
    one x last =
        ap (λ (m : ℕ). row_of s.work.moment x.draft m
        (sha256 (manifest_bytes s trace.keys (all_of s trace) trace.files x)))
        (last-serial s trace x.draft x.draft.kind last)
        ∙ ap (λ (b : List ℕ). row_of s.work.moment x.draft (serial_of s trace x.draft x.draft.kind) (sha256 b))
        (last-bytes s trace x x.draft.kind last)

-- The rows are those of the trace.
pub rows-are : (s : IssueInput) (n : Numbered) (objects listed : List Object) (trace : IssuingTrace)
    → HavePositions n.manifests.now n.next.now → IsOf s n objects listed trace
    → rows_of s.work.moment n objects listed ≡ map (row_for s trace) (made_of trace)
rows-are s n objects listed trace positions h =
    let first = firsts-are s n objects listed trace h in
    let last = lasts-are s n objects listed trace positions h in
    ap (λ (l : List IssuedRow). l ++ draft_rows s.work.moment (map manifest_of n.manifests.now)
    (next_serials n.next.now n.manifests.now) (hashes_of listed)) first
    ∙ (ap (λ (l : List IssuedRow). map (row_for s trace) trace.objects ++ l) last
    ∙ sym (map-append (row_for s trace) trace.objects trace.listed))

-- The bytes are those of the trace.
pub contents-are : (s : IssueInput) (n : Numbered) (objects listed : List Object) (trace : IssuingTrace)
    → IsOf s n objects listed trace
    → contents_of (objects ++ listed) ≡ map (content_for s trace) (made_of trace)
contents-are s n objects listed trace h =
    let all : List Draft = all_of s trace in
    let first : contents_of objects ≡ map (content_for s trace) trace.objects =
    h.contents ∙ map-agree (bytes_of s trace.keys all trace.entries) (content_for s trace) trace.objects
    (λ k d less. plain-bytes s trace (get_or trace.objects k d) (get_or trace.objects k d).draft.kind
    (all-plain n.drafts.now trace.objects h.drafts k d less)) in
    let last : contents_of listed ≡ map (content_for s trace) trace.listed =
    h.listed_contents ∙ map-agree (manifest_bytes s trace.keys all trace.files) (content_for s trace) trace.listed
    (λ k d less. last-bytes s trace (get_or trace.listed k d) (get_or trace.listed k d).draft.kind
    (all-manifests n.manifests.now trace.listed h.manifests k d less)) in
    map-append (λ (o : Object). o.bytes) objects listed
    ∙ (ap (λ (l : List (List ℕ)). l ++ contents_of listed) first
    ∙ (ap (λ (l : List (List ℕ)). map (content_for s trace) trace.objects ++ l) last
    ∙ sym (map-append (content_for s trace) trace.objects trace.listed)))
