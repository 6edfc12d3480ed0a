-- What two makings come to that put the same objects over the same keys.
use Rattle.std.proofs.Common.{◌≡◌, ◌≢◌, ℕ, inl, inr, cond, Option, Some, List, [], ◌∷◌, ◌++◌, length, map, refl, sym, ap, subst, ◌∙◌}
use Rattle.std.specs.List.{All, AllPairs, Any, Contains}
use Rattle.std.specs.List.Sorted.{IsPermutation}
use Rattle.std.proofs.lemmas.List.{length-map, map-append}
use Rattle.std.proofs.lemmas.List.Elements.{All-head, All-tail}
use Rattle.std.proofs.lemmas.List.Sorted.{IsPermutation-append}
use Rattle.sha2.specs.Sha256.{sha256}
use Rattle.key_ids.specs.declared.identifier.KeyId.{KeyId}
use Rattle.pub_set.specs.declared.steps.Change.{Change}
use Rattle.pub_set.specs.declared.steps.Change.TheVariants.{Put}
use Rattle.pub_set.specs.Changes.{uri_of, change_at}
use Rattle.pub_set.specs.Objects.{found_at, is_same, Rise}
use Rattle.key_roll.specs.declared.rows.KeyRow.{KeyRow}
use Rattle.key_roll.specs.declared.issued.IssuedRow.{IssuedRow}
use Rattle.key_roll.specs.declared.issued.What.{What}
use Rattle.key_roll.specs.declared.issued.What.TheVariants as Whats
use Rattle.issue_keys.specs.Keys.{id_of}
use Rattle.issue_drafts.specs.WorkKeys.{key_of}
use Rattle.issue_drafts.specs.IssueInput.{IssueInput}
use Rattle.issue_drafts.specs.Drafts.{Draft, Kind, serial_at, serial_behind}
use Rattle.issue_drafts.specs.Drafts.Kind.{Certificate, Roa, Crl, Manifest}
use Rattle.issue_drafts.specs.laws.UriOrder.{apart-permuted, apart-from-rise, found-there, found-some}
use Rattle.issue_sign.specs.Objects.{Signed}
use Rattle.issue_make.specs.Trace.{IssuingTrace, all_of, made_of, wanted_at, or_else, withdrawal_at, put_of, hash_at, final_bytes}
use Rattle.issue_make.specs.Trace.{serial_of, Says, IsIssued}
use Rattle.issue_make.specs.inner.Putting.{what_of, row_of}
use Rattle.issue_make.proofs.OneOrder.{In, in-contains, contains-in, rise-same, differ-by, all-in}

-- What is put, by its draft, with its bytes.
abbrev pub Piece : Type 0
Piece = Draft × List ℕ

abbrev pub whole_piece : IssueInput → IssuingTrace → Signed → Piece
whole_piece s trace x = (x.draft, final_bytes s trace x x.draft.kind)

-- ---- changes

abbrev put_with : IssueInput → Piece → Change
put_with s p = Put p.0.uri p.1 (hash_at s p.0.uri)

found-pieces : (s : IssueInput) (trace : IssuingTrace) (xs : List Signed) (uri : List ℕ)
    → found_at (λ x. x.draft.uri) (put_of s trace) xs uri ≡ found_at (λ p. p.0.uri) (put_with s) (map (whole_piece s trace) xs) uri
found-pieces s trace [] uri = refl
found-pieces s trace (x ∷ xs) uri =
    ap (cond (is_same x.draft.uri uri) (Some (put_of s trace x))) (found-pieces s trace xs uri)

wanted-same : (s : IssueInput) (trace other : IssuingTrace)
    → map (whole_piece s trace) (made_of trace) ≡ map (whole_piece s other) (made_of other)
    → (uri : List ℕ) → wanted_at s trace uri ≡ wanted_at s other uri
wanted-same s trace other same uri =
    ap (λ (o : Option Change). or_else o (withdrawal_at s uri))
    (found-pieces s trace (made_of trace) uri
    ∙ (ap (λ (l : List Piece). found_at (λ (p : Piece). p.0.uri) (put_with s) l uri) same
    ∙ sym (found-pieces s other (made_of other) uri)))

change-in : (xs ys : List Change) → Rise uri_of xs → ((uri : List ℕ) → change_at xs uri ≡ change_at ys uri)
    → (z : Change) → In z xs → In z ys
change-in xs ys rising same z h =
    let there : change_at xs (uri_of z) ≡ Some z =
    found-there uri_of (λ (c : Change). c) xs z (apart-from-rise uri_of xs rising) (in-contains z xs h) in
    let r = found-some uri_of (λ (c : Change). c) ys (uri_of z) z (sym (same (uri_of z)) ∙ there) in
    subst (λ (c : Change). In c ys) r.3 (contains-in r.0 ys r.1)

-- The same changes are wanted, and each list has those.
pub changes-same : (s : IssueInput) (trace other : IssuingTrace) (xs ys : List Change)
    → map (whole_piece s trace) (made_of trace) ≡ map (whole_piece s other) (made_of other)
    → Rise uri_of xs → Rise uri_of ys
    → ((uri : List ℕ) → change_at xs uri ≡ wanted_at s trace uri)
    → ((uri : List ℕ) → change_at ys uri ≡ wanted_at s other uri) → xs ≡ ys
changes-same s trace other xs ys same first second wanted also =
    let each : (uri : List ℕ) → change_at xs uri ≡ change_at ys uri =
    λ uri. wanted uri ∙ (wanted-same s trace other same uri ∙ sym (also uri)) in
    rise-same uri_of xs ys first second (change-in xs ys first each) (change-in ys xs second (λ uri. sym (each uri)))

-- ---- rows of what is put

abbrev numbered : List Draft → Draft → Kind → ℕ
numbered all d (Certificate subject held) = serial_at all d.issuer d.uri
numbered all d (Roa origin) = serial_at all d.issuer d.uri
numbered all d Crl = 0
numbered all d Manifest = serial_behind all d.issuer

abbrev pub piece_row : ℕ → List Draft → Piece → IssuedRow
piece_row moment all p = row_of moment p.0 (numbered all p.0 p.0.kind) (sha256 p.1)

numbered-is : (s : IssueInput) (trace : IssuingTrace) (d : Draft) (k : Kind) → serial_of s trace d k ≡ numbered (all_of s trace) d k
numbered-is s trace d (Certificate subject held) = refl
numbered-is s trace d (Roa origin) = refl
numbered-is s trace d Crl = refl
numbered-is s trace d Manifest = refl

id-is : (key : KeyId) (row : KeyRow) → key.bytes ≡ id_of row → key ≡ key_of row
id-is key row e = λ i. record { bytes = e i }

says-is : (k : Kind) (what : What) → Says k what → what ≡ what_of k
says-is (Certificate subject held) (Whats.Authority key holding) h =
    ap (λ (id : KeyId). Whats.Authority id holding) (id-is key subject h.0) ∙ ap (Whats.Authority (key_of subject)) h.1
says-is (Certificate subject held) (Whats.Route origin) h = absurd h
says-is (Certificate subject held) Whats.Point h = absurd h
says-is (Roa origin) (Whats.Authority key holding) h = absurd h
says-is (Roa origin) (Whats.Route other) h = ap Whats.Route h
says-is (Roa origin) Whats.Point h = absurd h
says-is Crl what h = h
says-is Manifest what h = h

row-is : (s : IssueInput) (trace : IssuingTrace) (x : Signed) (row : IssuedRow) → IsIssued s trace x row
    → row ≡ piece_row s.work.moment (all_of s trace) (whole_piece s trace x)
row-is s trace x row h =
    let issuer = id-is row.issuer x.draft.issuer h.issuer in
    let serial = h.serial ∙ numbered-is s trace x.draft x.draft.kind in
    let what = says-is x.draft.kind row.what h.what in
    λ i. record {
      uri = h.uri i;
      issuer = issuer i;
      serial = serial i;
      not_after = h.not_after i;
      hash = h.hash i;
      what = what i;
    }

any-in : {X : Type 0} (P : X → Type 0) (y : X) (xs : List X) → ((x : X) → P x → x ≡ y) → Any P xs → In y xs
any-in {X} P y xs one a =
    contains-in y xs (subst (λ (x : X). Contains xs x) (one a.1 a.4) (a.0, a.2, a.3))

one-in : (row z : IssuedRow) (rest rows : List IssuedRow) → In row rows → In z (row ∷ rest) → (In z rest → In z rows) → In z rows
one-in row z rest rows here (inl e) more = subst (λ (r : IssuedRow). In r rows) (sym e) here
one-in row z rest rows here (inr k) more = more k

rows-in : (s : IssueInput) (trace : IssuingTrace) (xs : List Signed) (rows : List IssuedRow)
    → All (λ x. Any (IsIssued s trace x) rows) xs
    → (z : IssuedRow) → In z (map (piece_row s.work.moment (all_of s trace)) (map (whole_piece s trace) xs)) → In z rows
rows-in s trace [] rows all z h = absurd h
rows-in s trace (x ∷ xs) rows all z h =
    let row = piece_row s.work.moment (all_of s trace) (whole_piece s trace x) in
    one-in row z (map (piece_row s.work.moment (all_of s trace)) (map (whole_piece s trace) xs)) rows
    (any-in (IsIssued s trace x) row rows (row-is s trace x)
    (All-head (λ (x : Signed). Any (IsIssued s trace x) rows) x xs all))
    h (rows-in s trace xs rows (All-tail (λ (x : Signed). Any (IsIssued s trace x) rows) x xs all) z)

uris-are : (moment : ℕ) (all : List Draft) (s : IssueInput) (trace : IssuingTrace) (xs : List Signed)
    → map (λ row. row.uri) (map (piece_row moment all) (map (whole_piece s trace) xs))
    ≡ map (λ d. d.uri) (map (λ x. x.draft) xs)
uris-are moment all s trace [] = refl
uris-are moment all s trace (x ∷ xs) = ap (λ (l : List (List ℕ)). x.draft.uri ∷ l) (uris-are moment all s trace xs)

-- No two of what is put have one URI.
pub made-apart : (s : IssueInput) (trace : IssuingTrace) (drafts manifests : List Draft)
    → IsPermutation drafts (map (λ x. x.draft) trace.objects) → IsPermutation manifests (map (λ x. x.draft) trace.listed)
    → AllPairs (λ a b. a ≢ b) (map (λ d. d.uri) (drafts ++ manifests))
    → AllPairs (λ a b. a ≢ b) (map (λ d. d.uri) (map (λ x. x.draft) (made_of trace)))
made-apart s trace drafts manifests first second once =
    subst (λ (l : List Draft). AllPairs (λ a b. a ≢ b) (map (λ d. d.uri) l))
    (sym (map-append (λ (x : Signed). x.draft) trace.objects trace.listed))
    (apart-permuted (λ (d : Draft). d.uri) (drafts ++ manifests)
    (map (λ (x : Signed). x.draft) trace.objects ++ map (λ (x : Signed). x.draft) trace.listed)
    (IsPermutation-append drafts (map (λ (x : Signed). x.draft) trace.objects) manifests
    (map (λ (x : Signed). x.draft) trace.listed) first second) once)

-- The rows are those of what is put.
rows-are : (s : IssueInput) (trace : IssuingTrace) (rows : List IssuedRow)
    → AllPairs (λ a b. a ≢ b) (map (λ d. d.uri) (map (λ x. x.draft) (made_of trace)))
    → length rows ≡ length (made_of trace)
    → All (λ x. Any (IsIssued s trace x) rows) (made_of trace)
    → (z : IssuedRow) → In z rows
    → In z (map (piece_row s.work.moment (all_of s trace)) (map (whole_piece s trace) (made_of trace)))
rows-are s trace rows apart many all =
    let pieces = map (whole_piece s trace) (made_of trace) in
    let told = map (piece_row s.work.moment (all_of s trace)) pieces in
    all-in told rows
    (differ-by (λ (row : IssuedRow). row.uri) told
    (subst (λ (l : List (List ℕ)). AllPairs (λ a b. a ≢ b) l)
    (sym (uris-are s.work.moment (all_of s trace) s trace (made_of trace))) apart))
    (rows-in s trace (made_of trace) rows all)
    (many ∙ sym (length-map pieces (piece_row s.work.moment (all_of s trace)) ∙ length-map (made_of trace) (whole_piece s trace)))

pub issued-same : (s : IssueInput) (trace other : IssuingTrace) (xs ys : List IssuedRow)
    → all_of s trace ≡ all_of s other
    → map (whole_piece s trace) (made_of trace) ≡ map (whole_piece s other) (made_of other)
    → AllPairs (λ a b. a ≢ b) (map (λ d. d.uri) (map (λ x. x.draft) (made_of trace)))
    → AllPairs (λ a b. a ≢ b) (map (λ d. d.uri) (map (λ x. x.draft) (made_of other)))
    → Rise (λ row. row.uri) xs → Rise (λ row. row.uri) ys
    → length xs ≡ length (made_of trace) → length ys ≡ length (made_of other)
    → All (λ x. Any (IsIssued s trace x) xs) (made_of trace) → All (λ x. Any (IsIssued s other x) ys) (made_of other)
    → xs ≡ ys
issued-same s trace other xs ys all same apart differ first second many count each every =
    let told : map (piece_row s.work.moment (all_of s trace)) (map (whole_piece s trace) (made_of trace))
    ≡ map (piece_row s.work.moment (all_of s other)) (map (whole_piece s other) (made_of other)) =
    ap (λ (l : List Draft). map (piece_row s.work.moment l) (map (whole_piece s trace) (made_of trace))) all
    ∙ ap (map (piece_row s.work.moment (all_of s other))) same in
    rise-same (λ (row : IssuedRow). row.uri) xs ys first second
    (λ z h. rows-in s other (made_of other) ys every z
    (subst (λ (l : List IssuedRow). In z l) told (rows-are s trace xs apart many each z h)))
    (λ z h. rows-in s trace (made_of trace) xs each z
    (subst (λ (l : List IssuedRow). In z l) (sym told) (rows-are s other ys differ count every z h)))
