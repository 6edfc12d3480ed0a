-- The serials of a list of drafts.
use Rattle.std.proofs.Common.{◌≡◌, ◌≢◌, ℕ, ◌+◌, ◌<◌, Bool, true, false, ◌&&◌, ◌⊎◌, cond, inl, inr, Some, List, [], ◌∷◌, ◌++◌, ◌≤◌, ◌^◌, count_by, min, length, get_or, take, drop, map, set, refl, sym, ap, subst, ◌∙◌, arith}
use Rattle.std.specs.List.{All, AllPairs, slice_get}
use Rattle.std.specs.Str.{bytes_eq}
use Rattle.std.proofs.Math.Bool.{and-false}
use Rattle.std.proofs.lemmas.Bool.{and_from, cases_lt}
use Rattle.std.proofs.lemmas.List.{append-nil, drop_all, get_or-map, length-map, length-take, map_more, take_all}
use Rattle.std.proofs.lemmas.List.Sums.{count_by-le-length}
use Rattle.std.proofs.lemmas.Option.{slice_get_within, get_or_from_slice_get}
use Rattle.std.proofs.lemmas.Slice.Eq.{bytes_eq-Decides}
use Rattle.pub_set.specs.Objects.{Rise}
use Rattle.key_roll.specs.declared.rows.KeyRow.{KeyRow}
use Rattle.issue_keys.specs.Keys.{id_of}
use Rattle.issue_drafts.specs.Publishers.{is_key}
use Rattle.issue_drafts.specs.Drafts.{Draft, has_serial, is_numbered, serial_behind}
use Rattle.issue_drafts.specs.declared.draft.Draft as code
use Rattle.issue_drafts.specs.Serials.{given_serial}
use Rattle.issue_drafts.specs.Views.{draft_of, kind_of, IsPositioned}
use Rattle.issue_drafts.specs.laws.UriOrder.{rise-map}
use Rattle.issue_drafts.proofs.Counting.{next-number, one-owned, none-owned, number-at}

abbrev first : KeyRow → ℕ
first key = key.next_serial

-- ---- keys by their identifiers

itself : (a : List ℕ) → bytes_eq a a ≡ true
itself a = (bytes_eq-Decides a a).1 refl

other-bytes : (a b : List ℕ) → a ≢ b → bytes_eq a b ≡ false
other-bytes a b apart = by (bytes_eq a b) refl
  where
    by : (r : Bool) → bytes_eq a b ≡ r → r ≡ false
    by true e = absurd (apart ((bytes_eq-Decides a b).0 e))
    by false e = refl

other-key : (rows : List KeyRow) (position k : ℕ) (key : KeyRow) → AllPairs (λ a b. id_of a ≢ id_of b) rows
    → slice_get rows position ≡ Some key → k < length rows → k ≢ position → is_key key (get_or rows k key) ≡ false
other-key rows position k key apart at low other =
    let within = slice_get_within rows position key at in
    let here = get_or_from_slice_get rows position key key at in
    other-bytes (id_of key) (id_of (get_or rows k key))
    (λ e. differ (cases_lt k position) within (ap id_of here ∙ e))
  where
    differ : (k < position) ⊎ (position ≤ k) → position < length rows → id_of (get_or rows position key) ≡ id_of (get_or rows k key) → ⊥
    differ (inl lt) within e = apart k position key lt within (sym e)
    differ (inr le) within e = apart position k key (omega arith) low e

-- ---- one draft

pub given-is : (all : List Draft) (rows : List KeyRow) (i position : ℕ) (d : Draft) (r : ℕ) → Rise (λ d. d.uri) all → i < length all
    → get_or all i d ≡ d → slice_get rows position ≡ Some d.issuer
    → r ≡ cond (has_serial d.kind) (get_or (map (serial_behind (take i all)) rows) position 0) 0 → r ≡ given_serial all d
given-is all rows i position d r up lt at there is =
    is ∙ ap (λ (n : ℕ). cond (has_serial d.kind) n 0)
    (next-number first is_numbered (λ (d : Draft). d.uri) all rows i position d d.issuer up lt at there)

pub next-is : (all : List Draft) (rows : List KeyRow) (i position : ℕ) (d : Draft) (before after : List ℕ)
    → AllPairs (λ a b. id_of a ≢ id_of b) rows → i < length all → get_or all i d ≡ d → slice_get rows position ≡ Some d.issuer
    → before ≡ map (serial_behind (take i all)) rows
    → after ≡ cond (has_serial d.kind) (set before position (get_or before position 0 + 1)) before
    → after ≡ map (serial_behind (take (i + 1) all)) rows
next-is all rows i position d before after apart lt at there was now =
    by (has_serial d.kind) refl (now ∙ ap (λ (l : List ℕ). cond (has_serial d.kind) (set l position (get_or l position 0 + 1)) l) was)
  where
    by : (b : Bool) → has_serial d.kind ≡ b
        → after ≡ cond b
        (set (map (serial_behind (take i all)) rows) position (get_or (map (serial_behind (take i all)) rows) position 0 + 1))
        (map (serial_behind (take i all)) rows)
        → after ≡ map (serial_behind (take (i + 1) all)) rows
    by true e h =
        h ∙ one-owned first is_numbered all rows i position d d.issuer lt at there
        (and_from (is_key d.issuer d.issuer) (has_serial d.kind) (itself (id_of d.issuer)) e)
        (λ k low other. ap (λ (c : Bool). c && has_serial d.kind) (other-key rows position k d.issuer apart there low other))
    by false e h =
        h ∙ none-owned first is_numbered all rows i d d.issuer lt at
        (λ k. ap (λ (c : Bool). is_key d.issuer k && c) e ∙ and-false (is_key d.issuer k))

-- ---- drafts of the code

abbrev pub given_for : List code.Draft → code.Draft → ℕ
given_for drafts d = given_serial (map draft_of drafts) (draft_of d)

abbrev pub next_for : List code.Draft → ℕ → List KeyRow → List ℕ
next_for drafts i rows = map (serial_behind (take i (map draft_of drafts))) rows

-- A draft at its position, its key at its own.
pub record IsAt (rows : List KeyRow) (drafts : List code.Draft) (i : ℕ) (d : code.Draft) : Type 0 where
  pub rising : Rise (λ d. d.uri) drafts
  pub low : i < length drafts
  pub is : d ≡ get_or drafts i d
  pub positioned : All (λ d. IsPositioned rows d.issuer) drafts

low-seen : (drafts : List code.Draft) (i : ℕ) → i < length drafts → i < length (map draft_of drafts)
low-seen drafts i low = let e : length (map draft_of drafts) ≡ length drafts = length-map drafts draft_of in omega arith

seen : (drafts : List code.Draft) (i : ℕ) (d : code.Draft) → i < length drafts → d ≡ get_or drafts i d
    → get_or (map draft_of drafts) i (draft_of d) ≡ draft_of d
seen drafts i d low is = get_or-map draft_of drafts i d (draft_of d) low ∙ ap draft_of (sym is)

there : (rows : List KeyRow) (drafts : List code.Draft) (i : ℕ) (d : code.Draft) → IsAt rows drafts i d
    → slice_get rows d.issuer.position ≡ Some d.issuer.row.now
there rows drafts i d at = subst (λ (x : code.Draft). IsPositioned rows x.issuer) (sym at.is) (at.positioned i d at.low)

pub one-given : (rows : List KeyRow) (drafts : List code.Draft) (i : ℕ) (d : code.Draft) (r : ℕ) (next before after : List ℕ)
    → IsAt rows drafts i d → next ≡ next_for drafts i rows → before ≡ map (given_for drafts) (take i drafts)
    → r ≡ cond (has_serial (kind_of d.kind)) (get_or next d.issuer.position 0) 0 → after ≡ before ++ r ∷ []
    → after ≡ map (given_for drafts) (take (i + 1) drafts)
one-given rows drafts i d r next before after at was done is now =
    let all = map draft_of drafts in
    let given : r ≡ given_for drafts (get_or drafts i d) =
    given-is all rows i d.issuer.position (draft_of d) r (rise-map draft_of (λ (d : Draft). d.uri) drafts at.rising)
    (low-seen drafts i at.low) (seen drafts i d at.low at.is) (there rows drafts i d at)
    (is ∙ ap (λ (l : List ℕ). cond (has_serial (kind_of d.kind)) (get_or l d.issuer.position 0) 0) was)
    ∙ ap (given_for drafts) at.is in
    now ∙ (ap (λ (l : List ℕ). l ++ r ∷ []) done
    ∙ (ap (λ (n : ℕ). map (given_for drafts) (take i drafts) ++ n ∷ []) given
    ∙ sym (map_more (given_for drafts) drafts i d at.low)))

pub next-given : (rows : List KeyRow) (drafts : List code.Draft) (i : ℕ) (d : code.Draft) (next after : List ℕ)
    → AllPairs (λ a b. id_of a ≢ id_of b) rows → IsAt rows drafts i d → next ≡ next_for drafts i rows
    → after ≡ cond (has_serial (kind_of d.kind)) (set next d.issuer.position (get_or next d.issuer.position 0 + 1)) next
    → after ≡ next_for drafts (i + 1) rows
next-given rows drafts i d next after apart at was now =
    next-is (map draft_of drafts) rows i d.issuer.position (draft_of d) next after apart (low-seen drafts i at.low)
    (seen drafts i d at.low at.is) (there rows drafts i d at) was now

-- The number of a key that is there stays small.
pub room : (rows : List KeyRow) (drafts : List code.Draft) (i : ℕ) (d : code.Draft) (next : List ℕ) → IsAt rows drafts i d
    → All (λ row. row.next_serial < 2 ^ 62) rows → length drafts < 2 ^ 63 → next ≡ next_for drafts i rows
    → get_or next d.issuer.position 0 + 1 < 2 ^ 64
room rows drafts i d next at small few was =
    let front = take i (map draft_of drafts) in
    let key = d.issuer.row.now in
    let here = there rows drafts i d at in
    let n : get_or next d.issuer.position 0 ≡ serial_behind front key =
    ap (λ (l : List ℕ). get_or l d.issuer.position 0) was ∙ number-at (serial_behind front) rows d.issuer.position key here in
    let counted : count_by (is_numbered key) front ≤ length front = count_by-le-length (is_numbered key) front in
    let short : length front ≡ min i (length (map draft_of drafts)) = length-take i (map draft_of drafts) in
    let long : length (map draft_of drafts) ≡ length drafts = length-map drafts draft_of in
    let first : key.next_serial < 2 ^ 62 =
    subst (λ (row : KeyRow). row.next_serial < 2 ^ 62) (get_or_from_slice_get rows d.issuer.position key key here)
    (small d.issuer.position key (slice_get_within rows d.issuer.position key here)) in
    omega arith

-- What a slice of a vector leaves in it.
pub written-back : (n : ℕ) (old new : List ℕ) → length new ≡ length old → n ≡ length old
    → take n (new ++ drop (length new) old) ≡ new
written-back n old new same is =
    ap (λ (zs : List ℕ). take n (new ++ zs)) (drop_all (length new) old (omega arith))
    ∙ (ap (take n) (append-nil new) ∙ take_all n new (omega arith))
