-- What holds of the parts of a list of drafts, and of their serials in another order.
use Rattle.std.proofs.Common.{◌≡◌, ◌≢◌, ℕ, ◌+◌, cond, ◌&&◌, List, [], ◌∷◌, ◌++◌, refl, length, get_or, map, sym, ap, subst, ◌∙◌, arith}
use Rattle.std.specs.List.{AllByRecursion, AllPairs}
use Rattle.std.specs.List.Sorted.{IsPermutation, IsStrictlySortedBy}
use Rattle.std.specs.declared.cmp.Ordering.TheVariants.{Less}
use Rattle.std.specs.Ordering.{is_lt}
use Rattle.std.proofs.lemmas.List.{get_or_append_left, get_or-append-add, length-append, map-append}
use Rattle.std.proofs.lemmas.List.Sorted.{sum_by-IsPermutation}
use Rattle.pub_set.specs.Objects.{uri_cmp, Rise}
use Rattle.key_roll.specs.declared.rows.KeyRow.{KeyRow}
use Rattle.issue_drafts.specs.Drafts.{Draft, has_serial, is_numbered, serial_behind}
use Rattle.issue_drafts.specs.Serials.{given_serial}
use Rattle.issue_drafts.specs.Views.{draft_of, manifest_of}
use Rattle.issue_drafts.specs.declared.draft.Draft as code
use Rattle.issue_drafts.specs.declared.draft.ManifestDraft as manifests
use Rattle.issue_drafts.specs.IssueInput.{IssueInput}
use Rattle.issue_drafts.specs.Touching.{AreTouched}

pub front-pairs : {X : Type 0} (R : X → X → Type 0) (xs ys : List X) → AllPairs R (xs ++ ys) → AllPairs R xs
front-pairs {X} R xs ys pairs i j d low high =
    let long : length (xs ++ ys) ≡ length xs + length ys = length-append xs ys in
    subst (λ (x : X). R x (get_or xs j d)) (get_or_append_left xs ys d i (omega arith))
    (subst (λ (y : X). R (get_or (xs ++ ys) i d) y) (get_or_append_left xs ys d j high) (pairs i j d low (omega arith)))

behind-pairs : {X : Type 0} (R : X → X → Type 0) (xs ys : List X) → AllPairs R (xs ++ ys) → AllPairs R ys
behind-pairs {X} R xs ys pairs i j d low high =
    let long : length (xs ++ ys) ≡ length xs + length ys = length-append xs ys in
    subst (λ (x : X). R x (get_or ys j d)) (get_or-append-add xs ys i d)
    (subst (λ (y : X). R (get_or (xs ++ ys) (length xs + i) d) y) (get_or-append-add xs ys j d)
    (pairs (length xs + i) (length xs + j) d (omega arith) (omega arith)))

pub front-once : (xs ys : List Draft) → AllPairs (λ a b. a ≢ b) (map (λ d. d.uri) (xs ++ ys))
    → AllPairs (λ a b. a ≢ b) (map (λ d. d.uri) xs)
front-once xs ys once =
    front-pairs (λ a b. a ≢ b) (map (λ (d : Draft). d.uri) xs) (map (λ (d : Draft). d.uri) ys)
    (subst (λ (l : List (List ℕ)). AllPairs (λ a b. a ≢ b) l) (map-append (λ (d : Draft). d.uri) xs ys) once)

pub behind-once : (xs ys : List Draft) → AllPairs (λ a b. a ≢ b) (map (λ d. d.uri) (xs ++ ys))
    → AllPairs (λ a b. a ≢ b) (map (λ d. d.uri) ys)
behind-once xs ys once =
    behind-pairs (λ a b. a ≢ b) (map (λ (d : Draft). d.uri) xs) (map (λ (d : Draft). d.uri) ys)
    (subst (λ (l : List (List ℕ)). AllPairs (λ a b. a ≢ b) l) (map-append (λ (d : Draft). d.uri) xs ys) once)

-- ---- serials

pub given-moved : (xs ys : List Draft) (d : Draft) → IsPermutation xs ys → given_serial ys d ≡ given_serial xs d
given-moved xs ys d moved =
    ap (λ (n : ℕ). cond (has_serial d.kind) (d.issuer.next_serial + n) 0)
    (sum_by-IsPermutation (λ (e : Draft). cond (is_numbered d.issuer e && is_lt (uri_cmp e.uri d.uri)) 1 0) xs ys moved)

pub behind-moved : (xs ys : List Draft) (key : KeyRow) → IsPermutation xs ys → serial_behind ys key ≡ serial_behind xs key
behind-moved xs ys key moved =
    ap (λ (n : ℕ). key.next_serial + n) (sum_by-IsPermutation (λ (e : Draft). cond (is_numbered key e) 1 0) xs ys moved)

pub map-agree : {X Y : Type 0} (f g : X → Y) (xs : List X) → ((x : X) → f x ≡ g x) → map f xs ≡ map g xs
map-agree f g [] same = refl
map-agree {X} {Y} f g (x ∷ xs) same = both (same x) (map-agree f g xs same)
  where
    both : {a b : Y} {l m : List Y} → a ≡ b → l ≡ m → a ∷ l ≡ b ∷ m
    both e h = cc

-- ---- the parts of a plan, of lists that are looked at as slices

pub touched-by : (s : IssueInput) (touched : List (List ℕ)) (ds seen : List code.Draft) (ms listed : List manifests.ManifestDraft)
    → seen ≡ ds → listed ≡ ms
    → ((puts : List Draft) → IsPermutation (map draft_of seen ++ map manifest_of listed) puts → AreTouched s puts touched)
    → (puts : List Draft) → IsPermutation (map draft_of ds ++ map manifest_of ms) puts → AreTouched s puts touched
touched-by s touched ds seen ms listed e f told puts moved =
    told puts (subst (λ (l : List code.Draft). IsPermutation (map draft_of l ++ map manifest_of listed) puts) (sym e)
    (subst (λ (l : List manifests.ManifestDraft). IsPermutation (map draft_of ds ++ map manifest_of l) puts) (sym f) moved))

pub given-over : (given : List ℕ) (all : List Draft) (ds seen : List code.Draft)
    → seen ≡ ds → IsPermutation all (map draft_of ds)
    → given ≡ map (λ d. given_serial (map draft_of seen) (draft_of d)) seen
    → given ≡ map (λ d. given_serial all (draft_of d)) ds
given-over given all ds seen e moved is =
    is ∙ (ap (λ (l : List code.Draft). map (λ d. given_serial (map draft_of l) (draft_of d)) l) e
    ∙ map-agree (λ d. given_serial (map draft_of ds) (draft_of d)) (λ d. given_serial all (draft_of d)) ds
    (λ d. given-moved all (map draft_of ds) (draft_of d) moved))

pub next-over : (next : List ℕ) (all : List Draft) (rows : List KeyRow) (ds seen : List code.Draft)
    → seen ≡ ds → IsPermutation all (map draft_of ds)
    → next ≡ map (serial_behind (map draft_of seen)) rows → next ≡ map (serial_behind all) rows
next-over next all rows ds seen e moved is =
    is ∙ (ap (λ (l : List code.Draft). map (serial_behind (map draft_of l)) rows) e
    ∙ map-agree (serial_behind (map draft_of ds)) (serial_behind all) rows (λ key. behind-moved all (map draft_of ds) key moved))

-- ---- what rises as it is seen rises

all-back : {X Y : Type 0} (view : X → Y) (P : Y → Type 0) (xs : List X) → AllByRecursion P (map view xs)
    → AllByRecursion (λ x. P (view x)) xs
all-back view P [] all = tt
all-back view P (x ∷ xs) all = (all.0, all-back view P xs all.1)

pub rise-back : {X Y : Type 0} (view : X → Y) (key : Y → List ℕ) (xs : List X) → Rise key (map view xs)
    → Rise (λ x. key (view x)) xs
unfolding IsStrictlySortedBy
rise-back view key [] up = tt
rise-back {X} {Y} view key (x ∷ xs) up =
    (all-back view (λ (y : Y). uri_cmp (key (view x)) (key y) ≡ Less) xs up.0, rise-back view key xs up.1)
