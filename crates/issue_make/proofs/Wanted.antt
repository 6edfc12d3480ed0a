-- The changes of an edition are those that are wanted.
use Rattle.std.proofs.Common.{◌≡◌, ◌≢◌, ℕ, ◌<◌, zero, suc, Bool, true, false, cond, ◌||◌, Option, None, Some}
use Rattle.std.proofs.Common.{List, [], ◌∷◌, ◌++◌, length, get_or, map, refl, sym, ap, subst, ◌∙◌, arith}
use Rattle.std.specs.Prelude.{filter, Any}
use Rattle.std.specs.List.{All, AllPairs, Contains, list_any, cons_option, filter_map}
use Rattle.std.specs.List.Sorted.{IsPermutation}
use Rattle.std.specs.Option.{option_map, is_some}
use Rattle.std.specs.Str.{bytes_eq}
use Rattle.std.proofs.lemmas.List.{length-map, map-append, length-append, get_or-map}
use Rattle.std.proofs.lemmas.List.Elements.{All-append, All-filter}
use Rattle.std.proofs.lemmas.List.Kept.{AllPairs-cons, AllPairs-filter}
use Rattle.std.proofs.lemmas.List.Sorted.{Contains-permutation, length_permutation}
use Rattle.std.proofs.lemmas.Map.Text.{is_eq-slice_cmp}
use Rattle.std.proofs.lemmas.Simd.{zip2-map, length-zip2}
use Rattle.pub_set.specs.declared.steps.Change.{Change}
use Rattle.pub_set.specs.declared.steps.Change.TheVariants.{Withdraw}
use Rattle.pub_set.specs.Changes.{uri_of, change_at}
use Rattle.pub_set.specs.Objects.{is_same, found_at}
use Rattle.key_roll.specs.declared.issued.IssuedRow.{IssuedRow}
use Rattle.issue_drafts.specs.IssueInput.{IssueInput}
use Rattle.issue_drafts.specs.Drafts.{Kind}
use Rattle.issue_drafts.specs.Drafts.Kind.{Certificate, Roa, Crl, Manifest}
use Rattle.issue_drafts.specs.laws.UriOrder.{found-permuted}
use Rattle.pub_set.specs.laws.UriLaws.{same_is as same-is}
use Rattle.issue_sign.specs.declared.object.Object.{Object}
use Rattle.issue_sign.specs.Objects.{Signed}
use Rattle.issue_make.specs.Trace.{IssuingTrace, made_of, put_of, wanted_at, or_else, IsIssued, Says}
use Rattle.issue_make.specs.inner.Putting.{hash_in, put_by, puts_by, contents_of, withdrawal_by, what_of}
use Rattle.issue_make.proofs.Lists.{map-zip2, get_or-zip2}
use Rattle.issue_make.proofs.Issuing.{row_for, content_for}

same-bytes : (a b : List ℕ) → is_same a b ≡ bytes_eq a b
same-bytes a b = is_eq-slice_cmp a b

-- ---- what is found in two lists

found-append : {X V : Type 0} (key : X → List ℕ) (told : X → V) (xs ys : List X) (uri : List ℕ)
    → found_at key told (xs ++ ys) uri ≡ or_else (found_at key told xs uri) (found_at key told ys uri)
found-append key told [] ys uri = refl
found-append {X} {V} key told (x ∷ xs) ys uri = by (is_same (key x) uri) (found-append key told xs ys uri)
  where
    by : (b : Bool)
        → found_at key told (xs ++ ys) uri ≡ or_else (found_at key told xs uri) (found_at key told ys uri)
        → cond b (Some (told x)) (found_at key told (xs ++ ys) uri)
        ≡ or_else (cond b (Some (told x)) (found_at key told xs uri)) (found_at key told ys uri)
    by true rest = refl
    by false rest = rest

found-map : {A X V : Type 0} (key : X → List ℕ) (told : X → V) (f : A → X) (xs : List A) (uri : List ℕ)
    → found_at key told (map f xs) uri ≡ found_at (λ a. key (f a)) (λ a. told (f a)) xs uri
found-map key told f [] uri = refl
found-map {A} {X} {V} key told f (x ∷ xs) uri =
    ap (λ (o : Option V). cond (is_same (key (f x)) uri) (Some (told (f x))) o) (found-map key told f xs uri)

-- ---- withdrawals

none-both : (b : Bool) (o : Option Change) → o ≡ None → cond b o None ≡ None
none-both true o e = e
none-both false o e = refl

withdraw-step : (issued : List IssuedRow) (w uri : List ℕ) (rest : List Change) (any : Bool)
    (o : Option (List ℕ)) (same : Bool)
    → hash_in issued w ≡ o → is_same w uri ≡ same
    → found_at uri_of (λ c. c) rest uri
    ≡ cond any (option_map (λ hash. Withdraw uri hash) (hash_in issued uri)) None
    → found_at uri_of (λ c. c) (cons_option (option_map (λ hash. Withdraw w hash) o) rest) uri
    ≡ cond (bytes_eq w uri || any) (option_map (λ hash. Withdraw uri hash) (hash_in issued uri)) None
withdraw-step issued w uri rest any (Some h) true told is below =
    let e : w ≡ uri = same-is w uri is in
    let eq : bytes_eq w uri ≡ true = sym (same-bytes w uri) ∙ is in
    let hash : hash_in issued uri ≡ Some h = subst (λ (u : List ℕ). hash_in issued u ≡ Some h) e told in
    ap (λ (b : Bool). cond b (Some (Withdraw w h)) (found_at uri_of (λ c. c) rest uri)) is
    ∙ (ap (λ (u : List ℕ). Some (Withdraw u h)) e
    ∙ sym (ap (λ (b : Bool). cond (b || any) (option_map (λ (hash : List ℕ). Withdraw uri hash) (hash_in issued uri)) None) eq
    ∙ ap (option_map (λ (hash : List ℕ). Withdraw uri hash)) hash))
withdraw-step issued w uri rest any (Some h) false told is below =
    let eq : bytes_eq w uri ≡ false = sym (same-bytes w uri) ∙ is in
    ap (λ (b : Bool). cond b (Some (Withdraw w h)) (found_at uri_of (λ c. c) rest uri)) is
    ∙ (below
    ∙ sym (ap (λ (b : Bool). cond (b || any) (option_map (λ (hash : List ℕ). Withdraw uri hash) (hash_in issued uri)) None) eq))
withdraw-step issued w uri rest any None true told is below =
    let e : w ≡ uri = same-is w uri is in
    let eq : bytes_eq w uri ≡ true = sym (same-bytes w uri) ∙ is in
    let hash : hash_in issued uri ≡ None = subst (λ (u : List ℕ). hash_in issued u ≡ None) e told in
    let nothing : option_map (λ (hash : List ℕ). Withdraw uri hash) (hash_in issued uri) ≡ None =
    ap (option_map (λ (hash : List ℕ). Withdraw uri hash)) hash in
    below
    ∙ (none-both any (option_map (λ (hash : List ℕ). Withdraw uri hash) (hash_in issued uri)) nothing
    ∙ sym (ap (λ (b : Bool). cond (b || any) (option_map (λ (hash : List ℕ). Withdraw uri hash) (hash_in issued uri)) None) eq
    ∙ nothing))
withdraw-step issued w uri rest any None false told is below =
    let eq : bytes_eq w uri ≡ false = sym (same-bytes w uri) ∙ is in
    below
    ∙ sym (ap (λ (b : Bool). cond (b || any) (option_map (λ (hash : List ℕ). Withdraw uri hash) (hash_in issued uri)) None) eq)

found-withdrawn : (issued : List IssuedRow) (ws : List (List ℕ)) (uri : List ℕ)
    → found_at uri_of (λ c. c) (filter_map (withdrawal_by issued) ws) uri
    ≡ cond (list_any (λ w. bytes_eq w uri) ws) (option_map (λ hash. Withdraw uri hash) (hash_in issued uri)) None
found-withdrawn issued [] uri = refl
found-withdrawn issued (w ∷ ws) uri =
    withdraw-step issued w uri (filter_map (withdrawal_by issued) ws) (list_any (λ w. bytes_eq w uri) ws)
    (hash_in issued w) (is_same w uri) refl refl (found-withdrawn issued ws uri)

uri-step : (issued : List IssuedRow) (w : List ℕ) (rest : List Change) (kept : List (List ℕ)) (o : Option (List ℕ))
    → hash_in issued w ≡ o → map uri_of rest ≡ kept
    → map uri_of (cons_option (option_map (λ hash. Withdraw w hash) o) rest)
    ≡ cond (is_some (hash_in issued w)) (w ∷ kept) kept
uri-step issued w rest kept (Some h) told below =
    ap (λ (l : List (List ℕ)). w ∷ l) below
    ∙ sym (ap (λ (o : Option (List ℕ)). cond (is_some o) (w ∷ kept) kept) told)
uri-step issued w rest kept None told below =
    below ∙ sym (ap (λ (o : Option (List ℕ)). cond (is_some o) (w ∷ kept) kept) told)

uris-withdrawn : (issued : List IssuedRow) (ws : List (List ℕ))
    → map uri_of (filter_map (withdrawal_by issued) ws) ≡ filter (λ w. is_some (hash_in issued w)) ws
uris-withdrawn issued [] = refl
uris-withdrawn issued (w ∷ ws) =
    uri-step issued w (filter_map (withdrawal_by issued) ws) (filter (λ w. is_some (hash_in issued w)) ws)
    (hash_in issued w) refl (uris-withdrawn issued ws)

-- One withdrawal, of what stands there.
pub withdrawal-some : (issued : List IssuedRow) (uri copied hash : List ℕ) (o : Option (List ℕ))
    → copied ≡ uri → o ≡ hash_in issued uri → o ≡ Some hash
    → Some (Withdraw copied hash) ≡ withdrawal_by issued uri
withdrawal-some issued uri copied hash o same is some =
    ap (λ (u : List ℕ). Some (Withdraw u hash)) same
    ∙ ap (option_map (λ (h : List ℕ). Withdraw uri h)) (sym some ∙ is)

pub withdrawal-none : (issued : List IssuedRow) (uri : List ℕ) (o : Option (List ℕ))
    → o ≡ hash_in issued uri → o ≡ None → None ≡ withdrawal_by issued uri
withdrawal-none issued uri o is none =
    ap (option_map (λ (h : List ℕ). Withdraw uri h)) (sym none ∙ is)

-- ---- puts

pub puts-long : (issued rows : List IssuedRow) (objects : List Object)
    → length objects ≡ length rows → length (puts_by issued rows (contents_of objects)) ≡ length rows
puts-long issued rows objects each =
    let contents : length (contents_of objects) ≡ length objects = length-map objects (λ (o : Object). o.bytes) in
    length-zip2 (put_by issued) rows (contents_of objects) (sym (contents ∙ each))

pub put-at : (issued rows : List IssuedRow) (objects : List Object) (i : ℕ)
    (row : IssuedRow) (object : Object) (change : Change)
    → length objects ≡ length rows → i < length objects
    → row ≡ get_or rows i row → object ≡ get_or objects i object → change ≡ put_by issued row object.bytes
    → change ≡ get_or (puts_by issued rows (contents_of objects)) i change
put-at issued rows objects i row object change each inside here there is =
    let contents : length (contents_of objects) ≡ length objects = length-map objects (λ (o : Object). o.bytes) in
    let bytes : get_or (contents_of objects) i [] ≡ (get_or objects i object).bytes =
    get_or-map (λ (o : Object). o.bytes) objects i object [] inside in
    is ∙ (ap (λ (r : IssuedRow). put_by issued r object.bytes) here
    ∙ (ap (λ (o : Object). put_by issued (get_or rows i row) o.bytes) there
    ∙ (ap (λ (b : List ℕ). put_by issued (get_or rows i row) b) (sym bytes)
    ∙ sym (get_or-zip2 (put_by issued) rows (contents_of objects) i row [] change (omega arith) (omega arith)))))

-- ---- URIs that are apart

all-left : {X : Type 0} (P : X → Type 0) (xs ys : List X) → All P (xs ++ ys) → All P xs
all-left P [] ys all k d less = absurd (omega arith)
all-left P (x ∷ xs) ys all zero d less =
    let long = length-append xs ys in
    all 0 d (omega arith)
all-left P (x ∷ xs) ys all (suc k) d less =
    all-left P xs ys (λ i e within. all (suc i) e (omega arith)) k d (omega arith)

all-right : {X : Type 0} (P : X → Type 0) (xs ys : List X) → All P (xs ++ ys) → All P ys
all-right P [] ys all = all
all-right P (x ∷ xs) ys all = all-right P xs ys (λ i e within. all (suc i) e (omega arith))

apart-front : (us ws : List (List ℕ)) (p : List ℕ → Bool)
    → AllPairs (λ a b. a ≢ b) (us ++ ws) → AllPairs (λ a b. a ≢ b) (us ++ filter p ws)
apart-front [] ws p apart = AllPairs-filter (λ (a b : List ℕ). a ≢ b) p ws apart
apart-front (u ∷ us) ws p apart =
    let first : All (λ (b : List ℕ). u ≢ b) (us ++ ws) =
    (λ k d less. apart 0 (suc k) d (omega arith) (omega arith)) in
    AllPairs-cons (λ (a b : List ℕ). a ≢ b) u (us ++ filter p ws)
    (All-append (λ (b : List ℕ). u ≢ b) us (filter p ws) (all-left (λ (b : List ℕ). u ≢ b) us ws first)
    (All-filter p (λ (b : List ℕ). u ≢ b) ws (all-right (λ (b : List ℕ). u ≢ b) us ws first)))
    (apart-front us ws p (λ i j d less inside. apart (suc i) (suc j) d (omega arith) (omega arith)))

-- The URIs of the changes are apart.
pub changes-apart : (issued rows : List IssuedRow) (contents ws : List (List ℕ)) (changes : List Change)
    → changes ≡ puts_by issued rows contents ++ filter_map (withdrawal_by issued) ws
    → length rows ≡ length contents
    → AllPairs (λ a b. a ≢ b) (map (λ row. row.uri) rows ++ ws)
    → AllPairs (λ a b. a ≢ b) (map uri_of changes)
changes-apart issued rows contents ws changes is long apart =
    let first : map uri_of (puts_by issued rows contents) ≡ map (λ row. row.uri) rows =
    map-zip2 uri_of (λ (row : IssuedRow). row.uri) (put_by issued) rows contents (λ row bytes. refl) long in
    let whole : map uri_of changes
    ≡ map (λ row. row.uri) rows ++ filter (λ w. is_some (hash_in issued w)) ws =
    ap (map uri_of) is
    ∙ (map-append uri_of (puts_by issued rows contents) (filter_map (withdrawal_by issued) ws)
    ∙ (ap (λ (l : List (List ℕ)). l ++ map uri_of (filter_map (withdrawal_by issued) ws)) first
    ∙ ap (λ (l : List (List ℕ)). map (λ (row : IssuedRow). row.uri) rows ++ l) (uris-withdrawn issued ws))) in
    subst (AllPairs (λ (a b : List ℕ). a ≢ b)) (sym whole)
    (apart-front (map (λ (row : IssuedRow). row.uri) rows) ws (λ w. is_some (hash_in issued w)) apart)

pub rows-apart : (rows : List IssuedRow) (ws : List (List ℕ))
    → AllPairs (λ a b. a ≢ b) (map (λ row. row.uri) rows ++ ws)
    → AllPairs (λ a b. a ≢ b) (map (λ row. row.uri) rows)
rows-apart rows ws apart = front (map (λ row. row.uri) rows) apart
  where
    front : (us : List (List ℕ)) → AllPairs (λ a b. a ≢ b) (us ++ ws) → AllPairs (λ a b. a ≢ b) us
    front [] apart = λ i j d less inside. absurd (omega arith)
    front (u ∷ us) apart =
        let first : All (λ (b : List ℕ). u ≢ b) (us ++ ws) =
        (λ k d less. apart 0 (suc k) d (omega arith) (omega arith)) in
        AllPairs-cons (λ (a b : List ℕ). a ≢ b) u us (all-left (λ (b : List ℕ). u ≢ b) us ws first)
        (front us (λ i j d less inside. apart (suc i) (suc j) d (omega arith) (omega arith)))

-- ---- the changes of a trace

pub puts-are : (s : IssueInput) (trace : IssuingTrace) (rows : List IssuedRow) (contents : List (List ℕ))
    → rows ≡ map (row_for s trace) (made_of trace)
    → contents ≡ map (content_for s trace) (made_of trace)
    → puts_by s.issued rows contents ≡ map (put_of s trace) (made_of trace)
puts-are s trace rows contents first second =
    ap (λ (l : List IssuedRow). puts_by s.issued l contents) first
    ∙ (ap (λ (l : List (List ℕ)). puts_by s.issued (map (row_for s trace) (made_of trace)) l) second
    ∙ zip2-map (put_by s.issued) (row_for s trace) (content_for s trace) (made_of trace))

pub changes-wanted : (s : IssueInput) (trace : IssuingTrace) (rows : List IssuedRow) (contents : List (List ℕ))
    (changes ordered : List Change) (uri : List ℕ)
    → changes ≡ puts_by s.issued rows contents ++ filter_map (withdrawal_by s.issued) s.work.withdrawn
    → rows ≡ map (row_for s trace) (made_of trace)
    → contents ≡ map (content_for s trace) (made_of trace)
    → IsPermutation changes ordered → AllPairs (λ a b. a ≢ b) (map uri_of changes)
    → change_at ordered uri ≡ wanted_at s trace uri
changes-wanted s trace rows contents changes ordered uri is first second moved apart =
    let made : List Signed = made_of trace in
    let ws : List Change = filter_map (withdrawal_by s.issued) s.work.withdrawn in
    found-permuted uri_of (λ (c : Change). c) changes ordered uri moved apart
    ∙ (ap (λ (l : List Change). found_at uri_of (λ (c : Change). c) l uri) is
    ∙ (ap (λ (l : List Change). found_at uri_of (λ (c : Change). c) (l ++ ws) uri) (puts-are s trace rows contents first second)
    ∙ (found-append uri_of (λ (c : Change). c) (map (put_of s trace) made) ws uri
    ∙ (ap (λ (o : Option Change). or_else o (found_at uri_of (λ (c : Change). c) ws uri))
    (found-map uri_of (λ (c : Change). c) (put_of s trace) made uri)
    ∙ ap (λ (o : Option Change). or_else (found_at (λ (x : Signed). x.draft.uri) (put_of s trace) made uri) o)
    (found-withdrawn s.issued s.work.withdrawn uri)))))

-- ---- the rows of a trace

says : (k : Kind) → Says k (what_of k)
says (Certificate subject held) = (refl, refl)
says (Roa origin) = refl
says Crl = refl
says Manifest = refl

is-issued : (s : IssueInput) (trace : IssuingTrace) (x : Signed) → IsIssued s trace x (row_for s trace x)
is-issued s trace x = record {
  uri = refl;
  issuer = refl;
  serial = refl;
  not_after = refl;
  hash = refl;
  what = says x.draft.kind;
}

pub rows-issued : (s : IssueInput) (trace : IssuingTrace) (rows ordered : List IssuedRow)
    → rows ≡ map (row_for s trace) (made_of trace) → IsPermutation rows ordered
    → All (λ x. Any (IsIssued s trace x) ordered) (made_of trace)
rows-issued s trace rows ordered is moved k d less =
    let x : Signed = get_or (made_of trace) k d in
    let there : Contains (map (row_for s trace) (made_of trace)) (row_for s trace x) =
    contains-map (row_for s trace) (made_of trace) k d less in
    let here : Contains ordered (row_for s trace x) =
    Contains-permutation rows ordered (row_for s trace x) moved
    (subst (λ (l : List IssuedRow). Contains l (row_for s trace x)) (sym is) there) in
    (here.0, row_for s trace x, here.1, here.2, is-issued s trace x)
  where
    contains-map : {A B : Type 0} (f : A → B) (xs : List A) (k : ℕ) (d : A) → k < length xs
        → Contains (map f xs) (f (get_or xs k d))
    contains-map f xs k d less =
        let long : length (map f xs) ≡ length xs = length-map xs f in
        (k, omega arith, get_or-map f xs k d (f (get_or xs k d)) less)

pub rows-count : (s : IssueInput) (trace : IssuingTrace) (rows ordered : List IssuedRow)
    → rows ≡ map (row_for s trace) (made_of trace) → IsPermutation rows ordered
    → length ordered ≡ length (made_of trace)
rows-count s trace rows ordered is moved =
    length_permutation rows ordered moved
    ∙ (ap length is ∙ length-map (made_of trace) (row_for s trace))
