-- Lists of URIs and of files.
use Rattle.std.proofs.Common.{◌≡◌, ℕ, suc, ◌+◌, ◌<◌, drop, get_or, add-one, List, [], ◌∷◌, ◌++◌, Bool, true, false, true≢false, map, Option, None, Some, length, refl, sym, ap, subst, ◌∙◌, cond}
use Rattle.std.specs.Prelude.{◌&&◌, ◌||◌, not, ◌==◌}
use Rattle.std.specs.List.{list_any, list_all, filter, find}
use Rattle.std.specs.Str.{bytes_eq}
use Rattle.std.specs.Cmp.{IsTotalOrder}
use Rattle.std.specs.Cmp.Lexicographic.{nat_list_cmp_total, slice_cmp}
use Rattle.std.specs.Ordering.{is_lt, nat_cmp}
use Rattle.std.specs.declared.cmp.Ordering.{Ordering}
use Rattle.std.specs.declared.cmp.Ordering.TheVariants.{Less, Equal, Greater}
use Rattle.std.proofs.lemmas.Cmp.{tied_itself}
use Rattle.std.proofs.lemmas.Bool.{and_parts, and_from, false_from_ne_true}
use Rattle.std.proofs.lemmas.Slice.Eq.{bytes_eq-Decides}
use Rattle.std.proofs.lemmas.List.Folds.{list_any-append}
use Rattle.std.proofs.Math.Seq.{drop-cons}
use Rattle.pub_set.specs.declared.objects.Object.{Object}
use Rattle.payloads.specs.declared.values.ListedFile.{ListedFile}
use Rattle.payloads.specs.Order.{rises, rises_above}
use Rattle.payloads.specs.ManifestFormats.{Manifest, names, name_of, is_name_below, file_view}
use Rattle.rp_rules.specs.Authorities.{Authority, listed_uri, manifest_place}
use Rattle.rp_rules.specs.Certificates.{File, is_among}
use Rattle.rp_rules.specs.Points.{are_distinct, is_list, files_of, is_crl_file, is_file_in_use, first_of}

-- ---- URIs

or_false : (a b : Bool) → (a || (b || false)) ≡ (a || b)
or_false true b = refl
or_false false true = refl
or_false false false = refl

pub among_end : (uris : List (List ℕ)) (one uri : List ℕ) → is_among (uris ++ one ∷ []) uri ≡ (is_among uris uri || bytes_eq one uri)
among_end uris one uri = list_any-append (λ (other : List ℕ). bytes_eq other uri) uris (one ∷ []) ∙ or_false (is_among uris uri) (bytes_eq one uri)

cond_or : (b a : Bool) → cond b true a ≡ (a || b)
cond_or true true = refl
cond_or true false = refl
cond_or false true = refl
cond_or false false = refl

pub among_more : (uris : List (List ℕ)) (one uri : List ℕ) (was : Bool) → was ≡ is_among uris uri → cond (bytes_eq one uri) true was ≡ is_among (uris ++ one ∷ []) uri
among_more uris one uri was e = cond_or (bytes_eq one uri) was ∙ (ap (λ (b : Bool). b || bytes_eq one uri) e ∙ sym (among_end uris one uri))

-- ---- one after another

-- What is left from a place on, where that stands there.
pub drop_here : {A : Type 0} (xs : List A) (i : ℕ) (x : A) → i < length xs → x ≡ get_or xs i x → drop i xs ≡ x ∷ drop (i + 1) xs
drop_here {A} xs i x low is = rw add-one (drop-cons xs i x low ∙ ap (λ (y : A). y ∷ drop (suc i) xs) (sym is))

filter_skip : {A : Type 0} (p : A → Bool) (x : A) (xs : List A) → p x ≡ false → filter p (x ∷ xs) ≡ filter p xs
filter_skip {A} p x xs e = ap (λ (b : Bool). cond b (x ∷ filter p xs) (filter p xs)) e

filter_keep : {A : Type 0} (p : A → Bool) (x : A) (xs : List A) → p x ≡ true → filter p (x ∷ xs) ≡ x ∷ filter p xs
filter_keep {A} p x xs e = ap (λ (b : Bool). cond b (x ∷ filter p xs) (filter p xs)) e

abbrev pub crls : List ListedFile → List File
crls files = filter is_crl_file (map file_view files)

pub crl_here : (files : List ListedFile) (i : ℕ) (file : ListedFile) → i < length files → file ≡ get_or files i file → is_crl_file (file_view file) ≡ true → first_of (crls (drop i files)) ≡ Some (file_view file)
crl_here files i file low is kind =
    ap (λ (fs : List ListedFile). first_of (crls fs)) (drop_here files i file low is) ∙ ap first_of (filter_keep is_crl_file (file_view file) (map file_view (drop (i + 1) files)) kind)

pub crl_behind : (files : List ListedFile) (i : ℕ) (file : ListedFile) → i < length files → file ≡ get_or files i file → is_crl_file (file_view file) ≡ false → first_of (crls (drop i files)) ≡ first_of (crls (drop (i + 1) files))
crl_behind files i file low is kind =
    ap (λ (fs : List ListedFile). first_of (crls fs)) (drop_here files i file low is) ∙ ap first_of (filter_skip is_crl_file (file_view file) (map file_view (drop (i + 1) files)) kind)

-- The first that isn't among the URIs.
abbrev pub unseen : List (List ℕ) → List Object → Option Object
unseen uris objects = find (λ o. not (is_among uris o.uri)) objects

pub unseen_here : (uris : List (List ℕ)) (objects : List Object) (i : ℕ) (o : Object) → i < length objects → o ≡ get_or objects i o → is_among uris o.uri ≡ false → unseen uris (drop i objects) ≡ Some o
unseen_here uris objects i o low is nay =
    ap (λ (os : List Object). unseen uris os) (drop_here objects i o low is) ∙ ap (λ (b : Bool). cond (not b) (Some o) (unseen uris (drop (i + 1) objects))) nay

pub unseen_behind : (uris : List (List ℕ)) (objects : List Object) (i : ℕ) (o : Object) → i < length objects → o ≡ get_or objects i o → is_among uris o.uri ≡ true → unseen uris (drop i objects) ≡ unseen uris (drop (i + 1) objects)
unseen_behind uris objects i o low is yea =
    ap (λ (os : List Object). unseen uris os) (drop_here objects i o low is) ∙ ap (λ (b : Bool). cond (not b) (Some o) (unseen uris (drop (i + 1) objects))) yea

count_step : (b : Bool) (f : ListedFile) (files : List ListedFile) → length (filter (λ g. is_crl_file (file_view g)) files) ≡ length (crls files)
    → length (cond b (f ∷ filter (λ g. is_crl_file (file_view g)) files) (filter (λ g. is_crl_file (file_view g)) files)) ≡ length (cond b (file_view f ∷ crls files) (crls files))
count_step true f files e = ap suc e
count_step false f files e = e

-- How many of a list's views pass a test.
pub count_views : (files : List ListedFile) → length (filter (λ f. is_crl_file (file_view f)) files) ≡ length (crls files)
count_views [] = refl
count_views (f ∷ files) = count_step (is_crl_file (file_view f)) f files (count_views files)

-- The names of a manifest's files.
views_names : (files : List ListedFile) → map (λ (f : File). f.0) (map file_view files) ≡ map name_of files
views_names [] = refl
views_names (f ∷ files) = ap (λ (ns : List (List ℕ)). name_of f ∷ ns) (views_names files)

pub names_viewed : (files : List ListedFile) (m : Manifest) → files_of m ≡ map file_view files → names m ≡ map name_of files
names_viewed files m same = ap (λ (fs : List File). map (λ (f : File). f.0) fs) same ∙ views_names files

-- ---- names that rise

less_from : (o : Ordering) → is_lt o ≡ true → o ≡ Less
less_from Less e = refl
less_from Equal e = cc
less_from Greater e = cc

below_trans : (a b c : List ℕ) → is_name_below a b ≡ true → is_name_below b c ≡ true → is_name_below a c ≡ true
below_trans a b c e f =
    ap is_lt (nat_list_cmp_total.trans a b c (less_from (slice_cmp nat_cmp a b) e) (less_from (slice_cmp nat_cmp b c) f))

never_below : (a : List ℕ) → is_name_below a a ≡ true → ⊥
never_below a e = let same : Equal ≡ Less = sym (tied_itself nat_list_cmp_total a) ∙ less_from (slice_cmp nat_cmp a a) e in cc

lower : (a b : List ℕ) (names : List (List ℕ)) → is_name_below a b ≡ true → rises_above is_name_below b names ≡ true → rises_above is_name_below a names ≡ true
lower a b [] e r = refl
lower a b (c ∷ names) e r =
    let both = and_parts (is_name_below b c) (rises_above is_name_below c names) r in
    and_from (is_name_below a c) (rises_above is_name_below c names) (below_trans a b c e both.0) both.1

or_none : (a b : Bool) → a ≡ false → b ≡ false → (a || b) ≡ false
or_none a b e f = ap (λ (x : Bool). x || b) e ∙ f

not_among : (a : List ℕ) (names : List (List ℕ)) → rises_above is_name_below a names ≡ true → is_among names a ≡ false
not_among a [] r = refl
not_among a (b ∷ names) r =
    let both = and_parts (is_name_below a b) (rises_above is_name_below b names) r in
    let other : bytes_eq b a ≡ false =
    false_from_ne_true (bytes_eq b a) (λ e. never_below a (subst (λ (x : List ℕ). is_name_below a x ≡ true) ((bytes_eq-Decides b a).0 e) both.0)) in
    or_none (bytes_eq b a) (is_among names a) other (not_among a names (lower a b names both.0 both.1))

distinct_above : (a : List ℕ) (names : List (List ℕ)) → rises_above is_name_below a names ≡ true → are_distinct (a ∷ names) ≡ true
distinct_above a [] r = refl
distinct_above a (b ∷ names) r =
    let both = and_parts (is_name_below a b) (rises_above is_name_below b names) r in
    and_from (not (is_among (b ∷ names) a)) (are_distinct (b ∷ names)) (ap not (not_among a (b ∷ names) r)) (distinct_above b names both.1)

pub distinct_rising : (names : List (List ℕ)) → rises is_name_below names ≡ true → are_distinct names ≡ true
distinct_rising [] r = refl
distinct_rising (a ∷ names) r = distinct_above a names r

and_true : (a b c d : Bool) → b ≡ true → (a && b && c && d) ≡ (a && c && d)
and_true true b c d e = ap (λ (x : Bool). x && c && d) e
and_true false b c d e = refl

-- The list of a manifest whose names rise.
pub list_rising : (a : Authority) (m : Manifest) (one own all : Bool) → rises is_name_below (names m) ≡ true
    → one ≡ (length (filter is_crl_file (files_of m)) == 1) → own ≡ is_among (map (listed_uri a) (names m)) (manifest_place a) → all ≡ list_all is_file_in_use (files_of m)
    → (one && not own && all) ≡ is_list a m
list_rising a m one own all r e f g =
    let crls : Bool = length (filter is_crl_file (files_of m)) == 1 in
    let own_ : Bool = is_among (map (listed_uri a) (names m)) (manifest_place a) in
    let all_ : Bool = list_all is_file_in_use (files_of m) in
    ap (λ (x : Bool). x && not own && all) e ∙ (ap (λ (x : Bool). crls && not x && all) f ∙ (ap (λ (x : Bool). crls && not own_ && x) g
    ∙ sym (and_true crls (are_distinct (names m)) (not own_) all_ (distinct_rising (names m) r))))
