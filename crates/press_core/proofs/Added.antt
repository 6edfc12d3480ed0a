-- One more: URIs in a set, and rows of a table.
use Rattle.std.proofs.Common.{◌≡◌, ℕ, ◌+◌, ◌<◌, ◌≤◌, ◌||◌, Bool, true, false, cond, List, [], ◌∷◌, ◌++◌, map, length, get_or, take, take_all, String, string_bytes, string_cmp, refl, sym, ap, subst, ◌∙◌}
use Rattle.std.specs.List.{AllZip}
use Rattle.std.specs.Str.{bytes_eq}
use Rattle.std.specs.Cmp.Lexicographic.{slice_cmp}
use Rattle.std.specs.Ordering.{nat_cmp}
use Rattle.std.specs.BTreeSet.{BTreeSet, UpdatesBy, contains_text}
use Rattle.std.proofs.lemmas.List.{take_more, map-append}
use Rattle.std.proofs.lemmas.Map.Text.{btree_set_updates_text}
use Rattle.press_core.specs.inner.Resumed.{RoaPlace, uri_of, stands_at, AddsUri}

pub one-more : {X : Type 0} (xs : List X) (i : ℕ) (x : X) → i < length xs → x ≡ get_or xs i x → take (i + 1) xs ≡ take i xs ++ x ∷ []
one-more xs i x less is = take_more xs i x less ∙ ap (λ y. take i xs ++ y ∷ []) (sym is)

-- A list of as many, seen by a view.
pub map-more : {X Y V : Type 0} (view : Y → V) (f : X → V) (xs : List X) (ys : List Y) (i : ℕ) (x : X) (y : Y) → i < length xs → x ≡ get_or xs i x → map view ys ≡ map f (take i xs) → view y ≡ f x
    → map view (ys ++ y ∷ []) ≡ map f (take (i + 1) xs)
map-more {V = V} view f xs ys i x y less is before same =
    map-append view ys (y ∷ [])
    ∙ (ap (λ (l : List V). l ++ view y ∷ []) before
    ∙ (ap (λ (v : V). map f (take i xs) ++ v ∷ []) same
    ∙ (sym (map-append f (take i xs) (x ∷ [])) ∙ ap (map f) (sym (one-more xs i x less is)))))

-- ---- URIs

either-way : (a b c : Bool) → (a || cond b true c) ≡ cond b true (a || c)
either-way true true c = refl
either-way true false c = refl
either-way false true c = refl
either-way false false c = refl

alone : (b : Bool) → (b || false) ≡ cond b true false
alone true = refl
alone false = refl

stands-more : (places : List RoaPlace) (place : RoaPlace) (uri : List ℕ) → stands_at (places ++ place ∷ []) uri ≡ cond (bytes_eq (uri_of place) uri) true (stands_at places uri)
stands-more [] place uri = alone (bytes_eq (uri_of place) uri)
stands-more (p ∷ places) place uri =
    ap (λ b. bytes_eq (uri_of p) uri || b) (stands-more places place uri)
    ∙ either-way (bytes_eq (uri_of p) uri) (bytes_eq (uri_of place) uri) (stands_at places uri)

-- The URI of one place more.
pub uri-added : {X : Type 0} (f : X → RoaPlace) (xs : List X) (i : ℕ) (x : X) → i < length xs → x ≡ get_or xs i x → (old new : List ℕ → Bool)
    → ((uri : List ℕ) → old uri ≡ stands_at (map f (take i xs)) uri) → ((uri : List ℕ) → new uri ≡ cond (bytes_eq (uri_of (f x)) uri) true (old uri))
    → (uri : List ℕ) → new uri ≡ stands_at (map f (take (i + 1) xs)) uri
uri-added f xs i x less is old new before added uri =
    let longer : map f (take (i + 1) xs) ≡ map f (take i xs) ++ f x ∷ [] = ap (map f) (one-more xs i x less is) ∙ map-append f (take i xs) (x ∷ []) in
    added uri
    ∙ (ap (cond (bytes_eq (uri_of (f x)) uri) true) (before uri)
    ∙ (sym (stands-more (map f (take i xs)) (f x) uri) ∙ ap (λ (l : List RoaPlace). stands_at l uri) (sym longer)))

pub all-added : {X : Type 0} (f : X → RoaPlace) (xs : List X) (i : ℕ) → length xs ≤ i → (test : List ℕ → Bool)
    → ((uri : List ℕ) → test uri ≡ stands_at (map f (take i xs)) uri) → (uri : List ℕ) → test uri ≡ stands_at (map f xs) uri
all-added f xs i past test each uri = each uri ∙ ap (λ l. stands_at (map f l) uri) (take_all i xs past)

pub text-added : {Y : Type 0} (place : RoaPlace) (text : List ℕ) (old new : BTreeSet (String Y)) → text ≡ uri_of place → UpdatesBy string_cmp (λ k. slice_cmp nat_cmp text (string_bytes k)) old new true
    → AddsUri place old new
text-added place text old new same updates uri =
    btree_set_updates_text text old new true updates uri
    ∙ ap (λ (t : List ℕ). cond (bytes_eq t uri) true (contains_text old uri)) same

-- ---- side by side

zip-push : {X Y : Type 0} (R : X → Y → Type 0) (xs : List X) (ys : List Y) (x : X) (y : Y) → AllZip R xs ys → R x y → AllZip R (xs ++ x ∷ []) (ys ++ y ∷ [])
zip-push R [] [] x y zip is = (is, tt)
zip-push R [] (b ∷ ys) x y zip is = absurd zip
zip-push R (a ∷ xs) [] x y zip is = absurd zip
zip-push R (a ∷ xs) (b ∷ ys) x y zip is = (zip.0, zip-push R xs ys x y zip.1 is)

pub zip-more : {X Y : Type 0} (R : X → Y → Type 0) (xs : List X) (ys : List Y) (i : ℕ) (x : X) (y : Y) → i < length xs → x ≡ get_or xs i x → AllZip R (take i xs) ys → R x y
    → AllZip R (take (i + 1) xs) (ys ++ y ∷ [])
zip-more R xs ys i x y less is zip more =
    subst (λ l. AllZip R l (ys ++ y ∷ [])) (sym (one-more xs i x less is)) (zip-push R (take i xs) ys x y zip more)

pub zip-all : {X Y : Type 0} (R : X → Y → Type 0) (xs : List X) (ys : List Y) (i : ℕ) → length xs ≤ i → AllZip R (take i xs) ys → AllZip R xs ys
zip-all R xs ys i past zip = subst (λ l. AllZip R l ys) (take_all i xs past) zip
