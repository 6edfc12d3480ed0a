-- Files of a list, one more at a time, and by their names.
use Rattle.std.proofs.Common.{◌≡◌, ℕ, ◌+◌, ◌<◌, zero, suc, true, false, Option}
use Rattle.std.proofs.Common.{None, Some, Result, Ok, Err, List, [], ◌∷◌, ◌++◌, length, get_or}
use Rattle.std.proofs.Common.{take, drop, map, refl, sym, ap, subst, ◌∙◌, arith}
use denote.Ref.{Bor}
use Rattle.std.specs.List.{All, slice_get, zip, cons_option, starts_with, IsDistinct}
use Rattle.std.specs.List.Sorted.{IsPermutation, IsSortedBy}
use Rattle.std.specs.Option.{MatchOption, IsSome}
use Rattle.std.specs.Result.{IfOk}
use Rattle.std.specs.Prelude.{nat_eq}
use Rattle.std.specs.Str.{bytes_eq}
use Rattle.std.specs.Str.Pattern.{FindsTextPrefix}
use Rattle.std.proofs.lemmas.List.{append_assoc, map-append, take_more, length-map, get_or-map}
use Rattle.std.proofs.lemmas.List.Elements.{All-head, All-tail, filter_map-append}
use Rattle.std.proofs.lemmas.List.Sorted.{All-permutation, IsPermutation-map}
use Rattle.std.proofs.lemmas.Option.{slice_get-get_or, get_or_from_slice_get}
use Rattle.std.proofs.lemmas.Slice.Zip.{get_or-zip, length-zip}
use Rattle.std.proofs.lemmas.Str.Pattern.{starts_text}
use Rattle.der.specs.Forms.{AreAll}
use Rattle.issue_keys.specs.declared.key_index.KeyPosition.{KeyPosition}
use Rattle.payloads.specs.Order.{rises}
use Rattle.payloads.specs.ManifestFormats.{IsFile, is_name_below, file_view}
use Rattle.payloads.specs.declared.values.ListedFile.{ListedFile}
use Rattle.issue_drafts.specs.Drafts.{Draft}
use Rattle.issue_drafts.specs.Views.{draft_of}
use Rattle.issue_drafts.specs.declared.draft.Draft as code
use Rattle.issue_drafts.specs.inner.Positions.{items_at}
use Rattle.issue_drafts.specs.Files.{names_of, IsListable}
use Rattle.issue_drafts.proofs.OrderedFiles.{never}
use Rattle.issue_drafts.proofs.Growing.{grown}
use Rattle.issue_drafts.proofs.Lists.{all-from}
use Rattle.issue_drafts.proofs.Named.{File, before, rise-from, distinct-moved}

-- ---- the name of a file

pub some-name : (r : Option (Bor (List ℕ))) (folder uri : List ℕ)
    → MatchOption r (FindsTextPrefix folder uri None) (λ x. (n : ℕ) × FindsTextPrefix folder uri (Some n) ×
    (x.now ≡ drop n uri) × (length x.now + n ≡ length uri))
    → IsListable folder uri → IsSome r
some-name None folder uri h l = never (starts_with nat_eq uri folder) l.inside (sym (starts_text false folder uri h))
some-name (Some x) folder uri h l = refl

-- ---- one file more

pub at-listed : {A : Type 0} (Q : A → Type 0) (xs : List A) (positions : List KeyPosition) (i : ℕ) (d : KeyPosition) (x : A)
    → All Q (items_at xs positions) → i < length positions → slice_get xs (get_or positions i d).position ≡ Some x → Q x
at-listed Q xs [] i d x all lt e = absurd (omega arith)
at-listed {A} Q xs (p ∷ ps) zero d x all lt e =
    All-head Q x (items_at xs ps) (subst (λ (o : Option A). All Q (cons_option o (items_at xs ps))) e all)
at-listed {A} Q xs (p ∷ ps) (suc i) d x all lt e = at-listed Q xs ps i d x (rest (slice_get xs p.position) all)
    (omega arith) e
  where
    rest : (o : Option A) → All Q (cons_option o (items_at xs ps)) → All Q (items_at xs ps)
    rest None h = h
    rest (Some y) h = All-tail Q y (items_at xs ps) h

are-append : {X : Type 0} (P : X → Type 0) (xs ys : List X) → AreAll P xs → AreAll P ys → AreAll P (xs ++ ys)
are-append P [] ys h k = k
are-append P (x ∷ xs) ys h k = (h.0, are-append P xs ys h.1 k)

abbrev files_at : {A : Type 0} → (A → File) → List A → List KeyPosition → List File
files_at f xs positions = map f (items_at xs positions)

files-append : {A : Type 0} (f : A → File) (xs : List A) (positions : List KeyPosition) (e : KeyPosition)
    → files_at f xs (positions ++ e ∷ []) ≡ files_at f xs positions ++ files_at f xs (e ∷ [])
files-append f xs positions e =
    ap (map f) (filter_map-append (λ (p : KeyPosition). slice_get xs p.position) positions (e ∷ [])) ∙ map-append f
    (items_at xs positions) (items_at xs (e ∷ []))

pub record Filed {A : Type 0} (f : A → File) (xs : List A) (positions : List KeyPosition) (start now : List File) :
    Type 0 where
  pub files : now ≡ start ++ map f (items_at xs positions)
  pub are : AreAll IsFile (map f (items_at xs positions))

pub file-more : {A : Type 0} (f : A → File) (xs : List A) (positions : List KeyPosition) (i : ℕ) (d : KeyPosition) (x : A)
    (start now after : List File) (file : File)
    → i < length positions → slice_get xs (get_or positions i d).position ≡ Some x
    → now ≡ start ++ map f (items_at xs (take i positions)) → AreAll IsFile (map f (items_at xs (take i positions)))
    → after ≡ now ++ file ∷ [] → IsFile file → file ≡ f x → Filed f xs (take (i + 1) positions) start after
file-more {A} f xs positions i d x start now after file lt at was all adds ok is =
    let one : file ∷ [] ≡ files_at f xs (get_or positions i d ∷ []) =
    ap (λ (y : File). y ∷ []) is ∙ sym (ap (λ (o : Option A). map f (cons_option o [])) at) in
    let more : files_at f xs (take (i + 1) positions) ≡ files_at f xs (take i positions) ++ file ∷ [] =
    ap (files_at f xs) (take_more positions i d lt)
    ∙ (files-append f xs (take i positions) (get_or positions i d) ∙ ap
    (λ (l : List File). files_at f xs (take i positions) ++ l) (sym one)) in
    record {
      files = grown (files_at f xs) (λ (e : KeyPosition). files_at f xs (e ∷ [])) (files-append f xs) start positions
          i d (file ∷ []) now after lt was adds one;
      are = subst (AreAll IsFile) (sym more) (are-append IsFile (files_at f xs (take i positions)) (file ∷ [])
          all (ok, tt));
    }

-- The same of a list that is told item by item.
pub record Listed {A : Type 0} (f : A → File) (xs : List A) (start now : List File) : Type 0 where
  pub files : now ≡ start ++ map f xs
  pub are : AreAll IsFile (map f xs)

pub listed-more : {A : Type 0} (f : A → File) (xs more : List A) (x : A) (start now after : List File) (file : File)
    → more ≡ xs ++ x ∷ [] → now ≡ start ++ map f xs → AreAll IsFile (map f xs) → after ≡ now ++ file ∷ []
    → IsFile file → file ≡ f x → Listed f more start after
listed-more {A} f xs more x start now after file is was all adds ok same =
    let whole : map f more ≡ map f xs ++ file ∷ [] =
    ap (map f) is ∙ (map-append f xs (x ∷ []) ∙ ap (λ (y : File). map f xs ++ y ∷ []) (sym same)) in
    record {
      files = adds ∙ (ap (λ (l : List File). l ++ file ∷ []) was
          ∙ (append_assoc start (map f xs) (file ∷ []) ∙ ap (λ (l : List File). start ++ l) (sym whole)));
      are = subst (AreAll IsFile) (sym whole) (are-append IsFile (map f xs) (file ∷ []) all (ok, tt));
    }

-- ---- a draft and its hash

-- What stands for a position past the end.
abbrev pub no_position : KeyPosition
no_position = record { key = record { bytes = [] }; position = 0 }

pub in-both : (drafts : List code.Draft) (hashes : List (List ℕ)) (position : ℕ) → length hashes ≡ length drafts
    → position < length (zip (map draft_of drafts) hashes) → (position < length drafts) × (position < length hashes)
in-both drafts hashes position long lt =
    let views : length (map draft_of drafts) ≡ length drafts = length-map drafts draft_of in
    let both = length-zip (map draft_of drafts) hashes in
    (omega arith, omega arith)

pub both-at : (drafts : List code.Draft) (hashes : List (List ℕ)) (position : ℕ) (draft : code.Draft) (e : List ℕ)
    → length hashes ≡ length drafts → position < length (zip (map draft_of drafts) hashes)
    → draft ≡ get_or drafts position draft
    → slice_get (zip (map draft_of drafts) hashes) position ≡ Some (draft_of draft, get_or hashes position e)
both-at drafts hashes position draft e long lt is =
    let inside = in-both drafts hashes position long lt in
    let views : length (map draft_of drafts) ≡ length drafts = length-map drafts draft_of in
    let low : position < length drafts = inside.0 in
    let view : get_or (map draft_of drafts) position (draft_of draft) ≡ draft_of draft =
    get_or-map draft_of drafts position draft (draft_of draft) low ∙ sym (ap draft_of is) in
    slice_get-get_or (zip (map draft_of drafts) hashes) position (draft_of draft, e) lt
    ∙ ap (λ (x : Draft × List ℕ). Some x)
    (get_or-zip (map draft_of drafts) hashes position (draft_of draft, e) (omega arith) inside.1 ∙ ap
    (λ (x : Draft). (x, get_or hashes position e)) view)

pub hashed-at : (drafts : List code.Draft) (hashes : List (List ℕ)) (position : ℕ) (draft : code.Draft) (hash : List ℕ)
    → length hashes ≡ length drafts → position < length (zip (map draft_of drafts) hashes)
    → draft ≡ get_or drafts position draft → slice_get hashes position ≡ Some hash
    → slice_get (zip (map draft_of drafts) hashes) position ≡ Some (draft_of draft, hash)
hashed-at drafts hashes position draft hash long lt is at =
    both-at drafts hashes position draft hash long lt is
    ∙ ap (λ (h : List ℕ). Some (draft_of draft, h)) (get_or_from_slice_get hashes position hash hash at)

-- ---- by name

sorted-map : (xs : List ListedFile) → IsSortedBy (λ (a b : ListedFile). before (file_view a) (file_view b)) xs
    → IsSortedBy before (map file_view xs)
sorted-map [] h k d low high = absurd (omega arith)
sorted-map (x ∷ xs) h k d low high =
    let long : length (map file_view (x ∷ xs)) ≡ length (x ∷ xs) = length-map (x ∷ xs) file_view in
    let here : get_or (map file_view (x ∷ xs)) k d ≡ file_view (get_or (x ∷ xs) k x) = get_or-map file_view
    (x ∷ xs) k x d (omega arith) in
    let next : get_or (map file_view (x ∷ xs)) (k + 1) d ≡ file_view (get_or (x ∷ xs) (k + 1) x) = get_or-map
    file_view (x ∷ xs) (k + 1) x d (omega arith) in
    ap (λ (f : File). before f (get_or (map file_view (x ∷ xs)) k d)) next
    ∙ (ap (λ (f : File). before (file_view (get_or (x ∷ xs) (k + 1) x)) f) here ∙ h k x (omega arith) (omega arith))

pub files-rise : (files sorted : List ListedFile) → IsDistinct bytes_eq (names_of (map file_view files))
    → IsPermutation files sorted → IsSortedBy (λ (a b : ListedFile). before (file_view a) (file_view b)) sorted
    → rises is_name_below (names_of (map file_view sorted)) ≡ true
files-rise files sorted apart moved up =
    rise-from (map file_view sorted) (sorted-map sorted up)
    (distinct-moved (map file_view files) (map file_view sorted)
    (IsPermutation-map file_view files sorted moved) apart)

-- ---- what holds of the files

are-from : {X : Type 0} (P : X → Type 0) (xs : List X) → All P xs → AreAll P xs
are-from P [] h = tt
are-from P (x ∷ xs) h = (All-head P x xs h, are-from P xs (All-tail P x xs h))

pub are-moved : {X : Type 0} (P : X → Type 0) (xs ys : List X) → IsPermutation xs ys → AreAll P xs → AreAll P ys
are-moved P xs ys moved h = are-from P ys (All-permutation P xs ys moved (all-from P xs h))

pub both-files : (first second : List File) (all : List File) → all ≡ first ++ second → AreAll IsFile first
    → AreAll IsFile second → AreAll IsFile all
both-files first second all is h k = subst (AreAll IsFile) (sym is) (are-append IsFile first second h k)

pub if-ok : {T E : Type 0} (r : Result T E) (P Q : T → Type 0) → ((x : T) → P x → Q x) → IfOk r P → IfOk r Q
if-ok (Ok x) P Q f h = f x h
if-ok (Err e) P Q f h = tt

pub all-at : {X : Type 0} (P : X → Type 0) (xs : List X) (i : ℕ) (x d : X) → All P xs → i < length xs
    → x ≡ get_or xs i d → P x
all-at P xs i x d all lt is = subst P (sym is) (all i d lt)
