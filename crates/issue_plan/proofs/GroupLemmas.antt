-- What is between two files of a folder is in it, too; and which name a file's URI tells.
use Rattle.std.proofs.Common.{◌≡◌, ℕ, ◌+◌, ◌<◌, ◌≤◌, ◌⊎◌, inl, inr, suc, List, [], ◌∷◌, ◌++◌, length, get_or, take, drop, true, append_assoc, Some, refl, sym, ap, subst, ◌∙◌, arith}
use Rattle.std.specs.Prelude.{codes, nat_eq, slice_get}
use Rattle.std.specs.List.{All}
use Rattle.std.specs.Cmp.Lexicographic.{pointwise, same_text}
use Rattle.std.specs.Ordering.{nat_cmp, on, ordering_then, ordering_reverse}
use Rattle.std.specs.FinMap.{nat_cmp-IsAntisymmetric}
use Rattle.std.specs.declared.cmp.Ordering.{Ordering}
use Rattle.std.specs.declared.cmp.Ordering.TheVariants.{Less, Equal, Greater}
use Rattle.std.proofs.lemmas.Cmp.{nat_cmp_total}
use Rattle.std.proofs.lemmas.Bool.{cases_lt}
use Rattle.std.proofs.lemmas.Bool.Decides.{nat_tests}
use Rattle.std.proofs.lemmas.List.{get_or_default, take-append-drop}
use Rattle.std.proofs.lemmas.Map.Keys.{Less-from_sorted}
use Rattle.names.specs.Name.{IsName, is_name_byte}
use Rattle.authority_book.specs.declared.rows.NameRow.{NameRow}
use Rattle.key_ids.specs.Uris.{Bases, folder_of, file_uri}
use Rattle.key_roll.specs.declared.issued.IssuedRow.{IssuedRow}
use Rattle.pub_set.specs.Objects.{uri_cmp, Rise}
use Rattle.issue_plan.specs.declared.anew.Standing.{Standing}
use Rattle.issue_plan.specs.inner.Groups.{AreInFolder, IsGroup}

-- ---- between two texts with one front

-- A byte between two that are equal is the same.
step : (c y : ℕ) (one other : Ordering) → ordering_then (nat_cmp c y) one ≡ Less → ordering_then (nat_cmp y c) other ≡ Less
    → (nat_cmp c y ≡ Equal) × (one ≡ Less) × (other ≡ Less)
step c y one other = by (nat_cmp c y) (nat_cmp y c) (nat_cmp_total.antisymm c y)
  where
    by : (a b : Ordering) → a ≡ ordering_reverse b → ordering_then a one ≡ Less → ordering_then b other ≡ Less
        → (a ≡ Equal) × (one ≡ Less) × (other ≡ Less)
    by Equal Equal e f s = (refl, f, s)
    by Equal Less e f s = absurd cc
    by Equal Greater e f s = absurd cc
    by Less Less e f s = absurd cc
    by Less Equal e f s = absurd cc
    by Less Greater e f s = absurd cc
    by Greater b e f s = absurd cc

pub between : (front a b x : List ℕ) → uri_cmp (front ++ a) x ≡ Less → uri_cmp x (front ++ b) ≡ Less
    → (rest : List ℕ) × (x ≡ front ++ rest)
between [] a b x low high = (x, refl)
between (c ∷ front) a b [] low high = absurd cc
between (c ∷ front) a b (y ∷ x) low high =
    let here = step c y (uri_cmp (front ++ a) x) (uri_cmp x (front ++ b)) low high in
    let same : c ≡ y = nat_cmp-IsAntisymmetric c y here.0 in
    let more = between front a b x here.1 here.2 in
    let tail = more.1 in
    (more.0, cc)

-- Rows between two of a folder.
pub all-between : (issued : List IssuedRow) (folder : List ℕ) (first last : ℕ) (low high : IssuedRow)
    → Rise (λ row. row.uri) issued → last < length issued → first ≤ last
    → low ≡ get_or issued first low → high ≡ get_or issued last high
    → (rest : List ℕ) × (low.uri ≡ folder ++ rest) → (rest : List ℕ) × (high.uri ≡ folder ++ rest)
    → (k : ℕ) (d : IssuedRow) → first ≤ k → k < last + 1 → (rest : List ℕ) × ((get_or issued k d).uri ≡ folder ++ rest)
all-between issued folder first last low high up inside order is-low is-high start end k d after before =
    by (cases_lt first k) (cases_lt k last)
  where
    at : (i : ℕ) → i < length issued → get_or issued i low ≡ get_or issued i d
    at i within = get_or_default issued i low d within

    less : (i j : ℕ) → i < j → j < length issued → uri_cmp (get_or issued i d).uri (get_or issued j d).uri ≡ Less
    less i j below within = Less-from_sorted (on (λ (r : IssuedRow). r.uri) uri_cmp) issued i j d up below within

    low-is : low ≡ get_or issued first d
    low-is = is-low ∙ get_or_default issued first low d (omega (arith, inside, order))

    high-is : high ≡ get_or issued last d
    high-is = is-high ∙ get_or_default issued last high d inside

    by : (first < k) ⊎ (k ≤ first) → (k < last) ⊎ (last ≤ k) → (rest : List ℕ) × ((get_or issued k d).uri ≡ folder ++ rest)
    by (inr one) other =
        let same : first ≡ k = omega (arith, one, after) in
        (start.0, ap (λ (r : IssuedRow). r.uri) (ap (λ n. get_or issued n d) (sym same) ∙ sym low-is) ∙ start.1)
    by (inl one) (inr other) =
        let same : last ≡ k = omega (arith, other, before) in
        (end.0, ap (λ (r : IssuedRow). r.uri) (ap (λ n. get_or issued n d) (sym same) ∙ sym high-is) ∙ end.1)
    by (inl one) (inl other) =
        between folder start.0 end.0 (get_or issued k d).uri
        (subst (λ (u : List ℕ). uri_cmp u (get_or issued k d).uri ≡ Less)
        (ap (λ (r : IssuedRow). r.uri) (sym low-is) ∙ start.1) (less first k one (omega (arith, other, inside))))
        (subst (λ (u : List ℕ). uri_cmp (get_or issued k d).uri u ≡ Less)
        (ap (λ (r : IssuedRow). r.uri) (sym high-is) ∙ end.1) (less k last other inside))

-- What begins with the folder's text.
pub front-of : (uri folder whole front : List ℕ) → whole ≡ uri → front ≡ folder
    → pointwise nat_eq (take (length front) whole) front ≡ true → (rest : List ℕ) × (uri ≡ folder ++ rest)
front-of uri folder whole front is-uri is-folder same = (
  drop (length front) whole,
  sym is-uri ∙ (sym (take-append-drop (length front) whole)
      ∙ ap (λ (l : List ℕ). l ++ drop (length front) whole)
      (same_text (take (length front) whole) front (sym same) ∙ is-folder)),
)

-- Rows in the folder of a desk's name.
pub group-files : (s : Standing) (desk : ℕ) (row : NameRow) (folder : List ℕ) (first end : ℕ)
    → slice_get s.names.now desk ≡ Some row → IsName row.name → folder ≡ folder_of s.site.now row.name
    → AreInFolder s.issued.now folder first end → IsGroup s desk first end
group-files s desk row folder first end at named is are = record {
  within = are.within;
  each = λ k d after before.
      let file = are.each k d after before in
      record {
        row = row;
        at = at;
        named = named;
        rest = file.0;
        is = file.1 ∙ ap (λ (l : List ℕ). l ++ file.0) is;
      };
}

-- ---- the name that a file's URI tells

-- No slash (47).
abbrev IsFlat : List ℕ → Type 0
IsFlat bytes = All (λ b. b ≡ 47 → ⊥) bytes

name-flat : (c : ℕ) → is_name_byte c ≡ true → c ≡ 47 → ⊥
name-flat c is = grind (arith, nat_tests)

flat-name : (name : List ℕ) → IsName name → IsFlat name
flat-name name is = λ k d lt. name-flat (get_or name k d) (is.plain k d lt)

rest-flat : (x : ℕ) (xs : List ℕ) → IsFlat (x ∷ xs) → IsFlat xs
rest-flat x xs flat = λ k d lt. flat (suc k) d (omega arith)

-- A list is split once by the first slash.
split-once : (a b f g : List ℕ) → IsFlat a → IsFlat b → a ++ 47 ∷ f ≡ b ++ 47 ∷ g → a ≡ b
split-once [] [] f g flat other e = refl
split-once [] (y ∷ b) f g flat other e = let same : y ≡ 47 = cc in absurd (other 0 y (omega arith) same)
split-once (x ∷ a) [] f g flat other e = let same : x ≡ 47 = cc in absurd (flat 0 x (omega arith) same)
split-once (x ∷ a) (y ∷ b) f g flat other e =
    let first : x ≡ y = cc in
    let rest : a ++ 47 ∷ f ≡ b ++ 47 ∷ g = cc in
    let same : a ≡ b = split-once a b f g (rest-flat x a flat) (rest-flat y b other) rest in
    cc

front-once : (front a b : List ℕ) → front ++ a ≡ front ++ b → a ≡ b
front-once [] a b e = e
front-once (x ∷ front) a b e = let rest : front ++ a ≡ front ++ b = cc in front-once front a b rest

spelled : (site : Bases) (name file : List ℕ) → file_uri site name file ≡ site.rsync ++ (name ++ 47 ∷ 48 ∷ 47 ∷ file)
spelled site name file =
    append_assoc (site.rsync ++ name) (codes "/0/") file ∙ append_assoc site.rsync name (codes "/0/" ++ file)

-- A file's URI tells the name of its folder.
pub name-once : (site : Bases) (a b f g : List ℕ) → IsName a → IsName b → file_uri site a f ≡ file_uri site b g → a ≡ b
name-once site a b f g is other e =
    split-once a b (48 ∷ 47 ∷ f) (48 ∷ 47 ∷ g) (flat-name a is) (flat-name b other)
    (front-once site.rsync (a ++ 47 ∷ 48 ∷ 47 ∷ f) (b ++ 47 ∷ 48 ∷ 47 ∷ g) (sym (spelled site a f) ∙ (e ∙ spelled site b g)))
