-- Each CRL has one list of entries, and each manifest one of files.
use Rattle.std.proofs.Common.{◌≡◌, ℕ, ◌<◌, ◌==◌, nat_lt, inl, inr, Bool, true, false, cond, Some, List, [], ◌∷◌, ◌++◌, map, sym, ap, ◌∙◌, arith}
use Rattle.std.specs.Cmp.{IsStrictWeakOrder}
use Rattle.std.proofs.lemmas.Bool.{and_parts, eq-eqb, ne_eqb, ltb-true}
use Rattle.std.proofs.lemmas.Cmp.{nat_list_cmp_total}
use Rattle.std.proofs.lemmas.List.MinMax.{IsStrictWeakOrder-by_number, ranks_by}
use Rattle.std.proofs.lemmas.List.Sorted.{IsPermutation-sym}
use Rattle.key_roll.specs.declared.rows.RevokedRow.{RevokedRow}
use Rattle.crl_obj.specs.Values.{are_rising, rise_above}
use Rattle.payloads.specs.Order.{rises, rises_above}
use Rattle.payloads.specs.ManifestFormats.{is_name_below}
use Rattle.issue_values.specs.Bodies.{crl_entry}
use Rattle.issue_drafts.specs.Drafts.{Draft, AreOrdered}
use Rattle.issue_drafts.specs.Firsts.{row_at, AreFirsts}
use Rattle.issue_drafts.specs.Files.{names_of, AreMerged}
use Rattle.issue_make.proofs.OneOrder.{In, Up, Steps, below-in, up-steps, unique, in-moved, rise-moved}

-- ---- drafts

pub ordered-same : (drafts xs ys : List Draft) → AreOrdered drafts xs → AreOrdered drafts ys → xs ≡ ys
ordered-same drafts xs ys a b =
    rise-moved (λ (d : Draft). d.uri) drafts xs ys a.permutation b.permutation a.rising b.rising

-- ---- entries

abbrev lower : RevokedRow → RevokedRow → Bool
lower a b = nat_lt a.serial b.serial

by-serial : IsStrictWeakOrder lower
by-serial = IsStrictWeakOrder-by_number (λ (r : RevokedRow). r.serial)

entry-steps : (x : RevokedRow) (xs : List RevokedRow) → rise_above x.serial (map crl_entry xs) ≡ true → Steps lower x xs
entry-steps x [] e = tt
entry-steps x (y ∷ ys) e =
    let both = and_parts (nat_lt x.serial y.serial) (rise_above y.serial (map crl_entry ys)) e in
    (both.0, entry-steps y ys both.1)

entries-up : (xs : List RevokedRow) → are_rising (map crl_entry xs) ≡ true → Up lower xs
entries-up [] e = tt
entries-up (x ∷ xs) e = up-steps lower by-serial x xs (entry-steps x xs e)

some-same : (a b : RevokedRow) → Some a ≡ Some b → a ≡ b
some-same a b e = cc

at-in : (xs : List RevokedRow) (n : ℕ) (z : RevokedRow) → row_at xs n ≡ Some z → In z xs
at-in [] n z e = absurd cc
at-in (x ∷ xs) n z e = by (x.serial == n) e (at-in xs n z)
  where
    by : (b : Bool) → cond b (Some x) (row_at xs n) ≡ Some z → (row_at xs n ≡ Some z → In z xs) → In z (x ∷ xs)
    by true k more = inl (sym (some-same x z k))
    by false k more = inr (more k)

in-at : (xs : List RevokedRow) (z : RevokedRow) → Up lower xs → In z xs → row_at xs z.serial ≡ Some z
in-at [] z u h = absurd h
in-at (x ∷ xs) z u (inl e) =
    let here : (x.serial == z.serial) ≡ true = eq-eqb x.serial z.serial (sym (ap (λ (r : RevokedRow). r.serial) e)) in
    ap (λ (b : Bool). cond b (Some x) (row_at xs z.serial)) here ∙ ap (λ (r : RevokedRow). Some r) (sym e)
in-at (x ∷ xs) z u (inr h) =
    let low : x.serial < z.serial = ltb-true x.serial z.serial (below-in lower x z xs u.0 h) in
    let other : (x.serial == z.serial) ≡ false = ne_eqb x.serial z.serial (λ e. omega arith) in
    ap (λ (b : Bool). cond b (Some x) (row_at xs z.serial)) other ∙ in-at xs z u.1 h

first-in : (rows a b : List RevokedRow) → AreFirsts rows a → AreFirsts rows b → (z : RevokedRow) → In z a → In z b
first-in rows a b first second z h =
    at-in b z.serial z (second.each z.serial ∙ (sym (first.each z.serial) ∙ in-at a z (entries-up a first.rising) h))

pub entries-same : (rows a b : List RevokedRow) → AreFirsts rows a → AreFirsts rows b → a ≡ b
entries-same rows a b first second =
    unique lower by-serial a b (entries-up a first.rising) (entries-up b second.rising)
    (first-in rows a b first second) (first-in rows b a second first)

-- ---- files

abbrev File : Type 0
File = List ℕ × List ℕ

abbrev before : File → File → Bool
before a b = is_name_below a.0 b.0

by-name : IsStrictWeakOrder before
by-name = ranks_by nat_list_cmp_total (λ (f : File). f.0)

file-steps : (x : File) (xs : List File) → rises_above is_name_below x.0 (names_of xs) ≡ true → Steps before x xs
file-steps x [] e = tt
file-steps x (y ∷ ys) e =
    let both = and_parts (is_name_below x.0 y.0) (rises_above is_name_below y.0 (names_of ys)) e in
    (both.0, file-steps y ys both.1)

files-up : (files : List File) → rises is_name_below (names_of files) ≡ true → Up before files
files-up [] e = tt
files-up (x ∷ xs) e = up-steps before by-name x xs (file-steps x xs e)

pub files-same : (kept made a b : List File) → AreMerged kept made a → AreMerged kept made b → a ≡ b
files-same kept made a b first second =
    let all = kept ++ made in
    unique before by-name a b (files-up a first.rising) (files-up b second.rising)
    (λ z h. in-moved all b z second.permutation (in-moved a all z (IsPermutation-sym all a first.permutation) h))
    (λ z h. in-moved all a z first.permutation (in-moved b all z (IsPermutation-sym all b second.permutation) h))
