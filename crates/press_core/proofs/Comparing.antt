-- What loops over rows and points have come to.
use Rattle.std.proofs.Common.{◌≡◌, ◌≢◌, ℕ, ◌+◌, ◌<◌, ◌≤◌, ◌||◌, Bool, true, false, cond, List, [], ◌∷◌, map, length, get_or, drop, Option, None, Some, refl, sym, ap, ap₂, ◌∙◌, ne_eqb, eq-eqb}
use Rattle.std.specs.List.{list_any, fold}
use Rattle.std.specs.Prelude.{max}
use Rattle.std.proofs.lemmas.List.{drop_more, drop_all}
use Rattle.key_roll.specs.declared.rows.RevokedRow.{RevokedRow}
use Rattle.crl_obj.specs.declared.values.CrlEntry.{CrlEntry}
use Rattle.press_core.specs.Agreement.{first_other, or_else, first_told}

-- ---- what is left of a list

left : {X : Type 0} (xs : List X) (i : ℕ) (x : X) → i < length xs → x ≡ get_or xs i x → drop i xs ≡ x ∷ drop (i + 1) xs
left xs i x less is = drop_more xs i x less ∙ ap (λ y. y ∷ drop (i + 1) xs) (sym is)

-- ---- the first that is told

pub told-step : {X Y : Type 0} (told : X → Option Y) (xs : List X) (i : ℕ) (x : X) → i < length xs → x ≡ get_or xs i x → told x ≡ None
    → first_told told (drop i xs) ≡ first_told told (drop (i + 1) xs)
told-step told xs i x less is none = ap (first_told told) (left xs i x less is) ∙ ap (λ o. or_else o (first_told told (drop (i + 1) xs))) none

pub told-found : {X Y : Type 0} (told : X → Option Y) (xs : List X) (i : ℕ) (x : X) (y : Y) → i < length xs → x ≡ get_or xs i x → told x ≡ Some y
    → first_told told (drop i xs) ≡ Some y
told-found told xs i x y less is some = ap (first_told told) (left xs i x less is) ∙ ap (λ o. or_else o (first_told told (drop (i + 1) xs))) some

pub told-end : {X Y : Type 0} (told : X → Option Y) (xs : List X) (i : ℕ) → length xs ≤ i → first_told told (drop i xs) ≡ None
told-end told xs i past = ap (first_told told) (drop_all i xs past)

pub told-map : {X V Y : Type 0} (told : V → Option Y) (view : X → V) (xs : List X) → first_told told (map view xs) ≡ first_told (λ x. told (view x)) xs
told-map told view [] = refl
told-map told view (x ∷ xs) = ap (or_else (told (view x))) (told-map told view xs)

-- ---- whether one passes

pub any-step : {X : Type 0} (p : X → Bool) (xs : List X) (i : ℕ) (x : X) → i < length xs → x ≡ get_or xs i x → p x ≡ false
    → list_any p (drop i xs) ≡ list_any p (drop (i + 1) xs)
any-step p xs i x less is none = ap (list_any p) (left xs i x less is) ∙ ap (λ b. b || list_any p (drop (i + 1) xs)) none

pub any-found : {X : Type 0} (p : X → Bool) (xs : List X) (i : ℕ) (x : X) → i < length xs → x ≡ get_or xs i x → p x ≡ true
    → list_any p (drop i xs) ≡ true
any-found p xs i x less is some = ap (list_any p) (left xs i x less is) ∙ ap (λ b. b || list_any p (drop (i + 1) xs)) some

pub any-end : {X : Type 0} (p : X → Bool) (xs : List X) (i : ℕ) → length xs ≤ i → list_any p (drop i xs) ≡ false
any-end p xs i past = ap (list_any p) (drop_all i xs past)

pub any-map : {X V : Type 0} (p : V → Bool) (view : X → V) (xs : List X) → list_any p (map view xs) ≡ list_any (λ x. p (view x)) xs
any-map p view [] = refl
any-map p view (x ∷ xs) = ap (λ b. p (view x) || b) (any-map p view xs)

-- ---- serials side by side

both-left : (rows : List RevokedRow) (entries : List CrlEntry) (i : ℕ) (row : RevokedRow) (entry : CrlEntry)
    → i < length rows → row ≡ get_or rows i row → i < length entries → entry ≡ get_or entries i entry
    → first_other (drop i rows) (drop i entries) ≡ first_other (row ∷ drop (i + 1) rows) (entry ∷ drop (i + 1) entries)
both-left rows entries i row entry less is fewer at = ap₂ first_other (left rows i row less is) (left entries i entry fewer at)

pub other-step : (rows : List RevokedRow) (entries : List CrlEntry) (i : ℕ) (row : RevokedRow) (entry : CrlEntry)
    → i < length rows → row ≡ get_or rows i row → i < length entries → entry ≡ get_or entries i entry → row.serial ≡ entry.serial
    → first_other (drop i rows) (drop i entries) ≡ first_other (drop (i + 1) rows) (drop (i + 1) entries)
other-step rows entries i row entry less is fewer at same =
    both-left rows entries i row entry less is fewer at
    ∙ ap (λ b. cond b (first_other (drop (i + 1) rows) (drop (i + 1) entries)) (Some (row.serial, entry.serial))) (eq-eqb row.serial entry.serial same)

pub other-found : (rows : List RevokedRow) (entries : List CrlEntry) (i : ℕ) (row : RevokedRow) (entry : CrlEntry)
    → i < length rows → row ≡ get_or rows i row → i < length entries → entry ≡ get_or entries i entry → row.serial ≢ entry.serial
    → first_other (drop i rows) (drop i entries) ≡ Some (row.serial, entry.serial)
other-found rows entries i row entry less is fewer at apart =
    both-left rows entries i row entry less is fewer at
    ∙ ap (λ b. cond b (first_other (drop (i + 1) rows) (drop (i + 1) entries)) (Some (row.serial, entry.serial))) (ne_eqb row.serial entry.serial apart)

pub other-row : (rows : List RevokedRow) (entries : List CrlEntry) (i : ℕ) (row : RevokedRow) → i < length rows → row ≡ get_or rows i row → length entries ≤ i
    → first_other (drop i rows) (drop i entries) ≡ Some (row.serial, 0)
other-row rows entries i row less is past = ap₂ first_other (left rows i row less is) (drop_all i entries past)

pub other-entry : (rows : List RevokedRow) (entries : List CrlEntry) (i : ℕ) (entry : CrlEntry) → length rows ≤ i → i < length entries → entry ≡ get_or entries i entry
    → first_other (drop i rows) (drop i entries) ≡ Some (0, entry.serial)
other-entry rows entries i entry past fewer at = ap₂ first_other (drop_all i rows past) (left entries i entry fewer at)

pub other-end : (rows : List RevokedRow) (entries : List CrlEntry) (i : ℕ) → length rows ≤ i → length entries ≤ i
    → first_other (drop i rows) (drop i entries) ≡ None
other-end rows entries i past more = ap₂ first_other (drop_all i rows past) (drop_all i entries more)

-- ---- the greatest serial

abbrev pub serials_from : List CrlEntry → ℕ → List ℕ
serials_from entries i = map (λ (e : CrlEntry). e.serial) (drop i entries)

pub greatest-step : (entries : List CrlEntry) (i greatest : ℕ) (entry : CrlEntry) → i < length entries
    → fold max greatest (serials_from entries i) ≡ fold max (max greatest (get_or entries i entry).serial) (serials_from entries (i + 1))
greatest-step entries i greatest entry less = ap (λ (l : List CrlEntry). fold max greatest (map (λ (e : CrlEntry). e.serial) l)) (drop_more entries i entry less)

pub greatest-end : (entries : List CrlEntry) (i greatest : ℕ) → length entries ≤ i → fold max greatest (serials_from entries i) ≡ greatest
greatest-end entries i greatest past = ap (λ (l : List CrlEntry). fold max greatest (map (λ (e : CrlEntry). e.serial) l)) (drop_all i entries past)
