-- Lists of editions that were shown.
use Rattle.std.proofs.Common.{◌≡◌, ◌≢◌, ◌⊎◌, inl, inr, ⊎_elim, ℕ, ◌<◌, ◌≤◌, Bool, true, false, ◌&&◌, nat_lt, List, [], ◌∷◌, ◌++◌, Some, take, length, refl, ap, sym, ◌∙◌, subst, arith, le_refl, zero-le, append_assoc}
use Rattle.std.proofs.lemmas.List.{append-nil}
use Rattle.std.proofs.lemmas.Bool.Decides.{nat_tests}
use mathlib.Core.List.{IsPrefix}
use Rattle.std.specs.Prelude.{map, MatchBool}
use Rattle.notice_board.specs.declared.sheets.Sheet.{Sheet}
use Rattle.notice_board.specs.declared.shown.ShownEdition.{ShownEdition}
use Rattle.notice_board.specs.declared.lists.Entry.{Entry}
use Rattle.notice_board.specs.declared.lists.Known.{Known}
use Rattle.notice_board.specs.inner.Known.{coming, editions_of}
use Rattle.notice_board.specs.Lists.{serial_after, last_serial, last_after, last_sheet, rises_from, rises}

pub prefix_self : {A : Type 0} (xs : List A) → IsPrefix xs xs
prefix_self xs = ([], append-nil xs)

pub prefix_trans : {A : Type 0} (xs ys zs : List A) → IsPrefix xs ys → IsPrefix ys zs → IsPrefix xs zs
prefix_trans xs ys zs p q = (p.0 ++ q.0, sym (append_assoc xs p.0 q.0) ∙ (ap (λ w. w ++ q.0) p.1 ∙ q.1))

both_true : (a b : Bool) → (a && b) ≡ true → (a ≡ true) × (b ≡ true)
both_true true b h = (refl, h)
both_true false b h = absurd cc

below : (n m : ℕ) → nat_lt n m ≡ true → n < m
below n m h = grind (arith, nat_tests)

is_below : (n m : ℕ) → n < m → nat_lt n m ≡ true
is_below n m h = grind (arith, nat_tests)

serial_after_snoc : (n : ℕ) (xs : List ShownEdition) (x : ShownEdition) → serial_after n (xs ++ x ∷ []) ≡ x.sheet.serial
serial_after_snoc n [] x = refl
serial_after_snoc n (y ∷ ys) x = serial_after_snoc y.sheet.serial ys x

pub serial_snoc : (xs : List ShownEdition) (x : ShownEdition) → last_serial (xs ++ x ∷ []) ≡ x.sheet.serial
serial_snoc xs x = serial_after_snoc 0 xs x

last_after_snoc : (y : ShownEdition) (xs : List ShownEdition) (x : ShownEdition) → last_after y (xs ++ x ∷ []) ≡ x
last_after_snoc y [] x = refl
last_after_snoc y (z ∷ zs) x = last_after_snoc z zs x

pub last_snoc : (xs : List ShownEdition) (x : ShownEdition) → last_sheet (xs ++ x ∷ []) ≡ Some x.sheet
last_snoc [] x = refl
last_snoc (y ∷ ys) x = ap (λ (z : ShownEdition). Some z.sheet) (last_after_snoc y ys x)

rises_from_snoc : (n : ℕ) (xs : List ShownEdition) (x : ShownEdition) → rises_from n xs ≡ true → serial_after n xs < x.sheet.serial → rises_from n (xs ++ x ∷ []) ≡ true
rises_from_snoc n [] x h up = ap (λ b. b && true) (is_below n x.sheet.serial up)
rises_from_snoc n (y ∷ ys) x h up =
    let p = both_true (nat_lt n y.sheet.serial) (rises_from y.sheet.serial ys) h in
    ap (λ b. b && rises_from y.sheet.serial (ys ++ x ∷ [])) p.0 ∙ rises_from_snoc y.sheet.serial ys x p.1 up

-- one sheet more, with a greater serial
pub rises_snoc : (xs : List ShownEdition) (x : ShownEdition) → rises xs ≡ true → last_serial xs < x.sheet.serial → rises (xs ++ x ∷ []) ≡ true
rises_snoc [] x h up = refl
rises_snoc (y ∷ ys) x h up = rises_from_snoc y.sheet.serial ys x h up

serial_of_after : (y : ShownEdition) (ys : List ShownEdition) → serial_after y.sheet.serial ys ≡ (last_after y ys).sheet.serial
serial_of_after y [] = refl
serial_of_after y (z ∷ zs) = serial_of_after z zs

pub serial_of_last : (xs : List ShownEdition) (x : Sheet) → last_sheet xs ≡ Some x → last_serial xs ≡ x.serial
serial_of_last [] x h = absurd cc
serial_of_last (y ∷ ys) x h = let same : (last_after y ys).sheet ≡ x = cc h in serial_of_after y ys ∙ ap (λ (s : Sheet). s.serial) same

up_to_end : (n : ℕ) (ys : List ShownEdition) → rises_from n ys ≡ true → n ≤ serial_after n ys
up_to_end n [] h = le_refl n
up_to_end n (y ∷ ys) h =
    let p = both_true (nat_lt n y.sheet.serial) (rises_from y.sheet.serial ys) h in
    let a = below n y.sheet.serial p.0 in
    let b = up_to_end y.sheet.serial ys p.1 in
    omega arith

grows_from : (n : ℕ) (xs rest : List ShownEdition) → rises_from n (xs ++ rest) ≡ true → serial_after n xs ≤ serial_after n (xs ++ rest)
grows_from n [] rest h = up_to_end n rest h
grows_from n (x ∷ xs) rest h = grows_from x.sheet.serial xs rest (both_true (nat_lt n x.sheet.serial) (rises_from x.sheet.serial (xs ++ rest)) h).1

grows_by : (xs rest : List ShownEdition) → rises (xs ++ rest) ≡ true → last_serial xs ≤ last_serial (xs ++ rest)
grows_by [] rest h = zero-le
grows_by (x ∷ xs) rest h = grows_from x.sheet.serial xs rest h

-- the serial of a list that rises isn't below that of a prefix
pub serial_grows : (xs ys : List ShownEdition) → IsPrefix xs ys → rises ys ≡ true → last_serial xs ≤ last_serial ys
serial_grows xs ys p h = subst (λ zs. last_serial xs ≤ last_serial zs) p.1 (grows_by xs p.0 (ap rises p.1 ∙ h))

-- what is ready last comes next
pub coming_snoc : (shown : Known) (pending : List Known) (next : Known) → coming shown (pending ++ next ∷ []) ≡ next
coming_snoc shown [] next = refl
coming_snoc shown (x ∷ xs) next = coming_snoc x xs next

-- of two prefixes of one list the one is a prefix of the other
pub either_prefix : {A : Type 0} (xs ys zs : List A) → IsPrefix xs zs → IsPrefix ys zs → IsPrefix xs ys ⊎ IsPrefix ys xs
either_prefix [] ys zs p q = inl (ys, refl)
either_prefix (x ∷ xs) [] zs p q = inr (x ∷ xs, refl)
either_prefix (x ∷ xs) (y ∷ ys) [] p q = absurd (cc (p.1))
either_prefix (x ∷ xs) (y ∷ ys) (z ∷ zs) p q =
    let heads : x ≡ y = cc (p.1, q.1) in
    ⊎_elim
    (λ (r : IsPrefix xs ys). inl (r.0, cc (heads, r.1)))
    (λ (r : IsPrefix ys xs). inr (r.0, cc (heads, r.1)))
    (either_prefix xs ys zs (p.0, cc (p.1)) (q.0, cc (q.1)))

above_start : (n : ℕ) (y : ShownEdition) (ys : List ShownEdition) → rises_from n (y ∷ ys) ≡ true → n < serial_after y.sheet.serial ys
above_start n y ys h =
    let p = both_true (nat_lt n y.sheet.serial) (rises_from y.sheet.serial ys) h in
    let a = below n y.sheet.serial p.0 in
    let b = up_to_end y.sheet.serial ys p.1 in
    omega arith

nothing_more : (n : ℕ) (xs rest : List ShownEdition) → rises_from n (xs ++ rest) ≡ true → serial_after n xs ≡ serial_after n (xs ++ rest) → rest ≡ []
nothing_more n [] [] h same = refl
nothing_more n [] (y ∷ ys) h same = let above = above_start n y ys h in absurd (omega arith)
nothing_more n (x ∷ xs) rest h same = nothing_more x.sheet.serial xs rest (both_true (nat_lt n x.sheet.serial) (rises_from x.sheet.serial (xs ++ rest)) h).1 same

whole : (xs rest : List ShownEdition) → rises (xs ++ rest) ≡ true → xs ≢ [] → last_serial xs ≡ last_serial (xs ++ rest) → xs ≡ xs ++ rest
whole [] rest h some same = absurd (some refl)
whole (x ∷ xs) rest h some same = sym (ap (λ ys. x ∷ (xs ++ ys)) (nothing_more x.sheet.serial xs rest h same) ∙ append-nil (x ∷ xs))

-- of lists that rise, a prefix which ends with the same serial is the whole list
pub same_serial : (xs ys : List ShownEdition) → IsPrefix xs ys → rises ys ≡ true → xs ≢ [] → last_serial xs ≡ last_serial ys → xs ≡ ys
same_serial xs ys p h some same = whole xs p.0 (ap rises p.1 ∙ h) some (same ∙ sym (ap last_serial p.1)) ∙ p.1

-- the one list isn't shown before the other where its last serial isn't below
pub is_later : (xs ys zs : List ShownEdition) → IsPrefix xs zs → IsPrefix ys zs → xs ≢ [] → rises ys ≡ true → last_serial ys ≤ last_serial xs → IsPrefix ys xs
is_later xs ys zs p q some up less =
    ⊎_elim
    (λ (r : IsPrefix xs ys).
    let above = serial_grows xs ys r up in
    let same : xs ≡ ys = same_serial xs ys r up some (omega arith) in
    subst (λ ws. IsPrefix ys ws) (sym same) (prefix_self ys))
    (λ (r : IsPrefix ys xs). r)
    (either_prefix xs ys zs p q)

pub is_before : (xs ys zs : List ShownEdition) → IsPrefix xs zs → IsPrefix ys zs → rises xs ≡ true → last_serial xs < last_serial ys → IsPrefix xs ys
is_before xs ys zs p q up less =
    ⊎_elim
    (λ (r : IsPrefix xs ys). r)
    (λ (r : IsPrefix ys xs). let above = serial_grows ys xs r up in absurd (omega arith))
    (either_prefix xs ys zs p q)

pub editions_push : (log : List Entry) (e : Entry) → editions_of (log ++ e ∷ []) ≡ editions_of log ++ e.edition ∷ []
editions_push [] e = refl
editions_push (x ∷ xs) e = ap (λ l. x.edition ∷ l) (editions_push xs e)

editions_more : (xs ys : List Entry) → editions_of (xs ++ ys) ≡ editions_of xs ++ editions_of ys
editions_more [] ys = refl
editions_more (x ∷ xs) ys = ap (λ l. x.edition ∷ l) (editions_more xs ys)

pub editions_grow : (xs ys : List Entry) → IsPrefix xs ys → IsPrefix (editions_of xs) (editions_of ys)
editions_grow xs ys p = (editions_of p.0, sym (editions_more xs p.0) ∙ ap editions_of p.1)

some_last : (xs : List ShownEdition) (x : Sheet) → last_sheet xs ≡ Some x → xs ≢ []
some_last [] x h is = absurd (cc h)
some_last (y ∷ ys) x h is = absurd (cc is)

not_below : (n m : ℕ) → nat_lt n m ≡ false → m ≤ n
not_below n m h = grind (arith, nat_tests)

compared : (xs ys zs : List ShownEdition) (b : Bool) → nat_lt (last_serial xs) (last_serial ys) ≡ b → IsPrefix xs zs → IsPrefix ys zs → xs ≢ [] → rises xs ≡ true → rises ys ≡ true
    → MatchBool b (IsPrefix xs ys) (IsPrefix ys xs)
compared xs ys zs true is p q some up more = is_before xs ys zs p q up (below (last_serial xs) (last_serial ys) is)
compared xs ys zs false is p q some up more = is_later xs ys zs p q some more (not_below (last_serial xs) (last_serial ys) is)

-- of two that know prefixes of one list the one whose last serial is greater knows more
pub before_or_later : (xs ys zs : List Entry) (x y : Sheet) → IsPrefix xs zs → IsPrefix ys zs → last_sheet (editions_of xs) ≡ Some x → last_sheet (editions_of ys) ≡ Some y
    → rises (editions_of xs) ≡ true → rises (editions_of ys) ≡ true
    → MatchBool (nat_lt x.serial y.serial) (IsPrefix (editions_of xs) (editions_of ys)) (IsPrefix (editions_of ys) (editions_of xs))
before_or_later xs ys zs x y p q one other up more =
    let a : List ShownEdition = editions_of xs in
    let b : List ShownEdition = editions_of ys in
    subst (λ (n : ℕ). MatchBool (nat_lt n y.serial) (IsPrefix a b) (IsPrefix b a)) (serial_of_last a x one)
    (subst (λ (m : ℕ). MatchBool (nat_lt (last_serial a) m) (IsPrefix a b) (IsPrefix b a)) (serial_of_last b y other)
    (compared a b (editions_of zs) (nat_lt (last_serial a) (last_serial b)) refl (editions_grow xs zs p) (editions_grow ys zs q) (some_last a x one) up more))
