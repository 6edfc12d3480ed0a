-- Entries that the making of an edition gives to a CRL.
use Rattle.std.proofs.Common.{◌≡◌, ℕ, ◌<◌, ◌==◌, Bool, true, cond, Some, List, [], ◌∷◌, map, refl, sym, ap, subst, ◌∙◌, arith, inl, inr}
use Rattle.std.proofs.lemmas.Bool.{eq-eqb, ne_eqb}
use Rattle.key_roll.specs.declared.rows.RevokedRow.{RevokedRow}
use Rattle.crl_obj.specs.Values.{are_rising, rise_above}
use Rattle.der.specs.Forms.{AreAll}
use Rattle.issue_values.specs.Bodies.{crl_entry}
use Rattle.issue_drafts.specs.Firsts.{row_at, AreFirsts}
use Rattle.items.specs.laws.AmongLaws.{In, found-in}
use Rattle.editions.proofs.ObjectLemmas.Firsts.{rise-parts, rises-behind}

-- ---- each of them

pub all-at : {X : Type 0} (P : X → Type 0) (xs : List X) (x : X) → AreAll P xs → In x xs → P x
all-at P [] x all at = absurd at
all-at P (y ∷ xs) x all (inl same) = subst P same all.0
all-at P (y ∷ xs) x all (inr at) = all-at P xs x all.1 at

pub all-of : {X : Type 0} (P : X → Type 0) (xs : List X) → ((x : X) → In x xs → P x) → AreAll P xs
all-of P [] holds = tt
all-of P (x ∷ xs) holds = (holds x (inl refl), all-of P xs (λ y at. holds y (inr at)))

-- ---- the first of each serial

above : (n : ℕ) (xs : List RevokedRow) (x : RevokedRow) → rise_above n (map crl_entry xs) ≡ true → In x xs → n < x.serial
above n [] x up at = absurd at
above n (y ∷ xs) x up (inl same) = subst (λ (z : RevokedRow). n < z.serial) same (rise-parts n y xs up).0
above n (y ∷ xs) x up (inr at) =
    let p = rise-parts n y xs up in
    let less = p.0 in
    let more = above y.serial xs x p.1 at in
    omega (arith, less, more)

found-own : (xs : List RevokedRow) (x : RevokedRow) → are_rising (map crl_entry xs) ≡ true → In x xs → row_at xs x.serial ≡ Some x
found-own [] x up at = absurd at
found-own (y ∷ xs) x up (inl same) =
    ap (λ (b : Bool). cond b (Some y) (row_at xs x.serial)) (eq-eqb y.serial x.serial (ap (λ (r : RevokedRow). r.serial) same))
    ∙ ap (λ (r : RevokedRow). Some r) same
found-own (y ∷ xs) x up (inr at) =
    let less = above y.serial xs x up at in
    ap (λ (b : Bool). cond b (Some y) (row_at xs x.serial)) (ne_eqb y.serial x.serial (λ e. omega (arith, less, e)))
    ∙ found-own xs x (rises-behind y.serial xs up) at

-- An entry is one of the rows.
pub is-row : (rows entries : List RevokedRow) (entry : RevokedRow) → AreFirsts rows entries → In entry entries → In entry rows
is-row rows entries entry firsts at =
    (found-in (λ (row : RevokedRow). row.serial == entry.serial) rows entry
    (sym (firsts.each entry.serial) ∙ found-own entries entry firsts.rising at)).0
