-- Serials rise in what was shown.
use Rattle.std.proofs.Common.{◌≡◌, ℕ, ◌<◌, ◌≤◌, Bool, true, false, ◌&&◌, nat_lt, List, [], ◌∷◌, ◌++◌, refl, ap, ◌∙◌, subst, arith, le_refl, zero-le}
use Rattle.std.proofs.lemmas.Bool.Decides.{nat_tests}
use mathlib.Core.List.{IsPrefix}
use Rattle.notice_board.specs.declared.shown.ShownEdition.{ShownEdition}
use Rattle.notice_board.specs.Lists.{serial_after, last_serial, rises_from, rises}
use Rattle.editions.specs.PublishedState.{PublishedStateValue}
use Rattle.editions.specs.declared.published_state.PublishedNumbers.{PublishedNumbers}
use Rattle.manager.specs.Answers.{IsBehind}

both : (a b : Bool) → (a && b) ≡ true → (a ≡ true) × (b ≡ true)
both true b are = (refl, are)
both false b are = absurd cc

below : (n m : ℕ) → nat_lt n m ≡ true → n < m
below n m is = grind (arith, nat_tests)

up_to_end : (n : ℕ) (ys : List ShownEdition) → rises_from n ys ≡ true → n ≤ serial_after n ys
up_to_end n [] rise = le_refl n
up_to_end n (y ∷ ys) rise =
    let parts = both (nat_lt n y.sheet.serial) (rises_from y.sheet.serial ys) rise in
    let first = below n y.sheet.serial parts.0 in
    let rest = up_to_end y.sheet.serial ys parts.1 in
    omega (arith, first, rest)

grows_from : (n : ℕ) (xs rest : List ShownEdition) → rises_from n (xs ++ rest) ≡ true → serial_after n xs ≤ serial_after n (xs ++ rest)
grows_from n [] rest rise = up_to_end n rest rise
grows_from n (x ∷ xs) rest rise = grows_from x.sheet.serial xs rest (both (nat_lt n x.sheet.serial) (rises_from x.sheet.serial (xs ++ rest)) rise).1

grows_by : (xs rest : List ShownEdition) → rises (xs ++ rest) ≡ true → last_serial xs ≤ last_serial (xs ++ rest)
grows_by [] rest rise = zero-le
grows_by (x ∷ xs) rest rise = grows_from x.sheet.serial xs rest rise

-- who has seen less has seen no later serial
pub serial_grows : (xs ys : List ShownEdition) → IsPrefix xs ys → rises ys ≡ true → last_serial xs ≤ last_serial ys
serial_grows xs ys prefix rise = subst (λ (zs : List ShownEdition). last_serial xs ≤ last_serial zs) prefix.1 (grows_by xs prefix.0 (ap rises prefix.1 ∙ rise))

-- an edition behind what stands is behind what was seen
pub is_new : (seen serial : ℕ) (clock : ℕ) (at : PublishedStateValue) (told : PublishedNumbers) → at.serial ≡ serial → seen ≤ serial → IsBehind clock at told → seen < told.serial
is_new seen serial clock at told same within is =
    let next = is.serial in
    omega (arith, same, within, next)
