-- What follows of calls made one after another, and of fronts.
use Rattle.std.proofs.Common.{◌≡◌, ◌≤◌, ℕ, false, List, [], ◌∷◌, ◌++◌, length, take, refl, sym, ◌∙◌, ap, subst}
use Rattle.std.specs.Prelude.{Option, None, Some, IfSome, cond}
use Rattle.std.specs.List.{AllByRecursion}
use Rattle.std.specs.Str.{bytes_eq}
use Rattle.outlet_api.specs.Calls.{Files, Call, after, after_all, IsFront}

-- some calls, and then others
pub after_all-append : (xs ys : List Call) (files : Files) → after_all (xs ++ ys) files ≡ after_all ys (after_all xs files)
after_all-append [] ys files = refl
after_all-append (x ∷ xs) ys files = after_all-append xs ys (after x files)

-- what stands at a path that no call is at, is what stood there
pub untouched : (calls : List Call) (path : List ℕ) (files : Files) → AllByRecursion (λ (call : Call). bytes_eq call.path path ≡ false) calls
    → after_all calls files path ≡ files path
untouched [] path files none = refl
untouched (call ∷ calls) path files none =
    untouched calls path (after call files) none.1 ∙ ap (λ b. cond b call.left (files path)) none.0

-- what holds after each number of first calls, holds of the files of a front
pub holds_at_front : (P : Files → Type 0) (calls : List Call) (old new : Option Files) → IsFront calls old new
    → IfSome old (λ files. (n : ℕ) → n ≤ length calls → P (after_all (take n calls) files)) → IfSome new P
holds_at_front P calls None new front each = subst (λ (o : Option Files). IfSome o P) (sym front.2) tt
holds_at_front P calls (Some files) new front each = subst (λ (o : Option Files). IfSome o P) (sym front.2) (each front.0 front.1)
