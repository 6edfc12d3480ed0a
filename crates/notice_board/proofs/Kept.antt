-- Each step keeps the rule of the board.
use Rattle.std.proofs.Common.{◌≡◌, ◌≢◌, ⊎_elim, ℕ, true, List, [], ◌∷◌, ◌++◌, set, refl, sym, ap, ◌∙◌, subst}
use mathlib.Core.Option.{some, some-ne-none}
use lib.ListN.{get_elem?}
use Rattle.left_right.specs.Register.{Admits, TurnsAt, Forks, Merges}
use Rattle.atomic_table.proofs.Lists.{at_set, at_snoc}
use Rattle.notice_board.specs.declared.lists.Known.{Known}
use Rattle.notice_board.specs.declared.shown.ListId.{ListId}
use Rattle.notice_board.specs.declared.views.View.{View}
use Rattle.notice_board.specs.Rule.{KeepsBoardRule, newcomer}
use Rattle.notice_board.specs.inner.Steps.{Looks}

abbrev Fits : ListId → View → Type 0
Fits list v = v.knows ≡ true → v.list ≡ list

new_fits : (list : ListId) → Fits list newcomer
new_fits list h = absurd (cc h)

set_kept : (list : ListId) (views : List View) (seat : ℕ) (v : View) → KeepsBoardRule list views → Fits list v → KeepsBoardRule list (set views seat v)
set_kept list views seat v h fits j u e =
    ⊎_elim
    (λ (t : (j ≡ seat) × (v ≡ u)). subst (Fits list) t.1 fits)
    (λ (t : (j ≢ seat) × (get_elem? views j ≡ some u)). h j u t.1)
    (at_set views seat j v u e)

snoc_kept : (list : ListId) (views : List View) (v : View) → KeepsBoardRule list views → Fits list v → KeepsBoardRule list (views ++ v ∷ [])
snoc_kept list views v h fits j u e = ⊎_elim (h j u) (λ (t : v ≡ u). subst (Fits list) t fits) (at_snoc views v u j e)

pub alone : (list : ListId) → KeepsBoardRule list (newcomer ∷ [])
alone list = snoc_kept list [] newcomer (λ j u e. absurd (some-ne-none u (sym e))) (new_fits list)

abbrev pub Kept : Known → List View → Type 0
Kept known views = KeepsBoardRule known.list views

pub admits : Admits Kept newcomer
admits known views h = snoc_kept known.list views newcomer h (new_fits known.list)

pub looks : (seat : ℕ) (v : View) (x y : Known) → y.list ≡ x.list → TurnsAt Kept seat v x y (λ v x y w. Looks v y.list w)
looks seat v x y same views h at =
    let w : View = record { knows = true; list = y.list } in
    let moved : KeepsBoardRule y.list views = subst (λ (l : ListId). KeepsBoardRule l views) (sym same) h in (
      w,
      set_kept y.list views seat w moved (λ knows. refl),
      record { knows = refl; list_is = refl; same = λ knows. sym (moved seat v at knows) },
    )

pub forks : (seat : ℕ) (v : View) → Forks Kept seat v v v
forks seat v x views h at = let f = h seat v at in snoc_kept x.list (set views seat v) v (set_kept x.list views seat v h f) f

pub merges : (seat : ℕ) (v : View) (other : ℕ) (w : View) → Merges Kept seat v other w w newcomer
merges seat v other w x views h at apart there =
    let theirs : Fits x.list w =
    ⊎_elim
    (λ (t : (other ≡ seat) × (w ≡ w)). absurd (apart t.0))
    (λ (t : (other ≢ seat) × (get_elem? views other ≡ some w)). h other w t.1)
    (at_set views seat other w w there) in
    set_kept x.list (set views seat w) other newcomer (set_kept x.list views seat w h theirs) (new_fits x.list)
