-- The lists of the desks' commands, in their places.
use Rattle.std.proofs.Common.{◌≡◌, ℕ, zero, suc, ◌+◌, ◌<◌, ◌≤◌, List, [], ◌∷◌, ◌++◌, length, take, drop, get_or, refl, sym, ◌∙◌, ap, subst, arith}
use Rattle.std.specs.Prelude.{⊤, Option, None, Some, slice_get}
use Rattle.std.proofs.lemmas.Option.{none-some, same_Some}
use Rattle.std.proofs.lemmas.List.{length-append, take_all}
use Rattle.authority_book.specs.declared.commands.Command.{Command}
use Rattle.authority_book.specs.Settings.{Settings}
use Rattle.authority_book.specs.Fold.{fold_of, after, after_all, AcceptedInTurn}
use Rattle.entitle.specs.Certified.{names_of}
use Rattle.editions.specs.Step.{configs_from, configs_at, AreMore}
use Rattle.disk_api.specs.declared.disk.Disk.{Ghosts as DiskGhosts}
use Rattle.desk_core.specs.View.{View}
use Rattle.krill_top.specs.DeskStates.{DeskStates, DeskState, commands_at, names_in}
use Rattle.krill_top.specs.InstanceState.{lists_of}
use Rattle.krill_top.specs.DesksInStates.{InAt, AreIn, DeskGoesOnAt, DesksGoOn}
use Rattle.krill_top.specs.Publishing.{TakesAll}

-- ---- one list after another

-- the first of one element, and nothing behind it
pub only_one : {A : Type 0} (x y : A) (rest : List A) → y ∷ [] ≡ x ∷ rest → (x ≡ y) × (rest ≡ [])
only_one x y rest e = (cc, cc)

-- Both have something at a place, or neither has.
abbrev Both : {A B : Type 0} → Option A → Option B → Type 0
Both None None = ⊤
Both None (Some b) = ⊥
Both (Some a) None = ⊥
Both (Some a) (Some b) = ⊤

same_length : {A B : Type 0} (xs : List A) (ys : List B) → ((k : ℕ) → Both (slice_get xs k) (slice_get ys k)) → length xs ≡ length ys
same_length [] [] both = refl
same_length [] (y ∷ ys) both = absurd (both 0)
same_length (x ∷ xs) [] both = absurd (both 0)
same_length (x ∷ xs) (y ∷ ys) both = ap suc (same_length xs ys (λ k. both (suc k)))

in_both : {D : Type 0} (number : ℕ) (desk : Option (View D)) (state : Option DeskState) → InAt number desk state → Both desk state
in_both number None None is = tt
in_both number None (Some state) is = is
in_both number (Some desk) None is = is
in_both number (Some desk) (Some state) is = tt

pub as_many : {D : Type 0} (desks : List (View D)) (desk_states : DeskStates) → AreIn desks desk_states → length desks ≡ length desk_states
as_many desks desk_states all = same_length desks desk_states (λ k. in_both k (slice_get desks k) (slice_get desk_states k) (all k))

-- counted from the first on
pub from_first : {D : Type 0} (desks : List (View D)) (desk_states : DeskStates) → AreIn desks desk_states → (k : ℕ) → InAt (0 + k) (slice_get desks k) (slice_get desk_states k)
from_first desks desk_states all k =
    let same : k ≡ 0 + k = omega arith in
    subst (λ (n : ℕ). InAt n (slice_get desks k) (slice_get desk_states k)) same (all k)

-- ---- the list of a desk

pub list_at : (desk_states : DeskStates) (desk : ℕ) → get_or (lists_of desk_states) desk [] ≡ commands_at desk_states desk
list_at [] desk = refl
list_at (state ∷ desk_states) zero = refl
list_at (state ∷ desk_states) (suc desk) = list_at desk_states desk

pub lists_long : (desk_states : DeskStates) → length (lists_of desk_states) ≡ length desk_states
lists_long [] = refl
lists_long (state ∷ desk_states) = ap suc (lists_long desk_states)

-- ---- lists that grow

grows_at : {D : Type 0} (disk_of : DiskGhosts D) (old new : Option (View D)) (was is : DeskState) → DeskGoesOnAt disk_of old new (Some was) (Some is)
    → (rest : List Command) × (is.commands ≡ was.commands ++ rest)
grows_at disk_of None None was is goes = absurd goes
grows_at disk_of None (Some new) was is goes = absurd goes
grows_at disk_of (Some old) None was is goes = absurd goes
grows_at disk_of (Some old) (Some new) was is goes = (goes.accepted, goes.commands)

abbrev GrowsAt : Option DeskState → Option DeskState → Type 0
GrowsAt None None = ⊤
GrowsAt None (Some is) = ⊥
GrowsAt (Some was) None = ⊥
GrowsAt (Some was) (Some is) = (rest : List Command) × (is.commands ≡ was.commands ++ rest)

each_grows : {D : Type 0} (disk_of : DiskGhosts D) (old new : Option (View D)) (was is : Option DeskState) → DeskGoesOnAt disk_of old new was is → GrowsAt was is
each_grows disk_of None None None None goes = tt
each_grows disk_of None None None (Some is) goes = absurd goes
each_grows disk_of None (Some new) None None goes = tt
each_grows disk_of None (Some new) None (Some is) goes = absurd goes
each_grows disk_of (Some old) new None None goes = tt
each_grows disk_of (Some old) None None (Some is) goes = absurd goes
each_grows disk_of (Some old) (Some new) None (Some is) goes = absurd goes
each_grows disk_of None None (Some was) None goes = absurd goes
each_grows disk_of None (Some new) (Some was) None goes = absurd goes
each_grows disk_of (Some old) None (Some was) None goes = absurd goes
each_grows disk_of (Some old) (Some new) (Some was) None goes = absurd goes
each_grows disk_of old new (Some was) (Some is) goes = grows_at disk_of old new was is goes

are_more : (before after : DeskStates) → ((k : ℕ) → GrowsAt (slice_get before k) (slice_get after k)) → AreMore (lists_of before) (lists_of after)
are_more [] [] each = tt
are_more [] (is ∷ after) each = absurd (each 0)
are_more (was ∷ before) [] each = absurd (each 0)
are_more (was ∷ before) (is ∷ after) each = (each 0, are_more before after (λ k. each (suc k)))

pub lists_grow : {D : Type 0} (disk_of : DiskGhosts D) (old new : List (View D)) (before after : DeskStates) → DesksGoOn disk_of old new before after → AreMore (lists_of before) (lists_of after)
lists_grow disk_of old new before after goes =
    are_more before after (λ k. each_grows disk_of (slice_get old k) (slice_get new k) (slice_get before k) (slice_get after k) (goes k))

pub more_long : (less more : List (List Command)) → AreMore less more → (desk : ℕ) → length (get_or less desk []) ≤ length (get_or more desk [])
more_long [] [] grow desk = omega arith
more_long [] (list ∷ more) grow desk = absurd grow
more_long (list ∷ less) [] grow desk = absurd grow
more_long (list ∷ less) (longer ∷ more) grow zero =
    let long : length longer ≡ length list + length grow.0.0 = ap length grow.0.1 ∙ length-append list grow.0.0 in
    omega (arith, long)
more_long (list ∷ less) (longer ∷ more) grow (suc desk) = more_long less more grow.1 desk

-- ---- configurations at a cut

pub config_at : (desk : ℕ) (lists : List (List Command)) (cut : List ℕ) (k at : ℕ) (config : Settings) → at ≡ desk + k → slice_get (configs_from desk lists cut) k ≡ Some config
    → config ≡ fold_of at (take (get_or cut k 0) (get_or lists k []))
config_at desk [] cut k at config is there = absurd (none-some config there)
config_at desk (list ∷ lists) [] zero at config is there =
    let here : desk ≡ at = omega (arith, is) in
    sym (same_Some (fold_of desk []) config there) ∙ ap (λ (d : ℕ). fold_of d []) here
config_at desk (list ∷ lists) (n ∷ cut) zero at config is there =
    let here : desk ≡ at = omega (arith, is) in
    sym (same_Some (fold_of desk (take n list)) config there) ∙ ap (λ (d : ℕ). fold_of d (take n list)) here
config_at desk (list ∷ lists) [] (suc k) at config is there = config_at (desk + 1) lists [] k at config (omega (arith, is)) there
config_at desk (list ∷ lists) (n ∷ cut) (suc k) at config is there = config_at (desk + 1) lists cut k at config (omega (arith, is)) there

-- the names at a cut that takes all in are the names now
names_now_in : (desk_states : DeskStates) (lists : List (List Command)) (cut : List ℕ) → lists ≡ lists_of desk_states → TakesAll desk_states cut → 0 < length desk_states → names_of (configs_at lists cut) ≡ names_in desk_states
names_now_in [] lists cut same takes some = absurd (omega (arith, some))
names_now_in (state ∷ desk_states) lists [] same takes some =
    ap (λ (l : List (List Command)). names_of (configs_at l [])) same
    ∙ ap (λ (l : List Command). (fold_of 0 l).names) (empty_list state.commands (takes 0))
  where
    empty_list : (list : List Command) → 0 ≡ length list → [] ≡ list
    empty_list [] is = refl
    empty_list (command ∷ list) is = absurd (omega (arith, is))
names_now_in (state ∷ desk_states) lists (n ∷ cut) same takes some =
    ap (λ (l : List (List Command)). names_of (configs_at l (n ∷ cut))) same
    ∙ ap (λ (l : List Command). (fold_of 0 l).names) (take_all n state.commands (omega (arith, takes 0)))

pub names_now : (desk_states : DeskStates) (cut : List ℕ) → TakesAll desk_states cut → 0 < length desk_states → names_of (configs_at (lists_of desk_states) cut) ≡ names_in desk_states
names_now desk_states cut takes some = names_now_in desk_states (lists_of desk_states) cut refl takes some

-- ---- commands accepted in turn, behind some of them

pub accepted_behind : (settings : Settings) (n : ℕ) (list : List Command) → AcceptedInTurn settings list → AcceptedInTurn (after_all settings (take n list)) (drop n list)
accepted_behind settings zero list all = all
accepted_behind settings (suc n) [] all = all
accepted_behind settings (suc n) (command ∷ list) all = accepted_behind (after settings command) n list all.1

-- and the first so many of them
pub accepted_front : (settings : Settings) (n : ℕ) (list : List Command) → AcceptedInTurn settings list → AcceptedInTurn settings (take n list)
accepted_front settings zero list all = tt
accepted_front settings (suc n) [] all = all
accepted_front settings (suc n) (command ∷ list) all = (all.0, accepted_front (after settings command) n list all.1)
