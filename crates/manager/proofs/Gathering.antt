-- Desk by desk: what is gathered and what is seen.
use Rattle.std.proofs.Common.{◌≡◌, ◌≢◌, ℕ, suc, ◌+◌, ◌<◌, ◌≤◌, List, [], ◌∷◌, ◌++◌, length, get_or, sym, ap, ◌∙◌, subst, arith, ⊎_elim, length-append}
use Rattle.std.proofs.lemmas.Bool.{cases_eq, cases_lt}
use Rattle.std.proofs.lemmas.List.{get_or_push, get_or_append_left, get_or_past, get_or-set_other, length-set}
use mathlib.Core.List.{IsPrefix}
use Rattle.outlet_api.specs.declared.outlet.Outlet.{Ghosts as OutletGhosts}
use Rattle.authority_book.specs.declared.commands.Command.{Command}
use Rattle.authority_book.specs.Fold.{fold_of}
use Rattle.authority_book.specs.Verdict.{most_authorities}
use Rattle.commit_word.specs.Seats.{FollowerSeat}
use Rattle.desk_core.specs.View.{View}
use Rattle.desk_core.specs.Commands.{Records, HasCommands}
use Rattle.notice_board.specs.Seats.{BoardSeat}
use Rattle.editions.specs.Edition.{cut_at}
use Rattle.editions.specs.declared.gathered.Gathered.{Gathered}
use Rattle.press_core.specs.Stored.{StoredValue}
use Rattle.manager.specs.Named.{Named}
use Rattle.manager.specs.Lists.{AreSeen, seat_at, no_seat}
use Rattle.manager.specs.Gathered.{IsSince, AreSince}
use Rattle.manager.specs.Passes.{ComesTo, KnowsMore}
use Rattle.manager.specs.Locked.{LockedValue, IsLocked}
use Rattle.manager.specs.inner.Gathering.{no_group, IsSinceSeen, SeeAlikeAt, SeeAlike}
use Rattle.manager.proofs.Kept.{lock}
use Rattle.manager.proofs.Over.{over}
use Rattle.manager.proofs.Seats.{seen_at}
use Rattle.manager.proofs.More.{OneList, list_there}
use Rattle.manager.proofs.Learned.{seen_long}

-- ---- one desk

-- what is gathered of a desk is what the follower has seen behind the cut
pub since_seen : {D : Type 0} (law : OneList) (place : ℕ) (seats pass : List FollowerSeat) (desk : View D) (cut : List ℕ) (group : Gathered) → desk.number ≡ place
    → (seat_at seats place).seen ≡ desk.records → (seat_at pass place).seen ≡ desk.records → ComesTo pass place desk.settings
    → ((commands : List Command) → HasCommands desk commands → IsSince place commands (cut_at cut place) group) → IsSinceSeen seats cut place group
since_seen law place seats pass desk cut group at seen told comes gives = λ commands are.
    let here : Records place desk.records commands = subst (λ (l : List (List ℕ)). Records place l commands) seen are in
    let known : Records place desk.records comes.commands = subst (λ (l : List (List ℕ)). Records place l comes.commands) told comes.known in
    let same : commands ≡ comes.commands = law place desk.records commands comes.commands here known in
    gives commands (record {
      recorded = subst (λ (n : ℕ). Records n desk.records commands) (sym at) here;
      fold = comes.fold ∙ (ap (fold_of place) (sym same) ∙ ap (λ (n : ℕ). fold_of n commands) (sym at));
    })

since_same : (was now : List FollowerSeat) (cut : List ℕ) (k : ℕ) (group : Gathered) → seat_at now k ≡ seat_at was k → IsSinceSeen was cut k group → IsSinceSeen now cut k group
since_same was now cut k group same is = λ commands are. is commands (subst (λ (s : FollowerSeat). Records k s.seen commands) same are)

-- one desk more
pub since_more : (was now : List FollowerSeat) (cut : List ℕ) (groups : List Gathered) (place : ℕ) (group : Gathered) → length groups ≡ place
    → ((k : ℕ) → k < place → IsSinceSeen was cut k (get_or groups k no_group)) → ((k : ℕ) → k ≢ place → seat_at now k ≡ seat_at was k) → IsSinceSeen now cut place group
    → (k : ℕ) → k < place + 1 → IsSinceSeen now cut k (get_or (groups ++ group ∷ []) k no_group)
since_more was now cut groups place group long each others last k below = ⊎_elim
    (λ (here : k ≡ place).
    let at : get_or (groups ++ group ∷ []) k no_group ≡ group = get_or_push groups group no_group k (long ∙ sym here) in
    subst (λ (g : Gathered). IsSinceSeen now cut k g) (sym at) (subst (λ (n : ℕ). IsSinceSeen now cut n group) (sym here) last))
    (λ (away : k ≢ place).
    let within : k < place = omega (arith, away, below) in
    let at : get_or (groups ++ group ∷ []) k no_group ≡ get_or groups k no_group = get_or_append_left groups (group ∷ []) no_group k (omega (arith, long, within)) in
    subst (λ (g : Gathered). IsSinceSeen now cut k g) (sym at) (since_same was now cut k (get_or groups k no_group) (others k away) (each k within)))
    (cases_eq k place)

pub alike_more : (one other one' other' : List FollowerSeat) (place : ℕ) → ((k : ℕ) → k < place → SeeAlikeAt one other k)
    → ((k : ℕ) → k ≢ place → seat_at one' k ≡ seat_at one k) → ((k : ℕ) → k ≢ place → seat_at other' k ≡ seat_at other k) → SeeAlikeAt one' other' place
    → (k : ℕ) → k < place + 1 → SeeAlikeAt one' other' k
alike_more one other one' other' place each others apart last k below = ⊎_elim
    (λ (here : k ≡ place). subst (λ (n : ℕ). SeeAlikeAt one' other' n) (sym here) last)
    (λ (away : k ≢ place).
    ap (λ (s : FollowerSeat). s.seen) (others k away) ∙ (each k (omega (arith, away, below)) ∙ sym (ap (λ (s : FollowerSeat). s.seen) (apart k away))))
    (cases_eq k place)

-- ---- all desks

pub alike_all : (one other : List FollowerSeat) (many : ℕ) → length one ≡ many → length other ≡ many → ((k : ℕ) → k < many → SeeAlikeAt one other k) → SeeAlike one other
alike_all one other many first second each = λ k. ⊎_elim
    (λ (inside : k < many). each k inside)
    (λ far. ap (λ (s : FollowerSeat). s.seen) (get_or_past one k no_seat (omega (arith, far, first)) ∙ sym (get_or_past other k no_seat (omega (arith, far, second)))))
    (cases_lt k many)

since_from : (number : ℕ) (lists : List (List Command)) (cut : List ℕ) (groups : List Gathered) → length lists ≡ length groups → length cut ≡ length groups
    → ((k at : ℕ) → at ≡ number + k → k < length groups → IsSince at (get_or lists k []) (get_or cut k 0) (get_or groups k no_group)) → AreSince number lists cut groups
since_from number [] [] [] long wide each = tt
since_from number [] [] (g ∷ groups) long wide each = absurd (omega (arith, long))
since_from number [] (n ∷ cut) [] long wide each = absurd (omega (arith, wide))
since_from number [] (n ∷ cut) (g ∷ groups) long wide each = absurd (omega (arith, long))
since_from number (l ∷ lists) [] [] long wide each = absurd (omega (arith, long))
since_from number (l ∷ lists) [] (g ∷ groups) long wide each = absurd (omega (arith, wide))
since_from number (l ∷ lists) (n ∷ cut) [] long wide each = absurd (omega (arith, long))
since_from number (l ∷ lists) (n ∷ cut) (g ∷ groups) long wide each = (
  each 0 number (omega arith) (omega arith),
  since_from (suc number) lists cut groups (omega (arith, long)) (omega (arith, wide)) (λ k at is below. each (suc k) at (omega (arith, is)) (omega (arith, below))),
)

pub gathered_since : (signers : ℕ) (seats : List FollowerSeat) (cut : List ℕ) (groups : List Gathered) → length groups ≡ length seats → length cut ≡ length seats
    → ((k : ℕ) → k < length groups → IsSinceSeen seats cut k (get_or groups k no_group)) → (lists : List (List Command)) → AreSeen signers lists seats → AreSince 0 lists cut groups
gathered_since signers seats cut groups long wide each lists seen =
    let count = seen_long signers 0 lists seats seen in
    since_from 0 lists cut groups (omega (arith, long, count)) (omega (arith, long, wide)) (λ k at is below.
    let same : at ≡ k = omega (arith, is) in
    let there : Records k (seat_at seats k).seen (get_or lists k []) = list_there signers 0 lists seats k k (omega arith) (omega (arith, below, long)) seen in
    subst (λ (d : ℕ). IsSince d (get_or lists k []) (get_or cut k 0) (get_or groups k no_group)) (sym same) (each k below (get_or lists k []) there))

-- ---- what was known before

pub prefix_long : {X : Type 0} (xs ys : List X) → IsPrefix xs ys → length xs ≤ length ys
prefix_long xs ys p = let whole = ap length p.1 in omega (arith, length-append xs p.0, whole)

pub seen_less : (known pass press : List FollowerSeat) → KnowsMore known pass → SeeAlike press pass → (desk : ℕ) → length (seat_at known desk).seen ≤ length (seat_at press desk).seen
seen_less known pass press more alike desk =
    let grown = prefix_long (seat_at known desk).seen (seat_at pass desk).seen (more.each desk).grows in
    let same = ap length (alike desk) in
    omega (arith, grown, same)

-- ---- as many followers as desks

pub followers_long : {D O : Type 0} (outlet_of : OutletGhosts O) (named : Named) (press : StoredValue D) (seats : List FollowerSeat) (board : BoardSeat) (outlet : O) → IsLocked outlet_of named (lock press seats board outlet)
    → length seats ≡ most_authorities
followers_long outlet_of named press seats board outlet is =
    let behind = over outlet_of named (lock press seats board outlet) is in
    let count = seen_long (length named.signers) 0 is.lists seats behind.seen in
    omega (arith, count, behind.made.left.desks, behind.made.one_each)

-- ---- the press as a whole

pub seats_on : {D O : Type 0} (a b c : LockedValue D O) → b ≡ record a { seats = b.seats } → c ≡ record b { seats = c.seats } → c ≡ record a { seats = c.seats }
seats_on a b c first second = second ∙ ap (λ (l : LockedValue _ _). record l { seats = c.seats }) first

-- ---- a follower at a place sees a list

module _ (seats now : List FollowerSeat) (place : ℕ) (records : List (List ℕ)) (within : place < length seats) (set : now ≡ seen_at seats place records) where
  pub others_stay : (other : ℕ) → other ≢ place → seat_at now other ≡ seat_at seats other
  others_stay other away =
      ap (λ (l : List FollowerSeat). seat_at l other) set ∙ get_or-set_other seats place other (record (seat_at seats place) { seen = records }) no_seat away

  pub as_many : length now ≡ length seats
  as_many = ap length set ∙ length-set seats place (record (seat_at seats place) { seen = records })
