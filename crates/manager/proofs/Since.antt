-- The commands of the desks behind a cut, gathered.
use Rattle.std.proofs.Common.{◌≡◌, ◌≢◌, ℕ, zero, suc, ◌+◌, ◌≤◌, ◌<◌, true, false, List, [], ◌∷◌, ◌++◌, map, length, take, drop, get_or, refl, sym, ◌∙◌, ap, subst, arith, inl, inr, append-nil}
use Rattle.std.specs.Prelude.{◌==◌, Bool, if◌then◌else◌, Some, slice_get, All}
use Rattle.std.proofs.lemmas.Bool.{cases_lt}
use Rattle.std.proofs.lemmas.Bool.Decides.{nat_tests}
use Rattle.std.proofs.lemmas.Option.{none-some, same_Some}
use Rattle.std.proofs.lemmas.List.{length-drop, get_or_past, take_all}
use Rattle.authority_book.specs.declared.commands.Command.{Command}
use Rattle.authority_book.specs.declared.rows.NameRow.{NameRow}
use Rattle.authority_book.specs.Settings.{Settings}
use Rattle.authority_book.specs.Fold.{fold_of, after, after_all, empty_settings, Taken, AcceptedInTurn}
use Rattle.commit_word.specs.Seats.{FollowerSeat}
use Rattle.cmd_codec.specs.Spelling.{spelling}
use Rattle.entitle.specs.Certified.{names_of}
use Rattle.editions.specs.Edition.{cut_at}
use Rattle.editions.specs.Step.{configs_from, configs_at}
use Rattle.editions.specs.declared.gathered.Gathered.{Gathered}
use Rattle.editions.specs.Gathering as gathering
use Rattle.editions.specs.Gathering.{cut_from, cut_with, configs_with, AreGathered, AreAccepted, AreNextCommands}
use Rattle.manager.specs.Lists.{AreListsOf, AreSeen, seat_at}
use Rattle.manager.specs.Gathered.{AreSince}

-- ---- numbers and commands by desk

is_same : (m n : ℕ) → m ≡ n → (m == n) ≡ true
is_same m n same = grind (arith, nat_tests)

is_other : (m n : ℕ) → m ≢ n → (m == n) ≡ false
is_other m n other = grind (arith, nat_tests)

skipped : (group : Gathered) (rest : List Gathered) (desk : ℕ) → group.desk ≢ desk → gathering.commands_of (group ∷ rest) desk ≡ gathering.commands_of rest desk
skipped group rest desk other =
    ap (λ (b : Bool). if b then group.commands ++ gathering.commands_of rest desk else gathering.commands_of rest desk) (is_other group.desk desk other)

counted : (group : Gathered) (rest : List Gathered) (desk : ℕ) → group.desk ≡ desk → gathering.commands_of (group ∷ rest) desk ≡ group.commands ++ gathering.commands_of rest desk
counted group rest desk same =
    ap (λ (b : Bool). if b then group.commands ++ gathering.commands_of rest desk else gathering.commands_of rest desk) (is_same group.desk desk same)

cut_long : (desk : ℕ) (cut : List ℕ) (groups : List Gathered) → length (cut_from desk cut groups) ≡ length cut
cut_long desk [] groups = refl
cut_long desk (n ∷ cut) groups = ap suc (cut_long (desk + 1) cut groups)

cut_then : (desk : ℕ) (cut : List ℕ) (groups : List Gathered) (k at : ℕ) → k < length cut → at ≡ desk + k
    → get_or (cut_from desk cut groups) k 0 ≡ get_or cut k 0 + length (gathering.commands_of groups at)
cut_then desk [] groups k at inside is = absurd (omega (arith, inside))
cut_then desk (n ∷ cut) groups zero at inside is =
    let here : desk ≡ at = omega (arith, is) in
    ap (λ (d : ℕ). n + length (gathering.commands_of groups d)) here
cut_then desk (n ∷ cut) groups (suc k) at inside is = cut_then (desk + 1) cut groups k at (omega (arith, inside)) (omega (arith, is))

-- ---- how many there are

pub since_long : (number : ℕ) (lists : List (List Command)) (cut : List ℕ) (groups : List Gathered) → AreSince number lists cut groups → length groups ≡ length cut
since_long number [] [] [] all = refl
since_long number [] [] (g ∷ groups) all = absurd all
since_long number [] (n ∷ cut) groups all = absurd all
since_long number (l ∷ lists) [] groups all = absurd all
since_long number (l ∷ lists) (n ∷ cut) [] all = absurd all
since_long number (l ∷ lists) (n ∷ cut) (g ∷ groups) all = ap suc (since_long (suc number) lists cut groups all.1)

-- ---- a press can take them

desk_at : (number : ℕ) (lists : List (List Command)) (cut : List ℕ) (groups : List Gathered) (k : ℕ) (g : Gathered) → AreSince number lists cut groups → k < length groups → (get_or groups k g).desk ≡ number + k
desk_at number [] [] [] k g all inside = absurd (omega (arith, inside))
desk_at number [] [] (x ∷ groups) k g all inside = absurd all
desk_at number [] (n ∷ cut) groups k g all inside = absurd all
desk_at number (l ∷ lists) [] groups k g all inside = absurd all
desk_at number (l ∷ lists) (n ∷ cut) [] k g all inside = absurd all
desk_at number (l ∷ lists) (n ∷ cut) (x ∷ groups) zero g all inside = omega (arith, all.0.desk_is)
desk_at number (l ∷ lists) (n ∷ cut) (x ∷ groups) (suc k) g all inside =
    let rest = desk_at (suc number) lists cut groups k g all.1 (omega (arith, inside)) in omega (arith, rest)

from_at : (number : ℕ) (lists : List (List Command)) (cut : List ℕ) (groups : List Gathered) (k : ℕ) (g : Gathered) → AreSince number lists cut groups → k < length groups → (get_or groups k g).from ≡ get_or cut k 0
from_at number [] [] [] k g all inside = absurd (omega (arith, inside))
from_at number [] [] (x ∷ groups) k g all inside = absurd all
from_at number [] (n ∷ cut) groups k g all inside = absurd all
from_at number (l ∷ lists) [] groups k g all inside = absurd all
from_at number (l ∷ lists) (n ∷ cut) [] k g all inside = absurd all
from_at number (l ∷ lists) (n ∷ cut) (x ∷ groups) zero g all inside = all.0.from_is
from_at number (l ∷ lists) (n ∷ cut) (x ∷ groups) (suc k) g all inside = from_at (suc number) lists cut groups k g all.1 (omega (arith, inside))

pub are_gathered : (lists : List (List Command)) (cut : List ℕ) (groups : List Gathered) → AreSince 0 lists cut groups → AreGathered cut groups
are_gathered lists cut groups all =
    let long = since_long 0 lists cut groups all in
    record {
      desks = λ k g inside. let at = desk_at 0 lists cut groups k g all inside in omega (arith, at, inside, long);
      once = λ i j g before inside same.
          let one = desk_at 0 lists cut groups i g all (omega (arith, before, inside)) in
          let other = desk_at 0 lists cut groups j g all inside in
          omega (arith, one, other, same, before);
      from = λ k g inside.
          let here = desk_at 0 lists cut groups k g all inside in
          let at : (get_or groups k g).desk ≡ k = omega (arith, here) in
          from_at 0 lists cut groups k g all inside ∙ ap (λ (d : ℕ). get_or cut d 0) (sym at);
    }

-- ---- which they are

none_before : (number : ℕ) (lists : List (List Command)) (cut : List ℕ) (groups : List Gathered) (at : ℕ) → AreSince number lists cut groups → at < number → gathering.commands_of groups at ≡ []
none_before number [] [] [] at all less = refl
none_before number [] [] (g ∷ groups) at all less = absurd all
none_before number [] (n ∷ cut) groups at all less = absurd all
none_before number (l ∷ lists) [] groups at all less = absurd all
none_before number (l ∷ lists) (n ∷ cut) [] at all less = absurd all
none_before number (l ∷ lists) (n ∷ cut) (g ∷ groups) at all less =
    let other : g.desk ≢ at = λ same. omega (arith, same, all.0.desk_is, less) in
    skipped g groups at other ∙ none_before (suc number) lists cut groups at all.1 (omega (arith, less))

those_at : (number : ℕ) (lists : List (List Command)) (cut : List ℕ) (groups : List Gathered) (k at : ℕ) → AreSince number lists cut groups
    → at ≡ number + k → gathering.commands_of groups at ≡ drop (get_or cut k 0) (get_or lists k [])
those_at number [] [] [] k at all is = refl
those_at number [] [] (g ∷ groups) k at all is = absurd all
those_at number [] (n ∷ cut) groups k at all is = absurd all
those_at number (l ∷ lists) [] groups k at all is = absurd all
those_at number (l ∷ lists) (n ∷ cut) [] k at all is = absurd all
those_at number (l ∷ lists) (n ∷ cut) (g ∷ groups) zero at all is =
    let same : g.desk ≡ at = omega (arith, all.0.desk_is, is) in
    counted g groups at same
    ∙ ap (λ (c : List Command). g.commands ++ c) (none_before (suc number) lists cut groups at all.1 (omega (arith, is)))
    ∙ append-nil g.commands
    ∙ all.0.commands_are
those_at number (l ∷ lists) (n ∷ cut) (g ∷ groups) (suc k) at all is =
    let other : g.desk ≢ at = λ same. omega (arith, same, all.0.desk_is, is) in
    skipped g groups at other ∙ those_at (suc number) lists cut groups k at all.1 (omega (arith, is))

-- ---- over lists of which the cut takes in no more than there is

pub record Within (lists : List (List Command)) (cut : List ℕ) (groups : List Gathered) : Type 0 where
  pub all : AreSince 0 lists cut groups
  pub one_each : length lists ≡ length cut
  pub held : (desk : ℕ) → cut_at cut desk ≤ length (get_or lists desk [])

module _ (lists : List (List Command)) (cut : List ℕ) (groups : List Gathered) (within : Within lists cut groups) where
  gathered_of : (desk : ℕ) → gathering.commands_of groups desk ≡ drop (cut_at cut desk) (get_or lists desk [])
  gathered_of desk = those_at 0 lists cut groups desk desk within.all (omega arith)

  pub they_go_on : AreNextCommands lists cut groups
  they_go_on desk = record {
    held = within.held desk;
    next = ([], sym (gathered_of desk) ∙ sym (append-nil (gathering.commands_of groups desk)));
  }

  -- with them all is taken in
  pub they_take_all : (desk : ℕ) → cut_at (cut_with cut groups) desk ≡ length (get_or lists desk [])
  they_take_all desk = elim (cases_lt desk (length cut)) [
    | inl inside ↦ (
        let list = get_or lists desk [] in
        let n = cut_at cut desk in
        let sum = cut_then 0 cut groups desk desk inside (omega arith) in
        let more = ap length (gathered_of desk) in
        let rest = length-drop n list in
        omega (arith, sum, more, rest, within.held desk))
    | inr far ↦ (
        let none = get_or_past (cut_with cut groups) desk 0 (omega (arith, far, cut_long 0 cut groups)) in
        let empty : get_or lists desk [] ≡ [] = get_or_past lists desk [] (omega (arith, far, within.one_each)) in
        none ∙ sym (ap length empty))
  ]

-- ---- each is accepted after those before it

accepted_behind : (settings : Settings) (n : ℕ) (list : List Command) → AcceptedInTurn settings list → AcceptedInTurn (after_all settings (take n list)) (drop n list)
accepted_behind settings zero list all = all
accepted_behind settings (suc n) [] all = all
accepted_behind settings (suc n) (command ∷ list) all = accepted_behind (after settings command) n list all.1

config_at : (desk : ℕ) (lists : List (List Command)) (cut : List ℕ) (k at : ℕ) (config : Settings) → at ≡ desk + k → slice_get (configs_from desk lists cut) k ≡ Some config
    → config ≡ fold_of at (take (get_or cut k 0) (get_or lists k []))
config_at desk [] cut k at config is there = absurd (none-some config there)
config_at desk (list ∷ lists) [] zero at config is there =
    let here : desk ≡ at = omega (arith, is) in
    sym (same_Some (fold_of desk []) config there) ∙ ap (λ (d : ℕ). fold_of d []) here
config_at desk (list ∷ lists) (n ∷ cut) zero at config is there =
    let here : desk ≡ at = omega (arith, is) in
    sym (same_Some (fold_of desk (take n list)) config there) ∙ ap (λ (d : ℕ). fold_of d (take n list)) here
config_at desk (list ∷ lists) [] (suc k) at config is there = config_at (desk + 1) lists [] k at config (omega (arith, is)) there
config_at desk (list ∷ lists) (n ∷ cut) (suc k) at config is there = config_at (desk + 1) lists cut k at config (omega (arith, is)) there

-- the commands of a desk are accepted in turn; of a desk that isn't there, there are none
taken_at : (signers number : ℕ) (lists : List (List Command)) (all : List (List (List ℕ))) (k at : ℕ) → AreListsOf signers number lists all → at ≡ number + k → Taken at (get_or lists k [])
taken_at signers number [] all k at are is = tt
taken_at signers number (list ∷ lists) [] k at are is = absurd are
taken_at signers number (list ∷ lists) (records ∷ all) zero at are is =
    let here : number ≡ at = omega (arith, is) in subst (λ (d : ℕ). Taken d list) here are.0.are.taken
taken_at signers number (list ∷ lists) (records ∷ all) (suc k) at are is = taken_at signers (suc number) lists all k at are.1 (omega (arith, is))

pub they_are_accepted : (signers : ℕ) (lists : List (List Command)) (all : List (List (List ℕ))) (cut : List ℕ) (groups : List Gathered) (configs : List Settings)
    → Within lists cut groups → AreListsOf signers 0 lists all → configs ≡ configs_at lists cut → AreAccepted configs groups
they_are_accepted signers lists all cut groups configs within are same desk config there =
    let list = get_or lists desk [] in
    let n = cut_at cut desk in
    let is : config ≡ fold_of desk (take n list) = config_at 0 lists cut desk desk config (omega arith) (subst (λ (c : List Settings). slice_get c desk ≡ Some config) same there) in
    let in_turn : AcceptedInTurn (empty_settings desk) list = taken_at signers 0 lists all desk desk are (omega arith) in
    subst (λ (s : Settings). AcceptedInTurn s (gathering.commands_of groups desk)) (sym is)
    (subst (AcceptedInTurn (fold_of desk (take n list))) (sym (gathered_of lists cut groups within desk)) (accepted_behind (empty_settings desk) n list in_turn))

-- ---- the names at a cut that takes all in

first_names_at : (lists : List (List Command)) (cut : List ℕ) → 0 < length lists → cut_at cut 0 ≡ length (get_or lists 0 []) → names_of (configs_at lists cut) ≡ (fold_of 0 (get_or lists 0 [])).names
first_names_at [] cut some all = absurd (omega (arith, some))
first_names_at (list ∷ lists) [] some all = ap (λ (l : List Command). (fold_of 0 l).names) (empty_list list all)
  where
    empty_list : (list : List Command) → 0 ≡ length list → [] ≡ list
    empty_list [] is = refl
    empty_list (command ∷ list) is = absurd (omega (arith, is))
first_names_at (list ∷ lists) (n ∷ cut) some all = ap (λ (l : List Command). (fold_of 0 l).names) (take_all n list (omega (arith, all)))

first_signed : (signers : ℕ) (lists : List (List Command)) (all : List (List (List ℕ))) → 0 < length lists → AreListsOf signers 0 lists all → All (λ (name : NameRow). name.signer < signers) (fold_of 0 (get_or lists 0 [])).names
first_signed signers [] all some are = absurd (omega (arith, some))
first_signed signers (list ∷ lists) [] some are = absurd are
first_signed signers (list ∷ lists) (records ∷ all) some are = are.0.signed

abbrev pub CutsGoOn : Type 0
CutsGoOn = (lists : List (List Command)) (cut : List ℕ) (gathered : List Gathered) → length cut ≡ length lists → AreNextCommands lists cut gathered
    → configs_with (configs_at lists cut) gathered ≡ configs_at lists (cut_with cut gathered)

-- each name at the new cut has its signer
pub names_signed : CutsGoOn → (signers : ℕ) (lists : List (List Command)) (all : List (List (List ℕ))) (cut : List ℕ) (groups : List Gathered) (configs : List Settings)
    → Within lists cut groups → AreListsOf signers 0 lists all → configs ≡ configs_at lists cut → 0 < length lists
    → All (λ (name : NameRow). name.signer < signers) (names_of (configs_with configs groups))
names_signed go signers lists all cut groups configs within are same some =
    let on : configs_with configs groups ≡ configs_at lists (cut_with cut groups) =
    ap (λ (c : List Settings). configs_with c groups) same ∙ go lists cut groups (sym within.one_each) (they_go_on lists cut groups within) in
    subst (λ (names : List NameRow). All (λ (name : NameRow). name.signer < signers) names)
    (sym (ap names_of on ∙ first_names_at lists (cut_with cut groups) some (they_take_all lists cut groups within 0)))
    (first_signed signers lists all some are)

-- ---- what the followers have seen

pub long_at : (signers number : ℕ) (lists : List (List Command)) (seats : List FollowerSeat) (k : ℕ) → AreListsOf signers number lists (map (λ (seat : FollowerSeat). seat.seen) seats)
    → length (seat_at seats k).seen ≡ length (get_or lists k [])
long_at signers number [] [] k are = refl
long_at signers number [] (seat ∷ seats) k are = absurd are
long_at signers number (list ∷ lists) [] k are = absurd are
long_at signers number (list ∷ lists) (seat ∷ seats) zero are = ap length are.0.are.spelled ∙ mapped list
  where
    mapped : (list : List Command) → length (map spelling list) ≡ length list
    mapped [] = refl
    mapped (command ∷ list) = ap suc (mapped list)
long_at signers number (list ∷ lists) (seat ∷ seats) (suc k) are = long_at signers (suc number) lists seats k are.1

-- they have seen as much as the new cut takes in
pub seen_taken : (signers : ℕ) (lists : List (List Command)) (seats : List FollowerSeat) (cut : List ℕ) (groups : List Gathered) → Within lists cut groups → AreSeen signers lists seats
    → (desk : ℕ) → length (seat_at seats desk).seen ≤ cut_at (cut_with cut groups) desk
seen_taken signers lists seats cut groups within are desk =
    let seen = long_at signers 0 lists seats desk are in
    let takes = they_take_all lists cut groups within desk in
    omega (arith, seen, takes)
