-- The seats of a pass, as one of them changes, and as they are split and joined.
use Rattle.std.proofs.Common.{◌≡◌, ◌≢◌, ℕ, ◌+◌, ◌<◌, ◌≤◌, Bool, true, false, nat_lt, List, [], ◌∷◌, ◌++◌, map, length, take, get_or, refl, sym, ap, ◌∙◌, subst, arith, ⊎_elim}
use Rattle.std.specs.Prelude.{All, slice_set, if◌then◌else◌}
use Rattle.std.proofs.lemmas.Bool.{cases_eq}
use Rattle.std.proofs.lemmas.List.{get_or-map, get_or_past, length-set, length-map, length-take, length_push, set-get_or, same_from_push, take_more}
use mathlib.Core.List.{IsPrefix}
use Rattle.atomic_table.specs.Seated.{TableId}
use Rattle.commit_word.specs.Entries.{longer}
use Rattle.commit_word.specs.Seats.{FollowerSeat}
use Rattle.authority_book.specs.declared.commands.Command.{Command}
use Rattle.authority_book.specs.Settings.{Settings}
use Rattle.authority_book.specs.Fold.{fold_of}
use Rattle.desk_core.specs.View.{View}
use Rattle.desk_core.specs.Commands.{Records}
use Rattle.manager.specs.Named.{Named}
use Rattle.manager.specs.Lists.{seat_at, no_seat, IsListOf, IsListed}
use Rattle.manager.specs.Passes.{ComesTo, IsMore, KnowsMore, unmade, IsJoinedSeat, AreJoined, IsSeatOf, AreSeatsOf}
use Rattle.manager.proofs.Knowing.{prefix_none, more_seen, set_here, set_other, set_more, set_seats, read_seat}

-- ---- a desk's list

pub list_of : {D : Type 0} (signers place : ℕ) (desk : View D) (is : IsListed signers desk) → desk.number ≡ place → IsListOf signers place is.commands desk.records
list_of signers place desk is number = record {
  are = subst (λ (n : ℕ). Records n desk.records is.commands) number is.has.recorded;
  signed = subst (λ (s : Settings). All (λ name. name.signer < signers) s.names) (is.has.fold ∙ ap (λ (n : ℕ). fold_of n is.commands) number) is.signed;
}

-- ---- one seat has seen its desk's whole list

module _ {D : Type 0} (words : ℕ → TableId) (named : Named) (seats : List FollowerSeat) (place : ℕ) (was next : FollowerSeat) (desk : View D)
    (within : place < length seats) (read : was ≡ get_or seats place was) (number : desk.number ≡ place) (listed : IsListed (length named.signers) desk) (whole : next.seen ≡ desk.records) where
  pub was_there : was ≡ seat_at seats place
  was_there = read_seat seats place was within read

  pub after_known : ComesTo (slice_set seats place next) place desk.settings
  after_known = record {
    commands = listed.commands;
    known = subst (λ (s : FollowerSeat). Records place s.seen listed.commands) (sym (set_here seats place next within))
        (subst (λ (l : List (List ℕ)). Records place l listed.commands) (sym whole) (list_of (length named.signers) place desk listed number).are);
    fold = listed.has.fold ∙ ap (λ (n : ℕ). fold_of n listed.commands) number;
  }

  pub after_whole : (seat_at (slice_set seats place next) place).seen ≡ desk.records
  after_whole = ap (λ (s : FollowerSeat). s.seen) (set_here seats place next within) ∙ whole

  pub after_seats : AreSeatsOf words named seats → next.word ≡ was.word → next.recovered ≡ was.recovered → AreSeatsOf words named (slice_set seats place next)
  after_seats are word recovered =
      let here = are place within in
      set_seats seats place next within words named are (record {
        word = word ∙ (ap (λ (s : FollowerSeat). s.word) was_there ∙ here.word);
        recovered = recovered ∙ (ap (λ (s : FollowerSeat). s.recovered) was_there ∙ here.recovered);
        commands = listed.commands;
        listed = subst (λ (l : List (List ℕ)). IsListOf (length named.signers) place listed.commands l) (sym whole) (list_of (length named.signers) place desk listed number);
      })

  pub after_more : next ≡ record was { seen = desk.records } → IsPrefix was.seen desk.records → KnowsMore seats (slice_set seats place next)
  after_more told grows =
      set_more seats place next within (subst (λ (s : FollowerSeat). IsMore s next) was_there (more_seen was next desk.records grows told))

-- the word of a seat that was read
pub seat_word : (words : ℕ → TableId) (named : Named) (seats : List FollowerSeat) (place : ℕ) (was : FollowerSeat) → AreSeatsOf words named seats → place < length seats → was ≡ get_or seats place was → was.word ≡ words place
seat_word words named seats place was are within read = ap (λ (s : FollowerSeat). s.word) (read_seat seats place was within read) ∙ (are place within).word

-- a seat that is as it was
pub set_same : (seats : List FollowerSeat) (place : ℕ) (was : FollowerSeat) → place < length seats → was ≡ get_or seats place was → slice_set seats place was ≡ seats
set_same seats place was within read =
    ap (λ (s : FollowerSeat). slice_set seats place s) (read_seat seats place was within read) ∙ set-get_or seats place no_seat

-- ---- split

unmade_at : (seats : List FollowerSeat) (desk : ℕ) → desk < length seats → seat_at (map unmade seats) desk ≡ unmade (seat_at seats desk)
unmade_at seats desk within = get_or-map unmade seats desk no_seat no_seat within

pub split_seats_of : (words : ℕ → TableId) (named : Named) (seats : List FollowerSeat) → AreSeatsOf words named seats → AreSeatsOf words named (map unmade seats)
split_seats_of words named seats are desk below =
    let within : desk < length seats = subst (λ (n : ℕ). desk < n) (length-map seats unmade) below in
    let is = are desk within in
    subst (λ (s : FollowerSeat). IsSeatOf words named desk s) (sym (unmade_at seats desk within))
    (record { word = is.word; recovered = is.recovered; commands = is.commands; listed = is.listed })

-- ---- joined

longer_of : (P : List (List ℕ) → Type 0) (xs ys : List (List ℕ)) → P xs → P ys → P (longer xs ys)
longer_of P xs ys one other = by_test (nat_lt (length xs) (length ys))
  where
    by_test : (b : Bool) → P (if b then ys else xs)
    by_test true = other
    by_test false = one

abbrev HasList : ℕ → ℕ → List (List ℕ) → Type 0
HasList signers desk records = (commands : List Command) × IsListOf signers desk commands records

pub joined_seat : (words : ℕ → TableId) (named : Named) (desk : ℕ) (one other new : FollowerSeat) → IsSeatOf words named desk one → IsSeatOf words named desk other → IsJoinedSeat one other new → IsSeatOf words named desk new
joined_seat words named desk one other new first second both =
    let list = longer_of (HasList (length named.signers) desk) one.seen other.seen (first.commands, first.listed) (second.commands, second.listed) in
    subst (λ (s : FollowerSeat). IsSeatOf words named desk s) (sym both.both)
    (record { word = first.word; recovered = first.recovered; commands = list.0; listed = list.1 })

none_joined : IsJoinedSeat no_seat no_seat no_seat
none_joined = record { both = refl; grows = prefix_none []; begins = prefix_none []; apart = λ place first second h k. absurd h }

-- the seats from a place on are joined, and those before it are as they were
pub record JoinedFrom (from : ℕ) (one other new : List FollowerSeat) : Type 0 where
  pub count : length new ≡ length one
  pub before : (desk : ℕ) → desk < from → seat_at new desk ≡ seat_at one desk
  pub behind : (desk : ℕ) → from ≤ desk → IsJoinedSeat (seat_at one desk) (seat_at other desk) (seat_at new desk)

past : (seats : List FollowerSeat) (desk : ℕ) → length seats ≤ desk → seat_at seats desk ≡ no_seat
past seats desk less = get_or_past seats desk no_seat less

pub joined_start : (one other : List FollowerSeat) → length other ≡ length one → JoinedFrom (length one) one other one
joined_start one other same = record {
  count = refl;
  before = λ desk below. refl;
  behind = λ desk less.
      let first : seat_at one desk ≡ no_seat = past one desk less in
      let second : seat_at other desk ≡ no_seat = past other desk (omega (arith, same, less)) in
      subst (λ (s : FollowerSeat). IsJoinedSeat s (seat_at other desk) s) (sym first)
      (subst (λ (s : FollowerSeat). IsJoinedSeat no_seat s no_seat) (sym second) none_joined);
}

pub joined_next : (place : ℕ) (one other new : List FollowerSeat) (next : FollowerSeat) → place < length one → JoinedFrom (place + 1) one other new
    → IsJoinedSeat (seat_at new place) (seat_at other place) next → JoinedFrom place one other (slice_set new place next)
joined_next place one other new next within is both =
    let inside : place < length new = subst (λ (n : ℕ). place < n) (sym is.count) within in
    let here : IsJoinedSeat (seat_at one place) (seat_at other place) next = subst (λ (s : FollowerSeat). IsJoinedSeat s (seat_at other place) next) (is.before place (omega arith)) both in
    record {
      count = length-set new place next ∙ is.count;
      before = λ desk below. set_other new place next inside desk (λ same. absurd (omega (arith, same, below))) ∙ is.before desk (omega (arith, below));
      behind = λ desk less. ⊎_elim
          (λ (same : desk ≡ place). subst (λ (n : ℕ). IsJoinedSeat (seat_at one n) (seat_at other n) (seat_at (slice_set new place next) n)) (sym same)
          (subst (λ (s : FollowerSeat). IsJoinedSeat (seat_at one place) (seat_at other place) s) (sym (set_here new place next inside)) here))
          (λ (away : desk ≢ place). subst (λ (s : FollowerSeat). IsJoinedSeat (seat_at one desk) (seat_at other desk) s) (sym (set_other new place next inside desk away))
          (is.behind desk (omega (arith, away, less))))
          (cases_eq desk place);
    }

pub joined_all : (one other new : List FollowerSeat) → JoinedFrom 0 one other new → AreJoined one other new
joined_all one other new is = record { count = is.count; each = λ desk. is.behind desk (omega arith) }

pub joined_seats_of : (words : ℕ → TableId) (named : Named) (one other new : List FollowerSeat) → AreSeatsOf words named one → AreSeatsOf words named other → length other ≡ length one → AreJoined one other new → AreSeatsOf words named new
joined_seats_of words named one other new first second same is desk below =
    let within : desk < length one = subst (λ (n : ℕ). desk < n) is.count below in
    joined_seat words named desk (seat_at one desk) (seat_at other desk) (seat_at new desk) (first desk within) (second desk (omega (arith, same, within))) (is.each desk)

-- ---- the last of a list

-- what is popped off the front of a list is the next of it
pub popped : {X : Type 0} (all old new : List X) (one : X) → old ≡ take (length old) all → old ≡ new ++ one ∷ []
    → (new ≡ take (length new) all) × ((d : X) → one ≡ get_or all (length new) d) × (length new < length all) × (length old ≡ length new + 1)
popped {X = X} all old new one front items =
    let n = length new in
    let long : length old ≡ n + 1 = ap length items ∙ length_push new one in
    let short : length old ≤ length all = omega (arith, ap length front ∙ length-take (length old) all) in
    let within : n < length all = omega (arith, long, short) in
    let last : (d : X) → (new ≡ take n all) × (one ≡ get_or all n d) = λ d. same_from_push new (take n all) one (get_or all n d)
    (sym items ∙ (front ∙ (ap (λ (k : ℕ). take k all) long ∙ take_more all n d within))) in
    ((last one).0, λ d. (last d).1, within, long)

-- the seats but the last, which is joined
pub joined_popped : (one others old new own : List FollowerSeat) (other was next : FollowerSeat) (place : ℕ) → old ≡ take (length old) others → old ≡ new ++ other ∷ []
    → place ≡ length new → place < length one → JoinedFrom (length old) one others own → was ≡ seat_at own place → IsJoinedSeat was other next
    → JoinedFrom (length new) one others (slice_set own place next)
joined_popped one others old new own other was next place front items at within is read both =
    let last = popped others old new other front items in
    let here : IsJoinedSeat (seat_at own (length new)) (seat_at others (length new)) next =
    subst (λ (s : FollowerSeat). IsJoinedSeat (seat_at own (length new)) s next) (last.1 no_seat)
    (subst (λ (s : FollowerSeat). IsJoinedSeat s other next) (read ∙ ap (λ (n : ℕ). seat_at own n) at) both) in
    subst (λ (n : ℕ). JoinedFrom (length new) one others (slice_set own n next)) (sym at)
    (joined_next (length new) one others own next (subst (λ (n : ℕ). n < length one) at within) (subst (λ (n : ℕ). JoinedFrom n one others own) last.3 is) here)
