-- Passes that are joined, the last first.
use Rattle.std.proofs.Common.{◌≡◌, ◌≢◌, ℕ, zero, suc, ◌+◌, ◌-◌, ◌<◌, ◌≤◌, List, [], ◌∷◌, ◌++◌, length, map, take, get_or, refl, sym, ap, ◌∙◌, subst, arith, inl, inr, ◌⊎◌, ⊎_elim}
use Rattle.std.specs.Prelude.{◌↔◌, All}
use Rattle.std.proofs.lemmas.Bool.{cases_eq}
use Rattle.std.proofs.lemmas.List.{get_or_past}
use mathlib.Core.List.{IsPrefix}
use Rattle.commit_word.specs.Entries.{Has, ShareNoPlace, joined}
use Rattle.commit_word.specs.Seats.{FollowerSeat}
use Rattle.desk_core.specs.View.{View}
use Rattle.manager.specs.Lists.{seat_at, no_seat}
use Rattle.manager.specs.Passes.{PassValue, IsSplitOff, IsJoinedSeat, IsJoined}
use Rattle.manager.specs.Ended.{AreEnded}
use Rattle.manager.specs.Sharing.{no_pass, pass_at, seat_of, made_with, IsOfAll, AreShared}
use Rattle.manager.proofs.Knowing.{prefix_none, prefix_on}
use Rattle.manager.proofs.Seating.{popped}

-- ---- split off

pub split_as : (old mid other : PassValue) → mid ≡ record old { places = mid.places } → IsSplitOff mid other → IsSplitOff old other
split_as old mid other rest is =
    let so = subst (λ (p : PassValue). IsSplitOff p other) rest is in
    record { seats = so.seats; shown = so.shown; places = so.places }

pub split_rest : (old mid new : PassValue) → mid ≡ record old { places = mid.places } → new ≡ record mid { places = new.places } → new ≡ record old { places = new.places }
split_rest old mid new was is = is ∙ ap (λ (p : PassValue). record p { places = new.places }) was

-- ---- two seats

abbrev pub BothLaw : Type 0
BothLaw = (xs ys : List (ℕ × List ℕ)) (place : ℕ) (entry : List ℕ) → Has (joined xs ys) place entry ↔ (Has xs place entry ⊎ Has ys place entry)

module _ (law : BothLaw) (one other new : FollowerSeat) (is : IsJoinedSeat one other new) (place : ℕ) (entry : List ℕ) where
  mine_is : new.mine ≡ joined one.mine other.mine
  mine_is = ap (λ (s : FollowerSeat). s.mine) is.both

  of_both : Has new.mine place entry → Has one.mine place entry ⊎ Has other.mine place entry
  of_both has = (law one.mine other.mine place entry).0 (subst (λ (l : List (ℕ × List ℕ)). Has l place entry) mine_is has)

  from_both : Has one.mine place entry ⊎ Has other.mine place entry → Has new.mine place entry
  from_both has = subst (λ (l : List (ℕ × List ℕ)). Has l place entry) (sym mine_is) ((law one.mine other.mine place entry).1 has)

-- ---- all seats

-- The first pass, or one behind this number.
abbrev pub IsIn : ℕ → ℕ → Type 0
IsIn from number = (number ≡ 0) ⊎ (from < number)

-- The passes behind that number were joined into the first.
pub record JoinedBehind (from : ℕ) (passes : List PassValue) (new : PassValue) : Type 0 where
  pub count : length new.seats ≡ length (pass_at passes 0).seats
  pub recovered : (desk : ℕ) → (seat_at new.seats desk).recovered ≡ (seat_of passes 0 desk).recovered
  pub seen : (number desk : ℕ) → IsIn from number → IsPrefix (seat_of passes number desk).seen (seat_at new.seats desk).seen
  pub shown : (number : ℕ) → IsIn from number → IsPrefix (pass_at passes number).shown new.shown
  pub made : (desk place : ℕ) (entry : List ℕ) → Has (seat_at new.seats desk).mine place entry → (number : ℕ) × Has (made_with passes number desk) place entry
  pub all : (number desk place : ℕ) (entry : List ℕ) → IsIn from number → Has (made_with passes number desk) place entry → Has (seat_at new.seats desk).mine place entry
  pub apart : (one other desk : ℕ) → IsIn from one → IsIn from other → one ≢ other → ShareNoPlace (made_with passes one desk) (made_with passes other desk)

-- it is the next one, or one of those that were joined
part : (from number : ℕ) → IsIn from number → (number ≡ suc from) ⊎ IsIn (suc from) number
part from number there = ⊎_elim
    (λ (first : number ≡ 0). inr (inl first))
    (λ (above : from < number). ⊎_elim (λ (same : number ≡ suc from). inl same) (λ (away : number ≢ suc from). inr (inr (omega (arith, above, away)))) (cases_eq number (suc from)))
    there

module _ (law : BothLaw) (from : ℕ) (passes : List PassValue) (mid new : PassValue) (is : JoinedBehind (suc from) passes mid) (join : IsJoined mid (pass_at passes (suc from)) new) where
  seat : (desk : ℕ) → IsJoinedSeat (seat_at mid.seats desk) (seat_of passes (suc from) desk) (seat_at new.seats desk)
  seat desk = join.seats.each desk

  all_then : (number desk place : ℕ) (entry : List ℕ) → IsIn from number → Has (made_with passes number desk) place entry → Has (seat_at new.seats desk).mine place entry
  all_then number desk place entry there has = from_both law (seat_at mid.seats desk) (seat_of passes (suc from) desk) (seat_at new.seats desk) (seat desk) place entry (⊎_elim
      (λ (same : number ≡ suc from). inr (subst (λ (n : ℕ). Has (made_with passes n desk) place entry) same has))
      (λ within. inl (is.all number desk place entry within has))
      (part from number there))

  apart_next : (one other desk : ℕ) → one ≡ suc from → IsIn (suc from) other → ShareNoPlace (made_with passes one desk) (made_with passes other desk)
  apart_next one other desk same within place entry made has there =
      (seat desk).apart place made entry (is.all other desk place made within there) (subst (λ (n : ℕ). Has (made_with passes n desk) place entry) same has)

  apart_then : (one other desk : ℕ) → IsIn from one → IsIn from other → one ≢ other → ShareNoPlace (made_with passes one desk) (made_with passes other desk)
  apart_then one other desk first second away = ⊎_elim
      (λ (same : one ≡ suc from). ⊎_elim
      (λ (both : other ≡ suc from). absurd (away (same ∙ sym both)))
      (λ within. apart_next one other desk same within)
      (part from other second))
      (λ inside. ⊎_elim
      (λ (same : other ≡ suc from). λ place entry made has there. apart_next other one desk same inside place made entry there has)
      (λ within. is.apart one other desk inside within away)
      (part from other second))
      (part from one first)

  pub joined_one : JoinedBehind from passes new
  joined_one = record {
    count = join.seats.count ∙ is.count;
    recovered = λ desk. ap (λ (s : FollowerSeat). s.recovered) (seat desk).both ∙ is.recovered desk;
    seen = λ number desk there. ⊎_elim
        (λ (same : number ≡ suc from). subst (λ (n : ℕ). IsPrefix (seat_of passes n desk).seen (seat_at new.seats desk).seen) (sym same) (seat desk).begins)
        (λ within. prefix_on (seat_of passes number desk).seen (seat_at mid.seats desk).seen (seat_at new.seats desk).seen (is.seen number desk within) (seat desk).grows)
        (part from number there);
    shown = λ number there. ⊎_elim
        (λ (same : number ≡ suc from). subst (λ (n : ℕ). IsPrefix (pass_at passes n).shown new.shown) (sym same) join.begins)
        (λ within. prefix_on (pass_at passes number).shown mid.shown new.shown (is.shown number within) join.grows)
        (part from number there);
    made = λ desk place entry has. ⊎_elim
        (λ was. is.made desk place entry was)
        (λ more. (suc from, more))
        (of_both law (seat_at mid.seats desk) (seat_of passes (suc from) desk) (seat_at new.seats desk) (seat desk) place entry has);
    all = all_then;
    apart = apart_then;
  }

-- ---- none yet

no_seat_at : (desk : ℕ) → seat_at no_pass.seats desk ≡ no_seat
no_seat_at desk = get_or_past [] desk no_seat (omega arith)

-- none was made with no pass
none_made : (passes : List PassValue) (number desk place : ℕ) (entry : List ℕ) → length passes ≤ number → Has (made_with passes number desk) place entry → ⊥
none_made passes number desk place entry past has =
    subst (λ (s : FollowerSeat). Has s.mine place entry) (no_seat_at desk)
    (subst (λ (p : PassValue). Has (seat_at p.seats desk).mine place entry) (get_or_past passes number no_pass past) has)

-- of those that are in at first, all but one are past the end
at_first : (P : PassValue → Type 0) (own : PassValue) (others : List PassValue) (number : ℕ) → IsIn (length others) number → P own → P no_pass → P (pass_at (own ∷ others) number)
at_first P own others number there one none = ⊎_elim
    (λ (first : number ≡ 0). subst (λ (n : ℕ). P (pass_at (own ∷ others) n)) (sym first) one)
    (λ (past : length others < number). subst P (sym (get_or_past (own ∷ others) number no_pass (omega (arith, past)))) none)
    there

apart_first : (own : PassValue) (others : List PassValue) (one other desk : ℕ) → IsIn (length others) one → IsIn (length others) other → one ≢ other
    → ShareNoPlace (made_with (own ∷ others) one desk) (made_with (own ∷ others) other desk)
apart_first own others one other desk first second away = ⊎_elim
    (λ (zeroth : one ≡ 0). ⊎_elim
    (λ (same : other ≡ 0). absurd (away (zeroth ∙ sym same)))
    (λ (past : length others < other). λ place entry made has there.
    absurd (none_made (own ∷ others) other desk place made (omega (arith, past)) there))
    second)
    (λ (past : length others < one). λ place entry made has there.
    absurd (none_made (own ∷ others) one desk place entry (omega (arith, past)) has))
    first

pub joined_none : (own : PassValue) (others : List PassValue) → JoinedBehind (length others) (own ∷ others) own
joined_none own others = record {
  count = refl;
  recovered = λ desk. refl;
  seen = λ number desk there. at_first (λ p. IsPrefix (seat_at p.seats desk).seen (seat_at own.seats desk).seen) own others number there (prefix_none (seat_at own.seats desk).seen)
      (subst (λ (s : FollowerSeat). IsPrefix s.seen (seat_at own.seats desk).seen) (sym (no_seat_at desk)) ((seat_at own.seats desk).seen, refl));
  shown = λ number there. at_first (λ p. IsPrefix p.shown own.shown) own others number there (prefix_none own.shown) (own.shown, refl);
  made = λ desk place entry has. (0, has);
  all = λ number desk place entry there. at_first (λ p. Has (seat_at p.seats desk).mine place entry → Has (seat_at own.seats desk).mine place entry) own others number there (λ has. has)
      (λ has. absurd (subst (λ (s : FollowerSeat). Has s.mine place entry) (no_seat_at desk) has));
  apart = apart_first own others;
}

-- ---- one after another

pub joined_popped : (law : BothLaw) (own : PassValue) (all old new : List PassValue) (other was is : PassValue) → old ≡ take (length old) all → old ≡ new ++ other ∷ []
    → JoinedBehind (length old) (own ∷ all) was → IsJoined was other is → JoinedBehind (length new) (own ∷ all) is
joined_popped law own all old new other was is front items so join =
    let last = popped all old new other front items in
    let long : length old ≡ suc (length new) = let n = last.3 in omega (arith, n) in
    joined_one law (length new) (own ∷ all) was is
    (subst (λ (n : ℕ). JoinedBehind n (own ∷ all) was) long so)
    (subst (λ (p : PassValue). IsJoined was p is) (last.1 no_pass) join)

all_in : (number : ℕ) → IsIn 0 number
all_in zero = inl refl
all_in (suc number) = inr (omega arith)

pub joined_of_all : (passes : List PassValue) (new : PassValue) → JoinedBehind 0 passes new → IsOfAll passes new
joined_of_all passes new is = record {
  count = is.count;
  recovered = is.recovered;
  seen = λ number desk. is.seen number desk (all_in number);
  shown = λ number. is.shown number (all_in number);
  made = is.made;
  all = λ number desk place entry. is.all number desk place entry (all_in number);
  apart = λ one other desk. is.apart one other desk (all_in one) (all_in other);
}

-- ---- in the end

pub shared_are : {D : Type 0} (passes : List PassValue) (new : PassValue) (desks : List (View D)) → IsOfAll passes new → AreEnded new.seats desks → AreShared passes desks
shared_are passes new desks of are = record {
  count = are.count ∙ of.count;
  each = λ number desk below.
      let is = are.each number desk below in
      let list : List (List ℕ) = (get_or desks number desk).records in
      record {
        number_is = is.number_is;
        begins = λ pass. prefix_on (seat_of passes pass number).seen (seat_at new.seats number).seen list (of.seen pass number) is.begins;
        stands = λ pass place entry has. is.made.stands place entry (of.all pass number place entry has);
        once = λ place behind within.
            let made = is.made.all place (subst (λ (n : ℕ). n ≤ place) (sym (of.recovered number)) behind) within in
            let by = of.made number place made.0 made.1 in
            record {
              number = by.0;
              entry = made.0;
              made = by.1;
              alone = λ other entry has. ⊎_elim (λ (same : other ≡ by.0). same) (λ (away : other ≢ by.0). absurd (of.apart other by.0 number away place entry made.0 has by.1)) (cases_eq other by.0);
            };
      };
}
