-- At which places of a desk's list commands are made, one line after another.
use Rattle.std.proofs.Common.{◌≡◌, ℕ, ◌+◌, ◌<◌, ◌≤◌, List, [], ◌∷◌, ◌++◌, map, length, append-nil, append_assoc, refl, sym, ◌∙◌, ap, subst, arith, inl, inr, ◌⊎◌, ⊎_elim, length-append}
use Rattle.std.proofs.lemmas.List.{length-map, length_push}
use mathlib.Core.List.{IsPrefix}
use Rattle.authority_book.specs.declared.commands.Command.{Command}
use Rattle.cmd_codec.specs.Spelling.{spelling}
use Rattle.commit_word.specs.Entries.{Has, Rises, IsPast}
use Rattle.commit_word.specs.Seats.{FollowerSeat}
use Rattle.manager.specs.Passes.{IsMore}
use Rattle.manager.specs.Commanding.{IsTaken}
use Rattle.session_lines.specs.Own.{MakesRising}

-- What was made stands at rising places, behind all that was seen before and before the end of what is seen then.
pub record GoesUp (old new : FollowerSeat) : Type 0 where
  pub mine : List (ℕ × List ℕ)
  pub made : new.mine ≡ old.mine ++ mine
  pub grows : IsPrefix old.seen new.seen
  pub rises : Rises mine
  pub past : IsPast (length old.seen) mine
  pub within : (place : ℕ) (entry : List ℕ) → Has mine place entry → place < length new.seen
  pub more : length old.seen ≤ length new.seen

pub rising_of : (old new : FollowerSeat) → GoesUp old new → MakesRising old new
rising_of old new up = record { mine = up.mine; made = up.made; rises = up.rises; past = up.past }

long_prefix : {X : Type 0} (xs ys : List X) → IsPrefix xs ys → length xs ≤ length ys
long_prefix xs ys p = let whole = ap length p.1 in omega (arith, length-append xs p.0, whole)

-- ---- nothing, or one command

pub up_none : (old new : FollowerSeat) → IsMore old new → GoesUp old new
up_none old new is = record {
  mine = [];
  made = ap (λ (s : FollowerSeat). s.mine) is.rest ∙ sym (append-nil old.mine);
  grows = is.grows;
  rises = tt;
  past = λ place entry has. absurd has;
  within = λ place entry has. absurd has;
  more = long_prefix old.seen new.seen is.grows;
}

pub up_one : (desk : ℕ) (command : Command) (signers count : ℕ) (old new : FollowerSeat) → IsTaken desk command signers count old new → GoesUp old new
up_one desk command signers count old new is =
    let entry = spelling command in
    let long : length new.seen ≡ length is.before + 1 =
    ap (λ (s : FollowerSeat). length s.seen) is.made ∙ (length_push (map spelling is.before) entry ∙ ap (λ (n : ℕ). n + 1) (length-map is.before spelling)) in
    let behind : length old.seen ≤ length is.before = subst (λ (n : ℕ). length old.seen ≤ n) (length-map is.before spelling) (long_prefix old.seen (map spelling is.before) is.behind) in
    record {
      mine = (length is.before, entry) ∷ [];
      made = ap (λ (s : FollowerSeat). s.mine) is.made;
      grows = is.grows;
      rises = ((λ place other has. absurd has), tt);
      past = λ place other has. ⊎_elim
          (λ (same : (length is.before, entry) ≡ (place, other)). let at : length is.before ≡ place = ap (λ (p : ℕ × List ℕ). p.0) same in omega (arith, at, behind))
          (λ none. absurd none)
          has;
      within = λ place other has. ⊎_elim
          (λ (same : (length is.before, entry) ≡ (place, other)). let at : length is.before ≡ place = ap (λ (p : ℕ × List ℕ). p.0) same in omega (arith, at, long))
          (λ none. absurd none)
          has;
      more = omega (arith, behind, long);
    }

-- ---- one after another

pub front_on : {X : Type 0} (xs ys zs : List X) → IsPrefix xs ys → IsPrefix ys zs → IsPrefix xs zs
front_on xs ys zs one two = (one.0 ++ two.0, sym (append_assoc xs one.0 two.0) ∙ (ap (λ (l : List _). l ++ two.0) one.1 ∙ two.1))

has_either : (xs ys : List (ℕ × List ℕ)) (place : ℕ) (entry : List ℕ) → Has (xs ++ ys) place entry → Has xs place entry ⊎ Has ys place entry
has_either [] ys place entry has = inr has
has_either (x ∷ xs) ys place entry has = ⊎_elim (λ is. inl (inl is)) (λ rest. ⊎_elim (λ h. inl (inr h)) (λ h. inr h) (has_either xs ys place entry rest)) has

rises_on : (xs ys : List (ℕ × List ℕ)) (end : ℕ) → Rises xs → ((place : ℕ) (entry : List ℕ) → Has xs place entry → place < end) → Rises ys → IsPast end ys → Rises (xs ++ ys)
rises_on [] ys end first within then past = then
rises_on (x ∷ xs) ys end first within then past = (
  λ place entry has. ⊎_elim
      (λ h. first.0 place entry h)
      (λ h. let low : x.0 < end = within x.0 x.1 (inl refl) in let high = past place entry h in omega (arith, low, high))
      (has_either xs ys place entry has),
  rises_on xs ys end first.1 (λ place entry h. within place entry (inr h)) then past,
)

pub up_both : (old mid new : FollowerSeat) → GoesUp old mid → GoesUp mid new → GoesUp old new
up_both old mid new one two = record {
  mine = one.mine ++ two.mine;
  made = two.made ∙ (ap (λ (l : List (ℕ × List ℕ)). l ++ two.mine) one.made ∙ append_assoc old.mine one.mine two.mine);
  grows = front_on old.seen mid.seen new.seen one.grows two.grows;
  rises = rises_on one.mine two.mine (length mid.seen) one.rises one.within two.rises two.past;
  past = λ place entry has. ⊎_elim
      (λ h. one.past place entry h)
      (λ h. let low = two.past place entry h in omega (arith, low, one.more))
      (has_either one.mine two.mine place entry has);
  within = λ place entry has. ⊎_elim
      (λ h. let low = one.within place entry h in omega (arith, low, two.more))
      (λ h. two.within place entry h)
      (has_either one.mine two.mine place entry has);
  more = omega (arith, one.more, two.more);
}
