-- What a seat made, counted.
use Rattle.std.proofs.Common.{◌≡◌, ℕ, zero, suc, ◌+◌, ◌-◌, ◌<◌, ◌≤◌, ◌^◌, min, List, [], ◌∷◌, ◌++◌, map, length, sym, ap, ◌∙◌, subst, arith, inl, inr, ⊎_elim, ◌⊎◌, length-append, Some}
use Rattle.std.specs.Prelude.{slice_get}
use Rattle.std.proofs.lemmas.List.{length_push, length-map}
use mathlib.Core.List.{IsPrefix}
use Rattle.commit_word.specs.Entries.{Has, Rises, IsPast, StandsIn, StandsWithin, joined, longer}
use Rattle.commit_word.specs.Seats.{FollowerSeat}
use Rattle.authority_book.specs.declared.commands.Command.{Command}
use Rattle.cmd_codec.specs.Spelling.{spelling}
use Rattle.manager.specs.inner.AtPlaces.{AreWithin, counted_up}
use Rattle.manager.specs.Commanding.{IsTaken}
use Rattle.manager.specs.Ended.{IsAllMade}

pub prefix_long : {X : Type 0} (xs ys : List X) → IsPrefix xs ys → length xs ≤ length ys
prefix_long xs ys p = let whole = ap length p.1 in omega (arith, length-append xs p.0, whole)

pub within_more : (mine : List (ℕ × List ℕ)) (m n : ℕ) → AreWithin mine m → m ≤ n → AreWithin mine n
within_more mine m n all less = λ place entry has. let low = all place entry has in omega (arith, low, less)

pub within_grown : (mine : List (ℕ × List ℕ)) (xs ys : List (List ℕ)) → AreWithin mine (length xs) → IsPrefix xs ys → AreWithin mine (length ys)
within_grown mine xs ys all grows = within_more mine (length xs) (length ys) all (prefix_long xs ys grows)

-- ---- one more

has_last : (mine : List (ℕ × List ℕ)) (one : ℕ × List ℕ) (place : ℕ) (entry : List ℕ) → Has (mine ++ one ∷ []) place entry → Has mine place entry ⊎ (one ≡ (place, entry))
has_last [] one place entry has = ⊎_elim (λ is. inr is) (λ none. absurd none) has
has_last (x ∷ mine) one place entry has = ⊎_elim (λ is. inl (inl is)) (λ rest. ⊎_elim (λ h. inl (inr h)) (λ is. inr is) (has_last mine one place entry rest)) has

pub within_push : (mine : List (ℕ × List ℕ)) (at n : ℕ) (made : List ℕ) → AreWithin mine n → at < n → AreWithin (mine ++ (at, made) ∷ []) n
within_push mine at n made all below = λ place entry has. ⊎_elim
    (λ h. all place entry h)
    (λ (is : (at, made) ≡ (place, entry)). let same : at ≡ place = ap (λ (p : ℕ × List ℕ). p.0) is in omega (arith, same, below))
    (has_last mine (at, made) place entry has)

pub counted_more : (m n k : ℕ) → m ≡ counted_up n → k ≡ min (m + 1) (2 ^ 64 - 1) → k ≡ counted_up (n + 1)
counted_more m n k is next = omega (arith, is, next)

pub counted_both : (a b m n k : ℕ) → a ≡ counted_up m → b ≡ counted_up n → k ≡ min (a + b) (2 ^ 64 - 1) → k ≡ counted_up (m + n)
counted_both a b m n k one other sum = omega (arith, one, other, sum)

-- a seat that made the record of a command
pub taken_within : (desk : ℕ) (command : Command) (signers count : ℕ) (old new : FollowerSeat) → IsTaken desk command signers count old new → AreWithin old.mine (length old.seen) → AreWithin new.mine (length new.seen)
taken_within desk command signers count old new is all =
    let long : length new.seen ≡ length is.before + 1 =
    ap (λ (s : FollowerSeat). length s.seen) is.made ∙ (length_push (map spelling is.before) (spelling command) ∙ ap (λ (n : ℕ). n + 1) (length-map is.before spelling)) in
    subst (λ (s : FollowerSeat). AreWithin s.mine (length new.seen)) (sym is.made)
    (within_push old.mine (length is.before) (length new.seen) (spelling command) (within_grown old.mine old.seen new.seen all is.grows) (omega (arith, long)))

pub taken_counted : (desk : ℕ) (command : Command) (signers count : ℕ) (old new : FollowerSeat) → IsTaken desk command signers count old new → length new.mine ≡ length old.mine + 1
taken_counted desk command signers count old new is = ap (λ (s : FollowerSeat). length s.mine) is.made ∙ length_push old.mine (length is.before, spelling command)

-- ---- both

abbrev pub HasBoth : Type 0
HasBoth = (xs ys : List (ℕ × List ℕ)) (place : ℕ) (entry : List ℕ) → Has (joined xs ys) place entry → Has xs place entry ⊎ Has ys place entry

pub within_joined : HasBoth → (one other : List (ℕ × List ℕ)) (m n k : ℕ) → AreWithin one m → AreWithin other n → m ≤ k → n ≤ k → AreWithin (joined one other) k
within_joined law one other m n k first second less low = λ place entry has. ⊎_elim
    (λ h. within_more one m k first less place entry h)
    (λ h. within_more other n k second low place entry h)
    (law one other place entry has)

-- ---- all of a list

get_more : (xs rest : List (List ℕ)) (place : ℕ) (entry : List ℕ) → slice_get xs place ≡ Some entry → slice_get (xs ++ rest) place ≡ Some entry
get_more [] rest place entry is = absurd (cc)
get_more (x ∷ xs) rest zero entry is = is
get_more (x ∷ xs) rest (suc place) entry is = get_more xs rest place entry is

stands_more : (mine : List (ℕ × List ℕ)) (xs ys : List (List ℕ)) → StandsWithin xs mine → AreWithin mine (length xs) → IsPrefix xs ys → StandsIn ys mine
stands_more mine xs ys stands all grows = λ place entry has.
    subst (λ (l : List (List ℕ)). slice_get l place ≡ Some entry) grows.1
    (get_more xs grows.0 place entry (stands place entry has (all place entry has)))

abbrev pub AllPlaces : Type 0
AllPlaces = (mine : List (ℕ × List ℕ)) (from end : ℕ) → Rises mine → IsPast from mine → ((p : ℕ) (e : List ℕ) → Has mine p e → p < end)
    → length mine + from ≡ end → (place : ℕ) → from ≤ place → place < end → (entry : List ℕ) × Has mine place entry

pub all_made : AllPlaces → (recovered : ℕ) (mine : List (ℕ × List ℕ)) (seen loaded records : List (List ℕ)) → Rises mine → IsPast recovered mine → StandsWithin loaded mine
    → AreWithin mine (length seen) → IsPrefix seen loaded → IsPrefix loaded records → length mine + recovered ≡ length records → IsAllMade recovered mine records
all_made law recovered mine seen loaded records rises past stands all more whole count =
    let within : AreWithin mine (length loaded) = within_grown mine seen loaded all more in
    record {
      rises = rises;
      stands = stands_more mine loaded records stands within whole;
      all = law mine recovered (length records) rises past (within_grown mine loaded records within whole) count;
    }

-- a seat's count that equals that of the places
pub all_counted : (made recovered count m r : ℕ) → made ≡ counted_up m → recovered ≡ r → made + recovered ≡ count → made < 2 ^ 64 - 1 → m + r ≡ count
all_counted made recovered count m r is same all below = omega (arith, is, same, all, below)

-- ---- what a seat keeps

abbrev pub IsCounted : ℕ → ℕ → FollowerSeat → Type 0
IsCounted recovered made seat = (recovered ≡ seat.recovered) × (made ≡ counted_up (length seat.mine)) × AreWithin seat.mine (length seat.seen)

pub none_counted : (recovered : ℕ) (seat : FollowerSeat) → recovered ≡ seat.recovered → seat.mine ≡ [] → IsCounted recovered 0 seat
none_counted recovered seat same none = (
  same,
  subst (λ (m : List (ℕ × List ℕ)). 0 ≡ counted_up (length m)) (sym none) (omega arith),
  λ place entry has. absurd (subst (λ (m : List (ℕ × List ℕ)). Has m place entry) none has),
)

pub learned_counted : (recovered made : ℕ) (old new : FollowerSeat) (seen : List (List ℕ)) → new ≡ record old { seen = seen } → IsPrefix old.seen seen → IsCounted recovered made old → IsCounted recovered made new
learned_counted recovered made old new seen told grows is =
    subst (λ (s : FollowerSeat). IsCounted recovered made s) (sym told) (is.0, is.1, within_grown old.mine old.seen seen is.2 grows)

pub taken_kept : (recovered made next : ℕ) (desk : ℕ) (command : Command) (signers count : ℕ) (old new : FollowerSeat) → IsTaken desk command signers count old new
    → next ≡ min (made + 1) (2 ^ 64 - 1) → IsCounted recovered made old → IsCounted recovered next new
taken_kept recovered made next desk command signers count old new taken sum is = (
  is.0 ∙ sym (ap (λ (s : FollowerSeat). s.recovered) taken.made),
  counted_more made (length old.mine) next is.1 sum ∙ ap counted_up (sym (taken_counted desk command signers count old new taken)),
  taken_within desk command signers count old new taken is.2,
)

pub joined_counted : HasBoth → ((xs ys : List (ℕ × List ℕ)) → length (joined xs ys) ≡ length xs + length ys)
    → (recovered made other_recovered other_made next : ℕ) (one other new : FollowerSeat) → new ≡ record one { seen = longer one.seen other.seen; mine = joined one.mine other.mine }
    → IsPrefix one.seen new.seen → IsPrefix other.seen new.seen → next ≡ min (made + other_made) (2 ^ 64 - 1)
    → IsCounted recovered made one → IsCounted other_recovered other_made other → IsCounted recovered next new
joined_counted law count recovered made other_recovered other_made next one other new both grows begins sum is more = (
  is.0 ∙ sym (ap (λ (s : FollowerSeat). s.recovered) both),
  counted_both made other_made (length one.mine) (length other.mine) next is.1 more.1 sum
      ∙ ap counted_up (sym (ap (λ (s : FollowerSeat). length s.mine) both ∙ count one.mine other.mine)),
  subst (λ (m : List (ℕ × List ℕ)). AreWithin m (length new.seen)) (sym (ap (λ (s : FollowerSeat). s.mine) both))
      (within_joined law one.mine other.mine (length one.seen) (length other.seen) (length new.seen) is.2 more.2 (prefix_long one.seen new.seen grows) (prefix_long other.seen new.seen begins)),
)
