-- How far the merges of two lists have come, and one step of each.
use Rattle.std.proofs.Common.{◌≡◌, ℕ, ◌+◌, ◌<◌, ◌≤◌, ◌&&◌, ◌||◌, not, true, false, nat_le, nat_lt, max, min, List, ◌∷◌, if◌then◌else◌, length, take, get_or, ap, arith}
use Rattle.std.specs.List.Sorted.{IsNonDecreasingBy}
use Rattle.std.proofs.lemmas.Bool.Decides.{nat_tests}
use Rattle.std.proofs.lemmas.List.{get_or_default}
use Rattle.std.proofs.lemmas.List.Folds.{list_any_more}
use Rattle.res_sets.specs.declared.numbers.Range.{Range}
use Rattle.res_sets.specs.Numbers.{spans, any_spans, RisesFrom}
use Rattle.res_sets.specs.Merging.{room_from, last_first}
use Rattle.res_sets.proofs.Lists.{RisesFrom-weaker, RisesFrom-tail, any_spans-below, any_spans-head, low_le}

-- what has been pushed: the numbers from first to last, if any, behind what was there
pub record Pushed (first last : ℕ) (old new : List Range) : Type 0 where
  pub rises : RisesFrom 0 new
  pub room : room_from 0 new ≡ (if nat_le first last then last + 2 else room_from 0 old)
  pub members : (n : ℕ) → any_spans new n ≡ (any_spans old n || (nat_le first n && nat_le n last))

-- out has what is in both lists so far, and a and b are what is left of the two
pub record Meeting (xs ys out a b : List Range) : Type 0 where
  pub out_rises : RisesFrom 0 out
  pub a_rises : RisesFrom 0 a
  pub b_rises : RisesFrom 0 b
  pub room : (n : ℕ) → any_spans a n ≡ true → any_spans b n ≡ true → room_from 0 out ≤ n
  pub members : (n : ℕ) → (any_spans out n || (any_spans a n && any_spans b n)) ≡ (any_spans xs n && any_spans ys n)

pub Meeting-room : (xs ys out a b rest others : List Range) (r s : Range) (first last : ℕ) → a ≡ r ∷ rest → b ≡ s ∷ others
    → first ≡ max r.first s.first → last ≡ min r.last s.last → Meeting xs ys out a b → first ≤ last → room_from 0 out ≤ first
Meeting-room xs ys out a b rest others r s first last a_is b_is first_is last_is so_far some =
    let room = so_far.room first in
    let in_a = any_spans-head a rest r first a_is in
    let in_b = any_spans-head b others s first b_is in
    grind (arith, nat_tests, room, in_a, in_b)

-- The range that ends first gives what the two have together, and is done with.
pub Meeting-left : (xs ys out new a b rest others : List Range) (r s : Range) (first last : ℕ) → a ≡ r ∷ rest → b ≡ s ∷ others
    → first ≡ max r.first s.first → last ≡ min r.last s.last → r.last ≤ s.last
    → Meeting xs ys out a b → Pushed first last out new → Meeting xs ys new rest b
Meeting-left xs ys out new a b rest others r s first last a_is b_is first_is last_is le so_far pushed =
    let tail = RisesFrom-tail 0 a rest r a_is so_far.a_rises in
    let tail_b = RisesFrom-tail 0 b others s b_is so_far.b_rises in
    record {
      out_rises = pushed.rises;
      a_rises = RisesFrom-weaker (r.last + 2) 0 rest (omega arith) tail;
      b_rises = so_far.b_rises;
      room = λ n in_a in_b.
          let above = low_le (r.last + 2) rest n tail in_a in
          let before = so_far.room n in
          let room = pushed.room in
          let head = any_spans-head a rest r n a_is in
          grind (arith, nat_tests, before, room, head);
      members = λ n.
          let head = any_spans-head a rest r n a_is in
          let head_b = any_spans-head b others s n b_is in
          let none = any_spans-below (s.last + 2) others n tail_b in
          grind (arith, nat_tests, none, head, head_b, pushed.members n, so_far.members n);
    }

Meeting-swap : (xs ys out a b : List Range) → Meeting xs ys out a b → Meeting ys xs out b a
Meeting-swap xs ys out a b so_far = record {
  out_rises = so_far.out_rises;
  a_rises = so_far.b_rises;
  b_rises = so_far.a_rises;
  room = λ n in_b in_a. so_far.room n in_a in_b;
  members = λ n. let m = so_far.members n in grind (arith, nat_tests);
}

pub Meeting-right : (xs ys out new a b rest others : List Range) (r s : Range) (first last : ℕ) → a ≡ r ∷ rest → b ≡ s ∷ others
    → first ≡ max r.first s.first → last ≡ min r.last s.last → s.last ≤ r.last
    → Meeting xs ys out a b → Pushed first last out new → Meeting xs ys new a others
Meeting-right xs ys out new a b rest others r s first last a_is b_is first_is last_is le so_far pushed =
    Meeting-swap ys xs new others a
    (Meeting-left ys xs out new b a others rest s r first last b_is a_is (omega arith) (omega arith) le (Meeting-swap xs ys out a b so_far) pushed)

-- what has been pushed: the numbers from first on below the end, if any, behind what was there
pub record PushedBefore (first end : ℕ) (old new : List Range) : Type 0 where
  pub rises : RisesFrom 0 new
  pub room : room_from 0 new ≡ (if nat_lt first end then end + 1 else room_from 0 old)
  pub members : (n : ℕ) → any_spans new n ≡ (any_spans old n || (nat_le first n && nat_lt n end))

-- out has what is in either list so far, and a and b are what is left of the two
pub record Joining (xs ys out a b : List Range) : Type 0 where
  pub out_rises : RisesFrom 0 out
  pub a_rises : RisesFrom (last_first out) a
  pub b_rises : RisesFrom (last_first out) b
  pub members : (n : ℕ) → (any_spans out n || (any_spans a n || any_spans b n)) ≡ (any_spans xs n || any_spans ys n)

pub Joining-next : (xs ys out new a b rest_a rest_b : List Range) (r : Range) → Joining xs ys out a b
    → RisesFrom r.first rest_a → RisesFrom r.first rest_b
    → ((n : ℕ) → (any_spans a n || any_spans b n) ≡ (spans r n || (any_spans rest_a n || any_spans rest_b n)))
    → RisesFrom 0 new → last_first new ≤ r.first → ((n : ℕ) → any_spans new n ≡ (any_spans out n || spans r n))
    → Joining xs ys new rest_a rest_b
Joining-next xs ys out new a b rest_a rest_b r so_far a_rest b_rest taken rises last pushed = record {
  out_rises = rises;
  a_rises = RisesFrom-weaker r.first (last_first new) rest_a last a_rest;
  b_rises = RisesFrom-weaker r.first (last_first new) rest_b last b_rest;
  members = λ n.
      let m = so_far.members n in
      let t = taken n in
      let p = pushed n in
      grind (arith, nat_tests);
}

-- Out has what is in the first list alone so far, a and b are what is left of the two, and what is
-- below from is done with.
pub record Taking (xs ys out a b : List Range) (from : ℕ) : Type 0 where
  pub out_rises : RisesFrom 0 out
  pub a_rises : RisesFrom 0 a
  pub b_rises : RisesFrom 0 b
  pub room : (n : ℕ) → from ≤ n → any_spans a n ≡ true → any_spans b n ≡ false → room_from 0 out ≤ n
  pub members : (n : ℕ) → (any_spans out n || (nat_le from n && (any_spans a n && not (any_spans b n)))) ≡ (any_spans xs n && not (any_spans ys n))

-- a range of the second list that ends before what is left of the first
pub Taking-past : (xs ys out a b rest others : List Range) (r s : Range) (from first : ℕ) → a ≡ r ∷ rest → b ≡ s ∷ others
    → first ≡ max r.first from → s.last < first → Taking xs ys out a b from → Taking xs ys out a others from
Taking-past xs ys out a b rest others r s from first a_is b_is first_is past so_far =
    let tail = RisesFrom-tail 0 a rest r a_is so_far.a_rises in
    let tail_b = RisesFrom-tail 0 b others s b_is so_far.b_rises in
    record {
      out_rises = so_far.out_rises;
      a_rises = so_far.a_rises;
      b_rises = RisesFrom-weaker (s.last + 2) 0 others (omega arith) tail_b;
      room = λ n done in_a not_in_b.
          let head = any_spans-head a rest r n a_is in
          let head_b = any_spans-head b others s n b_is in
          let ordered : r.first ≤ r.last = r.ordered in
          let none = any_spans-below (r.last + 2) rest n tail in
          let before = so_far.room n done in_a in
          grind (arith, nat_tests, head, head_b, before, none);
      members = λ n.
          let head = any_spans-head a rest r n a_is in
          let head_b = any_spans-head b others s n b_is in
          let ordered : r.first ≤ r.last = r.ordered in
          let none = any_spans-below (r.last + 2) rest n tail in
          grind (arith, nat_tests, none, head, head_b, so_far.members n);
    }

pub Taking-room : (xs ys out a b rest : List Range) (r : Range) (from first : ℕ) → a ≡ r ∷ rest → first ≡ max r.first from → first ≤ r.last
    → RisesFrom (first + 1) b → Taking xs ys out a b from → room_from 0 out ≤ first
Taking-room xs ys out a b rest r from first a_is first_is some b_rises so_far =
    let head = any_spans-head a rest r first a_is in
    let none = any_spans-below (first + 1) b first b_rises in
    let room = so_far.room first in
    grind (arith, nat_tests, head, none, room)

-- the head of the first list, of which the second has nothing more
pub Taking-whole : (xs ys out new a b rest : List Range) (r : Range) (from first : ℕ) → a ≡ r ∷ rest → first ≡ max r.first from
    → RisesFrom (r.last + 1) b → Taking xs ys out a b from → Pushed first r.last out new → Taking xs ys new rest b from
Taking-whole xs ys out new a b rest r from first a_is first_is b_rises so_far pushed =
    let tail = RisesFrom-tail 0 a rest r a_is so_far.a_rises in
    record {
      out_rises = pushed.rises;
      a_rises = RisesFrom-weaker (r.last + 2) 0 rest (omega arith) tail;
      b_rises = so_far.b_rises;
      room = λ n done in_a not_in_b.
          let above = low_le (r.last + 2) rest n tail in_a in
          let before = so_far.room n done in
          let room = pushed.room in
          let head = any_spans-head a rest r n a_is in
          grind (arith, nat_tests, before, room, head);
      members = λ n.
          let head = any_spans-head a rest r n a_is in
          let none = any_spans-below (r.last + 1) b n b_rises in
          grind (arith, nat_tests, none, head, pushed.members n, so_far.members n);
    }

-- an overlap of the two heads, of which the second ends first
pub Taking-cut : (xs ys out new a b rest others : List Range) (r s : Range) (from first : ℕ) → a ≡ r ∷ rest → b ≡ s ∷ others
    → first ≡ max r.first from → first ≤ s.last → s.first ≤ r.last → s.last < r.last
    → Taking xs ys out a b from → PushedBefore first s.first out new → Taking xs ys new a others (s.last + 1)
Taking-cut xs ys out new a b rest others r s from first a_is b_is first_is not_past touch before_end so_far pushed =
    let tail = RisesFrom-tail 0 a rest r a_is so_far.a_rises in
    let tail_b = RisesFrom-tail 0 b others s b_is so_far.b_rises in
    record {
      out_rises = pushed.rises;
      a_rises = so_far.a_rises;
      b_rises = RisesFrom-weaker (s.last + 2) 0 others (omega arith) tail_b;
      room = λ n done in_a not_in_b.
          let before = so_far.room n in
          let room = pushed.room in
          let ordered : s.first ≤ s.last = s.ordered in
          let head_b = any_spans-head b others s n b_is in
          grind (arith, nat_tests, before, room, head_b);
      members = λ n.
          let head = any_spans-head a rest r n a_is in
          let head_b = any_spans-head b others s n b_is in
          let ordered : s.first ≤ s.last = s.ordered in
          let none = any_spans-below (r.last + 2) rest n tail in
          let none_b = any_spans-below (s.last + 2) others n tail_b in
          grind (arith, nat_tests, none, none_b, head, head_b, pushed.members n, so_far.members n);
    }

-- an overlap of the two heads, of which the first ends first
pub Taking-done : (xs ys out new a b rest others : List Range) (r s : Range) (from first : ℕ) → a ≡ r ∷ rest → b ≡ s ∷ others
    → first ≡ max r.first from → s.first ≤ r.last → r.last ≤ s.last
    → Taking xs ys out a b from → PushedBefore first s.first out new → Taking xs ys new rest b from
Taking-done xs ys out new a b rest others r s from first a_is b_is first_is touch le so_far pushed =
    let tail = RisesFrom-tail 0 a rest r a_is so_far.a_rises in
    let tail_b = RisesFrom-tail 0 b others s b_is so_far.b_rises in
    record {
      out_rises = pushed.rises;
      a_rises = RisesFrom-weaker (r.last + 2) 0 rest (omega arith) tail;
      b_rises = so_far.b_rises;
      room = λ n done in_a not_in_b.
          let above = low_le (r.last + 2) rest n tail in_a in
          let before = so_far.room n done in
          let room = pushed.room in
          let head = any_spans-head a rest r n a_is in
          grind (arith, nat_tests, before, room, head);
      members = λ n.
          let head = any_spans-head a rest r n a_is in
          let head_b = any_spans-head b others s n b_is in
          let none = any_spans-below (r.last + 2) rest n tail in
          let none_b = any_spans-below (s.last + 2) others n tail_b in
          grind (arith, nat_tests, none, none_b, head, head_b, pushed.members n, so_far.members n);
    }

-- the next of ranges that stand by their firsts begins behind what came before it
pub behind_next : (xs : List Range) (out : List Range) (range : Range) (i : ℕ) → IsNonDecreasingBy (λ (r : Range). r.first) xs → i < length xs → range ≡ get_or xs i range
    → last_first out ≤ range.first → (k : ℕ) (d : Range) → i + 1 ≤ k → k < length xs → last_first out ≤ (get_or xs k d).first
behind_next xs out range i sorted inside is last k d later within =
    let order = sorted i k range (omega arith) within in
    let e : range.first ≡ (get_or xs i range).first = ap (λ (r : Range). r.first) is in
    let same : get_or xs k range ≡ get_or xs k d = get_or_default xs k range d within in
    let f : (get_or xs k range).first ≡ (get_or xs k d).first = ap (λ (r : Range). r.first) same in
    omega (arith, order, e, f, last)

pub any_spans-next : (xs out new : List Range) (range : Range) (i n : ℕ) → i < length xs → range ≡ get_or xs i range
    → any_spans out n ≡ any_spans (take i xs) n → any_spans new n ≡ (any_spans out n || spans range n) → any_spans new n ≡ any_spans (take (i + 1) xs) n
any_spans-next xs out new range i n inside is before pushed =
    let more : any_spans (take (i + 1) xs) n ≡ (any_spans (take i xs) n || spans (get_or xs i range) n) = list_any_more (λ (r : Range). spans r n) xs i range inside in
    let e : spans range n ≡ spans (get_or xs i range) n = ap (λ (r : Range). spans r n) is in
    grind (arith, nat_tests, more, e, before, pushed)
