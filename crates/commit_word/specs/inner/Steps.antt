-- What each step does to the views, and what it tells its seat.
use Rattle.std.specs.Prelude.{◌≡◌, ℕ, ◌≤◌, List, [], ◌∷◌, ◌++◌, map, None, true, false}
use Rattle.std.specs.Prelude.{length, slice_get, MatchOption}
use mathlib.Core.List.{IsPrefix}
use Rattle.atomic_table.specs.Table.{Me, Step}
use Rattle.atomic_table.specs.Seated.{TableId}
use Rattle.commit_word.specs.declared.views.View.{View}
use Rattle.commit_word.specs.Entries.{Has, StandsIn, IsMadeIn, joined, longer, shorter}
use Rattle.commit_word.specs.Rule.{laid_out}
use Rattle.commit_word.specs.Seats.{OwnerSeat, FollowerSeat}

-- the owner at first, which has seen the recovered list
abbrev pub first_owner : List (List ℕ) → View
first_owner list = record {
  owns = true;
  recovered = length list;
  seen = list;
  told = [];
  mine = [];
  coming = None;
}

-- a follower that has seen what v has, and made these
abbrev pub follower_of : View → List (ℕ × List ℕ) → View
follower_of v mine = record {
  owns = false;
  recovered = v.recovered;
  seen = v.seen;
  told = [];
  mine = mine;
  coming = None;
}

-- the view that a seat leaves when another took it in
abbrev pub spent : View
spent = record { owns = false; recovered = 0; seen = []; told = []; mine = []; coming = None }

-- a follower takes in another seat: the longer list, and what both made
abbrev pub both_seats : View → View → View
both_seats v w = record v {
  seen = longer v.seen w.seen;
  told = shorter v.seen w.seen;
  mine = joined v.mine w.mine;
}

-- the owner takes in another seat
abbrev pub owner_with : View → View → View
owner_with v w = record v { told = w.seen; mine = joined v.mine w.mine }

-- one entry is set aside: the owner notes it, and a new follower made it, at the place that comes next
abbrev pub set_aside : List (List ℕ) → View → View
set_aside entries v = record v { coming = slice_get entries 0 }

abbrev pub made_aside : List (List ℕ) → View → View
made_aside entries v = follower_of v (map (λ entry. (length v.seen, entry)) entries)

-- what contracts see of a seat of the word z whose view is v
abbrev pub owner_seat : TableId → View → OwnerSeat
owner_seat z v = record {
  word = z;
  recovered = v.recovered;
  seen = v.seen;
  mine = v.mine;
  coming = v.coming;
}

abbrev pub follower_seat_of : TableId → View → FollowerSeat
follower_seat_of z v = record { word = z; recovered = v.recovered; seen = v.seen; mine = v.mine }

-- what the rule says of a view to its seat, and more where that is the owner's
abbrev pub IsMadeBy : View → Type 0
IsMadeBy v = IsMadeIn v.recovered v.seen v.mine

abbrev pub IsOwnedBy : View → Type 0
IsOwnedBy v = StandsIn (laid_out v) v.mine

module _ {S : Type 0} where
  -- the seat sees the whole list, of the length that is found
  abbrev pub Loads : Step S → Me S View → ℕ → Me S View → Type 0
  Loads s v found w =
      (w.1 ≡ []) × (w.0 ≡ record v.0 { seen = w.0.seen })
      × IsPrefix v.0.seen w.0.seen × (length w.0.seen ≡ found) × IsMadeBy w.0
      × ((place : ℕ) (entry : List ℕ) → Has w.0.mine place entry → place ≤ found)

  -- nothing changes, and the seat is told what the rule says of it
  abbrev pub Looks : Step S → Me S View → ℕ → Me S View → Type 0
  Looks s v found w =
      (w ≡ (v.0, [])) × IsPrefix v.0.told v.0.seen × IsMadeBy v.0
      × (v.0.owns ≡ true → IsOwnedBy v.0)

  -- the list grows by the entry set aside, or where there is none by one that the owner made
  abbrev pub Bumps : Step S → Me S View → ℕ → Me S View → Type 0
  Bumps s v found w =
      (w.1 ≡ []) × IsMadeBy w.0 × IsOwnedBy w.0
      × MatchOption v.0.coming
      ((entry : List ℕ) × (w.0 ≡ record v.0 {
        seen = v.0.seen ++ entry ∷ [];
        mine = v.0.mine ++ (length v.0.seen, entry) ∷ [];
      }))
      (λ entry. w.0 ≡ record v.0 { seen = v.0.seen ++ entry ∷ []; coming = None })
