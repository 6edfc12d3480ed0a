-- The worked history is legal.
use Rattle.std.proofs.Common.{◌≡◌, ℕ, ◌+◌, zero, suc, refl, arith, inl, inr, false, List, [], ◌∷◌, length, replicate, take, Some, None}
use Rattle.std.specs.Prelude.{Option, IfSome, codes}
use Rattle.std.proofs.lemmas.List.Sums.{AllPass-from_list_all}
use Rattle.names.specs.Name.{IsName, is_name_byte}
use Rattle.authority_book.specs.declared.commands.Command.{Command}
use Rattle.authority_book.specs.declared.commands.Command.TheVariants.{Add, Delete, AddParent}
use Rattle.cmd_codec.specs.Spelling.{spelling, part_spelling, bytes_32}
use Rattle.key_ids.specs.Uris.{Bases}
use Rattle.editions.specs.Edition.{Edition}
use Rattle.histories.specs.Devices.{Device, Signature, Store, opened, for_desk, stopped_from, new_store}
use Rattle.histories.specs.Events.{after_all, signing}
use Rattle.histories.specs.Legal.{AreFound, IsLegal, CanBeWritten, MayBePublished}
use Rattle.histories.specs.Worked.{worked, with_edition, with_doubted_edition}

a-named : IsName (codes "A")
a-named = record { not_empty = omega arith; short = omega arith; plain = AllPass-from_list_all is_name_byte (codes "A") refl }

b-named : IsName (codes "B")
b-named = record { not_empty = omega arith; short = omega arith; plain = AllPass-from_list_all is_name_byte (codes "B") refl }

c-named : IsName (codes "C")
c-named = record { not_empty = omega arith; short = omega arith; plain = AllPass-from_list_all is_name_byte (codes "C") refl }

d-named : IsName (codes "D")
d-named = record { not_empty = omega arith; short = omega arith; plain = AllPass-from_list_all is_name_byte (codes "D") refl }

ta-named : IsName (codes "ta")
ta-named = record { not_empty = omega arith; short = omega arith; plain = AllPass-from_list_all is_name_byte (codes "ta") refl }

-- How long the records are.
a-size : length (spelling (Add (codes "A") 0)) ≡ 10
unfolding spelling part_spelling bytes_32
a-size = refl

b-size : length (spelling (Add (codes "B") 0)) ≡ 10
unfolding spelling part_spelling bytes_32
b-size = refl

c-size : length (spelling (Add (codes "C") 0)) ≡ 10
unfolding spelling part_spelling bytes_32
c-size = refl

d-size : length (spelling (Add (codes "D") 0)) ≡ 10
unfolding spelling part_spelling bytes_32
d-size = refl

under-ta-size : length (spelling (AddParent (codes "ta"))) ≡ 7
unfolding spelling part_spelling bytes_32
under-ta-size = refl

under-a-size : length (spelling (AddParent (codes "A"))) ≡ 6
unfolding spelling part_spelling bytes_32
under-a-size = refl

delete-size : length (spelling Delete) ≡ 1
unfolding spelling part_spelling bytes_32
delete-size = refl

-- Desks at which nothing was done are found empty.
rest-found : (desk n : ℕ) (doubts : List (Option Command)) → AreFound (stopped_from desk doubts (replicate n (opened []))) (replicate n [])
rest-found desk zero doubts = tt
rest-found desk (suc n) doubts = (inl refl, rest-found (desk + 1) n doubts)

abbrev open-with : List Command → Device Command
open-with list = record { list = list; shut = false; doubt = None }

abbrev before_stop : Store
before_stop = signing (after_all new_store (take 5 worked)) []

pub worked_is_legal : (site : Bases) → IsLegal site worked
worked_is_legal site = (
  record {
    running = refl;
    device = open-with [];
    there = refl;
    is_open = refl;
    next = record { held = (a-named, (omega arith, tt)); accepted = refl; fits = omega (arith, a-size) };
  },
  (
    record {
      running = refl;
      device = open-with (Add (codes "A") 0 ∷ []);
      there = refl;
      is_open = refl;
      next = record { held = (b-named, (omega arith, tt)); accepted = refl; fits = omega (arith, a-size, b-size) };
    },
    (
      record {
        running = refl;
        device = open-with [];
        there = refl;
        is_open = refl;
        next = record { held = (ta-named, tt); accepted = refl; fits = omega (arith, under-ta-size) };
      },
      (
        record {
          running = refl;
          device = open-with (Add (codes "A") 0 ∷ Add (codes "B") 0 ∷ []);
          there = refl;
          is_open = refl;
          next = record { held = (c-named, (omega arith, tt)); accepted = refl; fits = omega (arith, a-size, b-size, c-size) };
        },
        (
          record {
            running = refl;
            device = open-with [];
            there = refl;
            is_open = refl;
            next = record { held = (a-named, tt); accepted = refl; fits = omega (arith, under-a-size) };
          },
          (
            record { running = refl; desks = stopping; press = tt },
            (
              record { desks = (inr (Add (codes "C") 0, refl, refl), (inl refl, (inl refl, rest-found 3 61 (None ∷ Some Delete ∷ [])))); press = inl refl },
              (
                record {
                  running = refl;
                  device = open-with (Add (codes "A") 0 ∷ Add (codes "B") 0 ∷ Add (codes "C") 0 ∷ []);
                  there = refl;
                  is_open = refl;
                  next = record { held = (d-named, (omega arith, tt)); accepted = refl; fits = omega (arith, a-size, b-size, c-size, d-size) };
                },
                tt,
              ),
            ),
          ),
        ),
      ),
    ),
  ),
)
  where
    stopping : (desk : ℕ) → IfSome (for_desk (None ∷ Some Delete ∷ []) desk) (CanBeWritten site before_stop desk)
    stopping zero = tt
    stopping (suc zero) = record {
      running = refl;
      device = open-with (AddParent (codes "ta") ∷ []);
      there = refl;
      is_open = refl;
      next = record { held = tt; accepted = refl; fits = omega (arith, under-ta-size, delete-size) };
    }
    stopping (suc (suc desk)) = tt

-- ---- with an edition

module _ (site : Bases) (signed : List Signature) (edition : Edition)
    (may : MayBePublished site (signing new_store signed) edition) where
  abbrev before_the_stop : Store
  before_the_stop = signing (after_all new_store (take 3 (with_edition signed edition))) []

  stops-within : (desk : ℕ) → IfSome (for_desk (None ∷ Some (AddParent (codes "ta")) ∷ []) desk) (CanBeWritten site before_the_stop desk)
  stops-within zero = tt
  stops-within (suc zero) = record {
    running = refl;
    device = open-with [];
    there = refl;
    is_open = refl;
    next = record { held = (ta-named, tt); accepted = refl; fits = omega (arith, under-ta-size) };
  }
  stops-within (suc (suc desk)) = tt

  pub edition_is_legal : IsLegal site (with_edition signed edition)
  edition_is_legal = (
    may,
    (
      record {
        running = refl;
        device = open-with [];
        there = refl;
        is_open = refl;
        next = record { held = (a-named, (omega arith, tt)); accepted = refl; fits = omega (arith, a-size) };
      },
      (
        record {
          running = refl;
          device = open-with (Add (codes "A") 0 ∷ []);
          there = refl;
          is_open = refl;
          next = record { held = (b-named, (omega arith, tt)); accepted = refl; fits = omega (arith, a-size, b-size) };
        },
        (
          record { running = refl; desks = stops-within; press = tt },
          (
            record {
              desks = (inr (Add (codes "B") 0, refl, refl), (inl refl, rest-found 2 62 (None ∷ Some (AddParent (codes "ta")) ∷ [])));
              press = inl refl;
            },
            (
              record {
                running = refl;
                device = open-with (Add (codes "A") 0 ∷ Add (codes "B") 0 ∷ []);
                there = refl;
                is_open = refl;
                next = record { held = (c-named, (omega arith, tt)); accepted = refl; fits = omega (arith, a-size, b-size, c-size) };
              },
              tt,
            ),
          ),
        ),
      ),
    ),
  )

  pub doubted_edition_is_legal : IsLegal site (with_doubted_edition signed edition)
  doubted_edition_is_legal = (
    may,
    (
      record {
        running = refl;
        device = open-with [];
        there = refl;
        is_open = refl;
        next = record { held = (a-named, (omega arith, tt)); accepted = refl; fits = omega (arith, a-size) };
      },
      (
        record { running = refl; desks = λ desk. tt; press = tt },
        (
          record { desks = (inl refl, rest-found 1 63 []); press = inr (edition, refl, refl) },
          tt,
        ),
      ),
    ),
  )
