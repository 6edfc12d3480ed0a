-- A command by a name: the anchor's desk was seen, and then the command was given to the desk of the name.
use Rattle.std.proofs.Common.{◌≡◌, ◌≢◌, ℕ, List, length, sym, ◌∙◌, subst, ⊎_elim}
use Rattle.std.specs.Prelude.{Some}
use Rattle.std.proofs.lemmas.Bool.{cases_eq}
use mathlib.Core.List.{IsPrefix}
use Rattle.commit_word.specs.Seats.{FollowerSeat}
use Rattle.authority_book.specs.declared.commands.Command.{Command}
use Rattle.desk_core.specs.declared.faults.DeskFault.{DeskFault}
use Rattle.manager.specs.Lists.{seat_at}
use Rattle.manager.specs.Passes.{anchor_desk, Knows, IsNamed, IsMore, KnowsMore}
use Rattle.manager.specs.Commanding.{IsTaken, IsRefusedAt, IsAccepted, IsRefusedBy}
use Rattle.manager.proofs.Knowing.{OneList, prefix_none, named_stays}
use Rattle.manager.proofs.Taking.{taken_from, refused_from}

module _ (law : OneList) (old between new : List FollowerSeat) (name : List ℕ) (desk : ℕ) (more : KnowsMore old between)
    (others : (other : ℕ) → other ≢ desk → seat_at new other ≡ seat_at between other) (count : length new ≡ length between)
    (known : (commands : List Command) × Knows new anchor_desk commands) (named : IsNamed between name (Some desk)) where
  anchor_grows : IsPrefix (seat_at between desk).seen (seat_at new desk).seen → IsPrefix (seat_at between anchor_desk).seen (seat_at new anchor_desk).seen
  anchor_grows grows = ⊎_elim
      (λ (same : anchor_desk ≡ desk). subst (λ (n : ℕ). IsPrefix (seat_at between n).seen (seat_at new n).seen) (sym same) grows)
      (λ (away : anchor_desk ≢ desk). subst (λ (s : FollowerSeat). IsPrefix (seat_at between anchor_desk).seen s.seen) (sym (others anchor_desk away)) (prefix_none (seat_at between anchor_desk).seen))
      (cases_eq anchor_desk desk)

  named_then : IsPrefix (seat_at between desk).seen (seat_at new desk).seen → IsNamed new name (Some desk)
  named_then grows = named_stays law between new name desk (anchor_grows grows) known named

  more_others : (other : ℕ) → other ≢ desk → IsMore (seat_at old other) (seat_at new other)
  more_others other away = subst (λ (s : FollowerSeat). IsMore (seat_at old other) s) (sym (others other away)) (more.each other)

  pub accepted_is : (command : Command) (signers counted : ℕ) → IsTaken desk command signers counted (seat_at between desk) (seat_at new desk) → IsAccepted name command signers counted old new
  accepted_is command signers counted is = record {
    desk = desk;
    named = named_then is.grows;
    taken = taken_from desk command signers counted (seat_at old desk) (seat_at between desk) (seat_at new desk) (more.each desk) is;
    desks = count ∙ more.count;
    others = more_others;
  }

  pub refused_by : {D : Type 0} (command : Command) (signers : ℕ) (fault : DeskFault D) → IsRefusedAt desk command signers fault (seat_at between desk) (seat_at new desk) → IsRefusedBy name command signers fault old new
  refused_by command signers fault is =
      let whole = refused_from desk command signers fault (seat_at old desk) (seat_at between desk) (seat_at new desk) (more.each desk) is in
      record {
        desk = desk;
        named = named_then is.more.grows;
        refused = whole;
        more = record {
          count = count ∙ more.count;
          each = λ other. ⊎_elim
              (λ (same : other ≡ desk). subst (λ (n : ℕ). IsMore (seat_at old n) (seat_at new n)) (sym same) whole.more)
              (λ (away : other ≢ desk). more_others other away)
              (cases_eq other desk);
        };
      }
