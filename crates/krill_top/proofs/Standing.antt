-- Desks and their states by their numbers, and how they go on.
use Rattle.std.proofs.Common.{◌≡◌, ◌≢◌, ℕ, zero, suc, ◌⊎◌, List, [], ◌∷◌, ◌++◌, map, refl, sym, ◌∙◌, ap, subst, inl, inr, arith, append_assoc, append-nil}
use Rattle.std.proofs.lemmas.Option.{none-some, same_Some}
use Rattle.std.proofs.lemmas.List.{map-append}
use Rattle.std.specs.Prelude.{Option, None, Some, slice_get, slice_set}
use Rattle.std.specs.Option.{option_map}
use Rattle.disk_api.specs.declared.disk.Disk.{Ghosts as DiskGhosts}
use Rattle.authority_book.specs.declared.commands.Command.{Command}
use Rattle.authority_book.specs.Fold.{fold_of}
use Rattle.cmd_codec.specs.Spelling.{spelling}
use Rattle.desk_core.specs.View.{View}
use Rattle.gate_journal.specs.Format.{held_by}
use Rattle.gate_journal.specs.Storing.{stored, entry_bytes}
use Rattle.krill_top.specs.DeskStates.{DeskStates, DeskState, commands_of, settings_at}
use Rattle.krill_top.specs.DesksInStates.{IsIn, InAt, AreIn, all_stored, RoseWithin, DeskGoesOn, DeskGoesOnAt, DesksGoOn, Leads}

-- ---- places of lists

same_or_other : (m n : ℕ) → (m ≡ n) ⊎ (m ≢ n)
same_or_other zero zero = inl refl
same_or_other zero (suc n) = inr (λ e. absurd (omega (arith, e)))
same_or_other (suc m) zero = inr (λ e. absurd (omega (arith, e)))
same_or_other (suc m) (suc n) = elim (same_or_other m n) [
  | inl e ↦ inl (ap suc e)
  | inr other ↦ inr (λ e. other (omega (arith, e)))
]

pub get_set_same : {A : Type 0} (l : List A) (n : ℕ) (x was : A) → slice_get l n ≡ Some was → slice_get (slice_set l n x) n ≡ Some x
get_set_same [] n x was e = absurd (none-some was e)
get_set_same (y ∷ l) zero x was e = refl
get_set_same (y ∷ l) (suc n) x was e = get_set_same l n x was e

pub get_set_other : {A : Type 0} (l : List A) (n m : ℕ) (x : A) → m ≢ n → slice_get (slice_set l n x) m ≡ slice_get l m
get_set_other [] n m x other = refl
get_set_other (y ∷ l) zero zero x other = absurd (other refl)
get_set_other (y ∷ l) zero (suc m) x other = refl
get_set_other (y ∷ l) (suc n) zero x other = refl
get_set_other (y ∷ l) (suc n) (suc m) x other = get_set_other l n m x (λ e. other (ap suc e))

pub set_same : {A : Type 0} (l : List A) (n : ℕ) (x : A) → slice_get l n ≡ Some x → slice_set l n x ≡ l
set_same [] n x e = refl
set_same (y ∷ l) zero x e = ap (λ z. z ∷ l) (sym (same_Some y x e))
set_same (y ∷ l) (suc n) x e = ap (λ k. y ∷ k) (set_same l n x e)

-- ---- a desk and its state

-- the state of the desk at a number
pub record At {D : Type 0} (desk_states : DeskStates) (number : ℕ) (desk : View D) : Type 0 where
  pub state : DeskState
  pub there : slice_get desk_states number ≡ Some state
  pub stands : IsIn number desk state

at_from : {D : Type 0} (desk_states : DeskStates) (number : ℕ) (desk : View D) (s : Option DeskState) → slice_get desk_states number ≡ s → InAt number (Some desk) s → At desk_states number desk
at_from desk_states number desk None is stands = absurd stands
at_from desk_states number desk (Some state) is stands = record { state = state; there = is; stands = stands }

pub at_place : {D : Type 0} (desks : List (View D)) (desk_states : DeskStates) (number : ℕ) (desk : View D) → AreIn desks desk_states → slice_get desks number ≡ Some desk → At desk_states number desk
at_place {D} desks desk_states number desk all here =
    at_from desk_states number desk (slice_get desk_states number) refl (subst (λ (o : Option (View D)). InAt number o (slice_get desk_states number)) here (all number))

pub settings_in : {D : Type 0} (number : ℕ) (desk : View D) (state : DeskState) → IsIn number desk state → desk.settings ≡ fold_of number state.commands
settings_in number desk state stands = stands.commands.fold ∙ ap (λ (n : ℕ). fold_of n state.commands) stands.number_is

pub settings_there : {D : Type 0} (desk_states : DeskStates) (number : ℕ) (desk : View D) (at : At desk_states number desk) → desk.settings ≡ settings_at desk_states number
settings_there desk_states number desk at =
    settings_in number desk at.state at.stands ∙ ap (λ (o : Option DeskState). fold_of number (commands_of o)) (sym at.there)

-- one desk goes to another state, and no other changes
pub in_set : {D : Type 0} (desks : List (View D)) (desk_states : DeskStates) (number : ℕ) (desk new : View D) (state : DeskState)
    → AreIn desks desk_states → slice_get desks number ≡ Some desk → (at : At desk_states number desk) → IsIn number new state → AreIn (slice_set desks number new) (slice_set desk_states number state)
in_set {D} desks desk_states number desk new state all here at is m = elim (same_or_other m number) [
  | inl e ↦ subst (λ (k : ℕ). InAt k (slice_get (slice_set desks number new) k) (slice_get (slice_set desk_states number state) k)) (sym e)
      (subst (λ (o : Option (View D)). InAt number o (slice_get (slice_set desk_states number state) number)) (sym (get_set_same desks number new desk here))
      (subst (λ (o : Option DeskState). InAt number (Some new) o) (sym (get_set_same desk_states number state at.state at.there)) is))
  | inr other ↦ subst (λ (o : Option (View D)). InAt m o (slice_get (slice_set desk_states number state) m)) (sym (get_set_other desks number m new other))
      (subst (λ (o : Option DeskState). InAt m (slice_get desks m) o) (sym (get_set_other desk_states number m state other)) (all m))
]

-- ---- bytes

-- nothing more is stored
pub none_stored : (payloads : List (List ℕ)) (known : Option (List ℕ)) → known ≡ option_map (all_stored payloads []) known
none_stored payloads None = refl
none_stored payloads (Some bytes) = refl

pub one_stored : (payloads : List (List ℕ)) (payload : List ℕ) (known : Option (List ℕ))
    → option_map (stored (held_by payloads) (entry_bytes payload)) known ≡ option_map (all_stored payloads (payload ∷ [])) known
one_stored payloads payload None = refl
one_stored payloads payload (Some bytes) = refl

all_twice : (payloads first second : List (List ℕ)) (bytes : List ℕ)
    → all_stored (payloads ++ first) second (all_stored payloads first bytes) ≡ all_stored payloads (first ++ second) bytes
all_twice payloads [] second bytes = ap (λ (p : List (List ℕ)). all_stored p second bytes) (append-nil payloads)
all_twice payloads (payload ∷ first) second bytes =
    let now = stored (held_by payloads) (entry_bytes payload) bytes in
    ap (λ (p : List (List ℕ)). all_stored p second (all_stored (payloads ++ payload ∷ []) first now)) (sym (append_assoc payloads (payload ∷ []) first))
    ∙ all_twice (payloads ++ payload ∷ []) first second now

known_twice : (payloads first second : List (List ℕ)) (known : Option (List ℕ))
    → option_map (all_stored (payloads ++ first) second) (option_map (all_stored payloads first) known) ≡ option_map (all_stored payloads (first ++ second)) known
known_twice payloads first second None = refl
known_twice payloads first second (Some bytes) = ap Some (all_twice payloads first second bytes)

-- ---- going on

module _ {D : Type 0} (disk_of : DiskGhosts D) where
  pub goes_same : (disk : D) (state : DeskState) → DeskGoesOn disk_of disk disk state state
  goes_same disk state = record {
    accepted = [];
    commands = sym (append-nil state.commands);
    bytes = λ is_open. none_stored (map spelling state.commands) (disk_of.content disk);
    stays = λ shut. refl;
    cause = λ was_open shut. absurd (shut was_open);
    later = omega arith;
    room = λ small. small;
  }

  same_at : (number : ℕ) (desk : Option (View D)) (state : Option DeskState) → InAt number desk state → DeskGoesOnAt disk_of desk desk state state
  same_at number None None is = tt
  same_at number None (Some state) is = absurd is
  same_at number (Some desk) None is = absurd is
  same_at number (Some desk) (Some state) is = goes_same desk.disk state

  pub go_on_same : (desks : List (View D)) (desk_states : DeskStates) → AreIn desks desk_states → DesksGoOn disk_of desks desks desk_states desk_states
  go_on_same desks desk_states all number = same_at number (slice_get desks number) (slice_get desk_states number) (all number)

  pub go_on_set : (desks : List (View D)) (desk_states : DeskStates) (number : ℕ) (desk new : View D) (state : DeskState)
      → AreIn desks desk_states → slice_get desks number ≡ Some desk → (at : At desk_states number desk) → DeskGoesOn disk_of desk.disk new.disk at.state state
      → DesksGoOn disk_of desks (slice_set desks number new) desk_states (slice_set desk_states number state)
  go_on_set desks desk_states number desk new state all here at goes m = elim (same_or_other m number) [
    | inl e ↦ subst (λ (k : ℕ). DeskGoesOnAt disk_of (slice_get desks k) (slice_get (slice_set desks number new) k) (slice_get desk_states k) (slice_get (slice_set desk_states number state) k)) (sym e)
        (subst (λ (o : Option (View D)). DeskGoesOnAt disk_of o (slice_get (slice_set desks number new) number) (slice_get desk_states number) (slice_get (slice_set desk_states number state) number)) (sym here)
        (subst (λ (o : Option (View D)). DeskGoesOnAt disk_of (Some desk) o (slice_get desk_states number) (slice_get (slice_set desk_states number state) number)) (sym (get_set_same desks number new desk here))
        (subst (λ (o : Option DeskState). DeskGoesOnAt disk_of (Some desk) (Some new) o (slice_get (slice_set desk_states number state) number)) (sym at.there)
        (subst (λ (o : Option DeskState). DeskGoesOnAt disk_of (Some desk) (Some new) (Some at.state) o) (sym (get_set_same desk_states number state at.state at.there)) goes))))
    | inr other ↦ subst (λ (o : Option (View D)). DeskGoesOnAt disk_of (slice_get desks m) o (slice_get desk_states m) (slice_get (slice_set desk_states number state) m)) (sym (get_set_other desks number m new other))
        (subst (λ (o : Option DeskState). DeskGoesOnAt disk_of (slice_get desks m) (slice_get desks m) (slice_get desk_states m) o) (sym (get_set_other desk_states number m state other))
        (go_on_same desks desk_states all m))
  ]

  -- where a desk that went on is open, it was open before
  open_before : (was is : DeskState) (doubt : Option Command) → was.doubt ≡ doubt → (¬ (was.doubt ≡ None) → is ≡ was) → is.doubt ≡ None → was.doubt ≡ None
  open_before was is None is_doubt stays is_open = is_doubt
  open_before was is (Some command) is_doubt stays is_open =
      sym (ap (λ (s : DeskState). s.doubt) (stays (λ none. none-some command (sym none ∙ is_doubt)))) ∙ is_open

  cause_of : (old mid new : D) (was between is : DeskState) (doubt : Option Command) → between.doubt ≡ doubt → DeskGoesOn disk_of old mid was between → DeskGoesOn disk_of mid new between is
      → was.doubt ≡ None → ¬ (is.doubt ≡ None) → RoseWithin (disk_of.fault_count old) (disk_of.fault_count new)
  cause_of old mid new was between is None is_doubt first second begun shut =
      let rose = second.cause is_doubt shut in
      record { from = rose.from; to = rose.to; begins = omega (arith, first.later, rose.begins); risen = rose.risen; ends = rose.ends }
  cause_of old mid new was between is (Some command) is_doubt first second begun shut =
      let rose = first.cause begun (λ none. none-some command (sym none ∙ is_doubt)) in
      record { from = rose.from; to = rose.to; begins = rose.begins; risen = rose.risen; ends = omega (arith, second.later, rose.ends) }

  goes_then : (old mid new : D) (was between is : DeskState) → DeskGoesOn disk_of old mid was between → DeskGoesOn disk_of mid new between is → DeskGoesOn disk_of old new was is
  goes_then old mid new was between is first second = record {
    accepted = first.accepted ++ second.accepted;
    commands = second.commands ∙ ap (λ (l : List Command). l ++ second.accepted) first.commands ∙ append_assoc was.commands first.accepted second.accepted;
    bytes = λ is_open.
        let a = map spelling was.commands in
        let b = map spelling first.accepted in
        let c = map spelling second.accepted in
        let payloads : map spelling between.commands ≡ a ++ b = ap (map spelling) first.commands ∙ map-append spelling was.commands first.accepted in
        second.bytes is_open
        ∙ ap (option_map (all_stored (map spelling between.commands) c)) (first.bytes (open_before between is between.doubt refl second.stays is_open))
        ∙ ap (λ (p : List (List ℕ)). option_map (all_stored p c) (option_map (all_stored a b) (disk_of.content old))) payloads
        ∙ known_twice a b c (disk_of.content old)
        ∙ ap (λ (p : List (List ℕ)). option_map (all_stored a p) (disk_of.content old)) (sym (map-append spelling first.accepted second.accepted));
    stays = λ shut.
        let same = first.stays shut in
        second.stays (subst (λ (s : DeskState). ¬ (s.doubt ≡ None)) (sym same) shut) ∙ same;
    cause = cause_of old mid new was between is between.doubt refl first second;
    later = omega (arith, first.later, second.later);
    room = λ small. second.room (first.room small);
  }

  then_at : (old mid new : Option (View D)) (was between is : Option DeskState) → DeskGoesOnAt disk_of old mid was between → DeskGoesOnAt disk_of mid new between is → DeskGoesOnAt disk_of old new was is
  then_at None (Some mid) new was between is first second = absurd first
  then_at (Some old) None new was between is first second = absurd first
  then_at None None (Some new) was between is first second = absurd second
  then_at None None None (Some was) between is first second = absurd first
  then_at None None None None (Some between) is first second = absurd first
  then_at None None None None None (Some is) first second = absurd second
  then_at None None None None None None first second = tt
  then_at (Some old) (Some mid) None was between is first second = absurd second
  then_at (Some old) (Some mid) (Some new) None between is first second = absurd first
  then_at (Some old) (Some mid) (Some new) (Some was) None is first second = absurd first
  then_at (Some old) (Some mid) (Some new) (Some was) (Some between) None first second = absurd second
  then_at (Some old) (Some mid) (Some new) (Some was) (Some between) (Some is) first second = goes_then old.disk mid.disk new.disk was between is first second

  pub go_on_then : (old mid new : List (View D)) (was between is : DeskStates) → DesksGoOn disk_of old mid was between → DesksGoOn disk_of mid new between is → DesksGoOn disk_of old new was is
  go_on_then old mid new was between is first second number =
      then_at (slice_get old number) (slice_get mid number) (slice_get new number) (slice_get was number) (slice_get between number) (slice_get is number) (first number) (second number)

  -- nothing changes
  pub stay : (P : DeskStates → DeskStates → Type 0) (desks : List (View D)) → ((before : DeskStates) → AreIn desks before → P before before) → Leads disk_of P desks desks
  stay P desks so before all = record { after = before; step = so before all; stands = all; disks = go_on_same desks before all }

  pub leads_so : (P Q : DeskStates → DeskStates → Type 0) (old new : List (View D)) → Leads disk_of P old new → ((before after : DeskStates) → P before after → Q before after) → Leads disk_of Q old new
  leads_so P Q old new leads so before all =
      let goes = leads before all in
      record { after = goes.after; step = so before goes.after goes.step; stands = goes.stands; disks = goes.disks }
