-- Desks that hold no command, by their records.
use Rattle.std.proofs.Common.{◌≡◌, ◌≢◌, ℕ, ◌+◌, ◌<◌, ◌≤◌, [], List, length, sym, refl, ap, subst, ◌∙◌, inl, inr, arith}
use Rattle.std.proofs.lemmas.List.{length-map, nil_from_length}
use Rattle.std.proofs.lemmas.Bool.{cases_lt}
use Rattle.std.proofs.lemmas.Option.{none-some, slice_get_past}
use Rattle.std.specs.Prelude.{Option, None, Some, IfSome, slice_get}
use Rattle.cmd_codec.specs.Spelling.{spelling}
use Rattle.desk_core.specs.View.{View}
use Rattle.krill_top.specs.DeskStates.{DeskStates, DeskState, commands_of}
use Rattle.krill_top.specs.DesksInStates.{IsIn, InAt, AreIn}
use Rattle.krill_top.specs.Run.{IsFirstHeld}
use Rattle.krill_top.proofs.Since.{there_is}

-- as many commands as records
as_many : {D : Type 0} (number : ℕ) (desk : View D) (state : DeskState) → IsIn number desk state → length desk.records ≡ length state.commands
as_many number desk state is = ap length is.commands.recorded.spelled ∙ length-map state.commands spelling

held_by : {D : Type 0} (number held : ℕ) (desk : Option (View D)) (state : Option DeskState) → InAt number desk state → IfSome desk (λ d. held ≡ length d.records) → held ≢ 0
    → (desk ≡ None → ⊥) → length (commands_of state) ≡ held
held_by number held None state is counted some there = absurd (there refl)
held_by number held (Some desk) None is counted some there = absurd is
held_by number held (Some desk) (Some state) is counted some there = omega (arith, counted, as_many number desk state is)

none_by : {D : Type 0} (number : ℕ) (desk : Option (View D)) (state : Option DeskState) → InAt number desk state → IfSome desk (λ d. length d.records ≡ 0) → commands_of state ≡ []
none_by number None None is none = refl
none_by number None (Some state) is none = absurd is
none_by number (Some desk) None is none = absurd is
none_by number (Some desk) (Some state) is none = nil_from_length state.commands (omega (arith, none, as_many number desk state is))

abbrev pub NoneBefore : {D : Type 0} → List (View D) → ℕ → Type 0
NoneBefore desks end = (number : ℕ) → number < end → IfSome (slice_get desks number) (λ d. length d.records ≡ 0)

module _ {D : Type 0} where
  zero_held : (held : ℕ) (desk : Option (View D)) → IfSome desk (λ d. held ≡ length d.records) → held ≡ 0 → IfSome desk (λ d. length d.records ≡ 0)
  zero_held held None counted zero = tt
  zero_held held (Some desk) counted zero = omega (arith, counted, zero)

  -- one desk more holds none
  pub none_more : (desks : List (View D)) (desk held : ℕ) → NoneBefore desks desk → IfSome (slice_get desks desk) (λ d. held ≡ length d.records) → held ≡ 0 → NoneBefore desks (desk + 1)
  none_more desks desk held before counted zero number inside = elim (cases_lt number desk) [
    | inl earlier ↦ before number earlier
    | inr far ↦ (
        let same : desk ≡ number = omega (arith, far, inside) in
        subst (λ (n : ℕ). IfSome (slice_get desks n) (λ d. length d.records ≡ 0)) same (zero_held held (slice_get desks desk) counted zero))
  ]

  -- no desk holds any
  pub none_held : (desks : List (View D)) (end : ℕ) (desk_states : DeskStates) → length desks ≤ end → NoneBefore desks end → AreIn desks desk_states → IsFirstHeld desk_states None
  none_held desks end desk_states all before are desk =
      none_by desk (slice_get desks desk) (slice_get desk_states desk) (are desk) (elim (cases_lt desk end) [
        | inl earlier ↦ before desk earlier
        | inr far ↦ subst (λ (d : Option (View D)). IfSome d (λ v. length v.records ≡ 0)) (sym (slice_get_past desks desk (omega (arith, far, all)))) tt
      ])

  -- the first one that does
  pub first_held : (desks : List (View D)) (desk held : ℕ) (desk_states : DeskStates) → desk < length desks → NoneBefore desks desk
      → IfSome (slice_get desks desk) (λ d. held ≡ length d.records) → held ≢ 0 → AreIn desks desk_states → IsFirstHeld desk_states (Some (desk, held))
  first_held desks desk held desk_states inside before counted some are = (
    some,
    held_by desk held (slice_get desks desk) (slice_get desk_states desk) (are desk) counted some (λ none. none-some (there_is desks desk inside).0 (sym none ∙ (there_is desks desk inside).1)),
    λ earlier less. none_by earlier (slice_get desks earlier) (slice_get desk_states earlier) (are earlier) (before earlier less),
  )
