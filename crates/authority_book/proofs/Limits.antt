-- An accepted command keeps the lists within their limits, their names plain, and the origins in order.
use Rattle.std.proofs.Common.{◌≡◌, ◌≤◌, ◌+◌, ℕ, suc, Bool, true, false, refl, ap, arith, length, List, [], ◌∷◌, cond}
use Rattle.std.specs.Prelude.{None, Some, not, nat_le, nat_lt, filter}
use Rattle.std.specs.Ordering.{is_lt}
use Rattle.std.proofs.lemmas.List.{length-append}
use Rattle.std.proofs.lemmas.List.Elements.{All-nil, All-cons, All-append}
use Rattle.std.specs.Str.{bytes_eq}
use Rattle.origins.specs.declared.Origin.{Origin}
use Rattle.authority_book.specs.declared.rows.Child.{Child}
use Rattle.authority_book.specs.declared.commands.Command.{Command}
use Rattle.authority_book.specs.declared.commands.Command.TheVariants.{Add, Delete, AddParent, AddChild, UpdateChild, RemoveChild, SuspendChild, UnsuspendChild, UpdateRoas, InitRoll, ActivateRoll}
use Rattle.authority_book.specs.declared.refusals.Refusal.{Refusal}
use Rattle.authority_book.specs.declared.refusals.Refusal.TheVariants.{Deleted, NameTaken, TooManyAuthorities, ChildThere, TooManyChildren, AnchorOnly, OriginThere, OriginTwice, NoSuchOrigin, TooManyOrigins}
use Rattle.authority_book.specs.Origins.{origin_cmp, without, with_one, with_each, first_repeated, IsAscending}
use Rattle.authority_book.specs.Listed.{is_listed, is_child, with_changed, granted, suspended_as}
use Rattle.authority_book.specs.Settings.{Settings}
use Rattle.authority_book.specs.inner.Limits.{AreKept, AddsName}
use Rattle.authority_book.specs.declared.rows.NameRow.{NameRow}
use Rattle.names.specs.Name.{IsName}
use Rattle.authority_book.specs.Verdict.{first_cause, refused_if, refused_at, is_anchor, most_authorities, most_children, most_origins, there_already, missing, count_with, too_many, roas_refusal, refusal_in_force, IsAccepted}
use Rattle.authority_book.specs.Fold.{after, after_all, empty_settings, fold_of, AcceptedInTurn, Taken}
use Rattle.authority_book.proofs.Changes.{none_first, accepted-distinct, ascending-without, distinct_from_ascending}
use Rattle.authority_book.proofs.Ascending.{ascending-with_each}
use Rattle.authority_book.proofs.Sorted.{ascending-nil}

pub not_refused : (cause : Bool) (refusal : Refusal) → refused_if cause refusal ≡ None → cause ≡ false
not_refused true refusal none = absurd (cc)
not_refused false refusal none = refl

below_limit : (limit n : ℕ) → nat_le limit n ≡ false → n + 1 ≤ limit
below_limit limit n h = grind arith

-- The causes behind the first aren't there either.
pub in_force : (settings : Settings) (command : Command) → IsAccepted settings command → refusal_in_force settings command None ≡ None
in_force settings command accepted =
    (none_first (refused_if settings.deleted Deleted) (refusal_in_force settings command None) accepted).1

length-with_changed : (children : List Child) (name : List ℕ) (change : Child → Child) →
    length (with_changed children name change) ≡ length children
length-with_changed [] name change = refl
length-with_changed (child ∷ rest) name change =
    elim (bytes_eq child.name name) as (λ b. length (cond b (change child ∷ rest) (child ∷ with_changed rest name change)) ≡ length (child ∷ rest))
    [ true ↦ refl | false ↦ ap (λ n. suc n) (length-with_changed rest name change) ]

length-filter_le : {X : Type 0} (keep : X → Bool) (xs : List X) → length (filter keep xs) ≤ length xs
length-filter_le keep [] = omega arith
length-filter_le keep (x ∷ xs) =
    let rest = length-filter_le keep xs in
    elim (keep x) as (λ b. length (cond b (x ∷ filter keep xs) (filter keep xs)) ≤ length (x ∷ xs))
    [ true ↦ omega arith | false ↦ omega arith ]

length-with_one : (xs : List Origin) (x : Origin) → length (with_one xs x) ≡ length xs + 1
length-with_one [] x = refl
length-with_one (first ∷ rest) x =
    let further = length-with_one rest x in
    elim (is_lt (origin_cmp x first)) as (λ b. length (cond b (x ∷ first ∷ rest) (first ∷ with_one rest x)) ≡ length (first ∷ rest) + 1)
    [ true ↦ omega arith | false ↦ omega arith ]

length-with_each : (xs added : List Origin) → length (with_each xs added) ≡ length xs + length added
length-with_each xs [] = omega arith
length-with_each xs (x ∷ rest) =
    let one = length-with_one xs x in
    let more = length-with_each (with_one xs x) rest in
    omega arith

few_enough : (n : ℕ) → too_many n ≡ None → n ≤ most_origins
few_enough n none = by_test (nat_lt most_origins n) refl none
  where
    by_test : (b : Bool) → nat_lt most_origins n ≡ b → cond b (Some (TooManyOrigins n)) None ≡ None → n ≤ most_origins
    by_test true past at = absurd (cc)
    by_test false within at = grind arith

-- An accepted change of the origins keeps within the limit.
changed_few : (configured added removed : List Origin) → roas_refusal configured added removed ≡ None →
    length (with_each (without configured removed) added) ≤ most_origins
changed_few configured added removed accepted =
    let many = too_many (count_with configured added removed) in
    let missed = first_cause (refused_at NoSuchOrigin (missing configured removed)) many in
    let twice = first_cause (refused_at OriginTwice (first_repeated removed)) missed in
    let there = none_first (refused_at OriginThere (there_already configured added removed)) (first_cause (refused_at OriginTwice (first_repeated added)) twice) accepted in
    let once = none_first (refused_at OriginTwice (first_repeated added)) twice there.1 in
    let second = none_first (refused_at OriginTwice (first_repeated removed)) missed once.1 in
    let third = none_first (refused_at NoSuchOrigin (missing configured removed)) many second.1 in
    let few = few_enough (count_with configured added removed) third.1 in
    rw (length-with_each (without configured removed) added) few

changed_up : (configured added removed : List Origin) → IsAscending configured → roas_refusal configured added removed ≡ None →
    IsAscending (with_each (without configured removed) added)
changed_up configured added removed up accepted =
    ascending-with_each (without configured removed) added (ascending-without configured removed up)
    (accepted-distinct configured added removed (distinct_from_ascending configured up) accepted)

pub kept-after : (s : Settings) (command : Command) → AreKept s.names s.children s.origins → AddsName command → IsAccepted s command →
    AreKept (after s command).names (after s command).children (after s command).origins
kept-after s (Add name signer) kept named accepted =
    let free = none_first (refused_if (not (is_anchor s)) AnchorOnly) _ (in_force s (Add name signer) accepted) in
    let fresh = none_first (refused_if (is_listed s.names name) NameTaken) _ free.1 in
    let few = none_first (refused_if (nat_le most_authorities (length s.names)) TooManyAuthorities) _ fresh.1 in
    let within = below_limit most_authorities (length s.names) (not_refused _ TooManyAuthorities few.0) in
    record {
      few_names = rw (length-append s.names (record { name = name; signer = signer } ∷ [])) within;
      plain = All-append (λ (row : NameRow). IsName row.name) s.names (record { name = name; signer = signer } ∷ [])
          kept.plain (All-cons (λ (row : NameRow). IsName row.name) (record { name = name; signer = signer }) [] named (All-nil (λ (row : NameRow). IsName row.name)));
      few_children = kept.few_children;
      few_origins = kept.few_origins;
      ascending = kept.ascending;
    }
kept-after s Delete kept named accepted = kept
kept-after s (AddParent parent) kept named accepted = kept
kept-after s (AddChild child grant) kept named accepted =
    let fresh = none_first (refused_if (is_child s.children child) ChildThere) _ (in_force s (AddChild child grant) accepted) in
    let within = below_limit most_children (length s.children) (not_refused _ TooManyChildren fresh.1) in
    record {
      few_names = kept.few_names;
      plain = kept.plain;
      few_children = rw (length-append s.children (record { name = child; grant = grant; suspended = false } ∷ [])) within;
      few_origins = kept.few_origins;
      ascending = kept.ascending;
    }
kept-after s (UpdateChild child grant) kept named accepted = record {
  few_names = kept.few_names;
  plain = kept.plain;
  few_children = rw (length-with_changed s.children child (granted grant)) kept.few_children;
  few_origins = kept.few_origins;
  ascending = kept.ascending;
}
kept-after s (RemoveChild child) kept named accepted =
    let fewer = length-filter_le (λ c. not (bytes_eq c.name child)) s.children in
    record {
      few_names = kept.few_names;
      plain = kept.plain;
      few_children = omega (arith, kept.few_children, fewer);
      few_origins = kept.few_origins;
      ascending = kept.ascending;
    }
kept-after s (SuspendChild child) kept named accepted = record {
  few_names = kept.few_names;
  plain = kept.plain;
  few_children = rw (length-with_changed s.children child (suspended_as true)) kept.few_children;
  few_origins = kept.few_origins;
  ascending = kept.ascending;
}
kept-after s (UnsuspendChild child) kept named accepted = record {
  few_names = kept.few_names;
  plain = kept.plain;
  few_children = rw (length-with_changed s.children child (suspended_as false)) kept.few_children;
  few_origins = kept.few_origins;
  ascending = kept.ascending;
}
kept-after s (UpdateRoas added removed) kept named accepted =
    let roas = in_force s (UpdateRoas added removed) accepted in
    record {
      few_names = kept.few_names;
      plain = kept.plain;
      few_children = kept.few_children;
      few_origins = changed_few s.origins added removed roas;
      ascending = changed_up s.origins added removed kept.ascending roas;
    }
kept-after s InitRoll kept named accepted = kept
kept-after s ActivateRoll kept named accepted = kept

up-after : (s : Settings) (command : Command) → IsAscending s.origins → IsAccepted s command → IsAscending (after s command).origins
up-after s (Add name signer) up accepted = up
up-after s Delete up accepted = up
up-after s (AddParent parent) up accepted = up
up-after s (AddChild child grant) up accepted = up
up-after s (UpdateChild child grant) up accepted = up
up-after s (RemoveChild child) up accepted = up
up-after s (SuspendChild child) up accepted = up
up-after s (UnsuspendChild child) up accepted = up
up-after s (UpdateRoas added removed) up accepted = changed_up s.origins added removed up (in_force s (UpdateRoas added removed) accepted)
up-after s InitRoll up accepted = up
up-after s ActivateRoll up accepted = up

up-all : (s : Settings) (commands : List Command) → IsAscending s.origins → AcceptedInTurn s commands → IsAscending (after_all s commands).origins
up-all s [] up accepted = up
up-all s (command ∷ commands) up accepted = up-all (after s command) commands (up-after s command up accepted.0) accepted.1

-- The origins that accepted commands come to ascend.
pub up-fold : (desk : ℕ) (commands : List Command) → Taken desk commands → IsAscending (fold_of desk commands).origins
up-fold desk commands taken = up-all (empty_settings desk) commands ascending-nil taken
