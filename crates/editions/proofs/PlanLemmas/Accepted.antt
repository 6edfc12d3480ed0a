-- Names that accepted commands list.
use Rattle.std.proofs.Common.{◌≡◌, ◌≢◌, ℕ, ◌<◌, zero, suc, Bool, true, false, refl, sym, ◌∙◌, ap, arith, length, get_or, List, [], ◌∷◌, ◌++◌, Some, None}
use Rattle.std.specs.Prelude.{Option, ◌||◌, codes}
use Rattle.std.specs.Str.{bytes_eq}
use Rattle.std.proofs.lemmas.Slice.Eq.{bytes_eq-Decides}
use Rattle.std.proofs.lemmas.List.{get_or_append_left, length_push}
use Rattle.std.proofs.lemmas.List.Quantifiers.{all_pairs_push}
use Rattle.std.proofs.lemmas.Option.{slice_get-get_or, get_or_from_slice_get, slice_get_within}
use Rattle.authority_book.specs.declared.rows.NameRow.{NameRow}
use Rattle.authority_book.specs.declared.refusals.Refusal.{Refusal}
use Rattle.authority_book.specs.declared.commands.Command.{Command}
use Rattle.authority_book.specs.declared.commands.Command.TheVariants.{Add, Delete, AddParent, AddChild, UpdateChild, RemoveChild, SuspendChild, UnsuspendChild, UpdateRoas, InitRoll, ActivateRoll}
use Rattle.authority_book.specs.Listed.{is_listed}
use Rattle.authority_book.specs.Settings.{Settings}
use Rattle.authority_book.specs.Verdict.{first_cause, refused_if, IsAccepted}
use Rattle.authority_book.specs.Fold.{after, after_all, empty_settings, fold_of, AcceptedInTurn, Taken}
use Rattle.editions.specs.Names.{AreTree}

-- ---- a name that isn't listed

no_first : (b c : Bool) → (b || c) ≡ false → b ≡ false
no_first true c h = cc
no_first false c h = refl

no_second : (b c : Bool) → (b || c) ≡ false → c ≡ false
no_second true c h = cc
no_second false c h = h

none-listed : (names : List NameRow) (name : List ℕ) → is_listed names name ≡ false → (k : ℕ) (d : NameRow) → k < length names → (get_or names k d).name ≢ name
none-listed [] name none k d inside = absurd (omega arith)
none-listed (row ∷ names) name none zero d inside = λ same.
    let found : bytes_eq row.name name ≡ true = (bytes_eq-Decides row.name name).1 same in
    let not : bytes_eq row.name name ≡ false = no_first (bytes_eq row.name name) (is_listed names name) none in
    let bad : true ≡ false = sym found ∙ not in cc
none-listed (row ∷ names) name none (suc k) d inside =
    none-listed names name (no_second (bytes_eq row.name name) (is_listed names name) none) k d (omega arith)

-- ---- causes

pub no_cause : (a b : Option Refusal) → first_cause a b ≡ None → a ≡ None
no_cause None b h = refl
no_cause (Some r) b h = cc

pub no_other : (a b : Option Refusal) → first_cause a b ≡ None → b ≡ None
no_other None b h = h
no_other (Some r) b h = cc

pub not_so : (b : Bool) (r : Refusal) → refused_if b r ≡ None → b ≡ false
not_so true r h = cc
not_so false r h = refl

-- ---- the names

tree-push : (names : List NameRow) (row : NameRow) → AreTree names → is_listed names row.name ≡ false → AreTree (names ++ row ∷ [])
tree-push names row tree none =
    let anchor : NameRow = record { name = codes "ta"; signer = 0 } in
    let inside : 0 < length names = slice_get_within names 0 anchor tree.anchor in
    let first : get_or names 0 anchor ≡ anchor = get_or_from_slice_get names 0 anchor anchor tree.anchor in
    let longer = length_push names row in
    record {
      anchor = slice_get-get_or (names ++ row ∷ []) 0 anchor (omega (arith, inside, longer))
          ∙ ap (λ (r : NameRow). Some r) (get_or_append_left names (row ∷ []) anchor 0 inside ∙ first);
      apart = all_pairs_push (λ (a b : NameRow). a.name ≢ b.name) names row tree.apart (none-listed names row.name none);
    }

tree-after : (settings : Settings) (command : Command) → IsAccepted settings command → AreTree settings.names → AreTree (after settings command).names
tree-after settings (Add name signer) accepted tree =
    let in_force = no_other _ _ accepted in
    let listed = no_cause _ _ (no_other _ _ in_force) in
    tree-push settings.names (record { name = name; signer = signer }) tree (not_so (is_listed settings.names name) _ listed)
tree-after settings Delete accepted tree = tree
tree-after settings (AddParent parent) accepted tree = tree
tree-after settings (AddChild child grant) accepted tree = tree
tree-after settings (UpdateChild child grant) accepted tree = tree
tree-after settings (RemoveChild child) accepted tree = tree
tree-after settings (SuspendChild child) accepted tree = tree
tree-after settings (UnsuspendChild child) accepted tree = tree
tree-after settings (UpdateRoas added removed) accepted tree = tree
tree-after settings InitRoll accepted tree = tree
tree-after settings ActivateRoll accepted tree = tree

tree-all : (settings : Settings) (commands : List Command) → AcceptedInTurn settings commands → AreTree settings.names → AreTree (after_all settings commands).names
tree-all settings [] accepted tree = tree
tree-all settings (command ∷ commands) accepted tree =
    tree-all (after settings command) commands accepted.1 (tree-after settings command accepted.0 tree)

tree-first : AreTree (empty_settings 0).names
tree-first = record { anchor = refl; apart = λ i j d less inside. absurd (omega arith) }

pub accepted-tree : (commands : List Command) → Taken 0 commands → AreTree (fold_of 0 commands).names
accepted-tree commands taken = tree-all (empty_settings 0) commands taken tree-first
