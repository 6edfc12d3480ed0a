-- The rows of keys that the work names.
use Rattle.std.proofs.Common.{◌≡◌, ℕ, ◌<◌, Some, List, length, get_or, sym, ap, subst, ◌∙◌}
use Rattle.std.specs.List.{slice_get}
use Rattle.std.proofs.lemmas.List.{take-append-drop}
use Rattle.std.proofs.lemmas.Option.{slice_get-get_or}
use Rattle.key_roll.specs.declared.rows.KeyRow.{KeyRow}
use Rattle.key_roll.specs.declared.work.KeyName.{KeyName}
use Rattle.issue_drafts.specs.WorkKeys.{key_named, keys_at, IsPosition}

pub within : (rows : List KeyRow) (n : ℕ) (name : KeyName) (position : ℕ) → IsPosition (keys_at rows n) name (Some position)
    → position < length rows
within rows n name position h =
    subst (λ (l : List KeyRow). position < length l) (take-append-drop n rows) h.1

pub positioned : (rows : List KeyRow) (n : ℕ) (name : KeyName) (position : ℕ) (d : KeyRow) → IsPosition (keys_at rows n) name (Some position)
    → slice_get rows position ≡ Some (get_or rows position d)
positioned rows n name position d h = slice_get-get_or rows position d (within rows n name position h)

pub named : (rows : List KeyRow) (n : ℕ) (name : KeyName) (position : ℕ) (d : KeyRow) → IsPosition (keys_at rows n) name (Some position)
    → Some (get_or rows position d) ≡ key_named (keys_at rows n) name
named rows n name position d h =
    sym (h.0 ∙ (ap (λ (l : List KeyRow). slice_get l position) (take-append-drop n rows) ∙ positioned rows n name position d h))
