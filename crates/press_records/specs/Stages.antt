-- The stages of key rollovers that rows tell (RFC 6489 section 2).
use Rattle.std.specs.Prelude.{ℕ, ◌+◌, ◌==◌, Bool, true, false, ◌&&◌, ◌||◌, nat_le, List, [], ◌∷◌, if◌then◌else◌}
use Rattle.key_roll.specs.declared.rows.Role.TheVariants.{New, Current, Old}
use Rattle.key_roll.specs.Roles.{is_role}
use Rattle.press_records.specs.Rows.{RowValue}

-- The one key of an authority: the current one. No new one waits, so that there is no time since.
abbrev pub is_alone : RowValue → Bool
is_alone row = is_role row.role Current && (row.since == 0)

-- The two keys of an authority: a new one and the current one, or the current one and an old one. They
-- are of one stage.
abbrev pub are_two : RowValue → RowValue → Bool
are_two row other =
    (row.since == other.since) && (row.done == other.done)
    && ((is_role row.role New && is_role other.role Current)
    || (is_role row.role Current && is_role other.role Old && (row.since == 0)))

-- Of authorities from some desk on, by their desks, the keys of a stage each.
abbrev pub are_stages : ℕ → List RowValue → Bool
are_stages low [] = true
are_stages low (row ∷ []) = nat_le low row.desk && is_alone row
are_stages low (row ∷ other ∷ rows) =
    nat_le low row.desk
    && (if row.desk == other.desk then are_two row other && are_stages (row.desk + 1) rows
    else is_alone row && are_stages (row.desk + 1) (other ∷ rows))

-- The keys of a stage of each authority, and of the trust anchor, at desk 0, the current one alone.
abbrev pub are_staged : List RowValue → Bool
are_staged [] = false
are_staged (row ∷ rows) = (row.desk == 0) && is_alone row && are_stages 1 rows
