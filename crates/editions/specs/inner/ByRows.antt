-- An edition that follows others, told by what stands: of what each new CRL lists, the rows of the
-- live keys and the table say what the editions before it have.
use Rattle.std.specs.Prelude.{◌≡◌, ℕ, Bool, false, not, ◌&&◌, nat_le, ◌==◌}
use Rattle.std.specs.Prelude.{List, ◌++◌}
use Rattle.std.specs.Prelude.{map, filter, All, is_some}
use Rattle.std.specs.Str.{bytes_eq}
use Rattle.key_ids.specs.Uris.{anchor_uri}
use Rattle.key_roll.specs.declared.rows.KeyRow.{KeyRow}
use Rattle.key_roll.specs.declared.rows.RevokedRow.{RevokedRow}
use Rattle.key_roll.specs.declared.issued.IssuedRow.{IssuedRow}
use Rattle.pub_set.specs.declared.steps.Change.{Change}
use Rattle.pub_set.specs.Changes.{change_at}
use Rattle.issue_plan.specs.Wanted.{PlanInput}
use Rattle.issue_keys.specs.Keys.{id_of}
use Rattle.issue_drafts.specs.Revoking.{revoked_row}
use Rattle.issue_drafts.specs.Firsts.{AreFirsts}
use Rattle.issue_sign.specs.Objects.{Entries}
use Rattle.editions.specs.Edition.{Edition}
use Rattle.editions.specs.Wanted.{keeps_point}
use Rattle.editions.specs.Step.{Premises, IsStepBy}

-- A certificate of the key that stands and ends: its object is put anew or withdrawn. A CRL has
-- none, and the trust anchor's own isn't counted.
abbrev pub is_ended : PlanInput → List Change → KeyRow → IssuedRow → Bool
is_ended plan_input changes key row =
    bytes_eq row.issuer.bytes (id_of key) && not (row.serial == 0)
    && not (bytes_eq row.uri (anchor_uri plan_input.site))
    && is_some (change_at changes row.uri)

-- The entries of the key's last CRL, and behind them the certificates that end.
abbrev pub with_ended : PlanInput → List Change → KeyRow → List RevokedRow
with_ended plan_input changes key =
    key.revoked
    ++ map (revoked_row plan_input.basis.moment)
    (filter (is_ended plan_input changes key) plan_input.issued)

-- Without what had ended before the key's last CRL.
abbrev pub candidates : PlanInput → List Change → KeyRow → List RevokedRow
candidates plan_input changes key =
    filter (λ row. nat_le key.this_update row.not_after) (with_ended plan_input changes key)

-- Each new CRL lists them.
abbrev pub AreListed : PlanInput → List Change → List KeyRow → Entries → Type 0
AreListed plan_input changes keys entries =
    All (λ key. keeps_point plan_input keys key ≡ false
    → AreFirsts (candidates plan_input changes key) (entries key)) keys

-- The edition follows the others at that clock, told so.
abbrev pub IsStepByRows : Premises → ℕ → List Edition → Edition → Type 0
IsStepByRows premises clock editions edition =
    IsStepBy (λ editions edition plan_input keys entries.
    AreListed plan_input edition.changes keys entries) premises clock editions edition
