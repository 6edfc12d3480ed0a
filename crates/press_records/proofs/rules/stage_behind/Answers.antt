use Rattle.std.proofs.Common.{rules, ◌≡◌, ◌≤◌, ◌+◌, ◌∷◌, List, map, length, sym, subst, true, arith}
use Rattle.key_roll.specs.declared.rows.KeyRow.{KeyRow}
use Rattle.press_records.specs.Rows.{row_value}
use Rattle.press_records.specs.Stages.{is_alone, are_two, are_stages}
use Rattle.press_records.proofs.Stages.{behind_two, behind_alone}
use Rattle.press_records.proofs.rules.stage_behind.Goals as goal

pub returns-then-are_two : goal.returns-then-are_two
returns-then-are_two c =
    let row = c.args.row.now in
    let other = c.in-Some.other.now in
    let others = c.in-Some.others.now in
    let rest : c.args.rest.now ≡ other ∷ others = search rules in
    let above : c.args.low ≤ row.desk = search rules in
    let same : row.desk ≡ other.desk = search rules in
    let two : are_two (row_value row) (row_value other) ≡ true = search rules in
    subst (λ (l : List KeyRow). (length others ≤ length l) × (are_stages c.args.low (row_value row ∷ map row_value l) ≡ are_stages (row.desk + 1) (map row_value others)))
    (sym rest) (omega arith, behind_two c.args.low (row_value row) (row_value other) (map row_value others) above same two)

pub returns-then-is_alone : goal.returns-then-is_alone
returns-then-is_alone c =
    let row = c.args.row.now in
    let other = c.in-Some.other.now in
    let others = c.in-Some.others.now in
    let rest : c.args.rest.now ≡ other ∷ others = search rules in
    let above : c.args.low ≤ row.desk = search rules in
    let unlike : (row.desk ≡ other.desk → ⊥) = search rules in
    let alone : is_alone (row_value row) ≡ true = search rules in
    subst (λ (l : List KeyRow). (length l ≤ length l) × (are_stages c.args.low (row_value row ∷ map row_value l) ≡ are_stages (row.desk + 1) (map row_value l)))
    (sym rest) (omega arith, behind_alone c.args.low (row_value row) (row_value other) (map row_value others) above unlike alone)
