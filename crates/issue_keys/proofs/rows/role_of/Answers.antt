use Rattle.std.proofs.Common.{◌<◌, Some, None, length, sym, arith}
use Rattle.issue_keys.proofs.Finds.{role-at, role-some}
use Rattle.issue_keys.proofs.rows.role_of.Goals as goal

pub offset_bounds-roles-position : goal.offset_bounds-roles-position
offset_bounds-roles-position c =
    let lt : c.in-Some.position < length c.args.roles.now =
    (role-at c.args.roles.now c.args.index.now c.args.row.now c.of-id.result (Some c.in-Some.position)
    c.requires c.of-id.ensures c.in-Some.ensures).1 in
    omega arith

pub bounds-roles-position : goal.bounds-roles-position
bounds-roles-position c =
    (role-at c.args.roles.now c.args.index.now c.args.row.now c.of-id.result (Some c.in-Some.position)
    c.requires c.of-id.ensures c.in-Some.ensures).1

pub returns-in-Some : goal.returns-in-Some
returns-in-Some c =
    role-some c.args.roles.now c.args.index.now c.args.row.now c.of-id.result c.in-Some.position _
    c.requires c.of-id.ensures c.in-Some.ensures

pub returns-in-None : goal.returns-in-None
returns-in-None c =
    sym (role-at c.args.roles.now c.args.index.now c.args.row.now c.of-id.result None
    c.requires c.of-id.ensures c.in-None.ensures)
