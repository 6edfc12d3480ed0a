use Rattle.std.proofs.Common.{◌≡◌, Some, ap, sym, ◌∙◌}
use Rattle.json.specs.Json.{read_key}
use Rattle.json_api.proofs.Passes.{PassedMembers-start, PassedMembers-step, PassedMembers-end}
use Rattle.json_api.proofs.tokens.read_members.Goals as goal

pub members-init : goal.members-init
members-init c = PassedMembers-start c.args.reader.now c.args.slots.now c.requires.absent

pub returns-then-ends_object : goal.returns-then-ends_object
returns-then-ends_object c _ =
    PassedMembers-end c.args.reader.now c.members.reader c.ends_object.new.self c.members.slots c.members.invariant (ap read_key c.if-ends_object.ensures.taken)

pub members-preserved : goal.members-preserved
members-preserved c =
    let first = sym c.if-ends_object.ensures.left ∙ c.in-Some.ensures.good in
    let key : read_key c.members.reader ≡ Some (Some c.in-Some.name.now, c.next_key.new.self) = ap read_key first in
    let field = c.in_ok-read_member.ensures.good c.if-not-branch.false in
    let p = c.members.invariant in
    PassedMembers-step c.args.reader.now c.members.reader c.next_key.new.self c.read_member.new.reader c.in-Some.name.now field.0
    c.members.slots c.read_member.new.slots p key field.1 c.read_member.ensures.shorter (field.2 p.found p.are)
