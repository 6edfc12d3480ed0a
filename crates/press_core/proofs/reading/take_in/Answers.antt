use Rattle.std.proofs.Common.{◌≡◌, ℕ, ◌+◌, List, ap, ◌∙◌, arith}
use Rattle.pub_set.specs.Objects.{content_at, IsAscending}
use Rattle.pub_set.specs.declared.steps.Change.{Change}
use Rattle.press_records.specs.Edition.{StandingValue}
use Rattle.rrdp_state.specs.Editions.{next_delta}
use Rattle.press_core.proofs.Editions.{taken-in}
use Rattle.press_core.proofs.reading.take_in.Goals as goal

pub next-requires : goal.next-requires
next-requires c =
    let next = c.requires.serial in
    let small = c.requires.small in
    omega (arith, next, small)

pub returns-clause-told : goal.returns-clause-told
returns-clause-told c =
    let resuming = c.args.resuming.now in
    let set = c.standing.result.set.now in
    let next = c.in_ok-next.next in
    let held = content_at c.args.left.now.objects in
    let stands : (uri : List ℕ) → content_at set uri ≡ held uri = λ uri. ap (λ (s : StandingValue). s.set uri) (c.standing.ensures ∙ c.settle-changes.ensures.settled) in
    let up : IsAscending set = c.as_slice-objects.ensures.ascending in
    let changes = c.as_slice.ensures ∙ c.settle-changes.ensures.changes in
    let delta = c.in_ok-next.ensures ∙ ap (λ (l : List Change). next_delta resuming.session (resuming.serial + 1) set l) changes in
    taken-in c.same_contents_same_set.ensures resuming c.advance.new.self held c.args.edition set next
    stands up delta c.advance.ensures.told
