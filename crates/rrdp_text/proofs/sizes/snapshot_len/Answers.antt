use Rattle.std.proofs.Common.{◌≡◌, ap, arith, codes, length, List, ◌∙◌}
use Rattle.std.specs.List.{flat_map}
use Rattle.pub_set.specs.declared.objects.Object.{Object}
use Rattle.rrdp_text.specs.Texts.{head, opening, object_text}
use Rattle.rrdp_text.proofs.Lengths.{snapshot_long}
use Rattle.rrdp_text.proofs.sizes.snapshot_len.Goals as goal

pub returns : goal.returns
unfolding head
returns c =
    let first : c.opening_len.result ≡ length (opening (codes "snapshot") c.args.session.now c.args.serial) = c.opening_len.ensures.long in
    let lines = c.objects_len.ensures.long ∙ ap (λ (objects : List Object). length (flat_map object_text objects)) c.as_slice.ensures.objects in
    let whole = snapshot_long c.args.session.now c.args.serial c.args.set.now in
    omega (arith, first, lines, whole)
