use Rattle.std.proofs.Common.{sym, get_or}
use Rattle.pub_set.proofs.Places.{content-found, content-missing}
use Rattle.pub_set.proofs.objects.content_of.Goals as goal

pub returns-in-Ok : goal.returns-in-Ok
returns-in-Ok c =
    let item = c.index-objects-place in
    let there = get_or c.args.objects.now c.in-Ok.place item.result in
    rw (c.as_slice.ensures, item.is) (sym (content-found c.args.objects.now c.args.uri.now c.in-Ok.place there c.requires c.in-Ok.ensures))

pub returns-in-Err : goal.returns-in-Err
returns-in-Err c = sym (content-missing c.args.objects.now c.args.uri.now c.in-Err.field-0 c.in-Err.ensures)
