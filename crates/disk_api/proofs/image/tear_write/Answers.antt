use Rattle.std.proofs.Common.{◌≤◌, List, length, subst, sym, arith}
use Rattle.std.proofs.lemmas.Result.{on_ok_weaker}
use Rattle.disk_api.specs.Content.{Torn}
use Rattle.disk_api.proofs.Replay.{torn_piece}
use Rattle.disk_api.proofs.image.tear_write.Goals as goal

pub returns : goal.returns
returns c =
    let piece = c.in_ok-piece.piece.items in
    let few : length c.deref.result.now ≤ length c.args.new.now = subst (λ (l : List _). length l ≤ length c.args.new.now) (sym c.deref.ensures.value) c.in_ok-piece.ensures in
    on_ok_weaker c.overwrite.result (λ done. subst (λ (l : List _). Torn c.args.at (length c.args.new.now) c.args.image.now.items l) (sym done) (torn_piece c.args.at (length c.args.new.now) c.deref.result.now c.args.image.now.items (omega arith) few)) c.overwrite.ensures.ok
