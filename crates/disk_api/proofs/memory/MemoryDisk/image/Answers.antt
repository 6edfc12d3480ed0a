use Rattle.std.proofs.Common.{◌≡◌, ◌+◌, take, drop, length, get_or, List, sym, subst, ◌∙◌, ap, arith, length-drop}
use Rattle.std.proofs.lemmas.List.{get_or-drop}
use Rattle.std.proofs.lemmas.Result.{IfOk-weaker}
use Rattle.disk_api.specs.Steps.{content_after, IsImageAfter}
use Rattle.disk_api.proofs.Replay.{steps_fit-take, image_of_parts}
use Rattle.disk_api.proofs.memory.MemoryDisk.image.Goals as goal

pub replayed-requires : goal.replayed-requires
replayed-requires c =
    let disk = c.args.self.now in
    rw (c.split_at.ensures.front, c.deref.ensures.value, c.deref-3.ensures.value) (steps_fit-take disk.first.items disk.steps.items c.synced.result disk.fit)

pub torn-requires : goal.torn-requires
torn-requires c k d lt is =
    let steps = c.args.self.now.steps.items in
    let n = c.synced.result in
    let back : c.split_at.result.1.now ≡ drop n steps = c.split_at.ensures.back ∙ ap (λ (l : List _). drop n l) c.deref.ensures.value in
    c.synced.ensures.none_after (n + k) d (omega arith) (omega (arith, lt, ap (λ (l : List _). length l) back, length-drop n steps, ap (λ (l : List _). length l) c.deref-2.ensures.value))
    (ap (λ (l : List _). get_or l (n + k) d) c.deref-2.ensures.value ∙ sym (get_or-drop n steps k d) ∙ ap (λ (l : List _). get_or l k d) (sym back) ∙ is)

pub returns : goal.returns
returns c =
    let disk = c.args.self.now in
    let n = c.synced.result in
    let steps = disk.steps.items in
    let bytes = c.in_ok-bytes.bytes.items in
    let front : c.split_at.result.0.now ≡ take n steps = c.split_at.ensures.front ∙ ap (λ (l : List _). take n l) c.deref.ensures.value in
    let back : c.split_at.result.1.now ≡ drop n steps = c.split_at.ensures.back ∙ ap (λ (l : List _). drop n l) c.deref.ensures.value in
    let is : bytes ≡ content_after disk.first.items (take n steps) = c.in_ok-bytes.ensures ∙ ap (λ (l : List _). content_after l c.split_at.result.0.now) c.deref-3.ensures.value ∙ ap (λ (l : List _). content_after disk.first.items l) front in
    IfOk-weaker c.torn.result _ _
    (λ image h. image_of_parts disk.first.items steps n bytes image.items disk.fit is (subst (λ (l : List _). IsImageAfter bytes (λ e. e ≡ bytes) l image.items) back h))
    c.torn.ensures
