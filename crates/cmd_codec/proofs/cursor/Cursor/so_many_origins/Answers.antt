use Rattle.std.proofs.Common.{◌≡◌, ℕ, ◌+◌, List, sym, subst, arith, ◌∙◌}
use Rattle.std.specs.List.{flat_map}
use Rattle.std.proofs.lemmas.Result.{err_from_is_err_and}
use Rattle.origins.specs.declared.Origin.{Origin}
use Rattle.cmd_codec.specs.Spelling.{origin_spelling}
use Rattle.cmd_codec.specs.Fault.{origin_fields}
use Rattle.cmd_codec.specs.Outcome.{Passes}
use Rattle.cmd_codec.proofs.Lists.{OriginsSoFar, no_origins, more_origins, all_origins, bad_origin}
use Rattle.cmd_codec.proofs.cursor.Cursor.so_many_origins.Goals as goal

pub loop-init : goal.loop-init
loop-init c =
    subst (λ (items : List Origin). OriginsSoFar c.args.self.now c.args.self.now 0 items) (sym c.in_ok-origins.ensures.items) (no_origins c.args.self.now)

pub loop-preserved : goal.loop-preserved
loop-preserved c =
    let more = more_origins c.args.self.now c.loop.self c.origin.new.self c.loop.counter c.loop.origins.items c.in_ok-origin.field-0 c.loop.invariant c.in_ok-origin.ensures in
    subst (λ (items : List Origin). OriginsSoFar c.args.self.now c.origin.new.self (c.loop.counter + 1) items) (sym c.in_ok-push.ensures.items) more

pub returns-in_err-origin : goal.returns-in_err-origin
returns-in_err-origin c =
    let p = err_from_is_err_and c.from_residual-in_err-origin.result c.from_residual-in_err-origin.ensures.1 in
    rw (p.1, p.2) (bad_origin c.args.self.now c.loop.self c.loop.counter c.args.count c.loop.origins.items c.in_err-origin.field-0.0 c.loop.invariant (omega arith) c.in_err-origin.ensures)

pub returns : goal.returns
returns c =
    let all : c.loop.counter ≡ c.args.count = omega arith in
    let done = all_origins c.args.self.now c.loop.self c.loop.counter c.loop.origins.items c.loop.invariant in (
      c.loop.invariant.size ∙ all,
      subst (λ (k : ℕ). Passes (flat_map origin_spelling c.loop.origins.items) (origin_fields k) c.args.self.now c.loop.self) all done,
    )
