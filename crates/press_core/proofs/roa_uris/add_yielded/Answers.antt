use Rattle.std.proofs.Common.{ℕ, List, ◌++◌, string_bytes, ap₂, ◌∙◌}
use Rattle.press_core.specs.inner.Resumed.{yielded_place}
use Rattle.press_core.proofs.Added.{text-added}
use Rattle.press_core.proofs.roa_uris.add_yielded.Goals as goal

pub returns : goal.returns
returns c =
    text-added (yielded_place c.args.yielded.now) (string_bytes c.push_str.new.self) c.args.uris.now c.insert.new.self
    (c.in_ok-push_str.ensures.bytes
    ∙ ap₂ (λ (folder file : List ℕ). folder ++ file) (c.in_ok-uri.ensures.ok ∙ c.as_str.ensures.value) (c.as_str-2.ensures.value ∙ c.in_ok-file.ensures))
    c.in_ok-insert.ensures.updates
