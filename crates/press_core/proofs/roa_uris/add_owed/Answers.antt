use Rattle.std.proofs.Common.{ℕ, List, ◌++◌, string_bytes, ap, ap₂, ◌∙◌}
use Rattle.key_ids.specs.Uris.{folder_of}
use Rattle.press_core.specs.inner.Resumed.{owed_place}
use Rattle.press_core.proofs.Added.{text-added}
use Rattle.press_core.proofs.roa_uris.add_owed.Goals as goal

pub returns : goal.returns
returns c =
    text-added (owed_place c.args.site.now c.args.names.now c.args.owed.now) (string_bytes c.push_str.new.self) c.args.uris.now c.insert.new.self
    (c.in_ok-push_str.ensures.bytes
    ∙ ap₂ (λ (folder file : List ℕ). folder ++ file) (c.in_ok-uri.ensures ∙ ap (folder_of c.args.site.now) c.name_of.ensures) (c.as_str.ensures.value ∙ c.in_ok-file.ensures))
    c.in_ok-insert.ensures.updates
