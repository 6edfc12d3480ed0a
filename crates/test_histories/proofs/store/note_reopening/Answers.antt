use Rattle.std.proofs.Common.{List, [], ◌∷◌, ◌++◌, ap, ◌∙◌}
use Rattle.test_histories.specs.declared.done.Done.{Done}
use Rattle.test_histories.specs.declared.done.Done.TheVariants.{Found}
use Rattle.test_histories.proofs.store.note_reopening.Goals as goal

pub returns : goal.returns
returns c = c.in_ok-note-2.ensures ∙ ap (λ (done : List Done). done ++ Found c.args.lists c.args.serial ∷ []) c.in_ok-note.ensures
