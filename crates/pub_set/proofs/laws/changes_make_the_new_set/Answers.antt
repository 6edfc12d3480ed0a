use Rattle.std.proofs.Common.{sym, ◌∙◌}
use Rattle.pub_set.specs.declared.steps.Change.{Change}
use Rattle.pub_set.specs.Objects.{content_at}
use Rattle.pub_set.specs.Changes.{uri_of}
use Rattle.pub_set.proofs.Determined.{rise_determined}
use Rattle.pub_set.specs.laws.CarriedLaws.{carried_out, none_refused}
use Rattle.pub_set.proofs.laws.changes_make_the_new_set.Goals as goal

pub returns-clause-determined : goal.returns-clause-determined
returns-clause-determined c = λ old new xs ys first second.
    rise_determined uri_of (λ (x : Change). x) (λ x y uris same. same) xs ys first.ascending second.ascending (λ uri. first.each uri ∙ sym (second.each uri))

pub returns-clause-applied : goal.returns-clause-applied
returns-clause-applied c = λ old new changes is uri. sym (carried_out changes (content_at old) (content_at new) is.ascending is.each uri)

pub returns-clause-sound : goal.returns-clause-sound
returns-clause-sound c = λ old new changes base is within. none_refused base changes (content_at old) (content_at new) is.ascending is.each within
