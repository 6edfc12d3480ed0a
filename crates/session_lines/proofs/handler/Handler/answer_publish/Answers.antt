use Rattle.std.proofs.Common.{◌∙◌, ap, [], ◌∷◌, ◌++◌, List, ℕ, refl}
use Rattle.std.specs.Prelude.{Ok, Err}
use Rattle.json_api.specs.Reply.{published_spelling}
use Rattle.json_api.specs.Refused.{refused_spelling}
use Rattle.session_lines.specs.Texts.{published_in_reply, unpublished_as}
use Rattle.session_lines.proofs.handler.Handler.answer_publish.Goals as goal

pub returns-in-Ok-clause-ok : goal.returns-in-Ok-clause-ok
returns-in-Ok-clause-ok g c =
    let text = published_spelling (published_in_reply c.in-Ok.published) in (
      text,
      c.append_published.ensures ∙ ap (λ (l : List ℕ). l ++ text ++ 10 ∷ []) c.in_ok-reserve.ensures.items,
      record {
        clock = c.in-Ok.ensures.0;
        read = c.in-Ok.ensures.1;
        outcome = Ok c.in-Ok.published;
        comes = c.in-Ok.ensures.2;
        kept = refl;
        text_is = refl;
        changed_is = refl;
      },
    )

pub returns-in-Err-clause-ok : goal.returns-in-Err-clause-ok
returns-in-Err-clause-ok g c =
    let text = refused_spelling (unpublished_as c.in-Err.fault) in (
      text,
      c.append_unpublished.ensures ∙ ap (λ (l : List ℕ). l ++ text ++ 10 ∷ []) c.in_ok-reserve.ensures.items,
      record {
        clock = c.in-Err.ensures.0;
        read = c.in-Err.ensures.1;
        outcome = Err c.in-Err.fault;
        comes = c.in-Err.ensures.2;
        kept = c.keep_publication.ensures;
        text_is = refl;
        changed_is = c.fault_changes_editions-changed.ensures;
      },
    )
