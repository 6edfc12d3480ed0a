use Rattle.std.proofs.Common.{◌≡◌, ℕ, true, List, ◌++◌, sym, subst, ap, ◌∙◌}
use Rattle.std.proofs.lemmas.Result.{IfOk-weaker}
use Rattle.names.specs.Name.{IsName}
use Rattle.key_ids.specs.Uris.{folder_of}
use Rattle.issue_plan.specs.Uris.{roa_file}
use Rattle.issue_plan.proofs.by_name.is_roa_uri.Goals as goal

pub returns : goal.returns
returns c =
    let site = c.args.site.now in
    let file = roa_file c.args.origin.now in
    IfOk-weaker c.is_roa_in.result (λ is. is ≡ true → c.as_str-4.result.now ≡ c.as_str-3.result.now ++ file) _
    (λ is found so. record {
      name = c.in-Some.name;
      is_name = subst IsName c.as_bytes-named.ensures.bytes c.as_bytes-named.ensures.rule;
      is = sym c.as_str-4.ensures
          ∙ (found so
          ∙ ap (λ (l : List ℕ). l ++ file)
          (c.as_str-3.ensures.value ∙ (c.in_ok-folder.ensures ∙ ap (folder_of site) c.as_str-2.ensures)));
    }) c.is_roa_in.ensures
