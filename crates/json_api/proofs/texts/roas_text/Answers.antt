use Rattle.std.proofs.Common.{ℕ, List, ◌++◌, map, codes, decimal, ap, ◌∙◌}
use Rattle.json.specs.Print.{quoted}
use Rattle.json_api.specs.Texts.{commas, roa_line}
use Rattle.json_api.proofs.texts.roas_text.Goals as goal

pub returns : goal.returns
returns c =
    let name = c.args.authority.now in
    let named = c.in_ok-push_quoted.ensures ∙ ap (λ (n : List ℕ). c.extend_from_slice.new.self.items ++ quoted n) c.as_str.ensures
    ∙ ap (λ (t : List ℕ). t ++ quoted name) (c.in_ok-extend_from_slice.ensures.items ∙ ap (λ (t : List ℕ). t ++ codes "{\"authority\":") c.new-out.ensures.items) in
    let opened = c.in_ok-extend_from_slice-2.ensures.items ∙ ap (λ (t : List ℕ). t ++ codes ",\"origins\":[") named in
    let listed = c.in_ok-push_roa_lines.ensures ∙ ap (λ (t : List ℕ). t ++ commas (map roa_line c.args.lines.now)) opened in
    let closed = c.in_ok-extend_from_slice-3.ensures.items ∙ ap (λ (t : List ℕ). t ++ codes "],\"reply\":\"roas list\",\"serial\":") listed in
    let counted = c.in_ok-push_number.ensures ∙ ap (λ (t : List ℕ). t ++ decimal c.args.serial) closed in
    c.in_ok-extend_from_slice-4.ensures.items ∙ ap (λ (t : List ℕ). t ++ codes "}") counted
