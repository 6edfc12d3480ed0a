use Rattle.std.proofs.Common.{ℕ, List, ◌++◌, map, codes, decimal, ap, ◌∙◌}
use Rattle.json.specs.Print.{quoted}
use Rattle.json_api.specs.Texts.{commas, resources_text, child_line, parent_text, stage_text}
use Rattle.json_api.proofs.texts.show_text.Goals as goal

pub returns : goal.returns
returns c =
    let shown = c.args.shown.now in
    let named = c.in_ok-push_quoted.ensures ∙ ap (λ (n : List ℕ). c.extend_from_slice.new.self.items ++ quoted n) c.as_str.ensures
    ∙ ap (λ (t : List ℕ). t ++ quoted shown.authority) (c.in_ok-extend_from_slice.ensures.items ∙ ap (λ (t : List ℕ). t ++ codes "{\"authority\":") c.new-out.ensures.items) in
    let held = c.in_ok-extend_from_slice-2.ensures.items ∙ ap (λ (t : List ℕ). t ++ codes ",\"certified\":") named in
    let certified = c.in_ok-push_resources.ensures ∙ ap (λ (t : List ℕ). t ++ resources_text shown.certified) held in
    let opened = c.in_ok-extend_from_slice-3.ensures.items ∙ ap (λ (t : List ℕ). t ++ codes ",\"children\":[") certified in
    let listed = c.in_ok-push_children.ensures ∙ ap (λ (t : List ℕ). t ++ commas (map child_line c.args.children.now)) opened in
    let closed = c.in_ok-extend_from_slice-4.ensures.items ∙ ap (λ (t : List ℕ). t ++ codes "],\"parent\":") listed in
    let above = c.in_ok-push_parent.ensures ∙ ap (λ (t : List ℕ). t ++ parent_text shown.parent) closed in
    let reply = c.in_ok-extend_from_slice-5.ensures.items ∙ ap (λ (t : List ℕ). t ++ codes ",\"reply\":\"show\",\"serial\":") above in
    let counted = c.in_ok-push_number.ensures ∙ ap (λ (t : List ℕ). t ++ decimal shown.serial) reply in
    let behind = c.in_ok-extend_from_slice-6.ensures.items ∙ ap (λ (t : List ℕ). t ++ codes ",\"stage\":") counted in
    let stage = c.in_ok-extend_from_slice-7.ensures.items ∙ ap (λ (w : List ℕ). c.extend_from_slice-6.new.self.items ++ w) c.stage_word.ensures
    ∙ ap (λ (t : List ℕ). t ++ stage_text shown.stage) behind in
    c.in_ok-extend_from_slice-8.ensures.items ∙ ap (λ (t : List ℕ). t ++ codes "}") stage
