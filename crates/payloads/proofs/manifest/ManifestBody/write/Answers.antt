use Rattle.std.proofs.Common.{◌≡◌, ◌++◌, ℕ, List, map, ap, ◌∙◌, append_assoc}
use Rattle.der.specs.Tags as tag
use Rattle.der.specs.Spelling.{spelled, unsigned_spelling}
use Rattle.object_parts.specs.TimeFormats.{general_time}
use Rattle.payloads.specs.declared.values.ListedFile.{ListedFile}
use Rattle.payloads.specs.ManifestFormats.{file_view, file_name, files, manifest_body}
use Rattle.payloads.proofs.manifest.ManifestBody.write.Goals as goal

pub returns : goal.returns
unfolding manifest_body unsigned_spelling
returns c =
    let body = c.args.self.now in
    let number : List ℕ = unsigned_spelling body.number in
    let from : List ℕ = general_time.spelling body.this_update in
    let to : List ℕ = general_time.spelling body.next_update in
    let listed : List ℕ = (files file_name).spelling (map file_view body.files.items) in
    let first : c.unsigned.new.out.items ≡ number = c.in_ok-unsigned.ensures.ok ∙ ap (λ (l : List ℕ). l ++ number) c.new-out.ensures.items in
    let second : c.push_general_time.new.out.items ≡ number ++ from = c.in_ok-push_general_time.ensures ∙ ap (λ (l : List ℕ). l ++ from) first in
    let third : c.push_general_time-2.new.out.items ≡ (number ++ from) ++ to = c.in_ok-push_general_time-2.ensures ∙ ap (λ (l : List ℕ). l ++ to) second in
    let fourth : c.push_files.new.out.items ≡ ((number ++ from) ++ to) ++ listed =
    c.in_ok-push_files.ensures ∙ ap (λ (l : List ℕ). l ++ (files file_name).spelling (map file_view c.deref.result.now)) third
    ∙ ap (λ (l : List ListedFile). ((number ++ from) ++ to) ++ (files file_name).spelling (map file_view l)) c.deref.ensures.value in
    c.in_ok-enclose.ensures.ok
    ∙ ap (spelled tag.sequence) (fourth ∙ append_assoc (number ++ from) to listed ∙ append_assoc number from (to ++ listed))
