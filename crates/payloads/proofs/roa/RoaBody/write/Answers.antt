use Rattle.std.proofs.Common.{◌≡◌, ◌++◌, ℕ, List, length, take, drop, map, sym, ap, ◌∙◌, vec_len, rules}
use Rattle.der.specs.Tags as tag
use Rattle.der.specs.Spelling.{spelled, unsigned_spelling}
use Rattle.der.specs.Forms.{both, only, maybe}
use Rattle.payloads.specs.declared.values.RoaEntry.{RoaEntry}
use Rattle.payloads.specs.RoaFormats.{Entry, entry_view, entry, family, families_of, leading_v4, blocks, body}
use Rattle.payloads.proofs.Lists.{map-take, map-drop}
use Rattle.payloads.proofs.roa.RoaBody.write.Goals as goal

pub returns : goal.returns
unfolding body blocks unsigned_spelling
returns c =
    let es = c.args.self.now.entries.items in
    let all = map entry_view es in
    let n = c.leading_v4.result in
    let k = leading_v4 (λ (e : Entry). e.v6) all in
    let count : n ≡ k = c.leading_v4.ensures.count ∙ ap (λ (l : List RoaEntry). leading_v4 (λ (e : Entry). e.v6) (map entry_view l)) c.deref-2.ensures.value in
    let v4 : map entry_view c.split_at.result.0.now ≡ take k all =
    ap (map entry_view) (c.split_at.ensures.front ∙ ap (take n) c.deref.ensures.value) ∙ sym (map-take entry_view n es) ∙ ap (λ (m : ℕ). take m all) count in
    let v6 : map entry_view c.split_at.result.1.now ≡ drop k all =
    ap (map entry_view) (c.split_at.ensures.back ∙ ap (drop n) c.deref.ensures.value) ∙ sym (map-drop entry_view n es) ∙ ap (λ (m : ℕ). drop m all) count in
    let families : List Entry → List Entry → List ℕ = λ a b. (both (family entry) (maybe (only (family entry)))).spelling (families_of a b) in
    let front : c.unsigned.new.out.items ≡ unsigned_spelling c.args.self.now.asn =
    c.in_ok-unsigned.ensures.ok ∙ ap (λ (l : List ℕ). l ++ unsigned_spelling c.from.result) c.new-out.ensures.items ∙ ap unsigned_spelling c.from.ensures in
    let is_len : length c.unsigned.new.out.items ≡ vec_len c.unsigned.new.out = search rules in
    let first : c.enclose.new.out.items ≡ c.unsigned.new.out.items ++ spelled tag.sequence (families (map entry_view c.split_at.result.0.now) (map entry_view c.split_at.result.1.now)) =
    c.in_ok-enclose.ensures.behind c.unsigned.new.out.items (families (map entry_view c.split_at.result.0.now) (map entry_view c.split_at.result.1.now)) c.in_ok-push_families.ensures (is_len ∙ sym c.len-from.ensures) in
    let second : c.enclose-2.new.out.items ≡ spelled tag.sequence c.enclose.new.out.items = c.in_ok-enclose-2.ensures.ok in
    second ∙ ap (spelled tag.sequence) (first ∙ (λ i. front i ++ spelled tag.sequence (families (v4 i) (v6 i))))
