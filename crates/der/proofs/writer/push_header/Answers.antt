use Rattle.std.proofs.Common.{◌≡◌, ◌∙◌, ◌+◌, ◌++◌, ◌∷◌, [], ℕ, List, ap, refl, append_assoc, length}
use Rattle.std.specs.Int.Digits.{digits_of}
use Rattle.std.proofs.lemmas.Bool.{lt-ltb, le-ltb}
use Rattle.der.specs.inner.Digits.{without_zeros}
use Rattle.der.specs.Spelling.{length_bytes}
use Rattle.der.specs.laws.NumberLaws.{digits-be_bytes}
use Rattle.der.proofs.Appends.{appended}
use Rattle.der.proofs.writer.push_header.Goals as goal

pub returns-then-len-lt128-clause-ok : goal.returns-then-len-lt128-clause-ok
unfolding length_bytes
returns-then-len-lt128-clause-ok c =
    rw (lt-ltb c.args.len 128 c.if-len-lt128.true)
    (c.in_ok-push-2.ensures.items ∙ ap (λ (t : List ℕ). t ++ (c.args.len ∷ [])) c.in_ok-push.ensures.items ∙ append_assoc c.args.out.now.items (c.args.tag ∷ []) (c.args.len ∷ []))

pub returns-clause-ok : goal.returns-clause-ok
unfolding length_bytes
returns-clause-ok c =
    let digits = c.without_zeros-digits.result.now in
    let digits-are : digits ≡ digits_of 256 c.args.len = c.without_zeros-digits.ensures ∙ ap without_zeros c.to_be_bytes-bytes.ensures ∙ digits-be_bytes c.args.len c.ranges.len.fits in
    let old = c.args.out.now.items in
    let before : c.push-2.new.self.items ≡ old ++ (c.args.tag ∷ (128 + length digits) ∷ []) =
    c.in_ok-push-3.ensures.items ∙ ap (λ (t : List ℕ). t ++ ((128 + length digits) ∷ [])) c.in_ok-push.ensures.items ∙ append_assoc old (c.args.tag ∷ []) ((128 + length digits) ∷ []) in
    let all : c.push-2.new.self.items ++ digits ≡ old ++ (c.args.tag ∷ (128 + length digits) ∷ digits) =
    ap (λ (t : List ℕ). t ++ digits) before ∙ append_assoc old (c.args.tag ∷ (128 + length digits) ∷ []) digits in
    let header : (128 + length digits) ∷ digits ≡ length_bytes c.args.len = rw (le-ltb c.args.len 128 c.if-len-lt128.false, ← digits-are) refl in
    appended c.extend_from_slice.result c.extend_from_slice.new.self.items c.push-2.new.self.items digits (old ++ (c.args.tag ∷ length_bytes c.args.len)) c.extend_from_slice.ensures.items (all ∙ ap (λ (t : List ℕ). old ++ (c.args.tag ∷ t)) header)
