-- The texts round `=>` and its blanks.
use Rattle.std.proofs.Common.{◌≡◌, ℕ, Bool, true, false, ◌==◌, List, [], ◌∷◌, ◌++◌, take, drop, refl, sym, ap, ◌∙◌, inl, inr, append_assoc}
use Rattle.std.proofs.lemmas.Bool.Decides.{eqb_tells}
use Rattle.std.specs.List.{AllByRecursion, prefix_len}
use Rattle.origins.specs.inner.Fronts.{is_blank, is_none_of, Passes, Stops, IsAround}
use Rattle.origins.specs.Text.{IsBlank, IsOriginText, Parts}
use Rattle.ip_text.specs.laws.AsNumberLaws.{one_as_number}
use Rattle.origins.proofs.FrontLemmas.{front_is, back_is, front_and_back, front_passes, back_stops}
use Rattle.origins.proofs.Alphabets.{as_number_stops}
use Rattle.origins.proofs.Prefixes.{passes_prefix, same_prefixes}

abbrev in_word : ℕ → Bool
in_word = is_none_of (32 ∷ 9 ∷ 61 ∷ [])

abbrev pub word : List ℕ → List ℕ
word text = take (prefix_len (is_none_of (32 ∷ 9 ∷ 61 ∷ [])) text) text

abbrev pub after_word : List ℕ → List ℕ
after_word text = drop (prefix_len (is_none_of (32 ∷ 9 ∷ 61 ∷ [])) text) text

abbrev pub blanks : List ℕ → List ℕ
blanks text = take (prefix_len is_blank text) text

abbrev pub after_blanks : List ℕ → List ℕ
after_blanks text = drop (prefix_len is_blank text) text

blank_passes : (c : ℕ) → IsBlank c → is_blank c ≡ true
blank_passes c (inl e) = rw e refl
blank_passes c (inr e) = rw e refl

blank_ends_word : (c : ℕ) → IsBlank c → is_none_of (32 ∷ 9 ∷ 61 ∷ []) c ≡ false
blank_ends_word c (inl e) = rw e refl
blank_ends_word c (inr e) = rw e refl

neither : (c : ℕ) → (c == 32) ≡ false → (c == 9) ≡ false → is_blank c ≡ true → ⊥
neither c f g h = let e : is_blank c ≡ false = rw (f, g) refl in cc

passes_is_blank : (c : ℕ) → is_blank c ≡ true → IsBlank c
passes_is_blank c h = elim (eqb_tells c 32) [
  | inl (t, e) ↦ inl e
  | inr (f, n) ↦ elim (eqb_tells c 9) [ inl (t, e) ↦ inr e | inr (g, m) ↦ absurd (neither c f g h) ]
]

pass_blanks : (bs : List ℕ) → AllByRecursion IsBlank bs → Passes is_blank bs
pass_blanks [] h = tt
pass_blanks (c ∷ bs) h = (blank_passes c h.0, pass_blanks bs h.1)

are_blanks : (bs : List ℕ) → Passes is_blank bs → AllByRecursion IsBlank bs
are_blanks [] h = tt
are_blanks (c ∷ bs) h = (passes_is_blank c h.0, are_blanks bs h.1)

word_stops : (bs rest : List ℕ) → AllByRecursion IsBlank bs → Stops (is_none_of (32 ∷ 9 ∷ 61 ∷ [])) (bs ++ (61 ∷ rest))
word_stops [] rest h = refl
word_stops (c ∷ bs) rest h = blank_ends_word c h.0

regrouped : (w bb ba n : List ℕ) → w ++ bb ++ (61 ∷ 62 ∷ []) ++ ba ++ n ≡ w ++ (bb ++ (61 ∷ 62 ∷ (ba ++ n)))
regrouped w bb ba n = simp append_assoc

-- the pieces, read from the left
pub record SplitAround (text before behind : List ℕ) : Type 0 where
  pub rest : List ℕ
  pub word_is : word text ≡ before
  pub arrow_is : after_blanks (after_word text) ≡ 61 ∷ 62 ∷ rest
  pub behind_is : after_blanks rest ≡ behind

pub around_split : (text before behind : List ℕ) → IsAround text before behind → SplitAround text before behind
around_split text w n is =
    let ba = is.blanks_after in
    let bb = is.blanks_before in
    let rest = 61 ∷ 62 ∷ (ba ++ n) in
    let whole : text ≡ w ++ (bb ++ rest) = is.spelled ∙ regrouped w bb ba n in
    let stops = word_stops bb (62 ∷ (ba ++ n)) is.all_before in
    let middle : after_word text ≡ bb ++ rest = back_is in_word text w (bb ++ rest) whole is.word stops in
    record {
      rest = ba ++ n;
      word_is = front_is in_word text w (bb ++ rest) whole is.word stops;
      arrow_is = ap after_blanks middle ∙ back_is is_blank (bb ++ rest) bb rest refl (pass_blanks bb is.all_before) refl;
      behind_is = back_is is_blank (ba ++ n) ba n refl (pass_blanks ba is.all_after) is.bare;
    }

pub around_join : (text rest : List ℕ) → after_blanks (after_word text) ≡ 61 ∷ 62 ∷ rest → IsAround text (word text) (after_blanks rest)
around_join text rest e =
    let middle : after_word text ≡ blanks (after_word text) ++ (61 ∷ 62 ∷ (blanks rest ++ after_blanks rest)) =
    front_and_back is_blank (after_word text) ∙ ap (λ t. blanks (after_word text) ++ t) (e ∙ ap (λ t. 61 ∷ 62 ∷ t) (front_and_back is_blank rest)) in
    record {
      blanks_before = blanks (after_word text);
      blanks_after = blanks rest;
      spelled = front_and_back in_word text ∙ (ap (λ t. word text ++ t) middle ∙ sym (regrouped (word text) (blanks (after_word text)) (blanks rest) (after_blanks rest)));
      word = front_passes in_word text;
      all_before = are_blanks _ (front_passes is_blank (after_word text));
      all_after = are_blanks _ (front_passes is_blank rest);
      bare = back_stops is_blank rest;
    }

pub same_around : (text w v n m : List ℕ) → IsAround text w n → IsAround text v m → (w ≡ v) × (n ≡ m)
same_around text w v n m a b =
    let p = around_split text w n a in
    let q = around_split text v m b in
    let rest : p.rest ≡ q.rest = cc in
    (sym p.word_is ∙ q.word_is, sym p.behind_is ∙ (ap after_blanks rest ∙ q.behind_is))

pub to_around : (text : List ℕ) (parts : Parts) (is : IsOriginText text parts) → IsAround text is.prefix_text is.asn_text
to_around text parts is = record {
  blanks_before = is.blanks_before;
  blanks_after = is.blanks_after;
  spelled = is.spelled;
  word = passes_prefix is.prefix_text _ _ _ _ is.prefix_is;
  all_before = is.before;
  all_after = is.after;
  bare = as_number_stops is.asn_text parts.asn is.asn_is;
}

-- a text is read in one way
pub same_origin_texts : (text : List ℕ) (p q : Parts) → IsOriginText text p → IsOriginText text q → p ≡ q
same_origin_texts text p q a b =
    let around = same_around text _ _ _ _ (to_around text p a) (to_around text q b) in
    let prefix = same_prefixes _ _ _ _ _ _ _ _ _ (rw (← around.0) a.prefix_is) b.prefix_is in
    let number = one_as_number _ p.asn q.asn (rw (← around.1) a.asn_is) b.asn_is in
    λ i. record { v6 = prefix.v6_same i; address = prefix.address_same i; len = prefix.len_same i; maximum = prefix.maximum_same i; asn = number i }
