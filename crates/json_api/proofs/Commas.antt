-- Texts with commas between them, one text more at a time, and pieces that are pushed one by one.
use Rattle.std.proofs.Common.{◌≡◌, ℕ, ◌+◌, List, [], ◌∷◌, ◌++◌, length, take, map, refl, sym, ap, ◌∙◌, arith, append_assoc, codes}
use Rattle.authority_book.specs.declared.commands.Command.{Command}
use Rattle.json_api.specs.Texts.{commas, history_line, history_lines}

-- the comma before the next text
abbrev pub between : {A : Type 0} → List A → List ℕ
between [] = []
between (a ∷ more) = codes ","

pub commas-more : (texts : List (List ℕ)) (text : List ℕ) → commas (texts ++ text ∷ []) ≡ commas texts ++ between texts ++ text
commas-more [] text = refl
commas-more (a ∷ []) text = refl
commas-more (a ∷ b ∷ more) text =
    ap (λ (t : List ℕ). a ++ codes "," ++ t) (commas-more (b ∷ more) text)
    ∙ sym (append_assoc (a ++ codes ",") (commas (b ∷ more) ++ codes ",") text)
    ∙ ap (λ (t : List ℕ). t ++ text) (sym (append_assoc (a ++ codes ",") (commas (b ∷ more)) (codes ",")))

map-more : {A B : Type 0} (f : A → B) (xs : List A) (x : A) → map f (xs ++ x ∷ []) ≡ map f xs ++ f x ∷ []
map-more f [] x = refl
map-more f (a ∷ xs) x = ap (λ t. f a ∷ t) (map-more f xs x)

between-map : {A B : Type 0} (f : A → B) (xs : List A) → between (map f xs) ≡ between xs
between-map f [] = refl
between-map f (a ∷ xs) = refl

module _ {A : Type 0} (f : A → List ℕ) (xs : List A) where
  -- the text of one more element, behind its comma
  pub commas-next : (i : ℕ) (x : A) (old out : List ℕ) → take (i + 1) xs ≡ take i xs ++ x ∷ []
      → out ≡ old ++ commas (map f (take i xs)) → out ++ between (take i xs) ++ f x ≡ old ++ commas (map f (take (i + 1) xs))
  commas-next i x old out longer is =
      let some = take i xs in
      let joined : commas (map f (take (i + 1) xs)) ≡ commas (map f some) ++ between some ++ f x
      = ap (λ t. commas (map f t)) longer ∙ ap commas (map-more f some x) ∙ commas-more (map f some) (f x)
      ∙ ap (λ (c : List ℕ). commas (map f some) ++ c ++ f x) (between-map f some) in
      ap (λ (o : List ℕ). o ++ between some ++ f x) is
      ∙ ap (λ (o : List ℕ). o ++ f x) (append_assoc old (commas (map f some)) (between some))
      ∙ append_assoc old (commas (map f some) ++ between some) (f x)
      ∙ ap (λ (t : List ℕ). old ++ t) (sym joined)

pub between-more : {A : Type 0} (xs : List A) (x : A) → between (xs ++ x ∷ []) ≡ codes ","
between-more [] x = refl
between-more (a ∷ xs) x = refl

-- one turn: the comma, then the text of the next element
pub turn : {A : Type 0} (f : A → List ℕ) (xs : List A) (i : ℕ) (x : A) (old out sep mid new : List ℕ) → take (i + 1) xs ≡ take i xs ++ x ∷ []
    → (out ≡ old ++ commas (map f (take i xs))) × (sep ≡ between (take i xs)) → mid ≡ out ++ sep → new ≡ mid ++ f x
    → (new ≡ old ++ commas (map f (take (i + 1) xs))) × (codes "," ≡ between (take (i + 1) xs))
turn f xs i x old out sep mid new longer so first second = (
  second
      ∙ ap (λ (m : List ℕ). m ++ f x) (first ∙ ap (λ (s : List ℕ). out ++ s) so.1)
      ∙ commas-next f xs i x old out longer so.0,
  sym (between-more (take i xs) x) ∙ ap between (sym longer),
)

-- ---- commands with their places

module _ (ca : List ℕ) where
  lines-more : (n : ℕ) (xs : List Command) (x : Command)
      → history_lines ca n (xs ++ x ∷ []) ≡ history_lines ca n xs ++ history_line ca (n + length xs + 1) x ∷ []
  lines-more n [] x =
      let e : n + 1 ≡ n + 0 + 1 = omega arith in
      ap (λ (k : ℕ). history_line ca k x ∷ []) e
  lines-more n (a ∷ xs) x =
      let e : n + 1 + length xs + 1 ≡ n + length (a ∷ xs) + 1 = omega arith in
      ap (λ t. history_line ca (n + 1) a ∷ t)
      (lines-more (n + 1) xs x ∙ ap (λ (k : ℕ). history_lines ca (n + 1) xs ++ history_line ca k x ∷ []) e)

  between-lines : (n : ℕ) (xs : List Command) → between (history_lines ca n xs) ≡ between xs
  between-lines n [] = refl
  between-lines n (a ∷ xs) = refl

  -- one turn: the comma, then the command with its place
  pub history-turn : (xs : List Command) (i count : ℕ) (x : Command) (old out sep mid new : List ℕ) → length (take i xs) ≡ count → take (i + 1) xs ≡ take i xs ++ x ∷ []
      → out ≡ old ++ commas (history_lines ca 0 (take i xs)) → sep ≡ between (take i xs) → mid ≡ out ++ sep → new ≡ mid ++ history_line ca (count + 1) x
      → (new ≡ old ++ commas (history_lines ca 0 (take (i + 1) xs))) × (codes "," ≡ between (take (i + 1) xs))
  history-turn xs i count x old out sep mid new long longer is between_is first second =
      let some = take i xs in
      let text = history_line ca (count + 1) x in
      let place : 0 + length some + 1 ≡ count + 1 = omega (arith, long) in
      let joined : commas (history_lines ca 0 (take (i + 1) xs)) ≡ commas (history_lines ca 0 some) ++ between some ++ text
      = ap (λ t. commas (history_lines ca 0 t)) longer ∙ ap commas (lines-more 0 some x)
      ∙ ap (λ (k : ℕ). commas (history_lines ca 0 some ++ history_line ca k x ∷ [])) place
      ∙ commas-more (history_lines ca 0 some) text
      ∙ ap (λ (c : List ℕ). commas (history_lines ca 0 some) ++ c ++ text) (between-lines 0 some) in (
        second
            ∙ ap (λ (m : List ℕ). m ++ text) (first ∙ ap (λ (s : List ℕ). out ++ s) between_is)
            ∙ ap (λ (o : List ℕ). o ++ between some ++ text) is
            ∙ ap (λ (o : List ℕ). o ++ text) (append_assoc old (commas (history_lines ca 0 some)) (between some))
            ∙ append_assoc old (commas (history_lines ca 0 some) ++ between some) text
            ∙ ap (λ (t : List ℕ). old ++ t) (sym joined),
        sym (between-more some x) ∙ ap between (sym longer),
      )
