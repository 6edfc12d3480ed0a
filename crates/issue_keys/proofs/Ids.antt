-- Identifiers that are there.
use Rattle.std.proofs.Common.{◌≡◌, ℕ, ◌+◌, ◌<◌, Bool, true, false, cond, ◌||◌, List, [], ◌∷◌, ◌++◌, length, get_or, take, map, refl, sym, ap, subst, ◌∙◌}
use Rattle.std.specs.Str.{bytes_eq}
use Rattle.std.specs.Ordering.{nat_cmp, is_eq}
use Rattle.std.specs.Cmp.Lexicographic.{slice_cmp}
use Rattle.std.proofs.lemmas.List.{take_more, map-append, append-nil, append_assoc}
use Rattle.std.proofs.lemmas.Map.Text.{is_eq-slice_cmp}
use Rattle.key_roll.specs.declared.rows.KeyRow.{KeyRow}
use Rattle.issue_keys.specs.Keys.{id_of}
use Rattle.issue_keys.specs.Making.{clashes, AreApart}

is-or : (b c : Bool) → cond b true c ≡ (b || c)
is-or true c = refl
is-or false c = refl

pub added : (id other : List ℕ) (before after : Bool) → after ≡ cond (is_eq (slice_cmp nat_cmp id other)) true before → after ≡ (bytes_eq id other || before)
added id other before after e =
    e ∙ (ap (λ (b : Bool). cond b true before) (is_eq-slice_cmp id other) ∙ is-or (bytes_eq id other) before)

or-swap : (a b c : Bool) → (a || (b || c)) ≡ (b || (a || c))
or-swap true true c = refl
or-swap true false c = refl
or-swap false b c = refl

pub clash-push : (ids : List (List ℕ)) (id other : List ℕ) → clashes (ids ++ id ∷ []) other ≡ (bytes_eq id other || clashes ids other)
clash-push [] id other = refl
clash-push (x ∷ ids) id other =
    ap (λ (b : Bool). bytes_eq x other || b) (clash-push ids id other)
    ∙ or-swap (bytes_eq x other) (bytes_eq id other) (clashes ids other)

-- One row more.
pub clash-more : (rows : List KeyRow) (i : ℕ) (row : KeyRow) (other : List ℕ) (before after : Bool) → i < length rows → row ≡ get_or rows i row → before ≡ clashes (map id_of (take i rows)) other → after ≡ (bytes_eq (id_of row) other || before) → after ≡ clashes (map id_of (take (i + 1) rows)) other
clash-more rows i row other before after lt is was now =
    let more : take (i + 1) rows ≡ take i rows ++ row ∷ [] =
    take_more rows i row lt ∙ ap (λ (r : KeyRow). take i rows ++ r ∷ []) (sym is) in
    now ∙ (ap (λ (b : Bool). bytes_eq (id_of row) other || b) was
    ∙ (sym (clash-push (map id_of (take i rows)) (id_of row) other)
    ∙ (ap (λ (l : List (List ℕ)). clashes l other) (sym (map-append id_of (take i rows) (row ∷ [])))
    ∙ ap (λ (l : List KeyRow). clashes (map id_of l) other) (sym more))))

-- One key that was made more.
pub id_set-push : (ids : List (List ℕ)) (fresh : List KeyRow) (row : KeyRow) (other : List ℕ) (before after : Bool) → before ≡ clashes (ids ++ map id_of fresh) other → after ≡ (bytes_eq (id_of row) other || before) → after ≡ clashes (ids ++ map id_of (fresh ++ row ∷ [])) other
id_set-push ids fresh row other before after was now =
    let e : ids ++ map id_of (fresh ++ row ∷ []) ≡ (ids ++ map id_of fresh) ++ id_of row ∷ [] =
    ap (λ (l : List (List ℕ)). ids ++ l) (map-append id_of fresh (row ∷ [])) ∙ sym (append_assoc ids (map id_of fresh) (id_of row ∷ [])) in
    now ∙ (ap (λ (b : Bool). bytes_eq (id_of row) other || b) was
    ∙ (sym (clash-push (ids ++ map id_of fresh) (id_of row) other) ∙ ap (λ (l : List (List ℕ)). clashes l other) (sym e)))

pub apart-push : (ids : List (List ℕ)) (rows : List KeyRow) (row : KeyRow) → AreApart ids rows → clashes (ids ++ map id_of rows) (id_of row) ≡ false → AreApart ids (rows ++ row ∷ [])
apart-push ids [] row h new = (subst (λ (l : List (List ℕ)). clashes l (id_of row) ≡ false) (append-nil ids) new, tt)
apart-push ids (r ∷ rs) row h new = (
  h.0,
  apart-push (ids ++ id_of r ∷ []) rs row h.1
      (subst (λ (l : List (List ℕ)). clashes l (id_of row) ≡ false) (sym (append_assoc ids (id_of r ∷ []) (map id_of rs))) new),
)
