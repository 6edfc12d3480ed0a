-- What stands at the position of a draft.
use Rattle.std.proofs.Common.{◌≡◌, ℕ, ◌+◌, ◌<◌, List, ◌∷◌, length, get_or, drop, map, sym, ap, subst, ◌∙◌, arith}
use Rattle.std.specs.List.{All}
use Rattle.std.specs.List.{slice_get}
use Rattle.std.specs.Prelude.{Some}
use Rattle.std.proofs.lemmas.List.{get_or-map, get_or-drop, drop-drop, length-drop}
use Rattle.std.proofs.lemmas.Option.{get_or_from_slice_get, slice_get_within}
use Rattle.issue_drafts.specs.Views.{draft_of, IsPositioned, IsSubjectPositioned}
use Rattle.issue_drafts.specs.Serials.{given_serial}
use Rattle.issue_drafts.specs.declared.draft.Draft as code
use Rattle.issue_sign.specs.SignInput.{SignInputValue, AreDrafts}
use Rattle.issue_sign.specs.inner.Steps.{IsDraft, Pairs}
use Rattle.issue_sign.proofs.Lists.{pairs-at}

-- What holds of all holds of what was read.
pub all-at : {X : Type 0} (P : X → Type 0) (xs : List X) (i : ℕ) (x : X) → All P xs → i < length xs → x ≡ get_or xs i x → P x
all-at P xs i x all lt is = subst P (sym is) (all i x lt)

-- The value of a function of the rows at a position that a row has.
pub mapped-at : {X Y : Type 0} (f : X → Y) (rows : List X) (ys : List Y) (i : ℕ) (row : X) (d : Y) → ys ≡ map f rows → slice_get rows i ≡ Some row
    → get_or ys i d ≡ f row
mapped-at f rows ys i row d e positioned =
    ap (λ l. get_or l i d) e
    ∙ (get_or-map f rows i row d (slice_get_within rows i row positioned) ∙ ap f (get_or_from_slice_get rows i row row positioned))

-- The draft that was read is the one at its position.
pub draft-here : (drafts : List code.Draft) (i : ℕ) (draft : code.Draft) → i < length drafts → draft ≡ get_or drafts i draft
    → get_or (map draft_of drafts) i (draft_of draft) ≡ draft_of draft
draft-here drafts i draft lt is = get_or-map draft_of drafts i draft (draft_of draft) lt ∙ ap draft_of (sym is)

pub is-draft : (b : SignInputValue) (drafts : List code.Draft) (serials : List ℕ) (i : ℕ) (draft : code.Draft) → AreDrafts b drafts serials → i < length drafts
    → draft ≡ get_or drafts i draft → IsDraft b draft (get_or serials i 0)
is-draft b drafts serials i draft are lt is = record {
  issuer = all-at (λ (d : code.Draft). IsPositioned b.rows d.issuer) drafts i draft are.issuers lt is;
  subject = all-at (λ (d : code.Draft). IsSubjectPositioned b.rows d.kind) drafts i draft are.subjects lt is;
  serial = ap (λ (l : List ℕ). get_or l i 0) are.serials
      ∙ (get_or-map (λ (d : code.Draft). given_serial b.all (draft_of d)) drafts i draft 0 lt
      ∙ ap (λ (d : code.Draft). given_serial b.all (draft_of d)) (sym is));
}

-- The same where the serial was read at a number that is that one.
pub read-draft : (b : SignInputValue) (drafts : List code.Draft) (serials : List ℕ) (i at : ℕ) (draft : code.Draft) → at ≡ i → AreDrafts b drafts serials
    → i < length drafts → draft ≡ get_or drafts i draft → IsDraft b draft (get_or serials at 0)
read-draft b drafts serials i at draft e are lt is =
    subst (λ (n : ℕ). IsDraft b draft (get_or serials n 0)) (sym e) (is-draft b drafts serials i draft are lt is)

-- ---- lists side by side, one item after another

-- The item that was read, and what came of it before, at one position.
pub record IsTurn (A B : Type 0) (drafts : List A) (halves : List B) (k : ℕ) (left : List B) (draft : A) (half : B) : Type 0 where
  pub few : k < length drafts
  pub some : k < length halves
  pub is : draft ≡ get_or drafts k draft
  pub half-is : half ≡ get_or halves k half
  pub rest : drop (k + 1) halves ≡ left

pub turn : {A B : Type 0} (drafts : List A) (halves : List B) (k : ℕ) (left : List B) (draft : A) (half : B) → length halves ≡ length drafts
    → drop k halves ≡ half ∷ left → draft ≡ get_or drafts k draft → IsTurn A B drafts halves k left draft half
turn {A} {B} drafts halves k left draft half long e is =
    let count = ap length e in
    let short = length-drop k halves in
    let some : k < length halves = omega arith in
    let nothing : k + 0 ≡ k = omega arith in
    record {
      few = omega arith;
      some = some;
      is = is;
      half-is = sym (ap (λ (l : List B). get_or l 0 half) e)
          ∙ (get_or-drop k halves 0 half ∙ ap (λ (n : ℕ). get_or halves n half) nothing);
      rest = sym (drop-drop 1 k halves) ∙ ap (drop 1) e;
    }

-- A relation of all is one of these two.
pub at-turn : {A B : Type 0} (R : A → B → Type 0) (drafts : List A) (halves : List B) (k : ℕ) (left : List B) (draft : A) (half : B)
    → IsTurn A B drafts halves k left draft half → Pairs R drafts halves → R draft half
at-turn {A} {B} R drafts halves k left draft half t pairs =
    subst (λ (d : A). R d half) (sym t.is)
    (subst (λ (h : B). R (get_or drafts k draft) h) (sym t.half-is)
    (pairs-at R drafts halves k draft half t.some pairs))

-- The same where the first item was read at a number that is that one.
pub turn-at : {A B : Type 0} (drafts : List A) (halves : List B) (k : ℕ) (all left : List B) (draft : A) (half : B) (at : ℕ) → at ≡ k
    → length halves ≡ length drafts → drop k halves ≡ all → all ≡ half ∷ left → draft ≡ get_or drafts at draft
    → IsTurn A B drafts halves k left draft half
turn-at drafts halves k all left draft half at e long rest next is =
    turn drafts halves k left draft half long (rest ∙ next) (is ∙ ap (λ n. get_or drafts n draft) e)
