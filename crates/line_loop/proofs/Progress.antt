-- How far a session has come, step by step.
use Rattle.std.proofs.Common.{◌≡◌, ℕ, Bool, true, false, cond, List, [], ◌∷◌, ◌++◌, refl, sym, ap, ◌∙◌, subst, append_assoc}
use Rattle.std.proofs.lemmas.List.{append-nil}
use Rattle.std.specs.List.{slice_split, onto_first}
use Rattle.std.proofs.lemmas.List.Splits.{slice_split_none, slice_split_at}
use Rattle.line_loop.specs.Lines.{is_feed, all_lines, ended_lines, front}
use Rattle.line_loop.specs.Replies.{Answers, AnswersAtMostOne, BreaksOff}
use Rattle.line_loop.specs.inner.Pending.{NoFeed}
use Rattle.line_loop.specs.inner.Progress.{AnswersQuietly, AnswersOne, Reaches}

pub front_push : {X : Type 0} (xs : List X) (x : X) → front (xs ++ x ∷ []) ≡ xs
front_push [] x = refl
front_push (y ∷ []) x = refl
front_push (y ∷ z ∷ zs) x = ap (λ ws. y ∷ ws) (front_push (z ∷ zs) x)

front_after : {X : Type 0} (xs : List X) (y : X) (ys : List X) → front (xs ++ y ∷ ys) ≡ xs ++ front (y ∷ ys)
front_after [] y ys = refl
front_after (x ∷ []) y ys = refl
front_after (x ∷ z ∷ zs) y ys = ap (λ ws. x ∷ ws) (front_after (z ∷ zs) y ys)

-- an input has a line, if only an empty one
some_line : (bytes : List ℕ) → (first : List ℕ) × (more : List (List ℕ)) × (all_lines bytes ≡ first ∷ more)
some_line [] = ([], [], refl)
some_line (b ∷ bytes) =
    let rest = some_line bytes in
    elim (is_feed b) as (λ (t : Bool). (first : List ℕ) × (more : List (List ℕ)) × (cond t ([] ∷ slice_split is_feed bytes) (onto_first b (slice_split is_feed bytes)) ≡ first ∷ more)) [
      | true ↦ ([], slice_split is_feed bytes, refl)
      | false ↦ (b ∷ rest.0, rest.1, ap (onto_first b) rest.2)
    ]

-- a line and what comes behind its line feed
pub lines_split : (line rest : List ℕ) → NoFeed line → all_lines (line ++ 10 ∷ rest) ≡ line ∷ all_lines rest
lines_split line rest none = slice_split_at is_feed line 10 rest none refl

pub lines_none : (tail : List ℕ) → NoFeed tail → all_lines tail ≡ tail ∷ []
lines_none tail none = slice_split_none is_feed tail none

-- Whatever Run says of lines that were answered.
module _ {H : Type 0} (Run : H → List (List ℕ) → List ℕ → H → Type 0) where
  -- more came
  pub Reaches-longer : (old : H) (input tail replies : List ℕ) (new : H) (chunk : List ℕ) → Reaches Run old input tail replies new → Reaches Run old (input ++ chunk) (tail ++ chunk) replies new
  Reaches-longer old input tail replies new chunk one = record {
    lines = one.lines;
    answered = one.answered;
    splits = λ more. ap all_lines (append_assoc input chunk more) ∙ (one.splits (chunk ++ more) ∙ ap (λ (xs : List ℕ). one.lines ++ all_lines xs) (sym (append_assoc tail chunk more)));
  }

  pub lines_so_far : (old : H) (input tail replies : List ℕ) (new : H) (one : Reaches Run old input tail replies new) → all_lines input ≡ one.lines ++ all_lines tail
  lines_so_far old input tail replies new one =
      ap all_lines (sym (append-nil input)) ∙ (one.splits [] ∙ ap (λ (xs : List ℕ). one.lines ++ all_lines xs) (append-nil tail))

  pub ended_so_far : (old : H) (input tail replies : List ℕ) (new : H) (one : Reaches Run old input tail replies new) → ended_lines input ≡ one.lines ++ ended_lines tail
  ended_so_far old input tail replies new one =
      let some = some_line tail in
      ap front (lines_so_far old input tail replies new one ∙ ap (λ (ls : List (List ℕ)). one.lines ++ ls) some.2)
      ∙ (front_after one.lines some.0 some.1 ∙ ap (λ (ls : List (List ℕ)). one.lines ++ front ls) (sym some.2))

  -- where what Run says is also what More says
  pub Reaches-so : (More : H → List (List ℕ) → List ℕ → H → Type 0) → ((old : H) (lines : List (List ℕ)) (replies : List ℕ) (new : H) → Run old lines replies new → More old lines replies new)
      → (old : H) (input tail replies : List ℕ) (new : H) → Reaches Run old input tail replies new → Reaches More old input tail replies new
  Reaches-so More so old input tail replies new one = record {
    lines = one.lines;
    answered = so old one.lines replies new one.answered;
    splits = one.splits;
  }

-- one run after another
pub Reaches-then : {H : Type 0} (First Second Both : H → List (List ℕ) → List ℕ → H → Type 0)
    → ((old : H) (xs : List (List ℕ)) (first : List ℕ) (mid : H) (ys : List (List ℕ)) (second : List ℕ) (new : H) → First old xs first mid → Second mid ys second new → Both old (xs ++ ys) (first ++ second) new)
    → (old : H) (input tail first : List ℕ) (mid : H) (rest second : List ℕ) (new : H)
    → Reaches First old input tail first mid → Reaches Second mid tail rest second new → Reaches Both old input rest (first ++ second) new
Reaches-then First Second Both both old input tail first mid rest second new one two = record {
  lines = one.lines ++ two.lines;
  answered = both old one.lines first mid two.lines second new one.answered two.answered;
  splits = λ more. one.splits more ∙ (ap (λ (ls : List (List ℕ)). one.lines ++ ls) (two.splits more) ∙ sym (append_assoc one.lines two.lines (all_lines (rest ++ more))));
}

module _ {H : Type 0} (answers : H → List ℕ → List ℕ → Bool → H → Type 0) where
  pub Answers-append : (old : H) (xs : List (List ℕ)) (first : List ℕ) (mid : H) (ys : List (List ℕ)) (second : List ℕ) (new : H)
      → Answers answers old xs first mid → Answers answers mid ys second new → Answers answers old (xs ++ ys) (first ++ second) new
  Answers-append old [] first mid ys second new one two =
      subst (λ (rs : List ℕ). Answers answers old ys rs new) (ap (λ (rs : List ℕ). rs ++ second) (sym one.0))
      (subst (λ (h : H). Answers answers h ys second new) one.1 two)
  Answers-append old (x ∷ xs) first mid ys second new one two =
      (one.0, one.1 ++ second, one.2, one.3, ap (λ (rs : List ℕ). rs ++ second) one.4 ∙ append_assoc one.0 one.1 second, one.5, Answers-append one.3 xs one.1 mid ys second new one.6 two)

  Answers-one : (old : H) (line reply : List ℕ) (changes : Bool) (new : H) → answers old line reply changes new → Answers answers old (line ∷ []) reply new
  Answers-one old line reply changes new one = (reply, [], changes, new, sym (append-nil reply), one, (refl, refl))

  pub Quietly-append : (old : H) (xs : List (List ℕ)) (first : List ℕ) (mid : H) (ys : List (List ℕ)) (second : List ℕ) (new : H)
      → AnswersQuietly answers old xs first mid → AnswersOne answers false mid ys second new → AnswersQuietly answers old (xs ++ ys) (first ++ second) new
  Quietly-append old [] first mid ys second new one two =
      subst (λ (ls : List (List ℕ)). AnswersQuietly answers old ls (first ++ second) new) (sym two.1)
      (subst (λ (rs : List ℕ). AnswersQuietly answers old (two.0 ∷ []) rs new) (ap (λ (rs : List ℕ). rs ++ second) (sym one.0))
      (second, [], new, sym (append-nil second), subst (λ (h : H). answers h two.0 second false new) one.1 two.2, (refl, refl)))
  Quietly-append old (x ∷ xs) first mid ys second new one two =
      (one.0, one.1 ++ second, one.2, ap (λ (rs : List ℕ). rs ++ second) one.3 ∙ append_assoc one.0 one.1 second, one.4, Quietly-append one.2 xs one.1 mid ys second new one.5 two)

  -- lines that changed nothing, and then one
  last_of : (changes : Bool) (old : H) (xs : List (List ℕ)) (first : List ℕ) (mid : H) (line second : List ℕ) (new : H)
      → AnswersQuietly answers old xs first mid → answers mid line second changes new → AnswersAtMostOne answers old (xs ++ line ∷ []) (first ++ second) new
  last_of changes old [] first mid line second new one two = (
    changes,
    subst (λ (rs : List ℕ). answers old line rs changes new) (ap (λ (rs : List ℕ). rs ++ second) (sym one.0))
        (subst (λ (h : H). answers h line second changes new) one.1 two),
  )
  last_of changes old (x ∷ []) first mid line second new one two =
      (one.0, one.1 ++ second, one.2, ap (λ (rs : List ℕ). rs ++ second) one.3 ∙ append_assoc one.0 one.1 second, one.4, last_of changes one.2 [] one.1 mid line second new one.5 two)
  last_of changes old (x ∷ y ∷ xs) first mid line second new one two =
      (one.0, one.1 ++ second, one.2, ap (λ (rs : List ℕ). rs ++ second) one.3 ∙ append_assoc one.0 one.1 second, one.4, last_of changes one.2 (y ∷ xs) one.1 mid line second new one.5 two)

  pub Quietly-last : (changes : Bool) (old : H) (xs : List (List ℕ)) (first : List ℕ) (mid : H) (ys : List (List ℕ)) (second : List ℕ) (new : H)
      → AnswersQuietly answers old xs first mid → AnswersOne answers changes mid ys second new → AnswersAtMostOne answers old (xs ++ ys) (first ++ second) new
  Quietly-last changes old xs first mid ys second new one two =
      subst (λ (ls : List (List ℕ)). AnswersAtMostOne answers old (xs ++ ls) (first ++ second) new) (sym two.1)
      (last_of changes old xs first mid two.0 second new one two.2)

  pub Quietly-most : (old : H) (lines : List (List ℕ)) (replies : List ℕ) (new : H) → AnswersQuietly answers old lines replies new → AnswersAtMostOne answers old lines replies new
  Quietly-most old [] replies new one = one
  Quietly-most old (line ∷ []) replies new one = (
    false,
    subst (λ (rs : List ℕ). answers old line rs false new) (sym (one.3 ∙ (ap (λ (rs : List ℕ). one.0 ++ rs) one.5.0 ∙ append-nil one.0)))
        (subst (λ (h : H). answers old line one.0 false h) (sym one.5.1) one.4),
  )
  Quietly-most old (line ∷ next ∷ lines) replies new one =
      (one.0, one.1, one.2, one.3, one.4, Quietly-most one.2 (next ∷ lines) one.1 new one.5)

  pub Most-answers : (old : H) (lines : List (List ℕ)) (replies : List ℕ) (new : H) → AnswersAtMostOne answers old lines replies new → Answers answers old lines replies new
  Most-answers old [] replies new one = one
  Most-answers old (line ∷ []) replies new one = Answers-one old line replies one.0 new one.1
  Most-answers old (line ∷ next ∷ lines) replies new one =
      (one.0, one.1, false, one.2, one.3, one.4, Most-answers one.2 (next ∷ lines) one.1 new one.5)

  -- nothing was answered yet
  pub Reaches-start : (old : H) (tail : List ℕ) → Reaches (Answers answers) old tail tail [] old
  Reaches-start old tail = record { lines = []; answered = (refl, refl); splits = λ more. refl }

  pub Quietly-start : (old : H) (tail : List ℕ) → Reaches (AnswersQuietly answers) old tail tail [] old
  Quietly-start old tail = record { lines = []; answered = (refl, refl); splits = λ more. refl }

  -- the first line was answered
  pub Reaches-line : (changes : Bool) (old : H) (line rest reply : List ℕ) (new : H) → NoFeed line → answers old line reply changes new → Reaches (AnswersOne answers changes) old (line ++ 10 ∷ rest) rest reply new
  Reaches-line changes old line rest reply new none one = record {
    lines = line ∷ [];
    answered = (line, refl, one);
    splits = λ more. ap all_lines (append_assoc line (10 ∷ rest) more) ∙ lines_split line (rest ++ more) none;
  }

  -- each line that has ended was answered
  pub Answers-ended : (old : H) (input tail replies : List ℕ) (new : H) → Reaches (Answers answers) old input tail replies new → NoFeed tail → Answers answers old (ended_lines input) replies new
  Answers-ended old input tail replies new one none =
      subst (λ (ls : List (List ℕ)). Answers answers old ls replies new)
      (sym (ended_so_far (Answers answers) old input tail replies new one
      ∙ (ap (λ (ls : List (List ℕ)). one.lines ++ front ls) (lines_none tail none) ∙ append-nil one.lines)))
      one.answered

  last_lines : (old : H) (input tail replies : List ℕ) (mid : H) (one : Reaches (Answers answers) old input tail replies mid) → NoFeed tail → all_lines input ≡ one.lines ++ tail ∷ []
  last_lines old input tail replies mid one none =
      lines_so_far (Answers answers) old input tail replies mid one ∙ ap (λ (ls : List (List ℕ)). one.lines ++ ls) (lines_none tail none)

  -- and the last
  pub Answers-all : (old : H) (input tail replies : List ℕ) (mid : H) (reply : List ℕ) (changes : Bool) (new : H) → Reaches (Answers answers) old input tail replies mid → NoFeed tail → answers mid tail reply changes new → Answers answers old (all_lines input) (replies ++ reply) new
  Answers-all old input tail replies mid reply changes new one none last =
      subst (λ (ls : List (List ℕ)). Answers answers old ls (replies ++ reply) new)
      (sym (last_lines old input tail replies mid one none))
      (Answers-append old one.lines replies mid (tail ∷ []) reply new one.answered (Answers-one mid tail reply changes new last))

  -- the replies to a batch break off
  pub BreaksOff-batch : (old : H) (input tail replies : List ℕ) (mid : H) (rest more : List ℕ) (new : H) (part cut_off : List ℕ)
      → Reaches (Answers answers) old input tail replies mid → Reaches (AnswersAtMostOne answers) mid tail rest more new → more ≡ part ++ cut_off → BreaksOff answers old (ended_lines input) (replies ++ part) new
  BreaksOff-batch old input tail replies mid rest more new part cut_off one two lost = record {
    heard = one.lines;
    unheard = two.lines;
    rest = ended_lines rest;
    replies = replies;
    more = more;
    part = part;
    cut_off = cut_off;
    mid = mid;
    in_order = ended_so_far (Answers answers) old input tail replies mid one
        ∙ (ap (λ (ls : List (List ℕ)). one.lines ++ ls) (ended_so_far (AnswersAtMostOne answers) mid tail rest more new two)
        ∙ sym (append_assoc one.lines two.lines (ended_lines rest)));
    answered = one.answered;
    last = two.answered;
    taken = refl;
    lost = lost;
  }

  -- nothing more was answered
  pub BreaksOff-none : (old : H) (input tail replies : List ℕ) (new : H) → Reaches (Answers answers) old input tail replies new → BreaksOff answers old (ended_lines input) replies new
  BreaksOff-none old input tail replies new one = record {
    heard = one.lines;
    unheard = [];
    rest = ended_lines tail;
    replies = replies;
    more = [];
    part = [];
    cut_off = [];
    mid = new;
    in_order = ended_so_far (Answers answers) old input tail replies new one ∙ ap (λ (ls : List (List ℕ)). ls ++ ended_lines tail) (sym (append-nil one.lines));
    answered = one.answered;
    last = (refl, refl);
    taken = sym (append-nil replies);
    lost = refl;
  }

  -- the reply to the last line breaks off
  pub BreaksOff-last : (old : H) (input tail replies : List ℕ) (mid : H) (reply : List ℕ) (changes : Bool) (new : H) (part cut_off : List ℕ)
      → Reaches (Answers answers) old input tail replies mid → NoFeed tail → answers mid tail reply changes new → reply ≡ part ++ cut_off → BreaksOff answers old (all_lines input) (replies ++ part) new
  BreaksOff-last old input tail replies mid reply changes new part cut_off one none last lost = record {
    heard = one.lines;
    unheard = tail ∷ [];
    rest = [];
    replies = replies;
    more = reply;
    part = part;
    cut_off = cut_off;
    mid = mid;
    in_order = last_lines old input tail replies mid one none ∙ sym (append-nil (one.lines ++ tail ∷ []));
    answered = one.answered;
    last = (changes, last);
    taken = refl;
    lost = lost;
  }

  -- the replies to the rest break off
  pub BreaksOff-after : (old : H) (input tail replies : List ℕ) (mid : H) (written : List ℕ) (new : H)
      → Reaches (Answers answers) old input tail replies mid → BreaksOff answers mid (ended_lines tail) written new → BreaksOff answers old (ended_lines input) (replies ++ written) new
  BreaksOff-after old input tail replies mid written new one b = record {
    heard = one.lines ++ b.heard;
    unheard = b.unheard;
    rest = b.rest;
    replies = replies ++ b.replies;
    more = b.more;
    part = b.part;
    cut_off = b.cut_off;
    mid = b.mid;
    in_order = ended_so_far (Answers answers) old input tail replies mid one
        ∙ (ap (λ (ls : List (List ℕ)). one.lines ++ ls) b.in_order
        ∙ (sym (append_assoc one.lines (b.heard ++ b.unheard) b.rest)
        ∙ ap (λ (ls : List (List ℕ)). ls ++ b.rest) (sym (append_assoc one.lines b.heard b.unheard))));
    answered = Answers-append old one.lines replies mid b.heard b.replies b.mid one.answered b.answered;
    last = b.last;
    taken = ap (λ (rs : List ℕ). replies ++ rs) b.taken ∙ sym (append_assoc replies b.replies b.part);
    lost = b.lost;
  }
