-- What a step over the window does to the session.
use Rattle.std.proofs.Common.{◌≡◌, ℕ, ◌+◌, Bool, false, List, [], ◌++◌, take, drop, sym, ap, ◌∙◌, subst}
use Rattle.line_loop.specs.Replies.{Answers, AnswersAtMostOne}
use Rattle.line_loop.specs.inner.Pending.{Pending, EndsLine, IsTailOf}
use Rattle.line_loop.specs.inner.Progress.{AnswersQuietly, AnswersOne, Reaches, Advances, Interrupts}
use Rattle.line_loop.proofs.Tails.{first_line}
use Rattle.line_loop.proofs.Progress.{Answers-append, Quietly-append, Quietly-last, Quietly-most, Most-answers, Reaches-start, Quietly-start, Reaches-line, Reaches-so, Reaches-then, BreaksOff-batch}

-- the answered lines go on over the pending bytes
pub Advances-then : {H : Type 0} (First Second Both : H → List (List ℕ) → List ℕ → H → Type 0)
    → ((old : H) (xs : List (List ℕ)) (first : List ℕ) (mid : H) (ys : List (List ℕ)) (second : List ℕ) (new : H) → First old xs first mid → Second mid ys second new → Both old (xs ++ ys) (first ++ second) new)
    → (old : H) (before : Pending) (first : List ℕ) (mid : H) (between : Pending) (second : List ℕ) (new : H) (after : Pending)
    → Advances First old before first mid between → Advances Second mid between second new after → Advances Both old before (first ++ second) new after
Advances-then First Second Both both old before first mid between second new after one two = λ tail is.
    let a = one tail is in
    let b = two a.0 a.1 in
    (b.0, b.1, Reaches-then First Second Both both old tail a.0 first mid b.0 second new a.2 b.2)

module _ {H : Type 0} (answers : H → List ℕ → List ℕ → Bool → H → Type 0) where
  -- the first line was answered and dropped
  pub line_answered : (changes : Bool) (old : H) (window pending after : Pending) (n : ℕ) (reply : List ℕ) (new : H) → window ≡ pending → EndsLine pending.bytes n
      → ((line : List ℕ) → IsTailOf line (take n window.bytes) window.skips → answers old line reply changes new)
      → after.bytes ≡ drop (n + 1) window.bytes → after.skips ≡ false → Advances (AnswersOne answers changes) old pending reply new after
  line_answered changes old window pending after n reply new same ends answered dropped whole = λ tail is.
      let f = first_line pending.skips tail pending.bytes n is ends in
      let rest = drop (n + 1) pending.bytes in (
        rest,
        subst (λ (b : Bool). IsTailOf rest after.bytes b) (sym whole) (sym (dropped ∙ ap (λ (p : Pending). drop (n + 1) p.bytes) same)),
        subst (λ (xs : List ℕ). Reaches (AnswersOne answers changes) old xs rest reply new) (sym f.2)
            (Reaches-line answers changes old f.0 rest reply new f.3 (answered f.0 (subst (λ (p : Pending). IsTailOf f.0 (take n p.bytes) p.skips) (sym same) f.1))),
      )

  pub quiet_start : (old : H) (pending : Pending) (out : List ℕ) → out ≡ [] → Advances (AnswersQuietly answers) old pending out old pending
  quiet_start old pending out empty = subst (λ (o : List ℕ). Advances (AnswersQuietly answers) old pending o old pending) (sym empty) (λ tail is. (tail, is, Quietly-start answers old tail))

  -- a line that changed nothing was answered
  pub quiet_line : (old : H) (before : Pending) (out : List ℕ) (mid : H) (between : Pending) (reply longer : List ℕ) (new : H) (after : Pending)
      → Advances (AnswersQuietly answers) old before out mid between → longer ≡ out ++ reply → Advances (AnswersOne answers false) mid between reply new after → Advances (AnswersQuietly answers) old before longer new after
  quiet_line old before out mid between reply longer new after one is two =
      subst (λ (o : List ℕ). Advances (AnswersQuietly answers) old before o new after) (sym is)
      (Advances-then (AnswersQuietly answers) (AnswersOne answers false) (AnswersQuietly answers) (Quietly-append answers) old before out mid between reply new after one two)

  -- a line was answered that may have changed something
  pub last_line : (changes : Bool) (old : H) (before : Pending) (out : List ℕ) (mid : H) (between : Pending) (reply longer : List ℕ) (new : H) (after : Pending)
      → Advances (AnswersQuietly answers) old before out mid between → longer ≡ out ++ reply → Advances (AnswersOne answers changes) mid between reply new after → Advances (AnswersAtMostOne answers) old before longer new after
  last_line changes old before out mid between reply longer new after one is two =
      subst (λ (o : List ℕ). Advances (AnswersAtMostOne answers) old before o new after) (sym is)
      (Advances-then (AnswersQuietly answers) (AnswersOne answers changes) (AnswersAtMostOne answers) (Quietly-last answers changes) old before out mid between reply new after one two)

  -- no line was answered, and nothing changed
  pub quiet_end : (old : H) (before : Pending) (out : List ℕ) (mid : H) (between : Pending) (same_out : List ℕ) (new : H) (after : Pending)
      → Advances (AnswersQuietly answers) old before out mid between → after ≡ between → new ≡ mid → same_out ≡ out → Advances (AnswersAtMostOne answers) old before same_out new after
  quiet_end old before out mid between same_out new after one same_window same_handler same = λ tail is.
      let moved = subst (λ (o : List ℕ). Advances (AnswersQuietly answers) old before o new after) (sym same)
      (subst (λ (h : H). Advances (AnswersQuietly answers) old before out h after) (sym same_handler)
      (subst (λ (p : Pending). Advances (AnswersQuietly answers) old before out mid p) (sym same_window) one)) tail is in
      (moved.0, moved.1, Reaches-so (AnswersQuietly answers) (AnswersAtMostOne answers) (Quietly-most answers) old tail moved.0 same_out new moved.2)

  pub batch_start : (old : H) (pending : Pending) → Advances (Answers answers) old pending [] old pending
  batch_start old pending = λ tail is. (tail, is, Reaches-start answers old tail)

  -- a batch of replies was given
  pub batch_given : (old : H) (before : Pending) (written : List ℕ) (mid : H) (between : Pending) (batch : List ℕ) (new : H) (after : Pending)
      → Advances (Answers answers) old before written mid between → Advances (AnswersAtMostOne answers) mid between batch new after → Advances (Answers answers) old before (written ++ batch) new after
  batch_given old before written mid between batch new after one two =
      Advances-then (Answers answers) (Answers answers) (Answers answers) (Answers-append answers) old before written mid between batch new after one
      (λ tail is. let b = two tail is in (b.0, b.1, Reaches-so (AnswersAtMostOne answers) (Answers answers) (Most-answers answers) mid tail b.0 batch new b.2))

  -- of a batch of replies a part was given
  pub batch_cut : (old : H) (before : Pending) (written : List ℕ) (mid : H) (between : Pending) (batch : List ℕ) (new : H) (after : Pending) (part cut_off : List ℕ)
      → Advances (Answers answers) old before written mid between → Advances (AnswersAtMostOne answers) mid between batch new after → batch ≡ part ++ cut_off → Interrupts answers old before (written ++ part) new
  batch_cut old before written mid between batch new after part cut_off one two cut = λ tail is.
      let a = one tail is in
      let b = two a.0 a.1 in
      BreaksOff-batch answers old tail a.0 written mid b.0 batch new part cut_off a.2 b.2 cut
