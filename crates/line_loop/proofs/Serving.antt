-- A session in the midst of its input, between two calls of its source.
use Rattle.std.proofs.Common.{◌≡◌, inl, inr, ℕ, ◌+◌, ◌≤◌, Bool, false, List, [], ◌++◌, Option, length, refl, sym, ap, ◌∙◌, subst, arith, length-append}
use Rattle.std.specs.Io.KnownBytes.{Appends, Consumes}
use Rattle.std.proofs.KnownBytes.{Appends-nil, Appends-trans, Consumes-nil, Consumes-trans}
use Rattle.std.proofs.lemmas.List.{append-nil, nil_from_length}
use Rattle.line_loop.specs.declared.traits.SinkStop.{SinkStop}
use Rattle.line_loop.specs.declared.traits.SinkStop.TheVariants.{Fault, Memory}
use Rattle.line_loop.specs.Lines.{all_lines, ended_lines}
use Rattle.line_loop.specs.Replies.{Answers, BreaksOff}
use Rattle.line_loop.specs.inner.Pending.{Pending, NoFeed, IsTail, IsTailOf, IsShortened}
use Rattle.line_loop.specs.inner.Progress.{Reaches, Advances, Interrupts, InterruptsLast}
use Rattle.line_loop.specs.Session.{session_limit, Breaks, Serves, end_of}
use Rattle.line_loop.proofs.Tails.{tail_longer, tail_no_feed, tail_shortened}
use Rattle.line_loop.proofs.Progress.{Answers-append, Reaches-start, Reaches-longer, Reaches-then, Answers-ended, Answers-all, BreaksOff-none, BreaksOff-last, BreaksOff-after}

-- So many bytes came, of which the window has the tail, and every reply to the lines before it was given.
pub record Serving {H : Type 0} (answers : H → List ℕ → List ℕ → Bool → H → Type 0) (old : H) (left_before left taken_before taken : Option (List ℕ)) (count : ℕ) (window : Pending) (new : H) : Type 0 where
  pub given : List ℕ
  pub tail : List ℕ
  pub written : List ℕ
  pub count_is : length given ≡ count
  pub from_source : Consumes left_before left given
  pub to_sink : Appends taken_before taken written
  pub is_tail : IsTail tail window
  pub reaches : Reaches (Answers answers) old given tail written new

module _ {H : Type 0} (answers : H → List ℕ → List ℕ → Bool → H → Type 0) (old : H) (left_before taken_before : Option (List ℕ)) where
  pub serving_start : (window : Pending) → window.bytes ≡ [] → window.skips ≡ false → Serving answers old left_before left_before taken_before taken_before 0 window old
  serving_start window empty whole = record {
    given = [];
    tail = [];
    written = [];
    count_is = refl;
    from_source = Consumes-nil left_before;
    to_sink = Appends-nil taken_before;
    is_tail = subst (λ (b : Bool). IsTailOf [] window.bytes b) (sym whole) (sym empty);
    reaches = Reaches-start answers old [];
  }

  -- the source gave more
  pub serving_filled : (left taken : Option (List ℕ)) (count : ℕ) (window : Pending) (new : H) (later : Option (List ℕ)) (n : ℕ) (filled : Pending) (chunk : List ℕ)
      → Serving answers old left_before left taken_before taken count window new
      → length chunk ≡ n → Consumes left later chunk → filled.bytes ≡ window.bytes ++ chunk → filled.skips ≡ window.skips
      → Serving answers old left_before later taken_before taken (count + n) filled new
  serving_filled left taken count window new later n filled chunk s size came longer same = record {
    given = s.given ++ chunk;
    tail = s.tail ++ chunk;
    written = s.written;
    count_is = length-append s.given chunk ∙ (ap (λ (k : ℕ). k + length chunk) s.count_is ∙ ap (λ (k : ℕ). count + k) size);
    from_source = Consumes-trans left_before left later s.given chunk s.from_source came;
    to_sink = s.to_sink;
    is_tail = subst (λ (b : Bool). IsTailOf (s.tail ++ chunk) filled.bytes b) (sym same)
        (subst (λ (xs : List ℕ). IsTailOf (s.tail ++ chunk) xs window.skips) (sym longer) (tail_longer window.skips s.tail window.bytes chunk s.is_tail));
    reaches = Reaches-longer (Answers answers) old s.given s.tail s.written new chunk s.reaches;
  }

  -- lines were answered, and their replies given
  pub serving_answered : (left taken : Option (List ℕ)) (count : ℕ) (window : Pending) (mid : H) (later : Option (List ℕ)) (after : Pending) (replies : List ℕ) (new : H)
      → Serving answers old left_before left taken_before taken count window mid → Appends taken later replies → Advances (Answers answers) mid window replies new after
      → Serving answers old left_before left taken_before later count after new
  serving_answered left taken count window mid later after replies new s gave one =
      let a = one s.tail s.is_tail in
      record {
        given = s.given;
        tail = a.0;
        written = s.written ++ replies;
        count_is = s.count_is;
        from_source = s.from_source;
        to_sink = Appends-trans taken_before taken later s.written replies s.to_sink gave;
        is_tail = a.1;
        reaches = Reaches-then (Answers answers) (Answers answers) (Answers answers) (Answers-append answers) old s.given s.tail s.written mid a.0 replies new s.reaches a.2;
      }

  -- a line that is too long was dropped
  pub serving_shortened : (left taken : Option (List ℕ)) (count : ℕ) (window after : Pending) (new : H)
      → Serving answers old left_before left taken_before taken count window new → IsShortened window after → NoFeed window.bytes
      → Serving answers old left_before left taken_before taken count after new
  serving_shortened left taken count window after new s short none = record {
    given = s.given;
    tail = s.tail;
    written = s.written;
    count_is = s.count_is;
    from_source = s.from_source;
    to_sink = s.to_sink;
    is_tail = tail_shortened window after s.tail short none s.is_tail;
    reaches = s.reaches;
  }

  module _ (left taken : Option (List ℕ)) (count : ℕ) (window : Pending) (mid : H) (s : Serving answers old left_before left taken_before taken count window mid) where
    pub serving_ended : NoFeed window.bytes → Answers answers old (ended_lines s.given) s.written mid
    serving_ended none = Answers-ended answers old s.given s.tail s.written mid s.reaches (tail_no_feed window.skips s.tail window.bytes s.is_tail none)

    pub serving_all : (reply : List ℕ) (changes : Bool) (new : H) → NoFeed window.bytes → ((tail : List ℕ) → IsTail tail window → answers mid tail reply changes new) → Answers answers old (all_lines s.given) (s.written ++ reply) new
    serving_all reply changes new none last =
        Answers-all answers old s.given s.tail s.written mid reply changes new s.reaches (tail_no_feed window.skips s.tail window.bytes s.is_tail none) (last s.tail s.is_tail)

    -- nothing more was answered
    pub serving_none : (at_end : Type 0) → count ≤ session_limit → Breaks answers old s.given at_end s.written mid
    serving_none at_end within = (omega (arith, s.count_is), inr (BreaksOff-none answers old s.given s.tail s.written mid s.reaches))

    -- the sink stopped, or memory ran out
    pub serving_broken : (at_end : Type 0) (written : List ℕ) (new : H) → count ≤ session_limit → Interrupts answers mid window written new → Breaks answers old s.given at_end (s.written ++ written) new
    serving_broken at_end written new within broken =
        (omega (arith, s.count_is), inr (BreaksOff-after answers old s.given s.tail s.written mid written new s.reaches (broken s.tail s.is_tail)))

    -- the same at the end of the input
    pub serving_broken_last : (at_end : Type 0) (written : List ℕ) (new : H) → at_end → count ≤ session_limit → NoFeed window.bytes → InterruptsLast answers mid window written new → Breaks answers old s.given at_end (s.written ++ written) new
    serving_broken_last at_end written new ended within none (inl nothing) = (
      omega (arith, s.count_is),
      inr (
          subst (λ (o : List ℕ). BreaksOff answers old (ended_lines s.given) o new) (sym (append-nil s.written) ∙ ap (λ (o : List ℕ). s.written ++ o) (sym nothing.0))
          (subst (λ (h : H). BreaksOff answers old (ended_lines s.given) s.written h) (sym nothing.1) (BreaksOff-none answers old s.given s.tail s.written mid s.reaches))),
    )
    serving_broken_last at_end written new ended within none (inr some) = (
      omega (arith, s.count_is),
      inl (
        ended,
        BreaksOff-last answers old s.given s.tail s.written mid some.0 some.1 new written some.2 s.reaches (tail_no_feed window.skips s.tail window.bytes s.is_tail none) (some.4 s.tail s.is_tail) some.3,
      ),
    )

-- a session ends so whose sink stopped
pub stopped : {H : Type 0} (answers : H → List ℕ → List ℕ → Bool → H → Type 0) (old : H) (given : List ℕ) (at_end : Type 0) (written : List ℕ) (new : H) (stop : SinkStop) → Breaks answers old given at_end written new → Serves answers old given at_end written new (end_of stop)
stopped answers old given at_end written new Fault broken = broken
stopped answers old given at_end written new Memory broken = broken

-- nothing came, and there is no line feed
pub none_came : (window filled chunk : List ℕ) → filled ≡ window ++ chunk → length chunk ≡ 0 → NoFeed window → NoFeed filled
none_came window filled chunk longer nothing none =
    subst NoFeed (sym (longer ∙ (ap (λ (xs : List ℕ). window ++ xs) (nil_from_length chunk nothing) ∙ append-nil window))) none
