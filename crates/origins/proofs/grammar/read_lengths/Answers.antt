use Rattle.std.proofs.Common.{ℕ, Option, Some, None, refl, sym, ◌∙◌, ap}
use Rattle.ip_text.specs.laws.NumberLaws.{saturated_text}
use Rattle.origins.specs.inner.Told.{IsTold}
use Rattle.origins.proofs.Lengths.{IsTail, from_hyphen, lengths_split, lengths_join, tail_is, tail_ends}
use Rattle.origins.proofs.grammar.read_lengths.Goals as goal
use Rattle.origins.proofs.grammar.read_lengths.Goals.{in-Some+in_ok-read_saturating-in-Some, in-None}

pub returns-in_err-read_saturating-in-Some : goal.returns-in_err-read_saturating-in-Some
returns-in_err-read_saturating-in-Some c = rw c.from_residual.ensures (λ len maximum is.
    let tail = (lengths_split c.args.text.now len maximum is).1 in
    let found = tail_is _ c.in-Some.digits.now maximum (sym c.split_before.ensures.back ∙ c.in-Some.ensures) tail in
    c.in_err-read_saturating-in-Some.ensures _ (saturated_text _ found.0 found.2))

pub returns-in_err-read_saturating : goal.returns-in_err-read_saturating
returns-in_err-read_saturating c = rw c.from_residual-in_err-read_saturating.ensures (λ len maximum is.
    c.in_err-read_saturating.ensures _ (saturated_text _ len (rw c.split_before.ensures.front (lengths_split c.args.text.now len maximum is).0)))

pub returns : goal.returns
returns c =
    let text = c.args.text.now in
    let back = c.split_before.ensures.back in
    let tail : (maximum : Option ℕ) × IsTail (from_hyphen text) maximum × IsTold c.match-after.maximum maximum = elim c.match-after.branch [
      | in-Some+in_ok-read_saturating-in-Some w ↦
          let is = w.in_ok-read_saturating-in-Some.ensures in
          rw w.maximum-is (Some is.number, (w.in-Some.digits.now, sym back ∙ w.in-Some.ensures, is.written), ap Some is.value)
      | in-None w ↦ rw w.maximum-is (None, tail_ends text (λ rest e. w.in-None.ensures rest (back ∙ e)), refl)
    ] in
    let is = c.in_ok-read_saturating.ensures in
    record {
      len = is.number;
      maximum = tail.0;
      written = lengths_join text is.number tail.0 (rw (← c.split_before.ensures.front) is.written) tail.1;
      len_told = is.value;
      maximum_told = tail.2;
    }
