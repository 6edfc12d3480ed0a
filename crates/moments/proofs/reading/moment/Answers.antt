use Rattle.std.proofs.Common.{◌∙◌, ◌<◌, ℕ, Ok, ap, sym, refl, subst, arith}
use Rattle.moments.specs.declared.civil.Civil.{Civil}
use Rattle.moments.specs.Civil.{IsAt}
use Rattle.moments.specs.Days.{civil_of}
use Rattle.moments.specs.Text.{HasText}
use Rattle.moments.specs.laws.CalendarLaws.{moment-year, civil_of-at}
use Rattle.moments.specs.laws.DigitLaws.{civil-taken, one_civil}
use Rattle.moments.specs.laws.TimeLaws.{no_text, no_civil, moment-read, moment-text, found-text, found-years, shown, unfolded, one_moment}
use Rattle.moments.proofs.reading.moment.Goals as goal

pub date_of-requires : goal.date_of-requires
date_of-requires c =
    let taken = civil-taken c.args.general c.args.bytes.now c.in-Some.civil (sym c.in-Some.ensures) in
    (taken.1.year, taken.1.short.month, taken.1.short.day)

-- ---- nothing is shown

pub returns-in_default-clause-only : goal.returns-in_default-clause-only
returns-in_default-clause-only c n moment before e =
    absurd (no_text c.args.general c.args.bytes.now (sym c.civil.ensures ∙ c.in_default.is) (civil_of n) (moment-text c.args.general n moment before) (unfolded c.args.general n c.args.bytes.now e))

pub returns-in_default-clause-bad : goal.returns-in_default-clause-bad
returns-in_default-clause-bad c = (λ _. no_text c.args.general c.args.bytes.now (sym c.civil.ensures ∙ c.in_default.is), λ _. refl)

pub returns-in_default-clause-early : goal.returns-in_default-clause-early
returns-in_default-clause-early c = (λ e. absurd cc, λ text. absurd (no_text c.args.general c.args.bytes.now (sym c.civil.ensures ∙ c.in_default.is) text.0 text.1 text.2))

-- ---- what is shown is no civil time

pub returns-in_default-date_of-clause-only : goal.returns-in_default-date_of-clause-only
returns-in_default-date_of-clause-only c n moment before e =
    absurd (no_civil c.args.general c.args.bytes.now c.in-Some.civil (sym c.in-Some.ensures) (c.in_default-date_of.ensures.none refl) (civil_of n) (moment-text c.args.general n moment before) (unfolded c.args.general n c.args.bytes.now e))

pub returns-in_default-date_of-clause-bad : goal.returns-in_default-date_of-clause-bad
returns-in_default-date_of-clause-bad c =
    (λ _. no_civil c.args.general c.args.bytes.now c.in-Some.civil (sym c.in-Some.ensures) (c.in_default-date_of.ensures.none refl), λ _. refl)

pub returns-in_default-date_of-clause-early : goal.returns-in_default-date_of-clause-early
returns-in_default-date_of-clause-early c =
    (λ e. absurd cc, λ text. absurd (no_civil c.args.general c.args.bytes.now c.in-Some.civil (sym c.in-Some.ensures) (c.in_default-date_of.ensures.none refl) text.0 text.1 text.2))

-- ---- a civil time before 2000

pub returns-then-civil-lt2000-clause-only : goal.returns-then-civil-lt2000-clause-only
returns-then-civil-lt2000-clause-only c n moment before e =
    let same = moment-read c.args.general c.args.bytes.now c.in-Some.civil n (sym c.in-Some.ensures) moment before e in
    let early : (civil_of n).year < 2000 = subst (λ (a : Civil). a.year < 2000) (sym same) c.if-civil-lt2000.true in
    absurd (omega (arith, moment-year n moment))

pub returns-then-civil-lt2000-clause-bad : goal.returns-then-civil-lt2000-clause-bad
returns-then-civil-lt2000-clause-bad c =
    let taken = civil-taken c.args.general c.args.bytes.now c.in-Some.civil (sym c.in-Some.ensures) in
    let has : HasText c.args.general c.in-Some.civil = record { civil = c.in-Some-date_of.ensures.civil; years = taken.1.years } in
    (λ e. absurd cc, λ none. absurd (none c.in-Some.civil has taken.0))

pub returns-then-civil-lt2000-clause-early : goal.returns-then-civil-lt2000-clause-early
returns-then-civil-lt2000-clause-early c =
    let taken = civil-taken c.args.general c.args.bytes.now c.in-Some.civil (sym c.in-Some.ensures) in
    let has : HasText c.args.general c.in-Some.civil = record { civil = c.in-Some-date_of.ensures.civil; years = taken.1.years } in
    (λ _. (c.in-Some.civil, has, taken.0, c.if-civil-lt2000.true), λ _. refl)

-- ---- a moment

pub returns-clause-found : goal.returns-clause-found
returns-clause-found c =
    let taken = civil-taken c.args.general c.args.bytes.now c.in-Some.civil (sym c.in-Some.ensures) in
    found-text c.args.general c.args.bytes.now c.in-Some.civil c.moment_of.result taken.0 c.in-Some-date_of.ensures.civil c.moment_of.ensures c.if-civil-lt2000.false

pub returns-clause-years : goal.returns-clause-years
returns-clause-years c =
    let taken = civil-taken c.args.general c.args.bytes.now c.in-Some.civil (sym c.in-Some.ensures) in
    found-years c.args.general c.in-Some.civil c.moment_of.result taken.1 c.in-Some-date_of.ensures.civil c.moment_of.ensures c.if-civil-lt2000.false

pub returns-clause-only : goal.returns-clause-only
returns-clause-only c n moment before e =
    let same = moment-read c.args.general c.args.bytes.now c.in-Some.civil n (sym c.in-Some.ensures) moment before e in
    let at : IsAt c.in-Some.civil n = subst (λ (a : Civil). IsAt a n) same (civil_of-at n moment) in
    ap (λ (m : ℕ). Ok m) (one_moment c.in-Some.civil c.moment_of.result n c.moment_of.ensures at)

pub returns-clause-bad : goal.returns-clause-bad
returns-clause-bad c =
    let taken = civil-taken c.args.general c.args.bytes.now c.in-Some.civil (sym c.in-Some.ensures) in
    let has : HasText c.args.general c.in-Some.civil = record { civil = c.in-Some-date_of.ensures.civil; years = taken.1.years } in
    (λ e. absurd cc, λ none. absurd (none c.in-Some.civil has taken.0))

pub returns-clause-early : goal.returns-clause-early
returns-clause-early c =
    let late = c.if-civil-lt2000.false in (
      λ e. absurd cc,
      λ text.
          let same = one_civil c.args.general c.args.bytes.now c.in-Some.civil text.0 (sym c.in-Some.ensures) (shown c.args.general text.0 text.1) text.2 in
          let early : c.in-Some.civil.year < 2000 = subst (λ (a : Civil). a.year < 2000) same text.3 in
          absurd (omega arith),
    )
