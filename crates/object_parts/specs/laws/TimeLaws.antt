-- The laws of times.
use Rattle.std.proofs.Common.{◌≡◌, ℕ, ◌<◌, true, false, refl, ◌⊎◌, inl, inr}
use Rattle.std.proofs.lemmas.Bool.{cases_lt, lt-leb, le-leb}
use Rattle.der.specs.Tags as tag
use Rattle.moments.specs.Civil.{IsMoment}
use Rattle.moments.specs.Text.{time_text, is_general}
use Rattle.moments.specs.Reading.{moment_in}
use Rattle.moments.specs.laws.TimeLaws.{moment_in-again, moment_in-taken}
use Rattle.der.specs.Form.{IsWhole, IsFront}
use Rattle.der.specs.Forms.{within, tested, either, EitherOf, both, only}
use Rattle.der.specs.laws.FormLaws.{leaf-law, within-law}
use Rattle.der.specs.laws.ValueLaws.{tested-law, mapped_front-law}
use Rattle.der.specs.laws.ChoiceLaws.{either-law, within-begun, within-not-begun}
use Rattle.der.specs.laws.SequenceLaws.{both-law, only-law}
use Rattle.object_parts.specs.TimeFormats.{utc_content, general_content, general_time, time_of, time_kind, time, period}

pub utc_content-law : IsWhole utc_content
utc_content-law = leaf-law (λ n. IsMoment n × (n < 2_524_608_000)) (time_text false)
    (moment_in false) (record {
      again = λ n good input. moment_in-again false n good.0 (λ e. good.1);
      taken = λ n bytes input e. let t = moment_in-taken false bytes n e in ((t.0, t.2 refl), t.1);
    })

pub general_content-law : IsWhole general_content
general_content-law = leaf-law IsMoment (time_text true) (moment_in true) (record {
  again = λ n good input. moment_in-again true n good (λ e. absurd (differ e));
  taken = λ n bytes input e. let t = moment_in-taken true bytes n e in (t.0, t.1);
})
  where
    differ : true ≡ false → ⊥
    differ e = cc

pub general_time-law : IsFront general_time
general_time-law = within-law tag.generalized_time general_content general_content-law

pub time-law : IsFront time
time-law =
    mapped_front-law
    (either tag.utc_time (within tag.utc_time utc_content)
    (within tag.generalized_time (tested general_content is_general))) time_of time_kind
    IsMoment
    (either-law tag.utc_time (within tag.utc_time utc_content)
    (within tag.generalized_time (tested general_content is_general))
    (within-law tag.utc_time utc_content utc_content-law)
    (within-law tag.generalized_time (tested general_content is_general)
    (tested-law general_content is_general general_content-law))
    (within-begun tag.utc_time utc_content)
    (within-not-begun tag.utc_time tag.generalized_time (tested general_content is_general) refl))
    (record { back = λ n good. back n good; there = there })
  where
    back : (n : ℕ) → IsMoment n
        → EitherOf (λ n. IsMoment n × (n < 2_524_608_000))
        (λ n. IsMoment n × (is_general n ≡ true)) (time_kind n) × (time_of (time_kind n) ≡ n)
    back n good = elim (cases_lt n 2_524_608_000) [
      | inl early ↦ rw (lt-leb 2_524_608_000 n early) ((good, early), refl)
      | inr late ↦ let test = le-leb 2_524_608_000 n late in rw test ((good, test), refl)
    ]

    there : (x : ℕ ⊎ ℕ)
        → EitherOf (λ n. IsMoment n × (n < 2_524_608_000))
        (λ n. IsMoment n × (is_general n ≡ true)) x
        → IsMoment (time_of x) × (time_kind (time_of x) ≡ x)
    there (inl n) good = (good.0, rw (lt-leb 2_524_608_000 n good.1) refl)
    there (inr n) good = (good.0, rw good.1 refl)

pub period-law : IsFront period
unfolding period
period-law = within-law tag.sequence (both time (only time))
    (both-law time (only time) time-law (only-law time time-law))
