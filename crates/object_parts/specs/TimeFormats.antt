-- Times of certificates (RFC 5280 section 4.1.2.5).
use Rattle.std.specs.Prelude.{ℕ, ◌<◌, ◌⊎◌, if◌then◌else◌}
use Rattle.std.proofs.Common.{inl, inr}
use Rattle.der.specs.Tags as tag
use Rattle.moments.specs.Civil.{IsMoment}
use Rattle.moments.specs.Text.{time_text, is_general}
use Rattle.moments.specs.Reading.{moment_in}
use Rattle.der.specs.Form.{Whole, Front}
use Rattle.der.specs.Forms.{leaf, within, both, only, tested, either, left_right, mapped_front}
use Rattle.std.specs.Prelude.{true, false}

-- A UTCTime: a moment through 2049.
abbrev pub utc_content : Whole ℕ
utc_content = leaf (λ n. IsMoment n × (n < 2_524_608_000)) (time_text false) (moment_in false)

-- A GeneralizedTime of any moment.
abbrev pub general_content : Whole ℕ
general_content = leaf IsMoment (time_text true) (moment_in true)

abbrev pub general_time : Front ℕ
general_time = within tag.generalized_time general_content

-- A UTCTime through 2049, and a GeneralizedTime from 2050 on.
abbrev pub time_of : ℕ ⊎ ℕ → ℕ
time_of x = left_right (λ n. n) (λ n. n) x

abbrev pub time_kind : ℕ → ℕ ⊎ ℕ
time_kind n = if is_general n then inr n else inl n

abbrev pub time : Front ℕ
time = mapped_front
    (either tag.utc_time (within tag.utc_time utc_content)
    (within tag.generalized_time (tested general_content is_general)))
    time_of time_kind IsMoment

-- From a time to another.
unfoldable pub period : Front (ℕ × ℕ)
period = within tag.sequence (both time (only time))
