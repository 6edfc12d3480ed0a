-- What is read from digits is spelled so, and what is spelled so is read.
use Rattle.std.proofs.Common.{◌≡◌, ℕ, ◌+◌, ◌-◌, ◌*◌, ◌/◌, ◌%◌, ◌<◌, ◌≤◌, Bool, true, false, cond, leb, ◌&&◌, List, [], ◌∷◌, ◌++◌, length, Option, Some, None, refl, sym, ap, subst, ◌∙◌, arith, inl, inr}
use Rattle.std.proofs.lemmas.Bool.{cases_lt, lt-ltb, le-ltb, leb-true, le-leb, and_parts, and_from, eqb-true}
use Rattle.moments.specs.declared.civil.Civil.{Civil}
use Rattle.moments.specs.Text.{two, after_year, civil_text}
use Rattle.moments.specs.Reading.{◌>>=◌, is_digit, pair_at, is_z, after_year_at, utc_year, civil_at}

pub bind_some : {A B : Type 0} (o : Option A) (f : A → Option B) (y : B) → (o >>= f) ≡ Some y
    → (x : A) × (o ≡ Some x) × (f x ≡ Some y)
bind_some (Some x) f y e = (x, refl, e)
bind_some None f y e = absurd cc

pub guard_some : {A : Type 0} (b : Bool) (x y : A) → cond b (Some x) None ≡ Some y
    → (b ≡ true) × (x ≡ y)
guard_some true x y e = (refl, cc)
guard_some false x y e = absurd cc

same_some : {A : Type 0} (x y : A) → Some x ≡ Some y → x ≡ y
same_some x y e = cc

pub pair-taken : (bytes : List ℕ) (x : ℕ × List ℕ) → pair_at bytes ≡ Some x
    → (bytes ≡ two x.0 ++ x.1) × (x.0 < 100)
unfolding pair_at
pair-taken [] x e = absurd cc
pair-taken (a ∷ []) x e = absurd cc
pair-taken (a ∷ b ∷ rest) x e =
    let g = guard_some (is_digit a && is_digit b) ((a - 48) * 10 + (b - 48), rest) x e in
    let ab = and_parts (is_digit a) (is_digit b) g.0 in
    let for_a = and_parts (leb 48 a) (leb a 57) ab.0 in
    let for_b = and_parts (leb 48 b) (leb b 57) ab.1 in
    let a_low = leb-true 48 a for_a.0 in
    let a_high = leb-true a 57 for_a.1 in
    let b_low = leb-true 48 b for_b.0 in
    let b_high = leb-true b 57 for_b.1 in
    let n = (a - 48) * 10 + (b - 48) in
    let tens : a ≡ 48 + n / 10 = omega arith in
    let ones : b ≡ 48 + n % 10 = omega arith in
    let whole : a ∷ b ∷ rest ≡ two n ++ rest = cc in
    subst (λ (y : ℕ × List ℕ). (a ∷ b ∷ rest ≡ two y.0 ++ y.1) × (y.0 < 100)) g.1
    (whole, omega arith)

pub pair-again : (n : ℕ) (rest : List ℕ) → n < 100 → pair_at (two n ++ rest) ≡ Some (n, rest)
unfolding pair_at
pair-again n rest small =
    let a : is_digit (48 + n / 10) ≡ true = and_from (leb 48 (48 + n / 10)) (leb (48 + n / 10) 57)
    (le-leb _ _ (omega arith)) (le-leb _ _ (omega arith)) in
    let b : is_digit (48 + n % 10) ≡ true = and_from (leb 48 (48 + n % 10)) (leb (48 + n % 10) 57)
    (le-leb _ _ (omega arith)) (le-leb _ _ (omega arith)) in
    let number : (48 + n / 10 - 48) * 10 + (48 + n % 10 - 48) ≡ n = omega arith in
    rw (and_from _ _ a b) (ap (λ (m : ℕ). Some (m, rest)) number)

z-taken : (bytes : List ℕ) → is_z bytes ≡ true → bytes ≡ 90 ∷ []
z-taken [] e = absurd cc
z-taken (b ∷ []) e = ap (λ (x : ℕ). x ∷ []) (eqb-true b 90 e)
z-taken (b ∷ c ∷ bytes) e = absurd cc

-- Each part behind the year has two digits.
pub record AreShort (c : Civil) : Type 0 where
  pub month : c.month < 100
  pub day : c.day < 100
  pub hour : c.hour < 100
  pub minute : c.minute < 100
  pub second : c.second < 100

joined : (m d h i s : ℕ) (bytes after_m after_d after_h after_i after_s : List ℕ)
    → bytes ≡ two m ++ after_m → after_m ≡ two d ++ after_d → after_d ≡ two h ++ after_h
    → after_h ≡ two i ++ after_i → after_i ≡ two s ++ after_s → after_s ≡ 90 ∷ []
    → bytes ≡ two m ++ two d ++ two h ++ two i ++ two s ++ 90 ∷ []
joined m d h i s bytes after_m after_d after_h after_i after_s em ed eh ei es z = cc

pub after_year-taken : (year : ℕ) (bytes : List ℕ) (c : Civil) → after_year_at year bytes ≡ Some c
    → (bytes ≡ after_year c) × AreShort c × (c.year ≡ year)
unfolding after_year_at after_year
after_year-taken year bytes c e =
    let civil_by : ℕ → ℕ → ℕ → ℕ → ℕ
    → Civil =
    λ mo d h mi s.
    record { year = year; month = mo; day = d; hour = h; minute = mi; second = s } in
    let end = λ (mo d h mi : ℕ) (s : ℕ × List ℕ). cond (is_z s.1) (Some (civil_by mo d h mi s.0))
    None in
    let m = bind_some (pair_at bytes)
    (λ m. pair_at m.1 >>= λ d. pair_at d.1 >>= λ h. pair_at h.1 >>= λ i. pair_at i.1 >>= λ s.
    end m.0 d.0 h.0 i.0 s) c e in
    let d = bind_some (pair_at m.0.1)
    (λ d. pair_at d.1 >>= λ h. pair_at h.1 >>= λ i. pair_at i.1 >>= λ s. end m.0.0 d.0 h.0 i.0
    s) c m.2 in
    let h = bind_some (pair_at d.0.1)
    (λ h. pair_at h.1 >>= λ i. pair_at i.1 >>= λ s. end m.0.0 d.0.0 h.0 i.0 s) c d.2 in
    let i = bind_some (pair_at h.0.1) (λ i. pair_at i.1 >>= λ s. end m.0.0 d.0.0 h.0.0 i.0 s) c
    h.2 in
    let s = bind_some (pair_at i.0.1) (λ s. end m.0.0 d.0.0 h.0.0 i.0.0 s) c i.2 in
    let made = civil_by m.0.0 d.0.0 h.0.0 i.0.0 s.0.0 in
    let g = guard_some (is_z s.0.1) made c s.2 in
    let tm = pair-taken bytes m.0 m.1 in
    let td = pair-taken m.0.1 d.0 d.1 in
    let th = pair-taken d.0.1 h.0 h.1 in
    let ti = pair-taken h.0.1 i.0 i.1 in
    let ts = pair-taken i.0.1 s.0 s.1 in
    let whole = joined m.0.0 d.0.0 h.0.0 i.0.0 s.0.0 bytes m.0.1 d.0.1 h.0.1 i.0.1 s.0.1 tm.0 td.0
    th.0 ti.0 ts.0 (z-taken s.0.1 g.0) in
    subst (λ (y : Civil). (bytes ≡ after_year y) × AreShort y × (y.year ≡ year)) {x = made} g.1
    (whole, record { month = tm.1; day = td.1; hour = th.1; minute = ti.1; second = ts.1 }, refl)

pub after_year-again : (c : Civil) → AreShort c → after_year_at c.year (after_year c) ≡ Some c
unfolding after_year_at after_year
after_year-again c short =
    let s : List ℕ = 90 ∷ [] in
    let i : List ℕ = two c.second ++ s in
    let h : List ℕ = two c.minute ++ i in
    let d : List ℕ = two c.hour ++ h in
    let m : List ℕ = two c.day ++ d in
    rw (
      pair-again c.month m short.month,
      pair-again c.day d short.day,
      pair-again c.hour h short.hour,
      pair-again c.minute i short.minute,
      pair-again c.second s short.second,
    ) refl

pub record IsShown (general : Bool) (c : Civil) : Type 0 where
  pub short : AreShort c
  pub year : c.year < 10000
  pub years : general ≡ false → (1950 ≤ c.year) × (c.year < 2050)

utc_year-is : (digits : ℕ) → digits < 100 → (utc_year digits % 100 ≡ digits)
    × (1950 ≤ utc_year digits) × (utc_year digits < 2050)
utc_year-is digits small =
    elim (cases_lt digits 50) [
      | inl low ↦ rw (lt-ltb digits 50 low) (omega arith, omega arith, omega arith)
      | inr high ↦ rw (le-ltb digits 50 high) (omega arith, omega arith, omega arith)
    ]

utc_year-back : (year : ℕ) → 1950 ≤ year → year < 2050 → utc_year (year % 100) ≡ year
utc_year-back year from to =
    elim (cases_lt (year % 100) 50) [
      | inl low ↦ rw (lt-ltb (year % 100) 50 low) (omega arith)
      | inr high ↦ rw (le-ltb (year % 100) 50 high) (omega arith)
    ]

pub civil-taken : (general : Bool) (bytes : List ℕ) (c : Civil) → civil_at general bytes ≡ Some c
    → (bytes ≡ civil_text general c) × IsShown general c
unfolding civil_at civil_text
civil-taken true bytes c e =
    let a = bind_some (pair_at bytes)
    (λ century. pair_at century.1 >>= λ year. after_year_at (century.0 * 100 + year.0) year.1)
    c e in
    let b = bind_some (pair_at a.0.1) (λ year. after_year_at (a.0.0 * 100 + year.0) year.1) c a.2 in
    let ta = pair-taken bytes a.0 a.1 in
    let tb = pair-taken a.0.1 b.0 b.1 in
    let rest = after_year-taken (a.0.0 * 100 + b.0.0) b.0.1 c b.2 in
    let century-low = ta.1 in
    let year-low = tb.1 in
    let year : c.year ≡ a.0.0 * 100 + b.0.0 = rest.2 in
    let high : a.0.0 ≡ c.year / 100 = omega arith in
    let low : b.0.0 ≡ c.year % 100 = omega arith in (
      ta.0 ∙ ap (λ (t : List ℕ). two a.0.0 ++ t)
          (tb.0 ∙ ap (λ (t : List ℕ). two b.0.0 ++ t) rest.0)
          ∙ ap (λ (n : ℕ). two n ++ two b.0.0 ++ after_year c) high
          ∙ ap (λ (n : ℕ). two (c.year / 100) ++ two n ++ after_year c) low,
      record { short = rest.1; year = omega arith; years = λ e. absurd cc },
    )
civil-taken false bytes c e =
    let b = bind_some (pair_at bytes) (λ year. after_year_at (utc_year year.0) year.1) c e in
    let tb = pair-taken bytes b.0 b.1 in
    let rest = after_year-taken (utc_year b.0.0) b.0.1 c b.2 in
    let years = utc_year-is b.0.0 tb.1 in
    let year : c.year ≡ utc_year b.0.0 = rest.2 in
    let low : b.0.0 ≡ c.year % 100 = sym (ap (λ (n : ℕ). n % 100) year ∙ years.0) in (
      tb.0 ∙ ap (λ (t : List ℕ). two b.0.0 ++ t) rest.0 ∙ ap (λ (n : ℕ). two n ++ after_year c) low,
      record {
        short = rest.1;
        year = omega (arith, years.2);
        years = λ e. (omega (arith, years.1), omega (arith, years.2));
      },
    )

pub civil-again : (general : Bool) (c : Civil) → IsShown general c
    → civil_at general (civil_text general c) ≡ Some c
unfolding civil_at civil_text
civil-again true c shown =
    let small = shown.year in
    let year : c.year / 100 * 100 + c.year % 100 ≡ c.year = omega arith in
    rw (
      pair-again (c.year / 100) (two (c.year % 100) ++ after_year c) (omega arith),
      pair-again (c.year % 100) (after_year c) (omega arith),
      year,
    )
    (after_year-again c shown.short)
civil-again false c shown =
    let years = shown.years refl in
    rw (
      pair-again (c.year % 100) (after_year c) (omega arith),
      utc_year-back c.year years.0 years.1,
    ) (after_year-again c shown.short)

-- Civil times with one text are one.
pub one_civil : (general : Bool) (bytes : List ℕ) (a b : Civil) → civil_at general bytes ≡ Some a
    → IsShown general b → bytes ≡ civil_text general b → b ≡ a
one_civil general bytes a b read shown e =
    let again : civil_at general bytes ≡ Some b = rw e (civil-again general b shown) in
    same_some b a (sym again ∙ read)

pub length-civil_text : (general : Bool) (c : Civil)
    → length (civil_text general c) ≡ cond general 15 13
unfolding civil_text after_year
length-civil_text true c = refl
length-civil_text false c = refl
