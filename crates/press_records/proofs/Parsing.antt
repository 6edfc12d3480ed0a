-- Readings that are put together otherwise than their code.
use Rattle.std.proofs.Common.{◌≡◌, List, ℕ, Some, None, refl}
use Rattle.std.specs.Prelude.{Option}
use Rattle.pub_set.specs.declared.steps.Change.{Change}
use Rattle.pub_set.specs.Changes.{Contents}
use Rattle.record_forms.specs.Form.{Form}
use Rattle.record_forms.specs.Forms.{◌>>=◌, both, as_one, as_other}
use Rattle.press_records.specs.Changes.{RawChange, put_over, withdrawn_over, change_told}

-- What is told over what is held, with the bytes behind it.
abbrev told_rest : Contents → RawChange × List ℕ → Option (Change × List ℕ)
told_rest held x = change_told held x.0 >>= (λ y. Some (y, x.1))

abbrev put_rest : Contents → (List ℕ × List ℕ) × List ℕ → Option (Change × List ℕ)
put_rest held x = Some (put_over held x.0, x.1)

abbrev withdrawn_rest : Contents → List ℕ × List ℕ → Option (Change × List ℕ)
withdrawn_rest held x = withdrawn_over held x.0 >>= (λ y. Some (y, x.1))

pub put_read : (held : Contents) (r : Option ((List ℕ × List ℕ) × List ℕ))
    → (as_one r >>= told_rest held) ≡ (r >>= put_rest held)
put_read held (Some x) = refl
put_read held None = refl

pub withdrawal_read : (held : Contents) (r : Option (List ℕ × List ℕ))
    → (as_other r >>= told_rest held) ≡ (r >>= withdrawn_rest held)
withdrawal_read held (Some x) = refl
withdrawal_read held None = refl

-- A value that was read, and another behind it.
pub both_read : {A B : Type 0} (f : Form A) (g : Form B) (bytes behind rest : List ℕ) (x : A) (y : B)
    → f.read bytes ≡ Some (x, behind) → g.read behind ≡ Some (y, rest) → (both f g).read bytes ≡ Some ((x, y), rest)
both_read f g bytes behind rest x y first second = rw (first, second) refl
