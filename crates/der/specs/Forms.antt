-- How formats are put together. A sequence ends in a format that takes all that is left, so
-- neither an optional part nor a list needs a word about what follows it. All of them are made of
-- elements in DER (X.690 section 8.1).
use Rattle.std.specs.Prelude.{◌≡◌, ℕ, zero, suc, ◌⊎◌, Bool, true, nat_lt, Option, Some, None, List, [], ◌∷◌, ◌++◌, length, Result, Ok, Err, ⊤, if◌then◌else◌}
use Rattle.std.proofs.Common.{inl, inr}
use Rattle.std.specs.List.{flat_map}
use Rattle.der.specs.Spelling.{spelled}
use Rattle.der.specs.declared.shape_fault.ShapeFault.{ShapeFault}
use Rattle.der.specs.declared.shape_fault.ShapeFault.TheVariants.{Shape, Memory}
use Rattle.der.specs.Part.{Place, ◌>>=◌, open_at, sole_at, end_at, before, begins, is_empty}
use Rattle.der.specs.Form.{Whole, Front}

-- Nothing.
abbrev pub ends : Whole (Unit {0})
ends = record { good = λ x. ⊤; spelling = λ x. []; read = end_at }

-- Any bytes.
abbrev pub content : Whole (List ℕ)
content = record { good = λ x. ⊤; spelling = λ x. x; read = λ p. Ok p.left }

-- What is there, or a fault.
abbrev pub there_or : {A : Type 0} → ShapeFault → Option A → Result A ShapeFault
there_or e (Some x) = Ok x
there_or e None = Err e

-- Bytes that a function reads.
abbrev pub leaf : {A : Type 0} → (A → Type 0) → (A → List ℕ) → (List ℕ → Option A) → Whole A
leaf good spelling parse = record { good = good; spelling = spelling; read = λ p. there_or (Shape p.last) (parse p.left) }

-- An element of that tag whose content is of the format.
abbrev pub within : {A : Type 0} → ℕ → Whole A → Front A
within tag f = record {
  good = f.good;
  spelling = λ x. spelled tag (f.spelling x);
  read = λ p. open_at tag p >>= (λ q. f.read q.0 >>= (λ x. Ok (x, q.1)));
}

-- One value and then another, whose format the first one says.
abbrev pub after : {A B : Type 0} → Front A → (A → Whole B) → Whole (A × B)
after f g = record {
  good = λ x. f.good x.0 × (g x.0).good x.1;
  spelling = λ x. f.spelling x.0 ++ (g x.0).spelling x.1;
  read = λ p. f.read p >>= (λ x. (g x.0).read x.1 >>= (λ y. Ok (x.0, y)));
}

abbrev pub both : {A B : Type 0} → Front A → Whole B → Whole (A × B)
both f g = after f (λ x. g)

-- A value and nothing behind it.
abbrev pub only : {A : Type 0} → Front A → Whole A
only f = record {
  good = f.good;
  spelling = f.spelling;
  read = λ p. f.read p >>= (λ x. end_at x.1 >>= (λ y. Ok x.0));
}

-- An element of that tag whose content is of the format, and nothing behind it.
abbrev pub sole : {A : Type 0} → ℕ → Whole A → Whole A
sole tag f = record {
  good = f.good;
  spelling = λ x. spelled tag (f.spelling x);
  read = λ p. sole_at tag p >>= f.read;
}

-- A value behind what has only one spelling.
abbrev pub preceded : {A : Type 0} → Front (Unit {0}) → Whole A → Whole A
preceded f g = record {
  good = g.good;
  spelling = λ x. f.spelling tt ++ g.spelling x;
  read = λ p. f.read p >>= (λ q. g.read q.1);
}

-- A value before what has only one spelling.
abbrev pub followed : {A : Type 0} → Front A → Whole (Unit {0}) → Whole A
followed f g = record {
  good = f.good;
  spelling = λ x. f.spelling x ++ g.spelling tt;
  read = λ p. f.read p >>= (λ x. g.read x.1 >>= (λ u. Ok x.0));
}

-- A value within an element of that tag, the bytes of the element, and a value behind it, which is
-- read first.
abbrev pub framed : {A B : Type 0} → ℕ → Whole A → Whole B → Whole (A × List ℕ × B)
framed tag f g = record {
  good = λ x. f.good x.0 × (x.1 ≡ spelled tag (f.spelling x.0)) × g.good x.2;
  spelling = λ x. spelled tag (f.spelling x.0) ++ g.spelling x.2;
  read = λ p. open_at tag p >>= (λ q. g.read q.1 >>= (λ y. f.read q.0 >>= (λ x. Ok (x, before p q.1, y))));
}

-- The values that a partial function makes of another format's, with the way back.
abbrev pub through : {A B : Type 0} → Whole A → (A → Option B) → (B → A) → (B → Type 0) → Whole B
through f to from good = record {
  good = good;
  spelling = λ y. f.spelling (from y);
  read = λ p. f.read p >>= (λ x. there_or (Shape p.last) (to x));
}

-- The same in front of others.
abbrev pub through_front : {A B : Type 0} → Front A → (A → Option B) → (B → A) → (B → Type 0) → Front B
through_front f to from good = record {
  good = good;
  spelling = λ y. f.spelling (from y);
  read = λ p. f.read p >>= (λ x. there_or (Shape p.last) (to x.0) >>= (λ y. Ok (y, x.1)));
}

-- The values that a function makes of another format's.
abbrev pub mapped : {A B : Type 0} → Whole A → (A → B) → (B → A) → (B → Type 0) → Whole B
mapped f to from good = record {
  good = good;
  spelling = λ y. f.spelling (from y);
  read = λ p. f.read p >>= (λ x. Ok (to x));
}

abbrev pub mapped_front : {A B : Type 0} → Front A → (A → B) → (B → A) → (B → Type 0) → Front B
mapped_front f to from good = record {
  good = good;
  spelling = λ y. f.spelling (from y);
  read = λ p. f.read p >>= (λ x. Ok (to x.0, x.1));
}

-- The values that pass a test.
abbrev pub tested : {A : Type 0} → Whole A → (A → Bool) → Whole A
tested f test = record {
  good = λ x. f.good x × (test x ≡ true);
  spelling = f.spelling;
  read = λ p. f.read p >>= (λ x. if test x then Ok x else Err (Shape p.last));
}

abbrev pub tested_front : {A : Type 0} → Front A → (A → Bool) → Front A
tested_front f test = record {
  good = λ x. f.good x × (test x ≡ true);
  spelling = f.spelling;
  read = λ p. f.read p >>= (λ x. if test x.0 then Ok x else Err (Shape p.last));
}

-- What an optional value is made of.
abbrev pub OnSomeOf : {A : Type 0} → (A → Type 0) → Option A → Type 0
OnSomeOf P None = ⊤
OnSomeOf P (Some x) = P x

abbrev pub spelled_some : {A : Type 0} → (A → List ℕ) → Option A → List ℕ
spelled_some spelling None = []
spelled_some spelling (Some x) = spelling x

-- Nothing, or a value, whose spelling isn't empty.
abbrev pub maybe : {A : Type 0} → Whole A → Whole (Option A)
maybe f = record {
  good = OnSomeOf f.good;
  spelling = spelled_some f.spelling;
  read = λ p. if is_empty p.left then Ok None else f.read p >>= (λ x. Ok (Some x));
}

abbrev pub left_right : {A B C : Type 0} → (A → C) → (B → C) → A ⊎ B → C
left_right f g (inl x) = f x
left_right f g (inr y) = g y

abbrev pub EitherOf : {A B : Type 0} → (A → Type 0) → (B → Type 0) → A ⊎ B → Type 0
EitherOf P Q (inl x) = P x
EitherOf P Q (inr y) = Q y

-- One of two values, the first of which begins with that tag and the second doesn't.
abbrev pub either : {A B : Type 0} → ℕ → Front A → Front B → Front (A ⊎ B)
either tag f g = record {
  good = EitherOf f.good g.good;
  spelling = left_right f.spelling g.spelling;
  read = λ p. if begins tag p.left then f.read p >>= (λ x. Ok (inl x.0, x.1)) else g.read p >>= (λ y. Ok (inr y.0, y.1));
}

-- An optional value, which begins with that tag, before others that don't.
abbrev pub optional : {A B : Type 0} → ℕ → Front A → Whole B → Whole (Option A × B)
optional tag f g = record {
  good = λ x. OnSomeOf f.good x.0 × g.good x.1;
  spelling = λ x. spelled_some f.spelling x.0 ++ g.spelling x.1;
  read = λ p. if begins tag p.left
      then f.read p >>= (λ x. g.read x.1 >>= (λ y. Ok (Some x.0, y)))
      else g.read p >>= (λ y. Ok (None, y));
}

-- The later of two faults.
abbrev pub later : ShapeFault → ShapeFault → ShapeFault
later (Shape a) (Shape b) = if nat_lt a b then Shape b else Shape a
later (Shape a) Memory = Memory
later Memory e = Memory

-- The first of two readings, or else the second; where both are refused, the later fault.
abbrev pub first_or : {A B : Type 0} → Result A ShapeFault → Result B ShapeFault → Result (A ⊎ B) ShapeFault
first_or (Ok x) r = Ok (inl x)
first_or (Err d) (Ok y) = Ok (inr y)
first_or (Err d) (Err e) = Err (later d e)

-- One of two values that no spelling has in common.
abbrev pub choice : {A B : Type 0} → Whole A → Whole B → Whole (A ⊎ B)
choice f g = record {
  good = EitherOf f.good g.good;
  spelling = left_right f.spelling g.spelling;
  read = λ p. first_or (f.read p) (g.read p);
}

-- An optional value before others, no spelling of which begins with one of it.
abbrev pub some_or_none : {A B : Type 0} → Result (A × Place) ShapeFault → Result B ShapeFault → Whole B → Result (Option A × B) ShapeFault
some_or_none (Ok x) r g = g.read x.1 >>= (λ y. Ok (Some x.0, y))
some_or_none (Err d) (Ok y) g = Ok (None, y)
some_or_none (Err d) (Err e) g = Err (later d e)

abbrev pub possibly : {A B : Type 0} → Front A → Whole B → Whole (Option A × B)
possibly f g = record {
  good = λ x. OnSomeOf f.good x.0 × g.good x.1;
  spelling = λ x. spelled_some f.spelling x.0 ++ g.spelling x.1;
  read = λ p. some_or_none (f.read p) (g.read p) g;
}

-- Each value of a list.
abbrev pub AreAll : {A : Type 0} → (A → Type 0) → List A → Type 0
AreAll P [] = ⊤
AreAll P (x ∷ xs) = P x × AreAll P xs

-- At most so many values.
unfoldable pub many_at : {A : Type 0} → Front A → ℕ → Place → Result (List A) ShapeFault
many_at f zero p = if is_empty p.left then Ok [] else Err (Shape p.last)
many_at f (suc n) p =
    if is_empty p.left then Ok []
    else f.read p >>= (λ x. many_at f n x.1 >>= (λ xs. Ok (x.0 ∷ xs)))

-- A list of values, each of which takes a byte at least.
abbrev pub many : {A : Type 0} → Front A → Whole (List A)
many f = record {
  good = AreAll f.good;
  spelling = flat_map f.spelling;
  read = λ p. many_at f (length p.left) p;
}

-- The same format, read otherwise.
abbrev pub read_by : {A : Type 0} → Whole A → (Place → Result A ShapeFault) → Whole A
read_by f read = record { good = f.good; spelling = f.spelling; read = read }

abbrev pub read_front_by : {A : Type 0} → Front A → (Place → Result (A × Place) ShapeFault) → Front A
read_front_by f read = record { good = f.good; spelling = f.spelling; read = read }

-- A reading that gives with each value the place at which it starts. It is no format: where a value
-- stands, its spelling doesn't say.
abbrev pub placed : {A : Type 0} → Front A → Front (ℕ × A)
placed f = record {
  good = λ x. f.good x.1;
  spelling = λ x. f.spelling x.1;
  read = λ p. f.read p >>= (λ x. Ok ((p.at, x.0), x.1));
}
