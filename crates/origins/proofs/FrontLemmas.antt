-- The front of a text that passes a test, and what follows it.
use Rattle.std.proofs.Common.{◌≡◌, ℕ, ◌+◌, Bool, true, false, cond, List, [], ◌∷◌, ◌++◌, length, take, drop, refl, sym, ap, ◌∙◌, one-add, take-append-drop}
use Rattle.std.specs.List.{prefix_len}
use Rattle.origins.specs.inner.Fronts.{Passes, Stops}

front_len : (p : ℕ → Bool) (a x : List ℕ) → Passes p a → Stops p x → prefix_len p (a ++ x) ≡ length a
front_len p [] [] h stop = refl
front_len p [] (c ∷ cs) h stop = rw stop
front_len p (c ∷ a) x h stop = rw (h.0, front_len p a x h.1 stop) (one-add _)

take_front : (a x : List ℕ) → take (length a) (a ++ x) ≡ a
take_front [] x = refl
take_front (c ∷ a) x = ap (λ t. c ∷ t) (take_front a x)

drop_front : (a x : List ℕ) → drop (length a) (a ++ x) ≡ x
drop_front [] x = refl
drop_front (c ∷ a) x = drop_front a x

-- the front is the part that passes
pub front_is : (p : ℕ → Bool) (text a x : List ℕ) → text ≡ a ++ x → Passes p a → Stops p x → take (prefix_len p text) text ≡ a
front_is p text a x e h stop = rw (e, front_len p a x h stop) (take_front a x)

pub back_is : (p : ℕ → Bool) (text a x : List ℕ) → text ≡ a ++ x → Passes p a → Stops p x → drop (prefix_len p text) text ≡ x
back_is p text a x e h stop = rw (e, front_len p a x h stop) (drop_front a x)

passes_step : (p : ℕ → Bool) (c : ℕ) (xs : List ℕ) (b : Bool) → p c ≡ b → Passes p (take (prefix_len p xs) xs) → Passes p (take (cond b (1 + prefix_len p xs) 0) (c ∷ xs))
passes_step p c xs true e h = rw one-add (e, h)
passes_step p c xs false e h = tt

pub front_passes : (p : ℕ → Bool) (text : List ℕ) → Passes p (take (prefix_len p text) text)
front_passes p [] = tt
front_passes p (c ∷ xs) = passes_step p c xs (p c) refl (front_passes p xs)

stops_step : (p : ℕ → Bool) (c : ℕ) (xs : List ℕ) (b : Bool) → p c ≡ b → Stops p (drop (prefix_len p xs) xs) → Stops p (drop (cond b (1 + prefix_len p xs) 0) (c ∷ xs))
stops_step p c xs true e h = rw one-add h
stops_step p c xs false e h = e

pub back_stops : (p : ℕ → Bool) (text : List ℕ) → Stops p (drop (prefix_len p text) text)
back_stops p [] = tt
back_stops p (c ∷ xs) = stops_step p c xs (p c) refl (back_stops p xs)

pub front_and_back : (p : ℕ → Bool) (text : List ℕ) → text ≡ take (prefix_len p text) text ++ drop (prefix_len p text) text
front_and_back p text = sym (take-append-drop (prefix_len p text) text)

-- a text has one such front
pub same_front : (p : ℕ → Bool) (a b x y : List ℕ) → Passes p a → Passes p b → Stops p x → Stops p y → a ++ x ≡ b ++ y → (a ≡ b) × (x ≡ y)
same_front p a b x y pa pb sx sy e = (
  sym (front_is p (a ++ x) a x refl pa sx) ∙ front_is p (a ++ x) b y e pb sy,
  sym (back_is p (a ++ x) a x refl pa sx) ∙ back_is p (a ++ x) b y e pb sy,
)

pub passes_append : (p : ℕ → Bool) (a b : List ℕ) → Passes p a → Passes p b → Passes p (a ++ b)
passes_append p [] b h k = k
passes_append p (c ∷ a) b h k = (h.0, passes_append p a b h.1 k)
