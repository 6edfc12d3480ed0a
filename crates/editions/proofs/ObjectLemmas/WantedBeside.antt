-- What is wanted for the next keys, beside what is wanted for the keys that they are.
use Rattle.std.proofs.Common.{◌≡◌, ℕ, ◌==◌, ◌&&◌, Bool, true, false, cond, Option, Some, None, List, [], ◌∷◌, map, find, refl, sym, ap, subst, ◌∙◌}
use Rattle.std.specs.Prelude.{slice_get, option_map}
use Rattle.std.specs.List.{filter_map, cons_option}
use Rattle.res_sets.specs.declared.holdings.Resources.{Resources}
use Rattle.entitle.specs.declared.trees.Owed.{Owed}
use Rattle.key_roll.specs.declared.rows.KeyRow.{KeyRow}
use Rattle.key_roll.specs.declared.rows.Role.{Role}
use Rattle.key_roll.specs.declared.rows.Role.TheVariants.{Current}
use Rattle.key_roll.specs.declared.work.CertWork.{CertWork}
use Rattle.key_roll.specs.declared.work.RoaWork.{RoaWork}
use Rattle.key_roll.specs.declared.work.KeyName.{KeyName}
use Rattle.key_roll.specs.Roles.{is_role}
use Rattle.issue_plan.specs.declared.keys.NextKey.{NextKey}
use Rattle.issue_plan.specs.Keys.{Basis, kept}
use Rattle.issue_plan.specs.Wanted.{certificate, certificate_of, issuer_of, parents_desk, current_of, current_at, roa_by, roa_of, wanted_certificates, wanted_roas}
use Rattle.items.specs.laws.PairLaws.{Sides}

-- ---- one or none

-- Both, or neither.
abbrev pub Both : {X Y : Type 0} → (X → Y → Type 0) → Option X → Option Y → Type 0
Both R None None = Unit {0}
Both R None (Some y) = ⊥
Both R (Some x) None = ⊥
Both R (Some x) (Some y) = R x y

both-map : {X Y A B : Type 0} (R : X → Y → Type 0) (S : A → B → Type 0) (f : X → A) (g : Y → B)
    (o : Option X) (p : Option Y) → ((x : X) (y : Y) → R x y → S (f x) (g y)) → Both R o p
    → Both S (option_map f o) (option_map g p)
both-map R S f g None None then both = tt
both-map R S f g None (Some y) then both = absurd both
both-map R S f g (Some x) None then both = absurd both
both-map R S f g (Some x) (Some y) then both = then x y both

both-cons : {X Y : Type 0} (R : X → Y → Type 0) (o : Option X) (p : Option Y) (l : List X) (r : List Y)
    → Both R o p → Sides R l r → Sides R (cons_option o l) (cons_option p r)
both-cons R None None l r both rest = rest
both-cons R None (Some y) l r both rest = absurd both
both-cons R (Some x) None l r both rest = absurd both
both-cons R (Some x) (Some y) l r both rest = (both, rest)

-- The first ones of which that holds are beside one another.
pub find-both : {X Y : Type 0} (R : X → Y → Type 0) (p : X → Bool) (q : Y → Bool) (xs : List X) (ys : List Y)
    → ((x : X) (y : Y) → R x y → p x ≡ q y) → Sides R xs ys → Both R (find p xs) (find q ys)
find-both R p q [] [] same sides = tt
find-both R p q [] (y ∷ ys) same sides = absurd sides
find-both R p q (x ∷ xs) [] same sides = absurd sides
find-both {X} {Y} R p q (x ∷ xs) (y ∷ ys) same sides =
    subst (λ (b : Bool). Both R (cond (p x) (Some x) (find p xs)) (cond b (Some y) (find q ys))) (same x y sides.0)
    (by (p x) (find-both R p q xs ys same sides.1))
  where
    by : (b : Bool) → Both R (find p xs) (find q ys)
        → Both R (cond b (Some x) (find p xs)) (cond b (Some y) (find q ys))
    by true rest = sides.0
    by false rest = rest

sides-kept : (R : NextKey → NextKey → Type 0) (nexts : List NextKey) (keys : List KeyRow)
    → Sides (λ next key. R next (kept key)) nexts keys → Sides R nexts (map kept keys)
sides-kept R [] [] sides = tt
sides-kept R [] (key ∷ keys) sides = absurd sides
sides-kept R (next ∷ nexts) [] sides = absurd sides
sides-kept R (next ∷ nexts) (key ∷ keys) sides = (sides.0, sides-kept R nexts keys sides.1)

-- ---- keys and works, by what is asked of their names

-- A next key, and the key that it is.
pub record IsBeside (Same : KeyName → KeyName → Type 0) (next : NextKey) (key : KeyRow) : Type 0 where
  pub name : Same next.name (kept key).name
  pub desk : key.desk ≡ next.desk
  pub role : key.role ≡ next.role

abbrev pub IsSameCert : (KeyName → KeyName → Type 0) → CertWork → CertWork → Type 0
IsSameCert Same one other =
    Same one.subject other.subject × Same one.issuer other.issuer × (one.held ≡ other.held)

abbrev pub IsSameRoa : (KeyName → KeyName → Type 0) → RoaWork → RoaWork → Type 0
IsSameRoa Same one other = Same one.issuer other.issuer × (one.origin ≡ other.origin)

module _ (basis : Basis) (Same : KeyName → KeyName → Type 0) (nexts : List NextKey) (keys : List KeyRow)
    (sides : Sides (IsBeside Same) nexts keys) where
  abbrev now : List NextKey
  now = map kept keys

  abbrev IsSameKey : NextKey → NextKey → Type 0
  IsSameKey next key = Same next.name key.name × (key.desk ≡ next.desk) × (key.role ≡ next.role)

  same-keys : (xs : List NextKey) (ys : List KeyRow) → Sides (IsBeside Same) xs ys
      → Sides (λ next key. IsSameKey next (kept key)) xs ys
  same-keys [] [] sides = tt
  same-keys [] (y ∷ ys) sides = absurd sides
  same-keys (x ∷ xs) [] sides = absurd sides
  same-keys (x ∷ xs) (y ∷ ys) sides =
      ((sides.0.name, sides.0.desk, sides.0.role), same-keys xs ys sides.1)

  abbrev is-current : ℕ → NextKey → Bool
  is-current desk key = (key.desk == desk) && is_role key.role Current

  current-same : (desk : ℕ) → Both Same (current_of nexts desk) (current_of now desk)
  current-same desk =
      both-map IsSameKey Same (λ (x : NextKey). x.name) (λ (y : NextKey). y.name)
      (find (is-current desk) nexts) (find (is-current desk) now) (λ x y same. same.0)
      (find-both IsSameKey (is-current desk) (is-current desk) nexts now
      (λ x y is. ap (λ (d : ℕ). (d == desk) && is_role x.role Current) (sym is.1)
      ∙ ap (λ (r : Role). (y.desk == desk) && is_role r Current) (sym is.2))
      (sides-kept IsSameKey nexts keys (same-keys nexts keys sides)))

  at-same : (o : Option ℕ) → Both Same (current_at nexts o) (current_at now o)
  at-same None = tt
  at-same (Some desk) = current-same desk

  issuer-same : (next : NextKey) (key : KeyRow) → IsBeside Same next key
      → Both Same (issuer_of basis.configs nexts next) (issuer_of basis.configs now (kept key))
  issuer-same next key is =
      subst (λ (d : ℕ). Both Same (issuer_of basis.configs nexts next)
      (cond (d == 0) (Some (kept key).name) (current_at now (parents_desk basis.configs d))))
      (sym is.desk) (by (next.desk == 0))
    where
      by : (b : Bool) → Both Same
          (cond b (Some next.name) (current_at nexts (parents_desk basis.configs next.desk)))
          (cond b (Some (kept key).name) (current_at now (parents_desk basis.configs next.desk)))
      by true = is.name
      by false = at-same (parents_desk basis.configs next.desk)

  -- ---- certificates

  both-certs : (one other : KeyName) (c d : Option KeyName) (set : Option Resources) → Same one other
      → Both Same c d → Both (IsSameCert Same) (certificate one c set) (certificate other d set)
  both-certs one other None None set subject issuer = tt
  both-certs one other None (Some d) set subject issuer = absurd issuer
  both-certs one other (Some c) None set subject issuer = absurd issuer
  both-certs one other (Some c) (Some d) None subject issuer = tt
  both-certs one other (Some c) (Some d) (Some held) subject issuer = (subject, issuer, refl)

  cert-beside : (next : NextKey) (key : KeyRow) → IsBeside Same next key
      → Both (IsSameCert Same) (certificate_of basis.configs basis.sets nexts next)
      (certificate_of basis.configs basis.sets now (kept key))
  cert-beside next key is =
      subst (λ (d : ℕ). Both (IsSameCert Same) (certificate_of basis.configs basis.sets nexts next)
      (certificate (kept key).name (issuer_of basis.configs now (kept key)) (slice_get basis.sets d))) (sym is.desk)
      (both-certs next.name (kept key).name (issuer_of basis.configs nexts next)
      (issuer_of basis.configs now (kept key)) (slice_get basis.sets next.desk) is.name (issuer-same next key is))

  of-each : (xs : List NextKey) (ys : List KeyRow) → Sides (IsBeside Same) xs ys
      → Sides (IsSameCert Same) (filter_map (certificate_of basis.configs basis.sets nexts) xs)
      (filter_map (certificate_of basis.configs basis.sets now) (map kept ys))
  of-each [] [] sides = tt
  of-each [] (y ∷ ys) sides = absurd sides
  of-each (x ∷ xs) [] sides = absurd sides
  of-each (x ∷ xs) (y ∷ ys) sides =
      both-cons (IsSameCert Same) (certificate_of basis.configs basis.sets nexts x)
      (certificate_of basis.configs basis.sets now (kept y))
      (filter_map (certificate_of basis.configs basis.sets nexts) xs)
      (filter_map (certificate_of basis.configs basis.sets now) (map kept ys))
      (cert-beside x y sides.0) (of-each xs ys sides.1)

  pub certs-beside : Sides (IsSameCert Same) (wanted_certificates basis.configs basis.sets nexts)
      (wanted_certificates basis.configs basis.sets now)
  certs-beside = of-each nexts keys sides

  -- ---- ROAs

  both-roas : (owed : Owed) (one other : Option KeyName) → Both Same one other
      → Both (IsSameRoa Same) (roa_by owed one) (roa_by owed other)
  both-roas owed None None same = tt
  both-roas owed None (Some b) same = absurd same
  both-roas owed (Some c) None same = absurd same
  both-roas owed (Some c) (Some b) same = (same, refl)

  pub roas-beside : (owed : List Owed) → Sides (IsSameRoa Same) (wanted_roas nexts owed) (wanted_roas now owed)
  roas-beside [] = tt
  roas-beside (o ∷ owed) =
      both-cons (IsSameRoa Same) (roa_of nexts o) (roa_of now o) (filter_map (roa_of nexts) owed)
      (filter_map (roa_of now) owed)
      (both-roas o (current_of nexts o.desk) (current_of now o.desk) (current-same o.desk)) (roas-beside owed)
