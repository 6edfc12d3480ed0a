-- Signers that are asked one after another.
use Rattle.std.proofs.Common.{◌≡◌, ◌≢◌, ◌<◌, ◌+◌, ℕ, zero, suc, List, [], ◌∷◌, Bool, true, false, length, get_or, inl, inr, refl, sym, ◌∙◌, subst, arith}
use Rattle.std.specs.Prelude.{slice_get, IfSome, IsTrue, ◌↔◌, Any}
use Rattle.std.proofs.lemmas.Bool.{cases_eq}
use Rattle.signer_api.specs.State.{SignerState, Vouching, TellsBy, VouchesBy, Tells, Vouches}
use Rattle.signer_api.specs.State.Vouching.{NotTold, Listed, Hashed}
use Rattle.signer_ring.specs.Ring.{AllTell, Vouched}

-- None of the first ones vouches.
abbrev pub NoneBelow : ℕ → List ℕ → List ℕ → List ℕ → List SignerState → Type 0
NoneBelow n key digest signature signers = (i : ℕ) (x : SignerState) → i < n → ¬ (Vouches (get_or signers i x) key digest signature)

vouching_tells : (v : Vouching) (key digest signature : List ℕ) → VouchesBy v key digest signature → TellsBy v
vouching_tells NotTold key digest signature vouched = vouched
vouching_tells (Listed given) key digest signature vouched = tt
vouching_tells Hashed key digest signature vouched = tt

-- what is said of the signer at a place
said_at : (P : SignerState → Type 0) (signers : List SignerState) (i : ℕ) (x : SignerState) → i < length signers → IfSome (slice_get signers i) P → P (get_or signers i x)
said_at P [] i x low says = let none : ⊥ = omega (arith, low) in absurd none
said_at P (y ∷ ys) zero x low says = says
said_at P (y ∷ ys) (suc i) x low says = said_at P ys i x (omega (arith, low)) says

some_said : (P : SignerState → Type 0) (signers : List SignerState) (i : ℕ) → i < length signers → IfSome (slice_get signers i) P → Any P signers
some_said P [] i low says = let none : ⊥ = omega (arith, low) in absurd none
some_said P (y ∷ ys) zero low says = (zero, y, omega arith, refl, says)
some_said P (y ∷ ys) (suc i) low says =
    let rest = some_said P ys i (omega (arith, low)) says in
    (suc rest.0, rest.1, omega (arith, rest.2), rest.3, rest.4)

-- one that said yes
pub says_yes : (key digest signature : List ℕ) (old ring : List SignerState) (i : ℕ) (b : Bool) → ring ≡ old → i < length old → b ≡ true
    → IfSome (slice_get ring i) (λ at. Tells at → IsTrue b ↔ Vouches at key digest signature) → Any (λ at. Tells at → Vouches at key digest signature) old
says_yes key digest signature old ring i b same low is says =
    let P : SignerState → Type 0 = λ at. Tells at → IsTrue b ↔ Vouches at key digest signature in
    let some = some_said P old i low (subst (λ (signers : List SignerState). IfSome (slice_get signers i) P) same says) in
    (some.0, some.1, some.2, some.3, λ tells. (some.4 tells).0 is)

-- where all tell, the yes is vouched
pub yes_vouched : (key digest signature : List ℕ) (old new : List SignerState) → new ≡ old → Any (λ at. Tells at → Vouches at key digest signature) old
    → AllTell old → IsTrue true ↔ Vouched new key digest signature
yes_vouched key digest signature old new same some all = rw same (
  λ _. (some.0, some.1, some.2, some.3, some.4 (subst Tells some.3 (all some.0 some.1 some.2))),
  λ _. refl,
)

-- one more that said no
pub says_no : (key digest signature : List ℕ) (old ring : List SignerState) (n : ℕ) (b : Bool) → ring ≡ old → n < length old → b ≡ false
    → IfSome (slice_get ring n) (λ at. Tells at → IsTrue b ↔ Vouches at key digest signature)
    → NoneBelow n key digest signature old → NoneBelow (n + 1) key digest signature old
says_no key digest signature old ring n b same low is says none i x below vouched =
    let P : SignerState → Type 0 = λ at. Tells at → IsTrue b ↔ Vouches at key digest signature in
    let here : i ≡ n → ⊥ = λ place.
    let at_n : Vouches (get_or old n x) key digest signature = subst (λ (k : ℕ). Vouches (get_or old k x) key digest signature) place vouched in
    let says_old = said_at P old n x low (subst (λ (signers : List SignerState). IfSome (slice_get signers n) P) same says) in
    let yes_b : b ≡ true = (says_old (vouching_tells (get_or old n x).vouching key digest signature at_n)).1 at_n in
    let clash : false ≡ true = sym is ∙ yes_b in cc in
    let other : (i ≢ n) → ⊥ = λ differ. none i x (omega (arith, below, differ)) vouched in
    elim (cases_eq i n) [ inl place ↦ here place | inr differ ↦ other differ ]
