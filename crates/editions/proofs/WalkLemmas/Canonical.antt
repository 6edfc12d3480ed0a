-- What a certificate reads as holds addresses by canonical lists.
use Rattle.std.proofs.Common.{◌≡◌, ℕ, Bool, true, false, cond, Option, Some, None, List, [], Result, Ok, Err, refl, ap, subst, ◌⊎◌, inl, inr}
use Rattle.std.specs.Prelude.{⊤}
use Rattle.res_sets.specs.declared.numbers.Family.{Family}
use Rattle.res_sets.specs.declared.numbers.Family.TheVariants.{Asn, V4, V6}
use Rattle.res_sets.specs.Numbers.{family_end}
use Rattle.der.specs.Tags as tag
use Rattle.der.specs.declared.shape_fault.ShapeFault.{ShapeFault}
use Rattle.der.specs.declared.shape_fault.ShapeFault.TheVariants.{Shape}
use Rattle.der.specs.Part.{Place, ◌>>=◌, start, open_at, sole_at, end_at, begins}
use Rattle.der.specs.Form.{Whole, Front}
use Rattle.der.specs.laws.FormLaws.{bind-ok, same-ok}
use Rattle.der.specs.Forms.{ends, within, after, both, only, sole, preceded, through, mapped, mapped_front, tested, either, choice, possibly, many, there_or, first_or, some_or_none, OnSomeOf, EitherOf}
use Rattle.der.specs.Leaves.{number, constant}
use Rattle.object_parts.specs.declared.identifiers.TheConstants.{IP_BLOCKS, AS_IDENTIFIERS}
use Rattle.object_parts.specs.FrameFormats.{signature_algorithm, issuer_key, critical_extension, critical_extension_at, signed, signed_at}
use Rattle.object_parts.specs.NameFormats.{name}
use Rattle.object_parts.specs.TimeFormats.{period}
use Rattle.res_ext.specs.Formats as sets
use Rattle.cert_obj.specs.Values.{Sets, CertValue, SignedCert, IsListOf, IsHeld, IsCert, may_hold}
use Rattle.cert_obj.specs.declared.values.CertKind.TheVariants.{EndEntity}
use Rattle.cert_obj.specs.Extensions.{basic_constraints, subject_key, authority_usage, entity_usage, key_usage, distribution, issuer_information, authority_information, entity_information, policies}
use Rattle.cert_obj.specs.Holdings as holdings
use Rattle.cert_obj.specs.Formats as cert
use Rattle.rp_rules.specs.Objects.{certificate_in}
use Rattle.editions.proofs.ObjectLemmas.OneKind.{read-in}

-- ---- what a format gives

-- Each value that is read is such.
abbrev Gives : {A : Type 0} → (A → Type 0) → Whole A → Type 0
Gives {A} P f = (p : Place) (x : A) → f.read p ≡ Ok x → P x

abbrev GivesFront : {A : Type 0} → (A → Type 0) → Front A → Type 0
GivesFront {A} P f = (p : Place) (x : A × Place) → f.read p ≡ Ok x → P x.0

preceded-gives : {A : Type 0} (P : A → Type 0) (f : Front (Unit {0})) (g : Whole A) → Gives P g
    → Gives P (preceded f g)
preceded-gives P f g gives p x e =
    let a = bind-ok (f.read p) (λ q. g.read q.1) x e in
    gives a.0.1 x a.2

after-gives : {A B : Type 0} (P : B → Type 0) (f : Front A) (g : A → Whole B)
    → ((x : A) → Gives P (g x)) → Gives (λ (y : A × B). P y.1) (after f g)
after-gives {A} {B} P f g gives p y e =
    let a = bind-ok {A = A × Place} {B = A × B} (f.read p)
    (λ x. (g x.0).read x.1 >>= (λ z. Ok (x.0, z))) y e in
    let b = bind-ok {A = B} {B = A × B} ((g a.0.0).read a.0.1) (λ z. Ok (a.0.0, z)) y a.2 in
    subst (λ (z : A × B). P z.1) (same-ok (a.0.0, b.0) y b.2) (gives a.0.0 a.0.1 b.0 b.1)

both-gives : {A B : Type 0} (P : B → Type 0) (f : Front A) (g : Whole B) → Gives P g
    → Gives (λ (y : A × B). P y.1) (both f g)
both-gives P f g gives = after-gives P f (λ x. g) (λ x. gives)

mapped-gives : {A B : Type 0} (P : A → Type 0) (Q : B → Type 0) (f : Whole A) (to : A → B)
    (from : B → A) (good : B → Type 0) → ((x : A) → P x → Q (to x)) → Gives P f
    → Gives Q (mapped f to from good)
mapped-gives {A} {B} P Q f to from good then gives p y e =
    let a = bind-ok {A = A} {B = B} (f.read p) (λ x. Ok (to x)) y e in
    subst Q (same-ok (to a.0) y a.2) (then a.0 (gives p a.0 a.1))

mapped-front-gives : {A B : Type 0} (P : A → Type 0) (Q : B → Type 0) (f : Front A) (to : A → B)
    (from : B → A) (good : B → Type 0) → ((x : A) → P x → Q (to x)) → GivesFront P f
    → GivesFront Q (mapped_front f to from good)
mapped-front-gives {A} {B} P Q f to from good then gives p y e =
    let a = bind-ok {A = A × Place} {B = B × Place} (f.read p) (λ x. Ok (to x.0, x.1)) y e in
    subst (λ (z : B × Place). Q z.0) (same-ok (to a.0.0, a.0.1) y a.2)
    (then a.0.0 (gives p a.0 a.1))

there-some : {A : Type 0} (e : ShapeFault) (o : Option A) (x : A) → there_or e o ≡ Ok x
    → o ≡ Some x
there-some {A} e (Some y) x is = ap (λ (z : A). Some z) (same-ok y x is)
there-some e None x is = absurd cc

through-gives : {A B : Type 0} (P : A → Type 0) (Q : B → Type 0) (f : Whole A) (to : A → Option B)
    (from : B → A) (good : B → Type 0) → ((x : A) (y : B) → to x ≡ Some y → P x → Q y)
    → Gives P f → Gives Q (through f to from good)
through-gives {A} {B} P Q f to from good then gives p y e =
    let a = bind-ok {A = A} {B = B} (f.read p) (λ x. there_or (Shape p.last) (to x)) y e in
    then a.0 y (there-some (Shape p.last) (to a.0) y a.2) (gives p a.0 a.1)

sole-gives : {A : Type 0} (P : A → Type 0) (t : ℕ) (f : Whole A) → Gives P f → Gives P (sole t f)
sole-gives P t f gives p x e =
    let a = bind-ok (sole_at t p) f.read x e in
    gives a.0 x a.2

within-gives : {A : Type 0} (P : A → Type 0) (t : ℕ) (f : Whole A) → Gives P f
    → GivesFront P (within t f)
within-gives {A} P t f gives p x e =
    let a = bind-ok {A = Place × Place} {B = A × Place} (open_at t p)
    (λ q. f.read q.0 >>= (λ y. Ok (y, q.1))) x e in
    let b = bind-ok {A = A} {B = A × Place} (f.read a.0.0) (λ y. Ok (y, a.0.1)) x a.2 in
    subst (λ (z : A × Place). P z.0) (same-ok (b.0, a.0.1) x b.2) (gives a.0.0 b.0 b.1)

only-gives : {A : Type 0} (P : A → Type 0) (f : Front A) → GivesFront P f → Gives P (only f)
only-gives {A} P f gives p x e =
    let a = bind-ok {A = A × Place} {B = A} (f.read p) (λ y. end_at y.1 >>= (λ u. Ok y.0)) x e in
    let b = bind-ok {A = Unit {0}} {B = A} (end_at a.0.1) (λ u. Ok a.0.0) x a.2 in
    subst P (same-ok a.0.0 x b.2) (gives p a.0 a.1)

passes : {A : Type 0} (b : Bool) (x y : A) (e : ShapeFault) → cond b (Ok x) (Err e) ≡ Ok y
    → (b ≡ true) × (x ≡ y)
passes true x y e is = (refl, same-ok x y is)
passes false x y e is = absurd cc

-- A test is passed, and what was given before it still is.
tested-gives : {A : Type 0} (P : A → Type 0) (f : Whole A) (test : A → Bool) → Gives P f
    → Gives (λ (x : A). (test x ≡ true) × P x) (tested f test)
tested-gives {A} P f test gives p x e =
    let a = bind-ok {A = A} {B = A} (f.read p) (λ y. cond (test y) (Ok y) (Err (Shape p.last))) x e in
    let b = passes (test a.0) a.0 x (Shape p.last) a.2 in
    subst (λ (y : A). (test y ≡ true) × P y) b.1 (b.0, gives p a.0 a.1)

first-gives : {A B : Type 0} (P : A → Type 0) (Q : B → Type 0) (r : Result A ShapeFault)
    (q : Result B ShapeFault) (x : A ⊎ B) → ((y : A) → r ≡ Ok y → P y)
    → ((y : B) → q ≡ Ok y → Q y) → first_or r q ≡ Ok x → EitherOf P Q x
first-gives {A} {B} P Q (Ok y) q x one two e = subst (EitherOf P Q) (same-ok (inl y) x e) (one y refl)
first-gives {A} {B} P Q (Err d) (Ok y) x one two e =
    subst (EitherOf P Q) (same-ok (inr y) x e) (two y refl)
first-gives P Q (Err d) (Err f) x one two e = absurd cc

choice-gives : {A B : Type 0} (P : A → Type 0) (Q : B → Type 0) (f : Whole A) (g : Whole B)
    → Gives P f → Gives Q g → Gives (EitherOf P Q) (choice f g)
choice-gives P Q f g one two p x e = first-gives P Q (f.read p) (g.read p) x (one p) (two p) e

either-gives : {A B : Type 0} (P : A → Type 0) (Q : B → Type 0) (t : ℕ) (f : Front A) (g : Front B)
    → GivesFront P f → GivesFront Q g → GivesFront (EitherOf P Q) (either t f g)
either-gives {A} {B} P Q t f g one two p x e = by (begins t p.left) e
  where
    by : (b : Bool) → cond b (f.read p >>= (λ (y : A × Place). Ok (inl y.0, y.1)))
        (g.read p >>= (λ (y : B × Place). Ok (inr y.0, y.1))) ≡ Ok x → EitherOf P Q x.0
    by true e =
        let a = bind-ok {A = A × Place} {B = (A ⊎ B) × Place} (f.read p) (λ y. Ok (inl y.0, y.1)) x e in
        subst (λ (z : (A ⊎ B) × Place). EitherOf P Q z.0) (same-ok (inl a.0.0, a.0.1) x a.2)
        (one p a.0 a.1)
    by false e =
        let a = bind-ok {A = B × Place} {B = (A ⊎ B) × Place} (g.read p) (λ y. Ok (inr y.0, y.1)) x e in
        subst (λ (z : (A ⊎ B) × Place). EitherOf P Q z.0) (same-ok (inr a.0.0, a.0.1) x a.2)
        (two p a.0 a.1)

possibly-by : {A B : Type 0} (P : A → Type 0) (Q : B → Type 0) (r : Result (A × Place) ShapeFault)
    (q : Result B ShapeFault) (g : Whole B) (x : Option A × B)
    → ((y : A × Place) → r ≡ Ok y → P y.0) → ((y : B) → q ≡ Ok y → Q y) → Gives Q g
    → some_or_none r q g ≡ Ok x → OnSomeOf P x.0 × Q x.1
possibly-by {A} {B} P Q (Ok y) q g x one two rest e =
    let a = bind-ok {A = B} {B = Option A × B} (g.read y.1) (λ z. Ok (Some y.0, z)) x e in
    subst (λ (w : Option A × B). OnSomeOf P w.0 × Q w.1) (same-ok (Some y.0, a.0) x a.2)
    (one y refl, rest y.1 a.0 a.1)
possibly-by {A} {B} P Q (Err d) (Ok z) g x one two rest e =
    subst (λ (w : Option A × B). OnSomeOf P w.0 × Q w.1) (same-ok (None, z) x e) (tt, two z refl)
possibly-by P Q (Err d) (Err f) g x one two rest e = absurd cc

possibly-gives : {A B : Type 0} (P : A → Type 0) (Q : B → Type 0) (f : Front A) (g : Whole B)
    → GivesFront P f → Gives Q g
    → Gives (λ (x : Option A × B). OnSomeOf P x.0 × Q x.1) (possibly f g)
possibly-gives P Q f g one two p x e =
    possibly-by P Q (f.read p) (g.read p) g x (one p) (two p) two e

critical-gives : {A : Type 0} (P : A → Type 0) (oid : List ℕ) (f : Whole A) → Gives P f
    → GivesFront P (critical_extension oid f)
critical-gives {A} P oid f gives p x e =
    let a = bind-ok {A = Place × Place} {B = A × Place} (critical_extension_at oid p)
    (λ v. f.read v.0 >>= (λ y. Ok (y, v.1))) x e in
    let b = bind-ok {A = A} {B = A × Place} (f.read a.0.0) (λ y. Ok (y, a.0.1)) x a.2 in
    subst (λ (z : A × Place). P z.0) (same-ok (b.0, a.0.1) x b.2) (gives a.0.0 b.0 b.1)

signed-gives : {A : Type 0} (P : A → Type 0) (f : Whole A) → Gives P f
    → Gives (λ (x : A × List ℕ × List ℕ). P x.0) (signed f)
signed-gives {A} P f gives p x e =
    let a = bind-ok {A = Place × List ℕ × List ℕ} {B = A × List ℕ × List ℕ} (signed_at p)
    (λ v. f.read v.0 >>= (λ y. Ok (y, v.1, v.2))) x e in
    let b = bind-ok {A = A} {B = A × List ℕ × List ℕ} (f.read a.0.0)
    (λ y. Ok (y, a.0.1, a.0.2)) x a.2 in
    subst (λ (z : A × List ℕ × List ℕ). P z.0) (same-ok (b.0, a.0.1, a.0.2) x b.2)
    (gives a.0.0 b.0 b.1)

anything : {A : Type 0} (f : Whole A) → Gives (λ (x : A). ⊤) f
anything f p x e = tt

anything-front : {A : Type 0} (f : Front A) → GivesFront (λ (x : A). ⊤) f
anything-front f p x e = tt

-- ---- addresses

abbrev IsOne : Family → Option (List (ℕ × ℕ)) → Type 0
IsOne family None = ⊤
IsOne family (Some spans) = IsListOf family spans

abbrev AreBoth : holdings.Addresses → Type 0
AreBoth None = ⊤
AreBoth (Some both) = IsListOf V4 both.0 × IsListOf V6 both.1

abbrev pub AreListed : Option Sets → Type 0
AreListed None = ⊤
AreListed (Some sets) =
    IsListOf Asn sets.asn × (IsListOf V4 sets.v4 × IsListOf V6 sets.v6)

blocks-give : (family : Family) → Gives (IsListOf family) (sets.blocks family)
unfolding sets.blocks
blocks-give family p x e =
    (tested-gives (λ x. ⊤) (many (sets.block family)) (sets.are_canonical (family_end family) 0)
    (anything (many (sets.block family))) p x e).0

abbrev OneOf : Family → Unit {0} ⊎ List (ℕ × ℕ) → Type 0
OneOf family = EitherOf (λ x. ⊤) (IsListOf family)

one-of : (family : Family) (x : Unit {0} ⊎ List (ℕ × ℕ)) → OneOf family x
    → IsOne family (sets.choice_value x)
one-of family (inl x) is = tt
one-of family (inr spans) is = is

choice-of-sets : (family : Family) → Gives (IsOne family) (sets.choice family)
unfolding sets.choice
choice-of-sets family =
    only-gives (IsOne family)
    (mapped_front (either tag.null (within tag.null ends) (within tag.sequence (sets.blocks family)))
    sets.choice_value sets.choice_kind (sets.choice_good family))
    (mapped-front-gives (OneOf family) (IsOne family)
    (either tag.null (within tag.null ends) (within tag.sequence (sets.blocks family)))
    sets.choice_value sets.choice_kind (sets.choice_good family) (one-of family)
    (either-gives (λ x. ⊤) (IsListOf family) tag.null (within tag.null ends)
    (within tag.sequence (sets.blocks family)) (anything-front (within tag.null ends))
    (within-gives (IsListOf family) tag.sequence (sets.blocks family) (blocks-give family))))

part-gives : (family : Family) → GivesFront (IsOne family) (sets.part family)
unfolding sets.part
part-gives family =
    within-gives (IsOne family) tag.sequence
    (preceded (constant tag.octet_string (sets.family_bytes family))
    (tested (sets.choice family) sets.has_numbers))
    (preceded-gives (IsOne family) (constant tag.octet_string (sets.family_bytes family))
    (tested (sets.choice family) sets.has_numbers)
    (λ p x e. (tested-gives (IsOne family) (sets.choice family) sets.has_numbers
    (choice-of-sets family) p x e).1))

abbrev Parts : Type 0
Parts = Option (Option (List (ℕ × ℕ))) × (Option (Option (List (ℕ × ℕ))) × Unit {0})

abbrev AreParts : Parts → Type 0
AreParts x = OnSomeOf (IsOne V4) x.0 × (OnSomeOf (IsOne V6) x.1.0 × ⊤)

abbrev some-both : List (ℕ × ℕ) → List (ℕ × ℕ) → Option holdings.Addresses
some-both v4 v6 = Some (Some (v4, v6))

same-addresses : (x y : holdings.Addresses) (o : Option holdings.Addresses) → o ≡ Some x
    → o ≡ Some y → x ≡ y
same-addresses x y o one other = cc

both-of : (v4 v6 : Option (Option (List (ℕ × ℕ)))) (y : holdings.Addresses)
    → sets.joined v4 v6 ≡ Some y → OnSomeOf (IsOne V4) v4 → OnSomeOf (IsOne V6) v6 → AreBoth y
both-of None None y e one two =
    subst AreBoth (same-addresses (Some ([], [])) y (Some (Some ([], []))) refl e) (refl, refl)
both-of None (Some None) y e one two = absurd cc
both-of None (Some (Some v6)) y e one two =
    subst AreBoth (same-addresses (Some ([], v6)) y (Some (Some ([], v6))) refl e) (refl, two)
both-of (Some None) None y e one two = absurd cc
both-of (Some None) (Some None) y e one two =
    subst AreBoth (same-addresses None y (Some None) refl e) tt
both-of (Some None) (Some (Some v6)) y e one two = absurd cc
both-of (Some (Some v4)) None y e one two =
    subst AreBoth (same-addresses (Some (v4, [])) y (Some (Some (v4, []))) refl e) (one, refl)
both-of (Some (Some v4)) (Some None) y e one two = absurd cc
both-of (Some (Some v4)) (Some (Some v6)) y e one two =
    subst AreBoth (same-addresses (Some (v4, v6)) y (Some (Some (v4, v6))) refl e) (one, two)

both-in : (x : Parts) (y : holdings.Addresses) → sets.ip_in x ≡ Some y → AreParts x → AreBoth y
unfolding sets.ip_in
both-in x y e are = both-of x.0 x.1.0 y e are.0 are.1.0

blocks-both : Gives AreBoth sets.ip_blocks
unfolding sets.ip_content
blocks-both =
    sole-gives AreBoth tag.sequence sets.ip_content
    (through-gives AreParts AreBoth (possibly (sets.part V4) (possibly (sets.part V6) ends))
    sets.ip_in sets.ip_out sets.ip_good both-in
    (possibly-gives (IsOne V4) (λ x. OnSomeOf (IsOne V6) x.0 × ⊤) (sets.part V4)
    (possibly (sets.part V6) ends) (part-gives V4)
    (possibly-gives (IsOne V6) (λ x. ⊤) (sets.part V6) ends (part-gives V6) (anything ends))))

addresses-give : GivesFront AreBoth holdings.addresses
addresses-give =
    critical-gives AreBoth IP_BLOCKS (tested sets.ip_blocks holdings.has_addresses)
    (λ p x e. (tested-gives AreBoth sets.ip_blocks holdings.has_addresses blocks-both p x e).1)

-- ---- AS numbers

as-content-gives : Gives (IsOne Asn) sets.as_content
unfolding sets.as_content
as-content-gives = sole-gives (IsOne Asn) tag.context_0 (sets.choice Asn) (choice-of-sets Asn)

numbers-give : GivesFront (IsOne Asn) holdings.numbers
numbers-give =
    critical-gives (IsOne Asn) AS_IDENTIFIERS (tested sets.as_identifiers sets.has_numbers)
    (λ p x e. (tested-gives (IsOne Asn) sets.as_identifiers sets.has_numbers
    (sole-gives (IsOne Asn) tag.sequence sets.as_content as-content-gives) p x e).1)

-- ---- resources

abbrev Two : Type 0
Two = Option holdings.Addresses × (Option holdings.Numbers × Unit {0})

same-sets : (x y : Option Sets) (o : Option (Option Sets)) → o ≡ Some x → o ≡ Some y → x ≡ y
same-sets x y o one other = cc

abbrev sets-with : List (ℕ × ℕ) → List (ℕ × ℕ) → List (ℕ × ℕ) → Option Sets
sets-with asn v4 v6 = Some (record { asn = asn; v4 = v4; v6 = v6 })

listed-of : (ip : Option holdings.Addresses) (asn : Option holdings.Numbers) (y : Option Sets)
    → holdings.joined ip asn ≡ Some y → OnSomeOf AreBoth ip → OnSomeOf (IsOne Asn) asn → AreListed y
listed-of None None y e is are =
    subst AreListed (same-sets (sets-with [] [] []) y (Some (sets-with [] [] [])) refl e)
    (refl, (refl, refl))
listed-of None (Some None) y e is are = absurd cc
listed-of None (Some (Some asn)) y e is are =
    subst AreListed (same-sets (sets-with asn [] []) y (Some (sets-with asn [] [])) refl e)
    (are, (refl, refl))
listed-of (Some None) None y e is are = absurd cc
listed-of (Some None) (Some None) y e is are = subst AreListed (same-sets None y (Some None) refl e) tt
listed-of (Some None) (Some (Some asn)) y e is are = absurd cc
listed-of (Some (Some ip)) None y e is are =
    subst AreListed (same-sets (sets-with [] ip.0 ip.1) y (Some (sets-with [] ip.0 ip.1)) refl e)
    (refl, is)
listed-of (Some (Some ip)) (Some None) y e is are = absurd cc
listed-of (Some (Some ip)) (Some (Some asn)) y e is are =
    subst AreListed (same-sets (sets-with asn ip.0 ip.1) y (Some (sets-with asn ip.0 ip.1)) refl e)
    (are, is)

listed-in : (x : Two) (y : Option Sets) → holdings.held_in x ≡ Some y
    → OnSomeOf AreBoth x.0 × (OnSomeOf (IsOne Asn) x.1.0 × ⊤) → AreListed y
unfolding holdings.held_in
listed-in x y e is = listed-of x.0 x.1.0 y e is.0 is.1.0

held-gives : Gives AreListed holdings.held
unfolding holdings.held
held-gives =
    through-gives (λ x. OnSomeOf AreBoth x.0 × (OnSomeOf (IsOne Asn) x.1.0 × ⊤)) AreListed
    (possibly holdings.addresses (possibly holdings.numbers ends)) holdings.held_in
    holdings.held_out IsHeld listed-in
    (possibly-gives AreBoth (λ x. OnSomeOf (IsOne Asn) x.0 × ⊤) holdings.addresses
    (possibly holdings.numbers ends) addresses-give
    (possibly-gives (IsOne Asn) (λ x. ⊤) holdings.numbers ends numbers-give (anything ends)))

entity-held-gives : Gives AreListed holdings.entity_held
unfolding holdings.entity_held
entity-held-gives p x e =
    (tested-gives AreListed holdings.held (may_hold EndEntity) held-gives p x e).1

-- ---- certificates

abbrev ListsPublished : cert.Published → Type 0
ListsPublished x = AreListed x.1

published-gives : Gives ListsPublished cert.published
unfolding cert.published
published-gives =
    both-gives AreListed authority_information (preceded policies holdings.held)
    (preceded-gives AreListed policies holdings.held held-gives)

anchor-gives : Gives ListsPublished cert.anchor_rest
unfolding cert.anchor_rest
anchor-gives =
    preceded-gives ListsPublished (key_usage authority_usage) cert.published published-gives

abbrev ListsAuthority : cert.IssuedAuthority → Type 0
ListsAuthority x = AreListed x.1.1.1

authority-gives : Gives ListsAuthority cert.issued_authority
unfolding cert.issued_authority
authority-gives =
    preceded-gives ListsAuthority (key_usage authority_usage)
    (both distribution (both issuer_information cert.published))
    (both-gives (λ x. ListsPublished x.1) distribution (both issuer_information cert.published)
    (both-gives ListsPublished issuer_information cert.published published-gives))

abbrev ListsEntity : cert.Entity → Type 0
ListsEntity x = AreListed x.1

entity-gives : Gives ListsEntity cert.entity
unfolding cert.entity
entity-gives =
    both-gives AreListed entity_information (preceded policies holdings.entity_held)
    (preceded-gives AreListed policies holdings.entity_held entity-held-gives)

abbrev ListsIssued : cert.IssuedEntity → Type 0
ListsIssued x = AreListed x.1.1.1

issued-entity-gives : Gives ListsIssued cert.issued_entity
unfolding cert.issued_entity
issued-entity-gives =
    preceded-gives ListsIssued (key_usage entity_usage)
    (both distribution (both issuer_information cert.entity))
    (both-gives (λ x. ListsEntity x.1) distribution (both issuer_information cert.entity)
    (both-gives ListsEntity issuer_information cert.entity entity-gives))

authorities-give : (issuer subject : List ℕ)
    → Gives (EitherOf ListsPublished ListsAuthority) (cert.authority_extensions issuer subject)
unfolding cert.authority_extensions
authorities-give issuer subject =
    preceded-gives (EitherOf ListsPublished ListsAuthority) basic_constraints
    (preceded (subject_key subject)
    (choice cert.anchor_rest (preceded (issuer_key issuer) cert.issued_authority)))
    (preceded-gives (EitherOf ListsPublished ListsAuthority) (subject_key subject)
    (choice cert.anchor_rest (preceded (issuer_key issuer) cert.issued_authority))
    (choice-gives ListsPublished ListsAuthority cert.anchor_rest
    (preceded (issuer_key issuer) cert.issued_authority) anchor-gives
    (preceded-gives ListsAuthority (issuer_key issuer) cert.issued_authority authority-gives)))

entities-give : (issuer subject : List ℕ)
    → Gives ListsIssued (cert.entity_extensions issuer subject)
unfolding cert.entity_extensions
entities-give issuer subject =
    preceded-gives ListsIssued (subject_key subject)
    (preceded (issuer_key issuer) cert.issued_entity)
    (preceded-gives ListsIssued (issuer_key issuer) cert.issued_entity issued-entity-gives)

abbrev ListsKinds : cert.Kinds → Type 0
ListsKinds = EitherOf (EitherOf ListsPublished ListsAuthority) ListsIssued

of-kinds : (x : cert.Kinds) → ListsKinds x → AreListed (cert.of_kinds x).held
of-kinds (inl (inl p)) is = is
of-kinds (inl (inr x)) is = is
of-kinds (inr x) is = is

kinds-give : (issuer subject : List ℕ)
    → Gives (λ (x : cert.Extended). AreListed x.held) (cert.kinds issuer subject)
unfolding cert.kinds
kinds-give issuer subject =
    mapped-gives ListsKinds (λ x. AreListed x.held)
    (choice (cert.authority_extensions issuer subject) (cert.entity_extensions issuer subject))
    cert.of_kinds cert.kinds_of cert.IsExtended of-kinds
    (choice-gives (EitherOf ListsPublished ListsAuthority) ListsIssued
    (cert.authority_extensions issuer subject) (cert.entity_extensions issuer subject)
    (authorities-give issuer subject) (entities-give issuer subject))

extensions-give : (issuer subject : List ℕ)
    → Gives (λ (x : cert.Extended). AreListed x.held) (cert.extensions issuer subject)
unfolding cert.extensions
extensions-give issuer subject =
    sole-gives (λ x. AreListed x.held) tag.context_3 (sole tag.sequence (cert.kinds issuer subject))
    (sole-gives (λ x. AreListed x.held) tag.sequence (cert.kinds issuer subject)
    (kinds-give issuer subject))

subject-gives : (issuer : List ℕ)
    → Gives (λ (x : List ℕ × (List ℕ × cert.Extended)). AreListed x.1.1.held) (cert.subject issuer)
unfolding cert.subject
subject-gives issuer =
    after-gives (λ (x : List ℕ × cert.Extended). AreListed x.1.held) name
    (λ subject. both (cert.key_of subject) (cert.extensions issuer subject))
    (λ subject. both-gives (λ (x : cert.Extended). AreListed x.held) (cert.key_of subject)
    (cert.extensions issuer subject) (extensions-give issuer subject))

body-gives : (issuer : List ℕ)
    → Gives (λ (x : (ℕ × ℕ) × (List ℕ × (List ℕ × cert.Extended))). AreListed x.1.1.1.held)
    (cert.body issuer)
unfolding cert.body
body-gives issuer =
    both-gives (λ (x : List ℕ × (List ℕ × cert.Extended)). AreListed x.1.1.held) period
    (cert.subject issuer) (subject-gives issuer)

abbrev ListsParts : cert.Parts → Type 0
ListsParts x = AreListed x.1.1.1.1.1.held

content-gives : Gives (λ (c : CertValue). AreListed c.held) cert.tbs_content
unfolding cert.tbs_content
content-gives =
    mapped-gives ListsParts (λ c. AreListed c.held)
    (preceded cert.version (both number (preceded signature_algorithm (after name cert.body))))
    cert.of_parts cert.parts_of IsCert (λ x is. is)
    (preceded-gives ListsParts cert.version
    (both number (preceded signature_algorithm (after name cert.body)))
    (both-gives (λ (x : List ℕ × ((ℕ × ℕ) × (List ℕ × (List ℕ × cert.Extended)))).
    AreListed x.1.1.1.1.held) number (preceded signature_algorithm (after name cert.body))
    (preceded-gives (λ (x : List ℕ × ((ℕ × ℕ) × (List ℕ × (List ℕ × cert.Extended)))).
    AreListed x.1.1.1.1.held) signature_algorithm (after name cert.body)
    (after-gives (λ (x : (ℕ × ℕ) × (List ℕ × (List ℕ × cert.Extended))). AreListed x.1.1.1.held)
    name cert.body body-gives))))

signed-cert-gives : Gives (λ (c : SignedCert). AreListed c.cert.held) cert.signed_cert
unfolding cert.signed_cert
signed-cert-gives =
    mapped-gives (λ (x : CertValue × List ℕ × List ℕ). AreListed x.0.held)
    (λ c. AreListed c.cert.held) (signed cert.tbs_content) cert.of_signed cert.signed_of
    cert.IsSignedCert (λ x is. is)
    (signed-gives (λ (c : CertValue). AreListed c.held) cert.tbs_content content-gives)

-- ---- what is read

-- The sets of addresses of a certificate that is read are canonical lists.
pub listed-in-certificate : (bytes : List ℕ) (c : SignedCert) → certificate_in bytes ≡ Some c
    → AreListed c.cert.held
listed-in-certificate bytes c e =
    signed-cert-gives (start bytes) c (read-in cert.signed_cert bytes c e)
