-- No bytes read as two of a certificate, a CRL and a signed object: behind their first header, or
-- their second one, another tag comes.
use Rattle.std.proofs.Common.{◌≡◌, ℕ, ◌^◌, Bool, true, false, cond, not, eqb, Option, Some, None, List, [], ◌∷◌, length, Result, Ok, Err, refl, sym, ap, subst, ◌∙◌, arith}
use Rattle.std.specs.Prelude.{nat_lt}
use Rattle.std.proofs.lemmas.Bool.{eqb-true}
use Rattle.der.specs.Tags as tag
use Rattle.der.specs.Reading.{element_at}
use Rattle.der.specs.declared.shape_fault.ShapeFault.{ShapeFault}
use Rattle.der.specs.declared.shape_fault.ShapeFault.TheVariants.{Shape}
use Rattle.der.specs.Part.{Place, ◌>>=◌, start, is_other, opened, open_at, sole_at, begins, before}
use Rattle.der.specs.Form.{Whole}
use Rattle.der.specs.laws.FormLaws.{bind-ok, same-ok}
use Rattle.der.specs.Object.{read_object}
use Rattle.der.specs.Forms.{preceded, sole, both, after}
use Rattle.der.specs.Leaves.{exactly, number}
use Rattle.object_parts.specs.declared.identifiers.TheConstants.{SIGNED_DATA}
use Rattle.object_parts.specs.NameFormats.{name}
use Rattle.object_parts.specs.FrameFormats.{identifier, signature_algorithm, signature, signed_at, signed}
use Rattle.cert_obj.specs.Values.{CertValue, SignedCert}
use Rattle.cert_obj.specs.Formats as cert
use Rattle.crl_obj.specs.declared.values.CrlEntry.{CrlEntry}
use Rattle.crl_obj.specs.Values.{CrlValue, SignedCrl}
use Rattle.crl_obj.specs.Formats as crl
use Rattle.cms_obj.specs.Values.{ObjectValue}
use Rattle.cms_obj.specs.Formats as cms
use Rattle.rp_rules.specs.Objects.{value_in, certificate_in, crl_in, object_in}

-- ---- tags

opens-by : (t : ℕ) (p : Place) (left : List ℕ) (r : Place × Place)
    → cond (is_other t left) (Err (Shape p.at)) (opened p (element_at p.at t left)) ≡ Ok r
    → begins t left ≡ true
unfolding element_at
opens-by t p [] r e = absurd cc
opens-by t p (b ∷ bytes) r e = by (eqb b t) e
  where
    by : (is : Bool)
        → cond (not is) (Err (Shape p.at)) (opened p (element_at p.at t (b ∷ bytes))) ≡ Ok r
        → is ≡ true
    by true e = refl
    by false e = absurd cc

-- Bytes whose first element is opened begin with its tag.
opens : (t : ℕ) (p : Place) (r : Place × Place) → open_at t p ≡ Ok r → begins t p.left ≡ true
unfolding open_at
opens t p r e = opens-by t p p.left r e

pub two-tags : (t u : ℕ) → (t ≡ u → ⊥) → (left : List ℕ) → begins t left ≡ true
    → begins u left ≡ true → ⊥
two-tags t u other [] one two = absurd cc
two-tags t u other (b ∷ bytes) one two = other (sym (eqb-true b t one) ∙ eqb-true b u two)

-- ---- what is read

pub in-value : {A : Type 0} (r : Result A ShapeFault) (x : A) → value_in r ≡ Some x → r ≡ Ok x
in-value (Ok y) x e = cc
in-value (Err d) x e = absurd cc

pub read-in : {A : Type 0} (f : Whole A) (bytes : List ℕ) (x : A)
    → value_in (read_object f bytes) ≡ Some x → f.read (start bytes) ≡ Ok x
read-in {A} f bytes x e =
    by (nat_lt (length bytes) (2 ^ 32)) (in-value (read_object f bytes) x e)
  where
    by : (b : Bool) → cond b (f.read (start bytes)) (Err (Shape (length bytes))) ≡ Ok x
        → f.read (start bytes) ≡ Ok x
    by true e = e
    by false e = absurd cc

-- An object with a signature: what is signed is an element, the first one within the first.
pub record IsFramed (p : Place) (t : ℕ) : Type 0 where
  pub outer : Place
  pub inner : Place × Place
  pub first : sole_at tag.sequence p ≡ Ok outer
  pub second : open_at tag.sequence outer ≡ Ok inner
  pub third : begins t inner.0.left ≡ true

abbrev answer : Place × List ℕ × List ℕ → Result (Place × List ℕ × List ℕ) ShapeFault
answer v = Ok v

first-same : (p : Place) (bytes more : List ℕ) (v : Place × List ℕ × List ℕ)
    → answer (p, bytes, more) ≡ answer v → p ≡ v.0
first-same p bytes more v e =
    ap (λ (w : Place × List ℕ × List ℕ). w.0) (same-ok (p, bytes, more) v e)

signed-framed : {A : Type 0} (f : Whole A) (t : ℕ) (p : Place) (x : A × List ℕ × List ℕ)
    → ((q : Place) (y : A) → f.read q ≡ Ok y → begins t q.left ≡ true)
    → (signed f).read p ≡ Ok x → IsFramed p t
unfolding signed_at
signed-framed f t p x begun e =
    let a = bind-ok (signed_at p) (λ v. f.read v.0 >>= (λ y. Ok (y, v.1, v.2))) x e in
    let b = bind-ok (f.read a.0.0) (λ y. Ok (y, a.0.1, a.0.2)) x a.2 in
    let c = bind-ok (sole_at tag.sequence p)
    (λ q. open_at tag.sequence q >>= (λ u. signature.read u.1 >>= (λ s.
    Ok (u.0, before q u.1, s)))) a.0 a.1 in
    let d = bind-ok (open_at tag.sequence c.0)
    (λ u. signature.read u.1 >>= (λ s. Ok (u.0, before c.0 u.1, s))) a.0 c.2 in
    let s = bind-ok (signature.read d.0.1) (λ s. Ok (d.0.0, before c.0 d.0.1, s)) a.0 d.2 in
    let same : d.0.0 ≡ a.0.0 = first-same d.0.0 (before c.0 d.0.1) s.0 a.0 s.2 in
    record {
      outer = c.0;
      inner = d.0;
      first = c.1;
      second = d.1;
      third = subst (λ (q : Place). begins t q.left ≡ true) (sym same) (begun a.0.0 b.0 b.1);
    }

-- ---- the three

abbrev cert-rest : Whole cert.Parts
cert-rest = both number (preceded signature_algorithm (after name cert.body))

abbrev crl-rest : Whole (List ℕ × (ℕ × (ℕ × (List CrlEntry × ℕ))))
crl-rest = preceded signature_algorithm (after name crl.body)

cert-begun : (q : Place) (y : CertValue) → cert.tbs_content.read q ≡ Ok y
    → begins tag.context_0 q.left ≡ true
unfolding cert.tbs_content
cert-begun q y e =
    let a = bind-ok ((preceded cert.version cert-rest).read q) (λ x. Ok (cert.of_parts x)) y e in
    let b = bind-ok (cert.version.read q) (λ v. cert-rest.read v.1) a.0 a.1 in
    let c = bind-ok (open_at tag.context_0 q)
    (λ r. (exactly (0x02 ∷ 0x01 ∷ 0x02 ∷ [])).read r.0 >>= (λ x. Ok (x, r.1))) b.0 b.1 in
    opens tag.context_0 q c.0 c.1

crl-begun : (q : Place) (y : CrlValue) → crl.tbs_content.read q ≡ Ok y
    → begins tag.integer q.left ≡ true
unfolding crl.tbs_content
crl-begun q y e =
    let a = bind-ok ((preceded crl.version crl-rest).read q) (λ x. Ok (crl.of_parts x)) y e in
    let b = bind-ok (crl.version.read q) (λ v. crl-rest.read v.1) a.0 a.1 in
    let c = bind-ok (open_at tag.integer q)
    (λ r. (exactly (1 ∷ [])).read r.0 >>= (λ x. Ok (x, r.1))) b.0 b.1 in
    opens tag.integer q c.0 c.1

cert-framed : (p : Place) (x : SignedCert) → cert.signed_cert.read p ≡ Ok x
    → IsFramed p tag.context_0
unfolding cert.signed_cert
cert-framed p x e =
    let a = bind-ok ((signed cert.tbs_content).read p) (λ v. Ok (cert.of_signed v)) x e in
    signed-framed cert.tbs_content tag.context_0 p a.0 cert-begun a.1

crl-framed : (p : Place) (x : SignedCrl) → crl.signed_crl.read p ≡ Ok x
    → IsFramed p tag.integer
unfolding crl.signed_crl
crl-framed p x e =
    let a = bind-ok ((signed crl.tbs_content).read p) (λ v. Ok (crl.of_signed v)) x e in
    signed-framed crl.tbs_content tag.integer p a.0 crl-begun a.1

-- A signed object: its first element is an identifier.
record IsNamed (p : Place) : Type 0 where
  outer : Place
  first : sole_at tag.sequence p ≡ Ok outer
  second : begins tag.object_identifier outer.left ≡ true

object-named : (p : Place) (x : ObjectValue) → cms.signed_object.read p ≡ Ok x → IsNamed p
unfolding cms.signed_object
object-named p x e =
    let inside : Whole cms.Parts =
    preceded (identifier SIGNED_DATA) (sole tag.context_0 cms.signed_data) in
    let a = bind-ok ((sole tag.sequence inside).read p) (λ v. Ok (cms.of_parts v)) x e in
    let b = bind-ok (sole_at tag.sequence p) inside.read a.0 a.1 in
    let c = bind-ok ((identifier SIGNED_DATA).read b.0)
    (λ q. (sole tag.context_0 cms.signed_data).read q.1) a.0 b.2 in
    let d = bind-ok (open_at tag.object_identifier b.0)
    (λ r. (exactly SIGNED_DATA).read r.0 >>= (λ y. Ok (y, r.1))) c.0 c.1 in
    record { outer = b.0; first = b.1; second = opens tag.object_identifier b.0 d.0 d.1 }

-- ---- none is another

framed-once : (t u : ℕ) → (t ≡ u → ⊥) → (p : Place) → IsFramed p t → IsFramed p u → ⊥
framed-once t u other p one two =
    let outer : one.outer ≡ two.outer =
    same-ok one.outer two.outer (sym one.first ∙ two.first) in
    let inner : one.inner ≡ two.inner = same-ok one.inner two.inner
    (sym one.second ∙ (ap (open_at tag.sequence) outer ∙ two.second)) in
    two-tags t u other two.inner.0.left
    (subst (λ (r : Place × Place). begins t r.0.left ≡ true) inner one.third) two.third

framed-unnamed : (t : ℕ) (p : Place) → IsFramed p t → IsNamed p → ⊥
framed-unnamed t p one two =
    let outer : one.outer ≡ two.outer =
    same-ok one.outer two.outer (sym one.first ∙ two.first) in
    let sequence : begins tag.sequence two.outer.left ≡ true =
    subst (λ (q : Place). begins tag.sequence q.left ≡ true) outer
    (opens tag.sequence one.outer one.inner one.second) in
    two-tags tag.sequence tag.object_identifier (λ e. omega (arith, e)) two.outer.left sequence
    two.second

none-by : {A : Type 0} (o : Option A) → ((x : A) → o ≡ Some x → ⊥) → o ≡ None
none-by None none = refl
none-by (Some x) none = absurd (none x refl)

pub certificate-no-crl : (bytes : List ℕ) (c : SignedCert) (l : SignedCrl)
    → certificate_in bytes ≡ Some c → crl_in bytes ≡ Some l → ⊥
certificate-no-crl bytes c l one two =
    framed-once tag.context_0 tag.integer (λ e. omega (arith, e)) (start bytes)
    (cert-framed (start bytes) c (read-in cert.signed_cert bytes c one))
    (crl-framed (start bytes) l (read-in crl.signed_crl bytes l two))

pub certificate-no-object : (bytes : List ℕ) (c : SignedCert) (o : ObjectValue)
    → certificate_in bytes ≡ Some c → object_in bytes ≡ Some o → ⊥
certificate-no-object bytes c o one two =
    framed-unnamed tag.context_0 (start bytes)
    (cert-framed (start bytes) c (read-in cert.signed_cert bytes c one))
    (object-named (start bytes) o (read-in cms.signed_object bytes o two))

pub crl-no-object : (bytes : List ℕ) (l : SignedCrl) (o : ObjectValue)
    → crl_in bytes ≡ Some l → object_in bytes ≡ Some o → ⊥
crl-no-object bytes l o one two =
    framed-unnamed tag.integer (start bytes)
    (crl-framed (start bytes) l (read-in crl.signed_crl bytes l one))
    (object-named (start bytes) o (read-in cms.signed_object bytes o two))

-- ---- as answers

pub with-certificate : (bytes : List ℕ) (c : SignedCert) → certificate_in bytes ≡ Some c
    → (crl_in bytes ≡ None) × (object_in bytes ≡ None)
with-certificate bytes c e = (
  none-by (crl_in bytes) (λ l is. certificate-no-crl bytes c l e is),
  none-by (object_in bytes) (λ o is. certificate-no-object bytes c o e is),
)

pub with-crl : (bytes : List ℕ) (l : SignedCrl) → crl_in bytes ≡ Some l
    → (certificate_in bytes ≡ None) × (object_in bytes ≡ None)
with-crl bytes l e = (
  none-by (certificate_in bytes) (λ c is. certificate-no-crl bytes c l is e),
  none-by (object_in bytes) (λ o is. crl-no-object bytes l o e is),
)

pub with-object : (bytes : List ℕ) (o : ObjectValue) → object_in bytes ≡ Some o
    → (certificate_in bytes ≡ None) × (crl_in bytes ≡ None)
with-object bytes o e = (
  none-by (certificate_in bytes) (λ c is. certificate-no-object bytes c o is e),
  none-by (crl_in bytes) (λ l is. crl-no-object bytes l o is e),
)
