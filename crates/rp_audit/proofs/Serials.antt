-- The serial of an accepted certificate is that of what the bytes at its URI say.
use Rattle.std.proofs.Common.{◌≡◌, ℕ, List, [], ◌∷◌, ◌++◌, Bool, true, false, Option, None, Some, Ok, Err, refl, sym, ap, subst, ◌∙◌}
use Rattle.std.specs.Prelude.{if◌then◌else◌}
use Rattle.std.specs.Str.{bytes_eq}
use Rattle.sha2.specs.Sha256.{sha256}
use Rattle.pub_set.specs.Changes.{Contents}
use Rattle.cert_obj.specs.Values.{SignedCert}
use Rattle.crl_obj.specs.declared.values.CrlEntry.{CrlEntry}
use Rattle.rp_rules.specs.declared.rules.Rule.{Rule}
use Rattle.rp_rules.specs.declared.rules.Rule.TheVariants as rule
use Rattle.rp_rules.specs.Checks.{Refused as Refusal, Checked, Test, ◌>>=◌, tested, found}
use Rattle.rp_rules.specs.Objects.{SignedRoa, such, certificate_in, is_authoritys, roa_in}
use Rattle.rp_rules.specs.Authorities.{Authority, listed_uri}
use Rattle.rp_rules.specs.Certificates.{WalkContext, File, listed_bytes, authority_tests, authority_of, accepted_authority}
use Rattle.rp_rules.specs.Points.{Point, is_certificate_file, roa_tests, accepted_roa}
use Rattle.rp_rules.specs.Yield.{serial_of, roa_serial, serial_in, listed_serial}

bind_was : {A B : Type 0} (m : Checked A) (f : A → Checked B) (y : B) → (m >>= f) ≡ Ok y → (x : A) × (m ≡ Ok x) × (f x ≡ Ok y)
bind_was (Ok x) f y e = (x, refl, e)
bind_was (Err c) f y e = absurd cc

found_was : {A : Type 0} (uri : List ℕ) (rule : Rule) (o : Option A) (x : A) → found uri rule o ≡ Ok x → o ≡ Some x
found_was uri rule (Some y) x e = cc
found_was uri rule None x e = absurd cc

if_was : {A : Type 0} (b : Bool) (m : Checked A) (c : Refusal) (y : A) → (if b then m else Err c) ≡ Ok y → m ≡ Ok y
if_was true m c y e = e
if_was false m c y e = absurd cc

tested_was : {A : Type 0} (uri : List ℕ) (tests : List Test) (x y : A) → tested uri tests x ≡ Ok y → x ≡ y
tested_was uri [] x y e = cc
tested_was uri (t ∷ ts) x y e = tested_was uri ts x y (if_was t.1 (tested uri ts x) (record { uri = uri; rule = t.0 }) y e)

if_some : {A : Type 0} (b : Bool) (x y : A) → (if b then Some x else None) ≡ Some y → Some x ≡ Some y
if_some true x y e = e
if_some false x y e = absurd cc

such_was : {A : Type 0} (test : A → Bool) (o : Option A) (x : A) → such test o ≡ Some x → o ≡ Some x
such_was test None x e = absurd cc
such_was test (Some y) x e = if_some (test y) y x e

listed_was : (held : Contents) (uri : List ℕ) (file : File) (bytes : List ℕ) → listed_bytes held uri file ≡ Ok bytes → held uri ≡ Some bytes
unfolding listed_bytes
listed_was held uri file bytes e =
    let one = bind_was (found uri rule.Missing (held uri)) (λ b. tested uri ((rule.Hash, bytes_eq (sha256 b) file.1) ∷ []) b) bytes e in
    found_was uri rule.Missing (held uri) one.0 one.1
    ∙ ap (λ (b : List ℕ). Some b) (tested_was uri ((rule.Hash, bytes_eq (sha256 one.0) file.1) ∷ []) one.0 bytes one.2)

pub authority_serial : (s : WalkContext) (held : Contents) (p : Point) (revoked : List CrlEntry) (visited : List (List ℕ)) (file : File) (a : Authority) → is_certificate_file file ≡ true
    → accepted_authority s held p.authority revoked visited file ≡ Ok a → a.cert.serial ≡ listed_serial held p file
unfolding accepted_authority
authority_serial s held p revoked visited file a kind e =
    let uri : List ℕ = listed_uri p.authority file.0 in
    let f : SignedCert → Checked Authority = λ c. tested uri (authority_tests s p.authority revoked visited uri c) (authority_of p.authority uri c) in
    let one = bind_was (listed_bytes held uri file) (λ bytes. found uri rule.Shape (such is_authoritys (certificate_in bytes)) >>= f) a e in
    let two = bind_was (found uri rule.Shape (such is_authoritys (certificate_in one.0))) f a one.2 in
    let there : held uri ≡ Some one.0 = listed_was held uri file one.0 one.1 in
    let same : authority_of p.authority uri two.0 ≡ a = tested_was uri (authority_tests s p.authority revoked visited uri two.0) (authority_of p.authority uri two.0) a two.2 in
    let cert : certificate_in one.0 ≡ Some two.0 = such_was is_authoritys (certificate_in one.0) two.0 (found_was uri rule.Shape (such is_authoritys (certificate_in one.0)) two.0 two.1) in
    sym (ap (λ (o : Option (List ℕ)). serial_in file o) there
    ∙ (ap (λ (b : Bool). if b then serial_of (certificate_in one.0) else roa_serial (roa_in one.0)) kind
    ∙ (ap serial_of cert ∙ ap (λ (x : Authority). x.cert.serial) same)))

pub roa_file_serial : (s : WalkContext) (held : Contents) (p : Point) (visited : List (List ℕ)) (file : File) (r : SignedRoa) → is_certificate_file file ≡ false
    → accepted_roa s held p visited file ≡ Ok r → r.certificate.cert.serial ≡ listed_serial held p file
unfolding accepted_roa
roa_file_serial s held p visited file r kind e =
    let uri : List ℕ = listed_uri p.authority file.0 in
    let f : SignedRoa → Checked SignedRoa = λ x. tested uri (roa_tests s p visited uri x) x in
    let one = bind_was (listed_bytes held uri file) (λ bytes. found uri rule.Shape (roa_in bytes) >>= f) r e in
    let two = bind_was (found uri rule.Shape (roa_in one.0)) f r one.2 in
    let there : held uri ≡ Some one.0 = listed_was held uri file one.0 one.1 in
    let same : two.0 ≡ r = tested_was uri (roa_tests s p visited uri two.0) two.0 r two.2 in
    let read : roa_in one.0 ≡ Some two.0 = found_was uri rule.Shape (roa_in one.0) two.0 two.1 in
    sym (ap (λ (o : Option (List ℕ)). serial_in file o) there
    ∙ (ap (λ (b : Bool). if b then serial_of (certificate_in one.0) else roa_serial (roa_in one.0)) kind
    ∙ (ap roa_serial read ∙ ap (λ (x : SignedRoa). x.certificate.cert.serial) same)))
