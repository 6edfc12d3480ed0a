-- What the places of objects tell: the laws of places, as values, and what they say of any two.
use Rattle.std.proofs.Common.{◌≡◌, ◌≢◌, ℕ, List, sym, ap, ◌∙◌, arith}
use Rattle.der.specs.Grammar.{AreBytes}
use Rattle.names.specs.Name.{IsName}
use Rattle.origins.specs.declared.Origin.{Origin}
use Rattle.key_ids.specs.Uris.{Bases, anchor_uri, file_uri, cert_uri, crl_uri, manifest_uri}
use Rattle.issue_values.specs.Publishers.{roa_uri}
use Rattle.issue_values.specs.UriEndings.{last_byte}

-- The URIs of two objects of one kind tell these apart.
pub record AreTold : Type 0 where
  pub anchor : (site : Bases) (a f : List ℕ) → anchor_uri site ≢ file_uri site a f
  pub certificates : (site : Bases) (a b x y : List ℕ) → IsName a → IsName b → AreBytes x → AreBytes y
      → cert_uri site a x ≡ cert_uri site b y → (a ≡ b) × (x ≡ y)
  pub crls : (site : Bases) (a b x y : List ℕ) → IsName a → IsName b → AreBytes x → AreBytes y
      → crl_uri site a x ≡ crl_uri site b y → (a ≡ b) × (x ≡ y)
  pub manifests : (site : Bases) (a b x y : List ℕ) → IsName a → IsName b → AreBytes x → AreBytes y
      → manifest_uri site a x ≡ manifest_uri site b y → (a ≡ b) × (x ≡ y)
  pub roas : (site : Bases) (a b : List ℕ) (o p : Origin) → IsName a → IsName b
      → roa_uri site a o ≡ roa_uri site b p → (a ≡ b) × (o ≡ p)

-- The last byte of a URI tells the kind.
pub record HaveEnds : Type 0 where
  pub anchor : (site : Bases) → last_byte (anchor_uri site) ≡ 114
  pub certificates : (site : Bases) (a x : List ℕ) → last_byte (cert_uri site a x) ≡ 114
  pub crls : (site : Bases) (a x : List ℕ) → last_byte (crl_uri site a x) ≡ 108
  pub manifests : (site : Bases) (a x : List ℕ) → last_byte (manifest_uri site a x) ≡ 116
  pub roas : (site : Bases) (a : List ℕ) (o : Origin) → last_byte (roa_uri site a o) ≡ 97

pub ends-apart : (a b : List ℕ) (m n : ℕ) → last_byte a ≡ m → last_byte b ≡ n → m ≢ n → a ≢ b
ends-apart a b m n first second other same = other (sym first ∙ (ap last_byte same ∙ second))

pub cert-roa : ◌≢◌ {A = ℕ} 114 97
cert-roa e = omega (arith, e)

pub cert-crl : ◌≢◌ {A = ℕ} 114 108
cert-crl e = omega (arith, e)

pub cert-manifest : ◌≢◌ {A = ℕ} 114 116
cert-manifest e = omega (arith, e)

pub roa-crl : ◌≢◌ {A = ℕ} 97 108
roa-crl e = omega (arith, e)

pub roa-manifest : ◌≢◌ {A = ℕ} 97 116
roa-manifest e = omega (arith, e)

pub crl-manifest : ◌≢◌ {A = ℕ} 108 116
crl-manifest e = omega (arith, e)
