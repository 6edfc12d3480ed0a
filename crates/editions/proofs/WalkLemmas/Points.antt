-- What a walk needs of the keys of a tree, and what it comes to.
use Rattle.std.specs.Prelude.{◌≡◌, ◌⊎◌, ℕ, Bool, true, false, List, [], ◌∷◌, ◌++◌, map, filter, IsPermutation, Ok}
use Rattle.std.proofs.Common.{inl, inr}
use Rattle.pub_set.specs.Changes.{Contents}
use Rattle.rp_rules.specs.Objects.{SignedRoa}
use Rattle.rp_rules.specs.Authorities.{Authority, listed_uri, crl_uri_of, manifest_place}
use Rattle.rp_rules.specs.Certificates.{WalkContext, File, is_among, accepted_authority}
use Rattle.rp_rules.specs.Points.{Point, is_certificate_file, other_files, accepted_point, accepted_roa}
use Rattle.rp_rules.specs.Walk.{Route}
use Rattle.rp_rules.specs.Yield.{Yielded, yielded_by}

-- The file of a key below, or of an origin.
abbrev pub file_by : {K O : Type 0} → (K → File) → (O → File) → K ⊎ O → File
file_by of_key of_origin (inl k) = of_key k
file_by of_key of_origin (inr o) = of_origin o

-- The keys of a tree and the origins that are owed, with what is accepted of each: a key's authority
-- and its point, an origin's ROA. A point lists the certificates of the keys below it, and the ROAs of
-- the origins under it, in some order. Where the places of an object aren't visited yet, it is
-- accepted.
pub record ArePoints {K O : Type 0} (s : WalkContext) (held : Contents) (keys : List K) (owed : List O)
    (is_below : K → K → Bool) (is_under : K → O → Bool) : Type 0 where
  pub authority : K → Authority
  pub point : K → Point
  pub place : O → List ℕ
  pub roa : O → SignedRoa
  pub told : O → Yielded
  pub of_key : K → File
  pub of_origin : O → File
  pub entries : K → List (K ⊎ O)
  -- points
  pub above : (k : K) → (point k).authority ≡ authority k
  pub accepted : (k : K) (seen : List (List ℕ))
      → is_among seen (manifest_place (authority k)) ≡ false
      → is_among seen (crl_uri_of (authority k)) ≡ false
      → accepted_point s held (authority k) seen ≡ Ok (point k)
  pub all : (k : K) → IsPermutation
      (map inl (filter (is_below k) keys) ++ map inr (filter (is_under k) owed)) (entries k)
  pub files : (k : K) → other_files (point k) ≡ map (file_by of_key of_origin) (entries k)
  -- certificates
  pub key_kind : (k : K) → is_certificate_file (of_key k) ≡ true
  pub key_place : (k c : K) → is_below k c ≡ true
      → listed_uri (authority k) (of_key c).0 ≡ (authority c).uri
  pub key_accepted : (k c : K) → is_below k c ≡ true → (seen : List (List ℕ))
      → is_among seen (authority c).uri ≡ false
      → accepted_authority s held (authority k) (point k).crl.entries seen (of_key c)
      ≡ Ok (authority c)
  -- ROAs
  pub origin_kind : (o : O) → is_certificate_file (of_origin o) ≡ false
  pub origin_place : (k : K) (o : O) → is_under k o ≡ true
      → listed_uri (authority k) (of_origin o).0 ≡ place o
  pub origin_accepted : (k : K) (o : O) → is_under k o ≡ true → (seen : List (List ℕ))
      → is_among seen (place o) ≡ false
      → accepted_roa s held (point k) seen (of_origin o) ≡ Ok (roa o)
  pub yields : (k : K) (o : O) → is_under k o ≡ true
      → yielded_by (Route (authority k) (place o) (roa o)) ≡ told o ∷ []
