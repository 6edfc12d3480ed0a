-- The walk of a relying party: depth first from the anchor's certificate, an authority's
-- manifest, its CRL, and then the other files in the order of the list (RFC 6487 section 7.2, RFC
-- 9286 section 6).
use Rattle.std.specs.Prelude.{ℕ, zero, suc, if◌then◌else◌, List, [], ◌∷◌, ◌++◌, Ok}
use Rattle.std.specs.List.{flat_map}
use Rattle.pub_set.specs.Changes.{Contents}
use Rattle.rp_rules.specs.declared.rules.Rule.TheVariants as rule
use Rattle.rp_rules.specs.Checks.{Checked, ◌>>=◌, refused}
use Rattle.rp_rules.specs.Objects.{SignedRoa}
use Rattle.rp_rules.specs.Authorities.{Authority, listed_uri, crl_uri_of, manifest_place}
use Rattle.rp_rules.specs.Certificates.{WalkContext, File, accepted_anchor, accepted_authority}
use Rattle.rp_rules.specs.Points.{Point, is_certificate_file, other_files, accepted_point, accepted_roa}

-- What is accepted: an authority's certificate; its manifest and its CRL; a ROA of an authority at
-- a URI.
pub data Visit : Type 0 where
  Certificate : Authority → Visit
  Published : Point → Visit
  Route : Authority → List ℕ → SignedRoa → Visit

abbrev pub uris_of : Visit → List (List ℕ)
uris_of (Certificate authority) = authority.uri ∷ []
uris_of (Published p) = manifest_place p.authority ∷ crl_uri_of p.authority ∷ []
uris_of (Route authority uri roa) = uri ∷ []

-- The URIs that are visited, in order.
abbrev pub visited : List Visit → List (List ℕ)
visited visits = flat_map uris_of visits

-- How to go on below an authority, behind what is visited already.
abbrev pub Below : Type 0
Below = Authority → List Visit → Checked (List Visit)

-- A listed file of a point: a certificate, below which the walk goes on, or a ROA.
unfoldable pub visit_file : WalkContext → Contents → Below → Point → File → List Visit
    → Checked (List Visit)
visit_file s held below p file visits =
    if is_certificate_file file
    then accepted_authority s held p.authority p.crl.entries (visited visits) file >>= (λ child.
    below child (visits ++ Certificate child ∷ []))
    else accepted_roa s held p (visited visits) file >>= (λ roa.
    Ok (visits ++ Route p.authority (listed_uri p.authority file.0) roa ∷ []))

-- One file after another.
unfoldable pub visit_files : WalkContext → Contents → Below → Point → List File → List Visit
    → Checked (List Visit)
visit_files s held below p [] visits = Ok visits
visit_files s held below p (file ∷ files) visits =
    visit_file s held below p file visits >>= visit_files s held below p files

-- An authority's point and what it lists, with so many levels left. The authority's own is one.
unfoldable pub visit_below : ℕ → WalkContext → Contents → Authority → List Visit → Checked
    (List Visit)
visit_below zero s held authority visits = refused authority.uri rule.Depth
visit_below (suc levels) s held authority visits =
    accepted_point s held authority (visited visits) >>= (λ p.
    visit_files s held (visit_below levels s held) p (other_files p) (visits ++ Published p ∷ []))

-- The anchor, and 64 levels below it.
unfoldable pub walk : WalkContext → Contents → Checked (List Visit)
walk s held =
    accepted_anchor s held >>= (λ anchor. visit_below 65 s held anchor (Certificate anchor ∷ []))
