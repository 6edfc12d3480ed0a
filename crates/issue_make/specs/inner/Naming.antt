-- The URIs that certificates can name.
use Rattle.std.specs.Prelude.{◌≡◌, ℕ, true, List}
use Rattle.origins.specs.declared.Origin.{Origin}
use Rattle.cert_obj.specs.Values.{is_uri}
use Rattle.key_ids.specs.Uris.{Bases, anchor_uri, cert_uri}
use Rattle.issue_values.specs.Publishers.{roa_uri}

-- Those of the trust anchor's certificate, and of the certificates and ROAs in the folder of that
-- name.
pub record CanName (site : Bases) (name : List ℕ) : Type 0 where
  pub anchor : is_uri (anchor_uri site) ≡ true
  pub certificate : (key : List ℕ) → is_uri (cert_uri site name key) ≡ true
  pub roa : (origin : Origin) → is_uri (roa_uri site name origin) ≡ true
