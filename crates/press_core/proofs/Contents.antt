-- What is told of the contents of signed objects.
use Rattle.std.proofs.Common.{◌≡◌, ◌≢◌, ℕ, ◌+◌, ◌-◌, ◌^◌, true, false, cond, List, [], ◌∷◌, get_or, Option, Some, None, sym, ap, subst, ◌∙◌}
use Rattle.std.specs.Prelude.{MatchOption}
use Rattle.std.proofs.lemmas.Bool.{false≢true}
use Rattle.std.proofs.lemmas.Option.{same_Some}
use Rattle.origins.specs.Prefix.{address_bits}
use Rattle.origins.specs.declared.Origin.{Origin}
use Rattle.key_roll.specs.declared.issued.What.{What}
use Rattle.key_roll.specs.declared.issued.What.TheVariants.{Authority, Route, Point}
use Rattle.cert_obj.specs.Values.{Sets, CertValue}
use Rattle.payloads.specs.ManifestFormats.{Manifest, next_update_of}
use Rattle.payloads.specs.ManifestReading.{manifest_read}
use Rattle.payloads.specs.RoaFormats.{Entry}
use Rattle.payloads.specs.RoaReading.{roa_read}
use Rattle.rp_rules.specs.Objects.{value_in}
use Rattle.issue_values.specs.Bodies.{roa_entry, roa_of}
use Rattle.issue_values.specs.Certificates.{prefix_sets}
use Rattle.press_core.specs.inner.Rows.{holds_just, IsRouteOf, TellsRoute, TellsRoa, TellsManifest}
use Rattle.press_core.proofs.Spans.{held-just, just-held}

no-value : {X : Type 0} (x : X) → None ≡ Some x → ⊥
no-value x e = cc

-- ---- ROAs

-- The addresses of an entry's prefix.
abbrev span_in : Entry → ℕ × ℕ
span_in e = (e.address, e.address + (2 ^ (address_bits e.v6 - e.len) - 1))

abbrev sets_in : Entry → Sets
sets_in e = record {
  asn = [];
  v4 = cond e.v6 [] (span_in e ∷ []);
  v6 = cond e.v6 (span_in e ∷ []) [];
}

-- A body tells the prefix.
same-sets : (a b : Origin) → roa_of a ≡ roa_of b → prefix_sets a.prefix ≡ prefix_sets b.prefix
same-sets a b same = ap (λ (body : ℕ × List Entry). sets_in (get_or body.1 0 (roa_entry a))) same

module _ (view : ℕ × List Entry) (value : CertValue) where
  pub no-route : ((origin : Origin) → view ≢ roa_of origin) → TellsRoute view value None
  no-route none origin route = none origin route.0

  module _ (one : Origin) (is : view ≡ roa_of one) where
    pub own-route : holds_just value.held one.prefix ≡ true → IsRouteOf view value one
    own-route holds = (is, held-just value.held one.prefix holds)

    pub other-route : holds_just value.held one.prefix ≡ false → TellsRoute view value None
    other-route other origin route =
        absurd (false≢true (sym other
        ∙ just-held value.held one.prefix (route.1 ∙ ap (λ (s : Sets). Some s) (same-sets origin one (sym route.0 ∙ is)))))

module _ (content : List ℕ) (value : CertValue) where
  pub roa-none : None ≡ value_in (roa_read content) → TellsRoa content value None
  roa-none read origin is = no-value (roa_of origin) (read ∙ is.0)

  pub roa-tells : (view : ℕ × List Entry) (o : Option What) → Some view ≡ value_in (roa_read content) → TellsRoute view value o → TellsRoa content value o
  roa-tells view None read tells = λ origin is. tells origin (same_Some view (roa_of origin) (read ∙ is.0), is.1)
  roa-tells view (Some Point) read never = never
  roa-tells view (Some (Authority key held)) read never = never
  roa-tells view (Some (Route origin)) read route = (sym read ∙ ap (λ (b : ℕ × List Entry). Some b) route.0, route.1)

  -- ---- manifests

  pub manifest-none : None ≡ value_in (manifest_read content) → TellsManifest content value None
  manifest-none read is = no-value is.0 (read ∙ is.1)

  pub manifest-tells : (view : Manifest) (o : Option What) → Some view ≡ value_in (manifest_read content)
      → MatchOption o (next_update_of view ≢ value.not_after) (λ what. (what ≡ Point) × (next_update_of view ≡ value.not_after)) → TellsManifest content value o
  manifest-tells view None read other = λ is. other (ap (λ (m : Manifest). next_update_of m) (same_Some view is.0 (read ∙ is.1)) ∙ is.2)
  manifest-tells view (Some what) read one =
      subst (λ (w : What). TellsManifest content value (Some w)) (sym one.0) (view, sym read, one.1)
