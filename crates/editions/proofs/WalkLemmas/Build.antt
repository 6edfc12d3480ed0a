-- The points of an edition's keys are accepted.
use Rattle.std.proofs.Common.{◌≡◌, ◌≢◌, ◌⊎◌, ℕ, ◌==◌, Bool, true, false, cond, Some, List, [], ◌∷◌, ◌++◌, map, filter, AllPairs, IsPermutation, Ok, codes, refl, sym, ap, subst, ◌∙◌, arith, inl, inr}
use Rattle.std.proofs.lemmas.Bool.{eqb-true}
use Rattle.std.proofs.lemmas.Option.{same_Some}
use Rattle.hex.specs.Hex.{encode_lower}
use Rattle.origins.specs.declared.Origin.{Origin}
use Rattle.origins.specs.Origin.{origin_text}
use Rattle.res_sets.specs.declared.holdings.Resources.{Resources}
use Rattle.res_sets.specs.Triples.{has}
use Rattle.key_ids.specs.Uris.{Bases, anchor_uri, folder_of, file_uri, cert_uri, crl_uri, manifest_uri}
use Rattle.entitle.specs.Certified.{names_of, AreCertified}
use Rattle.entitle.specs.Owed.{AreOwed}
use Rattle.key_roll.specs.declared.rows.KeyRow.{KeyRow}
use Rattle.cert_obj.specs.Values.{CertValue, SignedCert, sets_of}
use Rattle.crl_obj.specs.Values.{CrlValue}
use Rattle.crl_obj.specs.declared.values.CrlEntry.{CrlEntry}
use Rattle.issue_values.specs.UriEndings.{last_byte}
use Rattle.rp_rules.specs.Objects.{SignedRoa}
use Rattle.rp_rules.specs.Authorities.{Authority, listed_uri, crl_uri_of, manifest_place, is_folder}
use Rattle.rp_rules.specs.Certificates as walk
use Rattle.rp_rules.specs.Certificates.{File, is_among, is_revoked, is_held_under, accepted_authority}
use Rattle.rp_rules.specs.Points.{Point, is_crl_file, other_files, accepted_point, accepted_roa, files_of}
use Rattle.rp_rules.specs.Walk.{Route}
use Rattle.rp_rules.specs.Yield.{Yielded, yielded_by}
use Rattle.payloads.specs.ManifestFormats.{Manifest}
use Rattle.issue_values.specs.Publishers.{roa_uri}
use Rattle.issue_values.specs.Certificates.{anchor_certificate, authority_certificate, prefix_sets}
use Rattle.issue_values.specs.Bodies.{crl_entry}
use Rattle.issue_plan.specs.Keys.{next_keys}
use Rattle.issue_plan.specs.Uris.{roa_file}
use Rattle.issue_keys.specs.Keys.{id_of}
use Rattle.issue_drafts.specs.Publishers.{name_at, is_key}
use Rattle.editions.specs.Held.{IsHeld}
use Rattle.editions.specs.Keys.{AreNext}
use Rattle.editions.specs.Objects.{Issuance}
use Rattle.editions.proofs.WalkLemmas.Serving.{IsServed, ServesPoint}
use Rattle.editions.specs.Published.{yielded_for}
use Rattle.editions.specs.Names.{AreTree}
use Rattle.items.specs.laws.AmongLaws.{In, in-parts, map-in, in-contains}
use Rattle.items.specs.laws.PairLaws.{Twos}
use Rattle.editions.proofs.WalkLemmas.Moved.{lifted}
use Rattle.editions.proofs.WalkLemmas.Members.{Member, members}
use Rattle.editions.proofs.WalkLemmas.Endings.{ending}
use Rattle.editions.proofs.WalkLemmas.Canonical.{AreListed, listed-in-certificate}
use Rattle.editions.proofs.WalkLemmas.Inside.{HaveSpans, AreInsides, set-inside, prefix-inside, has-prefix}
use Rattle.editions.proofs.WalkLemmas.Point.{Seat, publishing, authority_with, crl_at, manifest_at, crl_listed, HasCrl, HasManifest, point-accepted}
use Rattle.editions.proofs.WalkLemmas.Roas.{IsOwedRoa, roa-accepted, roa-yields, roa-kind}
use Rattle.editions.proofs.WalkLemmas.Children.{HasCertificate, authority-accepted, key-kind}
use Rattle.editions.proofs.WalkLemmas.Listed.{IsBeside, other, certificate-beside, roa-beside, first-is, others-left, names-apart, is-listed}
use Rattle.editions.proofs.WalkLemmas.Points.{file_by, ArePoints}
use Rattle.editions.proofs.WalkLemmas.Homes as homes
use Rattle.editions.proofs.WalkLemmas.Seats as seats
use Rattle.editions.proofs.WalkLemmas.KeyDrafts as drawn
use Rattle.editions.proofs.WalkLemmas.Stands as stands
use Rattle.editions.proofs.WalkLemmas.Files as files

-- What place_laws says of how URIs end.
pub record AreKinds : Type 0 where
  pub anchor : (site : Bases) → last_byte (anchor_uri site) ≡ 114
  pub certificates : (site : Bases) (a x : List ℕ) → last_byte (cert_uri site a x) ≡ 114
  pub crls : (site : Bases) (a x : List ℕ) → last_byte (crl_uri site a x) ≡ 108
  pub manifests : (site : Bases) (a x : List ℕ) → last_byte (manifest_uri site a x) ≡ 116
  pub roas : (site : Bases) (a : List ℕ) (o : Origin) → last_byte (roa_uri site a o) ≡ 97

module _ (m : Issuance) (tree : AreTree (names_of m.plan_input.basis.configs))
    (are : AreCertified m.plan_input.basis.configs m.plan_input.basis.sets)
    (before : AllPairs (λ a b. id_of a ≢ id_of b) m.plan_input.basis.rows)
    (next : AreNext m.plan_input.basis.rows (next_keys m.plan_input.basis) m.keys)
    (set : IsServed m) (anchor : List ℕ) (owes : AreOwed m.plan_input.basis.configs m.plan_input.owed)
    (apart : (site : Bases) (a f : List ℕ) → anchor_uri site ≢ file_uri site a f) (kinds : AreKinds)
    (spans : HaveSpans) (insides : AreInsides)
    (folders : (k : KeyRow) → In k m.keys → is_folder m.plan_input.site
    (folder_of m.plan_input.site (name_at (names_of m.plan_input.basis.configs) k.desk)) ≡ true)
    (unrevoked : (k : KeyRow) (at : In k m.keys) (c : SignedCert) → IsHeld m.new (id_of k) c
    → is_revoked (map crl_entry (set.points k (in-contains k m.keys at)).revoked) c.cert.serial ≡ false) where
  abbrev pub K : Type 0
  K = Member m.keys

  abbrev pub O : Type 0
  O = Member m.plan_input.owed

  abbrev pub s : walk.WalkContext
  s = stands.s m tree are before next set anchor

  abbrev site : Bases
  site = m.plan_input.site

  abbrev pub seat : KeyRow → Seat
  seat = files.seat m tree are before next set anchor owes apart

  abbrev issuer : K → KeyRow
  issuer c = files.issuer m tree are before next set anchor owes apart c

  abbrev signer : O → KeyRow
  signer o = files.signer m tree are before next set anchor owes apart o

  abbrev pub is_below : K → K → Bool
  is_below = files.is_below m tree are before next set anchor owes apart

  abbrev pub is_under : K → O → Bool
  is_under = files.is_under m tree are before next set anchor owes apart

  abbrev pub of_key : K → File
  of_key = files.of_key m tree are before next set anchor owes apart

  abbrev pub of_origin : O → File
  of_origin = files.of_origin m tree are before next set anchor owes apart

  abbrev held : K → Resources
  held c = homes.held m tree are before next c.0 c.1

  abbrev serial : K → ℕ
  serial c = seats.serial m tree are before next set c.0 c.1

  -- When it was made.
  abbrev made : K → ℕ
  made c = seats.made m tree are before next set c.0 c.1

  abbrev pub value : K → CertValue
  value = files.value m tree are before next set anchor owes apart

  abbrev pub authority : K → Authority
  authority = files.authority m tree are before next set anchor owes apart

  -- ---- points

  abbrev pub of_point : (k : K) → ServesPoint m k.0
  of_point k = stands.point m tree are before next set anchor k.0 k.1

  abbrev pub crl : (k : K) → HasCrl s (seat k.0) m.new (of_point k).made (of_point k).number (of_point k).revoked
  crl k = stands.crl-stands m tree are before next set anchor k.0 k.1

  abbrev pub listed_files : K → List File
  listed_files k = (of_point k).files

  pub manifest : (k : K) → HasManifest s (seat k.0) m.new (of_point k).made (of_point k).number (of_point k).revoked
      (listed_files k)
  manifest k = stands.manifest-stands m tree are before next set anchor k.0 k.1 (unrevoked k.0 k.1)

  abbrev below : K → List K
  below k = filter (is_below k) (members m.keys)

  abbrev under : K → List O
  under k = filter (is_under k) (members m.plan_input.owed)

  abbrev pub rest : K → List File
  rest k = map of_key (below k) ++ map of_origin (under k)

  crl-same : (k y : K) → y.0 ≡ k.0
      → files.of_crl m tree are before next set anchor owes apart y ≡ crl_listed (seat k.0) (crl k).bytes
  crl-same k y same =
      let one = stands.crl-left m tree are before next set anchor y.0 y.1 in
      let two = stands.crl-left m tree are before next set anchor k.0 k.1 in
      let there : m.new (crl_at s (seat k.0)) ≡ Some one.0 =
      ap (λ (r : KeyRow). m.new (crl_at s (seat r))) (sym same) ∙ one.1 in
      let bytes : one.0 ≡ two.0 = same_Some one.0 two.0 (sym there ∙ two.1) in
      ap (λ (r : KeyRow). crl_listed (seat r) one.0) same ∙ ap (crl_listed (seat k.0)) bytes

  pub moved : (k : K) → IsPermutation (rest k ++ crl_listed (seat k.0) (crl k).bytes ∷ []) (listed_files k)
  moved k =
      let one = files.own-one m tree are before next set anchor owes apart k in
      subst (λ (file : File). IsPermutation (rest k ++ file ∷ []) (listed_files k)) (crl-same k one.0 one.2)
      (subst (λ (l : List File). IsPermutation l (listed_files k))
      (files.files-are m tree are before next set anchor owes apart k)
      (of_point k).listed.all)

  key-beside : (c : K) → IsBeside (of_key c)
  key-beside c = certificate-beside (of_key c)
      (key-kind c.0.key.bytes (seats.left m tree are before next set c.0 c.1).0)
      (ending (encode_lower (id_of c.0)) (codes ".cer") (codes ".crl") refl)

  origin-beside : (o : O) → IsBeside (of_origin o)
  origin-beside o = roa-beside (of_origin o)
      (ending (encode_lower (origin_text o.0.origin)) (codes ".roa") (codes ".roa") refl)
      (ending (encode_lower (origin_text o.0.origin)) (codes ".roa") (codes ".crl") refl)

  beside : (k : K) (file : File) → In file (rest k) → IsBeside file
  beside k file at = by (in-parts file (map of_key (below k)) (map of_origin (under k)) at)
    where
      by : In file (map of_key (below k)) ⊎ In file (map of_origin (under k)) → IsBeside file
      by (inl one) = let w = map-in of_key file (below k) one in subst IsBeside w.2 (key-beside w.0)
      by (inr one) = let w = map-in of_origin file (under k) one in subst IsBeside w.2 (origin-beside w.0)

  crl-is : (k : K) → is_crl_file (crl_listed (seat k.0) (crl k).bytes) ≡ true
  crl-is k = ending (encode_lower (id_of k.0)) (codes ".crl") (codes ".crl") refl

  -- No file of a key is its manifest.
  free : (k : K) (file : File) → In file (rest k ++ crl_listed (seat k.0) (crl k).bytes ∷ [])
      → listed_uri (authority k) file.0 ≢ manifest_at s (seat k.0)
  free k file at same = by (in-parts file (rest k) (crl_listed (seat k.0) (crl k).bytes ∷ []) at)
    where
      name : List ℕ
      name = name_at (names_of m.plan_input.basis.configs) k.0.desk

      ends : last_byte (manifest_at s (seat k.0)) ≡ 116
      ends = kinds.manifests site name (id_of k.0)

      place : File → List ℕ
      place f = folder_of site name ++ f.0

      is : last_byte (place file) ≡ 116
      is = ap last_byte same ∙ ends

      of-rest : In file (map of_key (below k)) ⊎ In file (map of_origin (under k)) → ⊥
      of-rest (inl one) =
          let w = map-in of_key file (below k) one in
          let two : 114 ≡ 116 = sym (kinds.certificates site name (id_of w.0.0))
          ∙ (ap (λ (f : File). last_byte (place f)) w.2 ∙ is) in
          absurd (omega (arith, two))
      of-rest (inr one) =
          let w = map-in of_origin file (under k) one in
          let two : 97 ≡ 116 = sym (kinds.roas site name w.0.0.origin)
          ∙ (ap (λ (f : File). last_byte (place f)) w.2 ∙ is) in
          absurd (omega (arith, two))

      by : In file (rest k) ⊎ In file (crl_listed (seat k.0) (crl k).bytes ∷ []) → ⊥
      by (inl front) = of-rest (in-parts file (map of_key (below k)) (map of_origin (under k)) front)
      by (inr (inr none)) = absurd none
      by (inr (inl one)) =
          let two : 108 ≡ 116 = sym (kinds.crls site name (id_of k.0))
          ∙ (ap (λ (f : File). last_byte (place f)) one ∙ is) in
          absurd (omega (arith, two))

  other-places : (k : K) → manifest_at s (seat k.0) ≢ crl_at s (seat k.0)
  other-places k same =
      let name : List ℕ = name_at (names_of m.plan_input.basis.configs) k.0.desk in
      let two : 116 ≡ 108 = sym (kinds.manifests site name (id_of k.0))
      ∙ (ap last_byte same ∙ kinds.crls site name (id_of k.0)) in
      absurd (omega (arith, two))

  abbrev pub point_of : K → Point
  point_of k = record {
    authority = authority k;
    manifest = (manifest k).manifest;
    crl = (crl k).crl.crl;
  }

  pub accepted : (k : K) (seen : List (List ℕ))
      → is_among seen (manifest_place (authority k)) ≡ false
      → is_among seen (crl_uri_of (authority k)) ≡ false
      → accepted_point s m.new (authority k) seen ≡ Ok (point_of k)
  accepted k seen fresh fresh_crl =
      let rising = (of_point k).listed.rising in
      point-accepted s (seat k.0) (value k) (sets_of (held k)) m.new (of_point k).made (of_point k).number
      (of_point k).revoked (listed_files k) (crl k) (manifest k) (of_point k).time (other-places k)
      (is-listed s (seat k.0) (value k) (sets_of (held k)) (rest k)
      (crl_listed (seat k.0) (crl k).bytes) (listed_files k) (moved k) rising (beside k) (crl-is k) (free k)
      (of_point k).made (of_point k).number)
      (first-is s (seat k.0) (value k) (sets_of (held k)) (rest k)
      (crl_listed (seat k.0) (crl k).bytes) (listed_files k) (moved k) rising (beside k) (crl-is k) (free k)
      (of_point k).made (of_point k).number)
      seen fresh fresh_crl

  pub listed-apart : (k : K) → Twos (λ a b. a ≢ b) (map (λ (f : File). f.0) (listed_files k))
  listed-apart k =
      names-apart s (seat k.0) (value k) (sets_of (held k)) (rest k)
      (crl_listed (seat k.0) (crl k).bytes) (listed_files k) (moved k)
      (of_point k).listed.rising
      (beside k) (crl-is k) (free k)

  -- ---- what a point lists

  abbrev file : K ⊎ O → File
  file = file_by of_key of_origin

  parts : (cs : List K) (os : List O) → map file (map inl cs ++ map inr os) ≡ map of_key cs ++ map of_origin os
  parts [] [] = refl
  parts [] (o ∷ os) = ap (λ (l : List File). of_origin o ∷ l) (parts [] os)
  parts (c ∷ cs) os = ap (λ (l : List File). of_key c ∷ l) (parts cs os)

  others : (k : K) → IsPermutation (rest k) (other_files (point_of k))
  others k =
      let rising = (of_point k).listed.rising in
      subst (IsPermutation (rest k))
      (sym (ap (λ (body : Manifest). filter other (files_of body)) (manifest k).body))
      (others-left s (seat k.0) (value k) (sets_of (held k)) (rest k)
      (crl_listed (seat k.0) (crl k).bytes) (listed_files k) (moved k) rising (beside k) (crl-is k) (free k))

  pub listing : (k : K) → (es : List (K ⊎ O)) × IsPermutation (map inl (below k) ++ map inr (under k)) es
      × (map file es ≡ other_files (point_of k))
  listing k = lifted file (map inl (below k) ++ map inr (under k)) (other_files (point_of k))
      (subst (λ (l : List File). IsPermutation l (other_files (point_of k)))
      (sym (parts (below k) (under k))) (others k))

  -- ---- certificates

  held-says : (c : K) → (seats.is_object m tree are before next set c.0 c.1).certificate.cert.held
      ≡ Some (sets_of (held c))
  held-says c =
      ap (λ (v : CertValue). v.held) (seats.is_object m tree are before next set c.0 c.1).says
      ∙ by (is_key (issuer c) c.0)
      (anchor_certificate site (made c) (publishing (seat (issuer c))) (held c) (serial c))
      (authority_certificate site (made c) (publishing (seat (issuer c)))
      (publishing (seat c.0)) (held c) (serial c)) refl refl
    where
      by : (b : Bool) (one two : CertValue) → one.held ≡ Some (sets_of (held c))
          → two.held ≡ Some (sets_of (held c)) → (cond b one two).held ≡ Some (sets_of (held c))
      by true one two e f = e
      by false one two e f = f

  -- The lists of its sets are canonical, since no others are read.
  lists : (c : K) → AreListed (Some (sets_of (held c)))
  lists c =
      subst AreListed (held-says c)
      (listed-in-certificate (seats.left m tree are before next set c.0 c.1).0
      (seats.is_object m tree are before next set c.0 c.1).certificate
      (seats.is_object m tree are before next set c.0 c.1).read)

  entries-are : (k : K) → map crl_entry (of_point k).revoked ≡ (crl k).crl.crl.entries
  entries-are k = sym (ap (λ (v : CrlValue). v.entries) (crl k).says)

  below-is : (k c : K) → is_below k c ≡ true → (issuer c ≡ k.0) × (c.0.desk ≢ 0)
  below-is k c so = files.below-is m tree are before next set anchor owes apart k c so

  -- Where its certificate stands.
  pub cert-at : (k c : K) → is_below k c ≡ true → (seat c.0).certificate
      ≡ cert_uri site (name_at (names_of m.plan_input.basis.configs) k.0.desk) (id_of c.0)
  cert-at k c so =
      homes.certificate-at m tree are before next c.0 c.1
      ∙ files.below-place m tree are before next set anchor owes apart k c so

  -- What it says, below that key.
  abbrev value_below : K → K → CertValue
  value_below k c = authority_certificate site (made c) (publishing (seat k.0))
      (publishing (seat c.0)) (held c) (serial c)

  abbrev has-certificate : (k c : K) → is_below k c ≡ true
      → HasCertificate s (seat k.0) (seat c.0) m.new (crl k).crl.crl.entries (held c)
  has-certificate k c so =
      let is = below-is k c so in
      let left = seats.left m tree are before next set c.0 c.1 in
      let object = seats.is_object m tree are before next set c.0 c.1 in
      let with : Bool → CertValue = λ b. cond b
      (anchor_certificate site (made c) (publishing (seat (issuer c))) (held c) (serial c))
      (authority_certificate site (made c) (publishing (seat (issuer c)))
      (publishing (seat c.0)) (held c) (serial c)) in
      let says : object.certificate.cert ≡ value_below k c =
      object.says
      ∙ (ap with (homes.apart-issuer m tree are before next c.0 c.1 is.1)
      ∙ ap (λ (r : KeyRow). authority_certificate site (made c) (publishing (seat r))
      (publishing (seat c.0)) (held c) (serial c)) is.0) in
      record {
        bytes = left.0;
        there = ap m.new (homes.certificate-at m tree are before next c.0 c.1) ∙ left.1;
        certificate = object.certificate;
        read = object.read;
        made = made c;
        time = object.time;
        serial = serial c;
        says = says;
        issued = subst (λ (r : KeyRow). m.vouched r.key.bytes object.certificate.digest
            object.certificate.signature ≡ true) is.0 object.vouched;
        place = cert-at k c so;
        unrevoked = subst (λ (l : List CrlEntry). is_revoked l object.certificate.cert.serial ≡ false)
            (entries-are k) (unrevoked k.0 k.1 object.certificate (record {
              uri = homes.place m tree are before next c.0 c.1;
              bytes = left.0;
              there = left.1;
              has = inl object.read;
              issuer = ap (λ (v : CertValue). v.issuer) says;
            }));
      }

  same-set : (c : K) (desk : ℕ) (r : Resources) → desk ≡ c.0.desk
      → drawn.slice_of m.plan_input.basis.sets desk ≡ Some r → r ≡ held c
  same-set c desk r same at =
      same_Some r (held c)
      (sym at ∙ (ap (drawn.slice_of m.plan_input.basis.sets) same
      ∙ (homes.placed m tree are before next c.0 c.1).is.has))

  value-is : (k c : K) → is_below k c ≡ true → value c ≡ value_below k c
  value-is k c so =
      let is = below-is k c so in
      ap (λ (b : Bool). cond b
      (anchor_certificate site (made c) (publishing (seat c.0)) (held c) (serial c))
      (authority_certificate site (made c) (publishing (seat (issuer c)))
      (publishing (seat c.0)) (held c) (serial c))) (no-zero c.0.desk is.1)
      ∙ ap (λ (r : KeyRow). authority_certificate site (made c) (publishing (seat r))
      (publishing (seat c.0)) (held c) (serial c)) is.0
    where
      no-zero : (n : ℕ) → n ≢ 0 → (n == 0) ≡ false
      no-zero n other = by (n == 0) refl
        where
          by : (b : Bool) → (n == 0) ≡ b → b ≡ false
          by true e = absurd (other (eqb-true n 0 e))
          by false e = refl

  key-inside : (k c : K) → is_below k c ≡ true
      → is_held_under (sets_of (held k)) (Some (sets_of (held c))) ≡ true
  key-inside k c so =
      let is = below-is k c so in
      let has_one = homes.other-issuer m tree are before next c.0 c.1 is.1 in
      let desk : has_one.0.above ≡ k.0.desk =
      sym (drawn.current-desk m.keys has_one.0.above has_one.0.issuer has_one.0.current)
      ∙ (ap (λ (r : KeyRow). r.desk) has_one.1 ∙ ap (λ (r : KeyRow). r.desk) is.0) in
      let same : has_one.0.is.set ≡ held k =
      same-set k has_one.0.above has_one.0.is.set desk has_one.0.is.has in
      set-inside insides (held c) (held k) (lists c) (lists k) (λ family n here.
      subst (λ (r : Resources). has r family n ≡ true) same (has_one.0.inside family n here))

  pub key-accepted : (k c : K) → is_below k c ≡ true → (seen : List (List ℕ))
      → is_among seen (authority c).uri ≡ false
      → accepted_authority s m.new (authority k) (point_of k).crl.entries seen (of_key c) ≡ Ok (authority c)
  key-accepted k c so seen fresh =
      let told : CertValue → _ = λ v. Ok (authority_with s (seat c.0) v (sets_of (held c))) in
      authority-accepted s (seat k.0) (seat c.0) (value k) (sets_of (held k)) m.new
      (crl k).crl.crl.entries (held c) (has-certificate k c so) (key-inside k c so) (folders c.0 c.1)
      seen (ap (is_among seen) (sym (cert-at k c so)) ∙ fresh)
      ∙ sym (ap told (value-is k c so))

  -- ---- ROAs

  abbrev pub place : O → List ℕ
  place = files.place m tree are before next set anchor owes apart

  abbrev pub roa : O → SignedRoa
  roa o = (stands.roa_object m tree are before next set anchor owes o.0 o.1).roa

  abbrev pub told : O → Yielded
  told o = yielded_for site (names_of m.plan_input.basis.configs) o.0

  pub under-is : (k : K) (o : O) → is_under k o ≡ true → signer o ≡ k.0
  under-is k o so = files.under-is m tree are before next set anchor owes apart k o so

  signer-desk : (o : O) → (signer o).desk ≡ o.0.desk
  signer-desk o = drawn.signer-desk m tree are before next owes o.0 o.1

  abbrev owed-roa : (k : K) (o : O) → is_under k o ≡ true
      → IsOwedRoa s (seat (signer o)) m.new (crl k).crl.crl.entries o.0.origin
  owed-roa k o so =
      stands.owed-roa m tree are before next set anchor owes o.0 o.1 (crl k).crl.crl.entries
      (λ c holds. subst (λ (l : List CrlEntry). is_revoked l c.cert.serial ≡ false) (entries-are k)
      (unrevoked k.0 k.1 c (subst (λ (r : KeyRow). IsHeld m.new (id_of r) c) (under-is k o so) holds)))

  origin-inside : (k : K) (o : O) → is_under k o ≡ true
      → is_held_under (sets_of (held k)) (Some (prefix_sets o.0.origin.prefix)) ≡ true
  origin-inside k o so =
      let holds = drawn.holds m tree are before next owes o.0 o.1 in
      let desk : o.0.desk ≡ k.0.desk =
      sym (signer-desk o) ∙ ap (λ (r : KeyRow). r.desk) (under-is k o so) in
      let same : holds.is.set ≡ held k = same-set k o.0.desk holds.is.set desk holds.is.has in
      prefix-inside spans (held k) (lists k) o.0.origin.prefix
      (drawn.each-in o.0.origin.prefix holds.is.set (held k) same holds.each)

  pub origin-accepted : (k : K) (o : O) → is_under k o ≡ true → (seen : List (List ℕ))
      → is_among seen (place o) ≡ false
      → accepted_roa s m.new (point_of k) seen (of_origin o) ≡ Ok (roa o)
  origin-accepted k o so seen fresh =
      subst (λ (r : KeyRow). accepted_roa s m.new (record {
        authority = authority_with s (seat r) (value k) (sets_of (held k));
        manifest = (manifest k).manifest;
        crl = (crl k).crl.crl;
      }) seen (of_origin o) ≡ Ok (roa o)) (under-is k o so)
      (roa-accepted s (seat (signer o)) (value k) (sets_of (held k)) m.new (manifest k).manifest
      (crl k).crl.crl o.0.origin (owed-roa k o so) (origin-inside k o so) (has-prefix o.0.origin)
      seen fresh)

  pub origin-yields : (k : K) (o : O) → is_under k o ≡ true
      → yielded_by (Route (authority k) (place o) (roa o)) ≡ told o ∷ []
  origin-yields k o so =
      subst (λ (r : KeyRow). yielded_by
      (Route (authority_with s (seat r) (value k) (sets_of (held k))) (place o) (roa o)) ≡ told o ∷ [])
      (under-is k o so)
      (roa-yields s (seat (signer o)) (value k) (sets_of (held k)) m.new (manifest k).manifest
      (crl k).crl.crl o.0.origin (owed-roa k o so) (origin-inside k o so) (has-prefix o.0.origin)
      ∙ ap (λ (desk : ℕ). yielded_for site (names_of m.plan_input.basis.configs)
      (record { desk = desk; origin = o.0.origin }) ∷ []) (signer-desk o))

  -- ---- all

  abbrev pub are-points : ArePoints s m.new (members m.keys) (members m.plan_input.owed) is_below is_under
  are-points = record {
    authority = authority;
    point = point_of;
    place = place;
    roa = roa;
    told = told;
    of_key = of_key;
    of_origin = of_origin;
    entries = λ k. (listing k).0;
    above = λ k. refl;
    accepted = accepted;
    all = λ k. (listing k).1;
    files = λ k. sym (listing k).2;
    key_kind = λ c. key-kind c.0.key.bytes (seats.left m tree are before next set c.0 c.1).0;
    key_place = λ k c so. sym (cert-at k c so);
    key_accepted = key-accepted;
    origin_kind = λ o. roa-kind o.0.origin
        (stands.roa-left m tree are before next set anchor owes o.0 o.1).0;
    origin_place = λ k o so. ap (λ (r : KeyRow). file_uri site
        (name_at (names_of m.plan_input.basis.configs) r.desk) (roa_file o.0.origin))
        (sym (under-is k o so));
    origin_accepted = origin-accepted;
    yields = origin-yields;
  }
