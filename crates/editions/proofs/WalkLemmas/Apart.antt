-- No two places of an edition's objects are the same, and nothing stands elsewhere.
use Rattle.std.proofs.Common.{◌≡◌, ◌≢◌, ◌⊎◌, ℕ, Bool, true, false, List, [], ◌∷◌, ◌++◌, map, filter, AllPairs, IsPermutation, codes, refl, sym, ap, subst, ◌∙◌, arith, inl, inr}
use Rattle.std.specs.List.{flat_map, list_any}
use Rattle.std.proofs.lemmas.Option.{same_Some}
use Rattle.std.proofs.lemmas.List.{append_cancel_left}
use Rattle.std.proofs.lemmas.List.Sorted.{IsPermutation-sym, IsPermutation-map}
use Rattle.std.proofs.lemmas.Slice.Eq.{bytes_eq-Decides}
use Rattle.der.specs.Grammar.{AreBytes}
use Rattle.hex.specs.Hex.{encode_lower}
use Rattle.origins.specs.declared.Origin.{Origin}
use Rattle.names.specs.Name.{IsName}
use Rattle.key_ids.specs.Uris.{Bases, anchor_uri, folder_of, file_uri, cert_uri, crl_uri, manifest_uri}
use Rattle.authority_book.specs.declared.rows.NameRow.{NameRow}
use Rattle.entitle.specs.Certified.{names_of, AreCertified}
use Rattle.entitle.specs.Owed.{AreOwed}
use Rattle.key_roll.specs.declared.rows.KeyRow.{KeyRow}
use Rattle.key_roll.specs.declared.rows.Role.TheVariants.{Current}
use Rattle.cert_obj.specs.laws.IdentifierLaws.{sha1-bytes}
use Rattle.cert_obj.specs.Values.{SignedCert}
use Rattle.issue_values.specs.UriEndings.{last_byte}
use Rattle.rp_rules.specs.Certificates.{File, is_revoked}
use Rattle.rp_rules.specs.Authorities.{is_folder}
use Rattle.rp_rules.specs.Yield.{Yielded}
use Rattle.origins.specs.laws.Same.{same_prefix, same_origin}
use Rattle.issue_values.specs.Publishers.{roa_uri}
use Rattle.issue_values.specs.Bodies.{crl_entry}
use Rattle.issue_plan.specs.Keys.{next_keys, row_of}
use Rattle.issue_plan.specs.Uris.{roa_file}
use Rattle.issue_keys.specs.Keys.{id_of}
use Rattle.issue_drafts.specs.Publishers.{name_at, is_key}
use Rattle.editions.specs.Held.{IsHeld}
use Rattle.editions.specs.Keys.{AreNext}
use Rattle.editions.specs.Objects.{Issuance}
use Rattle.editions.proofs.WalkLemmas.Serving.{IsServed}
use Rattle.editions.specs.Names.{AreTree}
use Rattle.items.specs.laws.AmongLaws.{In, in-contains, in-parts, in-behind, in-map, map-in, filter-in, flat-map-in, any-in}
use Rattle.items.specs.laws.PairLaws.{Twos}
use Rattle.editions.proofs.WalkLemmas.Elements.{one-of, pairs-twos, twos-map, twos-from, each-from, each-in}
use Rattle.editions.proofs.WalkLemmas.Moved.{filter-all, classes, twos-moved, twos-front, twos-across, twos-flat}
use Rattle.editions.proofs.WalkLemmas.Members.{Member, members, members-twos, member-of}
use Rattle.editions.proofs.WalkLemmas.Levels.{one-place}
use Rattle.editions.proofs.WalkLemmas.Levelled.{name-is}
use Rattle.editions.proofs.WalkLemmas.Inside.{HaveSpans, AreInsides}
use Rattle.editions.proofs.WalkLemmas.Point.{crl_listed}
use Rattle.editions.proofs.WalkLemmas.Walks.{AreApart}
use Rattle.editions.proofs.WalkLemmas.Homes as homes
use Rattle.editions.proofs.WalkLemmas.KeyDrafts as drawn
use Rattle.editions.proofs.WalkLemmas.Files as files
use Rattle.editions.proofs.WalkLemmas.Build as build
use Rattle.editions.proofs.WalkLemmas.Build.{AreKinds}

-- What place_laws says of URIs.
pub record AreTold : Type 0 where
  pub files : (site : Bases) (a b f g : List ℕ) → IsName a → IsName b
      → file_uri site a f ≡ file_uri site b g → (a ≡ b) × (f ≡ g)
  pub certificates : (site : Bases) (a b x y : List ℕ) → IsName a → IsName b → AreBytes x → AreBytes y
      → cert_uri site a x ≡ cert_uri site b y → (a ≡ b) × (x ≡ y)
  pub crls : (site : Bases) (a b x y : List ℕ) → IsName a → IsName b → AreBytes x → AreBytes y
      → crl_uri site a x ≡ crl_uri site b y → (a ≡ b) × (x ≡ y)
  pub manifests : (site : Bases) (a b x y : List ℕ) → IsName a → IsName b → AreBytes x → AreBytes y
      → manifest_uri site a x ≡ manifest_uri site b y → (a ≡ b) × (x ≡ y)
  pub roas : (site : Bases) (a b : List ℕ) (o p : Origin) → IsName a → IsName b
      → roa_uri site a o ≡ roa_uri site b p → (a ≡ b) × (o ≡ p)

module _ (m : Issuance) (tree : AreTree (names_of m.plan_input.basis.configs))
    (are : AreCertified m.plan_input.basis.configs m.plan_input.basis.sets)
    (before : AllPairs (λ a b. id_of a ≢ id_of b) m.plan_input.basis.rows)
    (next : AreNext m.plan_input.basis.rows (next_keys m.plan_input.basis) m.keys)
    (set : IsServed m) (anchor : List ℕ) (owes : AreOwed m.plan_input.basis.configs m.plan_input.owed)
    (apart : (site : Bases) (a f : List ℕ) → anchor_uri site ≢ file_uri site a f) (kinds : AreKinds)
    (spans : HaveSpans) (insides : AreInsides)
    (folders : (k : KeyRow) → In k m.keys → is_folder m.plan_input.site
    (folder_of m.plan_input.site (name_at (names_of m.plan_input.basis.configs) k.desk)) ≡ true)
    (unrevoked : (k : KeyRow) (at : In k m.keys) (c : SignedCert) → IsHeld m.new (id_of k) c
    → is_revoked (map crl_entry (set.points k (in-contains k m.keys at)).revoked) c.cert.serial ≡ false)
    (told : AreTold)
    (plain : (k : KeyRow) → In k m.keys
    → IsName (name_at (names_of m.plan_input.basis.configs) k.desk)) where
  abbrev K : Type 0
  K = Member m.keys

  abbrev O : Type 0
  O = Member m.plan_input.owed

  abbrev site : Bases
  site = m.plan_input.site

  abbrev names : List NameRow
  names = names_of m.plan_input.basis.configs

  abbrev name : KeyRow → List ℕ
  name k = name_at names k.desk

  abbrev is_below : K → K → Bool
  is_below = files.is_below m tree are before next set anchor owes apart

  abbrev is_under : K → O → Bool
  is_under = files.is_under m tree are before next set anchor owes apart

  abbrev issuer : K → KeyRow
  issuer c = files.issuer m tree are before next set anchor owes apart c

  abbrev signer : O → KeyRow
  signer o = files.signer m tree are before next set anchor owes apart o

  abbrev below : K → List K
  below k = filter (is_below k) (members m.keys)

  abbrev under : K → List O
  under k = filter (is_under k) (members m.plan_input.owed)

  abbrev place : O → List ℕ
  place = files.place m tree are before next set anchor owes apart

  abbrev key_uri : K → List ℕ
  key_uri c = (files.authority m tree are before next set anchor owes apart c).uri

  abbrev uris : K → List (List ℕ)
  uris = files.uris m tree are before next set anchor owes apart

  cert-at : (k c : K) → is_below k c ≡ true → key_uri c ≡ cert_uri site (name k.0) (id_of c.0)
  cert-at k c so =
      homes.certificate-at m tree are before next c.0 c.1
      ∙ files.below-place m tree are before next set anchor owes apart k c so

  roa-at : (k : K) (o : O) → is_under k o ≡ true → place o ≡ roa_uri site (name k.0) o.0.origin
  roa-at k o so = ap (λ (r : KeyRow). roa_uri site (name r) o.0.origin)
      (files.under-is m tree are before next set anchor owes apart k o so)

  -- ---- what a place is

  abbrev IsCert : K → List ℕ → Type 0
  IsCert k uri = (c : K) × In c (below k) × (uri ≡ cert_uri site (name k.0) (id_of c.0))

  abbrev IsRoa : K → List ℕ → Type 0
  IsRoa k uri = (o : O) × In o (under k) × (uri ≡ roa_uri site (name k.0) o.0.origin)

  abbrev IsAt : K → List ℕ → Type 0
  IsAt k uri = (uri ≡ manifest_uri site (name k.0) (id_of k.0))
      ⊎ ((uri ≡ crl_uri site (name k.0) (id_of k.0)) ⊎ (IsCert k uri ⊎ IsRoa k uri))

  at-is : (k : K) (uri : List ℕ) → In uri (uris k) → IsAt k uri
  at-is k uri (inl e) = inl (sym e)
  at-is k uri (inr (inl e)) = inr (inl (sym e))
  at-is k uri (inr (inr at)) =
      by (in-parts uri (map key_uri (below k)) (map place (under k)) at)
    where
      by : In uri (map key_uri (below k)) ⊎ In uri (map place (under k)) → IsAt k uri
      by (inl front) =
          let w = map-in key_uri uri (below k) front in
          let so = (filter-in (is_below k) w.0 (members m.keys) w.1).1 in
          inr (inr (inl (w.0, w.1, sym w.2 ∙ cert-at k w.0 so)))
      by (inr behind) =
          let w = map-in place uri (under k) behind in
          let so = (filter-in (is_under k) w.0 (members m.plan_input.owed) w.1).1 in
          inr (inr (inr (w.0, w.1, sym w.2 ∙ roa-at k w.0 so)))

  -- How it ends.
  abbrev end-of : (k : K) (uri : List ℕ) → IsAt k uri → ℕ
  end-of k uri (inl e) = 116
  end-of k uri (inr (inl e)) = 108
  end-of k uri (inr (inr (inl c))) = 114
  end-of k uri (inr (inr (inr o))) = 97

  ends : (k : K) (uri : List ℕ) (at : IsAt k uri) → last_byte uri ≡ end-of k uri at
  ends k uri (inl e) = ap last_byte e ∙ kinds.manifests site (name k.0) (id_of k.0)
  ends k uri (inr (inl e)) = ap last_byte e ∙ kinds.crls site (name k.0) (id_of k.0)
  ends k uri (inr (inr (inl c))) = ap last_byte c.2 ∙ kinds.certificates site (name k.0) (id_of c.0.0)
  ends k uri (inr (inr (inr o))) = ap last_byte o.2 ∙ kinds.roas site (name k.0) o.0.0.origin

  -- ---- places of two keys

  module _ (k l : K) (other : id_of k.0 ≢ id_of l.0) where
    desks : name k.0 ≡ name l.0 → k.0.desk ≡ l.0.desk
    desks same =
        let one = homes.placed m tree are before next k.0 k.1 in
        let two = homes.placed m tree are before next l.0 l.1 in
        one-place names k.0.desk l.0.desk one.name two.name tree.apart one.is.named two.is.named
        (sym (name-is m tree are before next set k) ∙ (same ∙ name-is m tree are before next set l))

    one-cert : (c d : K) → In c (below k) → In d (below l) → id_of c.0 ≡ id_of d.0 → ⊥
    one-cert c d at there same =
        let p = filter-in (is_below k) c (members m.keys) at in
        let q = filter-in (is_below l) d (members m.keys) there in
        let is : c ≡ d = one-of (λ (e : K). id_of e.0) (members m.keys) c d
        (members-twos (λ (a b : KeyRow). id_of a ≢ id_of b) m.keys
        (pairs-twos (λ (a b : KeyRow). id_of a ≢ id_of b) m.keys next.apart)) p.0 q.0 same in
        other (ap id_of (sym (files.below-is m tree are before next set anchor owes apart k c p.1).0
        ∙ (ap issuer is ∙ (files.below-is m tree are before next set anchor owes apart l d q.1).0)))

    one-roa : (o p : O) → In o (under k) → In p (under l) → name k.0 ≡ name l.0 → ⊥
    one-roa o p at there same =
        let a = (filter-in (is_under k) o (members m.plan_input.owed) at).1 in
        let b = (filter-in (is_under l) p (members m.plan_input.owed) there).1 in
        let first = files.under-is m tree are before next set anchor owes apart k o a in
        let second = files.under-is m tree are before next set anchor owes apart l p b in
        let desk-k : o.0.desk ≡ k.0.desk =
        sym (drawn.signer-desk m tree are before next owes o.0 o.1)
        ∙ ap (λ (r : KeyRow). r.desk) first in
        let desk-l : p.0.desk ≡ l.0.desk =
        sym (drawn.signer-desk m tree are before next owes p.0 p.1)
        ∙ ap (λ (r : KeyRow). r.desk) second in
        let desk : o.0.desk ≡ p.0.desk = desk-k ∙ (desks same ∙ sym desk-l) in
        let signers : signer o ≡ signer p = same_Some (signer o) (signer p)
        (sym (drawn.signer-current m tree are before next owes o.0 o.1)
        ∙ (ap (λ (d : ℕ). row_of m.keys d Current) desk
        ∙ drawn.signer-current m tree are before next owes p.0 p.1)) in
        other (ap id_of (sym first ∙ (signers ∙ second)))

    clash : (uri : List ℕ) (one : IsAt k uri) (two : IsAt l uri) → ⊥
    clash uri one two = by one two (sym (ends k uri one) ∙ ends l uri two)
      where
        n : IsName (name k.0)
        n = plain k.0 k.1

        o_ : IsName (name l.0)
        o_ = plain l.0 l.1

        b : (r : KeyRow) → AreBytes (id_of r)
        b r = sha1-bytes r.key.bytes

        by : (one : IsAt k uri) (two : IsAt l uri) → end-of k uri one ≡ end-of l uri two → ⊥
        by (inl e) (inl f) same =
            other (told.manifests site (name k.0) (name l.0) (id_of k.0) (id_of l.0) n o_ (b k.0) (b l.0)
            (sym e ∙ f)).1
        by (inl e) (inr (inl f)) same = absurd (omega (arith, same))
        by (inl e) (inr (inr (inl f))) same = absurd (omega (arith, same))
        by (inl e) (inr (inr (inr f))) same = absurd (omega (arith, same))
        by (inr (inl e)) (inl f) same = absurd (omega (arith, same))
        by (inr (inl e)) (inr (inl f)) same =
            other (told.crls site (name k.0) (name l.0) (id_of k.0) (id_of l.0) n o_ (b k.0) (b l.0)
            (sym e ∙ f)).1
        by (inr (inl e)) (inr (inr (inl f))) same = absurd (omega (arith, same))
        by (inr (inl e)) (inr (inr (inr f))) same = absurd (omega (arith, same))
        by (inr (inr (inl e))) (inl f) same = absurd (omega (arith, same))
        by (inr (inr (inl e))) (inr (inl f)) same = absurd (omega (arith, same))
        by (inr (inr (inl e))) (inr (inr (inl f))) same =
            one-cert e.0 f.0 e.1 f.1 (told.certificates site (name k.0) (name l.0) (id_of e.0.0)
            (id_of f.0.0) n o_ (b e.0.0) (b f.0.0) (sym e.2 ∙ f.2)).1
        by (inr (inr (inl e))) (inr (inr (inr f))) same = absurd (omega (arith, same))
        by (inr (inr (inr e))) (inl f) same = absurd (omega (arith, same))
        by (inr (inr (inr e))) (inr (inl f)) same = absurd (omega (arith, same))
        by (inr (inr (inr e))) (inr (inr (inl f))) same = absurd (omega (arith, same))
        by (inr (inr (inr e))) (inr (inr (inr f))) same =
            one-roa e.0 f.0 e.1 f.1 (told.roas site (name k.0) (name l.0) e.0.0.origin f.0.0.origin n o_
            (sym e.2 ∙ f.2)).0

  across : Twos (λ (k l : K). (x y : List ℕ) → In x (uris k) → In y (uris l) → x ≢ y) (members m.keys)
  across = twos-from (λ (k l : K). id_of k.0 ≢ id_of l.0)
      (λ (k l : K). (x y : List ℕ) → In x (uris k) → In y (uris l) → x ≢ y) (members m.keys)
      (λ k l a b other x y at there same. clash k l other x (at-is k x at)
      (subst (IsAt l) (sym same) (at-is l y there)))
      (members-twos (λ (a b : KeyRow). id_of a ≢ id_of b) m.keys
      (pairs-twos (λ (a b : KeyRow). id_of a ≢ id_of b) m.keys next.apart))

  -- ---- places of one key

  module _ (k : K) where
    abbrev rest : List File
    rest = build.rest m tree are before next set anchor owes apart kinds spans insides folders unrevoked k

    abbrev crl_file : File
    crl_file = crl_listed (build.seat m tree are before next set anchor owes apart kinds spans insides
        folders unrevoked k.0)
        (build.crl m tree are before next set anchor owes apart kinds spans insides folders unrevoked k).bytes

    abbrev inside : File → List ℕ
    inside f = folder_of site (name k.0) ++ f.0

    -- The names of its files are apart.
    names-twos : Twos (λ a b. a ≢ b) (map (λ (f : File). f.0) (rest ++ crl_file ∷ []))
    names-twos =
        let listed : List File = build.listed_files m tree are before next set anchor owes apart kinds spans
        insides folders unrevoked k in
        twos-moved (λ a b. a ≢ b) (λ a b other same. other (sym same))
        (map (λ (f : File). f.0) listed) (map (λ (f : File). f.0) (rest ++ crl_file ∷ []))
        (IsPermutation-map (λ (f : File). f.0) listed (rest ++ crl_file ∷ [])
        (IsPermutation-sym (rest ++ crl_file ∷ []) listed
        (build.moved m tree are before next set anchor owes apart kinds spans insides folders unrevoked k)))
        (build.listed-apart m tree are before next set anchor owes apart kinds spans insides folders
        unrevoked k)

    places-twos : Twos (λ a b. a ≢ b) (map inside (rest ++ crl_file ∷ []))
    places-twos =
        subst (Twos (λ a b. a ≢ b)) (inside-names (rest ++ crl_file ∷ []))
        (twos-map (λ a b. a ≢ b) (λ (n : List ℕ). folder_of site (name k.0) ++ n)
        (map (λ (f : File). f.0) (rest ++ crl_file ∷ []))
        (twos-from (λ a b. a ≢ b)
        (λ (a b : List ℕ). folder_of site (name k.0) ++ a ≢ folder_of site (name k.0) ++ b)
        (map (λ (f : File). f.0) (rest ++ crl_file ∷ []))
        (λ a b x y other same. other (append_cancel_left (folder_of site (name k.0)) a b same)) names-twos))
      where
        inside-names : (fs : List File) → map (λ (n : List ℕ). folder_of site (name k.0) ++ n)
            (map (λ (f : File). f.0) fs) ≡ map inside fs
        inside-names [] = refl
        inside-names (f ∷ fs) = ap (λ (l : List (List ℕ)). inside f ∷ l) (inside-names fs)

    split : (fs gs : List File) → map inside (fs ++ gs) ≡ map inside fs ++ map inside gs
    split [] gs = refl
    split (f ∷ fs) gs = ap (λ (l : List (List ℕ)). inside f ∷ l) (split fs gs)

    both-twos : Twos (λ a b. a ≢ b) (map inside rest ++ inside crl_file ∷ [])
    both-twos = subst (Twos (λ a b. a ≢ b)) (split rest (crl_file ∷ [])) places-twos

    keys-inside : (cs : List K) → ((c : K) → In c cs → is_below k c ≡ true)
        → map inside (map (build.of_key m tree are before next set anchor owes apart kinds spans insides
        folders unrevoked) cs) ≡ map key_uri cs
    keys-inside [] so = refl
    keys-inside (c ∷ cs) so =
        ap (λ (u : List ℕ). u ∷ map inside (map (build.of_key m tree are before next set anchor owes apart
        kinds spans insides folders unrevoked) cs)) (sym (cert-at k c (so c (inl refl))))
        ∙ ap (λ (l : List (List ℕ)). key_uri c ∷ l) (keys-inside cs (λ d at. so d (inr at)))

    origins-inside : (os : List O) → ((o : O) → In o os → is_under k o ≡ true)
        → map inside (map (build.of_origin m tree are before next set anchor owes apart kinds spans insides
        folders unrevoked) os) ≡ map place os
    origins-inside [] so = refl
    origins-inside (o ∷ os) so =
        ap (λ (u : List ℕ). u ∷ map inside (map (build.of_origin m tree are before next set anchor owes apart
        kinds spans insides folders unrevoked) os)) (sym (roa-at k o (so o (inl refl))))
        ∙ ap (λ (l : List (List ℕ)). place o ∷ l) (origins-inside os (λ p at. so p (inr at)))

    rest-is : map inside rest ≡ map key_uri (below k) ++ map place (under k)
    rest-is =
        split (map (build.of_key m tree are before next set anchor owes apart kinds spans insides folders
        unrevoked) (below k)) (map (build.of_origin m tree are before next set anchor owes apart kinds spans
        insides folders unrevoked) (under k))
        ∙ (ap (λ (l : List (List ℕ)). l ++ map inside (map (build.of_origin m tree are before next set anchor
        owes apart kinds spans insides folders unrevoked) (under k)))
        (keys-inside (below k) (λ c at. (filter-in (is_below k) c (members m.keys) at).1))
        ∙ ap (λ (l : List (List ℕ)). map key_uri (below k) ++ l)
        (origins-inside (under k) (λ o at. (filter-in (is_under k) o (members m.plan_input.owed) at).1)))

    abbrev listed_uris : List (List ℕ)
    listed_uris = map key_uri (below k) ++ map place (under k)

    with-crl : Twos (λ a b. a ≢ b) (listed_uris ++ inside crl_file ∷ [])
    with-crl = subst (λ (l : List (List ℕ)). Twos (λ a b. a ≢ b) (l ++ inside crl_file ∷ [])) rest-is both-twos

    -- The manifest's ends otherwise.
    no-manifest : (uri : List ℕ) → In uri (crl_uri site (name k.0) (id_of k.0) ∷ listed_uris)
        → manifest_uri site (name k.0) (id_of k.0) ≢ uri
    no-manifest uri at same = of at
      where
        is : last_byte uri ≡ 116
        is = ap last_byte (sym same) ∙ kinds.manifests site (name k.0) (id_of k.0)

        crl-end : inside crl_file ≡ uri → ⊥
        crl-end e =
            let two : 108 ≡ 116 = sym (kinds.crls site (name k.0) (id_of k.0)) ∙ (ap last_byte e ∙ is) in
            absurd (omega (arith, two))

        listed-end : In uri (map key_uri (below k)) ⊎ In uri (map place (under k)) → ⊥
        listed-end (inl front) =
            let w = map-in key_uri uri (below k) front in
            let so = (filter-in (is_below k) w.0 (members m.keys) w.1).1 in
            let two : 114 ≡ 116 = sym (kinds.certificates site (name k.0) (id_of w.0.0))
            ∙ (ap last_byte (sym (cert-at k w.0 so) ∙ w.2) ∙ is) in
            absurd (omega (arith, two))
        listed-end (inr behind) =
            let w = map-in place uri (under k) behind in
            let so = (filter-in (is_under k) w.0 (members m.plan_input.owed) w.1).1 in
            let two : 97 ≡ 116 = sym (kinds.roas site (name k.0) w.0.0.origin)
            ∙ (ap last_byte (sym (roa-at k w.0 so) ∙ w.2) ∙ is) in
            absurd (omega (arith, two))

        of : In uri (crl_uri site (name k.0) (id_of k.0) ∷ listed_uris) → ⊥
        of (inl e) = crl-end e
        of (inr rest) = listed-end (in-parts uri (map key_uri (below k)) (map place (under k)) rest)

    own-twos : Twos (λ a b. a ≢ b) (uris k)
    own-twos = (
      each-from (λ (u : List ℕ). manifest_uri site (name k.0) (id_of k.0) ≢ u)
          (crl_uri site (name k.0) (id_of k.0) ∷ listed_uris) no-manifest,
      (
        each-from (λ (u : List ℕ). crl_uri site (name k.0) (id_of k.0) ≢ u) listed_uris (λ u at same.
            twos-across (λ a b. a ≢ b) listed_uris (inside crl_file ∷ []) with-crl u (inside crl_file) at
            (inl refl) (sym same)),
        twos-front (λ a b. a ≢ b) listed_uris (inside crl_file ∷ []) with-crl,
      ),
    )

  pub keys-twos : AreApart (flat_map uris (members m.keys))
  keys-twos = twos-flat (λ a b. a ≢ b) uris (members m.keys) (λ k at. own-twos k) across

  -- ---- the trust anchor's certificate

  not-anchor : (k : K) (uri : List ℕ) → IsAt k uri → anchor_uri site ≢ uri
  not-anchor k uri (inl e) same =
      apart site (name k.0) (encode_lower (id_of k.0) ++ codes ".mft") (same ∙ e)
  not-anchor k uri (inr (inl e)) same =
      apart site (name k.0) (encode_lower (id_of k.0) ++ codes ".crl") (same ∙ e)
  not-anchor k uri (inr (inr (inl c))) same =
      apart site (name k.0) (encode_lower (id_of c.0.0) ++ codes ".cer") (same ∙ c.2)
  not-anchor k uri (inr (inr (inr o))) same =
      apart site (name k.0) (roa_file o.0.0.origin) (same ∙ o.2)

  pub all-twos : AreApart (anchor_uri site ∷ flat_map uris (members m.keys))
  all-twos = (
    each-from (λ (u : List ℕ). anchor_uri site ≢ u) (flat_map uris (members m.keys)) (λ u at.
        let w = flat-map-in uris u (members m.keys) at in
        not-anchor w.0 u (at-is w.0 u w.2)),
    keys-twos,
  )

  -- ---- origins

  roas-apart : Twos (λ a b. a ≢ b) (flat_map (λ (k : K). map place (under k)) (members m.keys))
  roas-apart =
      twos-flat (λ a b. a ≢ b) (λ (k : K). map place (under k)) (members m.keys)
      (λ k at. behind (map key_uri (below k)) (map place (under k)) (own-twos k).1.1)
      (twos-from (λ (k l : K). (x y : List ℕ) → In x (uris k) → In y (uris l) → x ≢ y)
      (λ (k l : K). (x y : List ℕ) → In x (map place (under k)) → In y (map place (under l)) → x ≢ y)
      (members m.keys)
      (λ k l a b other x y at there. other x y
      (inr (inr (in-behind x (map key_uri (below k)) (map place (under k)) at)))
      (inr (inr (in-behind y (map key_uri (below l)) (map place (under l)) there)))) across)
    where
      behind : (xs ys : List (List ℕ)) → Twos (λ a b. a ≢ b) (xs ++ ys) → Twos (λ a b. a ≢ b) ys
      behind [] ys twos = twos
      behind (x ∷ xs) ys twos = behind xs ys twos.1

  pub one-issuer : Twos (λ k l. (o : O) → In o (members m.plan_input.owed) → is_under k o ≡ true
      → is_under l o ≡ false) (members m.keys)
  one-issuer = twos-from (λ (a b : K). id_of a.0 ≢ id_of b.0)
      (λ k l. (o : O) → In o (members m.plan_input.owed) → is_under k o ≡ true → is_under l o ≡ false)
      (members m.keys)
      (λ k l x y other o at so. none (is_under l o) (λ also.
      other (ap id_of (sym (files.under-is m tree are before next set anchor owes apart k o so)
      ∙ files.under-is m tree are before next set anchor owes apart l o also))))
      (members-twos (λ (a b : KeyRow). id_of a ≢ id_of b) m.keys
      (pairs-twos (λ (a b : KeyRow). id_of a ≢ id_of b) m.keys next.apart))
    where
      none : (b : Bool) → (b ≡ true → ⊥) → b ≡ false
      none true never = absurd (never refl)
      none false never = refl

  pub issued : (o : O) → In o (members m.plan_input.owed)
      → (k : K) × In k (members m.keys) × (is_under k o ≡ true)
  issued o at =
      let e = member-of (signer o) m.keys (drawn.signer-at m tree are before next owes o.0 o.1) in (
        e.0,
        e.1,
        ap (is_key (signer o)) e.2 ∙ (bytes_eq-Decides (id_of (signer o)) (id_of (signer o))).1 refl,
      )

  -- What is owed, key by key.
  owed-all : IsPermutation (flat_map under (members m.keys)) (members m.plan_input.owed)
  owed-all =
      subst (IsPermutation (flat_map under (members m.keys)))
      (filter-all (λ o. list_any (λ k. is_under k o) (members m.keys)) (members m.plan_input.owed) (λ o at.
      let w = issued o at in any-in (λ k. is_under k o) (members m.keys) w.0 w.1 w.2))
      (classes is_under (members m.keys) (members m.plan_input.owed) one-issuer)

  places-apart : Twos (λ a b. a ≢ b) (map place (members m.plan_input.owed))
  places-apart =
      twos-moved (λ a b. a ≢ b) (λ a b other same. other (sym same))
      (map place (flat_map under (members m.keys))) (map place (members m.plan_input.owed))
      (IsPermutation-map place (flat_map under (members m.keys)) (members m.plan_input.owed) owed-all)
      (subst (Twos (λ a b. a ≢ b)) (map-flat (members m.keys)) roas-apart)
    where
      over : (xs ys : List O) → map place (xs ++ ys) ≡ map place xs ++ map place ys
      over [] ys = refl
      over (x ∷ xs) ys = ap (λ (l : List (List ℕ)). place x ∷ l) (over xs ys)

      map-flat : (ks : List K) → flat_map (λ (k : K). map place (under k)) ks ≡ map place (flat_map under ks)
      map-flat [] = refl
      map-flat (k ∷ ks) =
          ap (λ (l : List (List ℕ)). map place (under k) ++ l) (map-flat ks)
          ∙ sym (over (under k) (flat_map under ks))

  abbrev tells : O → Yielded
  tells = build.told m tree are before next set anchor owes apart kinds spans insides folders unrevoked

  -- What is yielded for an origin tells its place.
  place-told : (a b : O) → tells a ≡ tells b → place a ≡ place b
  place-told a b e =
      let prefix = same_prefix a.0.origin.prefix b.0.origin.prefix (ap (λ (y : Yielded). y.entry.v6) e)
      (ap (λ (y : Yielded). y.entry.address) e) (ap (λ (y : Yielded). y.entry.len) e) in
      let origin = same_origin a.0.origin b.0.origin prefix (ap (λ (y : Yielded). y.entry.max) e)
      (ap (λ (y : Yielded). y.asn) e) in
      let desk-a = drawn.signer-desk m tree are before next owes a.0 a.1 in
      let desk-b = drawn.signer-desk m tree are before next owes b.0 b.1 in
      let folder : folder_of site (name (signer a)) ≡ folder_of site (name (signer b)) =
      ap (λ (d : ℕ). folder_of site (name_at names d)) desk-a
      ∙ (ap (λ (y : Yielded). y.folder) e
      ∙ sym (ap (λ (d : ℕ). folder_of site (name_at names d)) desk-b)) in
      ap (λ (f : List ℕ). f ++ roa_file a.0.origin) folder
      ∙ ap (λ (o : Origin). folder_of site (name (signer b)) ++ roa_file o) origin

  pub told-apart : Twos (λ a b. a ≢ b) (map tells (members m.plan_input.owed))
  told-apart =
      twos-map (λ a b. a ≢ b) tells (members m.plan_input.owed)
      (twos-from (λ (a b : O). place a ≢ place b) (λ (a b : O). tells a ≢ tells b) (members m.plan_input.owed)
      (λ a b x y other same. other (place-told a b same))
      (unmapped (members m.plan_input.owed) places-apart))
    where
      unmapped : (os : List O) → Twos (λ a b. a ≢ b) (map place os) → Twos (λ (a b : O). place a ≢ place b) os
      unmapped [] twos = tt
      unmapped (o ∷ os) twos = (
        each-from (λ (p : O). place o ≢ place p) os (λ p at.
            each-in (λ (u : List ℕ). place o ≢ u) (place p) (map place os) twos.0 (in-map place p os at)),
        unmapped os twos.1,
      )
