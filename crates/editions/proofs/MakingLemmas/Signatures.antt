-- The signatures that the making of an edition takes.
use Rattle.std.proofs.Common.{◌≡◌, ℕ, zero, suc, ◌+◌, ◌*◌, ◌<◌, ◌≤◌, ◌^◌, Option, None, Some, List, [], ◌∷◌, ◌++◌, length, map, refl, sym, ap, subst, ◌∙◌, arith}
use Rattle.std.specs.Prelude.{All, IsSome, sum_by, slice_get, slice_set, option_map, option_and_then}
use Rattle.std.specs.Option.{option_map_or}
use Rattle.std.specs.List.{filter_map, cons_option}
use Rattle.std.proofs.lemmas.Option.{same_Some}
use Rattle.std.proofs.lemmas.List.{length-set}
use Rattle.std.proofs.lemmas.List.Elements.{All-head, All-tail}
use Rattle.std.proofs.lemmas.List.Sums.{sum_by-cons, sum_by-append}
use Rattle.std.proofs.lemmas.List.Sorted.{sum_by-IsPermutation}
use Rattle.signer_api.specs.State.{SignerState}
use Rattle.signer_ring.specs.Calls.{Call, signer_of, change, after_call, after_calls}
use Rattle.signer_ring.specs.Calls.Call.{Makes, Signs, Once}
use Rattle.key_roll.specs.declared.rows.KeyRow.{KeyRow}
use Rattle.key_roll.specs.declared.work.CertWork.{CertWork}
use Rattle.key_roll.specs.declared.work.RoaWork.{RoaWork}
use Rattle.key_roll.specs.declared.work.PointWork.{PointWork}
use Rattle.key_ids.specs.Uris.{crl_uri, manifest_uri}
use Rattle.origins.specs.declared.Origin.{Origin}
use Rattle.res_sets.specs.declared.holdings.Resources.{Resources}
use Rattle.issue_values.specs.Publishers.{roa_uri}
use Rattle.issue_keys.specs.Keys.{id_of}
use Rattle.issue_keys.specs.Making.{making}
use Rattle.issue_drafts.specs.WorkKeys.{Keys, key_named}
use Rattle.issue_drafts.specs.Publishers.{name_at}
use Rattle.issue_drafts.specs.IssueInput.{IssueInput}
use Rattle.issue_drafts.specs.Drafts.{Draft, Kind, drafts, manifests, certificate_draft, roa_draft, crl_draft, manifest_draft, AreOrdered}
use Rattle.issue_drafts.specs.Drafts.Kind.{Certificate, Roa, Crl, Manifest}
use Rattle.issue_sign.specs.Objects.{Signed, Answers}
use Rattle.issue_sign.specs.Calls.{by_issuer, by_once, first_call, second_call, first_calls, second_calls, content_calls, last_calls}
use Rattle.issue_sign.specs.Objects.{manifest_certificate, manifest_content, attributes}
use Rattle.cert_obj.specs.Formats as certificates
use Rattle.cms_obj.specs.declared.values.ObjectKind.TheVariants as ObjectKinds
use Rattle.issue_make.specs.declared.made.Made.{Made}
use Rattle.issue_make.specs.Trace.{IssuingTrace, all_of, signatures_of}
use Rattle.issue_make.specs.Made.{IsMade, calls_of}
use Rattle.issue_make.specs.CanMake.{CanMake, Fits, IsThere}
use Rattle.issue_make.specs.laws.SignerLaws.{IsCallOf, calls-of-signers}
use Rattle.items.specs.laws.AmongLaws.{in-all, all-in}
use Rattle.editions.specs.Sparing.{given_by, signatures_for}
use Rattle.editions.proofs.ObjectLemmas.Named.{made-for, mapped-draft, cert-draft}

-- ---- what a call adds

-- One signature, unless it makes a key.
abbrev signs : Call → ℕ
signs (Makes n key) = 0
signs (Signs n one) = 1
signs (Once n one) = 1

of-one : (call : Call) (signer : SignerState) → signer.signatures + signs call < 2 ^ 64
    → (change call signer).signatures ≡ signer.signatures + signs call
of-one (Makes n key) signer less = omega arith
of-one (Signs n one) signer less = omega (arith, less)
of-one (Once n one) signer less = omega (arith, less)

-- One signer in place of another.
set-given : (ring : List SignerState) (n : ℕ) (old new : SignerState) → slice_get ring n ≡ Some old
    → given_by (slice_set ring n new) + old.signatures ≡ given_by ring + new.signatures
set-given [] n old new at = absurd cc
set-given (signer ∷ ring) zero old new at =
    let one : signer ≡ old = same_Some signer old at in
    let same : signer.signatures ≡ old.signatures = ap (λ (x : SignerState). x.signatures) one in
    let first = sum_by-cons (λ (x : SignerState). x.signatures) new ring in
    let second = sum_by-cons (λ (x : SignerState). x.signatures) signer ring in
    omega (arith, same, first, second)
set-given (signer ∷ ring) (suc n) old new at =
    let rest = set-given ring n old new at in
    let first = sum_by-cons (λ (x : SignerState). x.signatures) signer (slice_set ring n new) in
    let second = sum_by-cons (λ (x : SignerState). x.signatures) signer ring in
    omega (arith, rest, first, second)

one-of-all : (ring : List SignerState) (n : ℕ) (signer : SignerState) → slice_get ring n ≡ Some signer
    → signer.signatures ≤ given_by ring
one-of-all [] n signer at = absurd cc
one-of-all (first ∷ ring) zero signer at =
    let same : first.signatures ≡ signer.signatures = ap (λ (x : SignerState). x.signatures) (same_Some first signer at) in
    let sum = sum_by-cons (λ (x : SignerState). x.signatures) first ring in
    omega (arith, same, sum)
one-of-all (first ∷ ring) (suc n) signer at =
    let rest = one-of-all ring n signer at in
    let sum = sum_by-cons (λ (x : SignerState). x.signatures) first ring in
    omega (arith, rest, sum)

signer-at : (ring : List SignerState) (n : ℕ) → n < length ring
    → (signer : SignerState) × (slice_get ring n ≡ Some signer)
signer-at [] n less = absurd (omega (arith, less))
signer-at (signer ∷ ring) zero less = (signer, refl)
signer-at (signer ∷ ring) (suc n) less = signer-at ring n (omega (arith, less))

-- A call of a signer that is there.
one-call : (ring : List SignerState) (call : Call) → signer_of call < length ring
    → given_by ring + signs call < 2 ^ 64
    → (given_by (after_call ring call) ≡ given_by ring + signs call) × (length (after_call ring call) ≡ length ring)
one-call ring call there less =
    let at = signer-at ring (signer_of call) there in
    let few = one-of-all ring (signer_of call) at.0 at.1 in
    let rises = of-one call at.0 (omega (arith, few, less)) in
    let sum = set-given ring (signer_of call) at.0 (change call at.0) at.1 in
    let is : after_call ring call ≡ slice_set ring (signer_of call) (change call at.0) =
    ap (λ (o : Option SignerState).
    option_map_or (λ signer. slice_set ring (signer_of call) (change call signer)) o ring) at.1 in
    let same : given_by (after_call ring call) ≡ given_by (slice_set ring (signer_of call) (change call at.0)) =
    ap given_by is in (
      omega (arith, rises, sum, same),
      ap (λ (l : List SignerState). length l) is ∙ length-set ring (signer_of call) (change call at.0),
    )

all-calls : (ring : List SignerState) (calls : List Call) → All (IsCallOf (length ring)) calls
    → given_by ring + sum_by signs calls < 2 ^ 64
    → given_by (after_calls ring calls) ≡ given_by ring + sum_by signs calls
all-calls ring [] there less = omega arith
all-calls ring (call ∷ calls) there less =
    let sum = sum_by-cons signs call calls in
    let one = one-call ring call (All-head (IsCallOf (length ring)) call calls there) (omega (arith, sum, less)) in
    let first = one.0 in
    let rest = all-calls (after_call ring call) calls
    (subst (λ (n : ℕ). All (IsCallOf n) calls) (sym one.1) (All-tail (IsCallOf (length ring)) call calls there))
    (omega (arith, sum, first, less)) in
    omega (arith, sum, first, rest)

-- ---- the calls of a making

-- The signatures of an object that is no manifest.
abbrev first-signs : Kind → ℕ
first-signs (Certificate subject held) = 1
first-signs (Roa origin) = 2
first-signs Crl = 1
first-signs Manifest = 1

keys-sign : (keys : List KeyRow) → sum_by signs (map making keys) ≡ 0
keys-sign [] = refl
keys-sign (key ∷ keys) =
    let sum = sum_by-cons signs (making key) (map making keys) in
    let rest = keys-sign keys in
    omega (arith, sum, rest)

module _ (s : IssueInput) (trace : IssuingTrace) where
  abbrev all : List Draft
  all = all_of s trace

  abbrev first-of : Signed → Call
  first-of x = first_call s trace.keys all trace.entries x.draft x.draft.kind x.answers

  abbrev second-of : Signed → Option Call
  second-of x = second_call s trace.keys all x.draft x.draft.kind x.answers

  abbrev option-signs : Option Call → ℕ
  option-signs None = 0
  option-signs (Some call) = signs call

  one-more : (o : Option Call) (calls : List Call)
      → sum_by signs (cons_option o calls) ≡ option-signs o + sum_by signs calls
  one-more None calls = omega arith
  one-more (Some call) calls = sum_by-cons signs call calls

  one-object : (d : Draft) (kind : Kind) (a : Answers) (calls : List Call)
      → signs (first_call s trace.keys all trace.entries d kind a)
      + sum_by signs (cons_option (second_call s trace.keys all d kind a) calls)
      ≡ first-signs kind + sum_by signs calls
  one-object d (Certificate subject held) a calls =
      let more = one-more (second_call s trace.keys all d (Certificate subject held) a) calls in
      omega (arith, more)
  one-object d (Roa origin) a calls =
      let more = one-more (second_call s trace.keys all d (Roa origin) a) calls in
      omega (arith, more)
  one-object d Crl a calls =
      let more = one-more (second_call s trace.keys all d Crl a) calls in
      omega (arith, more)
  one-object d Manifest a calls =
      let more = one-more (second_call s trace.keys all d Manifest a) calls in
      omega (arith, more)

  objects-sign : (objects : List Signed)
      → sum_by signs (map first-of objects) + sum_by signs (filter_map second-of objects)
      ≡ sum_by (λ x. first-signs x.draft.kind) objects
  objects-sign [] = refl
  objects-sign (x ∷ objects) =
      let rest = objects-sign objects in
      let one = one-object x.draft x.draft.kind x.answers (filter_map second-of objects) in
      let first = sum_by-cons signs (first-of x) (map first-of objects) in
      let sum = sum_by-cons (λ (y : Signed). first-signs y.draft.kind) x objects in
      omega (arith, rest, one, first, sum)

  ones : {X : Type 0} (call : X → Call) → ((x : X) → signs (call x) ≡ 1) → (xs : List X)
      → sum_by signs (map call xs) ≡ length xs
  ones call one [] = refl
  ones call one (x ∷ xs) =
      let rest = ones call one xs in
      let sum = sum_by-cons signs (call x) (map call xs) in
      let is = one x in
      omega (arith, rest, sum, is)

  calls-sign : sum_by signs (calls_of s trace)
      ≡ sum_by (λ x. first-signs x.draft.kind) trace.objects + 2 * length trace.listed
  calls-sign =
      let made = map making trace.keys.fresh in
      let first = first_calls s trace.keys all trace.entries trace.objects in
      let second = second_calls s trace.keys all trace.objects in
      let content = content_calls s trace.files trace.listed in
      let last = last_calls s trace.keys all trace.listed in
      let a = sum_by-append signs (made ++ first ++ second ++ content) last in
      let b = sum_by-append signs (made ++ first ++ second) content in
      let c = sum_by-append signs (made ++ first) second in
      let d = sum_by-append signs made first in
      let none = keys-sign trace.keys.fresh in
      let some = objects-sign trace.objects in
      let contents : sum_by signs content ≡ length trace.listed = ones (λ (x : Signed). by_once x.draft.issuer
      (attributes s ObjectKinds.Manifest (manifest_content s trace.files x.draft.issuer)) x.answers)
      (λ x. refl) trace.listed in
      let lasts : sum_by signs last ≡ length trace.listed = ones (λ (x : Signed). by_issuer x.draft.issuer
      (certificates.signed_bytes (manifest_certificate s trace.keys all x.draft x.answers.once)) x.answers.last)
      (λ x. refl) trace.listed in
      omega (arith, a, b, c, d, none, some, contents, lasts)

-- ---- the drafts of a work

-- Each work has a draft, of which so much is told.
each-draft : {X : Type 0} (f : X → Option Draft) (told : Draft → ℕ) (k : ℕ) (xs : List X)
    → All (λ x. IsSome (f x)) xs → ((x : X) (d : Draft) → f x ≡ Some d → told d ≡ k)
    → sum_by told (filter_map f xs) ≡ sum_by (λ x. k) xs
each-draft f told k [] some is = refl
each-draft {X} f told k (x ∷ xs) some is =
    by (f x) refl (All-head (λ (y : X). IsSome (f y)) x xs some)
    (each-draft f told k xs (All-tail (λ (y : X). IsSome (f y)) x xs some) is)
  where
    by : (o : Option Draft) → f x ≡ o → IsSome o → sum_by told (filter_map f xs) ≡ sum_by (λ (y : X). k) xs
        → sum_by told (cons_option o (filter_map f xs)) ≡ sum_by (λ (y : X). k) (x ∷ xs)
    by None e some rest = absurd cc
    by (Some d) e some rest =
        let sum = sum_by-cons told d (filter_map f xs) in
        let all = sum_by-cons (λ (y : X). k) x xs in
        let one = is x d e in
        omega (arith, sum, all, one, rest)

-- So many times one and two.
ones-of : {X : Type 0} (xs : List X) → sum_by (λ (x : X). 1) xs ≡ length xs
ones-of [] = refl
ones-of {X} (x ∷ xs) =
    let rest = ones-of xs in
    let sum = sum_by-cons (λ (y : X). 1) x xs in
    omega (arith, rest, sum)

twos-of : {X : Type 0} (xs : List X) → sum_by (λ (x : X). 2) xs ≡ 2 * length xs
twos-of [] = refl
twos-of {X} (x ∷ xs) =
    let rest = twos-of xs in
    let sum = sum_by-cons (λ (y : X). 2) x xs in
    omega (arith, rest, sum)

module _ (s : IssueInput) (keys : Keys) (fits : Fits s keys) (told : Kind → ℕ) where
  abbrev of : Draft → ℕ
  of d = told d.kind

  cert-some : (i j : Option KeyRow) (make : KeyRow → KeyRow → Draft) → IsSome i → IsSome j
      → IsSome (option_and_then (λ issuer. option_map (make issuer) j) i)
  cert-some None j make first second = first
  cert-some (Some i) None make first second = second
  cert-some (Some i) (Some j) make first second = refl

  some-of : (make : KeyRow → Draft) (o : Option KeyRow) → IsSome o → IsSome (option_map make o)
  some-of make None first = first
  some-of make (Some key) first = refl

  abbrev roa-made : RoaWork → KeyRow → Draft
  roa-made roa issuer = record {
    uri = roa_uri s.site (name_at s.names issuer.desk) roa.origin;
    issuer = issuer;
    kind = Roa roa.origin;
  }

  abbrev crl-made : KeyRow → Draft
  crl-made issuer = record {
    uri = crl_uri s.site (name_at s.names issuer.desk) (id_of issuer);
    issuer = issuer;
    kind = Crl;
  }

  abbrev list-made : KeyRow → Draft
  list-made issuer = record {
    uri = manifest_uri s.site (name_at s.names issuer.desk) (id_of issuer);
    issuer = issuer;
    kind = Manifest;
  }

  certs-have : All (λ cert. IsSome (certificate_draft s keys cert)) s.work.certs
  certs-have = all-in (λ (cert : CertWork). IsSome (certificate_draft s keys cert)) s.work.certs (λ cert at.
      cert-some (key_named keys cert.issuer) (key_named keys cert.subject) (made-for s cert)
      (in-all (λ (c : CertWork). IsThere keys c.issuer) cert s.work.certs fits.issuers at)
      (in-all (λ (c : CertWork). IsThere keys c.subject) cert s.work.certs fits.subjects at))

  roas-have : All (λ roa. IsSome (roa_draft s keys roa)) s.work.roas
  roas-have = all-in (λ (roa : RoaWork). IsSome (roa_draft s keys roa)) s.work.roas (λ roa at.
      some-of (roa-made roa) (key_named keys roa.issuer)
      (in-all (λ (r : RoaWork). IsThere keys r.issuer) roa s.work.roas fits.roas at))

  crls-have : All (λ point. IsSome (crl_draft s keys point)) s.work.points
  crls-have = all-in (λ (point : PointWork). IsSome (crl_draft s keys point)) s.work.points (λ point at.
      some-of crl-made (key_named keys point.key)
      (in-all (λ (p : PointWork). IsThere keys p.key) point s.work.points fits.points at))

  lists-have : All (λ point. IsSome (manifest_draft s keys point)) s.work.points
  lists-have = all-in (λ (point : PointWork). IsSome (manifest_draft s keys point)) s.work.points (λ point at.
      some-of list-made (key_named keys point.key)
      (in-all (λ (p : PointWork). IsThere keys p.key) point s.work.points fits.points at))

  pub drafts-told : (a b c : ℕ) → ((subject : KeyRow) (held : Resources) → told (Certificate subject held) ≡ a)
      → ((origin : Origin) → told (Roa origin) ≡ b) → told Crl ≡ c
      → sum_by of (drafts s keys)
      ≡ sum_by (λ (x : CertWork). a) s.work.certs + sum_by (λ (x : RoaWork). b) s.work.roas + sum_by (λ (x : PointWork). c) s.work.points
  drafts-told a b c certificate roa crl =
      let certs = filter_map (certificate_draft s keys) s.work.certs in
      let roas = filter_map (roa_draft s keys) s.work.roas in
      let crls = filter_map (crl_draft s keys) s.work.points in
      let one = each-draft (certificate_draft s keys) of a s.work.certs certs-have
      (λ cert d is. let m = cert-draft s keys cert d is in ap of (sym m.4) ∙ certificate m.1 cert.held) in
      let two = each-draft (roa_draft s keys) of b s.work.roas roas-have
      (λ work d is. let m = mapped-draft (roa-made work) (key_named keys work.issuer) d is in ap of (sym m.2) ∙ roa work.origin) in
      let three = each-draft (crl_draft s keys) of c s.work.points crls-have
      (λ point d is. let m = mapped-draft crl-made (key_named keys point.key) d is in ap of (sym m.2) ∙ crl) in
      let outer = sum_by-append of (certs ++ roas) crls in
      let inner = sum_by-append of certs roas in
      omega (arith, one, two, three, outer, inner)

  pub lists-told : (k : ℕ) → told Manifest ≡ k → sum_by of (manifests s keys) ≡ sum_by (λ (x : PointWork). k) s.work.points
  lists-told k manifest =
      each-draft (manifest_draft s keys) of k s.work.points lists-have
      (λ point d is. let m = mapped-draft list-made (key_named keys point.key) d is in ap of (sym m.2) ∙ manifest)

-- ---- all of it

-- What is told of objects is told of their drafts.
objects-told : (told : Kind → ℕ) (xs : List Draft) (made : List Signed) → AreOrdered xs (map (λ x. x.draft) made)
    → sum_by (λ x. told x.draft.kind) made ≡ sum_by (λ d. told d.kind) xs
objects-told told xs made ordered =
    mapped made ∙ sum_by-IsPermutation (λ (d : Draft). told d.kind) xs (map (λ (x : Signed). x.draft) made) ordered.permutation
  where
    mapped : (l : List Signed) → sum_by (λ x. told x.draft.kind) l ≡ sum_by (λ d. told d.kind) (map (λ (x : Signed). x.draft) l)
    mapped [] = refl
    mapped (x ∷ l) =
        let rest = mapped l in
        let first = sum_by-cons (λ (y : Signed). told y.draft.kind) x l in
        let second = sum_by-cons (λ (d : Draft). told d.kind) x.draft (map (λ (y : Signed). y.draft) l) in
        omega (arith, rest, first, second)

module _ (s : IssueInput) (live : List KeyRow) (old new : List SignerState) (made : Made)
    (can : CanMake s live (length old)) (is : IsMade s live old new made) where
  abbrev trace : IssuingTrace
  trace = is.trace

  fits : Fits s trace.keys
  fits = can.fits trace.keys is.is_trace.keys

  pub told : made.signatures ≡ signatures_for s.work
  told =
      let sum = sum_by-append (λ (x : Signed). signatures_of x.draft.kind) trace.objects trace.listed in
      let first = objects-told signatures_of (drafts s trace.keys) trace.objects is.is_trace.objects in
      let second = objects-told signatures_of (manifests s trace.keys) trace.listed is.is_trace.listed in
      let front = drafts-told s trace.keys fits signatures_of 1 2 1 (λ subject held. refl) (λ origin. refl) refl in
      let back = lists-told s trace.keys fits signatures_of 2 refl in
      let all = is.signatures in
      let certs = ones-of s.work.certs in
      let roas = twos-of s.work.roas in
      let crls = ones-of s.work.points in
      let lists = twos-of s.work.points in
      omega (arith, sum, first, second, front, back, all, certs, roas, crls, lists)

  called : sum_by signs (calls_of s trace) ≡ signatures_for s.work
  called =
      let sum = calls-sign s trace in
      let first = objects-told first-signs (drafts s trace.keys) trace.objects is.is_trace.objects in
      let front = drafts-told s trace.keys fits first-signs 1 2 1 (λ subject held. refl) (λ origin. refl) refl in
      let second = objects-told (λ kind. 1) (manifests s trace.keys) trace.listed is.is_trace.listed in
      let back = lists-told s trace.keys fits (λ kind. 1) 1 refl in
      let many = ones-of trace.listed in
      let certs = ones-of s.work.certs in
      let roas = twos-of s.work.roas in
      let points = ones-of s.work.points in
      omega (arith, sum, first, front, second, back, many, certs, roas, points)

  pub counted : given_by old + signatures_for s.work < 2 ^ 64 → given_by new ≡ given_by old + signatures_for s.work
  counted less =
      let calls = called in
      let after = all-calls old (calls_of s trace)
      (calls-of-signers (length old) s live trace can is.is_trace) (omega (arith, less, calls)) in
      let same : given_by new ≡ given_by (after_calls old (calls_of s trace)) = ap given_by is.signers in
      omega (arith, calls, after, same)
