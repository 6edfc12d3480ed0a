-- The keys of an edition, and the calls that make it, are of signers that are there.
use Rattle.std.proofs.Common.{◌≡◌, ℕ, ◌<◌, Bool, true, false, not, cond, Option, Some, None, List, [], ◌∷◌, ◌++◌, map, filter, find, option_map, refl, sym, subst}
use Rattle.std.specs.Prelude.{All, option_and_then}
use Rattle.std.specs.List.{filter_map, cons_option}
use Rattle.std.proofs.lemmas.Option.{same_Some}
use Rattle.std.proofs.lemmas.List.Elements.{All-nil, All-cons, All-head, All-tail, All-append, All-map, All-filter, All-weaker}
use Rattle.std.proofs.lemmas.List.Sorted.{All-permutation}
use Rattle.signer_api.specs.declared.values.PublicKey.{PublicKey}
use Rattle.signer_ring.specs.Calls.{Call, signer_of}
use Rattle.key_roll.specs.declared.rows.KeyRow.{KeyRow}
use Rattle.key_roll.specs.declared.work.Work.{Work}
use Rattle.key_roll.specs.declared.work.NewKey.{NewKey}
use Rattle.key_roll.specs.declared.work.RoleWork.{RoleWork}
use Rattle.key_roll.specs.declared.work.KeyName.{KeyName}
use Rattle.key_roll.specs.declared.work.KeyName.TheVariants.{Live, Fresh}
use Rattle.key_roll.specs.declared.work.CertWork.{CertWork}
use Rattle.key_roll.specs.declared.work.RoaWork.{RoaWork}
use Rattle.key_roll.specs.declared.work.PointWork.{PointWork}
use Rattle.issue_keys.specs.Keys.{id_of, is_dropped, with_role, role_of, kept_rows, fresh_rows, AreFresh}
use Rattle.issue_keys.specs.Making.{making}
use Rattle.issue_drafts.specs.WorkKeys.{Keys, all_keys, key_named}
use Rattle.issue_drafts.specs.IssueInput.{IssueInput}
use Rattle.issue_drafts.specs.Publishers.{made_uri, name_at}
use Rattle.key_ids.specs.Uris.{crl_uri, manifest_uri}
use Rattle.issue_values.specs.Publishers.{roa_uri}
use Rattle.issue_drafts.specs.Drafts.{Draft, Kind, drafts, manifests, certificate_draft, roa_draft, crl_draft, manifest_draft, AreOrdered}
use Rattle.issue_drafts.specs.Drafts.Kind.{Certificate, Roa, Crl, Manifest}
use Rattle.issue_sign.specs.Objects.{Signed, Entries, Answers}
use Rattle.issue_sign.specs.Calls.{first_call, second_call, first_calls, second_calls, content_calls, last_calls}
use Rattle.issue_make.specs.Trace.{IssuingTrace, AreKeys, IsIssuingTrace, all_of}
use Rattle.issue_make.specs.Made.{calls_of}
use Rattle.issue_make.specs.CanMake.{CanMake}

-- ---- lists

all-filter_map : {X Y : Type 0} (f : X → Option Y) (P : Y → Type 0) (xs : List X) → ((x : X) (y : Y) → f x ≡ Some y → P y) → All P (filter_map f xs)
all-filter_map f P [] each = All-nil P
all-filter_map {X} {Y} f P (x ∷ xs) each = by (f x) refl (all-filter_map f P xs each)
  where
    by : (o : Option Y) → f x ≡ o → All P (filter_map f xs) → All P (cons_option o (filter_map f xs))
    by None e rest = rest
    by (Some y) e rest = All-cons P y (filter_map f xs) (each x y e) rest

all-kept_map : {X Y : Type 0} (f : X → Option Y) (P : X → Type 0) (Q : Y → Type 0) (xs : List X) → ((x : X) (y : Y) → P x → f x ≡ Some y → Q y) → All P xs → All Q (filter_map f xs)
all-kept_map f P Q [] each all = All-nil Q
all-kept_map {X} {Y} f P Q (x ∷ xs) each all = by (f x) refl (all-kept_map f P Q xs each (All-tail P x xs all))
  where
    by : (o : Option Y) → f x ≡ o → All Q (filter_map f xs) → All Q (cons_option o (filter_map f xs))
    by None e rest = rest
    by (Some y) e rest = All-cons Q y (filter_map f xs) (each x y (All-head P x xs all) e) rest

all-from_map : {X Y : Type 0} (P : Y → Type 0) (f : X → Y) (xs : List X) → All P (map f xs) → All (λ x. P (f x)) xs
all-from_map P f [] all = All-nil (λ x. P (f x))
all-from_map P f (x ∷ xs) all =
    All-cons (λ y. P (f y)) x xs (All-head P (f x) (map f xs) all) (all-from_map P f xs (All-tail P (f x) (map f xs) all))

found : {X : Type 0} (p : X → Bool) (P : X → Type 0) (xs : List X) (x : X) → All P xs → find p xs ≡ Some x → P x
found p P [] x all e = absurd cc
found {X} p P (y ∷ xs) x all e = by (p y) (found p P xs x (All-tail P y xs all)) e
  where
    by : (b : Bool) → (find p xs ≡ Some x → P x) → cond b (Some y) (find p xs) ≡ Some x → P x
    by true rest e = subst P (same_Some y x e) (All-head P y xs all)
    by false rest e = rest e

-- ---- keys

abbrev IsOf : ℕ → KeyRow → Type 0
IsOf n key = key.signer < n

with-role-of : (n : ℕ) (row : KeyRow) (role : Option RoleWork) → IsOf n row → IsOf n (with_role row role)
with-role-of n row None is = is
with-role-of n row (Some r) is = is

kept-of : (n : ℕ) (work : Work) (rows : List KeyRow) → All (IsOf n) rows → All (IsOf n) (kept_rows work rows)
kept-of n work rows all =
    let step : KeyRow → KeyRow = λ row. with_role row (role_of work.roles row) in
    All-map (IsOf n) step (filter (λ row. not (is_dropped work.dropped row)) rows)
    (All-weaker (IsOf n) (λ row. IsOf n (step row)) (λ row is. with-role-of n row (role_of work.roles row) is) (filter (λ row. not (is_dropped work.dropped row)) rows)
    (All-filter (λ row. not (is_dropped work.dropped row)) (IsOf n) rows all))

fresh-of : (n : ℕ) (news : List NewKey) (keys : List PublicKey) → All (λ new. new.signer < n) news → All (IsOf n) (fresh_rows news keys)
fresh-of n [] keys all = All-nil (IsOf n)
fresh-of n (new ∷ news) [] all = All-nil (IsOf n)
fresh-of n (new ∷ news) (key ∷ keys) all =
    All-cons (IsOf n) _ (fresh_rows news keys) (All-head (λ (k : NewKey). k.signer < n) new news all) (fresh-of n news keys (All-tail (λ (k : NewKey). k.signer < n) new news all))

new-of : (n : ℕ) (new_keys : List NewKey) (fresh : List KeyRow) → AreFresh new_keys fresh → All (λ new. new.signer < n) new_keys → All (IsOf n) fresh
new-of n new_keys fresh are all =
    subst (All (IsOf n)) (sym are.rows) (fresh-of n are.news are.keys (All-permutation (λ (k : NewKey). k.signer < n) new_keys are.news are.by_desk.permutation all))

keys-of : (n : ℕ) (s : IssueInput) (live : List KeyRow) (keys : Keys) → CanMake s live n → AreKeys s live keys → All (IsOf n) keys.fresh × All (IsOf n) (all_keys keys)
keys-of n s live keys work are =
    let fresh = new-of n s.work.new_keys keys.fresh are.fresh work.new_signers in
    (fresh, All-append (IsOf n) keys.kept keys.fresh (subst (All (IsOf n)) (sym are.kept) (kept-of n s.work live work.live_signers)) fresh)

named-of : (n : ℕ) (keys : Keys) (name : KeyName) (key : KeyRow) → All (IsOf n) keys.fresh → All (IsOf n) (all_keys keys) → key_named keys name ≡ Some key → IsOf n key
named-of n keys (Live id) key fresh all e = found _ (IsOf n) (all_keys keys) key all e
named-of n keys (Fresh desk) key fresh all e = found _ (IsOf n) keys.fresh key fresh e

-- ---- drafts

abbrev IsBy : ℕ → Draft → Type 0
IsBy n d = IsOf n d.issuer

certificate-by : (n : ℕ) (s : IssueInput) (keys : Keys) → All (IsOf n) keys.fresh → All (IsOf n) (all_keys keys) → (cert : CertWork) (d : Draft) → certificate_draft s keys cert ≡ Some d → IsBy n d
certificate-by n s keys fresh all cert d e = by (key_named keys cert.issuer) refl (key_named keys cert.subject) e
  where
    by : (i : Option KeyRow) → key_named keys cert.issuer ≡ i → (j : Option KeyRow)
        → option_and_then (λ issuer. option_map (λ subject. record {
          uri = made_uri s.site s.names issuer subject;
          issuer = issuer;
          kind = Certificate subject cert.held;
        }) j) i ≡ Some d → IsBy n d
    by None is j e = absurd cc
    by (Some issuer) is None e = absurd cc
    by (Some issuer) is (Some subject) e = subst (IsBy n) (same_Some _ d e) (named-of n keys cert.issuer issuer fresh all is)

roa-by : (n : ℕ) (s : IssueInput) (keys : Keys) → All (IsOf n) keys.fresh → All (IsOf n) (all_keys keys) → (roa : RoaWork) (d : Draft) → roa_draft s keys roa ≡ Some d → IsBy n d
roa-by n s keys fresh all roa d e = by (key_named keys roa.issuer) refl e
  where
    by : (i : Option KeyRow) → key_named keys roa.issuer ≡ i
        → option_map (λ issuer. record {
          uri = roa_uri s.site (name_at s.names issuer.desk) roa.origin;
          issuer = issuer;
          kind = Roa roa.origin;
        }) i ≡ Some d → IsBy n d
    by None is e = absurd cc
    by (Some issuer) is e = subst (IsBy n) (same_Some _ d e) (named-of n keys roa.issuer issuer fresh all is)

crl-by : (n : ℕ) (s : IssueInput) (keys : Keys) → All (IsOf n) keys.fresh → All (IsOf n) (all_keys keys) → (point : PointWork) (d : Draft) → crl_draft s keys point ≡ Some d → IsBy n d
crl-by n s keys fresh all point d e = by (key_named keys point.key) refl e
  where
    by : (i : Option KeyRow) → key_named keys point.key ≡ i
        → option_map (λ issuer. record {
          uri = crl_uri s.site (name_at s.names issuer.desk) (id_of issuer);
          issuer = issuer;
          kind = Crl;
        }) i ≡ Some d → IsBy n d
    by None is e = absurd cc
    by (Some issuer) is e = subst (IsBy n) (same_Some _ d e) (named-of n keys point.key issuer fresh all is)

manifest-by : (n : ℕ) (s : IssueInput) (keys : Keys) → All (IsOf n) keys.fresh → All (IsOf n) (all_keys keys) → (point : PointWork) (d : Draft) → manifest_draft s keys point ≡ Some d → IsBy n d
manifest-by n s keys fresh all point d e = by (key_named keys point.key) refl e
  where
    by : (i : Option KeyRow) → key_named keys point.key ≡ i
        → option_map (λ issuer. record {
          uri = manifest_uri s.site (name_at s.names issuer.desk) (id_of issuer);
          issuer = issuer;
          kind = Manifest;
        }) i ≡ Some d → IsBy n d
    by None is e = absurd cc
    by (Some issuer) is e = subst (IsBy n) (same_Some _ d e) (named-of n keys point.key issuer fresh all is)

drafts-by : (n : ℕ) (s : IssueInput) (keys : Keys) → All (IsOf n) keys.fresh → All (IsOf n) (all_keys keys) → All (IsBy n) (drafts s keys)
drafts-by n s keys fresh all =
    let certs = filter_map (certificate_draft s keys) s.work.certs in
    let roas = filter_map (roa_draft s keys) s.work.roas in
    let crls = filter_map (crl_draft s keys) s.work.points in
    All-append (IsBy n) (certs ++ roas) crls
    (All-append (IsBy n) certs roas
    (all-filter_map (certificate_draft s keys) (IsBy n) s.work.certs (certificate-by n s keys fresh all))
    (all-filter_map (roa_draft s keys) (IsBy n) s.work.roas (roa-by n s keys fresh all)))
    (all-filter_map (crl_draft s keys) (IsBy n) s.work.points (crl-by n s keys fresh all))

manifests-by : (n : ℕ) (s : IssueInput) (keys : Keys) → All (IsOf n) keys.fresh → All (IsOf n) (all_keys keys) → All (IsBy n) (manifests s keys)
manifests-by n s keys fresh all = all-filter_map (manifest_draft s keys) (IsBy n) s.work.points (manifest-by n s keys fresh all)

signed-by : (n : ℕ) (drafts : List Draft) (made : List Signed) → AreOrdered drafts (map (λ x. x.draft) made) → All (IsBy n) drafts → All (λ x. IsBy n x.draft) made
signed-by n drafts made ordered all =
    all-from_map (IsBy n) (λ (x : Signed). x.draft) made (All-permutation (IsBy n) drafts (map (λ x. x.draft) made) ordered.permutation all)

-- ---- calls

abbrev pub IsCallOf : ℕ → Call → Type 0
IsCallOf n call = signer_of call < n

first-of : (n : ℕ) (s : IssueInput) (keys : Keys) (all : List Draft) (entries : Entries) (d : Draft) (kind : Kind) (a : Answers) → IsBy n d → IsCallOf n (first_call s keys all entries d kind a)
first-of n s keys all entries d (Certificate subject held) a is = is
first-of n s keys all entries d (Roa origin) a is = is
first-of n s keys all entries d Crl a is = is
first-of n s keys all entries d Manifest a is = is

second-of : (n : ℕ) (s : IssueInput) (keys : Keys) (all : List Draft) (d : Draft) (kind : Kind) (a : Answers) (call : Call) → IsBy n d → second_call s keys all d kind a ≡ Some call → IsCallOf n call
second-of n s keys all d (Certificate subject held) a call is e = absurd cc
second-of n s keys all d (Roa origin) a call is e = subst (IsCallOf n) (same_Some _ call e) is
second-of n s keys all d Crl a call is e = absurd cc
second-of n s keys all d Manifest a call is e = absurd cc

-- Each call of a making is of one of so many signers.
pub calls-of-signers : (n : ℕ) (s : IssueInput) (live : List KeyRow) (trace : IssuingTrace) → CanMake s live n → IsIssuingTrace s live trace → All (IsCallOf n) (calls_of s trace)
calls-of-signers n s live trace work is =
    let are = keys-of n s live trace.keys work is.keys in
    let objects = signed-by n (all_of s trace) trace.objects is.objects (drafts-by n s trace.keys are.0 are.1) in
    let listed = signed-by n (manifests s trace.keys) trace.listed is.listed (manifests-by n s trace.keys are.0 are.1) in
    let made = map making trace.keys.fresh in
    let first = first_calls s trace.keys (all_of s trace) trace.entries trace.objects in
    let second = second_calls s trace.keys (all_of s trace) trace.objects in
    let content = content_calls s trace.files trace.listed in
    let last = last_calls s trace.keys (all_of s trace) trace.listed in
    All-append (IsCallOf n) (made ++ first ++ second ++ content) last
    (All-append (IsCallOf n) (made ++ first ++ second) content
    (All-append (IsCallOf n) (made ++ first) second
    (All-append (IsCallOf n) made first (All-map (IsCallOf n) making trace.keys.fresh are.0)
    (All-map (IsCallOf n) (λ (x : Signed). first_call s trace.keys (all_of s trace) trace.entries x.draft x.draft.kind x.answers) trace.objects
    (All-weaker (λ (x : Signed). IsBy n x.draft) (λ (x : Signed). IsCallOf n (first_call s trace.keys (all_of s trace) trace.entries x.draft x.draft.kind x.answers))
    (λ x by. first-of n s trace.keys (all_of s trace) trace.entries x.draft x.draft.kind x.answers by) trace.objects objects)))
    (all-kept_map (λ (x : Signed). second_call s trace.keys (all_of s trace) x.draft x.draft.kind x.answers) (λ (x : Signed). IsBy n x.draft) (IsCallOf n) trace.objects
    (λ x call by e. second-of n s trace.keys (all_of s trace) x.draft x.draft.kind x.answers call by e) objects))
    (All-map (IsCallOf n) _ trace.listed listed))
    (All-map (IsCallOf n) _ trace.listed listed)
