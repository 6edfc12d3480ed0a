-- The trust anchor's work can be made, whichever key is made for it.
use Rattle.std.specs.Prelude.{codes}
use Rattle.std.proofs.Common.{◌≡◌, ◌≢◌, ℕ, ◌+◌, ◌-◌, ◌<◌, ◌^◌, suc, lit<, Bool, true, false, cond, Option, None, Some, List, [], ◌∷◌, ◌++◌, length, get_or, map, refl, sym, ap, subst, ◌∙◌, arith}
use Rattle.std.specs.List.{All, AllPairs, filter_map}
use Rattle.std.specs.List.Sorted.{IsStrictlySortedBy}
use Rattle.std.proofs.lemmas.List.{length-append, get_or-append-add}
use Rattle.std.proofs.lemmas.List.Elements.{All-nil, All-cons, All-append, All-map}
use Rattle.std.proofs.lemmas.List.Kept.{AllPairs-cons}
use Rattle.std.proofs.lemmas.List.Sorted.{All-permutation, length_permutation}
use Rattle.hex.specs.Hex.{encode_lower}
use Rattle.origins.specs.declared.Origin.{Origin}
use Rattle.origins.specs.Origin.{origin_text}
use Rattle.res_sets.specs.declared.holdings.Resources.{Resources}
use Rattle.signer_api.specs.declared.values.PublicKey.{PublicKey}
use Rattle.key_ids.specs.Uris.{Bases, anchor_uri, folder_of, cert_uri, crl_uri, manifest_uri}
use Rattle.authority_book.specs.declared.rows.NameRow.{NameRow}
use Rattle.names.specs.Name.{IsName}
use Rattle.pub_set.specs.Objects.{Rise}
use Rattle.key_roll.specs.declared.rows.KeyRow.{KeyRow}
use Rattle.key_roll.specs.declared.issued.IssuedRow.{IssuedRow}
use Rattle.key_roll.specs.declared.work.CertWork.{CertWork}
use Rattle.key_roll.specs.declared.work.NewKey.{NewKey}
use Rattle.key_roll.specs.declared.work.PointWork.{PointWork}
use Rattle.issue_values.specs.Certificates.{IsEditionMoment}
use Rattle.issue_values.specs.Bodies.{AreRevoked}
use Rattle.issue_values.specs.Publishers.{roa_uri}
use Rattle.issue_keys.specs.Keys.{id_of, kept_rows, fresh_row, fresh_rows, AreFresh}
use Rattle.issue_drafts.specs.WorkKeys.{Keys}
use Rattle.issue_drafts.specs.IssueInput.{IssueInput}
use Rattle.issue_drafts.specs.Publishers.{is_key, name_at, made_uri}
use Rattle.issue_drafts.specs.Drafts.{Draft, roa_draft}
use Rattle.issue_drafts.specs.Drafts.Kind.{Certificate, Roa, Crl, Manifest}
use Rattle.issue_make.specs.CanMake.{IsThere, IsCertified, AreListable, Fits, CanMake}
use Rattle.test_press.specs.Anchor.{anchor_name, anchor_key, anchor_work, roa_under, unused_row, unused_rows}

-- ---- the key that is made

one-fresh : (fresh : List KeyRow) → AreFresh (anchor_key ∷ []) fresh → (key : PublicKey) × (fresh ≡ fresh_row anchor_key key ∷ [])
one-fresh fresh are =
    by are.news are.keys (length_permutation (anchor_key ∷ []) are.news are.by_desk.permutation) are.each
    (All-permutation (λ (n : NewKey). n ≡ anchor_key) (anchor_key ∷ []) are.news are.by_desk.permutation
    (All-cons (λ (n : NewKey). n ≡ anchor_key) anchor_key [] refl (All-nil (λ (n : NewKey). n ≡ anchor_key)))) are.rows
  where
    by : (news : List NewKey) (keys : List PublicKey) → length news ≡ 1 → length keys ≡ length news
        → All (λ (n : NewKey). n ≡ anchor_key) news → fresh ≡ fresh_rows news keys
        → (key : PublicKey) × (fresh ≡ fresh_row anchor_key key ∷ [])
    by [] keys long each all rows = absurd (omega arith)
    by (n ∷ []) [] long each all rows = absurd (omega arith)
    by (n ∷ []) (k ∷ []) long each all rows =
        (k, rows ∙ ap (λ (m : NewKey). fresh_row m k ∷ []) (all 0 n (omega arith)))
    by (n ∷ []) (k ∷ l ∷ keys) long each all rows = absurd (omega arith)
    by (n ∷ m ∷ news) keys long each all rows = absurd (omega arith)

-- ---- the last bytes of URIs

last : List ℕ → ℕ
last uri = get_or uri (length uri - 1) 0

last-behind : (xs ys : List ℕ) → 0 < length ys → last (xs ++ ys) ≡ last ys
unfolding last
last-behind xs ys some =
    let long : length (xs ++ ys) ≡ length xs + length ys = length-append xs ys in
    let place : length (xs ++ ys) - 1 ≡ length xs + (length ys - 1) = omega (arith, long, some) in
    ap (λ (n : ℕ). get_or (xs ++ ys) n 0) place ∙ get_or-append-add xs ys (length ys - 1) 0

-- A file of a folder ends as its name does.
last-file : (folder stem ending : List ℕ) → 0 < length ending → last (folder ++ (stem ++ ending)) ≡ last ending
last-file folder stem ending some =
    let long = length-append stem ending in
    last-behind folder (stem ++ ending) (omega (arith, long, some)) ∙ last-behind stem ending some

ends-cer : (site : Bases) (names : List NameRow) (row : KeyRow) → last (made_uri site names row row) ≡ 114
unfolding last
ends-cer site names row = by (is_key row row)
  where
    by : (b : Bool) → last (cond b (anchor_uri site) (cert_uri site (name_at names row.desk) (id_of row))) ≡ 114
    by true = last-behind site.rsync (codes "ta.cer") (omega arith)
    by false = last-file (folder_of site (name_at names row.desk)) (encode_lower (id_of row)) (codes ".cer") (omega arith)

ends-roa : (site : Bases) (name : List ℕ) (origin : Origin) → last (roa_uri site name origin) ≡ 97
unfolding last
ends-roa site name origin = last-file (folder_of site name) (encode_lower (origin_text origin)) (codes ".roa") (omega arith)

ends-crl : (site : Bases) (name key : List ℕ) → last (crl_uri site name key) ≡ 108
unfolding last
ends-crl site name key = last-file (folder_of site name) (encode_lower key) (codes ".crl") (omega arith)

ends-mft : (site : Bases) (name key : List ℕ) → last (manifest_uri site name key) ≡ 116
unfolding last
ends-mft site name key = last-file (folder_of site name) (encode_lower key) (codes ".mft") (omega arith)

other-end : (a b : List ℕ) (m n : ℕ) → last a ≡ m → last b ≡ n → m ≢ n → a ≢ b
other-end a b m n first second apart same = apart (sym first ∙ (ap last same ∙ second))

-- ---- all URIs are apart

pairs-behind : {X : Type 0} (R : X → X → Type 0) (xs ys : List X) → AllPairs R xs → All (λ x. All (R x) ys) xs → AllPairs R ys
    → AllPairs R (xs ++ ys)
pairs-behind R [] ys first between second = second
pairs-behind R (x ∷ xs) ys first between second =
    AllPairs-cons R x (xs ++ ys)
    (All-append (R x) xs ys (λ k d lt. first 0 (suc k) d (omega arith) (omega arith)) (between 0 x (omega arith)))
    (pairs-behind R xs ys (λ i j d low high. first (suc i) (suc j) d (omega arith) (omega arith))
    (λ k d lt. between (suc k) d (omega arith)) second)

abbrev Apart : List (List ℕ) → Type 0
Apart uris = AllPairs (λ a b. a ≢ b) uris

all-apart : (cer crl mft : List ℕ) (roas : List (List ℕ)) → last cer ≡ 114 → last crl ≡ 108 → last mft ≡ 116
    → All (λ u. last u ≡ 97) roas → Apart roas → Apart (cer ∷ (roas ++ crl ∷ mft ∷ []))
all-apart cer crl mft roas c l m each apart =
    AllPairs-cons (λ a b. a ≢ b) cer (roas ++ crl ∷ mft ∷ [])
    (All-append (λ b. cer ≢ b) roas (crl ∷ mft ∷ [])
    (λ k d lt. other-end cer (get_or roas k d) 114 97 c (each k d lt) (λ e. absurd (omega arith)))
    (All-cons (λ b. cer ≢ b) crl (mft ∷ []) (other-end cer crl 114 108 c l (λ e. absurd (omega arith)))
    (All-cons (λ b. cer ≢ b) mft [] (other-end cer mft 114 116 c m (λ e. absurd (omega arith))) (All-nil (λ b. cer ≢ b)))))
    (pairs-behind (λ a b. a ≢ b) roas (crl ∷ mft ∷ []) apart
    (λ k d lt. All-cons (λ b. get_or roas k d ≢ b) crl (mft ∷ [])
    (other-end (get_or roas k d) crl 97 108 (each k d lt) l (λ e. absurd (omega arith)))
    (All-cons (λ b. get_or roas k d ≢ b) mft []
    (other-end (get_or roas k d) mft 97 116 (each k d lt) m (λ e. absurd (omega arith))) (All-nil (λ b. get_or roas k d ≢ b))))
    (AllPairs-cons (λ a b. a ≢ b) crl (mft ∷ [])
    (All-cons (λ b. crl ≢ b) mft [] (other-end crl mft 108 116 l m (λ e. absurd (omega arith))) (All-nil (λ b. crl ≢ b)))
    (λ i j d low high. absurd (omega arith))))

-- ---- what is put

abbrev input : ℕ → Resources → List Origin → List NameRow → Bases → IssueInput
input moment held origins names site =
    record { work = anchor_work moment held origins; names = names; issued = []; site = site }

abbrev keys_with : List KeyRow → PublicKey → Keys
keys_with kept key = record { kept = kept; fresh = fresh_row anchor_key key ∷ [] }

-- The drafts of ROAs, and the two behind them.
roas-are : (s : IssueInput) (kept : List KeyRow) (key : PublicKey) (crl mft : Draft) (origins : List Origin)
    → map (λ (d : Draft). d.uri) ((filter_map (roa_draft s (keys_with kept key)) (map roa_under origins) ++ crl ∷ []) ++ mft ∷ []) ++ []
    ≡ map (roa_uri s.site (name_at s.names 0)) origins ++ crl.uri ∷ mft.uri ∷ []
roas-are s kept key crl mft [] = refl
roas-are s kept key crl mft (origin ∷ origins) =
    ap (λ (l : List (List ℕ)). roa_uri s.site (name_at s.names 0) origin ∷ l) (roas-are s kept key crl mft origins)

all-roas : (P : Draft → Type 0) (s : IssueInput) (kept : List KeyRow) (key : PublicKey) (origins : List Origin)
    → ((origin : Origin) → P (record { uri = roa_uri s.site (name_at s.names 0) origin; issuer = fresh_row anchor_key key; kind = Roa origin }))
    → All P (filter_map (roa_draft s (keys_with kept key)) (map roa_under origins))
all-roas P s kept key [] each = All-nil P
all-roas P s kept key (origin ∷ origins) each =
    All-cons P _ (filter_map (roa_draft s (keys_with kept key)) (map roa_under origins)) (each origin)
    (all-roas P s kept key origins each)

fits-one : (moment : ℕ) (held : Resources) (origins : List Origin) (names : List NameRow) (site : Bases) (kept : List KeyRow) (key : PublicKey)
    → Apart (map (roa_uri site (name_at names 0)) origins)
    → Fits (input moment held origins names site) (keys_with kept key)
fits-one moment held origins names site kept key apart =
    let s = input moment held origins names site in
    let keys = keys_with kept key in
    let row = fresh_row anchor_key key in
    let name = name_at names 0 in
    let cer : Draft = record { uri = made_uri site names row row; issuer = row; kind = Certificate row held } in
    let crl : Draft = record { uri = crl_uri site name (id_of row); issuer = row; kind = Crl } in
    let mft : Draft = record { uri = manifest_uri site name (id_of row); issuer = row; kind = Manifest } in
    let roas : List Draft = filter_map (roa_draft s keys) (map roa_under origins) in
    let certified : IsCertified s keys row = λ other. absurd (other refl) in
    let none-kept : AreListable s keys row = λ k d lt. absurd (omega arith) in
    let cert : CertWork = record { subject = anchor_name; issuer = anchor_name; held = held } in
    let point : PointWork = record { key = anchor_name } in
    record {
      subjects = All-cons (λ (c : CertWork). IsThere keys c.subject) cert [] refl (All-nil (λ (c : CertWork). IsThere keys c.subject));
      issuers = All-cons (λ (c : CertWork). IsThere keys c.issuer) cert [] refl (All-nil (λ (c : CertWork). IsThere keys c.issuer));
      roas = All-map (λ roa. IsThere keys roa.issuer) roa_under origins (λ k d lt. refl);
      points = All-cons (λ (p : PointWork). IsThere keys p.key) point [] refl (All-nil (λ (p : PointWork). IsThere keys p.key));
      certified = All-append (λ (d : Draft). IsCertified s keys d.issuer) (cer ∷ (roas ++ crl ∷ [])) (mft ∷ [])
          (All-cons (λ (d : Draft). IsCertified s keys d.issuer) cer (roas ++ crl ∷ []) certified
          (All-append (λ (d : Draft). IsCertified s keys d.issuer) roas (crl ∷ [])
          (all-roas (λ (d : Draft). IsCertified s keys d.issuer) s kept key origins (λ origin. certified))
          (All-cons (λ (d : Draft). IsCertified s keys d.issuer) crl [] certified (All-nil (λ (d : Draft). IsCertified s keys d.issuer)))))
          (All-cons (λ (d : Draft). IsCertified s keys d.issuer) mft [] certified (All-nil (λ (d : Draft). IsCertified s keys d.issuer)));
      once = subst Apart (ap (λ (l : List (List ℕ)). cer.uri ∷ l) (sym (roas-are s kept key crl mft origins)))
          (all-apart cer.uri crl.uri mft.uri (map (roa_uri site name) origins) (ends-cer site names row)
          (ends-crl site name (id_of row)) (ends-mft site name (id_of row))
          (All-map (λ u. last u ≡ 97) (roa_uri site name) origins (λ k d lt. ends-roa site name (get_or origins k d))) apart);
      kept = All-cons (λ (d : Draft). AreListable s keys d.issuer) mft [] none-kept (All-nil (λ (d : Draft). AreListable s keys d.issuer));
    }

-- ---- the work can be made

unused-all : (P : KeyRow → Type 0) (live : Option PublicKey) → ((key : PublicKey) → P (unused_row key)) → All P (unused_rows live)
unused-all P None each = All-nil P
unused-all P (Some key) each = All-cons P (unused_row key) [] (each key) (All-nil P)

unused-pairs : (R : KeyRow → KeyRow → Type 0) (live : Option PublicKey) → AllPairs R (unused_rows live)
unused-pairs R None = λ i j d low high. absurd (omega arith)
unused-pairs R (Some key) = λ i j d low high. absurd (omega arith)

desks-in : (moment : ℕ) (held : Resources) (origins : List Origin) (names : List NameRow) (live : Option PublicKey) → 0 < length names
    → All (λ row. row.desk < length names) (kept_rows (anchor_work moment held origins) (unused_rows live))
desks-in moment held origins names None some = All-nil _
desks-in moment held origins names (Some key) some =
    All-cons (λ (row : KeyRow). row.desk < length names) (unused_row key) [] some (All-nil (λ (row : KeyRow). row.desk < length names))

none-rise : Rise (λ (row : IssuedRow). row.uri) []
unfolding IsStrictlySortedBy
none-rise = tt

pub anchor-is-work : (moment : ℕ) (held : Resources) (origins : List Origin) (names : List NameRow) (site : Bases)
    (live : Option PublicKey) (signers : ℕ) → IsEditionMoment moment → 0 < length names → All (λ row. IsName row.name) names → 0 < signers
    → AllPairs (λ a b. a ≢ b) (map (roa_uri site (name_at names 0)) origins)
    → CanMake (input moment held origins names site) (unused_rows live) signers
anchor-is-work moment held origins names site live signers at named plain there apart = record {
  moment = at;
  new_signers = All-cons (λ (new : NewKey). new.signer < signers) anchor_key [] there (All-nil (λ (new : NewKey). new.signer < signers));
  live_signers = unused-all (λ row. row.signer < signers) live (λ key. there);
  new_desks = All-cons (λ (new : NewKey). new.desk < length names) anchor_key [] named (All-nil (λ (new : NewKey). new.desk < length names));
  desks = desks-in moment held origins names live named;
  plain = plain;
  apart = unused-pairs (λ a b. id_of a ≢ id_of b) live;
  serials = unused-all (λ row. row.next_serial < 2 ^ 62) live (λ key. lit< tt);
  numbers = unused-all (λ row. row.number < 2 ^ 62) live (λ key. lit< tt);
  revoked = unused-all (λ row. AreRevoked moment row.revoked) live (λ key. record { rising = refl; dated = tt });
  standing = none-rise;
  withdrawn = All-nil _;
  fits = λ keys are.
      let made = one-fresh keys.fresh are.fresh in
      subst (λ (l : List KeyRow). Fits (input moment held origins names site) (record { kept = keys.kept; fresh = l })) (sym made.1)
      (fits-one moment held origins names site keys.kept made.0 apart);
}
