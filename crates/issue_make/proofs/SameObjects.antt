-- The objects of two makings over the same keys whose signers gave the same signatures.
use Rattle.std.proofs.Common.{◌≡◌, ℕ, false, Option, None, Some, List, [], ◌∷◌, map, refl, sym, ap, subst, ◌∙◌}
use Rattle.std.specs.List.{All, filter_map, cons_option}
use Rattle.std.proofs.lemmas.List.Elements.{All-head, All-tail}
use Rattle.signer_ring.specs.Calls.{Call, signer_of}
use Rattle.cert_obj.specs.Formats as certificates
use Rattle.crl_obj.specs.Formats as crls
use Rattle.cms_obj.specs.declared.values.ObjectKind.TheVariants as ObjectKinds
use Rattle.payloads.specs.ManifestFormats.{manifest}
use Rattle.issue_values.specs.Bodies.{crl_value_of, manifest_value_of}
use Rattle.key_roll.specs.declared.rows.RevokedRow.{RevokedRow}
use Rattle.issue_keys.specs.Keys.{id_of}
use Rattle.issue_drafts.specs.WorkKeys.{Keys}
use Rattle.issue_drafts.specs.IssueInput.{IssueInput}
use Rattle.issue_drafts.specs.Drafts.{Draft, Kind, is_manifest}
use Rattle.issue_drafts.specs.Drafts.Kind.{Certificate, Roa, Crl, Manifest}
use Rattle.issue_sign.specs.Signed.{framed, object_bytes}
use Rattle.issue_sign.specs.Objects.{Answers, Signed, Entries, Files, bytes_by, bytes_of, manifest_bytes}
use Rattle.issue_sign.specs.Objects.{certificate, roa_content, roa_certificate, manifest_certificate, number_of}
use Rattle.issue_sign.specs.Calls.{first_call, second_call, first_calls, second_calls, content_calls, last_calls}
use Rattle.issue_make.specs.Answers.{answer_of, answers_to}
use Rattle.issue_make.proofs.OneOrder.{same-head, same-tail, same-cons}

abbrev pub drafts_of : List Signed → List Draft
drafts_of xs = map (λ x. x.draft) xs

-- ---- the signers that are asked

first-signer : (s : IssueInput) (keys : Keys) (all : List Draft) (entries : Entries) (d : Draft) (k : Kind) (a : Answers)
    → signer_of (first_call s keys all entries d k a) ≡ d.issuer.signer
first-signer s keys all entries d (Certificate subject held) a = refl
first-signer s keys all entries d (Roa origin) a = refl
first-signer s keys all entries d Crl a = refl
first-signer s keys all entries d Manifest a = refl

firsts-by : (s : IssueInput) (keys : Keys) (all : List Draft) (entries : Entries) (xs : List Signed)
    → map signer_of (first_calls s keys all entries xs) ≡ map (λ d. d.issuer.signer) (drafts_of xs)
firsts-by s keys all entries [] = refl
firsts-by s keys all entries (x ∷ xs) =
    same-cons (signer_of (first_call s keys all entries x.draft x.draft.kind x.answers)) x.draft.issuer.signer
    (map signer_of (first_calls s keys all entries xs)) (map (λ (d : Draft). d.issuer.signer) (drafts_of xs))
    (first-signer s keys all entries x.draft x.draft.kind x.answers) (firsts-by s keys all entries xs)

abbrev second_signer : Draft → Kind → Option ℕ
second_signer d (Certificate subject held) = None
second_signer d (Roa origin) = Some d.issuer.signer
second_signer d Crl = None
second_signer d Manifest = None

second-by : (s : IssueInput) (keys : Keys) (all : List Draft) (d : Draft) (k : Kind) (a : Answers) (calls : List Call) (rest : List ℕ)
    → map signer_of calls ≡ rest
    → map signer_of (cons_option (second_call s keys all d k a) calls) ≡ cons_option (second_signer d k) rest
second-by s keys all d (Certificate subject held) a calls rest e = e
second-by s keys all d (Roa origin) a calls rest e = ap (λ (l : List ℕ). d.issuer.signer ∷ l) e
second-by s keys all d Crl a calls rest e = e
second-by s keys all d Manifest a calls rest e = e

seconds-by : (s : IssueInput) (keys : Keys) (all : List Draft) (xs : List Signed)
    → map signer_of (second_calls s keys all xs) ≡ filter_map (λ d. second_signer d d.kind) (drafts_of xs)
seconds-by s keys all [] = refl
seconds-by s keys all (x ∷ xs) =
    second-by s keys all x.draft x.draft.kind x.answers (second_calls s keys all xs)
    (filter_map (λ (d : Draft). second_signer d d.kind) (drafts_of xs)) (seconds-by s keys all xs)

contents-by : (s : IssueInput) (files : Files) (xs : List Signed)
    → map signer_of (content_calls s files xs) ≡ map (λ d. d.issuer.signer) (drafts_of xs)
contents-by s files [] = refl
contents-by s files (x ∷ xs) = ap (λ (l : List ℕ). x.draft.issuer.signer ∷ l) (contents-by s files xs)

lasts-by : (s : IssueInput) (keys : Keys) (all : List Draft) (xs : List Signed)
    → map signer_of (last_calls s keys all xs) ≡ map (λ d. d.issuer.signer) (drafts_of xs)
lasts-by s keys all [] = refl
lasts-by s keys all (x ∷ xs) = ap (λ (l : List ℕ). x.draft.issuer.signer ∷ l) (lasts-by s keys all xs)

-- Two ways of the same drafts ask the same signers.
pub firsts-on : (s : IssueInput) (keys : Keys) (all : List Draft) (entries others : Entries) (xs ys : List Signed)
    → drafts_of xs ≡ drafts_of ys
    → map signer_of (first_calls s keys all entries xs) ≡ map signer_of (first_calls s keys all others ys)
firsts-on s keys all entries others xs ys e =
    firsts-by s keys all entries xs
    ∙ (ap (map (λ (d : Draft). d.issuer.signer)) e ∙ sym (firsts-by s keys all others ys))

pub seconds-on : (s : IssueInput) (keys : Keys) (all : List Draft) (xs ys : List Signed) → drafts_of xs ≡ drafts_of ys
    → map signer_of (second_calls s keys all xs) ≡ map signer_of (second_calls s keys all ys)
seconds-on s keys all xs ys e =
    seconds-by s keys all xs
    ∙ (ap (filter_map (λ (d : Draft). second_signer d d.kind)) e ∙ sym (seconds-by s keys all ys))

pub contents-on : (s : IssueInput) (files others : Files) (xs ys : List Signed) → drafts_of xs ≡ drafts_of ys
    → map signer_of (content_calls s files xs) ≡ map signer_of (content_calls s others ys)
contents-on s files others xs ys e =
    contents-by s files xs
    ∙ (ap (map (λ (d : Draft). d.issuer.signer)) e ∙ sym (contents-by s others ys))

pub lasts-on : (s : IssueInput) (keys : Keys) (all : List Draft) (xs ys : List Signed) → drafts_of xs ≡ drafts_of ys
    → map signer_of (last_calls s keys all xs) ≡ map signer_of (last_calls s keys all ys)
lasts-on s keys all xs ys e =
    lasts-by s keys all xs
    ∙ (ap (map (λ (d : Draft). d.issuer.signer)) e ∙ sym (lasts-by s keys all ys))

-- ---- all but the manifests

-- An object by its draft, with its bytes.
abbrev pub piece : IssueInput → Keys → List Draft → Entries → Signed → Draft × List ℕ
piece s keys all entries x = (x.draft, bytes_of s keys all entries x)

one-same : (s : IssueInput) (keys : Keys) (all : List Draft) (entries others : Entries) (d : Draft) (k : Kind) (a b : Answers)
    (more rest : List Call)
    → is_manifest k ≡ false → entries d.issuer ≡ others d.issuer
    → answer_of (first_call s keys all entries d k a) ≡ answer_of (first_call s keys all others d k b)
    → answers_to (cons_option (second_call s keys all d k a) more) ≡ answers_to (cons_option (second_call s keys all d k b) rest)
    → (bytes_by s keys all entries d k a ≡ bytes_by s keys all others d k b) × (answers_to more ≡ answers_to rest)
one-same s keys all entries others d (Certificate subject held) a b more rest plain listed first second = (
  ap (framed (certificates.signed_bytes (certificate s keys all d subject held))) (same-head a.last b.last [] [] first),
  second,
)
one-same s keys all entries others d (Roa origin) a b more rest plain listed first second =
    let once : a.once ≡ b.once = same-head a.once b.once (a.content ∷ []) (b.content ∷ []) first in
    let content : a.content ≡ b.content =
    same-head a.content b.content [] [] (same-tail a.once b.once (a.content ∷ []) (b.content ∷ []) first) in
    let last : a.last ≡ b.last =
    same-head a.last b.last [] [] (same-head (a.last ∷ []) (b.last ∷ []) (answers_to more) (answers_to rest) second) in (
      ap (λ (key : List ℕ). object_bytes ObjectKinds.Roa (roa_content origin) (roa_certificate s keys all d origin key) a.last key a.content) once
          ∙ (ap (λ (sign : List ℕ). object_bytes ObjectKinds.Roa (roa_content origin) (roa_certificate s keys all d origin b.once) sign b.once a.content) last
          ∙ ap (object_bytes ObjectKinds.Roa (roa_content origin) (roa_certificate s keys all d origin b.once) b.last b.once) content),
      same-tail (a.last ∷ []) (b.last ∷ []) (answers_to more) (answers_to rest) second,
    )
one-same s keys all entries others d Crl a b more rest plain listed first second = (
  ap (λ (list : List RevokedRow).
      framed (crls.signed_bytes (crl_value_of s.work.moment (id_of d.issuer) (number_of d.issuer) list)) a.last) listed
      ∙ ap (framed (crls.signed_bytes (crl_value_of s.work.moment (id_of d.issuer) (number_of d.issuer) (others d.issuer))))
      (same-head a.last b.last [] [] first),
  second,
)
one-same s keys all entries others d Manifest a b more rest plain listed first second = absurd cc

pub pieces-same : (s : IssueInput) (keys : Keys) (all : List Draft) (entries others : Entries) (xs ys : List Signed)
    → drafts_of xs ≡ drafts_of ys
    → All (λ x. is_manifest x.draft.kind ≡ false) xs
    → All (λ x. entries x.draft.issuer ≡ others x.draft.issuer) xs
    → answers_to (first_calls s keys all entries xs) ≡ answers_to (first_calls s keys all others ys)
    → answers_to (second_calls s keys all xs) ≡ answers_to (second_calls s keys all ys)
    → map (piece s keys all entries) xs ≡ map (piece s keys all others) ys
pieces-same s keys all entries others [] [] same plain listed first second = refl
pieces-same s keys all entries others [] (y ∷ ys) same plain listed first second = absurd cc
pieces-same s keys all entries others (x ∷ xs) [] same plain listed first second = absurd cc
pieces-same s keys all entries others (x ∷ xs) (y ∷ ys) same plain listed first second =
    let draft : x.draft ≡ y.draft = same-head x.draft y.draft (drafts_of xs) (drafts_of ys) same in
    let more = second_calls s keys all xs in
    let rest = second_calls s keys all ys in
    let head : answer_of (first_call s keys all entries x.draft x.draft.kind x.answers)
    ≡ answer_of (first_call s keys all others y.draft y.draft.kind y.answers) =
    same-head (answer_of (first_call s keys all entries x.draft x.draft.kind x.answers))
    (answer_of (first_call s keys all others y.draft y.draft.kind y.answers))
    (answers_to (first_calls s keys all entries xs)) (answers_to (first_calls s keys all others ys)) first in
    let both = one-same s keys all entries others x.draft x.draft.kind x.answers y.answers more rest
    (All-head (λ (x : Signed). is_manifest x.draft.kind ≡ false) x xs plain)
    (All-head (λ (x : Signed). entries x.draft.issuer ≡ others x.draft.issuer) x xs listed)
    (subst (λ (d : Draft). answer_of (first_call s keys all entries x.draft x.draft.kind x.answers)
    ≡ answer_of (first_call s keys all others d d.kind y.answers)) (sym draft) head)
    (subst (λ (d : Draft). answers_to (cons_option (second_call s keys all x.draft x.draft.kind x.answers) more)
    ≡ answers_to (cons_option (second_call s keys all d d.kind y.answers) rest)) (sym draft) second) in
    same-cons (piece s keys all entries x) (piece s keys all others y) (map (piece s keys all entries) xs) (map (piece s keys all others) ys)
    (ap (λ (bytes : List ℕ). (x.draft, bytes)) both.0
    ∙ ap (λ (d : Draft). (d, bytes_by s keys all others d d.kind y.answers)) draft)
    (pieces-same s keys all entries others xs ys
    (same-tail x.draft y.draft (drafts_of xs) (drafts_of ys) same)
    (All-tail (λ (x : Signed). is_manifest x.draft.kind ≡ false) x xs plain)
    (All-tail (λ (x : Signed). entries x.draft.issuer ≡ others x.draft.issuer) x xs listed)
    (same-tail (answer_of (first_call s keys all entries x.draft x.draft.kind x.answers))
    (answer_of (first_call s keys all others y.draft y.draft.kind y.answers))
    (answers_to (first_calls s keys all entries xs)) (answers_to (first_calls s keys all others ys)) first)
    both.1)

-- ---- manifests

abbrev pub File : Type 0
File = List ℕ × List ℕ

abbrev pub last_piece : IssueInput → Keys → List Draft → Files → Signed → Draft × List ℕ
last_piece s keys all files x = (x.draft, manifest_bytes s keys all files x)

-- The bytes of a manifest of those files.
abbrev bytes_with : IssueInput → Keys → List Draft → Draft → List File → List ℕ → List ℕ → List ℕ → List ℕ
bytes_with s keys all d listed once content last =
    object_bytes ObjectKinds.Manifest (manifest.spelling (manifest_value_of s.work.moment (number_of d.issuer) listed))
    (manifest_certificate s keys all d once) last once content

manifest-same : (s : IssueInput) (keys : Keys) (all : List Draft) (files others : Files) (x y : Signed)
    → x.draft ≡ y.draft → files x.draft.issuer ≡ others x.draft.issuer
    → x.answers.once ∷ x.answers.content ∷ [] ≡ y.answers.once ∷ y.answers.content ∷ []
    → x.answers.last ∷ [] ≡ y.answers.last ∷ []
    → last_piece s keys all files x ≡ last_piece s keys all others y
manifest-same s keys all files others x y draft listed contents lasts =
    let a = x.answers in
    let b = y.answers in
    let once : a.once ≡ b.once = same-head a.once b.once (a.content ∷ []) (b.content ∷ []) contents in
    let content : a.content ≡ b.content =
    same-head a.content b.content [] [] (same-tail a.once b.once (a.content ∷ []) (b.content ∷ []) contents) in
    let last : a.last ≡ b.last = same-head a.last b.last [] [] lasts in
    ap (λ (l : List File). (x.draft, bytes_with s keys all x.draft l a.once a.content a.last)) listed
    ∙ (ap (λ (key : List ℕ). (x.draft, bytes_with s keys all x.draft (others x.draft.issuer) key a.content a.last)) once
    ∙ (ap (λ (sign : List ℕ). (x.draft, bytes_with s keys all x.draft (others x.draft.issuer) b.once sign a.last)) content
    ∙ (ap (λ (sign : List ℕ). (x.draft, bytes_with s keys all x.draft (others x.draft.issuer) b.once b.content sign)) last
    ∙ ap (λ (d : Draft). (d, bytes_with s keys all d (others d.issuer) b.once b.content b.last)) draft)))

pub manifests-same : (s : IssueInput) (keys : Keys) (all : List Draft) (files others : Files) (xs ys : List Signed)
    → drafts_of xs ≡ drafts_of ys
    → All (λ x. files x.draft.issuer ≡ others x.draft.issuer) xs
    → answers_to (content_calls s files xs) ≡ answers_to (content_calls s others ys)
    → answers_to (last_calls s keys all xs) ≡ answers_to (last_calls s keys all ys)
    → map (last_piece s keys all files) xs ≡ map (last_piece s keys all others) ys
manifests-same s keys all files others [] [] same listed contents lasts = refl
manifests-same s keys all files others [] (y ∷ ys) same listed contents lasts = absurd cc
manifests-same s keys all files others (x ∷ xs) [] same listed contents lasts = absurd cc
manifests-same s keys all files others (x ∷ xs) (y ∷ ys) same listed contents lasts =
    let first = x.answers.once ∷ x.answers.content ∷ [] in
    let second = y.answers.once ∷ y.answers.content ∷ [] in
    same-cons (last_piece s keys all files x) (last_piece s keys all others y)
    (map (last_piece s keys all files) xs) (map (last_piece s keys all others) ys)
    (manifest-same s keys all files others x y (same-head x.draft y.draft (drafts_of xs) (drafts_of ys) same)
    (All-head (λ (x : Signed). files x.draft.issuer ≡ others x.draft.issuer) x xs listed)
    (same-head first second (answers_to (content_calls s files xs)) (answers_to (content_calls s others ys)) contents)
    (same-head (x.answers.last ∷ []) (y.answers.last ∷ []) (answers_to (last_calls s keys all xs)) (answers_to (last_calls s keys all ys)) lasts))
    (manifests-same s keys all files others xs ys
    (same-tail x.draft y.draft (drafts_of xs) (drafts_of ys) same)
    (All-tail (λ (x : Signed). files x.draft.issuer ≡ others x.draft.issuer) x xs listed)
    (same-tail first second (answers_to (content_calls s files xs)) (answers_to (content_calls s others ys)) contents)
    (same-tail (x.answers.last ∷ []) (y.answers.last ∷ []) (answers_to (last_calls s keys all xs)) (answers_to (last_calls s keys all ys)) lasts))
