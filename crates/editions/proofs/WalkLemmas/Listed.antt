-- The list of a key's manifest: one CRL, and the certificates and ROAs beside it.
use Rattle.std.proofs.Common.{◌≡◌, ◌≢◌, ◌⊎◌, ℕ, ◌==◌, ◌&&◌, ◌||◌, Bool, true, false, not, cond, Some, List, [], ◌∷◌, ◌++◌, length, filter, map, IsPermutation, ap, subst, ◌∙◌, append-nil, inl, inr}
use Rattle.std.specs.List.{list_all}
use Rattle.std.proofs.lemmas.Bool.{and_from, not_from_false, or_left, or_right}
use Rattle.std.proofs.lemmas.List.Elements.{filter-append}
use Rattle.std.proofs.lemmas.List.Sorted.{IsPermutation-sym}
use Rattle.std.proofs.lemmas.List.Sums.{list_all-from_AllPass}
use Rattle.cert_obj.specs.Values.{Sets, CertValue}
use Rattle.payloads.specs.Order.{rises}
use Rattle.payloads.specs.ManifestFormats.{is_name_below}
use Rattle.rp_rules.specs.Authorities.{listed_uri}
use Rattle.rp_rules.specs.Certificates.{WalkContext, File, is_among}
use Rattle.rp_rules.specs.Points.{is_certificate_file, is_roa_file, is_crl_file, is_file_in_use, are_distinct, is_list, crl_file, first_of}
use Rattle.issue_values.specs.Bodies.{manifest_value_of}
use Rattle.items.specs.laws.AmongLaws.{In, all-in, in-parts, map-in, in-permuted}
use Rattle.items.specs.laws.PairLaws.{Twos}
use Rattle.editions.proofs.WalkLemmas.Elements.{pairs-twos}
use Rattle.editions.proofs.WalkLemmas.Moved.{filter-all, filter-none, filter-moved, alone-moved}
use Rattle.editions.proofs.WalkLemmas.Rising.{rising-apart, rising-distinct, not-among}
use Rattle.editions.proofs.WalkLemmas.Point.{Seat, authority_with, manifest_at}

abbrev pub other : File → Bool
other file = not (is_crl_file file)

-- A file beside the CRL.
pub record IsBeside (file : File) : Type 0 where
  pub no_crl : is_crl_file file ≡ false
  pub in_use : is_file_in_use file ≡ true

pub certificate-beside : (file : File) → is_certificate_file file ≡ true → is_crl_file file ≡ false
    → IsBeside file
certificate-beside file is none = record {
  no_crl = none;
  in_use = or_left (is_certificate_file file || is_roa_file file) (is_crl_file file)
      (or_left (is_certificate_file file) (is_roa_file file) is);
}

pub roa-beside : (file : File) → is_roa_file file ≡ true → is_crl_file file ≡ false → IsBeside file
roa-beside file is none = record {
  no_crl = none;
  in_use = or_left (is_certificate_file file || is_roa_file file) (is_crl_file file)
      (or_right (is_certificate_file file) (is_roa_file file) is);
}

module _ (s : WalkContext) (k : Seat) (value : CertValue) (sets : Sets) (rest : List File) (crl : File)
    (files : List File) (moved : IsPermutation (rest ++ crl ∷ []) files)
    (rising : rises is_name_below (map (λ (file : File). file.0) files) ≡ true)
    (beside : (file : File) → In file rest → IsBeside file) (crl_is : is_crl_file crl ≡ true)
    (free : (file : File) → In file (rest ++ crl ∷ [])
    → listed_uri (authority_with s k value sets) file.0 ≢ manifest_at s k) where
  abbrev names : List (List ℕ)
  names = map (λ (file : File). file.0) files

  abbrev place : List ℕ → List ℕ
  place name = listed_uri (authority_with s k value sets) name

  crls-are : filter is_crl_file (rest ++ crl ∷ []) ≡ crl ∷ []
  crls-are =
      filter-append is_crl_file rest (crl ∷ [])
      ∙ (ap (λ (l : List File). l ++ filter is_crl_file (crl ∷ []))
      (filter-none is_crl_file rest (λ file at. (beside file at).no_crl))
      ∙ ap (λ (b : Bool). cond b (crl ∷ []) []) crl_is)

  others-are : filter other (rest ++ crl ∷ []) ≡ rest
  others-are =
      filter-append other rest (crl ∷ [])
      ∙ (ap (λ (l : List File). l ++ filter other (crl ∷ []))
      (filter-all other rest (λ file at. not_from_false (is_crl_file file) (beside file at).no_crl))
      ∙ (ap (λ (b : Bool). rest ++ cond (not b) (crl ∷ []) []) crl_is ∙ append-nil rest))

  crls-left : filter is_crl_file files ≡ crl ∷ []
  crls-left = alone-moved crl (filter is_crl_file files)
      (subst (λ (l : List File). IsPermutation l (filter is_crl_file files)) crls-are
      (filter-moved is_crl_file (rest ++ crl ∷ []) files moved))

  pub first-is : (made number : ℕ) → crl_file (manifest_value_of made number files) ≡ Some crl
  first-is made number = ap first_of crls-left

  pub others-left : IsPermutation rest (filter other files)
  others-left = subst (λ (l : List File). IsPermutation l (filter other files)) others-are
      (filter-moved other (rest ++ crl ∷ []) files moved)

  of-files : (file : File) → In file files → In file (rest ++ crl ∷ [])
  of-files file at = in-permuted file files (rest ++ crl ∷ [])
      (IsPermutation-sym (rest ++ crl ∷ []) files moved) at

  used : (file : File) → In file files → is_file_in_use file ≡ true
  used file at = by (in-parts file rest (crl ∷ []) (of-files file at))
    where
      by : In file rest ⊎ In file (crl ∷ []) → is_file_in_use file ≡ true
      by (inl front) = (beside file front).in_use
      by (inr (inl same)) = subst (λ (f : File). is_file_in_use f ≡ true) same
          (or_right (is_certificate_file crl || is_roa_file crl) (is_crl_file crl) crl_is)
      by (inr (inr none)) = absurd none

  -- No two have one name.
  pub names-apart : Twos (λ a b. a ≢ b) names
  names-apart = pairs-twos (λ (a b : List ℕ). a ≢ b) names (rising-apart names rising)

  pub is-listed : (made number : ℕ)
      → is_list (authority_with s k value sets) (manifest_value_of made number files) ≡ true
  is-listed made number =
      let one : (length (filter is_crl_file files) == 1) ≡ true =
      ap (λ (l : List File). length l == 1) crls-left in
      let distinct : are_distinct names ≡ true = rising-distinct names rising in
      let none : not (is_among (map place names) (manifest_at s k)) ≡ true =
      not_from_false (is_among (map place names) (manifest_at s k))
      (not-among (map place names) (manifest_at s k)
      (all-in (λ (uri : List ℕ). uri ≢ manifest_at s k) (map place names) (λ uri at.
      let n = map-in place uri names at in
      let f = map-in (λ (file : File). file.0) n.0 files n.1 in
      subst (λ (u : List ℕ). u ≢ manifest_at s k) (ap place f.2 ∙ n.2) (free f.0 (of-files f.0 f.1))))) in
      let all : list_all is_file_in_use files ≡ true = list_all-from_AllPass is_file_in_use files
      (all-in (λ (file : File). is_file_in_use file ≡ true) files used) in
      and_from ((length (filter is_crl_file files) == 1) && are_distinct names
      && not (is_among (map place names) (manifest_at s k))) (list_all is_file_in_use files)
      (and_from ((length (filter is_crl_file files) == 1) && are_distinct names)
      (not (is_among (map place names) (manifest_at s k)))
      (and_from (length (filter is_crl_file files) == 1) (are_distinct names) one distinct) none)
      all
