-- The CRLs that the editions of a history put.
use Rattle.std.proofs.Common.{◌≡◌, ◌≢◌, ℕ, ◌+◌, ◌<◌, sym, subst, ◌∙◌, ap, arith, List, [], ◌∷◌, ◌++◌, length, take, Some, length-append}
use Rattle.std.proofs.lemmas.List.{length-take-le, take-take}
use Rattle.std.proofs.lemmas.Option.{slice_get_within}
use Rattle.crl_obj.specs.Values.{SignedCrl}
use Rattle.key_ids.specs.Uris.{Bases}
use Rattle.rp_rules.specs.Objects.{crl_in}
use Rattle.editions.specs.Edition.{Edition, set_after}
use Rattle.editions.specs.Step.{Premises, AreSteps}
use Rattle.editions.specs.Superseded.{ListsSuperseded}
use Rattle.histories.specs.Events.{History}
use Rattle.histories.specs.Legal.{IsLegal}
use Rattle.histories.specs.Acknowledged.{editions_of, ground_after}
use Rattle.histories.specs.Published.{HasEdition, set_of}
use Rattle.histories.proofs.Kept.{Stay}
use Rattle.histories.proofs.Holds.{up_to, front_steps}

abbrev pub Listed : Type 0
Listed = (premises : Premises) (editions : List Edition) (edition : Edition) (uri bytes : List ℕ) (crl : SignedCrl)
    → AreSteps premises (editions ++ edition ∷ [])
    → set_after (editions ++ edition ∷ []) uri ≡ Some bytes → set_after editions uri ≢ Some bytes → crl_in bytes ≡ Some crl
    → ListsSuperseded (editions ++ edition ∷ []) (length editions) crl

abbrev pub Until : Type 0
Until = (one other : List Edition) (place : ℕ) (crl : SignedCrl)
    → place < length one → place < length other → take (place + 1) one ≡ take (place + 1) other
    → ListsSuperseded one place crl → ListsSuperseded other place crl

module _ (stay : Stay) (site : Bases) (history : History) (legal : IsLegal site history) where
  pub crls : Listed → Until → (serial : ℕ) (edition : Edition) → HasEdition history (serial + 1) edition
      → (uri bytes : List ℕ) (crl : SignedCrl)
      → set_of history (serial + 1) uri ≡ Some bytes → set_of history serial uri ≢ Some bytes → crl_in bytes ≡ Some crl
      → ListsSuperseded (editions_of history) serial crl
  crls listed until serial edition has uri bytes crl stands new read =
      let es = editions_of history in
      let all = take has.place es ++ edition ∷ [] in
      let number = has.number in
      let same : has.place ≡ serial = omega (arith, number) in
      let behind : take (serial + 1) es ≡ all = up_to stay site history legal (serial + 1) edition has in
      let said = listed (ground_after site history) (take has.place es) edition uri bytes crl
      (front_steps stay site history legal (serial + 1) edition has)
      (ap (λ (l : List Edition). set_after l uri) (sym behind) ∙ stands)
      (λ was. new (ap (λ (n : ℕ). set_of history n uri) (sym same) ∙ was)) read in
      let within = slice_get_within es has.place edition has.there in
      let long = length-take-le has.place es (omega (arith, within)) in
      let counted : length (take has.place es) ≡ serial = long ∙ same in
      let one_more = length-append (take has.place es) (edition ∷ []) in
      let front : take (serial + 1) all ≡ take (serial + 1) es =
      ap (take (serial + 1)) (sym behind) ∙ take-take (serial + 1) (serial + 1) es (omega arith) in
      until all es serial crl (omega (arith, one_more, counted)) (omega (arith, within, same)) front
      (subst (λ (n : ℕ). ListsSuperseded all n crl) counted said)
