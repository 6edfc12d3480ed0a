-- What reading a journal's records finds.
use Rattle.std.proofs.Common.{◌≡◌, ◌+◌, ℕ, Option, Some, None, List, [], ◌∷◌, ◌++◌, map, length, take, sym, ◌∙◌, ap, subst}
use Rattle.std.specs.Prelude.{IfSome}
use Rattle.std.specs.List.{slice_get}
use Rattle.std.proofs.lemmas.List.{take_more}
use Rattle.std.proofs.lemmas.Option.{slice_get_within, get_or_from_slice_get}
use Rattle.authority_book.specs.declared.commands.Command.{Command}
use Rattle.authority_book.specs.Settings.{Settings}
use Rattle.authority_book.specs.Fold.{fold_of}
use Rattle.gate_journal.specs.Format.{spelled, payloads}
use Rattle.gate_journal.specs.laws.BodyLaws.{payloads-spelled}
use Rattle.desk_core.specs.Commands.{RecordsNoNext, IsFirstBad}
use Rattle.desk_core.specs.inner.Kept.{IsLoaded}

-- a record that is no command's is the first such, after those read
pub first_bad : (number : ℕ) (settings : Settings) (all : List (List ℕ)) (payload : List ℕ) (index : ℕ) → IsLoaded number settings (take index all) → slice_get all index ≡ Some payload →
    ((desk : ℕ) (commands : List Command) → settings ≡ fold_of desk commands → RecordsNoNext desk commands payload) → IsFirstBad number all index
first_bad number settings all payload index loaded there bad = record {
  before = loaded.commands;
  payload = payload;
  good = loaded.recorded;
  there = there;
  bad = bad number loaded.commands loaded.fold;
}

-- one record more
pub one_more : (all : List (List ℕ)) (payload : List ℕ) (index : ℕ) → slice_get all index ≡ Some payload → take index all ++ payload ∷ [] ≡ take (index + 1) all
one_more all payload index there =
    ap (λ (p : List ℕ). take index all ++ p ∷ []) (sym (get_or_from_slice_get all index payload [] there)) ∙ sym (take_more all index [] (slice_get_within all index payload there))

-- the payloads in what was read are the records, where these are known
pub known_payloads : (shown : Option (List (List ℕ))) (sizes body : List ℕ) → IfSome shown (λ all. sizes ≡ map length all) → IfSome shown (λ all. body ≡ spelled all) → IfSome shown (λ all. all ≡ payloads sizes body)
known_payloads None sizes body sizes_are read = tt
known_payloads (Some all) sizes body sizes_are read = sym (ap (λ (l : List ℕ). payloads l body) sizes_are ∙ ap (λ (l : List ℕ). payloads (map length all) l) read ∙ payloads-spelled all)

pub bad_known : (shown : Option (List (List ℕ))) (number at : ℕ) (found : List (List ℕ)) → IfSome shown (λ all. all ≡ found) → IsFirstBad number found at → IfSome shown (λ all. IsFirstBad number all at)
bad_known None number at found same bad = tt
bad_known (Some all) number at found same bad = subst (λ (l : List (List ℕ)). IsFirstBad number l at) (sym same) bad
