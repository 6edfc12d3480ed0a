-- What opening found, where the disk may be known.
use Rattle.std.proofs.Common.{◌≡◌, inl, inr, ◌<◌, ℕ, Option, Some, None, Result, Ok, Err, IfErr, List, [], ◌∷◌, ◌++◌, map, length, IfSome, refl, sym, ◌∙◌, ap, subst, arith}
use Rattle.std.proofs.lemmas.Bool.{cond-true, cond-false, le-leb, lt-leb, cases_lt}
use Rattle.std.specs.Prelude.{nat_le}
use Rattle.std.specs.Option.{option_map}
use Rattle.disk_api.specs.Content.{BothKnown}
use Rattle.gate_journal.specs.Format.{header, recovered, opened, IsUnopened}
use Rattle.gate_journal.specs.inner.Kept.{IsLaidOut}
use Rattle.gate_journal.specs.inner.Reading.{Finds, Opens}
use Rattle.gate_journal.specs.declared.place.Place.{Place}
use Rattle.gate_journal.proofs.Laid.{recovered-short, recovered-closed}
use Rattle.gate_journal.proofs.Whole.{damaged_at-closed, damaged_short}

-- a new journal
pub opens_new : (limit : ℕ) (content now : Option (List ℕ)) (places : List Place) → places ≡ [] → IfSome content (λ bytes. length bytes < 18) → now ≡ option_map (λ _. header ++ 0 ∷ []) content → IfSome content (λ bytes. Opens limit places bytes now)
opens_new limit None now places none short is = tt
opens_new limit (Some bytes) now places none short is = record {
  now = header ++ 0 ∷ [];
  known = is;
  found = record {
    records = [];
    laid_out = subst (λ (l : List Place). IsLaidOut [] (map (λ (place : Place). place.size) l) None (header ++ 0 ∷ [])) (sym none) (record {
      gate = 0;
      tail = [];
      split = refl;
      closed = λ _. omega arith;
      sizes_are = refl;
      small = λ k d lt. absurd (omega (arith, lt));
    });
    within = λ k d lt. absurd (omega (arith, lt));
  };
  same = sym (recovered-short bytes short);
  whole = damaged_short limit bytes short;
}

-- what opening makes of a short file, and of a long one
pub opened_new : (content now : Option (List ℕ)) → IfSome content (λ bytes. length bytes < 18) → now ≡ option_map (λ _. header ++ 0 ∷ []) content → now ≡ option_map opened content
opened_new None now short is = is
opened_new (Some bytes) now short is = is ∙ ap (λ (l : List ℕ). Some l) (sym (cond-false (nat_le 18 (length bytes)) bytes (header ++ 0 ∷ []) (lt-leb 18 (length bytes) short)))

pub opened_old : (content now : Option (List ℕ)) (len : ℕ) → now ≡ content → IfSome content (λ bytes. len ≡ length bytes) → 17 < len → now ≡ option_map opened content
opened_old None now len same known long = same
opened_old (Some bytes) now len same known long =
    same ∙ ap (λ (l : List ℕ). Some l) (sym (cond-true (nat_le 18 (length bytes)) bytes (header ++ 0 ∷ []) (le-leb 18 (length bytes) (omega (arith, long, known)))))

pub unknown_opened : (content now : Option (List ℕ)) → now ≡ option_map opened content → content ≡ None → now ≡ None
unknown_opened content now is none = is ∙ ap (λ (o : Option (List ℕ)). option_map opened o) none

-- what a refused opening leaves
pub unopened_same : (content now : Option (List ℕ)) → now ≡ content → BothKnown IsUnopened content now
unopened_same None now same = same
unopened_same (Some bytes) now same = (bytes, same, record { long = λ _. refl; short = λ few. few })

pub unopened_short : (content now : Option (List ℕ)) → IfSome content (λ bytes. length bytes < 18) → BothKnown (λ _ bytes. length bytes < 18) content now → BothKnown IsUnopened content now
unopened_short None now short both = both
unopened_short (Some bytes) now short both = (both.0, both.1, record { long = λ long. absurd (omega (arith, short, long)); short = λ _. omega (arith, both.2) })

-- in each case it stands for the same
pub unopened_stands : (content now : Option (List ℕ)) → BothKnown IsUnopened content now → option_map recovered now ≡ option_map recovered content
unopened_stands None now both = ap (λ (o : Option (List ℕ)). option_map recovered o) both
unopened_stands (Some bytes) now both =
    ap (λ (o : Option (List ℕ)). option_map recovered o) both.1
    ∙ ap (λ (l : List (List ℕ)). Some l)
    (elim (cases_lt (length bytes) 18) [
      | inl short ↦ recovered-short both.0 (omega (arith, both.2.short (omega (arith, short)))) ∙ sym (recovered-short bytes short)
      | inr long ↦ ap (λ (l : List ℕ). recovered l) (both.2.long long)
    ])

-- an old one
pub opens_old : (limit len : ℕ) (content mid now : Option (List ℕ)) (places : List Place) → mid ≡ content → now ≡ content → IfSome content (λ bytes. len ≡ length bytes) → 17 < len → IfSome mid (λ bytes. Finds limit places bytes)
    → IfSome content (λ bytes. Opens limit places bytes now)
opens_old limit len None mid now places at_mid at_now known long finds = tt
opens_old limit len (Some bytes) mid now places at_mid at_now known long finds =
    let here : Finds limit places bytes = subst (λ (o : Option (List ℕ)). IfSome o (λ b. Finds limit places b)) at_mid finds in
    let laid = here.laid_out in
    record {
      now = bytes;
      known = at_now;
      found = here;
      same = sym (ap (λ (l : List ℕ). recovered l) laid.split ∙ recovered-closed here.records laid.gate laid.tail laid.small (laid.closed refl));
      whole = damaged_at-closed limit here.records laid.gate laid.tail bytes laid.split laid.small here.within (laid.closed refl);
    }

-- what an opened journal keeps, and shows
pub found_laid : (limit : ℕ) (content now : Option (List ℕ)) (places : List Place) → IfSome content (λ bytes. Opens limit places bytes now) → (content ≡ None → now ≡ None)
    → IfSome now (λ bytes. (records : List (List ℕ)) × IsLaidOut records (map (λ (place : Place). place.size) places) None bytes)
found_laid limit None now places opens unknown =
    subst (λ (o : Option (List ℕ)). IfSome o (λ bytes. (records : List (List ℕ)) × IsLaidOut records (map (λ (place : Place). place.size) places) None bytes)) (sym (unknown refl)) tt
found_laid limit (Some bytes) now places opens unknown =
    subst (λ (o : Option (List ℕ)). IfSome o (λ b. (records : List (List ℕ)) × IsLaidOut records (map (λ (place : Place). place.size) places) None b)) (sym opens.known) (opens.found.records, opens.found.laid_out)

pub if_err_weaker : {T F : Type 0} (r : Result T F) (P Q : F → Type 0) → ((e : F) → P e → Q e) → IfErr r P → IfErr r Q
if_err_weaker (Ok x) P Q f h = h
if_err_weaker (Err e) P Q f h = f e h
