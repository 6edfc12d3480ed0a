-- The laws of the records of a journal.
use Rattle.std.proofs.Common.{◌≡◌, ℕ, ◌+◌, List, [], ◌∷◌, ◌++◌, Option, Some, None, refl, ap, subst, ◌∙◌, arith, inl, inr}
use Rattle.std.specs.List.{AllByRecursion}
use Rattle.record_forms.specs.Form.{AreBytes, Spells}
use Rattle.record_forms.specs.Forms.{read_whole}
use Rattle.record_forms.specs.laws.FormLaws.{whole-again, whole-taken}
use Rattle.press_records.specs.Edition.{EditionValue, StandingValue, after_edition, editions}
use Rattle.press_records.specs.Records.{after_editions, AreRecordsOf, Told, with_edition, told_behind, editions_told, IsFirstBad}
use Rattle.press_records.specs.laws.EditionLaws.{editions-law}

abbrev Bytes : Type 0
Bytes = List ℕ

abbrev told-of : List EditionValue → Told
told-of later = inl later

abbrev bad-at : ℕ → Told
bad-at index = inr index

same-told : (a b : List EditionValue) → told-of a ≡ told-of b → a ≡ b
same-told a b e = cc

same-bad : (a b : ℕ) → bad-at a ≡ bad-at b → a ≡ b
same-bad a b e = cc

-- ---- read back

pub records-again : (later : List EditionValue) (records : List Bytes) (index : ℕ) (before : StandingValue)
    → AreRecordsOf before later records → editions_told index records before ≡ told-of later
records-again [] [] index before are = refl
records-again [] (one ∷ records) index before are = absurd are
records-again (edition ∷ later) [] index before are = absurd are
records-again (edition ∷ later) (one ∷ records) index before are =
    ap (told_behind index (editions_told (index + 1) records) before) (whole-again (editions before) (editions-law before) edition one are.0)
    ∙ ap (with_edition edition) (records-again later records (index + 1) (after_edition before edition) are.1)

module _ (index : ℕ) (one : Bytes) (records : List Bytes) (before : StandingValue) where
  abbrev Rest : EditionValue → Told
  Rest edition = editions_told (index + 1) records (after_edition before edition)

  taken-behind : (later : List EditionValue) (edition : EditionValue) → Spells (editions before) edition one
      → ((rest : List EditionValue) → Rest edition ≡ told-of rest → AreRecordsOf (after_edition before edition) rest records)
      → (t : Told) → Rest edition ≡ t → with_edition edition t ≡ told-of later → AreRecordsOf before later (one ∷ records)
  taken-behind later edition spelled others (inl rest) is e =
      subst (λ (l : List EditionValue). AreRecordsOf before l (one ∷ records)) (same-told (edition ∷ rest) later e) (spelled, others rest is)
  taken-behind later edition spelled others (inr bad) is e = absurd cc

  taken-first : AreBytes one → (later : List EditionValue)
      → ((edition : EditionValue) (rest : List EditionValue) → Rest edition ≡ told-of rest → AreRecordsOf (after_edition before edition) rest records)
      → (o : Option EditionValue) → read_whole (editions before) one ≡ o
      → told_behind index (editions_told (index + 1) records) before o ≡ told-of later → AreRecordsOf before later (one ∷ records)
  taken-first bytes later others None is e = absurd cc
  taken-first bytes later others (Some edition) is e =
      taken-behind later edition (whole-taken (editions before) (editions-law before) edition one bytes is) (others edition) (Rest edition) refl e

  bad-behind : (bad : ℕ) (edition : EditionValue) → Spells (editions before) edition one
      → ((at : ℕ) → Rest edition ≡ bad-at at → IsFirstBad (after_edition before edition) (index + 1) records at)
      → (t : Told) → Rest edition ≡ t → with_edition edition t ≡ bad-at bad → IsFirstBad before index (one ∷ records) bad
  bad-behind bad edition spelled others (inl rest) is e = absurd cc
  bad-behind bad edition spelled others (inr at) is e =
      let found = others at is in
      let same = same-bad at bad e in
      let there = found.at in
      record {
        earlier = edition ∷ found.earlier;
        front = one ∷ found.front;
        bad = found.bad;
        behind = found.behind;
        is = ap (λ (l : List Bytes). one ∷ l) found.is;
        at = omega (arith, there, same);
        told = (spelled, found.told);
        none = found.none;
      }

  bad-first : AreBytes one → (bad : ℕ)
      → ((edition : EditionValue) (at : ℕ) → Rest edition ≡ bad-at at → IsFirstBad (after_edition before edition) (index + 1) records at)
      → (o : Option EditionValue) → read_whole (editions before) one ≡ o
      → told_behind index (editions_told (index + 1) records) before o ≡ bad-at bad → IsFirstBad before index (one ∷ records) bad
  bad-first bytes bad others None is e =
      let same = same-bad index bad e in
      record {
        earlier = [];
        front = [];
        bad = one;
        behind = records;
        is = refl;
        at = omega (arith, same);
        told = tt;
        none = is;
      }
  bad-first bytes bad others (Some edition) is e =
      bad-behind bad edition (whole-taken (editions before) (editions-law before) edition one bytes is) (others edition) (Rest edition) refl e

pub records-taken : (records : List Bytes) (index : ℕ) (before : StandingValue) (later : List EditionValue) → AllByRecursion AreBytes records
    → editions_told index records before ≡ told-of later → AreRecordsOf before later records
records-taken [] index before [] bytes e = tt
records-taken [] index before (edition ∷ later) bytes e = absurd cc
records-taken (one ∷ records) index before later bytes e =
    taken-first index one records before bytes.0 later
    (λ edition rest. records-taken records (index + 1) (after_edition before edition) rest bytes.1)
    (read_whole (editions before) one) refl e

pub records-bad : (records : List Bytes) (index : ℕ) (before : StandingValue) (bad : ℕ) → AllByRecursion AreBytes records
    → editions_told index records before ≡ bad-at bad → IsFirstBad before index records bad
records-bad [] index before bad bytes e = absurd cc
records-bad (one ∷ records) index before bad bytes e =
    bad-first index one records before bytes.0 bad
    (λ edition at. records-bad records (index + 1) (after_edition before edition) at bytes.1)
    (read_whole (editions before) one) refl e

-- ---- one record more

pub after-last : (before : StandingValue) (earlier : List EditionValue) (edition : EditionValue)
    → after_editions before (earlier ++ edition ∷ []) ≡ after_edition (after_editions before earlier) edition
after-last before [] edition = refl
after-last before (first ∷ earlier) edition = after-last (after_edition before first) earlier edition

pub one-more : (before : StandingValue) (earlier : List EditionValue) (records : List Bytes) (edition : EditionValue) (one : Bytes)
    → AreRecordsOf before earlier records → Spells (editions (after_editions before earlier)) edition one
    → AreRecordsOf before (earlier ++ edition ∷ []) (records ++ one ∷ [])
one-more before [] [] edition one are spelled = (spelled, tt)
one-more before [] (first ∷ records) edition one are spelled = absurd are
one-more before (x ∷ earlier) [] edition one are spelled = absurd are
one-more before (x ∷ earlier) (first ∷ records) edition one are spelled =
    (are.0, one-more (after_edition before x) earlier records edition one are.1 spelled)
