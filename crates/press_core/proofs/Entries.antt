-- The entry of an edition that is prepared, and why there is none.
use Rattle.std.proofs.Common.{◌≡◌, ℕ, zero, suc, ◌+◌, ◌-◌, ◌^◌, ◌<◌, ◌≤◌, true, None, List, [], ◌∷◌, ◌++◌, length, map, drop, refl, sym, ap, subst, ◌∙◌, arith, inr}
use Rattle.std.specs.Prelude.{min, option_map}
use Rattle.sha2.specs.Sha256.{sha256}
use Rattle.signer_api.specs.State.{SignerState}
use Rattle.gate_journal.specs.View as journal
use Rattle.gate_journal.specs.Answers.{CanAppend, IsFullAnswer}
use Rattle.gate_journal.specs.Format.{held_for}
use Rattle.pub_set.specs.Objects.{found_at, content_at}
use Rattle.press_records.specs.Rows.{row_value}
use Rattle.press_records.specs.Stages.{are_staged}
use Rattle.press_records.specs.Edition.{EditionValue, StandingValue, editions, IsAlike}
use Rattle.press_records.specs.Recordable.{IsTyped, IsRecordable}
use Rattle.editions.specs.PublishedState.{PublishedStateValue, IsConsistentState}
use Rattle.editions.specs.declared.gathered.Gathered.{Gathered}
use Rattle.press_core.specs.Press.{PressValue}
use Rattle.press_core.specs.PrepareInput.{PrepareInput, start_of}
use Rattle.press_core.specs.Next.{NextValue, IsNext}
use Rattle.press_core.specs.Files.{delta_of}
use Rattle.press_core.specs.Planned.{IsPrepared}
use Rattle.press_core.specs.Faults.{IsShort, IsPressFault}
use Rattle.press_core.specs.declared.fault.PressFault.{PressFault}
use Rattle.press_core.specs.declared.fault.PressFault.TheVariants as press
use Rattle.press_core.specs.Follows.{edition_of}
use Rattle.press_core.specs.Records.{edition_value, standing_of}
use Rattle.press_core.specs.JournalRecords.{record_bytes, IsRecordOf, press_limit}
use Rattle.press_core.specs.Tables.{IsHashed}
use Rattle.press_core.specs.Stored.{StoredValue, StoredPreparedValue, CanCommit}
use Rattle.press_core.specs.StoredAnswers.{HasNoRoom, IsNoEntry, IsPrepareFault, prepare_fault_of}
use Rattle.press_core.specs.declared.stored_fault.PrepareFault.{PrepareFault}
use Rattle.press_core.specs.declared.stored_fault.PrepareFault.TheVariants.{Shut, ClockRange, SerialEnd, Nothing}
use Rattle.press_core.specs.declared.stored_fault.PrepareFault.TheVariants.{SignerFault, KeyClash, JournalFull, Memory}

abbrev pub stored_of : {D : Type 0} → PressValue → journal.View D → StoredValue D
stored_of press place = record { press = press; journal = place }

-- What stands behind so many bytes.
pub drop-front : (n : ℕ) (xs ys : List ℕ) → length xs ≡ n → drop n (xs ++ ys) ≡ ys
drop-front zero [] ys e = refl
drop-front zero (x ∷ xs) ys e = absurd (omega (arith, e))
drop-front (suc n) [] ys e = absurd (omega (arith, e))
drop-front (suc n) (x ∷ xs) ys e = drop-front n xs ys (omega (arith, e))

-- ---- the record is read back

-- The laws of what can be recorded.
pub record EntryLaws : Type 0 where
  pub recordable : (start : PrepareInput) (ring : List SignerState) (prepared : NextValue) → IsPrepared start ring prepared
      → IsConsistentState start.at → are_staged (map row_value prepared.next.rows) ≡ true
      → ((uri : List ℕ) → found_at (λ row. row.uri) (λ row. row.hash) start.at.issued uri ≡ option_map sha256 (content_at start.at.set uri))
      → IsTyped (edition_value (edition_of prepared)) → (before : StandingValue) → IsAlike before (standing_of start.at)
      → IsRecordable before (edition_value (edition_of prepared))
  pub good : (before : StandingValue) (edition : EditionValue) → IsRecordable before edition → (editions before).good edition

like-itself : (standing : StandingValue) → IsAlike standing standing
like-itself standing = record { serial = refl; moment = refl; cut = λ desk. refl; rows = refl; set = λ uri. refl }

pub is-record : {D : Type 0} → EntryLaws → (at : PublishedStateValue) (place : journal.View D) (prepared : NextValue) (entry : List ℕ)
    → IsConsistentState at → IsHashed at.set at.issued → place.limit ≡ press_limit → CanAppend place (length entry + 9)
    → IsTyped (edition_value (edition_of prepared)) → entry ≡ record_bytes at prepared
    → (start : PrepareInput) (ring : List SignerState) → start.at ≡ at → IsPrepared start ring prepared → IsRecordOf at prepared entry
is-record laws at place prepared entry kept hashes limit can typed spelled start ring same is =
    let kept_there = subst IsConsistentState (sym same) kept in
    let hashes_there = subst (λ (a : PublishedStateValue). IsHashed a.set a.issued) (sym same) hashes in
    let alike = subst (λ (a : PublishedStateValue). IsAlike (standing_of at) (standing_of a)) (sym same) (like-itself (standing_of at)) in
    let fits = can.fits in
    record {
      good = laws.good (standing_of at) (edition_value (edition_of prepared))
          (laws.recordable start ring prepared is kept_there is.next.staged hashes_there typed (standing_of at) alike);
      short = omega (arith, fits, limit);
      spelled = spelled;
    }

-- What has room as far as a number of 64 bits tells has room: the limit is below that.
pub fits-whole : {D : Type 0} (place : journal.View D) (size told asked : ℕ) → place.limit ≡ press_limit → told ≡ min size (2 ^ 64 - 1)
    → asked ≡ min (told + 9) (2 ^ 64 - 1) → CanAppend place asked → CanAppend place (size + 9)
fits-whole place size told asked limit told-is asked-is can =
    let fits = can.fits in
    record { is_open = can.is_open; fits = omega (arith, fits, limit, told-is, asked-is) }

-- ---- why there is none

pub no-room : {D : Type 0} (stored : StoredValue D) (prepared : NextValue) (bytes : List ℕ) (held needed told asked : ℕ) → stored.journal.limit ≡ press_limit
    → bytes ≡ record_bytes stored.press.at prepared → told ≡ min (length bytes) (2 ^ 64 - 1) → asked ≡ min (told + 9) (2 ^ 64 - 1)
    → IsFullAnswer held needed asked stored.journal stored.journal → HasNoRoom stored.press.at stored.journal prepared held needed
no-room stored prepared bytes held needed told asked limit spelled told-is asked-is full =
    let size : asked ≡ min (length bytes + 9) (2 ^ 64 - 1) = omega (arith, told-is, asked-is) in
    record {
      held_is = full.held_is;
      needed_is = full.needed_is ∙ (size ∙ ap (λ (b : List ℕ). min (length b + 9) (2 ^ 64 - 1)) spelled);
      past = subst (λ (n : ℕ). n < held + needed) limit full.past;
    }

-- Memory ran out once all was made.
pub short-behind : (start : PrepareInput) (ring : List SignerState) (prepared : NextValue) → IsPrepared start ring prepared → IsShort start ring
short-behind start ring prepared is = record { work = is.made.work; planned = is.made.planned; out = inr (is.made.made, is.made.is_made) }

pub none-for : {D : Type 0} (start : PrepareInput) (ring : List SignerState) (stored : StoredValue D) (prepared : NextValue) (fault : PrepareFault D)
    → stored.press.at ≡ start.at → stored.journal.shut ≡ None → IsPrepared start ring prepared
    → IsNoEntry stored prepared start.clock fault → IsPrepareFault start ring stored.journal fault
none-for start ring stored prepared (Shut rose) same is_open is none = absurd none
none-for start ring stored prepared (ClockRange now met) same is_open is none = absurd none
none-for start ring stored prepared (SerialEnd value met) same is_open is none = absurd none
none-for start ring stored prepared (Nothing serial met) same is_open is none = absurd none
none-for start ring stored prepared (SignerFault signer met) same is_open is none = absurd none
none-for start ring stored prepared (KeyClash id met) same is_open is none = absurd none
none-for start ring stored prepared (JournalFull held needed met) same is_open is none = (
  is_open,
  record {
    edition = prepared;
    is_prepared = is;
    full = record {
      held_is = none.0.held_is;
      needed_is = none.0.needed_is ∙ ap (λ (a : PublishedStateValue). min (length (record_bytes a prepared) + 9) (2 ^ 64 - 1)) same;
      past = none.0.past;
    };
  },
  none.1,
)
none-for start ring stored prepared Memory same is_open is none = (is_open, inr (short-behind start ring prepared is))

-- What the press alone refuses.
pub as-alone : {D : Type 0} (start : PrepareInput) (ring : List SignerState) (place : journal.View D) (fault : PressFault)
    → place.shut ≡ None → IsPressFault start ring fault → IsPrepareFault start ring place (prepare_fault_of fault)
as-alone start ring place (press.ClockRange now met) is_open is = (is_open, is)
as-alone start ring place (press.SerialEnd value met) is_open is = (is_open, is)
as-alone start ring place (press.Nothing serial met) is_open is = (is_open, is)
as-alone start ring place (press.SignerFault signer met) is_open is = (is_open, is)
as-alone start ring place (press.KeyClash id met) is_open is = (is_open, is)
as-alone start ring place press.Memory is_open is = (is_open, is)

-- ---- what a commit asks

can-append : {D : Type 0} (old new : journal.View D) (needed : ℕ) → journal.IsSameButRoom old new → CanAppend old needed → CanAppend new needed
can-append old new needed same can = record {
  is_open = ap (λ (j : journal.View _). j.shut) same ∙ can.is_open;
  fits = subst (λ (j : journal.View _). held_for j.sizes + needed ≤ j.limit) (sym same) can.fits;
}

abbrev pub HashLaw : Type 0
HashLaw = (start : PrepareInput) (ring : List SignerState) (prepared : NextValue) → IsPrepared start ring prepared
    → IsHashed start.at.set start.at.issued → IsHashed prepared.next.set prepared.next.issued

pub can-commit : {D : Type 0} → HashLaw → (old new : StoredValue D) (clock : ℕ) (gathered : List Gathered) (ring : List SignerState) (prepared : StoredPreparedValue)
    → IsHashed old.press.at.set old.press.at.issued → IsPrepared (start_of old.press clock gathered) ring prepared.edition
    → prepared.delta ≡ delta_of old.press.rrdp.session prepared.edition → IsRecordOf old.press.at prepared.edition prepared.entry
    → CanAppend old.journal (length prepared.entry + 9) → new.press ≡ record old.press { ring = ring } → journal.IsSameButRoom old.journal new.journal
    → 0 < new.journal.places → CanCommit new prepared
can-commit law old new clock gathered ring prepared hashes is delta recorded can press place free = record {
  next = subst (λ (p : PressValue). IsNext p.site p.at prepared.edition) (sym press) is.next;
  delta = delta ∙ ap (λ (p : PressValue). delta_of p.rrdp.session prepared.edition) (sym press);
  hashed = law (start_of old.press clock gathered) ring prepared.edition is hashes;
  recorded = subst (λ (p : PressValue). IsRecordOf p.at prepared.edition prepared.entry) (sym press) recorded;
  place = free;
  fits = can-append old.journal new.journal (length prepared.entry + 9) place can;
}
