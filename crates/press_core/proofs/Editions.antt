-- What reading the editions of a journal finds.
use Rattle.std.proofs.Common.{◌≡◌, ◌≢◌, ◌<◌, ◌≤◌, ℕ, zero, suc, ◌+◌, ◌-◌, ◌^◌, ◌&&◌, eqb, leb, ltb, true, List, [], ◌∷◌, ◌++◌, map, length, take, drop, Option, Some, None, refl, sym, ◌∙◌, ap, subst, arith, inl, inr, length-append}
use Rattle.std.specs.Prelude.{IfSome, Err}
use Rattle.std.specs.List.{slice_get}
use Rattle.std.proofs.lemmas.Bool.{and_parts, eqb-true, leb-true, cases_lt}
use Rattle.std.proofs.lemmas.List.{take_more, length-take-le, map-append}
use Rattle.std.proofs.lemmas.Option.{slice_get_within, get_or_from_slice_get}
use Rattle.host_calls.specs.Rise.{HasRisen}
use Rattle.disk_api.specs.declared.disk.Disk.{Ghosts as DiskGhosts}
use Rattle.disk_api.specs.laws.RunLaws.{OnlyNow, rests_started, rests_far}
use Rattle.gate_journal.specs.View as journal
use Rattle.gate_journal.specs.View.{IsSafe}
use Rattle.key_roll.specs.declared.rows.KeyRow.{KeyRow}
use Rattle.record_forms.specs.Form.{AreBytes, Spells}
use Rattle.record_forms.specs.Forms.{read_whole}
use Rattle.record_forms.specs.Outcome.{IsUnlessMemory}
use Rattle.record_forms.specs.declared.fault.ReadFault.{ReadFault}
use Rattle.record_forms.specs.declared.fault.ReadFault.TheVariants.{Bad, Memory}
use Rattle.record_forms.specs.laws.ByteLaws.{passed, same-some}
use Rattle.record_forms.specs.laws.FormLaws.{whole-again, whole-taken}
use Rattle.press_records.specs.Rows.{RowValue, row_value}
use Rattle.press_records.specs.Edition.{EditionValue, StandingValue, nothing_stands, after_edition, editions, edition_of, fields_of, may_follow, is_next, is_dated, is_cut, grows, are_live, first_moment, last_moment}
use Rattle.press_records.specs.Changes.{uris_rise}
use Rattle.press_records.specs.Records.{after_editions, AreRecordsOf, Told, with_edition, told_behind, editions_told, IsFirstBad}
use Rattle.press_records.specs.Views.{RecoveredValue, recovered_standing, edition_value as read_value}
use Rattle.press_records.specs.declared.edition.ReadEdition.{ReadEdition}
use Rattle.press_records.specs.laws.EditionLaws.{editions-law}
use Rattle.press_records.specs.laws.RecordLaws.{after-last, one-more}
use Rattle.editions.specs.Edition.{Edition}
use Rattle.editions.specs.Edition as behind
use Rattle.editions.specs.Edition.{State, first_state, state_from, state_after, set_after}
use Rattle.pub_set.specs.declared.objects.Object.{Object}
use Rattle.pub_set.specs.Objects.{content_at, IsAscending}
use Rattle.pub_set.specs.Changes.{Contents, after_all}
use Rattle.rrdp_state.specs.declared.next.NextDelta.{NextDelta}
use Rattle.rrdp_state.specs.Editions as rrdp
use Rattle.rrdp_state.specs.Editions.{FollowEachOther, objects_of, next_delta, edition_delta}
use Rattle.rrdp_state.specs.Exported.{Repository}
use Rattle.rrdp_state.specs.Kept.{Kept}
use Rattle.rrdp_state.specs.Resuming.{IsToldBy}
use Rattle.press_core.specs.Files.{told, told_before, rrdp_editions}
use Rattle.press_core.specs.Records.{edition_value, standing_at}
use Rattle.press_core.specs.inner.Loads.{IsRead, IsAt, IsEditionAt, IsNoneAt, IsLast, AreReadTo, AreTakenIn, IsBadAt, IsBadIn, IsStop, bad_at, edition_read, repository_in}
use Rattle.press_core.specs.declared.loading.LoadFault.{LoadFault}
use Rattle.press_core.specs.declared.loading.LoadFault.TheVariants as why
use Rattle.press_core.proofs.Told.{follow_told, count_told, leave_told, behind_told}

abbrev Bytes : Type 0
Bytes = List ℕ

abbrev bad-at : ℕ → Told
bad-at index = inr index

-- ---- counts of faults

pub risen-later : (before mid after : ℕ) → before ≤ mid → HasRisen mid after → HasRisen before after
risen-later before mid after le (inl less) = inl (omega (arith, le, less))
risen-later before mid after le (inr full) =
    elim (cases_lt before after) [
      | inl less ↦ inl less
      | inr more ↦ inr ((let a = full.0 in let b = full.1 in omega (arith, le, more, a, b)), full.1)
    ]

-- ---- a journal that is read

module _ {D : Type 0} (disk_of : DiskGhosts D) where
  pub read-none : (now : journal.View D) → IsSafe disk_of now → OnlyNow disk_of → IsRead disk_of now now
  read-none now safe only_now = record {
    same = refl;
    disk = rests_started disk_of now.disk only_now;
    later = omega arith;
    safe = safe;
  }

  pub read-on : (old mid new : journal.View D) → IsRead disk_of old mid → IsRead disk_of mid new → IsRead disk_of old new
  read-on old mid new so_far more = record {
    same = more.same ∙ ap (λ (v : journal.View D). record v { disk = new.disk; shut = new.shut }) so_far.same;
    disk = rests_far disk_of old.disk mid.disk new.disk so_far.disk more.disk;
    later = (let a = so_far.later in let b = more.later in omega (arith, a, b));
    safe = more.safe;
  }

-- ---- a record

-- Where no edition is spelled, none is read.
pub none-read : (before : StandingValue) (bytes : Bytes) → AreBytes bytes
    → ((edition : EditionValue) → Spells (editions before) edition bytes → ⊥)
    → read_whole (editions before) bytes ≡ None
none-read before bytes are none = choose (read_whole (editions before) bytes) refl
  where
    choose : (o : Option EditionValue) → read_whole (editions before) bytes ≡ o → o ≡ None
    choose None e = refl
    choose (Some edition) e = absurd (none edition (whole-taken (editions before) (editions-law before) edition bytes are e))

pub bad-stop : {D : Type 0} (disk_of : DiskGhosts D) (records : Option (List Bytes)) (index : ℕ) (before : StandingValue) (bytes : Bytes) (old new : D)
    (fault : ReadFault) → IsAt records index bytes → AreBytes bytes
    → ((wanted : EditionValue) → Spells (editions before) wanted bytes → IsUnlessMemory {X = ReadEdition} read_value (Err fault) wanted)
    → IsStop disk_of (IsNoneAt records index before) old new (bad_at fault index)
bad-stop disk_of records index before bytes old new Bad at are only = record {
  is = refl;
  bytes = bytes;
  at_bytes = at;
  none = none-read before bytes are only;
}
bad-stop disk_of records index before bytes old new Memory at are only = tt

-- An edition that is recorded may follow.
follows : (before : StandingValue) (edition : EditionValue) → (editions before).good edition → may_follow before edition ≡ true
unfolding editions
follows before edition good = (passed (may_follow before (edition_of (fields_of edition))) (edition_of (fields_of edition)) edition good.1).0

pub record Follows (before : StandingValue) (edition : EditionValue) : Type 0 where
  pub serial : edition.serial ≡ before.serial + 1
  pub small : edition.serial ≤ 2 ^ 63
  pub last : IsLast edition.moment edition.cut edition.rows

pub follows-then : (before : StandingValue) (edition : EditionValue) → (editions before).good edition → Follows before edition
follows-then before edition good =
    let counted = is_next before.serial edition.serial in
    let dated = is_dated before.moment edition.moment in
    let cut = is_cut before.cut edition.cut in
    let live = are_live edition.moment edition.rows in
    let rising = uris_rise edition.changes in
    let a = and_parts (counted && dated && cut && live) rising (follows before edition good) in
    let b = and_parts (counted && dated && cut) live a.0 in
    let c = and_parts (counted && dated) cut b.0 in
    let d = and_parts counted dated c.0 in
    let next = and_parts (eqb edition.serial (before.serial + 1)) (leb edition.serial (2 ^ 63)) d.0 in
    let when = and_parts (ltb before.moment edition.moment && leb first_moment edition.moment) (leb edition.moment last_moment) d.1 in
    let from = and_parts (ltb before.moment edition.moment) (leb first_moment edition.moment) when.0 in
    let sized = and_parts (eqb (length edition.cut) 64) (grows before.cut edition.cut) c.1 in
    record {
      serial = eqb-true edition.serial (before.serial + 1) next.0;
      small = leb-true edition.serial (2 ^ 63) next.1;
      last = record {
        live = b.1;
        dated = (leb-true first_moment edition.moment from.1, leb-true edition.moment last_moment when.1);
        desks = eqb-true (length edition.cut) 64 sized.0;
      };
    }

-- ---- so many records

behind-first : (all : List Bytes) (count : ℕ) (bytes : Bytes) → slice_get all (count + 1) ≡ Some bytes → slice_get (drop 1 all) count ≡ Some bytes
behind-first [] count bytes e = absurd cc
behind-first (first ∷ all) count bytes e =
    let next : count + 1 ≡ suc count = omega arith in
    subst (λ (i : ℕ). slice_get (first ∷ all) i ≡ Some bytes) next e

front-more : (all : List Bytes) (count : ℕ) (bytes : Bytes) → slice_get all count ≡ Some bytes → take (count + 1) all ≡ take count all ++ bytes ∷ []
front-more all count bytes there =
    take_more all count [] (slice_get_within all count bytes there)
    ∙ ap (λ (b : Bytes). take count all ++ b ∷ []) (get_or_from_slice_get all count bytes [] there)

-- A list around one of its elements.
split-at : (all : List Bytes) (count : ℕ) (bytes : Bytes) → slice_get all count ≡ Some bytes → all ≡ take count all ++ bytes ∷ drop (count + 1) all
split-at [] count bytes e = absurd cc
split-at (first ∷ all) zero bytes e = ap (λ (b : Bytes). b ∷ all) (same-some first bytes e)
split-at (first ∷ all) (suc n) bytes e =
    let next : suc n + 1 ≡ suc (n + 1) = omega arith in
    ap (λ (l : List Bytes). first ∷ l) (split-at all n bytes e)
    ∙ ap (λ (i : ℕ). first ∷ (take n all ++ bytes ∷ drop i (first ∷ all))) (sym next)

-- One edition more.
told-more : (records : Option (List Bytes)) (read : List EditionValue) (count : ℕ) (next : EditionValue) (bytes : Bytes)
    → IfSome records (λ all. AreRecordsOf nothing_stands read (take count (drop 1 all)))
    → IsAt records (count + 1) bytes → Spells (editions (after_editions nothing_stands read)) next bytes
    → IfSome records (λ all. AreRecordsOf nothing_stands (read ++ next ∷ []) (take (count + 1) (drop 1 all)))
told-more None read count next bytes are at spelled = tt
told-more (Some all) read count next bytes are at spelled =
    subst (λ (l : List Bytes). AreRecordsOf nothing_stands (read ++ next ∷ []) l)
    (sym (front-more (drop 1 all) count bytes (behind-first all count bytes at)))
    (one-more nothing_stands read (take count (drop 1 all)) next bytes are spelled)

pub read-more : (records : Option (List Bytes)) (count : ℕ) (left new : RecoveredValue) (edition : ReadEdition)
    → AreReadTo records count left → IsEditionAt records (count + 1) (recovered_standing left) (read_value edition)
    → recovered_standing new ≡ after_edition (recovered_standing left) (read_value edition)
    → AreReadTo records (count + 1) new
read-more records count left new edition so_far at done =
    let next = edition_read edition in
    let values = map edition_value so_far.read in
    let follow = follows-then (recovered_standing left) (read_value edition) at.spelled.good in
    let more : map edition_value (so_far.read ++ next ∷ []) ≡ values ++ read_value edition ∷ [] = map-append edition_value so_far.read (next ∷ []) in
    let long = length-append so_far.read (next ∷ []) in
    let counted = so_far.counted in
    let number : new.serial ≡ left.serial + 1 = ap (λ (s : StandingValue). s.serial) done ∙ follow.serial in
    let serial = so_far.serial in
    record {
      read = so_far.read ++ next ∷ [];
      counted = omega (arith, long, counted);
      stands = done ∙ ap (λ (s : StandingValue). after_edition s (read_value edition)) so_far.stands
          ∙ sym (after-last nothing_stands values (read_value edition)) ∙ ap (after_editions nothing_stands) (sym more);
      serial = omega (arith, number, serial);
      told = subst (λ (l : List EditionValue). IfSome records (λ all. AreRecordsOf nothing_stands l (take (count + 1) (drop 1 all)))) (sym more)
          (told-more records values count (read_value edition) at.bytes so_far.told at.at
          (subst (λ (s : StandingValue). Spells (editions s) (read_value edition) at.bytes) so_far.stands at.spelled));
      last = λ _. subst (λ (s : StandingValue). IsLast s.moment s.cut s.rows) (sym done) follow.last;
    }

-- Before the first one.
pub read-first : (records : Option (List Bytes)) (left : RecoveredValue) → recovered_standing left ≡ nothing_stands → AreReadTo records 0 left
read-first records left none = record {
  read = [];
  counted = refl;
  stands = none;
  serial = ap (λ (s : StandingValue). s.serial) none;
  told = no-records records;
  last = λ is. absurd (is refl);
}
  where
    no-records : (o : Option (List Bytes)) → IfSome o (λ all. AreRecordsOf nothing_stands [] (take 0 (drop 1 all)))
    no-records None = tt
    no-records (Some all) = tt

-- ---- the first bad record

pub bad-next : (records : Option (List Bytes)) (count at : ℕ) (left : RecoveredValue) → AreReadTo records count left
    → IsNoneAt records (count + 1) (recovered_standing left) at → IsBadAt records at
bad-next None count at left so_far none = tt
bad-next (Some all) count at left so_far none =
    let there = behind-first all count none.bytes none.at_bytes in
    let front = length-take-le count (drop 1 all) (let inside = slice_get_within (drop 1 all) count none.bytes there in omega (arith, inside)) in
    let index = none.is in
    record {
      earlier = map edition_value so_far.read;
      front = take count (drop 1 all);
      bad = none.bytes;
      behind = drop (count + 1) (drop 1 all);
      is = split-at (drop 1 all) count none.bytes there;
      at = omega (arith, index, front);
      told = so_far.told;
      none = subst (λ (s : StandingValue). read_whole (editions s) none.bytes ≡ None) so_far.stands none.none;
    }

-- ---- why reading stops

module _ {D : Type 0} (disk_of : DiskGhosts D) where
  -- The records and their sizes are those from before a read.
  pub records-on : (old new : journal.View D) → IsRead disk_of old new → new.records ≡ old.records
  records-on old new read = ap (λ (v : journal.View D). v.records) read.same

  pub sizes-on : (old new : journal.View D) → IsRead disk_of old new → new.sizes ≡ old.sizes
  sizes-on old new read = ap (λ (v : journal.View D). v.sizes) read.same

  -- At the next edition.
  pub step-stop : (old mid : journal.View D) (new : D) (count : ℕ) (left : RecoveredValue) (fault : LoadFault) → IsRead disk_of old mid
      → AreReadTo old.records count left → count + 1 < length old.sizes
      → IsStop disk_of (IsNoneAt mid.records (count + 1) (recovered_standing left)) mid.disk new fault
      → IsStop disk_of (IsBadIn old) old.disk new fault
  step-stop old mid new count left (why.Damaged at) read so_far within stop = absurd stop
  step-stop old mid new count left (why.BadRecord at) read so_far within stop = (
    omega (arith, within),
    bad-next old.records count at left so_far
        (subst (λ (r : Option (List Bytes)). IsNoneAt r (count + 1) (recovered_standing left) at) (records-on old mid read) stop),
  )
  step-stop old mid new count left (why.SiteDiffers kept given) read so_far within stop = absurd stop
  step-stop old mid new count left why.DiskFault read so_far within stop =
      risen-later (disk_of.fault_count old.disk) (disk_of.fault_count mid.disk) (disk_of.fault_count new) read.later stop
  step-stop old mid new count left why.Memory read so_far within stop = tt

  -- After what was read before.
  pub later-stop : (old mid : journal.View D) (new : D) (fault : LoadFault) → IsRead disk_of old mid
      → IsStop disk_of (IsBadIn mid) mid.disk new fault → IsStop disk_of (IsBadIn old) old.disk new fault
  later-stop old mid new (why.Damaged at) read stop = absurd stop
  later-stop old mid new (why.BadRecord at) read stop = (
    subst (λ (l : List ℕ). 1 < length l) (sizes-on old mid read) stop.0,
    subst (λ (r : Option (List Bytes)). IsBadAt r at) (records-on old mid read) stop.1,
  )
  later-stop old mid new (why.SiteDiffers kept given) read stop = absurd stop
  later-stop old mid new why.DiskFault read stop =
      risen-later (disk_of.fault_count old.disk) (disk_of.fault_count mid.disk) (disk_of.fault_count new) read.later stop
  later-stop old mid new why.Memory read stop = tt

-- It is what the records tell.
told-bad : (earlier : List EditionValue) (front : List Bytes) (bad : Bytes) (behind : List Bytes) (index : ℕ) (before : StandingValue)
    → AreRecordsOf before earlier front → read_whole (editions (after_editions before earlier)) bad ≡ None
    → editions_told index (front ++ bad ∷ behind) before ≡ bad-at (index + length front)
told-bad [] [] bad behind index before are none =
    ap (told_behind index (editions_told (index + 1) behind) before) none
    ∙ ap bad-at (let same : index ≡ index + 0 = omega arith in same)
told-bad [] (one ∷ front) bad behind index before are none = absurd are
told-bad (edition ∷ earlier) [] bad behind index before are none = absurd are
told-bad (edition ∷ earlier) (one ∷ front) bad behind index before are none =
    let further : index + 1 + length front ≡ index + suc (length front) = omega arith in
    ap (told_behind index (editions_told (index + 1) (front ++ bad ∷ behind)) before) (whole-again (editions before) (editions-law before) edition one are.0)
    ∙ ap (with_edition edition) (told-bad earlier front bad behind (index + 1) (after_edition before edition) are.1 none)
    ∙ ap bad-at further

pub first-bad-told : (before : StandingValue) (first : ℕ) (records : List Bytes) (index : ℕ) → IsFirstBad before first records index
    → editions_told first records before ≡ bad-at index
first-bad-told before first records index is =
    ap (λ (l : List Bytes). editions_told first l before) is.is
    ∙ told-bad is.earlier is.front is.bad is.behind first before is.told is.none ∙ ap bad-at (sym is.at)

-- ---- rows

-- The same editions, of which the last one has those keys: a record tells a key by its bytes.
abbrev pub with-rows : List KeyRow → List Edition → List Edition
with-rows rows [] = []
with-rows rows (edition ∷ []) = record edition { rows = rows } ∷ []
with-rows rows (edition ∷ next ∷ editions) = edition ∷ with-rows rows (next ∷ editions)

same-values : (rows : List KeyRow) (read : List Edition) (before : StandingValue)
    → map row_value rows ≡ (after_editions before (map edition_value read)).rows → map edition_value (with-rows rows read) ≡ map edition_value read
same-values rows [] before is = refl
same-values rows (edition ∷ []) before is =
    ap (λ (values : List RowValue). with-values values (edition_value edition) ∷ []) is
  where
    with-values : List RowValue → EditionValue → EditionValue
    with-values values value = record value { rows = values }
same-values rows (edition ∷ next ∷ editions) before is =
    ap (λ (l : List EditionValue). edition_value edition ∷ l) (same-values rows (next ∷ editions) (after_edition before (edition_value edition)) is)

same-told : (rows : List KeyRow) (older : List rrdp.Edition) (read : List Edition) → told_before older (with-rows rows read) ≡ told_before older read
same-told rows older [] = refl
same-told rows older (edition ∷ []) = refl
same-told rows older (edition ∷ next ∷ editions) = same-told rows (told older edition ∷ older) (next ∷ editions)

-- To RRDP they are the same.
pub same-rrdp : (rows : List KeyRow) (read : List Edition) → rrdp_editions (with-rows rows read) ≡ rrdp_editions read
same-rrdp rows read = same-told rows [] read

last-rows : (rows : List KeyRow) (read : List Edition) (state : State) → read ≢ [] → (state_from state (with-rows rows read)).rows ≡ rows
last-rows rows [] state some = absurd (some refl)
last-rows rows (edition ∷ []) state some = refl
last-rows rows (edition ∷ next ∷ editions) state some =
    last-rows rows (next ∷ editions) (behind.after_edition state edition) (λ none. (let long = ap length none in absurd (omega (arith, long))))

length-with : (rows : List KeyRow) (read : List Edition) → length (with-rows rows read) ≡ length read
length-with rows [] = refl
length-with rows (edition ∷ []) = refl
length-with rows (edition ∷ next ∷ editions) = ap suc (length-with rows (next ∷ editions))

pub no-rows : (rows : List KeyRow) → map row_value rows ≡ [] → rows ≡ []
no-rows [] is = refl
no-rows (row ∷ rows) is = absurd (let long = ap length is in omega (arith, long))

-- The rows that stand then.
pub rows-then : (rows : List KeyRow) (read : List Edition) → map row_value rows ≡ (after_editions nothing_stands (map edition_value read)).rows
    → (state_after (with-rows rows read)).rows ≡ rows
rows-then rows [] is = sym (no-rows rows is)
rows-then rows (edition ∷ editions) is =
    last-rows rows (edition ∷ editions) first_state (λ none. (let long = ap length none in absurd (omega (arith, long))))

pub read-with : (records : Option (List Bytes)) (count : ℕ) (left : RecoveredValue) (rows : List KeyRow) (so_far : AreReadTo records count left)
    → map row_value rows ≡ left.rows → AreReadTo records count left
read-with records count left rows so_far is =
    let values = same-values rows so_far.read nothing_stands (is ∙ ap (λ (s : StandingValue). s.rows) so_far.stands) in
    record {
      read = with-rows rows so_far.read;
      counted = length-with rows so_far.read ∙ so_far.counted;
      stands = so_far.stands ∙ ap (after_editions nothing_stands) (sym values);
      serial = so_far.serial;
      told = subst (λ (l : List EditionValue). IfSome records (λ all. AreRecordsOf nothing_stands l (take count (drop 1 all)))) (sym values) so_far.told;
      last = so_far.last;
    }

pub rows-with : (records : Option (List Bytes)) (count : ℕ) (left : RecoveredValue) (rows : List KeyRow) (so_far : AreReadTo records count left)
    → (is : map row_value rows ≡ left.rows) → (state_after (read-with records count left rows so_far is).read).rows ≡ rows
unfolding read-with
rows-with records count left rows so_far is = rows-then rows so_far.read (is ∙ ap (λ (s : StandingValue). s.rows) so_far.stands)

pub rrdp-with : (records : Option (List Bytes)) (count : ℕ) (left : RecoveredValue) (rows : List KeyRow) (so_far : AreReadTo records count left)
    → (is : map row_value rows ≡ left.rows) → rrdp_editions (read-with records count left rows so_far is).read ≡ rrdp_editions so_far.read
unfolding read-with
rrdp-with records count left rows so_far is = same-rrdp rows so_far.read

-- ---- their deltas

-- What records say that editions leave is what editions leave.
pub left-same : (state : State) (later : List Edition) → after_editions (standing_at state) (map edition_value later) ≡ standing_at (state_from state later)
left-same state [] = refl
left-same state (edition ∷ later) = left-same (behind.after_edition state edition) later

abbrev pub OneSet : Type 0
OneSet = (a b : List Object) → IsAscending a → IsAscending b → ((uri : List ℕ) → content_at a uri ≡ content_at b uri) → a ≡ b

-- An edition more, whose delta was taken in.
pub taken-in : OneSet → (resuming kept : Kept) (held : Contents) (edition : ReadEdition) (set : List Object) (next : NextDelta)
    → ((uri : List ℕ) → content_at set uri ≡ held uri) → IsAscending set → next ≡ next_delta resuming.session (resuming.serial + 1) set edition.changes
    → ((repository : Repository) (told : ℕ) (older : List rrdp.Edition) (one : rrdp.Edition) → IsToldBy repository told older resuming
    → FollowEachOther (one ∷ older) → set ≡ one.objects → next ≡ edition_delta repository.session older one
    → IsToldBy repository (told + 1) (one ∷ older) kept)
    → (repository : Repository) (count : ℕ) (before : List Edition) → ((uri : List ℕ) → held uri ≡ after_all (set_after before) edition.changes uri)
    → IsToldBy repository count (rrdp_editions before) resuming
    → IsToldBy repository (count + 1) (rrdp_editions (before ++ edition_read edition ∷ [])) kept
taken-in one resuming kept held edition set next same up delta advance repository count before stood is =
    let older = rrdp_editions before in
    let added = told older (edition_read edition) in
    let longer = behind_told before (edition_read edition) in
    let follow : FollowEachOther (added ∷ older) = subst FollowEachOther longer (follow_told (before ++ edition_read edition ∷ [])) in
    let was : (uri : List ℕ) → set_after before uri ≡ content_at (objects_of older) uri = λ uri. sym (leave_told before uri) in
    let stands : set ≡ added.objects = one set added.objects up follow.0
    (λ uri. same uri ∙ stood uri ∙ ap (λ (h : Contents). after_all h edition.changes uri) (λ i u. was u i) ∙ sym (follow.1 uri)) in
    subst (λ (es : List rrdp.Edition). IsToldBy repository (count + 1) es kept) (sym longer)
    (advance repository count older added is follow stands
    (delta ∙ ap (λ (k : Kept). next_delta k.session (k.serial + 1) set edition.changes) is.state
    ∙ ap (λ (objects : List Object). next_delta repository.session (length older + 1) objects edition.changes) stands))

-- Before the newest ones nothing is told.
pub taken-none : (repository : Repository) (records : Option (List Bytes)) (older : ℕ) (left : RecoveredValue) (resuming : Kept)
    → AreReadTo records older left
    → ((editions : List rrdp.Edition) → FollowEachOther editions → length editions ≡ older → IsToldBy repository 0 editions resuming)
    → AreTakenIn repository records older older left resuming
taken-none repository records older left resuming so_far behind =
    let editions = rrdp_editions so_far.read in
    let long = count_told so_far.read in
    let counted = so_far.counted in
    let told = behind editions (follow_told so_far.read) (omega (arith, long, counted)) in
    let none : 0 ≡ older - older = omega arith in
    let serial = so_far.serial in
    let number = ap (λ (k : Kept). k.serial) told.state in
    record {
      so_far = so_far;
      behind = omega arith;
      told = subst (λ (n : ℕ). IsToldBy repository n editions resuming) none told;
      serial = omega (arith, long, counted, serial, number);
    }

-- One more is taken in.
pub taken-more : (repository : Repository) (records : Option (List Bytes)) (older count : ℕ) (left new : RecoveredValue) (resuming kept : Kept)
    (edition : ReadEdition) → AreTakenIn repository records older count left resuming
    → IsEditionAt records (count + 1) (recovered_standing left) (read_value edition)
    → recovered_standing new ≡ after_edition (recovered_standing left) (read_value edition)
    → kept.serial ≡ resuming.serial + 1
    → ((at : Repository) (told : ℕ) (before : List Edition) → ((uri : List ℕ) → content_at left.objects uri ≡ set_after before uri)
    → IsToldBy at told (rrdp_editions before) resuming → IsToldBy at (told + 1) (rrdp_editions (before ++ edition_read edition ∷ [])) kept)
    → AreTakenIn repository records older (count + 1) new kept
unfolding read-more
taken-more repository records older count left new resuming kept edition taken at done counted advance =
    let so_far = taken.so_far in
    let more = read-more records count left new edition so_far at done in
    let behind = taken.behind in
    let stands : recovered_standing left ≡ standing_at (state_after so_far.read) = so_far.stands ∙ left-same first_state so_far.read in
    let next : (count - older) + 1 ≡ count + 1 - older = omega (arith, behind) in
    let serial = taken.serial in
    let was = so_far.serial in
    let now = more.serial in
    record {
      so_far = more;
      behind = omega (arith, behind);
      told = subst (λ (n : ℕ). IsToldBy repository n (rrdp_editions (so_far.read ++ edition_read edition ∷ [])) kept) next
          (advance repository (count - older) so_far.read (λ uri. ap (λ (s : StandingValue). s.set uri) stands) taken.told);
      serial = omega (arith, counted, serial, was, now);
    }

-- Whose files they are, what is kept says.
pub own-repository : (repository : Repository) (records : Option (List Bytes)) (older count : ℕ) (left : RecoveredValue) (resuming : Kept)
    → AreTakenIn repository records older count left resuming → repository_in resuming ≡ repository
own-repository repository records older count left resuming taken = ap repository_in taken.told.state
