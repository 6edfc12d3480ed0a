-- The edition that is prepared can be recorded.
use Rattle.std.proofs.Common.{◌≡◌, ◌≢◌, ℕ, suc, ◌<◌, ◌≤◌, ◌&&◌, ltb, leb, Bool, true, false, not, cond, Option, None, Some, List, [], ◌∷◌, ◌++◌, map, filter, refl, sym, ap, subst, ◌∙◌, arith, inl, inr}
use Rattle.der.specs.Forms.{AreAll}
use Rattle.std.specs.Prelude.{All, AllPairs, Contains, option_map, get_or}
use Rattle.std.specs.List.{AllByRecursion, list_all, list_any}
use Rattle.std.specs.Str.{bytes_eq, is_utf8}
use Rattle.std.proofs.lemmas.Bool.{and_parts, and_from, le-leb, eq-eqb, ne_eqb, false_from_ne_true}
use Rattle.std.proofs.lemmas.Slice.Eq.{bytes_eq-Decides}
use Rattle.std.proofs.lemmas.List.Elements.{All-head, All-tail, filter-append}
use Rattle.sha1.specs.Sha1.{sha1}
use Rattle.sha2.specs.Sha256.{sha256}
use Rattle.items.specs.laws.AmongLaws.{In}
use Rattle.items.specs.laws.ElementLaws.{here, there}
use Rattle.items.specs.laws.PairLaws.{Each, Twos, each-at, twos-from, twos-same}
use Rattle.key_roll.specs.declared.rows.KeyRow.{KeyRow}
use Rattle.key_roll.specs.declared.rows.RevokedRow.{RevokedRow}
use Rattle.key_roll.specs.declared.work.KeyName.{KeyName}
use Rattle.key_roll.specs.declared.work.KeyName.TheVariants.{Live, Fresh}
use Rattle.crl_obj.specs.declared.values.CrlEntry.{CrlEntry}
use Rattle.crl_obj.specs.Values.{are_rising}
use Rattle.pub_set.specs.declared.steps.Change.{Change}
use Rattle.pub_set.specs.declared.steps.Change.TheVariants.{Withdraw}
use Rattle.pub_set.specs.Objects.{found_at}
use Rattle.pub_set.specs.Changes.{Contents, uri_of, change_at}
use Rattle.issue_keys.specs.Keys.{id_of}
use Rattle.issue_plan.specs.declared.keys.NextKey.{NextKey}
use Rattle.issue_drafts.specs.IssueInput.{IssueInput}
use Rattle.issue_drafts.specs.Firsts.{AreFirsts}
use Rattle.issue_drafts.specs.Revoking.{has_point, is_listed, candidates, revoked_row, is_superseded}
use Rattle.issue_drafts.specs.laws.UriOrder.{found-some}
use Rattle.issue_make.specs.Trace.{IssuingTrace, made_of, puts_of, hash_at, put_of, withdrawal_at, or_else, wanted_at, row_after}
use Rattle.editions.specs.Keys.{IsNextBy, AreEach}
use Rattle.editions.specs.laws.RowLaws.{either_row}
use Rattle.press_records.specs.Rows.{RowValue, row_value, row_of_key, lasting, carried, carried_by, added, merged, rise_behind, rise}
use Rattle.press_records.specs.Recordable.{IsTypedRow, IsRowOver, IsChangeOver}
use Rattle.press_records.specs.Edition.{grows, are_apart}
use Rattle.press_records.specs.Edition as records
use Rattle.press_records.specs.laws.CarryLaws.{entry_at, filtered-rise, carried-merged}
use Rattle.press_records.specs.laws.EntryLaws.{none-added}
use Rattle.press_records.specs.laws.KeyLaws.{is-key}

abbrev AreApartKeys : List KeyRow → Type 0
AreApartKeys rows = AllPairs (λ a b. id_of a ≢ id_of b) rows

apart-same : (rows : List KeyRow) → AreApartKeys rows → (a b : KeyRow) → Contains rows a → Contains rows b → id_of a ≡ id_of b → a ≡ b
apart-same rows apart a b one two same =
    twos-same (λ x y. id_of x ≢ id_of y) rows a b (twos-from (λ x y. id_of x ≢ id_of y) rows apart) one two (λ other. other same) (λ other. other (sym same))

-- ---- the entries of CRLs

-- As a CRL has it.
abbrev listed : RevokedRow → CrlEntry
listed row = record { serial = row.serial; revoked_at = row.revoked_at }

-- Entries that a CRL can have rise.
pub rises : (entries : List RevokedRow) → are_rising (map listed entries) ≡ true → rise entries ≡ true
rises [] up = refl
rises (entry ∷ []) up = refl
rises (entry ∷ next ∷ entries) up =
    let p = and_parts (ltb entry.serial next.serial) _ up in
    and_from (ltb entry.serial next.serial) (rise_behind next.serial entries) p.0 (rises (next ∷ entries) p.1)

-- The row of a live key's bytes is its own.
other-bytes : (a b : KeyRow) → id_of a ≢ id_of b → bytes_eq a.key.bytes b.key.bytes ≡ false
other-bytes a b other =
    false_from_ne_true (bytes_eq a.key.bytes b.key.bytes) (λ same. other (ap sha1 ((bytes_eq-Decides a.key.bytes b.key.bytes).0 same)))

row-found : (rows : List KeyRow) (row : KeyRow) → Twos (λ a b. id_of a ≢ id_of b) rows → In row rows
    → row_of_key (map row_value rows) row.key.bytes ≡ Some (row_value row)
row-found [] row apart at = absurd at
row-found (first ∷ rows) row apart (inl same) =
    rw ((bytes_eq-Decides first.key.bytes row.key.bytes).1 (ap (λ (r : KeyRow). r.key.bytes) same))
    (ap (λ (r : KeyRow). some-row (row_value r)) same)
  where
    some-row : RowValue → Option RowValue
    some-row r = Some r
row-found (first ∷ rows) row apart (inr at) =
    rw (other-bytes first row (each-in rows row apart.0 at)) (row-found rows row apart.1 at)
  where
    each-in : (l : List KeyRow) (r : KeyRow) → Each (λ b. id_of first ≢ id_of b) l → In r l → id_of first ≢ id_of r
    each-in [] r all at = absurd at
    each-in (x ∷ l) r all (inl same) = subst (λ (k : KeyRow). id_of first ≢ id_of k) same all.0
    each-in (x ∷ l) r all (inr at) = each-in l r all.1 at

in-from : (rows : List KeyRow) (row : KeyRow) → Contains rows row → In row rows
in-from rows row c = each-at (λ (r : KeyRow). In r rows) rows row (all-in rows rows (λ r at. at)) c
  where
    all-in : (l all : List KeyRow) → ((r : KeyRow) → In r l → In r all) → Each (λ (r : KeyRow). In r all) l
    all-in [] all up = tt
    all-in (x ∷ l) all up = (up x (inl refl), all-in l all (λ r at. up r (inr at)))

none-found : (rows : List KeyRow) (key : KeyRow) → All (λ live. id_of live ≢ id_of key) rows → row_of_key (map row_value rows) key.key.bytes ≡ None
none-found [] key apart = refl
none-found (first ∷ rows) key apart =
    rw (other-bytes first key (All-head (λ (live : KeyRow). id_of live ≢ id_of key) first rows apart))
    (none-found rows key (All-tail (λ (live : KeyRow). id_of live ≢ id_of key) first rows apart))

-- ---- a row of the edition

-- Each certificate ends at 1970 or later.
all-listed : (entries : List RevokedRow) → filter (λ (row : RevokedRow). leb 0 row.not_after) entries ≡ entries
all-listed [] = refl
all-listed (entry ∷ entries) = rw (le-leb 0 entry.not_after (omega arith)) (ap (λ (l : List RevokedRow). entry ∷ l) (all-listed entries))

module _ (s : IssueInput) (trace : IssuingTrace) where
  pub after-entries : (b : Bool) (key : KeyRow) → (either_row s trace key b).revoked ≡ trace.entries key
  after-entries true key = refl
  after-entries false key = refl

  -- The time of the key's CRL, and the entries that it goes on with.
  abbrev when-of : Bool → KeyRow → ℕ
  when-of true key = s.work.moment
  when-of false key = key.this_update

  abbrev carried-on : Bool → KeyRow → List RevokedRow
  carried-on true key = lasting key.this_update key.revoked
  carried-on false key = key.revoked

  listed-of : (b : Bool) (key : KeyRow) → has_point s trace.keys key ≡ b
      → filter (is_listed s trace.keys key) key.revoked ≡ carried-on b key
  listed-of true key has =
      ap (λ (t : Bool). filter (λ (row : RevokedRow). leb (cond t key.this_update 0) row.not_after) key.revoked) has
  listed-of false key has =
      ap (λ (t : Bool). filter (λ (row : RevokedRow). leb (cond t key.this_update 0) row.not_after) key.revoked) has
      ∙ all-listed key.revoked

  rising-of : (b : Bool) (key : KeyRow) → rise key.revoked ≡ true → rise (carried-on b key) ≡ true
  rising-of true key up = filtered-rise (λ (row : RevokedRow). leb key.this_update row.not_after) key.revoked up
  rising-of false key up = up

  -- The entries of a key's new CRL go on with those that its last one had, but for what had ended by it. Where the CRL
  -- stays, all of them do.
  going-on : (b : Bool) (key : KeyRow) → has_point s trace.keys key ≡ b → AreFirsts (candidates s trace.keys (puts_of s trace) key) (trace.entries key)
      → rise key.revoked ≡ true → rise (trace.entries key) ≡ true
      → merged (carried-on b key) (added (trace.entries key) (carried-on b key)) ≡ trace.entries key
  going-on b key has firsts up over =
      let others = map (revoked_row s.work.moment) (filter (is_superseded s (puts_of s trace) key) s.issued) in
      let all : candidates s trace.keys (puts_of s trace) key ≡ carried-on b key ++ filter (is_listed s trace.keys key) others =
      filter-append (is_listed s trace.keys key) key.revoked others
      ∙ ap (λ (l : List RevokedRow). l ++ filter (is_listed s trace.keys key) others) (listed-of b key has) in
      carried-merged (carried-on b key) (filter (is_listed s trace.keys key) others) (trace.entries key)
      (rising-of b key up)
      over
      (λ serial. firsts.each serial ∙ ap (λ (l : List RevokedRow). entry_at l serial) all)

  module _ (rows : List KeyRow) (apart : AreApartKeys rows) (later : (row : KeyRow) → Contains rows row → row.this_update < s.work.moment)
      (rising : (row : KeyRow) → Contains rows row → rise row.revoked ≡ true) where
    abbrev Carried : List RevokedRow → KeyRow → Type 0
    Carried known key = merged known (added (trace.entries key) known) ≡ trace.entries key

    -- What the row's CRL had, as the next one goes on with it.
    carried-row : (b : Bool) (row key : KeyRow) → Contains rows row → key.this_update ≡ row.this_update → key.revoked ≡ row.revoked
        → carried (Some (row_value row)) (when-of b key) ≡ carried-on b key
    carried-row true row key live when entries =
        let less = later row live in
        rw (ne_eqb s.work.moment row.this_update (λ same. omega (arith, less, same)))
        (λ i. lasting (sym when i) (sym entries i))
    carried-row false row key live when entries = rw (eq-eqb key.this_update row.this_update when) (sym entries)

    carried-live : (b : Bool) (row key : KeyRow) → Contains rows row → key.key ≡ row.key → key.this_update ≡ row.this_update → key.revoked ≡ row.revoked
        → has_point s trace.keys key ≡ b → AreFirsts (candidates s trace.keys (puts_of s trace) key) (trace.entries key)
        → rise (trace.entries key) ≡ true
        → Carried (carried_by (map row_value rows) key.key.bytes (when-of b key)) key
    carried-live b row key live same when entries has firsts over =
        let found : row_of_key (map row_value rows) key.key.bytes ≡ Some (row_value row) =
        ap (λ (k : List ℕ). row_of_key (map row_value rows) k) (ap (λ k. k.bytes) same)
        ∙ row-found rows row (twos-from (λ a b. id_of a ≢ id_of b) rows apart) (in-from rows row live) in
        let known : carried_by (map row_value rows) key.key.bytes (when-of b key) ≡ carried-on b key =
        ap (λ (o : Option RowValue). carried o (when-of b key)) found ∙ carried-row b row key live when entries in
        subst (λ (l : List RevokedRow). Carried l key) (sym known)
        (going-on b key has firsts (ap rise entries ∙ rising row live) over)

    carried-new : (moment : ℕ) (key : KeyRow) → All (λ live. id_of live ≢ id_of key) rows
        → Carried (carried_by (map row_value rows) key.key.bytes moment) key
    carried-new moment key other =
        subst (λ (l : List RevokedRow). Carried l key)
        (sym (ap (λ (o : Option RowValue). carried o moment) (none-found rows key other)))
        (none-added (trace.entries key))

    pub carried-by : (b : Bool) (next : NextKey) (name : KeyName) (key : KeyRow) → IsNextBy rows next name key
        → has_point s trace.keys key ≡ b → AreFirsts (candidates s trace.keys (puts_of s trace) key) (trace.entries key)
        → rise (trace.entries key) ≡ true → Carried (carried_by (map row_value rows) key.key.bytes (when-of b key)) key
    carried-by b next (Live id) key is has firsts over =
        carried-live b is.row key is.live (ap (λ (r : KeyRow). r.key) is.same) (ap (λ (r : KeyRow). r.this_update) is.same)
        (ap (λ (r : KeyRow). r.revoked) is.same) has firsts over
    carried-by b next (Fresh desk) key is has firsts over = carried-new (when-of b key) key is.apart

    -- A row that has numbers of its types can be recorded.
    row-over : (b : Bool) (next : NextKey) (key : KeyRow) → IsNextBy rows next next.name key → has_point s trace.keys key ≡ b
        → AreFirsts (candidates s trace.keys (puts_of s trace) key) (trace.entries key) → rise (trace.entries key) ≡ true
        → IsTypedRow (row_value (either_row s trace key b)) → IsRowOver (map row_value rows) (row_value (either_row s trace key b))
    row-over true next key is has firsts over typed = record {
      desk = typed.desk;
      signer = typed.signer;
      size = key.key.spelled.whole;
      form = is-key key.key.bytes key.key.spelled;
      next_serial = typed.next_serial;
      number = typed.number;
      this_update = typed.this_update;
      since = typed.since;
      done = typed.done;
      entries = typed.entries;
      rising = over;
      carried = carried-by true next next.name key is has firsts over;
    }
    row-over false next key is has firsts over typed = record {
      desk = typed.desk;
      signer = typed.signer;
      size = key.key.spelled.whole;
      form = is-key key.key.bytes key.key.spelled;
      next_serial = typed.next_serial;
      number = typed.number;
      this_update = typed.this_update;
      since = typed.since;
      done = typed.done;
      entries = typed.entries;
      rising = over;
      carried = carried-by false next next.name key is has firsts over;
    }

    pub rows-over : (nexts : List NextKey) (keys : List KeyRow) → AreEach rows nexts keys
        → ((key : KeyRow) → Contains keys key → AreFirsts (candidates s trace.keys (puts_of s trace) key) (trace.entries key))
        → ((key : KeyRow) → Contains keys key → rise (trace.entries key) ≡ true)
        → AllByRecursion IsTypedRow (map row_value (map (row_after s trace) keys))
        → AllByRecursion (IsRowOver (map row_value rows)) (map row_value (map (row_after s trace) keys))
    rows-over [] [] are firsts over typed = tt
    rows-over [] (key ∷ keys) are firsts over typed = absurd are
    rows-over (next ∷ nexts) [] are firsts over typed = absurd are
    rows-over (next ∷ nexts) (key ∷ keys) are firsts over typed = (
      row-over (has_point s trace.keys key) next key are.0 refl (firsts key (here key keys)) (over key (here key keys)) typed.0,
      rows-over nexts keys are.1 (λ k c. firsts k (there key keys k c)) (λ k c. over k (there key keys k c)) typed.1,
    )

-- ---- the changes

abbrev some-change : Change → Option Change
some-change change = Some change

same-change : (a b : Change) → some-change a ≡ some-change b → a ≡ b
same-change a b e = cc

module _ (s : IssueInput) (trace : IssuingTrace) (held : Contents)
    (hashes : (uri : List ℕ) → hash_at s uri ≡ option_map sha256 (held uri)) where
  withdrawal-over : (uri : List ℕ) (change : Change) (hash : Option (List ℕ)) → hash_at s uri ≡ hash
      → option_map (λ h. Withdraw uri h) hash ≡ some-change change → is_utf8 (uri_of change) ≡ true → IsChangeOver held change
  withdrawal-over uri change None is e text = absurd cc
  withdrawal-over uri change (Some hash) is e text =
      let same = same-change (Withdraw uri hash) change e in
      subst (IsChangeOver held) same (ap is_utf8 (ap uri_of same) ∙ text, sym (hashes uri) ∙ is)

  change-over : (uri : List ℕ) (change : Change) → wanted_at s trace uri ≡ some-change change → is_utf8 (uri_of change) ≡ true → IsChangeOver held change
  change-over uri change wanted text = by (found_at (λ x. x.draft.uri) (put_of s trace) (made_of trace) uri) refl wanted
    where
      withdrawn : (b : Bool) → cond b (option_map (λ h. Withdraw uri h) (hash_at s uri)) None ≡ some-change change → IsChangeOver held change
      withdrawn true h = withdrawal-over uri change (hash_at s uri) refl h text
      withdrawn false h = absurd cc

      by : (o : Option Change) → found_at (λ x. x.draft.uri) (put_of s trace) (made_of trace) uri ≡ o
          → or_else o (withdrawal_at s uri) ≡ some-change change → IsChangeOver held change
      by (Some put) e h =
          let found = found-some (λ x. x.draft.uri) (put_of s trace) (made_of trace) uri change (e ∙ h) in
          subst (IsChangeOver held) found.3 (ap is_utf8 (ap uri_of found.3) ∙ text, hashes found.0.draft.uri)
      by None e h = withdrawn (list_any (λ w. bytes_eq w uri) s.work.withdrawn) h

  pub changes-over : (changes some : List Change) → ((uri : List ℕ) → change_at changes uri ≡ wanted_at s trace uri)
      → ((change : Change) → In change some → change_at changes (uri_of change) ≡ some-change change)
      → AllByRecursion (λ change. is_utf8 (uri_of change) ≡ true) some → AllByRecursion (IsChangeOver held) some
  changes-over changes [] wanted at texts = tt
  changes-over changes (change ∷ rest) wanted at texts = (
    change-over (uri_of change) change (sym (wanted (uri_of change)) ∙ at change (inl refl)) texts.0,
    changes-over changes rest wanted (λ c in-rest. at c (inr in-rest)) texts.1,
  )

-- ---- what may follow

pub grown : (before cut : List ℕ) → ((desk : ℕ) → get_or before desk 0 ≤ get_or cut desk 0) → grows before cut ≡ true
grown [] cut le = refl
grown (n ∷ before) [] le = and_from (leb n 0) (grows before []) (le-leb n 0 (le 0)) (grown before [] (λ desk. le (suc desk)))
grown (n ∷ before) (m ∷ cut) le = and_from (leb n m) (grows before cut) (le-leb n m (le 0)) (grown before cut (λ desk. le (suc desk)))

-- Entries that a CRL can have at a moment are past.
pub past-entries : (moment : ℕ) (entries : List RevokedRow) → AreAll (λ row. (946_684_800 ≤ row.revoked_at) × (row.revoked_at ≤ moment)) entries
    → list_all (λ entry. leb 946_684_800 entry.revoked_at && leb entry.revoked_at moment) entries ≡ true
past-entries moment [] dated = refl
past-entries moment (entry ∷ entries) dated =
    and_from (leb 946_684_800 entry.revoked_at && leb entry.revoked_at moment) _
    (and_from (leb 946_684_800 entry.revoked_at) (leb entry.revoked_at moment) (le-leb 946_684_800 entry.revoked_at dated.0.0) (le-leb entry.revoked_at moment dated.0.1))
    (past-entries moment entries dated.1)

pub ids-apart : (rows : List KeyRow) → Twos (λ a b. id_of a ≢ id_of b) rows → are_apart (map records.id_of (map row_value rows)) ≡ true
ids-apart [] apart = refl
ids-apart (row ∷ rows) apart =
    and_from (not (list_any (bytes_eq (id_of row)) (map records.id_of (map row_value rows)))) _
    (ap not (none-among rows apart.0)) (ids-apart rows apart.1)
  where
    none-among : (l : List KeyRow) → Each (λ b. id_of row ≢ id_of b) l → list_any (bytes_eq (id_of row)) (map records.id_of (map row_value l)) ≡ false
    none-among [] all = refl
    none-among (x ∷ l) all =
        rw (false_from_ne_true (bytes_eq (id_of row) (id_of x)) (λ same. all.0 ((bytes_eq-Decides (id_of row) (id_of x)).0 same)))
        (none-among l all.1)
