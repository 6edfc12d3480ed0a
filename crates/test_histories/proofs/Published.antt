-- An edition is published, and the history goes on.
use Rattle.std.proofs.Common.{◌≡◌, ℕ, ◌<◌, ◌≤◌, refl, sym, subst, ◌∙◌, ap, true, false, List, [], ◌∷◌, ◌++◌, length, get_or, append_assoc, append-nil, Some}
use Rattle.std.specs.Prelude.{Bool, ◌&&◌, ◌||◌, All, Option, None, IfSome, slice_get}
use Rattle.std.specs.List.{list_any}
use Rattle.std.specs.Str.{bytes_eq}
use Rattle.std.proofs.lemmas.Bool.{false≢true}
use Rattle.std.proofs.lemmas.Slice.Eq.{bytes_eq-Decides}
use Rattle.std.proofs.lemmas.List.Elements.{All-nil, All-cons}
use Rattle.std.proofs.lemmas.List.Folds.{list_any-append}
use Rattle.disk_api.specs.declared.memory.MemoryDisk.{MemoryDisk}
use Rattle.authority_book.specs.declared.commands.Command.{Command}
use Rattle.authority_book.specs.declared.rows.NameRow.{NameRow}
use Rattle.desk_core.specs.View.{View}
use Rattle.entitle.specs.Certified.{names_of}
use Rattle.key_ids.specs.Uris.{Bases}
use Rattle.pub_set.specs.declared.steps.Change.{Change}
use Rattle.pub_set.specs.declared.steps.Change.TheVariants.{Put, Withdraw}
use Rattle.signer_api.specs.State.{SignerState, Signed}
use Rattle.signer_ring.specs.Calls.{Call}
use Rattle.signer_ring.specs.Calls.Call.{Makes, Signs, Once}
use Rattle.editions.specs.Edition.{Edition}
use Rattle.editions.specs.Step.{Premises}
use Rattle.editions.specs.Gathering.{AreGathered, AreAccepted, configs_with}
use Rattle.editions.specs.declared.gathered.Gathered.{Gathered}
use Rattle.editions.specs.declared.published_state.PublishedNumbers.{PublishedNumbers}
use Rattle.editions.specs.PlannedAndMade.{CanBeRead}
use Rattle.editions.specs.PublishedState.{PublishedStateValue}
use Rattle.editions.specs.VouchedCalls.{IsVouchedBy}
use Rattle.press_records.specs.Store.{Store as Owner}
use Rattle.press_core.specs.Press.{PressValue}
use Rattle.press_core.specs.PrepareInput.{start_of}
use Rattle.press_core.specs.Planned.{calls_for}
use Rattle.press_core.specs.Stands.{IsLeftBy, StandsFor}
use Rattle.press_core.specs.Follows.{edition_of, AreBehind, Follows, IsNextEdition}
use Rattle.press_core.specs.JournalRecords.{AreRecords, press_limit, store_for}
use Rattle.press_core.specs.Stored.{StoredValue, StoredPreparedValue, CanCommit, store_of as owner_of}
use Rattle.gate_journal.specs.View.{HasSizes}
use Rattle.histories.specs.Devices.{Device, Signature, Store, is_signature, are_vouched, lists_of, with_one, failed}
use Rattle.histories.specs.Events.{Event, Happening, after, signing}
use Rattle.histories.specs.Events.Event.{Publish, PressFault}
use Rattle.histories.specs.Legal.{IsOfBytes, IsAllowed, IsLegal, MayBePublished, ground_of, press_bytes_for}
use Rattle.test_histories.specs.declared.done.Done.{Done}
use Rattle.test_histories.specs.declared.done.Done.TheVariants as told
use Rattle.test_histories.specs.Committed.{IsWritten, IsUnwritten, IsCommitted}
use Rattle.test_histories.specs.Told.{IsTold, AreTold}
use Rattle.test_histories.specs.Gathered.{AreSince}
use Rattle.test_histories.specs.Standing.{AreDesks, IsInDoubt, MayStandFor, IsPress, store_of, IsAt}
use Rattle.test_histories.proofs.More.{MoreStands, left_then, legal_then, told_then, same_are_more, still_vouched}
use Rattle.test_histories.proofs.PressAt.{RecordsGoOn, IsLike, has_room, holds_like, holds_written, live_in, press_like}
use Rattle.test_histories.proofs.Places.{lists_long, desks_long}
use Rattle.test_histories.proofs.Gathered.{are_gathered, they_go_on, they_are_accepted, their_names, within_cut}

-- ---- the signatures of calls

abbrev signature_of : Signed → Signature
signature_of one = record { key = one.key; digest = one.digest; bytes = one.signature }

abbrev signatures : List Call → List Signature
signatures [] = []
signatures (Makes signer key ∷ calls) = signatures calls
signatures (Signs signer one ∷ calls) = signature_of one ∷ signatures calls
signatures (Once signer one ∷ calls) = signature_of one ∷ signatures calls

all_three : (a b c : Bool) → a ≡ true → b ≡ true → c ≡ true → (a && b && c) ≡ true
all_three true true true x y z = refl
all_three true true false x y z = absurd (false≢true z)
all_three true false c x y z = absurd (false≢true y)
all_three false b c x y z = absurd (false≢true x)

or_true : (b : Bool) → (b || true) ≡ true
or_true true = refl
or_true false = refl

same_bytes : (bytes : List ℕ) → bytes_eq bytes bytes ≡ true
same_bytes bytes = (bytes_eq-Decides bytes bytes).1 refl

-- It is vouched where its signature stands in the list.
among : (before : List Signature) (one : Signed) (later : List Signature)
    → are_vouched (before ++ signature_of one ∷ later) one.key one.digest one.signature ≡ true
among before one later =
    let test = is_signature one.key one.digest one.signature in
    let self : test (signature_of one) ≡ true =
    all_three (bytes_eq one.key one.key) (bytes_eq one.digest one.digest) (bytes_eq one.signature one.signature)
    (same_bytes one.key) (same_bytes one.digest) (same_bytes one.signature) in
    list_any-append test before (signature_of one ∷ later)
    ∙ (ap (λ (b : Bool). list_any test before || (b || list_any test later)) self ∙ or_true (list_any test before))

vouched_all : (before : List Signature) (calls : List Call) → All (IsVouchedBy (are_vouched (before ++ signatures calls))) calls
vouched_all before [] = All-nil (IsVouchedBy (are_vouched (before ++ [])))
vouched_all before (Makes signer key ∷ calls) =
    All-cons (IsVouchedBy (are_vouched (before ++ signatures calls))) (Makes signer key) calls tt (vouched_all before calls)
vouched_all before (Signs signer one ∷ calls) =
    let all = before ++ signature_of one ∷ signatures calls in
    All-cons (IsVouchedBy (are_vouched all)) (Signs signer one) calls (among before one (signatures calls))
    (subst (λ (s : List Signature). All (IsVouchedBy (are_vouched s)) calls) (append_assoc before (signature_of one ∷ []) (signatures calls))
    (vouched_all (before ++ signature_of one ∷ []) calls))
vouched_all before (Once signer one ∷ calls) =
    let all = before ++ signature_of one ∷ signatures calls in
    All-cons (IsVouchedBy (are_vouched all)) (Once signer one) calls (among before one (signatures calls))
    (subst (λ (s : List Signature). All (IsVouchedBy (are_vouched s)) calls) (append_assoc before (signature_of one ∷ []) (signatures calls))
    (vouched_all (before ++ signature_of one ∷ []) calls))

of_bytes : (change : Change) → CanBeRead change → IsOfBytes change
of_bytes (Put uri bytes replaces) can = can.bytes
of_bytes (Withdraw uri hash) can = tt

-- ---- what the press is handed

module _ (desks : List (View MemoryDisk)) (press : StoredValue MemoryDisk) (done : List Done) (at : IsAt desks press done) where
  pub all_desks : length desks ≡ 64
  all_desks = desks_long 0 desks at.devices at.stand ∙ at.all

  as_many : length press.press.at.cut ≡ length at.devices
  as_many = sym at.is_press.stands.left.desks ∙ lists_long at.devices

  pub whole_cut : length press.press.at.cut ≡ 64
  whole_cut = as_many ∙ at.all

  pub within_desks : (number : ℕ) (desk : View MemoryDisk) → slice_get desks number ≡ Some desk
      → get_or press.press.at.cut number 0 ≤ length desk.records
  within_desks = within_cut desks at.devices press.press.at.cut at.stand at.is_press.stands.left.taken_in

  pub standing : (devices : List (Device Command)) × AreDesks 0 desks devices
  standing = (at.devices, at.stand)

  pub signers_are : length press.press.ring ≡ 2
  signers_are = at.is_press.signers

  pub live_rows : All (λ row. row.signer < length press.press.ring) press.press.at.rows
  live_rows = at.is_press.live

  -- Where a place was found, nothing was in doubt.
  pub settled_before : (mid : StoredValue MemoryDisk) → IsLike press mid → mid.journal.shut ≡ None → mid.journal.doubt ≡ None
  settled_before mid like open_now =
      let none : at.device.doubt ≡ None = at.is_press.settled (at.is_press.opens (sym like.shut ∙ open_now)) in
      like.doubt ∙ subst (λ (o : Option Edition). IsInDoubt (owner_of press) at.device.list at.is_press.holds.records o press.journal.doubt) none at.is_press.doubted

  pub limit_before : (mid : StoredValue MemoryDisk) → IsLike press mid → mid.journal.limit ≡ press_limit
  limit_before mid like = like.limit ∙ at.is_press.limit

  -- Signers were asked, and nothing else was done.
  pub asked : (new : StoredValue MemoryDisk) → IsLike press new → new.press.site ≡ press.press.site → IsAt desks new done
  asked new like same_site = record {
    history = at.history;
    told = at.told;
    legal = subst (λ (site : Bases). IsLegal site at.history) (sym same_site) at.legal;
    devices = at.devices;
    device = at.device;
    vouched = at.vouched;
    left = at.left;
    stand = at.stand;
    all = at.all;
    is_press = subst (λ (site : Bases). IsPress new at.device (ground_of site (store_of at.devices at.device at.vouched))) (sym same_site)
        (press_like press new at.device (ground_of press.press.site (store_of at.devices at.device at.vouched)) like at.is_press);
  }

  -- No edition was prepared.
  pub refused : (code : ℕ) → IsAt desks press (done ++ told.Refused code ∷ [])
  refused code = record {
    history = at.history;
    told = subst (λ h. AreTold (done ++ told.Refused code ∷ []) h) (append-nil at.history)
        (told_then done at.history (told.Refused code) [] at.told refl);
    legal = at.legal;
    devices = at.devices;
    device = at.device;
    vouched = at.vouched;
    left = at.left;
    stand = at.stand;
    all = at.all;
    is_press = at.is_press;
  }

  module _ (groups : List Gathered) (since : AreSince 0 desks press.press.at.cut groups) where
    pub gathered : AreGathered press.press.at.cut groups
    gathered = are_gathered desks press.press.at.cut groups since

    pub accepted : AreAccepted press.press.at.configs groups
    accepted = they_are_accepted desks at.devices press.press.at.cut groups at.stand since (sym as_many) press.press.at.configs at.is_press.stands.left.configs

    pub names_signed : (anchor : View MemoryDisk) → slice_get desks 0 ≡ Some anchor → All (λ name. name.signer < 2) anchor.settings.names
        → All (λ name. name.signer < length press.press.ring) (names_of (configs_with press.press.at.configs groups))
    names_signed anchor there all =
        subst (λ (n : ℕ). All (λ (name : NameRow). name.signer < n) (names_of (configs_with press.press.at.configs groups))) (sym signers_are)
        (subst (λ (names : List NameRow). All (λ name. name.signer < 2) names)
        (sym (their_names desks at.devices press.press.at.cut groups at.stand since (sym as_many) press.press.at.configs at.is_press.stands.left.configs anchor there)) all)

    -- ---- the edition

    module _ (more_stands : MoreStands) (go_on : RecordsGoOn) (clock : ℕ) (ring : List SignerState) (prepared : StoredPreparedValue)
        (next : IsNextEdition (start_of press.press clock groups) ring prepared.edition) (mid : StoredValue MemoryDisk) (like : IsLike press mid)
        (same_site : mid.press.site ≡ press.press.site) (sizes : HasSizes mid.journal) (can : CanCommit mid prepared) where
      abbrev calls : List Call
      calls = calls_for (start_of press.press clock groups) ring prepared.edition next.is_prepared

      abbrev signed : List Signature
      signed = signatures calls

      abbrev before : Store
      before = store_of at.devices at.device at.vouched

      abbrev premises : Premises
      premises = ground_of press.press.site (signing before signed)

      abbrev list : List Edition
      list = at.device.list

      abbrev edition : Edition
      edition = edition_of prepared.edition

      behind : AreBehind (start_of press.press clock groups) calls premises list
      behind = record {
        stands = more_stands (ground_of press.press.site before) premises list press.press.at (record {
          lists = same_are_more (lists_of at.devices);
          site = refl;
          vouched = still_vouched at.vouched signed;
        }) at.is_press.stands;
        gathered = they_go_on desks at.devices press.press.at.cut groups at.stand since (sym as_many) at.is_press.stands.left.taken_in;
        site = refl;
        vouched = vouched_all at.vouched calls;
      }

      pub follows : Follows premises clock list prepared.edition
      follows = next.follows premises list behind

      -- ---- its record

      mid_press : IsPress mid at.device (ground_of press.press.site before)
      mid_press = press_like press mid at.device (ground_of press.press.site before) like at.is_press

      left : IsLeftBy premises.lists list mid.press.at
      left = mid_press.stands.left

      -- What it would be found with.
      records : AreRecords (owner_of mid) (list ++ edition ∷ []) (mid_press.holds.records ++ prepared.entry ∷ [])
      records = go_on premises.lists list mid.press.at prepared.edition (owner_of mid) mid_press.holds.records prepared.entry left
          mid_press.holds.are can.recorded

      fits : press_bytes_for press.press.site (list ++ edition ∷ []) ≤ press_limit
      fits = subst (λ (site : Bases). press_bytes_for site (list ++ edition ∷ []) ≤ press_limit) same_site
          (has_room mid list mid_press.holds edition prepared.entry sizes mid_press.limit can.fits records)

      pub is_open : at.device.shut ≡ false
      is_open = mid_press.opens can.fits.is_open

      none_doubted : at.device.doubt ≡ None
      none_doubted = at.is_press.settled is_open

      pub may : MayBePublished press.press.site (signing before signed) edition
      may =
          let made = next.is_prepared.made in
          record {
            running = refl;
            is_open = is_open;
            next = record {
              held = subst (λ (changes : List Change). All IsOfBytes changes) (sym made.changes)
                  (λ k d within. of_bytes (get_or made.made.changes k d) (made.readable k d within));
              clock = clock;
              step = follows.step;
              fits = fits;
            };
          }

      -- ---- it is written, or a call of the disk fails

      abbrev vouched : List Signature
      vouched = at.vouched ++ signed

      -- The press behind what happened, of which that is told.
      happened : (one : Done) (event : Event) (device : Device Edition) (new : StoredValue MemoryDisk)
          → IsTold one (record { signed = signed; event = event } ∷ []) → IsAllowed press.press.site (signing before signed) event
          → after (signing before signed) event ≡ store_of at.devices device vouched
          → new.press.site ≡ press.press.site → IsPress new device premises → IsAt desks new (done ++ one ∷ [])
      happened one event device new is_told allowed leaves site is =
          let next_one : Happening = record { signed = signed; event = event } in
          record {
            history = at.history ++ next_one ∷ [];
            told = told_then done at.history one (next_one ∷ []) at.told is_told;
            legal = subst (λ (s : Bases). IsLegal s (at.history ++ next_one ∷ [])) (sym site)
                (legal_then press.press.site at.history before at.left at.legal next_one allowed);
            devices = at.devices;
            device = device;
            vouched = vouched;
            left = left_then at.history before at.left next_one ∙ leaves;
            stand = at.stand;
            all = at.all;
            is_press = subst (λ (s : Bases). IsPress new device (ground_of s (store_of at.devices device vouched))) (sym site) is;
          }

      written : (numbers : PublishedNumbers) (new : StoredValue MemoryDisk) → IsWritten mid prepared numbers new
          → IsPress new (with_one edition at.device) premises
      written numbers new is =
          let holds = holds_written mid prepared numbers new premises.lists list is left mid_press.holds in
          record {
            holds = holds;
            limit = is.limit ∙ mid_press.limit;
            opens = λ none. is_open;
            settled = at.is_press.settled;
            doubted = subst (λ (o : Option Edition). IsInDoubt (owner_of new) (list ++ edition ∷ []) holds.records o new.journal.doubt) (sym none_doubted) is.settled;
            stands = subst (λ (state : PublishedStateValue). StandsFor premises (list ++ edition ∷ []) state) (sym is.at) follows.stands;
            next = subst (λ (o : Option Edition). IfSome o (λ e. MayStandFor premises ((list ++ edition ∷ []) ++ e ∷ []))) (sym none_doubted) tt;
            live = live_in prepared.edition.next new (length press.press.ring) is.at (is.signers ∙ like.signers) next.is_prepared.signers;
            signers = is.signers ∙ mid_press.signers;
          }

      unwritten : (new : StoredValue MemoryDisk) → IsUnwritten mid prepared new → IsPress new (failed edition at.device) premises
      unwritten new is =
          let owner : owner_of new ≡ owner_of mid = ap (λ (p : PressValue). store_for p.rrdp.session p.site) is.press in
          let ring : length new.press.ring ≡ length mid.press.ring = ap (λ (p : PressValue). length p.ring) is.press in
          let same_at : new.press.at ≡ press.press.at = ap (λ (p : PressValue). p.at) is.press ∙ like.at in
          record {
            holds = holds_like mid new list owner is.records mid_press.holds;
            limit = is.limit ∙ mid_press.limit;
            opens = λ none. absurd (is.shut none);
            settled = λ never. absurd (false≢true (sym never));
            doubted = (
              prepared.entry,
              is.doubt,
              subst (λ (o : Owner). AreRecords o (list ++ edition ∷ []) (mid_press.holds.records ++ prepared.entry ∷ [])) (sym owner) records,
            );
            stands = subst (λ (state : PublishedStateValue). StandsFor premises list state) (sym same_at) behind.stands;
            next = (prepared.edition.next, follows.stands);
            live = live_in press.press.at new (length press.press.ring) same_at (ring ∙ like.signers) at.is_press.live;
            signers = ring ∙ mid_press.signers;
          }

      pub committed : (one : Done) (new : StoredValue MemoryDisk) → IsCommitted mid prepared one new → IsAt desks new (done ++ one ∷ [])
      committed (told.Published numbers) new is =
          happened (told.Published numbers) (Publish edition) (with_one edition at.device) new
          (record {
            signed = signed;
            edition = edition;
            is = refl;
            numbered = record {
              serial = sym (ap (λ (p : PublishedNumbers). p.serial) is.numbers);
              moment = sym (ap (λ (p : PublishedNumbers). p.moment) is.numbers);
            };
          })
          may refl (is.site ∙ same_site) (written numbers new is)
      committed told.FailedPublishing new is =
          happened told.FailedPublishing (PressFault edition) (failed edition at.device) new
          (record { signed = signed; edition = edition; is = refl })
          may refl (ap (λ (p : PressValue). p.site) is.press ∙ same_site) (unwritten new is)
      committed (told.Accepted desk command) new is = absurd is
      committed (told.Failed desk command) new is = absurd is
      committed (told.Refused code) new is = absurd is
      committed told.Stopped new is = absurd is
      committed (told.Found lists serial) new is = absurd is

      pub committed_site : (one : Done) (new : StoredValue MemoryDisk) → IsCommitted mid prepared one new → new.press.site ≡ press.press.site
      committed_site (told.Published numbers) new is = is.site ∙ same_site
      committed_site told.FailedPublishing new is = ap (λ (p : PressValue). p.site) is.press ∙ same_site
      committed_site (told.Accepted desk command) new is = absurd is
      committed_site (told.Failed desk command) new is = absurd is
      committed_site (told.Refused code) new is = absurd is
      committed_site told.Stopped new is = absurd is
      committed_site (told.Found lists serial) new is = absurd is
