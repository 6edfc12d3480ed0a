-- What is found in a journal, and why nothing is.
use Rattle.std.proofs.Common.{◌≡◌, ◌≢◌, ◌≤◌, ℕ, suc, ◌-◌, ◌&&◌, true, List, [], ◌∷◌, map, length, take, drop, Option, Some, None, refl, sym, ◌∙◌, ap, subst, arith, inl, inr}
use Rattle.std.specs.Prelude.{IfSome}
use Rattle.std.specs.List.{list_all}
use Rattle.std.specs.Option.{option_map}
use Rattle.std.specs.String.{string_bytes}
use Rattle.std.proofs.lemmas.Bool.{and_parts}
use Rattle.std.proofs.lemmas.List.{take_all, length-map}
use Rattle.host_calls.specs.Rise.{HasRisen}
use Rattle.disk_api.specs.declared.disk.Disk.{Ghosts as DiskGhosts}
use Rattle.gate_journal.specs.Format.{recovered, damaged_at, opened}
use Rattle.gate_journal.specs.View as journal
use Rattle.gate_journal.specs.View.{RecoversTo, RecoversToInDoubt, HasSizes}
use Rattle.gate_journal.specs.declared.fault.JournalFault.{JournalFault}
use Rattle.gate_journal.specs.declared.fault.JournalFault.TheVariants as journal_fault
use Rattle.key_ids.specs.Uris.{Bases}
use Rattle.pub_set.specs.declared.objects.Object.{Object}
use Rattle.pub_set.specs.Objects.{uri_at, content_at, IsAscending}
use Rattle.pub_set.specs.laws.LookupLaws.{rise-nil}
use Rattle.press_records.specs.Rows.{RowValue, row_value}
use Rattle.press_records.specs.Stages.{are_staged}
use Rattle.press_records.specs.Store.{Store, store_value}
use Rattle.press_records.specs.Edition.{StandingValue, nothing_stands, is_settled, are_apart, are_live, id_of}
use Rattle.press_records.specs.Records.{Tells, Told, AreRecordsOf, editions_told, IsFirstBad}
use Rattle.press_records.specs.Views.{RecoveredValue, recovered_standing, parts_value}
use Rattle.press_records.specs.declared.store.StoreRecord.{StoreRecord}
use Rattle.press_records.specs.declared.recovered.RecoveredParts.{RecoveredParts}
use Rattle.editions.specs.Edition.{Edition, first_state, state_after, cut_at}
use Rattle.rrdp_state.specs.Editions as rrdp
use Rattle.rrdp_state.specs.Editions.{objects_of, FollowEachOther}
use Rattle.rrdp_state.specs.Kept.{Kept}
use Rattle.rrdp_state.specs.Resuming.{IsEnough, telling_editions}
use Rattle.rrdp_state.specs.State as rrdp_state
use Rattle.press_core.specs.Files.{rrdp_editions, repository_at}
use Rattle.press_core.specs.Records.{edition_value, standing_at}
use Rattle.press_core.specs.JournalRecords.{AreRecords, Finds, store_for, press_limit}
use Rattle.press_core.specs.Loading.{LoadedValue, loaded_value, loaded_store, IsLeftAs, IsFound, IsLoadOf, IsInOrder, IsLoadFault, SiteDiffers, kept_base, load_fault_of}
use Rattle.press_core.specs.declared.loading.LoadFault.{LoadFault}
use Rattle.press_core.specs.declared.loading.LoadFault.TheVariants as why
use Rattle.press_core.specs.inner.Loads.{IsOpened, IsStop, IsLast, AreReadTo, IsBadIn, IsHeadedBy, IsHad, IsNoStore, IsLoadStop, IsOtherSite, IsFoundIn}
use Rattle.press_core.proofs.Told.{follow_told, count_told, leave_told}
use Rattle.press_core.proofs.Editions.{OneSet, left-same, no-rows, first-bad-told, risen-later}
use Rattle.press_core.proofs.Loads.{empty-records, opened-same}

abbrev Bytes : Type 0
Bytes = List ℕ

abbrev bad-at : ℕ → Told
bad-at index = inr index

-- ---- what editions leave

-- What stands after those that were read.
stands-after : (records : Option (List Bytes)) (count : ℕ) (left : RecoveredValue) (so_far : AreReadTo records count left)
    → recovered_standing left ≡ standing_at (state_after so_far.read)
stands-after records count left so_far = so_far.stands ∙ left-same first_state so_far.read

ascending-of : (editions : List rrdp.Edition) → FollowEachOther editions → IsAscending (objects_of editions)
ascending-of [] follow = rise-nil uri_at
ascending-of (edition ∷ older) follow = follow.0

-- Their set, as the RRDP files have it.
same-objects : OneSet → (records : Option (List Bytes)) (count : ℕ) (left : RecoveredValue) (set : List Object) (so_far : AreReadTo records count left)
    → IsAscending set → ((uri : Bytes) → content_at set uri ≡ content_at left.objects uri) → set ≡ objects_of (rrdp_editions so_far.read)
same-objects one records count left set so_far up same =
    let stands = stands-after records count left so_far in
    one set (objects_of (rrdp_editions so_far.read)) up (ascending-of (rrdp_editions so_far.read) (follow_told so_far.read))
    (λ uri. same uri ∙ ap (λ (s : StandingValue). s.set uri) stands ∙ sym (leave_told so_far.read uri))

-- The newest tell enough.
pub enough-told : (count : ℕ) (editions : List Edition) → length editions ≡ count → IsEnough (count - (count - telling_editions)) (rrdp_editions editions)
enough-told count editions counted few =
    let long = count_told editions in
    omega (arith, long, counted, few)

-- ---- what is loaded

module _ {D : Type 0} (now : journal.View D) (store : StoreRecord) (parts : RecoveredParts) (kept : Kept) where
  pub left-as : OneSet → (records : Option (List Bytes)) (count : ℕ) (left : RecoveredValue) (so_far : AreReadTo records count left)
      → parts_value parts ≡ left → IsAscending parts.set → (state_after so_far.read).rows ≡ parts.rows
      → rrdp_state.StandsFor (repository_at store.session store.site) (rrdp_editions so_far.read) kept
      → IsLeftAs so_far.read (loaded_value now store parts kept)
  left-as one records count left so_far same up rows files =
      let stands : recovered_standing (parts_value parts) ≡ standing_at (state_after so_far.read) =
      ap recovered_standing same ∙ stands-after records count left so_far in
      record {
        serial = ap (λ (s : StandingValue). s.serial) stands;
        count = ap (λ (r : RecoveredValue). r.serial) same ∙ so_far.serial ∙ sym so_far.counted;
        moment = ap (λ (s : StandingValue). s.moment) stands;
        cut = λ desk. ap (λ (s : StandingValue). cut_at s.cut desk) stands;
        rows = sym rows;
        set = λ uri. ap (λ (s : StandingValue). s.set uri) stands;
        objects = same-objects one records count left parts.set so_far up (λ uri. ap (λ (r : RecoveredValue). content_at r.objects uri) same);
        files = files;
      }

  pub in-order : OneSet → {disk_of : DiskGhosts D} → (records : Option (List Bytes)) (count : ℕ) (left : RecoveredValue) (so_far : AreReadTo records count left)
      → parts_value parts ≡ left → IsAscending parts.set → kept.serial ≡ left.serial → IsOpened disk_of now
      → IsInOrder (loaded_value now store parts kept)
  in-order one records count left so_far same up counted opened =
      let serial : parts.serial ≡ count = ap (λ (r : RecoveredValue). r.serial) same ∙ so_far.serial in
      let last : parts.serial ≢ 0 → IsLast parts.moment parts.cut (map row_value parts.rows) = λ some.
      subst (λ (r : RecoveredValue). IsLast r.moment r.cut r.rows) (sym same) (so_far.last (λ none. some (serial ∙ none))) in
      record {
        before = λ none. nothing (sym serial ∙ none);
        staged = λ some. staged-of parts.moment (map row_value parts.rows) (last some).live;
        live = λ some. (last some).live;
        dated = λ some. (last some).dated;
        desks = λ some. (last some).desks;
        ascending = up;
        counted = counted ∙ sym (ap (λ (r : RecoveredValue). r.serial) same);
        is_open = opened.is_open;
        settled = opened.safe.settled opened.is_open;
        limit = opened.limit;
      }
    where
      none-read : count ≡ 0 → so_far.read ≡ []
      none-read e = empty so_far.read (so_far.counted ∙ e)
        where
          empty : (editions : List Edition) → length editions ≡ 0 → editions ≡ []
          empty [] e = refl
          empty (edition ∷ editions) e = absurd (omega (arith, e))

      nothing : count ≡ 0 → (parts.rows ≡ []) × (parts.set ≡ []) × (parts.cut ≡ []) × (parts.moment ≡ 0)
      nothing e =
          let stands : recovered_standing (parts_value parts) ≡ nothing_stands =
          ap recovered_standing same ∙ stands-after records count left so_far ∙ ap (λ (l : List Edition). standing_at (state_after l)) (none-read e) in (
            no-rows parts.rows (ap (λ (s : StandingValue). s.rows) stands),
            one parts.set [] up (rise-nil uri_at) (λ uri. ap (λ (s : StandingValue). s.set uri) stands),
            ap (λ (s : StandingValue). s.cut) stands,
            ap (λ (s : StandingValue). s.moment) stands,
          )

      staged-of : (moment : ℕ) (rows : List RowValue) → are_live moment rows ≡ true → are_staged rows ≡ true
      staged-of moment rows live =
          (and_parts (are_staged rows) (list_all (is_settled moment) rows)
          (and_parts (are_staged rows && list_all (is_settled moment) rows) (are_apart (map id_of rows)) live).0).0

-- ---- the records that were found

-- All records behind the first.
all-behind : (all : List Bytes) (count : ℕ) → count ≡ length all - 1 → take count (drop 1 all) ≡ drop 1 all
all-behind [] count is = take_all count [] (omega arith)
all-behind (first ∷ all) count is = take_all count all (omega (arith, is))

pub are-records : (store : Store) (all : List Bytes) (sizes : List ℕ) (count : ℕ) (editions : List Edition) → sizes ≡ map length all
    → count ≡ length sizes - 1 → IsHeadedBy store all
    → AreRecordsOf nothing_stands (map edition_value editions) (take count (drop 1 all)) → AreRecords store editions all
are-records store all sizes count editions sized counted headed told =
    let long : length sizes ≡ length all = ap length sized ∙ length-map all length in
    let behind = all-behind all count (omega (arith, long, counted)) in
    record {
      first = headed.first;
      rest = headed.rest;
      is = headed.is;
      named = headed.named;
      each = subst (λ (l : List Bytes). AreRecordsOf nothing_stands (map edition_value editions) l) (behind ∙ ap (drop 1) headed.is) told;
    }

-- The first bad record of a whole journal.
pub bad-told : (store : Store) (all : List Bytes) (at : ℕ) → IsHeadedBy store all → IsFirstBad nothing_stands 1 (drop 1 all) at
    → Tells all (inr at)
bad-told store all at headed bad =
    subst (λ (l : List Bytes). Tells l (inr at)) (sym headed.is)
    (subst (λ (n : ℕ). Tells (headed.first ∷ headed.rest) (inr n)) (sym next)
    ((store, headed.named), told ∙ ap bad-at next))
  where
    behind : drop 1 all ≡ headed.rest
    behind = ap (drop 1) headed.is

    next : at ≡ suc (length bad.front)
    next = let is = bad.at in omega (arith, is)

    told : editions_told 1 headed.rest nothing_stands ≡ bad-at at
    told = ap (λ (l : List Bytes). editions_told 1 l nothing_stands) (sym behind) ∙ first-bad-told nothing_stands 1 (drop 1 all) at bad

-- The records that are known.
are-known : (store : Store) (sizes : List ℕ) (count : ℕ) (editions : List Edition) → count ≡ length sizes - 1 → (records : Option (List Bytes))
    → IfSome records (λ all. sizes ≡ map length all) → IfSome records (IsHeadedBy store)
    → IfSome records (λ all. AreRecordsOf nothing_stands (map edition_value editions) (take count (drop 1 all)))
    → IfSome records (AreRecords store editions)
are-known store sizes count editions counted None sized headed told = tt
are-known store sizes count editions counted (Some all) sized headed told = are-records store all sizes count editions sized counted headed told

-- The journal has the records of these editions by now.
abbrev HasNow : {D : Type 0} → journal.View D → Store → List Edition → Type 0
HasNow now store editions = (next : List Bytes) × (now.records ≡ Some next) × AreRecords store editions next

module _ {D : Type 0} (disk_of : DiskGhosts D) where
  -- What is found, by what was read behind the store's record.
  pub found-in : (session : Bytes) (site : Bases) (old mid now : journal.View D) (store : StoreRecord) (parts : RecoveredParts) (kept : Kept)
      (count : ℕ) (left : RecoveredValue) (so_far : AreReadTo mid.records count left) → HasSizes old → HasSizes mid
      → IsHad disk_of (store_for session site) (store_value store) old mid → IfSome mid.records (IsHeadedBy (store_value store))
      → count ≡ length mid.sizes - 1 → now.records ≡ mid.records
      → IsLeftAs so_far.read (loaded_value now store parts kept)
      → IsFoundIn session old.records (loaded_value now store parts kept)
  found-in session site old mid now store parts kept count left so_far old_sizes sizes had headed counted same left_as = record {
    editions = so_far.read;
    left = left_as;
    told = told had;
    now = known had;
  }
    where
      are : IfSome mid.records (AreRecords (store_value store) so_far.read)
      are = are-known (store_value store) mid.sizes count so_far.read counted mid.records sizes headed so_far.told

      is-found : (all : List Bytes) → AreRecords (store_value store) so_far.read all → IsFound session all so_far.read (loaded_value now store parts kept)
      is-found all is =
          subst (λ (l : List Bytes). IsFound session l so_far.read (loaded_value now store parts kept)) (sym is.is)
          (subst (λ (l : List Bytes). AreRecords (store_value store) so_far.read l) is.is is)

      all-found : (r : Option (List Bytes)) → IfSome r (AreRecords (store_value store) so_far.read)
          → IfSome r (λ all. IsFound session all so_far.read (loaded_value now store parts kept))
      all-found None is = tt
      all-found (Some all) is = is-found all is

      none-read : length mid.sizes ≡ 1 → so_far.read ≡ []
      none-read one = empty so_far.read (let c = so_far.counted in omega (arith, c, counted, one))
        where
          empty : (editions : List Edition) → length editions ≡ 0 → editions ≡ []
          empty [] e = refl
          empty (edition ∷ editions) e = absurd (omega (arith, e))

      begun-found : (r : Option (List Bytes)) → IfSome r (λ all. all ≡ []) → length mid.sizes ≡ 1 → store_value store ≡ store_for session site
          → IfSome r (λ all. IsFound session all so_far.read (loaded_value now store parts kept))
      begun-found None none one is = tt
      begun-found (Some all) none one is =
          subst (λ (l : List Bytes). IsFound session l so_far.read (loaded_value now store parts kept)) (sym none)
          (none-read one, ap (λ (x : Store). x.0) is)

      told : IsHad disk_of (store_for session site) (store_value store) old mid
          → IfSome old.records (λ all. IsFound session all so_far.read (loaded_value now store parts kept))
      told (inl read) =
          subst (λ (r : Option (List Bytes)). IfSome r (λ all. IsFound session all so_far.read (loaded_value now store parts kept)))
          (ap (λ (v : journal.View D). v.records) read.same) (all-found mid.records are)
      told (inr begun) = begun-found old.records (empty-records old old_sizes begun.none) begun.sizes begun.is

      is-known : (next : List Bytes) → mid.records ≡ Some next → HasNow now (store_value store) so_far.read
      is-known next is = (next, same ∙ is, subst (λ (r : Option (List Bytes)). IfSome r (AreRecords (store_value store) so_far.read)) is are)

      known-kept : (r : Option (List Bytes)) → mid.records ≡ r → IfSome r (λ all. HasNow now (store_value store) so_far.read)
      known-kept None is = tt
      known-kept (Some all) is = is-known all is

      known-begun : (first : Bytes) (r : Option (List Bytes)) → mid.records ≡ option_map (λ _. first ∷ []) r → IfSome r (λ all. HasNow now (store_value store) so_far.read)
      known-begun first None is = tt
      known-begun first (Some all) is = is-known (first ∷ []) is

      known : IsHad disk_of (store_for session site) (store_value store) old mid → IfSome old.records (λ all. HasNow now (store_value store) so_far.read)
      known (inl read) = known-kept old.records (ap (λ (v : journal.View D). v.records) read.same)
      known (inr begun) = known-begun begun.first old.records begun.records

  -- ---- why nothing is found

  pub store-stop : (site : Bases) (old : journal.View D) (new : D) (fault : LoadFault)
      → IsStop disk_of (IsNoStore disk_of old new) old.disk new fault → IsLoadStop disk_of site old new fault
  store-stop site old new (why.Damaged at) stop = absurd stop
  store-stop site old new (why.BadRecord at) stop =
      (stop.0, subst (λ (n : ℕ). IfSome old.records (λ all. Tells all (inr n))) (sym stop.1.0) stop.1.1)
  store-stop site old new (why.SiteDiffers kept given) stop = absurd stop
  store-stop site old new why.DiskFault stop = stop
  store-stop site old new why.Memory stop = tt

  bad-known : (store : Store) (at : ℕ) (records : Option (List Bytes)) → IfSome records (IsHeadedBy store)
      → IfSome records (λ all. IsFirstBad nothing_stands 1 (drop 1 all) at) → IfSome records (λ all. Tells all (inr at))
  bad-known store at None headed bad = tt
  bad-known store at (Some all) headed bad = bad-told store all at headed bad

  pub editions-stop : (site : Bases) (given store : Store) (old mid : journal.View D) (new : D) (fault : LoadFault)
      → IsHad disk_of given store old mid → IfSome mid.records (IsHeadedBy store) → disk_of.content new ≡ disk_of.content mid.disk
      → disk_of.fault_count old.disk ≤ disk_of.fault_count mid.disk
      → IsStop disk_of (IsBadIn mid) mid.disk new fault → IsLoadStop disk_of site old new fault
  editions-stop site given store old mid new (why.Damaged at) had headed same later stop = absurd stop
  editions-stop site given store old mid new (why.BadRecord at) (inl read) headed same later stop = (
    same ∙ read.disk.content_stays,
    subst (λ (r : Option (List Bytes)). IfSome r (λ all. Tells all (inr at))) (ap (λ (v : journal.View D). v.records) read.same)
        (bad-known store at mid.records headed stop.1),
  )
  editions-stop site given store old mid new (why.BadRecord at) (inr begun) headed same later stop =
      absurd (let one = begun.sizes in let more = stop.0 in omega (arith, one, more))
  editions-stop site given store old mid new (why.SiteDiffers kept other) had headed same later stop = absurd stop
  editions-stop site given store old mid new why.DiskFault had headed same later stop =
      risen-later (disk_of.fault_count old.disk) (disk_of.fault_count mid.disk) (disk_of.fault_count new) later stop
  editions-stop site given store old mid new why.Memory had headed same later stop = tt

  differing : (session : Bytes) (own site : Bases) (kept given : Bytes) (editions : List Edition) → own ≢ site → kept ≡ kept_base own site
      → given ≡ kept_base site own → (records : Option (List Bytes)) → IfSome records (AreRecords (store_for session own) editions)
      → IfSome records (λ all. SiteDiffers site all kept given)
  differing session own site kept given editions other kept_is given_is None are = tt
  differing session own site kept given editions other kept_is given_is (Some all) are = record {
    own = own;
    session = session;
    editions = editions;
    are = are;
    other = other;
    kept_is = kept_is;
    given_is = given_is;
  }

  pub site-stop : (session : Bytes) (site : Bases) (old mid : journal.View D) (new : D) (store : StoreRecord)
      (count : ℕ) (left : RecoveredValue) (so_far : AreReadTo mid.records count left) (fault : LoadFault) → HasSizes mid
      → IsHad disk_of (store_for session site) (store_value store) old mid → IfSome mid.records (IsHeadedBy (store_value store))
      → count ≡ length mid.sizes - 1 → disk_of.content new ≡ disk_of.content mid.disk
      → IsOtherSite store.site site fault → IsLoadStop disk_of site old new fault
  site-stop session site old mid new store count left so_far (why.Damaged at) sizes had headed counted same stop = absurd stop
  site-stop session site old mid new store count left so_far (why.BadRecord at) sizes had headed counted same stop = absurd stop
  site-stop session site old mid new store count left so_far (why.SiteDiffers kept given) sizes (inl read) headed counted same stop = (
    same ∙ read.disk.content_stays,
    subst (λ (r : Option (List Bytes)). IfSome r (λ all. SiteDiffers site all (string_bytes kept) (string_bytes given)))
        (ap (λ (v : journal.View D). v.records) read.same)
        (differing store.session store.site site (string_bytes kept) (string_bytes given) so_far.read stop.0 stop.1 stop.2 mid.records
        (are-known (store_value store) mid.sizes count so_far.read counted mid.records sizes headed so_far.told)),
  )
  site-stop session site old mid new store count left so_far (why.SiteDiffers kept given) sizes (inr begun) headed counted same stop =
      absurd (stop.0 (ap (λ (x : Store). bases-of x) begun.is))
    where
      bases-of : Store → Bases
      bases-of x = record { rsync = x.1.0; rrdp = x.1.1 }
  site-stop session site old mid new store count left so_far why.DiskFault sizes had headed counted same stop = absurd stop
  site-stop session site old mid new store count left so_far why.Memory sizes had headed counted same stop = tt

  -- ---- the file

  pub open-fault : (site : Bases) (old new : D) (fault : JournalFault)
      → ((at : ℕ) → fault ≡ journal_fault.Damaged at → (disk_of.content new ≡ disk_of.content old)
      × IfSome (disk_of.content old) (λ file. damaged_at press_limit file ≡ Some at))
      → (fault ≡ journal_fault.DiskFault → HasRisen (disk_of.fault_count old) (disk_of.fault_count new))
      → IsLoadFault disk_of site old new (load_fault_of fault)
  open-fault site old new journal_fault.DiskFault damaged failed = failed refl
  open-fault site old new (journal_fault.Damaged at) damaged failed = damaged at refl
  open-fault site old new journal_fault.Memory damaged failed = tt

  -- A file with a record stays.
  same-file : (content : Option Bytes) (records : Option (List Bytes)) → records ≡ option_map recovered content
      → IfSome records (λ all. all ≢ []) → option_map opened content ≡ content
  same-file None records is some = refl
  same-file (Some file) records is some =
      let there = subst (λ (r : Option (List Bytes)). IfSome r (λ all. all ≢ [])) is some in
      ap (λ (f : Bytes). some-of f) (opened-same file there)
    where
      some-of : Bytes → Option Bytes
      some-of f = Some f

  of-file : (P : List Bytes → Type 0) (content : Option Bytes) (records : Option (List Bytes)) → records ≡ option_map recovered content
      → IfSome content (λ file. damaged_at press_limit file ≡ None) → IfSome records P
      → IfSome content (λ file. (damaged_at press_limit file ≡ None) × P (recovered file))
  of-file P None records is whole all = tt
  of-file P (Some file) records is whole all = (whole, subst (λ (r : Option (List Bytes)). IfSome r P) is all)

  some-told : (at : ℕ) (records : Option (List Bytes)) → IfSome records (λ all. Tells all (inr at)) → IfSome records (λ all. all ≢ [])
  some-told at None told = tt
  some-told at (Some all) told = λ none. subst (λ (l : List Bytes). Tells l (inr at)) none told

  some-differs : (site : Bases) (kept given : Bytes) (records : Option (List Bytes)) → IfSome records (λ all. SiteDiffers site all kept given)
      → IfSome records (λ all. all ≢ [])
  some-differs site kept given None differs = tt
  some-differs site kept given (Some all) differs = λ none.
      absurd (let long = ap length (sym none ∙ differs.are.is) in omega (arith, long))

  pub load-fault : (site : Bases) (old : D) (mid : journal.View D) (new : D) (fault : LoadFault)
      → mid.records ≡ option_map recovered (disk_of.content old) → disk_of.content mid.disk ≡ option_map opened (disk_of.content old)
      → IfSome (disk_of.content old) (λ file. damaged_at press_limit file ≡ None) → disk_of.fault_count old ≤ disk_of.fault_count mid.disk
      → IsLoadStop disk_of site mid new fault → IsLoadFault disk_of site old new fault
  load-fault site old mid new (why.Damaged at) is bytes whole later stop = absurd stop
  load-fault site old mid new (why.BadRecord at) is bytes whole later stop = (
    stop.0 ∙ bytes ∙ same-file (disk_of.content old) mid.records is (some-told at mid.records stop.1),
    of-file (λ all. Tells all (inr at)) (disk_of.content old) mid.records is whole stop.1,
  )
  load-fault site old mid new (why.SiteDiffers kept given) is bytes whole later stop = (
    stop.0 ∙ bytes ∙ same-file (disk_of.content old) mid.records is (some-differs site (string_bytes kept) (string_bytes given) mid.records stop.1),
    of-file (λ all. SiteDiffers site all (string_bytes kept) (string_bytes given)) (disk_of.content old) mid.records is whole stop.1,
  )
  load-fault site old mid new why.DiskFault is bytes whole later stop =
      risen-later (disk_of.fault_count old) (disk_of.fault_count mid.disk) (disk_of.fault_count new) later stop
  load-fault site old mid new why.Memory is bytes whole later stop = tt

  -- What is found in the records is what is loaded of the file.
  pub load-found : (site : Bases) (session : Bytes) (content : Option Bytes) (records : Option (List Bytes)) (loaded : LoadedValue D)
      → records ≡ option_map recovered content → IfSome content (λ file. damaged_at press_limit file ≡ None) → loaded.site ≡ site
      → IsFoundIn session records loaded → IfSome content (λ file. (editions : List Edition) × IsLoadOf site session file editions loaded)
  load-found site session None records loaded is whole bases found = tt
  load-found site session (Some file) records loaded is whole bases found =
      let told = subst (λ (r : Option (List Bytes)). IfSome r (λ all. IsFound session all found.editions loaded)) is found.told in
      let now = subst (λ (r : Option (List Bytes)). IfSome r (λ all. (next : List Bytes) × (loaded.journal.records ≡ Some next)
      × AreRecords (loaded_store loaded) found.editions next)) is found.now in (
        found.editions,
        record {
          whole = whole;
          found = told;
          records = subst (λ (r : Option (List Bytes)). IfSome r (AreRecords (loaded_store loaded) found.editions)) (sym now.1) now.2;
          left = found.left;
          bases = bases;
        },
      )

  -- And each image has the records.
  pub load-durable : (site : Bases) (session : Bytes) (content : Option Bytes) (records : Option (List Bytes)) (loaded : LoadedValue D)
      → records ≡ option_map recovered content → IsFoundIn session records loaded → IsOpened disk_of loaded.journal
      → (image : Bytes) → disk_of.may_leave loaded.journal.disk image
      → IfSome content (λ file. (editions : List Edition) → IsLoadOf site session file editions loaded
      → Finds (store_for loaded.session loaded.site) editions image)
  load-durable site session None records loaded is found opened image left = tt
  load-durable site session (Some file) records loaded is found opened image left = λ editions load.
      let now = subst (λ (r : Option (List Bytes)). IfSome r (λ all. (next : List Bytes) × (loaded.journal.records ≡ Some next)
      × AreRecords (loaded_store loaded) found.editions next)) is found.now in
      let settled = opened.safe.settled opened.is_open in
      let stands = subst (λ (o : Option Bytes). RecoversToInDoubt loaded.journal.limit loaded.journal.records o image) settled (opened.safe.images image left) in
      let told = subst (λ (r : Option (List Bytes)). RecoversToInDoubt loaded.journal.limit r None image) now.1 stands in
      record {
        records = now.0;
        whole = subst (λ (n : ℕ). RecoversTo n now.0 image) opened.limit told;
        are = subst (λ (r : Option (List Bytes)). IfSome r (AreRecords (loaded_store loaded) editions)) now.1 load.records;
      }
