-- What loading finds, by what its parts find.
use Rattle.std.proofs.Common.{◌≡◌, ◌≢◌, ◌⊎◌, ◌<◌, ◌≤◌, ℕ, ◌+◌, ◌&&◌, List, [], ◌∷◌, ◌++◌, map, length, drop, Option, Some, None, Bool, cond, refl, sym, ◌∙◌, ap, subst, arith, inl, inr, length-append}
use Rattle.std.specs.Prelude.{IfSome, IsSome}
use Rattle.std.specs.Option.{option_map}
use Rattle.std.proofs.lemmas.Bool.{le-leb, lt-leb, cases_lt, false≢true}
use Rattle.disk_api.specs.Content.{BothKnown}
use Rattle.disk_api.specs.Runs.{LeavesOnly}
use Rattle.disk_api.specs.declared.disk.Disk.{Ghosts as DiskGhosts}
use Rattle.disk_api.specs.laws.RunLaws.{goes_far, weaker}
use Rattle.gate_journal.specs.Format.{recovered, damaged_at, opened, file_of, held_for, has_header, records_in, damaged_in, IsUnopened}
use Rattle.gate_journal.specs.View as journal
use Rattle.gate_journal.specs.View.{RecoversTo, RecoversToKnown, RecoversToInDoubt, HasSizes, IsSafe, stake_of}
use Rattle.record_forms.specs.Forms.{bytes_32}
use Rattle.record_forms.specs.laws.ByteLaws.{length-bytes_32}
use Rattle.press_records.specs.Store.{Store, stores, AreBases, IsStoreRecord}
use Rattle.press_core.specs.JournalRecords.{press_limit}
use Rattle.press_core.specs.Loading.{StandsAs, IsSameStore, IsStoreImage}
use Rattle.press_core.specs.inner.Loads.{HoldsStore, IsOpened, IsRead, IsHad, Holds, IsImageOf}

abbrev Bytes : Type 0
Bytes = List ℕ

-- ---- the store's record

-- How long it is at most.
store-length : (x : Store) → length x.0 ≡ 16 → AreBases x → length (stores.spelling x) < 1000
unfolding stores
store-length x session bases =
    let one = bases.rsync.short in
    let other = bases.rrdp.short in
    let a = length-append x.0 ((bytes_32 (length x.1.0) ++ x.1.0) ++ (bytes_32 (length x.1.1) ++ x.1.1)) in
    let b = length-append (bytes_32 (length x.1.0) ++ x.1.0) (bytes_32 (length x.1.1) ++ x.1.1) in
    let c = length-append (bytes_32 (length x.1.0)) x.1.0 in
    let d = length-append (bytes_32 (length x.1.1)) x.1.1 in
    omega (arith, one, other, a, b, c, d, session, length-bytes_32 (length x.1.0), length-bytes_32 (length x.1.1))

store-good : (x : Store) → length x.0 ≡ 16 → stores.good x
unfolding stores
store-good x session = (session, (tt, tt))

-- Each store with bases has a record.
pub store-recorded : (x : Store) → length x.0 ≡ 16 → AreBases x → IsStoreRecord x (stores.spelling x)
store-recorded x session bases =
    let long = store-length x session bases in
    record {
      bases = bases;
      spelled = record {
        good = store-good x session;
        short = omega (arith, long);
        spelled = refl;
      };
    }

-- There is room for it in an empty journal.
pub store-fits : (x : Store) → length x.0 ≡ 16 → AreBases x → held_for [] + (length (stores.spelling x) + 9) ≤ press_limit
store-fits x session bases = let long = store-length x session bases in omega (arith, long)

-- ---- a journal without records

pub no-records : (all : List Bytes) → [] ≡ map length all → all ≡ []
no-records [] e = refl
no-records (first ∷ all) e = absurd (let none = ap length e in omega (arith, none))

pub empty-records : {D : Type 0} (old : journal.View D) → HasSizes old → old.sizes ≡ [] → IfSome old.records (λ all. all ≡ [])
empty-records old sizes none = choose old.records sizes
  where
    choose : (r : Option (List Bytes)) → IfSome r (λ all. old.sizes ≡ map length all) → IfSome r (λ all. all ≡ [])
    choose None is = tt
    choose (Some all) is = no-records all (sym none ∙ is)

-- ---- what the disk holds

-- The records are the same with none in doubt; or there was none, and the store's is in doubt, or is
-- there.
abbrev pub Grows : Store → List Bytes → List Bytes → Option Bytes → Type 0
Grows given all next None = (next ≡ all) ⊎ ((all ≡ []) × ((first : Bytes) × IsStoreRecord given first × (next ≡ first ∷ [])))
Grows given all next (Some first) = (next ≡ all) × (all ≡ []) × IsStoreRecord given first

stands-then : (given : Store) (all next : List Bytes) (doubt : Option Bytes) (file : Bytes) → Grows given all next doubt
    → RecoversToInDoubt press_limit (Some next) doubt file → HoldsStore given all file
stands-then given all next None file (inl same) stands = inl (subst (λ (l : List Bytes). RecoversTo press_limit l file) same stands)
stands-then given all next None file (inr begun) stands =
    inr (record {
      none = begun.0;
      first = begun.1.0;
      named = begun.1.1;
      holds = subst (λ (l : List Bytes). RecoversTo press_limit l file) begun.1.2 stands;
    })
stands-then given all next (Some first) file grows (inl stands) = inl (subst (λ (l : List Bytes). RecoversTo press_limit l file) grows.0 stands)
stands-then given all next (Some first) file grows (inr stands) =
    inr (record {
      none = grows.1;
      first = first;
      named = grows.2;
      holds = subst (λ (l : List Bytes). RecoversTo press_limit (l ++ first ∷ []) file) (grows.0 ∙ grows.1) stands;
    })

module _ {D : Type 0} (disk_of : DiskGhosts D) (given : Store) where
  -- The journal knows records where there were some, and these are so.
  abbrev pub Knows : Option (List Bytes) → journal.View D → Type 0
  Knows None now = now.records ≡ None
  Knows (Some all) now = (next : List Bytes) × (now.records ≡ Some next) × Grows given all next now.doubt

  pub knows-same : (records : Option (List Bytes)) (now : journal.View D) → now.records ≡ records → now.doubt ≡ None → Knows records now
  knows-same None now same settled = same
  knows-same (Some all) now same settled = (all, same, subst (λ (o : Option Bytes). Grows given all all o) (sym settled) (inl refl))

  pub knows-begun : (records : Option (List Bytes)) (first : Bytes) (now : journal.View D) → IfSome records (λ all. all ≡ [])
      → now.records ≡ option_map (λ _. first ∷ []) records → IsStoreRecord given first → now.doubt ≡ None → Knows records now
  knows-begun None first now none is named settled = is
  knows-begun (Some all) first now none is named settled =
      (first ∷ [], is, subst (λ (o : Option Bytes). Grows given all (first ∷ []) o) (sym settled) (inr (none, (first, named, refl))))

  pub knows-doubted : (records : Option (List Bytes)) (first : Bytes) (now : journal.View D) → IfSome records (λ all. all ≡ [])
      → now.records ≡ records → IsStoreRecord given first → now.doubt ≡ Some first → Knows records now
  knows-doubted None first now none same named doubt = same
  knows-doubted (Some all) first now none same named doubt =
      (all, same, subst (λ (o : Option Bytes). Grows given all all o) (sym doubt) (refl, none, named))

  stands-now : (all next : List Bytes) (now : journal.View D) (file : Bytes) → now.limit ≡ press_limit → now.records ≡ Some next
      → Grows given all next now.doubt → RecoversToInDoubt now.limit now.records now.doubt file → HoldsStore given all file
  stands-now all next now file limit told grows stands =
      stands-then given all next now.doubt file grows
      (subst (λ (n : ℕ). RecoversToInDoubt n (Some next) now.doubt file) limit
      (subst (λ (r : Option (List Bytes)). RecoversToInDoubt now.limit r now.doubt file) told stands))

  pub holds-then : (records : Option (List Bytes)) (now : journal.View D) → now.limit ≡ press_limit → IsSafe disk_of now → Knows records now
      → Holds given records (disk_of.content now.disk)
  holds-then None now limit safe knows = choose (disk_of.content now.disk) refl
    where
      choose : (o : Option Bytes) → disk_of.content now.disk ≡ o → o ≡ None
      choose None e = refl
      choose (Some file) e =
          let known : IsSome now.records = subst (λ (p : Option Bytes). IfSome p (λ _. IsSome now.records)) e safe.known in
          absurd (is-none now.records knows known)
        where
          is-none : (r : Option (List Bytes)) → r ≡ None → IsSome r → ⊥
          is-none None e some = absurd (false≢true some)
          is-none (Some all) e some = absurd cc
  holds-then (Some all) now limit safe knows = choose (disk_of.content now.disk) refl
    where
      told : IsSome (disk_of.content now.disk)
      told = subst (λ (r : Option (List Bytes)). IfSome r (λ _. IsSome (disk_of.content now.disk))) knows.1 safe.told

      choose : (o : Option Bytes) → disk_of.content now.disk ≡ o → (file : Bytes) × (o ≡ Some file) × HoldsStore given all file
      choose None e = absurd (false≢true (subst (λ (p : Option Bytes). IsSome p) e told))
      choose (Some file) e = (
        file,
        refl,
        stands-now all knows.0 now file limit knows.1 knows.2
            (subst (λ (o : Option Bytes). IfSome o (λ bytes. RecoversToInDoubt now.limit now.records now.doubt bytes)) e safe.bytes),
      )

  pub image-then : (records : Option (List Bytes)) (now : journal.View D) → now.limit ≡ press_limit → IsSafe disk_of now → Knows records now
      → (image : Bytes) → disk_of.may_leave now.disk image → IsImageOf given records image
  image-then None now limit safe knows image left = tt
  image-then (Some all) now limit safe knows image left = stands-now all knows.0 now image limit knows.1 knows.2 (safe.images image left)

  -- During reads a crash leaves what might be left before them.
  pub images-on : (records : Option (List Bytes)) (first : D) (old new : journal.View D) → old.limit ≡ press_limit → IsSafe disk_of old → Knows records old
      → IsRead disk_of old new → LeavesOnly disk_of first old.disk (IsImageOf given records) → LeavesOnly disk_of first new.disk (IsImageOf given records)
  images-on records first old new limit safe knows read so_far =
      goes_far disk_of first old.disk new.disk (IsImageOf given records) (disk_of.may_leave old.disk) so_far read.disk.time
      (image-then records old limit safe knows)

  -- During the append of the store's record it leaves no record, or this one.
  pub images-append : (old : journal.View D) (new : D) (first : Bytes) → old.limit ≡ press_limit → old.shut ≡ None
      → IfSome old.records (λ all. all ≡ []) → IsStoreRecord given first
      → LeavesOnly disk_of old.disk new (RecoversToInDoubt old.limit old.records (stake_of old.shut old.doubt first))
      → LeavesOnly disk_of old.disk new (IsImageOf given old.records)
  images-append old new first limit is_open none named all =
      weaker disk_of old.disk new (RecoversToInDoubt old.limit old.records (stake_of old.shut old.doubt first)) (IsImageOf given old.records) all
      (λ image stands.
      let open_now = subst (λ (s : Option (ℕ × ℕ)). RecoversToInDoubt old.limit old.records (stake_of s old.doubt first) image) is_open stands in
      let within = subst (λ (n : ℕ). RecoversToInDoubt n old.records (Some first) image) limit open_now in
      image-of old.records none image within)
    where
      image-of : (records : Option (List Bytes)) → IfSome records (λ all. all ≡ []) → (image : Bytes)
          → RecoversToInDoubt press_limit records (Some first) image → IsImageOf given records image
      image-of None empty image stands = tt
      image-of (Some all) empty image stands = stands-then given all all (Some first) image (refl, empty, named) stands

-- ---- a journal that is read stays open

module _ {D : Type 0} (disk_of : DiskGhosts D) where
  pub opened-on : (old new : journal.View D) → IsOpened disk_of old → IsRead disk_of old new → new.shut ≡ old.shut → IsOpened disk_of new
  opened-on old new opened read shut =
      let same = sym read.same in
      record {
        is_open = shut ∙ opened.is_open;
        limit = subst (λ (v : journal.View D). v.limit ≡ press_limit) same opened.limit;
        sizes = subst (λ (v : journal.View D). HasSizes v) same opened.sizes;
        safe = read.safe;
      }

  -- What its records were said to be, they are.
  pub knows-on : (given : Store) (records : Option (List Bytes)) (old new : journal.View D) → Knows disk_of given records old → IsRead disk_of old new
      → Knows disk_of given records new
  knows-on given records old new knows read = subst (λ (v : journal.View D). Knows disk_of given records v) (sym read.same) (move records knows)
    where
      move : (r : Option (List Bytes)) → Knows disk_of given r old → Knows disk_of given r (record old { disk = new.disk; shut = new.shut })
      move None is = is
      move (Some all) is = is

  pub knows-had : (given store : Store) (old new : journal.View D) → IsOpened disk_of old → IsOpened disk_of new → IsHad disk_of given store old new
      → Knows disk_of given old.records new
  knows-had given store old new opened opened_new (inl read) =
      knows-same disk_of given old.records new (ap (λ (v : journal.View D). v.records) read.same) (opened_new.safe.settled opened_new.is_open)
  knows-had given store old new opened opened_new (inr begun) =
      knows-begun disk_of given old.records begun.first new (empty-records old opened.sizes begun.none) begun.records begun.named
      (opened_new.safe.settled opened_new.is_open)

-- ---- the file that was opened

opened-long : (file : Bytes) → 18 ≤ length file → opened file ≡ file
opened-long file long = ap (λ (b : Bool). cond b file (file_of [])) (le-leb 18 (length file) long)

short-whole : (file : Bytes) → length file ≤ 17 → damaged_at press_limit file ≡ None
short-whole file short =
    ap (λ (b : Bool). cond b (cond (has_header file) (damaged_in press_limit (length file) 16 (drop 16 file)) (Some 0)) None)
    (lt-leb 18 (length file) (omega arith))

short-empty : (file : Bytes) → length file ≤ 17 → recovered file ≡ []
short-empty file short =
    ap (λ (b : Bool). cond (b && has_header file) (records_in (length file) (drop 16 file)) []) (lt-leb 18 (length file) (omega arith))

-- A file with a record stays as it is.
pub opened-same : (file : Bytes) → recovered file ≢ [] → opened file ≡ file
opened-same file some =
    elim (cases_lt (length file) 18) [
      | inl short ↦ absurd (some (short-empty file (omega (arith, short))))
      | inr long ↦ opened-long file long
    ]

stands-unopened : (old new : Bytes) → IsUnopened old new → StandsAs old new
stands-unopened old new unopened =
    elim (cases_lt (length old) 18) [
      | inl few ↦ (let short = unopened.short (omega (arith, few)) in let was : length old ≤ 17 = omega (arith, few) in record {
        whole = short-whole new short ∙ sym (short-whole old was);
        found = short-empty new short ∙ sym (short-empty old was);
      })
      | inr long ↦ (let same = unopened.long long in record {
        whole = ap (damaged_at press_limit) same;
        found = ap recovered same;
      })
    ]

-- What a refused opening leaves.
pub same-unopened : (given : Store) (content now : Option Bytes) → BothKnown IsUnopened content now → BothKnown (IsSameStore given) content now
same-unopened given None now is = is
same-unopened given (Some old) now is = (is.0, is.1, inl (stands-unopened old is.0 is.2))

-- What reading leaves.
pub same-held : (given : Store) (content now : Option Bytes) (records : Option (List Bytes)) → records ≡ option_map recovered content
    → IfSome content (λ file. damaged_at press_limit file ≡ None) → Holds given records now → BothKnown (IsSameStore given) content now
same-held given None now records is whole holds = subst (λ (r : Option (List Bytes)). Holds given r now) is holds
same-held given (Some old) now records is whole holds =
    let held = subst (λ (r : Option (List Bytes)). Holds given r now) is holds in (
      held.0,
      held.1,
      elim held.2 [
        | inl stands ↦ inl (record { whole = stands.whole ∙ sym whole; found = stands.found })
        | inr begun ↦ inr (whole, begun)
      ],
    )

pub image-opened : (given : Store) (content : Option Bytes) (image : Bytes) → RecoversToKnown press_limit (option_map recovered content) image
    → IfSome content (λ file. IsStoreImage given file image)
image-opened given None image stands = tt
image-opened given (Some file) image stands = inl stands

image-whole : (given : Store) (file image : Bytes) → damaged_at press_limit file ≡ None → HoldsStore given (recovered file) image → IsStoreImage given file image
image-whole given file image whole (inl stands) = inl stands
image-whole given file image whole (inr begun) = inr (whole, begun)

pub image-held : (given : Store) (content : Option Bytes) (records : Option (List Bytes)) (image : Bytes) → records ≡ option_map recovered content
    → IfSome content (λ file. damaged_at press_limit file ≡ None) → IsImageOf given records image → IfSome content (λ file. IsStoreImage given file image)
image-held given None records image is whole stands = tt
image-held given (Some file) records image is whole stands =
    image-whole given file image whole (subst (λ (r : Option (List Bytes)). IsImageOf given r image) is stands)
