-- A store that is begun: what the journal and its disk come to, and why it isn't.
use Rattle.std.proofs.Common.{◌≡◌, ℕ, ◌+◌, ◌≤◌, List, [], ◌∷◌, ◌++◌, map, length, Option, Some, None, refl, sym, ◌∙◌, ap, subst}
use Rattle.std.specs.Prelude.{IfSome}
use Rattle.std.specs.Option.{option_map}
use Rattle.disk_api.specs.declared.disk.Disk.{Ghosts as DiskGhosts}
use Rattle.disk_api.specs.Runs.{LeavesOnly}
use Rattle.disk_api.specs.laws.RunLaws.{OnlyNow, started}
use Rattle.gate_journal.specs.Answers.{CanAppend}
use Rattle.gate_journal.specs.Format.{held_for}
use Rattle.gate_journal.specs.View as journal
use Rattle.gate_journal.specs.View.{RecoversToInDoubt, HasSizes, IsSafe, IsSameButRoom, stake_of}
use Rattle.press_records.specs.Store.{Store, IsStoreRecord}
use Rattle.press_core.specs.JournalRecords.{press_limit}
use Rattle.press_core.specs.inner.Loads.{IsOpened, IsBegunBy, IsHeadedBy, IsStop, Holds, IsImageOf}
use Rattle.press_core.specs.declared.loading.LoadFault.{LoadFault}
use Rattle.press_core.specs.declared.loading.LoadFault.TheVariants as why
use Rattle.press_core.proofs.Loads.{empty-records, knows-same, knows-begun, knows-doubted, holds-then, image-then, images-append}

abbrev Bytes : Type 0
Bytes = List ℕ

-- ---- one record

only-one : (first : Bytes) (records : Option (List Bytes)) → IfSome records (λ all. all ≡ [])
    → option_map (λ all. all ++ first ∷ []) records ≡ option_map (λ _. first ∷ []) records
only-one first None none = refl
only-one first (Some all) none = ap (λ (l : List Bytes). one-of (l ++ first ∷ [])) none
  where
    one-of : List Bytes → Option (List Bytes)
    one-of l = Some l

headed-one : (store : Store) (first : Bytes) (records now : Option (List Bytes)) → now ≡ option_map (λ _. first ∷ []) records
    → IsStoreRecord store first → IfSome now (IsHeadedBy store)
headed-one store first None now is named = subst (λ (r : Option (List Bytes)). IfSome r (IsHeadedBy store)) (sym is) tt
headed-one store first (Some all) now is named =
    subst (λ (r : Option (List Bytes)). IfSome r (IsHeadedBy store)) (sym is)
    (record { first = first; rest = []; is = refl; named = named })

sizes-one : (first : Bytes) (sizes : List ℕ) (records now : Option (List Bytes)) → now ≡ option_map (λ _. first ∷ []) records
    → sizes ≡ length first ∷ [] → IfSome now (λ all. sizes ≡ map length all)
sizes-one first sizes None now is sized = subst (λ (r : Option (List Bytes)). IfSome r (λ all. sizes ≡ map length all)) (sym is) tt
sizes-one first sizes (Some all) now is sized =
    subst (λ (r : Option (List Bytes)). IfSome r (λ all. sizes ≡ map length all)) (sym is) sized

-- It is the store's.
pub headed-begun : {D : Type 0} (given store : Store) (old new : journal.View D) → IsBegunBy given store old new
    → IfSome new.records (IsHeadedBy store)
headed-begun given store old new begun =
    headed-one store begun.first old.records new.records begun.records (subst (λ (x : Store). IsStoreRecord x begun.first) (sym begun.is) begun.named)

module _ {D : Type 0} (disk_of : DiskGhosts D) where
  -- ---- an empty journal, in which room was made

  -- The store's record fits.
  pub can-begin : (old mid : journal.View D) (bytes : Bytes) → IsOpened disk_of old → old.sizes ≡ [] → IsSameButRoom old mid
      → held_for [] + (length bytes + 9) ≤ press_limit → CanAppend mid (length bytes + 9)
  can-begin old mid bytes opened empty same fits =
      subst (λ (v : journal.View D). CanAppend v (length bytes + 9)) (sym same)
      (record {
        is_open = opened.is_open;
        fits =
            subst (λ (n : ℕ). held_for old.sizes + (length bytes + 9) ≤ n) (sym opened.limit)
            (subst (λ (l : List ℕ). held_for l + (length bytes + 9) ≤ press_limit) (sym empty) fits);
      })

  module _ (given : Store) (old mid : journal.View D) (opened : IsOpened disk_of old) (same : IsSameButRoom old mid) where
    -- Nothing was written.
    pub holds-idle : Holds given old.records (disk_of.content mid.disk)
    holds-idle =
        subst (λ (v : journal.View D). Holds given old.records (disk_of.content v.disk)) (sym same)
        (holds-then disk_of given old.records old opened.limit opened.safe
        (knows-same disk_of given old.records old refl (opened.safe.settled opened.is_open)))

    pub images-idle : OnlyNow disk_of → LeavesOnly disk_of old.disk mid.disk (IsImageOf given old.records)
    images-idle only_now =
        subst (λ (v : journal.View D). LeavesOnly disk_of old.disk v.disk (IsImageOf given old.records)) (sym same)
        (started disk_of old.disk (IsImageOf given old.records) only_now
        (image-then disk_of given old.records old opened.limit opened.safe
        (knows-same disk_of given old.records old refl (opened.safe.settled opened.is_open))))

    -- ---- its record

    module _ (first : Bytes) (empty : old.sizes ≡ []) (named : IsStoreRecord given first) (new : journal.View D) where
      none : IfSome old.records (λ all. all ≡ [])
      none = empty-records old opened.sizes empty

      kept : mid.records ≡ old.records
      kept = ap (λ (v : journal.View D). v.records) same

      one-then : new.records ≡ option_map (λ all. all ++ first ∷ []) mid.records → new.records ≡ option_map (λ _. first ∷ []) old.records
      one-then appended =
          appended ∙ ap (λ (r : Option (List Bytes)). option_map (λ all. all ++ first ∷ []) r) kept ∙ only-one first old.records none

      sized-then : new.sizes ≡ mid.sizes ++ length first ∷ [] → new.sizes ≡ length first ∷ []
      sized-then sizes = sizes ∙ ap (λ (l : List ℕ). l ++ length first ∷ []) (ap (λ (v : journal.View D). v.sizes) same ∙ empty)

      limit-then : new.limit ≡ mid.limit → new.limit ≡ press_limit
      limit-then limit = limit ∙ ap (λ (v : journal.View D). v.limit) same ∙ opened.limit

      pub begun-by : (store : Store) → store ≡ given → new.records ≡ option_map (λ all. all ++ first ∷ []) mid.records
          → new.sizes ≡ mid.sizes ++ length first ∷ [] → IsBegunBy given store old new
      begun-by store is appended sizes = record {
        none = empty;
        is = is;
        first = first;
        named = named;
        records = one-then appended;
        sizes = ap length (sized-then sizes);
      }

      pub opened-then : new.records ≡ option_map (λ all. all ++ first ∷ []) mid.records → new.sizes ≡ mid.sizes ++ length first ∷ []
          → new.shut ≡ None → new.limit ≡ mid.limit → IsSafe disk_of new → IsOpened disk_of new
      opened-then appended sizes is_open limit safe = record {
        is_open = is_open;
        limit = limit-then limit;
        sizes = sizes-one first new.sizes old.records new.records (one-then appended) (sized-then sizes);
        safe = safe;
      }

      pub holds-begun : new.records ≡ option_map (λ all. all ++ first ∷ []) mid.records → new.shut ≡ None → new.limit ≡ mid.limit
          → IsSafe disk_of new → Holds given old.records (disk_of.content new.disk)
      holds-begun appended is_open limit safe =
          holds-then disk_of given old.records new (limit-then limit) safe
          (knows-begun disk_of given old.records first new none (one-then appended) named (safe.settled is_open))

      pub holds-doubted : new.records ≡ mid.records → new.doubt ≡ Some first → new.limit ≡ mid.limit
          → IsSafe disk_of new → Holds given old.records (disk_of.content new.disk)
      holds-doubted kept_records doubt limit safe =
          holds-then disk_of given old.records new (limit-then limit) safe
          (knows-doubted disk_of given old.records first new none (kept_records ∙ kept) named doubt)

      pub images-begun : LeavesOnly disk_of mid.disk new.disk (RecoversToInDoubt mid.limit mid.records (stake_of mid.shut mid.doubt first))
          → LeavesOnly disk_of old.disk new.disk (IsImageOf given old.records)
      images-begun all =
          images-append disk_of given old new.disk first opened.limit opened.is_open none named
          (subst (λ (v : journal.View D). LeavesOnly disk_of v.disk new.disk (RecoversToInDoubt v.limit v.records (stake_of v.shut v.doubt first))) same all)

  -- ---- why it isn't begun

  -- The disk failed, or memory was wanting.
  pub stop-begun : (Bad : ℕ → Type 0) (old new : D) (fault : LoadFault) → IsStop disk_of (λ at. ⊥) old new fault → IsStop disk_of Bad old new fault
  stop-begun Bad old new (why.Damaged at) stop = absurd stop
  stop-begun Bad old new (why.BadRecord at) stop = absurd stop
  stop-begun Bad old new (why.SiteDiffers one other) stop = absurd stop
  stop-begun Bad old new why.DiskFault stop = stop
  stop-begun Bad old new why.Memory stop = tt

  pub stop-mid : (old mid : journal.View D) (new : D) (fault : LoadFault) → IsSameButRoom old mid → IsStop disk_of (λ at. ⊥) mid.disk new fault
      → IsStop disk_of (λ at. ⊥) old.disk new fault
  stop-mid old mid new fault same stop = subst (λ (v : journal.View D). IsStop disk_of (λ at. ⊥) v.disk new fault) same stop
