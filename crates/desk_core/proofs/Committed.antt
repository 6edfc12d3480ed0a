-- What a commit does to a desk, by what its parts do.
use Rattle.std.proofs.Common.{◌≡◌, ◌≤◌, ◌<◌, ◌+◌, ◌-◌, ◌^◌, ℕ, inl, Option, Some, None, List, [], ◌∷◌, ◌++◌, map, length, refl, sym, ◌∙◌, ap, subst, arith, length-append}
use Rattle.std.specs.Prelude.{IfSome, IsSome, min}
use Rattle.std.specs.Option.{option_map}
use Rattle.std.proofs.lemmas.List.{length-map}
use Rattle.gate_journal.specs.Format.{spelled, taken_by, held_for, held_by, payloads}
use Rattle.gate_journal.specs.laws.BodyLaws.{sizes-payloads, taken-push, length-one, payloads-push}
use Rattle.disk_api.specs.Runs.{LeavesOnly}
use Rattle.authority_book.specs.declared.commands.Command.{Command}
use Rattle.authority_book.specs.Settings.{Settings}
use Rattle.authority_book.specs.Fold.{after, after_all, fold_of, empty_settings, Taken}
use Rattle.cmd_codec.specs.Spelling.{spelling, IsRecordable}
use Rattle.gate_journal.specs.View.{View, RecoversToInDoubt, stake_of, IsSameButRoom}
use Rattle.gate_journal.specs.View.{IsSafe as IsSafeJournal}
use Rattle.gate_journal.specs.Answers.{IsAppendFault}
use Rattle.gate_journal.specs.declared.fault.AppendFault.{AppendFault}
use Rattle.gate_journal.specs.declared.fault.AppendFault.TheVariants.{Shut, JournalFull, DiskFault}
use Rattle.desk_core.specs.View.{journal_limit}
use Rattle.desk_core.specs.View as desk
use Rattle.desk_core.specs.Answers.{CanCommit, IsDeskFault, fault_of}
use Rattle.desk_core.specs.Commands.{Records, HasCommands}
use Rattle.desk_core.specs.Images.{RecoversTo, RecoversToKnown, IsSafe}
use Rattle.desk_core.specs.inner.Kept.{IsConsistentDesk, IsLoaded}
use Rattle.disk_api.specs.laws.RunLaws.{weaker}
use Rattle.disk_api.specs.declared.disk.Disk.{Ghosts as DiskGhosts}
use Rattle.desk_core.proofs.Recorded.{records_push}

-- a desk with these parts
abbrev pub desk_of : {D : Type 0} → ℕ → Settings → List (List ℕ) → View D → desk.View D
desk_of number settings records j = record { disk = j.disk; number = number; settings = settings; records = records; shut = j.shut; doubt = j.doubt }

-- what the journal's disk holds, the desk's does
known_doubt : (content : Option (List ℕ)) (limit : ℕ) (shown : Option (List (List ℕ))) (records : List (List ℕ)) (doubt : Option (List ℕ)) (file : List ℕ) → limit ≡ journal_limit →
    IfSome content (λ _. IsSome shown) → IfSome shown (λ all. all ≡ records) → RecoversToInDoubt limit shown doubt file → RecoversToKnown content records doubt file
known_doubt None limit shown records doubt file is known same stands = tt
known_doubt (Some bytes) limit None records doubt file is known same stands = cc
known_doubt (Some bytes) limit (Some all) records doubt file is known same stands =
    subst (λ (n : ℕ). RecoversToInDoubt n (Some records) doubt file) is (subst (λ (r : List (List ℕ)). RecoversToInDoubt limit (Some r) doubt file) same stands)

known_bytes : (content : Option (List ℕ)) (limit : ℕ) (shown : Option (List (List ℕ))) (records : List (List ℕ)) (doubt : Option (List ℕ)) → limit ≡ journal_limit →
    IfSome content (λ _. IsSome shown) → IfSome shown (λ all. all ≡ records) → IfSome content (λ bytes. RecoversToInDoubt limit shown doubt bytes) → IfSome content (RecoversTo records doubt)
known_bytes None limit shown records doubt is known same stands = tt
known_bytes (Some bytes) limit shown records doubt is known same stands = known_doubt (Some bytes) limit shown records doubt bytes is known same stands

pub safe_of : {D : Type 0} (disk_of : DiskGhosts D) (number : ℕ) (settings : Settings) (body : List ℕ) (journal : View D) → IsConsistentDesk disk_of number settings body journal →
    IsSafe disk_of (desk_of number settings (payloads journal.sizes body) journal)
safe_of disk_of number settings body journal kept = let records = payloads journal.sizes body in record {
  bytes = known_bytes (disk_of.content journal.disk) journal.limit journal.records records journal.doubt kept.limit kept.safe.known kept.known kept.safe.bytes;
  images = λ c left. known_doubt (disk_of.content journal.disk) journal.limit journal.records records journal.doubt c kept.limit kept.safe.known kept.known (kept.safe.images c left);
  settled = kept.safe.settled;
}

-- what is left between commits may be left during one
pub stake_holds : (content : Option (List ℕ)) (records : List (List ℕ)) (shut : Option (ℕ × ℕ)) (doubt : Option (List ℕ)) (payload file : List ℕ) → (shut ≡ None → doubt ≡ None) → RecoversToKnown content records doubt file →
    RecoversToKnown content records (stake_of shut doubt payload) file
stake_holds None records shut doubt payload file settled holds = tt
stake_holds (Some bytes) records None doubt payload file settled holds = inl (subst (λ (o : Option (List ℕ)). RecoversTo records o file) (settled refl) holds)
stake_holds (Some bytes) records (Some rose) doubt payload file settled holds = holds

-- each moment of an append is one of the desk's
pub moments : {D : Type 0} (disk_of : DiskGhosts D)
    (number : ℕ) (settings : Settings) (body : List ℕ) (command : Command) (payload : List ℕ) (old mid new : View D) → IsConsistentDesk disk_of number settings body old →
    IsSameButRoom old mid → payload ≡ spelling command →
    LeavesOnly disk_of mid.disk new.disk (RecoversToInDoubt mid.limit mid.records (stake_of mid.shut mid.doubt payload)) →
    LeavesOnly disk_of old.disk new.disk (RecoversToKnown (disk_of.content old.disk) (payloads old.sizes body) (stake_of old.shut old.doubt (spelling command)))
moments disk_of number settings body command payload old mid new kept same spelled any =
    let records = payloads old.sizes body in
    let mine = subst (λ (j : View _). LeavesOnly disk_of j.disk new.disk (RecoversToInDoubt j.limit j.records (stake_of j.shut j.doubt payload))) same any in
    weaker disk_of old.disk new.disk (RecoversToInDoubt old.limit old.records (stake_of old.shut old.doubt payload)) (RecoversToKnown (disk_of.content old.disk) records (stake_of old.shut old.doubt (spelling command))) mine
    (λ c stands. known_doubt (disk_of.content old.disk) old.limit old.records records (stake_of old.shut old.doubt (spelling command)) c kept.limit kept.safe.known kept.known (subst (λ (p : List ℕ). RecoversToInDoubt old.limit old.records (stake_of old.shut old.doubt p) c) spelled stands))

known_push : (old new : Option (List (List ℕ))) (records : List (List ℕ)) (payload : List ℕ) → IfSome old (λ all. all ≡ records) →
    new ≡ option_map (λ all. all ++ payload ∷ []) old → IfSome new (λ all. all ≡ records ++ payload ∷ [])
known_push None new records payload same is = subst (λ (o : Option (List (List ℕ))). IfSome o (λ all. all ≡ records ++ payload ∷ [])) (sym is) tt
known_push (Some all) new records payload same is = subst (λ (o : Option (List (List ℕ))). IfSome o (λ all. all ≡ records ++ payload ∷ [])) (sym is) (ap (λ (r : List (List ℕ)). r ++ payload ∷ []) same)

-- the records with one more
pub records_more : {D : Type 0} (body more payload : List ℕ) (old mid new : View D) → length body ≡ taken_by old.sizes → IsSameButRoom old mid → new.sizes ≡ mid.sizes ++ length payload ∷ [] → more ≡ body ++ spelled (payload ∷ []) →
    payloads new.sizes more ≡ payloads old.sizes body ++ payload ∷ []
records_more body more payload old mid new size same sizes pushed =
    ap (λ (l : List ℕ). payloads l more) (sizes ∙ ap (λ (j : View _). j.sizes ++ length payload ∷ []) same)
    ∙ ap (λ (l : List ℕ). payloads (old.sizes ++ length payload ∷ []) l) pushed
    ∙ payloads-push old.sizes body payload size

-- a desk with one record more
pub kept_push : {D : Type 0} (disk_of : DiskGhosts D) (number : ℕ) (settings next : Settings) (body more payload : List ℕ) (old mid new : View D) →
    IsConsistentDesk disk_of number settings body old → IsSameButRoom old mid → new.records ≡ option_map (λ all. all ++ payload ∷ []) mid.records → new.limit ≡ mid.limit → new.sizes ≡ mid.sizes ++ length payload ∷ [] →
    IsSafeJournal disk_of new → more ≡ body ++ spelled (payload ∷ []) → IsLoaded number next (payloads old.sizes body ++ payload ∷ []) → IsConsistentDesk disk_of number next more new
kept_push disk_of number settings next body more payload old mid new kept same appended limit sizes safe pushed loaded =
    let records = records_more body more payload old mid new kept.size same sizes pushed in
    record {
      loaded = subst (λ (r : List (List ℕ)). IsLoaded number next r) (sym records) loaded;
      known = subst (λ (r : List (List ℕ)). IfSome new.records (λ all. all ≡ r)) (sym records)
          (known_push old.records new.records (payloads old.sizes body) payload kept.known (appended ∙ ap (λ (j : View _). option_map (λ (all : List (List ℕ)). all ++ payload ∷ []) j.records) same));
      size = omega (arith, ap (λ (l : List ℕ). length l) pushed, length-append body (spelled (payload ∷ [])), length-one payload, kept.size, ap taken_by (sizes ∙ ap (λ (j : View _). j.sizes ++ length payload ∷ []) same), taken-push old.sizes (length payload));
      limit = limit ∙ (ap (λ (j : View _). j.limit) same ∙ kept.limit);
      safe = safe;
    }

-- a disk that is known now was known before
pub held_before : (old now : Option (List ℕ)) (f : List ℕ → List ℕ) (records : List (List ℕ)) (doubt : Option (List ℕ)) (file : List ℕ) → now ≡ option_map f old → RecoversToKnown now records doubt file → RecoversToKnown old records doubt file
held_before None now f records doubt file is holds = tt
held_before (Some bytes) now f records doubt file is holds = subst (λ (o : Option (List ℕ)). RecoversToKnown o records doubt file) is holds

-- the sizes of its records
pub kept_sizes : {D : Type 0} (disk_of : DiskGhosts D) (number : ℕ) (settings : Settings) (body : List ℕ) (journal : View D) → IsConsistentDesk disk_of number settings body journal →
    journal.sizes ≡ map length (payloads journal.sizes body)
kept_sizes disk_of number settings body journal kept = sym (sizes-payloads journal.sizes body (omega (arith, kept.size)))

pub length-payloads : (sizes body : List ℕ) → length body ≡ taken_by sizes → length (payloads sizes body) ≡ length sizes
length-payloads sizes body size = sym (length-map (payloads sizes body) length) ∙ ap (λ (l : List ℕ). length l) (sizes-payloads sizes body (omega (arith, size)))

fewer_than_taken : (sizes : List ℕ) → length sizes ≤ taken_by sizes
fewer_than_taken [] = omega arith
fewer_than_taken (size ∷ sizes) = omega (arith, fewer_than_taken sizes)

pub fewer_than_bytes : (sizes body : List ℕ) → length body ≡ taken_by sizes → length (payloads sizes body) ≤ length body
fewer_than_bytes sizes body size = omega (arith, length-payloads sizes body size, size, fewer_than_taken sizes)

-- and its commands
pub has_push : {D : Type 0} (number : ℕ) (settings next : Settings) (records more : List (List ℕ)) (payload : List ℕ) (command : Command) (old new : View D) → IsRecordable command → payload ≡ spelling command →
    more ≡ records ++ payload ∷ [] → ((desk : ℕ) (commands : List Command) → settings ≡ fold_of desk commands → next ≡ fold_of desk (commands ++ command ∷ [])) →
    ((desk : ℕ) (commands : List Command) → settings ≡ fold_of desk commands → Taken desk commands → Taken desk (commands ++ command ∷ [])) →
    (commands : List Command) → HasCommands (desk_of number settings records old) commands → HasCommands (desk_of number next more new) (commands ++ command ∷ [])
has_push number settings next records more payload command old new recordable spelled pushed folds takes commands has = record {
  recorded = subst (λ (r : List (List ℕ)). Records number r (commands ++ command ∷ [])) (sym pushed) (records_push number settings records payload commands command recordable spelled (takes number) has.recorded has.fold);
  fold = folds number commands has.fold;
}

-- a journal's refusal is the desk's
pub refused_of : {D : Type 0} (disk_of : DiskGhosts D) (fault : AppendFault D) (payload : List ℕ) (command : Command) (signers number : ℕ) (settings next : Settings) (records more : List (List ℕ)) (old mid new : View D) →
    old.limit ≡ journal_limit → old.sizes ≡ map length records → IsSameButRoom old mid → next ≡ settings → more ≡ records → payload ≡ spelling command → CanCommit (desk_of number settings records old) command signers →
    IsAppendFault disk_of fault payload mid new → IsRecordable command → IsDeskFault disk_of (fault_of number fault) command signers (desk_of number settings records old) (desk_of number next more new)
refused_of disk_of (Shut rose) payload command signers number settings next records more old mid new limit sizes same now_settings now_records spelled place answer recordable =
    let shut : mid.shut ≡ Some rose = answer.shut in
    let was : mid.shut ≡ old.shut = ap (λ (j : View _). j.shut) same in
    let is_open : old.shut ≡ None = place.may_come.is_open in
    let no : Some rose ≡ None = sym shut ∙ (was ∙ is_open) in cc
refused_of disk_of (JournalFull h n) payload command signers number settings next records more old mid new limit sizes same now_settings now_records spelled place answer recordable =
    let was_limit : mid.limit ≡ old.limit = ap (λ (j : View _). j.limit) same in
    let was_held : held_for mid.sizes ≡ held_by records = ap (λ (j : View _). held_for j.sizes) same ∙ ap held_for sizes in
    let long : length payload ≡ length (spelling command) = ap length spelled in
    let past : mid.limit < h + n = answer.past in
    let h_is : h ≡ held_for mid.sizes = answer.held_is in
    let n_is : n ≡ length payload + 9 = answer.needed_is in
    let fits : held_by records + (length (spelling command) + 9) ≤ journal_limit = place.fits in
    absurd (omega arith)
refused_of disk_of (DiskFault rose) payload command signers number settings next records more old mid new limit sizes same now_settings now_records spelled place answer recordable = record {
  place = place;
  desk = refl;
  before = answer.before ∙ ap (λ (j : View _). disk_of.fault_count j.disk) same;
  after = answer.after;
  risen = answer.risen;
  recordable = recordable;
  same =
      let doubt : new.doubt ≡ Some (spelling command) = answer.doubt ∙ ap Some spelled in
      let shut : new.shut ≡ Some rose = answer.shut in
      λ i. record { disk = new.disk; number = number; settings = now_settings i; records = now_records i; shut = shut i; doubt = doubt i };
}

-- how many commands were accepted, as far as a count goes
count_of : (settings : Settings) (commands : List Command) → settings.count ≤ 2 ^ 64 - 1 → (after_all settings commands).count ≡ min (settings.count + length commands) (2 ^ 64 - 1)
count_of settings [] small = omega arith
count_of settings (command ∷ commands) small =
    let rest = count_of (after settings command) commands (omega arith) in
    omega (arith, rest)

pub counts_records : (number : ℕ) (settings : Settings) (records : List (List ℕ)) → IsLoaded number settings records → length records < 2 ^ 64 - 1 → settings.count ≡ length records
counts_records number settings records loaded small =
    let spelled : length records ≡ length loaded.commands = ap length loaded.recorded.spelled ∙ length-map loaded.commands spelling in
    let all = count_of (empty_settings number) loaded.commands (omega arith) in
    let same : settings.count ≡ (fold_of number loaded.commands).count = ap (λ (s : Settings). s.count) loaded.fold in
    omega (arith, all, same, spelled)

-- a desk with the same records, after a refused append
pub kept_again : {D : Type 0} (disk_of : DiskGhosts D) (number : ℕ) (settings next : Settings) (body more : List ℕ) (old mid new : View D) →
    IsConsistentDesk disk_of number settings body old → IsSameButRoom old mid → next ≡ settings → more ≡ body → new.records ≡ mid.records → new.sizes ≡ mid.sizes → new.limit ≡ mid.limit →
    IsSafeJournal disk_of new → IsConsistentDesk disk_of number next more new
kept_again disk_of number settings next body more old mid new kept same now_settings now_body records_same sizes_same limit safe =
    let sizes : new.sizes ≡ old.sizes = sizes_same ∙ ap (λ (j : View _). j.sizes) same in
    let records : payloads new.sizes more ≡ payloads old.sizes body =
    ap (λ (l : List ℕ). payloads l more) sizes ∙ ap (λ (l : List ℕ). payloads old.sizes l) now_body in
    record {
      loaded = subst (λ (r : List (List ℕ)). IsLoaded number next r) (sym records) (subst (λ (s : Settings). IsLoaded number s (payloads old.sizes body)) (sym now_settings) kept.loaded);
      known = subst (λ (r : List (List ℕ)). IfSome new.records (λ all. all ≡ r)) (sym records)
          (subst (λ (o : Option (List (List ℕ))). IfSome o (λ all. all ≡ payloads old.sizes body)) (sym (records_same ∙ ap (λ (j : View _). j.records) same)) kept.known);
      size = ap (λ (l : List ℕ). length l) now_body ∙ kept.size ∙ ap taken_by (sym sizes);
      limit = limit ∙ (ap (λ (j : View _). j.limit) same ∙ kept.limit);
      safe = safe;
    }
