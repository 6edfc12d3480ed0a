-- The files of a key that gets a new manifest: what stays of what stood under it, and what is made.
use Rattle.std.proofs.Common.{◌≡◌, ◌≢◌, ℕ, ◌&&◌, ◌||◌, Bool, true, false, not, Option, Some, List, ◌++◌, map, filter, refl, sym, ap, subst, ◌∙◌, ◌⊎◌, inl, inr}
use Rattle.std.specs.Prelude.{Any, Contains, IsPermutation, option_map}
use Rattle.std.specs.List.{filter_map, list_any}
use Rattle.std.specs.Str.{bytes_eq}
use Rattle.std.proofs.lemmas.Bool.{false≢true, false_from_ne_true, and_from, and_parts, or_cases}
use Rattle.std.proofs.lemmas.Option.{same_Some}
use Rattle.std.proofs.lemmas.Slice.Eq.{bytes_eq-Decides}
use Rattle.sha2.specs.Sha256.{sha256}
use Rattle.key_ids.specs.Uris.{anchor_uri}
use Rattle.key_roll.specs.declared.rows.KeyRow.{KeyRow}
use Rattle.key_roll.specs.declared.issued.IssuedRow.{IssuedRow}
use Rattle.key_roll.specs.declared.work.Work.{Work}
use Rattle.pub_set.specs.Changes.{Contents}
use Rattle.issue_plan.specs.Wanted.{PlanInput}
use Rattle.issue_keys.specs.Keys.{id_of}
use Rattle.issue_drafts.specs.WorkKeys.{Keys}
use Rattle.issue_drafts.specs.IssueInput.{IssueInput}
use Rattle.issue_drafts.specs.Publishers.{is_key}
use Rattle.issue_drafts.specs.Drafts.{Draft, drafts, manifests}
use Rattle.issue_drafts.specs.Revoking.{is_touched}
use Rattle.issue_drafts.specs.Files.{name_in, folder_at, is_kept, kept_file, kept_files, is_made_under, IsListable}
use Rattle.issue_make.specs.ObjectPlan.{puts}
use Rattle.issue_make.specs.CanMake.{AreListable}
use Rattle.editions.specs.Table.{IsTable}
use Rattle.editions.specs.Objects.{file_of}
use Rattle.editions.specs.Wanted as editions
use Rattle.editions.specs.Wanted.{there, whole, all_objects, new_objects, keeps_point}
use Rattle.editions.specs.inner.PlanAndTable.{made_from, AreOfPlan}
use Rattle.items.specs.laws.AmongLaws.{In, in-all, in-front, in-behind, in-parts, in-map, map-in, in-filter, filter-in, in-filter-map, filter-map-in, any-in, in-any, in-contains, contains-in}
use Rattle.editions.proofs.ObjectLemmas.Fitting.{IsKept}
use Rattle.editions.proofs.ObjectLemmas.Kept.{IsOver}
use Rattle.editions.proofs.ObjectLemmas.Permuted.{same-members}
use Rattle.items.specs.laws.PairLaws as pairs
use Rattle.editions.proofs.PlanLemmas.Pairs.{Twos, one-of, twos-pairs, twos-weaker, twos-map, twos-filter, twos-append, rise-twos}
use Rattle.editions.proofs.PlanLemmas.Drafted.{AreKnown}
use Rattle.editions.proofs.PlanLemmas.Filing.{File, name_of, of-under, in-folder, names-apart, file-name, files-apart}
use Rattle.editions.proofs.PlanLemmas.Fitted.{new_puts, new-in, new-twos, AreParted, twos-parted, made-or-left, front-in, front-new, list-made}

module _ (plan_input : PlanInput) (work : Work) (found : Keys) (plan : AreOfPlan plan_input work found)
    (known : AreKnown plan_input plan.keys) (over : IsOver plan_input plan.keys)
    (twos : Twos (λ a b. a.uri ≢ b.uri) (all_objects plan_input plan.keys))
    (before behind : Contents) (table : IsTable before plan_input.issued)
    (puts_new : puts (made_from plan_input work) found ≡ new_puts plan_input plan.keys)
    (wanted : (row : IssuedRow) → Contains plan_input.issued row
    → Any (λ d. d.uri ≡ row.uri) (all_objects plan_input plan.keys)
    ⊎ (list_any (λ u. bytes_eq u row.uri) work.withdrawn ≡ true))
    (not_gone : (d : Draft) → In d (all_objects plan_input plan.keys) → IsKept plan_input plan.keys d
    → list_any (λ u. bytes_eq u d.uri) work.withdrawn ≡ false)
    (left : (d : Draft) → In d (all_objects plan_input plan.keys) → IsKept plan_input plan.keys d
    → ((e : Draft) → In e (new_puts plan_input plan.keys) → e.uri ≢ d.uri) → behind d.uri ≡ before d.uri)
    (key : KeyRow) (live : In key plan.keys) (anew : keeps_point plan_input plan.keys key ≡ false)
    (listable : AreListable (made_from plan_input work) found key) where
  abbrev s : IssueInput
  s = made_from plan_input work

  abbrev want : IssueInput
  want = whole plan_input plan.keys

  abbrev objects : List Draft
  objects = all_objects plan_input plan.keys

  abbrev news : List Draft
  news = new_puts plan_input plan.keys

  abbrev folder : List ℕ
  folder = folder_at want key

  abbrev under : Draft → Bool
  under = is_made_under want key

  abbrev file : Draft → Option File
  file = file_of behind folder

  abbrev stays : IssuedRow → Bool
  stays = is_kept s (puts s found) key

  -- ---- tests

  is-touched : (uri : List ℕ) (d : Draft) → In d news → d.uri ≡ uri → is_touched s (puts s found) uri ≡ true
  is-touched uri d at same =
      ap (λ (b : Bool). b || list_any (λ u. bytes_eq u uri) work.withdrawn)
      (any-in (λ (x : Draft). bytes_eq x.uri uri) (puts s found) d (subst (In d) (sym puts_new) at)
      ((bytes_eq-Decides d.uri uri).1 same))

  is-gone : (uri : List ℕ) → list_any (λ u. bytes_eq u uri) work.withdrawn ≡ true → is_touched s (puts s found) uri ≡ true
  is-gone uri gone = by (list_any (λ (x : Draft). bytes_eq x.uri uri) (puts s found))
    where
      by : (b : Bool) → (b || list_any (λ u. bytes_eq u uri) work.withdrawn) ≡ true
      by true = refl
      by false = gone

  untouched : (d : Draft) → In d objects → IsKept plan_input plan.keys d → ((e : Draft) → In e news → e.uri ≢ d.uri)
      → is_touched s (puts s found) d.uri ≡ false
  untouched d at kept away =
      false_from_ne_true (is_touched s (puts s found) d.uri) (λ touched.
      by (or_cases (list_any (λ (x : Draft). bytes_eq x.uri d.uri) (puts s found))
      (list_any (λ u. bytes_eq u d.uri) work.withdrawn) touched))
    where
      by : (list_any (λ (x : Draft). bytes_eq x.uri d.uri) (puts s found) ≡ true)
          ⊎ (list_any (λ u. bytes_eq u d.uri) work.withdrawn ≡ true) → ⊥
      by (inl put) =
          let w = in-any (λ (x : Draft). bytes_eq x.uri d.uri) (puts s found) put in
          away w.0 (subst (In w.0) puts_new w.1) ((bytes_eq-Decides w.0.uri d.uri).0 w.2)
      by (inr gone) = false≢true (sym (not_gone d at kept) ∙ gone)

  files-twos : (xs : List Draft) → ((d : Draft) → In d xs → In d objects) → Twos (λ a b. a.uri ≢ b.uri) xs
      → Twos (λ a b. a ≢ b) (map name_of (filter_map file (filter under xs)))
  files-twos xs inside apart =
      twos-map name_of (λ a b. a ≢ b) (filter_map file (filter under xs)) (files-apart plan_input plan.keys known behind key live xs inside apart)

  rows-listable : (row : IssuedRow) → In row (filter stays plan_input.issued) → IsListable folder row.uri
  rows-listable row at =
      let p = filter-in stays row plan_input.issued at in
      in-all (λ (r : IssuedRow). stays r ≡ true → IsListable (folder_at s key) r.uri) row plan_input.issued listable p.0 p.1

  rows-apart : Twos (λ f g. f.0 ≢ g.0) (kept_files s (puts s found) key)
  rows-apart =
      twos-map (kept_file folder) (λ f g. f.0 ≢ g.0) (filter stays plan_input.issued)
      (twos-weaker (λ a b. a.uri ≢ b.uri) (λ a b. name_in folder a.uri ≢ name_in folder b.uri) (filter stays plan_input.issued)
      (λ a b at here other. names-apart plan_input plan.keys known behind key live a.uri b.uri (rows-listable a at) (rows-listable b here) other)
      (twos-filter stays (λ a b. a.uri ≢ b.uri) plan_input.issued
      (rise-twos (λ (r : IssuedRow). r.uri) plan_input.issued table.rising)))

  -- ---- the same files

  abbrev all_files : List File
  all_files = filter_map file (filter under (drafts want (there plan.keys)))

  abbrev old_files : List File
  old_files = kept_files s (puts s found) key

  abbrev new_files : List File
  new_files = filter_map file (filter under (new_objects plan_input plan.keys))

  -- What stays has the row that it had.
  row-file : (d : Draft) → In d objects → (kept : IsKept plan_input plan.keys d) → ((e : Draft) → In e news → e.uri ≢ d.uri)
      → (f : File) → file d ≡ Some f → kept_file folder kept.row ≡ f
  row-file d at kept away f is =
      let w = file-name plan_input plan.keys known behind key live d f is in
      let r = table.each kept.row kept.among in
      let bytes : w.0 ≡ r.0 =
      same_Some w.0 r.0 (sym w.1 ∙ (left d at kept away ∙ (ap before (sym kept.at) ∙ r.1))) in
      ap (λ (u : List ℕ). (name_in folder u, kept.row.hash)) kept.at
      ∙ (ap (λ (h : List ℕ). (name_in folder d.uri, h)) (r.2.hash ∙ ap sha256 (sym bytes)) ∙ w.2)

  to-files : (f : File) → In f all_files → In f (old_files ++ new_files)
  to-files f at =
      let w = filter-map-in file f (filter under (drafts want (there plan.keys))) at in
      let p = filter-in under w.0 (drafts want (there plan.keys)) w.1 in
      let object : In w.0 objects = in-front w.0 (drafts want (there plan.keys)) (manifests want (there plan.keys)) p.0 in
      by w.0 p.0 p.1 object w.2 (made-or-left plan_input plan.keys over twos w.0 object)
    where
      by : (d : Draft) → In d (drafts want (there plan.keys)) → under d ≡ true → In d objects → file d ≡ Some f
          → In d news ⊎ (IsKept plan_input plan.keys d × ((e : Draft) → In e news → e.uri ≢ d.uri))
          → In f (old_files ++ new_files)
      by d front is object f_is (inl made) =
          in-behind f old_files new_files
          (in-filter-map file d f (filter under (new_objects plan_input plan.keys)) f_is
          (in-filter under d (new_objects plan_input plan.keys) is (front-in plan_input plan.keys twos d front made)))
      by d front is object f_is (inr pair) =
          let u = of-under plan_input plan.keys known behind key live d is in
          let row : IssuedRow = pair.0.row in
          let own : bytes_eq row.issuer.bytes (id_of key) ≡ true =
          (bytes_eq-Decides row.issuer.bytes (id_of key)).1 (pair.0.issuer ∙ u.0) in
          let other : not (bytes_eq row.uri (anchor_uri s.site)) ≡ true =
          ap (λ (x : List ℕ). not (bytes_eq x (anchor_uri s.site))) pair.0.at ∙ u.1 in
          let off : not (is_touched s (puts s found) row.uri) ≡ true =
          ap (λ (x : List ℕ). not (is_touched s (puts s found) x)) pair.0.at ∙ ap not (untouched d object pair.0 pair.1) in
          let stayed : stays row ≡ true =
          and_from (bytes_eq row.issuer.bytes (id_of key) && not (bytes_eq row.uri (anchor_uri s.site)))
          (not (is_touched s (puts s found) row.uri))
          (and_from (bytes_eq row.issuer.bytes (id_of key)) (not (bytes_eq row.uri (anchor_uri s.site))) own other) off in
          in-front f old_files new_files
          (subst (λ (g : File). In g old_files) (row-file d object pair.0 pair.1 f f_is)
          (in-map (kept_file folder) row (filter stays plan_input.issued)
          (in-filter stays row plan_input.issued stayed (contains-in row plan_input.issued pair.0.among))))

  -- The file of a row that stays.
  row-there : (row : IssuedRow) → In row plan_input.issued → stays row ≡ true → (f : File) → kept_file folder row ≡ f
      → (d : Draft) → In d objects → d.uri ≡ row.uri
      → In d news ⊎ (IsKept plan_input plan.keys d × ((e : Draft) → In e news → e.uri ≢ d.uri)) → In f all_files
  row-there row here stayed f is d object same how = by how
    where
      parts : ((bytes_eq row.issuer.bytes (id_of key) ≡ true) × (not (bytes_eq row.uri (anchor_uri s.site)) ≡ true))
          × (not (is_touched s (puts s found) row.uri) ≡ true)
      parts =
          let p = and_parts (bytes_eq row.issuer.bytes (id_of key) && not (bytes_eq row.uri (anchor_uri s.site)))
          (not (is_touched s (puts s found) row.uri)) stayed in
          (and_parts (bytes_eq row.issuer.bytes (id_of key)) (not (bytes_eq row.uri (anchor_uri s.site))) p.0, p.1)

      front : IsKept plan_input plan.keys d → ((e : Draft) → In e news → e.uri ≢ d.uri) → id_of d.issuer ≡ id_of key
          → In d (drafts want (there plan.keys)) ⊎ In d (manifests want (there plan.keys)) → In d (drafts want (there plan.keys))
      front kept away ids (inl first) = first
      front kept away ids (inr list) =
          absurd (away d (list-made plan_input plan.keys d list key ids anew) refl)

      by : In d news ⊎ (IsKept plan_input plan.keys d × ((e : Draft) → In e news → e.uri ≢ d.uri)) → In f all_files
      by (inl made) = absurd (false≢true (ap not (sym (is-touched row.uri d made same)) ∙ parts.1))
      by (inr pair) =
          let one : pair.0.row ≡ row =
          one-of (λ (r : IssuedRow). r.uri) plan_input.issued pair.0.row row
          (rise-twos (λ (r : IssuedRow). r.uri) plan_input.issued table.rising)
          (contains-in pair.0.row plan_input.issued pair.0.among) here (pair.0.at ∙ same) in
          let ids : id_of d.issuer ≡ id_of key =
          sym pair.0.issuer ∙ (ap (λ (r : IssuedRow). r.issuer.bytes) one
          ∙ (bytes_eq-Decides row.issuer.bytes (id_of key)).0 parts.0.0) in
          let passes : under d ≡ true =
          and_from (is_key d.issuer key) (not (bytes_eq d.uri (anchor_uri plan_input.site)))
          ((bytes_eq-Decides (id_of d.issuer) (id_of key)).1 ids)
          (ap (λ (x : List ℕ). not (bytes_eq x (anchor_uri plan_input.site))) same ∙ parts.0.1) in
          let inside = front pair.0 pair.1 ids (in-parts d (drafts want (there plan.keys)) (manifests want (there plan.keys)) object) in
          let r = table.each row (in-contains row plan_input.issued here) in
          let held : behind d.uri ≡ Some r.0 = left d object pair.0 pair.1 ∙ (ap before same ∙ r.1) in
          let named : file d ≡ Some f =
          ap (option_map (λ (bytes : List ℕ). (name_in folder d.uri, sha256 bytes))) held
          ∙ (ap (λ (u : List ℕ). Some (name_in folder u, sha256 r.0)) same
          ∙ (ap (λ (h : List ℕ). Some (name_in folder row.uri, h)) (sym r.2.hash) ∙ ap (λ (g : File). Some g) is)) in
          in-filter-map file d f (filter under (drafts want (there plan.keys))) named
          (in-filter under d (drafts want (there plan.keys)) passes inside)

  from-files : (f : File) → In f (old_files ++ new_files) → In f all_files
  from-files f at = by (in-parts f old_files new_files at)
    where
      of-row : (row : IssuedRow) → In row plan_input.issued → stays row ≡ true → kept_file folder row ≡ f
          → Any (λ d. d.uri ≡ row.uri) objects ⊎ (list_any (λ u. bytes_eq u row.uri) work.withdrawn ≡ true) → In f all_files
      of-row row here stayed is (inl any) =
          let object : In any.1 objects = contains-in any.1 objects (any.0, any.2, any.3) in
          row-there row here stayed f is any.1 object any.4 (made-or-left plan_input plan.keys over twos any.1 object)
      of-row row here stayed is (inr gone) =
          absurd (false≢true (ap not (sym (is-gone row.uri gone))
          ∙ (and_parts (bytes_eq row.issuer.bytes (id_of key) && not (bytes_eq row.uri (anchor_uri s.site)))
          (not (is_touched s (puts s found) row.uri)) stayed).1))

      by : In f old_files ⊎ In f new_files → In f all_files
      by (inl old) =
          let w = map-in (kept_file folder) f (filter stays plan_input.issued) old in
          let p = filter-in stays w.0 plan_input.issued w.1 in
          of-row w.0 p.0 p.1 w.2 (wanted w.0 (in-contains w.0 plan_input.issued p.0))
      by (inr new) =
          let w = filter-map-in file f (filter under (new_objects plan_input plan.keys)) new in
          let p = filter-in under w.0 (new_objects plan_input plan.keys) w.1 in
          in-filter-map file w.0 f (filter under (drafts want (there plan.keys))) w.2
          (in-filter under w.0 (drafts want (there plan.keys)) p.1 (front-new plan_input plan.keys w.0 p.0))

  -- ---- so they are the same files

  objects-parted : AreParted (λ a b. a.uri ≢ b.uri) (drafts want (there plan.keys)) (manifests want (there plan.keys))
  objects-parted =
      twos-parted (λ a b. a.uri ≢ b.uri) (drafts want (there plan.keys)) (manifests want (there plan.keys)) twos

  new-parted : AreParted (λ a b. a.uri ≢ b.uri) (new_objects plan_input plan.keys) (manifests (editions.anew plan_input plan.keys) (there plan.keys))
  new-parted =
      twos-parted (λ a b. a.uri ≢ b.uri) (new_objects plan_input plan.keys) (manifests (editions.anew plan_input plan.keys) (there plan.keys))
      (new-twos plan_input plan.keys (λ a b. a.uri ≢ b.uri) twos)

  all-named : Twos (λ a b. a ≢ b) (map name_of all_files)
  all-named =
      files-twos (drafts want (there plan.keys))
      (λ d at. in-front d (drafts want (there plan.keys)) (manifests want (there plan.keys)) at) objects-parted.first

  -- A file that stays has none of the names that are made.
  parts-apart : (f g : File) → In f old_files → In g new_files → f.0 ≢ g.0
  parts-apart f g old new =
      let w = map-in (kept_file folder) f (filter stays plan_input.issued) old in
      let p = filter-in stays w.0 plan_input.issued w.1 in
      let x = filter-map-in file g (filter under (new_objects plan_input plan.keys)) new in
      let q = filter-in under x.0 (new_objects plan_input plan.keys) x.1 in
      let made : In x.0 news =
      in-front x.0 (new_objects plan_input plan.keys) (manifests (editions.anew plan_input plan.keys) (there plan.keys)) q.0 in
      let off = (and_parts (bytes_eq w.0.issuer.bytes (id_of key) && not (bytes_eq w.0.uri (anchor_uri s.site)))
      (not (is_touched s (puts s found) w.0.uri)) p.1).1 in
      let apart : w.0.uri ≢ x.0.uri =
      λ same. false≢true (ap not (sym (is-touched w.0.uri x.0 made (sym same))) ∙ off) in
      let named = file-name plan_input plan.keys known behind key live x.0 g x.2 in
      λ equal. names-apart plan_input plan.keys known behind key live w.0.uri x.0.uri (rows-listable w.0 w.1) (in-folder plan_input plan.keys known behind key live x.0 (new-in plan_input plan.keys x.0 made) q.1) apart
      (ap name_of w.2 ∙ (equal ∙ sym (ap name_of named.2)))

  parts-named : Twos (λ a b. a ≢ b) (map name_of (old_files ++ new_files))
  parts-named =
      twos-map name_of (λ a b. a ≢ b) (old_files ++ new_files)
      (twos-append (λ f g. f.0 ≢ g.0) old_files new_files rows-apart
      (files-apart plan_input plan.keys known behind key live (new_objects plan_input plan.keys)
      (λ d at. new-in plan_input plan.keys d
      (in-front d (new_objects plan_input plan.keys) (manifests (editions.anew plan_input plan.keys) (there plan.keys)) at))
      new-parted.first) parts-apart)

  pub filed : IsPermutation all_files (old_files ++ new_files)
  filed =
      same-members name_of all_files (old_files ++ new_files)
      (pairs.twos-from (λ a b. a ≢ b) (map name_of all_files) (twos-pairs (λ a b. a ≢ b) (map name_of all_files) all-named))
      (pairs.twos-from (λ a b. a ≢ b) (map name_of (old_files ++ new_files))
      (twos-pairs (λ a b. a ≢ b) (map name_of (old_files ++ new_files)) parts-named))
      (λ f c. in-contains f (old_files ++ new_files) (to-files f (contains-in f all_files c)))
      (λ f c. in-contains f all_files (from-files f (contains-in f (old_files ++ new_files) c)))
