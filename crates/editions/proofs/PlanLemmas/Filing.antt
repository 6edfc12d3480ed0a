-- The files of a key, by the objects that are wanted under it: each has a name of its own.
use Rattle.std.proofs.Common.{◌≡◌, ◌≢◌, ℕ, Bool, true, not, Option, Some, None, List, ◌++◌, filter, refl, sym, ap, subst, ◌∙◌, ◌⊎◌, inl, inr}
use Rattle.std.specs.Prelude.{option_map}
use Rattle.std.specs.List.{filter_map}
use Rattle.std.specs.Str.{bytes_eq}
use Rattle.std.proofs.lemmas.Bool.{false≢true, and_parts}
use Rattle.std.proofs.lemmas.Option.{same_Some}
use Rattle.std.proofs.lemmas.Slice.Eq.{bytes_eq-Decides}
use Rattle.sha2.specs.Sha256.{sha256}
use Rattle.key_ids.specs.Uris.{anchor_uri}
use Rattle.key_roll.specs.declared.rows.KeyRow.{KeyRow}
use Rattle.pub_set.specs.Changes.{Contents}
use Rattle.issue_plan.specs.Wanted.{PlanInput}
use Rattle.issue_keys.specs.Keys.{id_of}
use Rattle.issue_drafts.specs.IssueInput.{IssueInput}
use Rattle.issue_drafts.specs.Publishers.{is_key}
use Rattle.issue_drafts.specs.Drafts.{Draft}
use Rattle.issue_drafts.specs.Files.{name_in, folder_at, is_made_under, IsListable}
use Rattle.editions.specs.Objects.{file_of}
use Rattle.editions.specs.Wanted.{whole, all_objects}
use Rattle.items.specs.laws.AmongLaws.{In, filter-in}
use Rattle.editions.proofs.PlanLemmas.Pairs.{Twos, twos-filter, twos-given}
use Rattle.editions.proofs.PlanLemmas.Drafted.{AreKnown, same-key}
use Rattle.editions.proofs.PlanLemmas.FileNames.{whole-uri}
use Rattle.editions.proofs.PlanLemmas.Fitted.{placed}

abbrev pub File : Type 0
File = List ℕ × List ℕ

abbrev pub name_of : File → List ℕ
name_of f = f.0

module _ (plan_input : PlanInput) (ks : List KeyRow) (known : AreKnown plan_input ks) (behind : Contents)
    (key : KeyRow) (live : In key ks) where
  abbrev want : IssueInput
  want = whole plan_input ks

  abbrev objects : List Draft
  objects = all_objects plan_input ks

  abbrev folder : List ℕ
  folder = folder_at want key

  abbrev under : Draft → Bool
  under = is_made_under want key

  abbrev file : Draft → Option File
  file = file_of behind folder

  -- ---- places under the key

  pub issuer-same : (d : Draft) → In d objects → id_of d.issuer ≡ id_of key → d.issuer ≡ key
  issuer-same d at ids =
      same-key plan_input ks known d.issuer key (placed plan_input ks d at).live live ids

  pub of-under : (d : Draft) → under d ≡ true → (id_of d.issuer ≡ id_of key) × (not (bytes_eq d.uri (anchor_uri plan_input.site)) ≡ true)
  of-under d is =
      let p = and_parts (is_key d.issuer key) (not (bytes_eq d.uri (anchor_uri plan_input.site))) is in
      ((bytes_eq-Decides (id_of d.issuer) (id_of key)).0 p.0, p.1)

  pub in-folder : (d : Draft) → In d objects → under d ≡ true → IsListable folder d.uri
  in-folder d at is = by (placed plan_input ks d at).place
    where
      by : (d.uri ≡ anchor_uri plan_input.site) ⊎ IsListable (folder_at want d.issuer) d.uri → IsListable folder d.uri
      by (inl anchor) =
          absurd (false≢true (ap not (sym ((bytes_eq-Decides d.uri (anchor_uri plan_input.site)).1 anchor)) ∙ (of-under d is).1))
      by (inr inside) =
          subst (λ (k : KeyRow). IsListable (folder_at want k) d.uri) (issuer-same d at (of-under d is).0) inside

  pub names-apart : (a b : List ℕ) → IsListable folder a → IsListable folder b → a ≢ b → name_in folder a ≢ name_in folder b
  names-apart a b one other apart same =
      apart (whole-uri folder a one ∙ (ap (λ (n : List ℕ). folder ++ n) same ∙ sym (whole-uri folder b other)))

  pub file-name : (d : Draft) (f : File) → file d ≡ Some f → (bytes : List ℕ) × (behind d.uri ≡ Some bytes)
      × ((name_in folder d.uri, sha256 bytes) ≡ f)
  file-name d f is = by (behind d.uri) refl is
    where
      by : (o : Option (List ℕ)) → behind d.uri ≡ o
          → option_map (λ (bytes : List ℕ). (name_in folder d.uri, sha256 bytes)) o ≡ Some f
          → (bytes : List ℕ) × (behind d.uri ≡ Some bytes) × ((name_in folder d.uri, sha256 bytes) ≡ f)
      by None there e = absurd cc
      by (Some bytes) there e = (bytes, there, same_Some (name_in folder d.uri, sha256 bytes) f e)

  -- ---- names of their own

  -- The files of objects that are apart.
  pub files-apart : (xs : List Draft) → ((d : Draft) → In d xs → In d objects) → Twos (λ a b. a.uri ≢ b.uri) xs
      → Twos (λ f g. f.0 ≢ g.0) (filter_map file (filter under xs))
  files-apart xs inside apart =
      twos-given file (λ a b. a.uri ≢ b.uri) (λ f g. f.0 ≢ g.0) (filter under xs)
      (λ a b f g at here other is of.
      let p = filter-in under a xs at in
      let q = filter-in under b xs here in
      let one = file-name a f is in
      let two = file-name b g of in
      λ same. names-apart a.uri b.uri (in-folder a (inside a p.0) p.1) (in-folder b (inside b q.0) q.1) other
      (ap name_of one.2 ∙ (same ∙ sym (ap name_of two.2))))
      (twos-filter under (λ a b. a.uri ≢ b.uri) xs apart)
