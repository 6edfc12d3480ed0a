-- The steps of storing a record, where the disk may be known.
use Rattle.std.proofs.Common.{◌≡◌, inl, ℕ, ◌-◌, ◌≤◌, ◌<◌, Option, Some, None, List, [], ◌∷◌, length, take, IfSome, sym, ◌∙◌, ap, subst, arith}
use Rattle.std.proofs.lemmas.Option.{same_Some}
use Rattle.std.specs.Option.{option_map}
use Rattle.disk_api.specs.Content.{overwritten, Torn, BothKnown}
use Rattle.disk_api.specs.Images.{Follows, IsOnly, Keeps, Elapses}
use Rattle.disk_api.specs.Runs.{LeavesOnly}
use Rattle.disk_api.specs.laws.RunLaws.{started, goes_on}
use Rattle.disk_api.specs.declared.disk.Disk.{Ghosts as DiskGhosts}
use Rattle.gate_journal.specs.Storing.{stored, IsStoring, IsStoringKnown}
use Rattle.gate_journal.proofs.Torn.{staged, torn_behind, staged_behind, length-staged, torn_gate, stored_is, stored_storing}

abbrev pub IsLong : ℕ → Option (List ℕ) → Type 0
IsLong held content = IfSome content (λ bytes. held ≤ length bytes)

module _ (held : ℕ) (new : List ℕ) (gate : 0 < held) where
  -- what is left before the first write, after it, and after the first sync
  pub before_images : (content : Option (List ℕ)) (c : List ℕ) → content ≡ Some c → IsStoringKnown held new content c
  before_images None c is = tt
  before_images (Some bytes) c is = inl (ap (λ (l : List ℕ). take held l) (sym (same_Some bytes c is)))

  pub first_images : (content : Option (List ℕ)) (before after : List ℕ → Type 0) → IsLong held content → IsOnly content before → Follows (Torn held (length new)) before after
      → (c : List ℕ) → after c → IsStoringKnown held new content c
  first_images None before after long only follows c left = tt
  first_images (Some bytes) before after long only follows c left =
      let from = follows c left in
      torn_behind held new bytes gate long c (subst (λ (d : List ℕ). Torn held (length new) d c) (sym (same_Some bytes from.0 (only from.0 from.1))) from.2)

  -- and after the second write
  pub second_images : (content staged_content : Option (List ℕ)) (before after : List ℕ → Type 0) → IsLong held content → staged_content ≡ option_map (overwritten held new) content → IsOnly staged_content before
      → Follows (Torn (held - 1) 1) before after → (c : List ℕ) → after c → IsStoringKnown held new content c
  second_images None staged_content before after long is only follows c left = tt
  second_images (Some bytes) staged_content before after long is only follows c left =
      let from = follows c left in
      torn_gate held new bytes gate long c (subst (λ (d : List ℕ). Torn (held - 1) 1 d c) (sym (same_Some (staged held new bytes) from.0 (sym is ∙ only from.0 from.1))) from.2)

  -- what is known after each of them
  pub first_torn : (content now : Option (List ℕ)) → IsLong held content → BothKnown (Torn held (length new)) content now → BothKnown (IsStoring held new) content now
  first_torn None now long both = both
  first_torn (Some bytes) now long both = (both.0, both.1, torn_behind held new bytes gate long both.0 both.2)

  pub first_done : (content now : Option (List ℕ)) → IsLong held content → now ≡ option_map (overwritten held new) content → BothKnown (IsStoring held new) content now
  first_done None now long is = is
  first_done (Some bytes) now long is = (staged held new bytes, is, staged_behind held new bytes gate long)

  pub staged_long : (content now : Option (List ℕ)) → IsLong held content → now ≡ option_map (overwritten held new) content → IfSome now (λ bytes. held - 1 ≤ length bytes)
  staged_long None now long is = subst (λ (o : Option (List ℕ)). IfSome o (λ bytes. held - 1 ≤ length bytes)) (sym is) tt
  staged_long (Some bytes) now long is = subst (λ (o : Option (List ℕ)). IfSome o (λ b. held - 1 ≤ length b)) (sym is) (omega (arith, length-staged held new bytes gate long))

  pub second_torn : (content mid now : Option (List ℕ)) → IsLong held content → mid ≡ option_map (overwritten held new) content → BothKnown (Torn (held - 1) 1) mid now → BothKnown (IsStoring held new) content now
  second_torn None mid now long is both = subst (λ (o : Option (List ℕ)). BothKnown (Torn (held - 1) 1) o now) is both
  second_torn (Some bytes) mid now long is both =
      let at : BothKnown (Torn (held - 1) 1) (Some (staged held new bytes)) now = subst (λ (o : Option (List ℕ)). BothKnown (Torn (held - 1) 1) o now) is both in
      (at.0, at.1, torn_gate held new bytes gate long at.0 at.2)

  pub second_done : (content mid now : Option (List ℕ)) → IsLong held content → mid ≡ option_map (overwritten held new) content → now ≡ option_map (overwritten (held - 1) (1 ∷ [])) mid → now ≡ option_map (stored held new) content
  second_done None mid now long is done = done ∙ ap (λ (o : Option (List ℕ)). option_map (overwritten (held - 1) (1 ∷ [])) o) is
  second_done (Some bytes) mid now long is done =
      done ∙ ap (λ (o : Option (List ℕ)). option_map (overwritten (held - 1) (1 ∷ [])) o) is ∙ ap (λ (l : List ℕ). Some l) (stored_is held new bytes gate long)

  pub stored_known : (content now : Option (List ℕ)) → IsLong held content → now ≡ option_map (stored held new) content → BothKnown (IsStoring held new) content now
  stored_known None now long is = is
  stored_known (Some bytes) now long is = (stored held new bytes, is, stored_storing held new bytes gate long)

-- the moments of the four calls, of which the disk is d1 to d4 after each
module _ {D : Type 0} (disk_of : DiskGhosts D)
    (only_now : (disk : D) (c : List ℕ) → disk_of.left_since disk (disk_of.moment disk) c → disk_of.may_leave disk c) (held : ℕ) (new : List ℕ) (gate : 0 < held) (old : D)
    (long : IsLong held (disk_of.content old)) (only : IsOnly (disk_of.content old) (disk_of.may_leave old)) where
  abbrev pub Passes : D → D → Type 0
  Passes a b = Elapses (disk_of.moment a) (disk_of.moment b) (disk_of.left_since a) (disk_of.left_since b) (disk_of.may_leave b)

  pub after_first : (d1 : D) → Passes old d1 → Follows (Torn held (length new)) (disk_of.may_leave old) (disk_of.may_leave d1) → LeavesOnly disk_of old d1 (IsStoringKnown held new (disk_of.content old))
  after_first d1 time1 follows1 =
      goes_on disk_of old old d1 (IsStoringKnown held new (disk_of.content old))
      (started disk_of old (IsStoringKnown held new (disk_of.content old)) only_now (λ c left. before_images held new gate (disk_of.content old) c (only c left)))
      time1 (first_images held new gate (disk_of.content old) (disk_of.may_leave old) (disk_of.may_leave d1) long only follows1)

  pub after_sync : (d1 d2 : D) → Passes old d1 → Follows (Torn held (length new)) (disk_of.may_leave old) (disk_of.may_leave d1) → Passes d1 d2 → Keeps (disk_of.may_leave d2) (disk_of.may_leave d1)
      → LeavesOnly disk_of old d2 (IsStoringKnown held new (disk_of.content old))
  after_sync d1 d2 time1 follows1 time2 keeps2 =
      goes_on disk_of old d1 d2 (IsStoringKnown held new (disk_of.content old)) (after_first d1 time1 follows1) time2
      (λ c left. first_images held new gate (disk_of.content old) (disk_of.may_leave old) (disk_of.may_leave d1) long only follows1 c (keeps2 c left))

  pub after_second : (d1 d2 d3 : D) → Passes old d1 → Follows (Torn held (length new)) (disk_of.may_leave old) (disk_of.may_leave d1) → Passes d1 d2 → Keeps (disk_of.may_leave d2) (disk_of.may_leave d1)
      → disk_of.content d1 ≡ option_map (overwritten held new) (disk_of.content old) → IsOnly (disk_of.content d1) (disk_of.may_leave d2) → Passes d2 d3 → Follows (Torn (held - 1) 1) (disk_of.may_leave d2) (disk_of.may_leave d3)
      → LeavesOnly disk_of old d3 (IsStoringKnown held new (disk_of.content old))
  after_second d1 d2 d3 time1 follows1 time2 keeps2 is only2 time3 follows3 =
      goes_on disk_of old d2 d3 (IsStoringKnown held new (disk_of.content old)) (after_sync d1 d2 time1 follows1 time2 keeps2) time3
      (second_images held new gate (disk_of.content old) (disk_of.content d1) (disk_of.may_leave d2) (disk_of.may_leave d3) long is only2 follows3)

  pub after_last : (d1 d2 d3 d4 : D) → Passes old d1 → Follows (Torn held (length new)) (disk_of.may_leave old) (disk_of.may_leave d1) → Passes d1 d2 → Keeps (disk_of.may_leave d2) (disk_of.may_leave d1)
      → disk_of.content d1 ≡ option_map (overwritten held new) (disk_of.content old) → IsOnly (disk_of.content d1) (disk_of.may_leave d2) → Passes d2 d3 → Follows (Torn (held - 1) 1) (disk_of.may_leave d2) (disk_of.may_leave d3) → Passes d3 d4 → Keeps (disk_of.may_leave d4) (disk_of.may_leave d3)
      → LeavesOnly disk_of old d4 (IsStoringKnown held new (disk_of.content old))
  after_last d1 d2 d3 d4 time1 follows1 time2 keeps2 is only2 time3 follows3 time4 keeps4 =
      goes_on disk_of old d3 d4 (IsStoringKnown held new (disk_of.content old)) (after_second d1 d2 d3 time1 follows1 time2 keeps2 is only2 time3 follows3) time4
      (λ c left. second_images held new gate (disk_of.content old) (disk_of.content d1) (disk_of.may_leave d2) (disk_of.may_leave d3) long is only2 follows3 c (keeps4 c left))
