-- How runs of a disk's calls go on.
use Rattle.std.proofs.Common.{inl, inr, ⊎_elim, ℕ, List, refl, ◌∙◌, arith}
use Rattle.disk_api.specs.Images.{Stays, Elapses}
use Rattle.disk_api.specs.Runs.{LeavesOnly, Rests}
use Rattle.disk_api.specs.declared.disk.Disk.{Ghosts as DiskGhosts}

module _ {D : Type 0} (disk_of : DiskGhosts D) where
  -- since a moment there is no other
  abbrev pub OnlyNow : Type 0
  OnlyNow = (disk : D) (c : List ℕ) → disk_of.left_since disk (disk_of.moment disk) c → disk_of.may_leave disk c

  -- the images since the middle of a run are those since its start, or those of the call after it
  abbrev pub Passes : D → D → Type 0
  Passes mid new = Elapses (disk_of.moment mid) (disk_of.moment new) (disk_of.left_since mid) (disk_of.left_since new)
      (disk_of.may_leave new)

  -- before the first call
  pub started : (old : D) (P : List ℕ → Type 0) → OnlyNow → ((c : List ℕ) → disk_of.may_leave old c → P c)
      → LeavesOnly disk_of old old P
  started old P only_now here =
      record { later = omega arith; each = λ c left. here c (only_now old c left); before = λ t c le left. inl left }

  -- one call more, after which a crash leaves what has P
  pub goes_on : (old mid new : D) (P : List ℕ → Type 0) → LeavesOnly disk_of old mid P → Passes mid new
      → ((c : List ℕ) → disk_of.may_leave new c → P c) → LeavesOnly disk_of old new P
  goes_on old mid new P so_far time here = record {
    later = omega (arith, so_far.later, time.later);
    each = λ c left. ⊎_elim (so_far.each c) (here c) (time.nothing_else (disk_of.moment old) c so_far.later left);
    before = λ t c le left. ⊎_elim (so_far.before t c le) (λ now. inr (here c now))
        (time.nothing_else t c (omega (arith, le, so_far.later)) left);
  }

  -- one run more
  pub goes_far : (old mid new : D) (P Q : List ℕ → Type 0) → LeavesOnly disk_of old mid P → LeavesOnly disk_of mid new Q
      → ((c : List ℕ) → Q c → P c) → LeavesOnly disk_of old new P
  goes_far old mid new P Q so_far more weaker = record {
    later = omega (arith, so_far.later, more.later);
    each = λ c left. ⊎_elim (so_far.each c) (weaker c) (more.before (disk_of.moment old) c so_far.later left);
    before = λ t c le left. ⊎_elim (so_far.before t c le) (λ now. inr (weaker c now))
        (more.before t c (omega (arith, le, so_far.later)) left);
  }

  -- what follows from what a run leaves
  pub weaker : (old new : D) (P Q : List ℕ → Type 0) → LeavesOnly disk_of old new P → ((c : List ℕ) → P c → Q c)
      → LeavesOnly disk_of old new Q
  weaker old new P Q all f = record {
    later = all.later;
    each = λ c left. f c (all.each c left);
    before = λ t c le left. ⊎_elim (λ past. inl past) (λ now. inr (f c now)) (all.before t c le left);
  }

  -- calls that change nothing: before the first, after one more, after one run more
  pub rests_started : (old : D) → OnlyNow → Rests disk_of old old
  rests_started old only_now = record {
    content_stays = refl;
    adds_none = λ c left. left;
    drops_none = λ c left. left;
    time = started old (disk_of.may_leave old) only_now (λ c left. left);
  }

  pub rests_on : (old mid new : D) → Rests disk_of old mid
      → Stays (disk_of.content mid) (disk_of.content new) (disk_of.may_leave mid) (disk_of.may_leave new) → Passes mid new
      → Rests disk_of old new
  rests_on old mid new so_far stays time = record {
    content_stays = stays.content ∙ so_far.content_stays;
    adds_none = λ c left. so_far.adds_none c (stays.adds_none c left);
    drops_none = λ c left. stays.drops_none c (so_far.drops_none c left);
    time = goes_on old mid new (disk_of.may_leave old) so_far.time time
        (λ c left. so_far.adds_none c (stays.adds_none c left));
  }

  pub rests_far : (old mid new : D) → Rests disk_of old mid → Rests disk_of mid new → Rests disk_of old new
  rests_far old mid new so_far more = record {
    content_stays = more.content_stays ∙ so_far.content_stays;
    adds_none = λ c left. so_far.adds_none c (more.adds_none c left);
    drops_none = λ c left. more.drops_none c (so_far.drops_none c left);
    time = goes_far old mid new (disk_of.may_leave old) (disk_of.may_leave mid) so_far.time more.time so_far.adds_none;
  }
