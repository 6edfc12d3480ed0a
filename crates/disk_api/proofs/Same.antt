-- A disk in memory after a call that changed nothing, and after one that took a step.
use Rattle.std.proofs.Common.{◌≡◌, ℕ, Some, List, [], ◌∷◌, ◌++◌, length, refl, sym, ◌∙◌, ap, subst, arith}
use Rattle.std.proofs.lemmas.List.{take_all}
use Rattle.disk_api.specs.laws.MemoryLaws.{bytes_are_left}
use Rattle.disk_api.specs.declared.step.Step.TheVariants.{Write, Cut, Sync}
use Rattle.disk_api.specs.Content.{Torn, IsCut}
use Rattle.disk_api.specs.Images.{Elapses, Follows, Reaches, Keeps, IsOnly}
use Rattle.disk_api.specs.Steps.{content_after, IsImageAfter, images_after_step}
use Rattle.disk_api.specs.Memory.{memory_bytes, IsImage, IsImageSince, IsSameFile, TakesStep}
use Rattle.disk_api.specs.declared.step.Step.{Step}
use Rattle.std.specs.Prelude.{Vec}
use Rattle.std.specs.declared.alloc.Global.{Global}
use Rattle.disk_api.specs.declared.memory.MemoryDisk.{MemoryDisk}
use Rattle.disk_api.proofs.Taken.{Since, elapses_none, elapses_one, IsImageAfter-push}

pub same_twice : {a b c : MemoryDisk} → IsSameFile a b → IsSameFile b c → IsSameFile a c
same_twice first second = record {
  first = second.first ∙ first.first;
  steps = second.steps ∙ first.steps;
  bytes = second.bytes ∙ first.bytes;
}

pub same_keeps : {a b : MemoryDisk} → IsSameFile a b → (c : List ℕ) → IsImage a c → IsImage b c
same_keeps {a} {b} same c left =
    subst (λ (first : List ℕ). IsImageAfter first (λ e. e ≡ first) b.steps.items c) (sym same.first) (subst (λ (steps : List Step). IsImageAfter a.first.items (λ e. e ≡ a.first.items) steps c) (sym same.steps) left)

pub same_adds_none : {a b : MemoryDisk} → IsSameFile a b → (c : List ℕ) → IsImage b c → IsImage a c
same_adds_none {a} {b} same c left =
    subst (λ (first : List ℕ). IsImageAfter first (λ e. e ≡ first) a.steps.items c) same.first (subst (λ (steps : List Step). IsImageAfter b.first.items (λ e. e ≡ b.first.items) steps c) same.steps left)

pub same_time : {a b : MemoryDisk} → IsSameFile a b → Elapses (length a.steps.items) (length b.steps.items) (IsImageSince a) (IsImageSince b) (IsImage b)
same_time {a} {b} same =
    subst (λ (first : List ℕ). Elapses (length a.steps.items) (length b.steps.items) (IsImageSince a) (Since first b.steps.items) (IsImageAfter first (λ e. e ≡ first) b.steps.items)) (sym same.first)
    (subst (λ (steps : List Step). Elapses (length a.steps.items) (length steps) (IsImageSince a) (Since a.first.items steps) (IsImageAfter a.first.items (λ e. e ≡ a.first.items) steps)) (sym same.steps)
    (elapses_none a.first.items a.steps.items))

pub taken_time : {a b : MemoryDisk} {step : Step} → TakesStep a b step → Elapses (length a.steps.items) (length b.steps.items) (IsImageSince a) (IsImageSince b) (IsImage b)
taken_time {a} {b} {step} takes =
    subst (λ (first : List ℕ). Elapses (length a.steps.items) (length b.steps.items) (IsImageSince a) (Since first b.steps.items) (IsImageAfter first (λ e. e ≡ first) b.steps.items)) (sym takes.first)
    (subst (λ (steps : List Step). Elapses (length a.steps.items) (length steps) (IsImageSince a) (Since a.first.items steps) (IsImageAfter a.first.items (λ e. e ≡ a.first.items) steps)) (sym takes.steps)
    (elapses_one a.first.items a.steps.items step))

-- the images after a step, by those before it
pub taken_images : {a b : MemoryDisk} {step : Step} → TakesStep a b step → (c : List ℕ) → IsImage b c ≡ images_after_step (content_after a.first.items a.steps.items) (IsImage a) step c
taken_images {a} {b} {step} takes c =
    ap (λ (first : List ℕ). IsImageAfter first (λ e. e ≡ first) b.steps.items c) takes.first
    ∙ ap (λ (steps : List Step). IsImageAfter a.first.items (λ e. e ≡ a.first.items) steps c) takes.steps
    ∙ IsImageAfter-push a.first.items (λ e. e ≡ a.first.items) a.steps.items step c

-- the images of a call that changed nothing, and of one that took a step, in the words of the trait
pub follows_same : {a b : MemoryDisk} (step : List ℕ → List ℕ → Type 0) → ((c : List ℕ) → step c c) → IsSameFile a b → Follows step (IsImage a) (IsImage b)
follows_same step same_step same c left = (c, same_adds_none same c left, same_step c)

pub torn_same : (at n : ℕ) (c : List ℕ) → Torn at n c c
torn_same at n c = record { before = refl; after = refl; no_shorter = omega arith; no_longer = omega arith }

pub cut_same : (len : ℕ) (c : List ℕ) → IsCut len c c
cut_same len c = record { front = refl; no_shorter = omega arith; no_longer = omega arith }

pub follows_write : {a b d : MemoryDisk} (at : ℕ) (bytes : List ℕ) → IsSameFile a b → (kept : Vec ℕ Global) × (kept.items ≡ bytes) × TakesStep b d (Write at kept) → Follows (Torn at (length bytes)) (IsImage a) (IsImage d)
follows_write {a} {b} {d} at bytes same takes c left =
    let from : (e : List ℕ) × IsImage b e × Torn at (length takes.0.items) e c = subst (λ (X : Type 0). X) (taken_images takes.2 c) left in
    (from.0, same_adds_none same from.0 from.1, subst (λ (l : List ℕ). Torn at (length l) from.0 c) takes.1 from.2)

pub reaches_write : {a b d : MemoryDisk} (at : ℕ) (bytes : List ℕ) → IsSameFile a b → (kept : Vec ℕ Global) × (kept.items ≡ bytes) × TakesStep b d (Write at kept) → Reaches (Torn at (length bytes)) (IsImage a) (IsImage d)
reaches_write {a} {b} {d} at bytes same takes e c left torn =
    let to : (e : List ℕ) × IsImage b e × Torn at (length takes.0.items) e c = (e, same_keeps same e left, subst (λ (l : List ℕ). Torn at (length l) e c) (sym takes.1) torn) in
    subst (λ (X : Type 0). X) (sym (taken_images takes.2 c)) to

pub follows_cut : {a b d : MemoryDisk} (len : ℕ) → IsSameFile a b → TakesStep b d (Cut len) → Follows (IsCut len) (IsImage a) (IsImage d)
follows_cut {a} {b} {d} len same takes c left =
    let from : (e : List ℕ) × IsImage b e × IsCut len e c = subst (λ (X : Type 0). X) (taken_images takes c) left in
    (from.0, same_adds_none same from.0 from.1, from.2)

pub reaches_cut : {a b d : MemoryDisk} (len : ℕ) → IsSameFile a b → TakesStep b d (Cut len) → Reaches (IsCut len) (IsImage a) (IsImage d)
reaches_cut {a} {b} {d} len same takes e c left cut =
    let to : (e : List ℕ) × IsImage b e × IsCut len e c = (e, same_keeps same e left, cut) in
    subst (λ (X : Type 0). X) (sym (taken_images takes c)) to

-- after a sync, what is read is the one image, and it was one
pub only_synced : {a b d : MemoryDisk} → IsSameFile a b → TakesStep b d Sync → IsOnly (Some (memory_bytes a)) (IsImage d)
only_synced {a} {b} {d} same takes c left =
    let is : c ≡ content_after b.first.items b.steps.items = subst (λ (X : Type 0). X) (taken_images takes c) left in
    ap (λ (l : List ℕ). Some l) (sym same.bytes ∙ b.held ∙ sym is)

pub synced_was : {a b d : MemoryDisk} → IsSameFile a b → TakesStep b d Sync → Keeps (IsImage d) (IsImage a)
synced_was {a} {b} {d} same takes c left = bytes_are_left a c (only_synced same takes c left)

pub time_after : {a b d : MemoryDisk} {step : Step} → IsSameFile a b → TakesStep b d step → Elapses (length a.steps.items) (length d.steps.items) (IsImageSince a) (IsImageSince d) (IsImage d)
time_after {a} {b} {d} {step} same takes =
    taken_time {a = a} {b = d} {step = step} (record { first = takes.first ∙ same.first; steps = takes.steps ∙ ap (λ (l : List Step). l ++ step ∷ []) same.steps })
