-- A disk in memory keeps the laws of a disk.
use Rattle.std.proofs.Common.{◌≡◌, ℕ, ◌+◌, ◌≤◌, true, Some, List, [], ◌∷◌, ◌++◌, length, take, drop, refl, sym, ◌∙◌, ap, subst, arith, append_assoc, length-append, length-drop}
use Rattle.std.proofs.lemmas.Bool.{and_parts, leb-true}
use Rattle.std.proofs.lemmas.List.{take_at, drop_at, take_all, take_min, length-take}
use Rattle.std.proofs.lemmas.Option.{same_Some}
use Rattle.std.specs.Prelude.{nat_le}
use Rattle.disk_api.specs.Content.{overwritten, cut_to, Torn, IsCut}
use Rattle.disk_api.specs.Steps.{content_after, IsImageAfter, steps_fit}
use Rattle.disk_api.specs.Memory.{memory_bytes, IsImage, IsImageSince}
use Rattle.disk_api.specs.declared.step.Step.{Step}
use Rattle.disk_api.specs.declared.step.Step.TheVariants.{Write, Cut, Sync}
use Rattle.disk_api.specs.declared.memory.MemoryDisk.{MemoryDisk}

-- a write that is done is one of the outcomes of a write that is cut short
pub torn_whole : (at : ℕ) (bytes old : List ℕ) → at ≤ length old → Torn at (length bytes) old (overwritten at bytes old)
torn_whole at bytes old le =
    let front : length (take at old) ≡ at = omega (arith, length-take at old) in
    let both : length (take at old ++ bytes) ≡ at + length bytes = omega (arith, length-append (take at old) bytes, front) in
    record {
      before = ap (λ (l : List ℕ). take at l) (append_assoc (take at old) bytes (drop (at + length bytes) old)) ∙ take_at (take at old) (bytes ++ drop (at + length bytes) old) at front;
      after = drop_at (take at old ++ bytes) (drop (at + length bytes) old) (at + length bytes) both;
      no_shorter = omega (arith, length-append (take at old ++ bytes) (drop (at + length bytes) old), both, length-drop (at + length bytes) old);
      no_longer = omega (arith, length-append (take at old ++ bytes) (drop (at + length bytes) old), both, length-drop (at + length bytes) old);
    }

-- and so with a cut
pub cut_whole : (len : ℕ) (old : List ℕ) → IsCut len old (cut_to len old)
cut_whole len old = record {
  front = take_all len (take len old) (omega (arith, length-take len old));
  no_shorter = omega (arith, length-take len old);
  no_longer = omega (arith, length-take len old);
}

pub content_is_image : (bytes : List ℕ) (images : List ℕ → Type 0) → images bytes → (steps : List Step) → steps_fit bytes steps ≡ true → IsImageAfter bytes images steps (content_after bytes steps)
content_is_image bytes images left [] fit = left
content_is_image bytes images left (Write at new ∷ steps) fit =
    let parts = and_parts (nat_le at (length bytes)) (steps_fit (overwritten at new.items bytes) steps) fit in
    content_is_image (overwritten at new.items bytes) (λ e. (d : List ℕ) × images d × Torn at (length new.items) d e) (bytes, left, torn_whole at new.items bytes (leb-true at (length bytes) parts.0)) steps parts.1
content_is_image bytes images left (Cut len ∷ steps) fit =
    content_is_image (cut_to len bytes) (λ e. (d : List ℕ) × images d × IsCut len d e) (bytes, left, cut_whole len bytes) steps fit
content_is_image bytes images left (Sync ∷ steps) fit = content_is_image bytes (λ e. e ≡ bytes) refl steps fit

pub bytes_are_left : (disk : MemoryDisk) (bytes : List ℕ) → Some (memory_bytes disk) ≡ Some bytes → IsImage disk bytes
bytes_are_left disk bytes is =
    let first = disk.first.items in
    subst (IsImageAfter first (λ e. e ≡ first) disk.steps.items) (sym disk.held ∙ same_Some _ _ is) (content_is_image first (λ e. e ≡ first) refl disk.steps.items disk.fit)

pub counts_now_in_memory : (disk : MemoryDisk) (t : ℕ) (c : List ℕ) → t ≤ length disk.steps.items → IsImage disk c → IsImageSince disk t c
counts_now_in_memory disk t c le left =
    let steps = disk.steps.items in
    let first = disk.first.items in
    (length steps, le, omega arith, subst (λ (s : List Step). IsImageAfter first (λ e. e ≡ first) s c) (sym (take_all (length steps) steps (omega arith))) left)

pub only_now_in_memory : (disk : MemoryDisk) (c : List ℕ) → IsImageSince disk (length disk.steps.items) c → IsImage disk c
only_now_in_memory disk c left =
    let first = disk.first.items in
    subst (λ (s : List Step). IsImageAfter first (λ e. e ≡ first) s c) (take_all left.0 disk.steps.items left.1) left.3
