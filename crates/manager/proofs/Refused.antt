-- What is said of a publication that is refused.
use Rattle.std.proofs.Common.{inl, inr, ◌≡◌, ◌≢◌, ℕ, Bool, true, false, not, ◌&&◌, ◌||◌, List, [], ◌∷◌, ◌++◌, refl, sym, ◌∙◌, ap, subst, arith}
use Rattle.std.specs.Prelude.{◌==◌, Option, None, Some, IfSome, is_some, Result, Ok, Err, IfErr, OnErr}
use Rattle.std.proofs.lemmas.Bool.{true≢false, false≢true}
use Rattle.std.proofs.lemmas.Bool.Decides.{nat_tests}
use Rattle.disk_api.specs.declared.disk.Disk.{Ghosts as DiskGhosts}
use Rattle.commit_word.specs.Seats.{FollowerSeat}
use Rattle.notice_board.specs.Lists.{serial_after, last_serial}
use Rattle.notice_board.specs.declared.shown.ShownEdition.{ShownEdition}
use Rattle.editions.specs.declared.published_state.PublishedNumbers.{PublishedNumbers}
use Rattle.press_core.specs.PrepareInput.{PrepareInput}
use Rattle.press_core.specs.Stored.{StoredValue}
use Rattle.press_core.specs.declared.last_export.LastExport.{LastExport}
use Rattle.press_core.specs.declared.last_export.LastExport.TheVariants.{Failed}
use Rattle.manager.specs.declared.publish_fault.Unmade.{Unmade}
use Rattle.manager.specs.declared.publish_fault.Unmade.TheVariants.{Unprepared, Uncommitted}
use Rattle.manager.specs.declared.publish_fault.PublishFault.{PublishFault}
use Rattle.manager.specs.declared.publish_fault.PublishFault.TheVariants as refused
use Rattle.manager.specs.Pressing.{exported_as}
use Rattle.manager.specs.Answers.{IsShownTo, IsAnswered, IsNextShown, IsStill, IsNotPublished, IsUnexported, IsUnmadeFor, IsMetBy, IsFaultOf, is_of, is_exported, IsExportLeft}

-- ---- the serial that was shown last

ends_at : (n : ℕ) (before : List ShownEdition) (edition : ShownEdition) → serial_after n (before ++ edition ∷ []) ≡ edition.sheet.serial
ends_at n [] edition = refl
ends_at n (x ∷ before) edition = ends_at x.sheet.serial before edition

pub last_is : (serial : ℕ) (known : List FollowerSeat) (shown : List ShownEdition) → IsShownTo serial known shown → last_serial shown ≡ serial
last_is serial known shown is = ap last_serial is.is.last ∙ (ends_at 0 is.is.before is.edition ∙ is.serial_is)

-- where there was nothing to publish, it takes in all that is known
pub last_known : (known : List FollowerSeat) (shown : List ShownEdition) (behind : Option ℕ) → IfSome behind (λ (serial : ℕ). IsShownTo serial known shown) → is_some behind ≡ true → IsShownTo (last_serial shown) known shown
last_known known shown None is some = absurd (false≢true some)
last_known known shown (Some serial) is some = record { edition = is.edition; is = is.is; serial_is = is.serial_is ∙ sym (last_is serial known shown is) }

-- ---- an export is to be repeated

pub not_exported : (last : LastExport) (serial : ℕ) → is_exported last serial ≡ false → serial ≢ 0
not_exported last serial isnt none = absurd (true≢false (sym first ∙ isnt))
  where
    zero_is : (serial == 0) ≡ true
    zero_is = grind (arith, nat_tests, none)

    first : is_exported last serial ≡ true
    first = ap (λ (b : Bool). b || is_of last serial) zero_is

pub to_repeat : (some at : Bool) → (some && not at) ≡ true → (some ≡ true) × (at ≡ false)
to_repeat true true is = absurd (false≢true is)
to_repeat true false is = (refl, refl)
to_repeat false at is = absurd (false≢true is)

-- where it is, the last edition takes in all that is known, and there is one
pub known_last : (known : List FollowerSeat) (shown : List ShownEdition) (behind : Option ℕ) (at : Bool) (serial : ℕ) → IfSome behind (λ (n : ℕ). IsShownTo n known shown) → (is_some behind && not at) ≡ true → serial ≡ last_serial shown → IsShownTo serial known shown
known_last known shown behind at serial is repeat last = subst (λ (n : ℕ). IsShownTo n known shown) (sym last) (last_known known shown behind is (to_repeat (is_some behind) at repeat).0)

-- and that is the serial behind which there was nothing to publish
pub behind_last : (known : List FollowerSeat) (shown : List ShownEdition) (behind : Option ℕ) (at : Bool) (serial : ℕ) → IfSome behind (λ (n : ℕ). IsShownTo n known shown) → (is_some behind && not at) ≡ true → serial ≡ last_serial shown → behind ≡ Some serial
behind_last known shown None at serial is repeat last = absurd (false≢true (to_repeat false at repeat).0)
behind_last known shown (Some n) at serial is repeat last = ap (λ (m : ℕ). Some m) (sym (last ∙ last_is n known shown is))

-- where it isn't, there was something to publish, or the last edition is at the outlet
pub none_left : (behind : Option ℕ) (last : LastExport) (serial : ℕ) → (is_some behind && not (is_exported last serial)) ≡ false → IfSome behind (λ (n : ℕ). is_exported last serial ≡ true)
none_left None last serial isnt = tt
none_left (Some n) last serial isnt = is_not (is_exported last serial) isnt
  where
    is_not : (b : Bool) → not b ≡ false → b ≡ true
    is_not true e = refl
    is_not false e = absurd (true≢false e)

-- ---- an edition that couldn't be exported

pub unexported_is : {D O : Type 0} (told : PublishedNumbers) (known : List FollowerSeat) (shown : List ShownEdition) (fault : PublishFault D O) → IsAnswered told known shown → IsUnexported told.serial fault → IsNotPublished known shown fault
unexported_is told known shown (refused.Unmade serial fault) answered is = absurd is
unexported_is told known shown (refused.Repeated serial fault) answered is = absurd is
unexported_is told known shown (refused.Unexported serial fault) answered is =
    record { edition = answered.edition; is = answered.is; serial_is = answered.serial ∙ sym is }

pub unexported_met : {D O : Type 0} (disk_of : DiskGhosts D) (start : PrepareInput) (old new : StoredValue D) (serial : ℕ) (fault : PublishFault D O) → IsUnexported serial fault → IsMetBy disk_of start old new fault
unexported_met disk_of start old new serial (refused.Unmade standing fault) is = absurd is
unexported_met disk_of start old new serial (refused.Repeated standing fault) is = absurd is
unexported_met disk_of start old new serial (refused.Unexported standing fault) is = tt

pub unexported_left : {D O : Type 0} (last : LastExport) (at serial : ℕ) (fault : PublishFault D O) → IsUnexported serial fault → last ≡ Failed → IsExportLeft last at fault
unexported_left last at serial (refused.Unmade standing fault) is failed = absurd is
unexported_left last at serial (refused.Repeated standing fault) is failed = absurd is
unexported_left last at serial (refused.Unexported standing fault) is failed = failed

pub left_failed : {T D O : Type 0} (result : Result T (PublishFault D O)) (last : LastExport) (at serial : ℕ) → IfErr result (IsUnexported serial) → OnErr result (last ≡ Failed) → IfErr result (IsExportLeft last at)
left_failed (Ok answer) last at serial is failed = tt
left_failed (Err fault) last at serial is failed = unexported_left last at serial fault is failed

-- ---- what is shown then

pub still_same : {D O : Type 0} (clock : ℕ) (old new : List ShownEdition) (fault : PublishFault D O) → new ≡ old → IsStill clock old new fault
still_same clock old new (refused.Unmade serial fault) same = same
still_same clock old new (refused.Repeated serial fault) same = same
still_same clock old new (refused.Unexported serial fault) same = inl same

pub still_made : {D O : Type 0} (clock : ℕ) (old new : List ShownEdition) (told : PublishedNumbers) (fault : PublishFault D O) → IsUnexported told.serial fault → IsNextShown clock old told new → IsStill clock old new fault
still_made clock old new told (refused.Unmade serial fault) is next = absurd is
still_made clock old new told (refused.Repeated serial fault) is next = absurd is
still_made clock old new told (refused.Unexported serial fault) is next = inr (told, sym is, next)

-- ---- what met it is told on

unmade_still : {D : Type 0} (disk_of : DiskGhosts D) (start : PrepareInput) (old new : StoredValue D) (last : LastExport) (fault : Unmade D) → IsUnmadeFor disk_of start old new fault → IsUnmadeFor disk_of start old (exported_as last new) fault
unmade_still disk_of start old new last (Unprepared fault) is = is
unmade_still disk_of start old new last (Uncommitted fault) is = record { before = is.before; after = is.after; shut = is.shut }

pub met_of : {D O : Type 0} (disk_of : DiskGhosts D) (start : PrepareInput) (old mid new : StoredValue D) (last : LastExport) (fault : Unmade D) (told : PublishFault D O) → new ≡ exported_as last mid
    → IsUnmadeFor disk_of start old mid fault → IsFaultOf fault told → IsMetBy disk_of start old new told
met_of disk_of start old mid new last fault (refused.Unmade serial given) same is told =
    subst (λ (s : StoredValue _). IsUnmadeFor disk_of start old s given) (sym same) (subst (IsUnmadeFor disk_of start old (exported_as last mid)) (sym told) (unmade_still disk_of start old mid last fault is))
met_of disk_of start old mid new last fault (refused.Repeated serial given) same is told =
    subst (λ (s : StoredValue _). IsUnmadeFor disk_of start old s given) (sym same) (subst (IsUnmadeFor disk_of start old (exported_as last mid)) (sym told) (unmade_still disk_of start old mid last fault is))
met_of disk_of start old mid new last fault (refused.Unexported serial given) same is told = tt
