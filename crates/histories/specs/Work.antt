-- What was done to a store between a reopening and now, as what was found and what stands tell it.
use Rattle.std.specs.Prelude.{◌≡◌, ⊤, ℕ, suc, true, List, [], ◌∷◌, ◌++◌, All, Option, IfSome}
use Rattle.authority_book.specs.declared.commands.Command.{Command}
use Rattle.key_ids.specs.Uris.{Bases}
use Rattle.rp_rules.specs.Certificates.{Vouched}
use Rattle.editions.specs.Edition.{Edition}
use Rattle.editions.specs.Step.{Premises}
use Rattle.histories.specs.Devices.{Signature, are_vouched, doubt_at, for_desk}
use Rattle.histories.specs.Events.{Event, History}
use Rattle.histories.specs.Events.Event.{Commit, Publish, DeskFault, PressFault, Stop, Reopen}
use Rattle.histories.specs.Legal.{IsLegal, IsNextCommand, FollowsTheOthers, InTurn}
use Rattle.histories.specs.Acknowledged.{Acknowledged, acknowledged, signatures_of}
use Rattle.histories.specs.Found.{store_after}

-- What a reopening found; what stands, and the command in doubt at each desk, and the edition.
pub record Work : Type 0 where
  pub found : Acknowledged
  pub left : Acknowledged
  pub doubts : List (Option Command)
  pub doubt : Option Edition

-- The commands of a desk come behind those that were found; each could come in its turn, and the one in
-- doubt behind them.
pub record IsListWork (desk : ℕ) (found left : List Command) (doubt : Option Command) : Type 0 where
  pub more : List Command
  pub grows : left ≡ found ++ more
  pub turns : InTurn (IsNextCommand desk) left
  pub next : IfSome doubt (IsNextCommand desk left)

-- So of each desk, from this number on.
abbrev pub AreListWorks : ℕ → List (List Command) → List (List Command) → List (Option Command) → Type 0
AreListWorks desk [] [] [] = ⊤
AreListWorks desk (found ∷ founds) (left ∷ lefts) (doubt ∷ doubts) =
    IsListWork desk found left doubt × AreListWorks (suc desk) founds lefts doubts
AreListWorks desk founds lefts doubts = ⊥

-- Over the commands that stand, with these signatures vouched.
abbrev pub ground_with : Bases → Vouched → Work → Premises
ground_with site vouched work =
    record { lists = work.left.commands; site = site; vouched = vouched }

-- So of the editions, over the commands that stand.
pub record IsWork (site : Bases) (vouched : Vouched) (work : Work) : Type 0 where
  pub desks : AreListWorks 0 work.found.commands work.left.commands work.doubts
  pub more : List Edition
  pub grows : work.left.editions ≡ work.found.editions ++ more
  pub turns : InTurn (FollowsTheOthers (ground_with site vouched work)) work.left.editions
  pub next : IfSome work.doubt (FollowsTheOthers (ground_with site vouched work) work.left.editions)

-- ---- as a part of a history

-- Commands and publications, and writes of one that failed.
abbrev pub IsAtWork : Event → Type 0
IsAtWork (Commit desk command) = ⊤
IsAtWork (Publish edition) = ⊤
IsAtWork (DeskFault desk command) = ⊤
IsAtWork (PressFault edition) = ⊤
IsAtWork (Stop commands edition) = ⊥
IsAtWork (Reopen lists editions) = ⊥

-- The history, the reopening that found this, and what came behind it.
abbrev pub with_work : History → Work → History → History
with_work history work more = history ++ record {
  signed = [];
  event = Reopen work.found.commands work.found.editions;
} ∷ more

-- Behind that reopening commands and publications come, or writes of one that fail, and all is a legal
-- history. No signature comes with them but these. In the end just that is acknowledged which stands,
-- and just that is in doubt.
pub record GoesOnAs (site : Bases) (history : History) (signed : List Signature) (work : Work)
    : Type 0 where
  pub more : History
  pub at_work : All (λ happening. IsAtWork happening.event) more
  pub signs : (key digest bytes : List ℕ) → are_vouched (signatures_of more) key digest bytes ≡ true
      → are_vouched signed key digest bytes ≡ true
  pub legal : IsLegal site (with_work history work more)
  pub acknowledges : acknowledged (with_work history work more) ≡ work.left
  pub doubts : (desk : ℕ) → doubt_at (store_after (with_work history work more)).desks desk
      ≡ for_desk work.doubts desk
  pub doubt : (store_after (with_work history work more)).press.doubt ≡ work.doubt
