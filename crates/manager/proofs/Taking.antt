-- What comes of a command at a desk.
use Rattle.std.proofs.Common.{◌≡◌, ℕ, ◌<◌, ◌≤◌, ◌+◌, Bool, true, false, List, [], ◌∷◌, ◌++◌, map, length, refl, sym, ap, ◌∙◌, subst}
use Rattle.std.specs.Prelude.{Option, None, Some, Ok, Err, All, not, nat_le}
use Rattle.std.proofs.lemmas.Bool.{leb-false}
use Rattle.std.proofs.lemmas.Option.{none-some}
use Rattle.std.proofs.lemmas.List.{length-map, length_push}
use Rattle.std.proofs.lemmas.List.Elements.{All-push}
use mathlib.Core.List.{IsPrefix}
use Rattle.commit_word.specs.Seats.{FollowerSeat}
use Rattle.disk_api.specs.declared.disk.Disk.{Ghosts as DiskGhosts}
use Rattle.gate_journal.specs.Format.{held_by}
use Rattle.authority_book.specs.declared.commands.Command.{Command}
use Rattle.authority_book.specs.declared.commands.Command.TheVariants.{Add, Delete, AddParent, AddChild, UpdateChild, RemoveChild, SuspendChild, UnsuspendChild, UpdateRoas, InitRoll, ActivateRoll}
use Rattle.authority_book.specs.declared.refusals.Refusal.{Refusal}
use Rattle.authority_book.specs.declared.refusals.Refusal.TheVariants.{Deleted, NameTaken, TooManyAuthorities, NoSuchSigner, AnchorOnly}
use Rattle.authority_book.specs.declared.rows.NameRow.{NameRow}
use Rattle.authority_book.specs.Listed.{is_listed}
use Rattle.authority_book.specs.Settings.{Settings}
use Rattle.authority_book.specs.Verdict.{verdict_of, refused_or_ok, refused_if, first_cause, is_anchor, most_authorities, lacks_signer}
use Rattle.authority_book.specs.Fold.{fold_of, after, empty_settings}
use Rattle.cmd_codec.specs.Spelling.{spelling}
use Rattle.desk_core.specs.View.{View, journal_limit}
use Rattle.desk_core.specs.Commands.{Records, HasCommands}
use Rattle.desk_core.specs.Answers.{needed_for, CanCommit, IsDeskFault}
use Rattle.desk_core.specs.declared.faults.DeskFault.{DeskFault}
use Rattle.desk_core.specs.declared.faults.DeskFault.TheVariants.{Shut, Verdict, JournalFull, DiskFault, Memory}
use Rattle.manager.specs.Lists.{IsListed}
use Rattle.manager.specs.Passes.{IsMore}
use Rattle.manager.specs.Commanding.{CanCome, IsTaken, IsGivenBy, IsRefusedAt}
use Rattle.manager.proofs.Knowing.{prefix_none, prefix_on, more_on, fold_append}

-- ---- the signers of the names

abbrev AreBelow : ℕ → List NameRow → Type 0
AreBelow signers names = All (λ (name : NameRow). name.signer < signers) names

granted_cause : (cause : Option Refusal) → refused_or_ok cause ≡ Ok tt → cause ≡ None
granted_cause None is = refl
granted_cause (Some refusal) is = absurd (cc)

last_cause : (a b c d e : Bool)
    → first_cause (refused_if a Deleted) (first_cause (refused_if b AnchorOnly) (first_cause (refused_if c NameTaken) (first_cause (refused_if d TooManyAuthorities) (refused_if e NoSuchSigner)))) ≡ None
    → e ≡ false
last_cause true b c d e is = absurd (none-some Deleted (sym is))
last_cause false true c d e is = absurd (none-some AnchorOnly (sym is))
last_cause false false true d e is = absurd (none-some NameTaken (sym is))
last_cause false false false true e is = absurd (none-some TooManyAuthorities (sym is))
last_cause false false false false true is = absurd (none-some NoSuchSigner (sym is))
last_cause false false false false false is = refl

below : (signers signer : ℕ) → nat_le signers signer ≡ false → signer < signers
below signers signer is = leb-false signers signer is

names_after : (settings : Settings) (command : Command) (signers : ℕ) → verdict_of settings command (Some signers) ≡ Ok tt → AreBelow signers settings.names → AreBelow signers (after settings command).names
names_after settings (Add name signer) signers is all =
    All-push (λ (row : NameRow). row.signer < signers) settings.names (record { name = name; signer = signer }) all
    (below signers signer (last_cause settings.deleted (not (is_anchor settings)) (is_listed settings.names name) (nat_le most_authorities (length settings.names)) (lacks_signer signer (Some signers)) (granted_cause _ is)))
names_after settings Delete signers is all = all
names_after settings (AddParent parent) signers is all = all
names_after settings (AddChild child grant) signers is all = all
names_after settings (UpdateChild child grant) signers is all = all
names_after settings (RemoveChild child) signers is all = all
names_after settings (SuspendChild child) signers is all = all
names_after settings (UnsuspendChild child) signers is all = all
names_after settings (UpdateRoas added removed) signers is all = all
names_after settings InitRoll signers is all = all
names_after settings ActivateRoll signers is all = all

-- ---- a seat by its parts

same_seat : (a b : FollowerSeat) → a.word ≡ b.word → a.recovered ≡ b.recovered → a.seen ≡ b.seen → a.mine ≡ b.mine → a ≡ b
same_seat a b word recovered seen mine = λ i. record { word = word i; recovered = recovered i; seen = seen i; mine = mine i }

-- ---- an accepted command

module _ {D : Type 0} (signers : ℕ) (command : Command) (old new : View D) (was : IsListed signers old) (can : CanCommit old command signers)
    (number : new.number ≡ old.number) (goes : (commands : List Command) → HasCommands old commands → HasCommands new (commands ++ command ∷ [])) where
  fold_is : old.settings ≡ fold_of old.number was.commands
  fold_is = was.has.fold

  pub taken_listed : IsListed signers new
  taken_listed = record {
    commands = was.commands ++ command ∷ [];
    has = goes was.commands was.has;
    signed = subst (λ (s : Settings). AreBelow signers s.names) (sym ((goes was.commands was.has).fold
        ∙ (ap (λ (n : ℕ). fold_of n (was.commands ++ command ∷ [])) number
        ∙ (fold_append (empty_settings old.number) was.commands (command ∷ []) ∙ ap (λ (s : Settings). after s command) (sym fold_is)))))
        (names_after old.settings command signers can.may_come.verdict was.signed);
  }

  can_come : CanCome old.number was.commands command signers
  can_come = record {
    may_come = subst (λ (s : Settings). verdict_of s command (Some signers) ≡ Ok tt) fold_is can.may_come.verdict;
    fits = subst (λ (l : List (List ℕ)). held_by l + needed_for command ≤ journal_limit) was.has.recorded.spelled can.fits;
  }

  pub taken_is : (count : ℕ) (f next : FollowerSeat) → f.seen ≡ old.records → next.seen ≡ new.records → IsPrefix f.seen next.seen → new.records ≡ old.records ++ spelling command ∷ []
      → next.mine ≡ f.mine ++ (length old.records, spelling command) ∷ [] → (next.word ≡ f.word) × (next.recovered ≡ f.recovered) → count ≡ length new.records
      → IsTaken old.number command signers count f next
  taken_is count f next whole seen grows recorded made kept counted =
      let spelled : old.records ≡ map spelling was.commands = was.has.recorded.spelled in
      let long : length old.records ≡ length was.commands = ap length spelled ∙ length-map was.commands spelling in
      record {
        before = was.commands;
        known = subst (λ (l : List (List ℕ)). Records old.number l (was.commands ++ command ∷ [])) (sym seen)
            (subst (λ (n : ℕ). Records n new.records (was.commands ++ command ∷ [])) number (goes was.commands was.has).recorded);
        can_come = can_come;
        counted = counted ∙ (ap length recorded ∙ (length_push old.records (spelling command) ∙ ap (λ (n : ℕ). n + 1) long));
        grows = grows;
        behind = subst (λ (l : List (List ℕ)). IsPrefix f.seen l) (whole ∙ spelled) (prefix_none f.seen);
        made = same_seat next (record f {
          seen = map spelling was.commands ++ spelling command ∷ [];
          mine = f.mine ++ (length was.commands, spelling command) ∷ [];
        }) kept.0 kept.1 (seen ∙ (recorded ∙ ap (λ (l : List (List ℕ)). l ++ spelling command ∷ []) spelled))
            (made ∙ ap (λ (n : ℕ). f.mine ++ (n, spelling command) ∷ []) long);
      }

-- ---- a refused one

pub refused_same : {D : Type 0} (disk_of : DiskGhosts D) (fault : DeskFault D) (command : Command) (signers : ℕ) (old new : View D) → IsDeskFault disk_of fault command signers old new
    → (new.records ≡ old.records) × (new.settings ≡ old.settings)
refused_same disk_of (Shut rose) command signers old new is = (ap (λ (v : View _). v.records) is.same, ap (λ (v : View _). v.settings) is.same)
refused_same disk_of (Verdict refusal) command signers old new is = (ap (λ (v : View _). v.records) is.same, ap (λ (v : View _). v.settings) is.same)
refused_same disk_of (JournalFull held needed) command signers old new is = (ap (λ (v : View _). v.records) is.same, ap (λ (v : View _). v.settings) is.same)
refused_same disk_of (DiskFault rose) command signers old new is = (ap (λ (v : View _). v.records) is.same, ap (λ (v : View _). v.settings) is.same)
refused_same disk_of Memory command signers old new is = (ap (λ (v : View _). v.records) is.same, ap (λ (v : View _). v.settings) is.same)

module _ {D : Type 0} (disk_of : DiskGhosts D) (signers : ℕ) (command : Command) (old new : View D) (was : IsListed signers old) where
  may_come : verdict_of old.settings command (Some signers) ≡ Ok tt → verdict_of (fold_of old.number was.commands) command (Some signers) ≡ Ok tt
  may_come is = subst (λ (s : Settings). verdict_of s command (Some signers) ≡ Ok tt) was.has.fold is

  fits_so : CanCommit old command signers → CanCome old.number was.commands command signers
  fits_so place = record {
    may_come = may_come place.may_come.verdict;
    fits = subst (λ (l : List (List ℕ)). held_by l + needed_for command ≤ journal_limit) was.has.recorded.spelled place.fits;
  }

  given_is : (fault : DeskFault D) → IsDeskFault disk_of fault command signers old new → IsGivenBy fault old.number was.commands command signers
  given_is (Shut rose) is = is.desk
  given_is (Verdict refusal) is = subst (λ (s : Settings). verdict_of s command (Some signers) ≡ Err refusal) was.has.fold is.verdict
  given_is (JournalFull held needed) is =
      (may_come is.may_come.verdict, is.held_is ∙ ap held_by was.has.recorded.spelled, is.needed_is, is.past)
  given_is (DiskFault rose) is = (fits_so is.place, is.desk)
  given_is Memory is = fits_so is.place

  pub refused_listed : (fault : DeskFault D) → IsDeskFault disk_of fault command signers old new → new.number ≡ old.number → IsListed signers new
  refused_listed fault is number =
      let same = refused_same disk_of fault command signers old new is in
      record {
        commands = was.commands;
        has = record {
          recorded = subst (λ (l : List (List ℕ)). Records new.number l was.commands) (sym same.0) (subst (λ (n : ℕ). Records n old.records was.commands) (sym number) was.has.recorded);
          fold = same.1 ∙ (was.has.fold ∙ ap (λ (n : ℕ). fold_of n was.commands) (sym number));
        };
        signed = subst (λ (s : Settings). AreBelow signers s.names) (sym same.1) was.signed;
      }

  pub refused_is : (fault : DeskFault D) (f next : FollowerSeat) → IsDeskFault disk_of fault command signers old new → next.seen ≡ new.records → IsPrefix f.seen next.seen
      → next.mine ≡ f.mine → (next.word ≡ f.word) × (next.recovered ≡ f.recovered) → IsRefusedAt old.number command signers fault f next
  refused_is fault f next is seen grows made kept =
      let same = refused_same disk_of fault command signers old new is in
      record {
        more = record { grows = grows; rest = same_seat next (record f { seen = next.seen }) kept.0 kept.1 refl made };
        commands = was.commands;
        known = subst (λ (l : List (List ℕ)). Records old.number l was.commands) (sym (seen ∙ same.0)) was.has.recorded;
        given = given_is fault is;
      }

-- ---- after more was seen

pub taken_from : (desk : ℕ) (command : Command) (signers count : ℕ) (a b c : FollowerSeat) → IsMore a b → IsTaken desk command signers count b c → IsTaken desk command signers count a c
taken_from desk command signers count a b c more is = record {
  before = is.before;
  known = is.known;
  can_come = is.can_come;
  counted = is.counted;
  grows = prefix_on a.seen b.seen c.seen more.grows is.grows;
  behind = prefix_on a.seen b.seen (map spelling is.before) more.grows is.behind;
  made = is.made ∙ ap (λ (s : FollowerSeat). record s {
    seen = map spelling is.before ++ spelling command ∷ [];
    mine = s.mine ++ (length is.before, spelling command) ∷ [];
  }) more.rest;
}

pub refused_from : {D : Type 0} (desk : ℕ) (command : Command) (signers : ℕ) (fault : DeskFault D) (a b c : FollowerSeat) → IsMore a b → IsRefusedAt desk command signers fault b c → IsRefusedAt desk command signers fault a c
refused_from desk command signers fault a b c more is = record {
  more = more_on a b c more is.more;
  commands = is.commands;
  known = is.known;
  given = is.given;
}
