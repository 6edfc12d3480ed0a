-- When an edition follows others, over the commands of the desks and a clock.
use Rattle.std.specs.Prelude.{◌≡◌, ⊤, ℕ, ◌+◌, ◌^◌, ◌≤◌, max, false, List, [], ◌∷◌, ◌++◌}
use Rattle.std.specs.Prelude.{length, take, map, get_or, slice_get, Some, All, if◌then◌else◌}
use Rattle.res_sets.specs.declared.holdings.Resources.{Resources}
use Rattle.authority_book.specs.declared.commands.Command.{Command}
use Rattle.authority_book.specs.Settings.{Settings}
use Rattle.authority_book.specs.Fold.{fold_of}
use Rattle.entitle.specs.declared.trees.Owed.{Owed}
use Rattle.entitle.specs.Certified.{AreCertified}
use Rattle.entitle.specs.Owed.{AreOwed}
use Rattle.key_ids.specs.Uris.{Bases}
use Rattle.key_roll.specs.declared.rows.KeyRow.{KeyRow}
use Rattle.key_roll.specs.declared.issued.IssuedRow.{IssuedRow}
use Rattle.rp_rules.specs.Certificates.{Vouched, VouchesMore}
use Rattle.issue_values.specs.Certificates.{IsEditionMoment}
use Rattle.issue_plan.specs.Keys.{Basis, next_keys}
use Rattle.issue_plan.specs.Wanted.{PlanInput}
use Rattle.issue_keys.specs.Keys.{id_of}
use Rattle.issue_drafts.specs.Drafts.{serial_behind}
use Rattle.issue_sign.specs.Objects.{Entries, number_of}
use Rattle.editions.specs.Edition.{Edition, State, state_after, set_after, cut_at, AreChanges}
use Rattle.editions.specs.Superseded.{AreSuperseded}
use Rattle.editions.specs.Table.{IsTable}
use Rattle.editions.specs.Keys.{AreNext}
use Rattle.editions.specs.Wanted.{new_objects, keeps_point}
use Rattle.editions.specs.Objects.{IsNewSet}

-- Over what editions are made: the commands of each desk, the bases of the repository, and which
-- signatures are vouched.
pub record Premises : Type 0 where
  pub lists : List (List Command)
  pub site : Bases
  pub vouched : Vouched

-- Commands that begin with these, and such lists desk by desk.
abbrev pub BeginsWith : List Command → List Command → Type 0
BeginsWith list more = (rest : List Command) × (more ≡ list ++ rest)

abbrev pub AreMore : List (List Command) → List (List Command) → Type 0
AreMore [] [] = ⊤
AreMore [] (more ∷ mores) = ⊥
AreMore (list ∷ lists) [] = ⊥
AreMore (list ∷ lists) (more ∷ mores) = BeginsWith list more × AreMore lists mores

-- Of the same repository, with more commands at each desk and more that is vouched.
pub record IsMore (less more : Premises) : Type 0 where
  pub lists : AreMore less.lists more.lists
  pub site : more.site ≡ less.site
  pub vouched : VouchesMore less.vouched more.vouched

-- ---- the cut

-- What the first so many commands of each desk come to, from some desk on.
abbrev pub configs_from : ℕ → List (List Command) → List ℕ → List Settings
configs_from desk [] cut = []
configs_from desk (list ∷ lists) [] = fold_of desk [] ∷ configs_from (desk + 1) lists []
configs_from desk (list ∷ lists) (n ∷ cut) =
    fold_of desk (take n list) ∷ configs_from (desk + 1) lists cut

abbrev pub configs_at : List (List Command) → List ℕ → List Settings
configs_at lists cut = configs_from 0 lists cut

-- A number for each desk: no less than before, and no more than the desk has commands. Desks behind
-- the last number count 0, and there is none for a desk that isn't there.
pub record IsCut (lists : List (List Command)) (before cut : List ℕ) : Type 0 where
  pub desks : length cut ≤ length lists
  pub grown : (desk : ℕ) → cut_at before desk ≤ cut_at cut desk
  pub held : (desk : ℕ) → cut_at cut desk ≤ length (get_or lists desk [])

-- ---- serial, moment, counters

-- The moment of an edition: the clock's, or just behind the last one where that isn't later.
abbrev pub next_moment : ℕ → State → ℕ
next_moment clock before = max clock (before.moment + 1)

abbrev pub most_counted : ℕ
most_counted = 2 ^ 63

-- The serial, and the counters of the keys, are within their limit.
pub record AreCounted (edition : Edition) : Type 0 where
  pub serial : edition.serial ≤ most_counted
  pub numbers : All (λ row. row.number ≤ most_counted) edition.rows
  pub serials : All (λ row. row.next_serial ≤ most_counted) edition.rows

-- A key after the edition. With a new CRL and manifest it has the next number, and one serial more
-- than its certificates and ROAs took; else its CRL is as it was.
abbrev pub counted : PlanInput → List KeyRow → Entries → KeyRow → KeyRow
counted plan_input keys entries key =
    if keeps_point plan_input keys key
    then record key { next_serial = serial_behind (new_objects plan_input keys) key }
    else record key {
      next_serial = serial_behind (new_objects plan_input keys) key + 1;
      number = number_of key;
      this_update = plan_input.basis.moment;
      revoked = entries key;
    }

-- ---- the step

-- What an edition with that cut and moment is made from, over what stood before it.
abbrev pub basis_at : Premises → State → List ℕ → ℕ → List Resources → Basis
basis_at premises before cut moment sets = record {
  rows = before.rows;
  configs = configs_at premises.lists cut;
  sets = sets;
  moment = moment;
}

-- What the edition is made from, and judged by.
abbrev pub plan_input_at :
    Premises → State → Edition → List Resources → List Owed → List IssuedRow → PlanInput
plan_input_at premises before edition sets owed issued = record {
  basis = basis_at premises before edition.cut edition.moment sets;
  owed = owed;
  issued = issued;
  site = premises.site;
}

-- The CRL of each key that gets a new one lists just what is superseded under it.
abbrev pub AreRevoked : List Edition → ℕ → PlanInput → List KeyRow → Entries → Type 0
AreRevoked editions position plan_input keys entries =
    All (λ key. keeps_point plan_input keys key ≡ false
    → AreSuperseded editions position (id_of key) (entries key)) keys

-- So the edition that follows the others.
abbrev pub AreRevokedBy : List Edition → Edition → PlanInput → List KeyRow → Entries → Type 0
AreRevokedBy editions edition =
    AreRevoked (editions ++ edition ∷ []) (length editions)

-- All that the edition is made of, over what stood before it, with what each new CRL lists.
pub record IsMadeBy
    (AreListed : List Edition → Edition → PlanInput → List KeyRow → Entries → Type 0)
    (premises : Premises) (editions : List Edition) (edition : Edition)
    (plan_input : PlanInput) : Type 0 where
  pub table : IsTable (set_after editions) plan_input.issued
  pub certified : AreCertified plan_input.basis.configs plan_input.basis.sets
  pub owes : AreOwed plan_input.basis.configs plan_input.owed
  pub keys : List KeyRow
  pub next : AreNext plan_input.basis.rows (next_keys plan_input.basis) keys
  pub entries : Entries
  pub rows : edition.rows ≡ map (counted plan_input keys entries) keys
  pub set : IsNewSet (record {
    vouched = premises.vouched;
    plan_input = plan_input;
    keys = keys;
    entries = entries;
    old = set_after editions;
    new = set_after (editions ++ edition ∷ []);
  })
  pub listed : AreListed editions edition plan_input keys entries

-- So with what is superseded under each key.
abbrev pub IsMadeOver : Premises → List Edition → Edition → PlanInput → Type 0
IsMadeOver premises editions edition plan_input =
    IsMadeBy AreRevokedBy premises editions edition plan_input

-- The edition follows the others at that clock, with what each new CRL lists.
pub record IsStepBy
    (AreListed : List Edition → Edition → PlanInput → List KeyRow → Entries → Type 0)
    (premises : Premises) (clock : ℕ) (editions : List Edition) (edition : Edition) : Type 0 where
  pub serial : edition.serial ≡ (state_after editions).serial + 1
  pub moment : edition.moment ≡ next_moment clock (state_after editions)
  pub dated : IsEditionMoment edition.moment
  pub counted : AreCounted edition
  pub cut : IsCut premises.lists (state_after editions).cut edition.cut
  pub sets : List Resources
  pub owed : List Owed
  pub issued : List IssuedRow
  pub made : IsMadeBy AreListed premises editions edition
      (plan_input_at premises (state_after editions) edition sets owed issued)
  pub changes :
      AreChanges (set_after editions) (set_after (editions ++ edition ∷ [])) edition.changes

-- The edition follows the others at that clock.
abbrev pub IsStep : Premises → ℕ → List Edition → Edition → Type 0
IsStep premises clock editions edition = IsStepBy AreRevokedBy premises clock editions edition

-- Each of the editions follows those before it, at some clock.
abbrev pub AreSteps : Premises → List Edition → Type 0
AreSteps premises editions = (position : ℕ) (edition : Edition) → slice_get editions position
    ≡ Some edition
    → (clock : ℕ) × IsStep premises clock (take position editions) edition
