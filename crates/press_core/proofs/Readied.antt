-- From an edition that is ready to one that is prepared.
use Rattle.std.proofs.Common.{AllPairs, ◌≢◌, ◌≡◌, ℕ, ◌<◌, ◌≤◌, ◌^◌, Bool, true, List, length, get_or, refl, sym, ap, subst, ◌∙◌, arith, inl, inr, map, [], ◌∷◌, ◌++◌}
use Rattle.std.specs.Prelude.{All}
use Rattle.std.proofs.lemmas.Option.{slice_get-get_or}
use Rattle.signer_api.specs.State.{SignerState}
use Rattle.names.specs.Name.{IsName}
use Rattle.authority_book.specs.Origins.{IsAscending}
use Rattle.authority_book.specs.Settings.{Settings, ConfigValue}
use Rattle.authority_book.specs.declared.commands.Command.{Command}
use Rattle.authority_book.specs.Fold.{fold_of, Taken}
use Rattle.authority_book.specs.declared.rows.NameRow.{NameRow}
use Rattle.entitle.specs.Certified.{names_of, settings_of, AreCertified}
use Rattle.entitle.specs.Owed.{AreOwed}
use Rattle.entitle.specs.declared.trees.Owed.{Owed}
use Rattle.editions.specs.Keys.{AreNext}
use Rattle.editions.specs.Wanted.{all_objects}
use Rattle.key_ids.specs.Uris.{Bases}
use Rattle.key_roll.specs.declared.rows.KeyRow.{KeyRow}
use Rattle.key_roll.specs.declared.rows.Role.TheVariants.{Current}
use Rattle.key_roll.specs.declared.issued.IssuedRow.{IssuedRow}
use Rattle.key_roll.specs.declared.work.Work.{Work}
use Rattle.pub_set.specs.declared.steps.Change.{Change}
use Rattle.pub_set.specs.Changes.{IsApplied}
use Rattle.issue_plan.specs.Keys.{Basis, next_keys}
use Rattle.issue_plan.specs.Work.{IsPlan}
use Rattle.issue_keys.specs.declared.fault.MakeFault.{MakeFault}
use Rattle.issue_keys.specs.declared.fault.MakeFault.TheVariants.{SignerFault, KeyClash, Memory}
use Rattle.issue_keys.specs.Making.{making as making_of}
use Rattle.issue_drafts.specs.IssueInput.{IssueInput}
use Rattle.issue_make.specs.declared.made.Made.{Made}
use Rattle.issue_make.specs.CanMake as making
use Rattle.signer_ring.specs.Calls.{after_calls}
use Rattle.issue_make.specs.Made.{IsMade, IsStop, calls_of}
use Rattle.editions.specs.Edition.{cut_at}
use Rattle.editions.specs.declared.published_state.StateParts.{StateParts}
use Rattle.editions.specs.PublishedState.{PublishedStateValue, value_of, IsConsistentState, AreLive, AreTakenIn}
use Rattle.editions.specs.Moments.{moment_behind}
use Rattle.editions.specs.Calling.{is_called_for, LeadsTo}
use Rattle.editions.specs.Standing.{IsTableAfter}
use Rattle.editions.specs.Ended.{ended_keys}
use Rattle.editions.specs.inner.Following.{CanBeNamed, AreTyped, CanFollow, setting_over}
use Rattle.editions.specs.Clear.{IsClear}
use Rattle.issue_plan.specs.ByName.{StandByName}
use Rattle.editions.specs.PlannedAndMade.{CanBeRead}
use Rattle.press_core.specs.declared.setup.EditionInput.{EditionInput}
use Rattle.press_core.specs.PrepareInput.{PrepareInput}
use Rattle.press_core.specs.Next.{NextValue}
use Rattle.press_core.specs.Staged.{AreStaged, HasStages}
use Rattle.press_core.specs.Planned.{AreApart, IsInRange, IsCalled, IsPlanned, IsPrepared, basis_for, issue_input_for}
use Rattle.press_core.specs.Signers.{HoldKeys}
use Rattle.press_core.proofs.Ranges.{least-moment, most-moment}
use Rattle.press_core.proofs.Holding.{hold-calls, hold-fault, hold-further}
use Rattle.press_core.specs.declared.fault.PressFault.TheVariants as press
use Rattle.press_core.specs.Faults.{IsPressFault}
use Rattle.press_core.specs.inner.Ready.{basis_over, CanStart, IsSetUp, IsReady, IsMadeReady, CanStand, IsNextOf, fault_of}

-- ---- what it is made from

bases-same : (start : PrepareInput) (setup : EditionInput) → IsSetUp start setup → basis_over start.at setup ≡ basis_for start setup.tree.sets.items
bases-same start setup is =
    λ i. record { rows = start.at.rows; configs = is.configs i; sets = setup.tree.sets.items; moment = is.moment i }

-- The work leads from the live keys to the next ones.
pub leads : (at : PublishedStateValue) (setup : EditionInput) (site : Bases) (work : Work) → IsPlan (basis_over at setup) at.issued site work → LeadsTo at.rows (next_keys (basis_over at setup)) work
leads at setup site work plan = record { new_keys = plan.2.new_keys; roles = plan.2.roles; dropped = plan.2.dropped }

pub called-of : (start : PrepareInput) (setup : EditionInput) (work : Work) (called : Bool) → IsSetUp start setup
    → AreCertified (settings_of setup.configs.items) setup.tree.sets.items → IsPlan (basis_over start.at setup) start.at.issued start.site work
    → called ≡ is_called_for start.at setup.cut.items work.moment (next_keys (basis_over start.at setup)) → IsCalled start setup.tree.sets.items called
called-of start setup work called is certified plan answer =
    let moment : work.moment ≡ moment_behind start.clock start.at.moment = plan.2.moment ∙ is.moment in
    let basis = bases-same start setup is in
    let cut = is.cut in
    record {
      certified = subst (λ (c : List Settings). AreCertified c setup.tree.sets.items) is.configs certified;
      answer = sym (answer ∙ λ i. is_called_for start.at (cut i) (moment i) (next_keys (basis i)));
    }

-- ---- its making

pub can-follow : (start : PrepareInput) (setup : EditionInput) (work : Work) → IsReady start setup work → AreTyped (basis_over start.at setup)
    → CanBeNamed start.site → CanFollow start.at start.site (length start.ring) (basis_over start.at setup)
can-follow start setup work ready typed uris = record {
  rows = refl;
  counters = ready.in_range.counted;
  cut = setup.cut.items;
  configs = ready.set_up.config_desks;
  taken = ready.set_up.taken;
  certified = subst (λ (c : List Settings). AreCertified c setup.tree.sets.items) (sym ready.set_up.configs) ready.called.certified;
  typed = typed;
  moment =
      let least = least-moment start.clock start.at.moment ready.in_range.dated in
      let most = most-moment start.clock start.at.moment ready.in_range.dated in
      let at = ready.set_up.moment in
      record { from = omega (arith, least, at); to = omega (arith, most, at) };
  later = let less = ready.set_up.later in omega (arith, less);
  live_signers = ready.able.live_signers;
  name_signers = subst (λ (c : List Settings). All (λ (name : NameRow). name.signer < length start.ring) (names_of c)) (sym ready.set_up.configs) ready.able.name_signers;
  clear = ready.able.clear;
  named = uris;
}

-- The input of the calls, of the laws, and of the press.
pub settings-same : (start : PrepareInput) (setup : EditionInput) (work : Work) (names : List NameRow) (parts : StateParts) → IsReady start setup work
    → names ≡ names_of (settings_of setup.configs.items) → value_of parts ≡ start.at
    → making.input_with work names parts.issued start.site ≡ issue_input_for start work
settings-same start setup work names parts ready named same =
    let names_same = named ∙ ap names_of ready.set_up.configs in
    let issued = ap (λ (v : PublishedStateValue). v.issued) same in
    λ i. record { work = work; names = names_same i; issued = issued i; site = start.site }

pub law-input : (start : PrepareInput) (setup : EditionInput) (work : Work) → IsReady start setup work
    → setting_over (basis_over start.at setup) start.at.issued start.site work ≡ issue_input_for start work
law-input start setup work ready =
    let names_same = ap names_of ready.set_up.configs in
    λ i. record { work = work; names = names_same i; issued = start.at.issued; site = start.site }

-- The laws of the layer below.
pub record WorkLaws : Type 0 where
  pub origins : (desk : ℕ) (commands : List Command) → Taken desk commands → IsAscending (fold_of desk commands).origins
  pub work : (at : PublishedStateValue) (site : Bases) (signers : ℕ) (basis : Basis) (work : Work) → IsConsistentState at → CanFollow at site signers basis
      → IsPlan basis at.issued site work → making.CanMake (setting_over basis at.issued site work) at.rows signers
  pub live : (at : PublishedStateValue) (site : Bases) (signers : ℕ) (basis : Basis) (work : Work) (old new : List SignerState) (made : Made) → IsConsistentState at
      → CanFollow at site signers basis → IsPlan basis at.issued site work → IsMade (setting_over basis at.issued site work) at.rows old new made
      → AreLive basis.moment made.rows
  pub signers : (at : PublishedStateValue) (site : Bases) (signers : ℕ) (basis : Basis) (work : Work) (old new : List SignerState) (made : Made) → IsConsistentState at
      → CanFollow at site signers basis → IsPlan basis at.issued site work → IsMade (setting_over basis at.issued site work) at.rows old new made
      → All (λ row. row.signer < signers) made.rows
  pub clear : (at : PublishedStateValue) (site : Bases) (signers : ℕ) (basis : Basis) (work : Work) (old new : List SignerState) (made : Made) (table : List IssuedRow)
      → IsConsistentState at → CanFollow at site signers basis → IsPlan basis at.issued site work → IsMade (setting_over basis at.issued site work) at.rows old new made
      → IsTableAfter at.issued made.changes made.issued table → IsClear site made.rows table
  pub by_name : (at : PublishedStateValue) (site : Bases) (signers : ℕ) (basis : Basis) (work : Work) (old new : List SignerState) (made : Made) (table : List IssuedRow)
      → IsConsistentState at → CanFollow at site signers basis → IsPlan basis at.issued site work → IsMade (setting_over basis at.issued site work) at.rows old new made
      → IsTableAfter at.issued made.changes made.issued table → StandByName site at.issued → StandByName site table
  pub apart : (at : PublishedStateValue) (site : Bases) (signers : ℕ) (basis : Basis) (owed : List Owed) (keys : List KeyRow) → IsConsistentState at
      → CanFollow at site signers basis → AreOwed basis.configs owed → AreNext basis.rows (next_keys basis) keys
      → AllPairs (λ a b. a.uri ≢ b.uri) (all_objects (record { basis = basis; owed = owed; issued = at.issued; site = site }) keys)
  pub staged : (at : PublishedStateValue) (site : Bases) (signers : ℕ) (basis : Basis) (work : Work) (old new : List SignerState) (made : Made) → IsConsistentState at
      → CanFollow at site signers basis → IsPlan basis at.issued site work → IsMade (setting_over basis at.issued site work) at.rows old new made
      → HasStages at → All (λ key. key.desk ≡ 0 → key.role ≡ Current) made.rows → AreStaged made.rows

pub is-able : WorkLaws → (start : PrepareInput) (setup : EditionInput) (work : Work) → IsReady start setup work → AreTyped (basis_over start.at setup)
    → CanBeNamed start.site → making.CanMake (issue_input_for start work) start.at.rows (length start.ring)
is-able laws start setup work ready typed uris =
    subst (λ (s : IssueInput). making.CanMake s start.at.rows (length start.ring)) (law-input start setup work ready)
    (laws.work start.at start.site (length start.ring) (basis_over start.at setup) work ready.able.kept (can-follow start setup work ready typed uris) ready.plan)

pub made-ready : WorkLaws → (start : PrepareInput) (setup : EditionInput) (work : Work) (ring : List SignerState) (made : Made) → IsReady start setup work
    → AreTyped (basis_over start.at setup) → CanBeNamed start.site → IsMade (issue_input_for start work) start.at.rows start.ring ring made → IsMadeReady start setup work ring made
made-ready laws start setup work ring made ready typed uris is =
    let basis = basis_over start.at setup in
    let follow = can-follow start setup work ready typed uris in
    let kept = ready.able.kept in
    let n = length start.ring in
    let law_is = subst (λ (s : IssueInput). IsMade s start.at.rows start.ring ring made) (sym (law-input start setup work ready)) is in
    record {
      places = λ owed keys owes next. laws.apart start.at start.site n basis owed keys kept follow owes next;
      able = is-able laws start setup work ready typed uris;
      is_made = is;
      live = laws.live start.at start.site n basis work start.ring ring made kept follow ready.plan law_is;
      signers = laws.signers start.at start.site n basis work start.ring ring made kept follow ready.plan law_is;
      names = typed.names;
      clear = λ table after. laws.clear start.at start.site n basis work start.ring ring made table kept follow ready.plan law_is after;
      by_name = λ table after stood. laws.by_name start.at start.site n basis work start.ring ring made table kept follow ready.plan law_is after stood;
      staged = laws.staged start.at start.site n basis work start.ring ring made kept follow ready.plan law_is ready.able.staged;
    }

pub is-ready : (start : PrepareInput) (setup : EditionInput) (work : Work) → CanStart start → IsInRange start.at start.clock → IsSetUp start setup
    → AreCertified (settings_of setup.configs.items) setup.tree.sets.items → AreOwed (settings_of setup.configs.items) setup.owed.items
    → IsPlan (basis_over start.at setup) start.at.issued start.site work
    → true ≡ is_called_for start.at setup.cut.items work.moment (next_keys (basis_over start.at setup)) → IsReady start setup work
is-ready start setup work able in_range is certified owes plan called = record {
  able = able;
  set_up = is;
  in_range = in_range;
  called = called-of start setup work true is certified plan called;
  owes = owes;
  plan = plan;
}

-- The origins of configurations that accepted commands came to ascend.
origins-up : WorkLaws → (configs : List Settings) (cut : List ℕ) → AreTakenIn configs cut → All (λ config. IsAscending config.origins) configs
origins-up laws configs cut taken = λ k d inside.
    let config = get_or configs k d in
    let is = taken k config (slice_get-get_or configs k d inside) in
    subst (λ (s : Settings). IsAscending s.origins) (sym is.is) (laws.origins k is.commands is.taken)

typed-of : WorkLaws → (start : PrepareInput) (setup : EditionInput) (work : Work) → IsReady start setup work → All (λ row. IsName row.name) (names_of (settings_of setup.configs.items))
    → AreTyped (basis_over start.at setup)
typed-of laws start setup work ready plain = record {
  names = plain;
  origins = origins-up laws (settings_of setup.configs.items) setup.cut.items ready.set_up.taken;
}

-- In the words of the calls: with the names, the rows and the table as the call has them.
pub record Called (start : PrepareInput) (setup : EditionInput) (names : List NameRow) (parts : StateParts) (rows : List KeyRow) : Type 0 where
  pub laws : WorkLaws
  pub plain : All (λ row. IsName row.name) (names_of (settings_of setup.configs.items))
  pub named : names ≡ names_of (settings_of setup.configs.items)
  pub same : value_of parts ≡ start.at
  pub rows_are : rows ≡ start.at.rows
  pub uris : CanBeNamed start.site

pub called-as : WorkLaws → (start : PrepareInput) (setup : EditionInput) (names : List NameRow) (parts : StateParts) (rows : List KeyRow) (configs : List ConfigValue)
    → names ≡ names_of (settings_of configs) → configs ≡ setup.configs.items → All (λ row. IsName row.name) names → value_of parts ≡ start.at → rows ≡ parts.rows
    → CanBeNamed start.site → Called start setup names parts rows
called-as laws start setup names parts rows configs names_are configs_are plain same of_parts uris =
    let named = names_are ∙ ap (λ (c : List ConfigValue). names_of (settings_of c)) configs_are in
    record {
      laws = laws;
      plain = subst (All (λ (row : NameRow). IsName row.name)) named plain;
      named = named;
      same = same;
      rows_are = of_parts ∙ ap (λ (v : PublishedStateValue). v.rows) same;
      uris = uris;
    }

abbrev pub call_setting : PrepareInput → Work → List NameRow → StateParts → IssueInput
call_setting start work names parts = making.input_with work names parts.issued start.site

pub call-able : (start : PrepareInput) (setup : EditionInput) (work : Work) (names : List NameRow) (parts : StateParts) (rows : List KeyRow) → Called start setup names parts rows
    → IsReady start setup work → making.CanMake (call_setting start work names parts) rows (length start.ring)
call-able start setup work names parts rows c ready =
    subst (λ (s : IssueInput). making.CanMake s rows (length start.ring)) (sym (settings-same start setup work names parts ready c.named c.same))
    (subst (λ (r : List KeyRow). making.CanMake (issue_input_for start work) r (length start.ring)) (sym c.rows_are) (is-able c.laws start setup work ready (typed-of c.laws start setup work ready c.plain) c.uris))

pub call-made : (start : PrepareInput) (setup : EditionInput) (work : Work) (names : List NameRow) (parts : StateParts) (rows : List KeyRow) (ring : List SignerState) (made : Made)
    → Called start setup names parts rows → IsReady start setup work → IsMade (call_setting start work names parts) rows start.ring ring made
    → IsMadeReady start setup work ring made
call-made start setup work names parts rows ring made c ready is =
    made-ready c.laws start setup work ring made ready (typed-of c.laws start setup work ready c.plain) c.uris
    (subst (λ (r : List KeyRow). IsMade (issue_input_for start work) r start.ring ring made) c.rows_are
    (subst (λ (s : IssueInput). IsMade s rows start.ring ring made) (settings-same start setup work names parts ready c.named c.same) is))

pub call-stopped : (start : PrepareInput) (setup : EditionInput) (work : Work) (names : List NameRow) (parts : StateParts) (rows : List KeyRow) (ring : List SignerState) (fault : MakeFault)
    → Called start setup names parts rows → IsReady start setup work → IsStop (call_setting start work names parts) rows start.ring ring fault
    → IsStop (issue_input_for start work) start.at.rows start.ring ring fault
call-stopped start setup work names parts rows ring fault c ready stop =
    subst (λ (r : List KeyRow). IsStop (issue_input_for start work) r start.ring ring fault) c.rows_are
    (subst (λ (s : IssueInput). IsStop s rows start.ring ring fault) (settings-same start setup work names parts ready c.named c.same) stop)

-- ---- the signers' keys

pub stop-holds : (s : IssueInput) (live : List KeyRow) (old new : List SignerState) (fault : MakeFault) → IsStop s live old new fault → HoldKeys old new
stop-holds s live old new (SignerFault signer) stop =
    hold-further old (after_calls old stop.calls) new (hold-calls old stop.calls) (hold-fault signer (after_calls old stop.calls) new stop.fault)
stop-holds s live old new (KeyClash id) stop = subst (HoldKeys old) (sym stop.signers) (hold-calls old (map making_of (stop.before ++ stop.last ∷ [])))
stop-holds s live old new Memory stop = elim stop [
  | inl short ↦ subst (HoldKeys old) (sym short.signers) (hold-calls old (map making_of short.made))
  | inr begun ↦ subst (HoldKeys old) (sym begun.2) (hold-calls old begun.0)
]

pub made-holds : (s : IssueInput) (live : List KeyRow) (old new : List SignerState) (made : Made) → IsMade s live old new made → HoldKeys old new
made-holds s live old new made is = subst (HoldKeys old) (sym is.signers) (hold-calls old (calls_of s is.trace))

-- ---- refusals

pub planned-of : (start : PrepareInput) (setup : EditionInput) (work : Work) → IsReady start setup work → IsPlanned start work
planned-of start setup work ready = record {
  in_range = ready.in_range;
  sets = setup.tree.sets.items;
  called = ready.called;
  plan = subst (λ (b : Basis). IsPlan b start.at.issued start.site work) (bases-same start setup ready.set_up) ready.plan;
}

pub refused-of : (start : PrepareInput) (setup : EditionInput) (work : Work) (ring : List SignerState) (fault : MakeFault) → IsReady start setup work
    → IsStop (issue_input_for start work) start.at.rows start.ring ring fault → IsPressFault start ring (fault_of fault start.clock)
refused-of start setup work ring (SignerFault signer) ready stop = (record { work = work; planned = planned-of start setup work ready; fault = stop }, refl)
refused-of start setup work ring (KeyClash id) ready stop = (record { work = work; planned = planned-of start setup work ready; clash = stop }, refl)
refused-of start setup work ring Memory ready stop = inr (record { work = work; planned = planned-of start setup work ready; out = inl stop })

-- Memory ran out once all was made.
pub short-of : (start : PrepareInput) (setup : EditionInput) (work : Work) (ring : List SignerState) (made : Made) → IsReady start setup work → IsMadeReady start setup work ring made
    → IsPressFault start ring press.Memory
short-of start setup work ring made ready is = inr (record { work = work; planned = planned-of start setup work ready; out = inr (made, is.is_made) })

-- ---- what stands then

pub can-stand : (start : PrepareInput) (setup : EditionInput) (work : Work) (ring : List SignerState) (made : Made) → IsReady start setup work
    → IsMadeReady start setup work ring made → CanStand start.at setup made
can-stand start setup work ring made ready is = record {
  serial = ready.in_range.counted.serial;
  cut = ready.set_up.cut_desks;
  configs = ready.set_up.config_desks;
  taken = ready.set_up.taken;
  certified = subst (λ (c : List Settings). AreCertified c setup.tree.sets.items) (sym ready.set_up.configs) ready.called.certified;
  owes = ready.owes;
  live = is.live;
  changes = is.is_made.rising;
  issued = is.is_made.listed;
}

pub prepared-of : (start : PrepareInput) (setup : EditionInput) (work : Work) (ring : List SignerState) (made : Made) (prepared : NextValue) → IsReady start setup work
    → IsMadeReady start setup work ring made → All CanBeRead made.changes → length made.issued < 2 ^ 62 → IsNextOf start.at setup made prepared
    → IsPrepared start ring prepared
unfolding planned-of
prepared-of start setup work ring made prepared ready is readable few next = record {
  moment = next.moment ∙ ready.set_up.moment;
  cut = next.cut ∙ ready.set_up.cut;
  configs = next.configs ∙ ready.set_up.configs;
  made = record {
    work = work;
    planned = planned-of start setup work ready;
    places = subst (AreApart start) (bases-same start setup ready.set_up) is.places;
    able = is.able;
    made = made;
    is_made = is.is_made;
    readable = readable;
    few = few;
    rows = next.rows;
    changes = next.changes;
    table = next.table;
  };
  next = record {
    serial = next.serial;
    moment = subst (λ (n : ℕ). start.at.moment < n) (sym next.moment) ready.set_up.later;
    cut = subst (λ (c : List ℕ). (desk : ℕ) → cut_at start.at.cut desk ≤ cut_at c desk) (sym next.cut) ready.set_up.grown;
    set = subst (λ (changes : List Change). IsApplied start.at.set changes prepared.next.set) (sym next.changes) next.set;
    ended = next.ended ∙ ap (ended_keys start.at.rows) (sym next.rows);
    clear = subst (λ (rows : List KeyRow). IsClear start.site rows prepared.next.issued) (sym next.rows) (is.clear prepared.next.issued next.table);
    by_name = is.by_name prepared.next.issued next.table;
    staged = subst AreStaged (sym next.rows) (is.staged (is.clear prepared.next.issued next.table).anchor);
    kept = next.kept;
    ascending = next.ascending;
  };
  signers = subst (All (λ (row : KeyRow). row.signer < length start.ring)) (sym next.rows) is.signers;
  names = subst (λ (c : List Settings). All (λ (name : NameRow). IsName name.name) (names_of c)) (sym next.configs) is.names;
}
