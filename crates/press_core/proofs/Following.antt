-- What is prepared, among the editions before it.
use Rattle.std.proofs.Common.{AllPairs, ◌≢◌, ◌≡◌, ℕ, zero, suc, ◌+◌, ◌<◌, ◌≤◌, true, Option, Some, None, List, [], ◌∷◌, ◌++◌, length, max, ◌^◌, refl, sym, ap, subst, ◌∙◌, arith}
use Rattle.std.specs.Prelude.{All, Any, IfSome, slice_get, slice_set}
use Rattle.std.specs.Option.{option_map_or}
use Rattle.std.proofs.lemmas.List.Elements.{All-nil, All-cons, All-head, All-tail}
use Rattle.signer_api.specs.State.{SignerState, Tells, Vouches}
use Rattle.signer_ring.specs.Calls.{Call, signer_of, change, after_call, after_calls, IsVouched}
use Rattle.signer_ring.specs.Calls.Call.{Makes, Signs, Once}
use Rattle.res_sets.specs.declared.holdings.Resources.{Resources}
use Rattle.authority_book.specs.declared.commands.Command.{Command}
use Rattle.authority_book.specs.Settings.{Settings}
use Rattle.names.specs.Name.{IsName}
use Rattle.authority_book.specs.declared.rows.NameRow.{NameRow}
use Rattle.authority_book.specs.Fold.{fold_of, Taken}
use Rattle.entitle.specs.Certified.{names_of, AreCertified}
use Rattle.entitle.specs.Owed.{AreOwed}
use Rattle.entitle.specs.declared.trees.Owed.{Owed}
use Rattle.rp_rules.specs.Certificates.{Vouched}
use Rattle.pub_set.specs.declared.objects.Object.{Object}
use Rattle.pub_set.specs.declared.steps.Change.{Change}
use Rattle.pub_set.specs.Objects.{content_at, IsAscending}
use Rattle.pub_set.specs.Changes.{Contents, after_all}
use Rattle.key_roll.specs.declared.issued.IssuedRow.{IssuedRow}
use Rattle.issue_plan.specs.Keys.{next_keys}
use Rattle.editions.specs.Keys.{AreNext}
use Rattle.editions.specs.Wanted.{all_objects}
use Rattle.issue_plan.specs.Wanted.{PlanInput}
use Rattle.issue_plan.specs.Work as plan
use Rattle.issue_make.specs.CanMake as making
use Rattle.issue_make.specs.Made.{IsMade, calls_of}
use Rattle.editions.specs.Edition.{Edition, State, state_after, state_from, set_after, cut_at}
use Rattle.editions.specs.Table.{IsTable}
use Rattle.editions.specs.Step.{Premises, IsStep, IsCut, AreSteps, configs_at, basis_at, plan_input_at}
use Rattle.editions.specs.Due as due
use Rattle.editions.specs.Due.{IsCalledFor}
use Rattle.editions.specs.Held.{HaveOwnSerials}
use Rattle.editions.specs.Profile.{IsInProfile}
use Rattle.editions.specs.Published.{IsPublished, ManifestsRise}
use Rattle.editions.specs.inner.PlanAndTable.{made_from}
use Rattle.editions.specs.VouchedCalls.{IsVouchedBy}
use Rattle.editions.specs.declared.gathered.Gathered.{Gathered}
use Rattle.editions.specs.PublishedState.{PublishedStateValue, AreTakenIn, desks}
use Rattle.editions.specs.Gathering.{configs_with, cut_with, AreNextCommands}
use Rattle.editions.specs.Moments.{moment_behind}
use Rattle.editions.specs.Calling.{is_called_for}
use Rattle.editions.specs.Standing.{IsTableAfter}
use Rattle.editions.specs.Names.{AreTree}
use Rattle.editions.specs.PlannedAndMade.{IsPlannedAndMade}
use Rattle.press_core.specs.PrepareInput.{PrepareInput}
use Rattle.press_core.specs.Next.{NextValue}
use Rattle.press_core.specs.Signers.{HasAllVouched}
use Rattle.press_core.specs.Planned.{IsPrepared, basis_for, issue_input_for, calls_for}
use Rattle.press_core.specs.Stands.{IsLeftBy, StandsFor}
use Rattle.press_core.specs.Follows.{edition_of, AreBehind, Follows}
use Rattle.issue_make.specs.laws.SignerLaws.{calls-of-signers}
use Rattle.press_core.proofs.Taking.{cut-long}

-- The names after accepted commands are those of a tree.
abbrev pub IsNamesLaw : Type 0
IsNamesLaw = (commands : List Command) → Taken 0 commands → AreTree (fold_of 0 commands).names

-- The laws of the layers below that what is left rests on.
pub record LeftLaws : Type 0 where
  pub left : (before later : List Edition) → state_after (before ++ later) ≡ state_from (state_after before) later
  pub configs : (lists : List (List Command)) (cut : List ℕ) (gathered : List Gathered) → length cut ≡ length lists → AreNextCommands lists cut gathered
      → configs_with (configs_at lists cut) gathered ≡ configs_at lists (cut_with cut gathered)
  pub cut : (lists : List (List Command)) (cut : List ℕ) (gathered : List Gathered) → length cut ≡ length lists → AreNextCommands lists cut gathered
      → IsCut lists cut (cut_with cut gathered)
  pub same : (one other : Contents) → ((uri : List ℕ) → one uri ≡ other uri) → one ≡ other

-- All of them.
pub record Laws : Type 0 where
  pub left : LeftLaws
  pub manifests : (premises : Premises) (editions : List Edition) (edition : Edition) → AreSteps premises (editions ++ edition ∷ [])
      → ManifestsRise (set_after editions) (set_after (editions ++ edition ∷ []))
  pub serials : (premises : Premises) (editions : List Edition) (id : List ℕ) → AreSteps premises editions → HaveOwnSerials editions id
  pub profile : (premises : Premises) (editions : List Edition) (edition : Edition) → AreSteps premises (editions ++ edition ∷ [])
      → AreTree (names_of (configs_at premises.lists edition.cut)) → IsInProfile (set_after (editions ++ edition ∷ []))
  pub steps : (premises : Premises) (clock : ℕ) (editions : List Edition) (edition : Edition)
      → AreSteps premises editions → IsStep premises clock editions edition → AreSteps premises (editions ++ edition ∷ [])
  pub follows : (premises : Premises) (clock : ℕ) (editions : List Edition) (edition : Edition) (old new : List SignerState)
      → AreSteps premises editions → IsPlannedAndMade premises clock editions edition old new → IsStep premises clock editions edition
  pub table : (premises : Premises) (clock : ℕ) (editions : List Edition) (edition : Edition) (old new : List SignerState)
      (planned : IsPlannedAndMade premises clock editions edition old new) (issued : List IssuedRow) → AreSteps premises editions
      → IsTableAfter planned.issued edition.changes planned.made.made.issued issued → IsTable (set_after (editions ++ edition ∷ [])) issued
  pub called : (premises : Premises) (before : State) (published_state : PublishedStateValue) (cut : List ℕ) (moment : ℕ) (sets : List Resources)
      → before.serial ≡ published_state.serial → before.rows ≡ published_state.rows → ((desk : ℕ) → cut_at before.cut desk ≡ cut_at published_state.cut desk)
      → is_called_for published_state cut moment (next_keys (basis_at premises before cut moment sets)) ≡ due.is_called_for premises before cut moment sets published_state.issued
  pub names : IsNamesLaw

-- ---- vouching

set-long : (xs : List SignerState) (i : ℕ) (y : SignerState) → length (slice_set xs i y) ≡ length xs
set-long [] i y = refl
set-long (x ∷ xs) zero y = refl
set-long (x ∷ xs) (suc i) y = ap suc (set-long xs i y)

call-long : (ring : List SignerState) (call : Call) → length (after_call ring call) ≡ length ring
call-long ring call = by (slice_get ring (signer_of call))
  where
    by : (o : Option SignerState) → length (option_map_or (λ signer. slice_set ring (signer_of call) (change call signer)) o ring) ≡ length ring
    by None = refl
    by (Some signer) = set-long ring (signer_of call) (change call signer)

calls-long : (ring : List SignerState) (calls : List Call) → length (after_calls ring calls) ≡ length ring
calls-long ring [] = refl
calls-long ring (call ∷ calls) = calls-long (after_call ring call) calls ∙ call-long ring call

any-at : (P : SignerState → Type 0) (xs : List SignerState) (n : ℕ) → n < length xs → IfSome (slice_get xs n) P → Any P xs
any-at P [] n inside is = absurd (omega arith)
any-at P (x ∷ xs) zero inside is = (0, x, omega arith, refl, is)
any-at P (x ∷ xs) (suc n) inside is =
    let r = any-at P xs n (omega arith) is in
    (suc r.0, r.1, let less = r.2 in omega arith, r.3, r.4)

vouched-one : (vouched : Vouched) (ring : List SignerState) (call : Call) → HasAllVouched vouched ring → signer_of call < length ring → IsVouched ring call → IsVouchedBy vouched call
vouched-one vouched ring (Makes n key) has inside is = tt
vouched-one vouched ring (Signs n one) has inside is =
    has one.key one.digest one.signature (any-at (λ signer. Tells signer → Vouches signer one.key one.digest one.signature) ring n inside is)
vouched-one vouched ring (Once n one) has inside is =
    has one.key one.digest one.signature (any-at (λ signer. Tells signer → Vouches signer one.key one.digest one.signature) ring n inside is)

vouched-all : (vouched : Vouched) (ring : List SignerState) (calls : List Call) → HasAllVouched vouched ring → All (λ call. signer_of call < length ring) calls → All (IsVouched ring) calls → All (IsVouchedBy vouched) calls
vouched-all vouched ring [] has inside is = All-nil (IsVouchedBy vouched)
vouched-all vouched ring (call ∷ calls) has inside is =
    All-cons (IsVouchedBy vouched) call calls
    (vouched-one vouched ring call has (All-head (λ (c : Call). signer_of c < length ring) call calls inside) (All-head (IsVouched ring) call calls is))
    (vouched-all vouched ring calls has (All-tail (λ (c : Call). signer_of c < length ring) call calls inside) (All-tail (IsVouched ring) call calls is))

-- What was signed for an edition is vouched where all that the signers vouch for is.
pub prepared-vouched : (start : PrepareInput) (ring : List SignerState) (prepared : NextValue) (is : IsPrepared start ring prepared) (vouched : Vouched)
    → HasAllVouched vouched ring → All (IsVouchedBy vouched) (calls_for start ring prepared is)
prepared-vouched start ring prepared is vouched has =
    let of = is.made in
    let calls = calls_of (issue_input_for start of.work) of.is_made.trace in
    let long : length ring ≡ length start.ring = ap length of.is_made.signers ∙ calls-long start.ring calls in
    vouched-all vouched ring calls has
    (subst (λ (n : ℕ). All (λ (call : Call). signer_of call < n) calls) (sym long)
    (calls-of-signers (length start.ring) (issue_input_for start of.work) start.at.rows of.is_made.trace of.able of.is_made.is_trace))
    of.is_made.vouched

-- ---- names

first-name : (configs : List Settings) (n : ℕ) → length configs ≡ suc n → (config : Settings) × (slice_get configs 0 ≡ Some config) × (config.names ≡ names_of configs)
first-name [] n long = absurd (omega (arith, long))
first-name (config ∷ rest) n long = (config, refl, refl)

pub tree-of : IsNamesLaw → (configs : List Settings) (cut : List ℕ) → length configs ≡ desks → AreTakenIn configs cut → AreTree (names_of configs)
tree-of law configs cut long taken =
    let first = first-name configs 63 long in
    let is = taken 0 first.0 first.1 in
    subst AreTree (ap (λ (s : Settings). s.names) (sym is.is) ∙ first.2) (law is.commands is.taken)

-- ---- what is left

pub record GivenLeft (start : PrepareInput) (ring : List SignerState) (prepared : NextValue) (lists : List (List Command)) (editions : List Edition) : Type 0 where
  pub laws : LeftLaws
  pub is : IsPrepared start ring prepared
  pub left : IsLeftBy lists editions start.at
  pub gathered : AreNextCommands lists start.at.cut start.gathered

configs-are : (start : PrepareInput) (ring : List SignerState) (prepared : NextValue) (lists : List (List Command)) (editions : List Edition) → GivenLeft start ring prepared lists editions
    → configs_with start.at.configs start.gathered ≡ configs_at lists prepared.next.cut
configs-are start ring prepared lists editions g =
    ap (λ (c : List Settings). configs_with c start.gathered) g.left.configs
    ∙ (g.laws.configs lists start.at.cut start.gathered (sym g.left.desks) g.gathered
    ∙ ap (configs_at lists) (sym g.is.cut))

cut-is : (start : PrepareInput) (ring : List SignerState) (prepared : NextValue) (lists : List (List Command)) (editions : List Edition) → GivenLeft start ring prepared lists editions
    → IsCut lists start.at.cut prepared.next.cut
cut-is start ring prepared lists editions g =
    subst (IsCut lists start.at.cut) (sym g.is.cut)
    (g.laws.cut lists start.at.cut start.gathered (sym g.left.desks) g.gathered)

state-is : LeftLaws → (prepared : NextValue) (editions : List Edition)
    → state_after (editions ++ edition_of prepared ∷ []) ≡ record {
      serial = prepared.next.serial;
      moment = prepared.next.moment;
      cut = prepared.next.cut;
      rows = prepared.next.rows;
      set = after_all (set_after editions) prepared.changes;
    }
state-is laws prepared editions = laws.left editions (edition_of prepared ∷ [])

contents-are : (start : PrepareInput) (ring : List SignerState) (prepared : NextValue) (lists : List (List Command)) (editions : List Edition) → GivenLeft start ring prepared lists editions
    → (uri : List ℕ) → content_at prepared.next.set uri ≡ set_after (editions ++ edition_of prepared ∷ []) uri
contents-are start ring prepared lists editions g uri =
    let before : content_at start.at.set ≡ set_after editions = g.laws.same (content_at start.at.set) (set_after editions) g.left.set in
    let after : set_after (editions ++ edition_of prepared ∷ []) ≡ after_all (set_after editions) prepared.changes =
    ap (λ (s : State). s.set) (state-is g.laws prepared editions) in
    g.is.next.set uri
    ∙ (ap (λ (held : Contents). after_all held prepared.changes uri) before
    ∙ ap (λ (held : Contents). held uri) (sym after))

-- What will stand is left by the editions with that one behind them.
pub left-then : (start : PrepareInput) (ring : List SignerState) (prepared : NextValue) (lists : List (List Command)) (editions : List Edition) → GivenLeft start ring prepared lists editions
    → IsLeftBy lists (editions ++ edition_of prepared ∷ []) prepared.next
left-then start ring prepared lists editions g =
    let state = state-is g.laws prepared editions in
    let cut = cut-is start ring prepared lists editions g in
    let long : length prepared.next.cut ≡ length start.at.cut = ap length g.is.cut ∙ cut-long 0 start.at.cut start.gathered in
    record {
      serial = ap (λ (s : State). s.serial) (sym state);
      moment = ap (λ (s : State). s.moment) (sym state);
      cut = λ desk. ap (λ (s : State). cut_at s.cut desk) (sym state);
      rows = ap (λ (s : State). s.rows) (sym state);
      set = contents-are start ring prepared lists editions g;
      desks = g.left.desks ∙ sym long;
      taken_in = cut.held;
      configs = g.is.configs ∙ configs-are start ring prepared lists editions g;
    }

-- ---- what it was made over

pub record Given (start : PrepareInput) (ring : List SignerState) (prepared : NextValue) (premises : Premises) (editions : List Edition) : Type 0 where
  pub laws : Laws
  pub is : IsPrepared start ring prepared
  pub behind : AreBehind start (calls_for start ring prepared is) premises editions

given-left : (start : PrepareInput) (ring : List SignerState) (prepared : NextValue) (premises : Premises) (editions : List Edition) → Given start ring prepared premises editions
    → GivenLeft start ring prepared premises.lists editions
given-left start ring prepared premises editions g = record { laws = g.laws.left; is = g.is; left = g.behind.stands.left; gathered = g.behind.gathered }

-- What is judged by, in the words of the press and in those of the editions.
abbrev own-standing : PrepareInput → List Resources → List Owed → PlanInput
own-standing start sets owed = record { basis = basis_for start sets; owed = owed; issued = start.at.issued; site = start.site }

standings-same : (start : PrepareInput) (ring : List SignerState) (prepared : NextValue) (premises : Premises) (editions : List Edition) (sets : List Resources) (owed : List Owed) → Given start ring prepared premises editions
    → own-standing start sets owed ≡ plan_input_at premises (state_after editions) (edition_of prepared) sets owed start.at.issued
standings-same start ring prepared premises editions sets owed g =
    let rows = g.behind.stands.left.rows in
    let configs = configs-are start ring prepared premises.lists editions (given-left start ring prepared premises editions g) in
    let moment = sym g.is.moment in
    let site = sym g.behind.site in
    λ i. record {
      basis = record { rows = rows i; configs = configs i; sets = sets; moment = moment i };
      owed = owed;
      issued = start.at.issued;
      site = site i;
    }

pub planned-and-made : (start : PrepareInput) (ring : List SignerState) (prepared : NextValue) (premises : Premises) (editions : List Edition) → Given start ring prepared premises editions
    → IsPlannedAndMade premises start.clock editions (edition_of prepared) start.ring ring
planned-and-made start ring prepared premises editions g =
    let state = state_after editions in
    let edition = edition_of prepared in
    let stands = g.behind.stands in
    let left = stands.left in
    let of = g.is.made in
    let sets = of.planned.sets in
    let owed = of.planned.plan.0 in
    let old = start.ring in
    let theirs : PlanInput = plan_input_at premises state edition sets owed start.at.issued in
    let same : own-standing start sets owed ≡ theirs = standings-same start ring prepared premises editions sets owed g in
    let able = subst (λ (s : PlanInput). making.CanMake (made_from s of.work) s.basis.rows (length old)) same of.able in
    let both = subst (λ (s : PlanInput). (made : IsMade (made_from s of.work) s.basis.rows old ring of.made)
    × All (IsVouchedBy premises.vouched) (calls_of (made_from s of.work) made.trace)) same (of.is_made, g.behind.vouched) in
    let own_cut = cut-is start ring prepared premises.lists editions (given-left start ring prepared premises editions g) in
    record {
      serial = g.is.next.serial ∙ ap (λ (n : ℕ). n + 1) left.serial;
      below = subst (λ (n : ℕ). n < 2 ^ 62) left.serial of.planned.in_range.counted.serial;
      moment = g.is.moment ∙ ap (λ (n : ℕ). max start.clock (n + 1)) left.moment;
      cut = record {
        desks = own_cut.desks;
        grown = λ desk. subst (λ (n : ℕ). n ≤ cut_at prepared.next.cut desk) (left.cut desk) (own_cut.grown desk);
        held = own_cut.held;
      };
      sets = sets;
      owed = owed;
      issued = start.at.issued;
      made = record {
        table = stands.table;
        tree = subst (λ (s : PlanInput). AreTree (names_of s.basis.configs)) same
            (subst (λ (c : List Settings). AreTree (names_of c)) g.is.configs (tree-of g.laws.names prepared.next.configs prepared.next.cut g.is.next.kept.configs g.is.next.kept.taken));
        certified = subst (λ (s : PlanInput). AreCertified s.basis.configs s.basis.sets) same of.planned.called.certified;
        owes = subst (λ (s : PlanInput). AreOwed s.basis.configs s.owed) same of.planned.plan.1;
        places = λ keys. subst (λ (s : PlanInput). AreNext s.basis.rows (next_keys s.basis) keys
            → AllPairs (λ a b. a.uri ≢ b.uri) (all_objects s keys)) same (λ next. of.places owed keys of.planned.plan.1 next);
        work = of.work;
        planned = subst (λ (s : PlanInput). plan.IsWork s (next_keys s.basis) of.work) same of.planned.plan.2;
        can_be_made = able;
        made = of.made;
        is_made = both.0;
        vouched = both.1;
        readable = of.readable;
        few = of.few;
        rows = of.rows;
        changes = of.changes;
      };
    }

-- ---- what stands then

stands-then : (start : PrepareInput) (ring : List SignerState) (prepared : NextValue) (premises : Premises) (editions : List Edition) → Given start ring prepared premises editions
    → IsStep premises start.clock editions (edition_of prepared) → StandsFor premises (editions ++ edition_of prepared ∷ []) prepared.next
unfolding planned-and-made
stands-then start ring prepared premises editions g step =
    let edition = edition_of prepared in
    let stands = g.behind.stands in
    let made = planned-and-made start ring prepared premises editions g in
    record {
      left = left-then start ring prepared premises.lists editions (given-left start ring prepared premises editions g);
      steps = g.laws.steps premises start.clock editions edition stands.steps step;
      table = g.laws.table premises start.clock editions edition start.ring ring made prepared.next.issued stands.steps
          (subst (λ (changes : List Change). IsTableAfter start.at.issued changes g.is.made.made.issued prepared.next.issued) (sym g.is.made.changes) g.is.made.table);
    }

called-then : (start : PrepareInput) (ring : List SignerState) (prepared : NextValue) (premises : Premises) (editions : List Edition) → Given start ring prepared premises editions
    → IsCalledFor premises editions prepared.next.cut prepared.next.moment true
called-then start ring prepared premises editions g =
    let state = state_after editions in
    let stands = g.behind.stands in
    let left = stands.left in
    let called = g.is.made.planned.called in
    let sets = g.is.made.planned.sets in
    let rows = left.rows in
    let configs = configs-are start ring prepared premises.lists editions (given-left start ring prepared premises editions g) in
    let moment = sym g.is.moment in
    let cut = sym g.is.cut in
    let there : is_called_for start.at prepared.next.cut prepared.next.moment (next_keys (basis_at premises state prepared.next.cut prepared.next.moment sets))
    ≡ is_called_for start.at (cut_with start.at.cut start.gathered) (moment_behind start.clock start.at.moment) (next_keys (basis_for start sets)) =
    sym (λ i. is_called_for start.at (cut i) (moment i) (next_keys (record { rows = rows i; configs = configs i; sets = sets; moment = moment i }))) in
    record {
      sets = sets;
      certified = subst (λ (c : List Settings). AreCertified c sets) configs called.certified;
      issued = start.at.issued;
      table = stands.table;
      answer = sym (g.laws.called premises state start.at prepared.next.cut prepared.next.moment sets (sym left.serial) (sym left.rows) (λ desk. sym (left.cut desk)))
          ∙ (there ∙ called.answer);
    }

-- It follows them.
pub prepared-follows : Laws → (start : PrepareInput) (ring : List SignerState) (prepared : NextValue) (is : IsPrepared start ring prepared) (premises : Premises) (editions : List Edition)
    → AreBehind start (calls_for start ring prepared is) premises editions → Follows premises start.clock editions prepared
prepared-follows laws start ring prepared is premises editions behind =
    let g : Given start ring prepared premises editions = record { laws = laws; is = is; behind = behind } in
    let step : IsStep premises start.clock editions (edition_of prepared) =
    laws.follows premises start.clock editions (edition_of prepared) start.ring ring behind.stands.steps (planned-and-made start ring prepared premises editions g) in
    let all = stands-then start ring prepared premises editions g step in
    let edition = edition_of prepared in
    let tree : AreTree (names_of prepared.next.configs) =
    tree-of laws.names prepared.next.configs prepared.next.cut is.next.kept.configs is.next.kept.taken in
    record {
      step = step;
      called = called-then start ring prepared premises editions g;
      stands = all;
      manifests = laws.manifests premises editions edition all.steps;
      serials = λ id. laws.serials premises (editions ++ edition ∷ []) id all.steps;
      profile = laws.profile premises editions edition all.steps
          (subst (λ (c : List Settings). AreTree (names_of c)) all.left.configs tree);
    }

-- ---- to relying parties

abbrev pub IsWalkLaw : Type 0
IsWalkLaw = (premises : Premises) (editions : List Edition) (edition : Edition) (objects : List Object)
    → AreSteps premises (editions ++ edition ∷ []) → AreTree (names_of (configs_at premises.lists edition.cut))
    → All (λ row. IsName row.name) (names_of (configs_at premises.lists edition.cut)) → IsAscending objects
    → ((uri : List ℕ) → content_at objects uri ≡ set_after (editions ++ edition ∷ []) uri)
    → IsPublished premises edition (set_after (editions ++ edition ∷ []))

pub prepared-published : IsNamesLaw → ((one other : Contents) → ((uri : List ℕ) → one uri ≡ other uri) → one ≡ other) → IsWalkLaw
    → (start : PrepareInput) (ring : List SignerState) (prepared : NextValue) (premises : Premises) (editions : List Edition)
    → IsPrepared start ring prepared → Follows premises start.clock editions prepared
    → IsPublished premises (edition_of prepared) (content_at prepared.next.set)
prepared-published names law walk start ring prepared premises editions is follows =
    let edition = edition_of prepared in
    let set : content_at prepared.next.set ≡ set_after (editions ++ edition ∷ []) =
    law (content_at prepared.next.set) (set_after (editions ++ edition ∷ [])) follows.stands.left.set in
    let tree = tree-of names prepared.next.configs prepared.next.cut is.next.kept.configs is.next.kept.taken in
    subst (IsPublished premises edition) (sym set)
    (walk premises editions edition prepared.next.set follows.stands.steps
    (subst (λ (c : List Settings). AreTree (names_of c)) follows.stands.left.configs tree)
    (subst (λ (c : List Settings). All (λ (row : NameRow). IsName row.name) (names_of c)) follows.stands.left.configs is.names)
    is.next.ascending follows.stands.left.set)
