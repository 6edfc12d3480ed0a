use Rattle.std.specs.declared.alloc.Global.{Global}
use Rattle.std.proofs.Common.{◌≡◌, ◌∙◌, ℕ, List, length, rules, sym, ap, refl, subst, inl, inr}
use Rattle.std.specs.Prelude.{Option, Some, None, String, Vec, vec_len}
use Rattle.key_ids.specs.Base.{IsBase, rsync_scheme, https_scheme}
use Rattle.key_ids.specs.Uris.{Bases}
use Rattle.key_ids.specs.declared.site.SiteFault.TheVariants as site
use Rattle.krill_top.specs.declared.faults.RunFault.{RunFault}
use Rattle.krill_top.specs.declared.faults.RunFault.TheVariants as faults
use Rattle.krill_top.specs.declared.ends.Ends.{Ends}
use Rattle.krill_top.specs.declared.words.Doing.{Doing}
use Rattle.krill_top.specs.Session.{session_of}
use Rattle.krill_top.specs.Statuses.{fault_status}
use Rattle.krill_top.specs.Words.{AskedValue, asked_of, bases_of}
use Rattle.krill_top.specs.Run.{AreBases, AreRefusedBases, IsUnwanted, IsRefusedAtOpening, ends_of, miscounted, or_else, wrong_devices, wrong_sessions}
use Rattle.krill_top.specs.Runs.{Does, RunsBy}
use Rattle.krill_top.proofs.running.run_krill.Goals as goal

-- ---- why nothing is done

some_is : {A : Type 0} (x y : A) → Some x ≡ Some y → x ≡ y
some_is x y is = cc

bad_rsync : (bases : Bases) (fault : RunFault) → AreRefusedBases bases fault → ¬ IsBase rsync_scheme bases.rsync → fault ≡ faults.Base site.BadRsync
bad_rsync bases faults.Words is bad = absurd is
bad_rsync bases (faults.Base site.BadRsync) is bad = refl
bad_rsync bases (faults.Base site.BadRrdp) is bad = absurd (bad is.0)
bad_rsync bases (faults.Base site.Memory) is bad = absurd is
bad_rsync bases (faults.Refused fault) is bad = absurd is
bad_rsync bases (faults.NotEmpty desk held) is bad = absurd is
bad_rsync bases faults.Device is bad = absurd is
bad_rsync bases (faults.Spent bytes) is bad = absurd is
bad_rsync bases faults.Memory is bad = absurd (bad is.0)

bad_rrdp : (bases : Bases) (fault : RunFault) → AreRefusedBases bases fault → IsBase rsync_scheme bases.rsync → ¬ IsBase https_scheme bases.rrdp → fault ≡ faults.Base site.BadRrdp
bad_rrdp bases faults.Words is good bad = absurd is
bad_rrdp bases (faults.Base site.BadRsync) is good bad = absurd (is good)
bad_rrdp bases (faults.Base site.BadRrdp) is good bad = refl
bad_rrdp bases (faults.Base site.Memory) is good bad = absurd is
bad_rrdp bases (faults.Refused fault) is good bad = absurd is
bad_rrdp bases (faults.NotEmpty desk held) is good bad = absurd is
bad_rrdp bases faults.Device is good bad = absurd is
bad_rrdp bases (faults.Spent bytes) is good bad = absurd is
bad_rrdp bases faults.Memory is good bad = absurd (bad is.1)

no_memory : (bases : Bases) (fault : RunFault) → AreRefusedBases bases fault → AreBases bases → fault ≡ faults.Memory
no_memory bases faults.Words is good = absurd is
no_memory bases (faults.Base site.BadRsync) is good = absurd (is good.0)
no_memory bases (faults.Base site.BadRrdp) is good = absurd (is.1 good.1)
no_memory bases (faults.Base site.Memory) is good = absurd is
no_memory bases (faults.Refused fault) is good = absurd is
no_memory bases (faults.NotEmpty desk held) is good = absurd is
no_memory bases faults.Device is good = absurd is
no_memory bases (faults.Spent bytes) is good = absurd is
no_memory bases faults.Memory is good = refl

-- what is refused of the words that ask for this
refused_bases : (words : List (String Global)) (asked : AskedValue) → asked_of words ≡ Some asked → (fault : RunFault) → IsUnwanted words fault → AreRefusedBases (bases_of asked) fault
refused_bases words asked is faults.Words none = absurd (cc)
refused_bases words asked is (faults.Base fault) told = subst (λ (a : AskedValue). AreRefusedBases (bases_of a) (faults.Base fault)) (some_is told.0 asked (sym told.1 ∙ is)) told.2
refused_bases words asked is (faults.Refused fault) told = subst (λ (a : AskedValue). AreRefusedBases (bases_of a) (faults.Refused fault)) (some_is told.0 asked (sym told.1 ∙ is)) told.2
refused_bases words asked is (faults.NotEmpty desk held) told = subst (λ (a : AskedValue). AreRefusedBases (bases_of a) (faults.NotEmpty desk held)) (some_is told.0 asked (sym told.1 ∙ is)) told.2
refused_bases words asked is faults.Device told = subst (λ (a : AskedValue). AreRefusedBases (bases_of a) faults.Device) (some_is told.0 asked (sym told.1 ∙ is)) told.2
refused_bases words asked is (faults.Spent bytes) told = subst (λ (a : AskedValue). AreRefusedBases (bases_of a) (faults.Spent bytes)) (some_is told.0 asked (sym told.1 ∙ is)) told.2
refused_bases words asked is faults.Memory told = subst (λ (a : AskedValue). AreRefusedBases (bases_of a) faults.Memory) (some_is told.0 asked (sym told.1 ∙ is)) told.2

pub returns-in-Err-clause-rsync : goal.returns-in-Err-clause-rsync
returns-in-Err-clause-rsync g c asked is bad =
    let same : c.in-Err.fault ≡ faults.Base site.BadRsync = bad_rsync (bases_of asked) c.in-Err.fault (refused_bases c.args.words.now asked is c.in-Err.fault c.in-Err.ensures.refused) bad in
    let ended = c.run_end.ensures in
    record { status_is = ended.status ∙ ap fault_status same; fault_is = ended.fault ∙ ap Some same; devices_untouched = ended.ends; untouched = ended.sessions; kept = ended.kept ∙ c.new.ensures }

pub returns-in-Err-clause-rrdp : goal.returns-in-Err-clause-rrdp
returns-in-Err-clause-rrdp g c asked is good bad =
    let same : c.in-Err.fault ≡ faults.Base site.BadRrdp = bad_rrdp (bases_of asked) c.in-Err.fault (refused_bases c.args.words.now asked is c.in-Err.fault c.in-Err.ensures.refused) good bad in
    let ended = c.run_end.ensures in
    record { status_is = ended.status ∙ ap fault_status same; fault_is = ended.fault ∙ ap Some same; devices_untouched = ended.ends; untouched = ended.sessions; kept = ended.kept ∙ c.new.ensures }

pub returns-in-Err-clause-asked : goal.returns-in-Err-clause-asked
returns-in-Err-clause-asked g c asked is good =
    let same : c.in-Err.fault ≡ faults.Memory = no_memory (bases_of asked) c.in-Err.fault (refused_bases c.args.words.now asked is c.in-Err.fault c.in-Err.ensures.refused) good in
    let ended = c.run_end.ensures in
    inl (record { status_is = ended.status ∙ ap fault_status same; fault_is = ended.fault ∙ ap Some same; devices_untouched = ended.ends; untouched = ended.sessions; kept = ended.kept ∙ c.new.ensures })

-- ---- what is done

as_long : {X Z : Type 0} (v : Vec X Z) → vec_len v ≡ length v.items
as_long v = search rules

first_none : (one other : Option RunFault) → or_else one other ≡ None → one ≡ None
first_none None other is = refl
first_none (Some fault) other is = absurd (cc)

pub run_wanted-requires-clause-sessions : goal.run_wanted-requires-clause-sessions
run_wanted-requires-clause-sessions g c = λ lifetimes lives.
    let sessions = length c.args.sessions.items in
    let none : miscounted c.in-Ok.asked.doing sessions c.len-disks.result c.len-signers.result ≡ None =
    ap (λ (n : ℕ). miscounted c.in-Ok.asked.doing n c.len-disks.result c.len-signers.result) (sym (c.len.ensures ∙ as_long c.args.sessions)) ∙ sym c.miscounted.ensures ∙ c.in-None.is in
    first_none (wrong_sessions c.in-Ok.asked.doing sessions) (wrong_devices c.len-disks.result c.len-signers.result) none

pub returns-in-None-clause-asked : goal.returns-in-None-clause-asked
returns-in-None-clause-asked g c asked is bases =
    let ends : Ends g.row.D.Denot g.row.G.Denot g.row.O.Denot = ends_of c.args.desks c.args.press c.args.signers c.args.outlet in
    let sessions = c.args.sessions.items in
    let told = c.in-Ok.ensures.wanted in
    let same : told.0 ≡ asked = some_is told.0 asked (sym told.1 ∙ is) in
    let doing : c.in-Ok.asked.doing ≡ asked.doing = told.2 ∙ ap (λ (a : AskedValue). a.doing) same in
    let site : c.in-Ok.asked.site ≡ bases_of asked = told.3 ∙ ap bases_of same in
    let none : miscounted asked.doing (length sessions) (length c.args.desks.items) (length c.args.signers.items) ≡ None =
    (λ i. miscounted (sym doing i) (sym (c.len.ensures ∙ as_long c.args.sessions) i) (sym (c.len-disks.ensures ∙ as_long c.args.desks) i) (sym (c.len-signers.ensures ∙ as_long c.args.signers) i))
    ∙ sym c.miscounted.ensures ∙ c.in-None.is in
    let run = c.run_wanted.result in
    inr (subst (λ (count : Option RunFault). RunsBy g.D.Disk g.G.Signer.state g.O.Outlet g.S.Source g.K.Sink g.C.Clock asked c.args.random ends sessions run count) (sym none)
    (elim c.run_wanted.ensures [
      | inl refused ↦ inl (subst (λ (s : Bases). IsRefusedAtOpening g.D.Disk g.G.Signer.state g.O.Outlet s (session_of c.args.random) ends sessions run) site refused)
      | inr does ↦ inr (subst (λ (s : Bases). Does g.D.Disk g.G.Signer.state g.O.Outlet g.S.Source g.K.Sink g.C.Clock asked.doing s c.args.random ends sessions run) site
          (subst (λ (d : Doing). Does g.D.Disk g.G.Signer.state g.O.Outlet g.S.Source g.K.Sink g.C.Clock d c.in-Ok.asked.site c.args.random ends sessions run) doing does))
    ]))
