use Rattle.std.proofs.Common.{rules, ◌≡◌, ℕ, List, [], ◌∷◌, ◌++◌, ◌∙◌, ap, subst}
use Rattle.std.specs.Prelude.{option_map}
use Rattle.disk_api.specs.Runs.{LeavesOnly}
use Rattle.gate_journal.specs.View.{RecoversToInDoubt, stake_of}
use Rattle.press_core.specs.JournalRecords.{press_limit}
use Rattle.press_core.specs.Stored.{StoredValue, StoredPreparedValue}
use Rattle.press_core.proofs.JournalLaws.{moments, has-records-more, durable-more}
use Rattle.press_core.proofs.stored.StoredPress.commit.Goals as goal

pub returns-in-Ok-clause-records : goal.returns-in-Ok-clause-records
returns-in-Ok-clause-records g c =
    has-records-more c.edition_records_go_on.ensures c.args.self.now c.commit.new.self c.append_built.new.self c.args.prepared c.requires.recorded
    (c.commit.ensures.session ∙ ap (λ (s : StoredValue _). s.press.rrdp.session) c.self.view_is)
    (c.commit.ensures.site ∙ ap (λ (s : StoredValue _). s.press.site) c.self.view_is)
    (c.in-Ok.ensures.appended
    ∙ (ap (λ (p : StoredPreparedValue). option_map (λ (all : List (List ℕ)). all ++ p.entry ∷ []) c.self.inside.journal.records) c.prepared.view_is
    ∙ ap (λ (s : StoredValue _). option_map (λ (all : List (List ℕ)). all ++ c.args.prepared.entry ∷ []) s.journal.records) c.self.view_is))

pub returns-in-Ok-clause-durable : goal.returns-in-Ok-clause-durable
returns-in-Ok-clause-durable g c = λ lists editions image left store leaves.
    durable-more c.edition_records_go_on.ensures c.args.self.now c.append_built.new.self c.args.prepared c.requires.recorded
    (c.append_built.ensures.limit ∙ c.self.invariant.0)
    (c.in-Ok.ensures.appended
    ∙ (ap (λ (p : StoredPreparedValue). option_map (λ (all : List (List ℕ)). all ++ p.entry ∷ []) c.self.inside.journal.records) c.prepared.view_is
    ∙ ap (λ (s : StoredValue _). option_map (λ (all : List (List ℕ)). all ++ c.args.prepared.entry ∷ []) s.journal.records) c.self.view_is))
    lists editions image left store (c.in-Ok.ensures.durable image leaves)

pub returns-in-Ok-clause-any_moment : goal.returns-in-Ok-clause-any_moment
returns-in-Ok-clause-any_moment g c =
    let limit = subst (λ (s : StoredValue _). s.journal.limit ≡ press_limit) c.self.view_is c.self.invariant.0 in
    let inside = c.self.inside.journal in
    let entry = subst (λ (p : StoredPreparedValue). LeavesOnly g.D.Disk inside.disk c.append_built.new.self.disk
    (RecoversToInDoubt inside.limit inside.records (stake_of inside.shut inside.doubt p.entry))) c.prepared.view_is c.append_built.ensures.any_moment in
    let all = subst (λ (s : StoredValue _). LeavesOnly g.D.Disk s.journal.disk c.append_built.new.self.disk
    (RecoversToInDoubt s.journal.limit s.journal.records (stake_of s.journal.shut s.journal.doubt c.args.prepared.entry))) c.self.view_is entry in
    let is = moments g.D.Disk c.edition_records_go_on.ensures c.args.self.now c.append_built.new.self.disk c.args.prepared limit c.requires.fits.is_open c.requires.recorded all in
    is

pub returns-in-Err-DiskFault-clause-any_moment : goal.returns-in-Err-DiskFault-clause-any_moment
returns-in-Err-DiskFault-clause-any_moment g c =
    let limit = subst (λ (s : StoredValue _). s.journal.limit ≡ press_limit) c.self.view_is c.self.invariant.0 in
    let inside = c.self.inside.journal in
    let entry = subst (λ (p : StoredPreparedValue). LeavesOnly g.D.Disk inside.disk c.append_built.new.self.disk
    (RecoversToInDoubt inside.limit inside.records (stake_of inside.shut inside.doubt p.entry))) c.prepared.view_is c.append_built.ensures.any_moment in
    let all = subst (λ (s : StoredValue _). LeavesOnly g.D.Disk s.journal.disk c.append_built.new.self.disk
    (RecoversToInDoubt s.journal.limit s.journal.records (stake_of s.journal.shut s.journal.doubt c.args.prepared.entry))) c.self.view_is entry in
    let is = moments g.D.Disk c.edition_records_go_on.ensures c.args.self.now c.append_built.new.self.disk c.args.prepared limit c.requires.fits.is_open c.requires.recorded all in
    let same : c.match-prepared-2.self.journal.disk ≡ c.append_built.new.self.disk = search rules in
    rw same is
