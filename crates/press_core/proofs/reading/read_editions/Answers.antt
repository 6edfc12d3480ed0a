use Rattle.std.proofs.Common.{◌≡◌, ℕ, ◌-◌, List, Option, length, sym, subst, arith}
use Rattle.rrdp_state.specs.Exported.{Repository}
use Rattle.rrdp_state.specs.Resuming.{telling_editions}
use Rattle.press_core.specs.Files.{repository_at}
use Rattle.press_core.specs.inner.Loads.{AreTakenIn, repository_in}
use Rattle.press_core.proofs.Editions.{records-on, sizes-on, taken-none, own-repository}
use Rattle.press_core.proofs.reading.read_editions.Goals as goal

pub read_newest-requires-clause-older : goal.read_newest-requires-clause-older
read_newest-requires-clause-older g c =
    let own = repository_at c.args.session c.args.site.now in
    let older = c.saturating_sub-older.result in
    let left = c.read_older.new.left in
    let resuming = c.in_ok-resuming.resuming in
    let records = records-on g.D.Disk c.args.journal.now c.read_older.new.journal c.in_ok-read_older.ensures.journal in
    let taken = taken-none own c.args.journal.now.records older left resuming c.in_ok-read_older.ensures.read c.in_ok-resuming.ensures in
    subst (λ (r : Option (List (List ℕ))). AreTakenIn (repository_in resuming) r older older left resuming) (sym records)
    (subst (λ (r : Repository). AreTakenIn r c.args.journal.now.records older older left resuming)
    (sym (own-repository own c.args.journal.now.records older older left resuming taken)) taken)

pub returns-clause-read : goal.returns-clause-read
returns-clause-read g c =
    let own = repository_at c.args.session c.args.site.now in
    let older = c.saturating_sub-older.result in
    let left = c.read_newest.new.left in
    let new = c.read_newest.new.resuming in
    let resuming = c.in_ok-resuming.resuming in
    let journal = c.args.journal.now in
    let mid = c.read_older.new.journal in
    let records = records-on g.D.Disk journal mid c.in_ok-read_older.ensures.journal in
    let sizes = sizes-on g.D.Disk journal mid c.in_ok-read_older.ensures.journal in
    let first = taken-none own journal.records older c.read_older.new.left resuming c.in_ok-read_older.ensures.read c.in_ok-resuming.ensures in
    let same = own-repository own journal.records older older c.read_older.new.left resuming first in
    let last = length journal.sizes - 1 in
    let few : older ≡ last - telling_editions = omega (arith, c.saturating_sub-older.ensures, c.count-last.ensures.count) in
    subst (λ (n : ℕ). AreTakenIn own journal.records n last left new) few
    (subst (λ (l : List ℕ). AreTakenIn own journal.records older (length l - 1) left new) sizes
    (subst (λ (r : Option (List (List ℕ))). AreTakenIn own r older (length mid.sizes - 1) left new) records
    (subst (λ (r : Repository). AreTakenIn r mid.records older (length mid.sizes - 1) left new) same c.in_ok-read_newest.ensures.read)))
