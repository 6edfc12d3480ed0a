use Rattle.std.proofs.Common.{◌≡◌, length, sym, ap, subst, ◌∙◌}
use Rattle.std.specs.Prelude.{◌++◌, ◌∷◌, [], IfSome, IsSome}
use Rattle.std.proofs.lemmas.Option.{none-some}
use Rattle.disk_api.specs.declared.memory.MemoryDisk.{MemoryDisk}
use Rattle.gate_journal.specs.View.{View as Journal}
use Rattle.press_records.specs.Store.{Store as Owner}
use Rattle.press_core.specs.Follows.{edition_of}
use Rattle.press_core.specs.JournalRecords.{AreRecords, store_for}
use Rattle.press_core.specs.Press.{PressValue}
use Rattle.press_core.specs.Stored.{store_of as owner_of}
use Rattle.test_histories.proofs.store.commit.Goals as goal

pub returns-in-Ok : goal.returns-in-Ok
returns-in-Ok c =
    let written = c.in-Ok.ensures in
    let retired = c.retire_keys.ensures in
    let mid = c.commit.new.self in
    let new = c.retire_keys.new.self in
    let owner : owner_of new ≡ owner_of mid = ap (λ (p : PressValue). store_for p.rrdp.session p.site) retired.others in
    let site = ap (λ (p : PressValue). p.site) retired.others ∙ written.site in
    let session = ap (λ (p : PressValue). p.rrdp.session) retired.others ∙ written.session in
    record {
      at = ap (λ (p : PressValue). p.at) retired.others ∙ written.at;
      numbers = written.published;
      site = site;
      owner = λ i. store_for (session i) (site i);
      signers = retired.kept.count ∙ ap length written.ring;
      known = subst (λ (j : Journal MemoryDisk). IsSome j.records) (sym retired.journal) written.safe.known;
      records = λ lists editions left has.
          let all = editions ++ edition_of c.args.prepared.edition ∷ [] in
          subst (λ (o : Owner). IfSome new.journal.records (AreRecords o all)) (sym owner)
          (subst (λ (j : Journal MemoryDisk). IfSome j.records (AreRecords (owner_of mid) all)) (sym retired.journal) (written.records lists editions left has));
      limit = ap (λ (j : Journal MemoryDisk). j.limit) retired.journal ∙ written.limit;
      settled = ap (λ (j : Journal MemoryDisk). j.doubt) retired.journal ∙ written.open.1;
    }

pub returns-in-Err-DiskFault : goal.returns-in-Err-DiskFault
returns-in-Err-DiskFault c =
    let why = c.in-Err-DiskFault.ensures in
    record {
      press = why.refused.press;
      records = why.refused.records;
      limit = why.limit;
      shut = λ none. none-some _ (sym none ∙ why.refused.shut);
      doubt = why.refused.doubt;
    }
