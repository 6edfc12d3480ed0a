use Rattle.std.specs.declared.alloc.Global.{Global}
use Rattle.std.proofs.Common.{◌≡◌, ◌∙◌, ℕ, List, String, Bor, sym, ap, refl, subst}
use Rattle.std.specs.Prelude.{Option, Some, None, unwrap_or}
use Rattle.std.specs.Option.{option_map}
use Rattle.key_ids.specs.Uris.{Bases}
use Rattle.krill_top.specs.declared.faults.RunFault.{RunFault}
use Rattle.krill_top.specs.declared.faults.RunFault.TheVariants as faults
use Rattle.krill_top.specs.Words.{AskedValue, asked_of, bases_of}
use Rattle.krill_top.specs.Run.{AreRefusedBases, IsUnwanted}
use Rattle.krill_top.specs.inner.Asking.{asked_value}
use Rattle.krill_top.proofs.running.read_wanted.Goals as goal

now_of : (o : Option (Bor (List ℕ))) (d : Bor (List ℕ)) → (unwrap_or o d).now ≡ unwrap_or (option_map (λ (t : Bor (List ℕ)). t.now) o) d.now
now_of None d = refl
now_of (Some text) d = refl

unwanted_for : (words : List (String Global)) (asked : AskedValue) → asked_of words ≡ Some asked → (fault : RunFault) → AreRefusedBases (bases_of asked) fault → IsUnwanted words fault
unwanted_for words asked is faults.Words refused = absurd refused
unwanted_for words asked is (faults.Base fault) refused = (asked, is, refused)
unwanted_for words asked is (faults.Refused fault) refused = absurd refused
unwanted_for words asked is (faults.NotEmpty desk held) refused = absurd refused
unwanted_for words asked is faults.Device refused = absurd refused
unwanted_for words asked is (faults.Spent bytes) refused = absurd refused
unwanted_for words asked is faults.Memory refused = (asked, is, refused)

pub returns-in-Err-clause-refused : goal.returns-in-Err-clause-refused
returns-in-Err-clause-refused c =
    let asked : AskedValue = asked_value c.in-Some.field-0 in
    let rsync : c.unwrap_or-rsync.result.now ≡ (bases_of asked).rsync = ap (λ (t : Bor (List ℕ)). t.now) c.unwrap_or-rsync.ensures ∙ now_of c.in-Some.field-0.rsync _ in
    let rrdp : c.unwrap_or-rrdp.result.now ≡ (bases_of asked).rrdp = ap (λ (t : Bor (List ℕ)). t.now) c.unwrap_or-rrdp.ensures ∙ now_of c.in-Some.field-0.rrdp _ in
    unwanted_for c.args.words.now asked (sym c.in-Some.ensures) c.in-Err.fault
    (subst (λ (b : Bases). AreRefusedBases b c.in-Err.fault) (λ i. record { rsync = rsync i; rrdp = rrdp i }) c.in-Err.ensures.refused)
