use Rattle.std.proofs.Common.{◌≡◌, ◌++◌, ℕ, OnOk, subst}
use Rattle.std.proofs.lemmas.Bool.{ne_eqb}
use Rattle.der.specs.Spelling.{unsigned_spelling}
use Rattle.payloads.proofs.entries.push_maximum.Goals as goal

pub returns : goal.returns
unfolding unsigned_spelling
returns c = rw (ne_eqb c.args.item.now.max c.args.item.now.prefix.length c.if-item.false) (subst (λ (n : ℕ). OnOk c.unsigned.result (c.unsigned.new.out.items ≡ c.args.out.now.items ++ unsigned_spelling n)) c.from.ensures c.unsigned.ensures.ok)
