use Rattle.std.proofs.Common.{◌≡◌, ◌++◌, length}
use Rattle.std.specs.Prelude.{filter, is_none}
use Rattle.std.specs.List.{filter_map}
use Rattle.std.specs.Vec.Iter.{into_iter_items, into_iter_len}
use Rattle.issue_plan.specs.inner.Anew.{kept_certificate}
use Rattle.issue_plan.proofs.anew.certificates_anew.Given as goal

abbrev pub invariant-loop-cert : goal.invariant-loop-cert
invariant-loop-cert l = record {
  anew : l.anew.items ++ filter (λ cert. is_none (kept_certificate l.standing l.settled cert)) (into_iter_items l.cert-iterator)
      ≡ filter (λ cert. is_none (kept_certificate l.standing l.settled cert)) l.fn.certs.items;
  kept : l.kept.items ++ filter_map (kept_certificate l.standing l.settled) (into_iter_items l.cert-iterator)
      ≡ l.fn.kept.items ++ filter_map (kept_certificate l.standing l.settled) l.fn.certs.items;
  left : into_iter_len l.cert-iterator ≡ length (into_iter_items l.cert-iterator);
}
