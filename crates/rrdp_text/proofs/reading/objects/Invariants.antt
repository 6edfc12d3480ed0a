use Rattle.std.proofs.Common.{◌≡◌, ℕ, List, length, ◌-◌, codes}
use Rattle.std.specs.declared.cmp.Ordering.TheVariants.{Less}
use Rattle.pub_set.specs.Objects.{uri_cmp, IsBehind}
use Rattle.rrdp_text.specs.Reading.{elements}
use Rattle.rrdp_text.specs.Template.{object_in, objects_in}
use Rattle.rrdp_text.proofs.Lists.{prepended}
use Rattle.rrdp_text.proofs.reading.objects.Given as goal

abbrev pub invariant-loop-turn : goal.invariant-loop-turn
invariant-loop-turn l = record {
  read : prepended l.set (elements object_in (λ o. o.uri) (codes "</snapshot>\n") (length l.bytes - l._turn) l.previous l.rest) ≡ objects_in l.bytes;
  behind : (u : List ℕ) → uri_cmp l.previous u ≡ Less → IsBehind l.set u;
}
