use Rattle.std.proofs.Common.{◌≡◌, length, ◌-◌, codes}
use Rattle.pub_set.specs.Changes.{uri_of}
use Rattle.rrdp_text.specs.Reading.{elements}
use Rattle.rrdp_text.specs.Template.{change_in, changes_in}
use Rattle.rrdp_text.proofs.Lists.{prepended}
use Rattle.rrdp_text.proofs.reading.changes.Given as goal

abbrev pub invariant-loop-turn : goal.invariant-loop-turn
invariant-loop-turn l = record {
  read : prepended l.changes.items (elements change_in uri_of (codes "</delta>\n") (length l.bytes - l._turn) l.previous l.rest) ≡ changes_in l.bytes;
}
