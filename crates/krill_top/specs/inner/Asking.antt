-- What the words ask for, as a plain value.
use Rattle.std.specs.Option.{option_map}
use Rattle.krill_top.specs.declared.words.Asked.{Asked}
use Rattle.krill_top.specs.declared.words.Said.{Said}
use Rattle.krill_top.specs.Words.{AskedValue, SaidValue}

abbrev pub asked_value : Asked → AskedValue
asked_value asked = record {
  doing = asked.doing;
  rsync = option_map (λ text. text.now) asked.rsync;
  rrdp = option_map (λ text. text.now) asked.rrdp;
}

-- And before it is known to be asked for.
abbrev pub said_value : Said → SaidValue
said_value said = record {
  named = said.named;
  number = option_map (λ text. text.now) said.number;
  rsync = option_map (λ text. text.now) said.rsync;
  rrdp = option_map (λ text. text.now) said.rrdp;
}
