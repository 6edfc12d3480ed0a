-- What was acknowledged in a history: told by its events alone.
use Rattle.std.specs.Prelude.{ℕ, List, [], ◌∷◌, ◌++◌, replicate, get_or}
use Rattle.authority_book.specs.declared.commands.Command.{Command}
use Rattle.authority_book.specs.Verdict.{most_authorities}
use Rattle.key_ids.specs.Uris.{Bases}
use Rattle.editions.specs.Edition.{Edition}
use Rattle.editions.specs.Step.{Premises}
use Rattle.histories.specs.Devices.{Signature, changed_at, are_vouched}
use Rattle.histories.specs.Events.{Event, History}
use Rattle.histories.specs.Events.Event.{Commit, Publish, DeskFault, PressFault, Stop, Reopen}

-- The commands of each desk, and the editions.
pub record Acknowledged : Type 0 where
  pub commands : List (List Command)
  pub editions : List Edition

-- A commit and a publication are acknowledged, and so is all that a reopening finds.
abbrev pub acknowledging : Acknowledged → Event → Acknowledged
acknowledging told (Commit desk command) =
    record told { commands = changed_at desk (λ list. list ++ command ∷ []) told.commands }
acknowledging told (Publish edition) = record told { editions = told.editions ++ edition ∷ [] }
acknowledging told (DeskFault desk command) = told
acknowledging told (PressFault edition) = told
acknowledging told (Stop commands edition) = told
acknowledging told (Reopen lists editions) = record { commands = lists; editions = editions }

abbrev pub acknowledging_all : Acknowledged → History → Acknowledged
acknowledging_all told [] = told
acknowledging_all told (happening ∷ rest) =
    acknowledging_all (acknowledging told happening.event) rest

abbrev pub acknowledged : History → Acknowledged
acknowledged history =
    acknowledging_all (record { commands = replicate most_authorities []; editions = [] }) history

-- Those of one desk.
abbrev pub commands_of : History → ℕ → List Command
commands_of history desk = get_or (acknowledged history).commands desk []

-- The editions, each of which is published.
abbrev pub editions_of : History → List Edition
editions_of history = (acknowledged history).editions

-- The signatures that were made.
abbrev pub signatures_of : History → List Signature
signatures_of [] = []
signatures_of (happening ∷ rest) = happening.signed ++ signatures_of rest

-- Over what editions are judged: what was acknowledged at the desks, and the signatures that were
-- made.
abbrev pub ground_after : Bases → History → Premises
ground_after site history = record {
  lists = (acknowledged history).commands;
  site = site;
  vouched = are_vouched (signatures_of history);
}
