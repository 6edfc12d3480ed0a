use Rattle.origins.specs.laws.TextLaws.{text-ascii}
use Rattle.rrdp_text.specs.Template.{snapshot_in}
use Rattle.rrdp_text.specs.Texts.{snapshot_text}
use Rattle.histories.proofs.Shown.{snapshot_read}
use Rattle.histories.proofs.Broken.{other_text}
use Rattle.histories.proofs.laws.snapshots_tell_their_serials.Goals as goal

pub returns : goal.returns
returns c = λ site history session named serial other edition objects found base uuid legal has ascending are apart read.
    other_text (snapshot_in (snapshot_text session serial objects)) session named serial other objects found
    (snapshot_read c.steps_stay_steps.ensures.one c.accepted_names_are_apart.ensures c.listed_names_are_names.ensures text-ascii
    site base history legal c.steps_count_up.ensures.serials c.texts_are_read_back.ensures.snapshots
    session uuid serial edition has objects ascending are) read apart
