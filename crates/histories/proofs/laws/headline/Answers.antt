use Rattle.origins.specs.laws.TextLaws.{text-ascii}
use Rattle.histories.specs.Devices.{new_store}
use Rattle.histories.proofs.Growing.{starts_legal}
use Rattle.histories.proofs.Holds.{found, commands_stand, editions_stand, commands, limits, press_limits, steps, number, published, cuts, deltas, manifests}
use Rattle.histories.proofs.Shown.{snapshots, delta_texts}
use Rattle.histories.proofs.Crls.{crls}
use Rattle.histories.proofs.laws.headline.Goals as goal

pub returns-clause-beginnings : goal.returns-clause-beginnings
returns-clause-beginnings c = λ site. starts_legal site new_store

pub returns-clause-found : goal.returns-clause-found
returns-clause-found c = found c.steps_stay_steps.ensures.one c.editions_follow_one_another.ensures

pub returns-clause-commands_stand : goal.returns-clause-commands_stand
returns-clause-commands_stand c = commands_stand

pub returns-clause-editions_stand : goal.returns-clause-editions_stand
returns-clause-editions_stand c = editions_stand

pub returns-clause-commands : goal.returns-clause-commands
returns-clause-commands c = λ site history desk legal. commands c.steps_stay_steps.ensures.one site history legal desk

pub returns-clause-limits : goal.returns-clause-limits
returns-clause-limits c = λ site history desk legal. limits c.steps_stay_steps.ensures.one site history legal desk

pub returns-clause-press_limits : goal.returns-clause-press_limits
returns-clause-press_limits c = press_limits c.steps_stay_steps.ensures.one

pub returns-clause-steps : goal.returns-clause-steps
returns-clause-steps c = steps c.steps_stay_steps.ensures.one

pub returns-clause-serials : goal.returns-clause-serials
returns-clause-serials c = λ site history serial edition legal has.
    number c.steps_stay_steps.ensures.one site history legal serial edition has c.steps_count_up.ensures.serials

pub returns-clause-published : goal.returns-clause-published
returns-clause-published c = λ site history serial edition legal has.
    published c.steps_stay_steps.ensures.one site history legal serial edition has
    c.accepted_names_are_apart.ensures c.listed_names_are_names.ensures c.editions_leave_a_set.ensures c.editions_are_published.ensures

pub returns-clause-cuts : goal.returns-clause-cuts
returns-clause-cuts c = λ site history serial edition legal has. cuts c.steps_stay_steps.ensures.one site history legal serial edition has

pub returns-clause-deltas : goal.returns-clause-deltas
returns-clause-deltas c = deltas c.editions_follow_one_another.ensures

pub returns-clause-manifests : goal.returns-clause-manifests
returns-clause-manifests c = λ site history serial edition legal. manifests c.steps_stay_steps.ensures.one site history legal c.manifests_rise.ensures serial edition

pub returns-clause-certificates : goal.returns-clause-certificates
returns-clause-certificates c = λ site history id legal.
    c.certificates_have_own_serials.ensures _ _ id (steps c.steps_stay_steps.ensures.one site history legal)

pub returns-clause-snapshots : goal.returns-clause-snapshots
returns-clause-snapshots c = λ site history session serial edition base uuid legal has.
    snapshots c.steps_stay_steps.ensures.one c.accepted_names_are_apart.ensures c.listed_names_are_names.ensures text-ascii
    site base history legal c.steps_count_up.ensures.serials c.editions_leave_a_set.ensures c.texts_are_read_back.ensures.snapshots
    session uuid serial edition has

pub returns-clause-delta_texts : goal.returns-clause-delta_texts
returns-clause-delta_texts c = λ site history session serial edition base uuid legal has.
    delta_texts c.steps_stay_steps.ensures.one c.accepted_names_are_apart.ensures c.listed_names_are_names.ensures text-ascii
    site base history legal c.steps_count_up.ensures.serials c.texts_are_read_back.ensures.deltas
    session uuid serial edition has

pub returns-clause-crls : goal.returns-clause-crls
returns-clause-crls c = λ site history serial edition uri bytes crl legal has.
    crls c.steps_stay_steps.ensures.one site history legal c.new_crls_list_what_is_superseded.ensures
    (λ one other place crl within inside same listed. record {
      entries = listed.entries;
      lists = listed.lists;
      superseded = c.superseded_by_then.ensures one other place crl.crl.issuer listed.entries within inside same listed.superseded;
    })
    serial edition has uri bytes crl
