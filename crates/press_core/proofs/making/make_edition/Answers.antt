use Rattle.std.proofs.Common.{◌<◌, ◌^◌, List, [], length, refl, sym, subst}
use Rattle.std.specs.Prelude.{All}
use Rattle.std.proofs.lemmas.Result.{err_from_is_err_and}
use Rattle.key_roll.specs.declared.issued.IssuedRow.{IssuedRow}
use Rattle.pub_set.specs.declared.steps.Change.{Change}
use Rattle.editions.specs.PlannedAndMade.{CanBeRead}
use Rattle.press_core.specs.PrepareInput.{started}
use Rattle.press_core.specs.Faults.{IsPressFault}
use Rattle.press_core.proofs.Readied.{WorkLaws, called-as, call_setting, call-able, call-made, call-stopped, can-stand, stop-holds, made-holds, refused-of, short-of, prepared-of}
use Rattle.press_core.proofs.making.make_edition.Goals as goal

pub make-requires : goal.make-requires
make-requires g c =
    let start = started c.args.site.now c.args.at.now c.args.ring.now c.requires.ready.clock c.requires.ready.gathered in
    let laws : WorkLaws = record {
      origins = c.accepted_origins_ascend.ensures;
      work = c.planned_work_can_be_made.ensures;
      live = c.made_keys_are_live.ensures;
      signers = c.made_keys_have_signers.ensures;
      clear = c.other_uris_are_clear.ensures;
      by_name = c.roas_stay_by_name.ensures;
      apart = c.wanted_objects_are_apart.ensures;
      staged = c.made_keys_are_staged.ensures;
    } in
    let known = called-as laws start c.args.setup c.names_of-names.result.now c.parts-parts.result.now c.as_slice.result.now c.deref.result.now
    c.names_of-names.ensures.names c.deref.ensures.value c.names_of-names.ensures.plain c.parts-parts.ensures.parts c.as_slice.ensures
    (record { anchor = c.can_be_named.ensures.anchor; certificate = c.can_be_named.ensures.certificate }) in (
      c.type_bounds.send-S,
      (
        c.type_bounds.sync-R,
        call-able start c.args.setup c.args.work.now c.names_of-names.result.now c.parts-parts.result.now c.as_slice.result.now known c.requires.ready.ready,
      ),
    )

pub next_of-requires-clause-stand : goal.next_of-requires-clause-stand
next_of-requires-clause-stand g c =
    let start = started c.args.site.now c.args.at.now c.args.ring.now c.requires.ready.clock c.requires.ready.gathered in
    let laws : WorkLaws = record {
      origins = c.accepted_origins_ascend.ensures;
      work = c.planned_work_can_be_made.ensures;
      live = c.made_keys_are_live.ensures;
      signers = c.made_keys_have_signers.ensures;
      clear = c.other_uris_are_clear.ensures;
      by_name = c.roas_stay_by_name.ensures;
      apart = c.wanted_objects_are_apart.ensures;
      staged = c.made_keys_are_staged.ensures;
    } in
    let known = called-as laws start c.args.setup c.names_of-names.result.now c.parts-parts.result.now c.as_slice.result.now c.deref.result.now
    c.names_of-names.ensures.names c.deref.ensures.value c.names_of-names.ensures.plain c.parts-parts.ensures.parts c.as_slice.ensures
    (record { anchor = c.can_be_named.ensures.anchor; certificate = c.can_be_named.ensures.certificate }) in
    can-stand start c.args.setup c.args.work.now c.make.new.ring c.in-Ok.made c.requires.ready.ready
    (call-made start c.args.setup c.args.work.now c.names_of-names.result.now c.parts-parts.result.now c.as_slice.result.now c.make.new.ring c.in-Ok.made known c.requires.ready.ready c.in-Ok.ensures.made)

pub returns-in-Err-clause-refused : goal.returns-in-Err-clause-refused
returns-in-Err-clause-refused g c = λ gathered ready.
    let start = started c.args.site.now c.args.at.now c.args.ring.now c.args.now gathered in
    let laws : WorkLaws = record {
      origins = c.accepted_origins_ascend.ensures;
      work = c.planned_work_can_be_made.ensures;
      live = c.made_keys_are_live.ensures;
      signers = c.made_keys_have_signers.ensures;
      clear = c.other_uris_are_clear.ensures;
      by_name = c.roas_stay_by_name.ensures;
      apart = c.wanted_objects_are_apart.ensures;
      staged = c.made_keys_are_staged.ensures;
    } in
    let known = called-as laws start c.args.setup c.names_of-names.result.now c.parts-parts.result.now c.as_slice.result.now c.deref.result.now
    c.names_of-names.ensures.names c.deref.ensures.value c.names_of-names.ensures.plain c.parts-parts.ensures.parts c.as_slice.ensures
    (record { anchor = c.can_be_named.ensures.anchor; certificate = c.can_be_named.ensures.certificate }) in
    subst (IsPressFault start c.make.new.ring) (sym c.of.ensures)
    (refused-of start c.args.setup c.args.work.now c.make.new.ring c.in-Err.fault ready
    (call-stopped start c.args.setup c.args.work.now c.names_of-names.result.now c.parts-parts.result.now c.as_slice.result.now c.make.new.ring c.in-Err.fault known ready c.in-Err.ensures.stopped))

pub returns-in-Err-clause-keys : goal.returns-in-Err-clause-keys
returns-in-Err-clause-keys g c =
    stop-holds (call_setting (started c.args.site.now c.args.at.now c.args.ring.now c.args.now []) c.args.work.now c.names_of-names.result.now c.parts-parts.result.now)
    c.as_slice.result.now c.args.ring.now c.make.new.ring c.in-Err.fault c.in-Err.ensures.stopped

pub returns-clause-prepared : goal.returns-clause-prepared
returns-clause-prepared g c = λ gathered ready.
    let start = started c.args.site.now c.args.at.now c.args.ring.now c.args.now gathered in
    let laws : WorkLaws = record {
      origins = c.accepted_origins_ascend.ensures;
      work = c.planned_work_can_be_made.ensures;
      live = c.made_keys_are_live.ensures;
      signers = c.made_keys_have_signers.ensures;
      clear = c.other_uris_are_clear.ensures;
      by_name = c.roas_stay_by_name.ensures;
      apart = c.wanted_objects_are_apart.ensures;
      staged = c.made_keys_are_staged.ensures;
    } in
    let known = called-as laws start c.args.setup c.names_of-names.result.now c.parts-parts.result.now c.as_slice.result.now c.deref.result.now
    c.names_of-names.ensures.names c.deref.ensures.value c.names_of-names.ensures.plain c.parts-parts.ensures.parts c.as_slice.ensures
    (record { anchor = c.can_be_named.ensures.anchor; certificate = c.can_be_named.ensures.certificate }) in
    let is = call-made start c.args.setup c.args.work.now c.names_of-names.result.now c.parts-parts.result.now c.as_slice.result.now c.make.new.ring c.in-Ok.made known ready c.in-Ok.ensures.made in
    prepared-of start c.args.setup c.args.work.now c.make.new.ring c.in-Ok.made c.in_ok-next_of.field-0 ready is
    (subst (λ (l : List Change). All CanBeRead l) c.as_slice-2.ensures (c.if-not-can_all_be_read.ensures.0 refl))
    (subst (λ (l : List IssuedRow). length l < 2 ^ 62) c.as_slice-3.ensures c.are_few.ensures) c.in_ok-next_of.ensures.next

pub returns-clause-keys : goal.returns-clause-keys
returns-clause-keys g c =
    made-holds (call_setting (started c.args.site.now c.args.at.now c.args.ring.now c.args.now []) c.args.work.now c.names_of-names.result.now c.parts-parts.result.now)
    c.as_slice.result.now c.args.ring.now c.make.new.ring c.in-Ok.made c.in-Ok.ensures.made

pub returns-then-not-can_all_be_read-clause-refused : goal.returns-then-not-can_all_be_read-clause-refused
returns-then-not-can_all_be_read-clause-refused g c = λ gathered ready.
    let start = started c.args.site.now c.args.at.now c.args.ring.now c.args.now gathered in
    let laws : WorkLaws = record {
      origins = c.accepted_origins_ascend.ensures;
      work = c.planned_work_can_be_made.ensures;
      live = c.made_keys_are_live.ensures;
      signers = c.made_keys_have_signers.ensures;
      clear = c.other_uris_are_clear.ensures;
      by_name = c.roas_stay_by_name.ensures;
      apart = c.wanted_objects_are_apart.ensures;
      staged = c.made_keys_are_staged.ensures;
    } in
    let known = called-as laws start c.args.setup c.names_of-names.result.now c.parts-parts.result.now c.as_slice.result.now c.deref.result.now
    c.names_of-names.ensures.names c.deref.ensures.value c.names_of-names.ensures.plain c.parts-parts.ensures.parts c.as_slice.ensures
    (record { anchor = c.can_be_named.ensures.anchor; certificate = c.can_be_named.ensures.certificate }) in
    short-of start c.args.setup c.args.work.now c.make.new.ring c.in-Ok.made ready
    (call-made start c.args.setup c.args.work.now c.names_of-names.result.now c.parts-parts.result.now c.as_slice.result.now c.make.new.ring c.in-Ok.made known ready c.in-Ok.ensures.made)

pub returns-then-not-can_all_be_read-clause-keys : goal.returns-then-not-can_all_be_read-clause-keys
returns-then-not-can_all_be_read-clause-keys g c =
    made-holds (call_setting (started c.args.site.now c.args.at.now c.args.ring.now c.args.now []) c.args.work.now c.names_of-names.result.now c.parts-parts.result.now)
    c.as_slice.result.now c.args.ring.now c.make.new.ring c.in-Ok.made c.in-Ok.ensures.made

pub returns-in_err-next_of-clause-refused : goal.returns-in_err-next_of-clause-refused
returns-in_err-next_of-clause-refused g c =
    let p = err_from_is_err_and c.from_residual.result c.from_residual.ensures.1 in
    rw (p.1, p.2) (λ gathered ready.
    let start = started c.args.site.now c.args.at.now c.args.ring.now c.args.now gathered in
    let laws : WorkLaws = record {
      origins = c.accepted_origins_ascend.ensures;
      work = c.planned_work_can_be_made.ensures;
      live = c.made_keys_are_live.ensures;
      signers = c.made_keys_have_signers.ensures;
      clear = c.other_uris_are_clear.ensures;
      by_name = c.roas_stay_by_name.ensures;
      apart = c.wanted_objects_are_apart.ensures;
      staged = c.made_keys_are_staged.ensures;
    } in
    let known = called-as laws start c.args.setup c.names_of-names.result.now c.parts-parts.result.now c.as_slice.result.now c.deref.result.now
    c.names_of-names.ensures.names c.deref.ensures.value c.names_of-names.ensures.plain c.parts-parts.ensures.parts c.as_slice.ensures
    (record { anchor = c.can_be_named.ensures.anchor; certificate = c.can_be_named.ensures.certificate }) in
    short-of start c.args.setup c.args.work.now c.make.new.ring c.in-Ok.made ready
    (call-made start c.args.setup c.args.work.now c.names_of-names.result.now c.parts-parts.result.now c.as_slice.result.now c.make.new.ring c.in-Ok.made known ready c.in-Ok.ensures.made))

pub returns-in_err-next_of-clause-keys : goal.returns-in_err-next_of-clause-keys
returns-in_err-next_of-clause-keys g c =
    made-holds (call_setting (started c.args.site.now c.args.at.now c.args.ring.now c.args.now []) c.args.work.now c.names_of-names.result.now c.parts-parts.result.now)
    c.as_slice.result.now c.args.ring.now c.make.new.ring c.in-Ok.made c.in-Ok.ensures.made
