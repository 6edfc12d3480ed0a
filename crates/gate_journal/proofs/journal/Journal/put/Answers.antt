use Rattle.std.proofs.Common.{◌≡◌, ◌∙◌, ◌<◌, ◌≤◌, ◌^◌, ◌-◌, ◌+◌, ℕ, List, [], ◌∷◌, ◌++◌, None, Some, length, set, vec_capacity, refl, sym, ap, subst, rules, arith}
use Rattle.std.specs.Option.{option_map}
use Rattle.disk_api.specs.Runs.{LeavesOnly}
use Rattle.gate_journal.specs.inner.Kept.{shows, IsConsistentJournal, IsGuarded}
use Rattle.gate_journal.specs.Storing.{stored, entry_bytes, IsStoringKnown}
use Rattle.gate_journal.specs.View.{View, RecoversToOrWith}
use Rattle.gate_journal.specs.declared.place.Place.{Place}
use Rattle.disk_api.specs.laws.RunLaws.{weaker}
use Rattle.gate_journal.proofs.Keeping.{kept_long, open_failed, open_failed_shows, open_sized, open_stored_shows}
use Rattle.gate_journal.proofs.Guarding.{known_of_images, shown_known, shown_told, open_stands, storing_stands, guarded_failed, guarded_stored}
use Rattle.gate_journal.proofs.journal.Journal.put.Goals as goal

pub store-requires-clause-known : goal.store-requires-clause-known
store-requires-clause-known g c =
    let j = c.self.inside in
    kept_long (g.D.Disk.content j.disk) (g.D.Disk.may_leave j.disk) j.count j.held j.places.items j.shut c.self.invariant.0

pub invariant_of-self : goal.invariant_of-self
invariant_of-self g c =
    let j = c.self.inside in
    let content = g.D.Disk.content j.disk in
    let may_leave = g.D.Disk.may_leave j.disk in
    let payload = c.args.entry in
    let entry : c.bytes.result.now ≡ entry_bytes payload = c.bytes.ensures in
    let opened : j.shut ≡ None = ap (λ (v : View _). v.shut) c.self.view_is ∙ c.requires.place.is_open in
    let small : j.limit < 2 ^ 64 = search rules in
    let few : length payload < 2 ^ 64 = omega (arith, c.requires.place.fits, ap (λ (v : View _). v.limit) c.self.view_is, small) in
    let fits : length payload ≤ j.limit = omega (arith, c.requires.place.fits, ap (λ (v : View _). v.limit) c.self.view_is) in
    let room : j.count < length j.places.items = omega (arith, c.requires.free, ap (λ (v : View _). v.places) c.self.view_is) in
    let stored_is = subst (λ (l : List ℕ). g.D.Disk.content c.store.new.disk ≡ option_map (stored j.held l) content) entry c.in-Ok.ensures.stored in
    let size : c.len-size.result ≡ length payload = c.len-size.ensures in
    let bounded : j.held + 8 + c.len-size.result < 2 ^ 64 = search rules in
    let place : Place = record { at = j.held + 8; size = c.len-size.result; fits = bounded } in
    let at = ap (λ (n : ℕ). (j.held + 8, n)) size in (
      open_sized payload few c.bytes.result.now entry content may_leave j.count j.held j.places.items j.shut opened c.self.invariant.0 (g.D.Disk.content c.store.new.disk) (g.D.Disk.may_leave c.store.new.disk) _ c.len-size.result size c.in-Ok.ensures.stored c.in-Ok.ensures.durable room refl,
      guarded_stored j.limit j.count payload few fits content (g.D.Disk.content c.store.new.disk) may_leave (g.D.Disk.may_leave c.store.new.disk) j.held j.places.items place j.doubt _ j.shut opened c.self.invariant.0 c.self.invariant.1 stored_is c.in-Ok.ensures.durable room at (c.self.invariant.1.settled opened),
    )

pub invariant_of-self-in-Err : goal.invariant_of-self-in-Err
invariant_of-self-in-Err g c =
    let j = c.self.inside in
    let content = g.D.Disk.content j.disk in
    let may_leave = g.D.Disk.may_leave j.disk in
    let payload = c.args.entry in
    let entry : c.bytes.result.now ≡ entry_bytes payload = c.bytes.ensures in
    let opened : j.shut ≡ None = ap (λ (v : View _). v.shut) c.self.view_is ∙ c.requires.place.is_open in
    let small : j.limit < 2 ^ 64 = search rules in
    let few : length payload < 2 ^ 64 = omega (arith, c.requires.place.fits, ap (λ (v : View _). v.limit) c.self.view_is, small) in
    let fits : length payload ≤ j.limit = omega (arith, c.requires.place.fits, ap (λ (v : View _). v.limit) c.self.view_is) in
    let now = g.D.Disk.content c.store.new.disk in
    let same = open_failed_shows payload few c.bytes.result.now entry content may_leave j.count j.held j.places.items j.shut opened c.self.invariant.0 now c.in-Err.ensures.within in
    let moments = c.store.ensures.any_moment in (
      open_failed payload few c.bytes.result.now entry content may_leave j.count j.held j.places.items j.shut opened c.self.invariant.0 now (g.D.Disk.may_leave c.store.new.disk) _ c.in-Err.ensures.within (search rules),
      guarded_failed j.limit j.count payload content now may_leave (g.D.Disk.may_leave c.store.new.disk) j.doubt (Some payload) j.shut _ c.self.invariant.1 same
          refl
          (λ image left. storing_stands j.limit j.count payload few fits content may_leave j.held j.places.items j.doubt j.shut opened c.self.invariant.0 c.self.invariant.1 image
          (subst (λ (l : List ℕ). IsStoringKnown j.held l content image) entry (moments.each image (g.met.D.Disk.counts_now c.store.new.disk (g.D.Disk.moment j.disk) image moments.later left)))),
    )

pub returns-in-Ok-clause-appended : goal.returns-in-Ok-clause-appended
returns-in-Ok-clause-appended g c =
    let j = c.self.inside in
    let content = g.D.Disk.content j.disk in
    let may_leave = g.D.Disk.may_leave j.disk in
    let payload = c.args.entry in
    let entry : c.bytes.result.now ≡ entry_bytes payload = c.bytes.ensures in
    let opened : j.shut ≡ None = ap (λ (v : View _). v.shut) c.self.view_is ∙ c.requires.place.is_open in
    let small : j.limit < 2 ^ 64 = search rules in
    let few : length payload < 2 ^ 64 = omega (arith, c.requires.place.fits, ap (λ (v : View _). v.limit) c.self.view_is, small) in
    let room : j.count < length j.places.items = omega (arith, c.requires.free, ap (λ (v : View _). v.places) c.self.view_is) in
    let size : c.len-size.result ≡ length payload = c.len-size.ensures in
    let bounded : j.held + 8 + c.len-size.result < 2 ^ 64 = search rules in
    let place : Place = record { at = j.held + 8; size = c.len-size.result; fits = bounded } in
    let at = ap (λ (n : ℕ). (j.held + 8, n)) size in
    open_stored_shows payload few c.bytes.result.now entry content may_leave j.count j.held j.places.items j.shut opened c.self.invariant.0 (g.D.Disk.content c.store.new.disk) place c.in-Ok.ensures.stored room at
    ∙ ap (λ (v : View _). option_map (λ all. all ++ payload ∷ []) v.records) c.self.view_is

pub returns-in-Ok-clause-durable : goal.returns-in-Ok-clause-durable
returns-in-Ok-clause-durable g c =
    let j = c.self.inside in
    let content = g.D.Disk.content j.disk in
    let may_leave = g.D.Disk.may_leave j.disk in
    let payload = c.args.entry in
    let entry : c.bytes.result.now ≡ entry_bytes payload = c.bytes.ensures in
    let opened : j.shut ≡ None = ap (λ (v : View _). v.shut) c.self.view_is ∙ c.requires.place.is_open in
    let small : j.limit < 2 ^ 64 = search rules in
    let few : length payload < 2 ^ 64 = omega (arith, c.requires.place.fits, ap (λ (v : View _). v.limit) c.self.view_is, small) in
    let fits : length payload ≤ j.limit = omega (arith, c.requires.place.fits, ap (λ (v : View _). v.limit) c.self.view_is) in
    let room : j.count < length j.places.items = omega (arith, c.requires.free, ap (λ (v : View _). v.places) c.self.view_is) in
    let stored_is = subst (λ (l : List ℕ). g.D.Disk.content c.store.new.disk ≡ option_map (stored j.held l) content) entry c.in-Ok.ensures.stored in
    let size : c.len-size.result ≡ length payload = c.len-size.ensures in
    let bounded : j.held + 8 + c.len-size.result < 2 ^ 64 = search rules in
    let place : Place = record { at = j.held + 8; size = c.len-size.result; fits = bounded } in
    let at = ap (λ (n : ℕ). (j.held + 8, n)) size in
    let guarded : IsGuarded (g.D.Disk.content c.store.new.disk) (g.D.Disk.may_leave c.store.new.disk) j.limit (j.count + 1) None j.shut =
    guarded_stored j.limit j.count payload few fits content (g.D.Disk.content c.store.new.disk) may_leave (g.D.Disk.may_leave c.store.new.disk) j.held j.places.items place j.doubt None j.shut opened c.self.invariant.0 c.self.invariant.1 stored_is c.in-Ok.ensures.durable room at refl in
    open_stands j.limit (j.count + 1) (g.D.Disk.content c.store.new.disk) (g.D.Disk.may_leave c.store.new.disk) None j.shut opened guarded

pub returns-in-Ok-clause-any_moment : goal.returns-in-Ok-clause-any_moment
returns-in-Ok-clause-any_moment g c =
    let j = c.self.inside in
    let content = g.D.Disk.content j.disk in
    let may_leave = g.D.Disk.may_leave j.disk in
    let payload = c.args.entry in
    let entry : c.bytes.result.now ≡ entry_bytes payload = c.bytes.ensures in
    let opened : j.shut ≡ None = ap (λ (v : View _). v.shut) c.self.view_is ∙ c.requires.place.is_open in
    let small : j.limit < 2 ^ 64 = search rules in
    let few : length payload < 2 ^ 64 = omega (arith, c.requires.place.fits, ap (λ (v : View _). v.limit) c.self.view_is, small) in
    let fits : length payload ≤ j.limit = omega (arith, c.requires.place.fits, ap (λ (v : View _). v.limit) c.self.view_is) in
    subst (λ (v : View _). LeavesOnly g.D.Disk v.disk c.store.new.disk (RecoversToOrWith v.limit v.records payload)) c.self.view_is
    (weaker g.D.Disk j.disk c.store.new.disk (IsStoringKnown j.held c.bytes.result.now content) (RecoversToOrWith j.limit (shows j.count content) payload) c.store.ensures.any_moment
    (λ image storing. storing_stands j.limit j.count payload few fits content may_leave j.held j.places.items j.doubt j.shut opened c.self.invariant.0 c.self.invariant.1 image (subst (λ (l : List ℕ). IsStoringKnown j.held l content image) entry storing)))

pub returns-in-Err-clause-kept : goal.returns-in-Err-clause-kept
returns-in-Err-clause-kept g c =
    let j = c.self.inside in
    let content = g.D.Disk.content j.disk in
    let may_leave = g.D.Disk.may_leave j.disk in
    let payload = c.args.entry in
    let entry : c.bytes.result.now ≡ entry_bytes payload = c.bytes.ensures in
    let opened : j.shut ≡ None = ap (λ (v : View _). v.shut) c.self.view_is ∙ c.requires.place.is_open in
    let small : j.limit < 2 ^ 64 = search rules in
    let few : length payload < 2 ^ 64 = omega (arith, c.requires.place.fits, ap (λ (v : View _). v.limit) c.self.view_is, small) in (
      open_failed_shows payload few c.bytes.result.now entry content may_leave j.count j.held j.places.items j.shut opened c.self.invariant.0 (g.D.Disk.content c.store.new.disk) c.in-Err.ensures.within ∙ ap (λ (v : View _). v.records) c.self.view_is,
      ap (λ (v : View _). v.sizes) c.self.view_is,
    )

pub returns-in-Err-clause-any_moment : goal.returns-in-Err-clause-any_moment
returns-in-Err-clause-any_moment g c =
    let j = c.self.inside in
    let content = g.D.Disk.content j.disk in
    let may_leave = g.D.Disk.may_leave j.disk in
    let payload = c.args.entry in
    let entry : c.bytes.result.now ≡ entry_bytes payload = c.bytes.ensures in
    let opened : j.shut ≡ None = ap (λ (v : View _). v.shut) c.self.view_is ∙ c.requires.place.is_open in
    let small : j.limit < 2 ^ 64 = search rules in
    let few : length payload < 2 ^ 64 = omega (arith, c.requires.place.fits, ap (λ (v : View _). v.limit) c.self.view_is, small) in
    let fits : length payload ≤ j.limit = omega (arith, c.requires.place.fits, ap (λ (v : View _). v.limit) c.self.view_is) in
    subst (λ (v : View _). LeavesOnly g.D.Disk v.disk c.store.new.disk (RecoversToOrWith v.limit v.records payload)) c.self.view_is
    (weaker g.D.Disk j.disk c.store.new.disk (IsStoringKnown j.held c.bytes.result.now content) (RecoversToOrWith j.limit (shows j.count content) payload) c.store.ensures.any_moment
    (λ image storing. storing_stands j.limit j.count payload few fits content may_leave j.held j.places.items j.doubt j.shut opened c.self.invariant.0 c.self.invariant.1 image (subst (λ (l : List ℕ). IsStoringKnown j.held l content image) entry storing)))

pub returns-in-Ok-clause-safe : goal.returns-in-Ok-clause-safe
returns-in-Ok-clause-safe g c =
    let guarded = (invariant_of-self g c).1 in
    record { bytes = known_of_images (g.D.Disk.content c.store.new.disk) (g.D.Disk.may_leave c.store.new.disk) _ (g.met.D.Disk.left_as_read c.store.new.disk) guarded.images; images = guarded.images; known = shown_known (c.self.inside.count + 1) (g.D.Disk.content c.store.new.disk); told = shown_told (c.self.inside.count + 1) (g.D.Disk.content c.store.new.disk); settled = guarded.settled }

pub returns-in-Err-clause-safe : goal.returns-in-Err-clause-safe
returns-in-Err-clause-safe g c =
    let guarded = (invariant_of-self-in-Err g c).1 in
    record { bytes = known_of_images (g.D.Disk.content c.store.new.disk) (g.D.Disk.may_leave c.store.new.disk) _ (g.met.D.Disk.left_as_read c.store.new.disk) guarded.images; images = guarded.images; known = shown_known c.self.inside.count (g.D.Disk.content c.store.new.disk); told = shown_told c.self.inside.count (g.D.Disk.content c.store.new.disk); settled = guarded.settled }
