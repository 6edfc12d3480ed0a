-- The texts of what is published.
use Rattle.std.proofs.Common.{◌≡◌, ℕ, ◌<◌, ◌≤◌, ◌^◌, zero, suc, refl, sym, subst, ◌∙◌, ap, arith, List, [], ◌∷◌, ◌++◌, length, take, get_or, Some, Ok}
use Rattle.std.specs.Prelude.{Option, IsSome, is_some}
use Rattle.std.proofs.lemmas.Option.{slice_get_within, slice_get-get_or}
use Rattle.key_ids.specs.Base.{IsBase, rsync_scheme}
use Rattle.key_ids.specs.Uris.{Bases}
use Rattle.pub_set.specs.declared.objects.Object.{Object}
use Rattle.pub_set.specs.declared.steps.Change.{Change}
use Rattle.pub_set.specs.Objects.{uri_at, content_at, IsAscending}
use Rattle.pub_set.specs.Changes.{Contents, uri_of}
use Rattle.rrdp_text.specs.Files.{File, IsSnapshot, snapshot_spelled, IsDelta, delta_spelled}
use Rattle.rrdp_text.specs.Template.{snapshot_in, delta_in}
use Rattle.rrdp_text.specs.Texts.{snapshot_text}
use Rattle.rrdp_text.specs.Values.{AreBytes, IsUri, IsUuid, IsChange}
use Rattle.editions.specs.Edition.{Edition, set_after}
use Rattle.histories.specs.Events.{History}
use Rattle.histories.specs.Legal.{FollowsTheOthers, IsLegal}
use Rattle.histories.specs.Acknowledged.{acknowledged, editions_of, ground_after}
use Rattle.histories.specs.Published.{HasEdition, HasSnapshot, HasDelta, set_of}
use Rattle.histories.proofs.Lists.{short}
use Rattle.histories.proofs.Kept.{Stay}
use Rattle.histories.proofs.Sets.{IsSet}
use Rattle.histories.proofs.Trees.{Apart, Named, tree_at}
use Rattle.editions.specs.laws.UriLaws.{Texts, base-uri, places}
use Rattle.histories.proofs.Texts.{each_found, AreOfBytes, sets_of_bytes, change_is, objects_are}
use Rattle.histories.proofs.Holds.{Count, turned, commands, some_desk, up_to, number}

abbrev pub ReadSnapshot : Type 0
ReadSnapshot = (v : File Object) → IsSnapshot v → snapshot_in (snapshot_spelled v) ≡ Ok v

abbrev pub ReadDelta : Type 0
ReadDelta = (v : File Change) → IsDelta v → delta_in (delta_spelled v) ≡ Ok v

is-some : {X : Type 0} (o : Option X) (x : X) → o ≡ Some x → IsSome o
is-some o x same = ap is_some same

module _ (stay : Stay) (apart : Apart) (named : Named) (texts : Texts) (site : Bases) (base : IsBase rsync_scheme site.rsync)
    (history : History) (legal : IsLegal site history) where
  uris : (serial : ℕ) (edition : Edition) → HasEdition history serial edition → (uri : List ℕ) → IsSome (set_of history serial uri) → IsUri uri
  uris serial edition has uri stands =
      let next = turned stay site history legal has.place edition has.there in
      let tree = tree_at apart named (acknowledged history).commands edition.cut (some_desk stay site history legal)
      (commands stay site history legal 0) in
      places site (base-uri site.rsync base) texts (ground_after site history) refl next.clock (take has.place (editions_of history)) edition
      next.step tree.1 uri
      (subst (λ (es : List Edition). IsSome (set_after es uri)) (up_to stay site history legal serial edition has) stands)

  -- The set of each serial, the one before the first too.
  uris_below : (n : ℕ) → n ≤ length (editions_of history) → (uri : List ℕ) → IsSome (set_of history n uri) → IsUri uri
  uris_below zero within uri stands = absurd cc
  uris_below (suc p) within uri stands =
      elim (editions_of history) as (λ es. editions_of history ≡ es → IsUri uri) [
        | [] ↦ λ none. let long = ap length none in absurd (omega (arith, long, within))
        | first ∷ rest ↦ λ some.
            let edition = get_or (editions_of history) p first in
            uris (suc p) edition (record {
              place = p;
              there = slice_get-get_or (editions_of history) p first (omega (arith, within));
              number = omega arith;
            }) uri stands
      ] refl

  of_bytes : (n : ℕ) → AreOfBytes (set_of history n)
  of_bytes n = sets_of_bytes (take n (editions_of history)) (λ place x there.
      (short (FollowsTheOthers (ground_after site history)) (editions_of history) n (turned stay site history legal) place x there).held)

  fits : (serial : ℕ) (edition : Edition) → HasEdition history serial edition → Count → serial < 2 ^ 64
  fits serial edition has counted =
      let most = (turned stay site history legal has.place edition has.there).step.counted.serial in
      let said = number stay site history legal serial edition has counted in
      let below : edition.serial < 2 ^ 64 = omega (arith, most) in
      subst (λ (n : ℕ). n < 2 ^ 64) said below

  -- By whichever list of the set's objects.
  pub snapshot_read : Count → ReadSnapshot → (session : List ℕ) → IsUuid session
      → (serial : ℕ) (edition : Edition) → HasEdition history serial edition
      → (objects : List Object) → IsAscending objects → ((uri : List ℕ) → content_at objects uri ≡ set_of history serial uri)
      → snapshot_in (snapshot_text session serial objects) ≡ Ok ((session, serial), objects)
  snapshot_read counted reads session uuid serial edition has objects ascending are =
      let each = each_found uri_at (λ (o : Object). o.bytes) (λ uri bytes. IsUri uri × AreBytes bytes) objects ascending
      (λ at bytes there.
      let held : set_of history serial at ≡ Some bytes = sym (are at) ∙ there in
      (uris serial edition has at (is-some (set_of history serial at) bytes held), of_bytes serial at bytes held)) in
      reads ((session, serial), objects) (
        record { uuid = uuid; fits = fits serial edition has counted },
        record { ascending = ascending; each = objects_are objects each },
      )

  pub snapshots : Count → ((editions : List Edition) → IsSet (set_after editions)) → ReadSnapshot → (session : List ℕ) → IsUuid session
      → (serial : ℕ) (edition : Edition) → HasEdition history serial edition → HasSnapshot session serial (set_of history serial)
  snapshots counted left reads session uuid serial edition has =
      let set = left (take serial (editions_of history)) in
      record {
        objects = set.0;
        ascending = set.1;
        are = set.2;
        read = snapshot_read counted reads session uuid serial edition has set.0 set.1 set.2;
      }

  pub delta_texts : Count → ReadDelta → (session : List ℕ) → IsUuid session
      → (serial : ℕ) (edition : Edition) → HasEdition history serial edition → HasDelta session edition
  delta_texts counted reads session uuid serial edition has =
      let step = (turned stay site history legal has.place edition has.there).step in
      let within = slice_get_within (editions_of history) has.place edition has.there in
      let behind = up_to stay site history legal serial edition has in
      let new : Contents = set_after (take has.place (editions_of history) ++ edition ∷ []) in
      let each = each_found uri_of (λ (c : Change). c) (λ uri c. IsChange c) edition.changes step.changes.ascending
      (λ at c there. change_is at (set_of history has.place at) (new at) c (sym (step.changes.each at) ∙ there)
      (uris_below has.place (omega (arith, within)) at)
      (λ stands. uris serial edition has at (subst (λ (es : List Edition). IsSome (set_after es at)) (sym behind) stands))
      (λ bytes stands. of_bytes serial at bytes (ap (λ (es : List Edition). set_after es at) behind ∙ stands))) in
      reads ((session, edition.serial), edition.changes) (
        record {
          uuid = uuid;
          fits = subst (λ (n : ℕ). n < 2 ^ 64) (sym (number stay site history legal serial edition has counted)) (fits serial edition has counted);
        },
        record { ascending = step.changes.ascending; each = each },
      )
