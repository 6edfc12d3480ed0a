-- What the answer for a store's record says of it.
use Rattle.std.proofs.Common.{◌≡◌, List, ℕ, Some, None, refl, sym, ap, subst, ◌∙◌}
use Rattle.std.specs.Prelude.{Err}
use Rattle.key_ids.specs.Uris.{Bases}
use Rattle.key_ids.specs.Base.{IsBase, rsync_scheme, https_scheme}
use Rattle.record_forms.specs.declared.fault.ReadFault.{ReadFault}
use Rattle.record_forms.specs.declared.fault.ReadFault.TheVariants.{Bad, Memory}
use Rattle.record_forms.specs.Form.{AreBytes}
use Rattle.record_forms.specs.Forms.{read_whole}
use Rattle.record_forms.specs.Outcome.{Gives, IsUnlessMemory}
use Rattle.record_forms.specs.laws.ByteLaws.{same-some}
use Rattle.record_forms.specs.laws.FormLaws.{whole-again, whole-taken}
use Rattle.record_forms.specs.laws.OutcomeLaws.{only-from}
use Rattle.std.proofs.Common.{◌<◌, ◌^◌, ◌∷◌, [], length, arith}
use Rattle.std.proofs.lemmas.Bool.{lt-ltb}
use Rattle.record_forms.specs.Forms.{behind_byte, front, sized, at_end}
use Rattle.press_records.specs.inner.Sites.{IsSiteOf}
use Rattle.press_records.specs.Store.{Store, stores, IsStoreRecord}
use Rattle.press_records.specs.laws.StoreLaws.{stores-law}

-- The fields that were read are those of the store whose record it is.
same_fields : (bytes : List ℕ) (x wanted : Store) → read_whole stores bytes ≡ Some x → IsStoreRecord wanted bytes → x ≡ wanted
same_fields bytes x wanted read is = same-some x wanted (sym read ∙ whole-again stores stores-law wanted bytes is.spelled)

pub found_store : (bytes session rsync rrdp : List ℕ) (site : Bases) → AreBytes bytes → read_whole stores bytes ≡ Some (session, (rsync, rrdp))
    → site ≡ record { rsync = rsync; rrdp = rrdp } → IsBase rsync_scheme rsync → IsBase https_scheme rrdp
    → IsStoreRecord (session, (site.rsync, site.rrdp)) bytes
found_store bytes session rsync rrdp site are read is one other =
    subst (λ (s : Bases). IsStoreRecord (session, (s.rsync, s.rrdp)) bytes) (sym is) (record {
      bases = record { rsync = one; rrdp = other };
      spelled = whole-taken stores stores-law (session, (rsync, rrdp)) bytes are read;
    })

pub only_store : (bytes session rsync rrdp : List ℕ) (site : Bases) → read_whole stores bytes ≡ Some (session, (rsync, rrdp))
    → site ≡ record { rsync = rsync; rrdp = rrdp } → (wanted : Store) → IsStoreRecord wanted bytes → (session, (site.rsync, site.rrdp)) ≡ wanted
only_store bytes session rsync rrdp site read is wanted spelled =
    ap (λ (s : Bases). (session, (s.rsync, s.rrdp))) is ∙ same_fields bytes (session, (rsync, rrdp)) wanted read spelled

-- A fault of the bases.
pub only_bases : (bytes session rsync rrdp : List ℕ) (e : ReadFault) → read_whole stores bytes ≡ Some (session, (rsync, rrdp))
    → IsSiteOf rsync rrdp (Err e)
    → (wanted : Store) → IsStoreRecord wanted bytes → IsUnlessMemory {X = Store} (λ x. x) (Err e) wanted
only_bases bytes session rsync rrdp Bad read none wanted is =
    let same = same_fields bytes (session, (rsync, rrdp)) wanted read is in
    none (subst (λ (x : Store). IsBase rsync_scheme x.1.0) (sym same) is.bases.rsync) (subst (λ (x : Store). IsBase https_scheme x.1.1) (sym same) is.bases.rrdp)
only_bases bytes session rsync rrdp Memory read none wanted is = tt

-- A fault of the fields.
pub only_fields : (bytes : List ℕ) (e : ReadFault) → Gives {X = Store} (λ x. x) (Err e) (read_whole stores bytes)
    → (wanted : Store) → IsStoreRecord wanted bytes → IsUnlessMemory {X = Store} (λ x. x) (Err e) wanted
only_fields bytes e gives wanted is = only-from (λ x. x) stores stores-law bytes (Err e) gives wanted is.spelled

-- ---- the fields, read in turn

pub fields_read : (bytes b1 b2 b3 b4 b5 b6 session rsync rrdp : List ℕ) → length bytes < 2 ^ 32
    → behind_byte 0 bytes ≡ Some b1 → behind_byte 0 b1 ≡ Some b2 → behind_byte 1 b2 ≡ Some b3 → front 16 b3 ≡ Some (session, b4)
    → sized.read b4 ≡ Some (rsync, b5) → sized.read b5 ≡ Some (rrdp, b6)
    → read_whole stores bytes ≡ at_end ((session, (rsync, rrdp)), b6)
unfolding stores
fields_read bytes b1 b2 b3 b4 b5 b6 session rsync rrdp short one two three four five six =
    rw (lt-ltb (length bytes) (2 ^ 32) short, one, two, three, four, five, six) refl

pub nothing_left : (x : Store) (rest : List ℕ) → length rest ≡ 0 → at_end (x, rest) ≡ Some x
nothing_left x [] none = refl
nothing_left x (b ∷ rest) none = absurd (omega arith)

pub bytes_left : (x : Store) (rest : List ℕ) → 0 < length rest → at_end (x, rest) ≡ None
bytes_left x [] more = absurd (omega arith)
bytes_left x (b ∷ rest) more = refl
