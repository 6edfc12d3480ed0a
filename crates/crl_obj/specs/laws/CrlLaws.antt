-- The laws of the formats of CRLs.
use Rattle.std.proofs.Common.{◌≡◌, ℕ, true, false, Option, Some, None, List, [], ◌∷◌, refl, sym, ap}
use Rattle.sha2.specs.Sha256.{sha256}
use Rattle.der.specs.Tags as tag
use Rattle.der.specs.Form.{IsWhole, IsFront}
use Rattle.der.specs.Forms.{within, sole, both, after, only, preceded, optional, tested, many}
use Rattle.der.specs.Leaves.{number}
use Rattle.der.specs.laws.FormLaws.{within-law}
use Rattle.der.specs.laws.SequenceLaws.{after-law, both-law, only-law}
use Rattle.der.specs.laws.FrameLaws.{sole-law, preceded-law}
use Rattle.der.specs.laws.ValueLaws.{IsBijection, mapped-law, mapped_front-law, tested-law}
use Rattle.der.specs.laws.ChoiceLaws.{IsBegun, IsNeverBegun, optional-law, within-begun, sole-never-begun}
use Rattle.der.specs.laws.ListLaws.{many-law}
use Rattle.der.specs.laws.LeafLaws.{number-law, constant-law}
use Rattle.object_parts.specs.declared.identifiers.TheConstants.{CRL_NUMBER}
use Rattle.object_parts.specs.TimeFormats.{time}
use Rattle.object_parts.specs.laws.TimeLaws.{time-law}
use Rattle.object_parts.specs.NameFormats.{name}
use Rattle.object_parts.specs.laws.NameLaws.{name-law}
use Rattle.object_parts.specs.FrameFormats.{signature_algorithm, issuer_key, signed}
use Rattle.object_parts.specs.laws.FrameLaws.{signature_algorithm-law, extension-law, issuer_key-law, signed-law}
use Rattle.crl_obj.specs.declared.values.CrlEntry.{CrlEntry}
use Rattle.crl_obj.specs.Values.{CrlValue, SignedCrl, IsEntry, IsCrl}
use Rattle.crl_obj.specs.Formats.{of_pair, pair_of, entry, is_listed, listed, crl_number, extensions, entries_of, list_of, AreRevoked, of_optional, optional_of, revoked, body, version, of_parts, parts_of, tbs_content, signed_bytes, of_signed, signed_of, IsSignedCrl, signed_crl}

pub entry-law : IsFront entry
unfolding entry
entry-law =
    mapped_front-law (within tag.sequence (both number (only time))) of_pair pair_of IsEntry
    (within-law tag.sequence (both number (only time))
    (both-law number (only time) number-law (only-law time time-law)))
    (record {
      back = λ e good. ((good.serial, good.revoked_at), refl);
      there = λ x good. (record { serial = good.0; revoked_at = good.1 }, refl);
    })

pub listed-law : IsFront listed
unfolding listed
listed-law = within-law tag.sequence (tested (many entry) is_listed)
    (tested-law (many entry) is_listed (many-law entry entry-law))

listed-begun : IsBegun tag.sequence listed
unfolding listed
listed-begun = within-begun tag.sequence (tested (many entry) is_listed)

crl_number-law : IsFront crl_number
crl_number-law = extension-law CRL_NUMBER (only number) (only-law number number-law)

pub extensions-law : (issuer : List ℕ) → IsWhole (extensions issuer)
unfolding extensions
extensions-law issuer =
    sole-law tag.context_0 (sole tag.sequence (preceded (issuer_key issuer) (only crl_number)))
    (sole-law tag.sequence (preceded (issuer_key issuer) (only crl_number))
    (preceded-law (issuer_key issuer) (only crl_number) (issuer_key-law issuer) tt
    (only-law crl_number crl_number-law)))

extensions-begun : (issuer : List ℕ) → IsNeverBegun tag.sequence (extensions issuer)
unfolding extensions
extensions-begun issuer = sole-never-begun tag.sequence tag.context_0
    (sole tag.sequence (preceded (issuer_key issuer) (only crl_number))) refl

never : false ≡ true → ⊥
never e = cc

list-back : (issuer : List ℕ) (es : List CrlEntry) (n : ℕ) → AreRevoked (es, n)
    → (optional tag.sequence listed (extensions issuer)).good (list_of es, n)
    × (of_optional (optional_of (es, n)) ≡ (es, n))
unfolding entry listed extensions
list-back issuer [] n good = ((tt, good.number), refl)
list-back issuer (e ∷ es) n good = (((good.entries, good.rising), good.number), refl)

list-there : (issuer : List ℕ) (o : Option (List CrlEntry)) (n : ℕ)
    → (optional tag.sequence listed (extensions issuer)).good (o, n)
    → AreRevoked (entries_of o, n) × (optional_of (of_optional (o, n)) ≡ (o, n))
unfolding entry listed extensions
list-there issuer None n good = (record { entries = tt; rising = refl; number = good.1 }, refl)
list-there issuer (Some []) n good = absurd (never good.0.1)
list-there issuer (Some (e ∷ es)) n good =
    (record { entries = good.0.0; rising = good.0.1; number = good.1 }, refl)

pub revoked-law : (issuer : List ℕ) → IsWhole (revoked issuer)
unfolding revoked
revoked-law issuer =
    mapped-law (optional tag.sequence listed (extensions issuer)) of_optional optional_of AreRevoked
    (optional-law tag.sequence listed (extensions issuer) listed-law (extensions-law issuer)
    listed-begun (extensions-begun issuer))
    (record {
      back = λ y good. list-back issuer y.0 y.1 good;
      there = λ x good. list-there issuer x.0 x.1 good;
    })

pub body-law : (issuer : List ℕ) → IsWhole (body issuer)
unfolding body
body-law issuer = both-law time (both time (revoked issuer)) time-law
    (both-law time (revoked issuer) time-law (revoked-law issuer))

tbs-parts : IsBijection (after name body).good of_parts parts_of IsCrl
unfolding name body revoked
tbs-parts = record {
  back = λ c good. (
    (
      good.issuer,
      (
        good.this_update,
        (
          good.next_update,
          record { entries = good.entries; rising = good.rising; number = good.number },
        ),
      ),
    ),
    refl,
  );
  there = λ x good. (
    record {
      issuer = good.0;
      this_update = good.1.0;
      next_update = good.1.1.0;
      number = good.1.1.1.number;
      entries = good.1.1.1.entries;
      rising = good.1.1.1.rising;
    },
    refl,
  );
}

pub tbs_content-law : IsWhole tbs_content
unfolding tbs_content
tbs_content-law =
    mapped-law (preceded version (preceded signature_algorithm (after name body))) of_parts
    parts_of IsCrl
    (preceded-law version (preceded signature_algorithm (after name body))
    (constant-law tag.integer (1 ∷ [])) tt
    (preceded-law signature_algorithm (after name body) signature_algorithm-law tt
    (after-law name body name-law (λ issuer good. body-law issuer))))
    tbs-parts

abbrev with_digest : SignedCrl → List ℕ → SignedCrl
with_digest y digest = record { crl = y.crl; digest = digest; signature = y.signature }

abbrev with_bytes : CrlValue × List ℕ × List ℕ → List ℕ → CrlValue × List ℕ × List ℕ
with_bytes x bytes = (x.0, bytes, x.2)

signed-parts : IsBijection (signed tbs_content).good of_signed signed_of IsSignedCrl
unfolding tbs_content signed_bytes
signed-parts = record {
  back = λ y good. ((good.crl, refl, good.signature), ap (with_digest y) (sym good.digest));
  there = λ x good. (
    record { crl = good.0; digest = ap sha256 good.1; signature = good.2 },
    ap (with_bytes x) (sym good.1),
  );
}

pub signed_crl-law : IsWhole signed_crl
unfolding signed_crl
signed_crl-law = mapped-law (signed tbs_content) of_signed signed_of IsSignedCrl
    (signed-law tbs_content tbs_content-law) signed-parts
