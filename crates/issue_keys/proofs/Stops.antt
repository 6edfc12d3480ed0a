-- Why the making of keys stopped.
use Rattle.std.proofs.Common.{◌≡◌, ℕ, ◌+◌, ◌<◌, inl, inr, Bool, true, false, not, ◌||◌, List, [], ◌∷◌, ◌++◌, length, get_or, map, refl, sym, ap, subst, ◌∙◌}
use Rattle.signer_api.specs.State.{SignerState, CountsFault}
use Rattle.signer_ring.specs.Ring.{ChangesOne}
use Rattle.signer_ring.specs.Calls.{IsStopped, after_call, after_calls}
use Rattle.signer_ring.specs.Calls.Call.{Makes}
use Rattle.sha1.specs.Sha1.{sha1}
use Rattle.key_ids.specs.declared.identifier.KeyId.{KeyId}
use Rattle.signer_api.specs.declared.values.PublicKey.{PublicKey}
use Rattle.signer_ring.specs.declared.call_fault.CallFault.{CallFault}
use Rattle.signer_ring.specs.declared.call_fault.CallFault.TheVariants as Calls
use Rattle.key_roll.specs.declared.rows.KeyRow.{KeyRow}
use Rattle.key_roll.specs.declared.work.NewKey.{NewKey}
use Rattle.issue_keys.specs.declared.fault.MakeFault.{MakeFault}
use Rattle.issue_keys.specs.declared.fault.MakeFault.TheVariants.{SignerFault, KeyClash, Memory}
use Rattle.issue_keys.specs.Faults.{fault_of}
use Rattle.issue_keys.specs.Keys.{id_of, fresh_row, fresh_rows, AreByDesk, AreBegun}
use Rattle.std.proofs.lemmas.List.{append-nil, length-map, length-append}
use Rattle.std.specs.Str.{bytes_eq}
use Rattle.issue_keys.specs.Making.{making, clashes, AreApart, AreMade, IsKeyStop, IsOneStop, IsOneMade}
use Rattle.issue_keys.proofs.Growing.{keys_of, fresh-nil, no_key, rows-push, signers-push}
use Rattle.issue_keys.proofs.Ids.{apart-push, id_set-push}

pub one-stop : (e : CallFault) (new : NewKey) (has : List ℕ → Bool) (old after : List SignerState) → IsStopped new.signer old after e → IsOneStop new has old after (fault_of e)
one-stop (Calls.SignerFault n) new has old after h =
    subst (λ (m : ℕ). ChangesOne m CountsFault old after) (sym h.0) h.1
one-stop Calls.Memory new has old after h = inl h

pub one-made : (new : NewKey) (row : KeyRow) (key : PublicKey) (old after : List SignerState) → row ≡ fresh_row new key → after ≡ after_call old (Makes new.signer key.bytes) → IsOneMade new old after row
one-made new row key old after is call = record {
  made = is ∙ ap (fresh_row new) (sym (ap (λ (r : KeyRow). r.key) is));
  signers = call ∙ ap (λ (r : KeyRow). after_call old (making r)) (sym is);
}

pub one-clash : (new : NewKey) (row : KeyRow) (key : PublicKey) (has : List ℕ → Bool) (old after : List SignerState) (id : KeyId) (added : Bool) → row ≡ fresh_row new key → after ≡ after_call old (Makes new.signer key.bytes) → id.bytes ≡ sha1 key.bytes → added ≡ not (has id.bytes) → added ≡ false → IsOneStop new has old after (KeyClash id)
one-clash new row key has old after id added is call hashed says known =
    let named : id.bytes ≡ id_of row = hashed ∙ ap (λ (r : KeyRow). sha1 r.key.bytes) (sym is) in
    (row, one-made new row key old after is call, named, ap has (sym named) ∙ there (has id.bytes) (sym says ∙ known))
  where
    there : (b : Bool) → not b ≡ false → b ≡ true
    there true e = refl
    there false e = absurd cc

-- What is known while the keys are made.
pub record Making (new_keys news : List NewKey) (live : List KeyRow) (has : List ℕ → Bool) (old now : List SignerState) (fresh : List KeyRow) : Type 0 where
  pub by_desk : AreByDesk new_keys news
  pub rows : fresh ≡ fresh_rows news (keys_of fresh)
  pub apart : AreApart (map id_of live) fresh
  pub id_set : (id : List ℕ) → has id ≡ clashes (map id_of live ++ map id_of fresh) id
  pub signers : now ≡ after_calls old (map making fresh)

pub begun : (new_keys news : List NewKey) (fresh : List KeyRow) → AreByDesk new_keys news → fresh ≡ fresh_rows news (keys_of fresh) → AreBegun new_keys fresh
begun new_keys news fresh by so = record { news = news; keys = keys_of fresh; by_desk = by; rows = so }

pub key-stop : (e : MakeFault) (new_keys news : List NewKey) (live : List KeyRow) (has : List ℕ → Bool) (old now after : List SignerState) (fresh : List KeyRow) (i : ℕ) → Making new_keys news live has old now fresh → length fresh ≡ i → i < length news → IsOneStop (get_or news i no_key) has now after e → IsKeyStop new_keys live old after e
key-stop (SignerFault n) new_keys news live has old now after fresh i m long lt h = record {
  made = fresh;
  keys = begun new_keys news fresh m.by_desk m.rows;
  apart = m.apart;
  fault = subst (λ (r : List SignerState). ChangesOne n CountsFault r after) m.signers h;
}
key-stop (KeyClash id) new_keys news live has old now after fresh i m long lt h =
    let row = h.0 in
    record {
      before = fresh;
      last = row;
      keys = begun new_keys news (fresh ++ row ∷ []) m.by_desk (rows-push news fresh row i m.rows long lt h.1.made);
      apart = m.apart;
      clash = sym (m.id_set (id_of row)) ∙ h.3;
      identifier = h.2;
      signers = signers-push old now after fresh row m.signers h.1.signers;
    }
key-stop Memory new_keys news live has old now after fresh i m long lt (inl same) = record {
  made = fresh;
  keys = inr (begun new_keys news fresh m.by_desk m.rows);
  signers = same ∙ m.signers;
}
key-stop Memory new_keys news live has old now after fresh i m long lt (inr h) =
    let row = h.0 in
    record {
      made = fresh ++ row ∷ [];
      keys = inr (begun new_keys news (fresh ++ row ∷ []) m.by_desk (rows-push news fresh row i m.rows long lt h.1.made));
      signers = signers-push old now after fresh row m.signers h.1.signers;
    }

-- ---- one key more

pub begins : (new_keys news : List NewKey) (live : List KeyRow) (has : List ℕ → Bool) (old now : List SignerState) (fresh : List KeyRow) → AreByDesk new_keys news → ((id : List ℕ) → has id ≡ clashes (map id_of live) id) → now ≡ old → fresh ≡ [] → Making new_keys news live has old now fresh
begins new_keys news live has old now fresh by id_set same empty =
    subst (λ (l : List KeyRow). Making new_keys news live has old now l) (sym empty)
    (record {
      by_desk = by;
      rows = sym (fresh-nil news);
      apart = tt;
      id_set = λ id. id_set id ∙ ap (λ (l : List (List ℕ)). clashes l id) (sym (append-nil (map id_of live)));
      signers = same;
    })

pub step : (new_keys news : List NewKey) (live : List KeyRow) (has next : List ℕ → Bool) (old now after : List SignerState) (fresh : List KeyRow) (i : ℕ) (row : KeyRow) → Making new_keys news live has old now fresh → length fresh ≡ i → i < length news → row ≡ fresh_row (get_or news i no_key) row.key → after ≡ after_call now (making row) → has (id_of row) ≡ false → ((id : List ℕ) → next id ≡ (bytes_eq (id_of row) id || has id)) → Making new_keys news live next old after (fresh ++ row ∷ [])
step new_keys news live has next old now after fresh i row m long lt made call apart added = record {
  by_desk = m.by_desk;
  rows = rows-push news fresh row i m.rows long lt made;
  apart = apart-push (map id_of live) fresh row m.apart (sym (m.id_set (id_of row)) ∙ apart);
  id_set = λ id. id_set-push (map id_of live) fresh row id (has id) (next id) (m.id_set id) (added id);
  signers = signers-push old now after fresh row m.signers call;
}

pub short : (new_keys news : List NewKey) (live : List KeyRow) (has : List ℕ → Bool) (old now : List SignerState) (fresh : List KeyRow) → Making new_keys news live has old now fresh → IsKeyStop new_keys live old now Memory
short new_keys news live has old now fresh m = record {
  made = fresh;
  keys = inr (begun new_keys news fresh m.by_desk m.rows);
  signers = m.signers;
}

pub all-made : (new_keys news : List NewKey) (live : List KeyRow) (has : List ℕ → Bool) (old now : List SignerState) (fresh : List KeyRow) → Making new_keys news live has old now fresh → length fresh ≡ length news → AreMade new_keys live old now fresh
all-made new_keys news live has old now fresh m long = record {
  keys = record {
    news = news;
    keys = keys_of fresh;
    by_desk = m.by_desk;
    rows = m.rows;
    each = length-map fresh (λ (r : KeyRow). r.key) ∙ long;
  };
  apart = m.apart;
  signers = m.signers;
}

pub longer : (fresh more : List KeyRow) (row : KeyRow) (i : ℕ) → length fresh ≡ i → more ≡ fresh ++ row ∷ [] → length more ≡ i + 1
longer fresh more row i long e = ap length e ∙ (length-append fresh (row ∷ []) ∙ ap (λ (n : ℕ). n + 1) long)
