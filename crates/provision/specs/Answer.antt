-- What a parent answers to a child's request (RFC 6492 sections 3.3 to 3.6).
use Rattle.std.specs.Prelude.{◌≡◌, ◌≢◌, ◌⊎◌, ℕ, List, string_bytes, codes}
use Rattle.std.specs.List.{Contains}
use Rattle.key_ids.specs.declared.identifier.KeyId.{KeyId}
use Rattle.res_sets.specs.declared.holdings.Resources.{Resources}
use Rattle.res_sets.specs.Triples.{AreEmpty}
use Rattle.provision.specs.declared.Reply.{Reply}
use Rattle.provision.specs.declared.Reply.TheVariants.{NoClass, Class, Issued, Revoked, Error}
use Rattle.provision.specs.declared.Request.{Request}
use Rattle.provision.specs.declared.Request.TheVariants.{List as ListClasses, Issue, Revoke}

-- the name of a parent's one class
abbrev pub only_class : List ℕ
only_class = codes "0"

-- A list of the classes: the one class with the child's resources, or none where it has no
-- resources (RFC 6492 section 3.3.2).
abbrev pub IsListed : Resources → Reply → Type 0
IsListed held NoClass = AreEmpty held
IsListed held (Class resources) = (¬ AreEmpty held) × (resources ≡ held)
IsListed held (Issued _ _) = ⊥
IsListed held (Revoked _) = ⊥
IsListed held (Error _) = ⊥

-- A certificate for a key: all the child's resources for it (RFC 6492 sections 3.4.2 and 3.6).
-- Another class's name is error 1201, and a child without resources 1202, the class's name being
-- looked at first.
abbrev pub IsIssued : Resources → List ℕ → KeyId → Reply → Type 0
IsIssued held class key NoClass = ⊥
IsIssued held class key (Class _) = ⊥
IsIssued held class key (Issued id resources) =
    (class ≡ only_class) × (¬ AreEmpty held) × (id ≡ key) × (resources ≡ held)
IsIssued held class key (Revoked _) = ⊥
IsIssued held class key (Error code) =
    ((class ≢ only_class) × (code ≡ 1201)) ⊎ ((class ≡ only_class) × AreEmpty held × (code ≡ 1202))

-- A key's certificates are revoked (RFC 6492 sections 3.5 and 3.6): those of a key that the child is
-- certified for. Another class's name is error 1301, and a key without a certificate 1302, the
-- class's name being looked at first.
abbrev pub IsRevoked : List KeyId → List ℕ → KeyId → Reply → Type 0
IsRevoked certified class key NoClass = ⊥
IsRevoked certified class key (Class _) = ⊥
IsRevoked certified class key (Issued _ _) = ⊥
IsRevoked certified class key (Revoked id) =
    (class ≡ only_class) × Contains certified key × (id ≡ key)
IsRevoked certified class key (Error code) =
    ((class ≢ only_class) × (code ≡ 1301))
    ⊎ ((class ≡ only_class) × (¬ Contains certified key) × (code ≡ 1302))

-- The reply is the answer to the request of a child that holds these resources and has certificates
-- for these keys.
abbrev pub IsAnswer : Resources → List KeyId → Request → Reply → Type 0
IsAnswer held certified ListClasses reply = IsListed held reply
IsAnswer held certified (Issue class key) reply = IsIssued held (string_bytes class) key reply
IsAnswer held certified (Revoke class key) reply =
    IsRevoked certified (string_bytes class) key reply
