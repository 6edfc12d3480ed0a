-- Which commands a configuration accepts, and the first cause to refuse one.
use Rattle.std.specs.Prelude.{◌≡◌, ℕ, ◌+◌, Bool, false, not, ◌&&◌, ◌==◌, nat_lt, nat_le, List, length, find, Option, None, Some, is_some, Result, Ok, Err, if◌then◌else◌}
use Rattle.origins.specs.declared.Origin.{Origin}
use Rattle.authority_book.specs.declared.rows.Child.{Child}
use Rattle.authority_book.specs.declared.commands.Command.{Command}
use Rattle.authority_book.specs.declared.commands.Command.TheVariants.{Add, Delete, AddParent, AddChild, UpdateChild, RemoveChild, SuspendChild, UnsuspendChild, UpdateRoas, InitRoll, ActivateRoll}
use Rattle.authority_book.specs.declared.refusals.Refusal.{Refusal}
use Rattle.authority_book.specs.declared.refusals.Refusal.TheVariants.{Deleted, NameTaken, TooManyAuthorities, NoSuchSigner, HasParent, NoParent, ChildThere, NoSuchChild, TooManyChildren, Suspended, NotSuspended, OriginThere, OriginTwice, NoSuchOrigin, TooManyOrigins, RollGoing, NoRoll, AnchorOnly, NotForAnchor}
use Rattle.authority_book.specs.Origins.{is_there, without, first_repeated}
use Rattle.authority_book.specs.Listed.{is_listed, is_child, child_of}
use Rattle.authority_book.specs.Settings.{Settings}

-- How many authorities a tree has at most, the anchor among them.
abbrev pub most_authorities : ℕ
most_authorities = 64

-- How many children an authority has at most.
abbrev pub most_children : ℕ
most_children = 63

-- How many origins an authority has at most.
abbrev pub most_origins : ℕ
most_origins = 1024

-- The refusal, where its cause is there.
abbrev pub refused_if : Bool → Refusal → Option Refusal
refused_if cause refusal = if cause then Some refusal else None

-- The first of these causes that there is, or none.
abbrev pub first_cause : Option Refusal → Option Refusal → Option Refusal
first_cause None rest = rest
first_cause (Some refusal) rest = Some refusal

-- The trust anchor has desk 0.
abbrev pub is_anchor : Settings → Bool
is_anchor settings = settings.desk == 0

-- The signer isn't one of so many signers. Where they aren't asked for, it is.
abbrev pub lacks_signer : ℕ → Option ℕ → Bool
lacks_signer signer None = false
lacks_signer signer (Some signers) = nat_le signers signer

-- ---- the causes to refuse a command, in their order
abbrev pub add_refusal : Settings → List ℕ → ℕ → Option ℕ → Option Refusal
add_refusal settings name signer signers =
    first_cause (refused_if (not (is_anchor settings)) AnchorOnly)
    (first_cause (refused_if (is_listed settings.names name) NameTaken)
    (first_cause (refused_if (nat_le most_authorities (length settings.names)) TooManyAuthorities)
    (refused_if (lacks_signer signer signers) NoSuchSigner)))

abbrev pub delete_refusal : Settings → Option Refusal
delete_refusal settings = refused_if (is_anchor settings) NotForAnchor

abbrev pub parent_refusal : Settings → Option Refusal
parent_refusal settings =
    first_cause (refused_if (is_anchor settings) NotForAnchor)
    (refused_if (is_some settings.parent) HasParent)

abbrev pub add_child_refusal : List Child → List ℕ → Option Refusal
add_child_refusal children name =
    first_cause (refused_if (is_child children name) ChildThere)
    (refused_if (nat_le most_children (length children)) TooManyChildren)

abbrev pub change_refusal : List Child → List ℕ → Option Refusal
change_refusal children name = refused_if (not (is_child children name)) NoSuchChild

abbrev pub suspend_refusal : Option Child → Option Refusal
suspend_refusal None = Some NoSuchChild
suspend_refusal (Some child) = refused_if child.suspended Suspended

abbrev pub unsuspend_refusal : Option Child → Option Refusal
unsuspend_refusal None = Some NoSuchChild
unsuspend_refusal (Some child) = refused_if (not child.suspended) NotSuspended

-- An origin's refusal, if there is such an origin.
abbrev pub refused_at : (Origin → Refusal) → Option Origin → Option Refusal
refused_at refusal None = None
refused_at refusal (Some origin) = Some (refusal origin)

-- The first origin to add that is configured, and isn't removed by the same command.
abbrev pub there_already : List Origin → List Origin → List Origin → Option Origin
there_already configured added removed = find (λ o. is_there configured o && not (is_there removed o)) added

-- The first origin to remove that isn't configured.
abbrev pub missing : List Origin → List Origin → Option Origin
missing configured removed = find (λ o. not (is_there configured o)) removed

-- How many origins would be configured after the command.
abbrev pub count_with : List Origin → List Origin → List Origin → ℕ
count_with configured added removed = length (without configured removed) + length added

abbrev pub too_many : ℕ → Option Refusal
too_many after = if nat_lt most_origins after then Some (TooManyOrigins after) else None

abbrev pub roas_refusal : List Origin → List Origin → List Origin → Option Refusal
roas_refusal configured added removed =
    first_cause (refused_at OriginThere (there_already configured added removed))
    (first_cause (refused_at OriginTwice (first_repeated added))
    (first_cause (refused_at OriginTwice (first_repeated removed))
    (first_cause (refused_at NoSuchOrigin (missing configured removed))
    (too_many (count_with configured added removed)))))

-- A rollover may begin where there is a parent, and none is going: each that was begun is activated.
abbrev pub init_refusal : Settings → Option Refusal
init_refusal settings =
    first_cause (refused_if (is_anchor settings) NotForAnchor)
    (first_cause (refused_if (not (is_some settings.parent)) NoParent)
    (refused_if (nat_lt settings.activates settings.inits) RollGoing))

-- One may be activated where one was begun that isn't.
abbrev pub activate_refusal : Settings → Option Refusal
activate_refusal settings =
    first_cause (refused_if (is_anchor settings) NotForAnchor)
    (refused_if (settings.inits == settings.activates) NoRoll)

-- The first cause to refuse a command to an authority that isn't deleted.
abbrev pub refusal_in_force : Settings → Command → Option ℕ → Option Refusal
refusal_in_force settings (Add name signer) signers = add_refusal settings name signer signers
refusal_in_force settings Delete signers = delete_refusal settings
refusal_in_force settings (AddParent parent) signers = parent_refusal settings
refusal_in_force settings (AddChild child grant) signers = add_child_refusal settings.children child
refusal_in_force settings (UpdateChild child grant) signers = change_refusal settings.children child
refusal_in_force settings (RemoveChild child) signers = change_refusal settings.children child
refusal_in_force settings (SuspendChild child) signers =
    suspend_refusal (child_of settings.children child)
refusal_in_force settings (UnsuspendChild child) signers =
    unsuspend_refusal (child_of settings.children child)
refusal_in_force settings (UpdateRoas added removed) signers =
    roas_refusal settings.origins added removed
refusal_in_force settings InitRoll signers = init_refusal settings
refusal_in_force settings ActivateRoll signers = activate_refusal settings

-- The first cause to refuse the command where so many signers are at hand, or where it isn't asked
-- how many there are.
abbrev pub refusal_of : Settings → Command → Option ℕ → Option Refusal
refusal_of settings command signers =
    first_cause (refused_if settings.deleted Deleted) (refusal_in_force settings command signers)

-- The command is accepted, if it doesn't fail for want of a signer.
abbrev pub IsAccepted : Settings → Command → Type 0
IsAccepted settings command = refusal_of settings command None ≡ None

abbrev pub refused_or_ok : Option Refusal → Result (Unit {0}) Refusal
refused_or_ok None = Ok tt
refused_or_ok (Some refusal) = Err refusal

-- The verdict on a command: its first refusal, else Ok.
abbrev pub verdict_of : Settings → Command → Option ℕ → Result (Unit {0}) Refusal
verdict_of settings command signers = refused_or_ok (refusal_of settings command signers)
