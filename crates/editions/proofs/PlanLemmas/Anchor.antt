-- The trust anchor has one next key, its current one.
use Rattle.std.proofs.Common.{◌≡◌, ◌≢◌, ℕ, zero, suc, ◌+◌, ◌<◌, ◌&&◌, eqb, eq-eqb, Bool, true, false, cond, Option, None, Some, List, [], ◌∷◌, length, refl, sym, ap, subst, ◌∙◌, arith, ◌⊎◌, inl, inr}
use Rattle.std.specs.List.{All, slice_get}
use Rattle.std.specs.Option.{IfSome}
use Rattle.std.proofs.lemmas.Bool.{and_parts, eqb-true, false≢true, ltb-true}
use Rattle.res_sets.specs.declared.holdings.Resources.{Resources}
use Rattle.authority_book.specs.declared.rows.NameRow.{NameRow}
use Rattle.authority_book.specs.declared.commands.Command.{Command}
use Rattle.authority_book.specs.declared.commands.Command.TheVariants.{Add, Delete, AddParent, AddChild, UpdateChild, RemoveChild, SuspendChild, UnsuspendChild, UpdateRoas, InitRoll, ActivateRoll}
use Rattle.authority_book.specs.Settings.{Settings}
use Rattle.authority_book.specs.declared.refusals.Refusal.TheVariants.{NotForAnchor}
use Rattle.authority_book.specs.Verdict.{is_anchor, IsAccepted}
use Rattle.authority_book.specs.Fold.{after, after_all, empty_settings, fold_of, AcceptedInTurn, Taken}
use Rattle.entitle.specs.Certified.{names_of}
use Rattle.key_roll.specs.declared.rows.KeyRow.{KeyRow}
use Rattle.key_roll.specs.declared.rows.Role.{Role}
use Rattle.key_roll.specs.declared.rows.Role.TheVariants.{New, Current, Old}
use Rattle.key_roll.specs.declared.stages.Stage.TheVariants.{Steady, Staged}
use Rattle.key_roll.specs.Stages as stages
use Rattle.key_roll.specs.Stages.{is_begun, is_activated}
use Rattle.issue_plan.specs.declared.keys.NextKey.{NextKey}
use Rattle.issue_plan.specs.declared.keys.Asked.{Asked}
use Rattle.issue_plan.specs.Keys.{Basis, row_of, inits_of, kept, turned, made, keys_at_end, keys_after, asked_at, keys_of, keys_at, keys_of_first, next_keys, holds_nothing}
use Rattle.key_roll.specs.Roles.{is_role}
use Rattle.items.specs.laws.AmongLaws.{In, in-all, in-parts, found-in}
use Rattle.editions.proofs.PlanLemmas.Accepted.{no_cause, no_other, not_so}
use Rattle.editions.proofs.PlanLemmas.Pairs.{Twos, twos-append}
use Rattle.editions.specs.laws.RowLaws.{role-is}

-- ---- no rollover begins

same-desk : (settings : Settings) (command : Command) → (after settings command).desk ≡ settings.desk
same-desk settings (Add name signer) = refl
same-desk settings Delete = refl
same-desk settings (AddParent parent) = refl
same-desk settings (AddChild child grant) = refl
same-desk settings (UpdateChild child grant) = refl
same-desk settings (RemoveChild child) = refl
same-desk settings (SuspendChild child) = refl
same-desk settings (UnsuspendChild child) = refl
same-desk settings (UpdateRoas added removed) = refl
same-desk settings InitRoll = refl
same-desk settings ActivateRoll = refl

-- The anchor doesn't take a command to begin one.
refused : (settings : Settings) → settings.desk ≡ 0 → IsAccepted settings InitRoll → ⊥
refused settings at accepted =
    let other : is_anchor settings ≡ false = not_so (is_anchor settings) NotForAnchor (no_cause _ _ (no_other _ _ accepted)) in
    let anchor : is_anchor settings ≡ true = eq-eqb settings.desk 0 at in
    false≢true (sym other ∙ anchor)

same-inits : (settings : Settings) (command : Command) → settings.desk ≡ 0 → IsAccepted settings command
    → (after settings command).inits ≡ settings.inits
same-inits settings (Add name signer) at accepted = refl
same-inits settings Delete at accepted = refl
same-inits settings (AddParent parent) at accepted = refl
same-inits settings (AddChild child grant) at accepted = refl
same-inits settings (UpdateChild child grant) at accepted = refl
same-inits settings (RemoveChild child) at accepted = refl
same-inits settings (SuspendChild child) at accepted = refl
same-inits settings (UnsuspendChild child) at accepted = refl
same-inits settings (UpdateRoas added removed) at accepted = refl
same-inits settings InitRoll at accepted = absurd (refused settings at accepted)
same-inits settings ActivateRoll at accepted = refl

all-inits : (settings : Settings) (commands : List Command) → settings.desk ≡ 0 → AcceptedInTurn settings commands
    → (after_all settings commands).inits ≡ settings.inits
all-inits settings [] at accepted = refl
all-inits settings (command ∷ commands) at accepted =
    all-inits (after settings command) commands (same-desk settings command ∙ at) accepted.1
    ∙ same-inits settings command at accepted.0

-- No accepted command begins a rollover of the trust anchor's key.
pub none-begun : (commands : List Command) → Taken 0 commands → (fold_of 0 commands).inits ≡ 0
none-begun commands taken = all-inits (empty_settings 0) commands refl taken

-- ---- desks

abbrev IsFound : List KeyRow → ℕ → Role → KeyRow → Type 0
IsFound rows desk role row = In row rows × (row.desk ≡ desk) × (row.role ≡ role)

row-found : (rows : List KeyRow) (desk : ℕ) (role : Role) → IfSome (row_of rows desk role) (IsFound rows desk role)
row-found rows desk role = by (row_of rows desk role) refl
  where
    by : (o : Option KeyRow) → row_of rows desk role ≡ o → IfSome o (IsFound rows desk role)
    by None e = tt
    by (Some row) e =
        let h = found-in (λ (r : KeyRow). eqb r.desk desk && is_role r.role role) rows row e in
        let p = and_parts (eqb row.desk desk) (is_role row.role role) h.1 in
        (h.0, eqb-true row.desk desk p.0, role-is row.role role p.1)

at-first : (P : NextKey → Type 0) (k x : NextKey) → P x → In k (x ∷ []) → P k
at-first P k x h (inl same) = subst P same h
at-first P k x h (inr at) = absurd at

at-two : (P : NextKey → Type 0) (k x y : NextKey) → P x → P y → In k (x ∷ y ∷ []) → P k
at-two P k x y h i (inl same) = subst P same h
at-two P k x y h i (inr at) = at-first P k y i at

module _ (desk : ℕ) where
  abbrev Here : NextKey → Type 0
  Here k = k.desk ≡ desk

  desk-after : (asked : Asked) → asked.desk ≡ desk → (new current old : Option KeyRow)
      → IfSome new (λ row. row.desk ≡ desk) → IfSome current (λ row. row.desk ≡ desk)
      → (k : NextKey) → In k (keys_after asked new current old) → k.desk ≡ desk
  desk-after asked is new None old n c k at =
      at-first Here k (made asked.desk asked.signer Current 0 asked.inits) is at
  desk-after asked is (Some new) (Some current) old n c k at =
      by (is_activated asked.activates current.done current.since asked.moment) at
    where
      by : (b : Bool) → In k (keys_at_end asked (Some new) current
          (cond b (stages.activates current.done) (stages.stays (Staged current.since) current.done))) → k.desk ≡ desk
      by true here = at-two Here k (turned new Current 0 (current.done + 1)) (turned current Old 0 (current.done + 1)) n c here
      by false here = at-two Here k (kept new) (kept current) n c here
  desk-after asked is None (Some current) (Some old) n c k at = at-first Here k (kept current) c at
  desk-after asked is None (Some current) None n c k at = by (is_begun asked.inits current.done) at
    where
      by : (b : Bool) → In k (keys_at_end asked None current
          (cond b (stages.begins asked.moment current.done) (stages.stays Steady current.done))) → k.desk ≡ desk
      by true here = at-two Here k (made asked.desk asked.signer New asked.moment current.done)
          (turned current Current asked.moment current.done) is c here
      by false here = at-first Here k (kept current) c here

own-desk : (rows : List KeyRow) (desk : ℕ) (role : Role) (o : Option KeyRow) → IfSome o (IsFound rows desk role)
    → IfSome o (λ row. row.desk ≡ desk)
own-desk rows desk role None h = tt
own-desk rows desk role (Some row) h = h.1

-- ---- the trust anchor's

-- None, or one that is current.
abbrev Lone : List NextKey → Type 0
Lone [] = Unit {0}
Lone (k ∷ []) = k.role ≡ Current
Lone (k ∷ l ∷ rest) = ⊥

-- Two keys of the trust anchor are one.
abbrev pub AreOther : NextKey → NextKey → Type 0
AreOther a b = a.desk ≡ 0 → b.desk ≢ 0

lone-role : (ks : List NextKey) → Lone ks → (k : NextKey) → In k ks → k.role ≡ Current
lone-role [] lone k at = absurd at
lone-role (x ∷ []) lone k (inl same) = subst (λ (n : NextKey). n.role ≡ Current) same lone
lone-role (x ∷ []) lone k (inr at) = absurd at
lone-role (x ∷ y ∷ rest) lone k at = absurd lone

lone-twos : (ks : List NextKey) → Lone ks → Twos AreOther ks
lone-twos [] lone = tt
lone-twos (x ∷ []) lone = ((λ y at. absurd at), tt)
lone-twos (x ∷ y ∷ rest) lone = absurd lone

other-twos : (ks : List NextKey) → ((k : NextKey) → In k ks → k.desk ≢ 0) → Twos AreOther ks
other-twos [] none = tt
other-twos (x ∷ ks) none = ((λ y at one two. none y (inr at) two), other-twos ks (λ k at. none k (inr at)))

module _ (basis : Basis) (begun : inits_of (slice_get basis.configs 0) ≡ 0)
    (anchor : All (λ key. key.desk ≡ 0 → key.role ≡ Current) basis.rows) where
  no-new : row_of basis.rows 0 New ≡ None
  no-new = by (row_of basis.rows 0 New) refl (row-found basis.rows 0 New)
    where
      by : (o : Option KeyRow) → row_of basis.rows 0 New ≡ o → IfSome o (IsFound basis.rows 0 New) → o ≡ None
      by None e h = refl
      by (Some row) e h =
          let current : row.role ≡ Current =
          in-all (λ (key : KeyRow). key.desk ≡ 0 → key.role ≡ Current) row basis.rows anchor h.0 h.1 in
          let both : New ≡ Current = sym h.2 ∙ current in
          absurd cc

  lone-after : (asked : Asked) → asked.inits ≡ 0 → (current old : Option KeyRow) → IfSome current (IsFound basis.rows 0 Current)
      → Lone (keys_after asked None current old)
  lone-after asked none None old h = refl
  lone-after asked none (Some current) (Some old) h = h.2
  lone-after asked none (Some current) None h = by (is_begun asked.inits current.done) refl
    where
      by : (b : Bool) → is_begun asked.inits current.done ≡ b
          → Lone (keys_at_end asked None current
          (cond b (stages.begins asked.moment current.done) (stages.stays Steady current.done)))
      by true e =
          let begins : is_begun 0 current.done ≡ true = ap (λ (n : ℕ). is_begun n current.done) (sym none) ∙ e in
          let less = ltb-true current.done 0 begins in
          absurd (omega (arith, less))
      by false e = h.2

  lone-of : (name : Option NameRow) (set : Option Resources) → Lone (keys_of basis 0 name set)
  lone-of None set = tt
  lone-of (Some name) None = tt
  lone-of (Some name) (Some set) = by (holds_nothing set)
    where
      all : Lone (keys_after (asked_at basis 0 name) (row_of basis.rows 0 New) (row_of basis.rows 0 Current) (row_of basis.rows 0 Old))
      all =
          subst (λ (o : Option KeyRow). Lone (keys_after (asked_at basis 0 name) o (row_of basis.rows 0 Current) (row_of basis.rows 0 Old)))
          (sym no-new)
          (lone-after (asked_at basis 0 name) begun (row_of basis.rows 0 Current) (row_of basis.rows 0 Old) (row-found basis.rows 0 Current))

      by : (b : Bool) → Lone (cond b [] (keys_after (asked_at basis 0 name)
          (row_of basis.rows 0 New) (row_of basis.rows 0 Current) (row_of basis.rows 0 Old)))
      by true = tt
      by false = all

  desk-of : (desk : ℕ) (name : Option NameRow) (set : Option Resources) → (k : NextKey) → In k (keys_of basis desk name set) → k.desk ≡ desk
  desk-of desk None set k at = absurd at
  desk-of desk (Some name) None k at = absurd at
  desk-of desk (Some name) (Some set) k at = by (holds_nothing set) at
    where
      by : (b : Bool) → In k (cond b [] (keys_after (asked_at basis desk name)
          (row_of basis.rows desk New) (row_of basis.rows desk Current) (row_of basis.rows desk Old))) → k.desk ≡ desk
      by true here = absurd here
      by false here =
          desk-after desk (asked_at basis desk name) refl (row_of basis.rows desk New) (row_of basis.rows desk Current)
          (row_of basis.rows desk Old) (own-desk basis.rows desk New (row_of basis.rows desk New) (row-found basis.rows desk New))
          (own-desk basis.rows desk Current (row_of basis.rows desk Current) (row-found basis.rows desk Current)) k here

  at-desk : (desk : ℕ) (k : NextKey) → In k (keys_at basis desk) → k.desk ≡ desk
  at-desk desk k at = desk-of desk (slice_get (names_of basis.configs) desk) (slice_get basis.sets desk) k at

  lone-at : Lone (keys_at basis 0)
  lone-at = lone-of (slice_get (names_of basis.configs) 0) (slice_get basis.sets 0)

  role-at : (desk : ℕ) (k : NextKey) → In k (keys_at basis desk) → desk ≡ 0 → k.role ≡ Current
  role-at desk k at zero-desk =
      lone-role (keys_at basis 0) lone-at k (subst (λ (d : ℕ). In k (keys_at basis d)) zero-desk at)

  twos-at : (desk : ℕ) → Twos AreOther (keys_at basis desk)
  twos-at zero = lone-twos (keys_at basis 0) lone-at
  twos-at (suc desk) =
      other-twos (keys_at basis (suc desk)) (λ k at none.
      let is = at-desk (suc desk) k at in
      omega (arith, is, none))

  below : (n : ℕ) (k : NextKey) → In k (keys_of_first basis n) → (k.desk < n) × (k.desk ≡ 0 → k.role ≡ Current)
  below zero k at = absurd at
  below (suc n) k at = by (below n k) (in-parts k (keys_of_first basis n) (keys_at basis n) at)
    where
      by : (In k (keys_of_first basis n) → (k.desk < n) × (k.desk ≡ 0 → k.role ≡ Current)) → In k (keys_of_first basis n) ⊎ In k (keys_at basis n) → (k.desk < suc n) × (k.desk ≡ 0 → k.role ≡ Current)
      by rest (inl before) =
          let w = rest before in
          let less = w.0 in
          (omega (arith, less), w.1)
      by rest (inr here) =
          let is = at-desk n k here in
          (omega (arith, is), λ zero-desk. role-at n k here (sym is ∙ zero-desk))

  first-twos : (n : ℕ) → Twos AreOther (keys_of_first basis n)
  first-twos zero = tt
  first-twos (suc n) =
      twos-append AreOther (keys_of_first basis n) (keys_at basis n) (first-twos n) (twos-at n)
      (λ a b c d one two.
      let less = (below n a c).0 in
      let is = at-desk n b d in
      omega (arith, less, is, one, two))

  pub one-anchor : Twos AreOther (next_keys basis)
  one-anchor = first-twos (length (names_of basis.configs))

  pub anchor-role : (k : NextKey) → In k (next_keys basis) → k.desk ≡ 0 → k.role ≡ Current
  anchor-role k at = (below (length (names_of basis.configs)) k at).1
