-- What published states stand for.
use Rattle.std.proofs.Common.{◌≡◌, ℕ, zero, suc, ◌+◌, ◌<◌, ◌≤◌, true, Some, List, [], ◌∷◌, length, get_or, take, refl, sym, ap, ap₂, subst, ◌∙◌, arith}
use Rattle.std.specs.Prelude.{All, IsPermutation, map, slice_get}
use Rattle.std.proofs.lemmas.Option.{same_Some}
use Rattle.std.proofs.lemmas.List.{take-append-le, length-append}
use Rattle.std.proofs.lemmas.List.Elements.{All-head, All-tail}
use Rattle.signer_api.specs.State.{SignerState, Tells}
use Rattle.signer_ring.specs.Ring as ring
use Rattle.signer_ring.specs.Ring.{AllTell}
use Rattle.rp_rules.specs.Certificates.{Vouched}
use Rattle.authority_book.specs.declared.commands.Command.{Command}
use Rattle.authority_book.specs.Settings.{Settings}
use Rattle.authority_book.specs.Fold.{fold_of, empty_settings}
use Rattle.pub_set.specs.declared.objects.Object.{Object}
use Rattle.std.specs.List.Sorted.{IsStrictlySortedBy}
use Rattle.std.proofs.lemmas.Bool.{false≢true}
use Rattle.pub_set.specs.Objects.{content_at, Rise}
use Rattle.pub_set.specs.Changes.{Contents}
use Rattle.entitle.specs.Certified.{names_of}
use Rattle.entitle.specs.Owed.{AreOwed}
use Rattle.rp_rules.specs.Yield.{yield}
use Rattle.editions.specs.Published.{IsPublished, yielded_for}
use Rattle.key_roll.specs.declared.issued.IssuedRow.{IssuedRow}
use Rattle.editions.specs.Edition.{Edition, set_after, cut_at}
use Rattle.editions.specs.Table.{IsTable}
use Rattle.editions.specs.Step.{Premises, IsMore, AreMore, BeginsWith, AreSteps, configs_from, configs_at}
use Rattle.editions.specs.PublishedState.{PublishedStateValue, IsFirst, desks}
use Rattle.press_core.specs.Signers.{HasAllVouched}
use Rattle.press_core.specs.Stands.{IsLeftBy, StandsFor}

-- ---- signers that tell

pub told-vouched : (vouched : Vouched) (signers : List SignerState) → AllTell signers
    → ((key digest signature : List ℕ) → ring.Vouched signers key digest signature → vouched key digest signature ≡ true)
    → HasAllVouched vouched signers
told-vouched vouched signers tell each key digest signature any =
    let told : Tells any.1 = subst Tells any.3 (tell any.0 any.1 any.2) in
    each key digest signature (any.0, any.1, any.2, any.3, any.4 told)

-- ---- before the first edition

zero-cut : (cut : List ℕ) (desk : ℕ) → All (λ n. n ≡ 0) cut → cut_at cut desk ≡ 0
zero-cut [] desk all = refl
zero-cut (n ∷ cut) zero all = All-head (λ (m : ℕ). m ≡ 0) n cut all
zero-cut (n ∷ cut) (suc desk) all = zero-cut cut desk (All-tail (λ (m : ℕ). m ≡ 0) n cut all)

-- The configurations at such a cut.
first-configs : (desk : ℕ) (lists : List (List Command)) (cut : List ℕ) (configs : List Settings) → All (λ n. n ≡ 0) cut → length configs ≡ length lists
    → ((k : ℕ) → k < length configs → slice_get configs k ≡ Some (empty_settings (desk + k))) → configs ≡ configs_from desk lists cut
first-configs desk [] cut [] zeros long each = refl
first-configs desk [] cut (config ∷ configs) zeros long each = absurd (omega (arith, long))
first-configs desk (list ∷ lists) cut [] zeros long each = absurd (omega (arith, long))
first-configs desk (list ∷ lists) [] (config ∷ configs) zeros long each =
    ap₂ (λ (c : Settings) (rest : List Settings). c ∷ rest)
    (same_Some config _ (each 0 (omega arith)) ∙ ap empty_settings (omega arith))
    (first-configs (desk + 1) lists [] configs zeros (omega (arith, long)) (λ k less. each (suc k) (omega (arith, less)) ∙ ap (λ (d : ℕ). Some (empty_settings d)) (omega arith)))
first-configs desk (list ∷ lists) (n ∷ cut) (config ∷ configs) zeros long each =
    let none : n ≡ 0 = All-head (λ (m : ℕ). m ≡ 0) n cut zeros in
    ap₂ (λ (c : Settings) (rest : List Settings). c ∷ rest)
    (same_Some config _ (each 0 (omega arith)) ∙ (ap empty_settings (omega arith) ∙ ap (λ (m : ℕ). fold_of desk (take m list)) (sym none)))
    (first-configs (desk + 1) lists cut configs (All-tail (λ (m : ℕ). m ≡ 0) n cut zeros) (omega (arith, long)) (λ k less. each (suc k) (omega (arith, less)) ∙ ap (λ (d : ℕ). Some (empty_settings d)) (omega arith)))

rise-none : Rise (λ (row : IssuedRow). row.uri) []
unfolding IsStrictlySortedBy
rise-none = tt

pub first-stands : (premises : Premises) (published_state : PublishedStateValue) → IsFirst published_state → length premises.lists ≡ desks → StandsFor premises [] published_state
first-stands premises published_state first long =
    let zeros = first.cut.none in
    record {
      left = record {
        serial = first.serial;
        moment = first.moment;
        cut = λ desk. zero-cut published_state.cut desk zeros;
        rows = first.rows;
        set = λ uri. ap (λ (objects : List Object). content_at objects uri) first.set;
        desks = long ∙ sym first.cut.one_each;
        taken_in = λ desk. let none = zero-cut published_state.cut desk zeros in omega (arith, none);
        configs = first-configs 0 premises.lists published_state.cut published_state.configs zeros (first.configs.one_each ∙ sym long)
            (λ k less. first.configs.empty k (let all = first.configs.one_each in omega (arith, less, all)) ∙ ap (λ (d : ℕ). Some (empty_settings d)) (omega arith));
      };
      steps = λ position edition there. absurd cc;
      table = subst (IsTable (set_after [])) (sym first.issued) (record {
        rising = rise-none;
        each = λ row there. absurd (let less = there.1 in omega (arith, less));
        all = λ uri some. absurd (false≢true some);
      });
    }

-- ---- more commands

more-long : (less more : List (List Command)) → AreMore less more → length more ≡ length less
more-long [] [] are = refl
more-long [] (m ∷ more) are = absurd are
more-long (l ∷ less) [] are = absurd are
more-long (l ∷ less) (m ∷ more) are = ap suc (more-long less more are.1)

begins-long : (list more : List Command) → BeginsWith list more → length list ≤ length more
begins-long list more is = let long = ap length is.1 ∙ length-append list is.0 in omega (arith, long)

more-at : (less more : List (List Command)) (desk : ℕ) → AreMore less more → length (get_or less desk []) ≤ length (get_or more desk [])
more-at [] [] desk are = omega arith
more-at [] (m ∷ more) desk are = absurd are
more-at (l ∷ less) [] desk are = absurd are
more-at (l ∷ less) (m ∷ more) zero are = begins-long l m are.0
more-at (l ∷ less) (m ∷ more) (suc desk) are = more-at less more desk are.1

same-taken : (n : ℕ) (list more : List Command) → n ≤ length list → BeginsWith list more → take n list ≡ take n more
same-taken n list more held is = sym (ap (take n) is.1 ∙ take-append-le n list is.0 held)

more-configs : (desk : ℕ) (less more : List (List Command)) (cut : List ℕ) → AreMore less more → ((k : ℕ) → cut_at cut k ≤ length (get_or less k []))
    → configs_from desk less cut ≡ configs_from desk more cut
more-configs desk [] [] cut are held = refl
more-configs desk [] (m ∷ more) cut are held = absurd are
more-configs desk (l ∷ less) [] cut are held = absurd are
more-configs desk (l ∷ less) (m ∷ more) [] are held =
    ap (λ (rest : List Settings). fold_of desk [] ∷ rest) (more-configs (desk + 1) less more [] are.1 (λ k. omega arith))
more-configs desk (l ∷ less) (m ∷ more) (n ∷ cut) are held =
    ap₂ (λ (list : List Command) (rest : List Settings). fold_of desk list ∷ rest) (same-taken n l m (held 0) are.0)
    (more-configs (desk + 1) less more cut are.1 (λ k. held (suc k)))

pub more-left : (less more : List (List Command)) (editions : List Edition) (published_state : PublishedStateValue) → AreMore less more → IsLeftBy less editions published_state → IsLeftBy more editions published_state
more-left less more editions published_state are left = record {
  serial = left.serial;
  moment = left.moment;
  cut = left.cut;
  rows = left.rows;
  set = left.set;
  desks = more-long less more are ∙ left.desks;
  taken_in = λ desk. let first = left.taken_in desk in let second = more-at less more desk are in omega (arith, first, second);
  configs = left.configs ∙ more-configs 0 less more published_state.cut are left.taken_in;
}

pub more-stands : ((less more : Premises) (editions : List Edition) → IsMore less more → AreSteps less editions → AreSteps more editions)
    → (less more : Premises) (editions : List Edition) (published_state : PublishedStateValue) → IsMore less more → StandsFor less editions published_state → StandsFor more editions published_state
more-stands law less more editions published_state are stands = record {
  left = more-left less.lists more.lists editions published_state are.lists stands.left;
  steps = law less more editions are stands.steps;
  table = stands.table;
}

-- ---- published sets

-- A published set over more commands: what its cut takes in is the same.
pub more-published : (premises : Premises) (more : List (List Command)) (edition : Edition) (set : Contents) → AreMore premises.lists more
    → ((desk : ℕ) → cut_at edition.cut desk ≤ length (get_or premises.lists desk [])) → IsPublished premises edition set → IsPublished (record premises { lists = more }) edition set
more-published premises more edition set are held is =
    let same : configs_at premises.lists edition.cut ≡ configs_at more edition.cut = more-configs 0 premises.lists more edition.cut are held in
    record {
      anchor = is.anchor;
      current = is.current;
      objects = is.objects;
      ascending = is.ascending;
      are = is.are;
      visits = is.visits;
      sound = is.sound;
      owed = is.owed;
      owes = subst (λ (c : List Settings). AreOwed c is.owed) same is.owes;
      yields = subst (λ (c : List Settings). IsPermutation (map (yielded_for premises.site (names_of c)) is.owed) (yield is.visits)) same is.yields;
      once = is.once;
    }
