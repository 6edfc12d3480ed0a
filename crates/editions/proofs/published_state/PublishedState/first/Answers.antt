use Rattle.std.proofs.Common.{◌≡◌, ℕ, ◌<◌, ◌∙◌, [], List, Some, length, get_or, sym, ap, subst, arith}
use Rattle.std.specs.Prelude.{slice_get}
use Rattle.std.proofs.lemmas.Option.{slice_get_within}
use Rattle.authority_book.specs.Settings.{Settings}
use Rattle.entitle.specs.declared.trees.Owed.{Owed}
use Rattle.authority_book.specs.Fold.{empty_settings}
use Rattle.entitle.specs.Certified.{settings_of, AreCertified}
use Rattle.entitle.specs.Owed.{AreOwed}
use Rattle.key_roll.specs.declared.issued.IssuedRow.{IssuedRow}
use Rattle.pub_set.specs.Objects.{Rise}
use Rattle.editions.specs.PublishedState.{AreLive, AreTakenIn, AreFirstConfigs, IsFirstCut}
use Rattle.pub_set.specs.laws.LookupLaws.{rise-nil}
use Rattle.editions.proofs.published_state.PublishedState.first.Goals as goal

live-none : (moment : ℕ) → AreLive moment []
live-none moment = record {
  apart = λ i j d less inside. absurd (omega arith);
  revoked = λ k d less. absurd (omega arith);
  dated = λ k d less. absurd (omega arith);
}

first-taken : (configs : List Settings) (cut : List ℕ) → AreFirstConfigs configs → IsFirstCut cut → AreTakenIn configs cut
first-taken configs cut first none = λ desk config at.
    let inside : desk < length configs = slice_get_within configs desk config at in
    let empty : slice_get configs desk ≡ Some (empty_settings desk) = first.empty desk (omega (arith, inside, first.one_each)) in
    let same : Some config ≡ Some (empty_settings desk) = sym at ∙ empty in
    let zero_here : get_or cut desk 0 ≡ 0 = none.none desk 0 (omega (arith, inside, first.one_each, none.one_each)) in
    record {
      commands = [];
      taken = tt;
      is = cc;
      counted = sym zero_here;
    }

pub new-requires-9 : goal.new-requires-9
new-requires-9 c =
    let configs = settings_of c.new-7.result in
    let same : configs ≡ settings_of c.in_ok-configs.configs.items = ap settings_of c.new-7.ensures in
    let here : settings_of c.deref.result.now ≡ configs = ap settings_of c.deref.ensures.value ∙ sym same in
    let there : settings_of c.deref-2.result.now ≡ configs = ap settings_of c.deref-2.ensures.value ∙ sym same in
    let rows : c.new-3.result ≡ [] = c.new-3.ensures ∙ c.new-2.ensures.items in
    let issued : c.new-5.result ≡ [] = c.new-5.ensures ∙ c.new-4.ensures.items in
    let empty : AreFirstConfigs configs = subst AreFirstConfigs (sym same) c.in_ok-configs.ensures in
    let none : IsFirstCut c.new.result = subst IsFirstCut (sym c.new.ensures) c.in_ok-first_cut.ensures in
    record {
      taken = first-taken configs c.new.result empty none;
      cut = ap length c.new.ensures ∙ c.in_ok-first_cut.ensures.one_each;
      configs = ap length same ∙ c.in_ok-configs.ensures.one_each;
      certified = subst (λ (s : List Settings). AreCertified s c.in_ok-tree.tree.sets.items) here c.in_ok-tree.ensures;
      owes = subst (λ (l : List Owed). AreOwed configs l) (sym c.new-8.ensures) (subst (λ (s : List Settings). AreOwed s c.in_ok-owed.owed.items) there c.in_ok-owed.ensures);
      live = subst (AreLive 0) (sym rows) (live-none 0);
      rising = subst (λ (l : List IssuedRow). Rise (λ (row : IssuedRow). row.uri) l) (sym issued) (rise-nil (λ (row : IssuedRow). row.uri));
    }
