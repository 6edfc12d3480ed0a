use Rattle.std.proofs.Common.{◌≡◌, ℕ, ◌≤◌, List, length, sym, ap, ap₂, subst, ◌∙◌, arith}
use Rattle.authority_book.specs.Settings.{Settings}
use Rattle.entitle.specs.Certified.{settings_of}
use Rattle.editions.specs.Edition.{cut_at}
use Rattle.editions.specs.PublishedState.{PublishedStateValue, AreTakenIn}
use Rattle.editions.specs.Gathering.{configs_with, cut_with}
use Rattle.press_core.proofs.Taking.{configs-long, cut-long, cut-grown}
use Rattle.press_core.proofs.setup.set_up.Goals as goal

pub returns-clause-set_up : goal.returns-clause-set_up
returns-clause-set_up c = λ site ring clock is.
    let at = c.args.at.now in
    let gathered = c.args.gathered.items in
    let same = c.parts-parts.ensures.parts in
    let kept = c.parts-parts.ensures.kept in
    let cut : c.in_ok-cut.cut.items ≡ cut_with at.cut gathered =
    c.in_ok-cut.ensures ∙ ap₂ cut_with (c.as_slice.ensures ∙ ap (λ (v : PublishedStateValue). v.cut) same) c.deref.ensures.value in
    let configs : settings_of c.in_ok-configs.configs.items ≡ configs_with at.configs gathered =
    c.in_ok-configs.ensures ∙ ap (λ (s : List Settings). configs_with s gathered) (ap settings_of c.as_slice-2.ensures ∙ ap (λ (v : PublishedStateValue). v.configs) same) in
    let taken = c.gathered_commands_are_taken_in.ensures at.configs at.cut gathered (kept.configs ∙ sym kept.cut) kept.taken c.requires.accepted in
    record {
      moment = is;
      cut = cut;
      configs = configs;
      later = omega (arith, is);
      cut_desks = ap length cut ∙ (cut-long 0 at.cut gathered ∙ kept.cut);
      config_desks = ap length configs ∙ (configs-long 0 at.configs gathered ∙ kept.configs);
      taken = subst (λ (s : List Settings). AreTakenIn s c.in_ok-cut.cut.items) (sym configs) (subst (AreTakenIn (configs_with at.configs gathered)) (sym cut) taken);
      grown = λ desk. subst (λ (n : List ℕ). cut_at at.cut desk ≤ cut_at n desk) (sym cut) (cut-grown 0 at.cut gathered desk);
    }
