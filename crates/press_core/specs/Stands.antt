-- What a published state is left by, and what it stands for: editions, over the commands of the
-- desks.
use Rattle.std.specs.Prelude.{◌≡◌, ℕ, ◌≤◌, List, [], length, get_or}
use Rattle.authority_book.specs.declared.commands.Command.{Command}
use Rattle.pub_set.specs.Objects.{content_at}
use Rattle.editions.specs.Edition.{Edition, state_after, set_after, cut_at}
use Rattle.editions.specs.Table.{IsTable}
use Rattle.editions.specs.Step.{Premises, AreSteps, configs_at}
use Rattle.editions.specs.PublishedState.{PublishedStateValue}

-- The published state is what these editions leave, whatever they are, and the configurations are
-- what those commands come to at the cut.
pub record IsLeftBy (lists : List (List Command)) (editions : List Edition)
    (published_state : PublishedStateValue)
    : Type 0 where
  pub serial : published_state.serial ≡ (state_after editions).serial
  pub moment : published_state.moment ≡ (state_after editions).moment
  pub cut : (desk : ℕ) → cut_at published_state.cut desk ≡ cut_at (state_after editions).cut desk
  pub rows : published_state.rows ≡ (state_after editions).rows
  pub set : (uri : List ℕ) → content_at published_state.set uri ≡ set_after editions uri
  -- a list for each desk, of which no more is taken in than there is
  pub desks : length lists ≡ length published_state.cut
  pub taken_in : (desk : ℕ) → cut_at published_state.cut desk ≤ length (get_or lists desk [])
  pub configs : published_state.configs ≡ configs_at lists published_state.cut

-- And each of the editions follows the ones before it, and the table tells what stands.
pub record StandsFor (premises : Premises) (editions : List Edition)
    (published_state : PublishedStateValue)
    : Type 0 where
  pub left : IsLeftBy premises.lists editions published_state
  pub steps : AreSteps premises editions
  pub table : IsTable (set_after editions) published_state.issued
