use Rattle.editions.proofs.MakingLemmas.Tables.{goes-on}
use Rattle.editions.proofs.making_laws.the_table_goes_on.Goals as goal

pub returns : goal.returns
returns c = λ premises clock editions edition old new planned issued steps after.
    goes-on (record {
      after = c.editions_follow_one_another.ensures;
      noted = c.rows_note_what_is_superseded.ensures;
      needed = c.puts_and_withdrawals_are_needed.ensures;
      next = c.the_plans_keys_are_next.ensures;
      told = c.issued_entries_are_told.ensures;
      new = c.all_that_is_made_is_new.ensures;
      another = c.what_is_made_did_not_stand.ensures;
      stand = c.what_is_put_stands.ensures;
      counted = c.issued_rows_are_counted.ensures;
      wanted = c.wanted_uris_have_objects.ensures;
    }) premises clock editions edition old new steps planned issued after
